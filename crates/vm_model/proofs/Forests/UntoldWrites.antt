-- Without bytes the forest follows a write of bytes.
use Rattle.std.proofs.Common.{◌≡◌, ℕ, ◌-◌, ◌≤◌, true, false, List, [], set, map, Option, Some, None, refl, sym, ap, ◌∙◌, arith, inl, inr}
use Rattle.std.specs.Prelude.{◌||◌, nat_lt, option_map, option_and_then, slice_get}
use Rattle.std.proofs.lemmas.Bool.{cases_eq}
use Rattle.std.proofs.lemmas.Bool.Decides.{nat_tests}
use Rattle.std.proofs.lemmas.Option.{get_or_from_slice_get, slice_get-map}
use Rattle.std.proofs.Math.Seq.{map-set_same}
use Rattle.vm_ids.specs.Forest.Nodes.{IsNode}
use Rattle.vm_ids.specs.Forest.Reading.{value_of}
use Rattle.vm_ids.specs.Forest.Rules.{write}
use Rattle.vm_ids.specs.Forest.Commands.{page_name}
use Rattle.vm_ids.proofs.Forest.Laws.Writing.{write_keeps_consistency, write_changes_its_node, write_keeps_other_values}
use Rattle.vm_model.specs.Machine.{Machine, Cache, Page, cache_of}
use Rattle.vm_model.specs.PageForest.{PageForest, told, page_in}
use Rattle.vm_model.specs.Answering.{put_cache, put_page}
use Rattle.vm_model.specs.Outcome.{blank, blank_cache}
use Rattle.vm_model.specs.Laws.{IsFollowed}
use Rattle.vm_model.proofs.Forests.Blank.{blank_there, no_bytes}
use Rattle.vm_model.proofs.Forests.CachesFollowed.{by_values, node_there, number_of, of_number, same_page}
use Rattle.vm_model.proofs.Parts.Lists.{numbered_place}
use Rattle.vm_model.proofs.Forests.Plain.{id_of}

pub same_some : (c d : Cache) → ◌≡◌ {A = Option Cache} (Some c) (Some d) → c ≡ d
same_some c d e = cc

-- a write of bytes that aren't told
pub untold_write : (m : Machine) (f : PageForest) (n page : ℕ) (g : Page → Page) → page_in m n page ≡ Some [] → IsFollowed m f → IsFollowed m (write f (page_name (id_of n) page) (option_map g))
untold_write m f n page g here F =
    let x = page_name (id_of n) page in
    let change : Option Page → Option Page = option_map g in
    let is : IsNode f x = node_there m f F (id_of n) page [] here in
    by_values m (write f x change) (write_keeps_consistency f F.consistent x change is refl) (λ cache p. elim (cases_eq cache.0 n) [
      | inl e ↦
          ap (value_of (write f x change)) (of_number cache n p e)
          ∙ elim (cases_eq p page) [
            | inl q ↦
                ap (λ (k : ℕ). value_of (write f x change) (page_name (id_of n) k)) q
                ∙ write_changes_its_node f F.consistent.shaped x change is refl
                ∙ ap (option_map change) (F.agrees.values (id_of n) page ∙ ap (option_map told) here)
                ∙ sym (ap (λ (k : ℕ). option_map told (page_in m n k)) q ∙ ap (option_map told) here)
            | inr d ↦
                write_keeps_other_values f F.consistent.shaped x change is refl (page_name (id_of n) p) (λ q. d (same_page (id_of n) (id_of n) p page q))
                ∙ F.agrees.values (id_of n) p
          ]
          ∙ ap (λ (k : ℕ). option_map told (page_in m k p)) (sym e)
      | inr d ↦
          write_keeps_other_values f F.consistent.shaped x change is refl (page_name cache p) (λ q. d (ap number_of q))
          ∙ F.agrees.values cache p
    ])

-- bytes that are written leave the machine without bytes
pub blank_written : (w : Machine) (n page : ℕ) (c : Cache) (p new : Page) → cache_of w n ≡ Some c → slice_get c.pages page ≡ Some p → blank (put_cache w n (put_page page new c)) ≡ blank w
blank_written w n page c p new there has =
    let pages : map no_bytes (set c.pages page new) ≡ map no_bytes c.pages = map-set_same no_bytes c.pages page new [] refl in
    let same : option_map blank_cache (Some (put_page page new c)) ≡ Some (blank_cache c) = ap (λ (ps : List Page). Some (record c { pages = ps })) pages in
    let found = get_or_from_slice_get w.caches (n - 1) (Some c) None (numbered_place w.caches n c there).1 in
    ap (λ (cs : List (Option Cache)). record (blank w) { caches = cs }) (map-set_same (option_map blank_cache) w.caches (n - 1) (Some (put_page page new c)) None (same ∙ sym (ap (option_map blank_cache) found)))

pub blank_page : (w : Machine) (n page : ℕ) (c : Cache) (p : Page) → cache_of w n ≡ Some c → slice_get c.pages page ≡ Some p → page_in (blank w) n page ≡ Some []
blank_page w n page c p there has =
    ap (option_and_then (λ (c : Cache). slice_get c.pages page)) (blank_there w n c there)
    ∙ slice_get-map no_bytes c.pages page ∙ ap (option_map no_bytes) has
