-- The pages of segments that are pushed have all their bytes.
use Rattle.std.proofs.Common.{◌≡◌, ℕ, Bool, true, false, cond, List, [], ◌∷◌, length, Option, Some, None, is_some, refl, sym, ap, ◌∙◌, subst, inl, inr}
use Rattle.std.specs.Prelude.{option_and_then, slice_get, slice_set, unwrap_or, IfSome, IsSome}
use Rattle.std.specs.Cmp.{nat_cmp_total}
use Rattle.std.specs.FinMap.{get, get-insert}
use Rattle.std.specs.List.{All, AllByRecursion}
use Rattle.std.proofs.lemmas.List.Elements.{All-get_or, All-head, All-nil, All-set, All-tail}
use Rattle.std.proofs.lemmas.Option.{get_or_from_slice_get, slice_get_within}
use Rattle.vm_ids.specs.Held.{Held, Segments, put_segment_page, segments_in, segments_of}
use Rattle.local_cache.specs.Arena.{Arena}
use Rattle.local_cache.specs.Whole.{segment_of}
use Rattle.local_cache.proofs.Nodes.Numbers.{apart, tied}
use Rattle.vm_model.specs.Machine.{Cache, Machine, Page, cache_named, is_named_by}
use Rattle.vm_model.specs.Outcome.{HasWholePages, IsWhole}
use Rattle.vm_model.specs.Pushing.{MayPush, PushRule, page_named, segments_after}
use Rattle.pvm_core.specs.Manager.{AreFull, Manager, machine_of}
use Rattle.pvm_core.proofs.Answering.Reaching.{still_told}
use Rattle.pvm_core.proofs.Homes.Sized.{same_or_not}

at_place : {A : Type 0} (P : A → Type 0) (xs : List A) (i : ℕ) (x : A) → slice_get xs i ≡ Some x → All P xs → P x
at_place P xs i x e all = subst P (get_or_from_slice_get xs i x x e) (All-get_or P xs i x (slice_get_within xs i x e) all)

of_segment : (b : ℕ) (cs : List (Option Cache)) (seg : ℕ) (c : Cache) → cache_named cs seg ≡ Some c → All (IsWhole b) cs → All (λ (page : Page). length page ≡ b) c.pages
of_segment b [] seg c e all = absurd (cc e)
of_segment b (x ∷ cs) seg c e all = go (is_named_by seg x) refl (λ rest. of_segment b cs seg c rest (All-tail (IsWhole b) x cs all))
  where
    go : (named : Bool) → is_named_by seg x ≡ named → (cache_named cs seg ≡ Some c → All (λ (page : Page). length page ≡ b) c.pages) → All (λ (page : Page). length page ≡ b) c.pages
    go true is later = subst (IsWhole b) (sym (ap (λ (t : Bool). cond t x (cache_named cs seg)) is) ∙ e) (All-head (IsWhole b) x cs all)
    go false is later = later (sym (ap (λ (t : Bool). cond t x (cache_named cs seg)) is) ∙ e)

-- a page that is pushed has all its bytes
whole_named : (m : Machine) → HasWholePages m → (seg page : ℕ) (bytes : Page) → page_named m seg page ≡ Some bytes → length bytes ≡ m.page_bytes
whole_named m whole seg page bytes e = go (cache_named m.caches seg) refl e
  where
    go : (o : Option Cache) → cache_named m.caches seg ≡ o → option_and_then (λ (c : Cache). slice_get c.pages page) o ≡ Some bytes → length bytes ≡ m.page_bytes
    go None is e = absurd (cc e)
    go (Some c) is e = at_place (λ (page : Page). length page ≡ m.page_bytes) c.pages page bytes e (of_segment m.page_bytes m.caches seg c is whole)

module _ (b : ℕ) where
  -- each page of this segment has all its bytes
  abbrev IsFull : Segments → ℕ → Type 0
  IsFull s seg = IfSome (get s.pages seg) (All (λ (page : Page). length page ≡ b))

  full_set : (o : Option (List Page)) (page : ℕ) (bytes : Page) → length bytes ≡ b → IfSome o (All (λ (page : Page). length page ≡ b)) → All (λ (page : Page). length page ≡ b) (slice_set (unwrap_or o []) page bytes)
  full_set None page bytes e full = All-nil (λ (page : Page). length page ≡ b)
  full_set (Some ps) page bytes e full = All-set (λ (page : Page). length page ≡ b) ps page bytes e full

  full_put : (s : Segments) (seg page : ℕ) (bytes : Page) → length bytes ≡ b → (x : ℕ) → IsFull s x → IsFull (put_segment_page seg page bytes s) x
  full_put s seg page bytes e x full = subst (λ o. IfSome o (All (λ (page : Page). length page ≡ b))) (sym (get-insert nat_cmp_total s.pages seg (slice_set (unwrap_or (get s.pages seg) []) page bytes) x)) (elim (same_or_not x seg) [
    | inl q ↦ subst (λ (t : Bool). IfSome (cond t (Some (slice_set (unwrap_or (get s.pages seg) []) page bytes)) (get s.pages x)) (All (λ (page : Page). length page ≡ b))) (sym (tied x seg q))
        (full_set (get s.pages seg) page bytes e (subst (IsFull s) q full))
    | inr ne ↦ subst (λ (t : Bool). IfSome (cond t (Some (slice_set (unwrap_or (get s.pages seg) []) page bytes)) (get s.pages x)) (All (λ (page : Page). length page ≡ b))) (sym (apart x seg ne)) full
  ])

  full_pushed : (m : Machine) → m.page_bytes ≡ b → HasWholePages m → (before : Segments) (ps : List (ℕ × ℕ)) → AllByRecursion (MayPush m (Some before)) ps → (s : Segments) (x : ℕ) → IsFull s x → IfSome (segments_after m ps (Some s)) (λ t. IsFull t x)
  full_pushed m size whole before [] may s x full = full
  full_pushed m size whole before (p ∷ ps) may s x full =
      let bytes = unwrap_or (page_named m p.0 p.1) [] in
      full_pushed m size whole before ps may.1 (put_segment_page p.0 p.1 bytes s) x (full_put s p.0 p.1 bytes (by_page (page_named m p.0 p.1) refl may.0.0) x full)
    where
      by_page : (o : Option Page) → page_named m p.0 p.1 ≡ o → IsSome o → length (unwrap_or o []) ≡ b
      by_page None e some = absurd (cc some)
      by_page (Some page) e some = whole_named m whole p.0 p.1 page e ∙ size

-- the pages of segments have all their bytes still
pub full_after : (p : Manager) (a : Arena) (h g : Option Held) → ((cache : ℕ) → segment_of a cache ≡ segment_of p.caches cache)
    → (ps : List (ℕ × ℕ)) → PushRule (machine_of p h) (segments_of h) ps (segments_of g) → IfSome h (λ _. HasWholePages (machine_of p h)) → AreFull p.caches p.page_bytes h → AreFull a p.page_bytes g
full_after p a h None segments ps rule whole full cache segment of = tt
full_after p a None (Some g) segments ps rule whole full cache segment of = absurd (let e = ap is_some rule.pushed ∙ still_told (machine_of p None) ps None in cc e)
full_after p a (Some h) (Some g) segments ps rule whole full cache segment of =
    subst (λ (o : Option Segments). IfSome o (λ t. IsFull p.page_bytes t segment.0)) (sym rule.pushed)
    (full_pushed p.page_bytes (machine_of p (Some h)) refl whole (segments_in h) ps rule.may (segments_in h) segment.0 (full cache segment (sym (segments cache) ∙ of)))

pub full_same : (a b : Arena) (page_bytes : ℕ) (h : Option Held) → ((cache : ℕ) → segment_of b cache ≡ segment_of a cache) → AreFull a page_bytes h → AreFull b page_bytes h
full_same a b page_bytes None segments full cache segment of = tt
full_same a b page_bytes (Some h) segments full cache segment of = full cache segment (sym (segments cache) ∙ of)
