-- A new store is right.
use Rattle.std.proofs.Common.{◌≡◌, ℕ, ◌*◌, ◌≤◌, ◌^◌, ◌||◌, false, List, [], ◌∷◌, length, get_or, replicate, Option, None, unwrap_or, refl, sym, ap, ◌∙◌, arith}
use Rattle.std.specs.Prelude.{is_some, IfSome}
use Rattle.std.specs.List.{count_by}
use Rattle.std.specs.Ordering.{nat_cmp}
use Rattle.std.specs.Cmp.{nat_cmp_total}
use Rattle.std.specs.FinMap.{nat_cmp-IsAntisymmetric, same_map, get-empty, len-empty, len-entries, values, entries}
use Rattle.std.specs.FinMap as ids
use Rattle.std.proofs.lemmas.List.{length-map, length-replicate}
use Rattle.vm_ids.specs.Held.{Held}
use Rattle.vm_ids.specs.declared.numbers.NodeId.{NodeId}
use Rattle.vm_ids.proofs.Places.{bit, count-replicate_none, same_all}
use Rattle.global_map.specs.Pairs.{is_node}
use Rattle.local_cache.specs.declared.own_state.OwnState.{OwnState}
use Rattle.local_cache.specs.declared.own_state.OwnState.TheVariants.{Absent}
use Rattle.local_cache.specs.Arena.{Arena, Cell, blank, cell}
use Rattle.local_cache.specs.Home.{home_named, home_of}
use Rattle.local_cache.specs.Own.{is_in_slot, is_resident, is_slot, own_of, own_states}
use Rattle.residency.specs.World.{HasNoNodes, IsStoreRight, is_clean}

none_held : (n f : ℕ) → get_or (replicate n false) f false ≡ (is_some (get_or (replicate {A = Option NodeId} n None) f None) || get_or (replicate n false) f false)
none_held n f = ap (λ (o : Option NodeId). is_some o || get_or (replicate n false) f false) (sym (same_all n None f))

absent : (a : Arena) → HasNoNodes a → (n : NodeId) → own_of a n ≡ Absent
unfolding cell
absent a none n = ap (λ (o : Option Cell). (unwrap_or o blank).own) (none n)

pub homeless : (a : Arena) → HasNoNodes a → (n : NodeId) → home_of a n ≡ None
unfolding cell
homeless a none n = ap (λ (o : Option Cell). home_named a.caches (unwrap_or o blank).name) (none n)

no_items : {X : Type 0} (xs : List X) → length xs ≡ 0 → xs ≡ []
no_items [] e = refl
no_items (x ∷ xs) e = absurd (omega arith)

pub no_states : (a : Arena) → HasNoNodes a → own_states a ≡ []
no_states a none =
    let nothing : a.cells ≡ ids.empty = same_map nat_cmp_total nat_cmp-IsAntisymmetric a.cells ids.empty (λ q. none (record { 0 = q }) ∙ sym (get-empty nat_cmp q)) in
    let few : length (entries a.cells) ≡ 0 = sym (len-entries a.cells) ∙ ap ids.len nothing ∙ len-empty nat_cmp Cell in
    no_items (own_states a) (length-map (values a.cells) (λ c. c.own) ∙ length-map (entries a.cells) (λ e. e.1) ∙ few)

pub new_right : (n page : ℕ) (told : Option Held) (size : Option ℕ) (a : Arena) → n ≤ 2 ^ 16 → HasNoNodes a → IfSome size (λ k. k ≡ page)
    → IsStoreRight (record { told = told; page_bytes = size; caches = a; frames = record { page = page; held = replicate n false; pinned = replicate n false; bytes = replicate n (replicate page 0) }; slots = []; map = replicate n None; marks = n; places = 4 * n })
new_right n page told size a few none fits =
    let states : own_states a ≡ [] = no_states a none in
    record {
      tied = record {
        placed = record {
          bound = λ m. count-replicate_none (is_node m.0) n None refl ∙ sym (ap (λ (x : OwnState). bit (is_resident x)) (absent a none m));
          held = none_held n;
          slots = λ s. ap (count_by (is_slot s)) states;
          in_slots = sym (ap (count_by is_in_slot) states);
        };
        backed = record {
          there = λ s h. absurd (cc);
          homes = λ m clean. absurd (let dirty : is_clean (own_of a m) ≡ false = ap is_clean (absent a none m) in cc);
          apart = λ m k home e q. absurd (let out = homeless a none m in cc);
          lies = λ m home e. absurd (let out = homeless a none m in cc);
          clean = λ m clean. absurd (let dirty : is_clean (own_of a m) ≡ false = ap is_clean (absent a none m) in cc);
        };
        fitted = record {
          map_frames = length-replicate n None ∙ sym (length-replicate n false);
          bytes_frames = length-replicate n (replicate page 0) ∙ sym (length-replicate n false);
          pinned_frames = refl;
          marks_frames = sym (length-replicate n false);
          places_frames = ap (λ (k : ℕ). 4 * k) (sym (length-replicate n false));
          few = omega (arith, length-replicate n false);
          page = fits;
        };
      };
      granted = record {
        granted = λ m home clean. absurd (let out : is_some (home_of a m) ≡ false = ap is_some (homeless a none m) in cc);
        allowed = λ m home e granted. absurd (let out = homeless a none m in cc);
      };
      capacity = omega (arith, ap (λ (xs : List OwnState). length xs) states);
    }
