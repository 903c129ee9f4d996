-- No page of a new cache was granted.
use Rattle.std.proofs.Common.{◌≡◌, ℕ, zero, suc, Bool, false, List, [], ◌∷◌, ◌++◌, get_or, length, replicate, Option, Some, None, unwrap_or, refl, ap, ◌∙◌, arith}
use Rattle.std.specs.Prelude.{option_and_then, slice_get}
use Rattle.vm_ids.specs.declared.numbers.CacheId.{CacheId}
use Rattle.vm_ids.specs.declared.numbers.NodeId.{NodeId}
use Rattle.vm_ids.specs.declared.numbers.SegId.{SegId}
use Rattle.local_cache.specs.declared.own_state.OwnState.{OwnState}
use Rattle.local_cache.specs.Arena.{Arena, IsMade, Table, is_granted, new_table, table_at}

abbrev grant_in : ℕ → Option Table → Bool
grant_in page o = unwrap_or (option_and_then (λ (t : Table). slice_get t.grants page) o) false

none_granted : (n page : ℕ) → unwrap_or (slice_get (replicate n false) page) false ≡ false
none_granted zero page = refl
none_granted (suc n) zero = refl
none_granted (suc n) (suc page) = none_granted n page

at_end : (t : Option Table) (ts : List (Option Table)) → get_or (ts ++ t ∷ []) (length ts) None ≡ t
at_end t [] = refl
at_end t (x ∷ ts) = at_end t ts

pub ungranted : (a b : Arena) (cache : CacheId) (segment : Option SegId) (own : OwnState) (nodes : List NodeId) → IsMade a b cache segment own nodes → (page : ℕ) → is_granted b cache.0 page ≡ false
ungranted a b cache segment own nodes made page =
    let number : cache.0 ≡ suc (length a.caches) = omega (arith, made.number) in
    ap (λ (ts : List (Option Table)). grant_in page (table_at ts cache.0)) made.caches
    ∙ ap (λ (k : ℕ). grant_in page (table_at (a.caches ++ Some (new_table segment nodes) ∷ []) k)) number
    ∙ ap (grant_in page) (at_end (Some (new_table segment nodes)) a.caches) ∙ none_granted (length nodes) page
