-- What depends on the sizes and the segments of caches alone.
use Rattle.std.proofs.Common.{◌≡◌, ℕ, zero, suc, ◌+◌, List, [], ◌∷◌, get_or, set, length, Option, Some, None, option_map, refl, sym, ap, ◌∙◌, arith}
use Rattle.std.specs.Prelude.{sum_by}
use Rattle.std.proofs.lemmas.List.Sums.{sum_by-cons}
use Rattle.vm_ids.specs.declared.numbers.SegId.{SegId}
use Rattle.local_cache.specs.Arena.{Arena, Table, page_count}
use Rattle.local_cache.specs.Whole.{SameCaches}
use Rattle.vm_model.specs.Machine.{Cache}
use Rattle.vm_model.specs.PageForest.{PageForest}
use Rattle.pvm_core.specs.Manager.{caches_shown, live_in}
use Rattle.pvm_core.proofs.Meaning.Determined.{IsShaped}
use Rattle.pvm_core.proofs.Meaning.Shown.{length-pages}

abbrev size : Option Table → Option ℕ
size o = option_map (λ (t : Table). length t.pages) o

abbrev segment : Option Table → Option (Option SegId)
segment o = option_map (λ (t : Table). t.segment) o

same_count : (o p : Option Table) → size p ≡ size o → page_count p ≡ page_count o
same_count None None e = refl
same_count (Some t) (Some u) e = cc e
same_count None (Some u) e = absurd (cc e)
same_count (Some t) None e = absurd (cc e)

total : (ts us : List (Option Table)) → length us ≡ length ts → ((k : ℕ) → size (get_or us k None) ≡ size (get_or ts k None)) → sum_by page_count us ≡ sum_by page_count ts
total [] [] many each = refl
total (t ∷ ts) (u ∷ us) many each = omega (arith, sum_by-cons page_count t ts, sum_by-cons page_count u us, same_count t u (each 0), total ts us (omega (arith, many)) (λ k. each (suc k)))
total [] (u ∷ us) many each = absurd (omega (arith, many))
total (t ∷ ts) [] many each = absurd (omega (arith, many))

same_shape : (c : Option Cache) (o p : Option Table) → segment p ≡ segment o → size p ≡ size o → IsShaped c o → IsShaped c p
same_shape None None None seg sz h = tt
same_shape (Some c) (Some t) (Some u) seg sz h =
    let s : u.segment ≡ t.segment = cc seg in
    let n : length u.pages ≡ length t.pages = cc sz in
    (h.0 ∙ ap (option_map (λ (s : SegId). s.0)) (sym s), h.1 ∙ sym n)
same_shape None (Some t) p seg sz h = absurd h
same_shape (Some c) None p seg sz h = absurd h
same_shape None None (Some u) seg sz h = absurd (cc sz)
same_shape (Some c) (Some t) None seg sz h = absurd (cc sz)

-- the caches that a forest shows have their tables' shapes
pub shown_shaped : (f : PageForest) (first : ℕ) (ts : List (Option Table)) (k : ℕ) → IsShaped (get_or (caches_shown f first ts) k None) (get_or ts k None)
shown_shaped f first [] k = tt
shown_shaped f first (None ∷ ts) zero = tt
shown_shaped f first (Some t ∷ ts) zero = (refl, length-pages f first 0 (length t.pages))
shown_shaped f first (t ∷ ts) (suc k) = shown_shaped f (first + 1) ts k

-- one of each is replaced
pub set_shaped : (cs : List (Option Cache)) (ts : List (Option Table)) → length cs ≡ length ts → ((k : ℕ) → IsShaped (get_or cs k None) (get_or ts k None)) → (i : ℕ) (x : Option Cache) (y : Option Table) → IsShaped x y → (k : ℕ)
    → IsShaped (get_or (set cs i x) k None) (get_or (set ts i y) k None)
set_shaped [] [] many each i x y s k = tt
set_shaped (c ∷ cs) (t ∷ ts) many each zero x y s zero = s
set_shaped (c ∷ cs) (t ∷ ts) many each zero x y s (suc k) = each (suc k)
set_shaped (c ∷ cs) (t ∷ ts) many each (suc i) x y s zero = each 0
set_shaped (c ∷ cs) (t ∷ ts) many each (suc i) x y s (suc k) = set_shaped cs ts (omega (arith, many)) (λ k. each (suc k)) i x y s k
set_shaped [] (t ∷ ts) many each i x y s k = absurd (omega (arith, many))
set_shaped (c ∷ cs) [] many each i x y s k = absurd (omega (arith, many))

module _ (a b : Arena) (same : SameCaches a b) where
  size_at : (k : ℕ) → size (get_or b.caches k None) ≡ size (get_or a.caches k None)
  size_at k = same.sizes (suc k)

  segment_at : (k : ℕ) → segment (get_or b.caches k None) ≡ segment (get_or a.caches k None)
  segment_at k = same.segments (suc k)

  pub live_same : live_in b ≡ live_in a
  live_same = total a.caches b.caches same.count size_at

  pub shaped_same : (c : Option Cache) (k : ℕ) → IsShaped c (get_or a.caches k None) → IsShaped c (get_or b.caches k None)
  shaped_same c k = same_shape c (get_or a.caches k None) (get_or b.caches k None) (segment_at k) (size_at k)
