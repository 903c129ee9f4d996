-- A machine that a forest agrees with has the caches that the forest shows.
use Rattle.std.proofs.Common.{◌≡◌, ℕ, zero, suc, ◌+◌, ◌-◌, ◌<◌, ◌==◌, Bool, false, cond, List, [], ◌∷◌, length, get_or, Option, Some, None, refl, ap, ◌∙◌, arith}
use Rattle.std.specs.Prelude.{option_map, option_and_then, slice_get}
use Rattle.std.proofs.lemmas.Bool.Decides.{nat_tests}
use Rattle.local_cache.specs.Arena.{Table}
use Rattle.vm_model.specs.Machine.{Cache, Machine, Page, numbered}
use Rattle.vm_model.specs.PageForest.{PageForest, told}
use Rattle.vm_model.specs.Laws.{IsFollowed}
use Rattle.pvm_core.specs.Manager.{caches_shown, shown}
use Rattle.pvm_core.proofs.Meaning.Shown.{Matches, caches_are, id_of}

-- a cache is of its table's segment and has as many pages
abbrev pub IsShaped : Option Cache → Option Table → Type 0
IsShaped None None = Unit {0}
IsShaped (Some c) (Some t) = (c.segment ≡ option_map (λ s. s.0) t.segment) × (length c.pages ≡ length t.pages)
IsShaped c t = ⊥

shown_told : (p : Page) → shown (Some (told p)) ≡ p
shown_told [] = refl
shown_told (b ∷ bs) = refl

pub get_numbered : {A : Type 0} (xs : List (Option A)) (k : ℕ) → option_and_then (λ x. x) (slice_get xs k) ≡ get_or xs k None
get_numbered [] k = refl
get_numbered (x ∷ xs) zero = refl
get_numbered (x ∷ xs) (suc k) = get_numbered xs k

nonzero : (k : ℕ) → (1 + k == 0) ≡ false
nonzero k = grind (arith, nat_tests)

at_number : {A : Type 0} (xs : List (Option A)) (k : ℕ) → numbered xs (1 + k) ≡ get_or xs k None
at_number {A} xs k = ap (λ (b : Bool). cond b None (option_and_then (λ (x : Option A). x) (slice_get xs (1 + k - 1)))) (nonzero k) ∙ ap (λ (i : ℕ). option_and_then (λ (x : Option A). x) (slice_get xs i)) (let e : 1 + k - 1 ≡ k = omega arith in e) ∙ get_numbered xs k

module _ (m : Machine) (f : PageForest) (F : IsFollowed m f) (ts : List (Option Table)) (many : length m.caches ≡ length ts) (shapes : (k : ℕ) → k < length ts → IsShaped (get_or m.caches k None) (get_or ts k None)) where
  matches : (k : ℕ) (c : Option Cache) (t : Option Table) → get_or m.caches k None ≡ c → IsShaped c t → Matches f (1 + k) c t
  matches k None None e s = tt
  matches k (Some c) (Some t) e s = (
    s.0,
    s.1,
    λ i p at.
        ap shown (F.agrees.values (id_of (1 + k)) i ∙ ap (λ (o : Option Cache). option_map told (option_and_then (λ (c : Cache). slice_get c.pages i) o)) (at_number m.caches k ∙ e) ∙ ap (option_map told) at) ∙ shown_told p,
  )
  matches k None (Some t) e s = absurd s
  matches k (Some c) None e s = absurd s

  pub followed_is : caches_shown f 1 ts ≡ m.caches
  followed_is = caches_are f 1 m.caches ts many (λ k less. matches k (get_or m.caches k None) (get_or ts k None) refl (shapes k less))
