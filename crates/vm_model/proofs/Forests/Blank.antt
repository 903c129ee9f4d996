-- The same without bytes.
use Rattle.std.proofs.Common.{◌≡◌, ℕ, zero, suc, ◌+◌, ◌-◌, List, [], ◌∷◌, ◌++◌, length, set, take, drop, map, replicate, Option, Some, None, refl, sym, ap, ◌∙◌}
use Rattle.std.specs.Prelude.{option_map}
use Rattle.std.proofs.lemmas.List.{take-map, drop-map, map-set, map_push, map-append, length-map}
use Rattle.vm_model.specs.Machine.{Machine, Cache, Page, cache_of}
use Rattle.vm_model.specs.Answering.{overwrite, put_cache, put_pages}
use Rattle.vm_model.specs.Outcome.{blank, blank_cache}
use Rattle.vm_model.proofs.Parts.Lists.{numbered-map}

abbrev pub no_bytes : Page → Page
no_bytes p = []

pub blank_there : (m : Machine) (n : ℕ) (c : Cache) → cache_of m n ≡ Some c → cache_of (blank m) n ≡ Some (blank_cache c)
blank_there m n c there = numbered-map blank_cache m.caches n ∙ ap (option_map blank_cache) there

map_overwrite : {A B : Type 0} (f : A → B) (at : ℕ) (part whole : List A) → overwrite at (map f part) (map f whole) ≡ map f (overwrite at part whole)
map_overwrite {A} {B} f at part whole =
    ap (λ (xs : List B). (xs ++ map f part) ++ drop (at + length (map f part)) (map f whole)) (take-map f at whole)
    ∙ ap (λ (n : ℕ). (map f (take at whole) ++ map f part) ++ drop (at + n) (map f whole)) (length-map part f)
    ∙ ap (λ (xs : List B). (map f (take at whole) ++ map f part) ++ xs) (drop-map f (at + length part) whole)
    ∙ sym (map-append f (take at whole ++ part) (drop (at + length part) whole) ∙ ap (λ (xs : List B). xs ++ map f (drop (at + length part) whole)) (map-append f (take at whole) part))

pub blank_part : (first pages : ℕ) (c : Cache) → take pages (drop first (blank_cache c).pages) ≡ map no_bytes (take pages (drop first c.pages))
blank_part first pages c = ap (take pages) (drop-map no_bytes first c.pages) ∙ take-map no_bytes pages (drop first c.pages)

pub blank_pages : (first : ℕ) (part : List Page) (c : Cache) → put_pages first (map no_bytes part) (blank_cache c) ≡ blank_cache (put_pages first part c)
blank_pages first part c = ap (λ (ps : List Page). record c { pages = ps }) (map_overwrite no_bytes first part c.pages)

pub blank_put : (m : Machine) (n : ℕ) (c : Cache) → put_cache (blank m) n (blank_cache c) ≡ blank (put_cache m n c)
blank_put m n c = ap (λ (cs : List (Option Cache)). record (blank m) { caches = cs }) (sym (map-set (option_map blank_cache) m.caches (n - 1) (Some c)))

pub blank_gone : (m : Machine) (n : ℕ) → record (blank m) { caches = set (blank m).caches (n - 1) None } ≡ blank (record m { caches = set m.caches (n - 1) None })
blank_gone m n = ap (λ (cs : List (Option Cache)). record (blank m) { caches = cs }) (sym (map-set (option_map blank_cache) m.caches (n - 1) None))

pub blank_more : (m : Machine) (c : Cache) → record (blank m) { caches = (blank m).caches ++ Some (blank_cache c) ∷ [] } ≡ blank (record m { caches = m.caches ++ Some c ∷ [] })
blank_more m c = ap (λ (cs : List (Option Cache)). record (blank m) { caches = cs }) (sym (map_push (option_map blank_cache) m.caches (Some c)))

pub blank_replicate : (n : ℕ) (p : Page) → replicate n [] ≡ map no_bytes (replicate n p)
blank_replicate zero p = refl
blank_replicate (suc n) p = ap (λ (ps : List Page). [] ∷ ps) (blank_replicate n p)
