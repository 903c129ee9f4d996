-- Regions in order of start address.
use Rattle.std.proofs.Common.{◌≡◌, ℕ, ◌+◌, ◌<◌, Bool, true, false, cond, List, [], ◌∷◌, ◌++◌, length, take, drop, get_or, map, sym, ap, ◌∙◌, arith}
use Rattle.std.specs.Prelude.{nat_lt, insert}
use Rattle.std.proofs.lemmas.List.{append_assoc, map_push, map-append, take_more, drop_more, drop_all}
use Rattle.vm_model.specs.Machine as model
use Rattle.vm_model.specs.Answering.{insert_region}
use Rattle.vm_model.specs.Seen.{region_seen}
use Rattle.vm_model.specs.declared.tables.Region.{Region}

step : (b : Bool) (r x : model.Region) (xs : model.Actor) → b ≡ false → cond b (r ∷ x ∷ xs) (x ∷ insert_region r xs) ≡ x ∷ insert_region r xs
step b r x xs e = ap (λ (c : Bool). cond c (r ∷ x ∷ xs) (x ∷ insert_region r xs)) e

stop : (b : Bool) (r x : model.Region) (xs : model.Actor) → b ≡ true → cond b (r ∷ x ∷ xs) (x ∷ insert_region r xs) ≡ r ∷ x ∷ xs
stop b r x xs e = ap (λ (c : Bool). cond c (r ∷ x ∷ xs) (x ∷ insert_region r xs)) e

-- the front has no greater start: the new region goes behind it
abbrev pub GoesBehind : Region → List Region → ℕ → Type 0
GoesBehind r rs k = insert_region (region_seen r) (map region_seen rs) ≡ map region_seen (take k rs) ++ insert_region (region_seen r) (map region_seen (drop k rs))

from_here : (rs : List Region) (k : ℕ) (x : Region) → k < length rs → x ≡ get_or rs k x → drop k rs ≡ x ∷ drop (k + 1) rs
from_here rs k x below at = drop_more rs k x below ∙ ap (λ (y : Region). y ∷ drop (k + 1) rs) (sym at)

pub goes_on : (r x : Region) (rs : List Region) (k : ℕ) → k < length rs → x ≡ get_or rs k x → nat_lt r.start x.start ≡ false → GoesBehind r rs k → GoesBehind r rs (k + 1)
goes_on r x rs k below at e h =
    let front = map region_seen (take k rs) in
    let back = map region_seen (drop (k + 1) rs) in
    h
    ∙ ap (λ (ys : List Region). front ++ insert_region (region_seen r) (map region_seen ys)) (from_here rs k x below at)
    ∙ ap (λ (ys : model.Actor). front ++ ys) (step (nat_lt r.start x.start) (region_seen r) (region_seen x) back e)
    ∙ sym (append_assoc front (region_seen x ∷ []) (insert_region (region_seen r) back))
    ∙ ap (λ (ys : model.Actor). ys ++ insert_region (region_seen r) back)
    (sym (map_push region_seen (take k rs) x) ∙ ap (map region_seen) (sym (take_more rs k x below ∙ ap (λ (y : Region). take k rs ++ y ∷ []) (sym at))))

pub goes_here : (r x : Region) (rs : List Region) (k : ℕ) → k < length rs → x ≡ get_or rs k x → nat_lt r.start x.start ≡ true → GoesBehind r rs k → insert_region (region_seen r) (map region_seen rs) ≡ map region_seen (insert rs k r)
goes_here r x rs k below at e h =
    let front = map region_seen (take k rs) in
    h
    ∙ ap (λ (ys : List Region). front ++ insert_region (region_seen r) (map region_seen ys)) (from_here rs k x below at)
    ∙ ap (λ (ys : model.Actor). front ++ ys) (stop (nat_lt r.start x.start) (region_seen r) (region_seen x) (map region_seen (drop (k + 1) rs)) e)
    ∙ ap (λ (ys : List Region). front ++ region_seen r ∷ map region_seen ys) (sym (from_here rs k x below at))
    ∙ sym (map-append region_seen (take k rs) (r ∷ drop k rs))

pub goes_last : (r : Region) (rs : List Region) → GoesBehind r rs (length rs) → insert_region (region_seen r) (map region_seen rs) ≡ map region_seen (insert rs (length rs) r)
goes_last r rs h =
    h
    ∙ ap (λ (ys : List Region). map region_seen (take (length rs) rs) ++ insert_region (region_seen r) (map region_seen ys)) (drop_all (length rs) rs (omega arith))
    ∙ ap (λ (ys : List Region). map region_seen (take (length rs) rs) ++ region_seen r ∷ map region_seen ys) (sym (drop_all (length rs) rs (omega arith)))
    ∙ sym (map-append region_seen (take (length rs) rs) (r ∷ drop (length rs) rs))
