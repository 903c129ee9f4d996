-- A run, and more events behind it.
use Rattle.std.proofs.Common.{◌≡◌, ◌+◌, ◌-◌, ℕ, zero, suc, List, [], ◌∷◌, ◌++◌, drop, length, map, Option, None, Some, refl, sym, ap, subst, ◌∙◌, append_assoc, arith}
use Rattle.std.specs.Prelude.{remove, slice_get}
use Rattle.std.proofs.lemmas.List.{length-append, length-map}
use Rattle.vm_ids.specs.Dispatching.{GivesTurns}
use Rattle.vm_model.specs.Events.{Event, IsParted, Leads, Stand, steps_of}
use Rattle.vm_model.specs.Events.Event.{line, park, pause, delivery}
use Rattle.vm_model.specs.Events.IsParted.{ended, taken, left}
use Rattle.vm_model.specs.Steps.{Semantics, line_answered}
use Rattle.vm_model.specs.Turns.{turns_of}

pub leads_then : (S : Semantics) (reads : List S.Read) (a : Stand S) (xs : List (Event S.Read)) (b : Stand S) (ys : List (Event S.Read)) (c : Stand S) → Leads S reads a xs b → Leads S reads b ys c → Leads S reads a (xs ++ ys) c
leads_then S reads a [] b ys c p q = subst (λ (s : Stand S). Leads S reads s ys c) p q
leads_then S reads a (x ∷ xs) b ys c p q = (p.0, p.1, leads_then S reads p.0 xs b ys c p.2 q)

pub steps_of-append : {R : Type 0} (xs ys : List (Event R)) → steps_of (xs ++ ys) ≡ steps_of xs ++ steps_of ys
steps_of-append [] ys = refl
steps_of-append (line step ∷ xs) ys = ap (λ zs. step ∷ zs) (steps_of-append xs ys)
steps_of-append (park number read ∷ xs) ys = steps_of-append xs ys
steps_of-append (pause ∷ xs) ys = steps_of-append xs ys
steps_of-append (delivery turn place first others ∷ xs) ys =
    ap (λ zs. first ∷ (others ++ zs)) (steps_of-append xs ys) ∙ sym (append_assoc (first ∷ others) (steps_of xs) (steps_of ys))

-- some of a list taken, and one more behind it

pub parted_none : {A : Type 0} (xs : List A) → IsParted xs [] xs
parted_none [] = ended
parted_none (x ∷ xs) = left (parted_none xs)

pub parted_push_taken : {A : Type 0} {xs ts ls : List A} (x : A) → IsParted xs ts ls → IsParted (xs ++ x ∷ []) (ts ++ x ∷ []) ls
parted_push_taken x ended = taken ended
parted_push_taken x (taken p) = taken (parted_push_taken x p)
parted_push_taken x (left p) = left (parted_push_taken x p)

pub parted_push_left : {A : Type 0} {xs ts ls : List A} (x : A) → IsParted xs ts ls → IsParted (xs ++ x ∷ []) ts (ls ++ x ∷ [])
parted_push_left x ended = left ended
parted_push_left x (taken p) = taken (parted_push_left x p)
parted_push_left x (left p) = left (parted_push_left x p)

-- the others all left
pub parted_rest : {A : Type 0} {xs ts ls : List A} (ys : List A) → IsParted xs ts ls → IsParted (xs ++ ys) ts (ls ++ ys)
parted_rest ys ended = parted_none ys
parted_rest ys (taken p) = taken (parted_rest ys p)
parted_rest ys (left p) = left (parted_rest ys p)

pub parted_length : {A : Type 0} {xs ts ls : List A} → IsParted xs ts ls → length xs ≡ length ts + length ls
parted_length ended = refl
parted_length (taken p) = let n = parted_length p in omega (arith, n)
parted_length (left p) = let n = parted_length p in omega (arith, n)

-- turns

pub gives_then : (told : List (Option ℕ)) (xs : List (ℕ × Option ℕ)) (between : List (Option ℕ)) (ys : List (ℕ × Option ℕ)) (last : List (Option ℕ)) → GivesTurns told xs between → GivesTurns between ys last → GivesTurns told (xs ++ ys) last
gives_then told [] between ys last p q = subst (λ (t : List (Option ℕ)). GivesTurns t ys last) p q
gives_then told (x ∷ xs) between ys last p q = (p.0, gives_then (drop 1 told) xs between ys last p.1 q)

-- how many are parked behind some events
abbrev pub parked_after : {R : Type 0} → ℕ → List (Event R) → ℕ
parked_after parked [] = parked
parked_after parked (line step ∷ events) = parked_after parked events
parked_after parked (park number read ∷ events) = parked_after (parked + 1) events
parked_after parked (pause ∷ events) = parked_after parked events
parked_after parked (delivery turn place first others ∷ events) =
    parked_after (parked - (length others + 1)) events

pub turns_of-append : {R : Type 0} (parked : ℕ) (xs ys : List (Event R)) → turns_of parked (xs ++ ys) ≡ turns_of parked xs ++ turns_of (parked_after parked xs) ys
turns_of-append parked [] ys = refl
turns_of-append parked (line step ∷ xs) ys = turns_of-append parked xs ys
turns_of-append parked (park number read ∷ xs) ys = turns_of-append (parked + 1) xs ys
turns_of-append parked (pause ∷ xs) ys = ap (λ zs. (parked, None) ∷ zs) (turns_of-append parked xs ys)
turns_of-append parked (delivery turn place first others ∷ xs) ys = ap (λ zs. (parked, turn) ∷ zs) (turns_of-append (parked - (length others + 1)) xs ys)

-- one taken out
taken_length : {A : Type 0} (xs : List A) (place : ℕ) (x : A) → slice_get xs place ≡ Some x → length xs ≡ length (remove xs place) + 1
taken_length [] place x e = absurd (cc e)
taken_length (y ∷ ys) zero x e = omega arith
taken_length (y ∷ ys) (suc place) x e = let n = taken_length ys place x e in omega (arith, n)

pub parked_along : (S : Semantics) (reads : List S.Read) (a : Stand S) (events : List (Event S.Read)) (b : Stand S) → Leads S reads a events b → parked_after (length a.parked) events ≡ length b.parked
parked_along S reads a [] b h = ap (λ (s : Stand S). length s.parked) (sym h)
parked_along S reads a (line step ∷ events) b h =
    let same : length h.0.parked ≡ length a.parked = ap (λ (s : Stand S). length s.parked) h.1.leaves in
    ap (λ (n : ℕ). parked_after n events) (sym same) ∙ parked_along S reads h.0 events b h.2
parked_along S reads a (park number read ∷ events) b h =
    let same : length h.0.parked ≡ length a.parked + 1 = ap (λ (s : Stand S). length s.parked) h.1.leaves ∙ length-append a.parked ((number, read) ∷ []) in
    ap (λ (n : ℕ). parked_after n events) (sym same) ∙ parked_along S reads h.0 events b h.2
parked_along S reads a (pause ∷ events) b h =
    let same : length h.0.parked ≡ length a.parked = ap (λ (s : Stand S). length s.parked) h.1.leaves in
    ap (λ (n : ℕ). parked_after n events) (sym same) ∙ parked_along S reads h.0 events b h.2
parked_along S reads a (delivery turn place first others ∷ events) b h =
    let d = h.1 in
    let all = taken_length a.parked place (line_answered first) d.first_is in
    let parts = parted_length d.others_are in
    let count : length (map line_answered others) ≡ length others = length-map others line_answered in
    let same : length a.parked - (length others + 1) ≡ length h.0.parked = omega (arith, all, parts, count) in
    ap (λ (n : ℕ). parked_after n events) same ∙ parked_along S reads h.0 events b h.2
