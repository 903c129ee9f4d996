-- The lines of some bytes, and of more bytes.
use Rattle.std.proofs.Common.{◌≡◌, ◌≢◌, ◌==◌, ◌<◌, ℕ, zero, suc, Bool, true, false, cond, List, [], ◌∷◌, ◌++◌, length, get_or, map, refl, sym, ap, subst, ◌∙◌, append_assoc, arith}
use Rattle.std.specs.List.{onto_first}
use Rattle.std.proofs.lemmas.Bool.{eqb-true, eqb-false, ne_eqb}
use Rattle.std.proofs.lemmas.List.Splits.{slice_split_none}
use Rattle.std.proofs.lemmas.List.{append-nil, map-append}
use Rattle.line_service.specs.Script.{parts_of, all_but_last, last_part, ended_lines_of, unended_of, lines_of, unless_empty, reads_of, ended_reads_of, HasNoFeed, IsFront}

-- there is a part
data Some : List (List ℕ) → Type 0 where
  some : (part : List ℕ) (parts : List (List ℕ)) → Some (part ∷ parts)

-- a byte in front, which ends a part or doesn't
abbrev step : Bool → ℕ → List (List ℕ) → List (List ℕ)
step ends b parts = cond ends ([] ∷ parts) (onto_first b parts)

step_some : (ends : Bool) (b : ℕ) (parts : List (List ℕ)) → Some (step ends b parts)
step_some true b parts = some [] parts
step_some false b [] = some (b ∷ []) []
step_some false b (part ∷ parts) = some (b ∷ part) parts

parts_some : (bytes : List ℕ) → Some (parts_of bytes)
parts_some [] = some [] []
parts_some (b ∷ bs) = step_some (b == 10) b (parts_of bs)

-- a part more at the end
step_part : (ends : Bool) (b : ℕ) (parts : List (List ℕ)) → Some parts → step ends b (parts ++ [] ∷ []) ≡ step ends b parts ++ [] ∷ []
step_part true b parts h = refl
step_part false b [] h = elim h [ ]
step_part false b (part ∷ parts) h = refl

parts_feed : (bytes : List ℕ) → parts_of (bytes ++ 10 ∷ []) ≡ parts_of bytes ++ [] ∷ []
parts_feed [] = refl
parts_feed (b ∷ bs) = ap (step (b == 10) b) (parts_feed bs) ∙ step_part (b == 10) b (parts_of bs) (parts_some bs)

-- more bytes in the last part
abbrev longer : List ℕ → List (List ℕ) → List (List ℕ)
longer more parts = all_but_last parts ++ (last_part parts ++ more) ∷ []

step_longer : (ends : Bool) (b : ℕ) (more : List ℕ) (parts : List (List ℕ)) → Some parts → step ends b (longer more parts) ≡ longer more (step ends b parts)
step_longer ends b more [] h = elim h [ ]
step_longer true b more (part ∷ parts) h = refl
step_longer false b more (part ∷ []) h = refl
step_longer false b more (part ∷ next ∷ parts) h = refl

parts_other : (bytes more : List ℕ) → HasNoFeed more → parts_of (bytes ++ more) ≡ longer more (parts_of bytes)
parts_other [] more h = slice_split_none (λ b. b == 10) more (λ k d l. ne_eqb _ 10 (h k d l))
parts_other (b ∷ bs) more h = ap (step (b == 10) b) (parts_other bs more h) ∙ step_longer (b == 10) b more (parts_of bs) (parts_some bs)

all_but_last-push : (parts : List (List ℕ)) (part : List ℕ) → all_but_last (parts ++ part ∷ []) ≡ parts
all_but_last-push [] part = refl
all_but_last-push (p ∷ []) part = refl
all_but_last-push (p ∷ q ∷ ps) part = ap (λ (l : List (List ℕ)). p ∷ l) (all_but_last-push (q ∷ ps) part)

last_part-push : (parts : List (List ℕ)) (part : List ℕ) → last_part (parts ++ part ∷ []) ≡ part
last_part-push [] part = refl
last_part-push (p ∷ []) part = refl
last_part-push (p ∷ q ∷ ps) part = last_part-push (q ∷ ps) part

joined : (parts : List (List ℕ)) → Some parts → parts ≡ all_but_last parts ++ last_part parts ∷ []
joined [] h = elim h [ ]
joined (p ∷ []) h = refl
joined (p ∷ q ∷ ps) h = ap (λ (l : List (List ℕ)). p ∷ l) (joined (q ∷ ps) (some q ps))

-- a line feed ends the line
pub ended_feed : (bytes : List ℕ) → ended_lines_of (bytes ++ 10 ∷ []) ≡ ended_lines_of bytes ++ unended_of bytes ∷ []
unfolding ended_lines_of unended_of
ended_feed bytes = ap all_but_last (parts_feed bytes) ∙ all_but_last-push (parts_of bytes) [] ∙ joined (parts_of bytes) (parts_some bytes)

pub unended_feed : (bytes : List ℕ) → unended_of (bytes ++ 10 ∷ []) ≡ []
unfolding unended_of
unended_feed bytes = ap last_part (parts_feed bytes) ∙ last_part-push (parts_of bytes) []

-- other bytes go on with it
pub ended_other : (bytes more : List ℕ) → HasNoFeed more → ended_lines_of (bytes ++ more) ≡ ended_lines_of bytes
unfolding ended_lines_of
ended_other bytes more h = ap all_but_last (parts_other bytes more h) ∙ all_but_last-push (all_but_last (parts_of bytes)) (last_part (parts_of bytes) ++ more)

pub unended_other : (bytes more : List ℕ) → HasNoFeed more → unended_of (bytes ++ more) ≡ unended_of bytes ++ more
unfolding unended_of
unended_other bytes more h = ap last_part (parts_other bytes more h) ∙ last_part-push (all_but_last (parts_of bytes)) (last_part (parts_of bytes) ++ more)

-- fronts

pub front_same : {A : Type 0} (xs ys : List A) → xs ≡ ys → IsFront xs ys
front_same xs ys e = record { back = []; parts = sym (append-nil xs ∙ e) }

pub front_longer : {A : Type 0} (xs ys : List A) → IsFront xs (xs ++ ys)
front_longer xs ys = record { back = ys; parts = refl }

pub front_trans : {A : Type 0} (xs ys zs : List A) → IsFront xs ys → IsFront ys zs → IsFront xs zs
front_trans xs ys zs p q = record { back = p.back ++ q.back; parts = q.parts ∙ ap (λ (l : List _). l ++ q.back) p.parts ∙ append_assoc xs p.back q.back }

pub front_map : {A B : Type 0} (f : A → B) (xs ys : List A) → IsFront xs ys → IsFront (map f xs) (map f ys)
front_map f xs ys p = record { back = map f p.back; parts = ap (map f) p.parts ∙ map-append f xs p.back }

one_plain : (c : ℕ) → (c == 10) ≡ false → (k d : ℕ) → k < 1 → get_or (c ∷ []) k d ≢ 10
one_plain c e zero d h = eqb-false c 10 e
one_plain c e (suc k) d h = absurd (omega arith)

front_byte : (bytes : List ℕ) (c : ℕ) (ends : Bool) → (c == 10) ≡ ends → IsFront (ended_lines_of bytes) (ended_lines_of (bytes ++ c ∷ []))
front_byte bytes c false e = front_same _ _ (sym (ended_other bytes (c ∷ []) (one_plain c e)))
front_byte bytes c true e = subst (λ (b : ℕ). IsFront (ended_lines_of bytes) (ended_lines_of (bytes ++ b ∷ []))) (sym (eqb-true c 10 e)) (record { back = unended_of bytes ∷ []; parts = ended_feed bytes })

front_ended : (bytes more : List ℕ) → IsFront (ended_lines_of bytes) (ended_lines_of (bytes ++ more))
front_ended bytes [] = front_same _ _ (ap ended_lines_of (sym (append-nil bytes)))
front_ended bytes (c ∷ more) = front_trans _ _ _ (front_byte bytes c (c == 10) refl) (subst (λ (l : List ℕ). IsFront (ended_lines_of (bytes ++ c ∷ [])) (ended_lines_of l)) (append_assoc bytes (c ∷ []) more) (front_ended (bytes ++ c ∷ []) more))

front_lines : (bytes : List ℕ) → IsFront (ended_lines_of bytes) (lines_of bytes)
unfolding lines_of
front_lines bytes = front_longer (ended_lines_of bytes) (unless_empty (unended_of bytes))

one_line : (line : List ℕ) → 0 < length line → unless_empty line ≡ line ∷ []
one_line [] h = absurd (omega arith)
one_line (b ∷ bs) h = refl

module _ {R : Type 0} (read : List ℕ → R) where
  -- what is read in the lines that end begins what is read in those of any bytes that go on
  pub front_ended_reads : (bytes more : List ℕ) → IsFront (ended_reads_of read bytes) (ended_reads_of read (bytes ++ more))
  front_ended_reads bytes more = front_map read (ended_lines_of bytes) (ended_lines_of (bytes ++ more)) (front_ended bytes more)

  pub front_reads : (bytes more : List ℕ) → IsFront (ended_reads_of read bytes) (reads_of read (bytes ++ more))
  front_reads bytes more = front_trans _ _ _ (front_ended_reads bytes more) (front_map read (ended_lines_of (bytes ++ more)) (lines_of (bytes ++ more)) (front_lines (bytes ++ more)))

  -- what stands behind the last line feed
  pub no_last_line : (bytes : List ℕ) → unended_of bytes ≡ [] → reads_of read bytes ≡ ended_reads_of read bytes
  unfolding lines_of
  no_last_line bytes e = ap (λ (line : List ℕ). map read (ended_lines_of bytes ++ unless_empty line)) e ∙ ap (map read) (append-nil (ended_lines_of bytes))

  pub last_line : (bytes : List ℕ) → 0 < length (unended_of bytes) → reads_of read bytes ≡ ended_reads_of read bytes ++ read (unended_of bytes) ∷ []
  unfolding lines_of
  last_line bytes h = ap (λ (l : List (List ℕ)). map read (ended_lines_of bytes ++ l)) (one_line (unended_of bytes) h) ∙ map-append read (ended_lines_of bytes) (unended_of bytes ∷ [])
