-- What a sink was given, and what is gathered for it.
use Rattle.std.proofs.Common.{◌≡◌, ℕ, List, [], ◌++◌, take, drop, Option, Some, None, Result, Ok, Err, refl, sym, ap, ◌∙◌, append_assoc}
use Rattle.std.specs.Prelude.{option_map, OnOk}
use Rattle.std.proofs.lemmas.List.{append-nil, append_cancel_left, take-append-drop}
use Rattle.actor_script.specs.Writing.{Writes, WritesFront, Wrote}
use Rattle.line_service.specs.Gathering.{Grew}
use Rattle.actor_script.proofs.Written.{writes_none, writes_then}

-- growing

pub grew_none : (a : Option (List ℕ)) → Grew a a
grew_none a = ([], writes_none a)

pub grew_then : (a b c : Option (List ℕ)) → Grew a b → Grew b c → Grew a c
grew_then a b c p q = (p.0 ++ q.0, writes_then a b c p.0 q.0 p.1 q.1)

pub grew_by : {T E : Type 0} (r : Result T E) (a b : Option (List ℕ)) (bytes : List ℕ) → Wrote r a b bytes → Grew a b
grew_by (Ok x) a b bytes w = (bytes, w)
grew_by (Err e) a b bytes w = (w.front, w.writes)

-- Of a line that fails at once nothing was written.
pub none_of : (a b : Option (List ℕ)) (bytes : List ℕ) → b ≡ a → WritesFront a b bytes
none_of a b bytes same = record { front = []; back = bytes; parts = refl; writes = same ∙ writes_none a }

-- A front of what is gathered was given.
pub front_given : (a b : Option (List ℕ)) (bytes : List ℕ) (n : ℕ) → Writes a b (take n bytes) → option_map (λ given. given ++ drop n bytes) b ≡ option_map (λ given. given ++ bytes) a
front_given None b bytes n w = ap (option_map (λ (x : List ℕ). x ++ drop n bytes)) w
front_given (Some a) b bytes n w =
    ap (option_map (λ (x : List ℕ). x ++ drop n bytes)) w
    ∙ ap Some (append_assoc a (take n bytes) (drop n bytes) ∙ ap (λ (x : List ℕ). a ++ x) (take-append-drop n bytes))

-- What was given is a front of what was answered, where what is gathered is its end.
pub short_of : (a v : Option (List ℕ)) (left texts : List ℕ) → Grew a v → WritesFront a (option_map (λ given. given ++ left) v) texts → WritesFront a v texts
short_of None v left texts grew h = record { front = []; back = texts; parts = refl; writes = grew.1 }
short_of (Some a) v left texts grew h =
    let all : Some ((a ++ grew.0) ++ left) ≡ Some (a ++ h.front) = ap (option_map (λ (x : List ℕ). x ++ left)) (sym grew.1) ∙ h.writes in
    let same : (a ++ grew.0) ++ left ≡ a ++ h.front = cc in
    let front : grew.0 ++ left ≡ h.front = append_cancel_left a (grew.0 ++ left) h.front (sym (append_assoc a grew.0 left) ∙ same) in
    record {
      front = grew.0;
      back = left ++ h.back;
      parts = h.parts ∙ ap (λ (x : List ℕ). x ++ h.back) (sym front) ∙ append_assoc grew.0 left h.back;
      writes = grew.1;
    }

-- Nothing is gathered.
pub with_none : (a : Option (List ℕ)) → a ≡ option_map (λ given. given ++ []) a
with_none None = refl
with_none (Some a) = ap Some (sym (append-nil a))

-- What is gathered is written, or a write fails.
pub wrote_out : {T E : Type 0} (r : Result T E) (a w v : Option (List ℕ)) (left texts : List ℕ) → OnOk r (left ≡ []) → option_map (λ given. given ++ left) v ≡ w → Grew a v → Writes a w texts → Wrote r a v texts
wrote_out (Ok x) a w v left texts empty kept grew h =
    let same : v ≡ w = with_none v ∙ ap (λ (l : List ℕ). option_map (λ (given : List ℕ). given ++ l) v) (sym empty) ∙ kept in
    same ∙ h
wrote_out (Err e) a w v left texts empty kept grew h =
    short_of a v left texts grew (record { front = texts; back = []; parts = sym (append-nil texts); writes = kept ∙ h })
