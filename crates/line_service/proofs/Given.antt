-- The lines that a number makes, one after another.
use Rattle.std.proofs.Common.{◌≡◌, ◌+◌, ◌-◌, ◌<◌, ℕ, List, [], ◌∷◌, ◌++◌, length, Some, map, refl, sym, ap, ◌∙◌, append-nil, append_assoc, zero-add, arith}
use Rattle.std.specs.Prelude.{slice_get}
use Rattle.std.proofs.lemmas.List.{length-append, length-map}
use Rattle.line_service.proofs.Places.{map_at}
use Rattle.actor_script.specs.Generator.{Position, lines_from}
use Rattle.actor_script.proofs.Generated.{lines_none}

-- From the beginning to here, these lines were given.
pub record Gave (beginning here : Position) (given : List (List ℕ)) : Type 0 where
  pub goes_on : (n : ℕ) → lines_from beginning (length given + n) ≡ given ++ lines_from here n

pub gave_none : (at here : Position) → here ≡ at → Gave at here []
gave_none at here same = record { goes_on = λ n. ap (lines_from at) (zero-add n) ∙ ap (λ (p : Position). lines_from p n) (sym same) }

module _ (beginning here : Position) (given : List (List ℕ)) (h : Gave beginning here given) where
  pub gave_more : (next : Position) (line : List ℕ) → ((n : ℕ) → lines_from here (n + 1) ≡ line ∷ lines_from next n) → Gave beginning next (given ++ line ∷ [])
  gave_more next line one = record {
    goes_on = λ n.
        let many : length (given ++ line ∷ []) + n ≡ length given + (n + 1) = omega (arith, length-append given (line ∷ [])) in
        ap (lines_from beginning) many ∙ h.goes_on (n + 1) ∙ ap (λ (lines : List (List ℕ)). given ++ lines) (one n) ∙ sym (append_assoc given (line ∷ []) (lines_from next n));
  }

  pub gave_all : (count : ℕ) → length given ≡ count → lines_from beginning count ≡ given
  gave_all count size =
      let many : count ≡ length given + 0 = omega (arith, size) in
      ap (lines_from beginning) many ∙ h.goes_on 0 ∙ ap (λ (lines : List (List ℕ)). given ++ lines) (lines_none here) ∙ append-nil given

-- So many lines were given.
pub record GivenTo (beginning here : Position) (done : ℕ) : Type 0 where
  pub given : List (List ℕ)
  pub size : length given ≡ done
  pub gave : Gave beginning here given

pub given_none : (at : Position) → GivenTo at at 0
given_none at = record { given = []; size = refl; gave = gave_none at at refl }

line_at : {X : Type 0} (front : List X) (x : X) (back : List X) → slice_get (front ++ x ∷ back) (length front) ≡ Some x
line_at [] x back = refl
line_at (y ∷ front) x back = line_at front x back

module _ (beginning here : Position) (done : ℕ) (h : GivenTo beginning here done) where
  pub given_more : (next : Position) (line : List ℕ) → ((n : ℕ) → lines_from here (n + 1) ≡ line ∷ lines_from next n) → GivenTo beginning next (done + 1)
  given_more next line one = record {
    given = h.given ++ line ∷ [];
    size = omega (arith, h.size, length-append h.given (line ∷ []));
    gave = gave_more beginning here h.given h.gave next line one;
  }

  -- the next line is the one that comes
  pub comes_next : {R : Type 0} (read : List ℕ → R) (next : Position) (line : List ℕ) (count : ℕ) → done < count → ((n : ℕ) → lines_from here (n + 1) ≡ line ∷ lines_from next n) → slice_get (map read (lines_from beginning count)) done ≡ Some (read line)
  comes_next read next line count few one =
      let left = count - (done + 1) in
      let many : count ≡ length h.given + (left + 1) = omega (arith, h.size, few) in
      let all : lines_from beginning count ≡ h.given ++ line ∷ lines_from next left =
      ap (lines_from beginning) many ∙ h.gave.goes_on (left + 1) ∙ ap (λ (lines : List (List ℕ)). h.given ++ lines) (one left) in
      let at : slice_get (lines_from beginning count) done ≡ Some line =
      ap (λ (lines : List (List ℕ)). slice_get lines done) all ∙ ap (slice_get (h.given ++ line ∷ lines_from next left)) (sym h.size) ∙ line_at h.given line (lines_from next left) in
      map_at read (lines_from beginning count) done line at

  pub given_all : {R : Type 0} (read : List ℕ → R) (count : ℕ) → done ≡ count → count ≡ length (map read (lines_from beginning count))
  given_all read count all =
      let same = gave_all beginning here h.given h.gave count (h.size ∙ all) in
      sym (length-map (lines_from beginning count) read ∙ ap length same ∙ h.size ∙ all)
