-- The lines that a number makes, one after another.
use Rattle.std.proofs.Common.{◌≡◌, ◌+◌, ◌-◌, ◌≤◌, ℕ, List, [], ◌∷◌, ◌++◌, length, Option, sym, ap, subst, ◌∙◌, append-nil, arith}
use Rattle.std.specs.Prelude.{codes, option_map}
use Rattle.std.proofs.lemmas.List.{length-append}
use Rattle.std.proofs.lemmas.List.Concat.{flat_map-append}
use Rattle.actor_script.specs.Generator.{Position, lines_from}
use Rattle.actor_script.specs.Writing.{Writes, WritesFront}
use Rattle.actor_script.proofs.Written.{front_more, front_then, writes_none, writes_then}
use Rattle.replay.specs.Ending.{with_feeds}
use Rattle.line_service.specs.Gathering.{Grew}
use Rattle.line_service.proofs.Gathering.{short_of}
use Rattle.line_service.proofs.Given.{Gave, gave_all, gave_more, gave_none}

gave_rest : (beginning here : Position) (given : List (List ℕ)) → Gave beginning here given → (count : ℕ) → length given ≤ count → lines_from beginning count ≡ given ++ lines_from here (count - length given)
gave_rest beginning here given h count few =
    let many : count ≡ length given + (count - length given) = omega arith in
    ap (lines_from beginning) many ∙ h.goes_on (count - length given)

-- the lines that are given are written

fed_line : (line : List ℕ) → with_feeds (line ∷ []) ≡ line ++ codes "\n"
fed_line line = append-nil (line ++ codes "\n")

feeds_more : (given : List (List ℕ)) (line : List ℕ) → with_feeds given ++ (line ++ codes "\n") ≡ with_feeds (given ++ line ∷ [])
feeds_more given line =
    ap (λ (text : List ℕ). with_feeds given ++ text) (sym (fed_line line)) ∙ sym (flat_map-append (λ (line : List ℕ). line ++ codes "\n") given (line ∷ []))

-- So many lines were given and written, or gathered.
pub record Written (beginning here : Position) (count : ℕ) (old new : Option (List ℕ)) : Type 0 where
  pub given : List (List ℕ)
  pub size : length given ≡ count
  pub gave : Gave beginning here given
  pub writes : Writes old new (with_feeds given)

pub written_none : (at here : Position) (old new : Option (List ℕ)) → here ≡ at → new ≡ old → Written at here 0 old new
written_none at here old new begun same = record { given = []; size = omega arith; gave = gave_none at here begun; writes = same ∙ writes_none old }

module _ (beginning here : Position) (count : ℕ) (old new : Option (List ℕ)) (h : Written beginning here count old new) where
  pub written_more : (next : Position) (line : List ℕ) (now : Option (List ℕ)) → ((n : ℕ) → lines_from here (n + 1) ≡ line ∷ lines_from next n) → Writes new now (line ++ codes "\n") → Written beginning next (count + 1) old now
  written_more next line now one more = record {
    given = h.given ++ line ∷ [];
    size = omega (arith, h.size, length-append h.given (line ∷ []));
    gave = gave_more beginning here h.given h.gave next line one;
    writes = subst (Writes old now) (feeds_more h.given line) (writes_then old new now (with_feeds h.given) (line ++ codes "\n") h.writes more);
  }

  pub written_all : (total : ℕ) → count ≡ total → Writes old new (with_feeds (lines_from beginning total))
  written_all total all = subst (λ (lines : List (List ℕ)). Writes old new (with_feeds lines)) (sym (gave_all beginning here h.given h.gave total (h.size ∙ all))) h.writes

  -- a write failed at one more line
  pub written_short : (next : Position) (line : List ℕ) (total : ℕ) (sink : Option (List ℕ)) (left : List ℕ) → count + 1 ≤ total → ((n : ℕ) → lines_from here (n + 1) ≡ line ∷ lines_from next n) → Grew old sink
      → WritesFront new (option_map (λ given. given ++ left) sink) (line ++ codes "\n") → WritesFront old sink (with_feeds (lines_from beginning total))
  written_short next line total sink left few one grew failed =
      let given = h.given ++ line ∷ [] in
      let size : length given ≡ count + 1 = omega (arith, h.size, length-append h.given (line ∷ [])) in
      let behind = lines_from next (total - length given) in
      let whole : with_feeds given ++ with_feeds behind ≡ with_feeds (lines_from beginning total) =
      sym (flat_map-append (λ (line : List ℕ). line ++ codes "\n") given behind) ∙ ap with_feeds (sym (gave_rest beginning next given (gave_more beginning here h.given h.gave next line one) total (omega (arith, size, few)))) in
      let now = option_map (λ given. given ++ left) sink in
      short_of old sink left (with_feeds (lines_from beginning total)) grew
      (subst (WritesFront old now) whole (front_more old now (with_feeds given) (with_feeds behind)
      (subst (WritesFront old now) (feeds_more h.given line) (front_then old new now (with_feeds h.given) (line ++ codes "\n") h.writes failed))))
