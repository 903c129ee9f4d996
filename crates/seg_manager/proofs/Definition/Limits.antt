-- From one start two runs go on alike, whatever numbers new caches get.
use Rattle.std.proofs.Common.{◌≡◌, ◌⊎◌, inl, inr, ℕ, Bool, true, false, cond, List, [], ◌∷◌, Option, Some, None, refl, sym, ap, subst, ◌∙◌}
use Rattle.std.specs.Prelude.{IfOk, not, Ok, Err}
use Rattle.vm_ids.specs.declared.command.Command.TheVariants as plain_commands
use Rattle.vm_ids.specs.declared.command.KeepCommand.{KeepCommand}
use Rattle.vm_ids.specs.declared.command.KeepCommand.TheVariants as commands
use Rattle.vm_ids.specs.declared.refusal.Refusal.TheVariants as refusals
use Rattle.vm_ids.specs.declared.reply.Reply.TheVariants as replies
use Rattle.vm_ids.specs.declared.reply.Trouble.TheVariants as troubles
use Rattle.interface_callers.proofs.Words.{Answer, CacheId, MapperCounts, Page, PageForest, Reply, Segments}
use Rattle.seg_manager.specs.Answering.{Answered, MayHave, answer_of, make_temp_of, open_anew, open_by, open_of}
use Rattle.seg_manager.specs.Laws.{Chain, Step}
use Rattle.seg_manager.specs.Limits.{AreAlike, AreEqualSteps, AreSameSteps, EndAlike, EqualRunsAnswerEqually, Renaming, RunsAreAlike, TellTheSame, answers_of, behind, decided, is_decided, makes_cache, renamed, renamed_answer, renaming_behind, same_numbers, with_pair}
use Rattle.seg_manager.specs.Outcome.{Gives, LacksRoom, Outcome}
use Rattle.seg_manager.specs.ReferenceMachine.{ReferenceMachine, Stored, number_named, start}
use Rattle.seg_manager.proofs.Definition.Alike.{Match, at_by, same}
use Rattle.seg_manager.proofs.Definition.Renaming.{pair_again}
use Rattle.seg_manager.proofs.Definition.AlikeRows.{Fits, rows}

-- the machine's answer
pub record Given (m : ReferenceMachine) (s : Step) (next : ReferenceMachine) : Type 0 where
  pub may : IfOk s.answer (λ (x : Reply). MayHave m s.command s.number)
  pub gives : Gives m s.command s.segments s.number s.answer next

abbrev GivenChain : ReferenceMachine → List Step → ReferenceMachine → Type 0
GivenChain m [] after = after ≡ m
GivenChain m (s ∷ steps) after = (next : ReferenceMachine) × Given m s next × GivenChain next steps after

module _ (m : ReferenceMachine) (f : Option PageForest) (h : Segments) (number : ℕ) (next : ReferenceMachine) (rises : MapperCounts) where
  -- decided, it is the machine's answer, and else the machine stays
  abbrev Settled : KeepCommand → Answer → Bool → Type 0
  Settled command a true = IfOk a (λ (x : Reply). MayHave m command number) × Gives m command h number a next
  Settled command a false = next ≡ m

  never_many : (seg : ℕ) → open_of m seg number ≡ record { answer = Err (troubles.Refused refusals.TooMany); next = next } → ⊥
  unfolding open_of
  never_many seg e = by (number_named m seg) (m.stored seg) (ap (λ (x : Answered). x.answer) e)
    where
      anew : (o : Option (List Page)) → (open_anew m seg number o).answer ≡ Err (troubles.Refused refusals.TooMany) → ⊥
      anew None e = cc e
      anew (Some pages) e = cc e

      by : (o : Option ℕ) (p : Option (List Page)) → (open_by m seg number o).answer ≡ Err (troubles.Refused refusals.TooMany) → ⊥
      by (Some a) p e = cc e
      by None p e = anew (m.stored seg) e

  settled : (command : KeepCommand) (a : Answer) → Outcome m f command h number a next rises → Settled command a (is_decided command a)
  unfolding make_temp_of
  settled command (Ok r) o = o
  settled command (Err (troubles.Mapper at)) o = o.0
  settled command (Err troubles.Memory) o = o.0
  settled command (Err (troubles.Refused refusals.TooMany)) o = many command o
    where
      many : (command : KeepCommand) → ((next ≡ m) × LacksRoom m command) ⊎ Gives m command h number (Err (troubles.Refused refusals.TooMany)) next
          → Settled command (Err (troubles.Refused refusals.TooMany)) (not (makes_cache command))
      many (commands.Plain (plain_commands.OpenSegment seg)) (inl o) = o.0
      many (commands.Plain (plain_commands.OpenSegment seg)) (inr o) = absurd (never_many seg.0 o)
      many (commands.Plain (plain_commands.MakeTemp pages)) (inl o) = o.0
      many (commands.Plain (plain_commands.MakeTemp pages)) (inr o) = absurd (let wrong = ap (λ (x : Answered). x.answer) o in cc wrong)
      many (commands.Plain command) (inl o) = absurd o.1
      many (commands.Plain command) (inr o) = (tt, o)
      many (commands.Close seg) (inl o) = absurd o.1
      many (commands.Close seg) (inr o) = (tt, o)
  settled command (Err (troubles.Refused r)) o = (tt, o)

given_chain : (m : ReferenceMachine) (steps : List Step) (after : ReferenceMachine) → Chain m steps after → GivenChain m (decided steps) after
given_chain m [] after chain = chain
given_chain m (s ∷ steps) after chain =
    by (is_decided s.command s.answer)
    (settled m s.forest s.segments s.number chain.0 s.rises s.command s.answer chain.1)
    (given_chain chain.0 steps after chain.2)
  where
    by : (b : Bool) → Settled m s.forest s.segments s.number chain.0 s.rises s.command s.answer b → GivenChain chain.0 (decided steps) after → GivenChain m (cond b (s ∷ decided steps) (decided steps)) after
    by true given rest = (chain.0, record { may = given.0; gives = given.1 }, rest)
    by false stays rest = subst (λ (x : ReferenceMachine). GivenChain x (decided steps) after) stays rest

go_on : (r : Renaming) (m n : ReferenceMachine) → Match r m n → (first second : List Step) (left right : ReferenceMachine) → GivenChain m first left → GivenChain n second right → AreSameSteps r m n first second → EndAlike r first second left right
go_on r m n M [] [] left right e d same =
    subst (λ (x : ReferenceMachine). AreAlike r x right) (sym e)
    (subst (AreAlike r m) (sym d) (record { memory = M.memory.is; stored = M.stored; openings = M.openings }))
go_on r m n M [] (t ∷ second) left right e d same = absurd same
go_on r m n M (s ∷ first) [] left right e d same = absurd same
go_on r m n M (s ∷ first) (t ∷ second) left right e d same =
    (fits.answer, go_on (renaming_behind r s.answer t.answer) e.0 d.0 fits.next first second left right e.2 d.2 rest)
  where
    command : KeepCommand
    command = renamed same.0.names s.command

    gives : Gives n command t.segments t.number t.answer d.0
    gives = subst (λ (c : KeepCommand). Gives n c t.segments t.number t.answer d.0) same.0.command d.1.gives

    may : IfOk t.answer (λ (x : Reply). MayHave n command t.number)
    may = subst (λ (c : KeepCommand). IfOk t.answer (λ (x : Reply). MayHave n c t.number)) same.0.command d.1.may

    at_rows : Fits r (answer_of m s.command s.segments s.number) (answer_of n command t.segments t.number)
    at_rows = rows r m n M same.0.names same.0.same s.command s.segments t.segments same.0.denied s.number t.number
        (subst (λ (a : Answered). IfOk a.answer (λ (x : Reply). MayHave m s.command s.number)) (sym e.1.gives) e.1.may)
        (subst (λ (a : Answered). IfOk a.answer (λ (x : Reply). MayHave n command t.number)) (sym gives) may)

    fits : Fits r (record { answer = s.answer; next = e.0 }) (record { answer = t.answer; next = d.0 })
    fits =
        subst (λ (a : Answered). Fits r a (record { answer = t.answer; next = d.0 })) e.1.gives
        (subst (Fits r (answer_of m s.command s.segments s.number)) gives at_rows)

    rest : AreSameSteps (renaming_behind r s.answer t.answer) e.0 d.0 first second
    rest =
        subst (λ (x : ReferenceMachine). AreSameSteps (renaming_behind r s.answer t.answer) x d.0 first second) (ap (λ (a : Answered). a.next) e.1.gives)
        (subst (λ (x : ReferenceMachine). AreSameSteps (renaming_behind r s.answer t.answer) (behind m s) x first second) (ap (λ (a : Answered). a.next) d.1.gives) same.1)

started : (frames page_bytes : ℕ) (stored : Stored) → Match same_numbers (start frames page_bytes stored) (start frames page_bytes stored)
started frames page_bytes stored = record {
  memory = record {
    is = record { page_bytes = refl; caches = λ number. refl; actors = refl; regions_made = refl };
    back = same_numbers;
    there = λ a. refl;
    here = λ b. refl;
    live = λ k e. absurd (cc e);
    apart = λ j k seg e d. let it = (at_by seg (start frames page_bytes stored).memory j e).there in absurd (cc it);
  };
  stored = refl;
  openings = refl;
}

pub runs_are_alike : RunsAreAlike
runs_are_alike frames page_bytes stored first second m n chain other same =
    go_on same_numbers (start frames page_bytes stored) (start frames page_bytes stored) (started frames page_bytes stored) (decided first) (decided second) m n
    (given_chain (start frames page_bytes stored) first m chain) (given_chain (start frames page_bytes stored) second n other) same

-- Runs that number caches alike

kept_command : (command : KeepCommand) → renamed same_numbers command ≡ command
kept_command (commands.Plain (plain_commands.Copy span)) = refl
kept_command (commands.Plain (plain_commands.Map a mapping)) = refl
kept_command (commands.Plain command) = refl
kept_command (commands.Close seg) = refl

kept_answer : (a : Answer) → renamed_answer same_numbers a ≡ a
kept_answer (Ok (replies.Cache cache)) = refl
kept_answer (Ok x) = refl
kept_answer (Err e) = refl

kept_behind : (a b : Answer) → TellTheSame a b → renaming_behind same_numbers a b ≡ same_numbers
kept_behind (Ok (replies.Cache j)) (Ok (replies.Cache k)) e =
    ap (λ (x : CacheId). with_pair j.0 x.0 same_numbers) e ∙ pair_again j.0 same_numbers
kept_behind (Ok (replies.Cache j)) (Err t) e = refl
kept_behind (Ok x) (Ok y) e = refl
kept_behind (Ok x) (Err t) e = refl
kept_behind (Err t) b e = refl

same_steps : (m n : ReferenceMachine) (first second : List Step) → AreEqualSteps first second → AreSameSteps same_numbers m n first second
same_steps m n [] [] e = tt
same_steps m n [] (t ∷ second) e = absurd e
same_steps m n (s ∷ first) [] e = absurd e
same_steps m n (s ∷ first) (t ∷ second) e = (
  record { names = same_numbers; same = λ k. inl refl; command = e.0.command ∙ sym (kept_command s.command); denied = e.0.denied },
  subst (λ (r : Renaming). AreSameSteps r (behind m s) (behind n t) first second) (sym (kept_behind s.answer t.answer e.0.numbers)) (same_steps (behind m s) (behind n t) first second e.1),
)

same_answers : (first second : List Step) (m n : ReferenceMachine) → AreEqualSteps first second → EndAlike same_numbers first second m n → answers_of second ≡ answers_of first
same_answers [] [] m n e alike = refl
same_answers [] (t ∷ second) m n e alike = absurd e
same_answers (s ∷ first) [] m n e alike = absurd e
same_answers (s ∷ first) (t ∷ second) m n e alike =
    let kept = kept_behind s.answer t.answer e.0.numbers in
    let here = alike.0 ∙ ap (λ (r : Renaming). renamed_answer r s.answer) kept ∙ kept_answer s.answer in
    let rest = same_answers first second m n e.1 (subst (λ (r : Renaming). EndAlike r first second m n) kept alike.1) in
    λ i. here i ∷ rest i

pub equal_runs_answer_equally : EqualRunsAnswerEqually
equal_runs_answer_equally frames page_bytes stored first second m n chain other same =
    same_answers (decided first) (decided second) m n same
    (runs_are_alike frames page_bytes stored first second m n chain other (same_steps (start frames page_bytes stored) (start frames page_bytes stored) (decided first) (decided second) same))
