-- The definitions compute the worked scripts.
use Rattle.std.proofs.Common.{◌≡◌, ℕ, cond, List, [], ◌∷◌, Option, Some, None, refl, ap, ◌∙◌}
use Rattle.std.specs.Ordering.{eq_by_cmp, nat_cmp}
use Rattle.std.specs.FinMap as finite
use Rattle.std.specs.FinMap.{get-insert, get-empty}
use Rattle.std.proofs.lemmas.Cmp.{nat_cmp_total}
use Rattle.vm_ids.specs.declared.command.MixCommand.{MixCommand}
use Rattle.vm_ids.specs.declared.command.MixCommand.TheVariants as commands
use Rattle.interface_callers.proofs.Words.{Answer, Page}
use Rattle.mix_process.specs.ProcessMachine.{ProcessMachine, start}
use Rattle.mix_process.specs.Answering.{Answered, answer_of, exec_of, exit_of, fork_of, grow_of, load_of, store_of, unless, with_ok, with_some}
use Rattle.mix_process.specs.Rows as rows
use Rattle.mix_process.specs.Rows.{AnswersAs, ForkedAndGrown, RefusedProcesses, answers_from, answers_on, page, segments}

-- What std's maps hold doesn't compute, so a script reads the segments by a function that does.
abbrev held : ℕ → Option (List Page)
held seg = cond (eq_by_cmp nat_cmp seg 1) (Some (page 0x7f ∷ page 0x41 ∷ page 0x42 ∷ [])) None

holds : (seg : ℕ) → finite.get segments.pages seg ≡ held seg
holds seg =
    get-insert nat_cmp_total finite.empty 1 (page 0x7f ∷ page 0x41 ∷ page 0x42 ∷ []) seg
    ∙ ap (λ (o : Option (List Page)). cond (eq_by_cmp nat_cmp seg 1) (Some (page 0x7f ∷ page 0x41 ∷ page 0x42 ∷ [])) o) (get-empty nat_cmp seg)

abbrev answer_by : ProcessMachine → MixCommand → Answered
answer_by m (commands.Exec seg text data_pages stack) = exec_of m seg.0 text data_pages stack (held seg.0)
answer_by m command = answer_of m command segments

abbrev answers_by : List MixCommand → ProcessMachine → List Answer
answers_by [] m = []
answers_by (c ∷ cs) m = answers_on (answers_by cs) (answer_by m c)

same_answer : (m : ProcessMachine) (c : MixCommand) → answer_of m c segments ≡ answer_by m c
same_answer m (commands.Exec seg text data_pages stack) = ap (exec_of m seg.0 text data_pages stack) (holds seg.0)
same_answer m (commands.Fork process) = refl
same_answer m (commands.Exit process) = refl
same_answer m (commands.Grow process pages) = refl
same_answer m (commands.Load process address bytes) = refl
same_answer m (commands.Store process address piece) = refl
same_answer m (commands.PageOut count) = refl

same_answers : (cs : List MixCommand) (m : ProcessMachine) → answers_from cs m ≡ answers_by cs m
same_answers [] m = refl
same_answers (c ∷ cs) m = λ i. answers_on (λ next. same_answers cs next i) (same_answer m c i)

answers_as : (cs : List MixCommand) (answers : List Answer) → answers_by cs (start 4096) ≡ answers → AnswersAs cs answers
answers_as cs answers e = same_answers cs (start 4096) ∙ e

pub forked_and_grown : ForkedAndGrown
unfolding exec_of fork_of exit_of grow_of load_of store_of unless with_some with_ok
forked_and_grown = answers_as rows.forked_and_grown _ refl

pub refused_processes : RefusedProcesses
unfolding exec_of fork_of exit_of grow_of load_of store_of unless with_some with_ok
refused_processes = answers_as rows.refused_processes _ refl
