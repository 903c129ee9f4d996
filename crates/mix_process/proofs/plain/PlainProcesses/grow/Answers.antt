use Rattle.std.proofs.Common.{◌≡◌, ◌+◌, ◌≤◌, List, Option, Some, length, ap, sym, ◌∙◌, arith}
use Rattle.std.specs.Prelude.{option_map}
use Rattle.std.proofs.lemmas.Bool.Decides.{nat_tests}
use Rattle.vm_ids.specs.declared.reply.Reply.TheVariants as replies
use Rattle.interface_callers.proofs.Words.{numbered}
use Rattle.mix_process.specs.Answering.{grown_by, put_process, reply}
use Rattle.mix_process.specs.ProcessMachine.{Process, ProcessMachine, process_of}
use Rattle.mix_process.specs.declared.area.TheConstants.{MOST_DATA}
use Rattle.mix_process.proofs.Commands.Grow.{grow_done}
use Rattle.mix_process.proofs.plain.PlainProcesses.grow.Goals as goal

pub returns : goal.returns
returns c =
    let m = c.args.self.now in
    let n = c.args.of.0 in
    let p : Process = c.in-Some.process.now in
    let seen : process_of m n ≡ Some p =
    ap (λ (x : ProcessMachine). numbered x.processes n) (sym c.self.view_is) ∙ ap (λ (xs : List (Option Process)). numbered xs n) (sym c.deref.ensures.value)
    ∙ sym c.numbered.ensures ∙ ap (option_map (λ one. one.now)) c.in-Some.is in
    let few : length p.data_pages + c.args.pages ≤ MOST_DATA = (let test = c.is_too_long.ensures in let no = c.if-is_too_long.false in grind (arith, nat_tests)) in
    let made : c.in_ok-grown.grown ≡ grown_by m.page_bytes c.args.pages p =
    c.in_ok-grown.ensures ∙ ap (λ (x : ProcessMachine). grown_by x.page_bytes c.args.pages p) c.self.view_is in
    grow_done m n c.args.pages p seen few
    ∙ ap (λ (x : ProcessMachine). reply replies.Done x) (sym (c.put.ensures ∙ ap (λ (q : Process). put_process m n (Some q)) made))
