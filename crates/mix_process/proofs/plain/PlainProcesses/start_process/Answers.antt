use Rattle.std.proofs.Common.{◌≡◌, ◌+◌, ◌≤◌, ℕ, List, Some, length, ap, sym, subst, ◌∙◌, arith}
use Rattle.std.specs.Prelude.{option_map}
use Rattle.interface_callers.proofs.Words.{Page}
use Rattle.mix_process.specs.Answering.{Answered, add_process, process_from}
use Rattle.mix_process.specs.Plain.{IsAnswered}
use Rattle.mix_process.specs.ProcessMachine.{ProcessMachine, image_in, image_of}
use Rattle.mix_process.proofs.Definition.PlainRows.{ends_good}
use Rattle.mix_process.proofs.plain.PlainProcesses.start_process.Goals as goal

pub returns : goal.returns
returns c =
    let m = c.args.self.now in
    let pages : List Page = c.in-Some.image.now in
    let seen : image_of m c.args.seg.0 ≡ Some pages =
    ap (λ (x : ProcessMachine). image_of x c.args.seg.0) (sym c.self.view_is) ∙ ap (λ (xs : List (ℕ × List Page)). image_in xs c.args.seg.0) (sym c.deref.ensures.value)
    ∙ sym c.image_in.ensures ∙ ap (option_map (λ p. p.now)) c.in-Some.is in
    let enough : c.args.text_pages + c.args.data_pages ≤ length pages = omega (arith, c.if-image-text_pages.false) in
    let made : c.in_ok-process.process ≡ process_from m.page_bytes pages c.args.text_pages c.args.data_pages c.args.stack_pages =
    c.in_ok-process.ensures ∙ ap (λ (x : ProcessMachine). process_from x.page_bytes pages c.args.text_pages c.args.data_pages c.args.stack_pages) c.self.view_is in
    subst (λ (row : Answered). IsAnswered m row c.add.result c.add.new.self)
    (ap (add_process m) made ∙ sym (ends_good m c.args.text_pages c.args.data_pages c.args.stack_pages pages (image_of m c.args.seg.0) seen enough)) c.add.ensures
