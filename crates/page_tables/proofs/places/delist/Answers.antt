use Rattle.std.proofs.Common.{◌≡◌, ℕ, Bool, true, List, set, None, sym, ap, ◌∙◌, subst, arith}
use Rattle.std.specs.Prelude.{count_by}
use Rattle.vm_ids.proofs.Places.{true_below}
use Rattle.page_tables.specs.Entries.{frame_row}
use Rattle.page_tables.specs.Membership.{is_on, Membership}
use Rattle.page_tables.specs.Writing.{IsWriting}
use Rattle.page_tables.proofs.Writing.{delisted, delisted_last, delisted_more, had, listed_below}
use Rattle.page_tables.proofs.places.delist.Goals as goal

pub frame_list-requires : goal.frame_list-requires
frame_list-requires c =
    let l = c.args.by_frame.now in
    let w = c.args.writing.now in
    let below = listed_below l.on c.args.place c.args.was c.requires.listed in
    omega (arith, true_below w c.in-Some.frame.0 (had l w c.args.place c.args.was c.in-Some.frame c.requires.writing below c.requires.listed (sym c.in-Some.ensures)), c.requires.writing.few)

pub len-requires : goal.len-requires
len-requires c =
    let l = c.args.by_frame.now in
    let w = c.args.writing.now in
    let below = listed_below l.on c.args.place c.args.was c.requires.listed in
    omega (arith, true_below w c.in-Some.frame.0 (had l w c.args.place c.args.was c.in-Some.frame c.requires.writing below c.requires.listed (sym c.in-Some.ensures)), c.requires.writing.room, c.frame_list.ensures, ap (λ (m : Membership). m.lists) c.take_off.ensures)

pub remove-requires : goal.remove-requires
remove-requires c =
    let l = c.args.by_frame.now in
    had l c.args.writing.now c.args.place c.args.was c.in-Some.frame c.requires.writing (listed_below l.on c.args.place c.args.was c.requires.listed) c.requires.listed (sym c.in-Some.ensures)

pub returns-in_default-clause-writing : goal.returns-in_default-clause-writing
returns-in_default-clause-writing c =
    let l = c.args.by_frame.now in
    subst (λ (m : Membership). IsWriting m c.args.writing.now) (sym c.take_off.ensures)
    (delisted l c.args.writing.now c.args.place c.args.was c.requires.writing (listed_below l.on c.args.place c.args.was c.requires.listed) c.requires.listed (sym c.in_default.ensures))

pub returns-then-len-eq0-clause-writing : goal.returns-then-len-eq0-clause-writing
returns-then-len-eq0-clause-writing c =
    let l = c.args.by_frame.now in
    let w = c.args.writing.now in
    let row = frame_row c.in-Some.frame.0 true in
    let none : count_by (is_on row) (set l.on c.args.place None) ≡ 0 =
    ap (λ (m : Membership). count_by (is_on row) m.on) (sym c.take_off.ensures) ∙ ap (λ (k : ℕ). count_by (is_on k) c.take_off.new.self.on) (sym c.frame_list.ensures) ∙ sym c.len.ensures ∙ c.if-len-eq0.true in
    subst (λ (m : Membership). IsWriting m c.remove.new.self) (sym c.take_off.ensures)
    (subst (λ (s : List Bool). IsWriting (record { lists = l.lists; on = set l.on c.args.place None }) s) (sym c.remove.ensures)
    (delisted_last l w c.args.place c.args.was c.in-Some.frame c.requires.writing (listed_below l.on c.args.place c.args.was c.requires.listed) c.requires.listed (sym c.in-Some.ensures) none))

pub returns-else-len-eq0-clause-writing : goal.returns-else-len-eq0-clause-writing
returns-else-len-eq0-clause-writing c =
    let l = c.args.by_frame.now in
    let row = frame_row c.in-Some.frame.0 true in
    let same : count_by (is_on row) (set l.on c.args.place None) ≡ c.len.result =
    ap (λ (m : Membership). count_by (is_on row) m.on) (sym c.take_off.ensures) ∙ ap (λ (k : ℕ). count_by (is_on k) c.take_off.new.self.on) (sym c.frame_list.ensures) ∙ sym c.len.ensures in
    subst (λ (m : Membership). IsWriting m c.args.writing.now) (sym c.take_off.ensures)
    (delisted_more l c.args.writing.now c.args.place c.args.was c.in-Some.frame c.requires.writing (listed_below l.on c.args.place c.args.was c.requires.listed) c.requires.listed (sym c.in-Some.ensures) (λ none. c.if-len-eq0.false (sym same ∙ none)))
