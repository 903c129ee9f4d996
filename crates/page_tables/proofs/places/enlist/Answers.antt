use Rattle.std.proofs.Common.{ℕ, Bool, List, length, set, Some, sym, ap, ◌∙◌, subst, arith}
use Rattle.page_tables.specs.Indexes.{listed_at}
use Rattle.page_tables.specs.Membership.{Membership}
use Rattle.page_tables.specs.Writing.{IsWriting}
use Rattle.page_tables.proofs.Writing.{enlisted, enlisted_with, frame_few, list_known, written_known}
use Rattle.page_tables.proofs.places.enlist.Goals as goal

pub place_list-requires : goal.place_list-requires
place_list-requires c = frame_few c.args.entry (length c.args.writing.now) c.requires.writing.few c.requires.frame

pub add-requires-clause-list : goal.add-requires-clause-list
add-requires-clause-list c = omega (arith, c.place_list.ensures, list_known c.args.entry (length c.args.writing.now) c.args.by_frame.now.lists c.requires.writing.room c.requires.frame)

pub insert-requires : goal.insert-requires
insert-requires c = written_known c.args.entry c.in-Some.frame (length c.args.writing.now) (sym c.in-Some.ensures) c.requires.frame

pub returns-in_default-clause-writing : goal.returns-in_default-clause-writing
returns-in_default-clause-writing c =
    let l = c.args.by_frame.now in
    subst (λ (m : Membership). IsWriting m c.args.writing.now) (sym (c.add.ensures ∙ ap (λ (k : ℕ). let m : Membership = record { lists = l.lists; on = set l.on c.args.place (Some k) } in m) c.place_list.ensures))
    (enlisted l c.args.writing.now c.args.place c.args.entry c.requires.writing c.requires.below c.requires.loose (sym c.in_default.ensures))

pub returns-in-Some-clause-writing : goal.returns-in-Some-clause-writing
returns-in-Some-clause-writing c =
    let l = c.args.by_frame.now in
    subst (λ (m : Membership). IsWriting m c.insert.new.self) (sym (c.add.ensures ∙ ap (λ (k : ℕ). let m : Membership = record { lists = l.lists; on = set l.on c.args.place (Some k) } in m) c.place_list.ensures))
    (subst (λ (s : List Bool). IsWriting (record { lists = l.lists; on = set l.on c.args.place (listed_at c.args.entry) }) s) (sym c.insert.ensures)
    (enlisted_with l c.args.writing.now c.args.place c.args.entry c.in-Some.frame c.requires.writing c.requires.below c.requires.loose (sym c.in-Some.ensures)
    (written_known c.args.entry c.in-Some.frame (length c.args.writing.now) (sym c.in-Some.ensures) c.requires.frame)))
