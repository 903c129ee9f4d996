use Rattle.std.proofs.Common.{◌≡◌, ◌≢◌, ◌<◌, ℕ, true, false, List, Option, Some, None, set, map, sym, ap, ◌∙◌, subst, arith}
use Rattle.std.specs.Prelude.{count_by}
use Rattle.vm_ids.proofs.Places.{other_number}
use Rattle.page_tables.specs.Entries.{frame_row, leads_to}
use Rattle.page_tables.specs.Indexes.{listed_at}
use Rattle.page_tables.specs.Membership.{is_on, list_of, Membership}
use Rattle.page_tables.specs.Translations.{entry_at, holds, narrowed, read_only_at}
use Rattle.page_tables.specs.declared.entry.Entry.{Entry}
use Rattle.page_tables.proofs.Dropping.{none_writable, one_narrowed}
use Rattle.page_tables.proofs.EntryPlaces.{first_leading, leads_by, on_list}
use Rattle.page_tables.proofs.Narrowing.{relisted}
use Rattle.page_tables.proofs.RowPlaces.{fewer_on}
use Rattle.page_tables.proofs.places.narrow.Goals as goal

pub loop-place-preserved : goal.loop-place-preserved
loop-place-preserved c =
    let i = c.loop-place.invariant in
    let es : List (Option Entry) = c.loop-place.entries in
    let l : Membership = c.loop-place.by_frame in
    let f : ℕ = c.args.frame.0 in
    let n : ℕ = c.in-Some.place in
    let row : list_of l n ≡ Some (frame_row f true) = c.in-Some.ensures ∙ ap (λ (k : ℕ). Some k) c.frame_list.ensures in
    let put : c.put.new.self ≡ set es n (read_only_at (entry_at es n)) = c.put.ensures ∙ ap (λ (o : Option Entry). set es n o) (c.read_only.ensures ∙ ap read_only_at c.get.ensures) in
    let leads : holds (leads_to f true) (entry_at es n) ≡ true = leads_by (entry_at es n) f true (on_list es l i.on n (frame_row f true) row).1 in
    record {
      lists = ap (λ (m : Membership). m.lists) c.add.ensures ∙ ap (λ (m : Membership). m.lists) c.take_off.ensures ∙ i.lists;
      on = ap (λ (m : Membership). m.on) c.add.ensures ∙ ap (λ (m : Membership). set m.on n (Some c.frame_list-in-Some.result)) c.take_off.ensures
          ∙ ap (λ (k : ℕ). set (set l.on n None) n (Some k)) c.frame_list-in-Some.ensures
          ∙ relisted es l n f i.on row ∙ ap (map listed_at) (sym put);
      rest = ap (map (narrowed f)) put ∙ one_narrowed f es n leads ∙ i.rest;
    }

pub loop-place-smaller : goal.loop-place-smaller
loop-place-smaller c =
    let f : ℕ = c.args.frame.0 in
    let row : list_of c.loop-place.by_frame c.in-Some.place ≡ Some (frame_row f true) = c.in-Some.ensures ∙ ap (λ (k : ℕ). Some k) c.frame_list.ensures in
    let other : is_on (frame_row f true) (Some c.frame_list-in-Some.result) ≡ false = other_number c.frame_list-in-Some.result (frame_row f true) (λ e. absurd (omega (arith, e, c.frame_list-in-Some.ensures))) in
    let less : count_by (is_on (frame_row f true)) c.add.new.self.on < count_by (is_on (frame_row f true)) c.loop-place.by_frame.on =
    rw (c.add.ensures, c.take_off.ensures) (fewer_on c.loop-place.by_frame.on c.in-Some.place (frame_row f true) (Some c.frame_list-in-Some.result) row other) in
    less

pub returns-clause-narrowed : goal.returns-clause-narrowed
returns-clause-narrowed c =
    let i = c.loop-place.invariant in
    let l : Membership = c.loop-place.by_frame in
    let f : ℕ = c.args.frame.0 in
    let empty : (entry : ℕ) → list_of l entry ≢ Some (frame_row f true) = subst (λ (k : ℕ). (entry : ℕ) → list_of l entry ≢ Some k) c.frame_list.ensures c.in_default.ensures in
    sym (none_writable f c.loop-place.entries (first_leading c.loop-place.entries l f true i.on None empty)) ∙ i.rest
