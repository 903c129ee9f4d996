use Rattle.std.proofs.Common.{List, Option, length, ap, ◌∙◌, arith}
use Rattle.std.proofs.lemmas.List.{length-map}
use Rattle.page_tables.specs.Translations.{unless}
use Rattle.page_tables.specs.declared.entry.Entry.{Entry}
use Rattle.residency.specs.declared.store.Store.{Store}
use Rattle.residency.specs.Translating.{without}
use Rattle.residency.proofs.Translations.Dropped.{twice}
use Rattle.fault_path.specs.Translating.{is_home}
use Rattle.fault_path.proofs.giving.drop_translations.Goals as goal

pub returns : goal.returns
returns c =
    c.drop_one-2.ensures ∙ ap (λ (s : Store). record s { tables = without (is_home c.args.node s.map) s.tables }) c.drop_one.ensures
    ∙ ap (λ (ts : List (Option Entry)). record c.args.store.now { tables = ts }) (twice (is_home c.args.owner c.args.store.now.map) (is_home c.args.node c.args.store.now.map) c.args.store.now.tables)

pub drop_one-requires-2 : goal.drop_one-requires-2
drop_one-requires-2 c =
    omega (arith, c.requires, ap (λ (s : Store). length s.tables) c.drop_one.ensures, ap (λ (s : Store). length s.map) c.drop_one.ensures, length-map c.args.store.now.tables (unless (λ e. is_home c.args.owner c.args.store.now.map e.to.frame.0)))
