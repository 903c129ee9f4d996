use Rattle.std.proofs.Common.{◌+◌, ℕ, sym, ap, subst, ◌∙◌, refl, arith}
use Rattle.std.specs.Prelude.{IsSome}
use Rattle.std.proofs.lemmas.Bool.{cond-false, cond-true}
use Rattle.std.specs.Ordering.{nat_cmp}
use Rattle.std.specs.FinMap.{FinMap}
use Rattle.std.specs.FinMap as map
use Rattle.stretches.proofs.Reading.Numbers.{within}
use Rattle.mixed_map.specs.Mixed.{with_stretch}
use Rattle.mixed_map.proofs.Telling.{gathered, gone}
use Rattle.mixed_map.proofs.mixed_map.MixedMap.gather.Goals as goal

pub remove_range-requires-clause-held : goal.remove_range-requires-clause-held
remove_range-requires-clause-held g c k less =
    let r = c.args.stretch in
    subst IsSome (sym (c.requires.told (r.first + k) (within r (r.first + k) (omega arith) (omega (arith, less))))) refl

pub insert_stretch-requires-clause-vacant : goal.insert_stretch-requires-clause-vacant
insert_stretch-requires-clause-vacant g c n h =
    ap (λ (m : FinMap nat_cmp _). map.get m n) c.remove_range.ensures.cells ∙ gone c.args.self.now.cells c.args.stretch n ∙ cond-true _ _ _ h

pub insert_stretch-requires-clause-room : goal.insert_stretch-requires-clause-room
insert_stretch-requires-clause-room g c = c.remove_range.ensures.fits c.requires.fit.some

pub returns-clause-cells : goal.returns-clause-cells
returns-clause-cells g c =
    c.insert_stretch.ensures.cells
    ∙ ap (λ (m : FinMap nat_cmp _). with_stretch g.V.Says g.S.Alone.told m c.args.stretch) c.remove_range.ensures.cells
    ∙ gathered g.V.Says g.S.Alone.told c.args.self.now.cells c.args.stretch c.requires.told

pub returns-clause-others : goal.returns-clause-others
returns-clause-others g c n h =
    c.insert_stretch.ensures.slots n h ∙ ap (λ (m : FinMap nat_cmp ℕ). map.get m n) c.remove_range.ensures.slots
    ∙ gone c.args.self.now.slots c.args.stretch n ∙ cond-false _ _ _ h

pub returns-clause-gone : goal.returns-clause-gone
returns-clause-gone g c = λ more. c.insert_stretch.ensures.told more ∙ c.remove_range.ensures.slots
