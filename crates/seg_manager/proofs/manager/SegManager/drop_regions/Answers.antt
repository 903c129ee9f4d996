use Rattle.std.proofs.Common.{ap, arith, refl, sym, ◌∙◌}
use Rattle.std.specs.List.{position_from}
use Rattle.seg_manager.specs.Inner.{leaves}
use Rattle.seg_manager.proofs.Leaves.RegionsGone.{dropped_kept, dropped_regions, dropping_more, once_more, room_more}
use Rattle.seg_manager.proofs.Lookup.Finding.{place_below}
use Rattle.seg_manager.proofs.manager.SegManager.drop_regions.Goals as goal

pub remove-mapped-requires : goal.remove-mapped-requires
remove-mapped-requires g c = omega (arith, place_below (leaves c.args.leaving) c.deref.result.now c.deref.result.now c.in-Some.place refl c.in-Some.ensures, c.deref.ensures.len)

pub keep_unused-requires : goal.keep_unused-requires
keep_unused-requires g c =
    record {
      once = once_more c.args.self.now c.args.leaving c.loop-place.self c.loop-place.invariant c.requires.room c.in-Some.place (c.in-Some.ensures ∙ ap (position_from (leaves c.args.leaving) 0) c.deref.ensures.value)
          c.remove-mapped.new.self.items c.remove-mapped.ensures.items c.remove-mapped.result c.remove-mapped.ensures.value c.requires.once;
      room = room_more c.args.self.now c.args.leaving c.loop-place.self c.loop-place.invariant c.requires.room c.in-Some.place (c.in-Some.ensures ∙ ap (position_from (leaves c.args.leaving) 0) c.deref.ensures.value)
          c.remove-mapped.new.self.items c.remove-mapped.ensures.items c.remove-mapped.result c.remove-mapped.ensures.value;
    }

pub loop-place-preserved : goal.loop-place-preserved
loop-place-preserved g c =
    dropping_more c.args.self.now c.args.leaving c.loop-place.self c.loop-place.invariant c.requires.room c.in-Some.place (c.in-Some.ensures ∙ ap (position_from (leaves c.args.leaving) 0) c.deref.ensures.value)
    c.remove-mapped.new.self.items c.remove-mapped.ensures.items c.remove-mapped.result c.remove-mapped.ensures.value
    c.keep_unused.new.self (ap (λ x. x.regions.items) c.keep_unused.ensures.same) c.keep_unused.ensures.kept c.keep_unused.ensures.capacity
    (c.keep_unused.ensures.same ∙ sym (ap (λ x. record c.loop-place.self { kept = c.keep_unused.new.self.kept; regions = x.regions }) c.keep_unused.ensures.same))

pub returns-clause-regions : goal.returns-clause-regions
returns-clause-regions g c =
    dropped_regions c.args.self.now c.args.leaving c.loop-place.self c.loop-place.invariant c.requires.room (c.in_default.ensures ∙ ap (position_from (leaves c.args.leaving) 0) c.deref.ensures.value)

pub returns-clause-kept : goal.returns-clause-kept
returns-clause-kept g c =
    dropped_kept c.args.self.now c.args.leaving c.loop-place.self c.loop-place.invariant c.requires.room (c.in_default.ensures ∙ ap (position_from (leaves c.args.leaving) 0) c.deref.ensures.value)
