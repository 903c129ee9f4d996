use Rattle.std.proofs.Common.{arith}
use Rattle.std.proofs.result.Match.{err_is}
use Rattle.std.specs.Prelude.{Ok, Err}
use Rattle.vm_ids.specs.declared.command.Command.TheVariants.{MakeTemp}
use Rattle.vm_ids.specs.declared.reply.Reply.TheVariants as replies
use Rattle.gmi_calls.proofs.Still.{without_mapper}
use Rattle.interface_callers.proofs.Words.{meanings_of}
use Rattle.seg_manager.proofs.Temps.TempCall.{temp_credit, temp_served}
use Rattle.seg_manager.proofs.Temps.TempLeaves.{temp_leaves}
use Rattle.seg_manager.proofs.Room.Thinned.{trying_none}
use Rattle.seg_manager.proofs.Room.Tried.{can_tried, made_tried, temp_row, tries_err, tries_more, tries_ok}
use Rattle.seg_manager.proofs.manager.SegManager.make_temp.Goals as goal

pub loop-cache-init : goal.loop-cache-init
loop-cache-init g c = trying_none g.M.Mapper g.G.Gmi (MakeTemp c.args.pages) c.args.mapper.now c.args.self.now c.requires.can

pub make_temp-requires-clause-made : goal.make_temp-requires-clause-made
make_temp-requires-clause-made g c = omega (arith, c.loop-cache.invariant.thins.credit, temp_credit g.M.Mapper g.G.Gmi c.args.mapper.now c.args.self.now c.args.pages c.requires.can c.requires.made)

pub make_room-requires-clause-can : goal.make_room-requires-clause-can
make_room-requires-clause-can g c =
    let leaves = temp_leaves g.M.Mapper g.G.Gmi c.loop-cache.self c.loop-cache.mapper c.loop-cache.invariant.thins.can c.args.pages in
    let call = without_mapper g.M.Mapper (meanings_of g.G.Gmi) c.loop-cache.mapper c.loop-cache.self.gmi c.loop-cache.invariant.thins.can.valid (MakeTemp c.args.pages) (Err c.in-Err.trouble) c.make_temp.new.self c.in-Err.ensures in
    can_tried g.M.Mapper g.G.Gmi c.args.mapper.now c.args.self.now (MakeTemp c.args.pages) c.loop-cache.mapper c.loop-cache.self c.loop-cache.invariant leaves (temp_row c.args.pages) c.in-Err.trouble c.loop-cache.mapper c.make_temp.new.self call

pub make_room-requires-clause-made : goal.make_room-requires-clause-made
make_room-requires-clause-made g c =
    let leaves = temp_leaves g.M.Mapper g.G.Gmi c.loop-cache.self c.loop-cache.mapper c.loop-cache.invariant.thins.can c.args.pages in
    let call = without_mapper g.M.Mapper (meanings_of g.G.Gmi) c.loop-cache.mapper c.loop-cache.self.gmi c.loop-cache.invariant.thins.can.valid (MakeTemp c.args.pages) (Err c.in-Err.trouble) c.make_temp.new.self c.in-Err.ensures in
    made_tried g.M.Mapper g.G.Gmi c.args.mapper.now c.args.self.now (MakeTemp c.args.pages) c.loop-cache.mapper c.loop-cache.self c.loop-cache.invariant leaves (temp_row c.args.pages) c.in-Err.trouble c.loop-cache.mapper c.make_temp.new.self call (temp_credit g.M.Mapper g.G.Gmi c.args.mapper.now c.args.self.now c.args.pages c.requires.can c.requires.made)

pub loop-cache-preserved : goal.loop-cache-preserved
loop-cache-preserved g c =
    let leaves = temp_leaves g.M.Mapper g.G.Gmi c.loop-cache.self c.loop-cache.mapper c.loop-cache.invariant.thins.can c.args.pages in
    let call = without_mapper g.M.Mapper (meanings_of g.G.Gmi) c.loop-cache.mapper c.loop-cache.self.gmi c.loop-cache.invariant.thins.can.valid (MakeTemp c.args.pages) (Err c.in-Err.trouble) c.make_temp.new.self c.in-Err.ensures in
    tries_more g.M.Mapper g.G.Gmi c.args.mapper.now c.args.self.now (MakeTemp c.args.pages) c.loop-cache.mapper c.loop-cache.self c.loop-cache.invariant leaves (temp_row c.args.pages) c.in-Err.trouble c.loop-cache.mapper c.make_temp.new.self call
    c.make_room.new.mapper c.make_room.new.self c.in_ok-make_room-in-Err.ensures

pub returns-in_err-make_room-in-Err : goal.returns-in_err-make_room-in-Err
returns-in_err-make_room-in-Err g c =
    let leaves = temp_leaves g.M.Mapper g.G.Gmi c.loop-cache.self c.loop-cache.mapper c.loop-cache.invariant.thins.can c.args.pages in
    let call = without_mapper g.M.Mapper (meanings_of g.G.Gmi) c.loop-cache.mapper c.loop-cache.self.gmi c.loop-cache.invariant.thins.can.valid (MakeTemp c.args.pages) (Err c.in-Err.trouble) c.make_temp.new.self c.in-Err.ensures in
    rw (err_is c.from_residual.result _ c.from_residual.ensures.1)
    (temp_served g.M.Mapper g.G.Gmi c.args.mapper.now c.args.self.now c.args.pages c.requires.can (Err c.in_err-make_room-in-Err.field-0.0) c.make_room.new.mapper c.make_room.new.self
    (tries_err g.M.Mapper g.G.Gmi c.args.mapper.now c.args.self.now (MakeTemp c.args.pages) c.loop-cache.mapper c.loop-cache.self c.loop-cache.invariant leaves (temp_row c.args.pages) c.in-Err.trouble c.loop-cache.mapper c.make_temp.new.self call
    c.in_err-make_room-in-Err.field-0.0 c.make_room.new.mapper c.make_room.new.self c.in_err-make_room-in-Err.ensures))

pub returns-in-Ok : goal.returns-in-Ok
returns-in-Ok g c =
    let leaves = temp_leaves g.M.Mapper g.G.Gmi c.loop-cache.self c.loop-cache.mapper c.loop-cache.invariant.thins.can c.args.pages in
    let call = without_mapper g.M.Mapper (meanings_of g.G.Gmi) c.loop-cache.mapper c.loop-cache.self.gmi c.loop-cache.invariant.thins.can.valid (MakeTemp c.args.pages) (Ok (replies.Cache c.in-Ok.cache)) c.make_temp.new.self c.in-Ok.ensures in
    temp_served g.M.Mapper g.G.Gmi c.args.mapper.now c.args.self.now c.args.pages c.requires.can (Ok c.in-Ok.cache) c.loop-cache.mapper (record c.loop-cache.self { gmi = c.make_temp.new.self })
    (tries_ok g.M.Mapper g.G.Gmi c.args.mapper.now c.args.self.now (MakeTemp c.args.pages) c.loop-cache.mapper c.loop-cache.self c.loop-cache.invariant leaves (temp_row c.args.pages) c.in-Ok.cache c.loop-cache.mapper c.make_temp.new.self call)
