-- A temporary cache is made, where caches that are kept make room.
use Rattle.std.proofs.Common.{ℕ}
use Rattle.std.specs.Prelude.{Err}
use Rattle.vm_ids.specs.declared.command.Command.TheVariants as vm_commands
use Rattle.interface_callers.proofs.Words.{GhostsOfGmi, GhostsOfMapper, segments_of}
use Rattle.interface_callers.proofs.Making.{unmade_at}
use Rattle.seg_manager.specs.Tying.{CanCall}
use Rattle.seg_manager.specs.declared.manager.SegManager.{SegManager}
use Rattle.seg_manager.proofs.Calling.CallAgain.{call_is, forest}
use Rattle.seg_manager.proofs.Room.Tried.{Leaves}

pub temp_leaves : {Manager X Chooser : Type 0} (M : GhostsOfMapper X) (G : GhostsOfGmi Manager X Chooser) (manager : SegManager Manager) (mapper : X) (can : CanCall G manager (M.held mapper) (M.page_bytes mapper)) (pages : ℕ)
    → Leaves M G mapper manager (vm_commands.MakeTemp pages) manager.gmi mapper
temp_leaves M G manager mapper can pages t after gmi call =
    let it = call_is M G manager gmi mapper after (vm_commands.MakeTemp pages) (Err t) can call in
    (unmade_at (segments_of (M.held after)) (G.machine manager.gmi (M.held mapper)) (forest M G manager gmi mapper after (vm_commands.MakeTemp pages) (Err t) can call) pages t (G.machine gmi (M.held after)) it.rises it.is.outcome).next
