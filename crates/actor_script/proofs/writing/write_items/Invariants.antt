use Rattle.std.proofs.Common.{◌≤◌, take}
use Rattle.std.specs.List.{flat_map}
use Rattle.actor_script.specs.Text.{item_text}
use Rattle.actor_script.specs.Writing.{Writes}
use Rattle.actor_script.proofs.writing.write_items.Given as goal

abbrev pub invariant-loop-item : goal.invariant-loop-item
invariant-loop-item g l =
    let K = g.K.Sink in
    record {
      faults : K.faults l.fn.sink ≤ K.faults l.sink;
      done : Writes (K.written l.fn.sink) (K.written l.sink) (flat_map item_text (take l.item-index l.items));
    }
