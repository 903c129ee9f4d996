-- A port is made, as a call of the ports: the manager isn't called.
use Rattle.std.proofs.Common.{◌≡◌, ℕ, refl, sym, ap, subst, arith}
use Rattle.vm_ids.specs.declared.command.PortCommand.TheVariants as commands
use Rattle.gmi_calls.proofs.Rising.{rise_none}
use Rattle.interface_callers.proofs.Words.{Answer, GhostsOfGmi, GhostsOfMapper, no_counts, segments_of}
use Rattle.transit_ipc.specs.Calling.{IsMade, PortCall}
use Rattle.transit_ipc.specs.Stepping.{StepAt}
use Rattle.transit_ipc.specs.Tying.{AreAble, CanCall}
use Rattle.transit_ipc.specs.declared.table.Ports.{Ports}
use Rattle.transit_ipc.proofs.Seeing.WithoutBytes.{over, step_over}

pub made_call : {Manager X Chooser : Type 0} (M : GhostsOfMapper X) (G : GhostsOfGmi Manager X Chooser) (mapper : X) (old new : Ports Manager) (depth : ℕ) (a : Answer) → CanCall G old (M.held mapper) (M.page_bytes mapper) → IsMade old depth a new
    → PortCall M G mapper old (commands.Port depth) a mapper new
made_call {Manager} M G mapper old new depth a can made =
    let told = M.held mapper in
    let segments = segments_of told in
    let m = G.machine old.gmi told in
    let able : AreAble G old.gmi told (M.page_bytes mapper) new.ports.items = record {
      valid = can.valid;
      unlimited = can.unlimited;
      fits = can.fits;
      live = can.live;
      tied = made.tied m can.tied;
      blank = can.blank;
    } in
    record {
      can = subst (λ (gmi : Manager). AreAble G gmi told (M.page_bytes mapper) new.ports.items) (sym made.gmi) able;
      made = let same : G.made new.gmi ≡ G.made old.gmi = ap G.made made.gmi in omega (arith, same);
      rises = no_counts;
      rose = rise_none (M.counts mapper);
      is = record {
        reaches = refl;
        step = subst (λ (gmi : Manager). StepAt segments (over segments m old.ports.items) (commands.Port depth) a no_counts (over segments (G.machine gmi told) new.ports.items)) (sym made.gmi)
            (step_over told told m m old.ports.items new.ports.items (commands.Port depth) a no_counts can.blank can.blank refl tt (made.outcome m));
        segments = refl;
      };
    }
