-- After a call of the manager the ports can call it again.
use Rattle.std.proofs.Common.{◌≡◌, ℕ, ◌+◌, ◌*◌, ◌≤◌, List, Option, Some, None, refl, sym, ap, subst, arith}
use Rattle.vm_ids.specs.declared.command.Command.TheVariants.{Map}
use Rattle.vm_ids.specs.declared.command.PortCommand.TheVariants.{Plain}
use Rattle.vm_model.specs.Outcome as plain
use Rattle.vm_model.specs.Run.{CallIs}
use Rattle.vm_model.specs.Run as vm_run
use Rattle.gmi_calls.proofs.Still.{without_mapper}
use Rattle.interface_callers.proofs.Words.{ActorId, Answer, CallDone, Command, GhostsOfGmi, GhostsOfMapper, LIVE_PAGES, Machine, MapperCall, MapperCounts, Mapping, OutcomeAt, PageForest, ReachesMapper, Segments, meanings_of, segments_of}
use Rattle.interface_callers.proofs.Calls as calls
use Rattle.transit_ipc.specs.Calling.{IsServed, PortCall}
use Rattle.transit_ipc.specs.Inner.{mapping_shown}
use Rattle.transit_ipc.specs.Stepping.{StepAt}
use Rattle.transit_ipc.specs.Tying.{AreAble, AreTied, CanCall}
use Rattle.transit_ipc.specs.declared.port.Port.{Port}
use Rattle.transit_ipc.specs.declared.table.Ports.{Ports}
use Rattle.transit_ipc.proofs.Seeing.WithoutBytes.{over}
use Rattle.transit_ipc.proofs.Ties.Followed.{IsFollowed, tied_blank, tied_followed, tied_whole}
use Rattle.transit_ipc.proofs.Calling.PassedOn.{IsNoMap, IsPassed, map_passed, outcome_follows, outcome_passed, passed}
use Rattle.transit_ipc.proofs.Calling.UntoldSteps.{segments_stay, step_called}

-- One call of the manager raises the number that bounds its counters by no more than this.
abbrev pub one_call : ℕ
one_call = 32 * LIVE_PAGES + 8

module _ {Manager X Chooser : Type 0} (M : GhostsOfMapper X) (G : GhostsOfGmi Manager X Chooser) (old gmi : Manager) (before after : X) (c : Command) (a : Answer) (ports : List Port)
    (can : AreAble G old (M.held before) (M.page_bytes before) ports) (call : MapperCall M (meanings_of G) before old c a after gmi) where
  abbrev pub m : Machine
  m = G.machine old (M.held before)

  abbrev pub n : Machine
  n = G.machine gmi (M.held after)

  abbrev pub call_is : CallIs (M.counts before) (M.counts after) (vm_run.state_of G.machine G.forest old (M.held before)) c a (vm_run.state_of G.machine G.forest gmi (M.held after))
  call_is = calls.call_is M G old gmi before after c a can.unlimited call

  pub made_after : G.made gmi ≤ G.made old + one_call
  made_after = omega (arith, calls.made_after M G old gmi before after c a can.unlimited call can.live)

  -- no segment changes
  pub segments_after : segments_of (M.held after) ≡ segments_of (M.held before)
  segments_after = segments_stay m ports can.tied (segments_of (M.held before)) (segments_of (M.held after)) call_is.pushes call_is.is.pushed

  -- the ports that are tied to the manager as it is then can call it
  pub able_after : (later : List Port) → AreTied n later → AreAble G gmi (M.held after) (M.page_bytes after) later
  able_after later tied = record {
    valid = call.valid;
    unlimited = calls.unlimited_after M G old gmi before after c a can.unlimited call;
    fits = calls.fits_after M G old gmi before after c a can.unlimited call can.fits;
    live = (calls.keeps M G old gmi before after c a can.unlimited call).live can.live;
    tied = tied;
    blank = calls.blank_then M G old gmi before after c a can.unlimited call;
  }

  -- The ports stay tied where they do with bytes.
  pub tied_after : ((x y : Machine) → AreTied x ports → (h : Segments) (b : Answer) → plain.Outcome x (G.forest old (M.held before)) c h b y call_is.rises → IsFollowed ports x y) → AreTied n ports
  tied_after follows = go (segments_of (M.held after)) call_is.is.outcome
    where
      then_tied : (x y : Machine) → AreTied x ports → (h : Segments) (b : Answer) → plain.Outcome x (G.forest old (M.held before)) c h b y call_is.rises → AreTied y ports
      then_tied x y tied h b o = tied_followed ports x y tied (follows x y tied h b o)

      go : (told : Option Segments) → OutcomeAt told m (G.forest old (M.held before)) c a n call_is.rises → AreTied n ports
      go None o =
          let tied : AreTied o.whole ports = tied_whole ports o.whole (subst (λ (x : Machine). AreTied x ports) o.is can.tied) in
          subst (λ (x : Machine). AreTied x ports) (sym o.is_next) (tied_blank ports o.whole_next (then_tied o.whole o.whole_next tied o.segments o.whole_answer o.outcome))
      go (Some h) o = then_tied m n can.tied h a o

-- A command is passed on to the manager.
module _ {Manager X Chooser : Type 0} (M : GhostsOfMapper X) (G : GhostsOfGmi Manager X Chooser) (old new : Ports Manager) (before after : X) (c : Command) (a : Answer)
    (can : CanCall G old (M.held before) (M.page_bytes before)) (same : new.ports.items ≡ old.ports.items) (call : MapperCall M (meanings_of G) before old.gmi c a after new.gmi) where
  abbrev gmi : Manager
  gmi = new.gmi

  abbrev ports : List Port
  ports = old.ports.items

  pub call_passed : (command : Command) → ((rises : MapperCounts) → ReachesMapper c rises → ReachesMapper command rises) → ((x : Machine) → AreTied x ports → IsPassed ports x c command) → PortCall M G before old (Plain command) a after new
  call_passed command reaches passed =
      let it = call_is M G old.gmi gmi before after c a ports can call in
      let f : Option PageForest = G.forest old.gmi (M.held before) in
      let tied : AreTied (G.machine gmi (M.held after)) ports = tied_after M G old.gmi gmi before after c a ports can call
      (λ x y tied h b o. outcome_follows ports x y tied c command f h b it.rises (passed x tied) o) in
      record {
        can = subst (AreAble G gmi (M.held after) (M.page_bytes after)) (sym same) (able_after M G old.gmi gmi before after c a ports can call ports tied);
        made = omega (arith, made_after M G old.gmi gmi before after c a ports can call);
        rises = it.rises;
        rose = it.rose;
        is = record {
          reaches = reaches it.rises it.is.reaches;
          step = subst (λ (ps : List Port). StepAt (segments_of (M.held after)) (over (segments_of (M.held before)) (G.machine old.gmi (M.held before)) ports) (Plain command) a it.rises (over (segments_of (M.held after)) (G.machine gmi (M.held after)) ps)) (sym same)
              (step_called (segments_of (M.held before)) (segments_of (M.held after)) (G.machine old.gmi (M.held before)) (G.machine gmi (M.held after)) ports ports can.tied f c a it.rises (Plain command)
              (λ x y tied h b o. outcome_passed ports x y c command f h b it.rises (passed x tied) o) it.is.outcome);
          segments = segments_after M G old.gmi gmi before after c a ports can call;
        };
      }

-- The commands of a script

no_map : (command : Command) → ((actor : ActorId) (p : Mapping) → command ≡ Map actor p → ⊥) → IsNoMap command
no_map (Map actor p) other = other actor p refl
no_map command other = tt

module _ {Manager X Chooser : Type 0} (M : GhostsOfMapper X) (G : GhostsOfGmi Manager X Chooser) (old : Ports Manager) (before : X) (can : CanCall G old (M.held before) (M.page_bytes before)) where
  -- a map takes no mapper
  pub map_called : (new : Ports Manager) (command : Command) (actor : ActorId) (p : Mapping) (a : Answer) → command ≡ Map actor p
      → CallDone (meanings_of G) old.gmi (Map actor (mapping_shown old.ports.items p)) a new.gmi → new ≡ record old { gmi = new.gmi } → PortCall M G before old (Plain command) a before new
  map_called new command actor p a is done same =
      subst (λ (c : Command). PortCall M G before old (Plain c) a before new) (sym is)
      (call_passed M G old new before before (Map actor (mapping_shown old.ports.items p)) a can (ap (λ (s : Ports Manager). s.ports.items) same)
      (without_mapper M (meanings_of G) before old.gmi can.valid (Map actor (mapping_shown old.ports.items p)) a new.gmi done)
      (Map actor p) (λ rises quiet. quiet) (λ x tied. map_passed old.ports.items x tied actor p))

  pub other_called : (new : Ports Manager) → new.ports.items ≡ old.ports.items → (after : X) (command : Command) (a : Answer) → IsServed command → ((actor : ActorId) (p : Mapping) → command ≡ Map actor p → ⊥)
      → MapperCall M (meanings_of G) before old.gmi command a after new.gmi → PortCall M G before old (Plain command) a after new
  other_called new same after command a served other call =
      call_passed M G old new before after command a can same call command (λ rises quiet. quiet) (λ x tied. passed old.ports.items x tied command served (no_map command other))
