-- How far a call of the ports got in the manager, and that the ports are called then.
use Rattle.std.proofs.Common.{◌≡◌, ℕ, ◌+◌, ◌*◌, ◌≤◌, Bool, true, false, cond, List, [], Option, None, refl, sym, subst, ◌∙◌, arith}
use Rattle.std.specs.Bool.{IsTrue}
use Rattle.std.specs.Prelude.{IsSome}
use Rattle.vm_ids.specs.declared.command.PortCommand.{PortCommand}
use Rattle.gmi_calls.proofs.Rising.{rise_none, rise_then}
use Rattle.interface_callers.proofs.Words.{Answer, Cache, Command, GhostsOfGmi, GhostsOfMapper, Machine, MapperCall, MapperCounts, Rise, Segments, cache_of, counts_sum, is_mapped, meanings_of, no_counts, segments_of}
use Rattle.interface_callers.proofs.Alike.{AllTemporary}
use Rattle.transit_ipc.specs.Calling.{PortCall}
use Rattle.transit_ipc.specs.Outcome.{Outcome}
use Rattle.transit_ipc.specs.Seen.{ports_seen}
use Rattle.transit_ipc.specs.Stepping.{FindsAllBytes, Reaches}
use Rattle.transit_ipc.specs.Transit.{is_transit}
use Rattle.transit_ipc.specs.Tying.{AreAble, AreTied, CanCall}
use Rattle.transit_ipc.specs.declared.port.Port.{Port}
use Rattle.transit_ipc.specs.declared.table.Ports.{Ports}
use Rattle.transit_ipc.proofs.Calling.CallAgain.{able_after, call_is, made_after, one_call, segments_after}
use Rattle.transit_ipc.proofs.Seeing.WithoutBytes.{step_over}
use Rattle.transit_ipc.proofs.Seeing.Seen.{numbered_seen}
use Rattle.transit_ipc.proofs.Commands.PortMade.{all_seen}

-- no ports are tied to any machine to which some are
seen_there : (b : Bool) (o : Option Cache) → IsSome (cond b None o) → IsSome o
seen_there true o h = absurd (cc h)
seen_there false o h = h

pub mapped_alive : (m : Machine) (ports : List Port) → AreTied m ports → (k : ℕ) → IsTrue (is_mapped m k) → IsSome (cache_of m k)
mapped_alive m ports t k is = seen_there (is_transit ports k) (cache_of m k) (subst (λ (o : Option Cache). IsSome o) (numbered_seen (is_transit ports) m.caches k) (t.mapped k is))

pub tied_plain : (m : Machine) → AllTemporary m → ((k : ℕ) → IsTrue (is_mapped m k) → IsSome (cache_of m k)) → AreTied m []
tied_plain m all alive = record {
  messages = λ i j x w. absurd (cc w.there);
  apart = λ i j k l x y v w e. absurd (cc v.there);
  mapped = λ k is. subst (λ (cs : List (Option Cache)). IsSome (let n : Machine = record m { caches = cs } in cache_of n k)) (sym (all_seen 1 m.caches)) (alive k is);
  temporary = all;
  deep = λ i p e. absurd (cc e);
  roomy = λ i p e. absurd (cc e);
  few = omega arith;
}

pub tied_none : (m : Machine) (ports : List Port) → AreTied m ports → AreTied m []
tied_none m ports t = tied_plain m t.temporary (mapped_alive m ports t)

module _ {Manager X Chooser : Type 0} (M : GhostsOfMapper X) (G : GhostsOfGmi Manager X Chooser) (old : Ports Manager) (before : X) (can : CanCall G old (M.held before) (M.page_bytes before)) where
  abbrev m : Machine
  m = G.machine old.gmi (M.held before)

  -- After so many calls of the manager it can be called, and no segment has changed.
  pub record Goes (after : X) (gmi : Manager) (calls : ℕ) : Type 0 where
    pub able : AreAble G gmi (M.held after) (M.page_bytes after) []
    pub segments : segments_of (M.held after) ≡ segments_of (M.held before)
    pub made : G.made gmi ≤ G.made old.gmi + calls * one_call
    pub rises : MapperCounts
    pub rose : Rise (M.counts before) (M.counts after) rises

  pub goes_none : Goes before old.gmi 0
  goes_none = record {
    able = record { valid = can.valid; unlimited = can.unlimited; fits = can.fits; live = can.live; tied = tied_none m old.ports.items can.tied; blank = can.blank };
    segments = refl;
    made = omega arith;
    rises = no_counts;
    rose = rise_none (M.counts before);
  }

  pub goes_on : (mid after : X) (gmi next : Manager) (calls : ℕ) → (g : Goes mid gmi calls) → (c : Command) (a : Answer) → MapperCall M (meanings_of G) mid gmi c a after next → AreTied (G.machine next (M.held after)) [] → Goes after next (calls + 1)
  goes_on mid after gmi next calls g c a call tied =
      let it = call_is M G gmi next mid after c a [] g.able call in
      record {
        able = able_after M G gmi next mid after c a [] g.able call [] tied;
        segments = segments_after M G gmi next mid after c a [] g.able call ∙ g.segments;
        made = (let less : G.made next ≤ G.made gmi + one_call = made_after M G gmi next mid after c a [] g.able call in omega (arith, g.made, less));
        rises = counts_sum g.rises it.rises;
        rose = rise_then (M.counts before) (M.counts mid) (M.counts after) g.rises it.rises g.rose it.rose;
      }

  -- The call of the ports is done.
  pub port_call : (after : X) (new : Ports Manager) (calls : ℕ) → calls ≤ 3 → Goes after new.gmi calls → AreTied (G.machine new.gmi (M.held after)) new.ports.items → (command : PortCommand) (a : Answer) → ((rises : MapperCounts) → Reaches command rises) → FindsAllBytes command (ports_seen m old.ports.items)
      → ((h : Segments) (rises : MapperCounts) → Outcome (ports_seen m old.ports.items) command h a (ports_seen (G.machine new.gmi (M.held after)) new.ports.items) rises) → PortCall M G before old command a after new
  port_call after new calls few g tied command a reaches bytes outcome = record {
    can = record { valid = g.able.valid; unlimited = g.able.unlimited; fits = g.able.fits; live = g.able.live; tied = tied; blank = g.able.blank };
    made = omega (arith, g.made, few);
    rises = g.rises;
    rose = g.rose;
    is = record {
      reaches = reaches g.rises;
      step = step_over (M.held before) (M.held after) m (G.machine new.gmi (M.held after)) old.ports.items new.ports.items command a g.rises can.blank g.able.blank g.segments bytes (λ h. outcome h g.rises);
      segments = g.segments;
    };
  }
