-- Steps of ports where the mapper doesn't tell what it holds, and what is told after a call.
use Rattle.std.proofs.Common.{◌≡◌, ℕ, ◌+◌, Bool, true, false, List, [], ◌∷◌, Option, Some, None, refl, sym, ap, subst, ◌∙◌}
use Rattle.std.specs.Prelude.{All, IsSome, option_and_then, slice_get}
use Rattle.std.proofs.lemmas.List.Elements.{All-cons, All-head, All-tail}
use Rattle.vm_ids.specs.declared.command.PortCommand.{PortCommand}
use Rattle.vm_ids.specs.declared.command.PortCommand.TheVariants.{Plain}
use Rattle.vm_model.specs.Outcome as plain
use Rattle.interface_callers.proofs.Words.{Answer, Cache, Command, HasWholePages, IsAlike, IsWhole, Machine, MapperCounts, OutcomeAt, PageForest, PushRule, Segments, UntoldStep, blank, cache_named, page_named}
use Rattle.interface_callers.proofs.Naming.{after_none, named_cache}
use Rattle.transit_ipc.specs.Outcome.{Outcome}
use Rattle.transit_ipc.specs.Seen.{but_for, ports_seen}
use Rattle.transit_ipc.specs.Stepping.{FindsAllBytes, StepAt, WholeStep, forget}
use Rattle.transit_ipc.specs.Transit.{is_transit}
use Rattle.transit_ipc.specs.Tying.{AreTied}
use Rattle.transit_ipc.specs.declared.port.Port.{Port}
use Rattle.transit_ipc.proofs.Seeing.WithoutBytes.{over, seen_blank}
use Rattle.transit_ipc.proofs.Ties.Followed.{tied_whole}
use Rattle.transit_ipc.proofs.Seeing.Seen.{shown}

-- Machines without bytes, by those with bytes

over_blank : (told : Option Segments) (m w : Machine) (ports : List Port) → m ≡ blank w → over told m ports ≡ forget (over told w ports)
over_blank told m w ports is = ap (λ (x : Machine). over told x ports) is ∙ (λ i. record { ports = seen_blank w ports i; segments = told })

-- Pages that are whole are seen so.

shown_whole : (page_bytes : ℕ) (hidden : Bool) (c : Option Cache) → IsWhole page_bytes c → IsWhole page_bytes (shown hidden c)
shown_whole page_bytes true c whole = tt
shown_whole page_bytes false c whole = whole

seen_whole : (page_bytes : ℕ) (hidden : ℕ → Bool) (k : ℕ) (cs : List (Option Cache)) → All (IsWhole page_bytes) cs → All (IsWhole page_bytes) (but_for hidden k cs)
seen_whole page_bytes hidden k [] whole = whole
seen_whole page_bytes hidden k (c ∷ cs) whole =
    All-cons (IsWhole page_bytes) (shown (hidden k) c) (but_for hidden (k + 1) cs) (shown_whole page_bytes (hidden k) c (All-head (IsWhole page_bytes) c cs whole)) (seen_whole page_bytes hidden (k + 1) cs (All-tail (IsWhole page_bytes) c cs whole))

finds_all : (command : PortCommand) (w : Machine) (ports : List Port) → HasWholePages w → FindsAllBytes command (ports_seen w ports)
finds_all (Plain command) w ports whole = seen_whole w.page_bytes (is_transit ports) 1 w.caches whole
finds_all command w ports whole = tt

-- A step between machines without bytes, by one of machines with bytes that these are but for them.
pub step_untold : (before now : Option Segments) (m n w next : Machine) (ports later : List Port) (command : PortCommand) (a b : Answer) (h : Segments) (rises : MapperCounts)
    → m ≡ blank w → n ≡ blank next → IsAlike b a → Outcome (ports_seen w ports) command h b (ports_seen next later) rises
    → FindsAllBytes command (ports_seen w ports) → UntoldStep forget (WholeStep command rises) (over before m ports) a (over now n later)
step_untold before now m n w next ports later command a b h rises is is_next alike outcome bytes = record {
  whole = over before w ports;
  whole_next = over now next later;
  segments = h;
  whole_answer = b;
  is = over_blank before m w ports is;
  is_next = over_blank now n next later is_next;
  alike = alike;
  leads = record { bytes = bytes; outcome = outcome };
}

-- One call of the manager that is the whole step: where a machine to which the ports are tied has
-- the outcome of the call, it is that of the ports.
pub step_called : (before now : Option Segments) (m n : Machine) (ports later : List Port) → AreTied m ports → (f : Option PageForest) (c : Command) (a : Answer) (rises : MapperCounts) (command : PortCommand)
    → ((x y : Machine) → AreTied x ports → (h : Segments) (b : Answer) → plain.Outcome x f c h b y rises → Outcome (ports_seen x ports) command h b (ports_seen y later) rises)
    → OutcomeAt now m f c a n rises → StepAt now (over before m ports) command a rises (over now n later)
step_called before None m n ports later tied f c a rises command leads o =
    step_untold before None m n o.whole o.whole_next ports later command a o.whole_answer o.segments rises o.is o.is_next o.alike
    (leads o.whole o.whole_next (tied_whole ports o.whole (subst (λ (x : Machine). AreTied x ports) o.is tied)) o.segments o.whole_answer o.outcome)
    (finds_all command o.whole ports o.pages)
step_called before (Some h) m n ports later tied f c a rises command leads o = leads m n tied h a o

-- No segment changes

module _ (m : Machine) (ports : List Port) (tied : AreTied m ports) where
  no_page : (seg page : ℕ) → page_named m seg page ≡ None
  no_page seg page = by (cache_named m.caches seg) refl
    where
      by : (o : Option Cache) → cache_named m.caches seg ≡ o → option_and_then (λ (c : Cache). slice_get c.pages page) (cache_named m.caches seg) ≡ None
      by None e = ap (option_and_then (λ (c : Cache). slice_get c.pages page)) e
      by (Some c) e = let n = named_cache m seg c e in absurd (let wrong : Some seg ≡ None = sym n.2 ∙ tied.temporary n.0 c n.1 in cc wrong)

  pub segments_stay : (before now : Option Segments) (pushes : List (ℕ × ℕ)) → PushRule m before pushes now → now ≡ before
  segments_stay None now pushes rule = rule.pushed ∙ after_none m pushes
  segments_stay (Some s) now [] rule = rule.pushed
  segments_stay (Some s) now (p ∷ ps) rule = absurd (let wrong : IsSome (let none : Option (List ℕ) = None in none) = subst IsSome (no_page p.0 p.1) rule.may.0.0 in cc wrong)
