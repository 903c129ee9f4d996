-- The answers of a run lead from one state to the next.
use Rattle.std.proofs.Common.{◌≡◌, List, [], ◌∷◌, ◌++◌, ap, subst}
use Rattle.vm_model.specs.Events.{Event, Leads, Stand, steps_of}
use Rattle.vm_model.specs.Events.Event.{line, park, pause, delivery}
use Rattle.vm_model.specs.RunLaws.{RunsAreChains}
use Rattle.vm_model.specs.Run.{command_semantics}
use Rattle.vm_model.specs.Steps.{Chain, Semantics, Step}

module _ (S : Semantics) where
  pub chain_then : (s : S.State) (xs : List (Step S.Read)) (t : S.State) (ys : List (Step S.Read)) (u : S.State) → Chain S s xs t → Chain S t ys u → Chain S s (xs ++ ys) u
  chain_then s [] t ys u p q = subst (λ (r : S.State). Chain S r ys u) p q
  chain_then s (x ∷ xs) t ys u p q = (p.0, p.1, chain_then p.0 xs t ys u p.2 q)

  -- where an event leaves the state
  stays : (a b : Stand S) (steps : List (Step S.Read)) (u : S.State) → b.state ≡ a.state → Chain S b.state steps u → Chain S a.state steps u
  stays a b steps u same c = subst (λ (r : S.State). Chain S r steps u) same c

  pub leads_chain : (reads : List S.Read) (a : Stand S) (events : List (Event S.Read)) (b : Stand S) → Leads S reads a events b → Chain S a.state (steps_of events) b.state
  leads_chain reads a [] b h = ap (λ (s : Stand S). s.state) h
  leads_chain reads a (line step ∷ events) b h = (h.0.state, h.1.is, leads_chain reads h.0 events b h.2)
  leads_chain reads a (park number read ∷ events) b h =
      stays a h.0 (steps_of events) b.state (ap (λ (s : Stand S). s.state) h.1.leaves) (leads_chain reads h.0 events b h.2)
  leads_chain reads a (pause ∷ events) b h =
      stays a h.0 (steps_of events) b.state (ap (λ (s : Stand S). s.state) h.1.leaves) (leads_chain reads h.0 events b h.2)
  leads_chain reads a (delivery turn place first others ∷ events) b h =
      chain_then a.state (first ∷ others) h.0.state (steps_of events) b.state h.1.chain (leads_chain reads h.0 events b h.2)

pub runs_are_chains : RunsAreChains
runs_are_chains before reads events after run = leads_chain command_semantics reads _ events after run
