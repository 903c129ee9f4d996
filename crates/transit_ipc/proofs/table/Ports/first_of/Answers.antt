use Rattle.std.proofs.Common.{◌≡◌, inl, inr, List, [], ◌∷◌, length, refl, sym, ap, ◌∙◌, arith}
use Rattle.std.specs.VecDeque.{deque_len}
use Rattle.std.proofs.lemmas.Option.{get_or_from_slice_get}
use Rattle.vm_model.proofs.Parts.ListParts.{zero_or}
use Rattle.transit_ipc.specs.declared.port.Message.{Message}
use Rattle.transit_ipc.specs.declared.port.Port.{Port}
use Rattle.transit_ipc.proofs.table.Ports.first_of.Goals as goal

no_length : (xs : List Message) → length xs ≡ 0 → xs ≡ []
no_length [] e = refl
no_length (x ∷ xs) e = absurd (omega (arith, e))

pub returns-in-None : goal.returns-in-None
returns-in-None g c = λ p e.
    let here : Port = c.index.result.now in
    let same : here ≡ p = c.index.ensures ∙ get_or_from_slice_get c.args.self.now.ports.items c.args.place p here e in
    let none : deque_len here.messages ≡ 0 = elim (zero_or (deque_len here.messages)) [ inl z ↦ z | inr some ↦ absurd (cc (c.in-None.ensures.variant.1 some)) ] in
    ap (λ (q : Port). q.messages.items) (sym same) ∙ no_length here.messages.items (sym here.messages.ok.0 ∙ none)
