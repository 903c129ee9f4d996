use Rattle.std.proofs.Common.{◌≡◌, List, drop, Some, slice_get, refl, sym, ap, ◌∙◌, arith}
use Rattle.std.specs.VecDeque.{deque_capacity}
use Rattle.std.proofs.lemmas.Option.{get_or_from_slice_get}
use Rattle.transit_ipc.specs.declared.port.Message.{Message}
use Rattle.transit_ipc.specs.declared.port.Port.{Port}
use Rattle.transit_ipc.proofs.Seeing.MarkTable.{first_within, table_same, table_taken}
use Rattle.transit_ipc.proofs.Commands.Send.{found_at}
use Rattle.transit_ipc.proofs.table.Ports.take_first.Goals as goal

pub index_mut-requires-in-Some : goal.index_mut-requires-in-Some
index_mut-requires-in-Some g c =
    let p = found_at c.args.self.now.ports.items c.args.place c.requires.place in
    let here : Port = c.index_mut.result.now in
    let same : here ≡ p.0 = c.index_mut.ensures.value ∙ get_or_from_slice_get c.args.self.now.ports.items c.args.place p.0 here p.1 in
    let there : slice_get c.args.self.now.ports.items c.args.place ≡ Some here = p.1 ∙ ap Some (sym same) in
    let q : Port = record { depth = here.depth; messages = c.pop_front.new.self } in
    let first : slice_get here.messages.items 0 ≡ Some c.in-Some.message = ap (λ (ms : List Message). slice_get ms 0) c.in-Some.ensures.items in
    omega (arith, first_within c.args.self.now.ports.items c.args.self.now.transit.items c.args.self.now.table c.args.place here q there c.in-Some.message first, c.args.self.now.transit.ok)

pub invariant_of-self : goal.invariant_of-self
invariant_of-self g c =
    let p = found_at c.args.self.now.ports.items c.args.place c.requires.place in
    let here : Port = c.index_mut.result.now in
    let same : here ≡ p.0 = c.index_mut.ensures.value ∙ get_or_from_slice_get c.args.self.now.ports.items c.args.place p.0 here p.1 in
    let there : slice_get c.args.self.now.ports.items c.args.place ≡ Some here = p.1 ∙ ap Some (sym same) in
    let q : Port = record { depth = here.depth; messages = c.pop_front.new.self } in
    let first : slice_get here.messages.items 0 ≡ Some c.in-Some.message = ap (λ (ms : List Message). slice_get ms 0) c.in-Some.ensures.items in
    record { table = table_taken c.args.self.now.ports.items c.args.self.now.transit.items c.args.self.now.table c.args.place here q there c.in-Some.message first c.requires.apart c.pop_front.ensures.rest }

pub invariant_of-self-in_default : goal.invariant_of-self-in_default
invariant_of-self-in_default g c =
    let p = found_at c.args.self.now.ports.items c.args.place c.requires.place in
    let here : Port = c.index_mut.result.now in
    let same : here ≡ p.0 = c.index_mut.ensures.value ∙ get_or_from_slice_get c.args.self.now.ports.items c.args.place p.0 here p.1 in
    let there : slice_get c.args.self.now.ports.items c.args.place ≡ Some here = p.1 ∙ ap Some (sym same) in
    let q : Port = record { depth = here.depth; messages = c.pop_front.new.self } in
    record { table = table_same c.args.self.now.ports.items c.args.self.now.transit.items c.args.self.now.table c.args.place here q there (sym c.in_default.ensures.items) }

pub returns-in-Some-clause-taken : goal.returns-in-Some-clause-taken
returns-in-Some-clause-taken g c = λ p e.
    let here : Port = c.index_mut.result.now in
    let same : here ≡ p = c.index_mut.ensures.value ∙ get_or_from_slice_get c.args.self.now.ports.items c.args.place p here e in
    record {
      port = record { depth = here.depth; messages = c.pop_front.new.self };
      is = refl;
      depth = ap (λ (q : Port). q.depth) same;
      room = c.pop_front.ensures.capacity ∙ ap (λ (q : Port). deque_capacity q.messages) same;
      messages = c.pop_front.ensures.rest ∙ ap (λ (q : Port). drop 1 q.messages.items) same;
    }

pub returns-in_default-clause-taken : goal.returns-in_default-clause-taken
returns-in_default-clause-taken g c = λ p e.
    let here : Port = c.index_mut.result.now in
    let same : here ≡ p = c.index_mut.ensures.value ∙ get_or_from_slice_get c.args.self.now.ports.items c.args.place p here e in
    record {
      port = record { depth = here.depth; messages = c.pop_front.new.self };
      is = refl;
      depth = ap (λ (q : Port). q.depth) same;
      room = c.pop_front.ensures.capacity ∙ ap (λ (q : Port). deque_capacity q.messages) same;
      messages = c.pop_front.ensures.rest ∙ ap (λ (q : Port). drop 1 q.messages.items) same;
    }
