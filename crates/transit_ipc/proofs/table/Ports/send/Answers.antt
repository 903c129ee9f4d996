use Rattle.std.proofs.Common.{◌≡◌, ◌<◌, [], ◌∷◌, ◌++◌, set, get_or, Err, slice_get, refl, sym, ap, subst, ◌∙◌, arith}
use Rattle.std.specs.VecDeque.{deque_capacity, deque_len}
use Rattle.std.proofs.result.Match.{err_is}
use Rattle.std.proofs.lemmas.Option.{get_or_from_slice_get}
use Rattle.vm_ids.specs.declared.reply.Trouble.TheVariants.{Refused}
use Rattle.interface_callers.proofs.Words.{done_by}
use Rattle.transit_ipc.specs.declared.port.Message.{Message}
use Rattle.transit_ipc.specs.declared.port.Port.{Port}
use Rattle.transit_ipc.specs.declared.table.Ports.{Ports}
use Rattle.transit_ipc.proofs.Seeing.MarkTable.{table_sent}
use Rattle.transit_ipc.proofs.Commands.Send.{failed_few, failed_fits, fits_still, found_at, has_place, has_room, made_few, send_done, send_failed, send_full, send_lacks, send_nobody}
use Rattle.transit_ipc.proofs.table.Ports.send.Goals as goal

pub returns-in_err-place : goal.returns-in_err-place
returns-in_err-place g c =
    rw (err_is c.from_residual.result _ c.from_residual.ensures.1 ∙ ap (λ r. Err (Refused r)) c.in_err-place.ensures.refusal)
    (send_nobody g.M.Mapper g.G.Gmi c.args.self.now c.args.mapper.now c.requires.can c.args.port c.args.extent c.in_err-place.ensures.nowhere)

pub returns-then-is_full : goal.returns-then-is_full
returns-then-is_full g c =
    let p = found_at c.args.self.now.ports.items c.in_ok-place.place c.in_ok-place.ensures.found.1 in
    send_full g.M.Mapper g.G.Gmi c.args.self.now c.args.mapper.now c.requires.can c.args.port c.args.extent c.in_ok-place.place p.0 p.1 (omega (arith, c.in_ok-place.ensures.found.0)) (sym (c.is_full.ensures p.0 p.1) ∙ c.if-is_full.true)

pub returns-in_err-cache : goal.returns-in_err-cache
returns-in_err-cache g c =
    let p = found_at c.args.self.now.ports.items c.in_ok-place.place c.in_ok-place.ensures.found.1 in
    rw (err_is c.from_residual-in_err-cache.result _ c.from_residual-in_err-cache.ensures.1)
    (send_lacks g.M.Mapper g.G.Gmi c.args.self.now c.args.mapper.now c.requires.can c.args.port c.args.extent c.in_ok-place.place p.0 p.1 (omega (arith, c.in_ok-place.ensures.found.0)) (sym (c.is_full.ensures p.0 p.1) ∙ c.if-is_full.false)
    _ refl c.in_err-cache.field-0.0 c.in_err-cache.ensures)

pub fill-requires-clause-made : goal.fill-requires-clause-made
fill-requires-clause-made g c =
    let p = found_at c.args.self.now.ports.items c.in_ok-place.place c.in_ok-place.ensures.found.1 in
    made_few g.M.Mapper g.G.Gmi c.args.self.now c.args.mapper.now c.requires.can c.args.port c.args.extent c.in_ok-place.place p.0 p.1 (omega (arith, c.in_ok-place.ensures.found.0)) (sym (c.is_full.ensures p.0 p.1) ∙ c.if-is_full.false)
    c.make_temp.new.self c.in_ok-cache.cache c.in_ok-cache.ensures c.requires.made

pub fill-requires-clause-fits : goal.fill-requires-clause-fits
fill-requires-clause-fits g c =
    let p = found_at c.args.self.now.ports.items c.in_ok-place.place c.in_ok-place.ensures.found.1 in
    fits_still g.M.Mapper g.G.Gmi c.args.self.now c.args.mapper.now c.requires.can c.args.port c.args.extent c.in_ok-place.place p.0 p.1 (omega (arith, c.in_ok-place.ensures.found.0)) (sym (c.is_full.ensures p.0 p.1) ∙ c.if-is_full.false)
    c.make_temp.new.self c.in_ok-cache.cache c.in_ok-cache.ensures

pub index_mut-requires : goal.index_mut-requires
index_mut-requires g c =
    let p = found_at c.args.self.now.ports.items c.in_ok-place.place c.in_ok-place.ensures.found.1 in
    let within = has_place g.M.Mapper g.G.Gmi c.args.self.now c.args.mapper.now c.requires.can c.args.port c.args.extent c.in_ok-place.place p.0 p.1 (omega (arith, c.in_ok-place.ensures.found.0)) (sym (c.is_full.ensures p.0 p.1) ∙ c.if-is_full.false)
    c.make_temp.new.self c.in_ok-cache.cache c.in_ok-cache.ensures c.fill.new.self.ports.items c.fill.new.self.transit.items
    (ap (λ (s : Ports g.row.G.Denot). s.ports.items) c.in-Ok.ensures.same) c.fill.new.self.table in
    omega (arith, within, c.fill.new.self.transit.ok)

pub invariant_of-self-in-Ok : goal.invariant_of-self-in-Ok
invariant_of-self-in-Ok g c =
    let p = found_at c.args.self.now.ports.items c.in_ok-place.place c.in_ok-place.ensures.found.1 in
    let here : Port = c.index_mut-in-Ok.result.now in
    let there = ap (λ (s : Ports g.row.G.Denot). slice_get s.ports.items c.in_ok-place.place) c.in-Ok.ensures.same ∙ p.1 in
    let same : here ≡ p.0 = c.index_mut-in-Ok.ensures.value ∙ get_or_from_slice_get c.fill.new.self.ports.items c.in_ok-place.place p.0 here there in
    let q : Port = record { depth = here.depth; messages = c.push_back_reserved.new.self } in
    let x : Message = record { cache = c.in_ok-cache.cache; pages = c.args.extent.pages } in
    let within = has_place g.M.Mapper g.G.Gmi c.args.self.now c.args.mapper.now c.requires.can c.args.port c.args.extent c.in_ok-place.place p.0 p.1 (omega (arith, c.in_ok-place.ensures.found.0)) (sym (c.is_full.ensures p.0 p.1) ∙ c.if-is_full.false)
    c.make_temp.new.self c.in_ok-cache.cache c.in_ok-cache.ensures c.fill.new.self.ports.items c.fill.new.self.transit.items
    (ap (λ (s : Ports g.row.G.Denot). s.ports.items) c.in-Ok.ensures.same) c.fill.new.self.table in
    record {
      table = table_sent c.fill.new.self.ports.items c.fill.new.self.transit.items c.fill.new.self.table c.in_ok-place.place p.0 q there x
          (c.push_back_reserved.ensures.items ∙ ap (λ (r : Port). r.messages.items ++ x ∷ []) same) within;
    }

pub push_back_reserved-requires : goal.push_back_reserved-requires
push_back_reserved-requires g c =
    let p = found_at c.args.self.now.ports.items c.in_ok-place.place c.in_ok-place.ensures.found.1 in
    let here : Port = c.index_mut-in-Ok.result.now in
    let same : here ≡ p.0 = c.index_mut-in-Ok.ensures.value ∙ ap (λ (s : Ports g.row.G.Denot). get_or s.ports.items c.in_ok-place.place here) c.in-Ok.ensures.same ∙ get_or_from_slice_get c.args.self.now.ports.items c.in_ok-place.place p.0 here p.1 in
    let room = has_room g.M.Mapper g.G.Gmi c.args.self.now c.args.mapper.now c.requires.can c.args.port c.args.extent c.in_ok-place.place p.0 p.1 (omega (arith, c.in_ok-place.ensures.found.0)) (sym (c.is_full.ensures p.0 p.1) ∙ c.if-is_full.false) in
    let less : deque_len p.0.messages < deque_capacity p.0.messages = omega (arith, p.0.messages.ok.0, room) in
    subst (λ (q : Port). deque_len q.messages < deque_capacity q.messages) (sym same) less

pub destroy-requires-clause-made : goal.destroy-requires-clause-made
destroy-requires-clause-made g c =
    let p = found_at c.args.self.now.ports.items c.in_ok-place.place c.in_ok-place.ensures.found.1 in
    failed_few g.M.Mapper g.G.Gmi c.args.self.now c.args.mapper.now c.requires.can c.args.port c.args.extent c.in_ok-place.place p.0 p.1 (omega (arith, c.in_ok-place.ensures.found.0)) (sym (c.is_full.ensures p.0 p.1) ∙ c.if-is_full.false)
    c.make_temp.new.self c.in_ok-cache.cache c.in_ok-cache.ensures c.requires.some c.fill.new.mapper c.fill.new.self.gmi c.in-Err.trouble c.in-Err.ensures.call c.requires.made

pub destroy-requires-clause-fits : goal.destroy-requires-clause-fits
destroy-requires-clause-fits g c =
    let p = found_at c.args.self.now.ports.items c.in_ok-place.place c.in_ok-place.ensures.found.1 in
    failed_fits g.M.Mapper g.G.Gmi c.args.self.now c.args.mapper.now c.requires.can c.args.port c.args.extent c.in_ok-place.place p.0 p.1 (omega (arith, c.in_ok-place.ensures.found.0)) (sym (c.is_full.ensures p.0 p.1) ∙ c.if-is_full.false)
    c.make_temp.new.self c.in_ok-cache.cache c.in_ok-cache.ensures c.requires.some c.fill.new.mapper c.fill.new.self.gmi c.in-Err.trouble c.in-Err.ensures.call

pub returns-in-Ok : goal.returns-in-Ok
returns-in-Ok g c =
    let p = found_at c.args.self.now.ports.items c.in_ok-place.place c.in_ok-place.ensures.found.1 in
    let here : Port = c.index_mut-in-Ok.result.now in
    let same : here ≡ p.0 = c.index_mut-in-Ok.ensures.value ∙ ap (λ (s : Ports g.row.G.Denot). get_or s.ports.items c.in_ok-place.place here) c.in-Ok.ensures.same ∙ get_or_from_slice_get c.args.self.now.ports.items c.in_ok-place.place p.0 here p.1 in
    let q : Port = record { depth = here.depth; messages = c.push_back_reserved.new.self } in
    let x : Message = record { cache = c.in_ok-cache.cache; pages = c.args.extent.pages } in
    send_done g.M.Mapper g.G.Gmi c.args.self.now c.args.mapper.now c.requires.can c.args.port c.args.extent c.in_ok-place.place p.0 p.1 (omega (arith, c.in_ok-place.ensures.found.0)) (sym (c.is_full.ensures p.0 p.1) ∙ c.if-is_full.false)
    c.make_temp.new.self c.in_ok-cache.cache c.in_ok-cache.ensures c.requires.some c.fill.new.mapper _ c.in-Ok.ensures.call q
    (ap (λ (s : Ports g.row.G.Denot). set s.ports.items c.in_ok-place.place q) c.in-Ok.ensures.same)
    (ap (λ (r : Port). r.depth) same)
    (c.push_back_reserved.ensures.capacity ∙ ap (λ (r : Port). deque_capacity r.messages) same)
    (c.push_back_reserved.ensures.items ∙ ap (λ (r : Port). r.messages.items ++ x ∷ []) same)

pub returns-in-Err : goal.returns-in-Err
returns-in-Err g c =
    let p = found_at c.args.self.now.ports.items c.in_ok-place.place c.in_ok-place.ensures.found.1 in
    send_failed g.M.Mapper g.G.Gmi c.args.self.now c.args.mapper.now c.requires.can c.args.port c.args.extent c.in_ok-place.place p.0 p.1 (omega (arith, c.in_ok-place.ensures.found.0)) (sym (c.is_full.ensures p.0 p.1) ∙ c.if-is_full.false)
    c.make_temp.new.self c.in_ok-cache.cache c.in_ok-cache.ensures c.requires.some c.fill.new.mapper c.fill.new.self.gmi c.in-Err.trouble c.in-Err.ensures.call
    c.destroy.new.mapper _ (done_by c.destroy.result) c.destroy.ensures
    (ap (λ (s : Ports g.row.G.Denot). s.ports.items) c.in-Err.ensures.same)
