use Rattle.std.proofs.Common.{is_none, option_map, sym, ap, ◌∙◌}
use Rattle.local_cache.specs.Reading.{name_of, page_of}
use Rattle.history_tree.proofs.Inheriting.{child_held, heir_child, heir_past, heir_stub}
use Rattle.history_tree.proofs.heirs.heir.Goals as goal

pub own_state-requires : goal.own_state-requires
own_state-requires c = let r = c.requires in child_held c.args.caches.now r.sound c.args.node r.node r.live c.in-Some.child c.in-Some.ensures

pub returns-then-is_absent-clause-heir : goal.returns-then-is_absent-clause-heir
returns-then-is_absent-clause-heir c =
    let r = c.requires in
    sym (heir_child c.args.caches.now r.sound c.args.node r.node r.live c.in-Some.child c.in-Some.ensures
    (ap (λ s. is_none (page_of s)) (sym c.own_state.ensures) ∙ sym c.is_absent.ensures.page ∙ c.if-is_absent.true))

pub returns-then-is_absent-clause-held : goal.returns-then-is_absent-clause-held
returns-then-is_absent-clause-held c = let r = c.requires in child_held c.args.caches.now r.sound c.args.node r.node r.live c.in-Some.child c.in-Some.ensures

pub returns-else-is_absent-clause-heir : goal.returns-else-is_absent-clause-heir
returns-else-is_absent-clause-heir c =
    let r = c.requires in
    ap (option_map (name_of c.args.caches.now)) c.first_stub.ensures
    ∙ sym (heir_past c.args.caches.now r.sound c.args.node r.node r.live c.in-Some.child c.in-Some.ensures
    (ap (λ s. is_none (page_of s)) (sym c.own_state.ensures) ∙ sym c.is_absent.ensures.page ∙ c.if-is_absent.false))

pub returns-in-None-clause-heir : goal.returns-in-None-clause-heir
returns-in-None-clause-heir c =
    let r = c.requires in
    ap (option_map (name_of c.args.caches.now)) c.first_stub-in-None.ensures ∙ sym (heir_stub c.args.caches.now r.sound c.args.node r.node c.in-None.ensures)
