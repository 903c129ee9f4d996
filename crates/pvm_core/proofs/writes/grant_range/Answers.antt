use Rattle.std.proofs.Common.{◌≡◌, Bool, sym, ap, subst, ◌∙◌, true, is_some}
use Rattle.std.specs.Prelude.{not, option_and_then, Result, Ok}
use Rattle.vm_ids.specs.declared.numbers.PageNo.{PageNo}
use Rattle.vm_ids.specs.declared.numbers.SegId.{SegId}
use Rattle.local_cache.specs.Arena.{Table, table_of}
use Rattle.segment_ops.specs.Access.{AllGranted, IsAccess, IsAskedFor, OneDenied}
use Rattle.segment_ops.specs.Ranges.{IsNamedBy}
use Rattle.pvm_core.specs.Writes.{GrantsWithin, KeepsNodes}
use Rattle.pvm_core.proofs.Readiness.Granted.{access_before, all_asked, grants_within, named_of, stays_granted, unasked_grants, within_itself}
use Rattle.pvm_core.proofs.writes.grant_range.Given.{Over}
use Rattle.pvm_core.proofs.writes.grant_range.Goals.{After-write_access, In-Ok-true}
use Rattle.pvm_core.proofs.writes.grant_range.Goals as goal

pub write_access-requires-clause-named : goal.write_access-requires-clause-named
write_access-requires-clause-named g c = named_of (table_of c.args.caches.now c.args.range.cache.0) (ap is_some (sym c.segment.ensures) ∙ c.is_none.ensures ∙ ap not c.if-is_none.false)

-- a segment names the cache
is_named : (g : Over) (c : After-write_access g) → is_some (option_and_then (λ (t : Table). t.segment) (table_of c.args.caches.now c.args.range.cache.0)) ≡ true
is_named g c = ap is_some (sym c.segment.ensures) ∙ c.is_none.ensures ∙ ap not c.if-is_none.false

named : (g : Over) (c : After-write_access g) → (s : SegId) × IsNamedBy c.args.caches.now c.args.range s
named g c = named_of (table_of c.args.caches.now c.args.range.cache.0) (is_named g c)

access : (g : Over) (c : After-write_access g) → IsAccess c.args.range (g.M.Mapper.held c.args.mapper.now) (named g c).0 c.args.caches.now c.write_access.new.caches c.write_access.result
access g c = c.write_access.ensures.access (named g c).0 (named g c).1

-- grants alone changed, whatever the answer is
kept : (g : Over) (c : After-write_access g) → KeepsNodes c.args.caches.now c.write_access.new.caches × GrantsWithin c.args.range c.args.caches.now c.write_access.new.caches
kept g c =
    let b = access_before c.args.range (g.M.Mapper.held c.args.mapper.now) (named g c).0 c.args.caches.now c.write_access.new.caches c.write_access.result (access g c) in (
      stays_granted c.args.range b.0 c.args.caches.now c.write_access.new.caches b.2 c.write_access.ensures.nodes c.write_access.ensures.whole,
      grants_within c.args.range b.0 c.args.caches.now c.write_access.new.caches b.1 b.2,
    )

pub returns-then-is_none-clause-all : goal.returns-then-is_none-clause-all
returns-then-is_none-clause-all g c = unasked_grants c.args.caches.now c.args.range (ap is_some (sym c.segment.ensures) ∙ c.is_none.ensures ∙ ap not c.if-is_none.true)

pub returns-then-is_none-clause-grants : goal.returns-then-is_none-clause-grants
returns-then-is_none-clause-grants g c = within_itself c.args.range c.args.caches.now

-- all pages were granted
all : (g : Over) (c : In-Ok-true g) → AllGranted c.args.range (g.M.Mapper.held c.args.mapper.now) (named g (goal.at.In-Ok-true g c).After-write_access).0 c.args.caches.now c.write_access.new.caches
all g c =
    let at = (goal.at.In-Ok-true g c).After-write_access in
    subst (IsAccess c.args.range (g.M.Mapper.held c.args.mapper.now) (named g at).0 c.args.caches.now c.write_access.new.caches) (c.in-Ok-true.is ∙ ap (λ (b : Bool). let r : Result Bool PageNo = Ok b in r) c.in-Ok-true.field-0-test) (access g at)

pub write_access-requires-clause-right : goal.write_access-requires-clause-right
write_access-requires-clause-right g c = (c.args.store.now, c.requires.right)

pub returns-in-Ok-true-clause-granted : goal.returns-in-Ok-true-clause-granted
returns-in-Ok-true-clause-granted g c = λ page of home. (all g (goal.at.returns-in-Ok-true-clause-granted g c).In-Ok-true).grants.granted page of.0 of.1

pub returns-in-Ok-true-clause-all : goal.returns-in-Ok-true-clause-all
returns-in-Ok-true-clause-all g c =
    let at = goal.at.returns-in-Ok-true-clause-all g c in
    all_asked c.args.caches.now c.write_access.new.caches c.args.range (is_named g at.After-write_access) (all g at.In-Ok-true).grants

pub returns-in-Ok-true-clause-nodes : goal.returns-in-Ok-true-clause-nodes
returns-in-Ok-true-clause-nodes g c = (kept g (goal.at.returns-in-Ok-true-clause-nodes g c).After-write_access).0

pub returns-in-Ok-true-clause-grants : goal.returns-in-Ok-true-clause-grants
returns-in-Ok-true-clause-grants g c = (kept g (goal.at.returns-in-Ok-true-clause-grants g c).After-write_access).1

pub returns-in-Ok-false-clause-refused : goal.returns-in-Ok-false-clause-refused
returns-in-Ok-false-clause-refused g c =
    let at = (goal.at.returns-in-Ok-false-clause-refused g c).After-write_access in
    let one : OneDenied c.args.range (g.M.Mapper.held c.args.mapper.now) (named g at).0 c.args.caches.now c.write_access.new.caches
    = subst (IsAccess c.args.range (g.M.Mapper.held c.args.mapper.now) (named g at).0 c.args.caches.now c.write_access.new.caches) (c.in-Ok-false.is ∙ ap (λ (b : Bool). let r : Result Bool PageNo = Ok b in r) c.in-Ok-false.field-0-test) (access g at) in
    record { segment = (named g at).0; named = (named g at).1; denied = one }

pub returns-in-Ok-false-clause-nodes : goal.returns-in-Ok-false-clause-nodes
returns-in-Ok-false-clause-nodes g c = (kept g (goal.at.returns-in-Ok-false-clause-nodes g c).After-write_access).0

pub returns-in-Ok-false-clause-grants : goal.returns-in-Ok-false-clause-grants
returns-in-Ok-false-clause-grants g c = (kept g (goal.at.returns-in-Ok-false-clause-grants g c).After-write_access).1

pub returns-in-Err-clause-refused : goal.returns-in-Err-clause-refused
returns-in-Err-clause-refused g c =
    let at = (goal.at.returns-in-Err-clause-refused g c).After-write_access in
    let asked : IsAskedFor c.args.range c.in-Err.page.0 (g.M.Mapper.held c.args.mapper.now) (named g at).0 c.args.caches.now c.write_access.new.caches
    = subst (IsAccess c.args.range (g.M.Mapper.held c.args.mapper.now) (named g at).0 c.args.caches.now c.write_access.new.caches) c.in-Err.is (access g at) in
    record { segment = (named g at).0; named = (named g at).1; denied = asked }

pub returns-in-Err-clause-nodes : goal.returns-in-Err-clause-nodes
returns-in-Err-clause-nodes g c = (kept g (goal.at.returns-in-Err-clause-nodes g c).After-write_access).0

pub returns-in-Err-clause-grants : goal.returns-in-Err-clause-grants
returns-in-Err-clause-grants g c = (kept g (goal.at.returns-in-Err-clause-grants g c).After-write_access).1
