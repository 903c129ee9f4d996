use Rattle.std.proofs.Common.{rules, ◌≡◌, ◌*◌, ◌≤◌, ◌^◌, List, None, Some, refl, sym, ap, subst, ◌∙◌, arith}
use Rattle.std.specs.Prelude.{Ok, Err}
use Rattle.pvm_core.proofs.Answering.Recorded.{refused_seen}
use Rattle.std.proofs.result.Match.{err_is}
use Rattle.vm_ids.specs.declared.command.Command.TheVariants as commands
use Rattle.vm_ids.specs.declared.command.Extent.{Extent}
use Rattle.vm_ids.specs.declared.reply.Reply.TheVariants as replies
use Rattle.vm_ids.specs.declared.reply.Trouble.TheVariants as troubles
use Rattle.vm_ids.specs.Forest.Commands.{page_name, copy, extent_names, firsts, seconds, span_pairs}
use Rattle.vm_ids.specs.Forest.NameLists.{◌∈◌}
use Rattle.vm_ids.specs.declared.node_name.NodeName.{NodeName}
use Rattle.local_cache.specs.Arena.{table_of}
use Rattle.local_cache.specs.Whole.{size_of}
use Rattle.segment_ops.specs.Ranges.{HasRange}
use Rattle.vm_model.specs.Machine.{cache_of}
use Rattle.pvm_core.specs.Keeping.{CopiesNothing, FillsOnly}
use Rattle.pvm_core.specs.Manager.{Manager, forest_of, machine_by, machine_of, numbered}
use Rattle.pvm_core.specs.Saving.{CopiesSaved, NeedsNoSave, NeedsNothing, is_named}
use Rattle.pvm_core.specs.Writes.{GrantsWithin}
use Rattle.pvm_core.specs.Locks.{any_locked}
use Rattle.pvm_core.proofs.Holding.Counted.{any_same}
use Rattle.pvm_core.specs.Spans.{copy_refusal, replaced}
use Rattle.pvm_core.specs.contracts.pvm.Pvm.{the_view}
use Rattle.pvm_core.proofs.Answering.Answered.{failed}
use Rattle.pvm_core.proofs.Answering.Ended.{Ended, ended_call}
use Rattle.pvm_core.proofs.Answering.Kept.{seen}
use Rattle.pvm_core.proofs.Accesses.Loading.{sized_table}
use Rattle.pvm_core.proofs.Answering.Reaching.{reach_none}
use Rattle.pvm_core.proofs.Spanning.Readied.{IsReadied, readied, readied_replace, readied_room, readied_transfer, transferred, transferred_right, undenied_then}
use Rattle.pvm_core.proofs.Meaning.Shown.{shown_size}
use Rattle.pvm_core.proofs.Spanning.SpanRows.{IsOpen, copy_refused, is_open}
use Rattle.pvm_core.proofs.Spanning.Transferring.{IsTransfer, nothing_given_back}
use Rattle.pvm_core.proofs.Spanning.Unready.{refused_first, unready}
use Rattle.pvm_core.proofs.Spanning.Transfers.{copied_outcome, copied_transfer, copied_valid, copy_follows, named_machine}
use Rattle.page_commands.proofs.CommandSteps.Ranges.{destination_names}
use Rattle.pvm_core.proofs.Readiness.Filled.{fills_then}
use Rattle.pvm_core.proofs.Readiness.Granted.{within_then}
use Rattle.pvm_core.proofs.Translating.Left.{left_right}
use Rattle.pvm_core.proofs.Translating.Unmapped.{seen_sought}
use Rattle.pvm_core.proofs.Translating.Writable.{homes_writable}
use Rattle.pvm_core.proofs.pvm.Pvm.copy_pages.Given.{Over}
use Rattle.pvm_core.proofs.pvm.Pvm.copy_pages.Goals.{After-copy_pages, After-make_ready, After-self-2, In_default}
use Rattle.pvm_core.proofs.pvm.Pvm.copy_pages.Goals as goal

pub returns-in-Some-clause-call : goal.returns-in-Some-clause-call
returns-in-Some-clause-call g c = refused_seen c.self.view_is c.requires.valid (λ valid.
    let h = g.M.Mapper.held c.args.mapper.now in
    let counts = g.M.Mapper.counts c.args.mapper.now in
    let p : Manager = the_view c.self.inside in
    let s = c.args.span in
    failed counts counts p p h h (commands.Copy c.args.span) (Err (troubles.Refused c.in-Some.refusal)) (reach_none (machine_of p h) h counts) c.self.invariant.sound.nodes c.self.invariant.sound.nodes valid refl refl tt tt
    (λ f sg. copy_refused (machine_by p f) s sg c.in-Some.refusal (cache_of (machine_by p f) s.from.0) (cache_of (machine_by p f) s.to.0) (any_locked p.caches (replaced s)) refl refl (any_same p f c.self.invariant.sound.locked.counted (replaced s))
    ((λ j. copy_refusal (shown_size f p.caches.caches s.from.0 j) (shown_size f p.caches.caches s.to.0 j) (any_locked p.caches (replaced s)) s) ∙ sym c.copy_refusal.ensures.refusal ∙ c.in-Some.is)))

pub returns-in-Some-clause-replaces : goal.returns-in-Some-clause-replaces
returns-in-Some-clause-replaces g c = refused_first g.M.Mapper c.args.mapper.now c.args.mapper.now c.args.chooser.now c.args.chooser.now c.args.self.now c.args.self.now (replaced c.args.span) (λ x. x ∈ extent_names (replaced c.args.span)) c.in-Some.refusal (λ asked. c.copy_refusal.ensures.unasked (c.in-Some.is ∙ ap (λ r. Some r) asked))

-- nothing refuses the copy
open_span : (g : Over) (c : In_default g) → IsOpen (size_of c.self.inside.caches c.args.span.from.0) (size_of c.self.inside.caches c.args.span.to.0) (any_locked c.self.inside.caches (replaced c.args.span)) c.args.span
open_span g c =
    let a = c.self.inside.caches in
    let s = c.args.span in
    is_open (size_of a s.from.0) (size_of a s.to.0) (any_locked a (replaced s)) s (sym c.copy_refusal.ensures.refusal ∙ c.in_default.is)

transfer : (g : Over) (c : In_default g) → IsTransfer (seen c.self.inside.caches c.self.inside.store c.self.inside.contexts) c.args.span (commands.Copy c.args.span)
transfer g c =
    let i = c.self.inside in
    let s = c.args.span in
    let out = open_span g c in
    let from = sized_table (table_of i.caches s.from.0) out.from out.from_is in
    let to = sized_table (table_of i.caches s.to.0) out.to out.to_is in
    copied_transfer i.caches i.store i.contexts i.live c.self.invariant.sound s out from.0 to.0 from.1 to.1 from.2 to.2

pub make_ready-requires-clause-range : goal.make_ready-requires-clause-range
make_ready-requires-clause-range g c =
    let out = open_span g (goal.at.make_ready-requires-clause-range g c).In_default in
    let range : HasRange c.self.inside.caches c.destination.result = subst (HasRange c.self.inside.caches) (sym c.destination.ensures) (record { pages = out.to; size = out.to_is; within = out.to_ends }) in
    subst (λ (p : Manager). HasRange p.caches c.destination.result) c.self.view_is range

-- no page comes to a frame but those of the saves before the pages are replaced
filled : (g : Over) (c : After-make_ready g) → FillsOnly (replaced c.args.span) (λ x. ⊥) c.args.self.now c.make_ready.new.self
filled g c = subst (λ (range : Extent). FillsOnly range (λ x. ⊥) c.args.self.now c.make_ready.new.self) c.destination.ensures c.make_ready.ensures.fills

-- the destination isn't ready
pub returns-in_err-make_ready : goal.returns-in_err-make_ready
returns-in_err-make_ready g c =
    let places = goal.at.returns-in_err-make_ready g c in
    let i = c.self.inside in
    let out = open_span g places.In_default in
    let e = c.make_ready.ensures in
    let ends = unready g.M.Mapper c.args.mapper.now c.make_ready.new.mapper c.args.chooser.now c.make_ready.new.chooser c.args.self.now c.make_ready.new.self (seen i.caches i.store i.contexts) c.self.view_is c.args.span (commands.Copy c.args.span) (λ x. x ∈ extent_names (replaced c.args.span)) (transfer g places.In_default) c.self.invariant.sound.nodes out.to out.to_is out.to_ends
    c.destination.result c.destination.ensures c.make_ready.result c.from_residual.result c.in_err-make_ready.field-0.0 c.in_err-make_ready.was (err_is c.from_residual.result _ c.from_residual.ensures.1) c.requires.valid e.valid e.keeps e.whole e.not_ready e.cause e.page e.grants e.fills e.first e.still e.idle in
    record { call = ends.0; replaces = ends.1 }

-- the destination is ready
ready_span : (g : Over) (c : After-self-2 g)
    → IsReadied (seen c.self.inside.caches c.self.inside.store c.self.inside.contexts) (g.M.Mapper.held c.args.mapper.now) (g.M.Mapper.held c.make_ready.new.mapper) (g.M.Mapper.counts c.args.mapper.now) (g.M.Mapper.counts c.make_ready.new.mapper) c.self-2.inside.caches c.self-2.inside.store c.self-2.inside.contexts c.args.span (2 * c.args.span.pages)
ready_span g c =
    let j = c.self-2.inside in
    let e = c.make_ready.ensures in
    readied (seen c.self.inside.caches c.self.inside.store c.self.inside.contexts) (g.M.Mapper.held c.args.mapper.now) (g.M.Mapper.held c.make_ready.new.mapper) (g.M.Mapper.counts c.args.mapper.now) (g.M.Mapper.counts c.make_ready.new.mapper) j.caches j.store j.contexts j.live c.self-2.invariant.sound c.args.span (2 * c.args.span.pages)
    c.args.self.now c.make_ready.new.self c.self.view_is c.self-2.view_is c.destination.result c.destination.ensures c.self.invariant.sound.locked.counted (open_span g (goal.at.After-self-2 g c).In_default) e.valid e.keeps c.in_ok-make_ready.ensures.ready

pub copy_pages-requires-clause-ready : goal.copy_pages-requires-clause-ready
copy_pages-requires-clause-ready g c = readied_replace (seen c.self.inside.caches c.self.inside.store c.self.inside.contexts) _ _ _ _ c.self-2.inside.caches c.self-2.inside.store c.self-2.inside.contexts c.self-2.inside.live c.self-2.invariant.sound c.args.span (2 * c.args.span.pages) (omega arith) (ready_span g (goal.at.copy_pages-requires-clause-ready g c).After-self-2) (subst (λ (p : Manager). numbered p ≤ 2 ^ 62) (sym c.self.view_is) c.requires.made)

pub copy_pages-requires-clause-room : goal.copy_pages-requires-clause-room
copy_pages-requires-clause-room g c = readied_room (seen c.self.inside.caches c.self.inside.store c.self.inside.contexts) _ _ _ _ c.self-2.inside.caches c.self-2.inside.store c.self-2.inside.contexts c.self-2.inside.live c.self-2.invariant.sound c.args.span (2 * c.args.span.pages) (omega arith) (ready_span g (goal.at.copy_pages-requires-clause-room g c).After-self-2)

pub copy_pages-requires-clause-transfer : goal.copy_pages-requires-clause-transfer
copy_pages-requires-clause-transfer g c = readied_transfer (seen c.self.inside.caches c.self.inside.store c.self.inside.contexts) _ _ _ _ c.self-2.inside.caches c.self-2.inside.store c.self-2.inside.contexts c.self-2.inside.live c.self-2.invariant.sound c.args.span (2 * c.args.span.pages) (omega arith) (ready_span g (goal.at.copy_pages-requires-clause-transfer g c).After-self-2)

-- the pages are copied
copied : (g : Over) (c : After-copy_pages g)
    → Ended c.args.self.now c.copy_pages.new.caches c.copy_pages.new.store c.self-2.inside.contexts c.self-2.inside.live (g.M.Mapper.held c.args.mapper.now) (g.M.Mapper.held c.make_ready.new.mapper) (g.M.Mapper.counts c.args.mapper.now) (g.M.Mapper.counts c.make_ready.new.mapper) (commands.Copy c.args.span) (Ok replies.Done)
    × CopiesSaved (replaced c.args.span) c.args.self.now (g.M.Mapper.held c.args.mapper.now) (seen c.copy_pages.new.caches c.copy_pages.new.store c.self-2.inside.contexts) (Ok tt)
copied g c =
    let at = goal.at.After-copy_pages g c in
    let j = c.self-2.inside in
    let sound = c.self-2.invariant.sound in
    let s = c.args.span in
    let h = g.M.Mapper.held c.args.mapper.now in
    let k = g.M.Mapper.held c.make_ready.new.mapper in
    let before = g.M.Mapper.counts c.args.mapper.now in
    let after = g.M.Mapper.counts c.make_ready.new.mapper in
    let p : Manager = seen c.self.inside.caches c.self.inside.store c.self.inside.contexts in
    let r = ready_span g at.After-self-2 in
    let e = c.copy_pages.ensures in
    let d = c.copy_pages.new.caches in
    let u = c.copy_pages.new.store in
    let from = sized_table (table_of j.caches s.from.0) r.out.from r.out.from_is in
    let to = sized_table (table_of j.caches s.to.0) r.out.to r.out.to_is in
    let many : 2 * c.args.span.pages ≤ 2 * s.pages = omega arith in
    let right = transferred_right p h k before after j.caches j.store j.contexts j.live sound s (2 * c.args.span.pages) many r d u e.kept e.pages in
    let may = undenied_then p h k before after j.caches j.store j.contexts j.live sound s (2 * c.args.span.pages) many r in
    let named = named_machine p (forest_of p h) s.to.0 in
    transferred p h k before after j.caches j.store j.contexts j.live sound s (2 * c.args.span.pages) many r d u e.kept e.pages c.args.self.now c.self.view_is c.self.invariant.sound.nodes (commands.Copy s) (transfer g at.In_default)
    (copied_valid j.caches j.store j.contexts j.live sound s r.out from.0 to.0 from.1 to.1 from.2 to.2 d u e.kept.sizes e.kept.gives_back r.tied e.pages.whole k r.valid right e.rule.forest)
    (copied_outcome j.caches j.store j.contexts j.live sound s r.out from.0 to.0 from.1 to.1 from.2 to.2 d u e.kept.sizes e.kept.gives_back r.tied e.pages.whole k r.valid right e.rule.forest (forest_of p h) _ may)
    (copy_follows j.caches j.store j.contexts j.live sound s r.out from.0 to.0 from.1 to.1 from.2 to.2 d u e.kept.sizes e.kept.gives_back r.tied e.pages.whole k r.valid right e.rule.forest (is_named p.caches s.to.0) (forest_of p h) r.ready.forest ∙ (λ x. copy (sym named x) (span_pairs s) (forest_of p h)))

pub invariant_of-self : goal.invariant_of-self
invariant_of-self g c = record {
  sound = (copied g c).0.sound;
  translated = (
      let j = c.self-2.inside in
      let s = c.args.span in
      let e = c.copy_pages.ensures in
      let d = c.copy_pages.new.caches in
      let u = c.copy_pages.new.store in
      left_right _ _ _ j.caches d j.store u j.contexts e.translations
      (seen_sought j.contexts s.to s.to_page.0 s.pages _ (destination_names s) _ (λ none. sym c.maps-mapped.ensures ∙ none))
      (homes_writable _ j.caches d e.kept.sizes e.kept.homes) c.self-2.invariant.translated
      );
}

pub returns-clause-call : goal.returns-clause-call
returns-clause-call g c = ended_call g.M.Mapper c.args.mapper.now c.make_ready.new.mapper (copied g c).0 tt (search rules)

pub returns-clause-replaces : goal.returns-clause-replaces
returns-clause-replaces g c =
    let at = goal.at.returns-clause-replaces g c in
    let j = c.self-2.inside in
    let e = c.copy_pages.ensures in
    let d = c.copy_pages.new.caches in
    let u = c.copy_pages.new.store in
    let r = ready_span g at.After-self-2 in
    record {
      copies = (copied g c).1;
      still = λ none. (
          let still = c.make_ready.ensures.still (subst (NeedsNoSave c.args.self.now.caches) (sym c.destination.ensures) none) in (
            still.0,
            still.1,
            nothing_given_back c.args.self.now j.caches d j.store u j.contexts (subst (CopiesNothing c.args.self.now) (sym c.self-2.view_is) still.2) e.pages.settles.copies (e.kept.gives_back None None r.tied),
          ));
      idle = λ nothing. ((c.make_ready.ensures.idle (subst (NeedsNothing c.args.self.now.caches) (sym c.destination.ensures) nothing)).0, tt);
      fills = fills_then (replaced c.args.span) (λ x. x ∈ extent_names (replaced c.args.span)) (λ x. x ∈ firsts (span_pairs c.args.span)) _ (λ x. x ∈ seconds (span_pairs c.args.span)) c.args.self.now j.caches d j.store u j.contexts (λ x i. subst (λ (xs : List NodeName). x ∈ xs) (destination_names c.args.span) i)
          (subst (FillsOnly (replaced c.args.span) (λ x. ⊥) c.args.self.now) (sym c.self-2.view_is) (filled g at.After-make_ready)) e.translations (e.kept.gives_back None None r.tied);
      settled = e.pages.settles.settled;
      refused = λ refusal is other. absurd (cc is);
      unready = λ trouble is only. absurd (cc is);
      first = tt;
      grants = (
          let was = subst (λ (range : Extent). GrantsWithin range c.args.self.now.caches c.make_ready.new.self.caches) c.destination.ensures c.make_ready.ensures.grants in
          within_then (replaced c.args.span) c.args.self.now.caches j.caches d (subst (λ (m : Manager). GrantsWithin (replaced c.args.span) c.args.self.now.caches m.caches) (sym c.self-2.view_is) was) e.kept.homes.grants
          );
      writable = λ page of. homes_writable _ j.caches d e.kept.sizes e.kept.homes (page_name (replaced c.args.span).cache page) (r.ready.writable page of);
    }
