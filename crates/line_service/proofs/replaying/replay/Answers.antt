use Rattle.std.proofs.Common.{ℕ, [], take, subst, refl, rules, arith}
use Rattle.std.proofs.lemmas.List.{length-take}
use Rattle.line_service.specs.Ending.{Took}
use Rattle.line_service.proofs.Endings.{finished, last_failed, reached_more, reached_start, sink_fault, source_fault, too_long}
use Rattle.line_service.proofs.replaying.replay.Goals as goal

pub pieces-init : goal.pieces-init
pieces-init g c = record {
  able = search rules;
  piece = refl;
  number = omega (arith, c.new-progress.ensures.number);
  limit = omega arith;
  sources = omega arith;
  sinks = omega arith;
  reached = reached_start g.V.Service _ _ c.args.waits.now _ c.requires.none c.new-progress.ensures.number c.new-progress.ensures.line;
}

pub returns-in-Err-clause-ends : goal.returns-in-Err-clause-ends
returns-in-Err-clause-ends g c = source_fault g.V.Service _ _ _ _ _ c.pieces.waits _ _ c.pieces.invariant.reached c.pieces.invariant.limit c.in-Err.ensures.same

pub returns-then-taken-eq-MOST_BYTES-clause-ends : goal.returns-then-taken-eq-MOST_BYTES-clause-ends
returns-then-taken-eq-MOST_BYTES-clause-ends g c =
    too_long g.V.Service _ _ _ _ _ c.pieces.waits _ _ c.pieces.invariant.reached (take c.in-Ok.count c.next_piece.new.piece) c.in-Ok.ensures.took c.if-taken-eq-MOST_BYTES.true
    (omega (arith, c.in-Ok.ensures.one, c.in-Ok.ensures.most, length-take c.in-Ok.count c.next_piece.new.piece, c.pieces.invariant.piece))

pub returns-in-Err-feed-clause-ends : goal.returns-in-Err-feed-clause-ends
returns-in-Err-feed-clause-ends g c =
    sink_fault g.V.Service _ _ _ _ _ c.pieces.waits _ _ c.pieces.invariant.reached _ (take c.in-Ok.count c.next_piece.new.piece) c.in-Ok.count c.in-Ok.ensures.took
    (omega (arith, c.in-Ok.ensures.most, length-take c.in-Ok.count c.next_piece.new.piece, c.pieces.invariant.piece))
    (omega (arith, c.in-Ok.ensures.within, c.pieces.invariant.limit)) c.in-Err-feed.ensures.proceeds

pub pieces-preserved : goal.pieces-preserved
pieces-preserved g c = record {
  able = c.in-Ok-feed.ensures.able;
  piece = search rules;
  number = search rules;
  limit = search rules;
  sources = search rules;
  sinks = search rules;
  reached = reached_more g.V.Service _ _ _ _ _ c.pieces.waits _ _ c.pieces.invariant.reached _ c.feed.new.waits _ (take c.in-Ok.count c.next_piece.new.piece) c.in-Ok.count c.in-Ok.ensures.took
      (omega (arith, c.in-Ok.ensures.most, length-take c.in-Ok.count c.next_piece.new.piece, c.pieces.invariant.piece)) c.in-Ok-feed.ensures.proceeds;
}

pub returns-in-Ok-finish-clause-ends : goal.returns-in-Ok-finish-clause-ends
returns-in-Ok-finish-clause-ends g c =
    let none : Took (g.S.Source.left c.pieces.source) (g.S.Source.left c.next_piece.new.source) [] =
    subst (λ (n : ℕ). Took (g.S.Source.left c.pieces.source) (g.S.Source.left c.next_piece.new.source) (take n c.next_piece.new.piece)) c.if-count-eq0.true c.in-Ok.ensures.took in
    finished g.V.Service _ _ _ _ _ c.pieces.waits _ _ c.pieces.invariant.reached _ c.pieces.invariant.limit none (c.in-Ok.ensures.end c.if-count-eq0.true) c.in-Ok-finish.ensures.answered

pub returns-in-Err-finish-clause-ends : goal.returns-in-Err-finish-clause-ends
returns-in-Err-finish-clause-ends g c =
    let none : Took (g.S.Source.left c.pieces.source) (g.S.Source.left c.next_piece.new.source) [] =
    subst (λ (n : ℕ). Took (g.S.Source.left c.pieces.source) (g.S.Source.left c.next_piece.new.source) (take n c.next_piece.new.piece)) c.if-count-eq0.true c.in-Ok.ensures.took in
    last_failed g.V.Service _ _ _ _ _ c.pieces.waits _ _ c.pieces.invariant.reached _ c.pieces.invariant.limit none (c.in-Ok.ensures.end c.if-count-eq0.true) c.in-Err-finish.ensures.answered
