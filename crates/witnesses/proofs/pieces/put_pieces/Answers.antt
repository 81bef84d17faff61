-- The pieces before this one were put; this one, or a beginning of it, comes after them.
use Rattle.std.proofs.Common.{length, ◌<◌, arith, ◌∙◌, ap}
use Rattle.streams.proofs.SinkLemmas.{OnErr-holds}
use Rattle.streams.proofs.PartLemmas.{text-front, text-put}
use Rattle.witnesses.specs.PointTexts.{piece_text}
use Rattle.witnesses.proofs.pieces.put_pieces.Goals as goal

pub returns-in_err-put_piece-clause-front : goal.returns-in_err-put_piece-clause-front
returns-in_err-put_piece-clause-front g c =
    let within : c.loop-piece.piece-index < length c.args.pieces.now = omega arith in
    OnErr-holds c.from_residual.result
    (text-front piece_text c.args.pieces.now c.loop-piece.piece-index c.piece-item.result _ _ (g.S.Sink.taken c.loop-piece.sink) _ within (ap piece_text c.piece-item.is) c.loop-piece.invariant.put c.in_err-put_piece.ensures.front)

pub loop-piece-preserved : goal.loop-piece-preserved
loop-piece-preserved g c = record {
  put =
      let within : c.loop-piece.piece-index < length c.args.pieces.now = omega arith in
      text-put piece_text c.args.pieces.now c.loop-piece.piece-index c.piece-item.result _ _ (g.S.Sink.taken c.loop-piece.sink) _ within (ap piece_text c.piece-item.is) c.loop-piece.invariant.put c.in_ok-put_piece.ensures.ok;
  same = c.in_ok-put_piece.ensures.failures ∙ c.loop-piece.invariant.same;
}
