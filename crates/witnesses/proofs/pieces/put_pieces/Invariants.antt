use Rattle.std.proofs.Common.{◌≡◌, map, take}
use Rattle.std.specs.List.{concat}
use Rattle.std.specs.Io.KnownBytes.{Appends}
use Rattle.witnesses.specs.PointTexts.{piece_text}
use Rattle.witnesses.proofs.pieces.put_pieces.Given as goal

-- the pieces before this one were put, and no put has failed
abbrev pub invariant-loop-piece : goal.invariant-loop-piece
invariant-loop-piece g l = record {
  put : Appends (g.S.Sink.taken l.initial.sink) (g.S.Sink.taken l.sink) (concat (map piece_text (take l.piece-index l.pieces)));
  same : g.S.Sink.failures l.sink ≡ g.S.Sink.failures l.initial.sink;
}
