use Rattle.std.proofs.Common.{◌≡◌, map, take}
use Rattle.std.specs.List.{join_with_byte}
use Rattle.std.specs.Io.KnownBytes.{Appends}
use Rattle.geometry_model.specs.CanonicalText.{polygon_text}
use Rattle.wkt.proofs.printing.put_joined_polygons.Given as goal

-- the polygons before this one were put, and no put has failed
abbrev pub invariant-loop-index : goal.invariant-loop-index
invariant-loop-index g l = record {
  put : Appends (g.S.Sink.taken l.initial.sink) (g.S.Sink.taken l.sink) (join_with_byte 44 (map polygon_text (take l.index l.polygons)));
  same : g.S.Sink.failures l.sink ≡ g.S.Sink.failures l.initial.sink;
}
