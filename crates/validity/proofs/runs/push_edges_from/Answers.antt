use Rattle.std.proofs.Common.{refl, ◌<◌, ◌∷◌, ◌++◌, length, arith}
use Rattle.geometry_model.specs.Geometries.{edges_of_line}
use Rattle.validity.proofs.Edges.{edge_more, edge_has_length}
use Rattle.validity.proofs.runs.push_edges_from.Goals as goal

pub unreachable-requires : goal.unreachable-requires
unreachable-requires c =
    let within : c.loop-end.end-index < length c.args.more.now = omega arith in
    (edge_has_length c.args.more.now c.loop-end.end-index _ c.loop-end.start c.end-item.result within c.end-item.is c.loop-end.invariant.long).0 (c.in-None.ensures.none.0 refl)

pub loop-end-preserved : goal.loop-end-preserved
loop-end-preserved c =
    let within : c.loop-end.end-index < length c.args.more.now = omega arith in
    record {
      kept = rw (c.in_ok-push-in-Some.ensures.items, c.in-Some.ensures.ends)
          (edge_more c.loop-end.segments.items c.args.more.now (c.args.segments.now.items ++ edges_of_line (c.args.first ∷ c.args.more.now)) c.loop-end.end-index _ c.loop-end.start c.end-item.result within c.end-item.is c.loop-end.invariant.kept);
      long = (edge_has_length c.args.more.now c.loop-end.end-index _ c.loop-end.start c.end-item.result within c.end-item.is c.loop-end.invariant.long).1;
    }
