use Rattle.std.proofs.Common.{rules, ◌-◌, map, arith, ◌∙◌, ap₂, ◌++◌, ◌∷◌, []}
use Rattle.geometry_model.specs.Points.{Point}
use Rattle.noding.specs.Nodings.{piece_of}
use Rattle.noding.proofs.Neighbours.{pieces_of_more}
use Rattle.noding.proofs.nodings.push_stretches.Goals as goal

pub loop-place-preserved : goal.loop-place-preserved
loop-place-preserved c = pieces_of_more c.args.breaks.now (c.loop-place.place - 1) c.loop-place.place c.index-breaks-place.result c.index-breaks-place-in-loop-place.result c.loop-place.pieces.items c.push.new.self.items (map piece_of c.args.pieces.now.items)
    (omega (arith, c.loop-place.auto.place, c.loop-place-test.true)) c.loop-place-test.true c.index-breaks-place.is c.index-breaks-place-in-loop-place.is
    (c.in_ok-push.ensures.items ∙ ap₂ (λ (p q : Point). c.loop-place.pieces.items ++ (p, q) ∷ []) c.point.ensures c.point-in-loop-place.ensures) c.loop-place.invariant

pub loop-place-init : goal.loop-place-init
loop-place-init c = search rules
