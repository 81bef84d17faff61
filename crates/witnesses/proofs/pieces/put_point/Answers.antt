-- The two coordinates and the space between, one after another.
use Rattle.std.proofs.Common.{codes}
use Rattle.std.proofs.lemmas.Int.{to_z-of_z}
use mir.Syntax.{w128}
use mir.Val.{to_z, of_z}
use Rattle.streams.proofs.PartLemmas.{last-put, last-front}
use Rattle.witnesses.specs.PointTexts.{fraction_text}
use Rattle.witnesses.proofs.TextLemmas.{first-front, second-front, point_parts}
use Rattle.witnesses.proofs.pieces.put_point.Goals as goal

pub returns-in_err-put_fraction-clause-front : goal.returns-in_err-put_fraction-clause-front
returns-in_err-put_fraction-clause-front g c =
    first-front c.from_residual.result _ _ _ (codes " ")
    (fraction_text (record { numerator = to_z w128 (of_z w128 c.args.y); denominator = to_z w128 (of_z w128 c.args.w) })) _
    (point_parts c.args.x c.args.y c.args.w _ _ _ (to_z-of_z w128 c.args.x c.ranges.x) (to_z-of_z w128 c.args.y c.ranges.y) (to_z-of_z w128 c.args.w c.ranges.w))
    c.in_err-put_fraction.ensures.front

pub returns-in_err-put_all-clause-front : goal.returns-in_err-put_all-clause-front
returns-in_err-put_all-clause-front g c =
    second-front c.from_residual-in_err-put_all.result _ (g.S.Sink.taken c.put_fraction.new.sink) _ _ (codes " ")
    (fraction_text (record { numerator = to_z w128 (of_z w128 c.args.y); denominator = to_z w128 (of_z w128 c.args.w) })) _
    (point_parts c.args.x c.args.y c.args.w _ _ _ (to_z-of_z w128 c.args.x c.ranges.x) (to_z-of_z w128 c.args.y c.ranges.y) (to_z-of_z w128 c.args.w c.ranges.w))
    c.in_ok-put_fraction.ensures.ok c.in_err-put_all.ensures.front

pub returns-clause-ok : goal.returns-clause-ok
returns-clause-ok g c =
    last-put c.put_fraction-2.result _ (g.S.Sink.taken c.put_fraction.new.sink) (g.S.Sink.taken c.put_all.new.sink) _ _ (codes " ") _ _
    (point_parts c.args.x c.args.y c.args.w _ _ _ (to_z-of_z w128 c.args.x c.ranges.x) (to_z-of_z w128 c.args.y c.ranges.y) (to_z-of_z w128 c.args.w c.ranges.w))
    c.in_ok-put_fraction.ensures.ok c.in_ok-put_all.ensures.ok c.put_fraction-2.ensures.ok

pub returns-clause-front : goal.returns-clause-front
returns-clause-front g c =
    last-front c.put_fraction-2.result _ (g.S.Sink.taken c.put_fraction.new.sink) (g.S.Sink.taken c.put_all.new.sink) _ _ (codes " ") _ _
    (point_parts c.args.x c.args.y c.args.w _ _ _ (to_z-of_z w128 c.args.x c.ranges.x) (to_z-of_z w128 c.args.y c.ranges.y) (to_z-of_z w128 c.args.w c.ranges.w))
    c.in_ok-put_fraction.ensures.ok c.in_ok-put_all.ensures.ok c.put_fraction-2.ensures.front
