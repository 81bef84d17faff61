-- The text before the list, the list, and the parenthesis, one after another.
use Rattle.std.proofs.Common.{codes, map, refl, ◌++◌}
use Rattle.std.specs.List.{join_with_byte}
use Rattle.geometry_model.specs.CanonicalText.{polygon_text}
use Rattle.streams.proofs.PartLemmas.{last-put, last-front}
use Rattle.streams.proofs.SinkLemmas.{OnErr-holds, AppendsFront-more, AppendsFront-then}
use Rattle.wkt.proofs.printing.put_polygons.Goals as goal

pub returns-in_err-put_all-clause-front : goal.returns-in_err-put_all-clause-front
returns-in_err-put_all-clause-front g c =
    OnErr-holds c.from_residual.result (AppendsFront-more _ _ c.args.before.now (join_with_byte 44 (map polygon_text c.args.polygons.now) ++ codes ")") c.in_err-put_all.ensures.front)

pub returns-in_err-put_joined_polygons-clause-front : goal.returns-in_err-put_joined_polygons-clause-front
returns-in_err-put_joined_polygons-clause-front g c =
    let text = join_with_byte 44 (map polygon_text c.args.polygons.now) in
    OnErr-holds c.from_residual-in_err-put_joined_polygons.result
    (AppendsFront-then _ (g.S.Sink.taken c.put_all.new.sink) _ c.args.before.now (text ++ codes ")") c.in_ok-put_all.ensures.ok
    (AppendsFront-more _ _ text (codes ")") c.in_err-put_joined_polygons.ensures.front))

pub returns-clause-ok : goal.returns-clause-ok
returns-clause-ok g c =
    last-put c.put_all-2.result _ (g.S.Sink.taken c.put_all.new.sink) (g.S.Sink.taken c.put_joined_polygons.new.sink) _ c.args.before.now (join_with_byte 44 (map polygon_text c.args.polygons.now)) (codes ")") _ refl
    c.in_ok-put_all.ensures.ok c.in_ok-put_joined_polygons.ensures.ok c.put_all-2.ensures.ok

pub returns-clause-front : goal.returns-clause-front
returns-clause-front g c =
    last-front c.put_all-2.result _ (g.S.Sink.taken c.put_all.new.sink) (g.S.Sink.taken c.put_joined_polygons.new.sink) _ c.args.before.now (join_with_byte 44 (map polygon_text c.args.polygons.now)) (codes ")") _ refl
    c.in_ok-put_all.ensures.ok c.in_ok-put_joined_polygons.ensures.ok c.put_all-2.ensures.front
