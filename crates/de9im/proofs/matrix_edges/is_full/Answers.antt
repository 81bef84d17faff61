use Rattle.std.proofs.Common.{subst}
use Rattle.std.specs.List.{Contains}
use Rattle.std.proofs.lemmas.List.Elements.{All-weaker, All-contains, All-contains_itself}
use Rattle.geometry_model.specs.Geometries.{edges}
use Rattle.matrix_laws.specs.Cells.{Covers}
use Rattle.matrix_laws.proofs.CoveringTheorems.{full_covers}
use Rattle.validity.specs.ValidGeometries.{HasLength}
use Rattle.de9im.specs.Raising.{IsReady}
use Rattle.de9im.proofs.Rest.{full_off_is_enough}
use Rattle.de9im.proofs.matrix_edges.is_full.Goals as goal

pub returns-then-is_full_off : goal.returns-then-is_full_off
returns-then-is_full_off c full =
    let a = c.args.first.now in
    let b = c.args.second.now in
    let m = c.args.matrix.now in
    All-weaker (Contains (edges a)) (Covers a b m) (λ e own. full_covers a b c.requires.first_valid c.requires.second_valid e own (All-contains HasLength (edges a) e c.requires.lengths own) m c.requires.ends
    (c.is_full_off.ensures c.if-is_full_off.true e) (record { piece = (c.is_full_on.ensures full).piece; sides = λ _. c.is_full_on.ensures full })) (edges a) (All-contains_itself (edges a))

pub returns-in-Second : goal.returns-in-Second
returns-in-Second c full =
    let a = c.args.first.now in
    let b = c.args.second.now in
    let m = c.args.matrix.now in
    All-weaker (Contains (edges a)) (Covers a b m) (λ e own. full_off_is_enough a b e own (All-contains HasLength (edges a) e c.requires.lengths own) m c.requires.ends
    (subst (λ p. IsReady p a b m) c.in-Second.is c.requires.ready) (c.is_full_off-in-Second.ensures full e)) (edges a) (All-contains_itself (edges a))
