use Rattle.std.proofs.Common.{◌<◌, arith, length, sym}
use Rattle.std.proofs.lemmas.Option.{get_or_from_slice_get}
use Rattle.geometry_model.specs.Geometries.{Geometry}
use Rattle.table_model.specs.Meanings.{Row}
use Rattle.feature_table.specs.Indexes.{field_envelope, field_in}
use Rattle.feature_table.proofs.MapLemmas.{one_more_mapped}
use Rattle.feature_table.proofs.indexes.index_of.Goals as goal

pub loop-place-preserved : goal.loop-place-preserved
loop-place-preserved g c =
    let rows = c.args.rows.now in
    let place = c.loop-place.place in
    let envelope_of = λ (row : Row Geometry). field_envelope (field_in c.args.column row) in
    let within : place < length rows = omega arith in
    let row = c.row.result in
    one_more_mapped envelope_of rows place row _ _ _ within (sym (get_or_from_slice_get rows place row row c.row.ensures)) c.loop-place.invariant c.envelope_in.ensures c.in_ok-push.ensures.items
