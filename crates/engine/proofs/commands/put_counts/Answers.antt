-- Each table's line comes after those before it.
use Rattle.std.proofs.Common.{◌≡◌, ◌∙◌, Some, ap, subst}
use Rattle.std.specs.Prelude.{slice_get}
use Rattle.engine.proofs.CountLemmas.{count-front, count-next, line-is}
use Rattle.streams.proofs.SinkLemmas.{OnErr-holds}
use Rattle.std.specs.Fmt.{decimal}
use Rattle.basics.proofs.Lists.{read_at}
use Rattle.table_model.specs.SpatialTables.{SpatialSchema}
use Rattle.engine.proofs.commands.put_counts.Goals as goal

pub returns-in_err-put_parts-clause-front : goal.returns-in_err-put_parts-clause-front
returns-in_err-put_parts-clause-front g c =
    let item = c.index-definitions-place.result in
    let P : SpatialSchema → Type 0 = λ ds. slice_get ds c.loop-place.place ≡ Some item in
    OnErr-holds c.from_residual.result
    (count-front c.args.database.now.definitions c.args.database.now.tables c.loop-place.place item c.table.result.now _ _ _ _
    (subst P c.definitions-definitions.ensures.value
    (read_at c.definitions-definitions.result.now c.loop-place.place item c.loop-place-test.true
    c.index-definitions-place.is))
    c.table.ensures
    (line-is _ _ item c.table.result.now (c.as_bytes.ensures.value ∙ c.as_str.ensures) (c.as_bytes-in-loop-place.ensures.value ∙ c.format-rows.ensures.text ∙ ap decimal c.rows.ensures.count))
    c.loop-place.invariant.put c.in_err-put_parts.ensures.front)

pub loop-place-preserved : goal.loop-place-preserved
loop-place-preserved g c =
    let item = c.index-definitions-place.result in
    let P : SpatialSchema → Type 0 = λ ds. slice_get ds c.loop-place.place ≡ Some item in record {
      put = count-next c.args.database.now.definitions c.args.database.now.tables c.loop-place.place item c.table.result.now _ _ _ _
          (subst P c.definitions-definitions.ensures.value
          (read_at c.definitions-definitions.result.now c.loop-place.place item c.loop-place-test.true
          c.index-definitions-place.is))
          c.table.ensures
          (line-is _ _ item c.table.result.now (c.as_bytes.ensures.value ∙ c.as_str.ensures) (c.as_bytes-in-loop-place.ensures.value ∙ c.format-rows.ensures.text ∙ ap decimal c.rows.ensures.count))
          c.loop-place.invariant.put c.in_ok-put_parts.ensures.ok;
      same = c.in_ok-put_parts.ensures.failures ∙ c.loop-place.invariant.same;
    }
