-- The file of the table at a place is opened at its path, after those before it.
use Rattle.std.proofs.Common.{◌≡◌, ◌∙◌, ◌∷◌, [], Some, ap, arith, length, length-append, refl, subst}
use denote.Param.Always.{mut_next}
use Rattle.std.specs.Prelude.{slice_get}
use Rattle.basics.proofs.Lists.{mapped, read_at}
use Rattle.engine.proofs.FileLemmas.{table-next}
use Rattle.engine.specs.Commands.{table_names, table_path, table_paths}
use Rattle.table_model.specs.SpatialTables.{SpatialSchema}
use Rattle.text_commands.specs.Files.{OpensFile}
use Rattle.text_commands.specs.declared.files.File.TheVariants as role
use Rattle.engine.proofs.commands.open_tables.Goals as goal

pub loop-table-preserved : goal.loop-table-preserved
loop-table-preserved g c =
    let item = c.table-item.result in
    let P : SpatialSchema → Type 0 = λ ds. slice_get ds c.loop-table.table-index ≡ Some item in
    let here : slice_get c.args.schema.now c.loop-table.table-index ≡ Some item =
    subst P c.tables-table-items.ensures.value
    (read_at c.tables-table-items.result.now c.loop-table.table-index item c.loop-table-test.true c.table-item.is) in
    record {
      callable = λ always. mut_next g.F.FnMut c.loop-table.opener (role.Table c.as_str.result, tt) c.opener.result
          c.opener.new.self c.opener.new.self c.opener.ensures refl (c.loop-table.invariant.callable always);
      count = omega (arith, ap length c.in-Ok-push.ensures.items, length-append c.loop-table.readers.items (c.in-Some.reader ∷ []), c.loop-table.invariant.count);
      opens = table-next (OpensFile g.F.FnMut) c.args.opener.now (table_paths c.args.directory.now c.args.schema.now)
          c.loop-table.table-index (table_path c.args.directory.now item.name) c.loop-table.readers.items c.loop-table.opener
          c.in-Some.reader c.push.new.self.items c.opener.new.self
          (mapped (table_path c.args.directory.now) (table_names c.args.schema.now) c.loop-table.table-index item.name
          (mapped (λ t. t.name) c.args.schema.now c.loop-table.table-index item here))
          c.loop-table.invariant.opens
          (record {
            shown = c.as_str.result;
            shows = c.as_str.ensures.value ∙ c.in-Ok.ensures ∙ ap (table_path c.args.directory.now) c.as_str-name.ensures;
            called = c.in-Some.ensures;
          })
          c.in-Ok-push.ensures.items;
    }
