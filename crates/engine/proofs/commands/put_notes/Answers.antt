-- What is written of the table at a place comes after those before it.
use Rattle.std.proofs.Common.{◌≡◌, ◌≤◌, Some, ap, arith, length, subst}
use Rattle.std.proofs.lemmas.List.{length-map}
use Rattle.std.specs.Prelude.{slice_get}
use Rattle.basics.proofs.Lists.{mapped, read_at}
use Rattle.engine.proofs.NoteLemmas.{all-noted, note-next}
use Rattle.engine.specs.Commands.{NotesTable, table_names}
use Rattle.table_model.specs.SpatialTables.{SpatialSchema}
use Rattle.text_commands.specs.Files.{OpensFile}
use Rattle.engine.proofs.commands.put_notes.Goals as goal

pub loop-table-preserved : goal.loop-table-preserved
loop-table-preserved g c =
    let item = c.table-item.result in
    let P : SpatialSchema → Type 0 = λ ds. slice_get ds c.loop-table.table-index ≡ Some item in
    let here : slice_get c.args.schema.now c.loop-table.table-index ≡ Some item =
    subst P c.tables-table-items.ensures.value
    (read_at c.tables-table-items.result.now c.loop-table.table-index item c.loop-table-test.true c.table-item.is) in
    record {
      callable = λ always. c.put_note.ensures.callable;
      notes = note-next (OpensFile g.F.FnMut) g.R.Read.remaining g.M.Sink.taken g.M.Sink.failures c.args.directory.now (table_names c.args.schema.now) c.loop-table.table-index item.name
          c.args.opener c.loop-table.opener c.put_note.new.opener c.args.more.now c.loop-table.more c.put_note.new.more
          (mapped (λ t. t.name) c.args.schema.now c.loop-table.table-index item here)
          c.loop-table.invariant.notes
          (subst (λ name. NotesTable (OpensFile g.F.FnMut) g.R.Read.remaining g.M.Sink.taken g.M.Sink.failures
          c.args.directory.now name c.loop-table.opener c.put_note.new.opener
          c.loop-table.more c.put_note.new.more)
          c.as_str.ensures c.put_note.ensures.notes);
    }

pub returns : goal.returns
returns g c =
    let past : length (table_names c.args.schema.now) ≤ c.loop-table.table-index =
    omega (
      arith,
      length-map c.args.schema.now (λ t. t.name),
      ap length c.tables-table-items.ensures.value,
      c.loop-table-test.false,
    ) in (
      c.loop-table.opener,
      all-noted (OpensFile g.F.FnMut) g.R.Read.remaining g.M.Sink.taken g.M.Sink.failures c.args.directory.now
          (table_names c.args.schema.now)
          c.loop-table.table-index c.args.opener c.loop-table.opener c.args.more.now c.loop-table.more past
          c.loop-table.invariant.notes,
    )
