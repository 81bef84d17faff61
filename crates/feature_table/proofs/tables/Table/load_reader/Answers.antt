use Rattle.feature_table.proofs.ReaderRecords.{shows_reader}
use Rattle.feature_table.specs.GeometryFields.{reading}
use Rattle.feature_table.proofs.tables.Table.load_reader.Goals as goal

pub returns-clause-records : goal.returns-clause-records
returns-clause-records g c =
    shows_reader reading c.args.table.now _ _ _ _ _
    (λ text known. (
      c.load_into.ensures.loads _ (c.new-records.ensures.gives text known),
      c.load_into.ensures.refused _
          (c.new-records.ensures.gives text known),
    )) c.load_into.ensures.records
