use Rattle.feature_table.proofs.tables.Table.load.Goals as goal

pub returns-clause-records : goal.returns-clause-records
returns-clause-records g c = let all = c.load_reader.ensures.records in (all.0, all.1, all.2)
