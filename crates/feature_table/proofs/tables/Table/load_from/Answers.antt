use Rattle.feature_table.proofs.tables.Table.load_from.Goals as goal

pub returns-clause-records : goal.returns-clause-records
returns-clause-records g c = let all = c.load_into.ensures.records in (all.0, all.2)
