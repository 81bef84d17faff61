use Rattle.feature_table.proofs.databases.Database.load.Goals as goal

pub returns-clause-records : goal.returns-clause-records
returns-clause-records g c = c.load_into.ensures.records.0
