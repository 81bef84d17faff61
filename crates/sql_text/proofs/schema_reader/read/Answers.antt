use Rattle.grammar_laws.proofs.LawfulSchemas.{lawful-from_schema}
use Rattle.sql_text.proofs.schema_reader.read.Goals as goal
use Rattle.table_model.specs.GeometryColumns.{shape_named}

pub of-requires : goal.of-requires
of-requires c = lawful-from_schema shape_named _ _ _ c.in_ok-tables.ensures
