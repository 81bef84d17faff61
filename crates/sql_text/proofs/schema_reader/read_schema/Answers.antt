use Rattle.std.proofs.Common.{Result, Ok, Err, IfOk, List, ℕ}
use Rattle.grammar_laws.proofs.SchemaFirst.{first_is_given}
use Rattle.grammar_laws.proofs.SchemaLaws.{given_is_schema, schema_is_given}
use Rattle.grammar_laws.proofs.SchemaRefused.{given_applies}
use Rattle.table_model.specs.declared.definitions.TableDef.{TableDef}
use Rattle.table_model.specs.declared.faults.SchemaFault.{SchemaFault}
use Rattle.table_model.specs.declared.faults.SchemaFault.TheVariants as fault
use Rattle.table_model.specs.GeometryColumns.{ColumnShape}
use Rattle.table_model.specs.Outcomes.{Gives}
use Rattle.table_model.specs.SchemaGrammar.{IsSchema}
use Rattle.table_model.specs.SchemaReading as spec
use Rattle.sql_text.proofs.schema_reader.read_schema.Goals as goal
use Rattle.table_model.specs.GeometryColumns.{shape_named}

is_schema : (text : List ℕ) (r : Result (List (TableDef ColumnShape)) SchemaFault) → Gives fault.OutOfMemory (λ s. s) r (spec.schema_of shape_named text)
    → IfOk r (λ s. IsSchema shape_named text s)
is_schema text (Ok s) e = given_is_schema shape_named text s e
is_schema text (Err e) h = tt

pub returns-clause-ok : goal.returns-clause-ok
returns-clause-ok c = is_schema c.args.text.now c.read.result c.read.ensures

pub returns-clause-only : goal.returns-clause-only
returns-clause-only c = schema_is_given shape_named c.args.text.now c.read.result c.read.ensures

pub returns-clause-applies : goal.returns-clause-applies
returns-clause-applies c = given_applies shape_named c.args.text.now c.read.result c.read.ensures

pub returns-clause-first : goal.returns-clause-first
returns-clause-first c = first_is_given shape_named c.args.text.now c.read.result c.read.ensures
