-- A query by its parts, as a reader reads them: what comes before FROM, the tables, and what comes after them.
use Rattle.std.specs.Prelude.{ℕ, List, ◌∷◌, Option}
use Rattle.table_model.specs.Parsers.{Outcome, and_then, ◌>>=◌, ◌>>◌, pure, eat, expect}
use Rattle.table_model.specs.QueryReading.{Reader, Second, explained, selection, reference, second, where_condition, limited}
use Rattle.table_model.specs.Queries.{Condition, SelectQuery}
use Rattle.table_model.specs.declared.faults.QueryFault.{QueryFault}
use Rattle.table_model.specs.declared.faults.QueryFault.TheVariants as fault
use Rattle.table_model.specs.declared.queries.Explain.{Explain}
use Rattle.table_model.specs.declared.queries.Query.{Query}
use Rattle.table_model.specs.declared.queries.Selection.{Selection}
use Rattle.table_model.specs.declared.queries.WrittenColumn.{WrittenColumn}
use Rattle.table_model.specs.declared.queries.WrittenCond.{WrittenCond}
use Rattle.table_model.specs.declared.queries.WrittenReference.{WrittenReference}
use Rattle.table_model.specs.declared.tokens.TokenKind.TheVariants as k

-- EXPLAIN, if it is there, and what SELECT lists
abbrev pub head : Reader (Explain × Selection WrittenColumn)
head = do
  said ← explained
  expect fault.Syntax k.Select
  selection ← selection
  pure (said, selection)

-- the references of FROM and the condition of ON, from the first reference and what was read after it
abbrev pub with_first : WrittenReference → Outcome QueryFault Second → Outcome QueryFault (List WrittenReference × Option Condition)
with_first first outcome = and_then outcome (λ second. pure (first ∷ second.0, second.1))

-- FROM and the tables
abbrev pub sources : Reader (List WrittenReference × Option Condition)
sources = do
  expect fault.Syntax k.From
  first ← reference
  second ← second
  pure (first ∷ second.0, second.1)

-- what was read before LIMIT and the number of LIMIT, and then the text ends
abbrev pub with_limit : {A : Type 0} → A → Reader (A × Option ℕ)
with_limit x = do
  limit ← limited
  eat k.Semicolon
  expect fault.Syntax k.End
  pure (x, limit)

-- the condition of WHERE and the number of LIMIT, and then the text ends
abbrev pub ending : Reader (Option Condition × Option ℕ)
ending = where_condition >>= with_limit

-- JOIN, a second table reference and ON
abbrev pub joined_reference : Reader WrittenReference
joined_reference = do
  expect fault.Syntax k.Join
  reference ← reference
  expect fault.Syntax k.On
  pure reference

-- the query of these parts
abbrev pub assembled : {A C : Type 0} → Explain × Selection C → List WrittenReference × Option (WrittenCond A) → Option (WrittenCond A) × Option ℕ → Query A C
assembled h s e = record { explain = h.0; selection = h.1; references = s.0; on = s.1; condition = e.0; limit = e.1 }

-- a query, part by part
abbrev pub by_parts : Reader SelectQuery
by_parts = do
  head ← head
  sources ← sources
  ending ← ending
  pure (assembled head sources ending)
