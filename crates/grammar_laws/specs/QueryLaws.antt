-- The laws of queries: reading and the grammar agree, on trees and on refusals at a token.
use Rattle.std.specs.Prelude.{◌≡◌, ℕ, List, Ok, IfErr}
use Rattle.table_model.specs.QueryGrammar.{IsQuery}
use Rattle.table_model.specs.QueryReading.{query_of}
use Rattle.table_model.specs.QueryRefusals.{AppliesInQuery, ReturnsFirst}
use Rattle.table_model.specs.Queries.{SelectQuery}
use Rattle.table_model.specs.References.{AreOneOrTwo}

-- the query that a text is read as is its query by the grammar
abbrev pub ReadIsQuery : Type 0
ReadIsQuery = (text : List ℕ) (query : SelectQuery) → query_of text ≡ Ok query → IsQuery text query

-- a text that is a query by the grammar is read as that query
abbrev pub QueryIsRead : Type 0
QueryIsRead = (text : List ℕ) (query : SelectQuery) → IsQuery text query → query_of text ≡ Ok query

-- a text is at most one query
abbrev pub OneTree : Type 0
OneTree = (text : List ℕ) (a b : SelectQuery) → IsQuery text a → IsQuery text b → a ≡ b

-- a query has one reference or two
abbrev pub ReferencesAreFew : Type 0
ReferencesAreFew = (text : List ℕ) (query : SelectQuery) → IsQuery text query → AreOneOrTwo query.references

-- if a text is refused for a fault at a token, the fault applies there
abbrev pub RefusalApplies : Type 0
RefusalApplies = (text : List ℕ) → IfErr (query_of text) (AppliesInQuery text)

-- where faults apply at tokens of a text, it is refused for the first of them
abbrev pub FirstIsRead : Type 0
FirstIsRead = (text : List ℕ) → ReturnsFirst text (query_of text)
