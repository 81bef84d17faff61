-- Short names for worked examples of texts of queries.
use Rattle.std.specs.Prelude.{ℕ, List, [], ◌∷◌, ◌++◌, codes, Option, Some, None, Result, Ok}
use Rattle.table_model.specs.GeometryColumnExamples.{table}
use Rattle.table_model.specs.Queries.{Condition, SelectQuery}
use Rattle.table_model.specs.QueryReading.{query_of}
use Rattle.table_model.specs.declared.faults.QueryFault.{QueryFault}
use Rattle.table_model.specs.declared.queries.Explain.{Explain}
use Rattle.table_model.specs.declared.queries.Explain.TheVariants as explains
use Rattle.table_model.specs.declared.queries.Selection.{Selection}
use Rattle.table_model.specs.declared.queries.Selection.TheVariants as selections
use Rattle.table_model.specs.declared.queries.WrittenColumn.{WrittenColumn}
use Rattle.table_model.specs.declared.queries.WrittenReference.{WrittenReference}

-- what a text reads as
abbrev pub read : List ℕ → Result SelectQuery QueryFault
read text = query_of text

-- what a SELECT of all columns of the table t with this condition, from byte 22 on, reads as
abbrev pub read_where : List ℕ → Result SelectQuery QueryFault
read_where condition = read (codes "SELECT * FROM t WHERE " ++ condition)

-- the tree of a SELECT over one table or two, with its condition of ON
abbrev pub joined : Explain → Selection WrittenColumn → List WrittenReference → Option Condition → Option Condition → Result SelectQuery QueryFault
joined said selection references on condition =
    Ok (record { explain = said; selection = selection; references = references; on = on; condition = condition; limit = None })

-- the tree of a SELECT of all columns of the table t with a condition
abbrev pub all_where : Condition → Result SelectQuery QueryFault
all_where condition = joined explains.No selections.All (table (codes "t") 14 ∷ []) None (Some condition)

-- the tree of a SELECT over one table, with its condition and its limit
abbrev pub under : Selection WrittenColumn → WrittenReference → Option Condition → Option ℕ → Result SelectQuery QueryFault
under selection table condition limit =
    Ok (record { explain = explains.No; selection = selection; references = table ∷ []; on = None; condition = condition; limit = limit })
