-- What a query's text is bound to over a kept database, or its first fault.
use Rattle.std.proofs.Common.{◌≡◌, ◌≢◌, ℕ, List, Some, None, Result, Ok, Err, sym, ◌∙◌, ap, subst}
use Rattle.std.specs.Prelude.{IsErrAnd}
use Rattle.kept_tables.specs.KeptTables.{KeptTables}
use Rattle.statements.specs.Preparing.{bound_after, bound_of, bound_unless, or_fault, unloaded_table}
use Rattle.statements.specs.declared.prepare_faults.PrepareFault.TheVariants as faults
use Rattle.table_model.specs.Binding.{binding}
use Rattle.table_model.specs.GeometryColumns.{geometry_binding}
use Rattle.table_model.specs.Outcomes.{Gives}
use Rattle.table_model.specs.Queries.{SelectQuery}
use Rattle.table_model.specs.QueryReading.{query_of}
use Rattle.table_model.specs.declared.faults.QueryFault.{QueryFault}
use Rattle.table_model.specs.declared.faults.QueryFault.TheVariants as query

-- a fault that is returned is what the definitions give, or that memory ran out
pub gives_fault : {X Y F : Type 0} (r : Result X F) (memory f : F) (view : X → Y) (answer : Result Y F) → IsErrAnd r
    (λ x. x ≡ f) → (f ≢ memory → answer ≡ Err f)
    → Gives memory view r answer
gives_fault (Ok x) memory f view answer is given = absurd is
gives_fault (Err e) memory f view answer is given = λ other. given (λ same. other (is ∙ same)) ∙ ap Err (sym is)

-- what the definitions give in other words
pub gives_same : {X Y F : Type 0} (r : Result X F) (memory : F) (view : X → Y) (answer these : Result Y F) → these ≡ answer
    → Gives memory view r answer → Gives memory view r these
gives_same r memory view answer these is gives = subst (λ a. Gives memory view r a) (sym is) gives

-- another fault of preparing is another fault of the query
pub other_fault : (e : QueryFault) → faults.Query e ≢ faults.Query query.OutOfMemory → e ≢ query.OutOfMemory
other_fault e other same = other (ap faults.Query same)

-- a text that isn't read
pub unread : (kept : KeptTables) (text : List ℕ) (e : QueryFault) → query_of text ≡ Err e → bound_of kept text ≡ Err
    (faults.Query e)
unread kept text e is = ap (bound_after kept) is

-- a table that isn't loaded
pub unloaded : (kept : KeptTables) (text : List ℕ) (written : SelectQuery) (place : ℕ) → query_of text ≡ Ok written
    → unloaded_table kept written ≡ Some place → bound_of kept text ≡ Err (faults.NotLoaded place)
unloaded kept text written place is at = ap (bound_after kept) is ∙ ap (λ o. bound_unless o kept.definitions written) at

-- a query whose tables are loaded
pub read_and_loaded : (kept : KeptTables) (text : List ℕ) (written : SelectQuery) → query_of text ≡ Ok written
    → unloaded_table kept written ≡ None → bound_of kept text ≡ or_fault (binding geometry_binding kept.definitions written)
read_and_loaded kept text written is at = ap (bound_after kept) is ∙ ap (λ o. bound_unless o kept.definitions written) at
