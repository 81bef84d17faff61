-- The rows that the steps of a prepared statement give are the answer of its query.
use Rattle.std.proofs.Common.{◌≡◌, ◌∙◌, ◌⊎◌, ap, inl, inr, refl, subst, sym, ℕ, true, false, List, [], ◌∷◌, Option}
use Rattle.std.proofs.Common.{Some, None, Result, Ok, Err, arith, get_or, not}
use Rattle.std.specs.Prelude.{slice_get}
use Rattle.std.specs.List.{position}
use Rattle.std.specs.Option.{option_and_then, option_map_or}
use Rattle.std.specs.declared.alloc.AllocError.{AllocError}
use Rattle.std.proofs.lemmas.Bool.{false≢true}
use Rattle.std.proofs.lemmas.List.Quantifiers.{position-Some}
use Rattle.std.proofs.lemmas.Option.{slice_get-get_or}
use Rattle.geometry_model.specs.GivenMatrix.{GivesMatrix}
use Rattle.kept_tables.specs.KeptLaws.{AllNamedAreLoaded, KeptAnswersAreRuns}
use Rattle.kept_tables.specs.KeptTables.{KeptTables, is_loaded, lent, names_unloaded}
use Rattle.library_calls.specs.Refusals.{none_there, ok}
use Rattle.query_runs.specs.RecordTexts.{record_text}
use Rattle.sfq_tables.specs.OpenStatements.{busy, status_of_step}
use Rattle.sfq_tables.specs.SteppedAnswers.{StepMade, StepToEnd, StepsGiveRuns, rows_given, with_row}
use Rattle.statements.specs.Preparing.{bound_after, bound_of, bound_unless, named_table, or_fault, unloaded_table}
use Rattle.statements.specs.StatementLaws.{AnswersAreWritten}
use Rattle.statements.specs.StatementRows.{records_of}
use Rattle.statements.specs.StatementTexts.{rows_text}
use Rattle.statements.specs.Statements.{BusyStep, Steps, UnlessBusy, WhereBusy, records_left, row_record}
use Rattle.statements.specs.declared.prepared.Statement.{Statement}
use Rattle.statements.specs.declared.steps.StatementStep.{StatementStep}
use Rattle.statements.specs.declared.steps.StatementStep.TheVariants as steps
use Rattle.table_model.specs.Binding.{binding, table_place}
use Rattle.table_model.specs.GeometryColumns.{geometry_binding}
use Rattle.table_model.specs.Loading.{Record}
use Rattle.table_model.specs.Queries.{SelectQuery}
use Rattle.table_model.specs.QueryReading.{query_of}
use Rattle.table_model.specs.RunOutcomes.{MatrixOf, Refusal}
use Rattle.table_model.specs.SpatialTables.{SpatialDatabase, SpatialQuery}
use Rattle.table_model.specs.declared.faults.QueryFault.{QueryFault}
use Rattle.table_model.specs.declared.queries.WrittenReference.{WrittenReference}

-- ---- steps

-- a step that finds a row gives the first of those that were to come
row_first : (matrix : MatrixOf) (database : SpatialDatabase) (before after new : Statement)
    (result : Result StatementStep AllocError) → GivesMatrix matrix → after ≡ new
    → UnlessBusy result (Steps database before result new) → status_of_step result ≡ ok
    → records_left matrix database before ≡ with_row (row_record database after) (records_left matrix database after)
row_first matrix database before after new (Ok steps.Row) gives same is found =
    let there = is.gives matrix gives in
    subst (λ s. records_left matrix database before ≡ with_row (row_record database s) (records_left matrix database s))
    (sym same)
    (there.2 ∙ sym (ap (λ o. with_row o (records_left matrix database new)) there.1))
row_first matrix database before after new (Ok steps.Busy) gives same is found = absurd (omega (arith, found))
row_first matrix database before after new (Ok steps.End) gives same is found = absurd (omega (arith, found))
row_first matrix database before after new (Err e) gives same is found = absurd (omega (arith, found))

-- one that is busy leaves all that were to come
all_left : (most : ℕ) (matrix : MatrixOf) (database : SpatialDatabase) (before after new : Statement)
    (result : Result StatementStep AllocError) → GivesMatrix matrix → after ≡ new
    → WhereBusy result (BusyStep (Some most) database before new) → status_of_step result ≡ busy
    → records_left matrix database before ≡ with_row (row_record database after) (records_left matrix database after)
all_left most matrix database before after new (Ok steps.Row) gives same is found = absurd (omega (arith, found))
all_left most matrix database before after new (Ok steps.Busy) gives same is found =
    subst (λ s. records_left matrix database before ≡ with_row (row_record database s) (records_left matrix database s))
    (sym same)
    (sym (is.come matrix gives) ∙ sym (ap (λ o. with_row o (records_left matrix database new)) is.row))
all_left most matrix database before after new (Ok steps.End) gives same is found = absurd (omega (arith, found))
all_left most matrix database before after new (Err e) gives same is found = absurd (omega (arith, found))

-- and one that finds none is made when none is to come
none_left : (matrix : MatrixOf) (database : SpatialDatabase) (before after new : Statement)
    (result : Result StatementStep AllocError) → GivesMatrix matrix → after ≡ new
    → UnlessBusy result (Steps database before result new) → status_of_step result ≡ none_there
    → records_left matrix database before ≡ with_row (row_record database after) []
none_left matrix database before after new (Ok steps.Row) gives same is found = absurd (omega (arith, found))
none_left matrix database before after new (Ok steps.Busy) gives same is found = absurd (omega (arith, found))
none_left matrix database before after new (Ok steps.End) gives same is found =
    let there = is.gives matrix gives in
    subst (λ s. records_left matrix database before ≡ with_row (row_record database s) []) (sym same)
    (there.0 ∙ sym (ap (λ o. with_row o []) there.1.0))
none_left matrix database before after new (Err e) gives same is found = absurd (omega (arith, found))

-- what is in a slot
in_slot : (after new : Statement) → ◌≡◌ {A = Option Statement} (Some after) (Some new) → after ≡ new
in_slot after new e = cc e

-- so steps to the end give all that was to come
pub all_given : (matrix : MatrixOf) (database : SpatialDatabase) (before : Statement) (made : List StepMade)
    → GivesMatrix matrix → StepToEnd database before made → records_left matrix database before ≡ rows_given database made
all_given matrix database before [] gives is = absurd is
all_given matrix database before (step ∷ more) gives is = go is.1 (all_given matrix database step.after more gives)
  where
    same : step.after ≡ is.0.statement
    same = in_slot step.after is.0.statement is.0.there

    first : (step.status ≡ ok) ⊎ (step.status ≡ busy)
        → records_left matrix database before
        ≡ with_row (row_record database step.after) (records_left matrix database step.after)
    first (inl row) =
        row_first matrix database before step.after is.0.statement is.0.result gives same is.0.steps
        (sym is.0.status_is ∙ row)
    first (inr waits) =
        all_left step.most matrix database before step.after is.0.statement is.0.result gives same is.0.busy
        (sym is.0.status_is ∙ waits)

    go : ((step.status ≡ none_there) × (more ≡ []))
        ⊎ (((step.status ≡ ok) ⊎ (step.status ≡ busy)) × StepToEnd database step.after more)
        → (StepToEnd database step.after more → records_left matrix database step.after ≡ rows_given database more)
        → records_left matrix database before ≡ rows_given database (step ∷ more)
    go (inl end) later =
        none_left matrix database before step.after is.0.statement is.0.result gives same is.0.steps
        (sym is.0.status_is ∙ end.0)
        ∙ ap (λ l. with_row (row_record database step.after) (rows_given database l)) (sym end.1)
    go (inr goes_on) later =
        first goes_on.0 ∙ ap (with_row (row_record database step.after)) (later goes_on.1)

-- ---- the query

-- a reference that names an unloaded table has a table
names_one : (kept : KeptTables) (o : Option ℕ) → option_map_or (λ place. not (is_loaded kept place)) o false ≡ true
    → (place : ℕ) × (o ≡ Some place)
names_one kept None e = absurd (false≢true e)
names_one kept (Some place) e = (place, refl)

-- the first of these references that names an unloaded table
abbrev first_unloaded : KeptTables → List WrittenReference → Option ℕ
first_unloaded kept references =
    option_and_then (λ n. named_table kept.definitions (slice_get references n)) (position (names_unloaded kept) references)

found_at : (kept : KeptTables) (w : WrittenReference) (more : List WrittenReference) (o : Option ℕ)
    → position (names_unloaded kept) (w ∷ more) ≡ o → first_unloaded kept (w ∷ more) ≡ None
    → position (names_unloaded kept) (w ∷ more) ≡ None
found_at kept w more None is none = is
found_at kept w more (Some n) is none =
    let found = position-Some (names_unloaded kept) (w ∷ more) n w is in
    let here = slice_get-get_or (w ∷ more) n w found.0 in
    let one = names_one kept (table_place kept.definitions (get_or (w ∷ more) n w).table.text) found.1 in
    let there : first_unloaded kept (w ∷ more) ≡ Some one.0 =
    ap (option_and_then (λ n. named_table kept.definitions (slice_get (w ∷ more) n))) is
    ∙ ap (named_table kept.definitions) here ∙ one.1 in
    let k : ◌≡◌ {A = Option ℕ} (Some one.0) None = sym there ∙ none in
    absurd (cc)

all_loaded : (kept : KeptTables) (references : List WrittenReference) → first_unloaded kept references ≡ None
    → position (names_unloaded kept) references ≡ None
all_loaded kept [] none = refl
all_loaded kept (w ∷ more) none = found_at kept w more (position (names_unloaded kept) (w ∷ more)) refl none

-- what a text is bound to that is bound
pub record IsBoundText (kept : KeptTables) (text : List ℕ) (bound : SpatialQuery) : Type 0 where
  pub written : SelectQuery
  pub reads : query_of text ≡ Ok written
  pub loaded : AllNamedAreLoaded kept written
  pub binds : binding geometry_binding kept.definitions written ≡ Ok bound

bound_result : (r : Result SpatialQuery QueryFault) (bound : SpatialQuery) → or_fault r ≡ Ok bound → r ≡ Ok bound
bound_result (Ok b) bound e = let same : b ≡ bound = cc e in ap Ok same
bound_result (Err f) bound e = cc e

unless : (kept : KeptTables) (text : List ℕ) (written : SelectQuery) (bound : SpatialQuery) (o : Option ℕ)
    → query_of text ≡ Ok written → unloaded_table kept written ≡ o → bound_unless o kept.definitions written ≡ Ok bound
    → IsBoundText kept text bound
unless kept text written bound (Some place) reads is e = absurd (cc e)
unless kept text written bound None reads is e = record {
  written = written;
  reads = reads;
  loaded = all_loaded kept written.references is;
  binds = bound_result (binding geometry_binding kept.definitions written) bound e;
}

after_reading : (kept : KeptTables) (text : List ℕ) (bound : SpatialQuery) (q : Result SelectQuery QueryFault)
    → query_of text ≡ q → bound_after kept q ≡ Ok bound → IsBoundText kept text bound
after_reading kept text bound (Ok written) reads e =
    unless kept text written bound (unloaded_table kept written) reads refl e
after_reading kept text bound (Err f) reads e = absurd (cc e)

is_bound_text : (kept : KeptTables) (text : List ℕ) (bound : SpatialQuery) → bound_of kept text ≡ Ok bound
    → IsBoundText kept text bound
is_bound_text kept text bound e = after_reading kept text bound (query_of text) refl e

-- ---- the law

pub steps_give_runs : AnswersAreWritten → KeptAnswersAreRuns → StepsGiveRuns
steps_give_runs written_answers kept_answers matrix gives before after text number texts made prepared kept many from loads
    stepped =
    let database = lent before.database in
    let statement = prepared.statement in
    let is = is_bound_text before.database text statement.bound prepared.bound in
    let written : List Record → Result (List ℕ) Refusal = λ records. Ok (rows_text database statement.bound records) in
    let rows : records_of matrix database statement.bound statement.plan ≡ rows_given database made =
    sym (prepared.begun.records matrix gives) ∙ all_given matrix database statement made gives stepped in
    kept_answers record_text matrix text is.written before.database texts kept many from loads is.reads is.loaded
    ∙ written_answers matrix is.written database statement.bound statement.plan is.binds prepared.plan
    ∙ ap written rows
