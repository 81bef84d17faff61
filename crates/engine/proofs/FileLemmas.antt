-- What files give, and how commands over them end.
use Rattle.std.proofs.Common.{Bool, true, false, ◌≡◌, ◌≢◌, ◌+◌, ◌<◌, ◌≤◌, ◌⊎◌, inl, inr, ℕ, zero, suc, List, [], ◌∷◌, ◌++◌, length, take, Option, None, Some, Result, Ok, Err, refl, sym, ◌∙◌, ap, subst, add-one, arith}
use Rattle.std.specs.Prelude.{IfSome, slice_get}
use Rattle.std.proofs.lemmas.Bool.{cases_lt, lt-ltb}
use Rattle.std.proofs.lemmas.List.{length-take, take_all}
use Rattle.engine.specs.Commands.{IsFaultOf, Opens, ReadsSchema, check_outcome, check_text, schema_failure}
use Rattle.text_commands.specs.Ends.{failed_writes}
use Rattle.text_commands.specs.Files.{Opening}
use Rattle.text_commands.specs.GivenTexts.{IsTextOf}
use Rattle.text_commands.specs.declared.files.File.TheVariants as role
use Rattle.failures.specs.declared.failure.Failure.{Failure}
use Rattle.failures.specs.declared.failure.Failure.TheVariants as f
use Rattle.failures.specs.declared.run_fault.Fault.{Fault}
use Rattle.failures.specs.declared.run_fault.Fault.TheVariants as faults
use Rattle.query_runs.specs.Runs.{Runs, count_after}
use Rattle.failures.specs.Faults.{load_wants_memory, memory_or, of_table}
use Rattle.table_model.specs.Databases.{load_tables}
use Rattle.table_model.specs.GeometryColumns.{read_geometry, shape_named}
use Rattle.table_model.specs.Loading.{Record}
use Rattle.table_model.specs.RunOutcomes.{OfTable, Refusal, after}
use Rattle.table_model.specs.SchemaReading.{schema_of}
use Rattle.table_model.specs.SpatialTables.{SpatialDatabase, SpatialSchema}
use Rattle.table_model.specs.Tokens.{most_bytes}
use Rattle.table_model.specs.declared.faults.LoadFault.{LoadFault}
use Rattle.table_model.specs.declared.faults.TableFault.{TableFault}
use Rattle.table_model.specs.declared.faults.SchemaFault.{SchemaFault}
use Rattle.table_model.specs.declared.faults.SchemaFault.TheVariants as fault

-- ---- the schema's file

too_long : (text : List ℕ) → most_bytes < length text → schema_of shape_named text ≡ Err fault.TooLong
unfolding schema_of
too_long text past = rw (lt-ltb most_bytes (length text) past) refl

cut_by : (limit : ℕ) (bytes : List ℕ) → limit ≡ most_bytes + 1 → (limit < length bytes) ⊎ (length bytes ≤ limit)
    → schema_of shape_named (take limit bytes) ≡ schema_of shape_named bytes
cut_by limit bytes is (inl past) =
    let more : most_bytes < length (take limit bytes) = omega (arith, length-take {A = ℕ}) in
    let all : most_bytes < length bytes = omega arith in
    too_long (take limit bytes) more ∙ sym (too_long bytes all)
cut_by limit bytes is (inr within) = ap (schema_of shape_named) (take_all limit bytes within)

-- a text that is too long is refused alike where it is cut one byte past the greatest length
pub schema-cut : (limit : ℕ) (bytes : List ℕ) → limit ≡ most_bytes + 1 → schema_of shape_named (take limit bytes) ≡ schema_of shape_named bytes
schema-cut limit bytes is = cut_by limit bytes is (cases_lt limit (length bytes))

-- what the text that was read gives, the text of the file gives
pub text-gives : (known : Option (List ℕ)) (limit : ℕ) (text : List ℕ) (answer : Result SpatialSchema SchemaFault) → limit ≡ most_bytes + 1
    → IfSome known (λ bytes. text ≡ take limit bytes) → schema_of shape_named text ≡ answer
    → (whole : List ℕ) × IsTextOf known whole × (schema_of shape_named whole ≡ answer)
text-gives None limit text answer is read gives = (text, tt, gives)
text-gives (Some bytes) limit text answer is read gives =
    (bytes, refl, sym (schema-cut limit bytes is) ∙ ap (schema_of shape_named) (sym read) ∙ gives)

-- a file's text that is a schema
pub read-schema : {R : Type 0} (remaining : R → Option (List ℕ)) (file : Option R) (reader : R) (limit : ℕ) (text : List ℕ) (definitions : SpatialSchema) → file ≡ Some reader
    → limit ≡ most_bytes + 1 → IfSome (remaining reader) (λ bytes. text ≡ take limit bytes) → schema_of shape_named text ≡ Ok definitions → ReadsSchema remaining file (Ok definitions)
read-schema remaining file reader limit text definitions is limited read gives =
    subst (λ o. ReadsSchema remaining o (Ok definitions)) (sym is) (text-gives (remaining reader) limit text (Ok definitions) limited read gives)

-- and one that isn't
pub refused-schema : {R : Type 0} (remaining : R → Option (List ℕ)) (file : Option R) (reader : R) (limit : ℕ) (text : List ℕ)
    (refusal : SchemaFault) → file ≡ Some reader → limit ≡ most_bytes + 1
    → IfSome (remaining reader) (λ bytes. text ≡ take limit bytes)
    → (refusal ≢ fault.OutOfMemory → schema_of shape_named text ≡ Err refusal)
    → ReadsSchema remaining file (Err (schema_failure refusal))
refused-schema remaining file reader limit text fault.OutOfMemory is limited read gives =
    subst (λ o. ReadsSchema remaining o (Err f.OutOfMemory)) (sym is) tt
refused-schema remaining file reader limit text refusal is limited read gives =
    subst (λ o. ReadsSchema remaining o (Err (schema_failure refusal))) (sym is)
    (text-gives (remaining reader) limit text (Err refusal) limited read (gives (λ e. cc e)))

-- ---- lists

-- one element more of a beginning
pub take-more : {X : Type 0} (xs : List X) (i : ℕ) (x : X) → slice_get xs i ≡ Some x → take (suc i) xs ≡ take i xs ++ x ∷ []
take-more [] i x is = cc is
take-more (y ∷ xs) zero x is =
    let same : y ≡ x = cc is in
    ap (λ z. z ∷ []) same
take-more (y ∷ xs) (suc i) x is = ap (λ l. y ∷ l) (take-more xs i x is)

-- ---- opened files

module _ {F R : Type 0} (files : Opening F R) where
  -- one file more is opened
  pub Opens-next : (opener : F) (paths : List (List ℕ)) (readers : List R) (next : F) (path : List ℕ) (reader : R) (after : F)
      → Opens files opener paths readers next → files role.Table next path (Some reader) after
      → Opens files opener (paths ++ path ∷ []) (readers ++ reader ∷ []) after
  Opens-next opener [] [] next path reader after opens called =
      (after, subst (λ s. files role.Table s path (Some reader) after) opens called, refl)
  Opens-next opener (p ∷ paths) (r ∷ readers) next path reader after opens called =
      (opens.0, opens.1, Opens-next opens.0 paths readers next path reader after opens.2 called)
  Opens-next opener _ _ next path reader after opens called = absurd opens

  -- a table's file more is opened
  pub table-next : (opener : F) (paths : List (List ℕ)) (i : ℕ) (path : List ℕ) (readers : List R) (now : F) (reader : R) (more : List R) (after : F)
      → slice_get paths i ≡ Some path → Opens files opener (take i paths) readers now
      → files role.Table now path (Some reader) after → more ≡ readers ++ reader ∷ []
      → Opens files opener (take (i + 1) paths) more after
  table-next opener paths i path readers now reader more after is opens called grown =
      rw add-one (subst (λ ps. Opens files opener ps more after) (sym (take-more paths i path is))
      (subst (λ rs. Opens files opener (take i paths ++ path ∷ []) rs after) (sym grown)
      (Opens-next opener (take i paths) readers now path reader after opens called)))

-- ---- ends

-- what a fault says is the same, whatever would have been returned
pub runs-as : (A B : Type 0) (e : Fault) (outcome : Result (List ℕ) Refusal) (reached : ℕ → Type 0) (old new : Option (List ℕ)) → Runs {A = A} (Err e) outcome reached old new
    → Runs {A = B} (Err e) outcome reached old new
runs-as A B (faults.Query e) outcome reached old new is = is
runs-as A B _ outcome reached old new is = is

-- a sink's failures are counted for a fault as for its failure
pub counts-as : (definitions : SpatialSchema) (e : Fault) (failure : Failure) (before : ℕ) → IsFaultOf definitions e failure
    → count_after {A = ℕ} before (Err e) ≡ failed_writes before (Err failure)
counts-as definitions (faults.Load table e) failure before is = rw is.1
counts-as definitions _ failure before is = rw is

count-of : (memory : Bool) (table : ℕ) (e : LoadFault) (before : ℕ) → count_after {A = ℕ} before (Err (memory_or memory (faults.Load table e))) ≡ before
count-of true table e before = refl
count-of false table e before = refl

-- a table that isn't loaded counts no failure of the sink
pub table-counts : (definitions : SpatialSchema) (refusal : TableFault) (e : Fault) (failure : Failure) (before : ℕ) → e ≡ of_table refusal → IsFaultOf definitions e failure
    → before ≡ failed_writes before (Err failure)
table-counts definitions refusal e failure before is names =
    sym (count-of (load_wants_memory refusal.fault) refusal.table refusal.fault before)
    ∙ ap (λ x. count_after {A = ℕ} before (Err x)) (sym is)
    ∙ counts-as definitions e failure before names

-- the lines of tables that have loaded
pub check-loaded : (definitions : SpatialSchema) (records : List (List Record)) (database : SpatialDatabase) → load_tables read_geometry definitions records ≡ Ok database.tables
    → database.definitions ≡ definitions → check_outcome definitions records ≡ Ok (check_text database.definitions database.tables)
check-loaded definitions records database loaded same =
    ap (λ r. after OfTable r (λ tables. Ok (check_text definitions tables))) loaded ∙ ap (λ ds. Ok (check_text ds database.tables)) (sym same)
