-- What a fault says of the steps before it.
use Rattle.std.proofs.Common.{◌≡◌, ◌≢◌, ◌⊎◌, ◌∷◌, ◌++◌, inl, inr, ℕ, suc, List, Option, None, Some, Result, Ok, Err, IfErr, []}
use Rattle.std.proofs.Common.{◌∙◌, ap, arith, length, refl, subst, sym, true}
use Rattle.std.specs.List.{Any}
use Rattle.std.proofs.lemmas.Bool.{false≢true}
use Rattle.basics.specs.Counts.{one_more}
use Rattle.std.specs.Prelude.{IsErrAnd}
use Rattle.tiles.specs.declared.plain_records.PlainRecords.{PlainRecords}
use Rattle.feature_table.proofs.FailureLemmas.{failure_or_not}
use Rattle.feature_table.specs.Outcomes.{IsFailure, is_of_reading}
use Rattle.tiles.specs.PlainRecords.{AreAllOf, GivesRest, HasLeft, HasNoneLeft, IsMemory, IsReadFault, TakesNext}
use Rattle.feature_table.specs.declared.headers.Layout.{Layout}
use Rattle.feature_table.specs.Tables.{records_in}
use Rattle.table_model.specs.Loading.{Record, header_fault}
use Rattle.table_model.specs.declared.definitions.ColumnDef.{ColumnDef}
use Rattle.table_model.specs.declared.faults.LoadFault.{LoadFault}
use Rattle.table_model.specs.declared.faults.LoadFault.TheVariants as fault
use Rattle.tiles.specs.Copies.{WereRead, header_of}
use Rattle.tiles.specs.Faults.{AreSpoilt, IsCopyFault, IsOfHeader, IsTableFault, is_copy_of_reading}
use Rattle.tiles.specs.declared.faults.CopyFault.{CopyFault}
use Rattle.tiles.specs.declared.faults.CopyFault.TheVariants as copy

-- a step fails, and its fault is returned
pub returned : {A : Type 0} (P : CopyFault → Type 0) (r : Result A CopyFault) (x : CopyFault) → IsErrAnd r (λ f. f ≡ x) → P x
    → IfErr r P
returned P (Ok v) x is fault = tt
returned P (Err f) x is fault = subst P (sym is) fault

-- a step fails after steps in which no put failed
pub fails_later : (P : LoadFault → Type 0) (a b c : ℕ) (x : CopyFault) → b ≡ a → IsCopyFault P b c x → IsCopyFault P a c x
fails_later P a b c x same fault = subst (λ n. IsCopyFault P n c x) same fault

-- where memory ran out, that is a fault of the table
pub of_memory : {T : Type 0} (known : Option (List ℕ)) (columns : List (ColumnDef T)) (a c : ℕ) (x : CopyFault)
    → IsCopyFault IsMemory a c x → IsCopyFault (IsTableFault known columns) a c x
of_memory known columns a c copy.Sink fault = fault
of_memory known columns a c (copy.Load f) fault = (fault.0, inl (inr fault.1))

-- and so is a fault of reading
pub failed_read : {R : Type 0} (r : PlainRecords R) (Spoilt : Type 0) (f : LoadFault) → IsReadFault r Spoilt f → IsFailure f
failed_read r Spoilt f (inl memory) = inr memory
failed_read r Spoilt f (inr (reading, why)) = inl reading

pub of_read : {R T : Type 0} (r : PlainRecords R) (Spoilt : Type 0) (known : Option (List ℕ)) (columns : List (ColumnDef T))
    (a c : ℕ)
    (x : CopyFault) → IsCopyFault (IsReadFault r Spoilt) a c x → IsCopyFault (IsTableFault known columns) a c x
of_read r Spoilt known columns a c copy.Sink fault = fault
of_read r Spoilt known columns a c (copy.Load f) fault = (fault.0, inl (failed_read r Spoilt f fault.1))

-- the same of a result
pub result_of_read : {A R T : Type 0} (r : PlainRecords R) (Spoilt : Type 0) (known : Option (List ℕ))
    (columns : List (ColumnDef T))
    (a c : ℕ) (answer : Result A CopyFault) → IfErr answer (IsCopyFault (IsReadFault r Spoilt) a c)
    → IfErr answer (IsCopyFault (IsTableFault known columns) a c)
result_of_read r Spoilt known columns a c (Ok v) fault = tt
result_of_read r Spoilt known columns a c (Err x) fault = of_read r Spoilt known columns a c x fault

-- ---- faults of reading

-- where memory ran out, the fault isn't one of reading
not_reading : (f : LoadFault) → IsMemory f → is_of_reading f ≡ true → ⊥
not_reading f memory reading = false≢true (sym (ap is_of_reading memory) ∙ reading)

pub memory_is_no_reading : {X : Type 0} (a c : ℕ) (x : CopyFault) → IsCopyFault IsMemory a c x → is_copy_of_reading x ≡ true → X
memory_is_no_reading a c copy.Sink fault reading = absurd (false≢true reading)
memory_is_no_reading a c (copy.Load f) fault reading = absurd (not_reading f fault.1 reading)

-- a fault of reading has a reason
pub reason_of_load : {R : Type 0} (r : PlainRecords R) (Spoilt : Type 0) (f : LoadFault) → IsReadFault r Spoilt f
    → is_of_reading f ≡ true → (r.read_failed ≡ true) ⊎ Spoilt
reason_of_load r Spoilt f (inl memory) reading = absurd (not_reading f memory reading)
reason_of_load r Spoilt f (inr (is, why)) reading = why

-- what is spoilt for one reason is so for another
pub other_reason : {R S T : Type 0} (r : PlainRecords R) → (S → T) → (r.read_failed ≡ true) ⊎ S → (r.read_failed ≡ true) ⊎ T
other_reason r turn (inl p) = inl p
other_reason r turn (inr s) = inr (turn s)

pub reason : {R : Type 0} (r : PlainRecords R) (Spoilt Other : Type 0) (a c : ℕ) (x : CopyFault) → (Spoilt → Other)
    → IsCopyFault (IsReadFault r Spoilt) a c x → is_copy_of_reading x ≡ true → (r.read_failed ≡ true) ⊎ Other
reason r Spoilt Other a c copy.Sink turn fault reading = absurd (false≢true reading)
reason r Spoilt Other a c (copy.Load f) turn fault reading = other_reason r turn (reason_of_load r Spoilt f fault.1 reading)

-- the same of a result
pub result_reason : {A R : Type 0} (r : PlainRecords R) (Spoilt Other : Type 0) (a c : ℕ) (answer : Result A CopyFault)
    → (Spoilt → Other)
    → IfErr answer (IsCopyFault (IsReadFault r Spoilt) a c)
    → IfErr answer (λ x. is_copy_of_reading x ≡ true → (r.read_failed ≡ true) ⊎ Other)
result_reason r Spoilt Other a c (Ok v) turn fault = tt
result_reason r Spoilt Other a c (Err x) turn fault = reason r Spoilt Other a c x turn fault

-- a fault of a step is one of the records that were left before earlier steps
pub read_later : {R : Type 0} (r : PlainRecords R) (Spoilt Other : Type 0) (a b c : ℕ) (x : CopyFault) → b ≡ a → (Spoilt → Other)
    → IsCopyFault (IsReadFault r Spoilt) b c x → IsCopyFault (IsReadFault r Other) a c x
read_later r Spoilt Other a b c copy.Sink same turn fault = fault ∙ ap one_more same
read_later r Spoilt Other a b c (copy.Load f) same turn fault = (fault.0 ∙ same, turned fault.1)
  where
    turned : IsReadFault r Spoilt f → IsReadFault r Other f
    turned (inl memory) = inl memory
    turned (inr (is, why)) = inr (is, other_reason r turn why)

-- a step of which the fault is one of memory or of what was read
pub spoilt_later : {R : Type 0} (r : PlainRecords R) (Bad Other : Type 0) (a b c : ℕ) (x : CopyFault) → b ≡ a → (Bad → Other)
    → IsCopyFault (λ f. IsMemory f ⊎ ((f ≡ fault.ReadFailed) × Bad)) b c x → IsCopyFault (IsReadFault r Other) a c x
spoilt_later r Bad Other a b c copy.Sink same turn found = found ∙ ap one_more same
spoilt_later r Bad Other a b c (copy.Load f) same turn found = (found.0 ∙ same, turned found.1)
  where
    turned : IsMemory f ⊎ ((f ≡ fault.ReadFailed) × Bad) → IsReadFault r Other f
    turned (inl memory) = inl memory
    turned (inr (is, bad)) = inr (is, inr (turn bad))

-- ---- some element

any_here : (P : Record → Type 0) (x : Record) (xs : List Record) → P x → Any P (x ∷ xs)
any_here P x xs p = (0, x, omega arith, refl, p)

any_later : (P : Record → Type 0) (y : Record) (xs : List Record) → Any P xs → Any P (y ∷ xs)
any_later P y xs any = (suc any.0, any.1, omega (arith, any.2), any.3, any.4)

any_weaker : (P Q : Record → Type 0) → ((x : Record) → P x → Q x) → (xs : List Record) → Any P xs → Any Q xs
any_weaker P Q f xs any = (any.0, any.1, any.2, any.3, f any.1 any.4)

any_behind : (P : Record → Type 0) (xs ys : List Record) → Any P ys → Any P (xs ++ ys)
any_behind P [] ys any = any
any_behind P (x ∷ xs) ys any = any_later P x (xs ++ ys) (any_behind P xs ys any)

-- ---- spoilt records

-- what is left after records were read is among what was left before
pub left_before : {R : Type 0} (remaining : R → Option (List ℕ)) (old mid : PlainRecords R) (width : ℕ) (read : List Record)
    (Bad : Record → Type 0) → WereRead remaining old mid width read → HasLeft remaining mid Bad → HasLeft remaining old Bad
left_before remaining old mid width read Bad was bad rest gives =
    let m = was.gives rest gives in subst (Any Bad) (sym m.2) (any_behind Bad read m.0 (bad m.0 m.1))

-- the record that was taken is among what was left before
pub taken_is_left : {R : Type 0} (remaining : R → Option (List ℕ)) (old new : PlainRecords R) (fields : Record)
    (Bad : Record → Type 0)
    → ((rest : List Record) → GivesRest remaining old rest → TakesNext remaining new rest true fields) → Bad fields
    → HasLeft remaining old Bad
taken_is_left remaining old new fields Bad takes bad rest gives =
    let t = takes rest gives in subst (Any Bad) (sym t.2) (any_here Bad fields t.0 bad)

-- an uneven record is one of what was left before the records that were read
pub uneven_later : {R : Type 0} (remaining : R → Option (List ℕ)) (old mid new : PlainRecords R) (width : ℕ) (read : List Record)
    (Bad : Record → Type 0) (a b : ℕ) (f : LoadFault) → WereRead remaining old mid width read
    → ((fields : Record) → length fields ≢ width → Bad fields) → b ≡ a
    → IsReadFault new (HasLeft remaining mid (λ fields. length fields ≢ width)) f
    → IsCopyFault (IsReadFault new (HasLeft remaining old Bad)) a b (copy.Load f)
uneven_later remaining old mid new width read Bad a b f was turn same fault =
    read_later new (HasLeft remaining mid (λ fields. length fields ≢ width)) (HasLeft remaining old Bad) a b b (copy.Load f) same
    (λ left. left_before remaining old mid width read Bad was
    (λ rest gives. any_weaker (λ fields. length fields ≢ width) Bad turn rest (left rest gives))) (refl, fault)

-- and so is a record that was taken and is spoilt
pub spoilt_record : {R : Type 0} (remaining : R → Option (List ℕ)) (old mid new : PlainRecords R) (width : ℕ) (read : List Record)
    (fields : Record) (Bad : Record → Type 0) (Here : Type 0) (a b c : ℕ) (x : CopyFault) → WereRead remaining old mid width read
    → ((rest : List Record) → GivesRest remaining mid rest → TakesNext remaining new rest true fields)
    → (Here → Bad fields) → b ≡ a → IsCopyFault (λ f. IsMemory f ⊎ ((f ≡ fault.ReadFailed) × Here)) b c x
    → IsCopyFault (IsReadFault new (HasLeft remaining old Bad)) a c x
spoilt_record remaining old mid new width read fields Bad Here a b c x was takes turn same found =
    spoilt_later new Here (HasLeft remaining old Bad) a b c x same
    (λ here. left_before remaining old mid width read Bad was
    (taken_is_left remaining mid new fields Bad takes (turn here))) found

-- without a record known bytes are spoilt
pub none_spoilt : {R : Type 0} (remaining : R → Option (List ℕ)) (known : Option (List ℕ)) (records : PlainRecords R)
    (Bad : Record → Record → Type 0) → AreAllOf remaining known records → HasNoneLeft remaining records → AreSpoilt Bad known
none_spoilt remaining known records Bad all none text is = inl (none (records_in text) (all text is))

-- so they are with a bad record after the header
pub left_spoilt : {R : Type 0} (remaining : R → Option (List ℕ)) (known : Option (List ℕ)) (first second : PlainRecords R)
    (header : Record)
    (BadLeft : Record → Type 0) (Bad : Record → Record → Type 0) → ((fields : Record) → BadLeft fields → Bad header fields)
    → AreAllOf remaining known first
    → ((rest : List Record) → GivesRest remaining first rest → TakesNext remaining second rest true header)
    → HasLeft remaining second BadLeft → AreSpoilt Bad known
left_spoilt remaining known first second header BadLeft Bad turn all takes left text is =
    let t = takes (records_in text) (all text is) in
    inr (subst (λ (l : List Record). Any (Bad (header_of l)) l) (sym t.2)
    (any_later (Bad header) header t.0 (any_weaker BadLeft (Bad header) turn t.0 (left t.0 t.1))))

-- ---- headers

-- a fault of the header that was read is that of the header that the reader gave first
pub header_fails : {R T : Type 0} (remaining : R → Option (List ℕ)) (old new : PlainRecords R) (columns : List (ColumnDef T))
    (header : Record) (r : Result Layout LoadFault)
    → IfErr r (λ (f : LoadFault). f ≢ fault.OutOfMemory → header_fault columns header ≡ Some f)
    → ((rest : List Record) → GivesRest remaining old rest → TakesNext remaining new rest true header)
    → IfErr r (IsOfHeader remaining old columns)
header_fails remaining old new columns header (Ok layout) fails takes = tt
header_fails remaining old new columns header (Err f) fails takes = go (failure_or_not f)
  where
    go : IsFailure f ⊎ ¬ (IsFailure f) → IsOfHeader remaining old columns f
    go (inl failed) = inl failed
    go (inr other) = inr (header, fails (λ e. other (inr e)), λ rest gives. let t = takes rest gives in (t.0, t.2))

-- a fault of the header that a reader gives first is one of the header of its bytes' records
pub of_header : {R T : Type 0} (remaining : R → Option (List ℕ)) (known : Option (List ℕ)) (reader : PlainRecords R)
    (columns : List (ColumnDef T)) (f : LoadFault)
    → ((text : List ℕ) → known ≡ Some text → GivesRest remaining reader (records_in text))
    → IsOfHeader remaining reader columns f → IsTableFault known columns f
of_header remaining known reader columns f gives (inl failed) = inl failed
of_header remaining None reader columns f gives (inr (header, is, first)) = inr (header ∷ [], tt, is)
of_header remaining (Some text) reader columns f gives (inr (header, is, first)) =
    let t = first (records_in text) (gives text refl) in
    inr (records_in text, refl, ap (λ (l : List Record). header_fault columns (header_of l)) t.1 ∙ is)
