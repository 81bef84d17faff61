-- How splitting ends, and parts that are named and written one after another.
use Rattle.std.proofs.Common.{◌≡◌, ◌≢◌, ◌∙◌, ◌+◌, ◌<◌, ◌⊎◌, ap, inl, inr, ℕ, List, [], ◌∷◌, ◌++◌, Option, None, Some, OnOk, IfErr}
use Rattle.std.proofs.Common.{◌≤◌, Result, Ok, Err}
use Rattle.std.proofs.Common.{get_or, length, map, refl, subst, sym, take}
use denote.Ref.{Bor}
use Rattle.std.specs.Prelude.{IsErrAnd, drop, slice_get, unwrap_or}
use Rattle.std.specs.Str.Parse.{IsNumeral, digits_value, without_leading_plus}
use Rattle.std.proofs.lemmas.List.{map-append, take_more}
use Rattle.std.proofs.lemmas.Option.{slice_get_read, unwrap_or-slice_get}
use Rattle.basics.proofs.Numbers.{earlier_or_last}
use Rattle.failures.specs.declared.failure.Failure.TheVariants as f
use Rattle.feature_table.specs.GeometryFields.{ShapeValue, reading}
use Rattle.feature_table.specs.Outcomes.{IsFailure}
use Rattle.feature_table.specs.Tables.{AreRecordsOf, records_in}
use Rattle.geometry_model.specs.Envelopes.{Envelope}
use Rattle.sfq_tiles.specs.Checks.{Files, HasTableFault, IsCheckEnding, IsChecked, IsCheckedAt, IsOpenEnding, IsRead, ReadsSchema}
use Rattle.sfq_tiles.specs.Checks.{schema_failure, table_path}
use Rattle.sfq_tiles.specs.Endings.{copy_ending, ending_of}
use Rattle.sfq_tiles.specs.SchemaTexts.{IsRefused, text_of}
use Rattle.sfq_tiles.specs.Splits.{AreAllWritten, Begins, End, IsEarly, IsLate, IsNumberOf, IsOfPart, IsWritten, Returns}
use Rattle.sfq_tiles.specs.Splits.{header_by, tables_by}
use Rattle.sfq_tiles.specs.Words.{AreNamed, IsNamed}
use Rattle.sfq_tiles.specs.declared.endings.Ending.{Ending}
use Rattle.sfq_tiles.specs.declared.endings.Ending.TheVariants as e
use Rattle.sfq_tiles.specs.declared.listing.Written.{Written}
use Rattle.sfq_tiles.specs.declared.parts.Mistake.{Mistake}
use Rattle.sfq_tiles.specs.declared.parts.Mistake.TheVariants as m
use Rattle.sfq_tiles.specs.declared.parts.NamedPart.{NamedPart}
use Rattle.table_model.specs.Loading.{Record, header_fault, unless}
use Rattle.table_model.specs.GeometryColumns.{shape_named}
use Rattle.table_model.specs.SchemaReading.{schema_of}
use Rattle.table_model.specs.SpatialTables.{SpatialSchema}
use Rattle.table_model.specs.declared.faults.SchemaFault.{SchemaFault}
use Rattle.table_model.specs.declared.faults.SchemaFault.TheVariants as s
use Rattle.table_model.specs.declared.definitions.TableDef.{TableDef}
use Rattle.table_model.specs.declared.faults.LoadFault.{LoadFault}
use Rattle.tiles.proofs.CheckLemmas.{fails}
use Rattle.tiles.specs.Checks.{checked, keys_of_table, record_keys}
use Rattle.tiles.specs.Copies.{AreRecordsOfTable, AreWritten, header_of, size_of, stretches_of}
use Rattle.tiles.specs.RecordLines.{names_of}
use Rattle.tiles.specs.Faults.{IsCopyFault, IsTableFault}
use Rattle.tiles.specs.Passes.{Counts}
use Rattle.tiles.specs.Texts.{Texts}
use Rattle.tiles.specs.declared.faults.CopyFault.{CopyFault}
use Rattle.tiles.specs.declared.faults.CopyFault.TheVariants as copy

-- ---- results

-- what an ending has, a result that fails with it has
pub failed_with : {A : Type 0} (P : Ending → Type 0) (r : Result A Ending) (x : Ending) → IsErrAnd r (λ y. y ≡ x) → P x
    → IfErr r P
failed_with P (Ok v) x is h = tt
failed_with P (Err y) x is h = subst P (sym is) h

-- what is done has what follows of it
pub done_with : {A P Q : Type 0} (r : Result A Ending) → (P → Q) → OnOk r P → OnOk r Q
done_with (Ok v) follows h = follows h
done_with (Err y) follows h = tt

-- ---- checks

module _ (files : Files) (directory : List ℕ) (table : TableDef ShapeValue) (name : List ℕ) (known : Option (List ℕ))
    (same : name ≡ table.name)
    (read : known ≡ files (table_path directory name)) where
  path : known ≡ files (table_path directory table.name)
  path = read ∙ ap (λ n. files (table_path directory n)) same

  -- the rows that are counted
  pub counted_is_checked : (rows : ℕ)
      → ((records : List Record) × AreRecordsOf known records × (checked reading table records ≡ Ok rows))
      → IsChecked files directory table
  counted_is_checked rows h = (h.0, subst (λ k. AreRecordsOf k h.0) path h.1, rows, h.2)

  pub some_is_checked : (found : Option ℕ) (rows : ℕ) → found ≡ Some rows
      → ((records : List Record) × AreRecordsOf known records × Counts (Ok found) (keys_of_table reading table records))
      → IsChecked files directory table
  unfolding checked
  some_is_checked found rows is h =
      counted_is_checked rows (h.0, h.1, subst (λ o. Counts (Ok o) (keys_of_table reading table h.0)) is h.2)

  -- the fault that is found
  pub fault_is : (fault : LoadFault)
      → ((records : List Record) × AreRecordsOf known records × (¬ (IsFailure fault) → checked reading table records ≡ Err fault))
      → HasTableFault files directory table fault
  fault_is fault h = (h.0, subst (λ k. AreRecordsOf k h.0) path h.1, h.2)

  pub key_fault_is : (fault : LoadFault)
      → ((records : List Record) × AreRecordsOf known records × Counts (Err fault) (keys_of_table reading table records))
      → HasTableFault files directory table fault
  key_fault_is fault h = fault_is fault (h.0, h.1, λ other. fails reading table h.0 fault (h.2 other))

  -- a file that can't be opened
  pub unopened : (ending : Ending) → IsOpenEnding name ending → IsLate files directory (λ t. t ≡ table) ending
  unopened (e.Mistaken said) h = absurd h
  unopened e.Unwritable h = tt
  unopened (e.Failed (f.Schema x)) h = absurd h
  unopened (e.Failed f.SchemaUnreadable) h = absurd h
  unopened (e.Failed (f.Load shown x)) h = absurd h
  unopened (e.Failed (f.Unreadable shown)) h = (table, refl, h ∙ same)
  unopened (e.Failed (f.Query x)) h = absurd h
  unopened (e.Failed (f.Refused word x)) h = absurd h
  unopened (e.Failed f.PairsRefused) h = absurd h
  unopened (e.Failed f.UnknownCode) h = absurd h
  unopened (e.Failed f.WriteFailed) h = absurd h
  unopened (e.Failed f.OutOfMemory) h = tt

  -- a fault of the header is that of the table
  header_fails : (records : List Record) (fault : LoadFault) → header_fault table.columns (header_of records) ≡ Some fault
      → checked reading table records ≡ Err fault
  unfolding keys_of_table
  header_fails records fault is =
      let header : Record = unwrap_or (slice_get records 0) [] in
      fails reading table records fault
      (ap (λ o. unless o (record_keys reading table header (drop 1 records)))
      (ap (header_fault table.columns) (unwrap_or-slice_get records 0 []) ∙ is))

  some_records : (o : Option (List ℕ)) → (records : List Record) × AreRecordsOf o records
  some_records None = ([], tt)
  some_records (Some text) = (records_in text, refl)

  of_header : (fault : LoadFault) → IsTableFault known table.columns fault → HasTableFault files directory table fault
  of_header fault (inl failed) = let some = some_records known in fault_is fault (some.0, some.1, λ other. absurd (other failed))
  of_header fault (inr (records, are, is)) = fault_is fault (records, are, λ other. header_fails records fault is)

  -- a fault of a second pass
  pub copy_fails : (shown : Bor (List ℕ)) → shown.now ≡ table.name → (before after : ℕ) (fault : CopyFault)
      → IsCopyFault (IsTableFault known table.columns) before after fault
      → IsLate files directory (λ t. t ≡ table) (copy_ending shown fault)
  copy_fails shown is before after copy.Sink h = tt
  copy_fails shown is before after (copy.Load fault) h = (table, refl, (is, of_header fault h.1))

-- an ending of one of some tables is of one of more
pub late_of : (P Q : TableDef ShapeValue → Type 0) (files : Files) (directory : List ℕ) (ending : Ending)
    → ((table : TableDef ShapeValue) → P table → Q table) → IsLate files directory P ending → IsLate files directory Q ending
late_of P Q files directory (e.Mistaken said) follows h = h
late_of P Q files directory e.Unwritable follows h = tt
late_of P Q files directory (e.Failed (f.Schema x)) follows h = (h.0, follows h.0 h.1, h.2)
late_of P Q files directory (e.Failed f.SchemaUnreadable) follows h = (h.0, follows h.0 h.1, h.2)
late_of P Q files directory (e.Failed (f.Load shown x)) follows h = (h.0, follows h.0 h.1, h.2)
late_of P Q files directory (e.Failed (f.Unreadable shown)) follows h = (h.0, follows h.0 h.1, h.2)
late_of P Q files directory (e.Failed (f.Query x)) follows h = (h.0, follows h.0 h.1, h.2)
late_of P Q files directory (e.Failed (f.Refused word x)) follows h = (h.0, follows h.0 h.1, h.2)
late_of P Q files directory (e.Failed f.PairsRefused) follows h = (h.0, follows h.0 h.1, h.2)
late_of P Q files directory (e.Failed f.UnknownCode) follows h = (h.0, follows h.0 h.1, h.2)
late_of P Q files directory (e.Failed f.WriteFailed) follows h = (h.0, follows h.0 h.1, h.2)
late_of P Q files directory (e.Failed f.OutOfMemory) follows h = tt

-- the table of a part at a place is that of some part
pub of_part : (parts : List NamedPart) (place : ℕ) (part : NamedPart) → place < length parts → part ≡ get_or parts place part
    → (table : TableDef ShapeValue) → table ≡ part.table.now → IsOfPart parts table
of_part parts place part within item table same =
    (place, part, slice_get_read parts (length parts) place part refl within item, same)

-- ---- early endings

-- one table more is checked
pub checked_more : (files : Files) (directory : List ℕ) (definitions : SpatialSchema) (place : ℕ)
    → ((earlier : ℕ) → earlier < place → IsCheckedAt files directory definitions earlier)
    → IsCheckedAt files directory definitions place
    → (earlier : ℕ) → earlier < place + 1 → IsCheckedAt files directory definitions earlier
checked_more files directory definitions place before is earlier within = by (earlier_or_last earlier place within)
  where
    by : (earlier < place) ⊎ (earlier ≡ place) → IsCheckedAt files directory definitions earlier
    by (inl less) = before earlier less
    by (inr same) = subst (IsCheckedAt files directory definitions) (sym same) is

-- a word that isn't a number of rows
pub no_rows : (word : List ℕ)
    → ¬ (IsNumeral 10 (without_leading_plus word) × (1 ≤ digits_value 10 (without_leading_plus word))
    × (digits_value 10 (without_leading_plus word) ≤ 100000))
    → (rows : ℕ) → IsNumberOf word rows → ⊥
no_rows word none rows is = none (is.0, subst (λ n. 1 ≤ n) is.3 is.1, subst (λ n. n ≤ 100000) is.3 is.2)

pub said_ending : (mistake : Mistake) → mistake ≢ m.Memory → (said : Bor (List ℕ)) × (ending_of mistake ≡ e.Mistaken said)
said_ending m.Memory other = absurd (other refl)
said_ending (m.Said text) other = (text, refl)

module _ (files : Files) (directory : List ℕ) (definitions : SpatialSchema) where
  never_said : (said : Bor (List ℕ)) → IsCheckEnding files directory definitions (e.Mistaken said) → ⊥
  never_said said (inl is) = cc is
  never_said said (inr (inl unopened)) = unopened.ends
  never_said said (inr (inr refused)) = refused.ends

  pub mistaken_early : (parts : List NamedPart) (mistake : Mistake) → IsRefused parts (text_of parts) mistake
      → IsEarly files directory definitions parts (ending_of mistake)
  mistaken_early parts m.Memory refused = inl refl
  mistaken_early parts (m.Said text) refused = λ made. refused (λ is. cc is) made.0 made.1 made.2

  pub unchecked_early : (parts : List NamedPart) (ending : Ending) → IsCheckEnding files directory definitions ending
      → IsEarly files directory definitions parts ending
  unchecked_early parts (e.Mistaken said) h = absurd (never_said said h)
  unchecked_early parts e.Unwritable h = h
  unchecked_early parts (e.Failed failure) h = h

-- ---- parts

-- after some parts one more is named
named_snoc : (definitions : SpatialSchema) (words : List (List ℕ)) (parts : List NamedPart) (word : List ℕ) (part : NamedPart)
    → AreNamed definitions words parts
    → IsNamed definitions word part → AreNamed definitions (words ++ word ∷ []) (parts ++ part ∷ [])
named_snoc definitions [] [] word part before is = (is, tt)
named_snoc definitions [] (p ∷ parts) word part before is = absurd before
named_snoc definitions (v ∷ words) [] word part before is = absurd before
named_snoc definitions (v ∷ words) (p ∷ parts) word part before is =
    (before.0, named_snoc definitions words parts word part before.1 is)

pub named_more : (definitions : SpatialSchema) (words : List (Bor (List ℕ))) (i : ℕ) (word d : Bor (List ℕ))
    (parts now : List NamedPart) (part : NamedPart)
    → i < length words → word ≡ get_or words i d → AreNamed definitions (map (λ w. w.now) (take i words)) parts
    → IsNamed definitions word.now part
    → now ≡ parts ++ part ∷ [] → AreNamed definitions (map (λ w. w.now) (take (i + 1) words)) now
named_more definitions words i word d parts now part within item before is pushed =
    let shown : Bor (List ℕ) → List ℕ = λ w. w.now in
    let list : take (i + 1) words ≡ take i words ++ word ∷ [] =
    take_more words i d within ∙ ap (λ w. take i words ++ w ∷ []) (sym item) in
    let texts : map shown (take (i + 1) words) ≡ map shown (take i words) ++ word.now ∷ [] =
    ap (map shown) list ∙ map-append shown (take i words) (word ∷ []) in
    subst (λ ps. AreNamed definitions (map shown (take (i + 1) words)) ps) (sym pushed)
    (subst (λ ws. AreNamed definitions ws (parts ++ part ∷ [])) (sym texts)
    (named_snoc definitions (map shown (take i words)) parts word.now part before is))

module _ {O T : Type 0} (tiles stretches : O → List ℕ → T → Type 0) (takes : O → T → O → Type 0) (texts : T → Texts)
    (files : Files) (directory : List ℕ) (boxes : List Envelope) (rows : ℕ) where
  -- the stretches of a part without a column of tiles
  pub stretches_written : (part : NamedPart) → part.column ≡ None → (known : Option (List ℕ)) (name : List ℕ)
      → name ≡ part.table.now.name → known ≡ files (table_path directory name)
      → (columns : List ℕ) → columns ≡ part.columns.items → (counts : List ℕ) (old new : O)
      (begun filled : T) → stretches old part.name.now begun
      → ((records : List Record) × AreRecordsOfTable known part.table.now.columns records
      × AreWritten (texts begun) (texts filled) (names_of part.table.now.columns columns)
      (stretches_of (size_of rows) part.table.now.columns columns records) counts)
      → takes old filled new → IsWritten tiles stretches takes texts files directory boxes rows part counts old new
  stretches_written part none known name same read columns are counts old new begun filled begins h taken = record {
    records = h.0;
    are_of =
        subst (λ k. AreRecordsOfTable k part.table.now.columns h.0) (read ∙ ap (λ n. files (table_path directory n)) same) h.1;
    begun = begun;
    filled = filled;
    begins = subst (λ c. Begins tiles stretches takes texts old part.name.now c begun) (sym none) begins;
    gets =
        subst (λ c. AreWritten (texts begun) (texts filled) (header_by part c) (tables_by boxes rows part h.0 c) counts)
        (sym none)
        (subst
        (λ cs. AreWritten (texts begun) (texts filled) (names_of part.table.now.columns cs)
        (stretches_of (size_of rows) part.table.now.columns cs h.0) counts)
        are h.2);
    taken = taken;
  }

  -- after some parts one more is written
  written_snoc : (parts : List NamedPart) (written : List Written) (old mid new : O) (part : NamedPart) (w : Written)
      → AreAllWritten tiles stretches takes texts files directory boxes rows parts written old mid → w.name.now ≡ part.name.now
      → IsWritten tiles stretches takes texts files directory boxes rows part w.counts.items mid new
      → AreAllWritten tiles stretches takes texts files directory boxes rows (parts ++ part ∷ []) (written ++ w ∷ []) old new
  written_snoc [] [] old mid new part w before name is = (
    new,
    name,
    subst (λ from. IsWritten tiles stretches takes texts files directory boxes rows part w.counts.items from new) before is,
    refl,
  )
  written_snoc [] (v ∷ written) old mid new part w before name is = absurd before
  written_snoc (q ∷ parts) [] old mid new part w before name is = absurd before
  written_snoc (q ∷ parts) (v ∷ written) old mid new part w before name is =
      (before.0, before.1, before.2, written_snoc parts written before.0 mid new part w before.3 name is)

  pub written_more : (parts : List NamedPart) (i : ℕ) (part : NamedPart) (written now : List Written) (w : Written)
      (old mid new : O)
      → i < length parts → part ≡ get_or parts i part
      → AreAllWritten tiles stretches takes texts files directory boxes rows (take i parts) written old mid
      → w.name.now ≡ part.name.now
      → IsWritten tiles stretches takes texts files directory boxes rows part w.counts.items mid new → now ≡ written ++ w ∷ []
      → AreAllWritten tiles stretches takes texts files directory boxes rows (take (i + 1) parts) now old new
  written_more parts i part written now w old mid new within item before name is pushed =
      let list : take (i + 1) parts ≡ take i parts ++ part ∷ [] =
      take_more parts i part within ∙ ap (λ p. take i parts ++ p ∷ []) (sym item) in
      subst (λ ws. AreAllWritten tiles stretches takes texts files directory boxes rows (take (i + 1) parts) ws old new)
      (sym pushed)
      (subst (λ ps. AreAllWritten tiles stretches takes texts files directory boxes rows ps (written ++ w ∷ []) old new)
      (sym list)
      (written_snoc (take i parts) written old mid new part w before name is))

-- ---- ends

-- a result that fails with an ending is it
pub is_ending : (r : End) (x : Ending) → IsErrAnd r (λ y. y ≡ x) → r ≡ Err x
is_ending (Ok v) x is = absurd is
is_ending (Err y) x is = ap Err is

-- what a call over which another one goes on promises
pub returned : {E : Type 0} (taken : E → Option (List ℕ)) (failures : E → ℕ) (Part All : End → Type 0) (status : ℕ) (old new : E)
    → ((end : End) → Part end → All end) → Returns taken failures Part status old new → Returns taken failures All status old new
returned taken failures Part All status old new follows h =
    record { end = h.end; ends = follows h.end h.ends; returned = h.returned; reported = h.reported }

-- ---- schemas

-- the text of a schema that is refused
refused : (known : Option (List ℕ)) (text : List ℕ) (fault : SchemaFault) → IsRead known text
    → schema_of shape_named text ≡ Err fault
    → ReadsSchema known (Err (f.Schema fault))
refused known text fault read is = (text, read, is)

pub schema_refused : (known : Option (List ℕ)) (text : List ℕ) (fault : SchemaFault) → IsRead known text
    → (fault ≢ s.OutOfMemory → schema_of shape_named text ≡ Err fault) → ReadsSchema known (Err (schema_failure fault))
schema_refused known text (s.Syntax at) read gives = refused known text (s.Syntax at) read (gives (λ e. cc e))
schema_refused known text (s.DoubleName at) read gives = refused known text (s.DoubleName at) read (gives (λ e. cc e))
schema_refused known text (s.NoKey at) read gives = refused known text (s.NoKey at) read (gives (λ e. cc e))
schema_refused known text (s.TwoKeys at) read gives = refused known text (s.TwoKeys at) read (gives (λ e. cc e))
schema_refused known text (s.TooMany at) read gives = refused known text (s.TooMany at) read (gives (λ e. cc e))
schema_refused known text s.TooLong read gives = refused known text s.TooLong read (gives (λ e. cc e))
schema_refused known text s.OutOfMemory read gives = tt
