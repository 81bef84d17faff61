-- A reason in what was read, or none there.
use Rattle.std.proofs.Common.{◌≡◌, ℕ, List, Option, Some, None, Result, IfOk, IfSome, IfNone, refl, subst}
use Rattle.std.proofs.lemmas.Option.{same_Some}
use Rattle.record_reasons.specs.Reasons.{Finds, HasReason, IsFilledReason, IsGeometryReason, IsOfColumn}
use Rattle.record_reasons.specs.declared.reason.Reason.{Reason}
use Rattle.table_model.specs.GeometryColumns.{ColumnShape}
use Rattle.table_model.specs.Loading.{Record}
use Rattle.table_model.specs.declared.definitions.ColumnDef.{ColumnDef}
use Rattle.table_model.specs.declared.definitions.TableDef.{TableDef}
use Rattle.table_model.specs.declared.faults.LoadFault.{LoadFault}
use Rattle.table_model.specs.declared.faults.LoadFault.TheVariants as fault

-- ---- elements

-- what holds of a value that is there, and where there is none
pub some-is-so : {X : Type 0} (o : Option X) (x : X) (P : X → Type 0) → o ≡ Some x → IfSome o P → P x
some-is-so None x P is fact = cc is
some-is-so (Some y) x P is fact = subst P (same_Some y x is) fact

pub none-is-so : {X : Type 0} (o : Option X) (P : Type 0) → o ≡ None → IfNone o P → P
none-is-so None P is fact = fact
none-is-so (Some y) P is fact = cc is

-- ---- records

-- a fault that is neither of the header nor of lengths has its reason in a column
pub of-column : {E : Type 0} (r : Result (Option Reason) E) (table : TableDef ColumnShape) (header fields : Record) (f : LoadFault)
    → (f ≡ fault.MissingColumn → ⊥) → (f ≡ fault.DoubleHeader → ⊥) → ((number : ℕ) → f ≡ fault.UnequalRecord number → ⊥)
    → ((number : ℕ) → f ≡ fault.NullNotAllowed number → ⊥) → IfOk r (Finds (IsOfColumn table header fields f)) → IfOk r (Finds (HasReason table header fields f))
of-column r table header fields fault.MissingColumn lacks repeats other null finds = absurd (lacks refl)
of-column r table header fields fault.DoubleHeader lacks repeats other null finds = absurd (repeats refl)
of-column r table header fields (fault.UnequalRecord number) lacks repeats other null finds = absurd (other number refl)
of-column r table header fields (fault.NullNotAllowed number) lacks repeats other null finds = absurd (null number refl)
of-column r table header fields _ lacks repeats other null finds = finds

-- ---- fields

-- a fault of a field that is neither of a whole number nor of UTF-8 is one of a geometry
pub of-geometry : {E : Type 0} (r : Result (Option Reason) E) (c : ColumnDef ColumnShape) (field : List ℕ) (f : LoadFault)
    → ((number : ℕ) → f ≡ fault.NotUtf8 number → ⊥) → ((number : ℕ) → f ≡ fault.BadInteger number → ⊥) → IfOk r (Finds (IsGeometryReason c field f))
    → IfOk r (Finds (IsFilledReason c field f))
of-geometry r c field (fault.NotUtf8 number) utf8 integer finds = absurd (utf8 number refl)
of-geometry r c field (fault.BadInteger number) utf8 integer finds = absurd (integer number refl)
of-geometry r c field _ utf8 integer finds = finds
