-- Fields that have no reason of a fault.
use Rattle.std.proofs.Common.{◌≡◌, ◌∙◌, List, Some, None, Result, Ok, true, ℕ, true≢false, ap, subst, sym}
use Rattle.wkt.specs.TextFaults.{text_fault}
use Rattle.wkt.specs.declared.wkt_fault.WktFault.{WktFault}
use Rattle.wkt.specs.declared.wkt_fault.WktFault.TheVariants as wkt
use Rattle.geometry_model.specs.Geometries.{Geometry, type_of}
use Rattle.geometry_model.specs.Validity.{HasFault}
use Rattle.geometry_model.specs.WellKnownText.{Spells}
use Rattle.geometry_model.specs.declared.shapes.GeometryType.{GeometryType}
use Rattle.geometry_model.specs.declared.text_faults.TextFault.{TextFault}
use Rattle.geometry_model.specs.declared.validity_faults.ValidityFault.{ValidityFault}
use Rattle.record_reasons.specs.Reasons.{IsInvalidIn, IsOtherTypeIn}
use Rattle.record_reasons.specs.declared.reason.Reason.{Reason}
use Rattle.record_reasons.specs.declared.reason.Reason.TheVariants as reasons
use Rattle.table_model.specs.GeometryColumns.{ColumnShape, takes_type}
use Rattle.table_model.specs.declared.definitions.ColumnDef.{ColumnDef}

-- a fault of a text isn't that memory ran out
pub unspelled : (e : WktFault) (f : TextFault) → e ≡ wkt.OutOfMemory → text_fault e ≡ Some f → ⊥
unspelled e f is has = let gone : None ≡ Some f = ap text_fault (sym is) ∙ has in cc gone

-- two geometries that were read are one
one : {E : Type 0} (g h : Geometry) → ◌≡◌ {A = Result Geometry E} (Ok g) (Ok h) → g ≡ h
one g h is = cc is

-- a field that spells nothing has no geometry that isn't valid
pub no-invalid : (c : ColumnDef ColumnShape) (field : List ℕ) (v : ValidityFault) → ((g : Geometry) → Spells field g → ⊥) → (reason : Reason)
    → IsInvalidIn c field v reason → ⊥
no-invalid c field v none (reasons.Invalid name shown place) is = none is.2.geometry is.2.spelled
no-invalid c field v none _ is = is

-- nor has one whose geometry hasn't the fault
pub no-fault : (c : ColumnDef ColumnShape) (field : List ℕ) (v : ValidityFault) (g : Geometry)
    → ((h : Geometry) → Spells field h → ◌≡◌ {A = Result Geometry TextFault} (Ok g) (Ok h)) → (HasFault g v → ⊥) → (reason : Reason)
    → IsInvalidIn c field v reason → ⊥
no-fault c field v g only none (reasons.Invalid name shown place) is =
    let geometry = is.2.geometry in
    none (subst (λ h. HasFault h v) (sym (one g geometry (only geometry is.2.spelled))) is.2.has)
no-fault c field v g only none _ is = is

-- a field that spells nothing has no geometry of another type
pub no-type : (c : ColumnDef ColumnShape) (asked : GeometryType) (field : List ℕ) → ((g : Geometry) → Spells field g → ⊥) → (reason : Reason)
    → IsOtherTypeIn c asked field reason → ⊥
no-type c asked field none (reasons.OtherType name found wanted) is = none is.2.geometry is.2.spelled
no-type c asked field none _ is = is

-- nor has one whose geometry is of the type that is wanted
pub same-type : (c : ColumnDef ColumnShape) (asked : GeometryType) (field : List ℕ) (g : Geometry)
    → ((h : Geometry) → Spells field h → ◌≡◌ {A = Result Geometry TextFault} (Ok g) (Ok h)) → takes_type (Some asked) (type_of g) ≡ true → (reason : Reason)
    → IsOtherTypeIn c asked field reason → ⊥
same-type c asked field g only same (reasons.OtherType name found wanted) is =
    let other = is.2 in
    let type : type_of g ≡ found = ap type_of (one g other.geometry (only other.geometry other.spelled)) ∙ other.type in
    let clash : takes_type (Some wanted) found ≡ true = subst (λ t. takes_type (Some t) found ≡ true) (sym is.1)
    (subst (λ t. takes_type (Some asked) t ≡ true) type same) in
    true≢false (sym clash ∙ other.other)
same-type c asked field g only same _ is = is
