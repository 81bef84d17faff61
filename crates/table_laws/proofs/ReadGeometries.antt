-- What a field of a geometry column is read as is valid, and of the column's type.
use Rattle.std.specs.Prelude.{◌≡◌, ℕ, Bool, true, false, if◌then◌else◌, List, Option, Some, None, Result, Ok, Err, refl}
use Rattle.std.proofs.Common.{subst}
use Rattle.geometry_model.specs.CheckedTexts.{geometry_in_text, tested, valid_or}
use Rattle.geometry_model.specs.FirstFaults.{validity_fault}
use Rattle.geometry_model.specs.Geometries.{Geometry, type_of}
use Rattle.geometry_model.specs.TextReading.{read_text}
use Rattle.geometry_model.specs.Validity.{IsValid}
use Rattle.geometry_model.specs.declared.geometry_faults.GeometryFault.{GeometryFault}
use Rattle.geometry_model.specs.declared.text_faults.TextFault.{TextFault}
use Rattle.geometry_model.specs.declared.validity_faults.ValidityFault.{ValidityFault}
use Rattle.geometry_laws.proofs.FirstFaultFacts.{none_is_found_where_valid}
use Rattle.table_model.specs.FeatureTables.{TakesValid}
use Rattle.table_model.specs.GeometryColumns.{ColumnShape, of_shape, read_geometry, takes_type}
use Rattle.table_model.specs.declared.faults.LoadFault.{LoadFault}
use Rattle.table_model.specs.declared.faults.LoadFault.TheVariants as fault
use Rattle.table_laws.specs.FeatureTableLaws.{LoadedAreRows, LoadedIsDatabase}
use Rattle.table_laws.proofs.TableFacts.{ReadsTaken, loads_database, loads_rows}

-- a geometry that passes the test of validity is valid, as that test finds a fault in each that isn't
tested-valid : (r : Result Geometry TextFault) (g : Geometry) → tested r ≡ Ok g → IsValid g
tested-valid (Err f) g e = cc e
tested-valid (Ok h) g e = go (validity_fault h) refl e
  where
    go : (o : Option ValidityFault) → validity_fault h ≡ o → valid_or h o ≡ Ok g → IsValid g
    go (Some f) is e = cc e
    go None is e = let same : h ≡ g = cc e in subst IsValid same ((none_is_found_where_valid h).0 is)

-- so what a text is read as is valid
text-valid : (bytes : List ℕ) (g : Geometry) → geometry_in_text bytes ≡ Ok g → IsValid g
unfolding geometry_in_text
text-valid bytes g e = tested-valid (read_text bytes) g e

-- a geometry is read for a column only where the column takes its type
shaped : (number : ℕ) (shape : ColumnShape) (r : Result Geometry GeometryFault) (g : Geometry) → ((h : Geometry) → r ≡ Ok h → IsValid h) → of_shape number shape r ≡ Ok g → TakesValid shape g
shaped number shape (Err f) g valid e = cc e
shaped number shape (Ok h) g valid e = go (takes_type shape (type_of h)) refl e
  where
    go : (b : Bool) → takes_type shape (type_of h) ≡ b → ◌≡◌ {A = Result Geometry LoadFault} (if b then Ok h else Err (fault.WrongType number)) (Ok g) → TakesValid shape g
    go false is e = cc e
    go true is e = let same : h ≡ g = cc e in subst (TakesValid shape) same (is, valid h refl)

-- so each geometry that is read for a column is valid and of a type that the column takes
read_is_valid : ReadsTaken TakesValid read_geometry
read_is_valid number shape bytes g e = shaped number shape (geometry_in_text bytes) g (text-valid bytes) e

-- so what loads are rows of the table: the fact for any reader whose geometries the columns take, used for this one
pub loaded_are_rows : LoadedAreRows
loaded_are_rows = loads_rows TakesValid read_geometry read_is_valid

-- and tables that load for lawful definitions are a database, likewise
pub loaded_is_database : LoadedIsDatabase
loaded_is_database = loads_database TakesValid read_geometry read_is_valid
