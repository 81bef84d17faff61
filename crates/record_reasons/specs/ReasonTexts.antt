-- The line that says what is wrong where a table isn't loaded (this project's choice).
use Rattle.std.specs.Prelude.{ℕ, List, ◌++◌, codes, decimal}
use Rattle.std.specs.Fmt.{signed_decimal}
use Rattle.geometry_model.specs.declared.geometry_faults.GeometryFault.TheVariants as g
use Rattle.geometry_model.specs.declared.shapes.GeometryType.{GeometryType}
use Rattle.geometry_model.specs.declared.shapes.GeometryType.TheVariants as shapes
use Rattle.witnesses.specs.FaultTexts.{reason_text}
use Rattle.record_reasons.specs.declared.reason.Reason.{Reason}
use Rattle.record_reasons.specs.declared.reason.Reason.TheVariants as reasons
use Rattle.table_model.specs.FaultLines.{geometry_text}

-- the word of a type of geometry (06-103r4, 7.2)
abbrev pub type_word : GeometryType → List ℕ
type_word shapes.Point = codes "POINT"
type_word shapes.MultiPoint = codes "MULTIPOINT"
type_word shapes.LineString = codes "LINESTRING"
type_word shapes.MultiLineString = codes "MULTILINESTRING"
type_word shapes.Polygon = codes "POLYGON"
type_word shapes.MultiPolygon = codes "MULTIPOLYGON"

-- the line of a reason
abbrev pub reason_line : Reason → List ℕ
reason_line (reasons.Lengths found wanted) =
    codes "sfq: the record has " ++ decimal found ++ codes " fields, the header " ++ decimal wanted ++ codes "\n"
reason_line (reasons.Missing name) = codes "sfq: column " ++ name.now ++ codes " isn't in the header\n"
reason_line (reasons.Repeated name) = codes "sfq: column " ++ name.now ++ codes " is in the header more than once\n"
reason_line (reasons.Null name) = codes "sfq: column " ++ name.now ++ codes " is empty\n"
reason_line (reasons.NoInteger name text) = codes "sfq: column " ++ name.now ++ codes ": \"" ++ text.items ++ codes "\" isn't a whole number of 64 bits\n"
reason_line (reasons.NotUtf8 name) = codes "sfq: column " ++ name.now ++ codes " isn't UTF-8\n"
reason_line (reasons.Refused name fault) = codes "sfq: column " ++ name.now ++ codes ": " ++ geometry_text (g.Text fault) ++ codes "\n"
reason_line (reasons.Invalid name fault place) = (codes "sfq: column " ++ name.now ++ codes ": ") ++ reason_text fault place
reason_line (reasons.OtherType name found wanted) =
    codes "sfq: column " ++ name.now ++ codes " has a " ++ type_word found ++ codes ", not a " ++ type_word wanted ++ codes "\n"
reason_line (reasons.SameKey number key) = codes "sfq: record " ++ decimal number ++ codes " has the key " ++ signed_decimal key ++ codes "\n"
