-- A condition without parts folds to its own step; what a string spells is computed apart.
use Rattle.std.proofs.Common.{◌≡◌, refl, ℕ, List, codes, Err}
use Rattle.geometry_model.specs.declared.geometry_faults.GeometryFault.{GeometryFault}
use Rattle.table_model.specs.Binding.{unquoted}
use Rattle.table_model.specs.GeometryColumnExamples.{from_text, bound_where}
use Rattle.table_model.specs.declared.faults.QueryFault.TheVariants as query
use Rattle.table_model.specs.declared.queries.WrittenCond.TheVariants as conds
use Rattle.geometry_model.specs.CheckedTexts.{geometry_in_text}
use Rattle.geometry_model.specs.TextReading.{read_text, whole, tagged, typed, body, parts, line, separated, point, position, space, coordinate, numeral, fraction, sign}
use Rattle.table_model.specs.Texts.{same_name}
use Rattle.table_model.proofs.WrittenFolds.{written_folds}
use Rattle.table_model.proofs.geometry_column_examples.refused_strings.Goals as goal

-- a string that is no valid geometry is refused
literal_refused : (text : List ℕ) (fault : GeometryFault) → geometry_in_text (unquoted text) ≡ Err fault → bound_where (conds.IsEmpty 23 (from_text text 50)) ≡ Err (query.BadGeometry 50 fault)
unfolding same_name
literal_refused text fault e = simp (written_folds, e) refl

pub returns-clause-bad_text : goal.returns-clause-bad_text
unfolding same_name geometry_in_text read_text whole tagged typed body parts line separated point position space coordinate numeral fraction sign
returns-clause-bad_text c = literal_refused (codes "POINT(1 2") _ refl

pub returns-clause-quotes : goal.returns-clause-quotes
unfolding same_name geometry_in_text read_text whole tagged typed body parts line separated point position space coordinate numeral fraction sign
returns-clause-quotes c = simp written_folds refl

pub returns-clause-not_valid : goal.returns-clause-not_valid
unfolding same_name geometry_in_text read_text whole tagged typed body parts line separated point position space coordinate numeral fraction sign
returns-clause-not_valid c = literal_refused (codes "LINESTRING(3 3,3 3)") _ refl

pub returns-clause-geometry_before_type : goal.returns-clause-geometry_before_type
unfolding same_name geometry_in_text read_text whole tagged typed body parts line separated point position space coordinate numeral fraction sign
returns-clause-geometry_before_type c = simp written_folds refl

pub returns-clause-pattern_before_type : goal.returns-clause-pattern_before_type
unfolding same_name geometry_in_text read_text whole tagged typed body parts line separated point position space coordinate numeral fraction sign
returns-clause-pattern_before_type c = simp written_folds refl

pub returns-clause-letter_of_pattern : goal.returns-clause-letter_of_pattern
unfolding same_name geometry_in_text read_text whole tagged typed body parts line separated point position space coordinate numeral fraction sign
returns-clause-letter_of_pattern c = simp written_folds refl
