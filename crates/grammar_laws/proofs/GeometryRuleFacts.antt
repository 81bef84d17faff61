-- How geometry arguments and patterns are bound agrees with the rules.
use Rattle.std.proofs.Common.{◌≡◌, ℕ, List, Option, Some, None, Result, Ok, Err, refl, sym, ap, ◌∙◌}
use Rattle.geometry_model.specs.CheckedTexts.{geometry_in_text}
use Rattle.geometry_model.specs.Geometries.{Geometry}
use Rattle.geometry_model.specs.Patterns.{pattern_of_text}
use Rattle.geometry_model.specs.declared.geometry_faults.GeometryFault.{GeometryFault}
use Rattle.geometry_model.specs.declared.relations.Pattern.{Pattern}
use Rattle.table_model.specs.Binding.{bound_column, unquoted}
use Rattle.table_model.specs.BindingRules.{IsBoundColumn, IsRefusedColumn, IsGeometryArgument, IsRefusedGeometryArgument, geometry_rules}
use Rattle.table_model.specs.GeometryColumns.{ColumnShape, bound_argument, literal, pattern_or, geometry_binding}
use Rattle.table_model.specs.declared.conditions.GeometryArgument.TheVariants as arguments
use Rattle.table_model.specs.declared.conditions.Reference.{Reference}
use Rattle.table_model.specs.declared.definitions.TableDef.{TableDef}
use Rattle.table_model.specs.declared.faults.QueryFault.TheVariants as faults
use Rattle.table_model.specs.declared.queries.WrittenGeometry.{WrittenGeometry}
use Rattle.table_model.specs.declared.queries.WrittenGeometry.TheVariants as written_geometry
use Rattle.table_model.specs.declared.typing.OperandType.TheVariants as types
use Rattle.grammar_laws.specs.RuleLaws.{Agrees, GeometryAgrees, ConditionsAgree}
use Rattle.grammar_laws.proofs.CondRules.{cond_agrees}
use Rattle.grammar_laws.proofs.NameFacts.{columns_agree}
use Rattle.grammar_laws.proofs.RuleFacts.{returned}

-- a geometry's text is bound to the geometry that is read from it, or refused with the fault of the text or of the geometry
literal_agrees : (at : ℕ) (r : Result Geometry GeometryFault)
    → Agrees (λ typed. (g : Geometry) × (r ≡ Ok g) × (typed ≡ record { part = arguments.Literal g; part_type = types.Geometry }))
    (λ fault. (reason : GeometryFault) × (r ≡ Err reason) × (fault ≡ faults.BadGeometry at reason)) (literal at r)
literal_agrees at (Ok g) = record {
  applies = (g, refl, refl);
  refused = tt;
  answers = λ typed is. ap (literal at) is.1 ∙ ap Ok (sym is.2);
  refuses = λ fault is. ap (literal at) is.1 ∙ ap Err (sym is.2);
}
literal_agrees at (Err e) = record {
  applies = tt;
  refused = (e, refl, refl);
  answers = λ typed is. ap (literal at) is.1 ∙ ap Ok (sym is.2);
  refuses = λ fault is. ap (literal at) is.1 ∙ ap Err (sym is.2);
}

-- a pattern's text is bound to its pattern, or refused where it writes none
pattern_agrees : (at : ℕ) (o : Option Pattern) → Agrees (λ pattern. o ≡ Some pattern) (λ fault. (o ≡ None) × (fault ≡ faults.BadPattern at)) (pattern_or at o)
pattern_agrees at (Some p) = record {
  applies = refl;
  refused = tt;
  answers = λ pattern is. ap (pattern_or at) is;
  refuses = λ fault is. ap (pattern_or at) is.0 ∙ ap Err (sym is.1);
}
pattern_agrees at None = record {
  applies = tt;
  refused = (refl, refl);
  answers = λ pattern is. ap (pattern_or at) is;
  refuses = λ fault is. ap (pattern_or at) is.0 ∙ ap Err (sym is.1);
}

-- a geometry argument is a column, bound by its name, or a text
argument_agrees : (schema : List (TableDef ColumnShape)) (references : List Reference) (a : WrittenGeometry)
    → Agrees (IsGeometryArgument schema references a) (IsRefusedGeometryArgument schema references a) (bound_argument schema references a)
argument_agrees schema references (written_geometry.Column w) =
    returned (IsBoundColumn schema references w) (IsRefusedColumn schema references w) (bound_column schema references w) (λ found. record { part = arguments.Column found.place; part_type = found.column_type }) (columns_agree ColumnShape schema references w)
argument_agrees schema references (written_geometry.FromText string) = literal_agrees string.at (geometry_in_text (unquoted string.text))

-- so arguments of conditions, arguments of items and patterns all agree with their rules
pub geometry_agrees : GeometryAgrees geometry_rules geometry_binding
geometry_agrees = record {
  argument = argument_agrees;
  item_argument = λ schema references w. returned (IsBoundColumn schema references w) (IsRefusedColumn schema references w) (bound_column schema references w) (λ found. record { part = found.place; part_type = found.column_type }) (columns_agree ColumnShape schema references w);
  pattern = λ string. pattern_agrees string.at (pattern_of_text (unquoted string.text));
}

-- conditions agree with the rules wherever arguments and patterns do
pub conditions_agree : ConditionsAgree
conditions_agree schema references w = cond_agrees geometry_rules geometry_binding geometry_agrees schema references w
