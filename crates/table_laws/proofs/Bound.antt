-- The literals of a bound query are valid.
use Rattle.std.specs.Prelude.{◌≡◌, refl, ◌&&◌, Bool, true, false, List, [], ◌∷◌, ◌++◌, map, flat_map, is_some, All, Option, Some, None}
use Rattle.std.specs.List.{list_all}
use Rattle.std.proofs.Common.{◌∙◌, sym, subst}
use Rattle.std.proofs.lemmas.Bool.{and_parts}
use Rattle.std.proofs.lemmas.List.Elements.{All-nil, All-cons, All-append, All-weaker}
use Rattle.std.proofs.lemmas.List.Sums.{AllPass-from_list_all}
use Rattle.basics.proofs.Options.{is_nothing}
use Rattle.geometry_model.specs.FirstFaults.{validity_fault}
use Rattle.geometry_model.specs.Geometries.{Geometry}
use Rattle.geometry_model.specs.Validity.{IsValid}
use Rattle.geometry_laws.proofs.FirstFaultFacts.{none_is_found_where_valid}
use Rattle.table_laws.specs.MeaningLaws.{BoundHasValid}
use Rattle.table_model.specs.BoundQueries.{type_if, operand_type, can_compare, fits_by_parts, cond_fits, argument_fits, geometry_fits}
use Rattle.table_model.specs.GeometryColumns.{ColumnShape}
use Rattle.table_model.specs.ValidGeometries.{literals, literals_by_parts, literals_of_argument, literals_of_operand}
use Rattle.table_model.specs.declared.conditions.Cond.{Cond}
use Rattle.table_model.specs.declared.conditions.GeometryArgument.{GeometryArgument}
use Rattle.table_model.specs.declared.conditions.GeometryArgument.TheVariants as arguments
use Rattle.table_model.specs.declared.conditions.Operand.{Operand}
use Rattle.table_model.specs.declared.conditions.Operand.TheVariants as operands
use Rattle.table_model.specs.declared.conditions.Reference.{Reference}
use Rattle.table_model.specs.declared.definitions.TableDef.{TableDef}
use Rattle.table_model.specs.declared.typing.OperandType.{OperandType}
use Rattle.table_model.proofs.CondFolds.{fold-Relates, fold-Compare, fold-IsNull, fold-IsEmpty, fold-Not, fold-And, fold-Or}
use Rattle.table_model.proofs.CondInduction.{Each, Cases, by_parts}

abbrev Argument : Type 0
Argument = GeometryArgument Geometry

-- an argument that fits is a column or a literal without fault
argument_valid : (definitions : List (TableDef ColumnShape)) (references : List Reference) (a : Argument) → argument_fits definitions references a ≡ true → All IsValid (literals_of_argument a)
argument_valid definitions references (arguments.Column place) e = All-nil IsValid
argument_valid definitions references (arguments.Literal g) e = All-cons IsValid g [] ((none_is_found_where_valid g).0 (is_nothing (validity_fault g) e)) (All-nil IsValid)

-- a function has a type only where its argument fits
fit_if : (b : Bool) (t : OperandType) → is_some (type_if b t) ≡ true → b ≡ true
fit_if true t e = refl
fit_if false t e = cc

-- an operand that has a type has valid literals: a function's are its argument's, others have none
operand_valid : (definitions : List (TableDef ColumnShape)) (references : List Reference) (a : Operand Argument) → is_some (operand_type geometry_fits definitions references a) ≡ true → All IsValid (literals_of_operand a)
operand_valid definitions references (operands.Column place) e = All-nil IsValid
operand_valid definitions references (operands.Integer n) e = All-nil IsValid
operand_valid definitions references (operands.Text bytes) e = All-nil IsValid
operand_valid definitions references operands.Null e = All-nil IsValid
operand_valid definitions references (operands.AsText a) e = argument_valid definitions references a (fit_if (argument_fits definitions references a) _ e)
operand_valid definitions references (operands.Dimension a) e = argument_valid definitions references a (fit_if (argument_fits definitions references a) _ e)

-- operands that can be compared both have a type
first_typed : (a b : Option OperandType) → can_compare a b ≡ true → is_some a ≡ true
first_typed None b e = cc
first_typed (Some x) b e = refl

second_typed : (a b : Option OperandType) → can_compare a b ≡ true → is_some b ≡ true
second_typed None b e = cc
second_typed (Some x) None e = cc
second_typed (Some x) (Some y) e = refl

-- a condition whose types fit has valid literals
abbrev FitsValid : List (TableDef ColumnShape) → List Reference → Cond Argument → Type 0
FitsValid definitions references c = cond_fits geometry_fits definitions references c ≡ true → All IsValid (literals c)

-- the literals of some conditions are valid where each condition fits
parts_valid : (definitions : List (TableDef ColumnShape)) (references : List Reference) (parts : List (Cond Argument)) → Each (FitsValid definitions references) parts
    → list_all (λ part. part) (map (cond_fits geometry_fits definitions references) parts) ≡ true → All IsValid (flat_map (λ part. part) (map literals parts))
parts_valid definitions references [] each e = All-nil IsValid
parts_valid definitions references (c ∷ parts) each e =
    let f = and_parts (cond_fits geometry_fits definitions references c) (list_all (λ part. part) (map (cond_fits geometry_fits definitions references) parts)) e in
    All-append IsValid (literals c) (flat_map (λ part. part) (map literals parts)) (each.0 f.0) (parts_valid definitions references parts each.1 f.1)

-- so it is with each kind of condition, whose literals are those of its parts or arguments
fitting : (definitions : List (TableDef ColumnShape)) (references : List Reference) → Cases Argument (FitsValid definitions references)
fitting definitions references = record {
  or = λ parts each e. subst (λ l. All IsValid l) (sym (fold-Or Argument (List Geometry) literals_by_parts parts))
      (parts_valid definitions references parts each (sym (fold-Or Argument Bool (fits_by_parts geometry_fits definitions references) parts) ∙ e));
  and = λ parts each e. subst (λ l. All IsValid l) (sym (fold-And Argument (List Geometry) literals_by_parts parts))
      (parts_valid definitions references parts each (sym (fold-And Argument Bool (fits_by_parts geometry_fits definitions references) parts) ∙ e));
  not = λ part own e. subst (λ l. All IsValid l) (sym (fold-Not Argument (List Geometry) literals_by_parts part))
      (own (sym (fold-Not Argument Bool (fits_by_parts geometry_fits definitions references) part) ∙ e));
  compare = λ sign a b e. subst (λ l. All IsValid l) (sym (fold-Compare Argument (List Geometry) literals_by_parts sign a b))
      (compared a b (sym (fold-Compare Argument Bool (fits_by_parts geometry_fits definitions references) sign a b) ∙ e));
  is_null = λ a e. subst (λ l. All IsValid l) (sym (fold-IsNull Argument (List Geometry) literals_by_parts a))
      (operand_valid definitions references a (sym (fold-IsNull Argument Bool (fits_by_parts geometry_fits definitions references) a) ∙ e));
  is_empty = λ a e. subst (λ l. All IsValid l) (sym (fold-IsEmpty Argument (List Geometry) literals_by_parts a))
      (argument_valid definitions references a (sym (fold-IsEmpty Argument Bool (fits_by_parts geometry_fits definitions references) a) ∙ e));
  relates = λ predicate a b e. subst (λ l. All IsValid l) (sym (fold-Relates Argument (List Geometry) literals_by_parts predicate a b))
      (related a b (sym (fold-Relates Argument Bool (fits_by_parts geometry_fits definitions references) predicate a b) ∙ e));
}
  where
    compared : (a b : Operand Argument) → can_compare (operand_type geometry_fits definitions references a) (operand_type geometry_fits definitions references b) ≡ true
        → All IsValid (literals_of_operand a ++ literals_of_operand b)
    compared a b e =
        All-append IsValid (literals_of_operand a) (literals_of_operand b)
        (operand_valid definitions references a (first_typed (operand_type geometry_fits definitions references a) (operand_type geometry_fits definitions references b) e))
        (operand_valid definitions references b (second_typed (operand_type geometry_fits definitions references a) (operand_type geometry_fits definitions references b) e))

    related : (a b : Argument) → (argument_fits definitions references a && argument_fits definitions references b) ≡ true → All IsValid (literals_of_argument a ++ literals_of_argument b)
    related a b e =
        let f = and_parts (argument_fits definitions references a) (argument_fits definitions references b) e in
        All-append IsValid (literals_of_argument a) (literals_of_argument b) (argument_valid definitions references a f.0) (argument_valid definitions references b f.1)

-- a literal with a fault fits no place of a condition, so what is bound has none
pub bound_has_valid : BoundHasValid
bound_has_valid definitions query bound =
    All-weaker (λ c. cond_fits geometry_fits definitions query.references c ≡ true) (λ c. All IsValid (literals c)) (λ c e. by_parts (FitsValid definitions query.references) (fitting definitions query.references) c e)
    query.conjuncts (AllPass-from_list_all (cond_fits geometry_fits definitions query.references) query.conjuncts bound.conjuncts)
