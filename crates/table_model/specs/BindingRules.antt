-- What each column and condition of a query is bound to, and where it is refused. `Binding` has the functions that compute
-- this. Of several faults the first from left to right counts; in a predicate or a call each argument comes before the whole.
use Rattle.std.specs.Prelude.{◌≡◌, ◌⊎◌, ℕ, zero, suc, true, false, List, [], ◌∷◌, Option, Some, None, Ok, Err}
use Rattle.geometry_model.specs.declared.relations.Pattern.{Pattern}
use Rattle.geometry_model.specs.declared.relations.Predicate.{Predicate}
use Rattle.geometry_model.specs.declared.relations.Predicate.TheVariants as predicates
use Rattle.geometry_model.specs.CheckedTexts.{geometry_in_text}
use Rattle.geometry_model.specs.Geometries.{Geometry}
use Rattle.geometry_model.specs.Patterns.{pattern_of_text}
use Rattle.geometry_model.specs.declared.geometry_faults.GeometryFault.{GeometryFault}
use Rattle.table_model.specs.GeometryColumns.{ColumnShape}
use Rattle.table_model.specs.declared.conditions.ColumnPlace.{ColumnPlace}
use Rattle.table_model.specs.declared.conditions.GeometryArgument.{GeometryArgument}
use Rattle.table_model.specs.declared.conditions.GeometryArgument.TheVariants as arguments
use Rattle.table_model.specs.declared.queries.WrittenGeometry.{WrittenGeometry}
use Rattle.table_model.specs.declared.queries.WrittenGeometry.TheVariants as written_geometry
use Rattle.table_model.specs.Binding.{columns_of, comparable, name_start, type_of, unquoted}
use Rattle.table_model.specs.Texts.{same_name}
use Rattle.table_model.specs.declared.conditions.Comparison.{Comparison}
use Rattle.table_model.specs.declared.conditions.Cond.{Cond}
use Rattle.table_model.specs.declared.conditions.Cond.TheVariants as conds
use Rattle.table_model.specs.declared.conditions.Operand.{Operand}
use Rattle.table_model.specs.declared.conditions.Operand.TheVariants as operands
use Rattle.table_model.specs.declared.conditions.Reference.{Reference}
use Rattle.table_model.specs.declared.definitions.ColumnDef.{ColumnDef}
use Rattle.table_model.specs.declared.definitions.TableDef.{TableDef}
use Rattle.table_model.specs.declared.faults.QueryFault.{QueryFault}
use Rattle.table_model.specs.declared.faults.QueryFault.TheVariants as faults
use Rattle.table_model.specs.declared.queries.Name.{Name}
use Rattle.table_model.specs.declared.queries.WrittenColumn.{WrittenColumn}
use Rattle.table_model.specs.declared.queries.WrittenCond.{WrittenCond}
use Rattle.table_model.specs.declared.queries.WrittenCond.TheVariants as written_cond
use Rattle.table_model.specs.declared.queries.WrittenOperand.{WrittenOperand}
use Rattle.table_model.specs.declared.queries.WrittenOperand.TheVariants as written_operand
use Rattle.table_model.specs.declared.queries.WrittenPredicate.{WrittenPredicate}
use Rattle.table_model.specs.declared.queries.WrittenPredicate.TheVariants as written_predicate
use Rattle.table_model.specs.declared.typing.Found.{Found}
use Rattle.table_model.specs.declared.typing.OperandType.TheVariants as types
use Rattle.table_model.specs.declared.typing.Typed.{Typed}

-- ---- elements of a list

-- no element has the property
abbrev pub IsNowhere : {X : Type 0} → (X → Type 0) → List X → Type 0
IsNowhere P [] = Unit {0}
IsNowhere P (x ∷ xs) = (P x → ⊥) × IsNowhere P xs

-- an element has the property
abbrev pub IsSomewhere : {X : Type 0} → (X → Type 0) → List X → Type 0
IsSomewhere P [] = ⊥
IsSomewhere P (x ∷ xs) = P x ⊎ IsSomewhere P xs

-- two elements have the property
abbrev pub IsTwice : {X : Type 0} → (X → Type 0) → List X → Type 0
IsTwice P [] = ⊥
IsTwice P (x ∷ xs) = (P x × IsSomewhere P xs) ⊎ IsTwice P xs

-- x, at this place from 0, is the first element that has the property
abbrev pub IsFirst : {X : Type 0} → (X → Type 0) → List X → ℕ → X → Type 0
IsFirst P [] place x = ⊥
IsFirst P (y ∷ ys) zero x = (y ≡ x) × P y
IsFirst P (y ∷ ys) (suc place) x = (P y → ⊥) × IsFirst P ys place x

-- x, at this place from 0, is the only element that has the property
abbrev pub IsOnly : {X : Type 0} → (X → Type 0) → List X → ℕ → X → Type 0
IsOnly P [] place x = ⊥
IsOnly P (y ∷ ys) zero x = (y ≡ x) × P y × IsNowhere P ys
IsOnly P (y ∷ ys) (suc place) x = (P y → ⊥) × IsOnly P ys place x

-- ---- one step after another

-- what two steps find, where the second knows what the first found
abbrev pub Then : {X Y : Type 0} → (X → Type 0) → (X → Y → Type 0) → Y → Type 0
Then {X} First Second y = (x : X) × First x × Second x y

-- the fault of two steps: that of the first, or if it finds something, that of the second
abbrev pub FirstFault : {X : Type 0} → (X → Type 0) → (QueryFault → Type 0) → (X → QueryFault → Type 0) → QueryFault → Type 0
FirstFault {X} First Refused then_refused fault = Refused fault ⊎ ((x : X) × First x × then_refused x fault)

-- ---- names

-- two names are equal, without regard to ASCII case (SQL, names)
abbrev pub AreOneName : List ℕ → List ℕ → Type 0
AreOneName a b = same_name a b ≡ true

-- a column has this name (SQL, names of columns)
abbrev pub IsColumnNamed : {T : Type 0} → List ℕ → ColumnDef T → Type 0
IsColumnNamed name column = AreOneName column.name name

-- ---- columns

-- a column written with a reference is of that one, one without may be of any; an alias hides the table's name (SQL, qualified names)
abbrev pub MayBeOf : Option Name → Reference → Type 0
MayBeOf (Some written) reference = AreOneName written.text reference.name
MayBeOf None reference = Unit {0}

-- the reference has the column that is written (SQL, column names)
abbrev pub HasColumn : {T : Type 0} → List (TableDef T) → WrittenColumn → Reference → Type 0
HasColumn schema written reference = MayBeOf written.reference reference × IsSomewhere (IsColumnNamed written.name.text) (columns_of schema reference)

-- a column is bound to the first of its name in the only reference that has it (SQL, column names)
abbrev pub IsBoundColumn : {T : Type 0} → List (TableDef T) → List Reference → WrittenColumn → Found → Type 0
IsBoundColumn {T} schema references written found =
    (reference : Reference) × (column : ColumnDef T)
    × IsOnly (HasColumn schema written) references found.place.reference reference
    × IsFirst (IsColumnNamed written.name.text) (columns_of schema reference) found.place.column column
    × (found.column_type ≡ type_of column.column_type)

-- Q5 where no reference has the column, Q6 where two have it; both at its first byte (SQL, column names)
abbrev pub IsRefusedColumn : {T : Type 0} → List (TableDef T) → List Reference → WrittenColumn → QueryFault → Type 0
IsRefusedColumn schema references written fault =
    (IsNowhere (HasColumn schema written) references × (fault ≡ faults.UnknownColumn (name_start written.name written.reference)))
    ⊎ (IsTwice (HasColumn schema written) references × (fault ≡ faults.AmbiguousColumn (name_start written.name written.reference)))

-- ---- conditions

-- what geometry arguments and patterns are bound to, and where they are refused: an argument of a condition, one of the select list, a pattern
pub record GeometryRules (T A B C D : Type 0) : Type 1 where
  pub IsArgument : List (TableDef T) → List Reference → A → Typed B → Type 0
  pub IsRefusedArgument : List (TableDef T) → List Reference → A → QueryFault → Type 0
  pub IsItemArgument : List (TableDef T) → List Reference → C → Typed D → Type 0
  pub IsRefusedItemArgument : List (TableDef T) → List Reference → C → QueryFault → Type 0
  pub IsPattern : Name → Pattern → Type 0
  pub IsRefusedPattern : Name → QueryFault → Type 0

-- the argument is a geometry, and x is what it is bound to
abbrev pub IsGeometryPart : {X : Type 0} → Typed X → X → Type 0
IsGeometryPart typed x = (typed.part_type ≡ types.Geometry) × (x ≡ typed.part)

-- Q7 where an argument isn't a geometry, at the first byte of the predicate or call
abbrev pub IsNoGeometry : {X : Type 0} → ℕ → Typed X → QueryFault → Type 0
IsNoGeometry at typed fault = (typed.part_type ≡ types.Geometry → ⊥) × (fault ≡ faults.TypeMismatch at)

-- what a side of a comparison is bound to, and its type (SQL, comparison)
abbrev pub IsBoundOperand : {T A B C D : Type 0} → GeometryRules T A B C D → List (TableDef T) → List Reference → WrittenOperand A → Typed (Operand B) → Type 0
IsBoundOperand rules schema references (written_operand.Column written) =
    Then (IsBoundColumn schema references written) (λ found typed. typed ≡ record { part = operands.Column found.place; part_type = found.column_type })
IsBoundOperand rules schema references (written_operand.Integer n) = λ typed. typed ≡ record { part = operands.Integer n; part_type = types.Integer }
IsBoundOperand rules schema references (written_operand.Text written) = λ typed. typed ≡ record { part = operands.Text (unquoted written.text); part_type = types.Text }
IsBoundOperand rules schema references written_operand.Null = λ typed. typed ≡ record { part = operands.Null; part_type = types.Null }
IsBoundOperand rules schema references (written_operand.AsText at a) =
    Then (rules.IsArgument schema references a) (λ argument. Then (IsGeometryPart argument) (λ x typed. typed ≡ record { part = operands.AsText x; part_type = types.Text }))
IsBoundOperand rules schema references (written_operand.Dimension at a) =
    Then (rules.IsArgument schema references a) (λ argument. Then (IsGeometryPart argument) (λ x typed. typed ≡ record { part = operands.Dimension x; part_type = types.Integer }))

-- where a side is refused: at its column, at its argument, or as a call whose argument isn't a geometry
abbrev pub IsRefusedOperand : {T A B C D : Type 0} → GeometryRules T A B C D → List (TableDef T) → List Reference → WrittenOperand A → QueryFault → Type 0
IsRefusedOperand rules schema references (written_operand.Column written) =
    FirstFault (IsBoundColumn schema references written) (IsRefusedColumn schema references written) (λ found fault. ⊥)
IsRefusedOperand rules schema references (written_operand.Integer n) = λ fault. ⊥
IsRefusedOperand rules schema references (written_operand.Text written) = λ fault. ⊥
IsRefusedOperand rules schema references written_operand.Null = λ fault. ⊥
IsRefusedOperand rules schema references (written_operand.AsText at a) =
    FirstFault (rules.IsArgument schema references a) (rules.IsRefusedArgument schema references a)
    (λ argument. FirstFault (IsGeometryPart argument) (IsNoGeometry at argument) (λ x fault. ⊥))
IsRefusedOperand rules schema references (written_operand.Dimension at a) =
    FirstFault (rules.IsArgument schema references a) (rules.IsRefusedArgument schema references a)
    (λ argument. FirstFault (IsGeometryPart argument) (IsNoGeometry at argument) (λ x fault. ⊥))

-- what a comparison is bound to: both sides are integers or both are texts, and NULL is either (SQL, comparison)
abbrev pub IsCompared : {T A B C D : Type 0} → GeometryRules T A B C D → List (TableDef T) → List Reference → Comparison → WrittenOperand A → WrittenOperand A → Cond B → Type 0
IsCompared rules schema references sign a b =
    Then (IsBoundOperand rules schema references a) (λ left. Then (IsBoundOperand rules schema references b)
    (λ right cond. (comparable left.part_type right.part_type ≡ true) × (cond ≡ conds.Compare sign left.part right.part)))

-- Q7 at a comparison of two types, after the faults of its sides
abbrev pub IsRefusedComparison : {T A B C D : Type 0} → GeometryRules T A B C D → List (TableDef T) → List Reference → ℕ → WrittenOperand A → WrittenOperand A → QueryFault → Type 0
IsRefusedComparison rules schema references at a b =
    FirstFault (IsBoundOperand rules schema references a) (IsRefusedOperand rules schema references a)
    (λ left. FirstFault (IsBoundOperand rules schema references b) (IsRefusedOperand rules schema references b)
    (λ right fault. (comparable left.part_type right.part_type ≡ false) × (fault ≡ faults.TypeMismatch at)))

-- what a predicate is bound to: itself, with its pattern read
abbrev pub IsBoundPredicate : {T A B C D : Type 0} → GeometryRules T A B C D → WrittenPredicate → Predicate → Type 0
IsBoundPredicate rules (written_predicate.Named predicate) = λ bound. bound ≡ predicate
IsBoundPredicate rules (written_predicate.Relate string) = Then (rules.IsPattern string) (λ pattern bound. bound ≡ predicates.Relate pattern)

-- where a pattern is refused
abbrev pub IsRefusedPredicate : {T A B C D : Type 0} → GeometryRules T A B C D → WrittenPredicate → QueryFault → Type 0
IsRefusedPredicate rules (written_predicate.Named predicate) = λ fault. ⊥
IsRefusedPredicate rules (written_predicate.Relate string) = FirstFault (rules.IsPattern string) (rules.IsRefusedPattern string) (λ pattern fault. ⊥)

-- what a predicate of two geometries is bound to: its arguments, its pattern, then whether the arguments are geometries (06-103r4, 6.1.15.3)
abbrev pub IsRelated : {T A B C D : Type 0} → GeometryRules T A B C D → List (TableDef T) → List Reference → WrittenPredicate → A → A → Cond B → Type 0
IsRelated rules schema references written a b =
    Then (rules.IsArgument schema references a) (λ left. Then (rules.IsArgument schema references b) (λ right. Then (IsBoundPredicate rules written)
    (λ predicate. Then (IsGeometryPart left) (λ x. Then (IsGeometryPart right) (λ y cond. cond ≡ conds.Relates predicate x y)))))

-- where a predicate of two geometries is refused, in the same order
abbrev pub IsRefusedRelation : {T A B C D : Type 0} → GeometryRules T A B C D → List (TableDef T) → List Reference → ℕ → WrittenPredicate → A → A → QueryFault → Type 0
IsRefusedRelation rules schema references at written a b =
    FirstFault (rules.IsArgument schema references a) (rules.IsRefusedArgument schema references a)
    (λ left. FirstFault (rules.IsArgument schema references b) (rules.IsRefusedArgument schema references b)
    (λ right. FirstFault (IsBoundPredicate rules written) (IsRefusedPredicate rules written)
    (λ predicate. FirstFault (IsGeometryPart left) (IsNoGeometry at left)
    (λ x. FirstFault (IsGeometryPart right) (IsNoGeometry at right) (λ y fault. ⊥)))))

mutual
  -- what a written condition is bound to (SQL, the search condition)
  pub data IsCond {T A B C D : Type 0} (rules : GeometryRules T A B C D) (schema : List (TableDef T)) (references : List Reference) : WrittenCond A → Cond B → Type 0 where
    Or : (parts : List (WrittenCond A)) (bound : List (Cond B)) → AreConds rules schema references parts bound → IsCond rules schema references (written_cond.Or parts) (conds.Or bound)
    And : (parts : List (WrittenCond A)) (bound : List (Cond B)) → AreConds rules schema references parts bound → IsCond rules schema references (written_cond.And parts) (conds.And bound)
    Not : (part : WrittenCond A) (bound : Cond B) → IsCond rules schema references part bound → IsCond rules schema references (written_cond.Not part) (conds.Not bound)
    Compared : (at : ℕ) (sign : Comparison) (a b : WrittenOperand A) (bound : Cond B) → IsCompared rules schema references sign a b bound → IsCond rules schema references (written_cond.Compare at sign a b) bound
    Null : (a : WrittenOperand A) (bound : Cond B) → Then (IsBoundOperand rules schema references a) (λ operand cond. cond ≡ conds.IsNull operand.part) bound → IsCond rules schema references (written_cond.IsNull a) bound
    Empty : (at : ℕ) (a : A) (bound : Cond B) → Then (rules.IsArgument schema references a) (λ argument. Then (IsGeometryPart argument) (λ x cond. cond ≡ conds.IsEmpty x)) bound → IsCond rules schema references (written_cond.IsEmpty at a) bound
    Related : (at : ℕ) (predicate : WrittenPredicate) (a b : A) (bound : Cond B) → IsRelated rules schema references predicate a b bound → IsCond rules schema references (written_cond.Relates at predicate a b) bound

  -- what each of some conditions is bound to
  pub data AreConds {T A B C D : Type 0} (rules : GeometryRules T A B C D) (schema : List (TableDef T)) (references : List Reference) : List (WrittenCond A) → List (Cond B) → Type 0 where
    NoCond : AreConds rules schema references [] []
    Before : (part : WrittenCond A) (parts : List (WrittenCond A)) (bound : Cond B) (more : List (Cond B)) → IsCond rules schema references part bound → AreConds rules schema references parts more
        → AreConds rules schema references (part ∷ parts) (bound ∷ more)

mutual
  -- the fault that a written condition is refused for
  pub data IsRefusedCond {T A B C D : Type 0} (rules : GeometryRules T A B C D) (schema : List (TableDef T)) (references : List Reference) : WrittenCond A → QueryFault → Type 0 where
    InOr : (parts : List (WrittenCond A)) (fault : QueryFault) → AreRefused rules schema references parts fault → IsRefusedCond rules schema references (written_cond.Or parts) fault
    InAnd : (parts : List (WrittenCond A)) (fault : QueryFault) → AreRefused rules schema references parts fault → IsRefusedCond rules schema references (written_cond.And parts) fault
    InNot : (part : WrittenCond A) (fault : QueryFault) → IsRefusedCond rules schema references part fault → IsRefusedCond rules schema references (written_cond.Not part) fault
    InComparison : (at : ℕ) (sign : Comparison) (a b : WrittenOperand A) (fault : QueryFault) → IsRefusedComparison rules schema references at a b fault → IsRefusedCond rules schema references (written_cond.Compare at sign a b) fault
    InNull : (a : WrittenOperand A) (fault : QueryFault) → FirstFault (IsBoundOperand rules schema references a) (IsRefusedOperand rules schema references a) (λ operand f. ⊥) fault → IsRefusedCond rules schema references (written_cond.IsNull a) fault
    InEmpty : (at : ℕ) (a : A) (fault : QueryFault) → FirstFault (rules.IsArgument schema references a) (rules.IsRefusedArgument schema references a) (λ argument. FirstFault (IsGeometryPart argument) (IsNoGeometry at argument) (λ x f. ⊥)) fault
        → IsRefusedCond rules schema references (written_cond.IsEmpty at a) fault
    InRelation : (at : ℕ) (predicate : WrittenPredicate) (a b : A) (fault : QueryFault) → IsRefusedRelation rules schema references at predicate a b fault → IsRefusedCond rules schema references (written_cond.Relates at predicate a b) fault

  -- the fault that some conditions are refused for: that of the first that is refused
  pub data AreRefused {T A B C D : Type 0} (rules : GeometryRules T A B C D) (schema : List (TableDef T)) (references : List Reference) : List (WrittenCond A) → QueryFault → Type 0 where
    InFirst : (part : WrittenCond A) (parts : List (WrittenCond A)) (fault : QueryFault) → IsRefusedCond rules schema references part fault → AreRefused rules schema references (part ∷ parts) fault
    InLater : (part : WrittenCond A) (parts : List (WrittenCond A)) (bound : Cond B) (fault : QueryFault) → IsCond rules schema references part bound → AreRefused rules schema references parts fault
        → AreRefused rules schema references (part ∷ parts) fault

-- ---- what a geometry is

-- what an argument in a condition is bound to: a column of any type, tested later, or the valid geometry that ST_GeomFromText reads (06-104r4, 7.2)
abbrev pub IsGeometryArgument : List (TableDef ColumnShape) → List Reference → WrittenGeometry → Typed (GeometryArgument Geometry) → Type 0
IsGeometryArgument schema references (written_geometry.Column written) =
    Then (IsBoundColumn schema references written) (λ found typed. typed ≡ record { part = arguments.Column found.place; part_type = found.column_type })
IsGeometryArgument schema references (written_geometry.FromText string) =
    λ typed. (g : Geometry) × (geometry_in_text (unquoted string.text) ≡ Ok g) × (typed ≡ record { part = arguments.Literal g; part_type = types.Geometry })

-- Q8 at a string that spells no valid geometry, with the geometry's fault, its byte counted in the string's value (06-104r4, 7.2)
abbrev pub IsRefusedGeometryArgument : List (TableDef ColumnShape) → List Reference → WrittenGeometry → QueryFault → Type 0
IsRefusedGeometryArgument schema references (written_geometry.Column written) = FirstFault (IsBoundColumn schema references written) (IsRefusedColumn schema references written) (λ found fault. ⊥)
IsRefusedGeometryArgument schema references (written_geometry.FromText string) =
    λ fault. (reason : GeometryFault) × (geometry_in_text (unquoted string.text) ≡ Err reason) × (fault ≡ faults.BadGeometry string.at reason)

-- what geometry arguments, columns of the select list and patterns are bound to; Q9 at the string of a bad pattern (06-104r4, 7.2; 06-103r4, 6.1.15.2)
abbrev pub geometry_rules : GeometryRules ColumnShape WrittenGeometry (GeometryArgument Geometry) WrittenColumn ColumnPlace
geometry_rules = record {
  IsArgument = IsGeometryArgument;
  IsRefusedArgument = IsRefusedGeometryArgument;
  IsItemArgument = λ schema references written. Then (IsBoundColumn schema references written) (λ found typed. typed ≡ record { part = found.place; part_type = found.column_type });
  IsRefusedItemArgument = λ schema references written. FirstFault (IsBoundColumn schema references written) (IsRefusedColumn schema references written) (λ found fault. ⊥);
  IsPattern = λ string pattern. pattern_of_text (unquoted string.text) ≡ Some pattern;
  IsRefusedPattern = λ string fault. (pattern_of_text (unquoted string.text) ≡ None) × (fault ≡ faults.BadPattern string.at);
}
