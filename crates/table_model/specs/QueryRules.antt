-- What the tables of FROM, the select list and a whole query are bound to, and where they are refused. `Binding` has the
-- functions that compute this. Of several faults the first counts: FROM comes first, then the select list, ON and WHERE.
use Rattle.std.specs.Prelude.{◌≡◌, ◌⊎◌, ◌<◌, ℕ, List, [], ◌∷◌, ◌++◌, map, slice_get, Option, Some, None}
use Rattle.std.specs.List.{AllZip}
use Rattle.table_model.specs.Binding.{columns_of, counts, name_start}
use Rattle.table_model.specs.BindingRules.{GeometryRules, FirstFault, IsBoundColumn, IsCond, IsFirst, IsGeometryPart, AreOneName, IsNoGeometry, IsNowhere, IsRefusedColumn, IsRefusedCond, IsSomewhere, Then}
use Rattle.table_model.specs.Statements.{Statement, by_conjuncts}
use Rattle.table_model.specs.declared.conditions.Bound.{Bound}
use Rattle.table_model.specs.declared.conditions.ColumnPlace.{ColumnPlace}
use Rattle.table_model.specs.declared.conditions.Cond.{Cond}
use Rattle.table_model.specs.declared.conditions.Item.{Item}
use Rattle.table_model.specs.declared.conditions.Item.TheVariants as items
use Rattle.table_model.specs.declared.conditions.Reference.{Reference}
use Rattle.table_model.specs.declared.definitions.ColumnDef.{ColumnDef}
use Rattle.table_model.specs.declared.definitions.TableDef.{TableDef}
use Rattle.table_model.specs.declared.faults.QueryFault.{QueryFault}
use Rattle.table_model.specs.declared.faults.QueryFault.TheVariants as faults
use Rattle.table_model.specs.declared.queries.Name.{Name}
use Rattle.table_model.specs.declared.queries.Query.{Query}
use Rattle.table_model.specs.declared.queries.Selection.{Selection}
use Rattle.table_model.specs.declared.queries.Selection.TheVariants as selections
use Rattle.table_model.specs.declared.queries.WrittenCond.{WrittenCond}
use Rattle.table_model.specs.declared.queries.WrittenItem.{WrittenItem}
use Rattle.table_model.specs.declared.queries.WrittenItem.TheVariants as written_item
use Rattle.table_model.specs.declared.queries.WrittenReference.{WrittenReference}

-- ---- the tables of FROM

-- a table has this name (SQL, names of tables)
abbrev pub IsTableNamed : {T : Type 0} → List ℕ → TableDef T → Type 0
IsTableNamed name table = AreOneName table.name name

-- the name of a reference to a table: its alias, else the table's name as the schema spells it (SQL, correlation names)
abbrev pub alias_or : Option Name → List ℕ → List ℕ
alias_or (Some alias) name = alias.text
alias_or None name = name

-- a reference is to the first table of the name that is written (SQL, FROM)
abbrev pub IsBoundReference : {T : Type 0} → List (TableDef T) → WrittenReference → Reference → Type 0
IsBoundReference {T} schema written reference =
    (table : TableDef T) × IsFirst (IsTableNamed written.table.text) schema reference.table table × (reference.name ≡ alias_or written.alias table.name)

-- Q3 where no table has that name, at the name (SQL, FROM)
abbrev pub IsRefusedReference : {T : Type 0} → List (TableDef T) → WrittenReference → QueryFault → Type 0
IsRefusedReference schema written fault = IsNowhere (IsTableNamed written.table.text) schema × (fault ≡ faults.UnknownTable written.table.at)

-- one of these references has this name
abbrev pub IsTaken : List Reference → List ℕ → Type 0
IsTaken references name = IsSomewhere (λ other. AreOneName other.name name) references

-- what a reference after others is bound to, if none of them has its name (SQL, FROM and correlation names)
abbrev pub IsNextReference : {T : Type 0} → List (TableDef T) → List Reference → WrittenReference → Reference → Type 0
IsNextReference schema before written =
    Then (IsBoundReference schema written) (λ reference next. (IsTaken before reference.name → ⊥) × (next ≡ reference))

-- where a reference after others is refused: at its table, else Q4 if one has its name: at its alias, or without one at its table's name
abbrev pub IsRefusedNext : {T : Type 0} → List (TableDef T) → List Reference → WrittenReference → QueryFault → Type 0
IsRefusedNext schema before written =
    FirstFault (IsBoundReference schema written) (IsRefusedReference schema written)
    (λ reference fault. IsTaken before reference.name × (fault ≡ faults.SameName (name_start written.table written.alias)))

-- what references after others are bound to; the others are listed first
abbrev pub IsFromAfter : {T : Type 0} → List (TableDef T) → List Reference → List WrittenReference → List Reference → Type 0
IsFromAfter schema before [] = λ references. references ≡ before
IsFromAfter schema before (written ∷ more) =
    Then (IsNextReference schema before written) (λ reference. IsFromAfter schema (before ++ reference ∷ []) more)

-- where references after others are refused
abbrev pub IsRefusedAfter : {T : Type 0} → List (TableDef T) → List Reference → List WrittenReference → QueryFault → Type 0
IsRefusedAfter schema before [] = λ fault. ⊥
IsRefusedAfter schema before (written ∷ more) =
    FirstFault (IsNextReference schema before written) (IsRefusedNext schema before written)
    (λ reference. IsRefusedAfter schema (before ++ reference ∷ []) more)

-- the references of FROM from left to right, each of another name than those before it (SQL, FROM and correlation names)
abbrev pub IsFrom : {T : Type 0} → List (TableDef T) → List WrittenReference → List Reference → Type 0
IsFrom schema = IsFromAfter schema []

-- FROM is refused at the first of its references that is
abbrev pub IsRefusedFrom : {T : Type 0} → List (TableDef T) → List WrittenReference → QueryFault → Type 0
IsRefusedFrom schema = IsRefusedAfter schema []

-- ---- the select list

-- what an item is bound to: a column, or a function of a geometry (SQL, the select list; 06-103r4, 6.1.2.2)
abbrev pub IsBoundItem : {T A B C D : Type 0} → GeometryRules T A B C D → List (TableDef T) → List Reference → WrittenItem C → Item D → Type 0
IsBoundItem rules schema references (written_item.Column written) = Then (IsBoundColumn schema references written) (λ found item. item ≡ items.Column found.place)
IsBoundItem rules schema references (written_item.AsText at a) =
    Then (rules.IsItemArgument schema references a) (λ argument. Then (IsGeometryPart argument) (λ x item. item ≡ items.AsText x))
IsBoundItem rules schema references (written_item.Dimension at a) =
    Then (rules.IsItemArgument schema references a) (λ argument. Then (IsGeometryPart argument) (λ x item. item ≡ items.Dimension x))
IsBoundItem rules schema references (written_item.IsEmpty at a) =
    Then (rules.IsItemArgument schema references a) (λ argument. Then (IsGeometryPart argument) (λ x item. item ≡ items.IsEmpty x))

-- a function's argument is refused, or isn't a geometry: Q7 at the function's first byte
abbrev pub IsRefusedFunction : {T A B C D : Type 0} → GeometryRules T A B C D → List (TableDef T) → List Reference → ℕ → C → QueryFault → Type 0
IsRefusedFunction rules schema references at a =
    FirstFault (rules.IsItemArgument schema references a) (rules.IsRefusedItemArgument schema references a)
    (λ argument. FirstFault (IsGeometryPart argument) (IsNoGeometry at argument) (λ x fault. ⊥))

-- where an item is refused: at its column, or as a function (SQL, the select list)
abbrev pub IsRefusedItem : {T A B C D : Type 0} → GeometryRules T A B C D → List (TableDef T) → List Reference → WrittenItem C → QueryFault → Type 0
IsRefusedItem rules schema references (written_item.Column written) = FirstFault (IsBoundColumn schema references written) (IsRefusedColumn schema references written) (λ found fault. ⊥)
IsRefusedItem rules schema references (written_item.AsText at a) = IsRefusedFunction rules schema references at a
IsRefusedItem rules schema references (written_item.Dimension at a) = IsRefusedFunction rules schema references at a
IsRefusedItem rules schema references (written_item.IsEmpty at a) = IsRefusedFunction rules schema references at a

-- a reference and a column of its table are at these places
abbrev pub IsThere : {T : Type 0} → List (TableDef T) → List Reference → ColumnPlace → Type 0
IsThere {T} schema references place =
    (reference : Reference) × (column : ColumnDef T)
    × (slice_get references place.reference ≡ Some reference) × (slice_get (columns_of schema reference) place.column ≡ Some column)

-- one column comes before another: that of the earlier reference, and of one reference the earlier column
abbrev pub AppliesBefore : ColumnPlace → ColumnPlace → Type 0
AppliesBefore a b = (a.reference < b.reference) ⊎ ((a.reference ≡ b.reference) × (a.column < b.column))

-- a place is among some
abbrev pub IsListed : List ColumnPlace → ColumnPlace → Type 0
IsListed places place = IsSomewhere (λ listed. listed ≡ place) places

-- each of some places comes before all that are listed after it
abbrev pub AreInOrder : List ColumnPlace → Type 0
AreInOrder [] = Unit {0}
AreInOrder (first ∷ places) = ((later : ColumnPlace) → IsListed places later → AppliesBefore first later) × AreInOrder places

-- all columns that are there, and no others, in order (SQL, the asterisk)
pub record AreAllColumns {T : Type 0} (schema : List (TableDef T)) (references : List Reference) (places : List ColumnPlace) : Type 0 where
  pub there : (place : ColumnPlace) → IsListed places place → IsThere schema references place
  pub all : (place : ColumnPlace) → IsThere schema references place → IsListed places place
  pub in_order : AreInOrder places

-- what SELECT lists: all columns, what is written, item by item, or no item where rows are counted (SQL, the select list)
abbrev pub AreItems : {T A B C D : Type 0} → GeometryRules T A B C D → List (TableDef T) → List Reference → Selection C → List (Item D) → Type 0
AreItems rules schema references selections.All = Then (AreAllColumns schema references) (λ places listed. listed ≡ map items.Column places)
AreItems rules schema references (selections.Items written) = AllZip (IsBoundItem rules schema references) written
AreItems rules schema references selections.Count = λ listed. listed ≡ []

-- a select list is refused at the first of its items that is refused
abbrev pub AreRefusedItems : {T A B C D : Type 0} → GeometryRules T A B C D → List (TableDef T) → List Reference → Selection C → QueryFault → Type 0
AreRefusedItems rules schema references selections.All = λ fault. ⊥
AreRefusedItems {C = C} rules schema references (selections.Items written) =
    λ fault. (place : ℕ) × (item : WrittenItem C)
    × IsFirst (λ w. (f : QueryFault) × IsRefusedItem rules schema references w f) written place item × IsRefusedItem rules schema references item fault
AreRefusedItems rules schema references selections.Count = λ fault. ⊥

-- ---- the whole query

-- the condition of ON or of WHERE, where it is written (SQL, ON and WHERE)
abbrev pub IsWhole : {T A B C D : Type 0} → GeometryRules T A B C D → List (TableDef T) → List Reference → Option (WrittenCond A) → Option (Cond B) → Type 0
IsWhole rules schema references (Some written) = Then (IsCond rules schema references written) (λ cond whole. whole ≡ Some cond)
IsWhole rules schema references None = λ whole. whole ≡ None

-- where the condition of ON or of WHERE is refused
abbrev pub IsRefusedWhole : {T A B C D : Type 0} → GeometryRules T A B C D → List (TableDef T) → List Reference → Option (WrittenCond A) → QueryFault → Type 0
IsRefusedWhole rules schema references (Some written) = FirstFault (IsCond rules schema references written) (IsRefusedCond rules schema references written) (λ cond fault. ⊥)
IsRefusedWhole rules schema references None = λ fault. ⊥

-- what a query is bound to as it is written; EXPLAIN, COUNT(*) and LIMIT are carried over (SQL, the query)
pub record IsStatement {T A B C D : Type 0} (rules : GeometryRules T A B C D) (schema : List (TableDef T)) (query : Query A C) (stated : Statement B D) : Type 0 where
  pub references : IsFrom schema query.references stated.references
  pub items : AreItems rules schema stated.references query.selection stated.items
  pub on : IsWhole rules schema stated.references query.on stated.on
  pub condition : IsWhole rules schema stated.references query.condition stated.condition
  pub explain : stated.explain ≡ query.explain
  pub counts : stated.counts ≡ counts query.selection
  pub limit : stated.limit ≡ query.limit

-- where a query is refused: in FROM, then in the select list, then in ON, then in WHERE (SQL, the query)
abbrev pub IsRefusedQuery : {T A B C D : Type 0} → GeometryRules T A B C D → List (TableDef T) → Query A C → QueryFault → Type 0
IsRefusedQuery rules schema query =
    FirstFault (IsFrom schema query.references) (IsRefusedFrom schema query.references)
    (λ references. FirstFault (AreItems rules schema references query.selection) (AreRefusedItems rules schema references query.selection)
    (λ listed. FirstFault (IsWhole rules schema references query.on) (IsRefusedWhole rules schema references query.on)
    (λ on. FirstFault (IsWhole rules schema references query.condition) (IsRefusedWhole rules schema references query.condition) (λ condition fault. ⊥))))

-- what a query is bound to: the conjuncts of ON and WHERE in place of the two conditions (SQL, WHERE)
abbrev pub IsBinding : {T A B C D : Type 0} → GeometryRules T A B C D → List (TableDef T) → Query A C → Bound B D → Type 0
IsBinding rules schema query = Then (IsStatement rules schema query) (λ stated bound. bound ≡ by_conjuncts stated)
