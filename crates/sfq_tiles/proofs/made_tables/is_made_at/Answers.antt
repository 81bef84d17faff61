-- The part and the table that were found, and no others.
use Rattle.std.proofs.Common.{◌≡◌, Bool, false, ℕ, List, Option, None, Some, ◌↔◌, IsTrue, slice_get, subst, sym}
use Rattle.feature_table.specs.GeometryFields.{ShapeValue}
use Rattle.sfq_tiles.specs.MadeTables.{IsMade, IsMadeAt}
use Rattle.sfq_tiles.specs.declared.parts.NamedPart.{NamedPart}
use Rattle.table_model.specs.declared.definitions.TableDef.{TableDef}
use Rattle.sfq_tiles.proofs.made_tables.is_made_at.Goals as goal

-- two values that are found at one place are one
same_found : {A : Type 0} (found : Option A) (a b : A) → found ≡ Some a → Some b ≡ found → a ≡ b
same_found found a b first second = cc

-- nothing is found where nothing is
none_found : {A : Type 0} (found : Option A) (a : A) → found ≡ Some a → None ≡ found → ⊥
none_found found a some none = cc

-- the part and the table that are found decide
found_decide : (made : Bool) (parts : List NamedPart) (tables : List (TableDef ShapeValue)) (place : ℕ) (part : NamedPart) (table : TableDef ShapeValue)
    → Some part ≡ slice_get parts place → Some table ≡ slice_get tables place → (IsTrue made ↔ IsMade part table) → IsTrue made ↔ IsMadeAt parts tables place
unfolding IsMadeAt
found_decide made parts tables place part table found_part found_table decides = (
  λ good. (part, table, sym found_part, sym found_table, decides.0 good),
  λ is.
      let same_part : is.0 ≡ part = same_found (slice_get parts place) is.0 part is.2 found_part in
      let same_table : is.1 ≡ table = same_found (slice_get tables place) is.1 table is.3 found_table in
      decides.1 (subst (λ p. IsMade p table) same_part (subst (λ t. IsMade is.0 t) same_table is.4)),
)

-- without a part there
no_part : (parts : List NamedPart) (tables : List (TableDef ShapeValue)) (place : ℕ) → None ≡ slice_get parts place → IsTrue false ↔ IsMadeAt parts tables place
unfolding IsMadeAt
no_part parts tables place none = (λ good. cc, λ is. absurd (none_found (slice_get parts place) is.0 is.2 none))

-- without a table there
no_table : (parts : List NamedPart) (tables : List (TableDef ShapeValue)) (place : ℕ) → None ≡ slice_get tables place → IsTrue false ↔ IsMadeAt parts tables place
unfolding IsMadeAt
no_table parts tables place none = (λ good. cc, λ is. absurd (none_found (slice_get tables place) is.1 is.3 none))

pub returns-in-Some-at : goal.returns-in-Some-at
returns-in-Some-at c =
    found_decide c.is_made.result c.args.parts.now c.args.tables.now c.args.place c.in-Some.part.now c.in-Some-at.table.now c.in-Some.ensures c.in-Some-at.ensures c.is_made.ensures

pub returns-in-None : goal.returns-in-None
returns-in-None c = no_part c.args.parts.now c.args.tables.now c.args.place c.in-None.ensures

pub returns-in-None-at : goal.returns-in-None-at
returns-in-None-at c = no_table c.args.parts.now c.args.tables.now c.args.place c.in-None-at.ensures
