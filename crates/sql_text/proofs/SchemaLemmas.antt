-- A table of a lawful schema is lawful by itself.
use Rattle.std.proofs.Common.{◌≡◌, ◌<◌, ℕ, zero, suc, Bool, true, List, [], ◌∷◌, arith, get_or, length, refl}
use Rattle.std.proofs.lemmas.Bool.{and_parts}
use Rattle.std.specs.List.{list_all}
use Rattle.table_model.specs.Definitions.{lawful, lawful_table}
use Rattle.table_model.specs.declared.definitions.TableDef.{TableDef}

-- a test that each element passes
pub list_all-get : {X : Type 0} (p : X → Bool) (xs : List X) (i : ℕ) (d : X) → i < length xs → list_all p xs ≡ true → p (get_or xs i d) ≡ true
list_all-get p [] i d within h = absurd (omega arith)
list_all-get p (x ∷ xs) zero d within h = (and_parts (p x) (list_all p xs) h).0
list_all-get p (x ∷ xs) (suc i) d within h = list_all-get p xs i d (omega arith) (and_parts (p x) (list_all p xs) h).1

-- each table of a lawful schema is lawful as a schema of its own
pub lawful_one : {T : Type 0} (tables : List (TableDef T)) (i : ℕ) (d : TableDef T) → i < length tables → lawful tables ≡ true
    → lawful (get_or tables i d ∷ []) ≡ true
unfolding lawful
lawful_one tables i d within h =
    let each = list_all-get lawful_table tables i d within (and_parts _ _ (and_parts _ _ h).1).1 in
    rw each refl
