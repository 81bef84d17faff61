-- The tables and columns that names are bound to agree with the rules.
use Rattle.std.proofs.Common.{◌≡◌, ◌+◌, inl, inr, ℕ, zero, suc, Bool, true, false, if◌then◌else◌, List, [], ◌∷◌, Option, Some, None, Ok, Err, IfOk, IfErr, refl, sym, ap, subst, ◌∙◌, arith}
use Rattle.std.specs.List.{cons_option}
use Rattle.std.proofs.lemmas.Bool.{false≢true}
use Rattle.basics.proofs.Numbers.{one_on, from_zero}
use Rattle.table_model.specs.Binding.{Checked, columns_of, column_named, found_in, refers_to, column_meant, columns_meant, the_one, bound_column, name_start, type_of}
use Rattle.table_model.specs.BindingRules.{IsNowhere, IsSomewhere, IsTwice, IsFirst, IsOnly, IsColumnNamed, MayBeOf, HasColumn, IsBoundColumn, IsRefusedColumn}
use Rattle.table_model.specs.Texts.{same_name}
use Rattle.table_model.specs.declared.conditions.Reference.{Reference}
use Rattle.table_model.specs.declared.definitions.ColumnDef.{ColumnDef}
use Rattle.table_model.specs.declared.definitions.TableDef.{TableDef}
use Rattle.table_model.specs.declared.faults.QueryFault.{QueryFault}
use Rattle.table_model.specs.declared.queries.Name.{Name}
use Rattle.table_model.specs.declared.queries.WrittenColumn.{WrittenColumn}
use Rattle.table_model.specs.declared.typing.Found.{Found}
use Rattle.table_model.specs.declared.typing.OperandType.{OperandType}
use Rattle.grammar_laws.specs.RuleLaws.{Agrees, ColumnsAgree}

IfTrue : Bool → Type 0 → Type 0 → Type 0
IfTrue true A B = A
IfTrue false A B = B

-- ---- the column of a name in a table

-- the first column of a name, where it was looked for: its place counts from the first one's
FirstNamed : {T : Type 0} → List ℕ → ℕ → List (ColumnDef T) → ℕ × OperandType → Type 0
FirstNamed {T} name k columns found =
    (place : ℕ) × (column : ColumnDef T) × (found.0 ≡ place + k) × IsFirst (IsColumnNamed name) columns place column × (found.1 ≡ type_of column.column_type)

-- what is looked for is found or is nowhere
Looked : {T : Type 0} → List ℕ → ℕ → List (ColumnDef T) → Option (ℕ × OperandType) → Type 0
Looked name k columns (Some found) = FirstNamed name k columns found
Looked name k columns None = IsNowhere (IsColumnNamed name) columns

-- a column of another name in front moves the first one of the name by a place, and it stays the first
further : {T : Type 0} (name : List ℕ) (k : ℕ) (column : ColumnDef T) (columns : List (ColumnDef T)) (o : Option (ℕ × OperandType)) → (IsColumnNamed name column → ⊥)
    → Looked name (k + 1) columns o → Looked name k (column ∷ columns) o
unfolding Looked FirstNamed
further name k column columns None other is = (other, is)
further name k column columns (Some found) other is = (suc is.0, is.1, is.2 ∙ one_on is.0 k, (other, is.3), is.4)

-- looking from the first column on finds the first one of the name, or there is none
looked : {T : Type 0} (name : List ℕ) (k : ℕ) (columns : List (ColumnDef T)) → Looked name k columns (column_named name k columns)
unfolding Looked FirstNamed
looked name k [] = tt
looked name k (column ∷ columns) = at_name (same_name column.name name) refl (looked name (k + 1) columns)
  where
    at_name : (b : Bool) → same_name column.name name ≡ b → Looked name (k + 1) columns (column_named name (k + 1) columns)
        → Looked name k (column ∷ columns) (if b then Some (k, type_of column.column_type) else column_named name (k + 1) columns)
    at_name true is more = (zero, column, from_zero k, (refl, is), refl)
    at_name false is more = further name k column columns (column_named name (k + 1) columns) (λ h. false≢true (sym is ∙ h)) more

-- what is first, alone or twice is somewhere
pub somewhere : {X : Type 0} (P : X → Type 0) (xs : List X) (place : ℕ) (x : X) → IsFirst P xs place x → IsSomewhere P xs
somewhere P [] place x is = is
somewhere P (y ∷ ys) zero x is = inl is.1
somewhere P (y ∷ ys) (suc place) x is = inr (somewhere P ys place x is.1)

only_somewhere : {X : Type 0} (P : X → Type 0) (xs : List X) (place : ℕ) (x : X) → IsOnly P xs place x → IsSomewhere P xs
only_somewhere P [] place x is = is
only_somewhere P (y ∷ ys) zero x is = inl is.1
only_somewhere P (y ∷ ys) (suc place) x is = inr (only_somewhere P ys place x is.1)

twice_somewhere : {X : Type 0} (P : X → Type 0) (xs : List X) → IsTwice P xs → IsSomewhere P xs
twice_somewhere P [] is = is
twice_somewhere P (x ∷ xs) (inl is) = inl is.0
twice_somewhere P (x ∷ xs) (inr is) = inr (twice_somewhere P xs is)

pub not_nowhere : {X : Type 0} (P : X → Type 0) (xs : List X) → IsSomewhere P xs → IsNowhere P xs → ⊥
not_nowhere P [] is none = is
not_nowhere P (x ∷ xs) (inl is) none = none.0 is
not_nowhere P (x ∷ xs) (inr is) none = not_nowhere P xs is none.1

-- what is just once isn't twice
not_twice : {X : Type 0} (P : X → Type 0) (xs : List X) (place : ℕ) (x : X) → IsOnly P xs place x → IsTwice P xs → ⊥
not_twice P [] place x is two = two
not_twice P (y ∷ ys) zero x is (inl two) = not_nowhere P ys two.1 is.2
not_twice P (y ∷ ys) zero x is (inr two) = not_nowhere P ys (twice_somewhere P ys two) is.2
not_twice P (y ∷ ys) (suc place) x is (inl two) = is.0 two.0
not_twice P (y ∷ ys) (suc place) x is (inr two) = not_twice P ys place x is.1 two

-- the first is one, and the only one is one
pub first_is_one : {X : Type 0} (P : X → Type 0) (xs : List X) (i j : ℕ) (x y : X) → IsFirst P xs i x → IsFirst P xs j y → (i ≡ j) × (x ≡ y)
first_is_one P [] i j x y is too = absurd is
first_is_one P (z ∷ zs) zero zero x y is too = (refl, sym is.0 ∙ too.0)
first_is_one P (z ∷ zs) zero (suc j) x y is too = absurd (too.0 is.1)
first_is_one P (z ∷ zs) (suc i) zero x y is too = absurd (is.0 too.1)
first_is_one P (z ∷ zs) (suc i) (suc j) x y is too = (ap suc (first_is_one P zs i j x y is.1 too.1).0, (first_is_one P zs i j x y is.1 too.1).1)

-- what is just once has one place
only_is_one : {X : Type 0} (P : X → Type 0) (xs : List X) (i j : ℕ) (x y : X) → IsOnly P xs i x → IsOnly P xs j y → (i ≡ j) × (x ≡ y)
only_is_one P [] i j x y is too = absurd is
only_is_one P (z ∷ zs) zero zero x y is too = (refl, sym is.0 ∙ too.0)
only_is_one P (z ∷ zs) zero (suc j) x y is too = absurd (too.0 is.1)
only_is_one P (z ∷ zs) (suc i) zero x y is too = absurd (is.0 too.1)
only_is_one P (z ∷ zs) (suc i) (suc j) x y is too = (ap suc (only_is_one P zs i j x y is.1 too.1).0, (only_is_one P zs i j x y is.1 too.1).1)

-- ---- the column of a name in some references

-- the only reference that has a column, with the column's place and type; the reference's place counts from the first one's
OnlyMeant : {T : Type 0} → List (TableDef T) → WrittenColumn → ℕ → List Reference → Found → Type 0
OnlyMeant {T} schema w k references found =
    (place : ℕ) × (reference : Reference) × (column : ColumnDef T) × (found.place.reference ≡ place + k) × IsOnly (HasColumn schema w) references place reference
    × IsFirst (IsColumnNamed w.name.text) (columns_of schema reference) found.place.column column × (found.column_type ≡ type_of column.column_type)

-- what one reference has
InOne : {T : Type 0} → List (TableDef T) → WrittenColumn → ℕ → Reference → Option Found → Type 0
InOne schema w k reference None = HasColumn schema w reference → ⊥
InOne {T} schema w k reference (Some found) =
    (column : ColumnDef T) × MayBeOf w.reference reference × (found.place.reference ≡ k)
    × IsFirst (IsColumnNamed w.name.text) (columns_of schema reference) found.place.column column × (found.column_type ≡ type_of column.column_type)

-- what some references have
Meant : {T : Type 0} → List (TableDef T) → WrittenColumn → ℕ → List Reference → List Found → Type 0
Meant schema w k references [] = IsNowhere (HasColumn schema w) references
Meant schema w k references (found ∷ []) = OnlyMeant schema w k references found
Meant schema w k references (found ∷ other ∷ more) = IsTwice (HasColumn schema w) references

-- a written name may mean a reference where the test passes; a column without one may be of every reference
may_be : (written : Option Name) (reference : Reference) (b : Bool) → refers_to written reference.name ≡ b → IfTrue b (MayBeOf written reference) (MayBeOf written reference → ⊥)
unfolding IfTrue
may_be None reference true is = tt
may_be None reference false is = absurd (false≢true (sym is))
may_be (Some name) reference true is = is
may_be (Some name) reference false is = λ h. false≢true (sym is ∙ h)

-- a reference has the column where the written name may mean it and its table has one of that name, the first of which is found
in_one : {T : Type 0} (schema : List (TableDef T)) (w : WrittenColumn) (k : ℕ) (reference : Reference) → InOne schema w k reference (column_meant schema w k reference)
unfolding InOne Looked FirstNamed IfTrue
in_one {T} schema w k reference = at_reference (refers_to w.reference reference.name) (may_be w.reference reference (refers_to w.reference reference.name) refl)
  where
    at_column : MayBeOf w.reference reference → (o : Option (ℕ × OperandType)) → Looked w.name.text zero (columns_of schema reference) o → InOne schema w k reference (found_in k o)
    at_column may None none = λ h. not_nowhere (IsColumnNamed w.name.text) (columns_of schema reference) h.1 none
    at_column may (Some (column, type)) is =
        (is.1, may, refl, subst (λ n. IsFirst (IsColumnNamed w.name.text) (columns_of schema reference) n is.1) (end is.0 ∙ sym is.2) is.3, is.4)
      where
        end : (n : ℕ) → n ≡ n + zero
        end n = omega arith

    at_reference : (b : Bool) → IfTrue b (MayBeOf w.reference reference) (MayBeOf w.reference reference → ⊥)
        → InOne schema w k reference (if b then found_in k (column_named w.name.text zero (columns_of schema reference)) else None)
    at_reference true may = at_column may (column_named w.name.text zero (columns_of schema reference)) (looked w.name.text zero (columns_of schema reference))
    at_reference false may = λ h. may h.0

-- a reference in front adds its column, if it has one, to those that the others have: none, one or several
joined : {T : Type 0} (schema : List (TableDef T)) (w : WrittenColumn) (k : ℕ) (reference : Reference) (references : List Reference) (o : Option Found) (fs : List Found)
    → InOne schema w k reference o → Meant schema w (k + 1) references fs → Meant schema w k (reference ∷ references) (cons_option o fs)
unfolding InOne Meant OnlyMeant
joined schema w k reference references None [] one are = (one, are)
joined schema w k reference references None (f ∷ []) one are = (suc are.0, are.1, are.2, are.3 ∙ one_on are.0 k, (one, are.4), are.5, are.6)
joined schema w k reference references None (f ∷ g ∷ fs) one are = inr are
joined schema w k reference references (Some f) [] one are =
    (zero, reference, one.0, one.2 ∙ from_zero k, (refl, (one.1, somewhere (IsColumnNamed w.name.text) (columns_of schema reference) f.place.column one.0 one.3), are), one.3, one.4)
joined schema w k reference references (Some f) (g ∷ []) one are =
    inl ((one.1, somewhere (IsColumnNamed w.name.text) (columns_of schema reference) f.place.column one.0 one.3), only_somewhere (HasColumn schema w) references are.0 are.1 are.4)
joined schema w k reference references (Some f) (g ∷ h ∷ fs) one are =
    inl ((one.1, somewhere (IsColumnNamed w.name.text) (columns_of schema reference) f.place.column one.0 one.3), twice_somewhere (HasColumn schema w) references are)

-- so what all references have is no column, the only one, or two at least
meant : {T : Type 0} (schema : List (TableDef T)) (w : WrittenColumn) (k : ℕ) (references : List Reference) → Meant schema w k references (columns_meant schema w k references)
unfolding Meant
meant schema w k [] = tt
meant schema w k (reference ∷ references) =
    joined schema w k reference references (column_meant schema w k reference) (columns_meant schema w (k + 1) references) (in_one schema w k reference) (meant schema w (k + 1) references)

-- ---- agreement

-- none and two at least are refused, each with its fault, and the only one is bound
total : {T : Type 0} (schema : List (TableDef T)) (references : List Reference) (w : WrittenColumn) (fs : List Found) → Meant schema w zero references fs
    → IfOk (the_one (name_start w.name w.reference) fs) (IsBoundColumn schema references w) × IfErr (the_one (name_start w.name w.reference) fs) (IsRefusedColumn schema references w)
unfolding Meant OnlyMeant
total schema references w [] is = (tt, inl (is, refl))
total schema references w (f ∷ []) is = ((is.1, is.2, subst (λ n. IsOnly (HasColumn schema w) references n is.1) (end is.0 ∙ sym is.3) is.4, is.5, is.6), tt)
  where
    end : (n : ℕ) → n ≡ n + zero
    end n = omega arith
total schema references w (f ∷ g ∷ fs) is = (tt, inr (is, refl))

-- the rules bind a column to one place: the only reference that has it, and the first of its name there
same_found : {T : Type 0} (schema : List (TableDef T)) (references : List Reference) (w : WrittenColumn) (f g : Found) → IsBoundColumn schema references w f → IsBoundColumn schema references w g → f ≡ g
same_found {T} schema references w f g is too =
    λ i. record { place = record { reference = at.0 i; column = (column_at at.1).0 i }; column_type = (is.4 ∙ ap (λ (c : ColumnDef T). type_of c.column_type) (column_at at.1).1 ∙ sym too.4) i }
  where
    at : (f.place.reference ≡ g.place.reference) × (is.0 ≡ too.0)
    at = only_is_one (HasColumn schema w) references f.place.reference g.place.reference is.0 too.0 is.2 too.2

    column_at : is.0 ≡ too.0 → (f.place.column ≡ g.place.column) × (is.1 ≡ too.1)
    column_at e = first_is_one (IsColumnNamed w.name.text) (columns_of schema too.0) f.place.column g.place.column is.1 too.1
        (subst (λ r. IsFirst (IsColumnNamed w.name.text) (columns_of schema r) f.place.column is.1) e is.3) too.3

-- they don't both bind a column and refuse it: one isn't none, and once isn't twice
one_or_refused : {T : Type 0} (schema : List (TableDef T)) (references : List Reference) (w : WrittenColumn) (f : Found) (e : QueryFault) → IsBoundColumn schema references w f → IsRefusedColumn schema references w e → ⊥
one_or_refused schema references w f e is (inl none) = not_nowhere (HasColumn schema w) references (only_somewhere (HasColumn schema w) references f.place.reference is.0 is.2) none.0
one_or_refused schema references w f e is (inr two) = not_twice (HasColumn schema w) references f.place.reference is.0 is.2 two.0

-- and they refuse it for one fault: what no reference has, not two of them have
same_fault : {T : Type 0} (schema : List (TableDef T)) (references : List Reference) (w : WrittenColumn) (d e : QueryFault) → IsRefusedColumn schema references w d → IsRefusedColumn schema references w e → d ≡ e
same_fault schema references w d e (inl is) (inl too) = is.1 ∙ sym too.1
same_fault schema references w d e (inl is) (inr two) = absurd (not_nowhere (HasColumn schema w) references (twice_somewhere (HasColumn schema w) references two.0) is.0)
same_fault schema references w d e (inr two) (inl is) = absurd (not_nowhere (HasColumn schema w) references (twice_somewhere (HasColumn schema w) references two.0) is.0)
same_fault schema references w d e (inr is) (inr too) = is.1 ∙ sym too.1

-- rules that say one thing at most are what is returned, where what is returned they say
pub agreed : {X : Type 0} (Is : X → Type 0) (Refused : QueryFault → Type 0) (r : Checked X) → IfOk r Is → IfErr r Refused
    → ((x y : X) → Is x → Is y → x ≡ y) → ((x : X) (e : QueryFault) → Is x → Refused e → ⊥) → ((d e : QueryFault) → Refused d → Refused e → d ≡ e) → Agrees Is Refused r
agreed Is Refused (Ok x) is none one either fault = record { applies = is; refused = tt; answers = λ y too. ap Ok (one x y is too); refuses = λ e refused. absurd (either x e is refused) }
agreed Is Refused (Err d) none is one either fault = record { applies = tt; refused = is; answers = λ y too. absurd (either y d too is); refuses = λ e refused. ap Err (fault d e is refused) }

-- what is returned the rules say, and they say one thing at most
pub columns_agree : (T : Type 0) → ColumnsAgree T
columns_agree T schema references w =
    agreed (IsBoundColumn schema references w) (IsRefusedColumn schema references w) (bound_column schema references w)
    (total schema references w (columns_meant schema w zero references) (meant schema w zero references)).0
    (total schema references w (columns_meant schema w zero references) (meant schema w zero references)).1
    (same_found schema references w) (one_or_refused schema references w) (same_fault schema references w)
