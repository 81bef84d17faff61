-- The references that FROM is bound to agree with the rules.
use Rattle.std.proofs.Common.{◌≡◌, ◌+◌, inl, inr, ℕ, zero, suc, Bool, true, false, cond, List, [], ◌∷◌, ◌++◌, slice_get, Option, Some, None, IfOk, IfErr, refl, sym, ap, subst, ◌∙◌}
use Rattle.std.proofs.lemmas.Iterator.Adapters.{position_from-zero}
use Rattle.std.specs.Prelude.{◌||◌}
use Rattle.std.specs.List.{list_any, position, position_from}
use Rattle.std.proofs.lemmas.Bool.{false≢true}
use Rattle.basics.proofs.Numbers.{one_on, from_zero, to_end}
use Rattle.table_model.specs.Binding.{bound_reference, bound_references, name_start, named_apart, next_reference, reference_at, reference_name, references_after, table_name, table_place}
use Rattle.table_model.specs.BindingRules.{IsFirst, IsNowhere, IsSomewhere}
use Rattle.table_model.specs.QueryRules.{IsBoundReference, IsFrom, IsFromAfter, IsNextReference, IsRefusedAfter, IsRefusedFrom, IsRefusedNext, IsRefusedReference, IsTableNamed, IsTaken, alias_or}
use Rattle.table_model.specs.Texts.{same_name}
use Rattle.table_model.specs.declared.conditions.Reference.{Reference}
use Rattle.table_model.specs.declared.definitions.TableDef.{TableDef}
use Rattle.table_model.specs.declared.faults.QueryFault.TheVariants as faults
use Rattle.table_model.specs.declared.queries.Name.{Name}
use Rattle.table_model.specs.declared.queries.WrittenReference.{WrittenReference}
use Rattle.grammar_laws.specs.RuleLaws.{Agrees, ReferencesAgree}
use Rattle.grammar_laws.proofs.NameFacts.{agreed, first_is_one, not_nowhere, somewhere}
use Rattle.grammar_laws.proofs.RuleFacts.{pure, sequence, tested}

-- ---- the first that passes a test

-- a place is that of the first that passes, counted from the first one's, and where there is none, nothing passes
Placed : {X : Type 0} → (X → Bool) → ℕ → List X → Option ℕ → Type 0
Placed {X} p k xs (Some n) = (place : ℕ) × (x : X) × (n ≡ place + k) × IsFirst (λ y. p y ≡ true) xs place x
Placed p k xs None = IsNowhere (λ y. p y ≡ true) xs

-- an element in front that doesn't pass moves the first one that does by a place
later : {X : Type 0} (p : X → Bool) (k : ℕ) (x : X) (xs : List X) (o : Option ℕ) → (p x ≡ true → ⊥) → Placed p (k + 1) xs o → Placed p k (x ∷ xs) o
unfolding Placed
later p k x xs (Some n) other is = (suc is.0, is.1, is.2 ∙ one_on is.0 k, (other, is.3))
later p k x xs None other is = (other, is)

-- going through a list finds the first element that passes, or none passes
placed_from : {X : Type 0} (p : X → Bool) (k : ℕ) (xs : List X) → Placed p k xs (position_from p k xs)
unfolding Placed
placed_from p k [] = tt
placed_from p k (x ∷ xs) = at (p x) refl (placed_from p (k + 1) xs)
  where
    at : (b : Bool) → p x ≡ b → Placed p (k + 1) xs (position_from p (k + 1) xs) → Placed p k (x ∷ xs) (cond b (Some k) (position_from p (k + 1) xs))
    at true is more = (zero, x, from_zero k, (refl, is))
    at false is more = later p k x xs (position_from p (k + 1) xs) (λ h. false≢true (sym is ∙ h)) more

-- the same with places counted from 0
placed : {X : Type 0} (p : X → Bool) (xs : List X) → Placed p 0 xs (position p xs)
placed p xs = subst (Placed p 0 xs) (sym (position_from-zero p xs)) (placed_from p 0 xs)

-- the first that passes is at its place
first_there : {X : Type 0} (P : X → Type 0) (xs : List X) (place : ℕ) (x : X) → IsFirst P xs place x → slice_get xs place ≡ Some x
first_there P [] place x is = absurd is
first_there P (y ∷ ys) zero x is = ap Some is.0
first_there P (y ∷ ys) (suc place) x is = first_there P ys place x is.1

-- ---- one reference

-- a reference goes by its alias, or else by its table's name
name_is : {T : Type 0} (schema : List (TableDef T)) (place : ℕ) (table : TableDef T) (alias : Option Name) → slice_get schema place ≡ Some table → reference_name schema place alias ≡ alias_or alias table.name
name_is schema place table (Some alias) is = refl
name_is schema place table None is = ap table_name is

-- a table that is found gives a reference to it, and a name without a table is refused
found : {T : Type 0} (schema : List (TableDef T)) (w : WrittenReference) (o : Option ℕ) → Placed (λ table. same_name table.name w.table.text) 0 schema o
    → IfOk (reference_at schema w o) (IsBoundReference schema w) × IfErr (reference_at schema w o) (IsRefusedReference schema w)
unfolding Placed
found {T} schema w (Some place) is = ((is.1, first, name_is schema place is.1 w.alias (first_there (IsTableNamed w.table.text) schema place is.1 first)), tt)
  where
    first : IsFirst (IsTableNamed w.table.text) schema place is.1
    first = subst (λ n. IsFirst (IsTableNamed w.table.text) schema n is.1) (to_end is.0 ∙ sym is.2) is.3
found schema w None is = (tt, (is, refl))

-- the rules bind a table's name to one reference: the first table of that name
same_reference : {T : Type 0} (schema : List (TableDef T)) (w : WrittenReference) (a b : Reference) → IsBoundReference schema w a → IsBoundReference schema w b → a ≡ b
same_reference {T} schema w a b is too = λ i. record { table = one.0 i; name = (is.2 ∙ ap (λ (t : TableDef T). alias_or w.alias t.name) one.1 ∙ sym too.2) i }
  where
    one : (a.table ≡ b.table) × (is.0 ≡ too.0)
    one = first_is_one (IsTableNamed w.table.text) schema a.table b.table is.0 too.0 is.1 too.1

-- what is returned the rules say, and they say one thing at most
pub reference_agrees : {T : Type 0} (schema : List (TableDef T)) (w : WrittenReference) → Agrees (IsBoundReference schema w) (IsRefusedReference schema w) (bound_reference schema w)
reference_agrees schema w =
    agreed (IsBoundReference schema w) (IsRefusedReference schema w) (bound_reference schema w)
    (found schema w (table_place schema w.table.text) (placed (λ table. same_name table.name w.table.text) schema)).0
    (found schema w (table_place schema w.table.text) (placed (λ table. same_name table.name w.table.text) schema)).1
    (same_reference schema w)
    (λ a e is none. not_nowhere (IsTableNamed w.table.text) schema (somewhere (IsTableNamed w.table.text) schema a.table is.0 is.1) none.0)
    (λ d e is too. is.1 ∙ sym too.1)

-- ---- FROM

-- a list that a test finds something in has it somewhere
found_somewhere : {X : Type 0} (p : X → Bool) (xs : List X) → list_any p xs ≡ true → IsSomewhere (λ x. p x ≡ true) xs
found_somewhere p [] h = absurd (false≢true h)
found_somewhere p (x ∷ xs) h = at (p x) refl h (found_somewhere p xs)
  where
    at : (b : Bool) → p x ≡ b → b || list_any p xs ≡ true → (list_any p xs ≡ true → IsSomewhere (λ x. p x ≡ true) xs) → IsSomewhere (λ x. p x ≡ true) (x ∷ xs)
    at true is h more = inl is
    at false is h more = inr (more h)

-- and what is somewhere is found
somewhere_found : {X : Type 0} (p : X → Bool) (xs : List X) → IsSomewhere (λ x. p x ≡ true) xs → list_any p xs ≡ true
somewhere_found p [] h = absurd h
somewhere_found p (x ∷ xs) (inl is) = ap (λ b. b || list_any p xs) is
somewhere_found p (x ∷ xs) (inr later) = at (p x) (somewhere_found p xs later)
  where
    at : (b : Bool) → list_any p xs ≡ true → b || list_any p xs ≡ true
    at true is = refl
    at false is = is

-- a reference is refused where its name is taken
apart_agrees : (before : List Reference) (at : ℕ) (r : Reference)
    → Agrees (λ next. (IsTaken before r.name → ⊥) × (next ≡ r)) (λ fault. IsTaken before r.name × (fault ≡ faults.SameName at)) (named_apart before at r)
apart_agrees before at r =
    let taken : Reference → Bool = λ other. same_name other.name r.name in
    tested (IsTaken before r.name) (list_any taken before) (faults.SameName at) r (found_somewhere taken before) (somewhere_found taken before)

-- a reference after others is bound, and then its name is compared
next_agrees : {T : Type 0} (schema : List (TableDef T)) (before : List Reference) (w : WrittenReference)
    → Agrees (IsNextReference schema before w) (IsRefusedNext schema before w) (next_reference schema before w)
next_agrees schema before w =
    sequence (IsBoundReference schema w) (IsRefusedReference schema w) _ _ (bound_reference schema w) (named_apart before (name_start w.table w.alias)) (reference_agrees schema w)
    (λ r is. apart_agrees before (name_start w.table w.alias) r)

-- references are bound one after the other
after_agrees : {T : Type 0} (schema : List (TableDef T)) (before : List Reference) (ws : List WrittenReference)
    → Agrees (IsFromAfter schema before ws) (IsRefusedAfter schema before ws) (references_after schema before ws)
after_agrees schema before [] = pure before
after_agrees schema before (w ∷ more) =
    sequence (IsNextReference schema before w) (IsRefusedNext schema before w) _ _ (next_reference schema before w) (λ r. references_after schema (before ++ r ∷ []) more) (next_agrees schema before w)
    (λ r is. after_agrees schema (before ++ r ∷ []) more)

-- so is FROM, with none before it
pub from_agrees : {T : Type 0} (schema : List (TableDef T)) (written : List WrittenReference) → Agrees (IsFrom schema written) (IsRefusedFrom schema written) (bound_references schema written)
from_agrees schema written = after_agrees schema [] written

pub references_agree : (T : Type 0) → ReferencesAgree T
references_agree T schema written = from_agrees schema written
