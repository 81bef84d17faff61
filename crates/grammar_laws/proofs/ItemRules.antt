-- The items of a select list agree with the rules.
use Rattle.std.proofs.Common.{◌≡◌, ℕ, zero, suc, List, [], ◌∷◌, map, Ok, Err, IfOk, IfErr, refl, sym, ap, ap₂, subst}
use Rattle.std.specs.List.{AllZip}
use Rattle.table_model.specs.Binding.{Checked, GeometryBinding, ◌>>=◌, bound_column, bound_item, bound_items, geometry_only}
use Rattle.table_model.specs.BindingRules.{GeometryRules, IsBoundColumn, IsFirst, IsGeometryPart, IsNoGeometry, IsRefusedColumn, Then}
use Rattle.table_model.specs.Loading.{and_then, each}
use Rattle.table_model.specs.QueryRules.{AreItems, AreRefusedItems, IsBoundItem, IsRefusedFunction, IsRefusedItem}
use Rattle.table_model.specs.declared.conditions.Item.{Item}
use Rattle.table_model.specs.declared.conditions.Item.TheVariants as items
use Rattle.table_model.specs.declared.conditions.Reference.{Reference}
use Rattle.table_model.specs.declared.definitions.TableDef.{TableDef}
use Rattle.table_model.specs.declared.faults.QueryFault.{QueryFault}
use Rattle.table_model.specs.declared.queries.Selection.{Selection}
use Rattle.table_model.specs.declared.queries.Selection.TheVariants as selections
use Rattle.table_model.specs.declared.queries.WrittenItem.{WrittenItem}
use Rattle.table_model.specs.declared.queries.WrittenItem.TheVariants as written_item
use Rattle.grammar_laws.specs.RuleLaws.{Agrees, GeometryAgrees}
use Rattle.grammar_laws.proofs.AllColumnFacts.{all_agree}
use Rattle.grammar_laws.proofs.NameFacts.{columns_agree}
use Rattle.grammar_laws.proofs.RuleFacts.{returned, geometry_agrees, pure, sequence}

-- ---- one item

-- a function of a geometry binds its argument, which then has to be a geometry
function_agrees : {T A B C D : Type 0} (rules : GeometryRules T A B C D) (how : GeometryBinding T A B C D) → GeometryAgrees rules how → (schema : List (TableDef T)) (references : List Reference) (at : ℕ) (a : C) (made : D → Item D)
    → Agrees (Then (rules.IsItemArgument schema references a) (λ argument. Then (IsGeometryPart argument) (λ x item. item ≡ made x))) (IsRefusedFunction rules schema references at a)
    (how.item_argument schema references a >>= (λ typed. geometry_only at typed >>= (λ x. Ok (made x))))
function_agrees rules how agrees schema references at a made =
    sequence (rules.IsItemArgument schema references a) (rules.IsRefusedItemArgument schema references a) _ _ (how.item_argument schema references a) _ (agrees.item_argument schema references a)
    (λ argument is. returned (IsGeometryPart argument) (IsNoGeometry at argument) (geometry_only at argument) made (geometry_agrees at argument))

-- an item is a column or one of the three functions of a geometry
item_agrees : {T A B C D : Type 0} (rules : GeometryRules T A B C D) (how : GeometryBinding T A B C D) → GeometryAgrees rules how → (schema : List (TableDef T)) (references : List Reference) (w : WrittenItem C)
    → Agrees (IsBoundItem rules schema references w) (IsRefusedItem rules schema references w) (bound_item how schema references w)
item_agrees {T = T} rules how agrees schema references (written_item.Column w) =
    returned (IsBoundColumn schema references w) (IsRefusedColumn schema references w) (bound_column schema references w) (λ found. items.Column found.place) (columns_agree T schema references w)
item_agrees rules how agrees schema references (written_item.AsText at a) = function_agrees rules how agrees schema references at a items.AsText
item_agrees rules how agrees schema references (written_item.Dimension at a) = function_agrees rules how agrees schema references at a items.Dimension
item_agrees rules how agrees schema references (written_item.IsEmpty at a) = function_agrees rules how agrees schema references at a items.IsEmpty

-- ---- items in order

-- the fault of the first that is refused
FirstOf : {X : Type 0} → (X → QueryFault → Type 0) → List X → QueryFault → Type 0
FirstOf {X} Refused xs fault = (place : ℕ) × (x : X) × IsFirst (λ w. (f : QueryFault) × Refused w f) xs place x × Refused x fault

both : {Y : Type 0} → Checked Y → Checked (List Y) → Checked (List Y)
both r s = and_then r (λ y. and_then s (λ ys. Ok (y ∷ ys)))

abbrev IsErr : {Y : Type 0} → Checked Y → Type 0
IsErr (Ok y) = ⊥
IsErr (Err e) = Unit {0}

not_both : {Y : Type 0} (y : Y) (e : QueryFault) → Ok y ≡ Err e → ⊥
not_both y e h = subst IsErr (sym h) tt

-- the first item's fault is the fault of all; where it is bound, the fault is the first one behind it
one_refused : {X Y : Type 0} (Is : X → Y → Type 0) (Refused : X → QueryFault → Type 0) (x : X) (xs : List X) (r : Checked Y) (s : Checked (List Y))
    → Agrees (Is x) (Refused x) r → IfErr s (FirstOf Refused xs) → IfErr (both r s) (FirstOf Refused (x ∷ xs))
unfolding FirstOf both
one_refused Is Refused x xs (Ok y) (Ok ys) a b = tt
one_refused Is Refused x xs (Ok y) (Err e) a b = (suc b.0, b.1, ((λ f. not_both y f.0 (a.refuses f.0 f.1)), b.2), b.3)
one_refused Is Refused x xs (Err e) s a b = (zero, x, (refl, (e, a.refused)), a.refused)

-- where it and all behind it are bound, so are all
one_applies : {X Y : Type 0} (Is : X → Y → Type 0) (Refused : X → QueryFault → Type 0) (x : X) (xs : List X) (r : Checked Y) (s : Checked (List Y))
    → IfOk r (Is x) → IfOk s (AllZip Is xs) → IfOk (both r s) (AllZip Is (x ∷ xs))
unfolding both
one_applies Is Refused x xs (Ok y) (Ok ys) a b = (a, b)
one_applies Is Refused x xs (Ok y) (Err e) a b = tt
one_applies Is Refused x xs (Err e) s a b = tt

-- the other way round: what the rules bind all to, item by item, is returned
one_returns : {X Y : Type 0} (Is : X → Y → Type 0) (Refused : X → QueryFault → Type 0) (x : X) (xs : List X) (r : Checked Y) (s : Checked (List Y)) → Agrees (Is x) (Refused x) r
    → Agrees (AllZip Is xs) (FirstOf Refused xs) s → (ys : List Y) → AllZip Is (x ∷ xs) ys → both r s ≡ Ok ys
unfolding both
one_returns Is Refused x xs r s a b [] is = absurd is
one_returns Is Refused x xs r s a b (y ∷ ys) is = ap₂ (λ q t. and_then q (λ z. and_then t (λ zs. Ok (z ∷ zs)))) (a.answers y is.0) (b.answers ys is.1)

-- and the fault of the first item that the rules refuse is returned, since those before it are bound
one_refuses : {X Y : Type 0} (Is : X → Y → Type 0) (Refused : X → QueryFault → Type 0) (x : X) (xs : List X) (r : Checked Y) (s : Checked (List Y)) → Agrees (Is x) (Refused x) r
    → Agrees (AllZip Is xs) (FirstOf Refused xs) s → (fault : QueryFault) (place : ℕ) (item : X) → IsFirst (λ w. (f : QueryFault) × Refused w f) (x ∷ xs) place item → Refused item fault → both r s ≡ Err fault
unfolding both FirstOf
one_refuses Is Refused x xs r s a b fault zero item first refused = ap (λ q. both q s) (a.refuses fault (subst (λ w. Refused w fault) (sym first.0) refused))
one_refuses Is Refused x xs (Err e) s a b fault (suc place) item first refused = absurd (first.0 (e, a.refused))
one_refuses Is Refused x xs (Ok y) s a b fault (suc place) item first refused = ap (both (Ok y)) (b.refuses fault (place, item, first.1, refused))

-- each item is bound, or the first that is refused refuses all
pub each_agrees : {X Y : Type 0} (Is : X → Y → Type 0) (Refused : X → QueryFault → Type 0) (f : X → Checked Y) → ((x : X) → Agrees (Is x) (Refused x) (f x)) → (xs : List X)
    → Agrees (AllZip Is xs) (λ fault. (place : ℕ) × (x : X) × IsFirst (λ w. (e : QueryFault) × Refused w e) xs place x × Refused x fault) (each (map f xs))
unfolding both FirstOf
each_agrees {X} {Y} Is Refused f agrees [] = record { applies = tt; refused = tt; answers = none; refuses = λ fault is. absurd is.2 }
  where
    none : (ys : List Y) → AllZip Is [] ys → each (map f []) ≡ Ok ys
    none [] is = refl
    none (y ∷ ys) is = absurd is
each_agrees Is Refused f agrees (x ∷ xs) = record {
  applies = one_applies Is Refused x xs (f x) (each (map f xs)) (agrees x).applies (each_agrees Is Refused f agrees xs).applies;
  refused = one_refused Is Refused x xs (f x) (each (map f xs)) (agrees x) (each_agrees Is Refused f agrees xs).refused;
  answers = one_returns Is Refused x xs (f x) (each (map f xs)) (agrees x) (each_agrees Is Refused f agrees xs);
  refuses = λ fault is. one_refuses Is Refused x xs (f x) (each (map f xs)) (agrees x) (each_agrees Is Refused f agrees xs) fault is.0 is.1 is.2 is.3;
}

-- ---- the select list

-- the asterisk lists all columns, a list is bound item by item, and a count lists nothing
pub items_agree : {T A B C D : Type 0} (rules : GeometryRules T A B C D) (how : GeometryBinding T A B C D) → GeometryAgrees rules how → (schema : List (TableDef T)) (references : List Reference) (selection : Selection C)
    → Agrees (AreItems rules schema references selection) (AreRefusedItems rules schema references selection) (bound_items how schema references selection)
items_agree rules how agrees schema references selections.All = all_agree schema references
items_agree rules how agrees schema references (selections.Items written) =
    each_agrees (IsBoundItem rules schema references) (IsRefusedItem rules schema references) (bound_item how schema references) (item_agrees rules how agrees schema references) written
items_agree rules how agrees schema references selections.Count = pure []
