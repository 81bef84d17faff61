-- What the conjuncts of a query filter.
use Rattle.std.proofs.Common.{◌≡◌, ◌&&◌, if◌then◌else◌, Bool, List, [], ◌∷◌, ◌++◌, Option, Some, None, Ok, Err, refl, sym, ap, ap₂, ◌∙◌}
use Rattle.std.specs.List.{filter, flat_map, list_all}
use Rattle.std.specs.Option.{option_to_list}
use Rattle.std.proofs.lemmas.List.Concat.{flat_map-cons}
use Rattle.std.proofs.lemmas.List.Folds.{list_all-append}
use Rattle.std.proofs.Math.Bool.{and-true}
use Rattle.geometry_model.specs.Geometries.{Geometry}
use Rattle.geometry_model.specs.Dimensions.{Matrix}
use Rattle.table_model.specs.Binding.{GeometryBinding, Checked, ◌>>=◌, bound_references, bound_items, bound_cond, bound_whole, bound_condition}
use Rattle.table_model.specs.Meanings.{is_true, product, referenced, up_to}
use Rattle.table_model.specs.Statements.{conjuncts_of, conjuncts_in}
use Rattle.table_model.specs.Truths.{Rows, truth}
use Rattle.table_model.specs.declared.conditions.Cond.{Cond}
use Rattle.table_model.specs.declared.conditions.Cond.TheVariants as conds
use Rattle.table_model.specs.declared.definitions.TableDef.{TableDef}
use Rattle.table_model.specs.declared.queries.WrittenCond.{WrittenCond}
use Rattle.table_model.specs.declared.values.Truth.{Truth}
use Rattle.table_model.proofs.CondInduction.{Each, by_parts}
use Rattle.table_model.proofs.ConjunctFacts.{conjuncts-Or, conjuncts-And, conjuncts-Not, conjuncts-Compare, conjuncts-IsNull, conjuncts-IsEmpty, conjuncts-Relates}
use Rattle.table_model.proofs.TruthFacts.{of_parts, are_true}
use Rattle.grammar_laws.specs.FilterLaws.{ConjunctsByParts, BoundOfStatement, ConjunctsAreTrue, ConjunctsAreFiltered, MeaningByConjuncts}

-- the conjuncts, computed at each kind of condition
pub conjuncts_by_parts : (A : Type 0) → ConjunctsByParts A
conjuncts_by_parts A = record {
  and = conjuncts-And;
  or = conjuncts-Or;
  not = conjuncts-Not;
  compare = conjuncts-Compare;
  is_null = conjuncts-IsNull;
  is_empty = conjuncts-IsEmpty;
  relates = conjuncts-Relates;
}

-- ---- binding

-- the conjuncts of what is bound are the bound conjuncts
in_whole : {T A B C D : Type 0} (how : GeometryBinding T A B C D) (schema : List (TableDef T)) (references : List _) (written : Option (WrittenCond A))
    → bound_condition how schema references written ≡ (bound_whole how schema references written >>= (λ cond. Ok (conjuncts_in cond)))
in_whole how schema references None = refl
in_whole how schema references (Some written) = step (bound_cond how schema references written)
  where
    step : {B : Type 0} (r : Checked (Cond B)) → (r >>= (λ cond. Ok (conjuncts_of cond))) ≡ ((r >>= (λ cond. Ok (Some cond))) >>= (λ cond. Ok (conjuncts_in cond)))
    step (Ok cond) = refl
    step (Err e) = refl

-- steps one after another may be taken together
then_then : {X Y Z : Type 0} (r : Checked X) (f : X → Checked Y) (g : Y → Checked Z) → ((r >>= f) >>= g) ≡ (r >>= (λ x. f x >>= g))
then_then (Ok x) f g = refl
then_then (Err e) f g = refl

-- steps that go on alike answer alike
same_then : {X Y : Type 0} (r : Checked X) (f g : X → Checked Y) → ((x : X) → f x ≡ g x) → (r >>= f) ≡ (r >>= g)
same_then (Ok x) f g same = same x
same_then (Err e) f g same = refl

-- a step whose answer is taken in another form
in_form : {X Y Z : Type 0} (s : Checked Y) (r : Checked X) (v : X → Y) (f : Y → Checked Z) → s ≡ (r >>= (λ x. Ok (v x))) → (s >>= f) ≡ (r >>= (λ x. f (v x)))
in_form s r v f is = ap (λ q. q >>= f) is ∙ then_then r (λ x. Ok (v x)) f

-- both bindings take the same steps; taking the conjuncts of ON and WHERE refuses nothing and may come last
pub bound_of_statement : (T A B C D : Type 0) → BoundOfStatement T A B C D
bound_of_statement T A B C D how schema query =
    same_then (bound_references schema query.references) _ _ (λ references.
    same_then (bound_items how schema references query.selection) _ _ (λ listed.
    in_form (bound_condition how schema references query.on) (bound_whole how schema references query.on) conjuncts_in _ (in_whole how schema references query.on)
    ∙ same_then (bound_whole how schema references query.on) _ _ (λ on.
    in_form (bound_condition how schema references query.condition) (bound_whole how schema references query.condition) conjuncts_in _ (in_whole how schema references query.condition)
    ∙ sym (then_then (bound_whole how schema references query.condition) _ _))
    ∙ sym (then_then (bound_whole how schema references query.on) _ _))
    ∙ sym (then_then (bound_items how schema references query.selection) _ _))
    ∙ sym (then_then (bound_references schema query.references) _ _)

-- ---- truth

-- the conjuncts of each of some conditions are true where the conditions are
all_true_in : {A : Type 0} (value : Cond A → Truth) (parts : List (Cond A)) → Each (λ c. list_all (λ x. is_true (value x)) (conjuncts_of c) ≡ is_true (value c)) parts
    → list_all (λ x. is_true (value x)) (flat_map conjuncts_of parts) ≡ list_all (λ x. is_true (value x)) parts
all_true_in value [] each = refl
all_true_in value (c ∷ parts) each =
    ap (list_all (λ x. is_true (value x))) (flat_map-cons conjuncts_of c parts)
    ∙ list_all-append (λ x. is_true (value x)) (conjuncts_of c) (flat_map conjuncts_of parts)
    ∙ ap₂ (λ a b. a && b) each.0 (all_true_in value parts each.1)

-- a condition that is its own only conjunct
alone : {A : Type 0} (value : Cond A → Truth) (c : Cond A) → conjuncts_of c ≡ c ∷ [] → list_all (λ x. is_true (value x)) (conjuncts_of c) ≡ is_true (value c)
alone value c is = ap (list_all (λ x. is_true (value x))) is ∙ and-true (is_true (value c))

-- an AND is true exactly where all its parts are (SQL's three-valued logic)
and_is_true : {A G : Type 0} (matrix : Geometry → Geometry → Matrix) (denotes : Rows G → A → Option Geometry) (rows : Rows G) (parts : List (Cond A))
    → is_true (truth matrix denotes rows (conds.And parts)) ≡ list_all (λ x. is_true (truth matrix denotes rows x)) parts
and_is_true matrix denotes rows parts = ap is_true (of_parts matrix denotes rows parts) ∙ are_true (truth matrix denotes rows) parts

-- an AND is true where its parts' conjuncts are, and any other condition is its own only conjunct
pub conjuncts_are_true : (G A : Type 0) → ConjunctsAreTrue G A
conjuncts_are_true G A matrix denotes rows = by_parts (λ c. list_all (λ x. is_true (value x)) (conjuncts_of c) ≡ is_true (value c)) (record {
  or = λ parts each. alone value (conds.Or parts) (conjuncts-Or parts);
  and = λ parts each. ap (list_all (λ x. is_true (value x))) (conjuncts-And parts) ∙ all_true_in value parts each ∙ sym (and_is_true matrix denotes rows parts);
  not = λ part is. alone value (conds.Not part) (conjuncts-Not part);
  compare = λ sign a b. alone value (conds.Compare sign a b) (conjuncts-Compare sign a b);
  is_null = λ a. alone value (conds.IsNull a) (conjuncts-IsNull a);
  is_empty = λ a. alone value (conds.IsEmpty a) (conjuncts-IsEmpty a);
  relates = λ p a b. alone value (conds.Relates p a b) (conjuncts-Relates p a b);
})
  where
    value : Cond A → Truth
    value = truth matrix denotes rows

-- the conjuncts of a condition that may be absent
in_option : {A : Type 0} (value : Cond A → Truth) → ((c : Cond A) → list_all (λ x. is_true (value x)) (conjuncts_of c) ≡ is_true (value c)) → (o : Option (Cond A))
    → list_all (λ x. is_true (value x)) (conjuncts_in o) ≡ list_all (λ x. is_true (value x)) (option_to_list o)
in_option value are None = refl
in_option value are (Some c) = are c ∙ sym (and-true (is_true (value c)))

-- the conjuncts of ON and those of WHERE are true where both are, and so where their AND is
pub conjuncts_are_filtered : (G A C : Type 0) → ConjunctsAreFiltered G A C
conjuncts_are_filtered G A C matrix denotes rows query =
    list_all-append test (conjuncts_in query.on) (conjuncts_in query.condition)
    ∙ ap₂ (λ a b. a && b) (in_option value (conjuncts_are_true G A matrix denotes rows) query.on) (in_option value (conjuncts_are_true G A matrix denotes rows) query.condition)
    ∙ sym (list_all-append test (option_to_list query.on) (option_to_list query.condition))
    ∙ sym (and_is_true matrix denotes rows (option_to_list query.on ++ option_to_list query.condition))
  where
    value : Cond A → Truth
    value = truth matrix denotes rows

    test : Cond A → Bool
    test x = is_true (truth matrix denotes rows x)

-- both tests are one at every choice of rows, so they filter the same rows
pub meaning_by_conjuncts : (G A C : Type 0) → MeaningByConjuncts G A C
meaning_by_conjuncts G A C matrix denotes tables query =
    ap (λ test. let rows = filter test (product (referenced tables query.references)) in if query.counts then rows else up_to query.limit rows)
    (same_at (λ rows. sym (conjuncts_are_filtered G A C matrix denotes rows query)))
  where
    same_at : {X : Type 0} {f g : X → Bool} → ((x : X) → f x ≡ g x) → f ≡ g
    same_at same = λ i x. same x i
