-- One part more of a condition whose parts are evaluated in order, and one predicate of two geometries.
use Rattle.std.proofs.Common.{◌≡◌, ◌<◌, ◌+◌, ◌∙◌, ℕ, Bool, true, false, List, length, get_or, drop, fold, map, sum, ap, sym, subst, refl, arith, Result}
use Rattle.std.specs.List.{list_any}
use Rattle.std.specs.Result.{IfOk}
use Rattle.std.specs.declared.alloc.AllocError.{AllocError}
use Rattle.std.proofs.lemmas.List.{at_drop_more}
use Rattle.std.proofs.lemmas.List.Folds.{list_any_at}
use Rattle.std.proofs.lemmas.List.Sums.{get_or-le-sum_by, sum-map, sum_by-drop_more}
use Rattle.geometry_model.specs.Geometries.{Geometry, kind}
use Rattle.geometry_model.specs.GivenMatrix.{GivesMatrix}
use Rattle.geometry_model.specs.Predicates.{holds}
use Rattle.geometry_model.specs.Validity.{IsValid}
use Rattle.geometry_model.specs.declared.relations.Predicate.{Predicate}
use Rattle.geometry_model.proofs.DimensionFacts.{only_matrix}
use Rattle.de9im.specs.Deciding.{IsDecided}
use Rattle.table_model.proofs.ListFacts.{list_any-map}
use Rattle.table_model.specs.RunOutcomes.{MatrixOf, kept_count}
use Rattle.table_model.specs.declared.values.Truth.{Truth}

-- the matrix by which a predicate was decided is the one that every function gives, so the predicate holds by it
pub holds_by_every : (matrix : MatrixOf) → GivesMatrix matrix → (p : Predicate) (a b : Geometry) (answer : Bool)
    → IsValid a → IsValid b → IsDecided p a b answer → answer ≡ holds p (kind a) (kind b) (matrix a b)
holds_by_every matrix gives p a b answer va vb decided =
    decided.exact
    ∙ ap (holds p (kind a) (kind b)) (only_matrix a b decided.matrix (matrix a b) decided.is_matrix (gives a b va vb))

-- an answer is each truth that equals its own
pub same_truth : (r : Result Truth AllocError) (x y : Truth) → IfOk r (λ t. t ≡ x) → y ≡ x → IfOk r (λ t. t ≡ y)
same_truth r x y is e = subst (λ v. IfOk r (λ t. t ≡ v)) (sym e) is

-- the truth so far takes in the truth of the part that comes next
pub joined_more : {X Y Z : Type 0} (join : Y → Z → Y) (f : X → Z) (a b : Y) (v : Z) (xs : List X) (i : ℕ) (d : X) → i < length xs → v ≡ f (get_or xs i d)
    → b ≡ join a v → fold join b (map f (drop (i + 1) xs)) ≡ fold join a (map f (drop i xs))
joined_more join f a b v xs i d within v_is b_is =
    ap (λ y. fold join y (map f (drop (i + 1) xs))) (b_is ∙ ap (join a) v_is)
    ∙ sym (at_drop_more (λ ys. fold join a (map f ys)) xs i d within)

-- numbers that are the same once kept to 64 bits stay so with as many more on both sides
kept_more : (n w a b : ℕ) → kept_count n ≡ kept_count (w + a) → kept_count (n + b) ≡ kept_count (w + (a + b))
kept_more n w a b e = omega arith

-- the work so far takes in the matrices of the part that comes next
pub counted_more : {X : Type 0} (f : X → ℕ) (n w : ℕ) (xs : List X) (i : ℕ) (d : X) → i < length xs → kept_count n ≡ kept_count (w + f (get_or xs i d))
    → kept_count (n + sum (map f (drop (i + 1) xs))) ≡ kept_count (w + sum (map f (drop i xs)))
counted_more f n w xs i d within e =
    ap (λ s. kept_count (n + s)) (sum-map f (drop (i + 1) xs)) ∙ kept_more n w (f (get_or xs i d)) _ e
    ∙ ap (λ s. kept_count (w + s)) (sym (sum-map f (drop i xs) ∙ sum_by-drop_more f xs i d within))

-- where all parts compute nothing, each one does
pub none_at : {X : Type 0} (f : X → ℕ) (xs : List X) (i : ℕ) (d : X) → i < length xs → sum (map f xs) ≡ 0 → f (get_or xs i d) ≡ 0
none_at f xs i d within none = let most = get_or-le-sum_by f xs i d within in let same = sum-map f xs in omega arith

only_false : (b : Bool) → (b ≡ true → true ≡ false) → b ≡ false
only_false true h = h refl
only_false false h = refl

-- where no part passes a test, each one fails it
pub false_at : {X : Type 0} (f : X → Bool) (xs : List X) (i : ℕ) (d : X) → i < length xs → list_any (λ part. part) (map f xs) ≡ false → f (get_or xs i d) ≡ false
false_at f xs i d within none =
    only_false (f (get_or xs i d)) (λ passes. sym (list_any_at f xs i d within passes) ∙ sym (list_any-map (λ part. part) f xs) ∙ none)
