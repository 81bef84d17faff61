-- A fold over a written condition, at each of its variants.
use Rattle.std.specs.Prelude.{◌≡◌, ℕ, List, map}
use Rattle.table_model.specs.declared.conditions.Comparison.{Comparison}
use Rattle.table_model.specs.declared.queries.WrittenOperand.{WrittenOperand}
use Rattle.table_model.specs.declared.queries.WrittenPredicate.{WrittenPredicate}
use Rattle.table_model.specs.declared.queries.WrittenCond.{WrittenCond}
use Rattle.table_model.specs.declared.queries.WrittenCond.TheVariants as conds
use Rattle.table_model.specs.declared.queries.WrittenCond.TheFolds.{fold-WrittenCond, fold-roll-WrittenCond}
use Rattle.table_model.specs.declared.queries.WrittenCond.TheViews.{roll-WrittenCond}
use Rattle.table_model.specs.declared.queries.WrittenCond.TheOpen.{WrittenCond-F}
use denote.Hole.Carrier.{roll}

-- at each variant a fold is the step at that variant, of what the fold gives of the parts
pub fold-Relates : (A B : Type 0) (step : WrittenCond-F A B → B) (at : ℕ) (predicate : WrittenPredicate) (a b : A) → fold-WrittenCond A B step (conds.Relates at predicate a b) ≡ step (WrittenCond-F.Relates at predicate a b)
unfolding roll-WrittenCond roll
fold-Relates A B step at predicate a b = fold-roll-WrittenCond A B step (WrittenCond-F.Relates at predicate a b)

pub fold-Compare : (A B : Type 0) (step : WrittenCond-F A B → B) (at : ℕ) (sign : Comparison) (a b : WrittenOperand A) → fold-WrittenCond A B step (conds.Compare at sign a b) ≡ step (WrittenCond-F.Compare at sign a b)
unfolding roll-WrittenCond roll
fold-Compare A B step at sign a b = fold-roll-WrittenCond A B step (WrittenCond-F.Compare at sign a b)

pub fold-IsEmpty : (A B : Type 0) (step : WrittenCond-F A B → B) (at : ℕ) (a : A) → fold-WrittenCond A B step (conds.IsEmpty at a) ≡ step (WrittenCond-F.IsEmpty at a)
unfolding roll-WrittenCond roll
fold-IsEmpty A B step at a = fold-roll-WrittenCond A B step (WrittenCond-F.IsEmpty at a)

pub fold-IsNull : (A B : Type 0) (step : WrittenCond-F A B → B) (a : WrittenOperand A) → fold-WrittenCond A B step (conds.IsNull a) ≡ step (WrittenCond-F.IsNull a)
unfolding roll-WrittenCond roll
fold-IsNull A B step a = fold-roll-WrittenCond A B step (WrittenCond-F.IsNull a)

-- NOT takes the fold of its part
pub fold-Not : (A B : Type 0) (step : WrittenCond-F A B → B) (c : WrittenCond A) → fold-WrittenCond A B step (conds.Not c) ≡ step (WrittenCond-F.Not (fold-WrittenCond A B step c))
unfolding roll-WrittenCond roll
fold-Not A B step c = fold-roll-WrittenCond A B step (WrittenCond-F.Not c)

-- AND and OR take the folds of all parts, in order
pub fold-And : (A B : Type 0) (step : WrittenCond-F A B → B) (parts : List (WrittenCond A)) → fold-WrittenCond A B step (conds.And parts) ≡ step (WrittenCond-F.And (map (fold-WrittenCond A B step) parts))
unfolding roll-WrittenCond roll
fold-And A B step parts = fold-roll-WrittenCond A B step (WrittenCond-F.And parts)

pub fold-Or : (A B : Type 0) (step : WrittenCond-F A B → B) (parts : List (WrittenCond A)) → fold-WrittenCond A B step (conds.Or parts) ≡ step (WrittenCond-F.Or (map (fold-WrittenCond A B step) parts))
unfolding roll-WrittenCond roll
fold-Or A B step parts = fold-roll-WrittenCond A B step (WrittenCond-F.Or parts)

-- all of these
pub ruleset written_folds = (fold-Relates, fold-Compare, fold-IsEmpty, fold-IsNull, fold-Not, fold-And, fold-Or)
