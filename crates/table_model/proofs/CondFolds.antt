-- A fold over a condition, at each of its variants.
use Rattle.std.specs.Prelude.{◌≡◌, List, map}
use Rattle.geometry_model.specs.declared.relations.Predicate.{Predicate}
use Rattle.table_model.specs.declared.conditions.Comparison.{Comparison}
use Rattle.table_model.specs.declared.conditions.Operand.{Operand}
use Rattle.table_model.specs.declared.conditions.Cond.{Cond}
use Rattle.table_model.specs.declared.conditions.Cond.TheVariants as conds
use Rattle.table_model.specs.declared.conditions.Cond.TheFolds.{fold-Cond, fold-roll-Cond}
use Rattle.table_model.specs.declared.conditions.Cond.TheViews.{roll-Cond}
use Rattle.table_model.specs.declared.conditions.Cond.TheOpen.{Cond-F}
use denote.Hole.Carrier.{roll}

-- at each variant a fold is the step at that variant, of what the fold gives of the parts
pub fold-Relates : (A B : Type 0) (step : Cond-F A B → B) (predicate : Predicate) (a b : A) → fold-Cond A B step (conds.Relates predicate a b) ≡ step (Cond-F.Relates predicate a b)
unfolding roll-Cond roll
fold-Relates A B step predicate a b = fold-roll-Cond A B step (Cond-F.Relates predicate a b)

pub fold-Compare : (A B : Type 0) (step : Cond-F A B → B) (sign : Comparison) (a b : Operand A) → fold-Cond A B step (conds.Compare sign a b) ≡ step (Cond-F.Compare sign a b)
unfolding roll-Cond roll
fold-Compare A B step sign a b = fold-roll-Cond A B step (Cond-F.Compare sign a b)

pub fold-IsNull : (A B : Type 0) (step : Cond-F A B → B) (a : Operand A) → fold-Cond A B step (conds.IsNull a) ≡ step (Cond-F.IsNull a)
unfolding roll-Cond roll
fold-IsNull A B step a = fold-roll-Cond A B step (Cond-F.IsNull a)

pub fold-IsEmpty : (A B : Type 0) (step : Cond-F A B → B) (a : A) → fold-Cond A B step (conds.IsEmpty a) ≡ step (Cond-F.IsEmpty a)
unfolding roll-Cond roll
fold-IsEmpty A B step a = fold-roll-Cond A B step (Cond-F.IsEmpty a)

-- NOT takes the fold of its part
pub fold-Not : (A B : Type 0) (step : Cond-F A B → B) (c : Cond A) → fold-Cond A B step (conds.Not c) ≡ step (Cond-F.Not (fold-Cond A B step c))
unfolding roll-Cond roll
fold-Not A B step c = fold-roll-Cond A B step (Cond-F.Not c)

-- AND and OR take the folds of all parts, in order
pub fold-And : (A B : Type 0) (step : Cond-F A B → B) (parts : List (Cond A)) → fold-Cond A B step (conds.And parts) ≡ step (Cond-F.And (map (fold-Cond A B step) parts))
unfolding roll-Cond roll
fold-And A B step parts = fold-roll-Cond A B step (Cond-F.And parts)

pub fold-Or : (A B : Type 0) (step : Cond-F A B → B) (parts : List (Cond A)) → fold-Cond A B step (conds.Or parts) ≡ step (Cond-F.Or (map (fold-Cond A B step) parts))
unfolding roll-Cond roll
fold-Or A B step parts = fold-roll-Cond A B step (Cond-F.Or parts)

-- all of these
pub ruleset cond_folds = (fold-Relates, fold-Compare, fold-IsNull, fold-IsEmpty, fold-Not, fold-And, fold-Or)
