-- The search for the k-th constant of some conditions, one after another.
use Rattle.std.specs.Prelude.{◌≡◌, ◌<◌, ℕ, zero, suc, List, [], ◌∷◌, length, slice_get, Option, Some, None}
use Rattle.std.specs.List.{insert, remove}
use Rattle.statements.specs.Constants.{Argument, Constant, condition_with, conditions_with, type_of}
use Rattle.statements.specs.declared.places_of_constants.Place.{Place}
use Rattle.statements.specs.declared.places_of_constants.Sought.{Sought}
use Rattle.statements.specs.declared.places_of_constants.Sought.TheVariants.{Found, After}
use Rattle.table_model.specs.declared.conditions.Cond.{Cond}
use Rattle.table_model.specs.declared.typing.OperandType.{OperandType}

-- the k-th of some constants: its type, or, where there are fewer, which one it is of those behind them
abbrev pub sought : List Constant → ℕ → Sought
sought [] k = After k
sought (value ∷ more) zero = Found (type_of value)
sought (value ∷ more) (suc k) = sought more k

-- the only constant of a part
abbrev pub sought_one : OperandType → ℕ → Sought
sought_one type zero = Found type
sought_one type (suc k) = After k

-- the search goes on behind
abbrev pub behind : Sought → List Constant → Sought
behind (Found type) more = Found type
behind (After k) more = sought more k

-- where the k-th constant of some conditions is: a value that replaces it is put into the condition there
pub record IsThere (conditions : List (Cond Argument)) (k : ℕ) (place : Place) : Type 0 where
  pub within : place.condition < length conditions
  pub replaced : (value : Constant) (condition : Cond Argument) → slice_get conditions place.condition ≡ Some condition
      → conditions_with k value conditions ≡ insert (remove conditions place.condition) place.condition
      (condition_with place.constant value condition)

-- such a place, or none, if no value changes the conditions
abbrev pub IsPlaceOf : List (Cond Argument) → ℕ → Option Place → Type 0
IsPlaceOf conditions k None = (value : Constant) → conditions_with k value conditions ≡ conditions
IsPlaceOf conditions k (Some place) = IsThere conditions k place
