-- Laws of double keys: when the number of a record with a double key is returned, and which.
use Rattle.std.specs.Prelude.{◌≡◌, ◌≢◌, ◌↔◌, ◌+◌, ◌++◌, ℕ, ℤ, List, ◌∷◌, None, Some, length}
use Rattle.std.specs.List.{AllPairs, Contains}
use Rattle.table_model.specs.Loading.{double_key}

-- the key of this number, counted from 1, is the first that equals an earlier one
pub record IsFirstDouble (keys : List ℤ) (number : ℕ) : Type 0 where
  pub before : List ℤ
  pub key : ℤ
  pub after : List ℤ
  pub parted : keys ≡ before ++ key ∷ after
  pub number_is : number ≡ length before + 1
  pub is_double : Contains before key
  pub none_is_before : AllPairs (λ a b. a ≢ b) before

-- a number that `double_key` returns is that of the first double key
abbrev pub DoubleIsFirst : Type 0
DoubleIsFirst = (keys : List ℤ) (number : ℕ) → (double_key keys ≡ Some number) ↔ IsFirstDouble keys number

-- `double_key` returns none exactly if no two keys are equal
abbrev pub NoneIsDouble : Type 0
NoneIsDouble = (keys : List ℤ) → (double_key keys ≡ None) ↔ AllPairs (λ a b. a ≢ b) keys
