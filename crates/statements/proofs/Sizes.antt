-- How many conditions a condition has in it, itself included: a part has fewer.
use Rattle.std.proofs.Common.{◌≡◌, ◌≤◌, ◌+◌, ◌∙◌, ℕ, List, sum, sum_by, ap, arith, Some, slice_get}
use Rattle.std.proofs.lemmas.List.Sums.{get_or-le-sum_by}
use Rattle.std.proofs.lemmas.Option.{slice_get_within, get_or_from_slice_get}
use Rattle.statements.specs.Constants.{Argument}
use Rattle.table_model.specs.declared.conditions.Cond.{Cond}
use Rattle.table_model.specs.declared.conditions.Cond.TheVariants as conds
use Rattle.table_model.specs.declared.conditions.Cond.TheFolds.{fold-Cond}
use Rattle.table_model.specs.declared.conditions.Cond.TheOpen.{Cond-F}

abbrev pub size_by_parts : Cond-F Argument ℕ → ℕ
size_by_parts (Cond-F.Or parts) = 1 + sum parts
size_by_parts (Cond-F.And parts) = 1 + sum parts
size_by_parts (Cond-F.Not part) = 1 + part
size_by_parts (Cond-F.Compare sign a b) = 1
size_by_parts (Cond-F.IsNull a) = 1
size_by_parts (Cond-F.IsEmpty a) = 1
size_by_parts (Cond-F.Relates predicate a b) = 1

abbrev pub size : Cond Argument → ℕ
size = fold-Cond Argument ℕ size_by_parts

pub size_of_one : (parts : List (Cond Argument)) (i : ℕ) (part : Cond Argument) → slice_get parts i ≡ Some part
    → size part ≤ sum_by size parts
size_of_one parts i part e =
    let least = get_or-le-sum_by size parts i part (slice_get_within parts i part e) in
    let is = ap size (get_or_from_slice_get parts i part part e) in
    omega (arith, least, is)
