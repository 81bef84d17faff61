use Rattle.std.proofs.Common.{◌≡◌, drop}
use Rattle.statements.specs.Constants.{of_conditions}
use Rattle.statements.specs.Searching.{sought}
use Rattle.statements.proofs.places_of_constants.+searching.Given as goal

-- the search goes on among the conditions that are left
abbrev pub invariant-in_conditions-loop-condition : goal.invariant-in_conditions-loop-condition
invariant-in_conditions-loop-condition l =
    sought (of_conditions (drop l.condition-index l.conditions)) l.left ≡ sought (of_conditions l.conditions) l.k
