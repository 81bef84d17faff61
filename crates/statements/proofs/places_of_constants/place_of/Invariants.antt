use Rattle.statements.proofs.SearchFacts.{IsBefore}
use Rattle.statements.proofs.places_of_constants.place_of.Given as goal

abbrev pub invariant-loop-at : goal.invariant-loop-at
invariant-loop-at l = IsBefore l.conditions l.k l.at l.left
