use Rattle.std.proofs.lemmas.List.Filters.{dedup_is}
use Rattle.std.proofs.lemmas.List.Kept.{IsStrictlySortedBy-dedup}
use Rattle.validity.proofs.OddEndFacts.{position_total}
use Rattle.validity.proofs.Ascending.{held_alike, ties}
use Rattle.validity.proofs.searched_positions.ascending.Goals as goal

pub returns-clause-ascend : goal.returns-clause-ascend
returns-clause-ascend c = let is = dedup_is _ _ _ c.dedup.ensures.filtered in rw is (IsStrictlySortedBy-dedup position_total ties _ c.sort_unstable.ensures.sorted)

pub returns-clause-alike : goal.returns-clause-alike
returns-clause-alike c = held_alike _ _ _ _ c.in_ok-found.ensures.items c.sort_unstable.ensures.permutation (dedup_is _ _ _ c.dedup.ensures.filtered)
