-- What is left of the positions by `dedup` is the line without repeats, which has none left.
use Rattle.std.proofs.Common.{◌∙◌}
use Rattle.std.proofs.lemmas.List.Filters.{dedup_is}
use Rattle.text_laws.proofs.TextPrinted.{repeats_once}
use Rattle.library_calls.proofs.building.line_of.Goals as goal

pub new-requires-clause-no_repeats : goal.new-requires-clause-no_repeats
new-requires-clause-no_repeats c = let is = dedup_is _ _ _ c.dedup.ensures.filtered in rw is (repeats_once c.args.points.items)

pub returns : goal.returns
returns c = c.new.ensures ∙ dedup_is _ _ _ c.dedup.ensures.filtered
