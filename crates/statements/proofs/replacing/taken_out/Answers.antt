use Rattle.std.proofs.Common.{◌≡◌, ◌∙◌, [], None, reverse, rules}
use Rattle.statements.proofs.SearchFacts.{all_moved, left_over}
use Rattle.statements.proofs.replacing.taken_out.Goals as goal

pub returns : goal.returns
returns c =
    let none : c.pop.result ≡ None = first_of (cc, search (rules, c.in_default.is)) in
    let empty : c.loop-last.left ≡ [] = left_over c.pop.result c.loop-last.left c.pop.new.self c.pop.ensures none in
    let whole : reverse c.loop-last.moved.items ≡ c.args.conditions =
    all_moved c.loop-last.left c.loop-last.moved.items c.args.conditions empty c.loop-last.invariant in
    c.reverse.ensures.items ∙ whole
