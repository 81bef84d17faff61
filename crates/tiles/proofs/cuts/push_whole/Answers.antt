use Rattle.std.proofs.Common.{◌∙◌, ap, arith}
use Rattle.std.specs.List.{enumerate_from}
use Rattle.tiles.proofs.TreeLemmas.{numbered_push}
use Rattle.tiles.proofs.cuts.push_whole.Goals as goal

pub returns-clause-numbered : goal.returns-clause-numbered
returns-clause-numbered c =
    ap (enumerate_from 1) c.in_ok-push.ensures.items
    ∙ numbered_push 1 c.args.boxes.now.items c.args.region c.len.result (omega (arith, c.len.ensures, c.in_ok-push.ensures.len))
