use Rattle.std.proofs.Common.{refl}
use mir.Syntax.{w128}
use Rattle.orient.proofs.Bounds.{read}
use Rattle.witnesses.proofs.HeightFacts.{keeps_lesser, clears_position}
use Rattle.witnesses.proofs.heights.past_position.Goals as goal

pub returns-then-offset-eq0-clause-keeps : goal.returns-then-offset-eq0-clause-keeps
returns-then-offset-eq0-clause-keeps c = keeps_lesser c.args.side c.args.p.now c.args.nearest c.nearer.result c.requires.height c.nearer.ensures.height c.nearer.ensures.first

pub returns-then-offset-eq0-clause-clears : goal.returns-then-offset-eq0-clause-clears
returns-then-offset-eq0-clause-clears c = clears_position c.args.side c.args.p.now c.args.at c.nearer.result _ _ (read w128 c.rise_to.result _ (record { sfits = c.rise_to.type_inv }) c.rise_to.ensures.value) refl c.nearer.ensures.second
