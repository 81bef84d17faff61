use Rattle.std.proofs.Common.{◌≡◌, ◌∙◌, sym, ℤ, pos, ◌-ℤ◌, ◌<ℤ◌, true, false, arith}
use Rattle.std.proofs.lemmas.Int.{ints}
use mir.Syntax.{w128}
use Rattle.orient.proofs.Bounds.{read, step_read}
use Rattle.witnesses.proofs.HeightFacts.{keeps_lesser, clears_line, line_of, is_under}
use Rattle.witnesses.proofs.heights.past_not_upright.Goals as goal

rightward : (run a b : ℤ) → run ≡ b -ℤ a → a <ℤ b → pos 0 <ℤ run
rightward run a b e h = omega (arith, ints)

pub returns-then-is_under-clause-keeps : goal.returns-then-is_under-clause-keeps
returns-then-is_under-clause-keeps c = keeps_lesser c.args.side c.args.p.now c.args.nearest c.nearer.result c.requires.height c.nearer.ensures.height c.nearer.ensures.first

pub returns-then-is_under-clause-clears : goal.returns-then-is_under-clause-clears
returns-then-is_under-clause-clears c =
    let run = read w128 c.from-run.result (c.args.right.x -ℤ c.args.left.x) (record { sfits = c.from-run.type_inv }) (c.from-run.ensures
    ∙ step_read c.step.result c.x-then-is_under.result c.x.result c.args.right.x c.args.left.x (record { sfits = c.step.type_inv }) (record { sfits = c.x-then-is_under.type_inv }) (record { sfits = c.x.type_inv }) c.step.ensures.value c.x-then-is_under.ensures.value c.x.ensures.value) in
    clears_line c.args.side c.args.p.now c.args.left c.args.right c.nearer.result _ _ c.nearer.ensures.height (rightward _ c.args.left.x c.args.right.x run c.requires.rightward) c.nearer.ensures.second
    (λ z i k. line_of c.args.side c.args.left c.args.right c.args.p.now z _ _ (λ e. read w128 c.rise_of_line.result _ (record { sfits = c.rise_of_line.type_inv }) (c.rise_of_line.ensures.upper e)) (λ e. read w128 c.rise_of_line.result _ (record { sfits = c.rise_of_line.type_inv }) (c.rise_of_line.ensures.lower e)) run i k)

pub returns-else-is_under-clause-clears : goal.returns-else-is_under-clause-clears
returns-else-is_under-clause-clears c z i k = let f : true ≡ false = sym (is_under c.args.p.now z c.args.left c.args.right c.is_under.ensures.is_point i.is_point i.straight c.requires.rightward k) ∙ sym c.is_under.ensures.exact ∙ c.if-is_under.false in absurd cc
