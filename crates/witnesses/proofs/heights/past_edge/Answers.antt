use Rattle.std.proofs.Common.{◌≡◌, ◌∙◌, sym, ap, subst}
use mir.Syntax.{w32}
use Rattle.orient.proofs.Bounds.{read}
use Rattle.basics.proofs.Tests.{cmp_equal_from}
use Rattle.geometry_model.specs.Points.{Position, point_at}
use Rattle.witnesses.specs.Heights.{ClearsEdge, ClearsPosition}
use Rattle.witnesses.proofs.HeightFacts.{keeps_both, clears_turned, clears_upright, same_edge}
use Rattle.witnesses.proofs.heights.past_edge.Goals as goal

pub returns-in-Less-clause-clears : goal.returns-in-Less-clause-clears
returns-in-Less-clause-clears c = subst (ClearsEdge c.args.side c.args.p.now c.past_not_upright.result) (same_edge c.args.edge.now c.start-start.result c.end-end.result c.start-start.ensures c.end-end.ensures.value) c.past_not_upright.ensures.clears

pub returns-in-Greater-clause-clears : goal.returns-in-Greater-clause-clears
returns-in-Greater-clause-clears c = subst (ClearsEdge c.args.side c.args.p.now c.past_not_upright-in-Greater.result) (same_edge c.args.edge.now c.start-start.result c.end-end.result c.start-start.ensures c.end-end.ensures.value)
    (clears_turned c.args.side c.args.p.now c.past_not_upright-in-Greater.result c.start-start.result c.end-end.result c.past_not_upright-in-Greater.ensures.clears)

pub returns-in-Equal-clause-keeps : goal.returns-in-Equal-clause-keeps
returns-in-Equal-clause-keeps c = keeps_both c.args.side c.args.p.now c.args.nearest c.past_position.result c.past_position-in-Equal.result c.past_position.ensures.keeps c.past_position-in-Equal.ensures.keeps

pub returns-in-Equal-clause-clears : goal.returns-in-Equal-clause-clears
returns-in-Equal-clause-clears c =
    let level : c.args.edge.now.start.x ≡ c.args.edge.now.end.x = sym (read w32 c.x.result _ (record { sfits = c.x.type_inv }) (c.x.ensures.value ∙ ap (λ (a : Position). a.x) c.start-start.ensures))
    ∙ cmp_equal_from _ _ (sym c.cmp.ensures ∙ c.in-Equal.is) ∙ read w32 c.x-2.result _ (record { sfits = c.x-2.type_inv }) (c.x-2.ensures.value ∙ ap (λ (a : Position). a.x) c.end-end.ensures.value) in
    let start : ClearsPosition c.args.side c.args.p.now c.past_position-in-Equal.result c.args.edge.now.start = subst (ClearsPosition c.args.side c.args.p.now c.past_position-in-Equal.result) c.start-start.ensures
    (λ i. c.past_position-in-Equal.ensures.keeps (point_at c.start-start.result) i (c.past_position.ensures.clears i)) in
    let end : ClearsPosition c.args.side c.args.p.now c.past_position-in-Equal.result c.args.edge.now.end = subst (ClearsPosition c.args.side c.args.p.now c.past_position-in-Equal.result) c.end-end.ensures.value c.past_position-in-Equal.ensures.clears in
    clears_upright c.args.side c.args.p.now c.args.edge.now c.past_position-in-Equal.result c.past_position-in-Equal.ensures.height c.past_position.ensures.is_point level c.requires.not_upright start end
