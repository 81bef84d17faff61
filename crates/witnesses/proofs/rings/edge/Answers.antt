use Rattle.std.proofs.Common.{◌+◌, ◌*◌, ◌<◌, ◌≤◌, ◌∙◌, refl, sym, ap, subst, ℕ, List, length, get_or, Some, Fits, w64, arith}
use Rattle.geometry_model.specs.Points.{Position}
use Rattle.geometry_model.specs.WellKnownText.{position_limit}
use Rattle.witnesses.proofs.ClashFacts.{next_within, edge_is, ends_differ}
use Rattle.witnesses.proofs.rings.edge.Goals as goal

scaled : (k n : ℕ) → k + 1 < n → n ≤ position_limit → Fits w64 (k * 8)
scaled k n h l = omega (arith, h, l)

next_fits : (k n : ℕ) → k + 1 < n → n ≤ position_limit → Fits w64 (k + 1)
next_fits k n h l = omega (arith, h, l)

next_scaled : (k n : ℕ) → k + 1 < n → n ≤ position_limit → Fits w64 ((k + 1) * 8)
next_scaled k n h l = omega (arith, h, l)

pub offset_bounds-positions-index : goal.offset_bounds-positions-index
offset_bounds-positions-index c = scaled c.args.index (length c.args.line.now) (next_within c.args.line.now c.args.index c.requires) c.positions-positions.ensures.kept.counted

pub bounds-positions-index : goal.bounds-positions-index
bounds-positions-index c = subst (λ (ps : List Position). c.args.index < length ps) (sym c.positions-positions.ensures.positions) (earlier c.args.index (length c.args.line.now) (next_within c.args.line.now c.args.index c.requires))
  where
    earlier : (k n : ℕ) → k + 1 < n → k < n
    earlier k n h = omega (arith, h)

pub overflow_add-index : goal.overflow_add-index
overflow_add-index c = next_fits c.args.index (length c.args.line.now) (next_within c.args.line.now c.args.index c.requires) c.positions-positions.ensures.kept.counted

pub offset_bounds-positions-index-2 : goal.offset_bounds-positions-index-2
offset_bounds-positions-index-2 c = next_scaled c.args.index (length c.args.line.now) (next_within c.args.line.now c.args.index c.requires) c.positions-positions.ensures.kept.counted

pub bounds-positions-index-2 : goal.bounds-positions-index-2
bounds-positions-index-2 c = subst (λ (ps : List Position). c.args.index + 1 < length ps) (sym c.positions-positions.ensures.positions) (next_within c.args.line.now c.args.index c.requires)

pub unreachable-requires : goal.unreachable-requires
unreachable-requires c = ends_differ c.args.line.now c.args.index c.index-positions-index.result c.index-positions-index-2.result c.positions-positions.ensures.kept.ends_differ c.requires
    (c.index-positions-index.is ∙ ap (λ (ps : List Position). get_or ps c.args.index c.index-positions-index.result) c.positions-positions.ensures.positions)
    (c.index-positions-index-2.is ∙ ap (λ (ps : List Position). get_or ps (c.args.index + 1) c.index-positions-index-2.result) c.positions-positions.ensures.positions) (c.in-None.ensures.none.0 refl)

pub returns : goal.returns
returns c = edge_is c.args.line.now c.args.index c.index-positions-index.result c.index-positions-index-2.result c.requires
    (c.index-positions-index.is ∙ ap (λ (ps : List Position). get_or ps c.args.index c.index-positions-index.result) c.positions-positions.ensures.positions)
    (c.index-positions-index-2.is ∙ ap (λ (ps : List Position). get_or ps (c.args.index + 1) c.index-positions-index-2.result) c.positions-positions.ensures.positions) ∙ ap Some (sym c.in-Some.ensures.ends)
