use Rattle.std.proofs.Common.{◌≤◌, ◌+◌, ◌∙◌, List, length, refl, sym, subst, arith, rules}
use Rattle.geometry_model.specs.Geometries.{Edge}
use Rattle.std.proofs.lemmas.List.Elements.{All-take}
use Rattle.matrix_laws.specs.Covering.{IsHeld}
use Rattle.noding.specs.Merging.{AreMerged, left_of}
use Rattle.noding.proofs.Held.{all_left, all_through, none_left}
use Rattle.noding.proofs.merging.join_neighbours.Goals as goal

pub loop-place-preserved : goal.loop-place-preserved
loop-place-preserved c = record {
  length = c.join_next-kept.ensures.length ∙ c.loop-place.invariant.length;
  some = c.join_next-kept.ensures.kept;
  order = omega (arith, c.join_next-kept.ensures.next, c.loop-place.invariant.order);
  held = λ es h. c.join_next-kept.ensures.held es (c.loop-place.invariant.held es h);
  all = all_through (left_of c.join_next-kept.new.stretches.items c.join_next-kept.result (c.loop-place.place + 1)) (left_of c.loop-place.stretches.items c.loop-place.kept c.loop-place.place) c.args.stretches.now.items c.join_next-kept.ensures.all c.loop-place.invariant.all;
}

pub returns-clause-held : goal.returns-clause-held
returns-clause-held c es h = subst (AreMerged es) (sym c.truncate.ensures.items) (All-take (IsHeld es) c.loop-place.kept c.loop-place.stretches.items (c.loop-place.invariant.held es h))

pub loop-place-init : goal.loop-place-init
loop-place-init c = record {
  length = refl;
  some = search rules;
  order = search rules;
  held = λ es h. h;
  all = all_left c.args.stretches.now.items;
}

pub returns-clause-all : goal.returns-clause-all
returns-clause-all c =
    let ended : length c.loop-place.stretches.items ≤ c.loop-place.place
    = first_of (search rules, omega (arith, c.loop-place-test.false, c.len-place-end.ensures, c.loop-place.invariant.length, c.loop-place.stretches.ok.0)) in
    subst (λ (es : List Edge). AreMerged es c.args.stretches.now.items) (sym c.truncate.ensures.items)
    (none_left c.loop-place.stretches.items c.args.stretches.now.items c.loop-place.kept c.loop-place.place ended c.loop-place.invariant.all)
