use Rattle.std.proofs.Common.{◌≡◌, List, Bool, true, false, not, refl, ℕ, ◌+◌, [], ◌∷◌, ◌++◌, ◌∙◌, sym, subst, arith}
use Rattle.std.proofs.lemmas.Bool.{true≢false, not-true, not-false}
use Rattle.geometry_model.specs.WellKnownText.{same_position}
use Rattle.geometry_laws.proofs.OtherPoints.{same_from, same_self}
use Rattle.edge_boxes.specs.Chains.{AreBreaksTo}
use Rattle.edge_boxes.proofs.Breaks.{break_at, one_break, one_link}
use Rattle.edge_boxes.proofs.chains.breaks_of.Goals as goal
use Rattle.edge_boxes.proofs.chains.breaks_of.Goals.{then-ne+in_ok-push, else-ne}

pub loop-place-preserved : goal.loop-place-preserved
loop-place-preserved c = elim c.if-ne.branch [
  | then-ne+in_ok-push w ↦
      let is : c.if-ne.breaks.items ≡ c.loop-place.breaks.items ++ c.loop-place.place ∷ [] =
      rw w.breaks-is w.in_ok-push.ensures.items in
      let other = not-true (same_position c.end.result c.start.result) (sym c.ne.ensures ∙ w.if-ne.true) in
      let some = c.loop-place.auto.place in
      let within = c.loop-place-test.true in
      let at = break_at c.args.edges.now c.loop-place.place c.index-edges-place.result c.index-edges-place-in-loop-place.result
      (omega (arith, some)) within c.index-edges-place.is c.index-edges-place-in-loop-place.is
      (λ same. true≢false (sym (same_self c.end.result c.start.result
      (c.end.ensures.value ∙ same ∙ sym c.start.ensures)) ∙ other)) in
      subst (λ (bs : List ℕ). AreBreaksTo bs c.args.edges.now (c.loop-place.place + 1)) (sym is)
      (one_break c.loop-place.breaks.items c.args.edges.now c.loop-place.place at c.loop-place.invariant)
  | else-ne w ↦
      let same = same_from c.end.result c.start.result
      (not-false (same_position c.end.result c.start.result) (sym c.ne.ensures ∙ w.if-ne.false)) in
      let some = c.loop-place.auto.place in
      let within = c.loop-place-test.true in
      rw w.breaks-is (one_link c.loop-place.breaks.items c.args.edges.now c.loop-place.place c.index-edges-place.result
      c.index-edges-place-in-loop-place.result (omega (arith, some)) within c.index-edges-place.is
      c.index-edges-place-in-loop-place.is (sym c.end.ensures.value ∙ same ∙ c.start.ensures) c.loop-place.invariant)
]
