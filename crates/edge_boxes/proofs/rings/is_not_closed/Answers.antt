use Rattle.std.proofs.Common.{rules, ◌≡◌, ◌-◌, not, List, [], ◌∷◌, length, Some, slice_get, refl, sym, ap, ap₂, ◌∙◌}
use Rattle.std.specs.Option.{option_copied}
use Rattle.basics.proofs.Numbers.{one_less}
use Rattle.geometry_model.specs.Points.{Position}
use Rattle.geometry_model.specs.Locations.{last_after}
use Rattle.geometry_model.specs.WellKnownText.{same_position}
use Rattle.geometry_model.specs.FirstFaults as spec
use Rattle.edge_boxes.proofs.rings.is_not_closed.Goals as goal

last_is : (p : Position) (ps : List Position) → slice_get (p ∷ ps) (length ps) ≡ Some (last_after p ps)
last_is p [] = refl
last_is p (q ∷ qs) = last_is q qs

-- the first position and the last decide
by_ends : (ring : List Position) (first last : Position) → Some first ≡ slice_get ring 0 → Some last ≡ slice_get ring (length ring - 1) → not (same_position last first) ≡ spec.is_not_closed ring
by_ends [] first last e f = absurd cc
by_ends (p ∷ ps) first last e f = let start : first ≡ p = cc in
    let found : Some last ≡ Some (last_after p ps) = f ∙ (ap (slice_get (p ∷ ps)) (one_less (length ps)) ∙ last_is p ps) in
    let end : last ≡ last_after p ps = cc in
    ap₂ (λ (q r : Position). not (same_position q r)) end start

pub returns-in-Some-Some : goal.returns-in-Some-Some
returns-in-Some-Some c =
    let first : Some c.in-Some-Some.first.now ≡ slice_get c.args.ring.now 0 = sym (ap option_copied c.in-Some-Some.is-0) ∙ c.first.ensures.value in
    let last : Some c.in-Some-Some.last.now ≡ slice_get c.args.ring.now (length c.args.ring.now - 1) = sym (ap option_copied c.in-Some-Some.is-1) ∙ c.last.ensures.value in
    c.ne.ensures ∙ by_ends c.args.ring.now c.in-Some-Some.first.now c.in-Some-Some.last.now first last

pub returns-in_default-2 : goal.returns-in_default-2
returns-in_default-2 c = search rules
