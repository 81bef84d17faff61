use Rattle.std.proofs.Common.{◌≡◌, sym, ap, ap₂, subst, ◌∙◌, ℤ, pos, ◌+ℤ◌, ◌*ℤ◌, ◌≤ℤ◌, w64}
use Rattle.std.proofs.lemmas.Int.{to_z-of_z}
use mir.Syntax.{w32, w128}
use mir.Val.{to_z, of_z, SFits}
use Rattle.geometry_model.specs.Points.{Point, same_point, least_form}
use Rattle.fraction.specs.Ranges.{IsInRange, meeting_limit}
use Rattle.noding.proofs.MeetBounds.{weights_fit, sum_in_range, least_within}
use Rattle.noding.proofs.crossing_products.point_between.Goals as goal

-- what the words of three numbers are read as
abbrev triple : ℤ → ℤ → ℤ → Point
triple x y w = record { X = x; Y = y; W = w }

triples_are : (x y w x' y' w' : ℤ) → x ≡ x' → y ≡ y' → w ≡ w' → triple x y w ≡ triple x' y' w'
triples_are x y w x' y' w' e f g = λ i. record { X = e i; Y = f i; W = g i }

sum_is_read : (m n : ℤ) → SFits w64 m → SFits w64 n → pos 0 ≤ℤ m → pos 0 ≤ℤ n → (m +ℤ n) ≤ℤ pos meeting_limit → to_z w64 (of_z w64 (to_z w64 (of_z w64 m) +ℤ to_z w64 (of_z w64 n))) ≡ m +ℤ n
sum_is_read m n fm fn h k l =
    let s = weights_fit m n h k l in
    simp (to_z-of_z, fm, fn, s)

pub overflow_add-m : goal.overflow_add-m
overflow_add-m c =
    let s = weights_fit c.args.m c.args.n c.requires.first_weight c.requires.second_weight c.requires.limit in
    simp (to_z-of_z, c.ranges.m, c.ranges.n) s

pub reduced-requires : goal.reduced-requires
reduced-requires c =
    let x : SFits w128 c.weighted_sum.result = record { sfits = c.weighted_sum.type_inv } in
    let y : SFits w128 c.weighted_sum-2.result = record { sfits = c.weighted_sum-2.type_inv } in
    let bx = simp (to_z-of_z, c.ranges.m, c.ranges.n) at c.weighted_sum.ensures.bound in
    let by = simp (to_z-of_z, c.ranges.m, c.ranges.n) at c.weighted_sum-2.ensures.bound in
    record {
      in_range = subst IsInRange (sym (triples_are _ _ _ _ _ _ (to_z-of_z w128 c.weighted_sum.result x) (to_z-of_z w128 c.weighted_sum-2.result y) (sum_is_read c.args.m c.args.n c.ranges.m c.ranges.n c.requires.first_weight c.requires.second_weight c.requires.limit)))
          (sum_in_range c.weighted_sum.result c.weighted_sum-2.result (c.args.m +ℤ c.args.n) c.requires.some c.requires.limit bx by);
    }

-- the sums as they come, each read where it comes from
sums_are : (x y w s t a b a' b' u v u' v' m n : ℤ) → x ≡ s → y ≡ t → s ≡ m *ℤ a +ℤ n *ℤ b → t ≡ m *ℤ a' +ℤ n *ℤ b' → w ≡ m +ℤ n → a ≡ u → b ≡ v → a' ≡ u' → b' ≡ v'
    → triple x y w ≡ triple (m *ℤ u +ℤ n *ℤ v) (m *ℤ u' +ℤ n *ℤ v') (m +ℤ n)
sums_are x y w s t a b a' b' u v u' v' m n e f g h k i1 i2 i3 i4 = triples_are x y w (m *ℤ u +ℤ n *ℤ v) (m *ℤ u' +ℤ n *ℤ v') (m +ℤ n)
    (e ∙ g ∙ ap₂ (λ y z. m *ℤ y +ℤ n *ℤ z) i1 i2) (f ∙ h ∙ ap₂ (λ y z. m *ℤ y +ℤ n *ℤ z) i3 i4) k

made_is : (c : goal.After-reduced)
    → triple (to_z w128 (of_z w128 c.weighted_sum.result)) (to_z w128 (of_z w128 c.weighted_sum-2.result)) (to_z w64 (of_z w64 (to_z w64 (of_z w64 c.args.m) +ℤ to_z w64 (of_z w64 c.args.n))))
    ≡ triple (c.args.m *ℤ c.args.a.x +ℤ c.args.n *ℤ c.args.b.x) (c.args.m *ℤ c.args.a.y +ℤ c.args.n *ℤ c.args.b.y) (c.args.m +ℤ c.args.n)
made_is c =
    let x : SFits w128 c.weighted_sum.result = record { sfits = c.weighted_sum.type_inv } in
    let y : SFits w128 c.weighted_sum-2.result = record { sfits = c.weighted_sum-2.type_inv } in
    let ax : SFits w32 c.x.result = record { sfits = c.x.type_inv } in
    let bx : SFits w32 c.x-2.result = record { sfits = c.x-2.type_inv } in
    let ay : SFits w32 c.y.result = record { sfits = c.y.type_inv } in
    let by : SFits w32 c.y-2.result = record { sfits = c.y-2.type_inv } in
    let xv = simp (to_z-of_z, c.ranges.m, c.ranges.n, ax, bx) at c.weighted_sum.ensures.value in
    let yv = simp (to_z-of_z, c.ranges.m, c.ranges.n, ay, by) at c.weighted_sum-2.ensures.value in
    sums_are _ _ _ c.weighted_sum.result c.weighted_sum-2.result c.x.result c.x-2.result c.y.result c.y-2.result c.args.a.x c.args.b.x c.args.a.y c.args.b.y c.args.m c.args.n
    (to_z-of_z w128 c.weighted_sum.result x) (to_z-of_z w128 c.weighted_sum-2.result y) xv yv
    (sum_is_read c.args.m c.args.n c.ranges.m c.ranges.n c.requires.first_weight c.requires.second_weight c.requires.limit)
    c.x.ensures.value c.x-2.ensures.value c.y.ensures.value c.y-2.ensures.value

pub returns-clause-same : goal.returns-clause-same
returns-clause-same c = ap (λ p. same_point c.reduced.result p) (sym (made_is c)) ∙ c.reduced.ensures.same

pub returns-clause-limit : goal.returns-clause-limit
returns-clause-limit c = subst (λ (p : Point). p.W ≤ℤ pos meeting_limit) (sym (c.reduced.ensures.exact ∙ ap least_form (made_is c)))
    (least_within (triple (c.args.m *ℤ c.args.a.x +ℤ c.args.n *ℤ c.args.b.x) (c.args.m *ℤ c.args.a.y +ℤ c.args.n *ℤ c.args.b.y) (c.args.m +ℤ c.args.n)) meeting_limit c.requires.some c.requires.limit)
