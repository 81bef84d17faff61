-- The stretches between neighbours of an ascending list, and the order of pieces.
use Rattle.std.proofs.Common.{◌≡◌, ◌⊎◌, inl, inr, true, refl, sym, ap, subst, ◌∙◌, List, [], ◌∷◌}
use Rattle.std.specs.declared.cmp.Ordering.{Ordering}
use Rattle.std.specs.declared.cmp.Ordering.TheVariants.{Less, Equal, Greater}
use Rattle.std.specs.Ordering.{ordering_then}
use Rattle.basics.proofs.Orders.{then_less}
use Rattle.geometry_model.specs.Points.{Point, IsPoint, same_point, compare}
use Rattle.geometry_model.specs.Pieces.{Piece, stretches, compare_pieces}
use Rattle.geometry_laws.specs.PointLaws.{reversed}
use Rattle.geometry_laws.proofs.PointOrder.{same_reflexive, same_transitive, compare_reversed, equal_is_same, less_transitive}
use Rattle.geometry_laws.proofs.Respect.{compare_respects}
use Rattle.geometry_laws.proofs.Each.{Each, Among, each_at}
use Rattle.matrix_laws.proofs.Sorted.{Sorted, IsOrder}

-- ---- points in order
-- no point is before itself
pub not_before_itself : (p : Point) → compare p p ≡ Less → ⊥
not_before_itself p e = let k : Equal ≡ Less = sym ((equal_is_same p p).1 (same_reflexive p)) ∙ e in cc

-- the order of points sees only where they are: the later one may be written by another triple
pub less_right : (p q r : Point) → IsPoint q → IsPoint r → compare p q ≡ Less → same_point q r ≡ true → compare p r ≡ Less
less_right p q r hq hr e same = compare_reversed r p ∙ ap reversed (sym (compare_respects p q r hq hr same) ∙ compare_reversed p q ∙ ap reversed e)

-- and so may the earlier one
pub less_left : (p q r : Point) → IsPoint p → IsPoint q → same_point p q ≡ true → compare q r ≡ Less → compare p r ≡ Less
less_left p q r hp hq same e = compare_respects r p q hp hq same ∙ e

-- ---- neighbours in a list
pub record Neighbours (xs : List Point) (c : Piece) : Type 0 where
  pub lesser : Among c.lesser xs
  pub greater : Among c.greater xs
  pub in_order : compare c.lesser c.greater ≡ Less
  pub none : (z : Point) → Among z xs → compare c.lesser z ≡ Less → compare z c.greater ≡ Less → ⊥

-- the first two points of an ascending list are neighbours: any other is behind the second
first_two : (p q : Point) (rest : List Point) → Each IsPoint (p ∷ q ∷ rest) → Sorted compare (p ∷ q ∷ rest) → Neighbours (p ∷ q ∷ rest) (record { lesser = p; greater = q })
first_two p q rest v s = record { lesser = inl refl; greater = inr (inl refl); in_order = s.0.0; none = between }
  where
    between : (z : Point) → Among z (p ∷ q ∷ rest) → compare p z ≡ Less → compare z q ≡ Less → ⊥
    between z (inl g) e f = not_before_itself p (ap (compare p) (sym g) ∙ e)
    between z (inr (inl g)) e f = not_before_itself q (ap (λ w. compare w q) (sym g) ∙ f)
    between z (inr (inr a)) e f = not_before_itself q (less_transitive q z q v.1.0 (each_at IsPoint rest z v.1.1 a) v.1.0 (each_at (λ w. compare q w ≡ Less) rest z s.1.0 a) f)

-- neighbours stay neighbours behind a lesser point
behind_first : (p : Point) (xs : List Point) (c : Piece) → IsPoint p → Each IsPoint xs → Each (λ y. compare p y ≡ Less) xs → Neighbours xs c → Neighbours (p ∷ xs) c
behind_first p xs c hp v s n = record { lesser = inr n.lesser; greater = inr n.greater; in_order = n.in_order; none = between }
  where
    between : (z : Point) → Among z (p ∷ xs) → compare c.lesser z ≡ Less → compare z c.greater ≡ Less → ⊥
    between z (inl g) e f = not_before_itself p (less_transitive p c.lesser p hp (each_at IsPoint xs c.lesser v n.lesser) hp (each_at (λ y. compare p y ≡ Less) xs c.lesser s n.lesser) (ap (compare c.lesser) (sym g) ∙ e))
    between z (inr a) e f = n.none z a e f

-- so each stretch of an ascending list is between neighbours
pub stretch_is : (xs : List Point) → Each IsPoint xs → Sorted compare xs → (c : Piece) → Among c (stretches xs) → Neighbours xs c
stretch_is [] v s c a = absurd a
stretch_is (p ∷ []) v s c a = absurd a
stretch_is (p ∷ q ∷ rest) v s c (inl g) = subst (Neighbours (p ∷ q ∷ rest)) (sym g) (first_two p q rest v s)
stretch_is (p ∷ q ∷ rest) v s c (inr a) = behind_first p (q ∷ rest) c v.0 v.1 s.0 (stretch_is (q ∷ rest) v.1 s.1 c a)

-- between two points of an ascending list with none between them is a stretch between neighbours
pub stretch_found : (xs : List Point) → Each IsPoint xs → Sorted compare xs → (x y : Point) → Among x xs → Among y xs → compare x y ≡ Less
    → ((z : Point) → Among z xs → compare x z ≡ Less → compare z y ≡ Less → ⊥) → Among (record { lesser = x; greater = y }) (stretches xs)
stretch_found [] v s x y a b e none = absurd a
stretch_found (p ∷ []) v s x y (inl g) (inl h) e none = absurd (not_before_itself p (ap (λ w. compare w p) (sym g) ∙ ap (compare x) (sym h) ∙ e))
stretch_found (p ∷ []) v s x y (inl g) (inr b) e none = absurd b
stretch_found (p ∷ []) v s x y (inr a) b e none = absurd a
stretch_found (p ∷ q ∷ rest) v s x y (inl g) (inl h) e none = absurd (not_before_itself p (ap (λ w. compare w p) (sym g) ∙ ap (compare x) (sym h) ∙ e))
stretch_found (p ∷ q ∷ rest) v s x y (inl g) (inr (inl h)) e none = inl (λ i. record { lesser = g i; greater = h i })
stretch_found (p ∷ q ∷ rest) v s x y (inl g) (inr (inr b)) e none = absurd (none q (inr (inl refl)) (ap (λ w. compare w q) g ∙ s.0.0) (each_at (λ w. compare q w ≡ Less) rest y s.1.0 b))
stretch_found (p ∷ q ∷ rest) v s x y (inr a) (inl h) e none = absurd (not_before_itself p (less_transitive p x p v.0 (each_at IsPoint (q ∷ rest) x v.1 a) v.0 (each_at (λ w. compare p w ≡ Less) (q ∷ rest) x s.0 a) (ap (compare x) (sym h) ∙ e)))
stretch_found (p ∷ q ∷ rest) v s x y (inr a) (inr b) e none = inr (stretch_found (q ∷ rest) v.1 s.1 x y a b e (λ z c f k. none z (inr c) f k))

-- ---- the order of pieces
abbrev pub HasPoints : Piece → Type 0
HasPoints c = IsPoint c.lesser × IsPoint c.greater

-- and reversed where both are
reversed-then : (a b : Ordering) → ordering_then (reversed a) (reversed b) ≡ reversed (ordering_then a b)
reversed-then Less b = refl
reversed-then Equal b = refl
reversed-then Greater b = refl

by_first : (c d : Piece) → compare c.lesser d.lesser ≡ Less → compare_pieces c d ≡ Less
by_first c d e = ap (λ o. ordering_then o (compare c.greater d.greater)) e

by_second : (c d : Piece) → compare c.lesser d.lesser ≡ Equal → compare c.greater d.greater ≡ Less → compare_pieces c d ≡ Less
by_second c d e f = ap (λ o. ordering_then o (compare c.greater d.greater)) e ∙ f

-- the comparison of pieces is an order too: it compares their lesser ends, then their greater ends
pub pieces_are_ordered : IsOrder HasPoints compare_pieces
pieces_are_ordered = record { through = through; turned = turned }
  where
    go : (c d e : Piece) → HasPoints c → HasPoints d → HasPoints e → (compare c.lesser d.lesser ≡ Less) ⊎ ((compare c.lesser d.lesser ≡ Equal) × (compare c.greater d.greater ≡ Less))
        → (compare d.lesser e.lesser ≡ Less) ⊎ ((compare d.lesser e.lesser ≡ Equal) × (compare d.greater e.greater ≡ Less)) → compare_pieces c e ≡ Less
    go c d e hc hd he (inl f) (inl g) = by_first c e (less_transitive c.lesser d.lesser e.lesser hc.0 hd.0 he.0 f g)
    go c d e hc hd he (inl f) (inr g) = by_first c e (less_right c.lesser d.lesser e.lesser hd.0 he.0 f ((equal_is_same d.lesser e.lesser).0 g.0))
    go c d e hc hd he (inr f) (inl g) = by_first c e (less_left c.lesser d.lesser e.lesser hc.0 hd.0 ((equal_is_same c.lesser d.lesser).0 f.0) g)
    go c d e hc hd he (inr f) (inr g) = by_second c e
        ((equal_is_same c.lesser e.lesser).1 (same_transitive c.lesser d.lesser e.lesser hd.0 ((equal_is_same c.lesser d.lesser).0 f.0) ((equal_is_same d.lesser e.lesser).0 g.0)))
        (less_transitive c.greater d.greater e.greater hc.1 hd.1 he.1 f.1 g.1)

    through : (c d e : Piece) → HasPoints c → HasPoints d → HasPoints e → compare_pieces c d ≡ Less → compare_pieces d e ≡ Less → compare_pieces c e ≡ Less
    through c d e hc hd he f g = go c d e hc hd he (then_less (compare c.lesser d.lesser) (compare c.greater d.greater) f) (then_less (compare d.lesser e.lesser) (compare d.greater e.greater) g)

    turned : (c d : Piece) → compare_pieces c d ≡ Greater → compare_pieces d c ≡ Less
    turned c d e = ap (λ o. ordering_then o (compare d.greater c.greater)) (compare_reversed c.lesser d.lesser) ∙ ap (ordering_then (reversed (compare c.lesser d.lesser))) (compare_reversed c.greater d.greater)
        ∙ reversed-then (compare c.lesser d.lesser) (compare c.greater d.greater) ∙ ap reversed e
