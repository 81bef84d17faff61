-- The marks of a pair say whether the cell owns it, and exactly one cell does.
use Rattle.std.specs.Prelude.{◌≡◌, refl, ◌≤◌, ◌+◌, ℕ, Bool, true, false, cond, not, ◌&&◌, ◌||◌, List, [], ◌∷◌, map, All, count_by, Option, Some, None, ⊤, ℤ, pos, negsuc, ◌≤ℤ◌, ◌<ℤ◌, int_le, int_lt, unsigned_abs}
use Rattle.std.specs.Int.{int_min, int_max}
use Rattle.std.specs.Ordering.{int_eq}
use Rattle.std.specs.Cmp.{both_ways}
use Rattle.std.proofs.Common.{arith, ap, ap₂, ◌∙◌, sym}
use borrow.Author.Differences.{ints}
use Rattle.std.proofs.lemmas.Int.{clamps}
use Rattle.std.proofs.lemmas.Bool.{and_parts, and_from, false_from_ne_true}
use Rattle.std.proofs.lemmas.List.Elements.{All-head, All-tail}
use Rattle.std.proofs.lemmas.List.Sums.{sum_by-cons}
use Rattle.std.proofs.Math.Bool.{and-false}
use lib.Signed.{≤ℤ_refl}
use mathlib.Core.Path.{fun_ext}
use Rattle.basics.proofs.Signs.{at_most_yes, at_most_from, less_from, not_less_from}
use Rattle.geometry_model.specs.Points.{Position}
use Rattle.geometry_model.specs.Envelopes.{Envelope, envelope, with_position, envelope_of_positions, overlap, meets}
use Rattle.geometry_model.specs.Geometries.{positions}
use Rattle.geometry_model.specs.WellKnownText.{coordinate_limit}
use Rattle.fraction.specs.Ranges.{IsOnGrid}
use Rattle.table_laws.specs.Cells.{Cell, cells_of, CutsGrid, mark, owner, owns}
use Rattle.table_laws.specs.PairLaws.{is_found, OwnersFind, PairsAreOnce, GridIsCut}

-- ---- what an envelope is

-- its sides don't run backwards
record Runs (e : Envelope) : Type 0 where
  pub across : e.least_x ≤ℤ e.greatest_x
  pub up : e.least_y ≤ℤ e.greatest_y

abbrev RunsIfThere : Option Envelope → Type 0
RunsIfThere None = ⊤
RunsIfThere (Some e) = Runs e

wider : (x l g : ℤ) → l ≤ℤ g → int_min x l ≤ℤ int_max x g
wider x l g h = omega (arith, ints, clamps)

with_runs : (a : Position) (o : Option Envelope) → RunsIfThere o → Runs (with_position a o)
with_runs a None h = record { across = ≤ℤ_refl a.x; up = ≤ℤ_refl a.y }
with_runs a (Some e) h = record { across = wider a.x e.least_x e.greatest_x h.across; up = wider a.y e.least_y e.greatest_y h.up }

runs_of : (ps : List Position) → RunsIfThere (envelope_of_positions ps)
runs_of [] = tt
runs_of (a ∷ rest) = with_runs a (envelope_of_positions rest) (runs_of rest)

-- the least corner of an envelope, where there is one, is on the grid
abbrev CornerIsOn : Option Envelope → Type 0
CornerIsOn None = ⊤
CornerIsOn (Some e) = IsOnGrid (record { x = e.least_x; y = e.least_y })

one_of : (t : Bool) (x y : ℤ) (n : ℕ) → unsigned_abs x ≤ n → unsigned_abs y ≤ n → unsigned_abs (cond t x y) ≤ n
one_of true x y n h k = h
one_of false x y n h k = k

corner_with : (a : Position) (o : Option Envelope) → IsOnGrid a → CornerIsOn o → IsOnGrid (record { x = (with_position a o).least_x; y = (with_position a o).least_y })
corner_with a None h k = h
corner_with a (Some e) h k = record {
  x = one_of (int_lt e.least_x a.x) e.least_x a.x coordinate_limit k.x h.x;
  y = one_of (int_lt e.least_y a.y) e.least_y a.y coordinate_limit k.y h.y;
}

corner_of : (ps : List Position) → All IsOnGrid ps → CornerIsOn (envelope_of_positions ps)
corner_of [] h = tt
corner_of (a ∷ rest) h = corner_with a (envelope_of_positions rest) (All-head IsOnGrid a rest h) (corner_of rest (All-tail IsOnGrid a rest h))

-- ---- one coordinate

unmarked : (t : Bool) → int_eq (mark t) (pos 0) ≡ not t
unmarked true = refl
unmarked false = refl

-- not both begin before a side exactly where the greatest of the two beginnings doesn't
not_both : (side e f : ℤ) → (int_eq (mark (int_lt e side)) (pos 0) || int_eq (mark (int_lt f side)) (pos 0)) ≡ int_le side (int_max e f)
not_both side e f = ap₂ (λ s t. s || t) (unmarked (int_lt e side)) (unmarked (int_lt f side)) ∙ go (int_lt e side) (int_lt f side) refl refl
  where
    first : side ≤ℤ e → side ≤ℤ int_max e f
    first h = omega (arith, ints, clamps)

    second : side ≤ℤ f → side ≤ℤ int_max e f
    second h = omega (arith, ints, clamps)

    neither : e <ℤ side → f <ℤ side → side ≤ℤ int_max e f → ⊥
    neither h k l = omega (arith, ints, clamps)

    go : (s t : Bool) → int_lt e side ≡ s → int_lt f side ≡ t → (not s || not t) ≡ int_le side (int_max e f)
    go false t h k = sym (at_most_yes side (int_max e f) (first (not_less_from e side h)))
    go true false h k = sym (at_most_yes side (int_max e f) (second (not_less_from f side k)))
    go true true h k = sym (false_from_ne_true (int_le side (int_max e f)) (λ l. neither (less_from e side h) (less_from f side k) (at_most_from side (int_max e f) l)))

-- both begin at most at a side exactly where the greatest of the two beginnings is at most there
both_before : (side e f : ℤ) → (int_le e side && int_le f side) ≡ int_le (int_max e f) side
both_before side e f = both_ways (int_le e side && int_le f side) (int_le (int_max e f) side) to from
  where
    to : (int_le e side && int_le f side) ≡ true → int_le (int_max e f) side ≡ true
    to h = let p = and_parts (int_le e side) (int_le f side) h in let k = at_most_from e side p.0 in let l = at_most_from f side p.1 in at_most_yes (int_max e f) side (omega (arith, ints, clamps, k, l))

    from : int_le (int_max e f) side ≡ true → (int_le e side && int_le f side) ≡ true
    from h = let k = at_most_from (int_max e f) side h in and_from (int_le e side) (int_le f side) (at_most_yes e side (omega (arith, ints, clamps, k))) (at_most_yes f side (omega (arith, ints, clamps, k)))

-- where the greatest of two beginnings is at least at a side, so is each end that comes behind both
reaches : (side e f end : ℤ) → e ≤ℤ end → f ≤ℤ end → int_le side (int_max e f) ≡ true → int_le side end ≡ true
reaches side e f end h k l = let m = at_most_from side (int_max e f) l in at_most_yes side end (omega (arith, ints, clamps, h, k, m))

-- ---- both coordinates

-- where all ends are reached, what is left are the beginnings
four : (a b c d : Bool) → (((true && a) && true) && b) && ((((true && c) && true) && d) && (true && true)) ≡ (((true && (a && c)) && true) && (b && d))
four false b c d = refl
four true b false d = and-false b
four true false true d = refl
four true true true false = refl
four true true true true = refl

-- the tests of both coordinates: `p` and `q` say that the cell begins at most at the owner; if so, all ends are reached
tests : (p q a b c d r s t u : Bool) → (p ≡ true → (r ≡ true) × (t ≡ true)) → (q ≡ true → (s ≡ true) × (u ≡ true))
    → (((r && a) && s) && b) && ((((t && c) && u) && d) && (p && q)) ≡ (((p && (a && c)) && q) && (b && d))
tests false q a b c d r s t u h k = ap (λ x. (((r && a) && s) && b) && x) (and-false (((t && c) && u) && d)) ∙ and-false (((r && a) && s) && b)
tests true false a b c d r s t u h k =
    ap (λ x. (((r && a) && s) && b) && x) (and-false (((t && c) && u) && d)) ∙ and-false (((r && a) && s) && b) ∙ sym (ap (λ x. x && (b && d)) (and-false (a && c)))
tests true true a b c d r s t u h k = rw ((h refl).0, (h refl).1, (k refl).0, (k refl).1) (four a b c d)

-- a box finds a pair that it owns, and no other
box_finds : (c e f : Envelope) → Runs e → Runs f → overlap e f ≡ true → is_found (Some c) (Some e) (Some f) ≡ owns (Some c) (owner (Some e) (Some f))
box_finds c e f r s m =
    let last = and_parts ((int_le e.least_x f.greatest_x && int_le f.least_x e.greatest_x) && int_le e.least_y f.greatest_y) (int_le f.least_y e.greatest_y) m in
    let third = and_parts (int_le e.least_x f.greatest_x && int_le f.least_x e.greatest_x) (int_le e.least_y f.greatest_y) last.0 in
    let first = and_parts (int_le e.least_x f.greatest_x) (int_le f.least_x e.greatest_x) third.0 in
    let ef_x = at_most_from e.least_x f.greatest_x first.0 in
    let fe_x = at_most_from f.least_x e.greatest_x first.1 in
    let ef_y = at_most_from e.least_y f.greatest_y third.1 in
    let fe_y = at_most_from f.least_y e.greatest_y last.1 in
    ap₂ (λ p q. overlap c e && (overlap c f && (p && q))) (not_both c.least_x e.least_x f.least_x) (not_both c.least_y e.least_y f.least_y)
    ∙ tests (int_le c.least_x (int_max e.least_x f.least_x)) (int_le c.least_y (int_max e.least_y f.least_y))
    (int_le e.least_x c.greatest_x) (int_le e.least_y c.greatest_y) (int_le f.least_x c.greatest_x) (int_le f.least_y c.greatest_y)
    (int_le c.least_x e.greatest_x) (int_le c.least_y e.greatest_y) (int_le c.least_x f.greatest_x) (int_le c.least_y f.greatest_y)
    (λ h. (reaches c.least_x e.least_x f.least_x e.greatest_x r.across fe_x h, reaches c.least_x e.least_x f.least_x f.greatest_x ef_x s.across h))
    (λ h. (reaches c.least_y e.least_y f.least_y e.greatest_y r.up fe_y h, reaches c.least_y e.least_y f.least_y f.greatest_y ef_y s.up h))
    ∙ ap₂ (λ x y. ((int_le c.least_x (int_max e.least_x f.least_x) && x) && int_le c.least_y (int_max e.least_y f.least_y)) && y)
    (both_before c.greatest_x e.least_x f.least_x) (both_before c.greatest_y e.least_y f.least_y)

-- ---- the laws

finds : (cell : Cell) (e f : Option Envelope) → RunsIfThere e → RunsIfThere f → meets e f ≡ true → is_found cell e f ≡ owns cell (owner e f)
finds None None None r s m = refl
finds None None (Some f) r s m = cc
finds None (Some e) None r s m = cc
finds None (Some e) (Some f) r s m = refl
finds (Some c) None None r s m = refl
finds (Some c) None (Some f) r s m = cc
finds (Some c) (Some e) None r s m = cc
finds (Some c) (Some e) (Some f) r s m = box_finds c e f r s m

pub owners_find : OwnersFind
owners_find cell a b m = finds cell (envelope a) (envelope b) (runs_of (positions a)) (runs_of (positions b)) m

-- a position belongs to no box where it is absent, and else to those that hold it
count_boxes : (test : Cell → Bool) (boxes : List Envelope) → count_by test (map Some boxes) ≡ count_by (λ box. test (Some box)) boxes
count_boxes test [] = refl
count_boxes test (box ∷ boxes) =
    sum_by-cons (λ cell. cond (test cell) 1 0) (Some box) (map Some boxes) ∙ ap (λ n. cond (test (Some box)) 1 0 + n) (count_boxes test boxes) ∙ sym (sum_by-cons (λ b. cond (test (Some b)) 1 0) box boxes)

none_pass : {X : Type 0} (xs : List X) → count_by (λ x. false) xs ≡ 0
none_pass [] = refl
none_pass (x ∷ xs) = sum_by-cons (λ y. cond false 1 0) x xs ∙ ap (λ n. 0 + n) (none_pass xs)

-- one cell owns each position of the grid, and each pair without one
one_owns : (boxes : List Envelope) → CutsGrid boxes → (e f : Option Envelope) → CornerIsOn e → CornerIsOn f → meets e f ≡ true → count_by (λ cell. owns cell (owner e f)) (cells_of boxes) ≡ 1
one_owns boxes cut None None h k m =
    sum_by-cons (λ cell. cond (owns cell None) 1 0) None (map Some boxes) ∙ ap (λ n. 1 + n) (count_boxes (λ cell. owns cell None) boxes ∙ none_pass boxes)
one_owns boxes cut None (Some f) h k m = cc
one_owns boxes cut (Some e) None h k m = cc
one_owns boxes cut (Some e) (Some f) h k m =
    let p : Position = record { x = int_max e.least_x f.least_x; y = int_max e.least_y f.least_y } in
    sum_by-cons (λ cell. cond (owns cell (Some p)) 1 0) None (map Some boxes) ∙ ap (λ n. 0 + n) (count_boxes (λ cell. owns cell (Some p)) boxes ∙ cut p (record {
      x = one_of (int_lt f.least_x e.least_x) e.least_x f.least_x coordinate_limit h.x k.x;
      y = one_of (int_lt f.least_y e.least_y) e.least_y f.least_y coordinate_limit h.y k.y;
    }))

pub pairs_are_once : PairsAreOnce
pairs_are_once boxes a b cut h k m =
    ap (λ test. count_by test (cells_of boxes)) (fun_ext (λ cell. owners_find cell a b m)) ∙ one_owns boxes cut (envelope a) (envelope b) (corner_of (positions a) h) (corner_of (positions b) k) m

-- ---- a cut

-- a coordinate of the grid is between its ends
between : (z : ℤ) → unsigned_abs z ≤ coordinate_limit → (int_le (negsuc 9999999) z ≡ true) × (int_le z (pos 10000000) ≡ true)
between (pos n) h = (at_most_yes (negsuc 9999999) (pos n) (omega (arith, ints)), at_most_yes (pos n) (pos 10000000) (omega (arith, ints, h)))
between (negsuc n) h = (at_most_yes (negsuc 9999999) (negsuc n) (omega (arith, ints, h)), at_most_yes (negsuc n) (pos 10000000) (omega (arith, ints)))

pub grid_is_cut : GridIsCut
grid_is_cut p h =
    let x = between p.x h.x in
    let y = between p.y h.y in
    ap (λ b. 0 + cond b 1 0)
    (and_from (int_le (negsuc 9999999) p.x && int_le p.x (pos 10000000) && int_le (negsuc 9999999) p.y) (int_le p.y (pos 10000000))
    (and_from (int_le (negsuc 9999999) p.x && int_le p.x (pos 10000000)) (int_le (negsuc 9999999) p.y) (and_from (int_le (negsuc 9999999) p.x) (int_le p.x (pos 10000000)) x.0 x.1) y.0) y.1)
