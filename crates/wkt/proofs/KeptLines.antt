-- A line or ring without repeats is kept: the ends of each of its edges differ.
use Rattle.std.proofs.Common.{◌≡◌, ◌≢◌, ℤ, Bool, true, false, cond, List, [], ◌∷◌, length, map, refl, sym, subst, arith, ◌≤◌}
use Rattle.std.specs.List.{All, dedup_from}
use Rattle.std.specs.Ordering.{int_eq}
use Rattle.std.proofs.lemmas.Int.{ints}
use Rattle.std.proofs.lemmas.List.Elements.{All-nil, All-cons, All-append}
use Rattle.geometry_model.specs.Points.{Position}
use Rattle.geometry_model.specs.Geometries.{Edge, edges_of_line, edges_of_lines}
use Rattle.geometry_model.specs.WellKnownText.{position_limit, same_position, without_repeats}
use Rattle.wkt.specs.KeptGeometries.{IsKeptLine}

equals_itself : (z : ℤ) → int_eq z z ≡ true
equals_itself z = grind (arith, ints)

-- a position is one with itself
same_itself : (p : Position) → same_position p p ≡ true
same_itself p = rw (equals_itself p.x, equals_itself p.y) refl

-- so two positions that aren't one differ
apart : (a b : Position) → same_position b a ≡ false → a ≢ b
apart a b other same =
    let yes : same_position b a ≡ true = subst (λ p. same_position p a ≡ true) same (same_itself a) in
    grind (arith, yes, other)

-- the ends of an edge differ
abbrev pub Apart : Edge → Type 0
Apart edge = edge.start ≢ edge.end

-- what is kept begins with the first
pub first_kept : (k : Position) (xs : List Position) → (rest : List Position) × (dedup_from same_position k xs ≡ k ∷ rest)
first_kept k [] = ([], refl)
first_kept k (x ∷ xs) = by_test (same_position x k) (first_kept k xs)
  where
    by_test : (same : Bool) → ((rest : List Position) × (dedup_from same_position k xs ≡ k ∷ rest))
        → (rest : List Position) × (cond same (dedup_from same_position k xs) (k ∷ dedup_from same_position x xs) ≡ k ∷ rest)
    by_test true here = here
    by_test false here = (dedup_from same_position x xs, refl)

-- positions without repeats: each differs from the one before it, and these two are the ends of an edge
from_apart : (k : Position) (xs : List Position) → All Apart (edges_of_line (dedup_from same_position k xs))
from_apart k [] = All-nil Apart
from_apart k (x ∷ xs) = by_test (same_position x k) refl (from_apart k xs) (from_apart x xs) (first_kept x xs)
  where
    by_test : (same : Bool) → same_position x k ≡ same → All Apart (edges_of_line (dedup_from same_position k xs)) → All Apart (edges_of_line (dedup_from same_position x xs))
        → ((rest : List Position) × (dedup_from same_position x xs ≡ x ∷ rest))
        → All Apart (edges_of_line (cond same (dedup_from same_position k xs) (k ∷ dedup_from same_position x xs)))
    by_test true is here behind first = here
    by_test false is here behind first =
        subst (λ l. All Apart (edges_of_line (k ∷ l))) (sym first.1)
        (All-cons Apart (record { start = k; end = x }) (edges_of_line (x ∷ first.0)) (apart k x is)
        (subst (λ l. All Apart (edges_of_line l)) first.1 behind))

-- so the ends of each edge of a line or ring differ
line_apart : (ps : List Position) → All Apart (edges_of_line (without_repeats ps))
line_apart [] = All-nil Apart
line_apart (p ∷ ps) = from_apart p ps

-- and of several together
pub lines_apart : (ls : List (List Position)) → All Apart (edges_of_lines (map without_repeats ls))
lines_apart [] = All-nil Apart
lines_apart (l ∷ ls) = All-append Apart (edges_of_line (without_repeats l)) (edges_of_lines (map without_repeats ls)) (line_apart l) (lines_apart ls)

-- a line without repeats is kept
pub line_is_kept : (ps : List Position) → length ps ≤ position_limit → without_repeats ps ≡ ps → IsKeptLine ps
line_is_kept ps few steady = record {
  counted = few;
  no_repeats = steady;
  ends_differ = subst (λ l. All Apart (edges_of_line l)) steady (line_apart ps);
}
