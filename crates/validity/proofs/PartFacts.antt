-- The tests of rings and polygons by their edges.
use Rattle.std.proofs.Common.{◌≡◌, refl, sym, subst, ap₂, ◌∙◌, ℕ, zero, suc, ◌<◌, not, ◌||◌, length, get_or, List, [], ◌∷◌, map, Option, Some, None, slice_get, arith}
use Rattle.std.proofs.lemmas.Option.{slice_get-get_or}
use Rattle.std.proofs.lemmas.List.{append-nil}
use Rattle.basics.proofs.Lists.{unmapped}
use Rattle.geometry_model.specs.Points.{Position}
use Rattle.geometry_model.specs.Geometries.{Edge, edges_of_line, edges_of_lines}
use Rattle.geometry_model.specs.Validity.{inside, inside_element}
use Rattle.geometry_model.specs.FirstFaults.{test_of_both, rings_share, elements_share}
use Rattle.edge_boxes.specs.BoxLists.{BoxesOf}
use Rattle.edge_boxes.specs.declared.boxes.EdgeBoxes.{EdgeBoxes}
use Rattle.edge_boxes.specs.RingEdges.{edges_share, is_odd_above}
use Rattle.edge_boxes.proofs.Runs.{polygons_by_their_edges, inside_by_edges}

-- two polygons meet exactly where an edge of the one shares a point with an edge of the other
pub elements_share_by_edges : (es : List (List (List Position))) (i j : ℕ) (r s : List Edge) → slice_get (map edges_of_lines es) i ≡ Some r → slice_get (map edges_of_lines es) j ≡ Some s
    → test_of_both elements_share (slice_get es i) (slice_get es j) ≡ edges_share r s
elements_share_by_edges es i j r s e f = let k = unmapped edges_of_lines es i r e in let l = unmapped edges_of_lines es j s f in
    ap₂ (λ (a b : Option (List (List Position))). test_of_both elements_share a b) k.1 l.1 ∙ (polygons_by_their_edges k.0 l.0 ∙ ap₂ edges_share k.2 l.2)

-- a ring is inside another exactly where an odd number of the other's edges lie above its first position
pub inside_ring_by_edges : (rings : List (List Position)) (outer ring : ℕ) (run : List Edge) (r : List Position) (p : Position) → slice_get (map edges_of_line rings) outer ≡ Some run → slice_get rings ring ≡ Some r
    → slice_get r 0 ≡ Some p → test_of_both inside (slice_get rings outer) (slice_get rings ring) ≡ is_odd_above run p
inside_ring_by_edges rings outer ring run [] p e f h = absurd cc
inside_ring_by_edges rings outer ring run (q ∷ qs) p e f h = let k = unmapped edges_of_line rings outer run e in let same : q ≡ p = cc in
    ap₂ (λ (a b : Option (List Position)). test_of_both inside a b) k.1 f ∙ ((inside_by_edges q qs k.0 [] []).0 ∙ ap₂ is_odd_above k.2 same)

-- a polygon is inside another exactly where an odd number of the other's edges,
-- those of its holes counted, lie above its outer ring's first position
pub inside_element_by_edges : (es : List (List (List Position))) (element other : ℕ) (run : List Edge) (rings : List (List Position)) (r : List Position) (p : Position)
    → slice_get (map edges_of_lines es) other ≡ Some run → slice_get es element ≡ Some rings → slice_get rings 0 ≡ Some r → slice_get r 0 ≡ Some p
    → test_of_both (λ d e. inside_element e d) (slice_get es element) (slice_get es other) ≡ is_odd_above run p
inside_element_by_edges es element other run [] r p e f h k = absurd cc
inside_element_by_edges es element other run ([] ∷ holes) r p e f h k = let same : Some [] ≡ Some r = h in absurd cc
inside_element_by_edges es element other run ((q ∷ qs) ∷ holes) r p e f h k = let l = unmapped edges_of_lines es other run e in
    let ring : (q ∷ qs) ≡ r = cc in
    let same : q ≡ p = cc in
    ap₂ (λ (a b : Option (List (List Position))). test_of_both (λ d e. inside_element e d) a b) f l.1 ∙ ((inside_by_edges q qs [] holes l.0).1 ∙ ap₂ is_odd_above l.2 same)

-- ---- two tests of two rings
-- of two rings one is inside the other: asked at once, or one way and then the other
pub either_inside : (r s : Option (List Position)) → (test_of_both inside r s || test_of_both inside s r) ≡ test_of_both (λ a b. inside a b || inside b a) r s
either_inside None None = refl
either_inside None (Some s) = refl
either_inside (Some r) None = refl
either_inside (Some r) (Some s) = refl

-- both rings being there, the test that one isn't inside the other passes exactly where the test that it is fails
pub not_inside : (rings : List (List Position)) (outer ring : ℕ) → outer < length rings → ring < length rings
    → not (test_of_both inside (slice_get rings outer) (slice_get rings ring)) ≡ test_of_both (λ a b. not (inside a b)) (slice_get rings outer) (slice_get rings ring)
not_inside rings outer ring h k = both (slice_get rings outer) (slice_get rings ring) (get_or rings outer []) (get_or rings ring []) (slice_get-get_or rings outer [] h) (slice_get-get_or rings ring [] k)
  where
    both : (r s : Option (List Position)) (a b : List Position) → r ≡ Some a → s ≡ Some b → not (test_of_both inside r s) ≡ test_of_both (λ a b. not (inside a b)) r s
    both None s a b e f = absurd cc
    both (Some r) None a b e f = absurd cc
    both (Some r) (Some s) a b e f = refl

-- two rings meet exactly where an edge of the one shares a point with an edge of the other
pub rings_share_by_edges : (rings : List (List Position)) (i j : ℕ) (r s : List Edge) → slice_get (map edges_of_line rings) i ≡ Some r → slice_get (map edges_of_line rings) j ≡ Some s
    → test_of_both rings_share (slice_get rings i) (slice_get rings j) ≡ edges_share r s
rings_share_by_edges rings i j r s e f = let k = unmapped edges_of_line rings i r e in let l = unmapped edges_of_line rings j s f in
    ap₂ (λ (a b : Option (List Position)). test_of_both rings_share a b) k.1 l.1 ∙ ap₂ edges_share k.2 l.2

-- ---- boxes of a part's edges
same_run : (o : Option (List Edge)) (r s : List Edge) → o ≡ Some r → o ≡ Some s → r ≡ s
same_run o r s e f = let h : Some r ≡ Some s = sym e ∙ f in cc

-- boxes over the edges of a part serve wherever that part is asked for
pub boxes_of_run : (boxes : EdgeBoxes) (o : Option (List Edge)) (run : List Edge) → o ≡ Some run → BoxesOf boxes run → (other : List Edge) → o ≡ Some other → BoxesOf boxes other
boxes_of_run boxes o run is are other also = subst (BoxesOf boxes) (same_run o run other is also) are

-- the edges of an only line or ring are all edges
pub only_run : (lines : List (List Position)) (i : ℕ) (run : List Edge) → length lines ≡ 1 → slice_get (map edges_of_line lines) i ≡ Some run → edges_of_lines lines ≡ run
only_run [] i run one is = absurd cc
only_run (r ∷ []) zero run one is = let e : edges_of_line r ≡ run = cc in append-nil (edges_of_line r) ∙ e
only_run (r ∷ []) (suc i) run one is = absurd cc
only_run (r ∷ s ∷ ls) i run one is = absurd (omega (arith, one))
