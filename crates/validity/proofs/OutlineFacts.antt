-- A geometry's edges, line by line and polygon by polygon.
use Rattle.std.proofs.Common.{◌≡◌, refl, sym, ap, ap₂, ◌∙◌, ℕ, zero, suc, ◌+◌, ◌<◌, ◌≤◌, List, [], ◌∷◌, ◌++◌, map, length, take, Some, slice_get, arith, append-nil, length-append, zero-add, add-one}
use Rattle.std.specs.List.{flat_map}
use Rattle.std.proofs.lemmas.List.Folds.{flat_map-map}
use Rattle.std.proofs.lemmas.Grind.{flat_map-append}
use Rattle.std.proofs.lemmas.List.{map-append, length-map}
use Rattle.basics.proofs.Numbers.{to_end}
use Rattle.geometry_model.specs.Points.{Position}
use Rattle.geometry_model.specs.Geometries.{Geometry, Edge, lines, edges, elements, joined_rings, edges_of_line, edges_of_lines}
use Rattle.geometry_model.specs.Validity.{Element, elements_from}
use Rattle.geometry_model.specs.FirstFaults.{rings_end}
use Rattle.wkt.specs.Cuts.{cut_at, AreEnds, start_of}
use Rattle.wkt.proofs.CutFacts.{cut_more, ends_more}

-- the edges of all lines, put together
pub joined_runs : (ls : List (List Position)) → flat_map (λ run. run) (map edges_of_line ls) ≡ edges_of_lines ls
joined_runs ls = flat_map-map (λ (run : List Edge). run) edges_of_line ls

-- the edges of each line or ring, put together, are the geometry's edges
pub runs_are_edges : (g : Geometry) (runs : List (List Edge)) → runs ≡ map edges_of_line (lines g) → flat_map (λ run. run) runs ≡ edges g
runs_are_edges g runs e = ap (flat_map (λ (run : List Edge). run)) e ∙ joined_runs (lines g)

-- as many numbered polygons as polygons
pub numbered_count : (start : ℕ) (es : List (List (List Position))) → length (elements_from start es) ≡ length es
numbered_count start [] = refl
numbered_count start (x ∷ xs) = ap suc (numbered_count (start + length x) xs)

-- the numbers of the rings of a polygon
pub numbers_of : (start : ℕ) (es : List (List (List Position))) (m end : ℕ) → slice_get (map rings_end (elements_from start es)) m ≡ Some end
    → (e : Element) × (slice_get (elements_from start es) m ≡ Some e) × (e.first ≡ start_of start (map rings_end (elements_from start es)) m) × (rings_end e ≡ end)
numbers_of start [] m end is = absurd cc
numbers_of start (x ∷ xs) zero end is = (record { first = start; rings = x }, refl, refl, cc)
numbers_of start (x ∷ xs) (suc m) end is = numbers_of (start + length x) xs m end is

-- ---- polygon after polygon
-- the edges of these polygons, and the places where those and the rings of each polygon end
pub record Outlined (es : List (List (List Position))) (runs : List (List Edge)) (element_ends ring_ends : List ℕ) : Type 0 where
  pub by_line : runs ≡ map edges_of_line (joined_rings es)
  pub elements_end : AreEnds 0 element_ends (length (flat_map (λ run. run) runs))
  pub by_element : cut_at 0 element_ends (flat_map (λ run. run) runs) ≡ map edges_of_lines es
  pub rings_end : ring_ends ≡ map rings_end (elements_from 0 es)

-- the numbered polygons with one more
numbered_more : (start : ℕ) (es : List (List (List Position))) (x : List (List Position)) → elements_from start (es ++ x ∷ []) ≡ elements_from start es ++ record { first = start + length (joined_rings es); rings = x } ∷ []
numbered_more start [] x = ap (λ n. record { first = n; rings = x } ∷ []) (to_end start)
numbered_more start (y ∷ ys) x = ap (λ l. record { first = start; rings = y } ∷ l) (numbered_more (start + length y) ys x
    ∙ ap (λ n. elements_from (start + length y) ys ++ record { first = n; rings = x } ∷ []) (further (length y) (length (joined_rings ys)) (length (joined_rings (y ∷ ys))) (length-append y (joined_rings ys))))
  where
    further : (a b c : ℕ) → c ≡ a + b → (start + a) + b ≡ start + c
    further a b c h = omega arith

-- one polygon more adds its rings behind those of the others
joined_more : (es : List (List (List Position))) (x : List (List Position)) → joined_rings (es ++ x ∷ []) ≡ joined_rings es ++ x
joined_more es x = flat_map-append (λ (rings : List (List Position)). rings) es (x ∷ []) ∙ ap (λ l. joined_rings es ++ l) (append-nil x)

-- one polygon more adds its edges and rings behind, so the new ends are the numbers of all edges and of all rings so far
pub outlined_more : (es : List (List (List Position))) (runs : List (List Edge)) (element_ends ring_ends : List ℕ) (x : List (List Position)) → Outlined es runs element_ends ring_ends
    → Outlined (es ++ x ∷ []) (runs ++ map edges_of_line x) (element_ends ++ length (flat_map (λ run. run) (runs ++ map edges_of_line x)) ∷ []) (ring_ends ++ length (runs ++ map edges_of_line x) ∷ [])
outlined_more es runs element_ends ring_ends x o =
    let items = flat_map (λ (run : List Edge). run) runs in
    let more = edges_of_lines x in
    let all : flat_map (λ (run : List Edge). run) (runs ++ map edges_of_line x) ≡ items ++ more =
    flat_map-append (λ (run : List Edge). run) runs (map edges_of_line x) ∙ ap (λ l. items ++ l) (joined_runs x) in
    let count : length (flat_map (λ (run : List Edge). run) (runs ++ map edges_of_line x)) ≡ length items + length more = ap length all ∙ length-append items more in
    let from_zero : elements_from 0 es ++ record { first = 0 + length (joined_rings es); rings = x } ∷ [] ≡ elements_from 0 es ++ record { first = length (joined_rings es); rings = x } ∷ [] =
    ap (λ n. elements_from 0 es ++ record { first = n; rings = x } ∷ []) (zero-add (length (joined_rings es))) in
    let rings : length (runs ++ map edges_of_line x) ≡ length (joined_rings es) + length x =
    length-append runs (map edges_of_line x) ∙ ap₂ (λ a b. a + b) (ap length o.by_line ∙ length-map (joined_rings es) edges_of_line) (length-map x edges_of_line) in
    record {
      by_line = ap (λ l. l ++ map edges_of_line x) o.by_line ∙ (sym (map-append edges_of_line (joined_rings es) x) ∙ ap (map edges_of_line) (sym (joined_more es x)));
      elements_end = rw count (ends_more 0 element_ends (length items) (length more) o.elements_end);
      by_element = rw (count, all) (cut_more 0 element_ends items more o.elements_end ∙ (ap (λ l. l ++ more ∷ []) o.by_element ∙ sym (map-append edges_of_lines es (x ∷ []))));
      rings_end = ap₂ (λ a n. a ++ n ∷ []) o.rings_end rings ∙ (sym (map-append rings_end (elements_from 0 es) (record { first = length (joined_rings es); rings = x } ∷ [])) ∙ ap (map rings_end) (sym (numbered_more 0 es x ∙ from_zero)));
    }

-- the polygons up to and with this one
pub taken : {A : Type 0} (xs : List A) (m : ℕ) (x : A) → slice_get xs m ≡ Some x → take (m + 1) xs ≡ take m xs ++ x ∷ []
taken xs m x e = ap (λ n. take n xs) (add-one m) ∙ go xs m x e
  where
    go : {A : Type 0} (xs : List A) (m : ℕ) (x : A) → slice_get xs m ≡ Some x → take (suc m) xs ≡ take m xs ++ x ∷ []
    go [] m x e = absurd cc
    go (y ∷ ys) zero x e = let same : y ≡ x = cc in ap (λ z. z ∷ []) same
    go (y ∷ ys) (suc m) x e = ap (λ l. y ∷ l) (go ys m x e)

-- the same of the next polygon of an area
pub outlined_next : (es : List (List (List Position))) (m : ℕ) (runs more_runs : List (List Edge)) (element_ends ring_ends more_ends more_rings : List ℕ) (x : List (List Position)) → slice_get es m ≡ Some x
    → Outlined (take m es) runs element_ends ring_ends → more_runs ≡ runs ++ map edges_of_line x → more_ends ≡ element_ends ++ length (flat_map (λ run. run) more_runs) ∷ []
    → more_rings ≡ ring_ends ++ length more_runs ∷ [] → Outlined (take (m + 1) es) more_runs more_ends more_rings
outlined_next es m runs more_runs element_ends ring_ends more_ends more_rings x is o e f h =
    rw (taken es m x is, f, h, e) (outlined_more (take m es) runs element_ends ring_ends x o)

-- all rings of the polygons are the lines, where there is a polygon
joined_lines : (g : Geometry) → 0 < length (elements g) → joined_rings (elements g) ≡ lines g
joined_lines (Geometry.Point p) h = absurd (omega (arith, h))
joined_lines (Geometry.MultiPoint ps) h = absurd (omega (arith, h))
joined_lines (Geometry.LineString ps) h = absurd (omega (arith, h))
joined_lines (Geometry.MultiLineString ls) h = absurd (omega (arith, h))
joined_lines (Geometry.Polygon rs) h = append-nil rs
joined_lines (Geometry.MultiPolygon es) h = refl
