-- The tests of runs of edges, ring by ring and for whole polygons.
use Rattle.std.proofs.Common.{◌≡◌, Bool, true, false, ◌||◌, List, [], ◌∷◌, ◌++◌, refl, sym, ap, ap₂, ◌∙◌, append-nil}
use Rattle.std.specs.List.{list_any}
use Rattle.std.proofs.lemmas.List.Folds.{list_any-append}
use Rattle.geometry_model.specs.Points.{Position}
use Rattle.geometry_model.specs.Geometries.{Edge, edges_of_line, edges_of_lines}
use Rattle.geometry_model.specs.FirstFaults.{share_point}
use Rattle.edge_boxes.specs.RingEdges.{edges_share, is_odd_above}
use Rattle.edge_boxes.specs.RunLaws.{RingsByTheirEdges, PolygonsByTheirEdges, InsideByEdges}

or_crosses : (a b c d : Bool) → (a || b) || (c || d) ≡ (a || c) || (b || d)
or_crosses true b c d = refl
or_crosses false true true d = refl
or_crosses false true false d = refl
or_crosses false false c d = refl

any_same : {A : Type 0} (f g : A → Bool) (xs : List A) → ((x : A) → f x ≡ g x) → list_any f xs ≡ list_any g xs
any_same f g [] h = refl
any_same f g (x ∷ xs) h = ap₂ (λ (a b : Bool). a || b) (h x) (any_same f g xs h)

pub any_none : {A : Type 0} (xs : List A) → list_any (λ (x : A). false) xs ≡ false
any_none [] = refl
any_none (x ∷ xs) = any_none xs

-- of two tests of one list
pub any_either : {A : Type 0} (f g : A → Bool) (xs : List A) → list_any (λ x. f x || g x) xs ≡ (list_any f xs || list_any g xs)
any_either f g [] = refl
any_either f g (x ∷ xs) = ap (λ (b : Bool). (f x || g x) || b) (any_either f g xs) ∙ or_crosses (f x) (g x) (list_any f xs) (list_any g xs)

-- the edges of a run and those of some rings
run_and_rings : (run : List Edge) (rings : List (List Position)) → list_any (λ s. edges_share run (edges_of_line s)) rings ≡ edges_share run (edges_of_lines rings)
run_and_rings run [] = sym (any_none run)
run_and_rings run (s ∷ rings) = ap (λ (b : Bool). edges_share run (edges_of_line s) || b) (run_and_rings run rings)
    ∙ (sym (any_either (λ e. list_any (share_point e) (edges_of_line s)) (λ e. list_any (share_point e) (edges_of_lines rings)) run)
    ∙ sym (any_same (λ e. list_any (share_point e) (edges_of_line s ++ edges_of_lines rings)) (λ e. list_any (share_point e) (edges_of_line s) || list_any (share_point e) (edges_of_lines rings)) run
    (λ e. list_any-append (share_point e) (edges_of_line s) (edges_of_lines rings))))

-- two polygons share a point of their rings exactly where an edge of the one and an edge of the other do, ring by ring
pub polygons_by_their_edges : PolygonsByTheirEdges
polygons_by_their_edges [] e = refl
polygons_by_their_edges (r ∷ d) e = ap₂ (λ (a b : Bool). a || b) (run_and_rings (edges_of_line r) e) (polygons_by_their_edges d e)
    ∙ sym (list_any-append (λ f. list_any (share_point f) (edges_of_lines e)) (edges_of_line r) (edges_of_lines d))

-- the tests of rings are those of their edges, word for word
pub rings_by_their_edges : RingsByTheirEdges
rings_by_their_edges r s = (refl, refl)

-- being inside a ring or a polygon is the parity of its edges above the first position
pub inside_by_edges : InsideByEdges
inside_by_edges p ps outer holes other = (ap (λ (l : List Edge). is_odd_above l p) (append-nil (edges_of_line outer)), refl)
