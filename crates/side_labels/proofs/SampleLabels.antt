-- Labels at a sample don't depend on its triple, and the labels of two geometries are those of their nodes and pieces.
use Rattle.std.proofs.Common.{◌≡◌, ◌<◌, true, false, refl, sym, ap, ap₂, subst, ◌∙◌, List, [], ◌∷◌, ◌++◌, length, get_or, map, All, Bool, Option, Some, None, cond, pos, ℤ, ◌+ℤ◌, ◌<ℤ◌, arith}
use Rattle.std.proofs.lemmas.Int.{ints}
use Rattle.std.proofs.lemmas.List.{get_or-map, length-map}
use Rattle.geometry_model.specs.Points.{Position, Point, IsPoint, same_point, least_form}
use Rattle.geometry_model.specs.Geometries.{Geometry, Edge, rings, listed}
use Rattle.geometry_model.specs.CutPoints.{IsCut, cut_points}
use Rattle.geometry_model.specs.Pieces.{Piece, IsPiece, sample, pieces}
use Rattle.geometry_model.specs.Labels.{Label, SideLabels, label, below, above, is_upright, side_labels, edges_of_both, labels, labels_of}
use Rattle.geometry_model.specs.declared.point_sets.Location.{Location}
use Rattle.geometry_model.specs.declared.point_sets.Location.TheVariants.{Interior, Exterior}
use Rattle.geometry_model.proofs.LeastFormFacts.{least_is_same}
use Rattle.geometry_laws.proofs.Respect.{locate_respects, odd_above_respects, odd_at_or_above_respects}
use Rattle.noding.specs.Nodings.{piece_of, HasNodeTriples}
use Rattle.noding.proofs.NodeCuts.{cut_is_point}
use Rattle.side_labels.specs.Noding.{AreNoded}
use Rattle.side_labels.specs.Samples.{HasSample}

-- ---- at a sample
positive : (u v : ℤ) → pos 0 <ℤ u → pos 0 <ℤ v → pos 0 <ℤ (u +ℤ v)
positive u v h k = omega (arith, ints)

-- the sample's W is the sum of those of the piece's ends, so it is at least 1
pub sample_is_point : (c : Piece) → HasSample c → IsPoint (sample c)
sample_is_point c h = positive c.lesser.W c.greater.W h.lesser h.greater

-- the sample in least form is the same point
pub same_sample : (q : Point) (c : Piece) → q ≡ least_form (sample c) → same_point q (sample c) ≡ true
same_sample q c e = subst (λ (r : Point). same_point r (sample c) ≡ true) (sym e) (least_is_same (sample c))

-- where a point lies doesn't depend on its triple, and so neither does its label
pub label_same : (a b : Geometry) (q : Point) (c : Piece) → HasSample c → IsPoint q → same_point q (sample c) ≡ true → label a b q ≡ label a b (sample c)
label_same a b q c h hq e = λ i. record {
  first = locate_respects a q (sample c) hq (sample_is_point c h) e i;
  second = locate_respects b q (sample c) hq (sample_is_point c h) e i;
}

-- the labels of two sides, by the parts below and above
sides_of : Location → Location → Location → Location → SideLabels
sides_of la lb ua ub = record { lower = record { first = la; second = lb }; upper = record { first = ua; second = ub } }

-- nor do the labels of both sides
pub sides_same : (a b : Geometry) (q : Point) (c : Piece) (la lb ua ub : Location) → HasSample c → IsPoint q → same_point q (sample c) ≡ true → is_upright c ≡ false
    → la ≡ below a q → lb ≡ below b q → ua ≡ above a q → ub ≡ above b q
    → Some (record { lower = record { first = la; second = lb }; upper = record { first = ua; second = ub } }) ≡ side_labels a b c
unfolding sides_of
sides_same a b q c la lb ua ub h hq e level ela elb eua eub =
    (λ i. Some (sides_of ((ela ∙ at_below a) i) ((elb ∙ at_below b) i) ((eua ∙ at_above a) i) ((eub ∙ at_above b) i))) ∙ sym (ap said level)
  where
    said : Bool → Option SideLabels
    said t = cond t None (Some (sides_of (below a (sample c)) (below b (sample c)) (above a (sample c)) (above b (sample c))))

    at_below : (g : Geometry) → below g q ≡ below g (sample c)
    at_below g = ap (λ t. cond t Interior Exterior) (odd_at_or_above_respects (rings g) q (sample c) hq (sample_is_point c h) e)

    at_above : (g : Geometry) → above g q ≡ above g (sample c)
    at_above g = ap (λ t. cond t Interior Exterior) (odd_above_respects (rings g) q (sample c) hq (sample_is_point c h) e)

-- ---- of all pieces
of_all : {X Y Z : Type 0} (f : Y → Z) (g : X → Y) (xs : List X) → map (λ x. f (g x)) xs ≡ map f (map g xs)
of_all f g [] = refl
of_all f g (x ∷ xs) = ap (λ ys. f (g x) ∷ ys) (of_all f g xs)

-- the ends of pieces are cuts whose triples keep the limit, so the pieces have samples
pub have_samples : (es : List Edge) (ps : List Position) (cs : List (Point × Point)) (all : List Piece) → map piece_of cs ≡ all → All (IsPiece es ps) all → All HasNodeTriples all → All (λ c. HasSample (piece_of c)) cs
have_samples es ps cs all e are triples k d l = subst HasSample here (record {
  lesser = cut_is_point es ps (get_or all k (piece_of d)).lesser (are k (piece_of d) within).lesser_is_cut;
  greater = cut_is_point es ps (get_or all k (piece_of d)).greater (are k (piece_of d) within).greater_is_cut;
  lesser_limit = (triples k (piece_of d) within).0.limit;
  greater_limit = (triples k (piece_of d) within).1.limit;
})
  where
    within : k < length all
    within = omega (arith, l, sym (simp length-map at (ap length e)))

    here : get_or all k (piece_of d) ≡ piece_of (get_or cs k d)
    here = ap (λ (bs : List Piece). get_or bs k (piece_of d)) (sym e) ∙ get_or-map piece_of cs k d (piece_of d) l

-- ---- of both geometries
-- the nodes and pieces of the edges and listed positions of both
pub noded_of : (a b : Geometry) (es : List Edge) (ps : List Position) (nodes : List Point) (cs : List Piece) → es ≡ edges_of_both a b → ps ≡ listed a ++ listed b → nodes ≡ cut_points es ps → cs ≡ pieces (cut_points es ps) es
    → All (IsCut es ps) nodes → All (IsPiece es ps) cs → All HasNodeTriples cs → AreNoded a b nodes cs
noded_of a b es ps nodes cs he hp hn hc are_cuts are_pieces triples = record {
  are_cuts = subst (λ (qs : List Position). All (IsCut (edges_of_both a b) qs) nodes) hp (subst (λ (fs : List Edge). All (IsCut fs ps) nodes) he are_cuts);
  are_pieces = subst (λ (qs : List Position). All (IsPiece (edges_of_both a b) qs) cs) hp (subst (λ (fs : List Edge). All (IsPiece fs ps) cs) he are_pieces);
  triples = triples;
  exact_nodes = hn ∙ ap₂ cut_points he hp;
  exact_pieces = hc ∙ ap₂ (λ (fs : List Edge) (qs : List Position). pieces (cut_points fs qs) fs) he hp;
  labels = ap₂ (λ (n : List Point) (d : List Piece). labels_of a b n d) hn hc ∙ ap₂ (λ (fs : List Edge) (qs : List Position). labels_of a b (cut_points fs qs) (pieces (cut_points fs qs) fs)) he hp;
}

-- the labels of these
pub labels_are : (a b : Geometry) (nodes slice : List Point) (all : List Piece) (cs ds : List (Point × Point)) (x y : List Label) (z : List (Option SideLabels)) → AreNoded a b nodes all → slice ≡ nodes → map piece_of cs ≡ all → map piece_of ds ≡ all
    → x ≡ map (label a b) slice → y ≡ map (λ c. label a b (sample (piece_of c))) cs → z ≡ map (λ c. side_labels a b (piece_of c)) ds
    → record { of_points = x; of_pieces = y; of_sides = z } ≡ labels a b
labels_are a b nodes slice all cs ds x y z noded hs hc hd hx hy hz = by_parts ∙ noded.labels
  where
    of_points : x ≡ map (label a b) nodes
    of_points = hx ∙ ap (map (label a b)) hs

    of_pieces : y ≡ map (λ c. label a b (sample c)) all
    of_pieces = hy ∙ of_all (λ (c : Piece). label a b (sample c)) piece_of cs ∙ ap (map (λ c. label a b (sample c))) hc

    of_sides : z ≡ map (side_labels a b) all
    of_sides = hz ∙ of_all (side_labels a b) piece_of ds ∙ ap (map (side_labels a b)) hd

    by_parts : record { of_points = x; of_pieces = y; of_sides = z } ≡ labels_of a b nodes all
    by_parts = λ i. record { of_points = of_points i; of_pieces = of_pieces i; of_sides = of_sides i }
