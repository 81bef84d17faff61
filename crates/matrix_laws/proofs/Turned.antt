-- The label matrix of two geometries the other way round: cuts, pieces and labels are the same but for the order of the two.
use Rattle.std.proofs.Common.{◌≡◌, ◌⊎◌, inl, inr, Bool, true, false, ◌&&◌, ◌||◌, if◌then◌else◌, refl, sym, ap, ap₂, ◌∙◌, List, [], ◌∷◌, ◌++◌, map, Contains, Some, None}
use Rattle.std.specs.List.{list_any}
use Rattle.std.specs.declared.cmp.Ordering.{Ordering}
use Rattle.std.specs.declared.cmp.Ordering.TheVariants.{Less, Equal}
use Rattle.std.proofs.Math.Bool.{and_comm}
use Rattle.basics.proofs.Orders.{then_less}
use Rattle.geometry_model.specs.Points.{Position, Point, IsPoint, compare}
use Rattle.geometry_model.specs.Geometries.{Geometry, Edge, edges, listed}
use Rattle.geometry_model.specs.Dimensions.{transposed}
use Rattle.geometry_model.specs.CutPoints.{IsCut, cut_points}
use Rattle.geometry_model.specs.Pieces.{Piece, IsPiece, pieces, compare_pieces, sample}
use Rattle.geometry_model.specs.Labels.{Label, label, below, above, SideLabels, is_upright, side_labels, Labels, labels_of, edges_of_both, cuts_of_both, labels, same_location, is_pair, is_side_pair, labelled_cell, matrix_of_labels, labelled_matrix}
use Rattle.geometry_model.specs.declared.point_sets.Location.{Location}
use Rattle.geometry_model.specs.declared.point_sets.Location.TheVariants.{Interior, Boundary, Exterior}
use Rattle.geometry_model.specs.declared.point_sets.Dimension.TheVariants.{Empty, Zero, One, Two}
use Rattle.geometry_laws.proofs.Each.{Each, Among, each_at, each_of, among_left, among_right, among_either}
use Rattle.matrix_laws.proofs.MatrixLists.{among_from_contains, contains_from_among}
use Rattle.matrix_laws.proofs.Sorted.{Sorted, IsOrder}
use Rattle.matrix_laws.proofs.CutLists.{IsLeastCut}
use Rattle.matrix_laws.proofs.CutOrder.{listed_is_cut, points_are_ordered, cut_points-sorted}
use Rattle.matrix_laws.proofs.Stretches.{not_before_itself, HasPoints, pieces_are_ordered}
use Rattle.matrix_laws.proofs.PieceLists.{IsLeastPiece, itself_listed, piece_is, piece_is_listed, pieces-sorted}

-- ---- two ascending lists of the same values are one list
pub record SameMembers {X : Type 0} (xs ys : List X) : Type 0 where
  pub there : (z : X) → Among z xs → Among z ys
  pub back : (z : X) → Among z ys → Among z xs

abbrev Irreflexive : {X : Type 0} → (X → X → Ordering) → Type 0
Irreflexive {X} order = (x : X) → order x x ≡ Less → ⊥

-- the first of each is in the other, and were it behind the other's first, each would come before the other
same_first : {X : Type 0} (V : X → Type 0) (order : X → X → Ordering) → IsOrder V order → Irreflexive order → (x y : X) (xs ys : List X) → V x → V y
    → Each (λ z. order x z ≡ Less) xs → Each (λ z. order y z ≡ Less) ys → Among x (y ∷ ys) → Among y (x ∷ xs) → x ≡ y
same_first V order o irr x y xs ys vx vy s t (inl e) b = e
same_first V order o irr x y xs ys vx vy s t (inr a) (inl e) = sym e
same_first V order o irr x y xs ys vx vy s t (inr a) (inr b) = absurd (irr x (o.through x y x vx vy vx (each_at (λ z. order x z ≡ Less) xs y s b) (each_at (λ z. order y z ≡ Less) ys x t a)))

-- so what is behind the first of the one is behind the first of the other
rest_there : {X : Type 0} (order : X → X → Ordering) → Irreflexive order → (x y : X) (xs ys : List X) → x ≡ y → Each (λ z. order x z ≡ Less) xs → ((z : X) → Among z (x ∷ xs) → Among z (y ∷ ys)) → (z : X) → Among z xs → Among z ys
rest_there {X} order irr x y xs ys e s there z a = go (there z (inr a))
  where
    go : Among z (y ∷ ys) → Among z ys
    go (inl g) = absurd (irr x (ap (order x) (e ∙ sym g) ∙ each_at (λ w. order x w ≡ Less) xs z s a))
    go (inr b) = b

-- two strictly ascending lists with the same members are one list
pub same_list : {X : Type 0} (V : X → Type 0) (order : X → X → Ordering) → IsOrder V order → Irreflexive order → (xs ys : List X) → Each V xs → Each V ys
    → Sorted order xs → Sorted order ys → SameMembers xs ys → xs ≡ ys
same_list V order o irr [] [] v w s t m = refl
same_list V order o irr [] (y ∷ ys) v w s t m = absurd (m.back y (inl refl))
same_list V order o irr (x ∷ xs) [] v w s t m = absurd (m.there x (inl refl))
same_list {X} V order o irr (x ∷ xs) (y ∷ ys) v w s t m = ap₂ (λ (h : X) (r : List X). h ∷ r) first (same_list V order o irr xs ys v.1 w.1 s.1 t.1 record {
  there = rest_there order irr x y xs ys first s.0 m.there;
  back = rest_there order irr y x ys xs (sym first) t.0 m.back;
})
  where
    first : x ≡ y
    first = same_first V order o irr x y xs ys v.0 w.0 s.0 t.0 (m.there x (inl refl)) (m.back y (inl refl))

-- ---- edges and listed positions in another order
pub record SameParts (es fs : List Edge) (ps qs : List Position) : Type 0 where
  pub same_edges : SameMembers es fs
  pub same_positions : SameMembers ps qs

-- having the same edges and positions goes both ways
turned_parts : (es fs : List Edge) (ps qs : List Position) → SameParts es fs ps qs → SameParts fs es qs ps
turned_parts es fs ps qs h = record {
  same_edges = record { there = h.same_edges.back; back = h.same_edges.there };
  same_positions = record { there = h.same_positions.back; back = h.same_positions.there };
}

moved : {X : Type 0} (xs ys : List X) (x : X) → SameMembers xs ys → Contains xs x → Contains ys x
moved xs ys x m c = contains_from_among ys x (m.there x (among_from_contains xs x c))

-- a cut asks for an edge or a listed position that is there, whatever their order
same_cut : (es fs : List Edge) (ps qs : List Position) → SameParts es fs ps qs → (p : Point) → IsCut es ps p → IsCut fs qs p
same_cut es fs ps qs h p (IsCut.AtEnd hp e c k) = IsCut.AtEnd hp e (moved es fs e h.same_edges c) k
same_cut es fs ps qs h p (IsCut.Listed hp a c k) = IsCut.Listed hp a (moved ps qs a h.same_positions c) k
same_cut es fs ps qs h p (IsCut.AtCrossing hp e f c d apart he hf) = IsCut.AtCrossing hp e f (moved es fs e h.same_edges c) (moved es fs f h.same_edges d) apart he hf

-- a piece asks for an edge that is there and for two cuts on it, with none between
same_piece : (es fs : List Edge) (ps qs : List Position) → SameParts es fs ps qs → (c : Piece) → IsPiece es ps c → IsPiece fs qs c
same_piece es fs ps qs h c k = record {
  edge = k.edge;
  among = moved es fs k.edge h.same_edges k.among;
  lesser_on = k.lesser_on;
  greater_on = k.greater_on;
  lesser_is_cut = same_cut es fs ps qs h c.lesser k.lesser_is_cut;
  greater_is_cut = same_cut es fs ps qs h c.greater k.greater_is_cut;
  in_order = k.in_order;
  neighbours = λ p hp on_it is_cut x y. k.neighbours p hp on_it (same_cut fs es qs ps (turned_parts es fs ps qs h) p is_cut) x y;
}

points_of : (es : List Edge) (ps : List Position) → Each IsPoint (cut_points es ps)
points_of es ps = each_of IsPoint (cut_points es ps) (λ p a. (listed_is_cut es ps p a).is_point)

-- what the one list holds is a cut of the other's edges and positions too, in least form, so the other list holds it
listed_there : (es fs : List Edge) (ps qs : List Position) → SameParts es fs ps qs → (p : Point) → Among p (cut_points es ps) → Among p (cut_points fs qs)
listed_there es fs ps qs h p a = go (listed_is_cut es ps p a)
  where
    go : IsLeastCut es ps p → Among p (cut_points fs qs)
    go k = itself_listed fs qs p k.is_point k.is_least (same_cut es fs ps qs h p k.is_cut)

-- both lists ascend and hold the same cuts
pub same_cut_points : (es fs : List Edge) (ps qs : List Position) → SameParts es fs ps qs → cut_points es ps ≡ cut_points fs qs
same_cut_points es fs ps qs h = same_list IsPoint compare points_are_ordered not_before_itself (cut_points es ps) (cut_points fs qs) (points_of es ps) (points_of fs qs) (cut_points-sorted es ps) (cut_points-sorted fs qs) record {
  there = listed_there es fs ps qs h;
  back = listed_there fs es qs ps (turned_parts es fs ps qs h);
}

pieces_of : (es : List Edge) (ps : List Position) → Each HasPoints (pieces (cut_points es ps) es)
pieces_of es ps = each_of HasPoints (pieces (cut_points es ps) es) (λ c a. ends c (piece_is es ps c a))
  where
    ends : (c : Piece) → IsLeastPiece es ps c → HasPoints c
    ends c k = (k.lesser_is.0, k.greater_is.0)

-- so it is with pieces
piece_there : (es fs : List Edge) (ps qs : List Position) → SameParts es fs ps qs → (c : Piece) → Among c (pieces (cut_points es ps) es) → Among c (pieces (cut_points fs qs) fs)
piece_there es fs ps qs h c a = go (piece_is es ps c a)
  where
    go : IsLeastPiece es ps c → Among c (pieces (cut_points fs qs) fs)
    go k = piece_is_listed fs qs c k.lesser_is.0 k.greater_is.0 k.lesser_is.1 k.greater_is.1 (same_piece es fs ps qs h c k.is_piece)

piece_not_before_itself : (c : Piece) → compare_pieces c c ≡ Less → ⊥
piece_not_before_itself c e = go (then_less (compare c.lesser c.lesser) (compare c.greater c.greater) e)
  where
    go : (compare c.lesser c.lesser ≡ Less) ⊎ ((compare c.lesser c.lesser ≡ Equal) × (compare c.greater c.greater ≡ Less)) → ⊥
    go (inl f) = not_before_itself c.lesser f
    go (inr f) = not_before_itself c.greater f.1

-- and both lists of pieces ascend and hold the same ones
pub same_pieces : (es fs : List Edge) (ps qs : List Position) → SameParts es fs ps qs → pieces (cut_points es ps) es ≡ pieces (cut_points fs qs) fs
same_pieces es fs ps qs h = same_list HasPoints compare_pieces pieces_are_ordered piece_not_before_itself (pieces (cut_points es ps) es) (pieces (cut_points fs qs) fs) (pieces_of es ps) (pieces_of fs qs) (pieces-sorted es ps) (pieces-sorted fs qs) record {
  there = piece_there es fs ps qs h;
  back = piece_there fs es qs ps (turned_parts es fs ps qs h);
}

-- ---- labels with the two geometries exchanged
pub record IsSwapped (x y : Label) : Type 0 where
  pub first : x.first ≡ y.second
  pub second : x.second ≡ y.first

-- a label with its two parts exchanged is the pair the other way round
pair_swapped : (l k : Location) (x y : Label) → IsSwapped x y → is_pair l k x ≡ is_pair k l y
pair_swapped l k x y h = ap₂ (λ (v w : Location). same_location l v && same_location k w) h.first h.second ∙ and_comm (same_location l y.second) (same_location k y.first)

-- where the images of each element pass their two tests alike, some one passes in both lists or in neither
any_map : {X Y Z : Type 0} (f : X → Y) (g : X → Z) (p : Y → Bool) (q : Z → Bool) → ((x : X) → p (f x) ≡ q (g x)) → (xs : List X) → list_any p (map f xs) ≡ list_any q (map g xs)
any_map f g p q h [] = refl
any_map f g p q h (x ∷ xs) = ap₂ (λ (a b : Bool). a || b) (h x) (any_map f g p q h xs)

-- the labels of a piece's sides are exchanged with the geometries
side_swapped : (a b : Geometry) (l k : Location) (c : Piece) → is_side_pair l k (side_labels b a c) ≡ is_side_pair k l (side_labels a b c)
side_swapped a b l k c = go (is_upright c)
  where
    sides : (g h : Geometry) → SideLabels
    sides g h = record {
      lower = record { first = below g (sample c); second = below h (sample c) };
      upper = record { first = above g (sample c); second = above h (sample c) };
    }

    go : (u : Bool) → is_side_pair l k (if u then None else Some (sides b a)) ≡ is_side_pair k l (if u then None else Some (sides a b))
    go true = refl
    go false = ap₂ (λ (v w : Bool). v || w) (pair_swapped l k (sides b a).lower (sides a b).lower record { first = refl; second = refl }) (pair_swapped l k (sides b a).upper (sides a b).upper record { first = refl; second = refl })

-- a cell looks at sides, samples and points, whose labels are all exchanged
cell_swapped : (a b : Geometry) (cuts : List Point) (cs : List Piece) (l k : Location) → labelled_cell (labels_of b a cuts cs) l k ≡ labelled_cell (labels_of a b cuts cs) k l
cell_swapped a b cuts cs l k = cases
    (any_map (side_labels b a) (side_labels a b) (is_side_pair l k) (is_side_pair k l) (side_swapped a b l k) cs)
    (any_map (λ c. label b a (sample c)) (λ c. label a b (sample c)) (is_pair l k) (is_pair k l) (λ c. pair_swapped l k (label b a (sample c)) (label a b (sample c)) record { first = refl; second = refl }) cs)
    (any_map (label b a) (label a b) (is_pair l k) (is_pair k l) (λ p. pair_swapped l k (label b a p) (label a b p) record { first = refl; second = refl }) cuts)
  where
    cases : {s t u v w z : Bool} → s ≡ t → u ≡ v → w ≡ z
        → (if s then Two else if u then One else if w then Zero else Empty) ≡ (if t then Two else if v then One else if z then Zero else Empty)
    cases e f g = λ i. if e i then Two else if f i then One else if g i then Zero else Empty

-- ---- the matrix
-- lists joined either way have the same members
joined_members : {X : Type 0} (xs ys : List X) → SameMembers (xs ++ ys) (ys ++ xs)
joined_members {X} xs ys = record { there = swap xs ys; back = swap ys xs }
  where
    swap : (us vs : List X) (z : X) → Among z (us ++ vs) → Among z (vs ++ us)
    swap us vs z a = go (among_either z us vs a)
      where
        go : Among z us ⊎ Among z vs → Among z (vs ++ us)
        go (inl b) = among_right z vs us b
        go (inr b) = among_left z vs us b

-- so both orders of two geometries have the same edges and listed positions
both_parts : (a b : Geometry) → SameParts (edges_of_both b a) (edges_of_both a b) (listed b ++ listed a) (listed a ++ listed b)
both_parts a b = record { same_edges = joined_members (edges b) (edges a); same_positions = joined_members (listed b) (listed a) }

-- and so the same cuts and pieces to label
pub labels_turned : (a b : Geometry) → labels b a ≡ labels_of b a (cuts_of_both a b) (pieces (cuts_of_both a b) (edges_of_both a b))
labels_turned a b = ap₂ (labels_of b a)
    (same_cut_points (edges_of_both b a) (edges_of_both a b) (listed b ++ listed a) (listed a ++ listed b) (both_parts a b))
    (same_pieces (edges_of_both b a) (edges_of_both a b) (listed b ++ listed a) (listed a ++ listed b) (both_parts a b))

-- where each cell is that of the exchanged parts, the matrix is the transposed one; the exteriors share an area in both
matrix_swapped : (x y : Labels) → ((l k : Location) → labelled_cell x l k ≡ labelled_cell y k l) → matrix_of_labels x ≡ transposed (matrix_of_labels y)
matrix_swapped x y h = λ i. record {
  interior_interior = h Interior Interior i;
  interior_boundary = h Interior Boundary i;
  interior_exterior = h Interior Exterior i;
  boundary_interior = h Boundary Interior i;
  boundary_boundary = h Boundary Boundary i;
  boundary_exterior = h Boundary Exterior i;
  exterior_interior = h Exterior Interior i;
  exterior_boundary = h Exterior Boundary i;
  exterior_exterior = Two;
}

-- cuts and pieces don't mind the order of the two geometries, and each label is turned, so each cell is
pub labelled_is_transposed : (a b : Geometry) → labelled_matrix b a ≡ transposed (labelled_matrix a b)
labelled_is_transposed a b = ap matrix_of_labels (labels_turned a b)
    ∙ matrix_swapped (labels_of b a (cuts_of_both a b) (pieces (cuts_of_both a b) (edges_of_both a b))) (labels a b)
    (λ l k. cell_swapped a b (cuts_of_both a b) (pieces (cuts_of_both a b) (edges_of_both a b)) l k)
