-- How matrices grow: the order of dimensions, the cells of a raised matrix, and what stays shown.
use Rattle.std.proofs.Common.{◌≡◌, Bool, true, false, ◌&&◌, if◌then◌else◌, refl, sym, ap, ◌∙◌}
use Rattle.geometry_model.specs.Dimensions.{Matrix, cell, matrix_of}
use Rattle.geometry_model.specs.Geometries.{Geometry, Edge}
use Rattle.geometry_model.specs.Labels.{same_location}
use Rattle.geometry_model.specs.declared.point_sets.Location.{Location}
use Rattle.geometry_model.specs.declared.point_sets.Location.TheVariants.{Interior, Boundary, Exterior}
use Rattle.geometry_model.specs.declared.point_sets.Dimension.{Dimension}
use Rattle.geometry_model.specs.declared.point_sets.Dimension.TheVariants.{Empty, Zero, One, Two}
use Rattle.matrix_laws.proofs.Labelled.{pair_is, pair_of}
use Rattle.matrix_laws.specs.Cells.{at_most, greater, Shows, ShowsPoint, raised, IsPartOf, Covers}

-- ---- the order of dimensions
-- each dimension is at most itself
pub at_most_itself : (d : Dimension) → at_most d d ≡ true
at_most_itself Empty = refl
at_most_itself Zero = refl
at_most_itself One = refl
at_most_itself Two = refl

-- and at most 2
pub at_most_two : (d : Dimension) → at_most d Two ≡ true
at_most_two Empty = refl
at_most_two Zero = refl
at_most_two One = refl
at_most_two Two = refl

-- the order carries over
pub at_most_through : (d e f : Dimension) → at_most d e ≡ true → at_most e f ≡ true → at_most d f ≡ true
at_most_through Empty e f h k = refl
at_most_through Zero Empty f h k = absurd (let z : false ≡ true = h in cc)
at_most_through Zero Zero f h k = k
at_most_through Zero One Empty h k = absurd (let z : false ≡ true = k in cc)
at_most_through Zero One Zero h k = refl
at_most_through Zero One One h k = refl
at_most_through Zero One Two h k = refl
at_most_through Zero Two Empty h k = absurd (let z : false ≡ true = k in cc)
at_most_through Zero Two Zero h k = refl
at_most_through Zero Two One h k = refl
at_most_through Zero Two Two h k = refl
at_most_through One Empty f h k = absurd (let z : false ≡ true = h in cc)
at_most_through One Zero f h k = absurd (let z : false ≡ true = h in cc)
at_most_through One One f h k = k
at_most_through One Two Empty h k = absurd (let z : false ≡ true = k in cc)
at_most_through One Two Zero h k = absurd (let z : false ≡ true = k in cc)
at_most_through One Two One h k = refl
at_most_through One Two Two h k = refl
at_most_through Two Empty f h k = absurd (let z : false ≡ true = h in cc)
at_most_through Two Zero f h k = absurd (let z : false ≡ true = h in cc)
at_most_through Two One f h k = absurd (let z : false ≡ true = h in cc)
at_most_through Two Two f h k = k

-- of two dimensions one is at most the other
or_more : (d e : Dimension) → at_most d e ≡ false → at_most e d ≡ true
or_more Empty e h = absurd (let z : true ≡ false = h in cc)
or_more Zero Empty h = refl
or_more Zero Zero h = absurd (let z : true ≡ false = h in cc)
or_more Zero One h = absurd (let z : true ≡ false = h in cc)
or_more Zero Two h = absurd (let z : true ≡ false = h in cc)
or_more One Empty h = refl
or_more One Zero h = refl
or_more One One h = absurd (let z : true ≡ false = h in cc)
or_more One Two h = absurd (let z : true ≡ false = h in cc)
or_more Two Empty h = refl
or_more Two Zero h = refl
or_more Two One h = refl
or_more Two Two h = absurd (let z : true ≡ false = h in cc)

-- dimensions that are at most each other are equal
pub as_great : (d e : Dimension) → at_most d e ≡ true → at_most e d ≡ true → d ≡ e
as_great Empty Empty h k = refl
as_great Empty Zero h k = absurd (let z : false ≡ true = k in cc)
as_great Empty One h k = absurd (let z : false ≡ true = k in cc)
as_great Empty Two h k = absurd (let z : false ≡ true = k in cc)
as_great Zero Empty h k = absurd (let z : false ≡ true = h in cc)
as_great Zero Zero h k = refl
as_great Zero One h k = absurd (let z : false ≡ true = k in cc)
as_great Zero Two h k = absurd (let z : false ≡ true = k in cc)
as_great One Empty h k = absurd (let z : false ≡ true = h in cc)
as_great One Zero h k = absurd (let z : false ≡ true = h in cc)
as_great One One h k = refl
as_great One Two h k = absurd (let z : false ≡ true = k in cc)
as_great Two Empty h k = absurd (let z : false ≡ true = h in cc)
as_great Two Zero h k = absurd (let z : false ≡ true = h in cc)
as_great Two One h k = absurd (let z : false ≡ true = h in cc)
as_great Two Two h k = refl

-- ---- the greater of two dimensions
-- the greater of two is at least the one ..
pick_second : (d e : Dimension) (t : Bool) → at_most d e ≡ t → at_most e (if t then e else d) ≡ true
pick_second d e true h = at_most_itself e
pick_second d e false h = or_more d e h

-- .. and at least the other ..
pick_first : (d e : Dimension) (t : Bool) → at_most d e ≡ t → at_most d (if t then e else d) ≡ true
pick_first d e true h = h
pick_first d e false h = at_most_itself d

-- .. and at most all that both are at most
pick_least : (d e f : Dimension) (t : Bool) → at_most d f ≡ true → at_most e f ≡ true → at_most (if t then e else d) f ≡ true
pick_least d e f true h k = k
pick_least d e f false h k = h

-- ---- the cells of a matrix made of cells
-- a matrix made of cells has these cells
pub cell_of : (f : Location → Location → Dimension) (l k : Location) → cell (matrix_of f) l k ≡ f l k
cell_of f Interior Interior = refl
cell_of f Interior Boundary = refl
cell_of f Interior Exterior = refl
cell_of f Boundary Interior = refl
cell_of f Boundary Boundary = refl
cell_of f Boundary Exterior = refl
cell_of f Exterior Interior = refl
cell_of f Exterior Boundary = refl
cell_of f Exterior Exterior = refl

-- ---- a raised matrix
abbrev raised_cell : Matrix → Location → Location → Dimension → Location → Location → Dimension
raised_cell m l k d i j = if same_location i l && same_location j k then greater d (cell m i j) else cell m i j

-- the cell of the two parts is the greater of its old dimension and the new one, and the other cells stay
raised_is : (m : Matrix) (l k : Location) (d : Dimension) (i j : Location) → cell (raised m l k d) i j ≡ raised_cell m l k d i j
raised_is m l k d i j = cell_of (raised_cell m l k d) i j

-- so no cell got less
raised_grows : (m : Matrix) (l k : Location) (d : Dimension) → IsPartOf m (raised m l k d)
raised_grows m l k d i j = ap (at_most (cell m i j)) (raised_is m l k d i j) ∙ go (same_location i l && same_location j k)
  where
    go : (t : Bool) → at_most (cell m i j) (if t then greater d (cell m i j) else cell m i j) ≡ true
    go true = pick_second d (cell m i j) (at_most d (cell m i j)) refl
    go false = at_most_itself (cell m i j)

-- and the two parts show the dimension
raised_shows : (m : Matrix) (l k : Location) (d : Dimension) → Shows (raised m l k d) l k d
raised_shows m l k d = ap (at_most d) (raised_is m l k d l k ∙ ap (λ (t : Bool). if t then greater d (cell m l k) else cell m l k) (pair_of l k l k refl refl)) ∙ pick_first d (cell m l k) (at_most d (cell m l k)) refl

-- any matrix that the old one is part of, and that shows the dimension, has the raised one as a part
raised_is_least : (m : Matrix) (l k : Location) (d : Dimension) (n : Matrix) → IsPartOf m n → Shows n l k d → IsPartOf (raised m l k d) n
raised_is_least m l k d n h s i j = ap (λ (e : Dimension). at_most e (cell n i j)) (raised_is m l k d i j) ∙ go (same_location i l && same_location j k) refl
  where
    at : (i ≡ l) × (j ≡ k) → at_most d (cell n i j) ≡ true
    at q = ap (at_most d) (ap (λ (v : Location). cell n v j) q.0 ∙ ap (cell n l) q.1) ∙ s

    go : (t : Bool) → same_location i l && same_location j k ≡ t → at_most (if t then greater d (cell m i j) else cell m i j) (cell n i j) ≡ true
    go true e = pick_least d (cell m i j) (cell n i j) (at_most d (cell m i j)) (at (pair_is i j l k e)) (h i j)
    go false e = h i j

-- all three together
pub raised_grows_enough : (m : Matrix) (l k : Location) (d : Dimension) → IsPartOf m (raised m l k d) × Shows (raised m l k d) l k d × ((n : Matrix) → IsPartOf m n → Shows n l k d → IsPartOf (raised m l k d) n)
raised_grows_enough m l k d = (raised_grows m l k d, raised_shows m l k d, raised_is_least m l k d)

-- ---- the order of matrices
-- cell by cell, since dimensions are ordered
pub parts_are_ordered : ((m : Matrix) → IsPartOf m m) × ((m n o : Matrix) → IsPartOf m n → IsPartOf n o → IsPartOf m o)
parts_are_ordered = (λ m l k. at_most_itself (cell m l k), λ m n o h g l k. at_most_through (cell m l k) (cell n l k) (cell o l k) (h l k) (g l k))

-- matrices that are part of each other have the same cells
pub part_of_both : (m n : Matrix) → IsPartOf m n → IsPartOf n m → m ≡ n
part_of_both m n h g = λ i. record {
  interior_interior = same Interior Interior i;
  interior_boundary = same Interior Boundary i;
  interior_exterior = same Interior Exterior i;
  boundary_interior = same Boundary Interior i;
  boundary_boundary = same Boundary Boundary i;
  boundary_exterior = same Boundary Exterior i;
  exterior_interior = same Exterior Interior i;
  exterior_boundary = same Exterior Boundary i;
  exterior_exterior = same Exterior Exterior i;
}
  where
    same : (l k : Location) → cell m l k ≡ cell n l k
    same l k = as_great (cell m l k) (cell n l k) (h l k) (g l k)

-- ---- what is shown stays shown
-- what a matrix shows is shown by each that it is part of
pub still_shown : (m n : Matrix) → IsPartOf m n → (l k : Location) (d : Dimension) → Shows m l k d → Shows n l k d
still_shown m n h l k d s = at_most_through d (cell m l k) (cell n l k) s (h l k)

pub shows_at : (m : Matrix) (d : Dimension) (l l' k k' : Location) → l ≡ l' → k ≡ k' → Shows m l k d → Shows m l' k' d
shows_at m d l l' k k' e f s = ap (at_most d) (sym (ap (λ (v : Location). cell m v k) e ∙ ap (cell m l') f)) ∙ s

-- what shows a dimension shows each lesser one
pub shows_less : (m : Matrix) (l k : Location) (d e : Dimension) → at_most e d ≡ true → Shows m l k d → Shows m l k e
shows_less m l k d e h s = at_most_through e d (cell m l k) h s

-- so of each point of the edge all is still shown
pub growing_keeps : (a b : Geometry) (m n : Matrix) → IsPartOf m n → (e : Edge) → Covers a b m e → Covers a b n e
growing_keeps a b m n h e c x hx on_it = let s : ShowsPoint a b m e x = c x hx on_it in record {
  point = still_shown m n h _ _ Zero s.point;
  piece = λ f. still_shown m n h _ _ One (s.piece f);
  lower = λ f g. still_shown m n h _ _ Two (s.lower f g);
  upper = λ f g. still_shown m n h _ _ Two (s.upper f g);
}
