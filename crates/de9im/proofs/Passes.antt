-- The two passes: from what each shows to the matrix.
use Rattle.std.proofs.Common.{◌≡◌, refl, sym, ap, ◌∙◌, subst}
use Rattle.std.specs.List.{All}
use Rattle.std.proofs.lemmas.List.Elements.{All-weaker}
use Rattle.geometry_model.specs.Geometries.{Geometry, edges, listed}
use Rattle.geometry_model.specs.Dimensions.{Matrix, IsMatrix, cell, transposed}
use Rattle.geometry_model.specs.Labels.{labelled_matrix}
use Rattle.geometry_model.specs.Validity.{IsValid}
use Rattle.geometry_model.specs.declared.point_sets.Location.{Location}
use Rattle.geometry_model.specs.declared.point_sets.Location.TheVariants.{Interior, Boundary, Exterior}
use Rattle.geometry_model.specs.declared.point_sets.Dimension.{Dimension}
use Rattle.geometry_model.specs.declared.point_sets.Dimension.TheVariants.{Zero, Two}
use Rattle.matrix_laws.proofs.Closing.{valid_rings_are_closed}
use Rattle.matrix_laws.proofs.Matrices.{labels_give_matrix}
use Rattle.matrix_laws.specs.Cells.{at_most, Shows, IsPartOf, IsSound, Covers, CoversPosition}
use Rattle.matrix_laws.proofs.Growing.{still_shown, cell_of}
use Rattle.matrix_laws.proofs.CellTheorems.{covering_is_whole, covers_turned}
use Rattle.matrix_laws.specs.Covering.{ShowsEnds}
use Rattle.de9im.specs.Cells.{of_exteriors}
use Rattle.de9im.specs.Raising.{Grows, ShowsOwnEnds}
use Rattle.de9im.proofs.Growth.{covered_kept, part_through}
use Rattle.de9im.proofs.OddEnds.{odd_ends_kept}
use Rattle.de9im.proofs.EdgePoints.{covers_kept}

-- ---- the other way round
turned_cell : (m : Matrix) (l k : Location) → cell (transposed m) l k ≡ cell m k l
turned_cell m l k = cell_of (λ i j. cell m j i) l k

pub turned_shows : (m : Matrix) (l k : Location) (d : Dimension) → Shows m l k d → Shows (transposed m) k l d
turned_shows m l k d s = ap (at_most d) (turned_cell m k l) ∙ s

part_turned : (m n : Matrix) → IsPartOf m n → IsPartOf (transposed m) (transposed n)
part_turned m n part l k = ap (λ (d : Dimension). at_most d (cell (transposed n) l k)) (turned_cell m l k) ∙ (ap (at_most (cell m k l)) (turned_cell n l k) ∙ part k l)

-- ---- ends
own_kept : (a b : Geometry) (m n : Matrix) → IsPartOf m n → ShowsOwnEnds a b m → ShowsOwnEnds a b n
own_kept a b m n part s = record {
  positions = covered_kept a b (listed a) m n part s.positions;
  odd_ends = odd_ends_kept a b m n part s.odd_ends;
}

both_ends : (a b : Geometry) (m : Matrix) → ShowsOwnEnds a b m → ShowsOwnEnds b a (transposed m) → ShowsEnds a b m
both_ends a b m own other = record {
  of_first = own.odd_ends;
  of_second = λ k x hx h. turned_shows (transposed m) _ _ Zero (other.odd_ends k x hx h);
  positions = All-weaker (CoversPosition b a (transposed m)) (CoversPosition a b m) (λ p s. turned_shows (transposed m) _ _ Zero s) (listed b) other.positions;
}

-- before the pass of the second geometry's edges
pub ends_turned : (a b : Geometry) (m t : Matrix) → ShowsOwnEnds a b m → IsPartOf (transposed m) t → ShowsOwnEnds b a t → ShowsEnds b a t
ends_turned a b m t own part other = both_ends b a t other (own_kept a b m (transposed t) (part_turned (transposed m) t part) own)

-- before the pass of the first's
pub ends_again : (a b : Geometry) (m s t : Matrix) → ShowsOwnEnds a b m → IsPartOf (transposed m) s → ShowsOwnEnds b a s → IsPartOf s t → ShowsEnds a b (transposed t)
ends_again a b m s t own part other more = both_ends a b (transposed t) (own_kept a b m (transposed t) (part_turned (transposed m) t (part_through (transposed m) s t part more)) own) (own_kept b a s t more other)

-- what the pass of the second's edges covers
pub covered_turned : (a b : Geometry) (t : Matrix) → All (Covers b a t) (edges b) → All (Covers a b (transposed t)) (edges b)
covered_turned a b t all = All-weaker (Covers b a t) (Covers a b (transposed t)) (covers_turned b a t).0 (edges b) all

-- ---- the whole
start_is_sound : (a b : Geometry) → IsSound a b of_exteriors
start_is_sound a b Interior Interior = refl
start_is_sound a b Interior Boundary = refl
start_is_sound a b Interior Exterior = refl
start_is_sound a b Boundary Interior = refl
start_is_sound a b Boundary Boundary = refl
start_is_sound a b Boundary Exterior = refl
start_is_sound a b Exterior Interior = refl
start_is_sound a b Exterior Boundary = refl
start_is_sound a b Exterior Exterior = refl

-- the matrices one after another: from the start, with the first geometry's ends, turned with the second's ends, with its edges, turned back with the first's edges
pub passes_give : (a b : Geometry) (m s t n : Matrix) → IsValid a → IsValid b
    → Grows a b of_exteriors m → ShowsOwnEnds a b m
    → Grows b a (transposed m) s → ShowsOwnEnds b a s
    → Grows b a s t → All (Covers b a t) (edges b)
    → Grows a b (transposed t) n → All (Covers a b n) (edges a)
    → n ≡ labelled_matrix a b
passes_give a b m s t n va vb gm om gs os gt ct gn cn = covering_is_whole a b (valid_rings_are_closed a va) (valid_rings_are_closed b vb) n cn
    (covers_kept a b (edges b) (transposed t) n gn.grown (covered_turned a b t ct))
    (covered_kept a b (listed a) m n upto om.positions)
    (covered_kept a b (listed b) (transposed t) n gn.grown (All-weaker (CoversPosition b a t) (CoversPosition a b (transposed t)) (covers_turned b a t).1 (listed b) (covered_kept b a (listed b) s t gt.grown os.positions)))
    (still_shown of_exteriors n (part_through of_exteriors m n gm.grown upto) Exterior Exterior Two refl)
    (gn.sound va vb ((covers_turned b a t).2 (gt.sound vb va (gs.sound vb va ((covers_turned a b m).2 (gm.sound va vb (start_is_sound a b)))))))
  where
    upto : IsPartOf m n
    upto = part_through m (transposed t) n (part_turned (transposed m) t (part_through (transposed m) s t gs.grown gt.grown)) gn.grown

pub is_matrix : (a b : Geometry) (n : Matrix) → IsValid a → IsValid b → n ≡ labelled_matrix a b → IsMatrix a b n
is_matrix a b n va vb e = subst (IsMatrix a b) (sym e) (labels_give_matrix a b va vb)
