-- Edges that share no point with an edge of the other geometry: all of an edge is one gap, and lies in one part of the other.
use Rattle.std.proofs.Common.{◌≡◌, ◌≢◌, ◌⊎◌, inl, inr, refl, sym, ap, subst, ◌∙◌, true, false, List, []}
use Rattle.std.specs.List.{All, Contains, list_any}
use Rattle.std.proofs.lemmas.Bool.{false≢true}
use Rattle.std.proofs.lemmas.List.Elements.{All-nil}
use Rattle.std.specs.declared.cmp.Ordering.TheVariants.{Less}
use Rattle.geometry_model.specs.Points.{Position, Point, IsPoint, point_at, compare, least_form, mediant, same_point}
use Rattle.geometry_model.specs.Geometries.{Edge, Geometry, kind, edges}
use Rattle.geometry_model.specs.Sides.{on}
use Rattle.geometry_model.specs.Dimensions.{Matrix}
use Rattle.geometry_model.specs.FirstFaults.{share_point}
use Rattle.geometry_model.specs.Labels.{labelled_matrix}
use Rattle.geometry_model.specs.Validity.{IsValid, SharePoint}
use Rattle.geometry_model.specs.declared.shapes.Kind.{Kind}
use Rattle.geometry_model.specs.declared.shapes.Kind.TheVariants as kinds
use Rattle.geometry_model.specs.declared.point_sets.Location.{Location}
use Rattle.geometry_model.specs.declared.point_sets.Location.TheVariants.{Exterior}
use Rattle.geometry_model.proofs.DimensionFacts.{is_false}
use Rattle.geometry_laws.proofs.Each.{Among, Passing, each_at, each_of, none_passed, some_passed}
use Rattle.geometry_laws.proofs.CoverTheorems.{all_from_each}
use Rattle.geometry_laws.proofs.Cuts.{contains_of_among, not_less_self}
use Rattle.geometry_laws.proofs.PointOrder.{less_transitive, same_reflexive, same_symmetric}
use Rattle.geometry_laws.proofs.RingParity.{position_is_point}
use Rattle.geometry_laws.proofs.SharedPoints.{shared_point_is_decided}
use Rattle.edge_boxes.specs.EdgeCrossings.{AreCrossings}
use Rattle.edge_boxes.specs.RingEdges.{edges_share}
use Rattle.edge_boxes.specs.declared.point_crossings.Crossings.{Crossings}
use Rattle.validity.specs.ValidGeometries.{HasLength}
use Rattle.noding.proofs.Ends.{HasEnds, has_ends, at_low, at_high, not_before_low, not_after_high}
use Rattle.noding.proofs.Order.{NotAfter, not_after_cases}
use Rattle.matrix_laws.specs.Cells.{Covers}
use Rattle.matrix_laws.specs.Gaps.{IsBetween, IsGap, IsClear, IsShared, IsWithin, mostly}
use Rattle.matrix_laws.specs.Covering.{IsOffEdges, ShowsOff, ShowsEnds}
use Rattle.matrix_laws.proofs.Closing.{valid_rings_are_closed}
use Rattle.matrix_laws.proofs.MatrixLists.{among_from_contains}
use Rattle.matrix_laws.proofs.Shared.{start_on, end_on}
use Rattle.matrix_laws.proofs.Located.{off_is_shown}
use Rattle.matrix_laws.proofs.GapTheorems.{gap_has_mediant, gap_end_is_alike}
use Rattle.matrix_laws.proofs.CoveringTheorems.{gap_is_there}
use Rattle.de9im.specs.Raising.{IsApart, AreApart, IsRaisedTo, Grows, LiesOff, off_edges}
use Rattle.de9im.proofs.Growth.{grows_raised}
use Rattle.de9im.proofs.OffEdges.{off_part}

-- ---- edges that share no point
-- no point of the edge is on an edge of the geometry
pub apart_is_off : (b : Geometry) (e : Edge) → IsApart e b → (x : Point) → IsPoint x → on e x ≡ true → IsOffEdges b x
apart_is_off b e apart x hx h = all_from_each (λ f. on f x ≡ false) (edges b)
    (each_of (λ f. on f x ≡ false) (edges b) (λ f own. is_false (on f x) (λ k.
    false≢true (sym (each_at (λ g. share_point e g ≡ false) (edges b) f (none_passed (share_point e) (edges b) apart) own)
    ∙ (shared_point_is_decided e f).1 (record { at = x; is_point = hx; on_first = h; on_second = k })))))

-- an edge of a geometry that is apart from another
pub edge_apart : (a b : Geometry) → AreApart a b → (e : Edge) → Contains (edges a) e → IsApart e b
edge_apart a b apart e own = each_at (λ d. list_any (share_point d) (edges b) ≡ false) (edges a) e
    (none_passed (λ d. list_any (share_point d) (edges b)) (edges a) apart) (among_from_contains (edges a) e own)

-- it is the same the other way round
share_turned : (e f : Edge) → share_point e f ≡ true → share_point f e ≡ true
share_turned e f h =
    let s : SharePoint e f = (shared_point_is_decided e f).0 h in
    (shared_point_is_decided f e).1 (record { at = s.at; is_point = s.is_point; on_first = s.on_second; on_second = s.on_first })

pub apart_turned : (a b : Geometry) → AreApart a b → AreApart b a
apart_turned a b apart = is_false (edges_share (edges b) (edges a))
    (λ h. found (some_passed (λ f. list_any (share_point f) (edges a)) (edges b) h))
  where
    both : (f : Edge) → Among f (edges b) → Passing (share_point f) (edges a) → ⊥
    both f other own = false≢true (sym (each_at (λ g. share_point own.found g ≡ false) (edges b) f
        (none_passed (share_point own.found) (edges b)
        (edge_apart a b apart own.found (contains_of_among own.found (edges a) own.among))) other) ∙ share_turned f own.found
        own.passes)

    found : Passing (λ f. list_any (share_point f) (edges a)) (edges b) → ⊥
    found f = both f.found f.among (some_passed (share_point f.found) (edges a) f.passes)

-- ---- such an edge as one gap
not_past : (p x : Point) → IsPoint p → IsPoint x → NotAfter p x → compare x p ≡ Less → ⊥
not_past p x hp hx h f = go (not_after_cases p x h)
  where
    go : (compare p x ≡ Less) ⊎ (same_point p x ≡ true) → ⊥
    go (inl e) = not_less_self x x (same_reflexive x) (less_transitive x p x hx hp hx f e)
    go (inr s) = not_less_self x p (same_symmetric x p ∙ s) f

record WholeGap (e : Edge) (b : Geometry) : Type 0 where
  lesser : Point
  greater : Point
  gap : IsGap e (edges b) lesser greater
  within : (x : Point) → IsPoint x → on e x ≡ true → IsWithin (record { lesser = lesser; greater = greater }) x

whole_gap : (e : Edge) (b : Geometry) → e.start ≢ e.end → IsApart e b → WholeGap e b
whole_gap e b wide apart = go _ _ (has_ends e wide)
  where
    clear : (p q : Point) (f : Edge) → Among f (edges b) → IsClear e p q f ⊎ IsShared e p q f
    clear p q f own = inl (λ x between. is_false (on f x)
        (λ k. false≢true (sym (each_at (λ g. share_point e g ≡ false) (edges b) f (none_passed (share_point e) (edges b) apart)
        own)
        ∙ (shared_point_is_decided e f).1 (record {
          at = x;
          is_point = between.is_point;
          on_first = between.is_on;
          on_second = k;
        }))))

    go : (low high : Position) → HasEnds e low high → WholeGap e b
    go low high h = record {
      lesser = point_at low;
      greater = point_at high;
      gap = record {
        lesser_is_point = position_is_point low;
        greater_is_point = position_is_point high;
        lesser_on = at_low (λ a. on e (point_at a) ≡ true) e low high h (start_on e) (end_on e);
        greater_on = at_high (λ a. on e (point_at a) ≡ true) e low high h (start_on e) (end_on e);
        in_order = h.in_order;
        whole = all_from_each (λ f. IsClear e (point_at low) (point_at high) f ⊎ IsShared e (point_at low) (point_at high) f)
            (edges b)
            (each_of (λ f. IsClear e (point_at low) (point_at high) f ⊎ IsShared e (point_at low) (point_at high) f) (edges b)
            (clear (point_at low) (point_at high)));
      };
      within = λ x hx k. record {
        not_before = not_past (point_at low) x (position_is_point low) hx (not_before_low e low high h x hx k);
        not_after = λ f. not_past x (point_at high) hx (position_is_point high) (not_after_high e low high h x hx k) f;
      };
    }

-- ---- where it lies
-- all its points lie where a point within the gap does
abbrev sample_of : (e : Edge) (b : Geometry) → WholeGap e b → Point
sample_of e b w = least_form (mediant w.lesser w.greater)

between_ends : (e : Edge) (b : Geometry) (w : WholeGap e b) → IsBetween e w.lesser w.greater (sample_of e b w)
between_ends e b w = gap_has_mediant e (edges b) w.lesser w.greater w.gap

like_sample : (e : Edge) (b : Geometry) → IsValid b → IsApart e b → (w : WholeGap e b) → (x : Point) → IsPoint x → on e x ≡ true
    → mostly b x ≡ mostly b (sample_of e b w)
like_sample e b vb apart w x hx k = (gap_end_is_alike b (valid_rings_are_closed b vb) e w.lesser w.greater w.gap x
    (sample_of e b w) (between_ends e b w) hx k (w.within x hx k) (apart_is_off b e apart x hx k)).0

-- so any two of them lie alike
pub lie_alike : (e : Edge) (b : Geometry) → IsValid b → HasLength e → IsApart e b → (x y : Point) → IsPoint x → IsPoint y
    → on e x ≡ true → on e y ≡ true → mostly b x ≡ mostly b y
lie_alike e b vb long apart x y hx hy k l = at (whole_gap e b long apart)
  where
    at : WholeGap e b → mostly b x ≡ mostly b y
    at w = like_sample e b vb apart w x hx k ∙ sym (like_sample e b vb apart w y hy l)

-- the edge's start lies where its end does
pub start_like_end : (e : Edge) (b : Geometry) (l : Location) → IsValid b → HasLength e → IsApart e b → LiesOff b l e.end
    → LiesOff b l e.start
start_like_end e b l vb long apart h = record {
  off = apart_is_off b e apart (point_at e.start) (position_is_point e.start) (start_on e);
  part = h.part ∙ lie_alike e b vb long apart (point_at e.end) (point_at e.start) (position_is_point e.end)
      (position_is_point e.start) (end_on e) (start_on e);
}

-- ---- what it shows
-- all of the edge lies where its end does
pub apart_is_there : (a b : Geometry) (e : Edge) (l : Location) → IsApart e b → Contains (edges a) e → HasLength e
    → LiesOff b l e.end → IsValid a → IsValid b → ShowsOff a (labelled_matrix a b) e l
apart_is_there a b e l apart own long end va vb = at (whole_gap e b long apart)
  where
    at : WholeGap e b → ShowsOff a (labelled_matrix a b) e l
    at w =
        let y = sample_of e b w in
        let between = between_ends e b w in
        subst (ShowsOff a (labelled_matrix a b) e)
        (sym (end.part ∙ like_sample e b vb apart w (point_at e.end) (position_is_point e.end) (end_on e)))
        ((gap_is_there a b va vb e own long w.lesser w.greater y w.gap between).off
        (apart_is_off b e apart y between.is_point between.is_on))

-- raised by the edge, the matrix has grown by nothing but what is there
pub apart_grows : (a b : Geometry) (e : Edge) (l : Location) (m n : Matrix) → IsApart e b → Contains (edges a) e → HasLength e
    → LiesOff b l e.end → IsRaisedTo (λ o. ShowsOff a o e l) m n → Grows a b m n
apart_grows a b e l m n apart own long end r = grows_raised a b (λ o. ShowsOff a o e l) m n r
    (apart_is_there a b e l apart own long end)

-- .. and it covers the edge
pub apart_covers : (a b : Geometry) (e : Edge) (l : Location) (m : Matrix) → IsValid b → IsApart e b → Contains (edges a) e
    → HasLength e → LiesOff b l e.end → ShowsEnds a b m → ShowsOff a m e l → Covers a b m e
apart_covers a b e l m vb apart own long end t s x hx k = off_is_shown a b m t e own x hx k (apart_is_off b e apart x hx k)
    (subst (ShowsOff a m e) (end.part ∙ lie_alike e b vb long apart (point_at e.end) x (position_is_point e.end) hx (end_on e)
    k) s)

-- ---- beside a geometry that has no edges
-- an edge is apart from it
pub none_is_apart : (b : Geometry) (e : Edge) → edges b ≡ [] → IsApart e b
none_is_apart b e none = ap (list_any (share_point e)) none

-- each point is off its edges, mostly in its exterior
outside_none : (b : Geometry) → edges b ≡ [] → (x : Point) → IsOffEdges b x × (Exterior ≡ mostly b x)
outside_none b none x = (
  off,
  off_part b x nowhere (kind b) Exterior off
      (subst (λ (es : List Edge). AreCrossings nowhere es x) (sym none) (record { on = refl; above = refl; at_or_above = refl }))
      refl (outside (kind b)),
)
  where
    nowhere : Crossings
    nowhere = record { on = false; odd_above = false; odd_at_or_above = false }

    off : IsOffEdges b x
    off = subst (All (λ f. on f x ≡ false)) (sym none) (All-nil (λ f. on f x ≡ false))

    outside : (k : Kind) → Exterior ≡ off_edges k false
    outside kinds.Point = refl
    outside kinds.Line = refl
    outside kinds.Area = refl

pub lies_outside_none : (b : Geometry) → edges b ≡ [] → (at : Position) → LiesOff b Exterior at
lies_outside_none b none at = let far = outside_none b none (point_at at) in record { off = far.0; part = far.1 }

-- a matrix that shows an edge in its exterior covers the edge
pub outside_none_covers : (a b : Geometry) (e : Edge) (m : Matrix) → edges b ≡ [] → Contains (edges a) e → ShowsEnds a b m
    → ShowsOff a m e Exterior → Covers a b m e
outside_none_covers a b e m none own t s x hx k = let far = outside_none b none x in off_is_shown a b m t e own x hx k far.0
    (subst (ShowsOff a m e) far.1 s)
