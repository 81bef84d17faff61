-- What gaps show, raised step by step.
use Rattle.std.proofs.Common.{true, false, ◌⊎◌, inl, inr, ◌≡◌, ◌≢◌, ◌<◌, ◌+◌, ℕ, zero, suc, refl, sym, ap, ◌∙◌, subst, List, [], ◌∷◌, ◌++◌, length, get_or, take, arith}
use Rattle.std.specs.List.{All, Contains}
use Rattle.std.proofs.Math.Seq.{take-suc}
use Rattle.std.proofs.lemmas.List.Elements.{All-push, All-weaker, All-contains, All-contains_itself, All-same}
use Rattle.geometry_model.specs.Points.{Point, least_form, mediant}
use Rattle.geometry_model.specs.Geometries.{Edge, Geometry, kind, edges}
use Rattle.geometry_model.specs.Pieces.{Piece, stretches}
use Rattle.geometry_model.specs.Dimensions.{Matrix}
use Rattle.geometry_model.specs.Labels.{below, above}
use Rattle.geometry_model.specs.declared.shapes.Kind.TheVariants as kinds
use Rattle.geometry_model.specs.declared.point_sets.Location.{Location}
use Rattle.geometry_model.specs.declared.point_sets.Location.TheVariants.{Interior, Exterior}
use Rattle.geometry_model.specs.declared.point_sets.Dimension.TheVariants.{One, Two}
use Rattle.validity.specs.ValidGeometries.{HasLength}
use Rattle.matrix_laws.specs.Gaps.{IsBetween, IsClear, IsShared, IsGap, SharesNoStretch, mostly, of_own_edges}
use Rattle.matrix_laws.proofs.GapTheorems.{gap_has_mediant}
use Rattle.matrix_laws.specs.Cells.{Shows, raised, IsPartOf}
use Rattle.matrix_laws.proofs.Growing.{still_shown}
use Rattle.matrix_laws.specs.Covering.{IsOffEdges, IsHeld, ShowsOff, ShowsOn, ShowsAt, ShowsGap}
use Rattle.matrix_laws.specs.CoveringLaws.{IsFullAlong}
use Rattle.matrix_laws.proofs.HeldCovering.{holder, full_shows_on}
use Rattle.matrix_laws.proofs.Located.{on_or_off, not_off}
use Rattle.matrix_laws.proofs.Between.{least_mediant_between}
use Rattle.geometry_laws.proofs.PointOrder.{less_transitive}
use Rattle.geometry_laws.proofs.Each.{Passing}
use Rattle.geometry_laws.proofs.Cuts.{contains_of_among, not_less_self}
use Rattle.geometry_model.specs.Sides.{on}
use Rattle.geometry_model.specs.Labels.{labelled_matrix}
use Rattle.geometry_model.specs.Validity.{IsValid}
use Rattle.side_labels.specs.declared.piece_sides.Sides.{Sides}
use Rattle.de9im.specs.Raising.{IsRaisedTo, Grows, ShowsIn, ShowsGapIn, ShowsAllAlong, with_sides}
use Rattle.de9im.specs.declared.gap_cells.Pass.{Pass}
use Rattle.de9im.specs.declared.gap_cells.Pass.TheVariants.{First, Second}
use Rattle.de9im.proofs.Growth.{part_of_itself, raised_one, raised_two, raised_so, shown_kept, grows_raised}
use Rattle.matrix_laws.proofs.CoveringTheorems.{gap_is_there}

both_kept : (P Q : Matrix → Type 0) → ((m n : Matrix) → IsPartOf m n → P m → P n) → ((m n : Matrix) → IsPartOf m n → Q m → Q n) → (m n : Matrix) → IsPartOf m n → P m × Q m → P n × Q n
both_kept P Q p q m n part h = (p m n part h.0, q m n part h.1)

-- ---- off the second geometry's edges
pub off_upright : (a : Geometry) (e : Edge) (w l : Location) (m n : Matrix) → w ≡ of_own_edges (kind a) → e.start.x ≡ e.end.x → n ≡ raised m w l One → IsRaisedTo (λ o. ShowsOff a o e l) m n
off_upright a e w l m n ew up en = raised_so (λ o. Shows o w l One) (λ o. ShowsOff a o e l)
    (λ o s. record { piece = subst (λ (v : Location). Shows o v l One) ew s; outer = λ h. absurd (h up); inner = λ _ h. absurd (h up) })
    (λ o s. subst (λ (v : Location). Shows o v l One) (sym ew) s.piece)
    m n (raised_one m n w l One en)

pub off_one_sided : (a : Geometry) (e : Edge) (w l : Location) (m n o : Matrix) → w ≡ of_own_edges (kind a) → e.start.x ≢ e.end.x → kind a ≢ kinds.Area → n ≡ raised m w l One → o ≡ raised n Exterior l Two → IsRaisedTo (λ x. ShowsOff a x e l) m o
off_one_sided a e w l m n o ew not_upright other en eo = raised_so (λ x. Shows x w l One × Shows x Exterior l Two) (λ x. ShowsOff a x e l)
    (λ x s. record { piece = subst (λ (v : Location). Shows x v l One) ew s.0; outer = λ _. s.1; inner = λ h _. absurd (other h) })
    (λ x s. (subst (λ (v : Location). Shows x v l One) (sym ew) s.piece, s.outer not_upright))
    m o (raised_two (λ x. Shows x w l One) (λ x. Shows x Exterior l Two) (shown_kept w l One) m n o (raised_one m n w l One en) (raised_one n o Exterior l Two eo))

pub off_two_sided : (a : Geometry) (e : Edge) (w l : Location) (m n o r : Matrix) → w ≡ of_own_edges (kind a) → e.start.x ≢ e.end.x → kind a ≡ kinds.Area → n ≡ raised m w l One → o ≡ raised n Exterior l Two → r ≡ raised o Interior l Two
    → IsRaisedTo (λ x. ShowsOff a x e l) m r
off_two_sided a e w l m n o r ew not_upright area en eo er = raised_so (λ x. (Shows x w l One × Shows x Exterior l Two) × Shows x Interior l Two) (λ x. ShowsOff a x e l)
    (λ x s. record { piece = subst (λ (v : Location). Shows x v l One) ew s.0.0; outer = λ _. s.0.1; inner = λ _ _. s.1 })
    (λ x s. ((subst (λ (v : Location). Shows x v l One) (sym ew) s.piece, s.outer not_upright), s.inner area not_upright))
    m r (raised_two (λ x. Shows x w l One × Shows x Exterior l Two) (λ x. Shows x Interior l Two) (both_kept (λ x. Shows x w l One) (λ x. Shows x Exterior l Two) (shown_kept w l One) (shown_kept Exterior l Two)) m o r
    (raised_two (λ x. Shows x w l One) (λ x. Shows x Exterior l Two) (shown_kept w l One) m n o (raised_one m n w l One en) (raised_one n o Exterior l Two eo))
    (raised_one o r Interior l Two er))

-- ---- on an edge of the second geometry
pub on_upright : (a b : Geometry) (e : Edge) (y : Point) (w v : Location) (m n : Matrix) → w ≡ of_own_edges (kind a) → v ≡ of_own_edges (kind b) → e.start.x ≡ e.end.x → n ≡ raised m w v One → IsRaisedTo (λ o. ShowsOn a b o e y) m n
on_upright a b e y w v m n ew ev up en = raised_so (λ o. Shows o w v One) (λ o. ShowsOn a b o e y)
    (λ o s. record { piece = subst (λ (k : Location). Shows o (of_own_edges (kind a)) k One) ev (subst (λ (l : Location). Shows o l v One) ew s); lower = λ h. absurd (h up); upper = λ h. absurd (h up) })
    (λ o s. subst (λ (l : Location). Shows o l v One) (sym ew) (subst (λ (k : Location). Shows o (of_own_edges (kind a)) k One) (sym ev) s.piece))
    m n (raised_one m n w v One en)

pub on_not_upright : (a b : Geometry) (e : Edge) (y : Point) (w v : Location) (m n o r : Matrix) → w ≡ of_own_edges (kind a) → v ≡ of_own_edges (kind b) → e.start.x ≢ e.end.x
    → n ≡ raised m w v One → o ≡ raised n (below a y) (below b y) Two → r ≡ raised o (above a y) (above b y) Two → IsRaisedTo (λ x. ShowsOn a b x e y) m r
on_not_upright a b e y w v m n o r ew ev not_upright en eo er = raised_so (λ x. (Shows x w v One × Shows x (below a y) (below b y) Two) × Shows x (above a y) (above b y) Two) (λ x. ShowsOn a b x e y)
    (λ x s. record { piece = subst (λ (k : Location). Shows x (of_own_edges (kind a)) k One) ev (subst (λ (l : Location). Shows x l v One) ew s.0.0); lower = λ _. s.0.1; upper = λ _. s.1 })
    (λ x s. ((subst (λ (l : Location). Shows x l v One) (sym ew) (subst (λ (k : Location). Shows x (of_own_edges (kind a)) k One) (sym ev) s.piece), s.lower not_upright), s.upper not_upright))
    m r (raised_two (λ x. Shows x w v One × Shows x (below a y) (below b y) Two) (λ x. Shows x (above a y) (above b y) Two) (both_kept (λ x. Shows x w v One) (λ x. Shows x (below a y) (below b y) Two) (shown_kept w v One) (shown_kept (below a y) (below b y) Two)) m o r
    (raised_two (λ x. Shows x w v One) (λ x. Shows x (below a y) (below b y) Two) (shown_kept w v One) m n o (raised_one m n w v One en) (raised_one n o (below a y) (below b y) Two eo))
    (raised_one o r (above a y) (above b y) Two er))

-- raised by the sides as they were found
pub sides_are : (s t : Sides) (l k i j : Location) (m n : Matrix) → s.lower ≡ l → t.lower ≡ k → s.upper ≡ i → t.upper ≡ j → n ≡ with_sides s t m → n ≡ raised (raised m l k Two) i j Two
sides_are s t l k i j m n el ek ei ej e = e ∙ (λ z. raised (raised m (el z) (ek z) Two) (ei z) (ej z) Two)

-- ---- at a point
pub off_in : (pass : Pass) (a b : Geometry) (e : Edge) (y : Point) (l : Location) (m n : Matrix) → IsOffEdges b y → l ≡ mostly b y
    → IsRaisedTo (λ o. ShowsOff a o e l) m n → IsRaisedTo (λ o. ShowsIn pass a b o e y) m n
off_in First a b e y l m n off el r = raised_so (λ o. ShowsOff a o e l) (λ o. ShowsAt a b o e y)
    (λ o s. record { off = λ _. subst (ShowsOff a o e) el s; shared = λ h. absurd (h off) })
    (λ o s. subst (ShowsOff a o e) (sym el) (s.off off))
    m n r
off_in Second a b e y l m n off el r = raised_so (λ o. ShowsOff a o e l) (λ o. ShowsIn Second a b o e y)
    (λ o s _. subst (ShowsOff a o e) el s)
    (λ o s. subst (ShowsOff a o e) (sym el) (s off))
    m n r

pub on_in_first : (a b : Geometry) (e : Edge) (y : Point) (m n : Matrix) → (IsOffEdges b y → ⊥)
    → IsRaisedTo (λ o. ShowsOn a b o e y) m n → IsRaisedTo (λ o. ShowsIn First a b o e y) m n
on_in_first a b e y m n on r = raised_so (λ o. ShowsOn a b o e y) (λ o. ShowsAt a b o e y)
    (λ o s. record { off = λ h. absurd (on h); shared = λ _. s })
    (λ o s. s.shared on)
    m n r

pub on_in_second : (a b : Geometry) (e : Edge) (y : Point) (m : Matrix) → (IsOffEdges b y → ⊥) → IsRaisedTo (λ o. ShowsIn Second a b o e y) m m
on_in_second a b e y m on = record { grown = part_of_itself m; shows = λ h. absurd (on h); least = λ o part s. part }

-- ---- gap after gap
pub shows_off_kept : (a : Geometry) (e : Edge) (l : Location) (m n : Matrix) → IsPartOf m n → ShowsOff a m e l → ShowsOff a n e l
shows_off_kept a e l m n part s = record {
  piece = still_shown m n part (of_own_edges (kind a)) l One s.piece;
  outer = λ h. still_shown m n part Exterior l Two (s.outer h);
  inner = λ h k. still_shown m n part Interior l Two (s.inner h k);
}

shows_at_kept : (a b : Geometry) (e : Edge) (y : Point) (m n : Matrix) → IsPartOf m n → ShowsAt a b m e y → ShowsAt a b n e y
shows_at_kept a b e y m n part s = record {
  off = λ h. shows_off_kept a e (mostly b y) m n part (s.off h);
  shared = λ h. let t : ShowsOn a b m e y = s.shared h in record {
    piece = still_shown m n part (of_own_edges (kind a)) (of_own_edges (kind b)) One t.piece;
    lower = λ k. still_shown m n part (below a y) (below b y) Two (t.lower k);
    upper = λ k. still_shown m n part (above a y) (above b y) Two (t.upper k);
  };
}

shows_in_kept : (pass : Pass) (a b : Geometry) (e : Edge) (y : Point) (m n : Matrix) → IsPartOf m n → ShowsIn pass a b m e y → ShowsIn pass a b n e y
shows_in_kept First a b e y m n part s = shows_at_kept a b e y m n part s
shows_in_kept Second a b e y m n part s = λ h. shows_off_kept a e (mostly b y) m n part (s h)

shows_gaps_kept : (pass : Pass) (a b : Geometry) (e : Edge) (cs : List Piece) (m n : Matrix) → IsPartOf m n
    → All (λ c. ShowsGapIn pass a b m e c.lesser c.greater) cs → All (λ c. ShowsGapIn pass a b n e c.lesser c.greater) cs
shows_gaps_kept pass a b e cs m n part all =
    All-weaker (λ c. ShowsGapIn pass a b m e c.lesser c.greater) (λ c. ShowsGapIn pass a b n e c.lesser c.greater)
    (λ c s. record { sample = s.sample; between = s.between; shows = shows_in_kept pass a b e s.sample m n part s.shows }) cs all

stretches_to_next : (xs : List Point) (p q : Point) → stretches ((xs ++ p ∷ []) ++ q ∷ []) ≡ stretches (xs ++ p ∷ []) ++ record { lesser = p; greater = q } ∷ []
stretches_to_next [] p q = refl
stretches_to_next (x ∷ []) p q = refl
stretches_to_next (x ∷ y ∷ xs) p q = ap (λ (cs : List Piece). record { lesser = x; greater = y } ∷ cs) (stretches_to_next (y ∷ xs) p q)

pub stretches_more : (xs : List Point) (j i : ℕ) (p q : Point) → i ≡ j + 1 → i < length xs → p ≡ get_or xs j p → q ≡ get_or xs i q → stretches (take (i + 1) xs) ≡ stretches (take i xs) ++ record { lesser = p; greater = q } ∷ []
stretches_more xs j i p q ei l ep eq =
    ap stretches (until_next ∙ ap (λ ys. ys ++ q ∷ []) until_this) ∙ stretches_to_next (take j xs) p q ∙ ap (λ ys. stretches ys ++ record { lesser = p; greater = q } ∷ []) (sym until_this)
  where
    until_this : take i xs ≡ take j xs ++ p ∷ []
    until_this = ap (λ k. take k xs) (ei ∙ more j) ∙ take-suc xs j p (omega (arith, l, ei)) ∙ ap (λ (x : Point). take j xs ++ x ∷ []) (sym ep)
      where
        more : (n : ℕ) → n + 1 ≡ suc n
        more n = omega arith

    until_next : take (i + 1) xs ≡ take i xs ++ q ∷ []
    until_next = ap (λ k. take k xs) (more i) ∙ take-suc xs i q l ∙ ap (λ (x : Point). take i xs ++ x ∷ []) (sym eq)
      where
        more : (n : ℕ) → n + 1 ≡ suc n
        more n = omega arith

-- the stretch between two neighbouring points
further : (c d : Piece) (cs : List Piece) → Contains cs d → Contains (c ∷ cs) d
further c d cs h = (suc h.0, omega (arith, h.1), h.2)

stretch_at : (xs : List Point) (j i : ℕ) (p q : Point) → i ≡ j + 1 → i < length xs → p ≡ get_or xs j p → q ≡ get_or xs i q → Contains (stretches xs) (record { lesser = p; greater = q })
stretch_at [] j i p q ei l ep eq = absurd (omega (arith, l))
stretch_at (x ∷ []) j i p q ei l ep eq = absurd (omega (arith, l, ei))
stretch_at (x ∷ y ∷ xs) zero i p q ei l ep eq = (0, omega arith, λ k. record { lesser = sym ep k; greater = sym (eq ∙ ap (λ (n : ℕ). get_or (x ∷ y ∷ xs) n q) ei) k })
stretch_at (x ∷ y ∷ xs) (suc j) i p q ei l ep eq = further (record { lesser = x; greater = y }) (record { lesser = p; greater = q }) (stretches (y ∷ xs))
    (stretch_at (y ∷ xs) j (j + 1) p q refl (omega (arith, l, ei)) ep (eq ∙ ap (λ (n : ℕ). get_or (x ∷ y ∷ xs) n q) (ei ∙ more j)))
  where
    more : (n : ℕ) → suc n + 1 ≡ suc (n + 1)
    more n = omega arith

-- the gap between two neighbouring stops
pub gap_at : (e : Edge) (b : Geometry) (stops : List Point) (j i : ℕ) (p q : Point) → i ≡ j + 1 → i < length stops → p ≡ get_or stops j p → q ≡ get_or stops i q
    → All (λ c. IsGap e (edges b) c.lesser c.greater) (stretches stops) → IsGap e (edges b) p q
gap_at e b stops j i p q ei l ep eq gaps = All-contains (λ c. IsGap e (edges b) c.lesser c.greater) (stretches stops) (record { lesser = p; greater = q }) gaps (stretch_at stops j i p q ei l ep eq)

-- one gap more
pub gaps_more : (pass : Pass) (a b : Geometry) (e : Edge) (stops : List Point) (j i : ℕ) (p q y : Point) (m n : Matrix)
    → i ≡ j + 1 → i < length stops → p ≡ get_or stops j p → q ≡ get_or stops i q
    → All (λ c. IsGap e (edges b) c.lesser c.greater) (stretches stops) → y ≡ least_form (mediant p q)
    → IsRaisedTo (λ o. ShowsIn pass a b o e y) m n → All (λ c. ShowsGapIn pass a b m e c.lesser c.greater) (stretches (take i stops))
    → All (λ c. ShowsGapIn pass a b n e c.lesser c.greater) (stretches (take (i + 1) stops))
gaps_more pass a b e stops j i p q y m n ei l ep eq gaps ey r all =
    All-same (λ c. ShowsGapIn pass a b n e c.lesser c.greater) (stretches (take (i + 1) stops))
    (stretches (take i stops) ++ record { lesser = p; greater = q } ∷ [])
    (stretches_more stops j i p q ei l ep eq)
    (All-push (λ c. ShowsGapIn pass a b n e c.lesser c.greater) (stretches (take i stops)) (record { lesser = p; greater = q })
    (shows_gaps_kept pass a b e (stretches (take i stops)) m n r.grown all)
    (record {
      sample = y;
      between = subst (IsBetween e p q) (sym ey) (gap_has_mediant e (edges b) p q (gap_at e b stops j i p q ei l ep eq gaps));
      shows = r.shows;
    }))

-- what a pass looks at of a gap is there
gap_in_is_there : (pass : Pass) (a b : Geometry) → IsValid a → IsValid b → (e : Edge) → Contains (edges a) e → HasLength e
    → (p q y : Point) → IsGap e (edges b) p q → IsBetween e p q y → ShowsIn pass a b (labelled_matrix a b) e y
gap_in_is_there First a b va vb e own long p q y gap i = gap_is_there a b va vb e own long p q y gap i
gap_in_is_there Second a b va vb e own long p q y gap i = (gap_is_there a b va vb e own long p q y gap i).off

pub gap_grows : (pass : Pass) (a b : Geometry) (e : Edge) (p q y : Point) (m n : Matrix) → Contains (edges a) e → HasLength e
    → IsGap e (edges b) p q → y ≡ least_form (mediant p q) → IsRaisedTo (λ o. ShowsIn pass a b o e y) m n → Grows a b m n
gap_grows pass a b e p q y m n own long gap ey r = grows_raised a b (λ o. ShowsIn pass a b o e y) m n r
    (λ va vb. gap_in_is_there pass a b va vb e own long p q y gap (subst (IsBetween e p q) (sym ey) (gap_has_mediant e (edges b) p q gap)))

-- ---- where nothing more can be shown of an edge, each of its gaps is shown
pub gaps_full : (pass : Pass) (a b : Geometry) (e : Edge) (stops : List Point) (m : Matrix) → ShowsAllAlong pass a b m e
    → All (λ c. IsGap e (edges b) c.lesser c.greater) (stretches stops) → All (λ c. ShowsGapIn pass a b m e c.lesser c.greater) (stretches stops)
gaps_full pass a b e stops m h all =
    All-weaker (λ c. IsGap e (edges b) c.lesser c.greater) (λ c. ShowsGapIn pass a b m e c.lesser c.greater) shown (stretches stops) all
  where
    by : (p q : Point) → IsBetween e p q (least_form (mediant p q)) → ShowsGapIn pass a b m e p q
    by p q i = record { sample = least_form (mediant p q); between = i; shows = h (least_form (mediant p q)) i.is_point i.is_on }

    shown : (c : Piece) → IsGap e (edges b) c.lesser c.greater → ShowsGapIn pass a b m e c.lesser c.greater
    shown c g = by c.lesser c.greater (gap_has_mediant e (edges b) c.lesser c.greater g)

-- a held edge has no gap off the edges
pub held_shows_off : (a b : Geometry) (m : Matrix) (e : Edge) → IsHeld (edges b) e → ShowsAllAlong Second a b m e
held_shows_off a b m e h y hy l o = absurd (go (holder (edges b) e h y hy l))
  where
    go : Passing (λ f. on f y) (edges b) → ⊥
    go p = not_off b p.found (contains_of_among p.found (edges b) p.among) y p.passes o

-- the first pass looks at all that the second does, and at what edges share
pub all_along : (a b : Geometry) (m : Matrix) (e : Edge) → ShowsAllAlong Second a b m e → IsFullAlong a b m e → ShowsAllAlong First a b m e
all_along a b m e off full y hy l = record { off = off y hy l; shared = λ _. full_shows_on a b m e full y }

-- so it shows the gaps as the laws have them
pub gaps_of_first : (a b : Geometry) (m : Matrix) (e : Edge) (cs : List Piece) → All (λ c. ShowsGapIn First a b m e c.lesser c.greater) cs
    → All (λ c. ShowsGap a b m e c.lesser c.greater) cs
gaps_of_first a b m e cs all = All-weaker (λ c. ShowsGapIn First a b m e c.lesser c.greater) (λ c. ShowsGap a b m e c.lesser c.greater)
    (λ c s. record { sample = s.sample; between = s.between; shows = s.shows }) cs all

-- ---- where no edge of b shares a stretch, each gap lies off these edges
gap_is_apart : (b : Geometry) (e : Edge) (p q : Point) → SharesNoStretch e (edges b) → IsGap e (edges b) p q → (y : Point) → IsBetween e p q y → IsOffEdges b y
gap_is_apart b e p q apart gap y i = go (on_or_off b y)
  where
    z : Point
    z = least_form (mediant p y)

    nearer : IsBetween e p y z
    nearer = least_mediant_between e p y
        (record { lesser = gap.lesser_is_point; greater = i.is_point; lesser_on = gap.lesser_on; greater_on = i.is_on; in_order = i.after })

    between : IsBetween e p q z
    between = record {
      is_point = nearer.is_point;
      is_on = nearer.is_on;
      after = nearer.after;
      before = less_transitive z y q nearer.is_point i.is_point gap.greater_is_point nearer.before i.before;
    }

    -- an edge that holds a point of the gap would hold a second one too
    held : (f : Edge) → Contains (edges b) f → on f y ≡ true → IsClear e p q f ⊎ IsShared e p q f → ⊥
    held f c k (inl clear) = let clash : true ≡ false = sym k ∙ clear y i in cc
    held f c k (inr shared) =
        not_less_self z y (apart f c shared.0 z y nearer.is_point i.is_point nearer.is_on (shared.1 z between) i.is_on k) nearer.before

    go : Passing (λ f. on f y) (edges b) ⊎ IsOffEdges b y → IsOffEdges b y
    go (inl s) =
        let own : Contains (edges b) s.found = contains_of_among s.found (edges b) s.among in
        absurd (held s.found own s.passes (All-contains (λ f. IsClear e p q f ⊎ IsShared e p q f) (edges b) s.found gap.whole own))
    go (inr o) = o

pub gaps_apart : (a b : Geometry) (m : Matrix) (e : Edge) (cs : List Piece) → SharesNoStretch e (edges b)
    → All (λ c. IsGap e (edges b) c.lesser c.greater) cs → All (λ c. ShowsGapIn Second a b m e c.lesser c.greater) cs
    → All (λ c. ShowsGap a b m e c.lesser c.greater) cs
gaps_apart a b m e cs apart gaps all =
    All-weaker (Contains cs) (λ c. ShowsGap a b m e c.lesser c.greater)
    (λ c own. shown c (All-contains (λ d. IsGap e (edges b) d.lesser d.greater) cs c gaps own)
    (All-contains (λ d. ShowsGapIn Second a b m e d.lesser d.greater) cs c all own)) cs (All-contains_itself cs)
  where
    shown : (c : Piece) → IsGap e (edges b) c.lesser c.greater → ShowsGapIn Second a b m e c.lesser c.greater → ShowsGap a b m e c.lesser c.greater
    shown c gap s = record {
      sample = s.sample;
      between = s.between;
      shows = record { off = s.shows; shared = λ h. absurd (h (gap_is_apart b e c.lesser c.greater apart gap s.sample s.between)) };
    }
