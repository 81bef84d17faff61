-- What an edge shows: the points that it shares with the other geometry.
use Rattle.std.proofs.Common.{◌≡◌, ◌⊎◌, ◌<◌, ◌+◌, ℕ, inl, inr, Bool, true, false, refl, sym, ◌∙◌, subst, List, [], ◌∷◌, length, get_or, take, arith}
use Rattle.std.specs.List.{All, Any, Contains}
use Rattle.std.proofs.lemmas.List.Elements.{All-nil, All-more, All-weaker}
use Rattle.geometry_model.specs.Points.{Point, IsPoint}
use Rattle.geometry_model.specs.Geometries.{Edge, Geometry, kind, edges, lines, listed}
use Rattle.geometry_model.specs.Sides.{on}
use Rattle.geometry_model.specs.Locations.{is_at, is_odd_end, locate}
use Rattle.geometry_model.specs.Dimensions.{Matrix}
use Rattle.geometry_model.specs.declared.shapes.Kind.TheVariants as kinds
use Rattle.geometry_model.specs.declared.point_sets.Dimension.TheVariants.{Zero}
use Rattle.matrix_laws.specs.Gaps.{EdgeGaps, AreGaps, of_own_edges}
use Rattle.matrix_laws.proofs.GapTheorems.{mostly_is_located, own_edges_are_mostly}
use Rattle.matrix_laws.specs.Cells.{Shows, IsPartOf, Covers}
use Rattle.matrix_laws.proofs.Growing.{still_shown, shows_at}
use Rattle.matrix_laws.proofs.CellTheorems.{growing_keeps}
use Rattle.matrix_laws.specs.Covering.{ShowsEnds}
use Rattle.de9im.specs.Raising.{IsOnBoth, IsReady}
use Rattle.de9im.specs.declared.gap_cells.Pass.{Pass}
use Rattle.de9im.specs.declared.gap_cells.Pass.TheVariants.{First, Second}
use Rattle.de9im.proofs.Growth.{covered_kept}

-- what is shown of ends stays shown
pub ends_kept : (a b : Geometry) (m n : Matrix) → IsPartOf m n → ShowsEnds a b m → ShowsEnds a b n
ends_kept a b m n part s = record {
  of_first = λ k x hx h. still_shown m n part _ _ Zero (s.of_first k x hx h);
  of_second = λ k x hx h. still_shown m n part _ _ Zero (s.of_second k x hx h);
  positions = covered_kept a b (listed b) m n part s.positions;
}

pub covers_kept : (a b : Geometry) (es : List Edge) (m n : Matrix) → IsPartOf m n → All (Covers a b m) es → All (Covers a b n) es
covers_kept a b es m n part all = All-weaker (Covers a b m) (Covers a b n) (growing_keeps a b m n part) es all

pub ready_kept : (pass : Pass) (a b : Geometry) (m n : Matrix) → IsPartOf m n → IsReady pass a b m → IsReady pass a b n
ready_kept First a b m n part ready = tt
ready_kept Second a b m n part ready = covers_kept a b (edges b) m n part ready

pub points_kept : (a b : Geometry) (ps : List Point) (m n : Matrix) → IsPartOf m n → All (λ p. Shows m (locate a p) (locate b p) Zero) ps → All (λ p. Shows n (locate a p) (locate b p) Zero) ps
points_kept a b ps m n part all = All-weaker (λ p. Shows m (locate a p) (locate b p) Zero) (λ p. Shows n (locate a p) (locate b p) Zero) (λ p s. still_shown m n part _ _ Zero s) ps all

-- a point of an own edge lies where these mostly do, or is an odd end
pub no_edges : {X : Type 0} (e : Edge) → Contains [] e → X
no_edges e c = absurd (omega (arith, c.1))

none_listed : (x : Point) → All (λ a. is_at x a ≡ false) []
none_listed x = All-nil (λ a. is_at x a ≡ false)

mostly_there : (g : Geometry) (e : Edge) (x : Point) → Contains (edges g) e → on e x ≡ true → IsPoint x → (kind g ≡ kinds.Line → is_odd_end (lines g) x ≡ false) → All (λ a. is_at x a ≡ false) (listed g) → locate g x ≡ of_own_edges (kind g)
mostly_there g e x c h hx f none = mostly_is_located g x hx f none ∙ own_edges_are_mostly g e c x h

by_end : (g : Geometry) (x : Point) (t : Bool) → is_odd_end (lines g) x ≡ t → ((is_odd_end (lines g) x ≡ false) → locate g x ≡ of_own_edges kinds.Line) → kind g ≡ kinds.Line → (locate g x ≡ of_own_edges kinds.Line) ⊎ ((kind g ≡ kinds.Line) × (is_odd_end (lines g) x ≡ true))
by_end g x true e f k = inr (k, e)
by_end g x false e f k = inl (f e)

pub own_point : (g : Geometry) (e : Edge) (x : Point) → Contains (edges g) e → on e x ≡ true → IsPoint x → (locate g x ≡ of_own_edges (kind g)) ⊎ ((kind g ≡ kinds.Line) × (is_odd_end (lines g) x ≡ true))
own_point (Geometry.Point o) e x c h hx = no_edges e c
own_point (Geometry.MultiPoint ps) e x c h hx = no_edges e c
own_point (Geometry.LineString l) e x c h hx = by_end (Geometry.LineString l) x (is_odd_end (l ∷ []) x) refl (λ f. mostly_there (Geometry.LineString l) e x c h hx (λ _. f) (none_listed x)) refl
own_point (Geometry.MultiLineString ls) e x c h hx = by_end (Geometry.MultiLineString ls) x (is_odd_end ls x) refl (λ f. mostly_there (Geometry.MultiLineString ls) e x c h hx (λ _. f) (none_listed x)) refl
own_point (Geometry.Polygon rs) e x c h hx = inl (mostly_there (Geometry.Polygon rs) e x c h hx (λ k. absurd (let z : kinds.Area ≡ kinds.Line = k in cc)) (none_listed x))
own_point (Geometry.MultiPolygon es) e x c h hx = inl (mostly_there (Geometry.MultiPolygon es) e x c h hx (λ k. absurd (let z : kinds.Area ≡ kinds.Line = k in cc)) (none_listed x))

abbrev pub Applies : Point → Geometry → Type 0
Applies x g = (locate g x ≡ of_own_edges (kind g)) ⊎ ((kind g ≡ kinds.Line) × (is_odd_end (lines g) x ≡ true))

-- where the own edges' parts share a point, and all odd ends are shown, so is each point on both
pub shared_shown : (a b : Geometry) (m : Matrix) (x : Point) → ShowsEnds a b m → IsOnBoth a b x → Shows m (of_own_edges (kind a)) (of_own_edges (kind b)) Zero → Shows m (locate a x) (locate b x) Zero
shared_shown a b m x ends both meets = go (own a both.on_first) (own b both.on_second)
  where
    own : (g : Geometry) → Any (λ e. on e x ≡ true) (edges g) → Applies x g
    own g s = own_point g s.1 x (s.0, s.2, s.3) s.4 both.is_point

    go : Applies x a → Applies x b → Shows m (locate a x) (locate b x) Zero
    go (inr o) t = ends.of_first o.0 x both.is_point o.1
    go (inl e) (inr o) = ends.of_second o.0 x both.is_point o.1
    go (inl e) (inl f) = shows_at m Zero _ _ _ _ (sym e) (sym f) meets

pub all_shared_shown : (a b : Geometry) (m : Matrix) (xs : List Point) → ShowsEnds a b m → All (IsOnBoth a b) xs → Shows m (of_own_edges (kind a)) (of_own_edges (kind b)) Zero → All (λ x. Shows m (locate a x) (locate b x) Zero) xs
all_shared_shown a b m xs ends both meets = All-weaker (IsOnBoth a b) (λ x. Shows m (locate a x) (locate b x) Zero) (λ x h. shared_shown a b m x ends h meets) xs both

-- the points that an edge shares are on both
pub shared_on_both : (a b : Geometry) (e : Edge) (g : EdgeGaps) → Contains (edges a) e → AreGaps e (edges b) g → All (IsOnBoth a b) g.shared
shared_on_both a b e g c are = All-weaker (λ p. IsPoint p × (on e p ≡ true) × Any (λ f. on f p ≡ true) (edges b)) (IsOnBoth a b)
    (λ p h. record { is_point = h.0; on_first = (c.0, e, c.1, c.2, h.1); on_second = h.2 }) g.shared are.shared_on

-- one point more, and one edge more
pub points_more : (a b : Geometry) (ps : List Point) (i : ℕ) (p : Point) (m n : Matrix) → i < length ps → p ≡ get_or ps i p → IsPartOf m n → All (λ x. Shows m (locate a x) (locate b x) Zero) (take i ps)
    → Shows n (locate a p) (locate b p) Zero → All (λ x. Shows n (locate a x) (locate b x) Zero) (take (i + 1) ps)
points_more a b ps i p m n l e part all one = All-more (λ x. Shows n (locate a x) (locate b x) Zero) ps i p l (points_kept a b (take i ps) m n part all) (subst (λ x. Shows n (locate a x) (locate b x) Zero) e one)

pub edges_more : (a b : Geometry) (es : List Edge) (i : ℕ) (e : Edge) (m n : Matrix) → i < length es → e ≡ get_or es i e → IsPartOf m n → All (Covers a b m) (take i es) → Covers a b n e → All (Covers a b n) (take (i + 1) es)
edges_more a b es i e m n l eq part all one = All-more (Covers a b n) es i e l (covers_kept a b (take i es) m n part all) (subst (Covers a b n) eq one)
