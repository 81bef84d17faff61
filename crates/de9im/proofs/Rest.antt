-- What is left to show of the first geometry's edges where the matrix covers the second's: what lies off these.
use Rattle.std.proofs.Common.{◌≡◌, ◌≢◌, ◌⊎◌, inl, inr, true, sym, subst, All, Contains}
use Rattle.geometry_model.specs.Points.{Point, IsPoint}
use Rattle.geometry_model.specs.Geometries.{Edge, Geometry, edges}
use Rattle.geometry_model.specs.Sides.{on}
use Rattle.geometry_model.specs.Pieces.{stretches}
use Rattle.geometry_model.specs.Dimensions.{Matrix}
use Rattle.geometry_model.specs.Validity.{IsValid}
use Rattle.geometry_laws.proofs.Each.{Passing, each_at}
use Rattle.geometry_laws.proofs.RingParity.{each_from_all}
use Rattle.matrix_laws.proofs.Closing.{valid_rings_are_closed}
use Rattle.matrix_laws.proofs.MatrixLists.{Some_of, some_from_any}
use Rattle.matrix_laws.specs.Cells.{ShowsPoint, Covers}
use Rattle.matrix_laws.specs.Gaps.{EdgeGaps, AreGaps, IsGap, IsWithin, mostly}
use Rattle.matrix_laws.proofs.GapTheorems.{gap_end_is_alike}
use Rattle.matrix_laws.specs.Covering.{IsOffEdges, ShowsOff, ShowsEnds}
use Rattle.matrix_laws.specs.CoveringLaws.{IsFullOff}
use Rattle.matrix_laws.proofs.Located.{on_or_off, off_is_shown}
use Rattle.matrix_laws.proofs.FullCovering.{full_off_at}
use Rattle.matrix_laws.proofs.HeldCovering.{shown_by_covered}
use Rattle.de9im.specs.Raising.{ShowsGapIn}
use Rattle.de9im.specs.declared.gap_cells.Pass.TheVariants.{Second}

-- ---- a point off the second geometry's edges lies as the sample of the gap that holds it
record Held (a b : Geometry) (m : Matrix) (e : Edge) (x : Point) : Type 0 where
  pub p : Point
  pub q : Point
  pub gap : IsGap e (edges b) p q
  pub shows : ShowsGapIn Second a b m e p q
  pub within : IsWithin (record { lesser = p; greater = q }) x

held : (a b : Geometry) (e : Edge) (g : EdgeGaps) → AreGaps e (edges b) g → (m : Matrix) → All (λ c. ShowsGapIn Second a b m e c.lesser c.greater) (stretches g.stops) → (x : Point) → IsPoint x → on e x ≡ true → Held a b m e x
held a b e g h m s x hx k = go (some_from_any (λ c. IsWithin c x) (stretches g.stops) (h.whole x hx k))
  where
    go : Some_of (λ c. IsWithin c x) (stretches g.stops) → Held a b m e x
    go r = record {
      p = r.found.lesser;
      q = r.found.greater;
      gap = each_at (λ c. IsGap e (edges b) c.lesser c.greater) (stretches g.stops) r.found (each_from_all (λ c. IsGap e (edges b) c.lesser c.greater) (stretches g.stops) h.gaps) r.among;
      shows = each_at (λ c. ShowsGapIn Second a b m e c.lesser c.greater) (stretches g.stops) r.found (each_from_all (λ c. ShowsGapIn Second a b m e c.lesser c.greater) (stretches g.stops) s) r.among;
      within = record { not_before = (r.has).not_before; not_after = (r.has).not_after };
    }

off_shown : (a b : Geometry) → IsValid b → (m : Matrix) → ShowsEnds a b m → (e : Edge) → Contains (edges a) e → (x : Point) → IsPoint x → on e x ≡ true → Held a b m e x → IsOffEdges b x → ShowsPoint a b m e x
off_shown a b vb m t e c x hx k h o = go (gap_end_is_alike b (valid_rings_are_closed b vb) e h.p h.q h.gap x (h.shows).sample (h.shows).between hx k h.within o)
  where
    go : (mostly b x ≡ mostly b (h.shows).sample) × IsOffEdges b (h.shows).sample → ShowsPoint a b m e x
    go r = off_is_shown a b m t e c x hx k o (subst (ShowsOff a m e) (sym r.0) ((h.shows).shows r.1))

-- a matrix that covers the second geometry's edges covers an edge of the first where it shows the gaps off them
pub gaps_off_cover : (a b : Geometry) → IsValid b → (e : Edge) → Contains (edges a) e → e.start ≢ e.end → (g : EdgeGaps) → AreGaps e (edges b) g → (m : Matrix) → ShowsEnds a b m → All (Covers a b m) (edges b)
    → All (λ c. ShowsGapIn Second a b m e c.lesser c.greater) (stretches g.stops) → Covers a b m e
gaps_off_cover a b vb e c w g r m t covered s x hx k = go (on_or_off b x)
  where
    go : Passing (λ f. on f x) (edges b) ⊎ IsOffEdges b x → ShowsPoint a b m e x
    go (inl p) = shown_by_covered a b m covered e c w x hx k p
    go (inr o) = off_shown a b vb m t e c x hx k (held a b e g r m s x hx k) o

-- and where it shows all that gaps of the edge off them can show
pub full_off_is_enough : (a b : Geometry) → (e : Edge) → Contains (edges a) e → e.start ≢ e.end → (m : Matrix)
    → ShowsEnds a b m → All (Covers a b m) (edges b) → IsFullOff a b m e → Covers a b m e
full_off_is_enough a b e c w m t covered h x hx k = go (on_or_off b x)
  where
    go : Passing (λ f. on f x) (edges b) ⊎ IsOffEdges b x → ShowsPoint a b m e x
    go (inl p) = shown_by_covered a b m covered e c w x hx k p
    go (inr o) = off_is_shown a b m t e c x hx k o (full_off_at a b m e h x o)
