-- Lines and rings by their numbers, and their first and last positions.
use Rattle.std.proofs.Common.{◌≡◌, ◌≢◌, refl, sym, ap, subst, ◌∙◌, ℕ, ◌-◌, ◌<◌, Bool, true, List, [], ◌∷◌, length, Some, None, slice_get, arith}
use Rattle.geometry_model.specs.Points.{Position, point_at}
use Rattle.geometry_model.specs.Geometries.{Geometry, rings}
use Rattle.geometry_model.specs.Locations.{last_after}
use Rattle.geometry_model.specs.WellKnownText.{same_position}
use Rattle.geometry_model.specs.Crossings.{odd_above}
use Rattle.geometry_model.specs.Validity.{HasFault, IsNotClosed, inside, inside_element}
use Rattle.geometry_model.specs.declared.validity_faults.ValidityFault.TheVariants.{RingNotClosed}
use Rattle.geometry_model.specs.declared.shapes.Kind.TheVariants as kinds
use Rattle.std.specs.Ordering.{int_eq}
use Rattle.basics.proofs.Numbers.{one_less}
use Rattle.geometry_laws.proofs.OtherPoints.{same_from, same_self}

-- ---- no part is empty but an empty LINESTRING

-- ---- the lines of areas are rings

-- ---- first and last positions
pub no_first : (ring : List Position) → 0 < length ring → slice_get ring 0 ≡ None → ⊥
no_first [] h e = omega (arith, h)
no_first (p ∷ ps) h e = absurd cc

last_is : (p : Position) (ps : List Position) → slice_get (p ∷ ps) (length ps) ≡ Some (last_after p ps)
last_is p [] = refl
last_is p (q ∷ qs) = last_is q qs

last_of : (p : Position) (ps : List Position) (last : Position) → slice_get (p ∷ ps) (length (p ∷ ps) - 1) ≡ Some last → last_after p ps ≡ last
last_of p ps last e = let h : Some (last_after p ps) ≡ Some last = sym (ap (slice_get (p ∷ ps)) (one_less (length ps)) ∙ last_is p ps) ∙ e in cc

pub is_closed : (ring : List Position) (first last : Position) → slice_get ring 0 ≡ Some first → slice_get ring (length ring - 1) ≡ Some last → first ≡ last → IsNotClosed ring → ⊥
is_closed [] first last e f same isnt = isnt
is_closed (p ∷ ps) first last e f same isnt = let start : p ≡ first = cc in isnt (last_of p ps last f ∙ (sym same ∙ sym start))

pub isnt_closed : (ring : List Position) (first last : Position) → slice_get ring 0 ≡ Some first → slice_get ring (length ring - 1) ≡ Some last → first ≢ last → IsNotClosed ring
isnt_closed [] first last e f other = absurd cc
isnt_closed (p ∷ ps) first last e f other = let start : p ≡ first = cc in λ closes. other (sym start ∙ (sym closes ∙ last_of p ps last f))

pub equal_ends : (first last : Position) (b : Bool) → b ≡ same_position first last → b ≡ true → first ≡ last
equal_ends first last b e t = same_from first last (sym e ∙ t)

pub closed_none : (g : Geometry) (n : ℕ) (ring ps : List Position) (first last : Position) (b : Bool) → slice_get (rings g) n ≡ Some ring → ps ≡ ring → Some first ≡ slice_get ps 0 → Some last ≡ slice_get ps (length ps - 1) → b ≡ same_position first last → b ≡ true → HasFault g (RingNotClosed n) → ⊥
closed_none g n ring ps first last b at same first_at last_at test passes f =
    is_closed ps first last (sym first_at) (sym last_at) (equal_ends first last b test passes) (subst IsNotClosed (here (f.0) (sym f.1 ∙ at) ∙ sym same) f.2)
  where
    here : (r : List Position) → Some r ≡ Some ring → r ≡ ring
    here r e = cc

-- ---- a first position inside
pub inside_first : (outer ring : List Position) (at : Position) → slice_get ring 0 ≡ Some at → inside outer ring ≡ odd_above (outer ∷ []) (point_at at)
inside_first outer [] at e = absurd cc
inside_first outer (p ∷ ps) at e = let same : p ≡ at = cc in ap (λ (q : Position). odd_above (outer ∷ []) (point_at q)) same

pub polygon_first : (other polygon : List (List Position)) (outer : List Position) (at : Position) → slice_get polygon 0 ≡ Some outer → slice_get outer 0 ≡ Some at → inside_element other polygon ≡ odd_above other (point_at at)
polygon_first other [] outer at e f = absurd cc
polygon_first other ([] ∷ holes) outer at e f = let same : [] ≡ outer = cc in absurd (let h : None ≡ Some at = ap (λ (l : List Position). slice_get l 0) same ∙ f in cc)
polygon_first other ((p ∷ ps) ∷ holes) outer at e f = let same : (p ∷ ps) ≡ outer = cc in let h : Some p ≡ Some at = ap (λ (l : List Position). slice_get l 0) same ∙ f in
    let here : p ≡ at = cc in ap (λ (q : Position). odd_above other (point_at q)) here
