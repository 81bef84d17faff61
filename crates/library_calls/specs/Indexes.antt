-- Envelopes by their bounds, and what a search of an index finds among them.
use Rattle.std.specs.Prelude.{◌≡◌, ◌↔◌, ◌≤ℤ◌, ℕ, suc, pos, negsuc, int_le, Bool, true, ◌&&◌, ◌||◌, cond, if◌then◌else◌, List, [], ◌∷◌, Option, Some, None}
use Rattle.std.specs.Option.{option_map_or}
use Rattle.std.specs.Ordering.{int_eq}
use Rattle.geometry_model.specs.Envelopes.{Envelope, overlap}
use Rattle.geometry_model.specs.Points.{Position}
use Rattle.rtree.specs.Found.{meeting_places}
use Rattle.library_calls.specs.Kept.{position, status_of_room}
use Rattle.library_calls.specs.Refusals.{ok, unknown}
use Rattle.library_calls.specs.Written.{is_on_grid}
use Rattle.library_calls.specs.declared.bounds.Unbuilt.{Unbuilt}
use Rattle.library_calls.specs.declared.bounds.Unbuilt.TheVariants as unbuilt

-- the bounds 0, -1, 0, -1 are those of the envelope of an empty geometry (this project's choice)
abbrev pub are_of_none : Envelope → Bool
are_of_none b = int_eq b.least_x (pos 0) && int_eq b.greatest_x (negsuc 0) && int_eq b.least_y (pos 0) && int_eq b.greatest_y (negsuc 0)

-- the least bounds aren't past the greatest, and both corners are within the limit (06-103r4, 6.1.2.2: Envelope)
abbrev pub are_of_some : Envelope → Bool
are_of_some b =
    int_le b.least_x b.greatest_x && int_le b.least_y b.greatest_y
    && is_on_grid (position b.least_x b.least_y) && is_on_grid (position b.greatest_x b.greatest_y)

-- the bounds are those of an envelope
abbrev pub are_bounds : Envelope → Bool
are_bounds b = are_of_none b || are_of_some b

-- the envelope with these bounds; absent where they are those of an empty geometry
abbrev pub bounded : Envelope → Option Envelope
bounded b = if are_of_none b then None else Some b

-- the number of the first that are no bounds, counted from a number on
abbrev pub first_unbounded : ℕ → List Envelope → Option ℕ
first_unbounded at [] = None
first_unbounded at (b ∷ bs) = if are_bounds b then first_unbounded (suc at) bs else Some at

-- the refusal names the first that are no bounds, or is that of memory
abbrev pub IsUnbuilt : List Envelope → Unbuilt → Type 0
IsUnbuilt bs (unbuilt.At at) = first_unbounded 0 bs ≡ Some at
IsUnbuilt bs unbuilt.OutOfMemory = Unit {0}

-- the status of building an index where memory is enough
abbrev pub status_of_bounds : List Envelope → ℕ
status_of_bounds bs = option_map_or (λ _. unknown) (first_unbounded 0 bs) ok

-- the positions, ascending, of the envelopes that meet the window with these bounds: that share a point with it, be it on their
-- sides, or that are absent as it is
abbrev pub places_in : List (Option Envelope) → Envelope → List ℕ
places_in envelopes window = meeting_places envelopes (bounded window)

-- the status of a search where memory is enough
abbrev pub status_of_search : List (Option Envelope) → Envelope → List ℕ → ℕ
status_of_search envelopes window room = cond (are_bounds window) (status_of_room (places_in envelopes window) room) unknown

-- an envelope's least bounds aren't past its greatest
pub record IsOrdered (e : Envelope) : Type 0 where
  pub across : e.least_x ≤ℤ e.greatest_x
  pub up : e.least_y ≤ℤ e.greatest_y

-- a position is in an envelope, be it on its sides
pub record IsInside (e : Envelope) (p : Position) : Type 0 where
  pub right : e.least_x ≤ℤ p.x
  pub left : p.x ≤ℤ e.greatest_x
  pub above : e.least_y ≤ℤ p.y
  pub below : p.y ≤ℤ e.greatest_y

-- two envelopes overlap exactly where a position is in both
abbrev pub OverlapIsShared : Type 0
OverlapIsShared = (e f : Envelope) → IsOrdered e → IsOrdered f → (overlap e f ≡ true) ↔ ((p : Position) × (IsInside e p × IsInside f p))
