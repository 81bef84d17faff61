-- Short names for worked examples of geometries, which are given by their well-known text.
use Rattle.std.specs.Prelude.{ℕ, Bool, List, codes, Result, Ok, Err, Option, Some, None, option_map, ℤ}
use Rattle.geometry_model.specs.Points.{Point}
use Rattle.geometry_model.specs.Geometries.{Geometry, kind}
use Rattle.geometry_model.specs.Locations.{locate}
use Rattle.geometry_model.specs.Patterns.{matrix_text, pattern_of_text}
use Rattle.geometry_model.specs.Predicates.{holds, forces_meeting}
use Rattle.geometry_model.specs.Pieces.{Piece, pieces}
use Rattle.geometry_model.specs.Labels.{labelled_matrix, cuts_of_both, edges_of_both, below, above}
use Rattle.geometry_model.specs.Envelopes.{Envelope, envelope, meets}
use Rattle.geometry_model.specs.TextReading.{read_text}
use Rattle.geometry_model.specs.declared.point_sets.Location.{Location}
use Rattle.geometry_model.specs.declared.relations.Predicate.{Predicate}
use Rattle.geometry_model.specs.declared.relations.Predicate.TheVariants as predicates
use Rattle.geometry_model.specs.declared.text_faults.TextFault.{TextFault}

-- the function of the geometry that was read; none if the text spells nothing
abbrev pub with_one : {A : Type 0} → (Geometry → A) → Result Geometry TextFault → Option A
with_one f (Err e) = None
with_one f (Ok a) = Some (f a)

-- the function of the two geometries that were read; none if a text spells nothing
abbrev pub with_both : {A : Type 0} → (Geometry → Geometry → A) → Result Geometry TextFault → Result Geometry TextFault → Option A
with_both f (Err e) r = None
with_both f (Ok a) (Err e) = None
with_both f (Ok a) (Ok b) = Some (f a b)

-- the nine characters of the label matrix of two texts
abbrev pub relate : List ℕ → List ℕ → Option (List ℕ)
relate s t = with_both (λ a b. matrix_text (labelled_matrix a b)) (read_text s) (read_text t)

-- where the point (X/W, Y/W) lies in the geometry of a text
abbrev pub place : List ℕ → Point → Option Location
place s p = with_one (λ a. locate a p) (read_text s)

-- where the points just below (X/W, Y/W) lie in the geometry of a text
abbrev pub just_below : List ℕ → Point → Option Location
just_below s p = with_one (λ a. below a p) (read_text s)

-- where the points just above (X/W, Y/W) lie in the geometry of a text
abbrev pub just_above : List ℕ → Point → Option Location
just_above s p = with_one (λ a. above a p) (read_text s)

-- whether a predicate holds of two texts, by their label matrix
abbrev pub is_held : Predicate → List ℕ → List ℕ → Option Bool
is_held p s t = with_both (λ a b. holds p (kind a) (kind b) (labelled_matrix a b)) (read_text s) (read_text t)

-- whether geometries that match a pattern's text have envelopes that meet
abbrev pub forces : List ℕ → Option Bool
forces text = option_map (λ p. forces_meeting (predicates.Relate p)) (pattern_of_text text)

-- the cut points of two texts
abbrev pub cuts : List ℕ → List ℕ → Option (List Point)
cuts s t = with_both cuts_of_both (read_text s) (read_text t)

-- the pieces of two texts
abbrev pub pieces_of_both : List ℕ → List ℕ → Option (List Piece)
pieces_of_both s t = with_both (λ a b. pieces (cuts_of_both a b) (edges_of_both a b)) (read_text s) (read_text t)

-- the envelope of a text's geometry, if it has one (06-103r4, 6.1.2.2: Envelope)
abbrev pub bounds : List ℕ → Option (Option Envelope)
bounds s = with_one envelope (read_text s)

-- whether the envelopes of two texts meet
abbrev pub bounds_meet : List ℕ → List ℕ → Option Bool
bounds_meet s t = with_both (λ a b. meets (envelope a) (envelope b)) (read_text s) (read_text t)

-- the point (x/w, y/w)
abbrev pub point : ℤ → ℤ → ℤ → Point
point x y w = record { X = x; Y = y; W = w }

-- the piece from one point to another
abbrev pub from_to : Point → Point → Piece
from_to p q = record { lesser = p; greater = q }

-- a square of side 4 along the axes
abbrev pub square : List ℕ
square = codes "POLYGON((0 0,4 0,4 4,0 4,0 0))"

-- a square of side 10 with a hole in its middle
abbrev pub frame : List ℕ
frame = codes "POLYGON((0 0,10 0,10 10,0 10,0 0),(4 4,6 4,6 6,4 6,4 4))"

-- a square on its corner
abbrev pub diamond : List ℕ
diamond = codes "POLYGON((0 2,2 0,4 2,2 4,0 2))"

-- two squares beside each other
abbrev pub two_squares : List ℕ
two_squares = codes "MULTIPOLYGON(((0 0,4 0,4 4,0 4,0 0)),((6 0,8 0,8 4,6 4,6 0)))"

-- a square in the hole of another
abbrev pub square_in_a_hole : List ℕ
square_in_a_hole = codes "MULTIPOLYGON(((0 0,10 0,10 10,0 10,0 0),(2 2,8 2,8 8,2 8,2 2)),((4 4,6 4,6 6,4 6,4 4)))"
