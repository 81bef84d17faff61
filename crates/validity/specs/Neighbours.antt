-- Which rings or polygons are near one: those whose envelopes meet its own.
use Rattle.std.specs.Prelude.{ℕ, ◌&&◌, nat_le, nat_lt, cond, List, [], ◌∷◌, map, flat_map, get_or, Option, Some, None}
use Rattle.geometry_model.specs.Points.{Position}
use Rattle.geometry_model.specs.Geometries.{Geometry, rings, elements}
use Rattle.geometry_model.specs.Envelopes.{Envelope, envelope_of_positions, joined}
use Rattle.geometry_model.specs.FirstFaults.{has_fault}
use Rattle.geometry_model.specs.declared.validity_faults.ValidityFault.{ValidityFault}
use Rattle.rtree.specs.Found.{meeting_places}

-- the numbers of the envelopes that meet the one with this number
abbrev pub near_one : List (Option Envelope) → ℕ → List ℕ
near_one envelopes number = meeting_places envelopes (get_or envelopes number None)

-- the smallest envelope that holds these two, each of which may be absent (06-103r4, 6.1.2.2: Envelope)
abbrev pub either_envelope : Option Envelope → Option Envelope → Option Envelope
either_envelope None f = f
either_envelope (Some e) None = Some e
either_envelope (Some e) (Some f) = Some (joined e f)

-- the envelopes of an area's rings, by their numbers (06-103r4, 6.1.2.2: Envelope)
abbrev pub ring_envelopes : Geometry → List (Option Envelope)
ring_envelopes g = map envelope_of_positions (rings g)

-- the envelope of the positions of some rings (06-103r4, 6.1.2.2: Envelope)
abbrev pub element_envelope : List (List Position) → Option Envelope
element_envelope rings = envelope_of_positions (flat_map (λ ring. ring) rings)

-- the envelopes of an area's polygons, by their numbers (06-103r4, 6.1.2.2: Envelope)
abbrev pub element_envelopes : Geometry → List (Option Envelope)
element_envelopes g = map element_envelope (elements g)

-- the first that applies of the faults with these numbers, from one number on and before another
abbrev pub first_near : Geometry → (ℕ → ValidityFault) → ℕ → ℕ → List ℕ → Option ValidityFault
first_near g fault from end [] = None
first_near g fault from end (number ∷ rest) = cond (nat_le from number && nat_lt number end && has_fault g (fault number)) (Some (fault number)) (first_near g fault from end rest)
