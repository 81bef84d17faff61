-- The line that says where a geometry isn't valid (06-103r4, 6.1.7, 6.1.11.1 and 6.1.14; the words: this project's choice).
use Rattle.std.specs.Prelude.{ℕ, List, ◌++◌, ◌==◌, codes, decimal, if◌then◌else◌}
use Rattle.geometry_model.specs.CanonicalText.{position_text}
use Rattle.geometry_model.specs.Geometries.{Edge}
use Rattle.geometry_model.specs.Points.{Position}
use Rattle.geometry_model.specs.declared.geometry_faults.GeometryFault.TheVariants as g
use Rattle.geometry_model.specs.declared.validity_faults.ValidityFault.{ValidityFault}
use Rattle.noding.specs.declared.answers.Meet.{Meet}
use Rattle.noding.specs.declared.answers.Meet.TheVariants.{Apart, At, Along}
use Rattle.witnesses.specs.declared.shared.SharedPlace.{SharedPlace}
use Rattle.witnesses.specs.declared.places.Place.{Place}
use Rattle.witnesses.specs.declared.places.Place.TheVariants as places
use Rattle.table_model.specs.FaultLines.{geometry_text}
use Rattle.witnesses.specs.PointTexts.{fractions_text}

-- an edge by its two ends
abbrev pub edge_text : Edge → List ℕ
edge_text e = position_text e.start ++ codes " to " ++ position_text e.end

-- what two edges share: a point, or a stretch by its two ends (06-103r4, 6.1.15.2: intersection)
abbrev pub meet_text : Meet → List ℕ
meet_text Apart = codes "nothing"
meet_text (At p) = fractions_text p
meet_text (Along p q) = fractions_text p ++ codes " to " ++ fractions_text q

-- two edges, and what they share
abbrev pub shared_text : SharedPlace → List ℕ
shared_text s = edge_text s.first ++ codes " and " ++ edge_text s.second ++ codes " share " ++ meet_text s.meet

-- what comes after the number of positions
abbrev pub left_text : ℕ → List ℕ
left_text count = if count == 1 then codes " position left at " else codes " positions left from "

-- how many positions a line or ring has, and the first of them
abbrev pub count_text : Position → ℕ → List ℕ
count_text first count = decimal count ++ left_text count ++ position_text first

-- what is wrong, and where
abbrev pub place_text : Place → List ℕ
place_text (places.Short first count) = count_text first count
place_text (places.Open first last) = codes "from " ++ position_text first ++ codes " to " ++ position_text last ++ codes " isn't closed"
place_text (places.Shared s) = shared_text s
place_text (places.Outside at) = codes "outside at " ++ position_text at
place_text (places.Inside at) = codes "inside at " ++ position_text at

-- the code and the numbers of a fault, and a colon
abbrev pub fault_front : ValidityFault → List ℕ
fault_front fault = geometry_text (g.Invalid fault) ++ codes ": "

-- the line of a fault and a place of it
abbrev pub reason_text : ValidityFault → Place → List ℕ
reason_text fault place = fault_front fault ++ place_text place ++ codes "\n"
