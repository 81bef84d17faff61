-- Elements that meet, computed.
use Rattle.std.specs.Prelude.{refl}
use Rattle.std.proofs.Common.{rules}
use Rattle.geometry_model.specs.TextReading.{read_text, whole, tagged, typed, body, parts, polygon, polygons, line, separated, point, position, space, coordinate, numeral, fraction, sign}
use Rattle.geometry_model.proofs.validity_examples.elements_in_the_wrong_place.Goals as goal

pub returns-clause-crossing_edges : goal.returns-clause-crossing_edges
unfolding read_text whole tagged typed body parts polygon polygons line separated point position space coordinate numeral fraction sign
returns-clause-crossing_edges c = search rules

pub returns-clause-meeting_before_inside : goal.returns-clause-meeting_before_inside
unfolding read_text whole tagged typed body parts polygon polygons line separated point position space coordinate numeral fraction sign
returns-clause-meeting_before_inside c = refl
