-- Elements in holes, computed.
use Rattle.std.specs.Prelude.{refl}
use Rattle.geometry_model.specs.TextReading.{read_text, whole, tagged, typed, body, parts, polygon, polygons, line, separated, point, position, space, coordinate, numeral, fraction, sign}
use Rattle.geometry_model.proofs.validity_examples.valid_multi_polygons.Goals as goal

pub returns-clause-in_a_hole : goal.returns-clause-in_a_hole
unfolding read_text whole tagged typed body parts polygon polygons line separated point position space coordinate numeral fraction sign
returns-clause-in_a_hole c = refl

pub returns-clause-holes_of_two : goal.returns-clause-holes_of_two
unfolding read_text whole tagged typed body parts polygon polygons line separated point position space coordinate numeral fraction sign
returns-clause-holes_of_two c = refl
