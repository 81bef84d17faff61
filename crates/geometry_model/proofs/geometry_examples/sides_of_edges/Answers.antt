-- The sides of edges, computed.
use Rattle.std.specs.Prelude.{refl}
use Rattle.geometry_model.specs.TextReading.{read_text, whole, tagged, typed, body, parts, polygon, polygons, line, separated, point, position, space, coordinate, numeral, fraction, sign}
use Rattle.geometry_model.proofs.geometry_examples.sides_of_edges.Goals as goal

pub returns-clause-below_the_lower_edge : goal.returns-clause-below_the_lower_edge
unfolding read_text whole tagged typed body parts polygon polygons line separated point position space coordinate numeral fraction sign
returns-clause-below_the_lower_edge c = refl

pub returns-clause-above_the_lower_edge : goal.returns-clause-above_the_lower_edge
unfolding read_text whole tagged typed body parts polygon polygons line separated point position space coordinate numeral fraction sign
returns-clause-above_the_lower_edge c = refl

pub returns-clause-below_the_upper_edge : goal.returns-clause-below_the_upper_edge
unfolding read_text whole tagged typed body parts polygon polygons line separated point position space coordinate numeral fraction sign
returns-clause-below_the_upper_edge c = refl

pub returns-clause-above_the_upper_edge : goal.returns-clause-above_the_upper_edge
unfolding read_text whole tagged typed body parts polygon polygons line separated point position space coordinate numeral fraction sign
returns-clause-above_the_upper_edge c = refl

pub returns-clause-below_the_lower_edge_of_a_hole : goal.returns-clause-below_the_lower_edge_of_a_hole
unfolding read_text whole tagged typed body parts polygon polygons line separated point position space coordinate numeral fraction sign
returns-clause-below_the_lower_edge_of_a_hole c = refl

pub returns-clause-above_the_lower_edge_of_a_hole : goal.returns-clause-above_the_lower_edge_of_a_hole
unfolding read_text whole tagged typed body parts polygon polygons line separated point position space coordinate numeral fraction sign
returns-clause-above_the_lower_edge_of_a_hole c = refl

pub returns-clause-below_a_slanting_edge : goal.returns-clause-below_a_slanting_edge
unfolding read_text whole tagged typed body parts polygon polygons line separated point position space coordinate numeral fraction sign
returns-clause-below_a_slanting_edge c = refl

pub returns-clause-above_a_slanting_edge : goal.returns-clause-above_a_slanting_edge
unfolding read_text whole tagged typed body parts polygon polygons line separated point position space coordinate numeral fraction sign
returns-clause-above_a_slanting_edge c = refl

pub returns-clause-below_an_element_within_a_hole : goal.returns-clause-below_an_element_within_a_hole
unfolding read_text whole tagged typed body parts polygon polygons line separated point position space coordinate numeral fraction sign
returns-clause-below_an_element_within_a_hole c = refl

pub returns-clause-above_an_element_within_a_hole : goal.returns-clause-above_an_element_within_a_hole
unfolding read_text whole tagged typed body parts polygon polygons line separated point position space coordinate numeral fraction sign
returns-clause-above_an_element_within_a_hole c = refl
