-- Canonical texts, computed with the digits of their numbers.
use Rattle.std.specs.Prelude.{refl}
use Rattle.std.specs.Fmt.{digits}
use Rattle.geometry_model.proofs.text_examples.canonical_texts.Goals as goal

pub returns-clause-point : goal.returns-clause-point
unfolding digits
returns-clause-point c = refl

pub returns-clause-points : goal.returns-clause-points
unfolding digits
returns-clause-points c = refl

pub returns-clause-line : goal.returns-clause-line
unfolding digits
returns-clause-line c = refl

pub returns-clause-lines : goal.returns-clause-lines
unfolding digits
returns-clause-lines c = refl

pub returns-clause-polygon : goal.returns-clause-polygon
unfolding digits
returns-clause-polygon c = refl

pub returns-clause-polygons : goal.returns-clause-polygons
unfolding digits
returns-clause-polygons c = refl
