-- The rings before this one share no point with later ones.
use Rattle.geometry_model.specs.Geometries.{lines}
use Rattle.validity.proofs.ApartRings.{AreApartBefore}
use Rattle.validity.proofs.apart.are_apart.Given as goal

abbrev pub invariant-loop-line : goal.invariant-loop-line
invariant-loop-line l = AreApartBefore (lines l.outline) l.line l.end
