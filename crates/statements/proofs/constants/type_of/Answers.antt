use Rattle.std.proofs.Common.{subst}
use Rattle.geometry_model.specs.Validity.{IsValid}
use Rattle.statements.proofs.QueryFacts.{is_sound}
use Rattle.statements.proofs.constants.type_of.Goals as goal

pub returns-in-Geometry-clause-sound : goal.returns-in-Geometry-clause-sound
returns-in-Geometry-clause-sound c =
    is_sound c.args.value.now _ c.in-Geometry.is (subst (λ g. IsValid g) c.get.ensures c.geometry-geometry.ensures.valid)
