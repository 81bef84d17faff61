use Rattle.std.proofs.Common.{◌≡◌, ◌↔◌, ◌∙◌, ap, sym, subst, true, Option, None}
use Rattle.geometry_model.specs.Geometries.{is_empty}
use Rattle.geometry_model.specs.Envelopes.{Envelope, envelope}
use Rattle.geometry_laws.proofs.ValidParts.{envelope_is_absent_where_empty}
use Rattle.validity.proofs.valid_envelopes.ValidEnveloped.envelope.Goals as goal

pub returns-clause-absent : goal.returns-clause-absent
returns-clause-absent c =
    let g = c.args.self.now in
    subst (λ (e : Option Envelope). (e ≡ None) ↔ (is_empty g ≡ true)) (sym (c.envelope_of.ensures ∙ ap envelope c.geometry.ensures.same))
    (envelope_is_absent_where_empty g c.geometry.ensures.valid)
