use Rattle.std.proofs.Common.{subst, sym}
use Rattle.geometry_model.specs.Points.{Position}
use Rattle.geometry_model.specs.Validity.{ShareOther}
use Rattle.witnesses.proofs.ClashFacts.{clash_yes, clash_no}
use Rattle.witnesses.proofs.rings.clashes.Goals as goal

pub returns-clause-yes : goal.returns-clause-yes
returns-clause-yes c = clash_yes c.args.n c.args.i c.args.j c.args.e.now c.args.f.now c.is_clash.result c.share_other-not_end.result c.share_other-not_start.result c.share.result c.is_clash.ensures
    (λ t. subst (λ (a : Position). ShareOther a c.args.e.now c.args.f.now) c.end.ensures.value (c.share_other-not_end.ensures.yes t)) (λ t. subst (λ (a : Position). ShareOther a c.args.e.now c.args.f.now) c.start.ensures (c.share_other-not_start.ensures.yes t)) c.share.ensures.yes

pub returns-clause-no : goal.returns-clause-no
returns-clause-no c = clash_no c.args.n c.args.i c.args.j c.args.e.now c.args.f.now c.is_clash.result c.share_other-not_end.result c.share_other-not_start.result c.share.result c.is_clash.ensures
    (λ t s. c.share_other-not_end.ensures.no t (subst (λ (a : Position). ShareOther a c.args.e.now c.args.f.now) (sym c.end.ensures.value) s)) (λ t s. c.share_other-not_start.ensures.no t (subst (λ (a : Position). ShareOther a c.args.e.now c.args.f.now) (sym c.start.ensures) s)) c.share.ensures.no
