use Rattle.std.proofs.Common.{sym, ◌∙◌, All, subst}
use Rattle.std.proofs.lemmas.Bool.{not-true, not-false}
use Rattle.geometry_model.specs.Points.{IsPoint}
use Rattle.noding.specs.declared.answers.Meet.{Meet}
use Rattle.noding.specs.Meetings.{IsMeeting, named}
use Rattle.witnesses.proofs.SharedFacts.{at_shares_other, at_common, along_shares_other}
use Rattle.witnesses.proofs.shared.share_other.Goals as goal

pub returns-in-At-clause-yes : goal.returns-in-At-clause-yes
returns-in-At-clause-yes c t = at_shares_other c.args.common c.args.first.now c.args.second.now c.in-At.p (subst (λ (m : Meet). All IsPoint (named m)) c.in-At.is c.requires.points) (subst (IsMeeting c.args.first.now c.args.second.now) c.in-At.is c.requires.exact) (sym c.is_at.ensures ∙ not-true c.is_at.result t)

pub returns-in-At-clause-no : goal.returns-in-At-clause-no
returns-in-At-clause-no c t = at_common c.args.common c.args.first.now c.args.second.now c.in-At.p (subst (λ (m : Meet). All IsPoint (named m)) c.in-At.is c.requires.points) (subst (IsMeeting c.args.first.now c.args.second.now) c.in-At.is c.requires.exact) (sym c.is_at.ensures ∙ not-false c.is_at.result t)

pub returns-in-Along-clause-yes : goal.returns-in-Along-clause-yes
returns-in-Along-clause-yes c _ = along_shares_other c.args.common c.args.first.now c.args.second.now c.in-Along.field-0 c.in-Along.field-1 (subst (λ (m : Meet). All IsPoint (named m)) c.in-Along.is c.requires.points) (subst (IsMeeting c.args.first.now c.args.second.now) c.in-Along.is c.requires.exact)
