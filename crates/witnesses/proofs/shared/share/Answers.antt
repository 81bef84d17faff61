use Rattle.std.proofs.Common.{All, subst}
use Rattle.geometry_model.specs.Points.{IsPoint}
use Rattle.noding.specs.declared.answers.Meet.{Meet}
use Rattle.noding.specs.Meetings.{IsMeeting, named}
use Rattle.witnesses.proofs.SharedFacts.{at_shares, along_shares}
use Rattle.witnesses.proofs.shared.share.Goals as goal

pub returns-in-At-clause-yes : goal.returns-in-At-clause-yes
returns-in-At-clause-yes c _ = at_shares c.args.first.now c.args.second.now c.in-At.field-0 (subst (λ (m : Meet). All IsPoint (named m)) c.in-At.is c.requires.points) (subst (IsMeeting c.args.first.now c.args.second.now) c.in-At.is c.requires.exact)

pub returns-in-Along-clause-yes : goal.returns-in-Along-clause-yes
returns-in-Along-clause-yes c _ = along_shares c.args.first.now c.args.second.now c.in-Along.field-0 c.in-Along.field-1 (subst (λ (m : Meet). All IsPoint (named m)) c.in-Along.is c.requires.points) (subst (IsMeeting c.args.first.now c.args.second.now) c.in-Along.is c.requires.exact)
