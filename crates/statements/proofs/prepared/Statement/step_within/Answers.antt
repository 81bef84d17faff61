-- A step that isn't one of rows is never busy.
use Rattle.std.proofs.Common.{Ok}
use Rattle.std.specs.declared.alloc.AllocError.{AllocError}
use Rattle.statements.proofs.WithinLemmas.{never_busy, unless_busy}
use Rattle.statements.specs.Statements.{BusyStep, Steps}
use Rattle.statements.proofs.prepared.Statement.step_within.Goals as goal

pub returns-in-Plan-clause-steps : goal.returns-in-Plan-clause-steps
returns-in-Plan-clause-steps g c =
    unless_busy c.step_plan.result (Steps c.args.database.now c.args.self.now c.step_plan.result c.step_plan.new.self)
    c.step_plan.ensures

pub returns-in-Plan-clause-busy : goal.returns-in-Plan-clause-busy
returns-in-Plan-clause-busy g c =
    never_busy c.args.database.now c.args.self.now c.step_plan.result c.step_plan.new.self
    (BusyStep c.args.most c.args.database.now c.args.self.now c.step_plan.new.self) c.step_plan.ensures

pub returns-in-Lines-clause-steps : goal.returns-in-Lines-clause-steps
returns-in-Lines-clause-steps g c =
    unless_busy {E = AllocError} (Ok c.step_line.result) (Steps c.args.database.now c.args.self.now (Ok c.step_line.result)
    c.step_line.new.self) c.step_line.ensures

pub returns-in-Lines-clause-busy : goal.returns-in-Lines-clause-busy
returns-in-Lines-clause-busy g c =
    never_busy c.args.database.now c.args.self.now (Ok c.step_line.result) c.step_line.new.self
    (BusyStep c.args.most c.args.database.now c.args.self.now c.step_line.new.self) c.step_line.ensures

pub returns-in-Nothing-clause-steps : goal.returns-in-Nothing-clause-steps
returns-in-Nothing-clause-steps g c =
    unless_busy {E = AllocError} (Ok c.end.result) (Steps c.args.database.now c.args.self.now (Ok c.end.result) c.end.new.self)
    c.end.ensures

pub returns-in-Nothing-clause-busy : goal.returns-in-Nothing-clause-busy
returns-in-Nothing-clause-busy g c =
    never_busy c.args.database.now c.args.self.now (Ok c.end.result) c.end.new.self
    (BusyStep c.args.most c.args.database.now c.args.self.now c.end.new.self) c.end.ensures
