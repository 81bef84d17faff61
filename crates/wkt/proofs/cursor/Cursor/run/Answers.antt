use Rattle.wkt.specs.ReadingSteps.{of_class}
use Rattle.wkt.proofs.cursor.Cursor.run.Goals as goal
use Rattle.basics.proofs.Lists.{front_passes}

pub returns-clause-all : goal.returns-clause-all
returns-clause-all c =
    rw (c.split_at.ensures.front, c.run_length.ensures.value) (front_passes (of_class c.args.class) c.self.inside.left.now)
