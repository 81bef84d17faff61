use Rattle.validity.proofs.Kept.{no_lines_end, none_odd}
use Rattle.validity.proofs.valid_geometry.Valid.odd_ends.Goals as goal

pub returns-in-Point : goal.returns-in-Point
returns-in-Point c = none_odd _ (no_lines_end c.args.self.now c.kind.result c.kind.ensures c.in-Point.is)
