use Rattle.std.proofs.Common.{rules, arith}
use Rattle.std.proofs.lemmas.Grind.{common_steps}
use Rattle.wkt.proofs.Wholes.{whole_by_tagged}
use Rattle.wkt.proofs.reading.whole.Goals as goal

pub returns-in_err-shape : goal.returns-in_err-shape
returns-in_err-shape c = rw (whole_by_tagged c.args.cursor.now) (first_of (search rules, grind (arith, common_steps)))

pub returns-then-is_at_end : goal.returns-then-is_at_end
returns-then-is_at_end c = rw (whole_by_tagged c.args.cursor.now) (first_of (search rules, grind (arith, common_steps)))

pub returns-else-is_at_end : goal.returns-else-is_at_end
returns-else-is_at_end c = rw (whole_by_tagged c.args.cursor.now) (first_of (search rules, grind (arith, common_steps)))
