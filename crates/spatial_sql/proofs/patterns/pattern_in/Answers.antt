use Rattle.std.proofs.Common.{sym}
use Rattle.spatial_sql.proofs.PatternTexts.{no_text-none}
use Rattle.spatial_sql.proofs.patterns.pattern_in.Goals as goal

pub returns-in-Err : goal.returns-in-Err
returns-in-Err c = sym (no_text-none c.args.bytes.now c.in-Err.ensures.cases.0)
