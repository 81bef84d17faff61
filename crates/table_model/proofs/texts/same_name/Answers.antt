-- Both tests decide whether the names are the same in lower case.
use Rattle.std.proofs.Common.{map}
use Rattle.std.specs.Char.{to_ascii_lowercase}
use Rattle.std.proofs.lemmas.Bool.Decides.{same_from_decides}
use Rattle.std.proofs.lemmas.Slice.Eq.{bytes_eq-Decides}
use Rattle.table_model.specs.Texts.{same_name}
use Rattle.table_model.proofs.texts.same_name.Goals as goal

pub returns : goal.returns
unfolding same_name
returns c = same_from_decides _ _ (c.eq_ignore_ascii_case.ensures.test.0, c.eq_ignore_ascii_case.ensures.test.1) (bytes_eq-Decides (map to_ascii_lowercase c.args.a.now) (map to_ascii_lowercase c.args.b.now))
