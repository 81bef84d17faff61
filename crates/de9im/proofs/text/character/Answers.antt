use Rattle.std.proofs.Common.{rules}
use Rattle.de9im.proofs.text.character.Goals as goal

pub returns-in_default : goal.returns-in_default
returns-in_default c = search rules
