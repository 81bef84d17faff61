use Rattle.std.proofs.Common.{refl}
use Rattle.executor.proofs.order_keys.key_of.Goals as goal

pub returns-in-Field : goal.returns-in-Field
returns-in-Field g c = λ place. refl

pub returns-in-Dimension : goal.returns-in-Dimension
returns-in-Dimension g c = λ place. refl

pub returns-in_ok-texts_of-in-Text : goal.returns-in_ok-texts_of-in-Text
returns-in_ok-texts_of-in-Text g c = c.in_ok-texts_of-in-Text.ensures
