use Rattle.text_laws.specs.ReadingLaws.{SpellsOne}
use Rattle.text_laws.proofs.TextComplete.{spelled_is_read}
use Rattle.text_laws.proofs.reading.spells_one.Goals as goal

one : SpellsOne
one text g h s t = let first = spelled_is_read text g s in let second = spelled_is_read text h t in cc

pub returns : goal.returns
returns c = one
