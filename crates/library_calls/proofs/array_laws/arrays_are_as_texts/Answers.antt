use Rattle.library_calls.proofs.AsTexts.{arrays_are_as_texts}
use Rattle.library_calls.proofs.array_laws.arrays_are_as_texts.Goals as goal

pub returns : goal.returns
returns c = arrays_are_as_texts
