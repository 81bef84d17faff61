-- The search gives the first file whose path passes.
use Rattle.std.proofs.Common.{◌∙◌, rules, tests}
use Rattle.std.proofs.lemmas.Iterator.{YieldsList-from_slice}
use Rattle.std.proofs.lemmas.Iterator.Search.{find_from_yields_List}
use Rattle.std.specs.Str.{bytes_eq}
use Rattle.sfq_web.proofs.handed_files.file_at.Goals as goal

pub returns : goal.returns
returns c =
    c.copied.ensures
    ∙ find_from_yields_List (λ file. bytes_eq file.path.now c.args.path.now) _ _ c.find.result c.find.ensures.ran
    (YieldsList-from_slice c.args.files.now cc)
    (λ x b q k. search (rules, tests))
