-- What is read is the words of the matches, and nothing where there are none.
use Rattle.std.proofs.Common.{◌∙◌, [], Bor, List, Option, ap, map, option_map, sym, ℕ}
use Rattle.std.proofs.lemmas.Result.{IfOk-weaker}
use Rattle.std.specs.Option.{unwrap_or}
use Rattle.std.specs.String.{string_bytes}
use Rattle.clap.specs.Words.{found_of}
use Rattle.command_line.proofs.OrderLemmas.{words-given}
use Rattle.command_line.proofs.reading.texts_of.Goals as goal

-- the words that are read
abbrev shown : Option (Bor (List (Bor (List ℕ)))) → List (List ℕ)
shown read = unwrap_or (option_map (λ words. map (λ word. word.now) words.now) read) []

pub returns-in-Some : goal.returns-in-Some
returns-in-Some c =
    IfOk-weaker c.own_texts.result _ _
    (λ texts own. own ∙ ap shown (sym c.in-Some.is) ∙ words-given (found_of c.args.matches.now) c.args.id.now _ c.get_strs.ensures)
    c.own_texts.ensures

pub returns-in-None : goal.returns-in-None
returns-in-None c =
    ap (map string_bytes) c.new.ensures.items ∙ ap shown (sym c.in-None.is)
    ∙ words-given (found_of c.args.matches.now) c.args.id.now _ c.get_strs.ensures
