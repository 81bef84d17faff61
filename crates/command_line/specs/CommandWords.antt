-- The commands of `sfq` and their words, as `clap` knows them.
use Rattle.std.specs.Prelude.{Some, true, codes}
use Rattle.clap.specs.declared.builder.action.ArgAction.TheVariants.{Append, SetTrue}
use Rattle.clap.specs.Words.{App, Rule, Text, new_app, new_rule, with_rule, with_subcommand}
use Rattle.clap.specs.Simple.{on_top}

-- a word that has to be there, shown in help by one name
abbrev pub required_word : Text → Rule
required_word id = record (new_rule id) { required = true; value_names = 1 }

-- a word that may be there, shown in help by one name
abbrev pub optional_word : Text → Rule
optional_word id = record (new_rule id) { value_names = 1 }

-- as many words as are there, shown in help by one name
abbrev pub more_words : Text → Rule
more_words id = record (new_rule id) { action = Some Append; value_names = 1 }

-- a flag that is there or not, by its long name
abbrev pub flag : Text → Rule
flag id = record (new_rule id) { long = Some id; action = Some SetTrue }

-- `run SCHEMA DIR QUERY`, with the flag `--why`
abbrev pub run : App
run = with_rule (with_rule (with_rule (with_rule (new_app (codes "run")) (required_word (codes "schema")))
    (required_word (codes "directory"))) (required_word (codes "query"))) (flag (codes "why"))

-- `check SCHEMA DIR`, with the flag `--why`
abbrev pub check : App
check = with_rule (with_rule (with_rule (new_app (codes "check")) (required_word (codes "schema")))
    (required_word (codes "directory"))) (flag (codes "why"))

-- `relate WKT WKT`, with the flag `--why`
abbrev pub relate : App
relate = with_rule (with_rule (with_rule (new_app (codes "relate")) (required_word (codes "first")))
    (required_word (codes "second"))) (flag (codes "why"))

-- `why WKT [WKT]`, with the flag `--why`
abbrev pub why : App
why = with_rule (with_rule (with_rule (new_app (codes "why")) (required_word (codes "first"))) (optional_word (codes "second")))
    (flag (codes "why"))

-- `pairs FILE`, with the flag `--why`
abbrev pub pairs : App
pairs = with_rule (with_rule (new_app (codes "pairs")) (required_word (codes "file"))) (flag (codes "why"))

-- `fault [CODE]..`
abbrev pub fault : App
fault = with_rule (new_app (codes "fault")) (more_words (codes "code"))

-- `sfq` without its subcommands, of which one has to be there; it has a version, and shows its help without any word
abbrev pub bare_sfq : App
bare_sfq = on_top (λ s. record s { has_version = true; subcommand_required = true; arg_required_else_help = true })
    (new_app (codes "sfq"))

-- `sfq` with its subcommands
abbrev pub sfq : App
sfq = with_subcommand (with_subcommand (with_subcommand (with_subcommand (with_subcommand (with_subcommand bare_sfq run.top) check.top) relate.top)
    why.top) pairs.top) fault.top
