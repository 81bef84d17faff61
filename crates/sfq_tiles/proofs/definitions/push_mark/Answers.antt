-- The three texts of a mark.
use Rattle.std.proofs.Common.{codes, refl, string_bytes}
use Rattle.std.proofs.lemmas.Slice.{pushed}
use Rattle.sfq_tiles.specs.SchemaTexts.{mark_text}
use Rattle.sfq_tiles.proofs.TextLemmas.{three_pushed}
use Rattle.sfq_tiles.proofs.definitions.push_mark.Goals as goal

pub returns : goal.returns
unfolding mark_text
returns c =
    three_pushed c.push_str-3.result (string_bytes c.args.text.now) (string_bytes c.push_str.new.self) (string_bytes c.push_str-2.new.self) (string_bytes c.push_str-3.new.self)
    (codes ", ") c.args.name.now (codes " INTEGER NOT NULL")
    (pushed (codes ", ") refl c.in_ok-push_str.was c.push_str.ensures.bytes) (pushed c.args.name.now refl c.in_ok-push_str-2.was c.push_str-2.ensures.bytes)
    c.push_str-3.ensures.bytes
