-- The three texts before the columns, and the three from them on.
use Rattle.std.proofs.Common.{◌≡◌, ◌++◌, codes, refl, string_bytes, ap, ◌∙◌}
use Rattle.std.proofs.lemmas.Slice.{pushed}
use Rattle.sfq_tiles.specs.SchemaTexts.{columns_text, marks_text, table_text}
use Rattle.sfq_tiles.proofs.TextLemmas.{six_pushed, three_more, three_pushed}
use Rattle.sfq_tiles.proofs.definitions.push_table.Goals as goal

pub returns : goal.returns
unfolding table_text
returns c =
    let part = c.args.part.now in
    let columns = columns_text part.table.now part.columns.items in
    let marks = marks_text part.column (string_bytes part.west) (string_bytes part.south) in
    let before = string_bytes c.push_str-3.new.self in
    let places : string_bytes c.push_columns.new.text ≡ before ++ columns =
    c.in_ok-push_columns.ensures ∙ ap (λ l. before ++ columns_text part.table.now l) c.as_slice.ensures.value in
    six_pushed c.push_str-4.result (string_bytes c.args.text.now) before (string_bytes c.push_str-4.new.self)
    (codes "CREATE TABLE ") part.name.now (codes " (") columns marks (codes ");\n")
    (three_more (string_bytes c.args.text.now) (string_bytes c.push_str.new.self) (string_bytes c.push_str-2.new.self) before
    (codes "CREATE TABLE ") part.name.now (codes " (")
    (pushed (codes "CREATE TABLE ") refl c.in_ok-push_str.was c.push_str.ensures.bytes) (pushed part.name.now refl c.in_ok-push_str-2.was c.push_str-2.ensures.bytes)
    (pushed (codes " (") refl c.in_ok-push_str-3.was c.push_str-3.ensures.bytes))
    (three_pushed c.push_str-4.result before (string_bytes c.push_columns.new.text) (string_bytes c.push_marks.new.text) (string_bytes c.push_str-4.new.self)
    columns marks (codes ");\n") places c.in_ok-push_marks.ensures c.push_str-4.ensures.bytes)
