use Rattle.wkb.proofs.Additions.{multi_line_read}
use Rattle.wkb.proofs.reading.multi_line_string_body.Goals as goal

pub returns-clause-is_read : goal.returns-clause-is_read
returns-clause-is_read c = rw c.in_ok-shape.ensures
    (multi_line_read c.args.cursor.now c.word.new.self c.lines.new.cursor c.in_ok-lines.lines.items c.in_ok-count.ensures.added
    c.in_ok-lines.ensures.added)
