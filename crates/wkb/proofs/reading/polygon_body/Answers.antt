use Rattle.wkb.proofs.Additions.{polygon_read}
use Rattle.wkb.proofs.reading.polygon_body.Goals as goal

pub returns-clause-is_read : goal.returns-clause-is_read
returns-clause-is_read c = rw c.in_ok-shape.ensures
    (polygon_read c.args.cursor.now c.word.new.self c.parts.new.cursor c.in_ok-rings.rings.items c.in_ok-count.ensures.added
    c.in_ok-rings.ensures.added)
