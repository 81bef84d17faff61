use Rattle.wkb.proofs.Additions.{multi_polygon_read}
use Rattle.wkb.proofs.reading.multi_polygon_body.Goals as goal

pub returns-clause-is_read : goal.returns-clause-is_read
returns-clause-is_read c = rw c.in_ok-shape.ensures
    (multi_polygon_read c.args.cursor.now c.word.new.self c.polygons.new.cursor c.in_ok-polygons.polygons
    c.in_ok-count.ensures.added c.in_ok-polygons.ensures.added)
