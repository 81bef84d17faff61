-- Each name has what comes after it.
use Rattle.std.proofs.Common.{codes, rules}
use Rattle.wkt.proofs.Names.{is_word, behind_point, behind_multi_point, behind_line_string, behind_multi_line_string, behind_polygon, behind_multi_polygon}
use Rattle.wkt.proofs.reading.typed.Goals as goal

pub returns-in_err-point_body : goal.returns-in_err-point_body
returns-in_err-point_body c =
    rw (behind_point c.args.at c.args.name.now c.args.cursor.now (is_word c.args.name.now (codes "POINT") _ c.eq_ignore_ascii_case.ensures.test.0 c.if-eq_ignore_ascii_case.true))
    (search rules)

pub returns-in_ok-point_body : goal.returns-in_ok-point_body
returns-in_ok-point_body c =
    rw (behind_point c.args.at c.args.name.now c.args.cursor.now (is_word c.args.name.now (codes "POINT") _ c.eq_ignore_ascii_case.ensures.test.0 c.if-eq_ignore_ascii_case.true))
    c.in_ok-point_body.ensures

pub returns-then-eq_ignore_ascii_case-2 : goal.returns-then-eq_ignore_ascii_case-2
returns-then-eq_ignore_ascii_case-2 c =
    rw (behind_multi_point c.args.at c.args.name.now c.args.cursor.now (is_word c.args.name.now (codes "MULTIPOINT") _ c.eq_ignore_ascii_case-else-eq_ignore_ascii_case.ensures.test.0 c.if-eq_ignore_ascii_case-2.true))
    c.multi_point_body.ensures

pub returns-then-eq_ignore_ascii_case-3 : goal.returns-then-eq_ignore_ascii_case-3
returns-then-eq_ignore_ascii_case-3 c =
    rw (behind_line_string c.args.at c.args.name.now c.args.cursor.now (is_word c.args.name.now (codes "LINESTRING") _ c.eq_ignore_ascii_case-else-eq_ignore_ascii_case-2.ensures.test.0 c.if-eq_ignore_ascii_case-3.true))
    c.line_string_body.ensures

pub returns-then-eq_ignore_ascii_case-4 : goal.returns-then-eq_ignore_ascii_case-4
returns-then-eq_ignore_ascii_case-4 c =
    rw (behind_multi_line_string c.args.at c.args.name.now c.args.cursor.now (is_word c.args.name.now (codes "MULTILINESTRING") _ c.eq_ignore_ascii_case-else-eq_ignore_ascii_case-3.ensures.test.0 c.if-eq_ignore_ascii_case-4.true))
    c.multi_line_string_body.ensures

pub returns-then-eq_ignore_ascii_case-5 : goal.returns-then-eq_ignore_ascii_case-5
returns-then-eq_ignore_ascii_case-5 c =
    rw (behind_polygon c.args.at c.args.name.now c.args.cursor.now (is_word c.args.name.now (codes "POLYGON") _ c.eq_ignore_ascii_case-else-eq_ignore_ascii_case-4.ensures.test.0 c.if-eq_ignore_ascii_case-5.true))
    c.polygon_body.ensures

pub returns-then-eq_ignore_ascii_case-6 : goal.returns-then-eq_ignore_ascii_case-6
returns-then-eq_ignore_ascii_case-6 c =
    rw (behind_multi_polygon c.args.at c.args.name.now c.args.cursor.now (is_word c.args.name.now (codes "MULTIPOLYGON") _ c.eq_ignore_ascii_case-else-eq_ignore_ascii_case-5.ensures.test.0 c.if-eq_ignore_ascii_case-6.true))
    c.multi_polygon_body.ensures
