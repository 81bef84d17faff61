-- The polygons before this one were read, and the room that they leave is known.
use Rattle.std.proofs.Common.{◌≡◌, ◌∙◌, ◌-◌, map, suc, Ok, Err, true, false, rules, arith, ap, sym}
use Rattle.std.proofs.lemmas.Grind.{common_steps}
use Rattle.geometry_model.specs.TextReading.{and_then, pure, eat, polygon}
use Rattle.geometry_model.specs.WellKnownText.{without_repeats}
use Rattle.text_laws.proofs.RoomLists.{itself}
use Rattle.wkt.proofs.Rooms.{polygon_made, polygons_begin, made_fails, made_and_more, made_last}
use Rattle.wkt.proofs.list_reader.polygons.Goals as goal

pub loop-polygons-init : goal.loop-polygons-init
loop-polygons-init c = record {
  turns = c.args.most.parts;
  enough = omega arith;
  read = rw c.new-polygons.ensures (polygons_begin c.args.most c.args.cursor.now);
  within = c.requires;
}

pub padded_polygon-requires : goal.padded_polygon-requires
padded_polygon-requires c = c.loop-polygons.invariant.within

pub returns-in_err-rings : goal.returns-in_err-rings
returns-in_err-rings c =
    let is : c.from_residual.result ≡ Err c.in_err-rings.field-0.0 = first_of (search rules, grind (arith, common_steps)) in
    rw is
    (λ fault said. ap (λ r. and_then r (λ found. pure found.0))
    (c.loop-polygons.invariant.read
    ∙ made_fails polygon itself (map without_repeats) c.loop-polygons.polygons c.loop-polygons.invariant.turns c.loop-polygons.room c.loop-polygons.cursor fault
    (sym (polygon_made c.loop-polygons.room c.loop-polygons.cursor) ∙ c.in_err-rings.ensures.read fault said)))

pub returns-then-not-eat : goal.returns-then-not-eat
returns-then-not-eat c =
    let comma : eat 44 c.padded_polygon.new.cursor ≡ Ok (false, c.eat.new.self) = cc in
    let turn : c.loop-polygons.invariant.turns ≡ suc (c.loop-polygons.invariant.turns - 1) = omega (arith, c.in_ok-rings.ensures.left.0, c.loop-polygons.invariant.enough) in
    ap (λ r. and_then r (λ found. pure found.0))
    (c.loop-polygons.invariant.read
    ∙ made_last polygon itself (map without_repeats) c.loop-polygons.polygons c.loop-polygons.invariant.turns (c.loop-polygons.invariant.turns - 1) c.loop-polygons.room c.in_ok-rings.left c.loop-polygons.cursor c.padded_polygon.new.cursor c.eat.new.self
    c.in_ok-rings.rings.items turn (sym (polygon_made c.loop-polygons.room c.loop-polygons.cursor) ∙ c.in_ok-rings.ensures.read) comma)
    ∙ ap (λ l. Ok (l, c.eat.new.self)) (sym c.in_ok-polygons.ensures)

pub loop-polygons-preserved : goal.loop-polygons-preserved
loop-polygons-preserved c =
    let comma : eat 44 c.padded_polygon.new.cursor ≡ Ok (true, c.eat.new.self) = cc in
    let turn : c.loop-polygons.invariant.turns ≡ suc (c.loop-polygons.invariant.turns - 1) = omega (arith, c.in_ok-rings.ensures.left.0, c.loop-polygons.invariant.enough) in
    record {
      turns = c.loop-polygons.invariant.turns - 1;
      enough = omega (arith, c.in_ok-rings.ensures.left.0, c.loop-polygons.invariant.enough);
      read = rw c.in_ok-polygons.ensures (c.loop-polygons.invariant.read
          ∙ made_and_more polygon itself (map without_repeats) c.loop-polygons.polygons c.loop-polygons.invariant.turns (c.loop-polygons.invariant.turns - 1) c.loop-polygons.room c.in_ok-rings.left c.loop-polygons.cursor c.padded_polygon.new.cursor c.eat.new.self
          c.in_ok-rings.rings.items turn (sym (polygon_made c.loop-polygons.room c.loop-polygons.cursor) ∙ c.in_ok-rings.ensures.read) comma);
      within = c.in_ok-rings.ensures.left.1;
    }
