-- The rings before this one were read, and the room that they leave is known.
use Rattle.std.proofs.Common.{◌≡◌, ◌∙◌, suc, Ok, Err, true, false, rules, arith, sym}
use Rattle.std.proofs.lemmas.Grind.{common_steps}
use Rattle.geometry_model.specs.TextReading.{eat}
use Rattle.geometry_model.specs.WellKnownText.{without_repeats}
use Rattle.text_laws.proofs.RoomLists.{ring, alone}
use Rattle.wkt.proofs.Rooms.{ring_made, rings_begin, made_fails, made_and_more, made_last}
use Rattle.wkt.proofs.list_reader.rings.Goals as goal

pub loop-rings-init : goal.loop-rings-init
loop-rings-init c = record {
  read = rw c.new-rings.ensures.items (rings_begin c.args.most c.args.cursor.now);
  within = c.requires;
  fewer = omega arith;
}

pub padded_ring-requires : goal.padded_ring-requires
padded_ring-requires c = c.loop-rings.invariant.within

pub returns-in_err-ring-clause-read : goal.returns-in_err-ring-clause-read
returns-in_err-ring-clause-read c =
    let is : c.from_residual.result ≡ Err c.in_err-ring.field-0.0 = first_of (search rules, grind (arith, common_steps)) in
    rw is
    (λ fault said. c.loop-rings.invariant.read
    ∙ made_fails ring alone without_repeats c.loop-rings.rings.items c.loop-rings.room.parts c.loop-rings.room c.loop-rings.cursor fault
    (sym (ring_made c.loop-rings.room c.loop-rings.cursor) ∙ c.in_err-ring.ensures.read fault said))

pub returns-then-not-eat-clause-read : goal.returns-then-not-eat-clause-read
returns-then-not-eat-clause-read c =
    let comma : eat 44 c.padded_ring.new.cursor ≡ Ok (false, c.eat.new.self) = cc in
    let fewer : c.loop-rings.room.parts ≡ suc c.in_ok-ring.left.parts = omega (arith, c.in_ok-ring.ensures.left.0) in
    rw c.in_ok-push.ensures.items
    (c.loop-rings.invariant.read
    ∙ made_last ring alone without_repeats c.loop-rings.rings.items c.loop-rings.room.parts c.in_ok-ring.left.parts c.loop-rings.room c.in_ok-ring.left c.loop-rings.cursor c.padded_ring.new.cursor c.eat.new.self
    c.in_ok-ring.ring fewer (sym (ring_made c.loop-rings.room c.loop-rings.cursor) ∙ c.in_ok-ring.ensures.read) comma)

pub returns-then-not-eat-clause-left : goal.returns-then-not-eat-clause-left
returns-then-not-eat-clause-left c = (omega (arith, c.in_ok-ring.ensures.left.0, c.loop-rings.invariant.fewer), c.in_ok-ring.ensures.left.1)

pub loop-rings-preserved : goal.loop-rings-preserved
loop-rings-preserved c =
    let comma : eat 44 c.padded_ring.new.cursor ≡ Ok (true, c.eat.new.self) = cc in
    let fewer : c.loop-rings.room.parts ≡ suc c.in_ok-ring.left.parts = omega (arith, c.in_ok-ring.ensures.left.0) in
    rw c.in_ok-push.ensures.items record {
      read = c.loop-rings.invariant.read
          ∙ made_and_more ring alone without_repeats c.loop-rings.rings.items c.loop-rings.room.parts c.in_ok-ring.left.parts c.loop-rings.room c.in_ok-ring.left c.loop-rings.cursor c.padded_ring.new.cursor c.eat.new.self
          c.in_ok-ring.ring fewer (sym (ring_made c.loop-rings.room c.loop-rings.cursor) ∙ c.in_ok-ring.ensures.read) comma;
      within = c.in_ok-ring.ensures.left.1;
      fewer = omega (arith, c.in_ok-ring.ensures.left.0, c.loop-rings.invariant.fewer);
    }
