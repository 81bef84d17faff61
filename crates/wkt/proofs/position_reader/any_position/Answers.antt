use Rattle.std.proofs.Common.{rules, arith}
use Rattle.std.proofs.lemmas.Grind.{common_steps}
use Rattle.geometry_model.specs.TextReading.{position}
use Rattle.wkt.proofs.position_reader.any_position.Goals as goal

pub returns-in_err-x-clause-read : goal.returns-in_err-x-clause-read
unfolding position
returns-in_err-x-clause-read c =
    let x = c.in_err-x.ensures.value c.numeral.new.cursor in
    first_of (search rules, grind (arith, common_steps))

pub returns-in_err-space-clause-read : goal.returns-in_err-space-clause-read
unfolding position
returns-in_err-space-clause-read c =
    let x = c.in_ok-x.ensures.value c.numeral.new.cursor in
    first_of (search rules, grind (arith, common_steps))

pub returns-in_err-second-clause-read : goal.returns-in_err-second-clause-read
unfolding position
returns-in_err-second-clause-read c =
    let x = c.in_ok-x.ensures.value c.numeral.new.cursor in
    first_of (search rules, grind (arith, common_steps))

pub returns-in_err-y-clause-read : goal.returns-in_err-y-clause-read
unfolding position
returns-in_err-y-clause-read c =
    let x = c.in_ok-x.ensures.value c.numeral.new.cursor in
    let y = c.in_err-y.ensures.value c.numeral-2.new.cursor in
    first_of (search rules, grind (arith, common_steps))

pub returns-clause-read : goal.returns-clause-read
unfolding position
returns-clause-read c =
    let x = c.in_ok-x.ensures.value c.numeral.new.cursor in
    let y = c.in_ok-y.ensures.value c.numeral-2.new.cursor in
    first_of (search rules, grind (arith, common_steps))
