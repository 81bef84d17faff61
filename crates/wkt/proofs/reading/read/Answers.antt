-- What was found is what the text spells; a fault is that of the text.
use Rattle.std.proofs.Common.{◌≡◌, Ok, Err, rules, arith}
use Rattle.std.proofs.lemmas.Grind.{common_steps}
use Rattle.geometry_model.specs.TextReading.{read_text}
use Rattle.wkt.specs.Shapes.{geometry_in}
use Rattle.wkt.specs.TextFaults.{text_fault}
use Rattle.wkt.proofs.Wholes.{found_is, found_spells, found_is_kept, found_alone, found_again, fault_is, fault_is_memory, fault_applies}
use Rattle.wkt.proofs.reading.read.Goals as goal

pub kept-requires : goal.kept-requires
kept-requires c =
    let found : read_text c.args.text.now ≡ Ok (geometry_in c.in_ok-shape.shape) = found_is c.args.text.now _ c.whole.new.cursor (rw c.new-cursor.ensures at c.in_ok-shape.ensures) in
    found_is_kept c.args.text.now (geometry_in c.in_ok-shape.shape) found

pub returns-in_err-shape-clause-fault : goal.returns-in_err-shape-clause-fault
returns-in_err-shape-clause-fault c =
    let is : c.from_residual.result ≡ Err c.in_err-shape.field-0.0 = first_of (search rules, grind (arith, common_steps)) in
    rw is (fault_is c.args.text.now c.in_err-shape.field-0.0 (rw c.new-cursor.ensures at c.in_err-shape.ensures))

pub returns-in_err-shape-clause-read : goal.returns-in_err-shape-clause-read
returns-in_err-shape-clause-read c =
    let is : c.from_residual.result ≡ Err c.in_err-shape.field-0.0 = first_of (search rules, grind (arith, common_steps)) in
    rw is (fault_is_memory c.args.text.now c.in_err-shape.field-0.0 (fault_is c.args.text.now c.in_err-shape.field-0.0 (rw c.new-cursor.ensures at c.in_err-shape.ensures)))

pub returns-in_err-shape-clause-refusal : goal.returns-in_err-shape-clause-refusal
returns-in_err-shape-clause-refusal c =
    let is : c.from_residual.result ≡ Err c.in_err-shape.field-0.0 = first_of (search rules, grind (arith, common_steps)) in
    rw is (fault_applies c.args.text.now (text_fault c.in_err-shape.field-0.0) (fault_is c.args.text.now c.in_err-shape.field-0.0 (rw c.new-cursor.ensures at c.in_err-shape.ensures)))

pub returns-clause-ok : goal.returns-clause-ok
returns-clause-ok c =
    let found : read_text c.args.text.now ≡ Ok (geometry_in c.in_ok-shape.shape) = found_is c.args.text.now _ c.whole.new.cursor (rw c.new-cursor.ensures at c.in_ok-shape.ensures) in
    rw c.kept.ensures found

pub returns-clause-spelled : goal.returns-clause-spelled
returns-clause-spelled c = found_spells c.args.text.now _ (returns-clause-ok c)

pub returns-clause-read : goal.returns-clause-read
returns-clause-read c = found_alone c.args.text.now _ (returns-clause-ok c)

pub returns-clause-canonical : goal.returns-clause-canonical
returns-clause-canonical c = found_again c.args.text.now _ (returns-clause-ok c)
