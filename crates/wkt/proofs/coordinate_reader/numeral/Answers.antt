use Rattle.wkt.proofs.coordinate_reader.numeral.Goals as goal

pub invariant_of-result : goal.invariant_of-result
invariant_of-result c = c.run-whole.ensures.all
