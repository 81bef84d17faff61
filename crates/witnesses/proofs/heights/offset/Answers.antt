use Rattle.orient.proofs.Bounds.{beyond_read}
use Rattle.witnesses.proofs.heights.offset.Goals as goal

pub returns-clause-value : goal.returns-clause-value
returns-clause-value c = beyond_read c.beyond.result c.numerator_x.result c.x.result c.denominator.result c.args.p.now.X c.args.at.x c.args.p.now.W (record { sfits = c.beyond.type_inv }) (record { sfits = c.numerator_x.type_inv }) (record { sfits = c.x.type_inv }) (record { sfits = c.denominator.type_inv })
    c.beyond.ensures.value c.numerator_x.ensures.value c.x.ensures.value c.denominator.ensures.value
