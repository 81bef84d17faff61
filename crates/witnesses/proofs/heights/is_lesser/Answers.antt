use Rattle.std.specs.Prelude.{int_lt}
use Rattle.std.proofs.Common.{ap₂}
use Rattle.witnesses.proofs.NumberReads.{rise_fits, run_fits_twice, product_fits, wide_product_read}
use Rattle.witnesses.proofs.heights.is_lesser.Goals as goal

pub returns : goal.returns
returns c = ap₂ int_lt
    (wide_product_read c.args.rise c.args.nearest.run c.ranges.rise (run_fits_twice c.args.nearest.run c.requires.nearest.run) (product_fits c.args.rise c.args.nearest.run c.requires.rise c.requires.nearest.run))
    (wide_product_read c.args.nearest.rise c.args.run (rise_fits c.args.nearest.rise c.requires.nearest.rise) c.ranges.run (product_fits c.args.nearest.rise c.args.run c.requires.nearest.rise c.requires.run))
