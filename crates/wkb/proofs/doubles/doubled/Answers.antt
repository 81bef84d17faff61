use Rattle.std.proofs.Common.{arith, ◌<◌, ◌^◌, subst, sym, ℕ}
use Rattle.wkb.proofs.Sizes.{doubled_past, doubled_more, doubled_within, doubled_short}
use Rattle.wkb.proofs.doubles.doubled.Goals as goal

pub returns-then-times-gt24 : goal.returns-then-times-gt24
returns-then-times-gt24 c = doubled_past c.args.number c.args.times c.requires.great (omega arith)

pub returns-then-number-ge79228162514264337593543950336 : goal.returns-then-number-ge79228162514264337593543950336
returns-then-number-ge79228162514264337593543950336 c = doubled_more c.args.number c.args.times (omega arith)

pub returns : goal.returns
returns c =
    let short = doubled_short c.args.number c.args.times (omega arith) (omega arith) in
    (short, subst (λ (n : ℕ). n < 2 ^ 124) (sym short) (doubled_within c.args.number c.args.times (omega arith) (omega arith)))
