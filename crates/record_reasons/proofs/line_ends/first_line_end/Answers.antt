-- Each turn reads one record more, of which no field holds one.
use Rattle.std.proofs.Common.{◌+◌, ◌++◌, ◌≤◌, [], ◌∷◌, arith, length, length-append, refl}
use Rattle.csv.specs.Records.{fields_of}
use Rattle.feature_table.specs.Records.{records_in}
use Rattle.record_reasons.proofs.LineLemmas.{first-there, none-after, none-more, none-within}
use Rattle.record_reasons.proofs.ReasonLemmas.{none-is-so}
use Rattle.record_reasons.proofs.SeenLemmas.{none-left, read-more, taken}
use Rattle.table_model.specs.Loading.{row_limit}
use Rattle.record_reasons.proofs.line_ends.first_line_end.Goals as goal

pub loop-number-init : goal.loop-number-init
loop-number-init g c = record {
  ready = c.requires.ready;
  asked = c.requires.none;
  read = ([], refl, λ k fields there. cc there, λ known of text is. (records_in text, of text is, refl));
}

pub take_record-requires-clause-ready : goal.take_record-requires-clause-ready
take_record-requires-clause-ready g c = c.loop-number.invariant.ready

pub take_record-requires-clause-limit : goal.take_record-requires-clause-limit
take_record-requires-clause-limit g c = omega (arith, c.loop-number.invariant.asked, c.loop-number-test.true)

pub returns-then-not-branch-clause-finds : goal.returns-then-not-branch-clause-finds
returns-then-not-branch-clause-finds g c known of =
    let remaining = g.R.Read.remaining in
    let was = c.loop-number.invariant.read in
    none-after remaining known c.loop-number.records was.0 (was.3 known of)
    (none-left remaining c.loop-number.records c.take_record.new.records c.in_ok-take_record.field-0 (fields_of c.take_record.new.record)
    c.if-not-branch.true c.in_ok-take_record.ensures.takes)
    was.2

pub returns-in-Some-clause-finds : goal.returns-in-Some-clause-finds
returns-in-Some-clause-finds g c known of =
    let remaining = g.R.Read.remaining in
    let was = c.loop-number.invariant.read in
    let fields = fields_of c.take_record.new.record in
    first-there remaining known c.loop-number.records c.take_record.new.records was.0 fields c.loop-number.number
    c.in-Some.field (was.3 known of)
    (taken remaining c.loop-number.records c.take_record.new.records c.in_ok-take_record.field-0 fields c.if-not-branch.false c.in_ok-take_record.ensures.takes)
    was.1 was.2 c.in-Some.ensures.found

pub loop-number-preserved : goal.loop-number-preserved
loop-number-preserved g c =
    let remaining = g.R.Read.remaining in
    let was = c.loop-number.invariant.read in
    let fields = fields_of c.take_record.new.record in record {
      ready = c.in_ok-take_record.ensures.ready;
      asked = omega (arith, c.take_record.ensures.asked, c.loop-number.invariant.asked);
      read = (
        was.0 ++ fields ∷ [],
        omega (arith, length-append was.0 (fields ∷ []), was.1),
        none-more was.0 fields was.2 (none-is-so c.line_end_in.result _ c.in_default.is c.line_end_in.ensures.none),
        λ known of. read-more remaining known c.loop-number.records c.take_record.new.records was.0 fields (was.3 known of)
            (taken remaining c.loop-number.records c.take_record.new.records c.in_ok-take_record.field-0 fields c.if-not-branch.false
            c.in_ok-take_record.ensures.takes),
      );
    }

pub returns-clause-finds : goal.returns-clause-finds
returns-clause-finds g c known of =
    let remaining = g.R.Read.remaining in
    let was = c.loop-number.invariant.read in
    let many : row_limit + 2 ≤ length was.0 = omega (arith, was.1, c.loop-number-test.false) in
    none-within remaining known c.loop-number.records was.0 (was.3 known of) many was.2
