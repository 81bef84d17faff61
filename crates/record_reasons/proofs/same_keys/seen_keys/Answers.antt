-- Each turn reads one record more, and adds its key.
use Rattle.std.proofs.Common.{◌≡◌, ◌∙◌, ◌++◌, [], ◌∷◌, ap, arith, length-append, refl, subst, sym}
use Rattle.csv.specs.Records.{fields_of}
use Rattle.csv.specs.contracts.record.ByteRecord.{the_view}
use Rattle.feature_table.specs.Records.{records_in}
use Rattle.record_reasons.proofs.KeyLemmas.{map-more}
use Rattle.record_reasons.proofs.SeenLemmas.{absent, begins, first-read, none-left, read-more, taken}
use Rattle.record_reasons.specs.Reasons.{key_under}
use Rattle.record_reasons.specs.SeenRecords.{HasRead}
use Rattle.record_reasons.proofs.same_keys.seen_keys.Goals as goal

pub loop-place-init : goal.loop-place-init
loop-place-init g c =
    let remaining = g.R.Read.remaining in
    let header = fields_of c.take_record.new.record in
    let next = taken remaining c.args.records.now c.take_record.new.records c.in_ok-take_record.field-0 header
    c.if-not-branch.false
    c.in_ok-take_record.ensures.takes in record {
      ready = c.in_ok-take_record.ensures.ready;
      asked = omega (arith, c.take_record.ensures.asked, c.requires.none);
      read = (
        [],
        refl,
        c.new-keys.ensures.items,
        λ known of. subst (λ r. HasRead remaining known c.take_record.new.records (fields_of r ∷ [])) (sym c.header.view_is)
            (first-read remaining known c.args.records.now c.take_record.new.records header
            (λ text is. (records_in text, of text is, refl)) next),
      );
    }

pub take_record-requires-in-loop-place-clause-ready : goal.take_record-requires-in-loop-place-clause-ready
take_record-requires-in-loop-place-clause-ready g c = c.loop-place.invariant.ready

pub take_record-requires-in-loop-place-clause-limit : goal.take_record-requires-in-loop-place-clause-limit
take_record-requires-in-loop-place-clause-limit g c = omega (arith, c.loop-place.invariant.asked, c.loop-place-test.true, c.requires.limit)

pub loop-place-preserved : goal.loop-place-preserved
loop-place-preserved g c =
    let remaining = g.R.Read.remaining in
    let was = c.loop-place.invariant.read in
    let old = c.loop-place.records in
    let new = c.take_record-in-loop-place.new.records in
    let header = fields_of (the_view c.header.inside) in
    let fields = fields_of c.take_record-in-loop-place.new.record in
    let of_key : c.key_of.result ≡ key_under c.args.table.now (fields_of c.take_record.new.record) fields = c.key_of.ensures in record {
      ready = c.in_ok-take_record-2.ensures.ready;
      asked = omega (arith, c.take_record-in-loop-place.ensures.asked, c.loop-place.invariant.asked);
      read = (
        was.0 ++ fields ∷ [],
        omega (arith, length-append was.0 (fields ∷ []), was.1),
        map-more (key_under c.args.table.now header) was.0 fields c.loop-place.keys.items c.push.new.self.items c.key_of.result was.2 c.in_ok-push.ensures.items
            (of_key ∙ ap (λ h. key_under c.args.table.now (fields_of h) fields) (sym c.header.view_is)),
        λ known of. read-more remaining known old new (header ∷ was.0) fields (was.3 known of)
            (taken remaining old new c.in_ok-take_record-2.field-0 fields c.if-not-branch-2.false c.in_ok-take_record-2.ensures.takes),
      );
    }

pub returns-clause-seen : goal.returns-clause-seen
returns-clause-seen g c known of =
    let was = c.loop-place.invariant.read in
    let at_end : c.loop-place._place ≡ c.args.number = omega (arith, c.loop-place-test.false, c.loop-place.auto._place-end) in record {
      header = fields_of (the_view c.header.inside);
      rest = was.0;
      begins = begins g.R.Read.remaining known c.loop-place.records (fields_of (the_view c.header.inside) ∷ was.0)
          (was.3 known of);
      size = was.1 ∙ at_end;
      are = was.2;
    }

pub returns-then-not-branch-2-clause-absent : goal.returns-then-not-branch-2-clause-absent
returns-then-not-branch-2-clause-absent g c known of =
    let remaining = g.R.Read.remaining in
    let was = c.loop-place.invariant.read in
    absent remaining known c.loop-place.records (fields_of (the_view c.header.inside) ∷ was.0) c.args.number (was.3 known of)
    (none-left remaining c.loop-place.records c.take_record-in-loop-place.new.records c.in_ok-take_record-2.field-0
    (fields_of c.take_record-in-loop-place.new.record) c.if-not-branch-2.true c.in_ok-take_record-2.ensures.takes)
    (omega (arith, was.1, c.loop-place-test.true))
