-- A line without quotes is stepped over as a whole.
use Rattle.std.proofs.Common.{◌∙◌, ap, arith, length-drop, slice_index}
use Rattle.std.proofs.lemmas.Bool.{false_from_ne_true}
use Rattle.memchr.specs.Find.{is_byte3}
use Rattle.explanations.proofs.FieldLemmas.{line_past}
use Rattle.explanations.proofs.field_places.Spot.after_line.Goals as goal

pub returns-clause-spot : goal.returns-clause-spot
returns-clause-spot c =
    let body = c.args.body.now in
    let at = c.args.self.place in
    let rest = c.from_place-rest.result.now in
    let size = length-drop at body in
    let found = rw c.in_ok-end.was at c.memchr3.ensures in
    let within = rw c.from_place-rest.ensures at found.0.high in
    let begins = rw c.in-RecordStart.is at c.requires.is in
    record {
      within = omega (arith, within, size, c.requires.within);
      is = c.at_next_record.ensures
          ∙ line_past body rest at c.args.self.cursor.records c.args.self.cursor.fields c.from_place-rest.ensures begins
          c.in_ok-end.end
          (omega (arith, c.if-end-eq0.false)) found.0.high
          (λ k less. false_from_ne_true (is_byte3 34 13 10 (slice_index rest k)) (found.0.before k (omega arith) less))
          c.if-rest-end-ne10.false;
      few = (
        omega (arith, c.requires.few, ap (λ x. x.1) c.at_next_record.ensures),
        omega (arith, ap (λ x. x.2) c.at_next_record.ensures),
      );
    }
