-- The bytes behind the next one that are passed over leave the cursor as it is.
use Rattle.std.proofs.Common.{◌+◌, arith, length-drop}
use Rattle.explanations.specs.Fields.{cursor}
use Rattle.explanations.proofs.FieldLemmas.{read_past}
use Rattle.explanations.proofs.field_places.Spot.next.Goals as goal

pub returns-clause-spot : goal.returns-clause-spot
returns-clause-spot c =
    let body = c.args.body.now in
    let behind = c.args.self.place + 1 in
    let size = length-drop behind body in
    let within = rw c.from_place.ensures at c.staying.ensures.within in
    record {
      within = omega (arith, within, size, c.requires.within);
      is = read_past body c.from_place.result.now behind c.staying.result (cursor c.read_more-cursor.result) c.from_place.ensures
          c.staying.ensures.within c.read_more-cursor.ensures.after c.staying.ensures.stay;
      few = (omega (arith, c.read_more-cursor.ensures.few), omega (arith, c.read_more-cursor.ensures.few));
    }
