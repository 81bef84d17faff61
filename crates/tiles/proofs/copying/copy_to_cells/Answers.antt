use Rattle.std.proofs.Common.{◌+◌, ◌<◌, ◌==◌, ℕ, List, ap, arith, length, slice_index, map, subst, sym, ◌∙◌}
use Rattle.std.specs.List.{All, count_by}
use Rattle.csv.specs.Records.{fields_of}
use Rattle.tiles.specs.RecordLines.{envelope_row, field_in, marked_line}
use Rattle.tiles.specs.Texts.{gets_of}
use Rattle.tiles.proofs.RowLemmas.{met_are_cells, met_count, met_few, met_get_row}
use Rattle.tiles.proofs.TextLemmas.{grow_same}
use Rattle.tiles.proofs.copying.copy_to_cells.Goals as goal

pub put_rows-requires : goal.put_rows-requires
put_rows-requires g c =
    subst (All (λ number. number < length c.args.cells.now + 1)) (sym (c.as_slice.ensures.value ∙ c.in_ok-meeting.ensures.exact)) (met_are_cells c.args.cells.now c.args.envelope.now)

pub count_rows-requires-clause-within : goal.count_rows-requires-clause-within
count_rows-requires-clause-within g c =
    subst (λ (top : ℕ). All (λ number. number < top) c.as_slice-2.result.now) (sym c.requires.counts)
    (subst (All (λ number. number < length c.args.cells.now + 1)) (sym (c.as_slice-2.ensures.value ∙ c.in_ok-meeting.ensures.exact)) (met_are_cells c.args.cells.now c.args.envelope.now))

pub count_rows-requires-clause-room : goal.count_rows-requires-clause-room
count_rows-requires-clause-room g c k =
    let few = met_few c.args.cells.now c.args.envelope.now k in
    let met = ap (count_by (λ n. n == k)) (c.as_slice-2.ensures.value ∙ c.in_ok-meeting.ensures.exact) in
    let room = c.requires.room k in
    omega (arith, few, met, room)

pub returns-clause-counted : goal.returns-clause-counted
returns-clause-counted g c k =
    c.count_rows.ensures.counted k
    ∙ ap (λ n. slice_index c.args.counts.now.items k + n)
    (ap (count_by (λ n. n == k)) (c.as_slice-2.ensures.value ∙ c.in_ok-meeting.ensures.exact) ∙ met_count c.args.cells.now c.args.envelope.now k)

pub returns-clause-texts : goal.returns-clause-texts
returns-clause-texts g c =
    let boxes = c.args.cells.now in
    let e = c.args.envelope.now in
    let copied = map (field_in c.args.places.now (fields_of c.args.fields.now)) c.args.columns.now in
    let line = marked_line boxes e copied in
    grow_same (g.T.CellTexts.texts c.args.texts.now) (g.T.CellTexts.texts c.put_rows.new.texts) (gets_of line c.as_slice.result.now) (envelope_row boxes e copied)
    (λ k. ap (λ (met : List ℕ). gets_of line met k) (c.as_slice.ensures.value ∙ c.in_ok-meeting.ensures.exact) ∙ met_get_row boxes e copied k)
    c.in_ok-put_rows.ensures.texts
