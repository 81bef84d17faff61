-- The span of x, and then that of y; a front of one of them after what is before it.
use Rattle.std.proofs.Common.{◌∙◌, refl, subst, w32}
use Rattle.std.proofs.lemmas.Int.{to_z-of_z}
use mir.Val.{SFits, of_z, to_z}
use Rattle.streams.proofs.PartLemmas.{front-same}
use Rattle.streams.proofs.SinkLemmas.{AppendsFront-more, OnErr-holds, then-put}
use Rattle.streams.specs.Sinks.{AppendsFront}
use Rattle.sfq_tiles.specs.Lists.{span_text}
use Rattle.sfq_tiles.proofs.ListLemmas.{last_front, spans}
use Rattle.sfq_tiles.proofs.listing.put_sides.Goals as goal

pub returns-in_err-put_span-clause-front : goal.returns-in_err-put_span-clause-front
returns-in_err-put_span-clause-front g c =
    let box = c.in-Some.sides in
    let f1 : SFits w32 c.least_x.result = record { sfits = c.least_x.type_inv } in
    let f2 : SFits w32 c.greatest_x.result = record { sfits = c.greatest_x.type_inv } in
    let x = to_z w32 (of_z w32 c.least_x.result) in
    let xx = to_z w32 (of_z w32 c.greatest_x.result) in
    let text = spans c.args.cell.now box x xx box.least_y box.greatest_y c.in-Some.is (to_z-of_z w32 c.least_x.result f1 ∙ c.least_x.ensures.value) (to_z-of_z w32 c.greatest_x.result f2 ∙ c.greatest_x.ensures) refl refl in
    OnErr-holds c.from_residual.result
    (subst (λ t. AppendsFront (g.S.Sink.taken c.args.out.now) (g.S.Sink.taken c.put_span.new.out) t) text
    (AppendsFront-more (g.S.Sink.taken c.args.out.now) (g.S.Sink.taken c.put_span.new.out) (span_text x xx) (span_text box.least_y box.greatest_y) c.in_err-put_span.ensures.front))

pub returns-clause-ok : goal.returns-clause-ok
returns-clause-ok g c =
    let f1 : SFits w32 c.least_x.result = record { sfits = c.least_x.type_inv } in
    let f2 : SFits w32 c.greatest_x.result = record { sfits = c.greatest_x.type_inv } in
    let f3 : SFits w32 c.least_y.result = record { sfits = c.least_y.type_inv } in
    let f4 : SFits w32 c.greatest_y.result = record { sfits = c.greatest_y.type_inv } in
    let x = to_z w32 (of_z w32 c.least_x.result) in
    let xx = to_z w32 (of_z w32 c.greatest_x.result) in
    let y = to_z w32 (of_z w32 c.least_y.result) in
    let yy = to_z w32 (of_z w32 c.greatest_y.result) in
    let text = spans c.args.cell.now c.in-Some.sides x xx y yy c.in-Some.is (to_z-of_z w32 c.least_x.result f1 ∙ c.least_x.ensures.value) (to_z-of_z w32 c.greatest_x.result f2 ∙ c.greatest_x.ensures)
    (to_z-of_z w32 c.least_y.result f3 ∙ c.least_y.ensures.value) (to_z-of_z w32 c.greatest_y.result f4 ∙ c.greatest_y.ensures) in
    then-put c.put_span-2.result (g.S.Sink.taken c.args.out.now) (g.S.Sink.taken c.put_span.new.out) (g.S.Sink.taken c.put_span-2.new.out) (span_text x xx) (span_text y yy) _ text c.in_ok-put_span.ensures.ok c.put_span-2.ensures.ok

pub returns-clause-front : goal.returns-clause-front
returns-clause-front g c =
    let f1 : SFits w32 c.least_x.result = record { sfits = c.least_x.type_inv } in
    let f2 : SFits w32 c.greatest_x.result = record { sfits = c.greatest_x.type_inv } in
    let f3 : SFits w32 c.least_y.result = record { sfits = c.least_y.type_inv } in
    let f4 : SFits w32 c.greatest_y.result = record { sfits = c.greatest_y.type_inv } in
    let x = to_z w32 (of_z w32 c.least_x.result) in
    let xx = to_z w32 (of_z w32 c.greatest_x.result) in
    let y = to_z w32 (of_z w32 c.least_y.result) in
    let yy = to_z w32 (of_z w32 c.greatest_y.result) in
    let text = spans c.args.cell.now c.in-Some.sides x xx y yy c.in-Some.is (to_z-of_z w32 c.least_x.result f1 ∙ c.least_x.ensures.value) (to_z-of_z w32 c.greatest_x.result f2 ∙ c.greatest_x.ensures)
    (to_z-of_z w32 c.least_y.result f3 ∙ c.least_y.ensures.value) (to_z-of_z w32 c.greatest_y.result f4 ∙ c.greatest_y.ensures) in
    front-same c.put_span-2.result (g.S.Sink.taken c.args.out.now) (g.S.Sink.taken c.put_span-2.new.out) _ _ text
    (last_front c.put_span-2.result (g.S.Sink.taken c.args.out.now) (g.S.Sink.taken c.put_span.new.out) (g.S.Sink.taken c.put_span-2.new.out) (span_text x xx) (span_text y yy) c.in_ok-put_span.ensures.ok c.put_span-2.ensures.front)
