-- One byte more before the place takes its columns of what is left, and a byte behind the first of a character takes none.
use Rattle.std.proofs.Common.{◌≡◌, ◌∙◌, ◌+◌, ◌-◌, ◌≤◌, ◌<◌, arith, drop, subst, sym, take}
use Rattle.std.specs.Prelude.{slice_index}
use Rattle.explanations.specs.Marks.{columns, width}
use Rattle.explanations.proofs.MarkLemmas.{columns_before, inner_width}
use Rattle.explanations.proofs.marks.first_shown.Goals as goal

pub loop-from-preserved : goal.loop-from-preserved
loop-from-preserved c =
    let held = c.loop-from.invariant in
    let from = c.loop-from.from in
    let bytes = take c.args.place c.args.text.now in
    let less : from - 1 < c.args.place = omega (arith, c.loop-from-test.true, held.place) in
    let back : from - 1 + 1 ≡ from = omega (arith, c.loop-from-test.true) in
    let more = subst
    (λ n. columns c.args.utf8 (drop (from - 1) bytes)
    ≡ width c.args.utf8 (slice_index c.args.text.now (from - 1)) + columns c.args.utf8 (drop n bytes)) back
    (columns_before c.args.utf8 c.args.text.now (from - 1) c.args.place less c.requires.1) in
    record {
      start = omega (arith, c.loop-from-test.true);
      place = omega (arith, less);
      left = omega (arith, more, held.left, c.width.ensures.is, c.width-left.ensures.is, c.if-width-left.true);
    }

pub loop-from-2-preserved : goal.loop-from-2-preserved
loop-from-2-preserved c =
    let held = c.loop-from-2.invariant in
    let from = c.loop-from-2.from in
    let bytes = take c.args.place c.args.text.now in
    let more = columns_before c.args.utf8 c.args.text.now from c.args.place c.if-from-place.true c.requires.1 in
    let none = inner_width c.args.utf8 (slice_index c.args.text.now from) c.loop-from-2-test.true
    (sym c.begins_character.ensures ∙ c.if-not-begins_character.true) in
    let same : columns c.args.utf8 (drop from bytes) ≡ columns c.args.utf8 (drop (from + 1) bytes) = omega (arith, more, none) in
    record {
      start = omega (arith, held.start);
      place = omega (arith, c.if-from-place.true);
      fits = subst (λ n. n ≤ 100) same held.fits;
      cut = λ _. subst (λ n. 96 < n) same (held.cut c.if-start-from.true);
    }
