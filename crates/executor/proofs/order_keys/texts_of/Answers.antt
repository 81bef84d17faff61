use Rattle.std.proofs.Common.{◌≡◌, ◌+◌, ◌∙◌, [], ◌∷◌, ap, arith, length, refl, subst, sym}
use Rattle.std.proofs.lemmas.List.{length-append}
use Rattle.executor.proofs.OrderKeyLemmas.{one_text_more, whole_texts}
use Rattle.executor.specs.ValueOrder.{HoldTexts, field_of}
use Rattle.spatial_sql.specs.Readings.{value_read}
use Rattle.spatial_sql.specs.declared.readings.Reading.TheVariants as readings
use Rattle.executor.proofs.order_keys.texts_of.Goals as goal

pub loop-place-init : goal.loop-place-init
loop-place-init g c =
    subst (λ texts. (length texts ≡ 0) × HoldTexts c.args.column c.args.table.now texts) (sym c.new-texts.ensures.items)
    (refl, λ place l. absurd (omega (arith, l)))

pub loop-place-preserved : goal.loop-place-preserved
loop-place-preserved g c =
    let texts = c.loop-place.texts.items in
    let text = c.in_ok-text_of_field.field-0 in (
      ap length c.in_ok-push.ensures.items ∙ length-append texts (text ∷ []) ∙ ap (λ n. n + 1) c.loop-place.invariant.0,
      one_text_more c.args.column c.args.table.now texts _ text c.in_ok-push.ensures.items c.loop-place.invariant.1
          (c.in_ok-text_of_field.ensures ∙ ap (value_read readings.Text) c.field_of.ensures
          ∙ ap (λ k. value_read readings.Text (field_of c.args.column c.args.table.now k)) (sym c.loop-place.invariant.0)),
    )

pub returns : goal.returns
returns g c =
    whole_texts c.args.column c.args.table.now c.loop-place.texts.items
    (omega (arith, c.rows-place-end.ensures.count, c.loop-place-test.false, c.loop-place.invariant.0)) c.loop-place.invariant.1
