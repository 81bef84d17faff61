-- Nothing is made before all tables are checked.
use Rattle.std.proofs.Common.{◌∙◌, inl, inr, refl, subst}
use Rattle.sfq_tiles.specs.Endings.{ending_of, memory_ending}
use Rattle.sfq_tiles.specs.Splits.{IsFound, WritesParts}
use Rattle.sfq_tiles.specs.declared.endings.Ending.TheVariants as e
use Rattle.sfq_tiles.proofs.SplitLemmas.{is_ending, mistaken_early, unchecked_early}
use Rattle.table_model.specs.GeometryColumns.{shape_named}
use Rattle.table_model.specs.SchemaGrammar.{IsSchema}
use Rattle.sfq_tiles.proofs.splitting.split_parts.Goals as goal

pub returns-in_err-text : goal.returns-in_err-text
returns-in_err-text g c =
    let mistake = c.in_err-text.field-0.0 in
    let files = g.I.Sources.bytes c.args.sources.now in
    inl (
      ending_of mistake,
      (is_ending c.from_residual.result (ending_of mistake) c.from_residual.ensures.1, refl, refl),
      mistaken_early files c.args.directory.now c.args.schema.now c.args.parts.now mistake c.in_err-text.ensures.refused,
    )

pub returns-then-is_there : goal.returns-then-is_there
returns-then-is_there g c =
    inr (inl ((refl, refl, refl), subst (IsFound (g.O.Targets.there c.args.targets.now)) c.if-is_there.true c.is_there.ensures))

pub returns-in_err-samplers : goal.returns-in_err-samplers
returns-in_err-samplers g c =
    let ending = c.in_err-samplers.field-0.0 in
    let files = g.I.Sources.bytes c.args.sources.now in
    inl (
      ending,
      (is_ending c.from_residual-in_err-samplers.result ending c.from_residual-in_err-samplers.ensures.1, refl, refl),
      unchecked_early files c.args.directory.now c.args.schema.now c.args.parts.now ending c.in_err-samplers.ensures.ending,
    )

pub returns-in_err-cells : goal.returns-in_err-cells
returns-in_err-cells g c =
    inl (
      memory_ending,
      (is_ending c.from_residual-in_err-cells.result memory_ending c.from_residual-in_err-cells.ensures.1, refl, refl),
      inl refl,
    )

pub returns : goal.returns
returns g c =
    let text = c.as_str.ensures.value ∙ c.in_ok-text.ensures.text in
    let made = c.in_ok-text.ensures.tables in
    inr (inr (
      subst (IsFound (g.O.Targets.there c.args.targets.now)) c.if-is_there.false c.is_there.ensures,
      c.in_ok-samplers.ensures.checked,
      (made.0, subst (λ t. IsSchema shape_named t made.0) c.in_ok-text.ensures.text made.1, made.2),
      c.in_ok-cells.cells,
      c.in_ok-cells.ensures,
      subst
          (λ t. WritesParts g.O.Targets.there g.O.Targets.begins_tiles g.O.Targets.begins_stretches g.O.Targets.takes
          g.O.Texts.CellTexts.texts g.O.Targets.makes g.S.Sink.taken g.S.Sink.failures
          c.args.targets.now c.write_all.new.targets c.args.out.now c.write_all.new.out
          (g.I.Sources.bytes c.args.sources.now) c.args.directory.now c.in_ok-cells.cells c.args.rows t c.args.parts.now
          c.write_all.result)
          text c.write_all.ensures,
    ))
