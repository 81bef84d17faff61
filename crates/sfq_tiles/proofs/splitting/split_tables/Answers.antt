-- The words are read first.
use Rattle.std.proofs.Common.{inl, inr, map, refl, subst, sym}
use Rattle.sfq_tiles.specs.Endings.{ending_of}
use Rattle.sfq_tiles.specs.Words.{AreNamed}
use Rattle.sfq_tiles.proofs.SplitLemmas.{is_ending}
use Rattle.sfq_tiles.proofs.splitting.split_tables.Goals as goal

pub returns-in_err-parts : goal.returns-in_err-parts
returns-in_err-parts g c =
    let mistake = c.in_err-parts.field-0.0 in
    inl (mistake, (is_ending c.from_residual.result (ending_of mistake) c.from_residual.ensures.1, refl, refl))

pub returns : goal.returns
returns g c =
    let words =
    subst (λ ws. AreNamed c.args.schema.now (map (λ word. word.now) ws) c.in_ok-parts.parts.items) c.as_slice.ensures.value
    c.in_ok-parts.ensures in
    inr (
      c.as_slice-2.result.now,
      subst (λ ps. AreNamed c.args.schema.now (map (λ word. word.now) c.args.words.now.parts.items) ps)
          (sym c.as_slice-2.ensures.value) words,
      c.split_parts.ensures,
    )
