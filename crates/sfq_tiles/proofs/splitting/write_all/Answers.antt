-- The schema is made, the parts are written, and the list comes last.
use Rattle.std.proofs.Common.{inl, inr, refl, subst, sym}
use Rattle.std.specs.Io.KnownBytes.{Appends}
use Rattle.sfq_tiles.specs.Splits.{IsLate, IsOfPart, list_of}
use Rattle.sfq_tiles.specs.declared.endings.Ending.TheVariants as e
use Rattle.sfq_tiles.proofs.SplitLemmas.{is_ending}
use Rattle.streams.specs.Sinks.{AppendsFront}
use Rattle.sfq_tiles.proofs.splitting.write_all.Goals as goal

pub returns-in_err-make : goal.returns-in_err-make
returns-in_err-make g c =
    let ending = c.in_err-make.field-0.0 in
    let files = g.I.Sources.bytes c.args.sources.now in
    inr (inr (
      ending,
      is_ending c.from_residual.result ending c.from_residual.ensures.1,
      refl,
      subst (IsLate files c.args.directory.now (IsOfPart c.args.parts.now)) (sym c.in_err-make.ensures.ending) tt,
    ))

pub returns-in_err-written : goal.returns-in_err-written
returns-in_err-written g c =
    let ending = c.in_err-written.field-0.0 in
    inr (inr (
      ending,
      is_ending c.from_residual-in_err-written.result ending c.from_residual-in_err-written.ensures.1,
      refl,
      c.in_err-written.ensures.ending,
    ))

pub returns-in-Ok : goal.returns-in-Ok
returns-in-Ok g c =
    let old = g.S.Sink.taken c.args.out.now in
    let new = g.S.Sink.taken c.list_parts.new.out in
    inl (
      refl,
      record {
        made = c.make.new.targets;
        schema = c.in_ok-make.ensures.made;
        written = c.in_ok-written.written.items;
        all = c.in_ok-written.ensures.written;
        listed = (
          subst (λ ws. Appends old new (list_of c.args.parts.now c.args.cells.now ws)) c.as_slice.ensures.value
              c.in-Ok.ensures.ok,
          c.in-Ok.ensures.failures,
        );
      },
    )

pub returns : goal.returns
returns g c =
    let old = g.S.Sink.taken c.args.out.now in
    let new = g.S.Sink.taken c.list_parts.new.out in
    inr (inl (
      refl,
      record {
        made = c.make.new.targets;
        schema = c.in_ok-make.ensures.made;
        written = c.in_ok-written.written.items;
        all = c.in_ok-written.ensures.written;
        listed = (
          subst (λ ws. AppendsFront old new (list_of c.args.parts.now c.args.cells.now ws)) c.as_slice.ensures.value
              c.in-Err.ensures.front,
          c.in-Err.ensures.failures,
        );
      },
    ))
