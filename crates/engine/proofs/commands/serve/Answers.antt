-- Each call of the opener of files is one of the opener of paths that it has.
use Rattle.std.proofs.Common.{◌∙◌, ◌∷◌, [], Some, of_calls, refl, subst}
use Rattle.std.specs.Fn.{CalledAt}
use denote.Param.Always.{always_mut, mut_by, mut_next}
use Rattle.engine.proofs.PathLemmas.{by-paths-alone}
use Rattle.streams.specs.MemorySinks.{memory_bytes, memory_failures}
use Rattle.text_commands.specs.Files.{OpensFile, OpensPath, path_of}
use Rattle.engine.proofs.commands.serve.Goals as goal

pub serve_order-requires : goal.serve_order-requires
serve_order-requires g c =
    mut_by _ (λ s. always_mut g.F.FnMut s.0.now) (λ s a i y is. (i.at ((y, tt) ∷ [])).0)
    (λ s a r t i e.
    let called : CalledAt g.F.FnMut s.0.now (path_of a.0) r t.0.now = search of_calls in
    mut_next g.F.FnMut s.0.now (called.shown, tt) r t.0.now t.0.now called.called refl i) _ (search of_calls)

pub returns : goal.returns
returns g c = record {
  serves = by-paths-alone {files = OpensFile _} (OpensPath g.F.FnMut) g.R.Read.remaining g.E.Sink.taken g.E.Sink.failures
      g.S.Sink.taken g.S.Sink.failures c.args.out.now c.serve_order.new.out (λ sink. Some (memory_bytes sink)) memory_failures
      _ _ _ c.args.order.now c.serve_order.result c.args.err.now c.serve_order.new.err c.serve_order.ensures.serves
      (λ s. s.0.now)
      (λ kind is opener path reader after opened.
      subst (λ p. CalledAt g.F.FnMut opener.0.now p reader after.0.now) (is opened.shown ∙ opened.shows) opened.called.met.1.1);
}
