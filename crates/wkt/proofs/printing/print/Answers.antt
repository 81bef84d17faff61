-- The canonical text was put, and it spells the geometry.
use Rattle.std.proofs.Common.{sym, subst, OnOk}
use Rattle.std.specs.Io.KnownBytes.{Appends}
use Rattle.geometry_model.specs.CanonicalText.{canonical_text}
use Rattle.wkt.proofs.PrintLemmas.{put-holds}
use Rattle.wkt.proofs.printing.print.Goals as goal

pub returns-clause-spells : goal.returns-clause-spells
returns-clause-spells g c =
    put-holds c.put_shape.result _ _ c.args.geometry.now
    (subst (λ h. OnOk c.put_shape.result (Appends (g.S.Sink.taken c.args.sink.now) (g.S.Sink.taken c.put_shape.new.sink) (canonical_text h))) (sym c.shape.ensures) c.put_shape.ensures.ok)
