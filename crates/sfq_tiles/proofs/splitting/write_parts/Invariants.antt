use Rattle.std.proofs.Common.{take}
use Rattle.sfq_tiles.specs.Splits.{AreAllWritten}
use Rattle.sfq_tiles.proofs.splitting.write_parts.Given as goal

-- the parts before this one were written
abbrev pub invariant-loop-named : goal.invariant-loop-named
invariant-loop-named g l =
    AreAllWritten g.O.Targets.begins_tiles g.O.Targets.begins_stretches g.O.Targets.takes g.O.Texts.CellTexts.texts
    (g.I.Sources.bytes l.sources) l.directory l.cells l.rows
    (take l.named-index l.parts) l.written.items l.initial.targets l.targets
