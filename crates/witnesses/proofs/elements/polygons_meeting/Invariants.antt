use Rattle.std.proofs.Common.{◌<◌}
use Rattle.geometry_model.specs.Validity.{ElementsShare}
use Rattle.witnesses.proofs.elements.polygons_meeting.Given as goal

-- none of the rings before this one meets a ring of the other polygon
abbrev pub invariant-loop-ring : goal.invariant-loop-ring
invariant-loop-ring l = (w : ElementsShare l.polygon l.other) → w.first.0 < l.ring-index → ⊥
