use Rattle.de9im.proofs.fullness.is_full_off_by.Goals as goal

pub returns-then-not-is_upright : goal.returns-then-not-is_upright
returns-then-not-is_upright c full = c.is_full_off.ensures full c.args.edge.now
