use Rattle.wkb.proofs.Scaling.{halved_significand}
use Rattle.wkb.proofs.nearest_doubles.significand.Goals as goal

pub returns : goal.returns
returns c = halved_significand c.args.number c.args.parts c.scale-found.result c.scale-found.ensures
    c.if-found-lt9007199254740992.false
