use Rattle.std.proofs.Common.{◌≤◌, ◌<◌, length, rules, subst, sym}
use Rattle.tiles.proofs.SamplerLemmas.{HasRoom, kept_more, room_left, room_made}
use Rattle.tiles.proofs.sampling.Sampler.take.Goals as goal
use Rattle.tiles.proofs.sampling.Sampler.take.Goals.{then-len-ge-SAMPLE_LIMIT, else-len-ge-SAMPLE_LIMIT}

pub returns-clause-sample : goal.returns-clause-sample
returns-clause-sample c all s =
    let old = c.args.self.now in
    let room : HasRoom all c.if-len-ge-SAMPLE_LIMIT.self = elim c.if-len-ge-SAMPLE_LIMIT.branch [
      | then-len-ge-SAMPLE_LIMIT w ↦
          let full : 16384 ≤ length old.corners.items = search rules in
          subst (HasRoom all) (sym w.self-is)
          (room_made all old w.thin.new.self w.thin.ensures.doubled w.thin.ensures.halved w.thin.ensures.same s
          c.if-self-gt0.false full)
      | else-len-ge-SAMPLE_LIMIT w ↦
          let few : length old.corners.items < 16384 = search rules in
          subst (HasRoom all) (sym w.self-is) (room_left all old s c.if-self-gt0.false few)
    ] in
    kept_more all c.args.corner c.if-len-ge-SAMPLE_LIMIT.self _ room (search rules) (search rules) (search rules)
