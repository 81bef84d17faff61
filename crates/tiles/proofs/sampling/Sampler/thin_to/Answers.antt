use Rattle.std.proofs.Common.{rules}
use Rattle.tiles.proofs.SamplerLemmas.{least_doubled, more_doubled, thinned}
use Rattle.tiles.proofs.sampling.Sampler.thin_to.Goals as goal

pub loop-turn-preserved : goal.loop-turn-preserved
loop-turn-preserved c =
    let old = c.loop-turn.self in
    let new = c.thin.new.self in
    record {
      column = search rules;
      since = search rules;
      sample = λ all s. thinned all old new c.thin.ensures.doubled c.thin.ensures.halved c.thin.ensures.same
          (c.loop-turn.invariant.sample all s);
      doubled = λ h. more_doubled c.loop-turn.turn old new c.loop-turn-test.true c.thin.ensures.doubled c.thin.ensures.same
          (c.loop-turn.invariant.doubled h);
      least = least_doubled c.args.stride c.args.self.now.stride old new c.if-self-stride.false
          c.thin.ensures.doubled c.thin.ensures.same c.loop-turn.invariant.least;
    }
