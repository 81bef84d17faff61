use Rattle.std.proofs.Common.{◌≡◌, ℕ, true, false, List, arith, rules}
use Rattle.std.specs.List.Sorted.{IsPartitionPoint}
use Rattle.std.proofs.Math.Dec.{leb}
use Rattle.std.proofs.lemmas.List.Sorted.{IsPartitionPoint-from_clause, IsPartitionedBy-leb}
use Rattle.geometry_model.specs.Geometries.{Edge}
use Rattle.edge_boxes.specs.Chains.{AreBreaks}
use Rattle.edge_boxes.proofs.Breaks.{FindsBreak, chain_from, chain_from_break, is_break}
use Rattle.edge_boxes.proofs.chains.chain_start_among.Goals as goal

pub returns-then-after-eq0-clause-chain : goal.returns-then-after-eq0-clause-chain
returns-then-after-eq0-clause-chain c edges are =
    let none = c.if-after-eq0.true in
    chain_from c.args.breaks.now edges c.args.place c.partition_point-after.result c.args.from
    (IsPartitionPoint-from_clause (λ (b : ℕ). leb b c.args.place) c.args.breaks.now c.partition_point-after.result
    c.partition_point-after.ensures.partitioned (IsPartitionedBy-leb (λ (x : ℕ). x) c.args.breaks.now c.args.place are.ascend)
    (λ a r q k. search rules)) c.partition_point-after.ensures.bound (λ d h. absurd (omega (arith, h, none))) are

pub returns-then-after-eq0-clause-first : goal.returns-then-after-eq0-clause-first
returns-then-after-eq0-clause-first c edges are later = absurd (omega (arith, later))

finds : (c : goal.After-clamp) (edges : List Edge) → AreBreaks c.args.breaks.now edges
    → FindsBreak c.args.breaks.now edges c.args.place c.partition_point-after.result c.args.from c.clamp.result
finds c edges are = record {
  are = are;
  parts = IsPartitionPoint-from_clause (λ (b : ℕ). leb b c.args.place) c.args.breaks.now c.partition_point-after.result
      c.partition_point-after.ensures.partitioned
      (IsPartitionedBy-leb (λ (x : ℕ). x) c.args.breaks.now c.args.place are.ascend) (λ a r q k. search rules);
  within = c.partition_point-after.ensures.bound;
  some = omega (arith, c.if-after-eq0.false);
  is = c.clamp.ensures;
}

pub returns-clause-chain : goal.returns-clause-chain
returns-clause-chain c edges are = chain_from_break c.args.breaks.now edges c.args.place c.partition_point-after.result
    c.args.from c.clamp.result (finds c edges are)

pub returns-clause-first : goal.returns-clause-first
returns-clause-first c edges are = is_break c.args.breaks.now edges c.args.place c.partition_point-after.result
    c.args.from c.clamp.result (finds c edges are)
