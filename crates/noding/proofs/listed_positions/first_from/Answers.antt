use Rattle.std.proofs.Common.{rules, ◌≡◌, true, false, ℤ, ◌<ℤ◌, ◌≤ℤ◌, int_lt, List, get_or}
use Rattle.std.specs.List.Sorted.{IsPartitionedBy, IsPartitionPoint}
use Rattle.std.proofs.lemmas.List.Sorted.{IsPartitionPoint-from_clause}
use Rattle.basics.proofs.Signs.{less_from, not_less_from}
use Rattle.basics.proofs.Orders.{still_less}
use Rattle.geometry_model.specs.Points.{Position}
use Rattle.noding.specs.Sweeps.{AscendPositions}
use Rattle.noding.proofs.listed_positions.first_from.Goals as goal

parted : (ps : List Position) (x : ℤ) → AscendPositions ps → IsPartitionedBy (λ a. int_lt a.x x) ps
parted ps x up i j d l m = still_less (get_or ps i d).x (get_or ps j d).x x (up i j d l m)

parts : (ps : List Position) (x : ℤ) (n : _) → IsPartitionPoint (λ a. int_lt a.x x ≡ true) (λ a. int_lt a.x x ≡ false) ps n → IsPartitionPoint (λ a. a.x <ℤ x) (λ a. x ≤ℤ a.x) ps n
parts ps x n h = (λ k d l m. less_from (get_or ps k d).x x (h.0 k d l m), λ k d l m. not_less_from (get_or ps k d).x x (h.1 k d l m))

pub returns-clause-parts : goal.returns-clause-parts
returns-clause-parts c = parts c.args.listed.now c.args.x c.partition_point.result
    (IsPartitionPoint-from_clause (λ (a : Position). int_lt a.x c.args.x) _ _ c.partition_point.ensures.partitioned (parted c.args.listed.now c.args.x c.requires) (λ a r q k. search rules))
