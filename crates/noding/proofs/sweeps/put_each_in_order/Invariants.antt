use Rattle.noding.specs.Sweeps.{OrdersFirst}
use Rattle.noding.proofs.sweeps.put_each_in_order.Given as goal

-- the lists before this one
abbrev pub invariant-loop-place : goal.invariant-loop-place
invariant-loop-place l = OrdersFirst l.place l.initial.breaks l.breaks
