use Rattle.std.proofs.Common.{All, [], ◌∷◌, subst, sym}
use Rattle.std.proofs.lemmas.List.Elements.{All-append, All-cons, All-nil}
use Rattle.executor.specs.ValueOrder.{IsKey}
use Rattle.executor.proofs.order_keys.keys_of.Goals as goal

pub loop-read-init : goal.loop-read-init
loop-read-init g c = subst (λ keys. All (IsKey c.args.table.now) keys) (sym c.new-keys.ensures.items) (All-nil (IsKey c.args.table.now))

pub loop-read-preserved : goal.loop-read-preserved
loop-read-preserved g c =
    subst (λ keys. All (IsKey c.args.table.now) keys) (sym c.in_ok-push.ensures.items)
    (All-append (IsKey c.args.table.now) c.loop-read.keys.items (c.in_ok-key_of.field-0 ∷ []) c.loop-read.invariant
    (All-cons (IsKey c.args.table.now) c.in_ok-key_of.field-0 [] c.in_ok-key_of.ensures (All-nil (IsKey c.args.table.now))))
