use Rattle.std.proofs.Common.{◌≡◌, ◌++◌, ◌∙◌, ap, subst, ℕ, OnOk}
use Rattle.std.proofs.lemmas.Int.{to_z-of_z}
use Rattle.std.specs.Int.{w32, w64, to_le_bytes}
use Rattle.wkb.specs.NearestDoubles.{double_at}
use Rattle.wkb.proofs.Printed.{behind_part}
use Rattle.wkb.proofs.printing.put_position.Goals as goal

pub returns : goal.returns
returns c =
    let x : c.double.result ≡ double_at c.args.grid.now.x c.args.position.x
    = c.double.ensures ∙ ap (double_at c.args.grid.now.x) (to_z-of_z w32 c.x.result (record { sfits = c.x.type_inv })
    ∙ c.x.ensures.value) in
    let y : c.double-2.result ≡ double_at c.args.grid.now.y c.args.position.y
    = c.double-2.ensures ∙ ap (double_at c.args.grid.now.y) (to_z-of_z w32 c.y.result (record { sfits = c.y.type_inv })
    ∙ c.y.ensures.value) in
    behind_part c.put_double-2.result _ c.put_double.new.bytes.items c.args.bytes.now.items
    (to_le_bytes w64 (double_at c.args.grid.now.x c.args.position.x))
    (to_le_bytes w64 (double_at c.args.grid.now.y c.args.position.y))
    (c.in_ok-put_double.ensures ∙ ap (λ (n : ℕ). c.args.bytes.now.items ++ to_le_bytes w64 n) x)
    (subst (λ (n : ℕ). OnOk c.put_double-2.result
    (c.put_double-2.new.bytes.items ≡ c.put_double.new.bytes.items ++ to_le_bytes w64 n)) y
    c.put_double-2.ensures)
