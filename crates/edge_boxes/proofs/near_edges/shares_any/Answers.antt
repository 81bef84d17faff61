use Rattle.std.proofs.Common.{◌≡◌, ◌∙◌, ◌==◌, ℕ, not, sym, ap, length, vec_len, arith}
use Rattle.edge_boxes.proofs.NearRingFacts.{shares_where_found}
use Rattle.edge_boxes.proofs.near_edges.shares_any.Goals as goal

pub returns-clause-shares : goal.returns-clause-shares
returns-clause-shares c =
    let counted : vec_len c.sharing.new.found ≡ length c.sharing.new.found.items = omega (arith, c.sharing.new.found.ok.0) in
    ap not (c.is_empty.ensures ∙ ap (λ (n : ℕ). n == 0) counted) ∙ sym (shares_where_found c.args.f.now c.args.edges.now c.sharing.new.found.items c.in_ok-sharing.ensures.exact)
