use Rattle.std.proofs.Common.{ℤ, ◌≡◌, ◌&&◌, ◌||◌, int_lt, ap₂, ◌∙◌, rules}
use Rattle.edge_boxes.specs.Strips as spec
use Rattle.edge_boxes.proofs.strips.Strip.is_beside.Goals as goal

pub returns : goal.returns
returns c =
    let s = c.args.self.now in
    let e = c.args.edge.now in
    let start : c.rise-start.result ≡ spec.rise s.direction e.start.x e.start.y = search rules in
    let end : c.rise-end.result ≡ spec.rise s.direction e.end.x e.end.y = search rules in
    let beside : c.are_beside.result ≡ (int_lt c.rise-start.result s.least && int_lt c.rise-end.result s.least || int_lt s.greatest c.rise-start.result && int_lt s.greatest c.rise-end.result) = search rules in
    beside ∙ ap₂ (λ (a b : ℤ). int_lt a s.least && int_lt b s.least || int_lt s.greatest a && int_lt s.greatest b) start end
