use Rattle.std.proofs.Common.{◌≡◌, ◌∙◌, ap, sym, length, rules}
use Rattle.wkt.proofs.CutFacts.{cut_count}
use Rattle.wkt.proofs.polygons.Polygons.len.Goals as goal

pub returns : goal.returns
returns c =
    let all : c.len.result ≡ length c.self.inside.ends.items = search rules in
    all ∙ (sym (cut_count 0 c.self.inside.ends.items c.self.inside.rings.items) ∙ ap length c.self.view_is)
