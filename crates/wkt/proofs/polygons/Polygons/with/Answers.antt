use Rattle.std.proofs.Common.{◌≡◌, ◌∙◌, ◌+◌, ◌++◌, [], ◌∷◌, ap, length, length-append, rules}
use Rattle.wkt.specs.Cuts.{AreEnds}
use Rattle.wkt.proofs.CutFacts.{cut_more, ends_more}
use Rattle.wkt.proofs.polygons.Polygons.with.Goals as goal

pub invariant_of-result : goal.invariant_of-result
invariant_of-result c =
    let rings : c.append.new.self.items ≡ c.self.inside.rings.items ++ c.args.more.items = search rules in
    let ends : c.push.new.self.items ≡ c.self.inside.ends.items ++ (length c.self.inside.rings.items + length c.args.more.items) ∷ [] = search rules in
    let are : AreEnds 0 c.push.new.self.items (length c.append.new.self.items) =
    rw (rings, ends, length-append c.self.inside.rings.items c.args.more.items)
    (ends_more 0 c.self.inside.ends.items (length c.self.inside.rings.items) (length c.args.more.items) c.self.invariant) in
    are

pub returns : goal.returns
returns c =
    let rings : c.append.new.self.items ≡ c.self.inside.rings.items ++ c.args.more.items = search rules in
    let ends : c.push.new.self.items ≡ c.self.inside.ends.items ++ (length c.self.inside.rings.items + length c.args.more.items) ∷ [] = search rules in
    rw (rings, ends) (cut_more 0 c.self.inside.ends.items c.self.inside.rings.items c.args.more.items c.self.invariant ∙ ap (λ l. l ++ c.args.more.items ∷ []) c.self.view_is)
