use Rattle.std.proofs.Common.{◌≡◌, ◌∙◌, ◌+◌, ◌++◌, [], ◌∷◌, ap, length, length-append, rules}
use Rattle.geometry_model.specs.Geometries.{edges_of_line}
use Rattle.wkt.specs.Cuts.{AreEnds}
use Rattle.wkt.proofs.CutFacts.{cut_more, ends_more}
use Rattle.validity.proofs.runs.Runs.with.Goals as goal

pub invariant_of-result : goal.invariant_of-result
invariant_of-result c =
    let line = edges_of_line c.args.line.now in
    let segments : c.push_edges.new.segments.items ≡ c.self.inside.segments.items ++ line = search rules in
    let count : length c.push_edges.new.segments.items ≡ length c.self.inside.segments.items + length line = ap length segments ∙ length-append c.self.inside.segments.items line in
    let ends : c.push.new.self.items ≡ c.self.inside.ends.items ++ length c.push_edges.new.segments.items ∷ [] = search rules in
    let are : AreEnds 0 c.push.new.self.items (length c.push_edges.new.segments.items) =
    rw (ends, count) (ends_more 0 c.self.inside.ends.items (length c.self.inside.segments.items) (length line) c.self.invariant) in
    are

pub returns : goal.returns
returns c =
    let line = edges_of_line c.args.line.now in
    let segments : c.push_edges.new.segments.items ≡ c.self.inside.segments.items ++ line = search rules in
    let count : length c.push_edges.new.segments.items ≡ length c.self.inside.segments.items + length line = ap length segments ∙ length-append c.self.inside.segments.items line in
    let ends : c.push.new.self.items ≡ c.self.inside.ends.items ++ length c.push_edges.new.segments.items ∷ [] = search rules in
    rw (ends, count, segments) (cut_more 0 c.self.inside.ends.items c.self.inside.segments.items line c.self.invariant ∙ ap (λ l. l ++ line ∷ []) c.self.view_is)
