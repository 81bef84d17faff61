use Rattle.std.proofs.Common.{◌≡◌, ◌∙◌, ◌<◌, ◌≤◌, ◌-◌, ◌*◌, ◌++◌, [], length, map, take, drop, get_or, ap, sym, subst, append-nil, arith}
use Rattle.std.specs.Prelude.{flat_map}
use Rattle.std.specs.Vec.{vec_items}
use Rattle.std.proofs.lemmas.List.{take-map, length-map, length-take-le}
use Rattle.rtree.specs.Trees.{AreLevels, entries_of, found_below, groups_at, level_at, places_found}
use Rattle.rtree.proofs.WalkLemmas.{all_walked, found_inside, found_single, inner_first, level_length, level_read, levels_below, node_is, none_found, walk_more}
use Rattle.rtree.proofs.packed_trees.+push_below.Goals as goal
use Rattle.rtree.proofs.packed_trees.+push_below.Goals.{then-overlap+then-top-eq0+in_ok-push, then-overlap+else-top-eq0+in_ok-push_below, else-overlap}

pub push_below-requires : goal.push_below-requires
push_below-requires t c =
    let vs = c.args.levels.now in
    let top = length vs - 1 in
    let levels = map vec_items vs in
    let size = length-map vs vec_items in
    let up : 0 < top = omega arith in
    let here = c.as_slice-level.ensures.value ∙ level_read vec_items vs top c.index-levels-top.result (omega arith) c.index-levels-top.is in
    let inside : c.loop-node.node < length (level_at levels top) = let same = ap length here in omega (arith, same, c.min-node-end.ensures) in
    let high : top < length levels = omega (arith, size, c.requires.levels.some) in
    let first = inner_first c.args.places.now levels top c.loop-node.node c.requires.levels up high inside in
    let counted = length-map (take top vs) vec_items in
    let less : length (take top vs) < t = let low = length-take-le top vs (omega arith) in omega (arith, low, c.decreases) in (
      less,
      (
        subst (AreLevels c.args.places.now) (take-map vec_items top vs) (levels_below c.args.places.now levels top c.requires.levels up (omega (arith, size))),
        subst (λ ls. 8 * c.loop-node.node ≤ length (level_at ls (length (take top vs) - 1))) (take-map vec_items top vs)
            (subst (λ n. 8 * c.loop-node.node ≤ length (level_at (take top levels) (n - 1))) (ap length (take-map vec_items top vs) ∙ counted) first),
      ),
    )

pub loop-node-preserved : goal.loop-node-preserved
loop-node-preserved t c =
    let vs = c.args.levels.now in
    let places = c.args.places.now in
    let asked = c.args.asked in
    let top = length vs - 1 in
    let levels = map vec_items vs in
    let r = c.requires.levels in
    let node = c.loop-node.node in
    let e = c.index-level-node.result in
    let size = length-map vs vec_items in
    let here = c.as_slice-level.ensures.value ∙ level_read vec_items vs top c.index-levels-top.result (omega arith) c.index-levels-top.is in
    let high : top < length levels = omega (arith, size, r.some) in
    let inside : node < length (level_at levels top) = let same = ap length here in omega (arith, same, c.min-node-end.ensures) in
    let there : e ≡ get_or (level_at levels top) node e = c.index-level-node.is ∙ ap (λ l. get_or l node e) here in
    let groups = groups_at (entries_of places levels) top in
    let grew : c.if-overlap.found.items ≡ c.loop-node.found.items ++ places_found asked (get_or groups node []) = elim c.if-overlap.branch [
      | then-overlap+then-top-eq0+in_ok-push w ↦ ap (λ v. v.items) w.found-is ∙ w.in_ok-push.ensures.items
          ∙ ap (λ l. c.loop-node.found.items ++ l) (found_single places levels top node e asked r (omega (arith, w.if-top-eq0.true)) inside there (sym c.overlap.ensures ∙ w.if-overlap.true))
      | then-overlap+else-top-eq0+in_ok-push_below w ↦ ap (λ v. v.items) w.found-is ∙ w.in_ok-push_below.ensures
          ∙ ap (λ ls. c.loop-node.found.items ++ found_below places ls (8 * node) asked) (sym (take-map vec_items top vs))
          ∙ ap (λ l. c.loop-node.found.items ++ l) (found_inside places levels top node asked r (omega (arith, w.if-top-eq0.false)) high inside)
      | else-overlap w ↦ ap (λ v. v.items) w.found-is ∙ sym (append-nil c.loop-node.found.items)
          ∙ ap (λ l. c.loop-node.found.items ++ l) (sym (none_found asked e (get_or groups node []) (node_is places levels r top high node e inside there) (sym c.overlap.ensures ∙ w.if-overlap.false)))
    ] in
    walk_more asked groups c.args.first node c.args.found.now.items c.loop-node.found.items c.if-overlap.found.items (omega arith) (let same = level_length places levels r top high in omega (arith, same, inside)) grew c.loop-node.invariant

pub returns : goal.returns
returns t c =
    let vs = c.args.levels.now in
    let places = c.args.places.now in
    let asked = c.args.asked in
    let top = length vs - 1 in
    let levels = map vec_items vs in
    let r = c.requires.levels in
    let size = length-map vs vec_items in
    let groups = groups_at (entries_of places levels) top in
    let here = c.as_slice-level.ensures.value ∙ level_read vec_items vs top c.index-levels-top.result (omega (arith, size, r.some)) c.index-levels-top.is in
    let high : top < length levels = omega (arith, size, r.some) in
    let long : length c.as_slice-level.result.now ≡ length groups = ap length here ∙ level_length places levels r top high in
    let at_end : c.loop-node.node ≡ c.min-node-end.result = omega (arith, c.min-node-end.ensures, long, ap length here, c.requires.first, size) in
    c.loop-node.invariant
    ∙ ap (λ l. c.args.found.now.items ++ places_found asked l) (all_walked groups c.args.first c.loop-node.node (length c.as_slice-level.result.now) long (at_end ∙ c.min-node-end.ensures))
    ∙ ap (λ n. c.args.found.now.items ++ places_found asked (flat_map (λ g. g) (take 8 (drop c.args.first (groups_at (entries_of places levels) (n - 1)))))) (sym size)
