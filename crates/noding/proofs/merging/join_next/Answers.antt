use Rattle.std.proofs.Common.{◌≡◌, ◌<◌, ◌+◌, ◌-◌, ℕ, length, set, subst, arith, rules}
use Rattle.noding.specs.Merging.{AreMerged, left_of}
use Rattle.noding.proofs.Held.{joined_left, joined_put, moved_left, moved_put}
use Rattle.noding.proofs.merging.join_next.Goals as goal

pub returns-in-Some-clause-held : goal.returns-in-Some-clause-held
returns-in-Some-clause-held c es all =
    let ms = c.args.stretches.now.items in
    let next : c.args.place < length ms = first_of (search rules, omega (arith, c.requires.within, c.args.stretches.now.ok.0)) in
    let last : c.args.kept - 1 < length ms = omega (arith, c.requires.some, c.requires.order, next) in
    joined_put es ms (c.args.kept - 1) c.args.place (c.args.kept - 1) c.index-2.result.now c.index.result.now c.in-Some.longer last c.index-2.ensures next c.index.ensures c.in-Some.ensures.held all

pub returns-in-None-clause-held : goal.returns-in-None-clause-held
returns-in-None-clause-held c es all =
    let ms = c.args.stretches.now.items in
    let next : c.args.place < length ms = first_of (search rules, omega (arith, c.requires.within, c.args.stretches.now.ok.0)) in
    moved_put es ms c.args.place c.args.kept c.index.result.now next c.index.ensures all

pub returns-in-Some-clause-all : goal.returns-in-Some-clause-all
returns-in-Some-clause-all c =
    let ms = c.args.stretches.now.items in
    let next : c.args.place < length ms = first_of (search rules, omega (arith, c.requires.within, c.args.stretches.now.ok.0)) in
    let last : c.args.kept - 1 < c.args.place = omega (arith, c.requires.some, c.requires.order) in
    let one : (c.args.kept - 1) + 1 ≡ c.args.kept = omega (arith, c.requires.some) in
    subst (λ (n : ℕ). AreMerged (left_of (set ms (c.args.kept - 1) c.in-Some.longer) n (c.args.place + 1)) (left_of ms n c.args.place)) one
    (joined_left ms (c.args.kept - 1) c.args.place c.index-2.result.now c.index.result.now c.in-Some.longer last next c.index-2.ensures c.index.ensures c.in-Some.ensures.first c.in-Some.ensures.second)

pub returns-in-None-clause-all : goal.returns-in-None-clause-all
returns-in-None-clause-all c =
    let ms = c.args.stretches.now.items in
    let next : c.args.place < length ms = first_of (search rules, omega (arith, c.requires.within, c.args.stretches.now.ok.0)) in
    moved_left ms c.args.kept c.args.place c.index.result.now c.requires.order next c.index.ensures
