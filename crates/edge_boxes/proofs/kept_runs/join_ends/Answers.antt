use Rattle.std.proofs.Common.{◌≡◌, ◌==◌, ◌&&◌, ap, rules, to_z, of_z, eqb-true}
use Rattle.std.proofs.lemmas.Int.{to_z-of_z}
use Rattle.std.proofs.lemmas.Bool.{and_parts}
use mir.Syntax.{w32}
use mir.Val.{SFits}
use Rattle.edge_boxes.proofs.RunSums.{goes_on, first_closed, second_closed}
use Rattle.edge_boxes.proofs.kept_runs.join_ends.Goals as goal

pub returns-then-first-second : goal.returns-then-first-second
returns-then-first-second c xs ys h k chain =
    let f1 : SFits w32 c.args.first.first_x = search rules in
    let f2 : SFits w32 c.args.first.last_x = search rules in
    let f3 : SFits w32 c.args.second.first_x = search rules in
    let f4 : SFits w32 c.args.second.last_x = search rules in
    let both = and_parts c.args.first.is_chain c.args.second.is_chain chain in
    let e : c.args.first.last_x ≡ c.args.second.first_x = simp to_z-of_z at (ap (to_z w32) c.if-first-second.true) in
    simp to_z-of_z (goes_on xs ys c.args.first.first_x c.args.first.last_x c.args.second.first_x c.args.second.last_x e (h both.0) (k both.1))

pub returns-then-first : goal.returns-then-first
returns-then-first c xs ys h k chain =
    let f1 : SFits w32 c.args.first.first_x = search rules in
    let f2 : SFits w32 c.args.first.last_x = search rules in
    let f3 : SFits w32 c.args.second.first_x = search rules in
    let f4 : SFits w32 c.args.second.last_x = search rules in
    let both = and_parts c.args.first.is_chain c.args.second.is_chain chain in
    let e : c.args.first.first_x ≡ c.args.first.last_x = simp to_z-of_z at (ap (to_z w32) c.if-first.true) in
    simp to_z-of_z (first_closed xs ys c.args.first.first_x c.args.first.last_x c.args.second.first_x c.args.second.last_x e (h both.0) (k both.1))

pub returns-else-first : goal.returns-else-first
returns-else-first c xs ys h k chain =
    let f1 : SFits w32 c.args.first.first_x = search rules in
    let f2 : SFits w32 c.args.first.last_x = search rules in
    let f3 : SFits w32 c.args.second.first_x = search rules in
    let f4 : SFits w32 c.args.second.last_x = search rules in
    let closed = and_parts (c.args.first.is_chain && c.args.second.is_chain) (of_z w32 c.args.second.first_x == of_z w32 c.args.second.last_x) chain in
    let both = and_parts c.args.first.is_chain c.args.second.is_chain closed.0 in
    let e : c.args.second.first_x ≡ c.args.second.last_x = simp to_z-of_z at (ap (to_z w32) (eqb-true (of_z w32 c.args.second.first_x) (of_z w32 c.args.second.last_x) closed.1)) in
    simp to_z-of_z (second_closed xs ys c.args.first.first_x c.args.first.last_x c.args.second.first_x c.args.second.last_x e (h both.0) (k both.1))
