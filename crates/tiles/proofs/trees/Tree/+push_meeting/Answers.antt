use Rattle.std.proofs.Common.{ap, sym, subst, refl, ◌<ℤ◌, ◌≤ℤ◌, rules}
use Rattle.tiles.specs.Trees.{numbered_boxes, is_parted}
use Rattle.tiles.proofs.TreeLemmas.{Adds, AddsLow, AddsHigh, low_walked, low_skipped, high_walked, high_skipped, both_walked}
use Rattle.tiles.proofs.trees.Tree.+push_meeting.Goals as goal
use Rattle.tiles.proofs.trees.Tree.+push_meeting.Goals.{then-least-line+in_ok-push_meeting-in-Parted, else-least-line}

pub returns-in_ok-push_meeting-in-Parted-2 : goal.returns-in_ok-push_meeting-in-Parted-2
returns-in_ok-push_meeting-in-Parted-2 t c =
    let line = c.in-Parted.line in
    let low = c.in-Parted.low.value in
    let high = c.in-Parted.high.value in
    let e = c.args.asked.now in
    let before : AddsLow line low e c.args.numbers.now.items c.if-least-line.numbers.items = elim c.if-least-line.branch [
      | then-least-line+in_ok-push_meeting-in-Parted w ↦
          let l : c.least.result <ℤ line.at = search rules in
          subst (AddsLow line low e c.args.numbers.now.items) (sym (ap (λ v. v.items) w.numbers-is))
          (low_walked line low e c.args.numbers.now.items w.push_meeting.new.numbers.items (subst (λ z. z <ℤ line.at) c.least.ensures l)
          (subst (λ tree. Adds tree e c.args.numbers.now.items w.push_meeting.new.numbers.items) w.deref.ensures w.in_ok-push_meeting-in-Parted.ensures))
      | else-least-line w ↦
          let l : line.at ≤ℤ c.least.result = search rules in
          low_skipped line low e c.args.numbers.now.items c.if-least-line.numbers.items (subst (λ z. line.at ≤ℤ z) c.least.ensures l) (ap (λ v. v.items) w.numbers-is)
    ] in
    let g : line.at ≤ℤ c.greatest.result = search rules in
    let after : AddsHigh line high e c.if-least-line.numbers.items c.push_meeting-then-line-greatest.new.numbers.items =
    high_walked line high e c.if-least-line.numbers.items c.push_meeting-then-line-greatest.new.numbers.items (subst (λ z. line.at ≤ℤ z) c.greatest.ensures g)
    (subst (λ tree. Adds tree e c.if-least-line.numbers.items c.push_meeting-then-line-greatest.new.numbers.items) c.deref-then-line-greatest.ensures c.in_ok-push_meeting-in-Parted-2.ensures) in
    both_walked c.args.self.now line low high e c.args.numbers.now.items c.if-least-line.numbers.items c.push_meeting-then-line-greatest.new.numbers.items
    (λ box. ap (λ tree. numbered_boxes tree box) c.in-Parted.is) (λ box. ap (λ tree. is_parted tree box) c.in-Parted.is) before after

pub returns-else-line-greatest : goal.returns-else-line-greatest
returns-else-line-greatest t c =
    let line = c.in-Parted.line in
    let low = c.in-Parted.low.value in
    let high = c.in-Parted.high.value in
    let e = c.args.asked.now in
    let before : AddsLow line low e c.args.numbers.now.items c.if-least-line.numbers.items = elim c.if-least-line.branch [
      | then-least-line+in_ok-push_meeting-in-Parted w ↦
          let l : c.least.result <ℤ line.at = search rules in
          subst (AddsLow line low e c.args.numbers.now.items) (sym (ap (λ v. v.items) w.numbers-is))
          (low_walked line low e c.args.numbers.now.items w.push_meeting.new.numbers.items (subst (λ z. z <ℤ line.at) c.least.ensures l)
          (subst (λ tree. Adds tree e c.args.numbers.now.items w.push_meeting.new.numbers.items) w.deref.ensures w.in_ok-push_meeting-in-Parted.ensures))
      | else-least-line w ↦
          let l : line.at ≤ℤ c.least.result = search rules in
          low_skipped line low e c.args.numbers.now.items c.if-least-line.numbers.items (subst (λ z. line.at ≤ℤ z) c.least.ensures l) (ap (λ v. v.items) w.numbers-is)
    ] in
    let g : c.greatest.result <ℤ line.at = search rules in
    let after : AddsHigh line high e c.if-least-line.numbers.items c.if-least-line.numbers.items =
    high_skipped line high e c.if-least-line.numbers.items c.if-least-line.numbers.items (subst (λ z. z <ℤ line.at) c.greatest.ensures g) refl in
    both_walked c.args.self.now line low high e c.args.numbers.now.items c.if-least-line.numbers.items c.if-least-line.numbers.items
    (λ box. ap (λ tree. numbered_boxes tree box) c.in-Parted.is) (λ box. ap (λ tree. is_parted tree box) c.in-Parted.is) before after
