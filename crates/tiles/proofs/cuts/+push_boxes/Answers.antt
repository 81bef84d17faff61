use Rattle.std.proofs.Common.{◌≡◌, ◌⊎◌, inl, inr, ◌∙◌, ◌++◌, ◌-◌, length, take, drop, ap, sym, arith}
use Rattle.std.specs.List.{enumerate_from}
use Rattle.tiles.specs.Trees.{numbered_boxes, is_parted}
use Rattle.std.specs.List.Sorted.{IsPermutation}
use Rattle.std.proofs.lemmas.List.Sorted.{IsPermutation-refl}
use Rattle.tiles.specs.Cuts.{StaysWhole}
use Rattle.tiles.proofs.MedianCuts.{all_moved, any_ok, whole_added, few_added, halves_added, low_begins, high_begins, rest_is}
use Rattle.tiles.proofs.Powers.{twice}
use Rattle.tiles.proofs.TreeLemmas.{both_parted, numbered_parts}
use Rattle.tiles.proofs.cuts.+push_boxes.Goals as goal
use Rattle.tiles.proofs.cuts.+push_boxes.Goals.{then-cuts-eq0-via-then-cuts-eq0, then-cuts-eq0-via-else-cuts-eq0+then-sample-most}

pub returns-then-cuts-eq0-clause-cut : goal.returns-then-cuts-eq0-clause-cut
returns-then-cuts-eq0-clause-cut t c =
    let why : (c.args.cuts ≡ 0) ⊎ StaysWhole c.args.most c.args.sample.now = elim c.then-cuts-eq0.branch [
      | then-cuts-eq0-via-then-cuts-eq0 w ↦ inl (omega (arith, w.if-cuts-eq0.true))
      | then-cuts-eq0-via-else-cuts-eq0+then-sample-most w ↦ inr (inl (omega (arith, w.if-sample-most.true)))
    ] in
    whole_added c.push_whole.result c.args.cuts c.args.most c.args.sample.now c.args.region c.args.boxes.now.items c.push_whole.new.boxes.items why c.push_whole.ensures.pushed

pub returns-then-cuts-eq0-clause-few : goal.returns-then-cuts-eq0-clause-few
returns-then-cuts-eq0-clause-few t c = few_added c.push_whole.result c.args.cuts c.args.region c.args.boxes.now.items c.push_whole.new.boxes.items c.push_whole.ensures.pushed

pub returns-in-None-clause-cut : goal.returns-in-None-clause-cut
returns-in-None-clause-cut t c =
    whole_added c.push_whole-in-None.result c.args.cuts c.args.most c.args.sample.now c.args.region c.args.boxes.now.items c.push_whole-in-None.new.boxes.items
    (inr (inr c.in-None.ensures.median)) c.push_whole-in-None.ensures.pushed

pub returns-in-None-clause-few : goal.returns-in-None-clause-few
returns-in-None-clause-few t c = few_added c.push_whole-in-None.result c.args.cuts c.args.region c.args.boxes.now.items c.push_whole-in-None.new.boxes.items c.push_whole-in-None.ensures.pushed

pub push_boxes-requires : goal.push_boxes-requires
push_boxes-requires t c =
    let halves = c.in-Some.halves in
    let begins = low_begins halves.line c.args.region halves.low halves.high c.args.sample.now c.halved.new.sample halves.before c.requires.grid c.requires.inside
    c.halved.ensures.moved c.in-Some.ensures.parts c.in-Some.ensures.median in
    (omega (arith, c.if-cuts-eq0.false, c.decreases), begins)

pub push_boxes-requires-in-Some : goal.push_boxes-requires-in-Some
push_boxes-requires-in-Some t c =
    let halves = c.in-Some.halves in
    let sorted = c.halved.new.sample in
    let behind = drop halves.before (c.push_boxes.new.sample ++ drop halves.before sorted) in
    let rest = take (length (c.push_boxes.new.sample ++ drop halves.before sorted) - halves.before) behind in
    let begins = high_begins halves.line c.args.region halves.low halves.high c.args.sample.now sorted halves.before rest c.requires.grid c.requires.inside
    c.halved.ensures.moved (rest_is c.push_boxes.new.sample sorted halves.before (omega (arith, c.in-Some.ensures.within, c.halved.auto.sample)) c.push_boxes.auto.sample)
    c.in-Some.ensures.parts c.in-Some.ensures.median in
    (omega (arith, c.if-cuts-eq0.false, c.decreases), begins)

pub returns-in_ok-new-in-Some-2-clause-cut : goal.returns-in_ok-new-in-Some-2-clause-cut
returns-in_ok-new-in-Some-2-clause-cut t c =
    let halves = c.in-Some.halves in
    let sorted = c.halved.new.sample in
    let behind = drop halves.before (c.push_boxes.new.sample ++ drop halves.before sorted) in
    let rest = take (length (c.push_boxes.new.sample ++ drop halves.before sorted) - halves.before) behind in
    halves_added c.args.cuts c.args.most c.args.sample.now sorted halves.before rest halves.line c.args.region halves.low halves.high
    c.args.boxes.now.items c.push_boxes.new.boxes.items c.push_boxes-in-Some.new.boxes.items
    (omega (arith, c.if-cuts-eq0.false)) (omega (arith, c.if-sample-most.false)) c.halved.ensures.moved
    (rest_is c.push_boxes.new.sample sorted halves.before (omega (arith, c.in-Some.ensures.within, c.halved.auto.sample)) c.push_boxes.auto.sample)
    c.in-Some.ensures.parts c.in-Some.ensures.median c.in-Some.ensures.along c.in_ok-low-in-Some.ensures.cut c.in_ok-high-in-Some.ensures.cut

pub returns-in_ok-new-in-Some-2-clause-few : goal.returns-in_ok-new-in-Some-2-clause-few
returns-in_ok-new-in-Some-2-clause-few t c =
    omega (arith, c.in_ok-low-in-Some.ensures.few, c.in_ok-high-in-Some.ensures.few, twice c.args.cuts (omega (arith, c.if-cuts-eq0.false)))

pub returns-in_ok-new-in-Some-2-clause-parted : goal.returns-in_ok-new-in-Some-2-clause-parted
returns-in_ok-new-in-Some-2-clause-parted t c =
    let halves = c.in-Some.halves in
    both_parted halves.line c.in_ok-new-in-Some.field-0.value c.in_ok-new-in-Some-2.field-0.value c.args.region halves.low halves.high c.in-Some.ensures.parts
    (ap (λ tree. is_parted tree halves.low) c.in_ok-new-in-Some.ensures.ok ∙ c.in_ok-low-in-Some.ensures.parted)
    (ap (λ tree. is_parted tree halves.high) c.in_ok-new-in-Some-2.ensures.ok ∙ c.in_ok-high-in-Some.ensures.parted)

pub returns-in_ok-new-in-Some-2-clause-numbered : goal.returns-in_ok-new-in-Some-2-clause-numbered
returns-in_ok-new-in-Some-2-clause-numbered t c =
    let halves = c.in-Some.halves in
    let old = enumerate_from 1 c.args.boxes.now.items in
    let mid = enumerate_from 1 c.push_boxes.new.boxes.items in
    let new = enumerate_from 1 c.push_boxes-in-Some.new.boxes.items in
    numbered_parts old mid new halves.line c.in_ok-new-in-Some.field-0.value c.in_ok-new-in-Some-2.field-0.value c.args.region halves.low halves.high
    c.in-Some.ensures.parts.low_is c.in-Some.ensures.parts.high_is
    (c.in_ok-low-in-Some.ensures.numbered ∙ ap (λ tree. old ++ numbered_boxes tree halves.low) (sym c.in_ok-new-in-Some.ensures.ok))
    (c.in_ok-high-in-Some.ensures.numbered ∙ ap (λ tree. mid ++ numbered_boxes tree halves.high) (sym c.in_ok-new-in-Some-2.ensures.ok))

pub returns-then-cuts-eq0-clause-moved : goal.returns-then-cuts-eq0-clause-moved
returns-then-cuts-eq0-clause-moved t c = any_ok c.push_whole.result (IsPermutation c.args.sample.now c.args.sample.now) (IsPermutation-refl c.args.sample.now)

pub returns-in-None-clause-moved : goal.returns-in-None-clause-moved
returns-in-None-clause-moved t c = any_ok c.push_whole-in-None.result (IsPermutation c.args.sample.now c.halved.new.sample) c.halved.ensures.moved

pub returns-in_ok-new-in-Some-2-clause-moved : goal.returns-in_ok-new-in-Some-2-clause-moved
returns-in_ok-new-in-Some-2-clause-moved t c =
    all_moved c.args.sample.now c.halved.new.sample c.in-Some.halves.before c.push_boxes.new.sample c.push_boxes-in-Some.new.sample c.halved.ensures.moved
    c.in_ok-low-in-Some.ensures.moved c.in_ok-high-in-Some.ensures.moved
