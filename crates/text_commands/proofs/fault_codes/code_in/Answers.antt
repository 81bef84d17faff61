-- The parts are searched from the last one on.
use Rattle.std.proofs.Common.{◌∙◌, ◌≡◌, ◌<◌, ◌-◌, Bor, List, [], ap, arith, get_or, length, map, subst, sym, ℕ}
use Rattle.std.proofs.lemmas.List.{get_or-map, length-map}
use Rattle.text_commands.specs.FaultPages.{AreNoCodes, IsCode, IsLastAmong, IsNoCode}
use Rattle.text_commands.proofs.TurnLemmas.{passed-behind, passed-more, passed-none}
use Rattle.text_commands.proofs.fault_codes.code_in.Goals as goal

abbrev texts : List (Bor (List ℕ)) → List (List ℕ)
texts = map (λ (part : Bor (List ℕ)). part.now)

-- the part at a place
part_at : (parts : List (Bor (List ℕ))) (place : ℕ) (part : Bor (List ℕ)) → place < length parts → part ≡ get_or parts place part
    → get_or (texts parts) place [] ≡ part.now
part_at parts place part within is =
    get_or-map (λ (it : Bor (List ℕ)). it.now) parts place part [] within ∙ ap (λ (it : Bor (List ℕ)). it.now) (sym is)

pub loop-turn-init : goal.loop-turn-init
loop-turn-init c = passed-none _ IsNoCode

pub returns-in-Some-clause-code : goal.returns-in-Some-clause-code
returns-in-Some-clause-code c =
    let parts = c.in_ok-parts.parts.items in
    let turn = c.loop-turn.turn in
    let place = c.len.result - 1 - turn in
    let size : length (texts parts) ≡ length parts = length-map parts _ in
    let small = c.loop-turn-test.true in
    let count = c.len.ensures in
    let count_first = c.len-turn-end.ensures in
    let within : place < length parts = omega (arith, small, count, count_first) in
    let at = part_at parts place c.index-part.result.now within c.index-part.ensures in
    subst (λ words. IsLastAmong words c.in-Some.code) c.in_ok-parts.ensures (
      place,
      omega (arith, within, size),
      subst (λ word. IsCode word c.in-Some.code) (sym at) c.in-Some.ensures.code,
      passed-behind (texts parts) IsNoCode turn place (omega (arith, small, count, count_first, size)) (omega (arith, count, size))
          c.loop-turn.invariant,
    )

pub loop-turn-preserved : goal.loop-turn-preserved
loop-turn-preserved c =
    let parts = c.in_ok-parts.parts.items in
    let turn = c.loop-turn.turn in
    let place = c.len.result - 1 - turn in
    let size : length (texts parts) ≡ length parts = length-map parts _ in
    let small = c.loop-turn-test.true in
    let count = c.len.ensures in
    let count_first = c.len-turn-end.ensures in
    let within : place < length parts = omega (arith, small, count, count_first) in
    let at = part_at parts place c.index-part.result.now within c.index-part.ensures in
    passed-more (texts parts) IsNoCode turn place (omega (arith, small, count, count_first, size)) (omega (arith, count, size))
    (subst IsNoCode (sym at) c.in_default.ensures.none) c.loop-turn.invariant

pub returns-clause-none : goal.returns-clause-none
returns-clause-none c =
    let parts = c.in_ok-parts.parts.items in
    let size : length (texts parts) ≡ length parts = length-map parts _ in
    let all = c.loop-turn-test.false in
    let count_first = c.len-turn-end.ensures in
    subst AreNoCodes c.in_ok-parts.ensures
    (λ place within. c.loop-turn.invariant place (omega (arith, all, count_first, size)) within)
