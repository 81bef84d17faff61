-- The words are searched from the last one on.
use Rattle.std.proofs.Common.{◌∙◌, ◌≡◌, ◌<◌, ◌-◌, Some, [], ap, arith, get_or, length, map, subst, sym}
use Rattle.std.proofs.lemmas.List.{get_or-map, length-map}
use Rattle.std.specs.Prelude.{IfNone, IfSome}
use Rattle.std.specs.String.{string_bytes}
use Rattle.text_commands.specs.FaultPages.{HasNoCode, IsLastIn}
use Rattle.text_commands.proofs.TurnLemmas.{passed-behind, passed-more, passed-none}
use Rattle.text_commands.proofs.fault_codes.code_of.Goals as goal

pub loop-turn-init : goal.loop-turn-init
loop-turn-init c = passed-none _ HasNoCode

pub returns-in-Some-clause-code : goal.returns-in-Some-clause-code
returns-in-Some-clause-code c =
    let words = c.args.words.now in
    let turn = c.loop-turn.turn in
    let place = length words - 1 - turn in
    let size : length (map string_bytes words) ≡ length words = length-map words string_bytes in
    let small = c.loop-turn-test.true in
    let within : place < length words = omega (arith, small) in
    let at : get_or (map string_bytes words) place [] ≡ c.as_str-word.result.now =
    get_or-map string_bytes words place c.index-words-words.result [] within ∙ ap string_bytes (sym c.index-words-words.is)
    ∙ sym c.as_str-word.ensures.value in
    let last : IsLastIn c.as_str-word.result.now c.in-Some.code =
    subst (λ found. IfSome found (IsLastIn c.as_str-word.result.now)) c.in-Some.is c.in_ok-code.ensures.code in (
      place,
      omega (arith, within, size),
      subst (λ word. IsLastIn word c.in-Some.code) (sym at) last,
      passed-behind (map string_bytes words) HasNoCode turn place (omega (arith, small, size)) (omega (arith, size))
          c.loop-turn.invariant,
    )

pub loop-turn-preserved : goal.loop-turn-preserved
loop-turn-preserved c =
    let words = c.args.words.now in
    let turn = c.loop-turn.turn in
    let place = length words - 1 - turn in
    let size : length (map string_bytes words) ≡ length words = length-map words string_bytes in
    let small = c.loop-turn-test.true in
    let within : place < length words = omega (arith, small) in
    let at : get_or (map string_bytes words) place [] ≡ c.as_str-word.result.now =
    get_or-map string_bytes words place c.index-words-words.result [] within ∙ ap string_bytes (sym c.index-words-words.is)
    ∙ sym c.as_str-word.ensures.value in
    let none : HasNoCode c.as_str-word.result.now =
    subst (λ found. IfNone found (HasNoCode c.as_str-word.result.now)) c.in_default.is c.in_ok-code.ensures.none in
    passed-more (map string_bytes words) HasNoCode turn place (omega (arith, small, size)) (omega (arith, size))
    (subst HasNoCode (sym at) none) c.loop-turn.invariant

pub returns-clause-none : goal.returns-clause-none
returns-clause-none c =
    let words = c.args.words.now in
    let size : length (map string_bytes words) ≡ length words = length-map words string_bytes in
    let all = c.loop-turn-test.false in
    λ place within. c.loop-turn.invariant place (omega (arith, all, size)) within
