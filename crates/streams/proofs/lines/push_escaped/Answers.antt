use Rattle.std.proofs.Common.{rules, ◌∙◌, sym, append-nil}
use Rattle.csv.specs.Writing.{escaped}
use Rattle.streams.proofs.LineLemmas.{byte-added, quote-added, unquoted-added}
use Rattle.streams.proofs.lines.push_escaped.Goals.{then-byte-eq-QUOTE+in_ok-push, else-byte-eq-QUOTE}
use Rattle.streams.proofs.lines.push_escaped.Goals as goal

pub returns-then-not-contains : goal.returns-then-not-contains
returns-then-not-contains c =
    let same = unquoted-added c.args.field.now (sym c.contains.ensures.value ∙ c.if-not-contains.true) in
    rw same (search rules)

pub loop-byte-init : goal.loop-byte-init
unfolding escaped
loop-byte-init c = sym (append-nil _)

pub loop-byte-preserved : goal.loop-byte-preserved
loop-byte-preserved c = elim c.if-byte-eq-QUOTE.branch [
  | then-byte-eq-QUOTE+in_ok-push w ↦
      let once = rw w.line-is at c.in_ok-push-2.ensures.items in
      quote-added c.args.field.now c.args.line.now.items c.loop-byte.line.items w.push.new.self.items _ c.loop-byte.byte-index c.loop-byte-test.true
      w.if-byte-eq-QUOTE.true c.loop-byte.invariant w.in_ok-push.ensures.items once
  | else-byte-eq-QUOTE w ↦
      let once = rw w.line-is at c.in_ok-push-2.ensures.items in
      byte-added c.args.field.now c.args.line.now.items c.loop-byte.line.items _ c.loop-byte.byte-index c.loop-byte-test.true
      w.if-byte-eq-QUOTE.false c.loop-byte.invariant once
]
