-- The place is that of the text that is read again.
use Rattle.std.proofs.Common.{subst}
use Rattle.std.proofs.lemmas.Option.{IfSome_then}
use Rattle.csv.specs.Records.{fields_of}
use Rattle.explanations.specs.Tables.{IsTableExplanation}
use Rattle.engine.specs.Commands.{SaysReason}
use Rattle.engine.proofs.commands.fault_explained.Goals as goal

pub returns : goal.returns
returns g c =
    let line = c.in_ok-said.said.line.items in
    IfSome_then c.explanation_of.result c.explanation_of.ensures
    (λ e is. record {
      place = c.in_ok-place.place;
      named = c.in_ok-place.ensures.named;
      table = c.table-table.result.now;
      there = c.table-table.ensures.value;
      after = c.read_again.new.opener;
      text = c.in_ok-read.read.text.items;
      whole = c.in_ok-read.read.is_whole;
      read = c.in_ok-read.ensures.reads;
      all = c.is_enough.ensures c.if-not-is_enough.false;
      line = line;
      says = subst (λ text. SaysReason text c.table-table.result.now (fields_of c.args.last.now.header)
          (fields_of c.args.last.now.record)
          c.args.fault line) c.as_slice-text.ensures.value c.in_ok-said.ensures;
      explains = subst (λ text. IsTableExplanation text c.args.fault line e.items) c.as_slice-text.ensures.value is;
    })
