use Rattle.noding.proofs.Held.{turned_from, turned_holds_from}
use Rattle.noding.proofs.joining.ascending.Goals as goal

pub returns-in-Some : goal.returns-in-Some
returns-in-Some c = record {
  held = turned_from c.args.edge.now c.in-Some.turned c.end.result c.start.result c.end.ensures.value c.start.ensures c.in-Some.ensures.ends;
  holds = turned_holds_from c.args.edge.now c.in-Some.turned c.end.result c.start.result c.end.ensures.value c.start.ensures c.in-Some.ensures.ends;
}
