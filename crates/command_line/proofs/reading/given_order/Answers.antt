use Rattle.clap.specs.Words.{subcommand_rows_of}
use Rattle.command_line.specs.Orders.{HasWords}
use Rattle.command_line.proofs.OrderLemmas.{none-there}
use Rattle.command_line.proofs.reading.given_order.Goals as goal

pub unreachable-requires : goal.unreachable-requires
unreachable-requires c =
    none-there c.in_ok-order.field-0 (HasWords (subcommand_rows_of c.args.matches.now)) c.in-None.is c.in_ok-order.ensures.none c.requires
