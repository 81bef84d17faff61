-- Each call of the opener opens a file among those that are handed in.
use Rattle.command_line.specs.Orders.{asks_why}
use Rattle.engine.proofs.PathLemmas.{by-paths}
use Rattle.streams.specs.MemorySinks.{memory_failures}
use Rattle.text_commands.specs.Files.{OpensFile}
use Rattle.sfq_web.specs.HandedFiles.{OpensHanded}
use Rattle.sfq_web.specs.Servings.{handed, known_bytes, known_in}
use Rattle.sfq_web.proofs.served.serve_handed.Goals as goal

pub returns-clause-serves : goal.returns-clause-serves
returns-clause-serves c =
    by-paths {files = OpensFile _} OpensHanded known_in known_bytes memory_failures known_bytes memory_failures c.args.out.now
    c.serve_observed.new.out known_bytes memory_failures c.args.more.now c.serve_observed.new.more (asks_why c.args.order.now) _
    c.args.order.now c.serve_observed.result c.args.err.now c.serve_observed.new.err
    c.serve_observed.ensures.serves (λ s. handed s.0.now)
    (λ kind is opener path reader after opened. (opened.shown, opened.shows, opened.called.met.1.1))
