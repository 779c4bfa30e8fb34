use Rattle.covworld.specs.Printed.{sink_data}
use Rattle.covworld.proofs.block_printer.print_text.Given as goal

-- the output, as it is now
abbrev pub ghosts-printed_at : goal.ghosts-printed_at
ghosts-printed_at g a = record {
  sink = a.output.ghost_name;
  start = sink_data (g.O.Sink.written a.output.now) (g.O.Sink.failed_writes a.output.now);
}
