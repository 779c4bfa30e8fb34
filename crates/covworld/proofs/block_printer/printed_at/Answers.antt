use Rattle.std.proofs.Common.{◌≡◌, [], ◌++◌, List, ℕ, not, subst, ap, ◌∙◌}
use Rattle.covworld.specs.Printed.{SinkData, HasPrinted, sink_data}
use Rattle.covworld.proofs.PrintedSteps.{printed_out}
use Rattle.covworld.proofs.block_printer.printed_at.Goals as goal

pub returns-clause-printed : goal.returns-clause-printed
returns-clause-printed g c =
    let empty : c.none.result.bytes ++ c.args.block ≡ [] = ap (λ (f : List ℕ). f ++ c.args.block) c.none.ensures ∙ c.requires.empty in
    subst (λ (s : SinkData). HasPrinted (not c.into_printout.result.has_failed) (g.T.PrintedText.text c.args.text) s (sink_data (g.O.Sink.written c.into_printout.result.sink.now) (g.O.Sink.failed_writes c.into_printout.result.sink.now))) c.requires.start
    (printed_out c.into_printout.result.has_failed _ _ _ _ _ (g.T.PrintedText.text c.args.text) g.L.Place.start _ empty c.print_to.ensures.begun c.print_to.ensures.whole
    c.write_out.ensures.printed c.write_out.ensures.stays c.into_printout.ensures.is_open c.into_printout.ensures.printed)
