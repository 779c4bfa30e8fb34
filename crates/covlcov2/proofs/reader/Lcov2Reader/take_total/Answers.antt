use Rattle.std.proofs.Common.{sym, ◌∙◌}
use Rattle.covlcov2.proofs.Passing.{total_skipped}
use Rattle.covlcov2.proofs.reader.Lcov2Reader.take_total.Goals as goal

pub returns-then-counts_functions : goal.returns-then-counts_functions
returns-then-counts_functions g c = λ above inside is.
    total_skipped c.args.self.now above inside c.args.kind c.args.value is c.if-self.true (sym c.counts_functions.ensures ∙ c.if-counts_functions.true)
