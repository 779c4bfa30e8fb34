use Rattle.covlcov2.proofs.Unpacked.{sections_begun}
use Rattle.covlcov2.proofs.read.read_lcov2.Goals as goal

pub returns-in_err-unpack-clause-memory : goal.returns-in_err-unpack-clause-memory
returns-in_err-unpack-clause-memory g c = λ ran_out. sections_begun c.args.text.now c.in_ok-packed.packed c.in_ok-packed.ensures.answers c.in_err-unpack.ensures.err
