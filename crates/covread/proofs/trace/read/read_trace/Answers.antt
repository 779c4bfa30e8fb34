use Rattle.covread.proofs.Unpacked.{sections_begun}
use Rattle.covread.proofs.trace.read.read_trace.Goals as goal

pub returns-in_err-unpack-clause-memory : goal.returns-in_err-unpack-clause-memory
returns-in_err-unpack-clause-memory g c = λ ran_out. sections_begun c.args.text.now c.in_ok-packed.packed c.in_ok-packed.ensures.answers c.in_err-unpack.ensures.err
