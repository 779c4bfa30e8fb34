use Rattle.std.proofs.Common.{arith}
use Rattle.covcombine.proofs.Cuts.{cut_nowhere, cut_there, whole_rest}
use Rattle.covcombine.proofs.file_names.cut.Goals as goal

pub returns-in-Some : goal.returns-in-Some
returns-in-Some c =
    let text = c.args.text.now in
    let at = c.in-Some.place in
    let (first, there) = c.in-Some.ensures in
    rw (whole_rest text at) (cut_there c.args.end text at first.high there (λ k less. first.before k (omega arith) less))

pub returns-in-None : goal.returns-in-None
returns-in-None c = cut_nowhere c.args.end c.args.text.now (λ k less. c.in-None.ensures k (omega arith) less)
