use Rattle.std.proofs.Common.{◌∙◌, ap, string_bytes}
use Rattle.covcombine.proofs.Taken.{refused_at}
use Rattle.covcombine.proofs.work.patterns_of.Goals as goal

pub returns-in-Err-clause-fault : goal.returns-in-Err-clause-fault
returns-in-Err-clause-fault c =
    rw c.pattern_fault.ensures
    (refused_at string_bytes c.args.option c.args.words.now c.loop-word.word-index c.word-item.result c.loop-word-test.true c.loop-word.patterns
    c.loop-word.invariant.0 _ (c.as_bytes.ensures.value ∙ ap string_bytes c.word-item.is) c.in-Err.fault c.add.result c.in-Err.is
    c.add.ensures.too_many.0 c.add.ensures.too_long.0)
