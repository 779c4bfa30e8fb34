use Rattle.std.proofs.Common.{◌∙◌, ap, string_bytes}
use Rattle.std.proofs.lemmas.Result.{err_from_is_err_and}
use Rattle.covrun.proofs.Patterns.{refused_at}
use Rattle.covrun.proofs.work.patterns_of.Goals as goal

pub returns-in_err-add-clause-refused : goal.returns-in_err-add-clause-refused
returns-in_err-add-clause-refused c =
    let told = err_from_is_err_and c.from_residual.result c.from_residual.ensures.1 in
    rw (told.1, told.2)
    (refused_at string_bytes c.args.words.now c.loop-word.word-index c.word-item.result c.loop-word-test.true c.loop-word.patterns
    c.loop-word.invariant.0 c.loop-word.invariant.1 _ (c.as_bytes.ensures.value ∙ ap string_bytes c.word-item.is) _ c.add.result c.in_err-add.was
    c.add.ensures.too_many.0 c.add.ensures.too_long.0)
