use Rattle.std.proofs.Common.{◌∙◌, ap, string_bytes}
use Rattle.std.proofs.lemmas.Result.{err_from_is_err_and}
use Rattle.covcombine.proofs.Taken.{word_refused, word_there}
use Rattle.covcombine.proofs.work.new_names_of.Goals as goal

pub returns-in_err-rule-clause-fault : goal.returns-in_err-rule-clause-fault
returns-in_err-rule-clause-fault c =
    let told = err_from_is_err_and c.from_residual-in_err-rule.result c.from_residual-in_err-rule.ensures.1 in
    rw (told.1, told.2)
    (word_refused c.args.options.now c.as_str.result.now _
    (word_there string_bytes c.get-words.result.now c.loop-word.word-index c.word-item.result c.loop-word-test.true c.as_str.result.now (c.as_str.ensures.value ∙ ap string_bytes c.word-item.is)
    c.args.options.now.paths c.get-words.ensures)
    c.in_err-rule.ensures.fault)
