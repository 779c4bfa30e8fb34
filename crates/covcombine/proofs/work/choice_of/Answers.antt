use Rattle.std.proofs.Common.{subst}
use Rattle.std.proofs.lemmas.Result.{err_from_is_err_and}
use Rattle.covcombine.specs.Steps.{ArePatterns}
use Rattle.covcombine.specs.declared.call_fault.CallOption.TheVariants.{Include, Exclude}
use Rattle.covcombine.proofs.Taken.{of_words, taken_each}
use Rattle.covcombine.proofs.work.choice_of.Goals as goal

pub returns-in_err-includes-clause-fault : goal.returns-in_err-includes-clause-fault
returns-in_err-includes-clause-fault c =
    let told = err_from_is_err_and c.from_residual.result c.from_residual.ensures.1 in
    rw (told.1, told.2) (Include, of_words Include _ _ _ c.get.ensures c.in_err-includes.ensures.fault)

pub returns-in_err-excludes-clause-fault : goal.returns-in_err-excludes-clause-fault
returns-in_err-excludes-clause-fault c =
    let told = err_from_is_err_and c.from_residual-in_err-excludes.result c.from_residual-in_err-excludes.ensures.1 in
    rw (told.1, told.2) (Exclude, of_words Exclude _ _ _ c.get-2.ensures c.in_err-excludes.ensures.fault)

pub returns-clause-taken : goal.returns-clause-taken
returns-clause-taken c =
    taken_each c.args.filter.now (subst ArePatterns c.get.ensures c.in_ok-includes.ensures.taken) (subst ArePatterns c.get-2.ensures c.in_ok-excludes.ensures.taken)
