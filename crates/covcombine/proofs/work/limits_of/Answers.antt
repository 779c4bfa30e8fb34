use Rattle.std.proofs.lemmas.Result.{err_from_is_err_and}
use Rattle.covcombine.specs.declared.call_fault.CallOption.TheVariants.{FailUnderLines, FailUnderFunctions, FailUnderBranches}
use Rattle.covcombine.proofs.Taken.{rates_each}
use Rattle.covcombine.proofs.work.limits_of.Goals as goal

pub returns-in_err-lines-clause-fault : goal.returns-in_err-lines-clause-fault
returns-in_err-lines-clause-fault c =
    let told = err_from_is_err_and c.from_residual.result c.from_residual.ensures.1 in
    rw (told.1, told.2) (FailUnderLines, c.in_err-lines.ensures.fault)

pub returns-in_err-functions-clause-fault : goal.returns-in_err-functions-clause-fault
returns-in_err-functions-clause-fault c =
    let told = err_from_is_err_and c.from_residual-in_err-functions.result c.from_residual-in_err-functions.ensures.1 in
    rw (told.1, told.2) (FailUnderFunctions, c.in_err-functions.ensures.fault)

pub returns-in_err-branches-clause-fault : goal.returns-in_err-branches-clause-fault
returns-in_err-branches-clause-fault c =
    let told = err_from_is_err_and c.from_residual-in_err-branches.result c.from_residual-in_err-branches.ensures.1 in
    rw (told.1, told.2) (FailUnderBranches, c.in_err-branches.ensures.fault)

pub returns-clause-good : goal.returns-clause-good
returns-clause-good c = rates_each c.args.words.now c.in_ok-lines.ensures.good c.in_ok-functions.ensures.good c.in_ok-branches.ensures.good
