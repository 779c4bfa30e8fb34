use Rattle.std.proofs.lemmas.Result.{err_from_is_err_and}
use Rattle.covlock.proofs.shared.Shared.perform.Goals as goal

-- the call's receipt is that of the step under the lock
pub returns-clause-told : goal.returns-clause-told
returns-clause-told g c = (c.deref_mut.result.now, c.in_ok-receipt.ensures.told)

pub returns-clause-news : goal.returns-clause-news
returns-clause-news g c = c.in_ok-receipt.ensures.news

pub returns-clause-seen : goal.returns-clause-seen
returns-clause-seen g c = c.in_ok-receipt.ensures.seen

-- and so is its fault
pub returns-in_err-receipt-clause-full : goal.returns-in_err-receipt-clause-full
returns-in_err-receipt-clause-full g c =
    let p = err_from_is_err_and c.from_residual.result c.from_residual.ensures.1 in
    rw (p.1, p.2) c.in_err-receipt.ensures.most
