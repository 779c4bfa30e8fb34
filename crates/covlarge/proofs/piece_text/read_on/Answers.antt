use Rattle.std.proofs.Common.{◌≡◌, ◌-◌, ◌<◌, length, drop, ap, subst, arith}
use Rattle.std.proofs.lemmas.Result.{err_from_is_err_and}
use Rattle.covlarge.proofs.Cuts.{found_at, until_end, until_on}
use Rattle.covlarge.specs.Found.{IsFound}
use Rattle.covstream.proofs.ReadBlocks.{read_failed}
use Rattle.covlarge.proofs.piece_text.read_on.Goals as goal

pub returns-in_err-all-clause-failed : goal.returns-in_err-all-clause-failed
returns-in_err-all-clause-failed g c =
    let i = c.loop-all.invariant in
    let told = err_from_is_err_and c.from_residual.result c.from_residual.ensures.1 in
    rw (told.1, told.2) (read_failed _ _ _ _ _ _ _ _ i.took.1 i.failed c.in_err-all.ensures.failed)

pub returns-in-Some-clause-found : goal.returns-in-Some-clause-found
returns-in-Some-clause-found g c =
    let read = c.in_ok-all.ensures.read in
    let took = until_on _ _ _ _ _ _ _ c.loop-all.invariant.took read in
    let asked : c.saturating_sub-room.result ≡ c.loop-all.wanted - length c.loop-all.all = omega (arith, c.saturating_sub-room.ensures, ap length c.get.ensures) in
    let what = subst (λ t. IsFound c.loop-all.wanted c.args.most c.args.front (drop c.args.front t) (length t < c.loop-all.wanted) c.in-Some.found) c.get-in-loop-all.ensures c.in-Some.ensures.some in
    (took.0, took.1, took.2, found_at c.args.least c.loop-all.wanted c.args.most c.args.front _ (length c.in_ok-all.all < c.loop-all.wanted) _ c.in-Some.found c.loop-all.invariant.least (λ less. until_end _ _ _ _ _ _ read asked less) what)
