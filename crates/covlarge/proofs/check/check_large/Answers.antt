use Rattle.std.proofs.Common.{Some, Ok, ◌∷◌, [], ◌++◌, sym, subst}
use Rattle.std.proofs.lemmas.Result.{err_from_is_err_and}
use Rattle.covlarge.proofs.Checking.{ended, went_on, may_fail, stopped}
use Rattle.covlarge.specs.State.{MayGive}
use Rattle.covlarge.proofs.check.check_large.Goals as goal

pub returns-in_err-rest : goal.returns-in_err-rest
returns-in_err-rest g c =
    let i = c.loop-rest.invariant in
    let told = err_from_is_err_and c.from_residual.result c.from_residual.ensures.1 in
    rw (told.1, told.2) (stopped g.S.Source.left g.S.Source.failed_reads c.summed-left.result c.loop-rest.left c.args.version c.args.source _ c.summed-left.ensures.source c.summed-left.ensures.whole c.in_err-rest.ensures i.gives i.fails)

pub told-requires : goal.told-requires
told-requires g c =
    let i = c.loop-rest.invariant in
    c.summed-left.ensures.told _ _ (ended g.S.Source.left g.S.Source.failed_reads c.summed-left.result c.loop-rest.left _ c.in-Last.field-0 c.in-Last.held c.in-Last.is c.in_ok-rest.ensures i.gives)

pub returns-in-Last : goal.returns-in-Last
returns-in-Last g c =
    let i = c.loop-rest.invariant in
    let s = c.in-Last.field-0 in
    let gives = ended g.S.Source.left g.S.Source.failed_reads c.summed-left.result c.loop-rest.left _ s c.in-Last.held c.in-Last.is c.in_ok-rest.ensures i.gives in (
      i.gives.0 ++ s ∷ [],
      c.summed-left.ensures.whole (i.gives.0 ++ s ∷ []) (Ok (Some c.told.result))
          (subst (λ h. MayGive g.S.Source.left c.summed-left.result (i.gives.0 ++ s ∷ []) (Ok h)) (sym c.told.ensures) gives),
    )

pub loop-rest-preserved : goal.loop-rest-preserved
loop-rest-preserved g c =
    let i = c.loop-rest.invariant in
    record {
      gives = went_on g.S.Source.left g.S.Source.failed_reads c.summed-left.result c.loop-rest.left _ c.in-More.field-0 c.in-More.rest c.in-More.is c.in_ok-rest.ensures i.gives;
      fails = may_fail g.S.Source.left g.S.Source.failed_reads c.summed-left.result c.loop-rest.left _ c.in-More.field-0 c.in-More.rest c.in-More.is c.in_ok-rest.ensures i.fails;
    }
