use Rattle.std.proofs.Common.{[], ◌∷◌}
use Rattle.covdata.specs.Row.{rows_of}
use Rattle.covuses.proofs.StandsStill.{stands_still}
use Rattle.covuses.proofs.stores.merged.Goals as goal

pub returns : goal.returns
returns c =
    let first = c.commit.ensures.stands c.args.first.now [] c.in_ok-plan.ensures.planned (stands_still c.new-store.result c.prepare.new.self [] c.in_ok-plan.ensures.content c.new-store.ensures) in
    c.commit-2.ensures.stands c.args.second.now (rows_of c.args.first.now ∷ []) c.in_ok-plan-2.ensures.planned
    (stands_still c.commit.new.self c.prepare-2.new.self (rows_of c.args.first.now ∷ []) c.in_ok-plan-2.ensures.content first)
