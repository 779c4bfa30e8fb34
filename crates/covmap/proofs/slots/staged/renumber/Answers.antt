use Rattle.std.proofs.Common.{◌+◌, ◌<◌, ◌^◌, ◌∙◌, refl, ap, sym, subst, get_or, arith}
use Rattle.covmap.specs.Staged.{number_after}
use Rattle.covmap.proofs.StagedGrowth.{front_read, front_whole, number_more}
use Rattle.covmap.proofs.Leads.{all_at}
use Rattle.covmap.proofs.slots.staged.renumber.Goals as goal

pub loop-index-init : goal.loop-index-init
loop-index-init g c = refl

pub number_after-requires : goal.number_after-requires
number_after-requires g c =
    let index = c.loop-index.index in
    let old = c.args.columns.now in
    let column = c.index-columns-index.result in
    let same = ap (λ columns. get_or columns index column) c.loop-index.invariant ∙ front_read (λ column. (number_after c.args.page column.0, column.1)) old index column in
    subst (λ column. column.0 + 1 < 2 ^ 64) (sym same) (all_at (λ column. column.0 + 1 < 2 ^ 64) old index column c.requires c.loop-index-test.true)

pub loop-index-preserved : goal.loop-index-preserved
loop-index-preserved g c =
    number_more c.args.page c.loop-index.index c.args.columns.now c.loop-index.columns c.index-columns-index.result c.index-columns-index-in-loop-index.result c.number_after.result
    c.loop-index.invariant c.loop-index-test.true c.index-columns-index.is c.number_after.ensures

pub returns : goal.returns
returns g c = c.loop-index.invariant ∙ front_whole (λ column. (number_after c.args.page column.0, column.1)) c.args.columns.now c.loop-index.index (omega (arith, c.loop-index-test.false))

pub loop-index-smaller : goal.loop-index-smaller
loop-index-smaller g c = omega (arith, c.loop-index-test.true)

pub bounds-columns-index : goal.bounds-columns-index
bounds-columns-index g c = omega (arith, c.loop-index-test.true, c.loop-index.auto.columns)
