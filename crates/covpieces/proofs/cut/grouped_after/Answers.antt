use Rattle.std.proofs.Common.{◌∙◌, sym, ap}
use Rattle.covpieces.specs.LastLines.{grouping_of}
use Rattle.covpieces.proofs.LastLines.{grouped_decided, grouped_kept}
use Rattle.covpieces.proofs.cut.grouped_after.Goals as goal

pub returns-in-Some : goal.returns-in-Some
returns-in-Some c =
    let cut = c.cut_last_line in
    let told = ap grouping_of (sym c.without_returns.ensures) ∙ sym c.in-Some.ensures in
    sym (c.loop-rest.invariant.same ∙ grouped_decided c.args.is_grouped c.in-Some.decided c.loop-rest.rest.now cut.result.0.now cut.result.1.now cut.ensures told)

pub loop-rest-preserved : goal.loop-rest-preserved
loop-rest-preserved c =
    let cut = c.cut_last_line in
    let told = ap grouping_of (sym c.without_returns.ensures) ∙ sym c.in-None.ensures in
    record {
      whole = cut.ensures.whole;
      same = c.loop-rest.invariant.same ∙ grouped_kept c.args.is_grouped c.loop-rest.rest.now cut.result.0.now cut.result.1.now cut.ensures told;
    }
