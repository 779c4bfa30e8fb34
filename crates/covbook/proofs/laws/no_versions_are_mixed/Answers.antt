use Rattle.std.proofs.Common.{[]}
use Rattle.covbook.proofs.Versions.{agree_from}
use Rattle.covbook.proofs.laws.no_versions_are_mixed.Goals as goal

pub returns : goal.returns
returns c =
    let accepted = c.accepted_rows_agree.ensures in
    λ ops. agree_from accepted.accepted accepted.dropped c.renaming_keeps_totals.ensures.agree [] ops accepted.empty
