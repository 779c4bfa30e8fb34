use Rattle.std.proofs.Common.{◌∙◌}
use Rattle.covhtml.proofs.Branches.{hit_seen}
use Rattle.covhtml.proofs.rows.branches_hit.Goals as goal

pub returns : goal.returns
returns c = c.taken_among.ensures ∙ hit_seen c.args.branches.now
