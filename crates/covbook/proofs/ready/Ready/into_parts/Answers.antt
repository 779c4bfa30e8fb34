use Rattle.std.proofs.Common.{ap}
use Rattle.covbook.specs.Ready.{ReadyData}
use Rattle.covbook.proofs.ready.Ready.into_parts.Goals as goal

pub returns-clause-change : goal.returns-clause-change
returns-clause-change g c = ap (λ (r : ReadyData g.row.P.Denot g.row.R.Denot). r.change) c.self.view_is
