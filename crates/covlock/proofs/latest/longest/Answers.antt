use Rattle.std.proofs.Common.{refl}
use Rattle.covlock.proofs.Closed.{prefix_of_itself}
use Rattle.covlock.proofs.latest.longest.Goals as goal

pub returns-in-None-clause-news : goal.returns-in-None-clause-news
returns-in-None-clause-news g c = prefix_of_itself c.args.news

-- without news the history is empty
pub returns-in-None-clause-latest : goal.returns-in-None-clause-latest
returns-in-None-clause-latest g c = rw c.in-None.is (c.args.news, refl)
