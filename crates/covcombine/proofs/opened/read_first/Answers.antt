use Rattle.covcombine.specs.Strangers.{first_bytes}
use Rattle.covworld.proofs.Folders.{read_whole}
use Rattle.covcombine.proofs.opened.read_first.Goals as goal

pub returns-clause-read : goal.returns-clause-read
returns-clause-read g c = (read_whole first_bytes _ _ c.new.result _ c.new.ensures c.in_ok-first.ensures.read).0

pub returns-clause-few : goal.returns-clause-few
returns-clause-few g c = (read_whole first_bytes _ _ c.new.result _ c.new.ensures c.in_ok-first.ensures.read).1
