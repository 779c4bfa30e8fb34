use Rattle.std.proofs.Common.{suc}
use Rattle.covread.specs.Outcome.{max_bytes}
use Rattle.covworld.proofs.Folders.{read_whole}
use Rattle.covworld.proofs.files.read_text.Goals as goal

pub returns-clause-read : goal.returns-clause-read
returns-clause-read g c = (read_whole (suc max_bytes) _ _ c.in_ok-empty.empty _ c.in_ok-empty.ensures.empty c.in_ok-text.ensures.read).0

pub returns-clause-few : goal.returns-clause-few
returns-clause-few g c = (read_whole (suc max_bytes) _ _ c.in_ok-empty.empty _ c.in_ok-empty.ensures.empty c.in_ok-text.ensures.read).1
