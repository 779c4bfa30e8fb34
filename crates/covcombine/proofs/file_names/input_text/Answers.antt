use Rattle.std.proofs.Common.{suc}
use Rattle.covread.specs.Outcome.{max_bytes}
use Rattle.covworld.proofs.Folders.{read_whole}
use Rattle.covcombine.proofs.file_names.input_text.Goals as goal

pub returns-clause-text : goal.returns-clause-text
returns-clause-text g c = ((read_whole (suc max_bytes) _ _ c.new.result _ c.new.ensures c.in_ok-text.ensures.read).0, c.in_ok-text.ensures.good)
