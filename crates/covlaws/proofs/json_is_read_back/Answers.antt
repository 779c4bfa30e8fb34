use Rattle.covlaws.proofs.JsonTokens.{list_read, summary_read}
use Rattle.covlaws.proofs.ListBack.{list_tells}
use Rattle.covlaws.proofs.json_is_read_back.Goals as goal

pub returns : goal.returns
returns c = record { list = list_read; summary = summary_read; table = list_tells }
