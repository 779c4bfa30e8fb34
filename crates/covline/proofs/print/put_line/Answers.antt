use Rattle.covdata.specs.Records.{line_data}
use Rattle.covline.proofs.PrintedLaws.{printed-spells}
use Rattle.covline.proofs.print.put_line.Goals as goal

pub returns-then-is_err-clause-spells : goal.returns-then-is_err-clause-spells
returns-then-is_err-clause-spells g c = printed-spells (line_data c.args.line.now)

pub returns-else-is_err-clause-spells : goal.returns-else-is_err-clause-spells
returns-else-is_err-clause-spells g c = printed-spells (line_data c.args.line.now)
