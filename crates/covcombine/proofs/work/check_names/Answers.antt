use Rattle.std.proofs.Common.{◌∙◌, sym, string_bytes}
use Rattle.covcombine.proofs.Taken.{names_there, no_names}
use Rattle.covcombine.proofs.work.check_names.Goals as goal

pub returns-then-is_empty-clause-fault : goal.returns-then-is_empty-clause-fault
returns-then-is_empty-clause-fault c = no_names string_bytes c.args.names.now (sym c.is_empty.ensures ∙ c.if-is_empty.true)

pub returns-in-None-clause-names : goal.returns-in-None-clause-names
returns-in-None-clause-names c = (names_there string_bytes c.args.names.now (sym c.is_empty.ensures ∙ c.if-is_empty.false), rw c.in-None.is at c.in_ok-twice.ensures)
