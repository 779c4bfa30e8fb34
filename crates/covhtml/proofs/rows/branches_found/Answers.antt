use Rattle.std.proofs.Common.{sym}
use Rattle.std.proofs.lemmas.List.{length-map}
use Rattle.covtable.specs.ValuesView.{branch_data}
use Rattle.covhtml.proofs.rows.branches_found.Goals as goal

pub returns : goal.returns
returns c = sym (length-map c.args.branches.now branch_data)
