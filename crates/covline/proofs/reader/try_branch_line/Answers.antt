use Rattle.covline.proofs.BranchLines.{branch_form, branch_only, branch_says}
use Rattle.covline.proofs.reader.try_branch_line.Goals as goal

pub returns : goal.returns
returns c = record {
  says = branch_says c.front_branch.result c.args.text.now c.front_branch.ensures;
  form = branch_form c.front_branch.result c.args.text.now c.front_branch.ensures;
  only = branch_only c.front_branch.result c.args.text.now c.front_branch.ensures;
}
