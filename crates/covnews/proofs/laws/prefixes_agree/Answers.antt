use Rattle.covnews.proofs.Prefixes.{prefix_of_prefix, shorter_prefix}
use Rattle.covnews.proofs.Runs.{legal_before}
use Rattle.covnews.proofs.laws.prefixes_agree.Goals as goal

pub returns-clause-shorter : goal.returns-clause-shorter
returns-clause-shorter c = shorter_prefix

pub returns-clause-onward : goal.returns-clause-onward
returns-clause-onward c = prefix_of_prefix

pub returns-clause-legal : goal.returns-clause-legal
returns-clause-legal c = legal_before
