use Rattle.std.proofs.Common.{◌∙◌, codes}
use Rattle.clap.specs.Words.{found_of}
use Rattle.clap.proofs.WalkLemmas.{one_text-rows}
use Rattle.covcommand.proofs.Numbers.{is_set, is_not_set}
use Rattle.covcommand.proofs.parsing.progress_of.Goals as goal

pub returns-then-get_flag : goal.returns-then-get_flag
returns-then-get_flag c =
    is_set _ c.get_flag.result c.requires (λ is. c.get_flag.ensures.other (one_text-rows (found_of c.args.found.now) (codes "quiet") ∙ is))
    c.if-get_flag.true

pub returns-else-get_flag : goal.returns-else-get_flag
returns-else-get_flag c =
    is_not_set _ c.get_flag.result c.requires (λ is. c.get_flag.ensures.value (one_text-rows (found_of c.args.found.now) (codes "quiet") ∙ is))
    c.if-get_flag.false
