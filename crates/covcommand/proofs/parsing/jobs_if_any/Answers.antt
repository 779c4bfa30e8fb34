use Rattle.std.proofs.Common.{◌∙◌, arith, codes}
use Rattle.clap.specs.Words.{found_of, rows_of}
use Rattle.clap.proofs.WalkLemmas.{one_text-rows}
use Rattle.covcommand.proofs.Numbers.{told_if_any}
use Rattle.covcommand.proofs.parsing.jobs_if_any.Goals as goal

pub returns-clause-number : goal.returns-clause-number
returns-clause-number c =
    (told_if_any (codes "jobs") 64 (rows_of (found_of c.args.found.now)) c.get_one.result c.requires (λ none. c.get_one.ensures.none (one_text-rows (found_of c.args.found.now) (codes "jobs") ∙ none))
    (λ t is. c.get_one.ensures.value t (one_text-rows (found_of c.args.found.now) (codes "jobs") ∙ is)) (omega arith)).0

pub returns-clause-bounds : goal.returns-clause-bounds
returns-clause-bounds c =
    (told_if_any (codes "jobs") 64 (rows_of (found_of c.args.found.now)) c.get_one.result c.requires (λ none. c.get_one.ensures.none (one_text-rows (found_of c.args.found.now) (codes "jobs") ∙ none))
    (λ t is. c.get_one.ensures.value t (one_text-rows (found_of c.args.found.now) (codes "jobs") ∙ is)) (omega arith)).1
