use Rattle.std.proofs.Common.{◌∙◌, Some, sym, ap, codes, option_map}
use Rattle.clap.specs.Words.{found_of}
use Rattle.clap.proofs.WalkLemmas.{first_value-rows}
use Rattle.covcommand.proofs.Told.{at_err, is_some}
use Rattle.covcommand.proofs.parsing.output_of.Goals as goal

pub returns-in_ok-from_str-in-Some-clause-output : goal.returns-in_ok-from_str-in-Some-clause-output
returns-in_ok-from_str-in-Some-clause-output c =
    sym (first_value-rows (found_of c.args.found.now) (codes "output")) ∙ sym c.get_str.ensures
    ∙ ap (option_map (λ s. s.now)) c.in-Some.is ∙ ap (λ t. Some t) (sym c.in_ok-from_str-in-Some.ensures.ok)

pub returns-in-None-clause-output : goal.returns-in-None-clause-output
returns-in-None-clause-output c =
    sym (first_value-rows (found_of c.args.found.now) (codes "output")) ∙ sym c.get_str.ensures
    ∙ ap (option_map (λ s. s.now)) c.in-None.is

pub returns-in_err-from_str-in-Some-clause-some : goal.returns-in_err-from_str-in-Some-clause-some
returns-in_err-from_str-in-Some-clause-some c =
    at_err c.from_residual.result
    (is_some (sym (ap (option_map (λ s. s.now)) c.in-Some.is) ∙ c.get_str.ensures ∙ first_value-rows (found_of c.args.found.now) (codes "output")))
