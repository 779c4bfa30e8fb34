use Rattle.std.proofs.Common.{◌∙◌, Some, sym, ap, option_map}
use Rattle.clap.specs.Words.{found_of}
use Rattle.clap.proofs.WalkLemmas.{first_value-rows}
use Rattle.covcommand.proofs.Told.{at_err, is_some}
use Rattle.covcommand.proofs.parsing.text_if_any.Goals as goal

pub returns-in_ok-of-in-Some-clause-text : goal.returns-in_ok-of-in-Some-clause-text
returns-in_ok-of-in-Some-clause-text c =
    sym (first_value-rows (found_of c.args.found.now) c.args.id.now) ∙ sym c.get_str.ensures
    ∙ ap (option_map (λ s. s.now)) c.in-Some.is ∙ ap (λ t. Some t) (sym (c.in_ok-of-in-Some.ensures ∙ c.as_bytes.ensures.value))

pub returns-in-None-clause-text : goal.returns-in-None-clause-text
returns-in-None-clause-text c =
    sym (first_value-rows (found_of c.args.found.now) c.args.id.now) ∙ sym c.get_str.ensures
    ∙ ap (option_map (λ s. s.now)) c.in-None.is

pub returns-in_err-of-in-Some-clause-some : goal.returns-in_err-of-in-Some-clause-some
returns-in_err-of-in-Some-clause-some c =
    at_err c.from_residual.result
    (is_some (sym (ap (option_map (λ s. s.now)) c.in-Some.is) ∙ c.get_str.ensures ∙ first_value-rows (found_of c.args.found.now) c.args.id.now))
