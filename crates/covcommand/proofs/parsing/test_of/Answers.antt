use Rattle.std.proofs.Common.{◌∙◌, Some, refl, sym, ap, codes, option_map}
use Rattle.std.proofs.lemmas.Result.{IfOk-weaker}
use Rattle.clap.specs.Words.{found_of}
use Rattle.clap.proofs.WalkLemmas.{first_value-rows}
use Rattle.clap.proofs.CallerLemmas.{some_of_text}
use Rattle.covcommand.proofs.parsing.test_of.Goals as goal

pub unwrap-name-requires : goal.unwrap-name-requires
unwrap-name-requires c =
    let is = c.get_str.ensures ∙ first_value-rows (found_of c.args.found.now) (codes "test") ∙ c.requires.1 in
    some_of_text _ c.get_str.result _ is refl

pub returns : goal.returns
returns c =
    let is = sym (first_value-rows (found_of c.args.found.now) (codes "test")) ∙ sym c.get_str.ensures
    ∙ ap (option_map (λ s. s.now)) c.unwrap-name.ensures in
    IfOk-weaker c.of.result _ _ (λ b h. is ∙ ap (λ t. Some t) (sym (h ∙ c.as_bytes.ensures.value))) c.of.ensures
