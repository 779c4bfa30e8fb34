use Rattle.std.proofs.Common.{◌∙◌, Some, refl, sym, ap, codes, option_map}
use Rattle.clap.specs.Words.{found_of}
use Rattle.clap.proofs.WalkLemmas.{first_value-rows}
use Rattle.clap.proofs.CallerLemmas.{some_of_text}
use Rattle.covcommand.proofs.parsing.folder_of.Goals as goal

pub unwrap-folder-requires : goal.unwrap-folder-requires
unwrap-folder-requires c =
    let is = c.get_str.ensures ∙ first_value-rows (found_of c.args.found.now) (codes "output") ∙ c.requires.1 in
    some_of_text _ c.get_str.result _ is refl

pub returns : goal.returns
returns c =
    let is = sym (first_value-rows (found_of c.args.found.now) (codes "output")) ∙ sym c.get_str.ensures
    ∙ ap (option_map (λ s. s.now)) c.unwrap-folder.ensures in
    is ∙ ap (λ t. Some t) (sym c.in_ok-from_str.ensures.ok)
