use Rattle.std.proofs.Common.{List, ap, inr, ℕ, ◌++◌, ◌∙◌}
use Rattle.covlist.specs.Shown.{shown_name}
use Rattle.covrun.proofs.Showing.{folder_told}
use Rattle.covrun.proofs.pages.report_folder.Goals as goal

pub returns-in-Ok : goal.returns-in-Ok
returns-in-Ok g c =
    folder_told c.args.name.now c.get.result.now c.args.words.now _ _ _
    (c.get.ensures ∙ c.in-Ok.ensures.ok ∙ ap (λ (told : List ℕ). told ++ shown_name c.as_bytes.result.now) c.new-told.ensures ∙ ap shown_name c.as_bytes.ensures.value)
    c.complain.ensures.status c.complain.ensures.withheld c.complain.ensures.said

pub returns : goal.returns
returns g c = inr c.say_failure.ensures
