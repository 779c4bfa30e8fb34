use Rattle.std.proofs.Common.{◌≡◌, true, sym, ◌∙◌}
use Rattle.std.proofs.lemmas.Bool.{false≢true}
use Rattle.covdata.specs.SectView.{sect_data}
use Rattle.covdata.proofs.SectLaws.{lawful_sect}
use Rattle.covdata.proofs.checks.is_lawful.Goals.{then-good_test, else-good_test}
use Rattle.covdata.proofs.checks.is_lawful.Goals as goal

pub returns-then-good_name : goal.returns-then-good_name
returns-then-good_name g c =
    elim c.if-good_test.branch [
      | then-good_test w ↦
          let named : w.good_name.result ≡ true = sym w.value-is ∙ c.if-good_name.true in
          let items = lawful_sect (sect_data c.args.sect.now) c.get.result.now w.get-then-good_test.result.now c.get-then-good_name.result.now c.get.ensures w.get-then-good_test.ensures c.get-then-good_name.ensures.items (c.good_test.ensures.0 w.if-good_test.true) (w.good_name.ensures.0 named) in
          (λ yes. items.0 (c.are_lawful.ensures.0 yes), λ lawful. c.are_lawful.ensures.1 (items.1 lawful))
      | else-good_test w ↦ absurd (false≢true (sym w.if-good_test.false ∙ (sym w.value-is ∙ c.if-good_name.true)))
    ]
