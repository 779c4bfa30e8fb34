use Rattle.std.proofs.Common.{◌≡◌, List, map, ap, ap₂, ◌∙◌, sym, subst}
use Rattle.covdata.specs.Row.{SectData}
use Rattle.covdata.specs.Lawful.{IsLawful}
use Rattle.covpacked.specs.PackedView.{PackedData}
use Rattle.covpaths.specs.Names.{named_sect}
use Rattle.covpaths.specs.Steps.{mapped_sect, tested_sect}
use Rattle.covpaths.proofs.GoodPaths.{named_lawful}
use Rattle.covpaths.proofs.Partly.{named_with, named_without, submission}
use Rattle.covpaths.proofs.renaming.rename.Goals as goal
use Rattle.covpaths.proofs.renaming.rename.Goals.{in-Some+in_ok-set_tests, in_default}

pub of_lawful-requires : goal.of_lawful-requires
of_lawful-requires c =
    let names = c.args.names.now in
    let mapped = c.in_ok-map_files.ensures.mapped ∙ ap (λ (sects : List SectData). map (mapped_sect names.rules) sects) c.into_sects-sects.ensures.sects in
    let is : c.match-test.sects.sects ≡ map (named_sect names) c.args.submission.sects =
    elim c.match-test.branch [
      | in-Some+in_ok-set_tests w ↦
          ap (λ (d : PackedData). d.sects) w.sects-is ∙ w.in_ok-set_tests.ensures ∙ ap (λ (sects : List SectData). map (tested_sect w.in-Some.test.now) sects) mapped
          ∙ named_with names w.in-Some.test.now c.args.submission.sects (sym w.in-Some.ensures.test)
      | in_default w ↦ ap (λ (d : PackedData). d.sects) w.sects-is ∙ mapped ∙ named_without names c.args.submission.sects (sym w.in_default.ensures.test)
    ] in
    record { lawful = subst IsLawful (sym (ap₂ submission is c.odd-odd.ensures)) (named_lawful names c.args.submission c.test-test.ensures.good c.into_sects-sects.ensures.lawful) }

pub returns-clause-renamed : goal.returns-clause-renamed
returns-clause-renamed c =
    let names = c.args.names.now in
    let mapped = c.in_ok-map_files.ensures.mapped ∙ ap (λ (sects : List SectData). map (mapped_sect names.rules) sects) c.into_sects-sects.ensures.sects in
    let is : c.match-test.sects.sects ≡ map (named_sect names) c.args.submission.sects =
    elim c.match-test.branch [
      | in-Some+in_ok-set_tests w ↦
          ap (λ (d : PackedData). d.sects) w.sects-is ∙ w.in_ok-set_tests.ensures ∙ ap (λ (sects : List SectData). map (tested_sect w.in-Some.test.now) sects) mapped
          ∙ named_with names w.in-Some.test.now c.args.submission.sects (sym w.in-Some.ensures.test)
      | in_default w ↦ ap (λ (d : PackedData). d.sects) w.sects-is ∙ mapped ∙ named_without names c.args.submission.sects (sym w.in_default.ensures.test)
    ] in
    c.of_lawful.ensures ∙ ap₂ submission is c.odd-odd.ensures
