use Rattle.std.proofs.Common.{◌≡◌, List, ℕ, Option, Some, None, OnOk, ap, sym, ◌∙◌, subst}
use Rattle.std.specs.Prelude.{option_map}
use Rattle.std.proofs.lemmas.Result.{on_ok_weaker}
use Rattle.covpacked.specs.NewNames.{file_set}
use Rattle.covpaths.specs.Names.{marked}
use Rattle.covpaths.specs.Paths.{MappedData, first_mapped}
use Rattle.covpaths.specs.Steps.{file_in, mapped_data, mapped_set}
use Rattle.covpaths.specs.declared.names.Mapped.{Mapped}
use Rattle.covpaths.proofs.Partly.{file_here}
use Rattle.covpaths.proofs.renaming.map_file.Goals as goal

pub returns-in-Some-2-clause-mapped : goal.returns-in-Some-2-clause-mapped
returns-in-Some-2-clause-mapped c =
    let rules = c.args.names.now.rules in
    let sects = c.args.sects.now.sects in
    let found : Some (mapped_data c.in-Some-2.mapped) ≡ first_mapped rules (file_in c.args.index sects) =
    ap (λ (o : Option Mapped). option_map mapped_data o) (sym c.in-Some-2.is) ∙ c.in_ok-mapped.ensures
    ∙ ap (λ (file : List ℕ). first_mapped rules file) (file_here c.args.index sects c.in-Some.file.now c.in-Some.ensures) in
    subst (λ (m : Option MappedData). OnOk c.set_file.result (c.set_file.new.self.sects ≡ mapped_set c.args.index m sects)) found
    (subst (λ (path : List ℕ). OnOk c.set_file.result (c.set_file.new.self.sects ≡ file_set c.args.index path sects)) c.get.ensures c.set_file.ensures.sects)

pub returns-in-Some-2-clause-used : goal.returns-in-Some-2-clause-used
returns-in-Some-2-clause-used c =
    let rules = c.args.names.now.rules in
    let sects = c.args.sects.now.sects in
    let found : Some (mapped_data c.in-Some-2.mapped) ≡ first_mapped rules (file_in c.args.index sects) =
    ap (λ (o : Option Mapped). option_map mapped_data o) (sym c.in-Some-2.is) ∙ c.in_ok-mapped.ensures
    ∙ ap (λ (file : List ℕ). first_mapped rules file) (file_here c.args.index sects c.in-Some.file.now c.in-Some.ensures) in
    on_ok_weaker c.set_file.result
    (λ _. c.mark.ensures ∙ ap (λ (m : Option MappedData). marked c.args.used.now m) found)
    c.set_file.ensures.sects

pub returns-in-None-clause-mapped : goal.returns-in-None-clause-mapped
returns-in-None-clause-mapped c =
    let rules = c.args.names.now.rules in
    let sects = c.args.sects.now.sects in
    let found : None ≡ first_mapped rules (file_in c.args.index sects) =
    ap (λ (o : Option Mapped). option_map mapped_data o) (sym c.in-None.is) ∙ c.in_ok-mapped.ensures
    ∙ ap (λ (file : List ℕ). first_mapped rules file) (file_here c.args.index sects c.in-Some.file.now c.in-Some.ensures) in
    ap (λ (m : Option MappedData). mapped_set c.args.index m sects) found

pub returns-in-None-clause-used : goal.returns-in-None-clause-used
returns-in-None-clause-used c =
    let rules = c.args.names.now.rules in
    let sects = c.args.sects.now.sects in
    let found : None ≡ first_mapped rules (file_in c.args.index sects) =
    ap (λ (o : Option Mapped). option_map mapped_data o) (sym c.in-None.is) ∙ c.in_ok-mapped.ensures
    ∙ ap (λ (file : List ℕ). first_mapped rules file) (file_here c.args.index sects c.in-Some.file.now c.in-Some.ensures) in
    ap (λ (m : Option MappedData). marked c.args.used.now m) found
