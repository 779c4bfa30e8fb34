use Rattle.std.proofs.Common.{◌≡◌, inl, [], Some, None, refl, ap, ◌∙◌}
use Rattle.std.proofs.lemmas.Result.{err_from_is_err_and}
use Rattle.covpaths.specs.Names.{none_used}
use Rattle.covcombine.specs.Strangers.{strange}
use Rattle.covcombine.proofs.Opening.{first_ends, opened_now, strange_file}
use Rattle.covcombine.proofs.opened.open_file.Goals as goal

pub returns-in_default-clause-ended : goal.returns-in_default-clause-ended
returns-in_default-clause-ended g c = inl (refl, inl c.in_default.ensures.refused)

pub returns-in_err-first-clause-ended : goal.returns-in_err-first-clause-ended
returns-in_err-first-clause-ended g c =
    let told = err_from_is_err_and c.from_residual.result c.from_residual.ensures.1 in
    rw (told.1, told.2)
    (first_ends g.F.Folder g.F.File.Source c.args.folder.now c.args.new_names.now c.args.strictness c.args.name.now c.in-Ok.file.source c.read_first.new.source []
    c.in-Ok.ensures.opened c.in-Ok.ensures.bytes c.in-Ok.ensures.failures _ c.in_err-first.ensures.failed)

pub returns-in-Some-clause-ended : goal.returns-in-Some-clause-ended
returns-in-Some-clause-ended g c =
    let is : strange c.in_ok-first.first ≡ Some c.in-Some.kind = cc in
    strange_file g.F.Folder g.F.File.Source c.args.folder.now c.args.new_names.now c.args.strictness c.args.name.now c.in-Ok.file.source c.read_first.new.source c.in_ok-first.first
    c.in-Ok.ensures.opened c.in-Ok.ensures.bytes c.in-Ok.ensures.failures c.in_ok-first.ensures.read c.in_ok-first.ensures.few c.in-Some.kind is

pub returns-in_err-begun-in-None-clause-ended : goal.returns-in_err-begun-in-None-clause-ended
returns-in_err-begun-in-None-clause-ended g c =
    let told = err_from_is_err_and c.from_residual-in_err-begun-in-None.result c.from_residual-in_err-begun-in-None.ensures.1 in
    rw (told.1, told.2) tt

pub returns-in_ok-used-in-None-clause-opened : goal.returns-in_ok-used-in-None-clause-opened
returns-in_ok-used-in-None-clause-opened g c =
    let is : strange c.in_ok-first.first ≡ None = cc in
    opened_now g.F.Folder g.F.File.Source c.args.folder.now c.args.new_names.now c.args.strictness c.args.name.now c.in-Ok.file.source c.read_first.new.source c.in_ok-first.first
    c.in-Ok.ensures.opened c.in-Ok.ensures.bytes c.in-Ok.ensures.failures c.in_ok-first.ensures.read c.in_ok-first.ensures.few
    c.in_ok-begun-in-None.begun c.in_ok-begun-in-None.ensures _ is refl c.none-in-None.ensures (c.in_ok-used-in-None.ensures ∙ ap none_used c.rules.ensures.rules) c.begin.ensures.whole c.begin.ensures.told c.begin.ensures.source c.begin.ensures.left
    c.in_ok-first.ensures.good
