use Rattle.std.proofs.Common.{ℕ, ◌++◌, List, ap, ◌∙◌}
use Rattle.covdata.specs.Printed.{printed}
use Rattle.covdata.specs.Records.{Test, Path}
use Rattle.covreport.proofs.Texts.{section_is}
use Rattle.covreport.proofs.tracefile.put_section.Goals as goal

pub returns-clause-text : goal.returns-clause-text
returns-clause-text g c =
    let text = g.P.Printer.text in
    let t : List ℕ = text c.args.out.now in
    let t1 : List ℕ = text c.put_test.new.out in
    section_is (g.C.TableSection.shown c.args.section.now) t t1 (text c.put_path.new.out) (text c.put_functions.new.out) (text c.put_branches.new.out) (text c.put_lines.new.out) (text c.put_end.new.out)
    (c.put_test.ensures ∙ ap (λ (name : List ℕ). t ++ printed (Test name)) c.test.ensures)
    (c.put_path.ensures ∙ ap (λ (path : List ℕ). t1 ++ printed (Path path)) c.file.ensures)
    c.put_functions.ensures.text c.put_branches.ensures c.put_lines.ensures c.put_end.ensures
