use Rattle.std.proofs.Common.{map, ap, sym, ◌∙◌}
use Rattle.std.proofs.lemmas.Bool.{eq-eqb, ne_eqb}
use Rattle.covtable.specs.ValuesView.{branch_data}
use Rattle.covhtml.specs.SectionRows.{is_of}
use Rattle.covhtml.proofs.Fronts.{ended, passed, stopped}
use Rattle.covhtml.proofs.LaterRows.{none_seen}
use Rattle.covhtml.proofs.section_rows.without_own.Goals as goal

pub loop-branch-preserved : goal.loop-branch-preserved
loop-branch-preserved c =
    sym (passed (is_of c.args.line) (branch_data c.in-Some.branch.now) (map branch_data c.loop-branch.rest.now) (map branch_data c.in-Some.others.now) (ap (map branch_data) c.in-Some.ensures.cases.0)
    (eq-eqb c.in-Some.branch.now.line c.args.line c.if-branch-line.false))
    ∙ c.loop-branch.invariant

pub returns-then-branch-line : goal.returns-then-branch-line
returns-then-branch-line c =
    sym (stopped (is_of c.args.line) (branch_data c.in-Some.branch.now) (map branch_data c.loop-branch.rest.now) (map branch_data c.in-Some.others.now) (ap (map branch_data) c.in-Some.ensures.cases.0)
    (ne_eqb c.in-Some.branch.now.line c.args.line c.if-branch-line.true))
    ∙ c.loop-branch.invariant

pub returns-in_default : goal.returns-in_default
returns-in_default c = sym (ended (is_of c.args.line) (map branch_data c.loop-branch.rest.now) (none_seen branch_data c.loop-branch.rest.now c.in_default.ensures.cases)) ∙ c.loop-branch.invariant
