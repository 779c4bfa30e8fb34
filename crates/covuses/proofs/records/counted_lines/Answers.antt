use Rattle.std.proofs.Common.{◌≡◌, ◌∙◌, ◌++◌, ap, refl, sym, subst}
use Rattle.std.proofs.lemmas.List.{append-nil}
use Rattle.covline.specs.Lines.{lines_of}
use Rattle.covdata.specs.Records.{line_data}
use Rattle.covdata.specs.Printed.{printed}
use Rattle.covuses.specs.Counted.{if_counted}
use Rattle.covuses.proofs.Counted.{ArePrinted, one_more, no_more, none_printed}
use Rattle.covuses.proofs.records.counted_lines.Goals as goal

pub loop-line-preserved-in-Continue-branch-2 : goal.loop-line-preserved-in-Continue-branch-2
loop-line-preserved-in-Continue-branch-2 c =
    let lines = lines_of c.args.text.now in
    let says = line_data c.in_ok-record.record in
    let counted : if_counted says ≡ printed says = rw c.in-Line.is refl in
    one_more lines c.loop-line.printed c.put_line.new.text c.in-Some.line.now (lines_of c.next.new.self) says c.in_ok-record.ensures.ok
    (c.in_ok-put_line.ensures.ok ∙ ap (λ t. c.loop-line.printed ++ t) (sym counted))
    (subst (ArePrinted lines c.loop-line.printed) c.in-Some.ensures.steps c.loop-line.invariant)

pub loop-line-preserved : goal.loop-line-preserved
loop-line-preserved c =
    let lines = lines_of c.args.text.now in
    let says = line_data c.in_ok-record.record in
    let nothing = none_printed c.in_ok-record.record c.in_default.not-Line in
    one_more lines c.loop-line.printed c.loop-line.printed c.in-Some.line.now (lines_of c.next.new.self) says c.in_ok-record.ensures.ok
    (sym (append-nil c.loop-line.printed) ∙ ap (λ t. c.loop-line.printed ++ t) (sym nothing))
    (subst (ArePrinted lines c.loop-line.printed) c.in-Some.ensures.steps c.loop-line.invariant)

pub returns : goal.returns
returns c = no_more (lines_of c.args.text.now) c.loop-line.printed (lines_of c.loop-line.line-iterator) c.in-None.ensures.steps.0 c.loop-line.invariant
