use Rattle.std.proofs.Common.{refl, nat_lt, length, ap, ap₂, ◌++◌, ◌∙◌, arith}
use Rattle.std.specs.List.{flat_map}
use Rattle.covdata.specs.Printed.{printed}
use Rattle.covdata.specs.declared.trace_line.TotalKind.TheVariants.{LineFound, LineHit}
use Rattle.covreport.specs.Report.{line_record, lines_hit, totals}
use Rattle.covtable.specs.Content.{LineValueData}
use Rattle.covtable.specs.ValuesView.{line_data}
use Rattle.covreport.proofs.Texts.{printed_none, printed_more, printed_all, count_fits, with_tail}
use Rattle.covreport.proofs.tracefile.lines.put_lines.Goals as goal

pub loop-line-init : goal.loop-line-init
loop-line-init g c =
    printed_none (λ (v : LineValueData). printed (line_record v)) (λ (v : LineValueData). nat_lt 0 v.count) (g.C.TableSection.shown c.args.section.now).lines (g.P.Printer.text c.args.out.now) _ _ _
    (ap g.C.TableSection.lines_left c.into_iter-line-iterator.ensures.into_iter_gives ∙ c.lines-line-items.ensures.value) refl refl

pub and-tally-requires : goal.and-tally-requires
and-tally-requires g c =
    count_fits (λ (v : LineValueData). printed (line_record v)) (λ (v : LineValueData). nat_lt 0 v.count) (g.C.TableSection.shown c.args.section.now).lines (g.P.Printer.text c.args.out.now) (line_data c.in-Some.line) _ _ (g.P.Printer.text c.loop-line.out) c.loop-line.tally.0 c.loop-line.tally.1.0
    (omega (arith, ap length c.lines-line-items.ensures.value, c.lines-line-items.ensures.few)) (c.lines-line-items.ensures.steps.some _ _ _ c.in-Some.ensures.steps) c.loop-line.invariant

pub loop-line-preserved : goal.loop-line-preserved
loop-line-preserved g c =
    printed_more (λ (v : LineValueData). printed (line_record v)) (λ (v : LineValueData). nat_lt 0 v.count) (g.C.TableSection.shown c.args.section.now).lines (g.P.Printer.text c.args.out.now) (line_data c.in-Some.line) _ _ _ (g.P.Printer.text c.loop-line.out) (g.P.Printer.text c.put_count.new.out) _ _ _ _
    (c.lines-line-items.ensures.steps.some _ _ _ c.in-Some.ensures.steps) c.loop-line.invariant c.put_count.ensures refl c.and-tally.ensures.found c.and-tally.ensures.hit

pub returns : goal.returns
returns g c =
    let all = printed_all (λ (v : LineValueData). printed (line_record v)) (λ (v : LineValueData). nat_lt 0 v.count) (g.C.TableSection.shown c.args.section.now).lines (g.P.Printer.text c.args.out.now) _ (g.P.Printer.text c.loop-line.out) c.loop-line.tally.0 c.loop-line.tally.1.0
    (c.lines-line-items.ensures.steps.none _ _ c.in-None.ensures.steps) c.loop-line.invariant in
    with_tail line_record (g.C.TableSection.shown c.args.section.now).lines (totals LineFound LineHit _ (lines_hit (g.C.TableSection.shown c.args.section.now).lines)) (g.P.Printer.text c.args.out.now) (g.P.Printer.text c.loop-line.out) (g.P.Printer.text c.put_totals.new.out) all.0
    (c.put_totals.ensures ∙ ap₂ (λ found hit. (g.P.Printer.text c.loop-line.out) ++ flat_map printed (totals LineFound LineHit found hit)) all.1 all.2)
