use Rattle.std.proofs.Common.{◌≡◌, ℕ, ◌++◌, List, length, map, sym, ap, ap₂, ◌∙◌, arith}
use Rattle.std.specs.List.{flat_map}
use Rattle.std.proofs.lemmas.List.{length-map}
use Rattle.covdata.specs.Printed.{printed}
use Rattle.covdata.specs.Records.{LineData}
use Rattle.covdata.specs.declared.trace_line.TotalKind.TheVariants.{FuncFound, FuncHit}
use Rattle.covreport.specs.FunctionView.{printed_function}
use Rattle.covreport.specs.Report.{by_start, start_record, call_record, functions_hit, totals_if_any}
use Rattle.covreport.specs.declared.tracefile.functions.PrintedFunction.{PrintedFunction}
use Rattle.covtable.specs.Content.{FunctionValueData}
use Rattle.covreport.proofs.ByStart.{length-by_start, hit-by_start}
use Rattle.covreport.proofs.Texts.{with_tail}
use Rattle.covreport.proofs.tracefile.functions.put_functions.Goals as goal

pub put_calls-tally-requires : goal.put_calls-tally-requires
put_calls-tally-requires g c = omega (arith, ap length c.as_slice-sorted.ensures.value, c.sort_by_start_line.ensures.few)

pub returns-clause-text : goal.returns-clause-text
returns-clause-text g c =
    let text = g.P.Printer.text in
    let given : List FunctionValueData = (g.C.TableSection.shown c.args.section.now).functions in
    let all = by_start given in
    let t : List ℕ = text c.args.out.now in
    let t1 : List ℕ = text c.put_starts.new.out in
    let t2 : List ℕ = text c.put_calls-tally.new.out in
    let t3 : List ℕ = text c.put_totals_if_any.new.out in
    let functions : List PrintedFunction = c.as_slice-sorted.result.now in
    let is : map printed_function functions ≡ all = ap (map printed_function) c.as_slice-sorted.ensures.value ∙ c.sort_by_start_line.ensures.all in
    let found = c.put_calls-tally.ensures.found ∙ sym (length-map functions printed_function) ∙ ap length is ∙ length-by_start given in
    let hit = c.put_calls-tally.ensures.hit ∙ ap functions_hit is ∙ hit-by_start given in
    let tail : List LineData = totals_if_any FuncFound FuncHit (length given) (functions_hit given) in
    with_tail start_record all (map call_record all ++ tail) t t1 t3
    (c.put_starts.ensures ∙ ap (λ (fs : List FunctionValueData). t ++ flat_map (λ f. printed (start_record f)) fs) is)
    (with_tail call_record all tail t1 t2 t3
    (c.put_calls-tally.ensures.text ∙ ap (λ (fs : List FunctionValueData). t1 ++ flat_map (λ f. printed (call_record f)) fs) is)
    (c.put_totals_if_any.ensures ∙ ap₂ (λ found hit. t2 ++ flat_map printed (totals_if_any FuncFound FuncHit found hit)) found hit))
