use Rattle.std.proofs.Common.{◌++◌, List, map, ap, ◌∙◌}
use Rattle.covtable.specs.ValuesView.{function_data}
use Rattle.covtable.specs.declared.values.FunctionValue.{FunctionValue}
use Rattle.covhtml.proofs.Fronts.{collected, collects}
use Rattle.covhtml.proofs.points.functions_of.Goals as goal

pub loop-function-init : goal.loop-function-init
loop-function-init g c =
    ap (λ (xs : List FunctionValue). map function_data xs ++ g.C.TableSection.functions_left c.into_iter-function-iterator.result) c.new-functions.ensures.items
    ∙ ap g.C.TableSection.functions_left c.into_iter-function-iterator.ensures.into_iter_gives ∙ c.functions-function-items.ensures.value

pub loop-function-preserved : goal.loop-function-preserved
loop-function-preserved g c =
    collects function_data (g.C.TableSection.shown c.args.section.now).functions c.loop-function.functions.items c.push.new.self.items c.in-Some.function _ (g.C.TableSection.functions_left c.next.new.self)
    (c.functions-function-items.ensures.steps.some _ _ _ c.in-Some.ensures.steps) c.loop-function.invariant c.in_ok-push.ensures.items

pub returns : goal.returns
returns g c =
    collected function_data (g.C.TableSection.shown c.args.section.now).functions c.loop-function.functions.items _ (c.functions-function-items.ensures.steps.none _ _ c.in-None.ensures.steps) c.loop-function.invariant
