use Rattle.std.proofs.Common.{◌≡◌, ◌++◌, List, [], ◌∷◌, length, map, refl, ap, sym, ◌∙◌, arith}
use Rattle.std.proofs.lemmas.List.{length_push}
use Rattle.covtable.specs.Content.{FunctionValueData}
use Rattle.covreport.specs.FunctionView.{printed_function}
use Rattle.covreport.specs.declared.tracefile.functions.PrintedFunction.{PrintedFunction}
use Rattle.covreport.proofs.ByStart.{collects, collected, fits_one_more}
use Rattle.covreport.proofs.tracefile.functions.collect.Goals as goal

pub loop-function-init : goal.loop-function-init
loop-function-init g c =
    let given : List FunctionValueData = g.C.TableSection.functions_left c.into_iter-function-iterator.result in
    record {
      collected = ap (λ (xs : List PrintedFunction). map printed_function xs ++ given) c.requires.empty ∙ ap g.C.TableSection.functions_left c.into_iter-function-iterator.ensures.into_iter_gives ∙ c.functions-function-items.ensures.value;
      counted = c.requires.none ∙ sym (ap length c.requires.empty);
      room = refl;
    }

pub push_reserved-requires : goal.push_reserved-requires
push_reserved-requires g c =
    let so_far = c.loop-function.invariant in
    let next = c.functions-function-items.ensures.steps.some _ _ _ c.in-Some.ensures.steps in
    omega (arith, fits_one_more printed_function (g.C.TableSection.shown c.args.section.now).functions c.loop-function.functions.items _ _ (g.C.TableSection.functions_left c.next.new.self) next so_far.collected, so_far.counted, so_far.room, c.requires.room)

pub loop-function-preserved : goal.loop-function-preserved
loop-function-preserved g c =
    let so_far = c.loop-function.invariant in
    let old : List PrintedFunction = c.loop-function.functions.items in
    let now : List PrintedFunction = c.push_reserved.new.self.items in
    let pushed = c.push_reserved.ensures in
    let is : now ≡ old ++ c.of.result ∷ [] = pushed.items in
    let left : List FunctionValueData = g.C.TableSection.functions_left c.next.new.self in
    record {
      collected =
          collects printed_function (g.C.TableSection.shown c.args.section.now).functions old now c.of.result _ left
          (c.functions-function-items.ensures.steps.some _ _ _ c.in-Some.ensures.steps ∙ ap (λ (f : FunctionValueData). f ∷ left) (sym c.of.ensures)) so_far.collected is;
      counted = omega (arith, pushed.len, so_far.counted, ap length is, length_push old c.of.result);
      room = pushed.capacity ∙ so_far.room;
    }

pub returns : goal.returns
returns g c = record {
  all = collected printed_function (g.C.TableSection.shown c.args.section.now).functions c.loop-function.functions.items _ (c.functions-function-items.ensures.steps.none _ _ c.in-None.ensures.steps) c.loop-function.invariant.collected;
  few = omega (arith, ap length c.functions-function-items.ensures.value, c.functions-function-items.ensures.few);
  room = c.loop-function.invariant.room;
}
