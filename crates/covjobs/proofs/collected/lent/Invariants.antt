use Rattle.std.specs.Prelude.{◌≡◌, map, take}
use Rattle.covjobs.specs.InputView.{input_data}
use Rattle.covjobs.proofs.collected.lent.Given as goal

-- the inputs so far are lent
abbrev pub invariant-loop-input : goal.invariant-loop-input
invariant-loop-input l = map (λ input. input_data input.now) l.lent.items ≡ map input_data (take l.input-index l.inputs)
