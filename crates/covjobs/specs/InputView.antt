-- The program's inputs as plain data.
use Rattle.covjobs.specs.declared.input.Input.{Input}
use Rattle.covjobs.specs.declared.input.Input.TheVariants as inputs
use Rattle.covjobs.specs.Inputs.{InputData, TraceInput, Lcov2Input, GcovInput}

abbrev pub input_data : {A : Type 0} → Input A → InputData
input_data (inputs.Trace text) = TraceInput text
input_data (inputs.Lcov2 text) = Lcov2Input text
input_data (inputs.Gcov test text) = GcovInput test text
