use Rattle.std.proofs.Common.{ap}
use Rattle.covjobs.specs.InputView.{input_data}
use Rattle.covjobs.proofs.Outcomes.{trace_late, lcov2_late, gcov_late}
use Rattle.covjobs.proofs.input.Input.submission.Goals as goal

pub returns-in-Trace-clause-memory : goal.returns-in-Trace-clause-memory
returns-in-Trace-clause-memory g c = trace_late c.get.result.now _ (input_data c.args.self.now) c.read_trace.result c.get.ensures (ap input_data c.in-Trace.is) c.read_trace.ensures.memory

pub returns-in-Lcov2-clause-memory : goal.returns-in-Lcov2-clause-memory
returns-in-Lcov2-clause-memory g c =
    lcov2_late c.get-in-Lcov2.result.now _ (input_data c.args.self.now) c.read_lcov2.result c.get-in-Lcov2.ensures (ap input_data c.in-Lcov2.is) c.read_lcov2.ensures.memory

pub returns-in-Gcov-clause-memory : goal.returns-in-Gcov-clause-memory
returns-in-Gcov-clause-memory g c =
    gcov_late _ c.get-in-Gcov-2.result.now _ (input_data c.args.self.now) c.read_gcov.result c.get-in-Gcov-2.ensures (ap input_data c.in-Gcov.is) c.read_gcov.ensures.memory
