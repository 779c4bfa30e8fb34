use Rattle.std.proofs.Common.{ℕ, Option}
use Rattle.std.specs.Option.{unwrap_or}
use Rattle.std.specs.Ordering.{nat_cmp}
use Rattle.std.specs.Prelude.{bit_or}
use Rattle.covstore_tests.specs.declared.tests.runs.Flags.{Flags}
use Rattle.covmap.proofs.Run.{fit_always}
use Rattle.covstore_tests.proofs.tests.runs.stage.Goals as goal

pub stage_run-requires : goal.stage_run-requires
stage_run-requires c =
    fit_always nat_cmp (λ (query : ℕ). query) (λ (more : Flags) (value : Option ℕ). Unit {0}) (λ (more : Flags) (value : Option ℕ). bit_or more.bits (unwrap_or value 0)) (λ more value. tt) c.args.run.now c.args.map.now.staged
