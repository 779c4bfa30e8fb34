use Rattle.std.proofs.Common.{ℕ, Option}
use Rattle.std.specs.Ordering.{nat_cmp}
use Rattle.alloc_failure_tests.specs.declared.tests.maps.Newest.{Newest}
use Rattle.covmap.proofs.Run.{fit_always}
use Rattle.alloc_failure_tests.proofs.tests.maps.stage.Goals as goal

pub stage_run-requires : goal.stage_run-requires
stage_run-requires g c = fit_always nat_cmp (λ (query : ℕ). query) (λ (more : Newest) (value : Option ℕ). Unit {0}) (λ (more : Newest) (value : Option ℕ). more.value) (λ more value. tt) c.args.run.now c.args.map.now.staged
