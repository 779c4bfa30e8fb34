-- The fault of a close: its number, and the job that it names.
use Rattle.std.specs.Prelude.{ℕ}
use Rattle.covlock.specs.declared.shared.CloseFault.{CloseFault}
use Rattle.covlock.specs.declared.shared.CloseFault.TheVariants.{Missing}

abbrev pub close_number : CloseFault → ℕ
close_number (Missing job) = 1

-- the job whose seat is missing
abbrev pub told_job : CloseFault → ℕ
told_job (Missing job) = job
