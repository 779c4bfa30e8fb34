-- What a gathering returns for entries and logs as a whole.
use Rattle.std.proofs.Common.{◌≡◌, ℕ, List, [], ◌++◌, Result, Ok, Err, IsOk, Some, None, length, refl, ap, subst, arith}
use Rattle.std.specs.Prelude.{◌↔◌}
use Rattle.std.proofs.lemmas.Bool.{false≢true}
use Rattle.covbook.specs.declared.gather_fault.GatherFault.{GatherFault}
use Rattle.covbook.specs.declared.gather_fault.GatherFault.TheVariants.{Missing}
use Rattle.covbook.specs.Op.{EntryData}
use Rattle.covbook.specs.Gather.{LogData, places_in, IsGathered, IsGatherFault, AllHold, FirstFails, job_claims, log_claims, entry_claims, gather_claims}
use Rattle.covbook.specs.GatherSteps.{AreApart, Returns, ReturnsLeast}
use Rattle.covbook.proofs.Claims.{all_join, first_left, first_right, none_fails, one_fails}
use Rattle.covbook.proofs.Merged.{entries_are, entries_miss, gathered_from, gathered_holds, jobs_from, logs_hold}
use Rattle.covbook.proofs.Once.{apart}

-- ---- the claims in their order

pub apart_from : (entries : List EntryData) (logs : List LogData) → AllHold (job_claims 0 [] logs) → AllHold (log_claims entries 0 logs) → AreApart logs
apart_from entries logs jobs kept = apart entries logs (jobs_from logs jobs) (logs_hold entries 0 logs kept)

pub job_told : (entries : List EntryData) (logs : List LogData) (f : GatherFault) → FirstFails (job_claims 0 [] logs) f → FirstFails (gather_claims entries logs) f
job_told entries logs f fails =
    first_left (job_claims 0 [] logs ++ log_claims entries 0 logs) (entry_claims logs 0 entries) f (first_left (job_claims 0 [] logs) (log_claims entries 0 logs) f fails)

pub log_told : (entries : List EntryData) (logs : List LogData) (f : GatherFault) → AllHold (job_claims 0 [] logs) → FirstFails (log_claims entries 0 logs) f → FirstFails (gather_claims entries logs) f
log_told entries logs f jobs fails =
    first_left (job_claims 0 [] logs ++ log_claims entries 0 logs) (entry_claims logs 0 entries) f (first_right (job_claims 0 [] logs) (log_claims entries 0 logs) f jobs fails)

pub missing_told : (entries : List EntryData) (logs : List LogData) (place : ℕ) → AllHold (job_claims 0 [] logs) → AllHold (log_claims entries 0 logs)
    → ReturnsLeast (Some place) (length entries) (places_in logs) → FirstFails (gather_claims entries logs) (Missing place)
missing_told entries logs place jobs kept least =
    first_right (job_claims 0 [] logs ++ log_claims entries 0 logs) (entry_claims logs 0 entries) (Missing place) (all_join (job_claims 0 [] logs) (log_claims entries 0 logs) jobs kept)
    (entries_miss logs 0 entries place (omega arith) (omega (arith, least.0)) least.1 (λ p low under. least.2 p under))

pub all_told : (entries : List EntryData) (logs : List LogData) → AllHold (job_claims 0 [] logs) → AllHold (log_claims entries 0 logs)
    → ReturnsLeast None (length entries) (places_in logs) → AllHold (gather_claims entries logs)
all_told entries logs jobs kept none =
    all_join (job_claims 0 [] logs ++ log_claims entries 0 logs) (entry_claims logs 0 entries) (all_join (job_claims 0 [] logs) (log_claims entries 0 logs) jobs kept)
    (entries_are logs 0 entries (λ p low high. none p (omega (arith, high))))

-- ---- what the answer means

pub yes_means : (entries : List EntryData) (logs : List LogData) (r : Result (Unit {0}) GatherFault) → Returns r (gather_claims entries logs) → IsOk r ↔ IsGathered entries logs
yes_means entries logs (Ok x) told = ((λ yes. gathered_from entries logs told), λ gathered. refl)
yes_means entries logs (Err f) told = ((λ wrong. absurd (false≢true wrong)), λ gathered. absurd (none_fails (gather_claims entries logs) f (gathered_holds entries logs gathered) told))

not_both : (x : Unit {0}) (f : GatherFault) → Ok x ≡ Err f → ⊥
not_both x f e = cc

same_fault : (r : Result (Unit {0}) GatherFault) (f g : GatherFault) → r ≡ Err f → r ≡ Err g → f ≡ g
same_fault r f g e h = cc

pub no_means : (entries : List EntryData) (logs : List LogData) (r : Result (Unit {0}) GatherFault) → Returns r (gather_claims entries logs) → (f : GatherFault) → (r ≡ Err f) ↔ IsGatherFault entries logs f
no_means entries logs (Ok x) told f = ((λ wrong. absurd (not_both x f wrong)), λ fails. absurd (none_fails (gather_claims entries logs) f told fails))
no_means entries logs (Err g) told f = ((λ is. subst (FirstFails (gather_claims entries logs)) (same_fault (Err g) g f refl is) told), λ fails. ap Err (one_fails (gather_claims entries logs) g f told fails))
