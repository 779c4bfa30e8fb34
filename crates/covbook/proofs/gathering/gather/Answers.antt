use Rattle.std.proofs.Common.{◌≡◌, ℕ, Result, Ok, Err, Some, None, length, map, sym, subst}
use Rattle.std.proofs.lemmas.List.{length-map}
use Rattle.std.proofs.lemmas.Result.{err_from_is_err_and}
use Rattle.covbook.specs.declared.gather_fault.GatherFault.{GatherFault}
use Rattle.covbook.specs.declared.gather_fault.GatherFault.TheVariants.{Missing}
use Rattle.covbook.specs.EntryView.{entry_data}
use Rattle.covbook.specs.Gather.{gather_claims, places_in}
use Rattle.covbook.specs.GatherSteps.{Returns, ReturnsLeast}
use Rattle.covbook.specs.LogView.{log_data}
use Rattle.covbook.proofs.Gathered.{all_told, apart_from, job_told, log_told, missing_told, no_means, yes_means}
use Rattle.covbook.proofs.gathering.gather.Goals as goal

pub returns-in_err-check_jobs : goal.returns-in_err-check_jobs
returns-in_err-check_jobs g c =
    let entries = map (entry_data {A = g.row.A.Denot}) c.args.entries.now in
    let logs = map (log_data {A = g.row.A.Denot}) c.args.logs.now in
    let p = err_from_is_err_and c.from_residual.result c.from_residual.ensures.1 in
    let f = c.in_err-check_jobs.field-0.0 in
    let told : Returns c.from_residual.result (gather_claims entries logs) = rw (p.1, p.2) (job_told entries logs f c.in_err-check_jobs.ensures) in
    record { gathered = yes_means entries logs c.from_residual.result told; fault = no_means entries logs c.from_residual.result told }

pub returns-in_err-check_logs : goal.returns-in_err-check_logs
returns-in_err-check_logs g c =
    let entries = map (entry_data {A = g.row.A.Denot}) c.args.entries.now in
    let logs = map (log_data {A = g.row.A.Denot}) c.args.logs.now in
    let p = err_from_is_err_and c.from_residual-in_err-check_logs.result c.from_residual-in_err-check_logs.ensures.1 in
    let f = c.in_err-check_logs.field-0.0 in
    let told : Returns c.from_residual-in_err-check_logs.result (gather_claims entries logs) = rw (p.1, p.2) (log_told entries logs f c.in_ok-check_jobs.ensures c.in_err-check_logs.ensures) in
    record { gathered = yes_means entries logs c.from_residual-in_err-check_logs.result told; fault = no_means entries logs c.from_residual-in_err-check_logs.result told }

pub least_missing-requires : goal.least_missing-requires
least_missing-requires g c =
    apart_from (map (entry_data {A = g.row.A.Denot}) c.args.entries.now) (map (log_data {A = g.row.A.Denot}) c.args.logs.now) c.in_ok-check_jobs.ensures c.in_ok-check_logs.ensures

pub returns-in-Some : goal.returns-in-Some
returns-in-Some g c =
    let entries = map (entry_data {A = g.row.A.Denot}) c.args.entries.now in
    let logs = map (log_data {A = g.row.A.Denot}) c.args.logs.now in
    let long : length entries ≡ length c.args.entries.now = length-map c.args.entries.now (entry_data {A = g.row.A.Denot}) in
    let least : ReturnsLeast (Some c.in-Some.place) (length entries) (places_in logs) = subst (λ (n : ℕ). ReturnsLeast (Some c.in-Some.place) n (places_in logs)) (sym long) c.in-Some.ensures in
    let result : Result (Unit {0}) GatherFault = Err (Missing c.in-Some.place) in
    let told : Returns result (gather_claims entries logs) = missing_told entries logs c.in-Some.place c.in_ok-check_jobs.ensures c.in_ok-check_logs.ensures least in
    record { gathered = yes_means entries logs result told; fault = no_means entries logs result told }

pub returns-in-None : goal.returns-in-None
returns-in-None g c =
    let entries = map (entry_data {A = g.row.A.Denot}) c.args.entries.now in
    let logs = map (log_data {A = g.row.A.Denot}) c.args.logs.now in
    let long : length entries ≡ length c.args.entries.now = length-map c.args.entries.now (entry_data {A = g.row.A.Denot}) in
    let none : ReturnsLeast None (length entries) (places_in logs) = subst (λ (n : ℕ). ReturnsLeast None n (places_in logs)) (sym long) c.in-None.ensures in
    let result : Result (Unit {0}) GatherFault = Ok tt in
    let told : Returns result (gather_claims entries logs) = all_told entries logs c.in_ok-check_jobs.ensures c.in_ok-check_logs.ensures none in
    record { gathered = yes_means entries logs result told; fault = no_means entries logs result told }
