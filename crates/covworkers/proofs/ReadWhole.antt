-- What is collected from inputs that are read as a whole: each has one result, and the results decide what is collected.
use Rattle.std.proofs.Common.{◌≡◌, ◌∙◌, ℕ, zero, suc, ◌<◌, Bool, List, [], ◌∷◌, ◌++◌, length, map, Result, Ok, ap, sym, subst, arith}
use Rattle.std.proofs.lemmas.List.{length-map}
use Rattle.std.specs.List.{AllByRecursion}
use Rattle.covdata.specs.Row.{SubmissionData}
use Rattle.covbook.specs.Gather.{LogData}
use Rattle.covbook.specs.Op.{OpData, SubmitOp, EntryData}
use Rattle.covworkers.specs.declared.refused.RefusedInput.{RefusedInput}
use Rattle.covworkers.specs.Collect.{AreOutcomes, EndsWith, IsCollectedFrom, IsCollectedWhole, IsCollectedWith, IsReadWhole, all_places, asked_by, last_of, ops_in, places_of_job, refusal, refusals_of, submissions_of, submitted, whole}
use Rattle.covworkers.proofs.Taken.{Outcome, brought_same}

-- ---- what is collected depends on the outcomes of the inputs alone

submissions_same : {F : Type 0} (meant : ℕ → Bool) (outcome others : ℕ → Outcome F) (count : ℕ) → ((index : ℕ) → index < count → others index ≡ outcome index) → submissions_of meant others count ≡ submissions_of meant outcome count
submissions_same {F} meant outcome others count same =
    brought_same meant (λ index. submitted (outcome index)) (λ index. submitted (others index)) count (λ index less. ap (λ (o : Outcome F). submitted o) (same index less))

refusals_same : {F : Type 0} (meant : ℕ → Bool) (outcome others : ℕ → Outcome F) (count : ℕ) → ((index : ℕ) → index < count → others index ≡ outcome index) → refusals_of meant others count ≡ refusals_of meant outcome count
refusals_same {F} meant outcome others count same =
    brought_same meant (λ index. refusal index (outcome index)) (λ index. refusal index (others index)) count (λ index less. ap (λ (o : Outcome F). refusal index o) (same index less))

asked_same : {F : Type 0} (outcome others : ℕ → Outcome F) (count jobs : ℕ) (last : OpData) (job : ℕ) → ((index : ℕ) → index < count → others index ≡ outcome index)
    → asked_by others count jobs last job ≡ asked_by outcome count jobs last job
asked_same outcome others count jobs last job same =
    ap (λ (subs : List SubmissionData). map SubmitOp subs ++ last_of last job) (submissions_same (places_of_job jobs job) outcome others count same)

logs_same : {F : Type 0} (outcome others : ℕ → Outcome F) (count jobs : ℕ) (last : OpData) (logs : List LogData) → ((index : ℕ) → index < count → others index ≡ outcome index)
    → AllByRecursion (λ (log : LogData). ops_in log.receipts ≡ asked_by outcome count jobs last log.job) logs
    → AllByRecursion (λ (log : LogData). ops_in log.receipts ≡ asked_by others count jobs last log.job) logs
logs_same outcome others count jobs last [] same asked = tt
logs_same outcome others count jobs last (log ∷ logs) same asked =
    (asked.0 ∙ sym (asked_same outcome others count jobs last log.job same), logs_same outcome others count jobs last logs same asked.1)

-- if two functions give the same outcomes of the inputs, the same is collected with them
pub with_same : {F : Type 0} (outcome others : ℕ → Outcome F) (count jobs : ℕ) (last : OpData) (entries : List EntryData) (logs : List LogData) (refused : List (RefusedInput F))
    → ((index : ℕ) → index < count → others index ≡ outcome index) → IsCollectedWith outcome count jobs last entries logs refused → IsCollectedWith others count jobs last entries logs refused
with_same outcome others count jobs last entries logs refused same is = record {
  legal = is.legal;
  lawful = is.lawful;
  merge = is.merge;
  gathered = is.gathered;
  asked = (is.asked.0, logs_same outcome others count jobs last logs same is.asked.1);
  read = is.read;
  are_refused = is.are_refused ∙ sym (refusals_same all_places outcome others count same);
  ends = subst (λ (subs : List SubmissionData). EndsWith subs last entries) (sym (submissions_same all_places outcome others count same)) is.ends;
}

-- ---- the result of each input

-- a submission of nothing
abbrev no_rows : SubmissionData
no_rows = record { sects = []; odd = 0 }

pub there : {X : Type 0} (x : X) (inputs : List X) → 0 < length (x ∷ inputs)
there x inputs = omega arith

pub behind : {X : Type 0} (x : X) (inputs : List X) (place : ℕ) → place < length inputs → suc place < length (x ∷ inputs)
behind x inputs place less = omega (arith, less)

-- what the input at each place is read as, or why it is refused
abbrev pub result_at : {X F : Type 0} (Gives : X → Result SubmissionData F → Type 0) (inputs : List X) (outcome : ℕ → Outcome F) → AreOutcomes (λ input. IsReadWhole (Gives input)) inputs outcome → ℕ → Result SubmissionData F
result_at Gives [] outcome each index = Ok no_rows
result_at Gives (x ∷ inputs) outcome each zero = (each 0 (there x inputs)).0
result_at Gives (x ∷ inputs) outcome each (suc index) = result_at Gives inputs (λ place. outcome (suc place)) (λ place less. each (suc place) (behind x inputs place less)) index

pub results_are : {X F : Type 0} (Gives : X → Result SubmissionData F → Type 0) (inputs : List X) (outcome : ℕ → Outcome F) (each : AreOutcomes (λ input. IsReadWhole (Gives input)) inputs outcome)
    → AreOutcomes Gives inputs (result_at Gives inputs outcome each)
results_are Gives [] outcome each index less = absurd (omega (arith, less))
results_are Gives (x ∷ inputs) outcome each zero less = (each 0 (there x inputs)).2
results_are Gives (x ∷ inputs) outcome each (suc index) less =
    results_are Gives inputs (λ place. outcome (suc place)) (λ place within. each (suc place) (behind x inputs place within)) index (omega (arith, less))

pub results_give : {X F : Type 0} (Gives : X → Result SubmissionData F → Type 0) (inputs : List X) (outcome : ℕ → Outcome F) (each : AreOutcomes (λ input. IsReadWhole (Gives input)) inputs outcome) (index : ℕ)
    → index < length inputs → whole (result_at Gives inputs outcome each index) ≡ outcome index
results_give Gives [] outcome each index less = absurd (omega (arith, less))
results_give Gives (x ∷ inputs) outcome each zero less = sym (each 0 (there x inputs)).1
results_give Gives (x ∷ inputs) outcome each (suc index) less =
    results_give Gives inputs (λ place. outcome (suc place)) (λ place within. each (suc place) (behind x inputs place within)) index (omega (arith, less))

-- ---- inputs that say something

-- results of inputs are results of what the inputs say
results_said : {X Y F : Type 0} (Gives : Y → Result SubmissionData F → Type 0) (says : X → Y) (inputs : List X) (result : ℕ → Result SubmissionData F) → AreOutcomes (λ late. Gives (says late)) inputs result
    → AreOutcomes Gives (map says inputs) result
results_said Gives says [] result each index less = absurd (omega (arith, less))
results_said Gives says (late ∷ inputs) result each zero less = each 0 (omega arith)
results_said Gives says (late ∷ inputs) result each (suc index) less =
    results_said Gives says inputs (λ place. result (suc place)) (λ place within. each (suc place) (omega (arith, within))) index (omega (arith, less))

-- what is collected from inputs that are read as a whole is collected from what they say
pub collected_said : {X Y F : Type 0} (Gives : Y → Result SubmissionData F → Type 0) (says : X → Y) (inputs : List X) (jobs : ℕ) (last : OpData) (entries : List EntryData) (logs : List LogData) (refused : List (RefusedInput F))
    → IsCollectedFrom (λ late. IsReadWhole (Gives (says late))) inputs jobs last entries logs refused → IsCollectedWhole Gives (map says inputs) jobs last entries logs refused
collected_said {X} {Y} {F} Gives says inputs jobs last entries logs refused (outcome, outcomes, collected) =
    let result : ℕ → Result SubmissionData F = result_at (λ late. Gives (says late)) inputs outcome outcomes in
    let others : ℕ → Outcome F = λ index. whole (result index) in (
      result,
      results_said Gives says inputs result (results_are (λ late. Gives (says late)) inputs outcome outcomes),
      subst (λ (n : ℕ). IsCollectedWith others n jobs last entries logs refused) (sym (length-map inputs says))
          (with_same outcome others (length inputs) jobs last entries logs refused (results_give (λ late. Gives (says late)) inputs outcome outcomes) collected),
    )
