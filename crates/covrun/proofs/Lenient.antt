-- What a call that isn't strict collects: inputs are refused only for faults of their texts.
use Rattle.std.proofs.Common.{◌≡◌, ℕ, zero, suc, ◌<◌, List, ◌++◌, length, map, Option, Some, None, Result, Ok, Err, slice_get, refl, sym, ap, ◌∙◌, subst, arith}
use Rattle.std.proofs.lemmas.List.{map-append}
use Rattle.std.specs.List.{AllByRecursion, range_with_len}
use Rattle.std.specs.Prelude.{IsSomeAnd}
use Rattle.covbook.specs.Gather.{LogData}
use Rattle.covbook.specs.Op.{OpData, EntryData, SubmitOp}
use Rattle.covcommand.specs.declared.asked.Strictness.{Strictness}
use Rattle.covcommand.specs.declared.asked.Strictness.TheVariants.{Lenient, Strict}
use Rattle.covworkers.specs.Collect.{AreOutcomes, EndsWith, IsCollectedWith, all_places, brought, last_of, ops_in, places_of_job, refusal, refusals_of, submitted, whole}
use Rattle.covjobs.specs.Inputs.{InputData, IsOutcomeOf}
use Rattle.covworkers.specs.declared.refused.RefusedInput.{RefusedInput}
use Rattle.covdata.specs.Row.{SubmissionData}
use Rattle.covdata.specs.declared.fault.ReadFault.{ReadFault}
use Rattle.covdata.specs.declared.fault.ReadFault.TheVariants as reads
use Rattle.covrun.specs.Strict.{AreCollected, IsLenientOutcome, IsOutcomeFor, for_fault}
use Rattle.covrun.specs.declared.text_fault.TextFault.{TextFault}
use Rattle.covrun.specs.declared.text_fault.TextFault.TheVariants.{Faulty, Unclean}

-- an outcome without the texts that aren't clean
abbrev plain : Result SubmissionData TextFault → Result SubmissionData ReadFault
plain (Ok submission) = Ok submission
plain (Err (Faulty fault)) = Err fault
plain (Err (Unclean line)) = Err reads.Memory

-- the outcome isn't that of a text that isn't clean
abbrev IsPlain : Result SubmissionData TextFault → Type 0
IsPlain (Ok submission) = Unit {0}
IsPlain (Err (Faulty fault)) = Unit {0}
IsPlain (Err (Unclean line)) = ⊥

submitted_plain : (outcome : Result SubmissionData TextFault) → submitted (whole (plain outcome)) ≡ submitted (whole outcome)
submitted_plain (Ok submission) = refl
submitted_plain (Err (Faulty fault)) = refl
submitted_plain (Err (Unclean line)) = refl

refusal_plain : (index : ℕ) (outcome : Result SubmissionData TextFault) → IsPlain outcome → refusal index (whole outcome) ≡ map for_fault (refusal index (whole (plain outcome)))
refusal_plain index (Ok submission) is = refl
refusal_plain index (Err (Faulty fault)) is = refl
refusal_plain index (Err (Unclean line)) is = absurd is

plain_of : (input : InputData) (outcome : Result SubmissionData TextFault) → IsLenientOutcome input outcome → IsPlain outcome
plain_of input (Ok submission) is = tt
plain_of input (Err (Faulty fault)) is = tt
plain_of input (Err (Unclean line)) is = absurd is

outcome_of : (input : InputData) (outcome : Result SubmissionData TextFault) → IsLenientOutcome input outcome → IsOutcomeOf input (plain outcome)
outcome_of input (Ok submission) is = is
outcome_of input (Err (Faulty fault)) is = is
outcome_of input (Err (Unclean line)) is = absurd is

plain_at : (input : Option InputData) (outcome : Result SubmissionData TextFault) → IsSomeAnd input (λ i. IsLenientOutcome i outcome) → IsPlain outcome
plain_at None outcome is = absurd is
plain_at (Some input) outcome is = plain_of input outcome is

outcome_at : (input : Option InputData) (outcome : Result SubmissionData TextFault) → IsSomeAnd input (λ i. IsLenientOutcome i outcome) → IsSomeAnd input (λ i. IsOutcomeOf i (plain outcome))
outcome_at None outcome is = absurd is
outcome_at (Some input) outcome is = outcome_of input outcome is

-- the refusals are those for faults
refusals_plain : (outcome : ℕ → Result SubmissionData TextFault) (count : ℕ) → ((index : ℕ) → index < count → IsPlain (outcome index))
    → refusals_of all_places (λ index. whole (outcome index)) count ≡ map for_fault (refusals_of all_places (λ index. whole (plain (outcome index))) count)
refusals_plain outcome zero are = refl
refusals_plain outcome (suc count) are =
    let before = refusals_plain outcome count (λ index less. are index (omega (arith, less))) in
    let this = refusal_plain count (outcome count) (are count (omega arith)) in
    ap (λ (rs : List (RefusedInput TextFault)). rs ++ refusal count (whole (outcome count))) before
    ∙ ap (λ (rs : List (RefusedInput TextFault)). map for_fault (refusals_of all_places (λ index. whole (plain (outcome index))) count) ++ rs) this
    ∙ sym (map-append for_fault (refusals_of all_places (λ index. whole (plain (outcome index))) count) (refusal count (whole (plain (outcome count)))))

-- what was collected with outcomes is also collected with the same outcomes for faults alone
plainly_with : (outcome : ℕ → Result SubmissionData TextFault) (count jobs : ℕ) (last : OpData) (entries : List EntryData) (logs : List LogData) (refused : List (RefusedInput TextFault))
    → IsCollectedWith (λ index. whole (outcome index)) count jobs last entries logs refused
    → IsCollectedWith (λ index. whole (plain (outcome index))) count jobs last entries logs (refusals_of all_places (λ index. whole (plain (outcome index))) count)
plainly_with outcome count jobs last entries logs refused with =
    let same : (λ (index : ℕ). submitted (whole (plain (outcome index)))) ≡ (λ (index : ℕ). submitted (whole (outcome index))) = (λ k index. submitted_plain (outcome index) k) in
    record {
      legal = with.legal;
      lawful = with.lawful;
      merge = with.merge;
      gathered = with.gathered;
      asked = subst (λ (bring : ℕ → List SubmissionData).
          (map (λ (log : LogData). log.job) logs ≡ range_with_len 0 jobs)
          × AllByRecursion (λ (log : LogData). ops_in log.receipts ≡ map SubmitOp (brought (places_of_job jobs log.job) bring count) ++ last_of last log.job) logs)
          (sym same) with.asked;
      read = with.read;
      are_refused = refl;
      ends = subst (λ (bring : ℕ → List SubmissionData). EndsWith (brought all_places bring count) last entries) (sym same) with.ends;
    }

-- what was collected from inputs with outcomes for calls of this strictness
pub are_collected : (strictness : Strictness) (inputs : List InputData) (jobs : ℕ) (last : OpData) (entries : List EntryData) (logs : List LogData) (refused : List (RefusedInput TextFault)) (outcome : ℕ → Result SubmissionData TextFault)
    → AreOutcomes (IsOutcomeFor strictness) inputs outcome → IsCollectedWith (λ index. whole (outcome index)) (length inputs) jobs last entries logs refused
    → AreCollected strictness inputs jobs last entries logs refused
are_collected Strict inputs jobs last entries logs refused outcome are with = (outcome, are, with)
are_collected Lenient inputs jobs last entries logs refused outcome are with = (
  refusals_of all_places (λ index. whole (plain (outcome index))) (length inputs),
  with.are_refused ∙ refusals_plain outcome (length inputs) (λ index less. plain_at (slice_get inputs index) (outcome index) (are index less)),
  (
    (λ index. plain (outcome index)),
    (λ index less. outcome_at (slice_get inputs index) (outcome index) (are index less)),
    plainly_with outcome (length inputs) jobs last entries logs refused with,
  ),
)
