-- The history of the book, and the logs and refused inputs that the workers hand in, are what is collected.
use Rattle.std.proofs.Common.{◌≡◌, ◌∙◌, ℕ, ◌<◌, List, ◌++◌, length, ap, sym, subst}
use Rattle.std.specs.List.Sorted.{IsPermutation, IsNonDecreasingBy}
use Rattle.covbook.specs.Gather.{LogData, IsGathered}
use Rattle.covbook.specs.Op.{OpData, EntryData, AreLawfulOps}
use Rattle.covbook.specs.Step.{IsLegal, ops_in}
use Rattle.covworkers.specs.declared.refused.RefusedInput.{RefusedInput}
use Rattle.covworkers.specs.declared.readers.Readers.{Readers}
use Rattle.covworkers.specs.Collect.{IsCollectedFrom, IsCollectedWith}
use Rattle.covworkers.specs.Late.{chances_of}
use Rattle.covworkers.specs.Work.{Chances, WorkerData, HaveDone, FirstAsks, logs_in, refused_in}
use Rattle.covworkers.proofs.AskedLast.{logs_asked, logs_read}
use Rattle.covworkers.proofs.Gathered.{refused_is}
use Rattle.covworkers.proofs.LastEntry.{GoesOn, SameTexts, ends_with}
use Rattle.covworkers.proofs.Taken.{Outcome}
use Rattle.covworkers.proofs.Whole.{IsWhole, works_from, whole_of}

-- the last operation doesn't change which inputs are refused
same_refused : {F : Type 0} (workers after : List (WorkerData F)) (end : ℕ) (last : OpData) → FirstAsks workers after end last → refused_in workers ≡ refused_in after
same_refused {F} workers after end last asks =
    ap (λ (ws : List (WorkerData F)). refused_in ws) asks.old
    ∙ ap (λ (rs : List (RefusedInput F)). rs ++ refused_in asks.others) (sym asks.refused)
    ∙ sym (ap (λ (ws : List (WorkerData F)). refused_in ws) asks.new)

-- what is collected with the outcomes that the workers' inputs had
pub collected_of : {X F : Type 0} (chances : Chances X F) (inputs : List X) (jobs end : ℕ) (last : OpData) (workers after : List (WorkerData F)) (entries : List EntryData) (refused : List (RefusedInput F))
    (whole : IsWhole chances inputs jobs workers) → 0 < jobs → FirstAsks workers after end last
    → IsPermutation (refused_in after) refused → IsNonDecreasingBy (λ (r : RefusedInput F). r.index) refused → IsLegal entries → AreLawfulOps (ops_in entries) → IsGathered entries (logs_in after) → length entries ≡ end
    → GoesOn → SameTexts → IsCollectedWith whole.outcome (length inputs) jobs last entries (logs_in after) refused
collected_of {X} {F} chances inputs jobs end last workers after entries refused whole some asks same sorted legal lawful gathered long goes texts =
    let count = length inputs in
    let asked = logs_asked whole.outcome count jobs end last workers after some whole.tell asks in
    let own : IsPermutation (refused_in workers) refused = subst (λ (rs : List (RefusedInput F)). IsPermutation rs refused) (sym (same_refused workers after end last asks)) same in
    record {
      legal = legal;
      lawful = lawful;
      merge = gathered.merge;
      gathered = gathered;
      asked = asked;
      read = logs_read whole.outcome count jobs end last workers after some whole.tell asks;
      are_refused = refused_is jobs count whole.outcome workers refused some whole.tell own sorted;
      ends = ends_with whole.outcome count jobs end last workers after entries some asks legal gathered.merge asked long goes texts;
    }

pub all_collected : {X F : Type 0} (MayGive : X → Outcome F → Type 0) (MayFail : X → Type 0) (readers : Readers) (inputs : List X) (jobs end : ℕ) (last : OpData) (workers after : List (WorkerData F)) (entries : List EntryData) (logs : List LogData) (refused : List (RefusedInput F)) → 0 < jobs
    → HaveDone (chances_of MayGive MayFail) (works_from inputs jobs readers 0 jobs) workers → FirstAsks workers after end last → logs ≡ logs_in after
    → IsPermutation (refused_in after) refused → IsNonDecreasingBy (λ (r : RefusedInput F). r.index) refused → IsLegal entries → AreLawfulOps (ops_in entries) → IsGathered entries logs → length entries ≡ end
    → GoesOn → SameTexts → IsCollectedFrom MayGive inputs jobs last entries logs refused
all_collected MayGive MayFail readers inputs jobs end last workers after entries logs refused some done asks are same sorted legal lawful gathered long goes texts =
    let whole = whole_of (chances_of MayGive MayFail) readers inputs jobs workers some done in
    let own : IsGathered entries (logs_in after) = subst (λ (ls : List LogData). IsGathered entries ls) are gathered in (
      whole.outcome,
      whole.outcomes,
      subst (λ (ls : List LogData). IsCollectedWith whole.outcome (length inputs) jobs last entries ls refused) (sym are)
          (collected_of (chances_of MayGive MayFail) inputs jobs end last workers after entries refused whole some asks same sorted legal lawful own long goes texts),
    )
