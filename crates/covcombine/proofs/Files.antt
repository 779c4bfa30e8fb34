-- What is collected of the inputs is collected of the files of their names.
use Rattle.std.proofs.Common.{◌≡◌, ℕ, zero, suc, ◌≤◌, List, [], ◌∷◌, ◌++◌, length, map, Option, sym, ap, ◌∙◌, subst, arith}
use Rattle.std.proofs.lemmas.List.{length-map}
use Rattle.std.specs.List.{AllByRecursion}
use Rattle.covbook.specs.Op.{EntryData}
use Rattle.covbook.specs.Step.{max_entries, next_entry}
use Rattle.covcommand.specs.declared.asked.Strictness.{Strictness}
use Rattle.covpaths.specs.Names.{NamesData}
use Rattle.covworkers.specs.Collect.{AreOutcomes, IsCollectedWith, OutcomeData, all_places, submissions_of}
use Rattle.covworkers.specs.Late.{FillHistory, IsCollectedSoFar, IsFirstUnread, IsIntoBookFault, MayCome}
use Rattle.covworkers.specs.declared.book_fault.IntoBookFault.{IntoBookFault}
use Rattle.covworkers.specs.declared.book_fault.IntoBookFault.TheVariants as into_book
use Rattle.covworkers.specs.declared.collect_fault.CollectFault.{CollectFault}
use Rattle.covworkers.specs.declared.collect_fault.CollectFault.TheVariants as collects
use Rattle.covworkers.specs.declared.refused.RefusedInput.{RefusedInput}
use Rattle.covworld.specs.Folder.{FolderData}
use Rattle.covcombine.specs.Notes.{IsOfFile}
use Rattle.covcombine.specs.Steps.{MayGiveFrom}
use Rattle.covcombine.specs.declared.note.Note.{Note}
use Rattle.covcombine.specs.declared.opened.Stage.{Stage}
use Rattle.covcombine.specs.declared.opened.Stage.TheVariants.{Unopened}

-- how the parts of an input are seen
pub record InputView (X Folder S : Type 0) : Type 0 where
  pub own : X → Folder
  pub name : X → List ℕ
  pub new : X → NamesData
  pub strictness : X → Strictness
  pub stage : X → Stage S

-- all inputs are of this folder, these new names and this strictness, and none is opened
abbrev pub AreOwn : {X Folder S : Type 0} → InputView X Folder S → Folder → NamesData → Strictness → List X → Type 0
AreOwn view at new strictness inputs =
    AllByRecursion (λ one. (view.own one ≡ at) × (view.new one ≡ new) × (view.strictness one ≡ strictness) × (view.stage one ≡ Unopened)) inputs

abbrev pub GivesIn : {X Folder S : Type 0} → InputView X Folder S → (of : Folder → FolderData) → (left : S → Option (List ℕ)) → (failed_reads : S → ℕ) → X → OutcomeData Note → Type 0
GivesIn view of left failed_reads one = MayGiveFrom left failed_reads (of (view.own one)) (view.new one) (view.strictness one) (view.name one) (view.stage one)

no_first : {X : Type 0} (MayGive : X → OutcomeData Note → Type 0) (inputs : List X) (index : ℕ) → IsFirstUnread MayGive (λ one. ⊥) inputs index → ⊥
no_first MayGive [] index (fails, read) = fails
no_first MayGive (one ∷ inputs) zero (fails, read) = fails
no_first MayGive (one ∷ inputs) (suc index) unread = no_first MayGive inputs index (unread.0, unread.1.1)

module _ {X Folder S : Type 0} (view : InputView X Folder S) (at : Folder) (new : NamesData) (strictness : Strictness) (of : Folder → FolderData) (left : S → Option (List ℕ)) (failed_reads : S → ℕ) where
  -- what an input gives that isn't opened is what comes of its file
  of_file : (one : X) (outcome : OutcomeData Note) → (view.own one ≡ at) × (view.new one ≡ new) × (view.strictness one ≡ strictness) × (view.stage one ≡ Unopened)
      → GivesIn view of left failed_reads one outcome → IsOfFile (of at) new strictness (view.name one) outcome
  of_file one outcome (same_folder, same_new, same_strictness, unopened) gives =
      subst (λ (f : Folder). IsOfFile (of f) new strictness (view.name one) outcome) same_folder
      (subst (λ (n : NamesData). IsOfFile (of (view.own one)) n strictness (view.name one) outcome) same_new
      (subst (λ (s : Strictness). IsOfFile (of (view.own one)) (view.new one) s (view.name one) outcome) same_strictness
      (subst (λ (s : Stage S). MayGiveFrom left failed_reads (of (view.own one)) (view.new one) (view.strictness one) (view.name one) s outcome) unopened gives)))

  outcomes_of : (inputs : List X) (outcome : ℕ → OutcomeData Note) → AreOwn view at new strictness inputs → AreOutcomes (GivesIn view of left failed_reads) inputs outcome
      → AreOutcomes (IsOfFile (of at) new strictness) (map view.name inputs) outcome
  outcomes_of [] outcome own are index less = absurd (omega (arith, less))
  outcomes_of (one ∷ inputs) outcome own are zero less = of_file one (outcome 0) own.0 (are 0 (omega arith))
  outcomes_of (one ∷ inputs) outcome own are (suc index) less =
      outcomes_of inputs (λ place. outcome (suc place)) own.1 (λ place within. are (suc place) (omega (arith, within))) index (omega (arith, less))

  -- the inputs' history and notes are those of the files
  pub collected_of : (inputs : List X) (names : List (List ℕ)) (jobs : ℕ) (entries : List EntryData) (refused : List (RefusedInput Note)) → map view.name inputs ≡ names → AreOwn view at new strictness inputs
      → IsCollectedSoFar (GivesIn view of left failed_reads) inputs jobs entries refused → IsCollectedSoFar (IsOfFile (of at) new strictness) names jobs entries refused
  collected_of inputs names jobs entries refused named own (outcome, are, with) =
      let many : length inputs ≡ length names = sym (length-map inputs view.name) ∙ ap length named in (
        outcome,
        subst (λ (ns : List (List ℕ)). AreOutcomes (IsOfFile (of at) new strictness) ns outcome) named (outcomes_of inputs outcome own are),
        λ last text.
            let (logs, collected) = with last text in
            (logs, subst (λ (n : ℕ). IsCollectedWith outcome n jobs last (entries ++ next_entry entries 0 last ∷ []) logs refused) many collected),
      )

  -- inputs that fill the history are files that fill it
  filled : (inputs : List X) (names : List (List ℕ)) → map view.name inputs ≡ names → AreOwn view at new strictness inputs → FillHistory (GivesIn view of left failed_reads) inputs
      → FillHistory (IsOfFile (of at) new strictness) names
  filled inputs names named own (outcome, are, many) =
      let same : length inputs ≡ length names = sym (length-map inputs view.name) ∙ ap length named in (
        outcome,
        subst (λ (ns : List (List ℕ)). AreOutcomes (IsOfFile (of at) new strictness) ns outcome) named (outcomes_of inputs outcome own are),
        subst (λ (n : ℕ). max_entries ≤ length (submissions_of all_places outcome n)) same many,
      )

  -- a fault of collecting the inputs is one of collecting the files
  of_inputs : (inputs : List X) (names : List (List ℕ)) (fault : CollectFault) → map view.name inputs ≡ names → AreOwn view at new strictness inputs
      → MayCome (FillHistory (GivesIn view of left failed_reads) inputs) fault → MayCome (FillHistory (IsOfFile (of at) new strictness) names) fault
  of_inputs inputs names collects.BadJobs named own may = tt
  of_inputs inputs names collects.Full named own may = filled inputs names named own may
  of_inputs inputs names collects.Memory named own may = tt
  of_inputs inputs names (collects.Gather fault) named own may = absurd may
  of_inputs inputs names collects.NotLast named own may = absurd may

  module _ (inputs : List X) (found : IntoBookFault) (may : IsIntoBookFault (GivesIn view of left failed_reads) (λ one. ⊥) inputs found) where
    told : (fault : CollectFault) → found ≡ into_book.Collect fault → MayCome (FillHistory (GivesIn view of left failed_reads) inputs) fault
    told fault is = subst (λ (f : IntoBookFault). IsIntoBookFault (GivesIn view of left failed_reads) (λ one. ⊥) inputs f) is may

    pub may_come : (names : List (List ℕ)) (fault : CollectFault) → found ≡ into_book.Collect fault → map view.name inputs ≡ names → AreOwn view at new strictness inputs
        → MayCome (FillHistory (IsOfFile (of at) new strictness) names) fault
    may_come names fault is named own = of_inputs inputs names fault named own (told fault is)

    -- no input turns out to be unreadable
    pub none_unread : (index : ℕ) → found ≡ into_book.Unread index → ⊥
    none_unread index is =
        no_first (GivesIn view of left failed_reads) inputs index (subst (λ (f : IntoBookFault). IsIntoBookFault (GivesIn view of left failed_reads) (λ one. ⊥) inputs f) is may)
