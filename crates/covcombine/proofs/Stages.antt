-- One piece of an open tracefile, and how collecting takes it.
use Rattle.std.proofs.Common.{◌≡◌, inl, inr, ℕ, ◌<◌, Bool, List, [], ◌∷◌, ◌++◌, map, Option, Some, Result, Ok, Err, refl, sym, ap, subst, ◌∙◌}
use Rattle.std.proofs.lemmas.List.{append-nil}
use Rattle.std.specs.List.{flat_map}
use Rattle.std.specs.Prelude.{IfErr}
use Rattle.covcommand.specs.declared.asked.Strictness.{Strictness}
use Rattle.covdata.specs.Row.{SectData, SubmissionData}
use Rattle.covdata.specs.declared.fault.ReadFault.{ReadFault}
use Rattle.covlarge.specs.State.{IsNextPiece}
use Rattle.covlarge.specs.Summary.{SummaryData}
use Rattle.covlarge.specs.declared.fault.PieceFault.{PieceFault}
use Rattle.covlarge.specs.declared.fault.PieceFault.TheVariants as pieces
use Rattle.covlarge.specs.declared.large_tracefile.NextPiece.{NextPiece}
use Rattle.covlarge.specs.declared.large_tracefile.NextPiece.TheVariants as parts
use Rattle.covpaths.specs.Names.{NamesData, marked, named, used_after}
use Rattle.covpaths.specs.Paths.{RuleData, first_mapped}
use Rattle.covworkers.specs.Collect.{OutcomeData}
use Rattle.covworkers.specs.Late.{IsNextPart}
use Rattle.covworkers.specs.Work.{in_front}
use Rattle.covworkers.specs.declared.late_fault.LateFault.{LateFault}
use Rattle.covworkers.specs.declared.part.Part.{Part}
use Rattle.covworld.specs.Folder.{FolderData}
use Rattle.covcombine.specs.Notes.{IsOfFile, note_of}
use Rattle.covcombine.specs.Steps.{EndsWith, IsLater, IsNextStage, IsOpenedFor, MayGiveFrom, MayGiveLater, MayGiveOpened, counts_with, most_parts, note_after, note_at, of_piece, of_stop, unknown_told, used_with}
use Rattle.covcombine.specs.declared.note.Counts.{Counts}
use Rattle.covcombine.specs.declared.note.Note.{Note}
use Rattle.covcombine.specs.declared.opened.Opened.{Opened}
use Rattle.covcombine.specs.declared.opened.Stage.{Stage}
use Rattle.covcombine.specs.declared.opened.Stage.TheVariants as stages
use Rattle.covcombine.specs.declared.stop.Stop.{Stop}
use Rattle.covcombine.specs.declared.stop.Stop.TheVariants as stops
use Rattle.covcombine.proofs.Counting.{counts_on}

-- ---- the rules that are applied

-- rules are marked section by section, so first for some sections and then for the others
used_on : (rules : List RuleData) (used : List Bool) (before after : List SectData) → used_after rules (used_after rules used before) after ≡ used_after rules used (before ++ after)
used_on rules used [] after = refl
used_on rules used (s ∷ before) after = used_on rules (marked used (first_mapped rules s.file)) before after

-- what is marked for a piece's sections is marked for its submission
pub used_one : (rules : List RuleData) (used : List Bool) (s : SubmissionData) → used_after rules used s.sects ≡ used_with rules used (s ∷ [])
used_one rules used s = ap (λ (ss : List SectData). used_after rules used ss) (sym (append-nil s.sects))

-- ---- a piece

module _ {S : Type 0} (left : S → Option (List ℕ)) (failed_reads : S → ℕ) (new : NamesData) (opened : Opened S) where
  -- the note of a tracefile is the same if a submission was counted before
  note_on : (submission : SubmissionData) (next : Opened S) → next.first ≡ opened.first → next.counts ≡ counts_with opened.counts (submission ∷ [])
      → next.used ≡ used_after new.rules opened.used submission.sects
      → (read : List SubmissionData) (end : Result (Option SummaryData) ReadFault) → note_after new.rules next read end ≡ note_after new.rules opened (submission ∷ read) end
  note_on submission next same_first same_counts same_used read end =
      ap (λ (f : List ℕ). note_at f (counts_with next.counts read) (used_with new.rules next.used read) end) same_first
      ∙ ap (λ (c : Counts). note_at opened.first (counts_with c read) (used_with new.rules next.used read) end) same_counts
      ∙ ap (λ (c : Counts). note_at opened.first c (used_with new.rules next.used read) end) (counts_on opened.counts submission read)
      ∙ ap (λ (u : List Bool). note_at opened.first (counts_with opened.counts (submission ∷ read)) (used_with new.rules u read) end) same_used
      ∙ ap (λ (u : List Bool). note_at opened.first (counts_with opened.counts (submission ∷ read)) u end)
      (used_on new.rules opened.used submission.sects (flat_map (λ (s : SubmissionData). s.sects) read))

  -- a piece, and the rest of the tracefile
  more_gives : (submission : SubmissionData) (next : Opened S) → next.first ≡ opened.first → next.counts ≡ counts_with opened.counts (submission ∷ [])
      → next.used ≡ used_after new.rules opened.used submission.sects
      → IsNextPiece left failed_reads opened.rest (Ok (parts.More submission next.rest)) → IsNextStage left failed_reads new opened (named new submission) (stages.Reading next)
  more_gives submission next same_first same_counts same_used (fewer, fails, gives) = record { later = tt; fewer = fewer; gives = go }
    where
      go : (outcome : OutcomeData Note) → MayGiveOpened left failed_reads new next outcome → MayGiveOpened left failed_reads new opened (in_front (named new submission) outcome)
      go outcome (inl (fault, may_fail)) = inl (fault, fails may_fail)
      go outcome (inr (read, end, may_give, is)) = inr (
        submission ∷ read,
        end,
        gives read end may_give,
        ap (λ (o : OutcomeData Note). in_front (named new submission) o) is
            ∙ ap (λ (n : Note). record { read = map (named new) (submission ∷ read); fault = Some n }) (note_on submission next same_first same_counts same_used read end),
      )

  pub more_stage : (submission given : SubmissionData) (next : Opened S) (piece : NextPiece S) → piece ≡ parts.More submission next.rest → given ≡ named new submission → next.first ≡ opened.first
      → next.counts ≡ counts_with opened.counts (submission ∷ []) → next.used ≡ used_after new.rules opened.used submission.sects
      → IsNextPiece left failed_reads opened.rest (Ok piece) → IsNextStage left failed_reads new opened given (stages.Reading next)
  more_stage submission given next piece is same same_first same_counts same_used may =
      subst (λ (s : SubmissionData). IsNextStage left failed_reads new opened s (stages.Reading next)) (sym same)
      (more_gives submission next same_first same_counts same_used (subst (λ (p : NextPiece S). IsNextPiece left failed_reads opened.rest (Ok p)) is may))

  -- the last piece, and the note
  last_gives : (submission : SubmissionData) (told : Option SummaryData) (note : Note) → note ≡ note_after new.rules opened (submission ∷ []) (Ok told)
      → IsNextPiece left failed_reads opened.rest (Ok (parts.Last submission told)) → IsNextStage left failed_reads new opened (named new submission) (stages.Ended note)
  last_gives submission told note same (some, may_give) = record {
    later = tt;
    fewer = some;
    gives = λ outcome is. inr (
      submission ∷ [],
      Ok told,
      may_give,
      ap (λ (o : OutcomeData Note). in_front (named new submission) o) is ∙ ap (λ (n : Note). record { read = map (named new) (submission ∷ []); fault = Some n }) same,
    );
  }

  pub last_stage : (submission given : SubmissionData) (told : Option SummaryData) (note : Note) (piece : NextPiece S) → piece ≡ parts.Last submission told → given ≡ named new submission
      → note ≡ note_after new.rules opened (submission ∷ []) (Ok told)
      → IsNextPiece left failed_reads opened.rest (Ok piece) → IsNextStage left failed_reads new opened given (stages.Ended note)
  last_stage submission given told note piece is same same_note may =
      subst (λ (s : SubmissionData). IsNextStage left failed_reads new opened s (stages.Ended note)) (sym same)
      (last_gives submission told note same_note (subst (λ (p : NextPiece S). IsNextPiece left failed_reads opened.rest (Ok p)) is may))

  -- the note of a tracefile, from what it was made of
  pub same_note : (looked : List ℕ) (sum : Counts) (unknown : ℕ) (used : List Bool) (submission : SubmissionData) (told : Option SummaryData) (note : Note) → note ≡ note_of looked sum unknown used
      → looked ≡ opened.first → sum ≡ counts_with opened.counts (submission ∷ []) → unknown ≡ unknown_told told → used ≡ used_after new.rules opened.used submission.sects
      → note ≡ note_after new.rules opened (submission ∷ []) (Ok told)
  same_note looked sum unknown used submission told note is same_first same_counts same_unknown same_used =
      is ∙ ap (λ (f : List ℕ). note_of f sum unknown used) same_first ∙ ap (λ (c : Counts). note_of opened.first c unknown used) same_counts
      ∙ ap (λ (n : ℕ). note_of opened.first (counts_with opened.counts (submission ∷ [])) n used) same_unknown
      ∙ ap (λ (u : List Bool). note_of opened.first (counts_with opened.counts (submission ∷ [])) (unknown_told told) u) (same_used ∙ used_one new.rules opened.used submission)

  -- no piece
  pub no_stage : (fault : PieceFault) → IsNextPiece left failed_reads opened.rest (Err fault) → EndsWith (MayGiveOpened left failed_reads new opened) (of_piece fault)
  no_stage (pieces.Refused fault) may_give = inr ([], Err fault, may_give, refl)
  no_stage pieces.Unreadable may_fail = inl (refl, may_fail)
  no_stage pieces.Memory none = tt

-- ---- as collecting takes it

module _ {S : Type 0} (left : S → Option (List ℕ)) (failed_reads : S → ℕ) (folder : FolderData) (new : NamesData) (strictness : Strictness) (name : List ℕ) where
  later_gives : (stage : Stage S) (outcome : OutcomeData Note) → IsLater stage → MayGiveFrom left failed_reads folder new strictness name stage outcome → MayGiveLater left failed_reads new stage outcome
  later_gives stages.Unopened outcome later may_give = absurd later
  later_gives (stages.Reading opened) outcome later may_give = may_give
  later_gives (stages.Ended note) outcome later may_give = may_give

  -- a file that is open already
  pub opened_before : (opened : Opened S) → IsOpenedFor left failed_reads folder new strictness name (stages.Reading opened) opened
  opened_before opened = record { gives = λ outcome may_give. may_give; most = refl }

  -- a file that is opened now
  pub opens_now : {A : Type 0} (result : Result A Stop) → IfErr result (EndsWith (IsOfFile folder new strictness name))
      → IfErr result (EndsWith (MayGiveFrom left failed_reads folder new strictness name stages.Unopened))
  opens_now (Ok opened) ends = tt
  opens_now (Err (stops.Ended note)) ends = ends
  opens_now (Err stops.Memory) ends = tt

  -- a file that is read to its end has only its note
  pub ended_before : (note : Note) → EndsWith (MayGiveFrom left failed_reads folder new strictness name (stages.Ended note)) (stops.Ended note)
  ended_before note = refl

  -- what an open tracefile ends with, its file ends with
  pub ends_opened : (stage : Stage S) (opened : Opened S) (stop : Stop) → IsOpenedFor left failed_reads folder new strictness name stage opened
      → EndsWith (MayGiveOpened left failed_reads new opened) stop → EndsWith (MayGiveFrom left failed_reads folder new strictness name stage) stop
  ends_opened stage opened (stops.Ended note) is ends = is.gives (record { read = []; fault = Some note }) ends
  ends_opened stage opened stops.Memory is ends = tt

  -- the next piece as the input's next part
  pub next_part : (stage next : Stage S) (opened : Opened S) (submission : SubmissionData) → IsOpenedFor left failed_reads folder new strictness name stage opened
      → IsNextStage left failed_reads new opened submission next
      → (most_parts next < most_parts stage) × (⊥ → ⊥)
      × ((outcome : OutcomeData Note) → MayGiveFrom left failed_reads folder new strictness name next outcome → MayGiveFrom left failed_reads folder new strictness name stage (in_front submission outcome))
  next_part stage next opened submission is piece = (
    subst (λ (n : ℕ). most_parts next < n) is.most piece.fewer,
    λ none. none,
    λ outcome may_give. is.gives (in_front submission outcome) (piece.gives outcome (later_gives next outcome piece.later may_give)),
  )

-- why there is no next part
pub no_part : {X A : Type 0} (result : Result (Part X A) (LateFault Note)) (GivesAs : X → OutcomeData Note → Type 0) (most : X → ℕ) (input : X) (stop : Stop) (found : LateFault Note)
    → result ≡ Err found → found ≡ of_stop stop → EndsWith (GivesAs input) stop → IsNextPart GivesAs (λ one. ⊥) most input result
no_part {X} {A} result GivesAs most input stop found is same ends =
    subst (λ (r : Result (Part X A) (LateFault Note)). IsNextPart GivesAs (λ one. ⊥) most input r) (sym (is ∙ ap (λ (f : LateFault Note). Err f) same)) (go stop ends)
  where
    go : (stop : Stop) → EndsWith (GivesAs input) stop → IsNextPart {A = A} GivesAs (λ one. ⊥) most input (Err (of_stop stop))
    go (stops.Ended note) ends = ends
    go stops.Memory ends = tt
