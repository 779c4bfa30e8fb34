-- A file is opened, and its first bytes are read: what the open tracefile gives, the file may give.
use Rattle.std.proofs.Common.{◌≡◌, inl, inr, ℕ, suc, ◌≤◌, Bool, List, [], ◌++◌, length, map, Option, Some, None, option_map, Result, Ok, Err, refl, sym, ap, subst, ◌∙◌, arith}
use Rattle.std.proofs.KnownBytes.{Consumes-trans}
use Rattle.std.specs.Io.KnownBytes.{Consumes, Keeps}
use Rattle.covcommand.specs.declared.asked.Strictness.{Strictness}
use Rattle.covcommand.specs.declared.asked.Strictness.TheVariants.{Lenient, Strict}
use Rattle.covdata.specs.Row.{SubmissionData}
use Rattle.covdata.specs.declared.fault.ReadFault.{ReadFault}
use Rattle.covdata.specs.declared.version.LcovVersion.TheVariants.{Two}
use Rattle.covlarge.specs.Large.{IsAll, IsReadAs, MayBeReadAs, max_pieces}
use Rattle.covlarge.specs.State.{MayFailFrom, MayGive}
use Rattle.covlarge.specs.Summary.{SummaryData}
use Rattle.covpaths.specs.Names.{NamesData, named, none_used}
use Rattle.covpaths.specs.Paths.{RuleData}
use Rattle.covstream.specs.Blocks.{HasReadAtMost, IsReadFault}
use Rattle.covstream.specs.declared.fault.BlockFault.{BlockFault}
use Rattle.covstream.specs.declared.fault.BlockFault.TheVariants as blocks
use Rattle.covstream.specs.declared.stream.Source.{Ghosts as SourceOf}
use Rattle.covworkers.specs.Collect.{OutcomeData}
use Rattle.covworld.proofs.Folders.{text_at_most}
use Rattle.covworld.specs.Folder.{folder_data}
use Rattle.covworld.specs.declared.folder.Folder.{Ghosts as FolderOf}
use Rattle.covcombine.specs.Notes.{AreUnknown, IsNoted, IsOfFile, IsOfTracefile, IsUnlessStrange, note_of, used_in}
use Rattle.covcombine.specs.Steps.{EndsWith, IsOpenedFor, IsToldFor, MayGiveOpened, counts_with, no_counts, note_after, note_at, of_block, unknown_told, used_with}
use Rattle.covcombine.specs.Strangers.{first_bytes, strange}
use Rattle.covcombine.specs.declared.note.Counts.{Counts}
use Rattle.covcombine.specs.declared.note.Note.{Note}
use Rattle.covcombine.specs.declared.note.Note.TheVariants as notes
use Rattle.covcombine.specs.declared.opened.Opened.{Opened}
use Rattle.covcombine.specs.declared.opened.Stage.TheVariants.{Unopened}
use Rattle.covcombine.specs.declared.stop.Stop.TheVariants as stops
use Rattle.covcombine.specs.declared.stranger.Stranger.{Stranger}
use Rattle.covcombine.proofs.Counting.{none_yet}

-- the first bytes and those that follow are the bytes of the file
pub all_begun : (held left after : Option (List ℕ)) (first text : List ℕ) → Keeps held left → Consumes left after first
    → IsAll (option_map (λ (more : List ℕ). first ++ more) after) text → IsAll held text
all_begun None left after first text keeps took all = tt
all_begun (Some bytes) None after first text keeps took all = absurd keeps
all_begun (Some bytes) (Some now) None first text keeps took all = absurd took
all_begun (Some bytes) (Some now) (Some rest) first text keeps took all = all ∙ sym took ∙ keeps

-- ---- notes

unknown : (strictness : Strictness) (text : List ℕ) (read : List SubmissionData) (told : Option SummaryData) → IsToldFor strictness (Ok told) → IsReadAs Two text read (Ok told)
    → AreUnknown strictness text (unknown_told told)
unknown Lenient text read None told is = refl
unknown Lenient text read (Some held) told is = absurd told
unknown Strict text read None told is = absurd told
unknown Strict text read (Some held) told is = (is.1.lines, is.1.those, is.1.skipped)

-- the note of all submissions of a text is the text's
noted : (strictness : Strictness) (rules : List RuleData) (first text : List ℕ) (read : List SubmissionData) (end : Result (Option SummaryData) ReadFault) → IsToldFor strictness end
    → IsReadAs Two text read end → IsNoted strictness rules first text read end (note_at first (counts_with no_counts read) (used_in rules read) end)
noted strictness rules first text read (Ok told) is_told is =
    (unknown_told told, unknown strictness text read told is_told is, ap (λ (c : Counts). note_of first c (unknown_told told) (used_in rules read)) (none_yet read))
noted strictness rules first text read (Err fault) is_told is = refl

-- ---- an open file

module _ {F File : Type 0} (of : FolderOf F File) (file : SourceOf File) (folder : F) (new : NamesData) (strictness : Strictness) (name : List ℕ) (source after : File) (first : List ℕ)
    (may : of.may_open folder name source) (keeps : Keeps (of.holds folder name) (file.left source)) (none : file.failed_reads source ≡ 0) where
  -- a read of the first bytes failed
  first_failed : (bytes : List ℕ) → Consumes (file.left source) (file.left after) bytes → file.failed_reads after ≡ suc (file.failed_reads source)
      → (folder_data of file folder).MayFail name
  first_failed bytes took failed =
      inr (record { opened = source; may_open = may; keeps = keeps; after = after; bytes = bytes; given = took; failed = omega (arith, failed) })

  -- so the file ends with its note, unless memory ran out
  pub first_ends : (fault : BlockFault) → IsReadFault (file.left source) (file.left after) (file.failed_reads source) (file.failed_reads after) fault
      → EndsWith (IsOfFile (folder_data of file folder) new strictness name) (of_block fault)
  first_ends blocks.Unreadable (bytes, given, failed) = inl (refl, first_failed bytes given failed)
  first_ends blocks.Memory same = tt

  module _ (took : HasReadAtMost first_bytes (file.left source) (file.left after) first) (few : length first ≤ first_bytes) where
    -- a later read may fail
    later_failed : file.failed_reads after ≡ 0 → MayFailFrom file.left file.failed_reads after → (folder_data of file folder).MayFail name
    later_failed still (later, bytes, given, failed) = inr (record {
      opened = source;
      may_open = may;
      keeps = keeps;
      after = later;
      bytes = first ++ bytes;
      given = Consumes-trans (file.left source) (file.left after) (file.left later) first bytes took.0 given;
      failed = omega (arith, failed, none, still);
    })

    -- the file is of another kind
    pub strange_file : (kind : Stranger) → strange first ≡ Some kind → EndsWith (IsOfFile (folder_data of file folder) new strictness name) (stops.Ended (notes.Strange kind))
    strange_file kind is = inr (
      first,
      text_at_most first_bytes (of.holds folder name) (file.left source) (file.left after) first keeps took few,
      subst (λ (k : Option Stranger). IsUnlessStrange k new strictness (of.holds folder name) first (record { read = []; fault = Some (notes.Strange kind) })) (sym is) refl,
    )

    -- the file may be a tracefile, and is opened
    pub opened_now : (begun : List ℕ) → begun ≡ first → (opened : Opened File) → strange first ≡ None → opened.first ≡ first → opened.counts ≡ no_counts
        → opened.used ≡ none_used new.rules
        → ((read : List SubmissionData) (end : Result (Option SummaryData) ReadFault) → MayGive file.left opened.rest read end
        → MayBeReadAs Two (option_map (λ (more : List ℕ). begun ++ more) (file.left after)) read end)
        → ((read : List SubmissionData) (end : Result (Option SummaryData) ReadFault) → MayGive file.left opened.rest read end → IsToldFor strictness end)
        → opened.rest.source ≡ after → opened.rest.left ≡ max_pieces → file.failed_reads after ≡ 0
        → IsOpenedFor file.left file.failed_reads (folder_data of file folder) new strictness name Unopened opened
    opened_now begun same_begun opened not_strange same_first same_counts same_used whole told same most still = record { gives = gives; most = most }
      where
        of_tracefile : (outcome : OutcomeData Note) (read : List SubmissionData) (end : Result (Option SummaryData) ReadFault) → MayGive file.left opened.rest read end
            → outcome ≡ record { read = map (named new) read; fault = Some (note_at first (counts_with no_counts read) (used_in new.rules read) end) } → IsOfTracefile new strictness (of.holds folder name) first outcome
        of_tracefile outcome read end may_give is =
            let (text, all, read_as) =
            subst (λ (f : List ℕ). MayBeReadAs Two (option_map (λ (more : List ℕ). f ++ more) (file.left after)) read end) same_begun (whole read end may_give) in (
              text,
              read,
              end,
              note_at first (counts_with no_counts read) (used_in new.rules read) end,
              all_begun (of.holds folder name) (file.left source) (file.left after) first text keeps took.0 all,
              read_as,
              noted strictness new.rules first text read end (told read end may_give) read_as,
              is,
            )

        -- the note of what the open tracefile gives
        begun_note : (read : List SubmissionData) (end : Result (Option SummaryData) ReadFault)
            → note_after new.rules opened read end ≡ note_at first (counts_with no_counts read) (used_in new.rules read) end
        begun_note read end =
            ap (λ (f : List ℕ). note_at f (counts_with opened.counts read) (used_with new.rules opened.used read) end) same_first
            ∙ ap (λ (c : Counts). note_at first (counts_with c read) (used_with new.rules opened.used read) end) same_counts
            ∙ ap (λ (u : List Bool). note_at first (counts_with no_counts read) (used_with new.rules u read) end) same_used

        gives : (outcome : OutcomeData Note) → MayGiveOpened file.left file.failed_reads new opened outcome → IsOfFile (folder_data of file folder) new strictness name outcome
        gives outcome (inl (fault, fails)) = inl (fault, later_failed still (subst (λ (s : File). MayFailFrom file.left file.failed_reads s) same fails))
        gives outcome (inr (read, end, may_give, is)) = inr (
          first,
          text_at_most first_bytes (of.holds folder name) (file.left source) (file.left after) first keeps took few,
          subst (λ (k : Option Stranger). IsUnlessStrange k new strictness (of.holds folder name) first outcome) (sym not_strange)
              (of_tracefile outcome read end may_give (is ∙ ap (λ (n : Note). record { read = map (named new) read; fault = Some n }) (begun_note read end))),
        )
