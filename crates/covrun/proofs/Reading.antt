-- The files' texts: which texts the inputs have, and what they are taken as.
use Rattle.std.proofs.Common.{◌≡◌, ℕ, zero, suc, ◌≤◌, List, [], ◌∷◌, ◌++◌, length, take, map, Option, Some, None, slice_get, refl, sym, ap, ◌∙◌, subst, arith}
use Rattle.std.proofs.lemmas.List.{length-map, length-take}
use Rattle.std.specs.List.{AllByRecursion, zip}
use Rattle.covread.specs.Outcome.{max_bytes}
use Rattle.covcommand.specs.declared.asked.Strictness.{Strictness}
use Rattle.covbook.specs.Gather.{LogData}
use Rattle.covbook.specs.Op.{OpData, EntryData}
use Rattle.covbook.specs.Step.{max_entries}
use Rattle.covworkers.specs.declared.refused.RefusedInput.{RefusedInput}
use Rattle.covworkers.proofs.ReadWhole.{collected_said}
use Rattle.covworkers.specs.Collect.{AreOutcomes, IsCollectedWith, OutcomeData, all_places, submissions_of}
use Rattle.covworkers.specs.Late.{FillHistory, IsFirstUnread, IsIntoBookFault, MayCome, MayComeAtAll}
use Rattle.covworkers.specs.declared.book_fault.IntoBookFault.{IntoBookFault}
use Rattle.covworkers.specs.declared.book_fault.IntoBookFault.TheVariants as into_book
use Rattle.covworkers.specs.declared.collect_fault.CollectFault.{CollectFault}
use Rattle.covworkers.specs.declared.collect_fault.CollectFault.TheVariants as collects
use Rattle.covlarge.specs.Large.{IsAll}
use Rattle.covlarge.specs.StateData.{StateData}
use Rattle.covrun.proofs.Lenient.{are_collected}
use Rattle.covrun.specs.Call.{AreCollectedIn, AreTextsIn, IsTakenIn, IsUnreadable}
use Rattle.covrun.specs.Ending.{name_at}
use Rattle.covrun.specs.Files.{MayFailAs, MayTake}
use Rattle.covworld.specs.Folder.{AreTextsOf, FolderData, IsTextAtMost, IsTextOf}
use Rattle.covrun.specs.Strict.{IsOutcomeFor}
use Rattle.covrun.specs.Work.{input_of}
use Rattle.covrun.specs.declared.text_fault.TextFault.{TextFault}
use Rattle.covrun.specs.declared.work.FileFormat.{FileFormat}
use Rattle.covrun.specs.declared.work.FileFormat.TheVariants.{Tracefile, LargeTracefile, GcovOutput}

abbrev pub Outcome : Type 0
Outcome = OutcomeData TextFault

-- ---- texts by the format of their files

-- a text that a file of this format may have. `held` has the file's bytes, if they are known
abbrev pub IsTextIn : FileFormat → (held : Option (List ℕ)) → List ℕ → Type 0
IsTextIn (Tracefile version) held text = (length text ≤ suc max_bytes) × IsTextOf held text
IsTextIn (LargeTracefile version) held text = IsAll held text
IsTextIn (GcovOutput test) held text = (length text ≤ suc max_bytes) × IsTextOf held text

-- each text is one of the file at its index
abbrev pub AreTextsBy : FileFormat → FolderData → (files texts : List (List ℕ)) → Type 0
AreTextsBy format folder files texts =
    (length texts ≡ length files) × AllByRecursion (λ (f : List ℕ × List ℕ). IsTextIn format (folder.holds f.0) f.1) (zip files texts)

each_short : (folder : FolderData) (files texts : List (List ℕ)) → length texts ≡ length files
    → AllByRecursion (λ (f : List ℕ × List ℕ). (length f.1 ≤ suc max_bytes) × IsTextOf (folder.holds f.0) f.1) (zip files texts)
    → AllByRecursion (λ (text : List ℕ). length text ≤ suc max_bytes) texts × AreTextsOf folder files texts
each_short folder [] [] long all = (tt, tt)
each_short folder [] (text ∷ texts) long all = absurd (omega (arith, long))
each_short folder (file ∷ files) [] long all = absurd (omega (arith, long))
each_short folder (file ∷ files) (text ∷ texts) long all =
    let others = each_short folder files texts (omega (arith, long)) all.1 in
    ((all.0.0, others.0), (all.0.1, others.1))

texts_in : (format : FileFormat) (folder : FolderData) (files texts : List (List ℕ)) → AreTextsBy format folder files texts → AreTextsIn format folder files texts
texts_in (Tracefile version) folder files texts (long, all) = let each = each_short folder files texts long all in (long, each.0, each.1)
texts_in (LargeTracefile version) folder files texts (long, all) = (long, all)
texts_in (GcovOutput test) folder files texts (long, all) = let each = each_short folder files texts long all in (long, each.0, each.1)

-- what is collected with outcomes of texts is collected of the texts
pub collected_in : (format : FileFormat) (strictness : Strictness) (texts : List (List ℕ)) (jobs : ℕ) (last : OpData) (entries : List EntryData) (logs : List LogData) (refused : List (RefusedInput TextFault)) (outcome : ℕ → Outcome)
    → AreOutcomes (IsTakenIn format strictness) texts outcome → IsCollectedWith outcome (length texts) jobs last entries logs refused
    → AreCollectedIn format strictness texts jobs last entries logs refused
collected_in (Tracefile version) strictness texts jobs last entries logs refused outcome are with =
    let said = collected_said (IsOutcomeFor strictness) (input_of (Tracefile version)) texts jobs last entries logs refused (outcome, are, with) in
    are_collected strictness (map (input_of (Tracefile version)) texts) jobs last entries logs refused said.0 said.1 said.2
collected_in (LargeTracefile version) strictness texts jobs last entries logs refused outcome are with = (outcome, are, with)
collected_in (GcovOutput test) strictness texts jobs last entries logs refused outcome are with =
    let said = collected_said (IsOutcomeFor strictness) (input_of (GcovOutput test)) texts jobs last entries logs refused (outcome, are, with) in
    are_collected strictness (map (input_of (GcovOutput test)) texts) jobs last entries logs refused said.0 said.1 said.2

-- ---- inputs that are files

-- a late input is this file of the folder: an outcome that it may have is one of a text of the file, and it fails only if the file may
-- fail to be read
pub record IsFile (folder : FolderData) (format : FileFormat) (strictness : Strictness) (file : List ℕ) (MayGive : Outcome → Type 0) (may_fail : Type 0) : Type 0 where
  pub gives : (outcome : Outcome) → MayGive outcome → (text : List ℕ) × IsTextIn format (folder.holds file) text × IsTakenIn format strictness text outcome
  pub fails : may_fail → folder.MayFail file

-- each late input is the file of its name
abbrev pub AreFiles : {X : Type 0} → FolderData → FileFormat → Strictness → (name : X → List ℕ) → (MayGive : X → Outcome → Type 0) → (MayFail : X → Type 0) → List X → Type 0
AreFiles folder format strictness name MayGive MayFail lates = AllByRecursion (λ one. IsFile folder format strictness (name one) (MayGive one) (MayFail one)) lates

-- some texts of the files have these outcomes
abbrev pub HaveTextsBy : FolderData → FileFormat → Strictness → (files : List (List ℕ)) → (ℕ → Outcome) → Type 0
HaveTextsBy folder format strictness files outcome = (texts : List (List ℕ)) × AreTextsBy format folder files texts × AreOutcomes (IsTakenIn format strictness) texts outcome

abbrev pub HaveTexts : FolderData → FileFormat → Strictness → (files : List (List ℕ)) → (ℕ → Outcome) → Type 0
HaveTexts folder format strictness files outcome = (texts : List (List ℕ)) × (length texts ≡ length files) × AreTextsIn format folder files texts × AreOutcomes (IsTakenIn format strictness) texts outcome

-- one more text, in front of the others
outcome_in_front : (format : FileFormat) (strictness : Strictness) (text : List ℕ) (texts : List (List ℕ)) (outcome : ℕ → Outcome) → IsTakenIn format strictness text (outcome 0)
    → AreOutcomes (IsTakenIn format strictness) texts (λ index. outcome (suc index)) → AreOutcomes (IsTakenIn format strictness) (text ∷ texts) outcome
outcome_in_front format strictness text texts outcome first rest zero less = first
outcome_in_front format strictness text texts outcome first rest (suc index) less = rest index (omega (arith, less))

-- one more file, in front of the others
text_in_front : (folder : FolderData) (format : FileFormat) (strictness : Strictness) (file : List ℕ) (files : List (List ℕ)) (outcome : ℕ → Outcome)
    → (text : List ℕ) × IsTextIn format (folder.holds file) text × IsTakenIn format strictness text (outcome 0)
    → HaveTextsBy folder format strictness files (λ index. outcome (suc index)) → HaveTextsBy folder format strictness (file ∷ files) outcome
text_in_front folder format strictness file files outcome (text, fits, is) (texts, (long, all), each) =
    (text ∷ texts, (ap suc long, (fits, all)), outcome_in_front format strictness text texts outcome is each)

-- if late inputs are files, their outcomes are those of texts of these files
texts_of : {X : Type 0} (folder : FolderData) (format : FileFormat) (strictness : Strictness) (name : X → List ℕ) (MayGive : X → Outcome → Type 0) (MayFail : X → Type 0)
    → (lates : List X) (outcome : ℕ → Outcome) → AreFiles folder format strictness name MayGive MayFail lates → AreOutcomes MayGive lates outcome
    → HaveTextsBy folder format strictness (map name lates) outcome
texts_of folder format strictness name MayGive MayFail [] outcome are each = ([], (refl, tt), λ index less. absurd (omega (arith, less)))
texts_of folder format strictness name MayGive MayFail (one ∷ lates) outcome are each =
    text_in_front folder format strictness (name one) (map name lates) outcome (are.0.gives (outcome 0) (each 0 (omega arith)))
    (texts_of folder format strictness name MayGive MayFail lates (λ index. outcome (suc index)) are.1 (λ index less. each (suc index) (omega (arith, less))))

-- this file may fail to be read, and each file before it has a text
abbrev IsUnreadableBy : FileFormat → FolderData → (files : List (List ℕ)) → (found : List ℕ) → Type 0
IsUnreadableBy format folder files found =
    (before : List (List ℕ)) × (after : List (List ℕ)) × (texts : List (List ℕ)) × (files ≡ before ++ found ∷ after)
    × AreTextsBy format folder before texts × folder.MayFail found

unreadable_in : (format : FileFormat) (folder : FolderData) (files : List (List ℕ)) (found : List ℕ) → IsUnreadableBy format folder files found → IsUnreadable format folder files found
unreadable_in format folder files found (before, after, texts, cut, are, fails) = (before, after, texts, cut, texts_in format folder before texts are, fails)

-- the first file that can't be read stays the first if a file that was read is put in front
unreadable_behind : (folder : FolderData) (format : FileFormat) (strictness : Strictness) (file : List ℕ) (files : List (List ℕ)) (found : List ℕ) (outcome : Outcome)
    → (text : List ℕ) × IsTextIn format (folder.holds file) text × IsTakenIn format strictness text outcome → IsUnreadableBy format folder files found → IsUnreadableBy format folder (file ∷ files) found
unreadable_behind folder format strictness file files found outcome (text, fits, is) (before, after, texts, cut, (long, all), fails) =
    (file ∷ before, after, text ∷ texts, ap (λ (fs : List (List ℕ)). file ∷ fs) cut, (ap suc long, (fits, all)), fails)

-- the first late input that can't be read is the first file that can't be read
unreadable_first : {X : Type 0} (folder : FolderData) (format : FileFormat) (strictness : Strictness) (name : X → List ℕ) (MayGive : X → Outcome → Type 0) (MayFail : X → Type 0)
    → (lates : List X) (index : ℕ) → AreFiles folder format strictness name MayGive MayFail lates → IsFirstUnread MayGive MayFail lates index
    → IsUnreadableBy format folder (map name lates) (name_at (slice_get (map name lates) index))
unreadable_first folder format strictness name MayGive MayFail [] index are (fails, read) = absurd fails
unreadable_first folder format strictness name MayGive MayFail (one ∷ lates) zero are (fails, read) =
    ([], map name lates, [], refl, (refl, tt), are.0.fails fails)
unreadable_first folder format strictness name MayGive MayFail (one ∷ lates) (suc index) are (fails, ((outcome, gives), read)) =
    unreadable_behind folder format strictness (name one) (map name lates) (name_at (slice_get (map name lates) index)) outcome (are.0.gives outcome gives)
    (unreadable_first folder format strictness name MayGive MayFail lates index are.1 (fails, read))

-- ---- inputs that are files of one folder

-- what a file may give of which nothing was read yet
take_of : {S : Type 0} (left : S → Option (List ℕ)) (held : Option (List ℕ)) (format : FileFormat) (strictness : Strictness) (outcome : Outcome) → MayTake left held format strictness None outcome
    → (text : List ℕ) × IsTextIn format held text × IsTakenIn format strictness text outcome
take_of left held (Tracefile version) strictness outcome (result, is, (text, short, fits, of)) = (text, (short, fits), (result, is, of))
take_of left held (LargeTracefile version) strictness outcome (text, all, large) = (text, all, large)
take_of left held (GcovOutput test) strictness outcome (result, is, (text, short, fits, of)) = (text, (short, fits), (result, is, of))

fail_of : {S : Type 0} (folder : FolderData) (left : S → Option (List ℕ)) (failed_reads : S → ℕ) (name : List ℕ) (format : FileFormat) → MayFailAs folder left failed_reads name format None → folder.MayFail name
fail_of folder left failed_reads name (Tracefile version) may = may
fail_of folder left failed_reads name (LargeTracefile version) may = may
fail_of folder left failed_reads name (GcovOutput test) may = may

-- how the parts of a late input are seen
pub record InputView (X Folder S : Type 0) : Type 0 where
  pub own : X → Folder
  pub name : X → List ℕ
  pub format : X → FileFormat
  pub strictness : X → Strictness
  pub opened : X → Option (StateData S)

-- all late inputs are of this folder and this format, and nothing was read of them
abbrev pub AreOwn : {X Folder S : Type 0} → InputView X Folder S → Folder → FileFormat → Strictness → List X → Type 0
AreOwn view at format strictness lates =
    AllByRecursion (λ one. (view.own one ≡ at) × (view.format one ≡ format) × (view.strictness one ≡ strictness) × (view.opened one ≡ None)) lates

abbrev pub GivesIn : {X Folder S : Type 0} → InputView X Folder S → (of : Folder → FolderData) → (left : S → Option (List ℕ)) → X → Outcome → Type 0
GivesIn view of left one = MayTake left ((of (view.own one)).holds (view.name one)) (view.format one) (view.strictness one) (view.opened one)

abbrev pub FailsIn : {X Folder S : Type 0} → InputView X Folder S → (of : Folder → FolderData) → (left : S → Option (List ℕ)) → (failed_reads : S → ℕ) → X → Type 0
FailsIn view of left failed_reads one = MayFailAs (of (view.own one)) left failed_reads (view.name one) (view.format one) (view.opened one)

-- late inputs of this folder and this format are files of the folder
are_files : {X Folder S : Type 0} (view : InputView X Folder S) (lates : List X) (at : Folder) (format : FileFormat) (strictness : Strictness) (of : Folder → FolderData) (left : S → Option (List ℕ)) (failed_reads : S → ℕ)
    → AreOwn view at format strictness lates → AreFiles (of at) format strictness view.name (GivesIn view of left) (FailsIn view of left failed_reads) lates
are_files view [] at format strictness of left failed_reads all = tt
are_files {X} {Folder} {S} view (one ∷ lates) at format strictness of left failed_reads all = (
  record {
    gives = λ outcome may. take_of left ((of at).holds (view.name one)) format strictness outcome
        (subst (λ (f : Folder). MayTake left ((of f).holds (view.name one)) format strictness None outcome) all.0.0
        (subst (λ (t : FileFormat). MayTake left ((of (view.own one)).holds (view.name one)) t strictness None outcome) all.0.1
        (subst (λ (s : Strictness). MayTake left ((of (view.own one)).holds (view.name one)) (view.format one) s None outcome) all.0.2
        (subst (λ (o : Option (StateData S)). MayTake left ((of (view.own one)).holds (view.name one)) (view.format one) (view.strictness one) o outcome) all.0.3 may))));
    fails = λ may. fail_of (of at) left failed_reads (view.name one) format
        (subst (λ (f : Folder). MayFailAs (of f) left failed_reads (view.name one) format None) all.0.0
        (subst (λ (t : FileFormat). MayFailAs (of (view.own one)) left failed_reads (view.name one) t None) all.0.1
        (subst (λ (o : Option (StateData S)). MayFailAs (of (view.own one)) left failed_reads (view.name one) (view.format one) o) all.0.3 may)));
  },
  are_files view lates at format strictness of left failed_reads all.1,
)

-- the outcomes of these late inputs are those of texts of the files, and there are as many inputs as files
pub texts_read : {X Folder S : Type 0} (lates : List X) (at : Folder) (left : S → Option (List ℕ)) (failed_reads : S → ℕ) (view : InputView X Folder S) (format : FileFormat) (strictness : Strictness) (of : Folder → FolderData)
    → (files : List (List ℕ)) (outcome : ℕ → Outcome) → map view.name lates ≡ files → AreOwn view at format strictness lates → AreOutcomes (GivesIn view of left) lates outcome
    → HaveTexts (of at) format strictness files outcome × (length lates ≡ length files)
texts_read lates at left failed_reads view format strictness of files outcome named all each =
    let have = texts_of (of at) format strictness view.name (GivesIn view of left) (FailsIn view of left failed_reads) lates outcome (are_files view lates at format strictness of left failed_reads all) each in (
      subst (λ (fs : List (List ℕ)). HaveTexts (of at) format strictness fs outcome) named
          (have.0, have.1.0, texts_in format (of at) (map view.name lates) have.0 have.1, have.2),
      sym (length-map lates view.name) ∙ ap length named,
    )

-- the first of these late inputs that can't be read is the first file that can't be read
pub unreadable_read : {X Folder S : Type 0} (lates : List X) (at : Folder) (left : S → Option (List ℕ)) (failed_reads : S → ℕ) (view : InputView X Folder S) (format : FileFormat) (strictness : Strictness) (of : Folder → FolderData)
    → (files : List (List ℕ)) (index : ℕ) (fault : IntoBookFault) → map view.name lates ≡ files → AreOwn view at format strictness lates → fault ≡ into_book.Unread index
    → IsIntoBookFault (GivesIn view of left) (FailsIn view of left failed_reads) lates fault
    → IsUnreadable format (of at) files (name_at (slice_get files index))
unreadable_read lates at left failed_reads view format strictness of files index fault named all is unread =
    subst (λ (fs : List (List ℕ)). IsUnreadable format (of at) fs (name_at (slice_get fs index))) named
    (unreadable_in format (of at) (map view.name lates) (name_at (slice_get (map view.name lates) index))
    (unreadable_first (of at) format strictness view.name (GivesIn view of left) (FailsIn view of left failed_reads) lates index (are_files view lates at format strictness of left failed_reads all)
    (subst (λ (f : IntoBookFault). IsIntoBookFault (GivesIn view of left) (FailsIn view of left failed_reads) lates f) is unread)))

-- ---- texts of files that aren't read

-- a text of at most `most` bytes that a file may have. `held` has the file's bytes, if they are known
text_held : (most : ℕ) (held : Option (List ℕ)) → (text : List ℕ) × (length text ≤ most) × IsTextAtMost most held text
text_held most None = ([], omega arith, tt)
text_held most (Some bytes) = (take most bytes, omega (arith, length-take most bytes), refl)

all_held : (held : Option (List ℕ)) → (text : List ℕ) × IsAll held text
all_held None = ([], tt)
all_held (Some bytes) = (bytes, refl)

text_in : (format : FileFormat) (held : Option (List ℕ)) → (text : List ℕ) × IsTextIn format held text
text_in (Tracefile version) held = let text = text_held (suc max_bytes) held in (text.0, (text.1, text.2))
text_in (LargeTracefile version) held = all_held held
text_in (GcovOutput test) held = let text = text_held (suc max_bytes) held in (text.0, (text.1, text.2))

held_by : (format : FileFormat) (folder : FolderData) (files : List (List ℕ)) → (texts : List (List ℕ)) × AreTextsBy format folder files texts
held_by format folder [] = ([], (refl, tt))
held_by format folder (file ∷ files) =
    let this = text_in format (folder.holds file) in
    let others = held_by format folder files in
    (this.0 ∷ others.0, (ap suc others.1.0, (this.1, others.1.1)))

-- each file has a text
pub texts_held : (format : FileFormat) (folder : FolderData) (files : List (List ℕ)) → (texts : List (List ℕ)) × AreTextsIn format folder files texts
texts_held format folder files =
    let held = held_by format folder files in
    (held.0, texts_in format folder files held.0 held.1)

-- ---- faults of collecting

-- some texts of the files, with which a fault of collecting may come
abbrev pub HaveTextsFor : FolderData → FileFormat → Strictness → (files : List (List ℕ)) → CollectFault → Type 0
HaveTextsFor folder format strictness files fault =
    (texts : List (List ℕ)) × AreTextsIn format folder files texts × MayCome (FillHistory (IsTakenIn format strictness) texts) fault

-- texts of the files, whichever they are, do for a fault that needs none
any_texts : (folder : FolderData) (format : FileFormat) (strictness : Strictness) (files : List (List ℕ)) (fault : CollectFault) → ((Fill : Type 0) → MayCome Fill fault) → HaveTextsFor folder format strictness files fault
any_texts folder format strictness files fault may =
    let held = texts_held format folder files in
    (held.0, held.1, may (FillHistory (IsTakenIn format strictness) held.0))

-- files whose late inputs fill the history have texts that fill it
texts_filled : {X Folder S : Type 0} (lates : List X) (at : Folder) (left : S → Option (List ℕ)) (failed_reads : S → ℕ) (view : InputView X Folder S) (format : FileFormat) (strictness : Strictness) (of : Folder → FolderData)
    → (files : List (List ℕ)) → map view.name lates ≡ files → AreOwn view at format strictness lates → FillHistory (GivesIn view of left) lates
    → (texts : List (List ℕ)) × AreTextsIn format (of at) files texts × FillHistory (IsTakenIn format strictness) texts
texts_filled lates at left failed_reads view format strictness of files named all fill =
    let read = texts_read lates at left failed_reads view format strictness of files fill.0 named all fill.1 in
    let long : length lates ≡ length read.0.0 = read.1 ∙ sym read.0.1 in
    (read.0.0, read.0.2, (fill.0, read.0.3, subst (λ (n : ℕ). max_entries ≤ length (submissions_of all_places fill.0 n)) long fill.2))

comes_with : {X Folder S : Type 0} (lates : List X) (at : Folder) (left : S → Option (List ℕ)) (failed_reads : S → ℕ) (view : InputView X Folder S) (format : FileFormat) (strictness : Strictness) (of : Folder → FolderData)
    → (files : List (List ℕ)) (told : CollectFault) → map view.name lates ≡ files → AreOwn view at format strictness lates → MayCome (FillHistory (GivesIn view of left) lates) told
    → HaveTextsFor (of at) format strictness files told
comes_with lates at left failed_reads view format strictness of files collects.BadJobs named all may = any_texts (of at) format strictness files collects.BadJobs (λ Fill. tt)
comes_with lates at left failed_reads view format strictness of files collects.Full named all may = texts_filled lates at left failed_reads view format strictness of files named all may
comes_with lates at left failed_reads view format strictness of files collects.Memory named all may = any_texts (of at) format strictness files collects.Memory (λ Fill. tt)
comes_with lates at left failed_reads view format strictness of files (collects.Gather fault) named all may = absurd may
comes_with lates at left failed_reads view format strictness of files collects.NotLast named all may = absurd may

-- a fault of collecting these late inputs may come with texts of the files
pub may_come : {X Folder S : Type 0} (lates : List X) (at : Folder) (left : S → Option (List ℕ)) (failed_reads : S → ℕ) (view : InputView X Folder S) (format : FileFormat) (strictness : Strictness) (of : Folder → FolderData)
    → (files : List (List ℕ)) (fault : IntoBookFault) (told : CollectFault) → map view.name lates ≡ files → AreOwn view at format strictness lates → fault ≡ into_book.Collect told
    → IsIntoBookFault (GivesIn view of left) (FailsIn view of left failed_reads) lates fault → HaveTextsFor (of at) format strictness files told
may_come lates at left failed_reads view format strictness of files fault told named all is may =
    comes_with lates at left failed_reads view format strictness of files told named all
    (subst (λ (f : IntoBookFault). IsIntoBookFault (GivesIn view of left) (FailsIn view of left failed_reads) lates f) is may)

-- neither `Gather` nor `NotLast` comes, whatever fills the history
any_fill : (Fill : Type 0) (told : CollectFault) → MayCome Fill told → MayComeAtAll told
any_fill Fill collects.BadJobs may = tt
any_fill Fill collects.Full may = tt
any_fill Fill collects.Memory may = tt
any_fill Fill (collects.Gather fault) may = absurd may
any_fill Fill collects.NotLast may = absurd may

pub comes : {X Folder S : Type 0} (lates : List X) (left : S → Option (List ℕ)) (failed_reads : S → ℕ) (view : InputView X Folder S) (of : Folder → FolderData) (fault : IntoBookFault) (told : CollectFault) → fault ≡ into_book.Collect told
    → IsIntoBookFault (GivesIn view of left) (FailsIn view of left failed_reads) lates fault → MayComeAtAll told
comes lates left failed_reads view of fault told is may =
    any_fill (FillHistory (GivesIn view of left) lates) told (subst (λ (f : IntoBookFault). IsIntoBookFault (GivesIn view of left) (FailsIn view of left failed_reads) lates f) is may)
