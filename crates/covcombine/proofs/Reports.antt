-- How an ending is reported, from what its prints and its file did.
use Rattle.std.proofs.Common.{◌≡◌, ◌⊎◌, inl, inr, ℕ, suc, List, [], ◌∷◌, ◌++◌, Option, Some, None, option_map, refl, sym, ap, subst, ◌∙◌}
use Rattle.std.specs.Io.KnownBytes.{Appends}
use Rattle.std.specs.String.{string_bytes}
use Rattle.covcommand.specs.declared.asked.CombineOptions.{CombineOptions}
use Rattle.covcommand.specs.declared.asked.Strictness.{Strictness}
use Rattle.covsession.specs.Fault.{HasBegun}
use Rattle.covsession.specs.Program.{words_of_fault}
use Rattle.covsession.specs.Session.{said}
use Rattle.covsession.specs.declared.session.fault.SessionFault.TheVariants as sessions
use Rattle.covworld.specs.Folder.{FolderData}
use Rattle.covworld.specs.OutputFiles.{IsWritten, OutputFilesData}
use Rattle.covworld.specs.Streams.{SinksData, SourceData, Complains, IsSilent, PutsOut, Withholds}
use Rattle.covworld.specs.World.{WorldData}
use Rattle.covcombine.specs.Combine.{EndingData, Fails, Gives, GivenData}
use Rattle.covcombine.specs.Combined.{Ends, IsCombineCall, IsListFault, IsLongAt, IsPrinted, IsReported, IsUnfiled, IsUnreadAt, MayEndWith, MayRead, MayReadAt, StopsEarly, StopsUnnamed, Tells, given_status, out_of_memory}
use Rattle.covcombine.specs.FileNames.{AreNamesOf, InFile, InInput, IsListRead, ListPlace, end_byte, place_of}
use Rattle.covcombine.specs.ListSteps.{IsEarlyEnd, IsNamesStop}
use Rattle.covcombine.specs.Messages.{cut_line}
use Rattle.covcombine.specs.Options.{CombineData}
use Rattle.covcombine.specs.Steps.{IsWorkFault}
use Rattle.covcombine.specs.declared.call_fault.CallFault.{CallFault}
use Rattle.covcombine.specs.declared.call_fault.CallFault.TheVariants.{ManyPatterns, LongPattern, NoRate, BadPath, BadTest, NoRoom, NoName, Twice, OneFile, UnreadList, LongList, NotText}
use Rattle.covcombine.specs.declared.call_fault.WorkFault.{WorkFault}
use Rattle.covcombine.specs.declared.call_fault.WorkFault.TheVariants as works

-- ---- the streams

-- lines are written after the text
puts_on : (text : List ℕ) (old middle new : SinksData) → PutsOut text old middle → Withholds middle new → PutsOut text old new
puts_on text old middle new (out, sent, good) (same, held, failed) = (subst (λ (o : Option (List ℕ)). Appends old.output o text) (sym same) out, held ∙ sent, failed ∙ good)

complains_on : (words : List ℕ) (old middle new : SinksData) → IsSilent old middle → Complains words middle new → Complains words old new
complains_on words old middle new (faults, failed) complains = λ same. subst (λ (f : Option (List ℕ)). Appends f new.faults words) faults (complains (same ∙ sym failed))

tells_on : (lines : List ℕ) (old middle new : SinksData) → IsSilent old middle → Tells lines middle new → Tells lines old new
tells_on [] old middle new (faults, failed) (later, none) = (later ∙ faults, none ∙ failed)
tells_on (b ∷ bs) old middle new silent complains = complains_on (b ∷ bs) old middle new silent complains

-- two texts are written, or none if both are empty
pub tells_both : (front words : List ℕ) (old new : SinksData) → (front ≡ [] → words ≡ [] → new ≡ old) → Complains (front ++ words) old new → Tells (front ++ words) old new
tells_both [] [] old new none complains =
    (ap (λ (s : SinksData). s.faults) (none refl refl), ap (λ (s : SinksData). s.failed_faults) (none refl refl))
tells_both [] (b ∷ bs) old new none complains = complains
tells_both (b ∷ bs) words old new none complains = complains

pub printed : (cut text warnings missed : List ℕ) (status : ℕ) (old middle new : SinksData) → status ≡ given_status missed → PutsOut text old middle → IsSilent old middle → Withholds middle new
    → Tells (warnings ++ missed) middle new → IsPrinted cut text warnings missed status old new
printed cut text warnings missed status old middle new is out silent withheld tells =
    inl (is, puts_on text old middle new out withheld, tells_on (warnings ++ missed) old middle new silent tells)

pub cut_short : (cut text warnings missed : List ℕ) (status : ℕ) (old middle new : SinksData) → status ≡ 1 → HasBegun old.output middle.output text → middle.failed_output ≡ suc old.failed_output
    → IsSilent old middle → Withholds middle new → Complains (warnings ++ cut) middle new → IsPrinted cut text warnings missed status old new
cut_short cut text warnings missed status old middle new is begun failed silent (same, held, fails) complains =
    inr (is, subst (λ (o : Option (List ℕ)). HasBegun old.output o text) (sym same) begun, fails ∙ failed, complains_on (warnings ++ cut) old middle new silent complains)

-- ---- an ending is told

-- the ending, or else that memory ran out, is reported
abbrev pub IsTold : (file : Option (List ℕ)) → EndingData → (status : ℕ) → WorldData → WorldData → Type 0
IsTold file ending status old new = (told : EndingData) × ((told ≡ out_of_memory) ⊎ (told ≡ ending)) × IsReported file told status old new

fails_so : (file : Option (List ℕ)) (failure status : ℕ) (lines : List ℕ) (old new : WorldData) → status ≡ failure → new.files ≡ old.files → Withholds old.sinks new.sinks
    → Complains lines old.sinks new.sinks → IsReported file (Fails failure lines) status old new
fails_so None failure status lines old new is files withheld complains = (is, files, withheld, complains)
fails_so (Some name) failure status lines old new is files withheld complains = (is, files, withheld, complains)

pub failure_told : (file : Option (List ℕ)) (failure status : ℕ) (lines : List ℕ) (old new : WorldData) → status ≡ failure → new.files ≡ old.files → Withholds old.sinks new.sinks
    → Complains lines old.sinks new.sinks → IsTold file (Fails failure lines) status old new
failure_told file failure status lines old new is files withheld complains = (Fails failure lines, inr refl, fails_so file failure status lines old new is files withheld complains)

-- memory ran out before the file was finished
pub memory_told : (file : Option (List ℕ)) (ending : EndingData) (status : ℕ) (old new : WorldData) → status ≡ 3 → new.files ≡ old.files → Withholds old.sinks new.sinks
    → Complains (said (words_of_fault sessions.Memory)) old.sinks new.sinks → IsTold file ending status old new
memory_told file ending status old new is files withheld complains =
    (out_of_memory, inl refl, fails_so file 3 status (said (words_of_fault sessions.Memory)) old new is files withheld complains)

pub tracefile_told : (given : GivenData) (status : ℕ) (old new : WorldData) → new.files ≡ old.files
    → IsPrinted (cut_line None) given.tracefile given.warnings given.missed status old.sinks new.sinks → IsTold None (Gives given) status old new
tracefile_told given status old new files prints = (Gives given, inr refl, (files, prints))

pub file_told : (name : List ℕ) (given : GivenData) (status : ℕ) (old new : WorldData) → IsWritten name given.tracefile old.files new.files
    → IsPrinted (cut_line (Some name)) given.overview given.warnings given.missed status old.sinks new.sinks → IsTold (Some name) (Gives given) status old new
file_told name given status old new written prints = (Gives given, inr refl, inl (written, prints))

pub unfiled_told : (name : List ℕ) (given : GivenData) (status : ℕ) (old new : WorldData) → IsUnfiled name given.warnings status old new → IsTold (Some name) (Gives given) status old new
unfiled_told name given status old new unfiled = (Gives given, inr refl, inr unfiled)

-- ---- a call with the names of its files

-- the work ends as it is told
pub work_told : (folder : FolderData) (jobs : ℕ) (work : CombineData) (file : Option (List ℕ)) (ending : EndingData) (status : ℕ) (old new : WorldData) → Ends folder jobs work ending
    → IsTold file ending status old new → (end : EndingData) × Ends folder jobs work end × IsReported file end status old new
work_told folder jobs work file ending status old new ends (told, inl out, reported) = (told, inl out, reported)
work_told folder jobs work file ending status old new ends (told, inr is, reported) = (told, subst (λ (e : EndingData). Ends folder jobs work e) (sym is) ends, reported)

-- so does a call that has the names of its files
pub files_told : (folder : FolderData) (options : CombineOptions) (names : List (List ℕ)) (strictness : Strictness) (file : Option (List ℕ)) (ending : EndingData) (status : ℕ) (old new : WorldData)
    → MayEndWith folder options names strictness file ending → IsTold file ending status old new
    → (end : EndingData) × MayEndWith folder options names strictness file end × IsReported file end status old new
files_told folder options names strictness file ending status old new may (told, inl out, reported) = (told, inl (inl out), reported)
files_told folder options names strictness file ending status old new may (told, inr is, reported) =
    (told, subst (λ (e : EndingData). MayEndWith folder options names strictness file e) (sym is) may, reported)

-- a call whose options don't do ends early
pub stops_early : (folder : FolderData) (options : CombineOptions) (names : List (List ℕ)) (file : Option (List ℕ)) (fault : WorkFault) (ending : EndingData)
    → IsWorkFault folder options names file fault → IsEarlyEnd options.expected fault ending → StopsEarly folder options names file ending
stops_early folder options names file (works.Call fault) ending is (inl out) = inl out
stops_early folder options names file (works.Call fault) ending is (inr so) = inr (fault, is, so)
stops_early folder options names file works.Memory ending is out = inl out

-- ---- a call without the names of its files

-- standard input was read at most for a list in it, whyever the list isn't taken
unread_at : (folder : FolderData) (place : ListPlace) (before after : SourceData) → IsUnreadAt folder place before after → MayReadAt place before after
unread_at folder (InFile name) before after (fails, same) = same
unread_at folder InInput before after failed = tt

long_at : (folder : FolderData) (place : ListPlace) (before after : SourceData) → IsLongAt folder place before after → MayReadAt place before after
long_at folder (InFile name) before after (text, of, long, same) = same
long_at folder InInput before after long = tt

text_at : (folder : FolderData) (place : ListPlace) (text : List ℕ) (before after : SourceData) → IsListRead folder place text before after → MayReadAt place before after
text_at folder (InFile name) text before after (of, few, same) = same
text_at folder InInput text before after read = tt

list_read : (folder : FolderData) (list : List ℕ) (byte : ℕ) (before after : SourceData) (fault : CallFault) → IsListFault folder list byte before after fault → MayReadAt (place_of list) before after
list_read folder list byte before after (ManyPatterns option) none = absurd none
list_read folder list byte before after (LongPattern option) none = absurd none
list_read folder list byte before after (NoRate option word) none = absurd none
list_read folder list byte before after (BadPath fault word) none = absurd none
list_read folder list byte before after (BadTest test) none = absurd none
list_read folder list byte before after (NoRoom option) none = absurd none
list_read folder list byte before after NoName none = absurd none
list_read folder list byte before after (Twice name) none = absurd none
list_read folder list byte before after (OneFile first second) none = absurd none
list_read folder list byte before after (UnreadList told) is = unread_at folder (place_of list) before after is.1
list_read folder list byte before after (LongList told) is = long_at folder (place_of list) before after is.1
list_read folder list byte before after (NotText told number) is = text_at folder (place_of list) is.1 before after is.2

module _ (folder : FolderData) (options : CombineOptions) (before after : SourceData) where
  unnamed_memory : (list : Option (List ℕ)) (ending : EndingData) → MayRead list before after → ending ≡ out_of_memory → StopsUnnamed folder options list ending before after
  unnamed_memory None ending may out = (out, may)
  unnamed_memory (Some list) ending may out = inl (out, may)

  unnamed_read : (list : Option (List ℕ)) (ending : EndingData) → StopsUnnamed folder options list ending before after → MayRead list before after
  unnamed_read None ending (out, same) = same
  unnamed_read (Some list) ending (inl (out, may)) = may
  unnamed_read (Some list) ending (inr (fault, is, so)) = list_read folder list (end_byte options.names_end) before after fault is

  unnamed_fault : (list : List ℕ) (fault : CallFault) (ending : EndingData) → IsListFault folder list (end_byte options.names_end) before after fault
      → IsEarlyEnd options.expected (works.Call fault) ending → StopsUnnamed folder options (Some list) ending before after
  unnamed_fault list fault ending is (inl out) = inl (out, list_read folder list (end_byte options.names_end) before after fault is)
  unnamed_fault list fault ending is (inr so) = inr (fault, is, so)

  -- a call that doesn't get the names of its files ends early
  pub stops_unnamed : (fault : WorkFault) (ending : EndingData) → IsNamesStop folder options before after fault → IsEarlyEnd options.expected fault ending
      → StopsUnnamed folder options (option_map string_bytes options.list) ending before after
  stops_unnamed (works.Call fault) ending (list, same, is) ends =
      subst (λ (l : Option (List ℕ)). StopsUnnamed folder options l ending before after) (sym same) (unnamed_fault list fault ending is ends)
  stops_unnamed works.Memory ending may out = unnamed_memory (option_map string_bytes options.list) ending may out

  -- it ends as it is told
  unnamed_told : (list : Option (List ℕ)) (file : Option (List ℕ)) (ending : EndingData) (status : ℕ) (old new : WorldData) → StopsUnnamed folder options list ending before after
      → IsTold file ending status old new → (end : EndingData) × StopsUnnamed folder options list end before after × IsReported file end status old new
  unnamed_told list file ending status old new stops (told, inl out, reported) = (told, unnamed_memory list told (unnamed_read list ending stops) out, reported)
  unnamed_told list file ending status old new stops (told, inr is, reported) =
      (told, subst (λ (e : EndingData). StopsUnnamed folder options list e before after) (sym is) stops, reported)

-- ---- the whole call

abbrev world : OutputFilesData → SourceData → SinksData → WorldData
world files input sinks = record { files = files; input = input; sinks = sinks }

-- what is reported doesn't depend on what was read before
reported_on : (file : Option (List ℕ)) (ending : EndingData) (status : ℕ) (old middle new : WorldData) → middle.files ≡ old.files → middle.sinks ≡ old.sinks
    → IsReported file ending status middle new → IsReported file ending status old new
reported_on file ending status old middle new files sinks reported =
    go file ending
    (subst (λ (w : WorldData). IsReported file ending status w new)
    (ap (λ (f : OutputFilesData). world f middle.input middle.sinks) files ∙ ap (λ (s : SinksData). world old.files middle.input s) sinks) reported)
  where
    go : (file : Option (List ℕ)) (ending : EndingData) → IsReported file ending status (world old.files middle.input old.sinks) new → IsReported file ending status old new
    go None (Fails failed lines) is = is
    go (Some name) (Fails failed lines) is = is
    go None (Gives given) is = is
    go (Some name) (Gives given) is = is

module _ (folder : FolderData) (options : CombineOptions) (strictness : Strictness) (file : Option (List ℕ)) (status : ℕ) (old middle new : WorldData) (before : SourceData)
    (files : middle.files ≡ old.files) (sinks : middle.sinks ≡ old.sinks) (unread : before ≡ old.input) (input : new.input ≡ middle.input) where
  -- a call that has the names of its files
  pub call_named : (names looked : List (List ℕ)) → AreNamesOf folder options names before middle.input → looked ≡ names
      → ((ending : EndingData) × MayEndWith folder options looked strictness file ending × IsReported file ending status middle new)
      → IsCombineCall folder options strictness file status old new
  call_named names looked are same (ending, may, reported) = (
    ending,
    inr (
      looked,
      subst (λ (ns : List (List ℕ)). AreNamesOf folder options ns old.input new.input) (sym same)
          (subst (λ (i : SourceData). AreNamesOf folder options names i new.input) unread
          (subst (λ (i : SourceData). AreNamesOf folder options names before i) (sym input) are)),
      may,
    ),
    reported_on file ending status old middle new files sinks reported,
  )

  -- a call that doesn't have them
  pub call_unnamed : (fault : WorkFault) (early : EndingData) → IsNamesStop folder options before middle.input fault → IsEarlyEnd options.expected fault early
      → IsTold file early status middle new → IsCombineCall folder options strictness file status old new
  call_unnamed fault early stops ends told =
      let (ending, may, reported) =
      unnamed_told folder options before middle.input (option_map string_bytes options.list) file early status middle new
      (stops_unnamed folder options before middle.input fault early stops ends) told in (
        ending,
        inl (subst (λ (i : SourceData). StopsUnnamed folder options (option_map string_bytes options.list) ending i new.input) unread
            (subst (λ (i : SourceData). StopsUnnamed folder options (option_map string_bytes options.list) ending before i) (sym input) may)),
        reported_on file ending status old middle new files sinks reported,
      )
