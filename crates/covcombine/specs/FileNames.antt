-- The names of the files that a call reads: those of its words, and then those of its list.
use Rattle.std.specs.Prelude.{◌≡◌, ◌≤◌, ℕ, suc, Bool, true, false, List, [], ◌∷◌, ◌++◌, codes, filter, length, option_map, ◌==◌, if◌then◌else◌, Option, None, Some, Contains}
use Rattle.std.specs.List.{AllByRecursion}
use Rattle.std.specs.Str.{IsUtf8, bytes_eq}
use Rattle.std.specs.String.{string_bytes}
use Rattle.covcommand.specs.declared.asked.CombineOptions.{CombineOptions}
use Rattle.covcommand.specs.declared.asked.NameEnd.{NameEnd}
use Rattle.covcommand.specs.declared.asked.NameEnd.TheVariants.{LineFeed, Null}
use Rattle.covread.specs.Outcome.{max_bytes}
use Rattle.covstream.specs.Blocks.{HasReadAtMost}
use Rattle.covworld.specs.Folder.{FolderData, IsTextOf}
use Rattle.covworld.specs.Streams.{SourceData}
use Rattle.covworld.specs.declared.folder.FileId.{FileId}

-- ---- lists

-- where the list of this name is: in standard input, or in this file
pub data ListPlace : Type 0 where
  InInput : ListPlace
  InFile : (name : List ℕ) → ListPlace

abbrev pub place_of : (list : List ℕ) → ListPlace
place_of list = if bytes_eq list (codes "-") then InInput else InFile list

-- how the list is named in messages
abbrev pub name_of_list : (list : List ℕ) → List ℕ
name_of_list list = if bytes_eq list (codes "-") then codes "standard input" else list

-- a name in a list ends at this byte
abbrev pub end_byte : NameEnd → ℕ
end_byte LineFeed = 10
end_byte Null = 0

-- puts a byte before the first of some texts
abbrev pub onto_first : ℕ → List (List ℕ) → List (List ℕ)
onto_first b [] = (b ∷ []) ∷ []
onto_first b (text ∷ texts) = (b ∷ text) ∷ texts

-- what stands before, between and after these bytes
abbrev pub cut_at : (byte : ℕ) → List ℕ → List (List ℕ)
cut_at byte [] = [] ∷ []
cut_at byte (b ∷ bytes) = if b == byte then [] ∷ cut_at byte bytes else onto_first b (cut_at byte bytes)

abbrev pub is_some_text : List ℕ → Bool
is_some_text [] = false
is_some_text (b ∷ bytes) = true

-- the names in a list with this text. Nothing is no name
abbrev pub listed : (byte : ℕ) → (text : List ℕ) → List (List ℕ)
listed byte text = filter is_some_text (cut_at byte text)

-- this text is read of the list. `before` and `after`: standard input, which is read for a list in it alone
abbrev pub IsListRead : FolderData → ListPlace → (text : List ℕ) → (before after : SourceData) → Type 0
IsListRead folder (InFile name) text before after =
    IsTextOf (folder.holds name) text × (length text ≤ max_bytes) × (after ≡ before)
IsListRead folder InInput text before after =
    HasReadAtMost (suc max_bytes) before.left after.left text × (length text ≤ max_bytes) × (after.failed_reads ≡ before.failed_reads)

-- ---- names

-- the names that the list of this name adds
abbrev pub AreListed : FolderData → NameEnd → (list : Option (List ℕ)) → (names : List (List ℕ)) → (before after : SourceData) → Type 0
AreListed folder end None names before after = (names ≡ []) × (after ≡ before)
AreListed folder end (Some list) names before after =
    (text : List ℕ) × IsListRead folder (place_of list) text before after × (names ≡ listed (end_byte end) text) × AllByRecursion IsUtf8 names

-- the names of the files: those of the words, and then those of the list
abbrev pub AreNamesOf : FolderData → CombineOptions → (names : List (List ℕ)) → (before after : SourceData) → Type 0
AreNamesOf folder options names before after =
    (more : List (List ℕ)) × AreListed folder options.names_end (option_map string_bytes options.list) more before after
    × (names ≡ options.names ++ more)

-- ---- one file by two names

-- `second` comes after `first`, and the folder may give both the same id
pub record AreOneFile (folder : FolderData) (names : List (List ℕ)) (first second : List ℕ) : Type 0 where
  pub before : List (List ℕ)
  pub after : List (List ℕ)
  pub place : names ≡ before ++ second ∷ after
  pub earlier : Contains before first
  pub id : FileId
  pub of_first : folder.MayBe first (Some id)
  pub of_second : folder.MayBe second (Some id)

-- the folder may give each name the id at the same index
abbrev pub AreIdsOf : FolderData → (names : List (List ℕ)) → List (Option FileId) → Type 0
AreIdsOf folder [] [] = Unit {0}
AreIdsOf folder (name ∷ names) (id ∷ ids) = folder.MayBe name id × AreIdsOf folder names ids
AreIdsOf folder names ids = ⊥

-- no id is there twice
abbrev pub AreDifferent : List (Option FileId) → Type 0
AreDifferent [] = Unit {0}
AreDifferent (None ∷ ids) = AreDifferent ids
AreDifferent (Some id ∷ ids) = (Contains ids (Some id) → ⊥) × AreDifferent ids

-- no two of the names are of one file, by the ids that the folder may have given
abbrev pub AreApart : FolderData → (names : List (List ℕ)) → Type 0
AreApart folder names = (ids : List (Option FileId)) × AreIdsOf folder names ids × AreDifferent ids
