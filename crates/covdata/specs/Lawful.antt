-- Which submissions are lawful. Their names and checksums fit into the lines of a tracefile, their numbers aren't too large, and
-- their items aren't too many.
use Rattle.std.specs.Prelude.{◌≡◌, ◌≢◌, ℕ, ◌<◌, ◌≤◌, ◌^◌, List, [], ◌∷◌, ◌++◌, length, Some, None, All}
use Rattle.std.specs.List.{AllByRecursion}
use Rattle.covdata.specs.declared.submission.BadSubmission.{BadSubmission}
use Rattle.covdata.specs.declared.submission.BadSubmission.TheVariants.{TooMany, BadText}
use Rattle.covdata.specs.Delimiters.{line_feed, carriage_return}
use Rattle.covdata.specs.Row.{ItemData, LineItem, FuncItem, BranchItem, SectData, SubmissionData, items_in}

-- the most items that a submission can have: 64 Mi
abbrev pub max_items : ℕ
max_items = 67108864

-- a name that fits into one line: no line feed in it, and no carriage return at its end
pub record IsGoodTest (name : List ℕ) : Type 0 where
  pub one_line : All (λ b. b ≢ line_feed) name
  pub no_return : (front : List ℕ) → name ≢ front ++ carriage_return ∷ []

-- the name of a file or of a function: it fits into one line too, and isn't empty
pub record IsGoodName (name : List ℕ) : Type 0 where
  pub fits : IsGoodTest name
  pub some : 0 < length name

-- a byte that a checksum may have: all but comma, space, tab, carriage return and line feed
pub record IsChecksumByte (b : ℕ) : Type 0 where
  pub no_comma : b ≢ 44
  pub no_space : b ≢ 32
  pub no_tab : b ≢ 9
  pub no_return : b ≢ carriage_return
  pub no_feed : b ≢ line_feed

-- the checksum of a source line: one or more bytes that a checksum may have. It isn't compared with the source
-- (geninfo(1), FILES: DA)
pub record IsChecksum (checksum : List ℕ) : Type 0 where
  pub some : 0 < length checksum
  pub each : All IsChecksumByte checksum

-- the texts of an item are lawful: the name of a function, and the checksum of a line if it has one
abbrev pub IsLawfulItem : ItemData → Type 0
IsLawfulItem (LineItem line count (Some checksum)) = IsChecksum checksum
IsLawfulItem (LineItem line count None) = Unit {0}
IsLawfulItem (FuncItem name line count) = IsGoodName name
IsLawfulItem (BranchItem line block branch taken) = Unit {0}

-- the texts of a section and of its items are lawful
pub record IsLawfulSect (s : SectData) : Type 0 where
  pub test : IsGoodTest s.test
  pub file : IsGoodName s.file
  pub items : AllByRecursion IsLawfulItem s.items

-- the numbers of an item fit: its counts into 128 bits, all others into 64
abbrev pub FitsItem : ItemData → Type 0
FitsItem (LineItem line count checksum) = (line < 2 ^ 64) × (count < 2 ^ 128)
FitsItem (FuncItem name line count) = (line < 2 ^ 64) × (count < 2 ^ 128)
FitsItem (BranchItem line block branch None) = (line < 2 ^ 64) × (block < 2 ^ 64) × (branch < 2 ^ 64)
FitsItem (BranchItem line block branch (Some taken)) = (line < 2 ^ 64) × (block < 2 ^ 64) × (branch < 2 ^ 64) × (taken < 2 ^ 128)

abbrev pub AllFit : List ItemData → Type 0
AllFit items = AllByRecursion FitsItem items

-- what holds of each submission
pub record IsLawful (s : SubmissionData) : Type 0 where
  pub few : items_in s.sects ≤ max_items
  pub texts : All IsLawfulSect s.sects
  pub fit : AllByRecursion (λ sect. AllFit sect.items) s.sects
  pub odd_fits : s.odd < 2 ^ 64

-- the first section with an unlawful text has this number, counted from 0
abbrev pub IsFirstUnlawful : List SectData → ℕ → Type 0
IsFirstUnlawful sects k =
    (before : List SectData) × (bad : SectData) × (after : List SectData)
    × (sects ≡ before ++ bad ∷ after) × (length before ≡ k) × All IsLawfulSect before × ¬ IsLawfulSect bad

-- why sections make no submission: the number of items is tested first, then the texts in order
abbrev pub IsRefusedAs : List SectData → BadSubmission → Type 0
IsRefusedAs sects TooMany = max_items < items_in sects
IsRefusedAs sects (BadText k) = (items_in sects ≤ max_items) × IsFirstUnlawful sects k

-- the number of the fault, which stays the same in all versions
abbrev pub refusal_number : BadSubmission → ℕ
refusal_number TooMany = 1
refusal_number (BadText sect) = 2
