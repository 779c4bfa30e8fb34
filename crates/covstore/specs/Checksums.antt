-- The checksums of a file's lines: how many tests hold each one, and its text.
use Rattle.std.specs.Prelude.{◌≡◌, ℕ, ◌+◌, Bool, true, false, Option, Some, None, List}
use Rattle.std.specs.Option.{is_some}
use Rattle.std.specs.Ordering.{nat_cmp}
use Rattle.covstore.specs.declared.stage.fault.StageFault.{StageFault}
use Rattle.covstore.specs.declared.stage.fault.StageFault.TheVariants.{Clash, Memory}
use Rattle.covmap.specs.MapData.{MapData}
use Rattle.covmap.specs.Puts.{put, value_of}
use Rattle.covstore.specs.KeptTexts.{KeptTextsData}

-- `committed` and `staged` have for each line how many tests hold a checksum of it. `texts` has the texts of the checksums
pub record ChecksumsData : Type 0 where
  pub committed : List (ℕ × ℕ)
  pub staged : List (ℕ × ℕ)
  pub texts : List (ℕ × List ℕ)

-- if a test holds a checksum of a line, `texts` has the text of that checksum
abbrev pub HaveTexts : List (ℕ × ℕ) → List (ℕ × List ℕ) → Type 0
HaveTexts holders texts = (line : ℕ) → is_some (value_of nat_cmp line holders) ≡ true → is_some (value_of nat_cmp line texts) ≡ true

-- each line with a committed checksum has a staged one
abbrev pub AreAmong : List (ℕ × ℕ) → List (ℕ × ℕ) → Type 0
AreAmong committed staged = (line : ℕ) → is_some (value_of nat_cmp line committed) ≡ true → is_some (value_of nat_cmp line staged) ≡ true

-- each line with a checksum, committed or staged, has a staged text. Each line with a committed checksum also has a committed
-- text and a staged checksum
pub record AreTexts (holders : MapData ℕ ℕ) (texts : KeptTextsData) : Type 0 where
  pub committed : HaveTexts holders.committed texts.committed
  pub staged : HaveTexts holders.staged texts.staged
  pub committed_staged : HaveTexts holders.committed texts.staged
  pub among : AreAmong holders.committed holders.staged

-- each line with a held checksum keeps its text
abbrev pub StayTexts : List (ℕ × ℕ) → List (ℕ × List ℕ) → List (ℕ × List ℕ) → Type 0
StayTexts holders texts more = (line : ℕ) → is_some (value_of nat_cmp line holders) ≡ true → value_of nat_cmp line more ≡ value_of nat_cmp line texts

-- each line with a held checksum keeps it, and keeps its text
pub record KeepsTexts (holders : List (ℕ × ℕ)) (texts : List (ℕ × List ℕ)) (more_holders : List (ℕ × ℕ)) (more_texts : List (ℕ × List ℕ)) : Type 0 where
  pub committed : (line : ℕ) → is_some (value_of nat_cmp line holders) ≡ true → is_some (value_of nat_cmp line more_holders) ≡ true
  pub texts_stay : (line : ℕ) → is_some (value_of nat_cmp line holders) ≡ true → value_of nat_cmp line more_texts ≡ value_of nat_cmp line texts

-- `one_more` is the number of tests after one more is counted. `held_more` is `holders` after a test holds a checksum of the
-- line. If the test held it before (`true`), it isn't counted again
abbrev pub one_more : Option ℕ → ℕ
one_more None = 1
one_more (Some tests) = tests + 1

abbrev pub held_more : ℕ → Bool → List (ℕ × ℕ) → List (ℕ × ℕ)
held_more line true holders = holders
held_more line false holders = put nat_cmp line (one_more (value_of nat_cmp line holders)) holders

-- afterwards, some test holds a checksum of the line, and the checksum is `text`. If a test held a checksum of the line before,
-- it was `text` too
pub record IsHeldToo (line : ℕ) (text : List ℕ) (before after : ChecksumsData) : Type 0 where
  pub is_held : is_some (value_of nat_cmp line after.staged) ≡ true
  pub is_kept : value_of nat_cmp line after.texts ≡ Some text
  pub agrees : is_some (value_of nat_cmp line before.staged) ≡ true → value_of nat_cmp line before.texts ≡ Some text

-- some test holds a checksum of the line: it is `held`, and it differs from `given`
pub record IsOther (before : ChecksumsData) (line : ℕ) (held given : List ℕ) : Type 0 where
  pub is_held : is_some (value_of nat_cmp line before.staged) ≡ true
  pub is_kept : value_of nat_cmp line before.texts ≡ Some held
  pub other : held ≡ given → ⊥

-- if the fault is a clash, it reports the line, its held checksum, and the given checksum, which differs from the held one
abbrev pub IsReportedClash : {A : Type 0} → ChecksumsData → ℕ → List ℕ → StageFault A → Type 0
IsReportedClash before line text Memory = Unit {0}
IsReportedClash before line text (Clash told held given) = (told ≡ line) × (given ≡ text) × IsOther before line held text
