-- Which lines of a text aren't read, and how one of them begins.
use Rattle.std.specs.Prelude.{◌≡◌, ◌≢◌, ◌⊎◌, ℕ, Bool, ◌||◌, ◌==◌, if◌then◌else◌, List, [], ◌∷◌, codes, take}
use Rattle.covdata.specs.Records.{Skip}
use Rattle.covline.specs.Spells.{Begins, BeginsWithOneOf, Spells}
use Rattle.covlcov2.specs.Spells.{Lcov2Spells, Plain}
use Rattle.covread.specs.Gcov.{IsShapeOf, Other}
use Rattle.covcheck.specs.declared.format.Format.{Format}
use Rattle.covcheck.specs.declared.format.Format.TheVariants as formats

-- a line of a tracefile that isn't read: it isn't empty, and begins neither with one of the twelve keys nor with
-- `end_of_record`
abbrev pub IsSkippedRecord : List ℕ → Type 0
IsSkippedRecord line = (line ≢ []) × Spells line Skip

-- a line on conditions (MC/DC): one of them, or a total. The manual page of LCOV 2.x names the totals `MRF:` and `MRH:`, and LCOV
-- writes `MCF:` and `MCH:`
abbrev pub IsOnConditions : List ℕ → Type 0
IsOnConditions line =
    BeginsWithOneOf (codes "MCDC:" ∷ codes "MCF:" ∷ codes "MCH:" ∷ codes "MRF:" ∷ codes "MRH:" ∷ []) line

-- a line of LCOV 2 that isn't read (geninfo(1) of LCOV 2.x, TRACEFILE FORMAT): a version of the source file, a comment, or a line on
-- conditions
abbrev pub IsOfLcov2Alone : List ℕ → Type 0
IsOfLcov2Alone line = Begins line (codes "VER:") ⊎ (Begins line (codes "#") ⊎ IsOnConditions line)

-- a line of a tracefile of LCOV 2 that isn't read, and that no LCOV of either version writes
abbrev pub IsSkippedLcov2 : List ℕ → Type 0
IsSkippedLcov2 line = (line ≢ []) × Lcov2Spells line (Plain Skip) × ¬ IsOfLcov2Alone line

-- a line of gcov's text that isn't read: it isn't empty, and has none of the known shapes
abbrev pub IsSkippedGcov : List ℕ → Type 0
IsSkippedGcov line = (line ≢ []) × IsShapeOf line Other

-- the lines that aren't read in a text of this format
abbrev pub IsSkippedIn : Format → List ℕ → Type 0
IsSkippedIn formats.Trace = IsSkippedRecord
IsSkippedIn formats.Lcov2 = IsSkippedLcov2
IsSkippedIn formats.Gcov = IsSkippedGcov

-- `those` are the elements of the list for which `holds` is true, in their order
abbrev pub AreAllThat : {X : Type 0} → (X → Type 0) → List X → List X → Type 0
AreAllThat holds [] those = those ≡ []
AreAllThat holds (x ∷ xs) those =
    (holds x × (others : List _) × (those ≡ x ∷ others) × AreAllThat holds xs others) ⊎ (¬ holds x × AreAllThat holds xs those)

-- ---- how a line begins

-- a colon, a space or a tab
abbrev pub is_cut : ℕ → Bool
is_cut b = b == 58 || b == 32 || b == 9

-- the bytes at the front, up to the first colon, space or tab
abbrev pub word_at : List ℕ → List ℕ
word_at [] = []
word_at (b ∷ bs) = if is_cut b then [] else b ∷ word_at bs

-- the colons, spaces and tabs at the front, and the bytes after them up to the next colon, space or tab
abbrev pub beginning_of : List ℕ → List ℕ
beginning_of [] = []
beginning_of (b ∷ bs) = if is_cut b then b ∷ beginning_of bs else b ∷ word_at bs

-- the beginning of a line, looked for in its first 16 bytes. It is empty only if the line is
abbrev pub start_of : List ℕ → List ℕ
start_of line = beginning_of (take 16 line)
