-- The sections of a file's tests, one test after another.
use Rattle.covstore.proofs.Words.{◌≡◌, ℕ, Bool, false, Option, Some, None, List, [], ◌∷◌, ◌++◌, map, sym, ap, ◌∙◌, subst, flat_map, AllByRecursion, false≢true, File, Test, SectionData, All-back, All-front, file_committed, files_committed, TestData, FileData, section_seen, sections_of, sections_of_file, test_committed}
use Rattle.std.specs.Iterator.{YieldsFirstBy}
use Rattle.std.specs.Option.{is_some}
use Rattle.std.proofs.lemmas.List.Folds.{flat_map-map}
use Rattle.covstore.specs.ContentView.{or_none, sections_left, tests_seen}

-- ---- the sections of a file

pub tests_of_pairs : {K A : Type 0} (name : K → List ℕ) (file : List ℕ) (kept : FileData) (pairs : List (K × Test A)) → kept.tests ≡ map (λ pair. (name pair.0, test_committed pair.1)) pairs
    → sections_of_file (file, kept) ≡ tests_seen name file kept.index.texts pairs
tests_of_pairs name file kept pairs is =
    ap (flat_map (λ (test : List ℕ × TestData). section_seen file kept.index.texts test.0 test.1)) is
    ∙ flat_map-map (λ (test : List ℕ × TestData). section_seen file kept.index.texts test.0 test.1) (λ pair. (name pair.0, test_committed pair.1)) pairs

-- ---- the next file

-- what is true of all sections that are left is true of those of the next file
pub all_of_next : {K A : Type 0} (P : SectionData → Type 0) (name : K → List ℕ) (current : Option (List SectionData)) (files : List (K × File A)) (all : List SectionData) (key : K) (file : File A) (rest : List (K × File A))
    → files ≡ (key, file) ∷ rest → sections_left name current files ≡ all → AllByRecursion P all → AllByRecursion P (sections_of_file (name key, file_committed file))
all_of_next {K = K} {A = A} P name current files all key file rest is left holds =
    let files_in : AllByRecursion P (sections_of (files_committed name files)) = All-back P (or_none current) (sections_of (files_committed name files)) (subst (AllByRecursion P) (sym left) holds) in
    All-front P (sections_of_file (name key, file_committed file)) (sections_of (files_committed name rest))
    (subst (λ (fs : List (K × File A)). AllByRecursion P (sections_of (files_committed name fs))) is files_in)

-- ---- the next file becomes the current one

pub none_at_hand : (next : Option SectionData) (before after : Option (List SectionData)) (b : Bool) → b ≡ is_some next → b ≡ false → YieldsFirstBy (λ s. s) or_none before next after → or_none before ≡ []
none_at_hand None before after b is none ends = ends.0
none_at_hand (Some s) before after b is none ends = absurd (false≢true (sym none ∙ is))

pub next_at_hand : {K A : Type 0} (name : K → List ℕ) (current : Option (List SectionData)) (files : List (K × File A)) (all : List SectionData) (key : K) (file : File A) (rest : List (K × File A)) (sections : List SectionData)
    → or_none current ≡ [] → files ≡ (key, file) ∷ rest → sections_left name current files ≡ all → sections ≡ sections_of_file (name key, file_committed file) → sections_left name (Some sections) rest ≡ all
next_at_hand {K = K} {A = A} name current files all key file rest sections none is left its =
    ap (λ (own : List SectionData). own ++ sections_of (files_committed name rest)) its
    ∙ sym (ap (λ (fs : List (K × File A)). sections_of (files_committed name fs)) is)
    ∙ sym (ap (λ (own : List SectionData). own ++ sections_of (files_committed name files)) none)
    ∙ left
