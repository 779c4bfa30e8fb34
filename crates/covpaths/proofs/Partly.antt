-- Sections that get new names from the first one on.
use Rattle.std.proofs.Common.{◌≡◌, ℕ, zero, suc, ◌<◌, Bool, List, [], ◌∷◌, length, map, take, Option, None, Some, refl, sym, ap, ◌∙◌, arith}
use Rattle.std.specs.Option.{option_map_or}
use Rattle.std.specs.Prelude.{option_map, slice_get, unwrap_or}
use Rattle.covdata.specs.Row.{SectData, SubmissionData}
use Rattle.covpacked.specs.NewNames.{test_set}
use Rattle.covpaths.specs.Names.{NamesData, marked, named_sect, used_after}
use Rattle.covpaths.specs.Paths.{MappedData, RuleData, first_mapped, mapped_path}
use Rattle.covpaths.specs.Steps.{file_in, mapped_sect, mapped_set, tested_sect}

-- a list of which the first `count` elements are replaced
abbrev pub partly : {X : Type 0} → (X → X) → (count : ℕ) → List X → List X
partly f zero xs = xs
partly f (suc count) [] = []
partly f (suc count) (x ∷ xs) = f x ∷ partly f count xs

pub partly_all : {X : Type 0} (f : X → X) (xs : List X) → partly f (length xs) xs ≡ map f xs
partly_all f [] = refl
partly_all f (x ∷ xs) = ap (λ (rest : List _). f x ∷ rest) (partly_all f xs)

pub partly_length : {X : Type 0} (f : X → X) (count : ℕ) (xs : List X) → length (partly f count xs) ≡ length xs
partly_length f zero xs = refl
partly_length f (suc count) [] = refl
partly_length f (suc count) (x ∷ xs) = ap suc (partly_length f count xs)

-- ---- paths

mapped_here : (m : Option MappedData) (s : SectData) (sects : List SectData)
    → mapped_set 0 m (s ∷ sects) ≡ record { test = s.test; file = option_map_or (λ (m : MappedData). m.path) m s.file; items = s.items } ∷ sects
mapped_here None s sects = refl
mapped_here (Some m) s sects = refl

mapped_later : (m : Option MappedData) (index : ℕ) (s : SectData) (sects : List SectData) → mapped_set (suc index) m (s ∷ sects) ≡ s ∷ mapped_set index m sects
mapped_later None index s sects = refl
mapped_later (Some m) index s sects = refl

-- the file that the section at this index is found to have
pub file_here : (index : ℕ) (sects : List SectData) (file : List ℕ) → Some file ≡ option_map (λ (s : SectData). s.file) (slice_get sects index) → file ≡ file_in index sects
file_here index [] file found = absurd cc
file_here zero (s ∷ sects) file found = cc
file_here (suc index) (s ∷ sects) file found = file_here index sects file found

-- the file of the next section is its own
pub file_next : (rules : List RuleData) (index : ℕ) (sects : List SectData) → file_in index (partly (mapped_sect rules) index sects) ≡ file_in index sects
file_next rules zero sects = refl
file_next rules (suc index) [] = refl
file_next rules (suc index) (s ∷ sects) = file_next rules index sects

-- one section more has its new path
pub mapped_next : (rules : List RuleData) (index : ℕ) (sects : List SectData) → index < length sects
    → mapped_set index (first_mapped rules (file_in index sects)) (partly (mapped_sect rules) index sects) ≡ partly (mapped_sect rules) (suc index) sects
mapped_next rules zero [] within = absurd (omega (arith, within))
mapped_next rules zero (s ∷ sects) within = mapped_here (first_mapped rules s.file) s sects
mapped_next rules (suc index) [] within = absurd (omega (arith, within))
mapped_next rules (suc index) (s ∷ sects) within =
    mapped_later (first_mapped rules (file_in index sects)) index (mapped_sect rules s) (partly (mapped_sect rules) index sects)
    ∙ ap (λ (rest : List SectData). mapped_sect rules s ∷ rest) (mapped_next rules index sects (omega (arith, within)))

-- and the rule for it is marked
pub used_next : (rules : List RuleData) (used : List Bool) (index : ℕ) (sects : List SectData) → index < length sects
    → marked (used_after rules used (take index sects)) (first_mapped rules (file_in index sects)) ≡ used_after rules used (take (suc index) sects)
used_next rules used zero [] within = absurd (omega (arith, within))
used_next rules used zero (s ∷ sects) within = refl
used_next rules used (suc index) [] within = absurd (omega (arith, within))
used_next rules used (suc index) (s ∷ sects) within = used_next rules (marked used (first_mapped rules s.file)) index sects (omega (arith, within))

-- ---- tests

pub tested_next : (test : List ℕ) (index : ℕ) (sects : List SectData) → index < length sects
    → test_set index test (partly (tested_sect test) index sects) ≡ partly (tested_sect test) (suc index) sects
tested_next test zero [] within = absurd (omega (arith, within))
tested_next test zero (s ∷ sects) within = refl
tested_next test (suc index) [] within = absurd (omega (arith, within))
tested_next test (suc index) (s ∷ sects) within = ap (λ (rest : List SectData). tested_sect test s ∷ rest) (tested_next test index sects (omega (arith, within)))

-- ---- both

abbrev pub submission : List SectData → (odd : ℕ) → SubmissionData
submission sects odd = record { sects = sects; odd = odd }

pub named_without : (names : NamesData) (sects : List SectData) → names.test ≡ None → map (mapped_sect names.rules) sects ≡ map (named_sect names) sects
named_without names [] none = refl
named_without names (s ∷ sects) none =
    ap (λ (t : Option (List ℕ)). record { test = unwrap_or t s.test; file = mapped_path names.rules s.file; items = s.items } ∷ map (mapped_sect names.rules) sects) (sym none)
    ∙ ap (λ (rest : List SectData). named_sect names s ∷ rest) (named_without names sects none)

pub named_with : (names : NamesData) (test : List ℕ) (sects : List SectData) → names.test ≡ Some test
    → map (tested_sect test) (map (mapped_sect names.rules) sects) ≡ map (named_sect names) sects
named_with names test [] some = refl
named_with names test (s ∷ sects) some =
    ap (λ (t : Option (List ℕ)). record { test = unwrap_or t s.test; file = mapped_path names.rules s.file; items = s.items } ∷ map (tested_sect test) (map (mapped_sect names.rules) sects)) (sym some)
    ∙ ap (λ (rest : List SectData). named_sect names s ∷ rest) (named_with names test sects some)
