-- What a star takes, and why no star before the last one has to take more.
use Rattle.std.proofs.Common.{◌≡◌, ℕ, true, ◌||◌, ◌⊎◌, inl, inr, List, [], ◌∷◌, ◌++◌, refl, sym, ap, ◌∙◌}
use Rattle.std.proofs.lemmas.Bool.{or_cases, or_left, or_right, and_parts}
use Rattle.covreport.specs.Pattern.{Part, AnyRun, OneByte, ByteSet, takes, fits}
use Rattle.covreport.specs.PatternSteps.{fits_later}

-- a star takes the empty run or a longer one
pub fits_run : (parts : List Part) (path : List ℕ) → (fits parts path || fits_later parts path) ≡ fits (AnyRun ∷ parts) path
fits_run parts [] = refl
fits_run parts (b ∷ path) = refl

pub fits_now : (parts : List Part) (path : List ℕ) → fits parts path ≡ true → fits (AnyRun ∷ parts) path ≡ true
fits_now parts path e = sym (fits_run parts path) ∙ or_left (fits parts path) (fits_later parts path) e

pub fits_after : (parts : List Part) (path : List ℕ) → fits_later parts path ≡ true → fits (AnyRun ∷ parts) path ≡ true
fits_after parts path e = sym (fits_run parts path) ∙ or_right (fits parts path) (fits_later parts path) e

run_cases : (parts : List Part) (path : List ℕ) → fits (AnyRun ∷ parts) path ≡ true → (fits parts path ≡ true) ⊎ (fits_later parts path ≡ true)
run_cases parts path e = or_cases (fits parts path) (fits_later parts path) (fits_run parts path ∙ e)

-- if a star, a part of one byte and other parts fit a path, the star and the other parts fit the path without its first byte
pub star_over_byte : (set : ByteSet) (parts : List Part) (b : ℕ) (path : List ℕ) → fits (AnyRun ∷ OneByte set ∷ parts) (b ∷ path) ≡ true → fits (AnyRun ∷ parts) path ≡ true
star_over_byte set parts b [] e =
    elim (run_cases (OneByte set ∷ parts) (b ∷ []) e) [
      | inl now ↦ fits_now parts [] (and_parts (takes set b) (fits parts []) now).1
      | inr later ↦ absurd cc
    ]
star_over_byte set parts b (c ∷ path) e =
    elim (run_cases (OneByte set ∷ parts) (b ∷ c ∷ path) e) [
      | inl now ↦ fits_now parts (c ∷ path) (and_parts (takes set b) (fits parts (c ∷ path)) now).1
      | inr later ↦ or_right (fits parts (c ∷ path)) (fits (AnyRun ∷ parts) path) (star_over_byte set parts c path later)
    ]

-- if two stars and other parts fit a path, one star and the other parts fit it too
pub star_star : (parts : List Part) (path : List ℕ) → fits (AnyRun ∷ AnyRun ∷ parts) path ≡ true → fits (AnyRun ∷ parts) path ≡ true
star_star parts [] e =
    elim (run_cases (AnyRun ∷ parts) [] e) [ inl now ↦ now | inr later ↦ absurd cc ]
star_star parts (b ∷ path) e =
    elim (run_cases (AnyRun ∷ parts) (b ∷ path) e) [
      | inl now ↦ now
      | inr later ↦ or_right (fits parts (b ∷ path)) (fits (AnyRun ∷ parts) path) (star_star parts path later)
    ]

-- ---- the law

abbrev pub SomeEndFits : List Part → List ℕ → Type 0
SomeEndFits parts path = (run end : List ℕ) × (path ≡ run ++ end) × (fits parts end ≡ true)

pub end_found : (parts : List Part) (path : List ℕ) → fits (AnyRun ∷ parts) path ≡ true → SomeEndFits parts path
end_found parts [] e =
    elim (run_cases parts [] e) [ inl now ↦ ([], [], refl, now) | inr later ↦ absurd cc ]
end_found parts (b ∷ path) e =
    elim (run_cases parts (b ∷ path) e) [
      | inl now ↦ ([], b ∷ path, refl, now)
      | inr later ↦ let more = end_found parts path later in (b ∷ more.0, more.1, ap (λ (t : List ℕ). b ∷ t) more.2, more.3)
    ]

found_later : (parts : List Part) (run end : List ℕ) → fits parts end ≡ true → fits (AnyRun ∷ parts) (run ++ end) ≡ true
found_later parts [] end e = fits_now parts end e
found_later parts (b ∷ run) end e = or_right (fits parts (b ∷ (run ++ end))) (fits (AnyRun ∷ parts) (run ++ end)) (found_later parts run end e)

pub end_fits : (parts : List Part) (path : List ℕ) → SomeEndFits parts path → fits (AnyRun ∷ parts) path ≡ true
end_fits parts path some = rw some.2 (found_later parts some.0 some.1 some.3)
