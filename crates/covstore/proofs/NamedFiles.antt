-- The names of the files in which a test has points, one after another.
use Rattle.covstore.proofs.Words.{◌≡◌, ◌≢◌, ℕ, Bool, true, false, cond, List, [], ◌∷◌, ◌++◌, length, map, filter, sym, ap, ◌∙◌, arith, length-append, names_with, FileData, has_points_of}

-- a file in which the test has no points adds no name
module _ (test : List ℕ) (pair : List ℕ × FileData) (files : List (List ℕ × FileData)) where
  names_at : (b : Bool) → List (List ℕ)
  names_at b = map (λ p. p.0) (cond b (pair ∷ filter (λ p. has_points_of test p.1) files) (filter (λ p. has_points_of test p.1) files))

  unnamed : has_points_of test pair.1 ≡ false → names_with test (pair ∷ files) ≡ names_with test files
  unfolding names_at
  unnamed e = ap names_at e

  named : has_points_of test pair.1 ≡ true → names_with test (pair ∷ files) ≡ pair.0 ∷ names_with test files
  unfolding names_at
  named e = ap names_at e

has_some : {X : Type 0} (xs : List X) (y : X) (ys : List X) → xs ++ y ∷ ys ≢ []
has_some xs y ys e = let same = ap length e in omega (arith, same, length-append xs (y ∷ ys))

-- the names so far and those of the files that are left are all names. They still are after a file without points, which adds no
-- name
module _ {X : Type 0} (name : X → List ℕ) (test : List ℕ) (all left : List (List ℕ × FileData)) (pair : List ℕ × FileData) (files : List (List ℕ × FileData)) (steps : left ≡ pair ∷ files)
    (names : List X) (so_far : map name names ++ names_with test left ≡ names_with test all) where
  pub none_named : has_points_of test pair.1 ≡ false → map name names ++ names_with test files ≡ names_with test all
  none_named e = ap (λ (more : List (List ℕ)). map name names ++ more) (sym (unnamed test pair files e)) ∙ ap (λ (more : List (List ℕ × FileData)). map name names ++ names_with test more) (sym steps) ∙ so_far

  -- if the test has points in a file, there is at least one name
  pub some_named : has_points_of test pair.1 ≡ true → names_with test all ≢ []
  some_named e none =
      has_some (map name names) pair.0 (names_with test files)
      (ap (λ (more : List (List ℕ)). map name names ++ more) (sym (named test pair files e)) ∙ ap (λ (more : List (List ℕ × FileData)). map name names ++ names_with test more) (sym steps) ∙ so_far ∙ none)
