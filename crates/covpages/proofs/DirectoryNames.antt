-- The directory of a path, which comes before the slash before its name.
use Rattle.std.proofs.Common.{◌≡◌, ℕ, suc, ◌-◌, ◌≤◌, Bool, true, false, ◌==◌, List, [], ◌∷◌, ◌++◌, length, take, refl, sym, ap, ◌∙◌, arith}
use Rattle.std.proofs.Math.Seq.{take-append_seam}
use Rattle.std.proofs.lemmas.Bool.{cond-true, cond-false, false≢true}
use Rattle.covhtml.specs.IndexPage.{begins_name, name_in, name_of}
use Rattle.covpages.specs.Directories.{before_slash, directory_of}

name_within : (name path : List ℕ) (most : ℕ) → length name ≤ most → length path ≤ most → length (name_in name path) ≤ most
name_within name [] most few short = few
name_within name (b ∷ path) most few short =
    by (begins_name b path) refl (name_within path path most (omega arith) (omega arith)) (name_within name path most few (omega arith))
  where
    by : (r : Bool) → begins_name b path ≡ r → length (name_in path path) ≤ most → length (name_in name path) ≤ most → length (name_in name (b ∷ path)) ≤ most
    by true is here after = omega (arith, ap length (cond-true (begins_name b path) (name_in path path) (name_in name path) is), here)
    by false is here after = omega (arith, ap length (cond-false (begins_name b path) (name_in path path) (name_in name path) is), after)

pub name_short : (path : List ℕ) → length (name_of path) ≤ length path
name_short path = name_within path path (length path) (omega arith) (omega arith)

before_last : (d : ℕ) (ds : List ℕ) (slash : ℕ) → before_slash (d ∷ (ds ++ slash ∷ [])) ≡ take (length (ds ++ slash ∷ [])) (d ∷ (ds ++ slash ∷ []))
before_last d [] slash = refl
before_last d (e ∷ ds) slash = refl

length-more : (ds : List ℕ) (slash : ℕ) → length (ds ++ slash ∷ []) ≡ length (slash ∷ ds)
length-more [] slash = refl
length-more (d ∷ ds) slash = ap suc (length-more ds slash)

module _ (path front : List ℕ) (is : front ≡ take (length path - length (name_of path)) path) where
  pub before_name : (directory : List ℕ) (slash : ℕ) → front ≡ directory ++ slash ∷ [] → (directory ≡ [] → ⊥) → directory ≡ directory_of path
  before_name [] slash ends some = absurd (some refl)
  before_name (d ∷ ds) slash ends some =
      sym (take-append_seam (d ∷ ds) (slash ∷ []))
      ∙ ap (λ (n : ℕ). take n ((d ∷ ds) ++ slash ∷ [])) (sym (length-more ds slash))
      ∙ sym (before_last d ds slash) ∙ ap before_slash (sym ends ∙ is)

pub not_none : (xs : List ℕ) → (length xs == 0) ≡ false → xs ≡ [] → ⊥
not_none [] some e = false≢true (sym some)
not_none (x ∷ xs) some e = cc
