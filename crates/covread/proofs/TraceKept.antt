-- What a section gives doesn't depend on its skipped lines, so a reader need not keep them.
use Rattle.std.proofs.Common.{◌≡◌, ℕ, ◌≤◌, Bool, false, cond, List, [], ◌∷◌, ◌++◌, length, Option, refl, sym, ap, ◌∙◌, arith}
use Rattle.std.specs.Prelude.{count_by, not, is_none, ◌==◌}
use Rattle.std.specs.List.{flat_map}
use Rattle.std.proofs.lemmas.List.Sums.{sum_by-cons}
use Rattle.covdata.specs.Points.{least}
use Rattle.covdata.specs.Row.{ItemData}
use Rattle.covdata.specs.Records.{LineData, FuncCount, Total, Skip}
use Rattle.covread.specs.Reads.{start_said, start_in, counted, items_said, items_of, own_total, is_odd}

-- the records without the skipped ones
abbrev pub without_skips : List LineData → List LineData
without_skips [] = []
without_skips (Skip ∷ more) = without_skips more
without_skips (says ∷ more) = says ∷ without_skips more

pub without_skips-append : (xs ys : List LineData) → without_skips (xs ++ ys) ≡ without_skips xs ++ without_skips ys
without_skips-append [] ys = refl
without_skips-append (Skip ∷ xs) ys = without_skips-append xs ys
without_skips-append (says ∷ xs) ys = ap (λ (x : List LineData). says ∷ x) (without_skips-append xs ys)

pub without_skips-length : (xs : List LineData) → length (without_skips xs) ≤ length xs
without_skips-length [] = omega arith
without_skips-length (Skip ∷ xs) = omega (arith, without_skips-length xs)
without_skips-length (says ∷ xs) = omega (arith, without_skips-length xs)

-- a list that `g` makes of records is the same without the skipped ones, if `g` gives nothing for these
flat_map_kept : {X : Type 0} (f g : LineData → List X) → ((says : LineData) → f says ≡ g says) → g Skip ≡ [] → (xs : List LineData) → flat_map f (without_skips xs) ≡ flat_map g xs
flat_map_kept f g same none [] = refl
flat_map_kept f g same none (Skip ∷ xs) = rw none (flat_map_kept f g same none xs)
flat_map_kept f g same none (says ∷ xs) =
    let here = same says in
    let rest = flat_map_kept f g same none xs in
    cc

count_kept : (p q : LineData → Bool) → ((says : LineData) → p says ≡ q says) → q Skip ≡ false → (xs : List LineData) → count_by p (without_skips xs) ≡ count_by q xs
count_kept p q same none [] = refl
count_kept p q same none (Skip ∷ xs) =
    let one = ap (λ (b : Bool). cond {A = ℕ} b 1 0) none in
    let all = sum_by-cons (λ (x : LineData). cond (q x) 1 0) Skip xs in
    let rest = count_kept p q same none xs in
    omega arith
count_kept p q same none (says ∷ xs) =
    let one = ap (λ (b : Bool). cond {A = ℕ} b 1 0) (same says) in
    let front = sum_by-cons (λ (x : LineData). cond (p x) 1 0) says (without_skips xs) in
    let all = sum_by-cons (λ (x : LineData). cond (q x) 1 0) says xs in
    let rest = count_kept p q same none xs in
    front ∙ (cc) ∙ sym all

start_kept : (name : List ℕ) (inside : List LineData) → start_in name (without_skips inside) ≡ start_in name inside
start_kept name inside = ap least (flat_map_kept (start_said name) (start_said name) (λ says. refl) refl inside)

items_said_kept : (inside : List LineData) (says : LineData) → items_said (without_skips inside) says ≡ items_said inside says
items_said_kept inside (FuncCount count name) = ap (counted name count) (start_kept name inside)
items_said_kept inside says = refl

-- a section has the same items without its skipped lines
pub items_kept : (inside : List LineData) → items_of (without_skips inside) ≡ items_of inside
items_kept inside = flat_map_kept (items_said (without_skips inside)) (items_said inside) (items_said_kept inside) refl inside

is_odd_kept : (inside : List LineData) (says : LineData) → is_odd (without_skips inside) says ≡ is_odd inside says
is_odd_kept inside (FuncCount count name) = ap (λ (start : Option ℕ). is_none start) (start_kept name inside)
is_odd_kept inside (Total kind value) = ap (λ (items : List ItemData). not (value == own_total kind items)) (items_kept inside)
is_odd_kept inside says = refl

-- a section has as many odd lines without its skipped lines
pub odd_kept : (inside : List LineData) → count_by (is_odd (without_skips inside)) (without_skips inside) ≡ count_by (is_odd inside) inside
odd_kept inside = count_kept (is_odd (without_skips inside)) (is_odd inside) (is_odd_kept inside) refl inside
