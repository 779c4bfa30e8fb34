-- If the places of some calls differ, and the calls weigh as much as those of a history with n entries, then there are n of them,
-- and each place is below n: different numbers have at least the sum of as many numbers from 0 on, and only those have this sum.
use Rattle.std.proofs.Common.{◌≡◌, ℕ, zero, suc, ◌+◌, ◌*◌, ◌<◌, ◌≤◌, Bool, true, false, cond, eqb, ltb, List, [], ◌∷◌, ◌++◌, length, sym, refl, ap, ◌∙◌, inl, inr, subst, arith}
use Rattle.std.specs.Prelude.{◌⊎◌}
use Rattle.std.specs.List.{AllByRecursion}
use Rattle.std.proofs.lemmas.Bool.{cases_eq, cases_order, lt-ltb, le-ltb, eq-eqb, ne_eqb}
use Rattle.covbook.specs.GatherSteps.{below, times}
use Rattle.covbook.specs.Step.{max_entries}
use Rattle.covbook.proofs.PlaceCounts.{In, In-all, in_times, below_step, below_none, below_most}
use Rattle.covlock.specs.Weight.{weight, weight_below}

-- the sum of the numbers that are below this one
abbrev low : ℕ → List ℕ → ℕ
low m [] = 0
low m (x ∷ xs) = cond (ltb x m) x 0 + low m xs

-- the sum of all numbers
abbrev all : List ℕ → ℕ
all [] = 0
all (x ∷ xs) = x + all xs

-- 0 + 1 + .. + (n - 1)
abbrev stairs : ℕ → ℕ
stairs zero = 0
stairs (suc n) = stairs n + n

-- a number that isn't in the list adds nothing to the sum; one that is there once adds itself
abbrev Adds : ℕ → List ℕ → Type 0
Adds m xs = ((times m xs ≡ 0) × (low (suc m) xs ≡ low m xs)) ⊎ ((times m xs ≡ 1) × (low (suc m) xs ≡ low m xs + m))

if_yes : (b : Bool) (x : ℕ) → b ≡ true → cond b x 0 ≡ x
if_yes b x e = ap (λ (t : Bool). cond t x 0) e

if_no : (b : Bool) (x : ℕ) → b ≡ false → cond b x 0 ≡ 0
if_no b x e = ap (λ (t : Bool). cond t x 0) e

same_head : (x m : ℕ) → (m ≡ x → ⊥) → cond (ltb x (suc m)) x 0 ≡ cond (ltb x m) x 0
same_head x m other = elim (cases_order x m) [
  | inl e ↦ absurd (other (sym e))
  | inr apart ↦ elim apart [
    | inl lt ↦ if_yes (ltb x (suc m)) x (lt-ltb x (suc m) (omega (arith, lt))) ∙ sym (if_yes (ltb x m) x (lt-ltb x m lt))
    | inr gt ↦ if_no (ltb x (suc m)) x (le-ltb x (suc m) (omega (arith, gt))) ∙ sym (if_no (ltb x m) x (le-ltb x m (omega (arith, gt))))
  ]
]

sum_same : (a b c d : ℕ) → a ≡ b → c ≡ d → a + c ≡ b + d
sum_same a b c d h k = omega (arith, h, k)

sum_more : (a b c d m : ℕ) → a ≡ b → c ≡ d + m → a + c ≡ (b + d) + m
sum_more a b c d m h k = omega (arith, h, k)

sum_here : (a b c d m x : ℕ) → a ≡ x → b ≡ 0 → m ≡ x → c ≡ d → a + c ≡ (b + d) + m
sum_here a b c d m x h k e l = omega (arith, h, k, e, l)

adds : (xs : List ℕ) (m : ℕ) → times m xs ≤ 1 → Adds m xs
adds [] m once = inl (refl, refl)
adds (x ∷ xs) m once = elim (cases_eq m x) [
  | inl e ↦
      let one : ◌≡◌ {A = ℕ} (cond (eqb m x) 1 0) 1 = if_yes (eqb m x) 1 (eq-eqb m x e) in
      let here : cond (ltb x (suc m)) x 0 ≡ x = if_yes (ltb x (suc m)) x (lt-ltb x (suc m) (omega (arith, e))) in
      let not_yet : cond (ltb x m) x 0 ≡ 0 = if_no (ltb x m) x (le-ltb x m (omega (arith, e))) in
      elim (adds xs m (omega (arith, one, once))) [
        | inl none ↦ inr (
          sum_same (cond (eqb m x) 1 0) 1 (times m xs) 0 one none.0,
          sum_here (cond (ltb x (suc m)) x 0) (cond (ltb x m) x 0) (low (suc m) xs) (low m xs) m x here not_yet e none.1,
        )
        | inr more ↦ absurd (omega (arith, one, once, more.0))
      ]
  | inr other ↦
      let no : ◌≡◌ {A = ℕ} (cond (eqb m x) 1 0) 0 = if_no (eqb m x) 1 (ne_eqb m x other) in
      let head = same_head x m other in
      elim (adds xs m (omega (arith, no, once))) [
        | inl none ↦ inl (
          sum_same (cond (eqb m x) 1 0) 0 (times m xs) 0 no none.0,
          sum_same (cond (ltb x (suc m)) x 0) (cond (ltb x m) x 0) (low (suc m) xs) (low m xs) head none.1,
        )
        | inr more ↦ inr (
          sum_same (cond (eqb m x) 1 0) 0 (times m xs) 1 no more.0,
          sum_more (cond (ltb x (suc m)) x 0) (cond (ltb x m) x 0) (low (suc m) xs) (low m xs) m head more.1,
        )
      ]
]

-- ---- different numbers have at least the sum of as many numbers from 0 on

stairs_up : (n m : ℕ) → n ≡ suc m → stairs n ≡ stairs m + m
stairs_up n m e = ap (λ (k : ℕ). stairs k) e

least : (xs : List ℕ) → ((x : ℕ) → times x xs ≤ 1) → (m : ℕ) → stairs (below m xs) ≤ low m xs
least xs once zero = let none : stairs (below 0 xs) ≡ 0 = ap (λ (k : ℕ). stairs k) (below_none xs) in omega (arith, none)
least xs once (suc m) = elim (adds xs m (once m)) [
  | inl none ↦
      let same : below (suc m) xs ≡ below m xs = omega (arith, below_step m xs, none.0) in
      let up : stairs (below (suc m) xs) ≡ stairs (below m xs) = ap (λ (k : ℕ). stairs k) same in
      omega (arith, up, none.1, least xs once m)
  | inr more ↦
      let next : below (suc m) xs ≡ suc (below m xs) = omega (arith, below_step m xs, more.0) in
      let up : stairs (below (suc m) xs) ≡ stairs (below m xs) + below m xs = stairs_up (below (suc m) xs) (below m xs) next in
      omega (arith, up, more.1, least xs once m, below_most xs once m)
]

other_is_less : (p m : ℕ) → p < suc m → (p ≡ m → ⊥) → p < m
other_is_less p m lt other = elim (cases_order p m) [ inl e ↦ absurd (other e) | inr apart ↦ elim apart [ inl less ↦ less | inr more ↦ omega (arith, lt, more) ] ]

none_of : (xs : List ℕ) (p m : ℕ) → times m xs ≡ 0 → In p xs → p ≡ m → ⊥
none_of xs p m none there is =
    let once = in_times xs m (subst (λ (q : ℕ). In q xs) is there) in
    omega (arith, none, once)

-- if they have exactly this sum, they are the numbers from 0 on
tight : (xs : List ℕ) → ((x : ℕ) → times x xs ≤ 1) → (m : ℕ) → low m xs ≡ stairs (below m xs) → (p : ℕ) → p < m → In p xs → p < below m xs
tight xs once zero full p lt there = absurd (omega (arith, lt))
tight xs once (suc m) full p lt there = elim (adds xs m (once m)) [
  | inl none ↦
      let same : below (suc m) xs ≡ below m xs = omega (arith, below_step m xs, none.0) in
      let up : stairs (below (suc m) xs) ≡ stairs (below m xs) = ap (λ (k : ℕ). stairs k) same in
      let under : p < below m xs = tight xs once m (omega (arith, full, up, none.1)) p (other_is_less p m lt (none_of xs p m none.0 there)) there in
      omega (arith, same, under)
  | inr more ↦
      let next : below (suc m) xs ≡ suc (below m xs) = omega (arith, below_step m xs, more.0) in
      let up : stairs (below (suc m) xs) ≡ stairs (below m xs) + below m xs = stairs_up (below (suc m) xs) (below m xs) next in
      omega (arith, up, full, more.1, least xs once m, below_most xs once m, next, lt)
]

-- ---- weights

one_more : (n : ℕ) → 1 + n ≡ suc n
one_more n = omega arith

all_within : (m : ℕ) (xs : List ℕ) → AllByRecursion (λ (x : ℕ). x < m) xs → (below m xs ≡ length xs) × (low m xs ≡ all xs)
all_within m [] within = (refl, refl)
all_within m (x ∷ xs) within =
    let yes = lt-ltb x m within.0 in
    let rest = all_within m xs within.1 in (
      sum_same (cond (ltb x m) 1 0) 1 (below m xs) (length xs) (if_yes (ltb x m) 1 yes) rest.0 ∙ one_more (length xs),
      sum_same (cond (ltb x m) x 0) x (low m xs) (all xs) (if_yes (ltb x m) x yes) rest.1,
    )

weight_is : (xs : List ℕ) → weight xs ≡ 2199023255552 * length xs + all xs
weight_is [] = refl
weight_is (x ∷ xs) = omega (arith, weight_is xs)

weight_below_is : (n : ℕ) → weight_below n ≡ 2199023255552 * n + stairs n
weight_below_is zero = refl
weight_below_is (suc n) = omega (arith, weight_below_is n)

all_few : (xs : List ℕ) → AllByRecursion (λ (x : ℕ). x < 1048576) xs → all xs ≤ 1048576 * length xs
all_few [] within = omega arith
all_few (x ∷ xs) within = omega (arith, within.0, all_few xs within.1)

stairs_few : (n : ℕ) → n ≤ 1048576 → stairs n ≤ 1048576 * n
stairs_few zero few = omega arith
stairs_few (suc n) few = omega (arith, few, stairs_few n (omega (arith, few)))

-- a sum of weights tells how many there are, and the sum of the places
split : (k n s t : ℕ) → 2199023255552 * k + s ≡ 2199023255552 * n + t → s ≤ 1048576 * k → t ≤ 1048576 * n → n ≤ 1048576 → (k ≡ n) × (s ≡ t)
split k n s t same few less most = elim (cases_order k n) [
  | inl e ↦ (e, omega (arith, same, e))
  | inr apart ↦ elim apart [
    | inl lt ↦ absurd (omega (arith, same, few, less, most, lt))
    | inr gt ↦ absurd (omega (arith, same, few, less, most, gt))
  ]
]

pub weight_append : (xs ys : List ℕ) → weight (xs ++ ys) ≡ weight xs + weight ys
weight_append [] ys = omega arith
weight_append (x ∷ xs) ys = omega (arith, weight_append xs ys)

-- the places of some calls differ, and the calls weigh as much as those of a history with this many entries
pub record AreWeighed (places : List ℕ) (n : ℕ) : Type 0 where
  pub once : (place : ℕ) → times place places ≤ 1
  pub few : AllByRecursion (λ (place : ℕ). place < max_entries) places
  pub most : n ≤ max_entries
  pub weight : weight places ≡ weight_below n

split_of : (xs : List ℕ) (n : ℕ) → AreWeighed xs n → (length xs ≡ n) × (all xs ≡ stairs n)
split_of xs n are =
    split (length xs) n (all xs) (stairs n) (sym (weight_is xs) ∙ are.weight ∙ weight_below_is n) (all_few xs are.few) (stairs_few n are.most) are.most

pub as_many : (xs : List ℕ) (n : ℕ) → AreWeighed xs n → length xs ≡ n
as_many xs n are = (split_of xs n are).0

pub place_below : (xs : List ℕ) (n : ℕ) → AreWeighed xs n → (p : ℕ) → In p xs → p < n
place_below xs n are p there =
    let agree = split_of xs n are in
    let whole = all_within max_entries xs are.few in
    let full : below max_entries xs ≡ n = whole.0 ∙ agree.0 in
    let sum : low max_entries xs ≡ stairs (below max_entries xs) = whole.1 ∙ agree.1 ∙ sym (ap (λ (k : ℕ). stairs k) full) in
    subst (λ (k : ℕ). p < k) full (tight xs are.once max_entries sum p (In-all (λ (q : ℕ). q < max_entries) xs p are.few there) there)
