-- If each job has a seat, there are at least as many seats as jobs. If there are no more seats than jobs, no job has two.
use Rattle.std.proofs.Common.{◌≡◌, ◌∙◌, ℕ, zero, suc, ◌+◌, ◌<◌, ◌≤◌, Bool, true, cond, ltb, ◌||◌, List, [], ◌∷◌, length, map, inl, inr, ap, sym, refl, arith}
use Rattle.std.specs.Prelude.{◌≢◌}
use Rattle.std.specs.List.{AllByRecursion, list_any}
use Rattle.std.proofs.Math.Dec.{eqb}
use Rattle.std.proofs.lemmas.Bool.{cases_eq, cases_lt, cases_order, eqb-true, eq-eqb, lt-ltb, le-ltb, ne_eqb, or_cases}
use Rattle.std.proofs.lemmas.Map.Steps.{le-length_from_below}
use Rattle.covbook.specs.Gather.{Differ}
use Rattle.covbook.specs.GatherSteps.{below, times}
use Rattle.covbook.proofs.PlaceCounts.{In, in_times, below_step}
use Rattle.covlock.specs.Handed.{is_seated, AllAreSeated}
use Rattle.covlock.specs.Seat.{SeatData}

abbrev jobs_of : List SeatData → List ℕ
jobs_of seats = map (λ s. s.job) seats

seated_by_job : (seats : List SeatData) (job : ℕ) → list_any (eqb job) (jobs_of seats) ≡ is_seated seats job
seated_by_job [] job = refl
seated_by_job (s ∷ seats) job = ap (λ (rest : Bool). eqb job s.job || rest) (seated_by_job seats job)

length_of_jobs : (seats : List SeatData) → length (jobs_of seats) ≡ length seats
length_of_jobs [] = refl
length_of_jobs (s ∷ seats) = ap (λ (n : ℕ). suc n) (length_of_jobs seats)

pub all_need_seats : (jobs : ℕ) (seats : List SeatData) → AllAreSeated jobs seats → jobs ≤ length seats
all_need_seats jobs seats all = rw (← length_of_jobs seats) (le-length_from_below (jobs_of seats) jobs (λ job is_job. seated_by_job seats job ∙ all job is_job))

-- ---- a list with each number below n, and with no more than n elements, has no number twice

in_any : (xs : List ℕ) (x : ℕ) → list_any (eqb x) xs ≡ true → In x xs
in_any [] x any = absurd (cc any)
in_any (y ∷ ys) x any = elim (or_cases (eqb x y) (list_any (eqb x) ys) any) [ inl here ↦ inl (sym (eqb-true x y here)) | inr there ↦ inr (in_any ys x there) ]

-- the elements below n, and those that are a number from n on, are not more than all
one_of_both : (x y n : ℕ) → n ≤ x → cond (ltb y n) 1 0 + cond (eqb x y) 1 0 ≤ 1
one_of_both x y n above = elim (cases_lt y n) [
  | inl lt ↦
      let low : ◌≡◌ {A = ℕ} (cond (ltb y n) 1 0) 1 = ap (λ (t : Bool). cond t 1 0) (lt-ltb y n lt) in
      let other : ◌≡◌ {A = ℕ} (cond (eqb x y) 1 0) 0 = ap (λ (t : Bool). cond t 1 0) (ne_eqb x y (λ (e : x ≡ y). omega (arith, e, lt, above))) in
      omega (arith, low, other)
  | inr ge ↦
      let low : ◌≡◌ {A = ℕ} (cond (ltb y n) 1 0) 0 = ap (λ (t : Bool). cond t 1 0) (le-ltb y n ge) in
      elim (cases_eq x y) [
        | inl e ↦ let here : ◌≡◌ {A = ℕ} (cond (eqb x y) 1 0) 1 = ap (λ (t : Bool). cond t 1 0) (eq-eqb x y e) in omega (arith, low, here)
        | inr ne ↦ let here : ◌≡◌ {A = ℕ} (cond (eqb x y) 1 0) 0 = ap (λ (t : Bool). cond t 1 0) (ne_eqb x y ne) in omega (arith, low, here)
      ]
]

sums_within : (a b c d e : ℕ) → a + b ≤ 1 → c + d ≤ e → (a + c) + (b + d) ≤ suc e
sums_within a b c d e h k = omega (arith, h, k)

both_within : (xs : List ℕ) (x n : ℕ) → n ≤ x → below n xs + times x xs ≤ length xs
both_within [] x n above = omega arith
both_within (y ∷ ys) x n above =
    sums_within (cond (ltb y n) 1 0) (cond (eqb x y) 1 0) (below n ys) (times x ys) (length ys) (one_of_both x y n above) (both_within ys x n above)

all_below : (xs : List ℕ) (n : ℕ) → ((x : ℕ) → x < n → 1 ≤ times x xs) → (m : ℕ) → m ≤ n → m ≤ below m xs
all_below xs n all zero few = omega arith
all_below xs n all (suc m) few =
    let here = all m (omega (arith, few)) in
    let rest = all_below xs n all m (omega (arith, few)) in
    omega (arith, here, rest, below_step m xs)

less_of : (x m : ℕ) → x < suc m → (x ≡ m → ⊥) → x < m
less_of x m lt other = elim (cases_order x m) [ inl e ↦ absurd (other e) | inr apart ↦ elim apart [ inl less ↦ less | inr more ↦ omega (arith, lt, more) ] ]

twice_below : (xs : List ℕ) (n x : ℕ) → ((y : ℕ) → y < n → 1 ≤ times y xs) → 2 ≤ times x xs → (m : ℕ) → m ≤ n → x < m → suc m ≤ below m xs
twice_below xs n x all twice zero few lt = absurd (omega (arith, lt))
twice_below xs n x all twice (suc m) few lt = elim (cases_eq x m) [
  | inl e ↦
      let here : times x xs ≡ times m xs = ap (λ (y : ℕ). times y xs) e in
      let rest = all_below xs n all m (omega (arith, few)) in
      omega (arith, twice, here, rest, below_step m xs)
  | inr other ↦
      let here = all m (omega (arith, few)) in
      let rest = twice_below xs n x all twice m (omega (arith, few)) (less_of x m lt other) in
      omega (arith, here, rest, below_step m xs)
]

once : (xs : List ℕ) (n : ℕ) → ((x : ℕ) → x < n → 1 ≤ times x xs) → length xs ≤ n → (x : ℕ) → times x xs ≤ 1
once xs n all few x = elim (cases_lt (times x xs) 2) [
  | inl less ↦ omega (arith, less)
  | inr twice ↦ elim (cases_lt x n) [
    | inl lt ↦
        let more = twice_below xs n x all twice n (omega arith) lt in
        let most = both_within xs n n (omega arith) in
        omega (arith, more, most, few)
    | inr ge ↦
        let least = all_below xs n all n (omega arith) in
        let most = both_within xs x n ge in
        omega (arith, least, most, few)
  ]
]

others : (xs : List ℕ) (x : ℕ) → times x xs ≡ 0 → AllByRecursion (λ (y : ℕ). x ≢ y) xs
others [] x none = tt
others (y ∷ ys) x none = (
  λ (e : x ≡ y). let some = in_times (y ∷ ys) x (inl (sym e)) in omega (arith, some, none),
  others ys x (omega (arith, none)),
)

differ : (xs : List ℕ) → ((x : ℕ) → times x xs ≤ 1) → Differ xs
differ [] once = tt
differ (x ∷ xs) once =
    let here : ◌≡◌ {A = ℕ} (cond (eqb x x) 1 0) 1 = ap (λ (t : Bool). cond t 1 0) (eq-eqb x x refl) in (
      others xs x (omega (arith, here, once x)),
      differ xs (λ (y : ℕ). omega (arith, once y)),
    )

pub jobs_differ : (jobs : ℕ) (seats : List SeatData) → AllAreSeated jobs seats → length seats ≤ jobs → Differ (jobs_of seats)
jobs_differ jobs seats all few =
    differ (jobs_of seats)
    (once (jobs_of seats) jobs (λ job is_job. in_times (jobs_of seats) job (in_any (jobs_of seats) job (seated_by_job seats job ∙ all job is_job))) (omega (arith, length_of_jobs seats, few)))
