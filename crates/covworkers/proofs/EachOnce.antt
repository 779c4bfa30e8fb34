-- If a history is a merge of logs, these logs together have each place of the history once: receipts of different jobs have
-- different places.
use Rattle.std.proofs.Common.{◌≡◌, ℕ, zero, suc, ◌+◌, ◌<◌, ◌≤◌, Bool, true, false, cond, eqb, List, [], ◌∷◌, ◌++◌, length, map, Option, Some, None, sym, refl, ap, ◌∙◌, inl, inr, subst, ⊎_elim, arith}
use Rattle.std.specs.Prelude.{◌⊎◌, ◌≢◌, slice_get, IsSomeAnd}
use Rattle.std.specs.List.{AllByRecursion, Contains}
use Rattle.std.proofs.lemmas.Bool.{cases_eq, cases_order, eq-eqb, ne_eqb}
use Rattle.covbook.specs.Op.{EntryData, ReceiptData}
use Rattle.covbook.specs.Gather.{LogData, jobs_of, places_of, places_in, Rise, Differ, IsOfJob, IsLogOf, IsMerge}
use Rattle.covworkers.proofs.Places.{times, AreBelow}

-- ---- elements

abbrev pub In : ℕ → List ℕ → Type 0
In x [] = ⊥
In x (y ∷ ys) = (y ≡ x) ⊎ In x ys

pub In-from : (xs : List ℕ) (x : ℕ) → Contains xs x → In x xs
In-from [] x h = absurd (omega (arith, h.1))
In-from (y ∷ ys) x (zero, lt, is) = inl is
In-from (y ∷ ys) x (suc k, lt, is) = inr (In-from ys x (k, omega (arith, lt), is))

pub Contains-from : (xs : List ℕ) (x : ℕ) → In x xs → Contains xs x
Contains-from [] x h = absurd h
Contains-from (y ∷ ys) x (inl e) = (0, omega arith, e)
Contains-from (y ∷ ys) x (inr h) = let w = Contains-from ys x h in (suc w.0, omega (arith, w.1), w.2)

pub In-parts : (xs ys : List ℕ) (x : ℕ) → In x (xs ++ ys) → In x xs ⊎ In x ys
In-parts [] ys x h = inr h
In-parts (z ∷ xs) ys x (inl e) = inl (inl e)
In-parts (z ∷ xs) ys x (inr h) = ⊎_elim (λ i. inl (inr i)) (λ i. inr i) (In-parts xs ys x h)

pub In-all : (P : ℕ → Type 0) (xs : List ℕ) (x : ℕ) → AllByRecursion P xs → In x xs → P x
In-all P [] x a h = absurd h
In-all P (y ∷ ys) x a (inl e) = subst P e a.0
In-all P (y ∷ ys) x a (inr h) = In-all P ys x a.1 h

-- ---- how often a number is in a list

times_head : (b : Bool) (n : ℕ) → b ≡ true → cond b 1 0 + n ≡ 1 + n
times_head b n e = ap (λ (t : Bool). cond t 1 0 + n) e

times_other : (b : Bool) (n : ℕ) → b ≡ false → cond b 1 0 + n ≡ n
times_other b n e = ap (λ (t : Bool). cond t 1 0 + n) e ∙ omega arith

times_more : (a b : ℕ) → 1 ≤ b → 1 ≤ a + b
times_more a b h = omega (arith, h)

-- an element of a list is in it at least once
pub in_times : (xs : List ℕ) (x : ℕ) → In x xs → 1 ≤ times x xs
in_times [] x h = absurd h
in_times (y ∷ ys) x (inl e) = let here : times x (y ∷ ys) ≡ 1 + times x ys = times_head (eqb x y) (times x ys) (eq-eqb x y (sym e)) in omega (arith, here)
in_times (y ∷ ys) x (inr h) = times_more (cond (eqb x y) 1 0) (times x ys) (in_times ys x h)

-- a number that is in a list at least once is an element of it
pub times_in : (xs : List ℕ) (x : ℕ) → 1 ≤ times x xs → In x xs
times_in [] x h = absurd (omega (arith, h))
times_in (y ∷ ys) x h = elim (cases_eq x y) [
  | inl e ↦ inl (sym e)
  | inr other ↦ let e : times x (y ∷ ys) ≡ times x ys = times_other (eqb x y) (times x ys) (ne_eqb x y other) in inr (times_in ys x (omega (arith, h, e)))
]

pub rise_once : (xs : List ℕ) → Rise xs → (x : ℕ) → times x xs ≤ 1
rise_once [] r x = omega arith
rise_once (y ∷ ys) r x = elim (cases_eq x y) [
  | inl e ↦
      let head : times x (y ∷ ys) ≡ 1 + times x ys = times_head (eqb x y) (times x ys) (eq-eqb x y e) in
      elim (cases_order (times x ys) 0) [
        | inl none ↦ omega (arith, head, none)
        | inr some ↦ elim some [
          | inl lt ↦ absurd (omega (arith, lt))
          | inr lt ↦ let above : y < x = In-all (λ (z : ℕ). y < z) ys x r.0 (times_in ys x (omega (arith, lt))) in absurd (omega (arith, above, e))
        ]
      ]
  | inr other ↦
      let same : times x (y ∷ ys) ≡ times x ys = times_other (eqb x y) (times x ys) (ne_eqb x y other) in
      omega (arith, same, rise_once ys r.1 x)
]

sum_more : (a whole b c : ℕ) → whole ≡ b + c → a + whole ≡ a + b + c
sum_more a whole b c is = omega (arith, is)

pub times_append : (m : ℕ) (xs ys : List ℕ) → times m (xs ++ ys) ≡ times m xs + times m ys
times_append m [] ys = omega arith
times_append m (x ∷ xs) ys = sum_more (cond (eqb m x) 1 0) (times m (xs ++ ys)) (times m xs) (times m ys) (times_append m xs ys)

-- if a place is that of a log's receipt, the entry there is of the log's job
owned : (entries : List EntryData) (job : ℕ) (receipts : List ReceiptData) (place : ℕ) → AllByRecursion (IsOfJob entries job) receipts → In place (map (λ (r : ReceiptData). r.place) receipts)
    → IsSomeAnd (slice_get entries place) (λ (e : EntryData). e.job ≡ job)
owned entries job [] place own h = absurd h
owned entries job (r ∷ receipts) place own (inl e) = subst (λ (p : ℕ). IsSomeAnd (slice_get entries p) (λ (e : EntryData). e.job ≡ job)) e own.0
owned entries job (r ∷ receipts) place own (inr h) = owned entries job receipts place own.1 h

one_job : (o : Option EntryData) (job other : ℕ) → IsSomeAnd o (λ (e : EntryData). e.job ≡ job) → IsSomeAnd o (λ (e : EntryData). e.job ≡ other) → job ≡ other
one_job None job other a b = absurd a
one_job (Some e) job other a b = sym a ∙ b

-- if the entry at a place is of one job, no log of another job has a receipt with this place
not_others : (entries : List EntryData) (job place : ℕ) (logs : List LogData) → IsSomeAnd (slice_get entries place) (λ (e : EntryData). e.job ≡ job)
    → AllByRecursion (λ (other : ℕ). job ≢ other) (jobs_of logs) → AllByRecursion (IsLogOf entries) logs → In place (places_in logs) → ⊥
not_others entries job place [] at differ of h = h
not_others entries job place (log ∷ logs) at differ of h = elim (In-parts (places_of log) (places_in logs) place h) [
  | inl here ↦ differ.0 (one_job (slice_get entries place) job log.job at (owned entries log.job log.receipts place of.0.own here))
  | inr there ↦ not_others entries job place logs at differ.1 of.1 there
]

told_once : (entries : List EntryData) (logs : List LogData) → Differ (jobs_of logs) → AllByRecursion (IsLogOf entries) logs → (place : ℕ) → times place (places_in logs) ≤ 1
told_once entries [] differ of place = omega arith
told_once entries (log ∷ logs) differ of place =
    let parts = times_append place (places_of log) (places_in logs) in
    let here = rise_once (places_of log) of.0.rise place in
    let there = told_once entries logs differ.1 of.1 place in
    elim (cases_order 0 (times place (places_of log))) [
      | inl none ↦ omega (arith, parts, none, there)
      | inr some ↦ elim some [
        | inr wrong ↦ absurd (omega (arith, wrong))
        | inl one ↦
            let at = owned entries log.job log.receipts place of.0.own (times_in (places_of log) place (omega (arith, one))) in
            elim (cases_order 0 (times place (places_in logs))) [
              | inl none ↦ omega (arith, parts, none, here)
              | inr more ↦ elim more [
                | inr wrong ↦ absurd (omega (arith, wrong))
                | inl two ↦ absurd (not_others entries log.job place logs at differ.0 of.1 (times_in (places_in logs) place (omega (arith, two))))
              ]
            ]
      ]
    ]

within : (o : Option EntryData) (entries : List EntryData) (job place : ℕ) → slice_get entries place ≡ o → IsSomeAnd o (λ (e : EntryData). e.job ≡ job) → place < length entries
within o [] job place is at = absurd (subst (λ (found : Option EntryData). IsSomeAnd found (λ (e : EntryData). e.job ≡ job)) (sym is) at)
within o (e ∷ entries) job zero is at = omega arith
within o (e ∷ entries) job (suc place) is at = let less = within o entries job place is at in omega (arith, less)

told_within : (entries : List EntryData) (logs : List LogData) (place : ℕ) → AllByRecursion (IsLogOf entries) logs → In place (places_in logs) → place < length entries
told_within entries [] place of h = absurd h
told_within entries (log ∷ logs) place of h = elim (In-parts (places_of log) (places_in logs) place h) [
  | inl here ↦ within (slice_get entries place) entries log.job place refl (owned entries log.job log.receipts place of.0.own here)
  | inr there ↦ told_within entries logs place of.1 there
]

pub each_once : (entries : List EntryData) (logs : List LogData) → IsMerge entries logs → AreBelow (length entries) (places_in logs)
each_once entries logs merge = record {
  once = λ place less. (let most = told_once entries logs merge.differ merge.kept place in let least = in_times (places_in logs) place (In-from (places_in logs) place (merge.whole place less)) in omega (arith, most, least));
  none = λ place above. elim (cases_order 0 (times place (places_in logs))) [
    | inl none ↦ sym none
    | inr other ↦ elim other [
      | inl some ↦ absurd (let less = told_within entries logs place merge.kept (times_in (places_in logs) place some) in omega (arith, less, above))
      | inr wrong ↦ absurd (omega (arith, wrong))
    ]
  ];
}
