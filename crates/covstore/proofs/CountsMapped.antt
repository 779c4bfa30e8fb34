-- If the values are replaced by values of another type that are above 0 for the same points, the counts stay.
use Rattle.covstore.proofs.Words.{◌≡◌, ℕ, Bool, true, false, cond, Option, Some, List, [], ◌∷◌, map, refl, sym, ap, ◌∙◌, arith, Ordering, is_eq, sum_by-cons, TestCounts, AreCounts, is_above_at, tests_at, value_of}
use Rattle.std.specs.List.{count_by}
use Rattle.std.specs.Option.{is_some}
use Rattle.covstore.proofs.Counts.{same_tests}

pub count_by-map : {X Y : Type 0} (p : X → Bool) (q : Y → Bool) (f : X → Y) → ((x : X) → q (f x) ≡ p x) → (xs : List X) → count_by q (map f xs) ≡ count_by p xs
count_by-map p q f same [] = refl
count_by-map p q f same (x ∷ xs) =
    let first : cond {A = ℕ} (q (f x)) 1 0 ≡ cond {A = ℕ} (p x) 1 0 = ap (λ (b : Bool). cond {A = ℕ} b 1 0) (same x) in
    omega (arith, sum_by-cons (λ y. cond (q y) 1 0) (f x) (map f xs), sum_by-cons (λ y. cond (p y) 1 0) x xs, first, count_by-map p q f same xs)

module _ {K V W : Type 0} (cmp : K → K → Ordering) (is_above : V → Bool) (is_other : W → Bool) (f : K → V → W) (same : (key : K) (value : V) → is_other (f key value) ≡ is_above value) where
  abbrev mapped : List (K × V) → List (K × W)
  mapped pairs = map (λ pair. (pair.0, f pair.0 pair.1)) pairs

  some_at : (b : Bool) (v : V) (w : W) (rest : Option V) (others : Option W) → is_some others ≡ is_some rest → is_some (cond b (Some w) others) ≡ is_some (cond b (Some v) rest)
  some_at true v w rest others e = refl
  some_at false v w rest others e = e

  mapped_some : (key : K) (pairs : List (K × V)) → is_some (value_of cmp key (mapped pairs)) ≡ is_some (value_of cmp key pairs)
  mapped_some key [] = refl
  mapped_some key (pair ∷ pairs) = some_at (is_eq (cmp pair.0 key)) pair.1 (f pair.0 pair.1) (value_of cmp key pairs) (value_of cmp key (mapped pairs)) (mapped_some key pairs)

  above_at : (b : Bool) (v : V) (w : W) (rest : Option V) (others : Option W) → is_other w ≡ is_above v → is_above_at is_other others ≡ is_above_at is_above rest
      → is_above_at is_other (cond b (Some w) others) ≡ is_above_at is_above (cond b (Some v) rest)
  above_at true v w rest others here e = here
  above_at false v w rest others here e = e

  mapped_above : (key : K) (pairs : List (K × V)) → is_above_at is_other (value_of cmp key (mapped pairs)) ≡ is_above_at is_above (value_of cmp key pairs)
  mapped_above key [] = refl
  mapped_above key (pair ∷ pairs) =
      above_at (is_eq (cmp pair.0 key)) pair.1 (f pair.0 pair.1) (value_of cmp key pairs) (value_of cmp key (mapped pairs)) (same pair.0 pair.1) (mapped_above key pairs)

  pub tests_at-mapped : (key : K) (tests : List (List (K × V))) → tests_at cmp is_other key (map (map (λ pair. (pair.0, f pair.0 pair.1))) tests) ≡ tests_at cmp is_above key tests
  tests_at-mapped key tests =
      same_tests (count_by-map (λ (pairs : List (K × V)). is_some (value_of cmp key pairs)) (λ (pairs : List (K × W)). is_some (value_of cmp key pairs)) mapped (mapped_some key) tests)
      (count_by-map (λ (pairs : List (K × V)). is_above_at is_above (value_of cmp key pairs)) (λ (pairs : List (K × W)). is_above_at is_other (value_of cmp key pairs)) mapped (mapped_above key) tests)

  -- the values are replaced by what `f` gives for the point and its value
  pub counts_mapped_at : (tests : List (List (K × V))) (counts : List (K × TestCounts)) → AreCounts cmp is_above tests counts
      → AreCounts cmp is_other (map (map (λ pair. (pair.0, f pair.0 pair.1))) tests) counts
  counts_mapped_at tests counts are = record { ascending = are.ascending; counted = λ key. are.counted key ∙ sym (tests_at-mapped key tests) }
