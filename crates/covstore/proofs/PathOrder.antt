-- The order of byte lists, compared eight bytes at a time as numbers, and the rest byte by byte.
use Rattle.covstore.proofs.Words.{◌≡◌, ℕ, zero, suc, ◌+◌, ◌*◌, ◌≤◌, ◌<◌, List, [], ◌∷◌, ◌++◌, length, take, drop, get_or, refl, sym, ap, ◌∙◌, subst, arith, take-append-drop, length-take-le, length-drop, get_or-drop, drop-drop, min, Ordering, Less, Equal, Greater, slice_cmp, MatchOrdering, nat_cmp, ordering_then}
use Rattle.std.specs.Cmp.{nat_cmp_is, ranks}
use Rattle.std.specs.Int.{from_be_bytes, w64}

-- each number of the list is below 256
abbrev pub AreBytes : List ℕ → Type 0
AreBytes bytes = (k : ℕ) → get_or bytes k 0 < 256

below : (x y : ℕ) → x < y → nat_cmp x y ≡ Less
below x y l = sym (nat_cmp_is x y Less l)

above : (x y : ℕ) → y < x → nat_cmp x y ≡ Greater
above x y l = sym (nat_cmp_is x y Greater l)

pub level : (x y : ℕ) → x ≡ y → nat_cmp x y ≡ Equal
level x y e = sym (nat_cmp_is x y Equal e)

-- two different numbers decide the order, whatever comes after them
pub decided : (x y : ℕ) (rest : Ordering) → (x ≡ y → ⊥) → ordering_then (nat_cmp x y) rest ≡ nat_cmp x y
decided x y rest apart = by (nat_cmp x y) (ranks x y)
  where
    by : (order : Ordering) → MatchOrdering order (x < y) (x ≡ y) (y < x) → ordering_then order rest ≡ order
    by Less h = refl
    by Equal h = absurd (apart h)
    by Greater h = refl

-- ---- lists of one length

-- the number whose digits in base 256 these are, after the digits of n
abbrev digits : ℕ → List ℕ → ℕ
digits n [] = n
digits n (b ∷ bs) = digits (n * 256 + b) bs

rises : (m n : ℕ) (xs ys : List ℕ) → length xs ≡ length ys → AreBytes xs → m < n → digits m xs < digits n ys
rises m n [] [] same bytes l = l
rises m n [] (y ∷ ys) same bytes l = absurd (omega arith)
rises m n (x ∷ xs) [] same bytes l = absurd (omega arith)
rises m n (x ∷ xs) (y ∷ ys) same bytes l =
    let small : x < 256 = bytes 0 in
    rises (m * 256 + x) (n * 256 + y) xs ys (omega arith) (λ k. bytes (suc k)) (omega arith)

-- two lists of bytes of one length compare as their numbers do
digits_order : (n : ℕ) (xs ys : List ℕ) → length xs ≡ length ys → AreBytes xs → AreBytes ys → nat_cmp (digits n xs) (digits n ys) ≡ slice_cmp nat_cmp xs ys
digits_order n [] [] same bx by = level n n refl
digits_order n [] (y ∷ ys) same bx by = absurd (omega arith)
digits_order n (x ∷ xs) [] same bx by = absurd (omega arith)
digits_order n (x ∷ xs) (y ∷ ys) same bx by =
    cases (nat_cmp x y) refl (ranks x y) (digits_order (n * 256 + x) xs ys (omega arith) (λ k. bx (suc k)) (λ k. by (suc k)))
  where
    cases : (order : Ordering) → nat_cmp x y ≡ order → MatchOrdering order (x < y) (x ≡ y) (y < x) → nat_cmp (digits (n * 256 + x) xs) (digits (n * 256 + x) ys) ≡ slice_cmp nat_cmp xs ys
        → nat_cmp (digits (n * 256 + x) xs) (digits (n * 256 + y) ys) ≡ ordering_then order (slice_cmp nat_cmp xs ys)
    cases Less e h rest = below (digits (n * 256 + x) xs) (digits (n * 256 + y) ys) (rises (n * 256 + x) (n * 256 + y) xs ys (omega arith) (λ k. bx (suc k)) (let l : x < y = h in omega arith))
    cases Equal e h rest = ap (λ (z : ℕ). nat_cmp (digits (n * 256 + x) xs) (digits (n * 256 + z) ys)) (sym h) ∙ rest
    cases Greater e h rest = above (digits (n * 256 + x) xs) (digits (n * 256 + y) ys) (rises (n * 256 + y) (n * 256 + x) ys xs (omega arith) (λ k. by (suc k)) (let l : y < x = h in omega arith))

-- three comparisons, one after another: it doesn't matter which two of them are joined first
then_assoc : (a b c : Ordering) → ordering_then (ordering_then a b) c ≡ ordering_then a (ordering_then b c)
then_assoc Less b c = refl
then_assoc Equal b c = refl
then_assoc Greater b c = refl

appended : (xs ys more others : List ℕ) → length xs ≡ length ys → slice_cmp nat_cmp (xs ++ more) (ys ++ others) ≡ ordering_then (slice_cmp nat_cmp xs ys) (slice_cmp nat_cmp more others)
appended [] [] more others same = refl
appended [] (y ∷ ys) more others same = absurd (omega arith)
appended (x ∷ xs) [] more others same = absurd (omega arith)
appended (x ∷ xs) (y ∷ ys) more others same =
    ap (ordering_then (nat_cmp x y)) (appended xs ys more others (omega arith)) ∙ sym (then_assoc (nat_cmp x y) (slice_cmp nat_cmp xs ys) (slice_cmp nat_cmp more others))

-- ---- eight bytes

eight : (bytes : List ℕ) → length bytes ≡ 8 → from_be_bytes w64 bytes ≡ digits 0 bytes
eight (a ∷ b ∷ c ∷ d ∷ e ∷ f ∷ g ∷ h ∷ []) same = omega arith
eight [] same = absurd (omega arith)
eight (a ∷ []) same = absurd (omega arith)
eight (a ∷ b ∷ []) same = absurd (omega arith)
eight (a ∷ b ∷ c ∷ []) same = absurd (omega arith)
eight (a ∷ b ∷ c ∷ d ∷ []) same = absurd (omega arith)
eight (a ∷ b ∷ c ∷ d ∷ e ∷ []) same = absurd (omega arith)
eight (a ∷ b ∷ c ∷ d ∷ e ∷ f ∷ []) same = absurd (omega arith)
eight (a ∷ b ∷ c ∷ d ∷ e ∷ f ∷ g ∷ []) same = absurd (omega arith)
eight (a ∷ b ∷ c ∷ d ∷ e ∷ f ∷ g ∷ h ∷ i ∷ more) same = absurd (omega arith)

taken : (n : ℕ) (bytes : List ℕ) → AreBytes bytes → AreBytes (take n bytes)
taken zero bytes are k = omega arith
taken (suc n) [] are k = omega arith
taken (suc n) (b ∷ bs) are zero = are 0
taken (suc n) (b ∷ bs) are (suc k) = taken n bs (λ j. are (suc j)) k

dropped : (n : ℕ) (bytes : List ℕ) → AreBytes bytes → AreBytes (drop n bytes)
dropped n bytes are = λ k. subst (λ (b : ℕ). b < 256) (sym (get_or-drop n bytes k 0)) (are (n + k))

-- the first eight of each as numbers, and then what is after them
by_word : (xs ys : List ℕ) → AreBytes xs → AreBytes ys → 8 ≤ length xs → 8 ≤ length ys
    → slice_cmp nat_cmp xs ys ≡ ordering_then (nat_cmp (from_be_bytes w64 (take 8 xs)) (from_be_bytes w64 (take 8 ys))) (slice_cmp nat_cmp (drop 8 xs) (drop 8 ys))
by_word xs ys bx by long wide =
    let first = length-take-le 8 xs long in
    let second = length-take-le 8 ys wide in
    let same : length (take 8 xs) ≡ length (take 8 ys) = first ∙ sym second in
    let words : nat_cmp (from_be_bytes w64 (take 8 xs)) (from_be_bytes w64 (take 8 ys)) ≡ slice_cmp nat_cmp (take 8 xs) (take 8 ys) =
    ap (λ (n : ℕ). nat_cmp n (from_be_bytes w64 (take 8 ys))) (eight (take 8 xs) first) ∙ ap (nat_cmp (digits 0 (take 8 xs))) (eight (take 8 ys) second)
    ∙ digits_order 0 (take 8 xs) (take 8 ys) same (taken 8 xs bx) (taken 8 ys by) in
    ap (λ (zs : List ℕ). slice_cmp nat_cmp zs ys) (sym (take-append-drop 8 xs))
    ∙ ap (slice_cmp nat_cmp (take 8 xs ++ drop 8 xs)) (sym (take-append-drop 8 ys))
    ∙ appended (take 8 xs) (take 8 ys) (drop 8 xs) (drop 8 ys) same
    ∙ ap (λ (order : Ordering). ordering_then order (slice_cmp nat_cmp (drop 8 xs) (drop 8 ys))) (sym words)

-- ---- along both

module _ (xs ys : List ℕ) (bx : AreBytes xs) (by : AreBytes ys) (at : ℕ) where
  after_word : at + 8 ≤ length xs → at + 8 ≤ length ys
      → slice_cmp nat_cmp (drop at xs) (drop at ys)
      ≡ ordering_then (nat_cmp (from_be_bytes w64 (take 8 (drop at xs))) (from_be_bytes w64 (take 8 (drop at ys)))) (slice_cmp nat_cmp (drop (at + 8) xs) (drop (at + 8) ys))
  after_word long wide =
      by_word (drop at xs) (drop at ys) (dropped at xs bx) (dropped at ys by) (omega (arith, length-drop at xs)) (omega (arith, length-drop at ys))
      ∙ ap (λ (zs : List ℕ). ordering_then (nat_cmp (from_be_bytes w64 (take 8 (drop at xs))) (from_be_bytes w64 (take 8 (drop at ys)))) (slice_cmp nat_cmp zs (drop 8 (drop at ys)))) (drop-drop 8 at xs)
      ∙ ap (λ (zs : List ℕ). ordering_then (nat_cmp (from_be_bytes w64 (take 8 (drop at xs))) (from_be_bytes w64 (take 8 (drop at ys)))) (slice_cmp nat_cmp (drop (at + 8) xs) zs)) (drop-drop 8 at ys)

  -- the next eight bytes of each list are a number. If the two numbers differ, they decide the order
  pub words_tell : (x y : ℕ) → at + 8 ≤ length xs → at + 8 ≤ length ys → x ≡ from_be_bytes w64 (take 8 (drop at xs)) → y ≡ from_be_bytes w64 (take 8 (drop at ys)) → (x ≡ y → ⊥)
      → nat_cmp x y ≡ slice_cmp nat_cmp (drop at xs) (drop at ys)
  words_tell x y long wide is also apart =
      sym (after_word long wide ∙ ap (λ (n : ℕ). ordering_then (nat_cmp n (from_be_bytes w64 (take 8 (drop at ys)))) (slice_cmp nat_cmp (drop (at + 8) xs) (drop (at + 8) ys))) (sym is)
      ∙ ap (λ (n : ℕ). ordering_then (nat_cmp x n) (slice_cmp nat_cmp (drop (at + 8) xs) (drop (at + 8) ys))) (sym also)
      ∙ decided x y (slice_cmp nat_cmp (drop (at + 8) xs) (drop (at + 8) ys)) apart)

  pub words_pass : (x y : ℕ) → at + 8 ≤ length xs → at + 8 ≤ length ys → x ≡ from_be_bytes w64 (take 8 (drop at xs)) → y ≡ from_be_bytes w64 (take 8 (drop at ys)) → x ≡ y
      → slice_cmp nat_cmp (drop at xs) (drop at ys) ≡ slice_cmp nat_cmp (drop (at + 8) xs) (drop (at + 8) ys)
  words_pass x y long wide is also same =
      after_word long wide
      ∙ ap (λ (order : Ordering). ordering_then order (slice_cmp nat_cmp (drop (at + 8) xs) (drop (at + 8) ys))) (level (from_be_bytes w64 (take 8 (drop at xs))) (from_be_bytes w64 (take 8 (drop at ys))) (sym is ∙ same ∙ also))

one_more : (x y : ℕ) → nat_cmp (suc x) (suc y) ≡ nat_cmp x y
one_more x y = sym (nat_cmp_is (suc x) (suc y) (nat_cmp x y) (by (nat_cmp x y) (ranks x y)))
  where
    by : (order : Ordering) → MatchOrdering order (x < y) (x ≡ y) (y < x) → MatchOrdering order (suc x < suc y) (suc x ≡ suc y) (suc y < suc x)
    by Less h = let l : x < y = h in omega arith
    by Equal h = let e : x ≡ y = h in omega arith
    by Greater h = let l : y < x = h in omega arith

-- at the end of the shorter list, the lengths decide the order
pub ended : (at : ℕ) (xs ys : List ℕ) → at ≤ length xs → at ≤ length ys → min (length xs) (length ys) ≤ at → nat_cmp (length xs) (length ys) ≡ slice_cmp nat_cmp (drop at xs) (drop at ys)
ended zero [] [] long wide all = level 0 0 refl
ended zero [] (y ∷ ys) long wide all = below 0 (length (y ∷ ys)) (omega arith)
ended zero (x ∷ xs) [] long wide all = above (length (x ∷ xs)) 0 (omega arith)
ended zero (x ∷ xs) (y ∷ ys) long wide all = absurd (omega arith)
ended (suc at) [] ys long wide all = absurd (omega arith)
ended (suc at) (x ∷ xs) [] long wide all = absurd (omega arith)
ended (suc at) (x ∷ xs) (y ∷ ys) long wide all = one_more (length xs) (length ys) ∙ ended at xs ys (omega arith) (omega arith) (omega arith)
