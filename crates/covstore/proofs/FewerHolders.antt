-- A test that holds checksums of lines is dropped: how many tests hold them afterwards.
use Rattle.covstore.proofs.Words.{◌≡◌, ℕ, ◌+◌, ◌-◌, ◌<◌, Bool, true, false, cond, nat_lt, Option, Some, None, List, [], ◌∷◌, refl, sym, ap, ◌∙◌, subst, arith, is_eq, nat_cmp, cond-true, cond-false, lt-ltb, ltb-true, ltb-false, LineSum, is_above_at, one_if, AreHolders, AreHoldersWith, LosesHolders, held_less, less_of, one_less, with_lines, ArePairs, value_of, has_checksum, holders_at, holding, TestData, lines_order}
use Rattle.std.specs.Option.{is_some}
use Rattle.covmap.specs.Assigned.{assigned}
use Rattle.covstore.proofs.Assigned.{any_key, apart_assigned, own_assigned}
use Rattle.covstore.proofs.Counts.{count_by-between}
use Rattle.covstore.proofs.Puts.{value_of_before, value_of_first, value_of_later}
use Rattle.covstore.proofs.StepsKept.{is_holding}

-- ---- the number of one line

abbrev some_above : ℕ → Option ℕ
some_above n = cond (nat_lt 0 n) (Some n) None

some_is : (n : ℕ) → 0 < n → some_above n ≡ Some n
some_is n more = cond-true (nat_lt 0 n) (Some n) None (lt-ltb 0 n more)

less_by : (n : ℕ) (is : Bool) → nat_lt 0 n ≡ is → one_less (n + 1) ≡ some_above n
less_by n true e =
    let one : n + 1 - 1 ≡ n = omega arith in
    cond-true (nat_lt 1 (n + 1)) (Some (n + 1 - 1)) None (lt-ltb 1 (n + 1) (omega (arith, ltb-true 0 n e))) ∙ ap (λ (m : ℕ). Some m) one ∙ sym (cond-true (nat_lt 0 n) (Some n) None e)
less_by n false e =
    let none : n ≡ 0 = omega (arith, ltb-false 0 n e) in
    cond-false (nat_lt 1 (n + 1)) (Some (n + 1 - 1)) None (ap (λ (m : ℕ). nat_lt 1 (m + 1)) none) ∙ sym (cond-false (nat_lt 0 n) (Some n) None e)

less_more : (n : ℕ) → less_of (some_above (n + 1)) ≡ some_above n
less_more n = ap less_of (some_is (n + 1) (omega arith)) ∙ less_by n (nat_lt 0 n) refl

-- ---- among the numbers of all lines

-- how many tests hold a line's checksum, by the line's value in the test that is dropped
holders_with : (lines : List (ℕ × LineSum)) (others : List TestData) (line : ℕ) (value : Option LineSum) → value_of nat_cmp line lines ≡ value
    → holders_at line (with_lines lines ∷ others) ≡ some_above (holding line others + one_if (is_above_at has_checksum value))
holders_with lines others line value e =
    ap some_above (count_by-between (is_holding line) [] (with_lines lines) others) ∙ ap (λ (v : Option LineSum). some_above (holding line others + one_if (is_above_at has_checksum v))) e

no_more : (n : ℕ) → some_above (n + 0) ≡ some_above n
no_more n = let same : n + 0 ≡ n = omega arith in ap some_above same

module _ (line : ℕ) (value : LineSum) (left : List (ℕ × LineSum)) (sorted : ArePairs nat_cmp ((line, value) ∷ left)) (others : List TestData) (holders : List (ℕ × ℕ)) (are : AreHolders (with_lines ((line, value) ∷ left) ∷ others) holders) where
  own_with : (b : Bool) → value.has_checksum ≡ b → value_of nat_cmp line holders ≡ some_above (holding line others + one_if b)
  own_with b e =
      are line ∙ holders_with ((line, value) ∷ left) others line (Some value) (value_of_first lines_order line value left) ∙ ap (λ (c : Bool). some_above (holding line others + one_if c)) e

  own_left : holders_at line (with_lines left ∷ others) ≡ some_above (holding line others)
  own_left = holders_with left others line None (value_of_before lines_order line left sorted.0) ∙ no_more (holding line others)

  apart_with : (other : ℕ) → is_eq (nat_cmp line other) ≡ false → value_of nat_cmp other holders ≡ holders_at other (with_lines left ∷ others)
  apart_with other apart =
      are other ∙ holders_with ((line, value) ∷ left) others other (value_of nat_cmp other left) (value_of_later lines_order other (line, value) left apart)
      ∙ sym (holders_with left others other (value_of nat_cmp other left) refl)

  -- if the test holds no checksum of its first line, the numbers are right without this line too
  pub holders_stay : value.has_checksum ≡ false → AreHolders (with_lines left ∷ others) holders
  holders_stay none =
      any_key lines_order (λ (l : ℕ). value_of nat_cmp l holders ≡ holders_at l (with_lines left ∷ others)) line
      (own_with false none ∙ no_more (holding line others) ∙ sym own_left) apart_with

  -- if the test holds a checksum of its first line, the line has a number
  pub is_released : value.has_checksum ≡ true → is_some (value_of nat_cmp line holders) ≡ true
  is_released holds = ap is_some (own_with true holds ∙ some_is (holding line others + 1) (omega arith))

  pub holders_less : value.has_checksum ≡ true → AreHolders (with_lines left ∷ others) (held_less line holders)
  holders_less holds =
      any_key lines_order (λ (l : ℕ). value_of nat_cmp l (held_less line holders) ≡ holders_at l (with_lines left ∷ others)) line
      (own_assigned lines_order line (less_of (value_of nat_cmp line holders)) holders ∙ ap less_of (own_with true holds) ∙ less_more (holding line others) ∙ sym own_left)
      (λ other apart. apart_assigned lines_order line other (less_of (value_of nat_cmp line holders)) holders apart ∙ apart_with other apart)

-- numbers that are right for a test are right for a test with only its lines
pub holders_of_lines : (test : TestData) (others : List TestData) (holders : List (ℕ × ℕ)) → AreHolders (test ∷ others) holders → AreHolders (with_lines test.lines ∷ others) holders
holders_of_lines test others holders are line =
    are line ∙ ap some_above (count_by-between (is_holding line) [] test others) ∙ sym (holders_with test.lines others line (value_of nat_cmp line test.lines) refl)

-- after one test no longer holds the checksum of this line, each line with a held checksum is one that had one before
pub some_before : (line : ℕ) (value : Option ℕ) (holders fewer : List (ℕ × ℕ)) → fewer ≡ assigned nat_cmp line value holders → is_some (value_of nat_cmp line holders) ≡ true → (other : ℕ)
    → is_some (value_of nat_cmp other fewer) ≡ true → is_some (value_of nat_cmp other holders) ≡ true
some_before line value holders fewer moved there =
    any_key lines_order (λ (other : ℕ). is_some (value_of nat_cmp other fewer) ≡ true → is_some (value_of nat_cmp other holders) ≡ true) line (λ e. there)
    (λ other apart e. sym (ap is_some (ap (value_of nat_cmp other) moved ∙ apart_assigned lines_order line other value holders apart)) ∙ e)

holders_none : (others : List TestData) (holders : List (ℕ × ℕ)) → AreHolders (with_lines [] ∷ others) holders → AreHolders others holders
holders_none others holders are line = are line ∙ holders_with [] others line None refl ∙ no_more (holding line others)

-- ---- line by line

-- these lines of the test are still to be visited
pub record IsReleasing (lines : List (ℕ × LineSum)) (holders : List (ℕ × ℕ)) (left : List (ℕ × LineSum)) (fewer : List (ℕ × ℕ)) : Type 0 where
  pub sorted : ArePairs nat_cmp left
  pub counted : (others : List TestData) → AreHolders (with_lines lines ∷ others) holders → AreHolders (with_lines left ∷ others) fewer

module _ (lines : List (ℕ × LineSum)) (holders : List (ℕ × ℕ)) where
  module _ (line : ℕ) (value : LineSum) (left rest : List (ℕ × LineSum)) (first : left ≡ (line, value) ∷ rest) (fewer : List (ℕ × ℕ)) (is : IsReleasing lines holders left fewer) where
    first_are : (others : List TestData) → AreHolders (with_lines lines ∷ others) holders → AreHolders (with_lines ((line, value) ∷ rest) ∷ others) fewer
    first_are others are = subst (λ (own : List (ℕ × LineSum)). AreHolders (with_lines own ∷ others) fewer) first (is.counted others are)

    first_sorted : ArePairs nat_cmp ((line, value) ∷ rest)
    first_sorted = subst (ArePairs nat_cmp) first is.sorted

    pub releasing_can : AreHoldersWith lines holders → value.has_checksum ≡ true → is_some (value_of nat_cmp line fewer) ≡ true
    releasing_can are holds = is_released line value rest first_sorted are.0 fewer (first_are are.0 are.1) holds

    pub releasing_more : (more : List (ℕ × ℕ)) → value.has_checksum ≡ true → more ≡ held_less line fewer → IsReleasing lines holders rest more
    releasing_more more holds moved = record {
      sorted = first_sorted.1;
      counted = λ others are. subst (AreHolders (with_lines rest ∷ others)) (sym moved) (holders_less line value rest first_sorted others fewer (first_are others are) holds);
    }

    pub releasing_none : value.has_checksum ≡ false → IsReleasing lines holders rest fewer
    releasing_none none = record {
      sorted = first_sorted.1;
      counted = λ others are. holders_stay line value rest first_sorted others fewer (first_are others are) none;
    }

  pub releasing_all : (left : List (ℕ × LineSum)) (fewer : List (ℕ × ℕ)) → left ≡ [] → IsReleasing lines holders left fewer → LosesHolders lines holders fewer
  releasing_all left fewer none is others are =
      holders_none others fewer (subst (λ (own : List (ℕ × LineSum)). AreHolders (with_lines own ∷ others) fewer) none (is.counted others are))
