-- The checksums of a test's lines are held by one more test: how many tests then hold a checksum of each line.
use Rattle.covstore.proofs.Words.{◌≡◌, ℕ, ◌≤◌, ◌^◌, Bool, true, false, ◌||◌, Option, Some, List, [], ◌∷◌, ◌++◌, refl, sym, ap, ◌∙◌, subst, IfSome, is_eq, nat_cmp, false≢true, ArePairs, value_of, LineSum, one_more, is_above_at, HasHolders, held_again, held_if, has_checksum, holders_at, TestData, lines_order}
use Rattle.std.specs.Option.{is_some}
use Rattle.covstore.specs.HeldChecksums.{KeepsHolders}
use Rattle.covstore.proofs.Assigned.{any_key}
use Rattle.covstore.proofs.Puts.{value_of-put, value_of-put_apart, value_of_before, value_of_first, value_of_later}
use Rattle.covstore.proofs.StepsKept.{holding_same, is_holding, own_more}

-- ---- one line

-- what is held of a line depends only on what was held of it
if_by_value : (has : Bool) (line : ℕ) (was : Bool) (holders others : List (ℕ × ℕ)) → value_of nat_cmp line holders ≡ value_of nat_cmp line others
    → value_of nat_cmp line (held_if has line was holders) ≡ value_of nat_cmp line (held_if has line was others)
if_by_value true line true holders others same = same
if_by_value true line false holders others same =
    value_of-put lines_order line (one_more (value_of nat_cmp line holders)) holders
    ∙ ap (λ (tests : Option ℕ). Some (one_more tests)) same
    ∙ sym (value_of-put lines_order line (one_more (value_of nat_cmp line others)) others)
if_by_value false line was holders others same = same

-- any other line has as many holders as before
if_apart : (has : Bool) (line other : ℕ) (was : Bool) (holders : List (ℕ × ℕ)) → is_eq (nat_cmp line other) ≡ false → value_of nat_cmp other (held_if has line was holders) ≡ value_of nat_cmp other holders
if_apart true line other true holders apart = refl
if_apart true line other false holders apart = value_of-put_apart lines_order line other (one_more (value_of nat_cmp line holders)) holders apart
if_apart false line other was holders apart = refl

if_still : (has : Bool) (line : ℕ) (was : Bool) (holders : List (ℕ × ℕ)) → is_some (value_of nat_cmp line holders) ≡ true → is_some (value_of nat_cmp line (held_if has line was holders)) ≡ true
if_still true line true holders e = e
if_still true line false holders e = ap is_some (value_of-put lines_order line (one_more (value_of nat_cmp line holders)) holders)
if_still false line was holders e = e

-- ---- all lines

-- the number of tests that hold a checksum of any line afterwards
held_at : (lines points : List (ℕ × LineSum)) → ArePairs nat_cmp lines → (holders : List (ℕ × ℕ)) (line : ℕ)
    → value_of nat_cmp line (held_again lines points holders)
    ≡ value_of nat_cmp line (held_if (is_above_at has_checksum (value_of nat_cmp line lines)) line (is_above_at has_checksum (value_of nat_cmp line points)) holders)
held_at [] points sorted holders line = refl
held_at (pair ∷ lines) points sorted holders line =
    let was = λ (other : ℕ). is_above_at has_checksum (value_of nat_cmp other points) in
    let next = held_if pair.1.has_checksum pair.0 (was pair.0) holders in
    any_key lines_order
    (λ (l : ℕ). value_of nat_cmp l (held_again lines points next) ≡ value_of nat_cmp l (held_if (is_above_at has_checksum (value_of nat_cmp l (pair ∷ lines))) l (was l) holders)) pair.0
    (held_at lines points sorted.1 next pair.0
    ∙ ap (λ (found : Option LineSum). value_of nat_cmp pair.0 (held_if (is_above_at has_checksum found) pair.0 (was pair.0) next)) (value_of_before lines_order pair.0 lines sorted.0)
    ∙ sym (ap (λ (found : Option LineSum). value_of nat_cmp pair.0 (held_if (is_above_at has_checksum found) pair.0 (was pair.0) holders)) (value_of_first lines_order pair.0 pair.1 lines)))
    (λ other apart.
    held_at lines points sorted.1 next other
    ∙ if_by_value (is_above_at has_checksum (value_of nat_cmp other lines)) other (was other) next holders (if_apart pair.1.has_checksum pair.0 other (was pair.0) holders apart)
    ∙ sym (ap (λ (found : Option LineSum). value_of nat_cmp other (held_if (is_above_at has_checksum found) other (was other) holders)) (value_of_later lines_order other pair lines apart)))
    line

module _ (lines : List (ℕ × LineSum)) (sorted : ArePairs nat_cmp lines) where
  -- what is held stays held
  pub again_still : (points : List (ℕ × LineSum)) (holders : List (ℕ × ℕ)) (line : ℕ) → is_some (value_of nat_cmp line holders) ≡ true → is_some (value_of nat_cmp line (held_again lines points holders)) ≡ true
  again_still points holders line e =
      ap (λ (tests : Option ℕ). is_some tests) (held_at lines points sorted holders line)
      ∙ if_still (is_above_at has_checksum (value_of nat_cmp line lines)) line (is_above_at has_checksum (value_of nat_cmp line points)) holders e

  -- if the test afterwards holds checksums of these lines too, its index has the right numbers of tests
  pub again_keeps : (test after : TestData) → ((line : ℕ) → is_holding line after ≡ (is_above_at has_checksum (value_of nat_cmp line lines) || is_holding line test)) → (holders more : List (ℕ × ℕ))
      → more ≡ held_again lines test.lines holders → KeepsHolders test after holders more
  again_keeps test after holding holders more is front back are line =
      ap (value_of nat_cmp line) is ∙ held_at lines test.lines sorted holders line ∙ by (is_above_at has_checksum (value_of nat_cmp line lines)) (holding line)
    where
      by : (has : Bool) → is_holding line after ≡ (has || is_holding line test) → value_of nat_cmp line (held_if has line (is_holding line test) holders) ≡ holders_at line (front ++ after ∷ back)
      by true holds = own_more front test after back holders more line holds (are line)
      by false same = are line ∙ holding_same front test after back holders more line same

-- ---- one line after another

-- the checksums of the lines that are left are still to be held
pub record IsHoldingAgain (lines points : List (ℕ × LineSum)) (holders : List (ℕ × ℕ)) (left : List (ℕ × LineSum)) (now : List (ℕ × ℕ)) : Type 0 where
  pub sorted : ArePairs nat_cmp left
  pub held : HasHolders left now
  pub sums : held_again left points now ≡ held_again lines points holders

module _ (lines points : List (ℕ × LineSum)) (holders : List (ℕ × ℕ)) where
  pub holding_first : (left : List (ℕ × LineSum)) → left ≡ lines → ArePairs nat_cmp lines → HasHolders lines holders → IsHoldingAgain lines points holders left holders
  holding_first left same sorted held = record {
    sorted = subst (ArePairs nat_cmp) (sym same) sorted;
    held = subst (λ (some : List (ℕ × LineSum)). HasHolders some holders) (sym same) held;
    sums = ap (λ (some : List (ℕ × LineSum)). held_again some points holders) same;
  }

  pub holding_all : (left : List (ℕ × LineSum)) (now : List (ℕ × ℕ)) → left ≡ [] → IsHoldingAgain lines points holders left now → now ≡ held_again lines points holders
  holding_all left now none is = sym (ap (λ (some : List (ℕ × LineSum)). held_again some points now) none) ∙ is.sums

  module _ (line : ℕ) (sum : LineSum) (left rest : List (ℕ × LineSum)) (first : left ≡ (line, sum) ∷ rest) (now : List (ℕ × ℕ)) (is : IsHoldingAgain lines points holders left now) where
    pub holding_can : sum.has_checksum ≡ true → (is_some (value_of nat_cmp line now) ≡ true) × IfSome (value_of nat_cmp line now) (λ tests. tests ≤ 2 ^ 63)
    holding_can has = is.held line (ap (is_above_at has_checksum) (ap (value_of nat_cmp line) first ∙ value_of_first lines_order line sum rest) ∙ has)

    pub holding_next : (later : List (ℕ × ℕ)) → later ≡ held_if sum.has_checksum line (is_above_at has_checksum (value_of nat_cmp line points)) now → IsHoldingAgain lines points holders rest later
    holding_next later moves =
        let sorted = subst (ArePairs nat_cmp) first is.sorted in
        record {
          sorted = sorted.1;
          held = any_key lines_order (λ (l : ℕ). is_above_at has_checksum (value_of nat_cmp l rest) ≡ true → (is_some (value_of nat_cmp l later) ≡ true) × IfSome (value_of nat_cmp l later) (λ tests. tests ≤ 2 ^ 63)) line
              (λ has. absurd (false≢true (sym (ap (is_above_at has_checksum) (value_of_before lines_order line rest sorted.0)) ∙ has)))
              (λ other apart has.
              subst (λ (tests : Option ℕ). (is_some tests ≡ true) × IfSome tests (λ n. n ≤ 2 ^ 63))
              (sym (ap (value_of nat_cmp other) moves ∙ if_apart sum.has_checksum line other (is_above_at has_checksum (value_of nat_cmp line points)) now apart))
              (is.held other (ap (is_above_at has_checksum) (ap (value_of nat_cmp other) first ∙ value_of_later lines_order other (line, sum) rest apart) ∙ has)));
          sums = ap (held_again rest points) moves ∙ sym (ap (λ (some : List (ℕ × LineSum)). held_again some points now) first) ∙ is.sums;
        }
