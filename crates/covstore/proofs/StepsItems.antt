-- What staging an item with a checksum requires: a checksum that its test holds is held in the index, and one test more can be
-- counted.
use Rattle.covstore.proofs.Words.{◌≡◌, ℕ, ◌+◌, ◌≤◌, ◌^◌, Bool, true, false, cond, nat_lt, Some, None, List, ◌∷◌, ◌++◌, sym, ap, ◌∙◌, subst, arith, IfSome, nat_cmp, cond-true, lt-ltb, count_by-le-length, one_if, FileIndexData, value_of, holding, HasRoom, TestData}
use Rattle.std.specs.Option.{is_some}
use Rattle.covstore.proofs.Counts.{count_by-between}
use Rattle.covstore.proofs.StepsKept.{is_holding}

-- ---- the tests that hold a line's checksum

held_where : (n others : ℕ) → n ≡ others + 1 → is_some (cond (nat_lt 0 n) (Some n) None) ≡ true
held_where n others e = ap is_some (cond-true (nat_lt 0 n) (Some n) None (lt-ltb 0 n (omega (arith, e))))

few_where : (some : Bool) (n : ℕ) → n ≤ 2 ^ 63 → IfSome (cond some (Some n) None) (λ tests. tests ≤ 2 ^ 63)
few_where true n few = few
few_where false n few = tt

module _ (test : TestData) (index : FileIndexData) (room : HasRoom test index) (line : ℕ) where
  abbrev tests : List TestData
  tests = room.front ++ test ∷ room.back

  -- if the test holds a line's checksum, the checksum is held
  pub held_by_test : is_holding line test ≡ true → is_some (value_of nat_cmp line index.holders) ≡ true
  held_by_test holds =
      ap is_some (room.kept.holders line)
      ∙ held_where (holding line tests) (holding line (room.front ++ room.back)) (count_by-between (is_holding line) room.front test room.back ∙ ap (λ (b : Bool). holding line (room.front ++ room.back) + one_if b) holds)

  -- no more tests hold a checksum of the line than there are tests
  pub holders_few : IfSome (value_of nat_cmp line index.holders) (λ tests. tests ≤ 2 ^ 63)
  holders_few =
      let few : holding line tests ≤ 2 ^ 63 = omega (arith, room.few_tests, count_by-le-length (is_holding line) tests) in
      subst (λ holders. IfSome holders (λ n. n ≤ 2 ^ 63)) (sym (room.kept.holders line)) (few_where (nat_lt 0 (holding line tests)) (holding line tests) few)
