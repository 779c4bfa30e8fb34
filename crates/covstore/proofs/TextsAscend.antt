-- Lines that ascend from a least one.
use Rattle.covstore.proofs.Words.{◌≡◌, ℕ, ◌+◌, ◌≤◌, ◌<◌, List, [], ◌∷◌, sym, subst, arith, Less, nat_cmp, cond-true, lt-ltb, ItemData, All-weaker}
use Rattle.std.specs.List.Sorted.{IsStrictlySortedBy}
use Rattle.covstore.specs.HeldChecksums.{AscendFrom, checked_lines}

less_of : (x y : ℕ) → x < y → nat_cmp x y ≡ Less
less_of x y lt = cond-true _ Less _ (lt-ltb x y lt)

-- a line, followed by lines that ascend from the number after it
pub ascend_one : (line least next : ℕ) → least ≤ line → next ≡ line + 1 → (lines : List ℕ) → AscendFrom next lines → AscendFrom least (line ∷ lines)
unfolding IsStrictlySortedBy
ascend_one line least next from is lines ascend = record {
  above = (from, All-weaker (λ other. next ≤ other) (λ other. least ≤ other) lines (λ other le. omega (arith, le, is, from)) ascend.above);
  sorted = (All-weaker (λ other. next ≤ other) (λ other. nat_cmp line other ≡ Less) lines (λ other le. less_of line other (omega (arith, le, is))) ascend.above, ascend.sorted);
}

pub ascend_none : (least : ℕ) → AscendFrom least []
unfolding IsStrictlySortedBy
ascend_none least = record { above = tt; sorted = tt }

-- what is known so far: if the lines that are left ascend from `least`, all lines ascend
abbrev pub AscendWith : List ItemData → List ItemData → ℕ → Type 0
AscendWith all left least = AscendFrom least (checked_lines left) → IsStrictlySortedBy nat_cmp (checked_lines all)

pub ascend_end : (all left : List ItemData) (least : ℕ) → left ≡ [] → AscendWith all left least → IsStrictlySortedBy nat_cmp (checked_lines all)
ascend_end all left least none with_left = with_left (subst (λ (items : List ItemData). AscendFrom least (checked_lines items)) (sym none) (ascend_none least))
