-- A printed rate is near the true one, and it shows all or none only if that is so.
use Rattle.std.proofs.Common.{◌≡◌, ℕ, zero, suc, ◌+◌, ◌*◌, ◌/◌, ◌<◌, ◌≤◌, Bool, true, false, cond, min, max, nat_lt, refl, sym, ap, ◌∙◌, subst, arith}
use Rattle.std.proofs.Math.Nat.{mul-div-le, lt-mul-div-succ, mul-le-mul_left}
use Rattle.std.proofs.lemmas.Bool.{ltb-true, ltb-false}
use Rattle.std.proofs.lemmas.Nat.{div-mul-add}
use Rattle.covreport.specs.Summary.{rounded, tenths_of}

rounded_all : (found : ℕ) → 0 < found → rounded found found ≡ 1000
rounded_all found some =
    let whole : 2000 * found + found ≡ 1000 * (2 * found) + found = omega arith in
    ap (λ (n : ℕ). n / (2 * found)) whole ∙ div-mul-add 1000 (2 * found) found (omega (arith, some))

rounded_none : (found : ℕ) → 0 < found → rounded 0 found ≡ 0
rounded_none found some =
    let whole : 2000 * 0 + found ≡ 0 * (2 * found) + found = omega arith in
    ap (λ (n : ℕ). n / (2 * found)) whole ∙ div-mul-add 0 (2 * found) found (omega (arith, some))

-- the printed rate, by whether less than all are hit and whether some are
abbrev told : Bool → Bool → ℕ → ℕ
told is_less is_some tenths = cond is_some (max (cond is_less (min tenths 999) tenths) 1) (cond is_less (min tenths 999) tenths)

module _ (hit found : ℕ) (some : 0 < found) (fewer : hit ≤ found) where
  pub told_all : tenths_of hit found ≡ 1000 → hit ≡ found
  told_all e = by (nat_lt hit found) (nat_lt 0 hit) (rounded hit found) refl e
    where
      by : (is_less is_some : Bool) (tenths : ℕ) → nat_lt hit found ≡ is_less → told is_less is_some tenths ≡ 1000 → hit ≡ found
      by true true tenths less e = absurd (omega (arith, e))
      by true false tenths less e = absurd (omega (arith, e))
      by false is_some tenths less e = omega (arith, ltb-false hit found less, fewer)

  pub told_none : tenths_of hit found ≡ 0 → hit ≡ 0
  told_none e = by (nat_lt hit found) (nat_lt 0 hit) (rounded hit found) refl e
    where
      by : (is_less is_some : Bool) (tenths : ℕ) → nat_lt 0 hit ≡ is_some → told is_less is_some tenths ≡ 0 → hit ≡ 0
      by true true tenths one e = absurd (omega (arith, e))
      by false true tenths one e = absurd (omega (arith, e))
      by is_less false tenths one e = omega (arith, ltb-false 0 hit one)

  -- this rate, in tenths of a percent, is less than one tenth off
  abbrev Near : ℕ → Type 0
  Near tenths = (found * tenths < 1000 * hit + found) × (1000 * hit < found * tenths + found)

  near_rounded : Near (rounded hit found)
  near_rounded =
      let low : 2 * found * rounded hit found ≤ 2000 * hit + found = mul-div-le (2000 * hit + found) (2 * found) in
      let high : 2000 * hit + found < 2 * found * (rounded hit found + 1) = lt-mul-div-succ (2000 * hit + found) (omega (arith, some)) in
      (omega (arith, some, low), omega (arith, some, high))

  near_min : (tenths : ℕ) → hit < found → Near tenths → Near (min tenths 999)
  near_min tenths less near = by (nat_lt 999 tenths) refl
    where
      by : (b : Bool) → nat_lt 999 tenths ≡ b → Near (min tenths 999)
      by true e =
          let above : 1000 ≤ tenths = omega (arith, ltb-true 999 tenths e) in
          let is : min tenths 999 ≡ 999 = omega (arith, above) in
          let more : found * 1000 ≤ found * tenths = mul-le-mul_left found above in
          subst Near (sym is) (omega (arith, more, near.0), omega (arith, less))
      by false e =
          let is : min tenths 999 ≡ tenths = omega (arith, ltb-false 999 tenths e) in
          subst Near (sym is) near

  near_max : (tenths : ℕ) → 0 < hit → Near tenths → Near (max tenths 1)
  near_max zero one near = (omega (arith, one), omega (arith, near.1))
  near_max (suc tenths) one near =
      let is : max (suc tenths) 1 ≡ suc tenths = omega arith in
      subst Near (sym is) near

  pub near_told : Near (tenths_of hit found)
  near_told = by (nat_lt hit found) (nat_lt 0 hit) refl refl
    where
      by : (is_less is_some : Bool) → nat_lt hit found ≡ is_less → nat_lt 0 hit ≡ is_some → Near (told is_less is_some (rounded hit found))
      by true true less one = near_max (min (rounded hit found) 999) (ltb-true 0 hit one) (near_min (rounded hit found) (ltb-true hit found less) near_rounded)
      by true false less one = near_min (rounded hit found) (ltb-true hit found less) near_rounded
      by false true less one = near_max (rounded hit found) (ltb-true 0 hit one) near_rounded
      by false false less one = near_rounded

pub all_told : (found : ℕ) → 0 < found → tenths_of found found ≡ 1000
all_told found some = by (nat_lt found found) (nat_lt 0 found) refl
  where
    by : (is_less is_some : Bool) → nat_lt found found ≡ is_less → told is_less is_some (rounded found found) ≡ 1000
    by true is_some less = absurd (omega (arith, ltb-true found found less))
    by false true less = ap (λ (n : ℕ). max n 1) (rounded_all found some)
    by false false less = rounded_all found some

pub none_told : (found : ℕ) → 0 < found → tenths_of 0 found ≡ 0
none_told found some = by (nat_lt 0 found)
  where
    by : (is_less : Bool) → cond is_less (min (rounded 0 found) 999) (rounded 0 found) ≡ 0
    by true = ap (λ (n : ℕ). min n 999) (rounded_none found some)
    by false = rounded_none found some
