-- Which records of a section are odd.
use Rattle.std.proofs.Common.{◌≡◌, ◌+◌, cond, List, [], ◌∷◌, refl, arith}
use Rattle.std.specs.Prelude.{count_by}
use Rattle.std.proofs.lemmas.List.Sums.{sum_by-cons}
use Rattle.covdata.specs.Records.{LineData, FuncCount, Total}
use Rattle.covread.specs.Reads.{is_odd}
use Rattle.covread.specs.TraceSettle.{is_unstarted}
use Rattle.covread.specs.TraceTally.{is_other}

-- an odd record either counts a function without a start line or states a total other than the section's own
odd_one : (inside : List LineData) (r : LineData) → cond (is_unstarted inside r) 1 0 + cond (is_other inside r) 1 0 ≡ cond (is_odd inside r) 1 0
odd_one inside (FuncCount count name) = omega arith
odd_one inside (Total kind value) = omega arith
odd_one inside says = refl

pub odd_split : (inside records : List LineData) → count_by (is_unstarted inside) records + count_by (is_other inside) records ≡ count_by (is_odd inside) records
odd_split inside [] = refl
odd_split inside (r ∷ rs) =
    let a = sum_by-cons (λ (x : LineData). cond (is_unstarted inside x) 1 0) r rs in
    let b = sum_by-cons (λ (x : LineData). cond (is_other inside x) 1 0) r rs in
    let c = sum_by-cons (λ (x : LineData). cond (is_odd inside x) 1 0) r rs in
    omega (arith, a, b, c, odd_one inside r, odd_split inside rs)
