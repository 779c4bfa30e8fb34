-- The orders of lines, names, keys and branches are exact: only equal ones compare as equal.
use Rattle.std.specs.Cmp.{IsTotalOrder}
use Rattle.std.specs.Ordering.{nat_cmp}
use Rattle.std.specs.Cmp.Lexicographic.{slice_cmp}
use Rattle.std.proofs.lemmas.Cmp.{nat_cmp_total, nat_list_cmp_total, on_total, then_total}
use Rattle.std.proofs.lemmas.Map.Lookups.{CmpEqualImpliesEq, exact_unsigned, exact_bytes}
use Rattle.covtable.specs.Keys.{both_equal, branch_key_exact, branch_key_total}
use Rattle.covtable.specs.Value.{Key, key_cmp, branch_cmp}
use Rattle.covtable.proofs.Ascend.{IsExactOrder}

pub lines_order : IsExactOrder nat_cmp
lines_order = record { total = nat_cmp_total; exact = exact_unsigned }

pub names_order : IsExactOrder (slice_cmp nat_cmp)
names_order = record { total = nat_list_cmp_total; exact = exact_bytes }

-- ---- keys

pub key_cmp_total : IsTotalOrder key_cmp
key_cmp_total = then_total (on_total (λ (k : Key). k.file) nat_list_cmp_total) (on_total (λ (k : Key). k.test) nat_list_cmp_total)

key_cmp_exact : CmpEqualImpliesEq key_cmp
key_cmp_exact a b e =
    let p = both_equal (slice_cmp nat_cmp a.file b.file) (slice_cmp nat_cmp a.test b.test) e in
    λ i. record { file = exact_bytes a.file b.file p.0 i; test = exact_bytes a.test b.test p.1 i }

pub keys_order : IsExactOrder key_cmp
keys_order = record { total = key_cmp_total; exact = key_cmp_exact }

-- ---- branches

pub branches_order : IsExactOrder branch_cmp
branches_order = record { total = branch_key_total; exact = branch_key_exact }
