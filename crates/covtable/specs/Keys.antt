-- The order of branches: by line, block and number. It is total, and only equal branches compare as equal.
use Rattle.std.specs.Prelude.{◌≡◌, refl}
use Rattle.std.specs.Cmp.{IsTotalOrder}
use Rattle.std.specs.declared.cmp.Ordering.{Ordering}
use Rattle.std.specs.declared.cmp.Ordering.TheVariants.{Less, Equal, Greater}
use Rattle.std.specs.Ordering.{nat_cmp, ordering_then}
use Rattle.std.proofs.lemmas.Cmp.{nat_cmp_total, on_total, then_total}
use Rattle.std.proofs.lemmas.Map.Lookups.{exact_unsigned}
use Rattle.covdata.specs.Points.{BranchPoint}
use Rattle.covtable.specs.Value.{branch_cmp}

pub branch_key_total : IsTotalOrder branch_cmp
branch_key_total =
    then_total (on_total (λ (b : BranchPoint). b.line) nat_cmp_total)
    (then_total (on_total (λ (b : BranchPoint). b.block) nat_cmp_total) (on_total (λ (b : BranchPoint). b.branch) nat_cmp_total))

pub both_equal : (o p : Ordering) → ordering_then o p ≡ Equal → (o ≡ Equal) × (p ≡ Equal)
both_equal Less p e = absurd cc
both_equal Equal p e = (refl, e)
both_equal Greater p e = absurd cc

pub branch_key_exact : (a b : BranchPoint) → branch_cmp a b ≡ Equal → a ≡ b
branch_key_exact a b e =
    let p = both_equal (nat_cmp a.line b.line) (ordering_then (nat_cmp a.block b.block) (nat_cmp a.branch b.branch)) e in
    let q = both_equal (nat_cmp a.block b.block) (nat_cmp a.branch b.branch) p.1 in
    λ i. record { line = exact_unsigned a.line b.line p.0 i; block = exact_unsigned a.block b.block q.0 i; branch = exact_unsigned a.branch b.branch q.1 i }
