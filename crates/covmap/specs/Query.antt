-- Queries for keys: how each key compares with the queried one, along the order of the keys.
use Rattle.std.specs.Prelude.{◌≡◌, false, refl}
use Rattle.std.proofs.Common.{sym, ap, ◌∙◌}
use Rattle.std.specs.Cmp.{IsTotalOrder}
use Rattle.std.specs.declared.cmp.Ordering.{Ordering}
use Rattle.std.specs.declared.cmp.Ordering.TheVariants.{Less, Equal, Greater}
use Rattle.std.specs.Ordering.{is_lt, is_gt, ordering_reverse}
use Rattle.std.proofs.lemmas.Cmp.{alike_right}

-- `order` compares each key with the queried one, and agrees with the order of the keys
pub record IsQuery {K : Type 0} (cmp : K → K → Ordering) (order : K → Ordering) : Type 0 where
  pub before : (x y : K) → cmp x y ≡ Less → is_gt (order y) ≡ false → order x ≡ Less
  pub following : (x y : K) → cmp x y ≡ Less → is_lt (order x) ≡ false → order y ≡ Greater
  pub same : (x y : K) → order x ≡ Equal → order y ≡ cmp y x

-- if x comes before y, and y doesn't come after z, then x comes before z
before_at : {K : Type 0} {cmp : K → K → Ordering} → IsTotalOrder cmp → (x y z : K) (o : Ordering) → cmp y z ≡ o → cmp x y ≡ Less → is_gt o ≡ false → cmp x z ≡ Less
before_at t x y z Less e l g = t.trans x y z l e
before_at t x y z Equal e l g = sym (alike_right t y z x e) ∙ l
before_at t x y z Greater e l g = absurd cc

-- if x comes before y, and x doesn't come before z, then y comes after z
after_at : {K : Type 0} {cmp : K → K → Ordering} → IsTotalOrder cmp → (x y z : K) (o : Ordering) → cmp x z ≡ o → cmp x y ≡ Less → is_lt o ≡ false → cmp y z ≡ Greater
after_at t x y z Less e l g = absurd cc
after_at t x y z Equal e l g = t.antisymm y z ∙ ap ordering_reverse (sym (t.congr x z y e) ∙ l)
after_at t x y z Greater e l g = t.antisymm y z ∙ ap ordering_reverse (t.trans z x y (t.antisymm z x ∙ ap ordering_reverse e) l)

-- a key as a query for itself
pub query_by_order : {K : Type 0} {cmp : K → K → Ordering} → IsTotalOrder cmp → (z : K) → IsQuery cmp (λ key. cmp key z)
query_by_order {K} {cmp} t z = record {
  before = λ x y l g. before_at t x y z (cmp y z) refl l g;
  following = λ x y l g. after_at t x y z (cmp x z) refl l g;
  same = λ x y e. sym (alike_right t x z y e);
}
