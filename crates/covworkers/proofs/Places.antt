-- A list that has each number below a bound once, and no other number. What its numbers bring is what all places below the bound
-- bring, in another order.
use Rattle.std.proofs.Common.{◌≡◌, ◌∙◌, inl, inr, ℕ, zero, suc, ◌+◌, ◌<◌, ◌≤◌, Bool, cond, List, [], ◌∷◌, ◌++◌, ap, sym, refl, subst, arith, append_assoc}
use Rattle.std.proofs.Math.Dec.{eqb}
use Rattle.std.proofs.lemmas.Bool.Decides.{eqb_tells}
use Rattle.std.proofs.lemmas.List.Concat.{flat_map-append}
use Rattle.std.proofs.lemmas.List.Sorted.{IsPermutation-refl, IsPermutation-trans, IsPermutation-append_comm, IsPermutation-append_right, IsPermutation-append_left}
use Rattle.std.specs.List.{flat_map}
use Rattle.std.specs.List.Sorted.{IsPermutation}
use Rattle.covworkers.specs.Collect.{brought, all_places}

-- how often the number is in the list
abbrev pub times : ℕ → List ℕ → ℕ
times place [] = 0
times place (p ∷ places) = cond (eqb place p) 1 0 + times place places

-- the list has this number, between the numbers before it and those after it
record Found (place : ℕ) (places : List ℕ) : Type 0 where
  before : List ℕ
  after : List ℕ
  is : places ≡ before ++ place ∷ after

found : (place : ℕ) (places : List ℕ) → 0 < times place places → Found place places
found place [] some = absurd (omega (arith, some))
found place (p ∷ places) some = elim (eqb_tells place p) [
  | inl (yes_is, same) ↦ record { before = []; after = places; is = ap (λ (x : ℕ). x ∷ places) (sym same) }
  | inr (no_is, differs) ↦
      let none : cond (eqb place p) 1 0 ≡ 0 = ap (λ (b : Bool). cond {A = ℕ} b 1 0) no_is in
      let rest = found place places (omega (arith, none, some)) in
      record { before = p ∷ rest.before; after = rest.after; is = ap (λ (xs : List ℕ). p ∷ xs) rest.is }
]

times_around : (place other : ℕ) (before after : List ℕ) → times other (before ++ place ∷ after) ≡ cond (eqb other place) 1 0 + times other (before ++ after)
times_around place other [] after = refl
times_around place other (p ∷ before) after =
    let rest = times_around place other before after in
    let a = cond (eqb other p) 1 0 in
    let b = cond (eqb other place) 1 0 in
    let c = times other (before ++ after) in
    ap (λ (n : ℕ). a + n) rest ∙ exchanged a b c
  where
    exchanged : (a b c : ℕ) → a + (b + c) ≡ b + (a + c)
    exchanged a b c = omega arith

-- the list has each number below the bound once, and no other number
pub record AreBelow (bound : ℕ) (places : List ℕ) : Type 0 where
  pub once : (place : ℕ) → place < bound → times place places ≡ 1
  pub none : (place : ℕ) → bound ≤ place → times place places ≡ 0

no_members : (places : List ℕ) → ((place : ℕ) → times place places ≡ 0) → places ≡ []
no_members [] none = refl
no_members (p ∷ places) none = elim (eqb_tells p p) [
  | inl (yes_is, same) ↦ let one : times p (p ∷ places) ≡ 1 + times p places = ap (λ (b : Bool). cond b 1 0 + times p places) yes_is in absurd (omega (arith, one, none p))
  | inr (no_is, differs) ↦ absurd (differs refl)
]

one_less : (bound : ℕ) (before after : List ℕ) → AreBelow (suc bound) (before ++ bound ∷ after) → AreBelow bound (before ++ after)
one_less bound before after are = record {
  once = λ place less. elim (eqb_tells place bound) [
    | inl (yes_is, same) ↦ absurd (omega (arith, same, less))
    | inr (no_is, differs) ↦
        let none : cond (eqb place bound) 1 0 ≡ 0 = ap (λ (b : Bool). cond {A = ℕ} b 1 0) no_is in
        omega (arith, none, times_around bound place before after, are.once place (omega (arith, less)))
  ];
  none = λ place above. elim (eqb_tells place bound) [
    | inl (yes_is, same) ↦
        let one : times place (before ++ bound ∷ after) ≡ 1 + times place (before ++ after) = times_around bound place before after ∙ ap (λ (b : Bool). cond b 1 0 + times place (before ++ after)) yes_is in
        omega (arith, one, are.once place (omega (arith, same)))
    | inr (no_is, differs) ↦
        let none : cond (eqb place bound) 1 0 ≡ 0 = ap (λ (b : Bool). cond {A = ℕ} b 1 0) no_is in
        omega (arith, none, times_around bound place before after, are.none place (omega (arith, above, differs)))
  ];
}

-- the list in the middle may be moved to the end
moved_last : {X : Type 0} (us x vs : List X) → IsPermutation (us ++ (x ++ vs)) ((us ++ vs) ++ x)
moved_last {X} us x vs =
    subst (λ (xs : List X). IsPermutation (us ++ (x ++ vs)) xs) (sym (append_assoc us vs x)) (IsPermutation-append_right us (x ++ vs) (vs ++ x) (IsPermutation-append_comm x vs))

pub all_below_bring : {X : Type 0} (f : ℕ → List X) (bound : ℕ) (places : List ℕ) → AreBelow bound places → IsPermutation (flat_map f places) (brought all_places f bound)
all_below_bring {X} f zero places are =
    subst (λ (ps : List ℕ). IsPermutation (flat_map f ps) []) (sym (no_members places (λ place. are.none place (omega arith)))) (IsPermutation-refl [])
all_below_bring {X} f (suc bound) places are =
    let at = found bound places (let one = are.once bound (omega arith) in omega (arith, one)) in
    let rest = one_less bound at.before at.after (subst (λ (ps : List ℕ). AreBelow (suc bound) ps) at.is are) in
    let whole : flat_map f places ≡ flat_map f at.before ++ (f bound ++ flat_map f at.after) = ap (λ (ps : List ℕ). flat_map f ps) at.is ∙ flat_map-append f at.before (bound ∷ at.after) in
    subst (λ (xs : List X). IsPermutation xs (brought all_places f bound ++ f bound)) (sym whole)
    (IsPermutation-trans (flat_map f at.before ++ (f bound ++ flat_map f at.after)) ((flat_map f at.before ++ flat_map f at.after) ++ f bound) (brought all_places f bound ++ f bound)
    (moved_last (flat_map f at.before) (f bound) (flat_map f at.after))
    (IsPermutation-append_left (f bound) (flat_map f at.before ++ flat_map f at.after) (brought all_places f bound)
    (subst (λ (xs : List X). IsPermutation xs (brought all_places f bound)) (flat_map-append f at.before at.after) (all_below_bring f bound (at.before ++ at.after) rest))))
