-- What follows a key, and which lines begin with one.
use Rattle.std.proofs.Common.{◌≡◌, ◌≢◌, ℕ, ◌⊎◌, inl, inr, true, false, eqb, List, [], ◌∷◌, ◌++◌, Some, None, refl, sym}
use Rattle.std.proofs.lemmas.Bool.{eq-eqb, ne_eqb, cases_eq}
use Rattle.covline.specs.Spells.{Begins}
use Rattle.covline.specs.Reading.{after_key}

pub after_key-same : (key rest : List ℕ) → after_key key (key ++ rest) ≡ Some rest
after_key-same [] rest = refl
after_key-same (k ∷ ks) rest = let same : eqb k k ≡ true = eq-eqb k k refl in rw same (after_key-same ks rest)

same_head : (a b : ℕ) (xs ys : List ℕ) → a ∷ xs ≡ b ∷ ys → a ≡ b
same_head a b xs ys e = cc

same_tail : (a b : ℕ) (xs ys : List ℕ) → a ∷ xs ≡ b ∷ ys → xs ≡ ys
same_tail a b xs ys e = cc

nil_isnt_cons : (b : ℕ) (bs : List ℕ) → [] ≢ b ∷ bs
nil_isnt_cons b bs e = cc

joined : (k b : ℕ) (bs rest : List ℕ) → k ≡ b → bs ≡ rest → b ∷ bs ≡ k ∷ rest
joined k b bs rest p q = cc

pub begins_or_not : (key line : List ℕ) → Begins line key ⊎ ¬ Begins line key
begins_or_not [] line = inl (line, refl)
begins_or_not (k ∷ ks) [] = inr (λ begins. nil_isnt_cons k (ks ++ begins.0) begins.1)
begins_or_not (k ∷ ks) (b ∷ bs) =
    elim (cases_eq k b) [
      | inl same ↦ elim (begins_or_not ks bs) [
        | inl begins ↦ inl (begins.0, joined k b bs (ks ++ begins.0) same begins.1)
        | inr other ↦ inr (λ begins. other (begins.0, same_tail b k bs (ks ++ begins.0) begins.1))
      ]
      | inr other ↦ inr (λ begins. other (sym (same_head b k bs (ks ++ begins.0) begins.1)))
    ]

pub after_key-none : (key line : List ℕ) → ¬ Begins line key → after_key key line ≡ None
after_key-none [] line other = absurd (other (line, refl))
after_key-none (k ∷ ks) [] other = refl
after_key-none (k ∷ ks) (b ∷ bs) other =
    elim (cases_eq k b) [
      | inl same ↦ let test : eqb k b ≡ true = eq-eqb k b same in
          rw test (after_key-none ks bs (λ begins. other (begins.0, joined k b bs (ks ++ begins.0) same begins.1)))
      | inr differ ↦ let test : eqb k b ≡ false = ne_eqb k b differ in rw test refl
    ]
