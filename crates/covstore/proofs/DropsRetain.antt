-- What `retain` leaves if its closure keeps every entry, may change each value, and keeps its own state.
use Rattle.covstore.proofs.Words.{◌≡◌, Bool, true, cond, List, [], ◌∷◌, refl, sym, ap, ◌∙◌, subst, AllByRecursion}
use Rattle.std.specs.Map.Calls.{RetainsPairs}

-- the same keys, each with its replaced value
abbrev pub AreWritten : {K X : Type 0} → (X → X → Type 0) → List (K × X) → List (K × X) → Type 0
AreWritten R [] [] = Unit {0}
AreWritten R [] (later ∷ laters) = ⊥
AreWritten R (pair ∷ pairs) [] = ⊥
AreWritten R (pair ∷ pairs) (later ∷ laters) = (later.0 ≡ pair.0) × R pair.1 later.1 × AreWritten R pairs laters

module _ {F K X : Type 0} (T : F → K → X → Bool → X → F → Type 0) (P : X → Type 0) (R : X → X → Type 0) (f : F)
    (step : (k : K) (v : X) (b : Bool) (w : X) (g : F) → P v → T f k v b w g → (b ≡ true) × R v w × (g ≡ f)) where
  pub all_written : (pairs kept : List (K × X)) → AllByRecursion (λ pair. P pair.1) pairs → RetainsPairs T f pairs kept → AreWritten R pairs kept
  all_written [] kept all ran = subst (AreWritten R []) (sym ran) tt
  all_written (pair ∷ pairs) kept all ran =
      let b = ran.0 in
      let w = ran.1 in
      let rest = ran.3 in
      let one = step pair.0 pair.1 b w ran.2 all.0 ran.4 in
      let others : AreWritten R pairs rest = all_written pairs rest all.1 (subst (λ (g : F). RetainsPairs T g pairs rest) one.2 ran.5) in
      subst (AreWritten R (pair ∷ pairs)) (sym (ran.6 ∙ ap (λ (c : Bool). cond c ((pair.0, w) ∷ rest) rest) one.0)) (refl, one.1, others)
