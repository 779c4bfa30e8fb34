-- The bytes of a source that are still to come, if they are known.
use Rattle.std.proofs.Common.{◌≡◌, ℕ, suc, List, [], ◌++◌, Option, Some, None, option_map, refl, sym, ap, ◌∙◌, append_assoc, append-nil, arith}
use Rattle.std.proofs.KnownBytes.{Consumes-trans}
use Rattle.std.specs.Io.KnownBytes.{Consumes, IsAtEnd}
use Rattle.covlarge.specs.Large.{IsAll}
use Rattle.covlarge.specs.State.{MayFailFrom}

-- some text has these bytes, if they are known
pub some_text : (known : Option (List ℕ)) → (text : List ℕ) × IsAll known text
some_text None = ([], tt)
some_text (Some bytes) = (bytes, refl)

-- bytes were read, up to the end
pub all_to_end : (left after : Option (List ℕ)) (bytes : List ℕ) → Consumes left after bytes → IsAtEnd after → IsAll left bytes
all_to_end None after bytes took end = tt
all_to_end (Some xs) None bytes took end = absurd took
all_to_end (Some xs) (Some ys) bytes took end = sym (took ∙ ap (λ (t : List ℕ). bytes ++ t) end ∙ append-nil bytes)

-- bytes were read, and these follow
pub all_on : (left after : Option (List ℕ)) (bytes more : List ℕ) → Consumes left after bytes → IsAll after more → IsAll left (bytes ++ more)
all_on None after bytes more took all = tt
all_on (Some xs) None bytes more took all = absurd took
all_on (Some xs) (Some ys) bytes more took all = ap (λ (t : List ℕ). bytes ++ t) all ∙ sym took

-- the first bytes were read, and the rest is known
pub all_after : (first : List ℕ) (known : Option (List ℕ)) (more text : List ℕ) → text ≡ first ++ more → IsAll known more → IsAll (option_map (λ (rest : List ℕ). first ++ rest) known) text
all_after first None more text is all = tt
all_after first (Some bytes) more text is all = is ∙ ap (λ (rest : List ℕ). first ++ rest) all

-- bytes were read, and some more follow
pub all_further : (left after : Option (List ℕ)) (bytes : List ℕ) → Consumes left after bytes → (more : List ℕ) × IsAll left (bytes ++ more)
all_further left after bytes took =
    let more = some_text after in
    (more.0, all_on left after bytes more.0 took more.1)

-- what is to come, once a piece was taken off
pub come_on : (rest bytes piece next more text : List ℕ) → rest ++ bytes ≡ piece ++ next → text ≡ next ++ more → piece ++ text ≡ rest ++ (bytes ++ more)
come_on rest bytes piece next more text joined is =
    ap (λ (t : List ℕ). piece ++ t) is ∙ sym (append_assoc piece next more) ∙ ap (λ (t : List ℕ). t ++ more) (sym joined) ∙ append_assoc rest bytes more

-- ---- failures

module _ {S : Type 0} (left : S → Option (List ℕ)) (failed : S → ℕ) where
  pub fails_on : (a b : S) (bytes : List ℕ) → Consumes (left a) (left b) bytes → failed b ≡ failed a → MayFailFrom left failed b → MayFailFrom left failed a
  fails_on a b bytes took same (after, more, took_more, worse) =
      (after, bytes ++ more, Consumes-trans (left a) (left b) (left after) bytes more took took_more, omega (arith, worse, same))

  pub fails_here : (a b : S) (bytes : List ℕ) → Consumes (left a) (left b) bytes → failed b ≡ suc (failed a) → MayFailFrom left failed a
  fails_here a b bytes took worse = (b, bytes, took, omega (arith, worse))
