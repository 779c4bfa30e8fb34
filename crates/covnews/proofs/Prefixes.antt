-- Prefixes of a list.
use Rattle.std.proofs.Common.{◌≡◌, ◌≤◌, List, [], ◌∷◌, ◌++◌, length, refl, ap, sym, ◌∙◌, append_assoc, arith}
use mathlib.Core.List.{IsPrefix}

-- a prefix of a prefix is a prefix
pub prefix_of_prefix : {A : Type 0} (xs ys zs : List A) → IsPrefix xs ys → IsPrefix ys zs → IsPrefix xs zs
prefix_of_prefix xs ys zs p q = (p.0 ++ q.0, sym (append_assoc xs p.0 q.0) ∙ (ap (λ front. front ++ q.0) p.1 ∙ q.1))

-- of two prefixes of one list the shorter is a prefix of the longer
pub shorter_prefix : {A : Type 0} (xs ys whole : List A) → IsPrefix xs whole → IsPrefix ys whole → length xs ≤ length ys → IsPrefix xs ys
shorter_prefix [] ys whole p q few = (ys, refl)
shorter_prefix (x ∷ xs) [] whole p q few = absurd (omega arith)
shorter_prefix (x ∷ xs) (y ∷ ys) [] p q few = absurd (cc p.1)
shorter_prefix (x ∷ xs) (y ∷ ys) (z ∷ whole) p q few =
    let same : x ≡ y = cc (p.1, q.1) in
    let rest = shorter_prefix xs ys whole (p.0, cc p.1) (q.0, cc q.1) (omega arith) in
    (rest.0, cc (same, rest.1))

-- a prefix that is as long as the whole is the whole
pub whole_prefix : {A : Type 0} (xs whole : List A) → IsPrefix xs whole → length whole ≤ length xs → xs ≡ whole
whole_prefix [] [] p all = refl
whole_prefix [] (y ∷ whole) p all = absurd (omega arith)
whole_prefix (x ∷ xs) [] p all = absurd (cc p.1)
whole_prefix (x ∷ xs) (y ∷ whole) p all =
    let rest = whole_prefix xs whole (p.0, cc p.1) (omega arith) in cc (p.1, rest)
