-- Two lists side by side, by index.
use Rattle.std.proofs.Common.{◌≡◌, ◌≤◌, List, [], ◌∷◌, ◌++◌, length, refl, sym, ap, ◌∙◌, subst, arith}
use Rattle.std.specs.List.{AllByRecursion, zip}

zip_none : {K V : Type 0} (ks : List K) → zip {K = K} {X = V} ks [] ≡ []
zip_none [] = refl
zip_none (k ∷ ks) = refl

-- the pairs of the first keys, and then those of the other keys
pub zip_both : {K V : Type 0} (ks js : List K) (vs ws : List V) → length vs ≡ length ks → zip (ks ++ js) (vs ++ ws) ≡ zip ks vs ++ zip js ws
zip_both [] js [] ws same = refl
zip_both [] js (v ∷ vs) ws same = absurd (omega (arith, same))
zip_both (k ∷ ks) js [] ws same = absurd (omega (arith, same))
zip_both {K} {V} (k ∷ ks) js (v ∷ vs) ws same =
    ap (λ (ps : List (K × V)). (k, v) ∷ ps) (zip_both ks js vs ws (omega (arith, same)))

-- one more pair: the next key and a value, while later keys have none
pub zip_next : {K V : Type 0} (ks rest : List K) (vs : List V) (k : K) (v : V) → length vs ≡ length ks
    → zip (ks ++ k ∷ rest) (vs ++ v ∷ []) ≡ zip ks vs ++ (k, v) ∷ []
zip_next {K} {V} ks rest vs k v same =
    zip_both ks (k ∷ rest) vs (v ∷ []) same ∙ ap (λ (ps : List (K × V)). zip ks vs ++ (k, v) ∷ ps) (zip_none rest)

-- keys without a value make no pairs
pub zip_front : {K V : Type 0} (ks rest : List K) (vs : List V) → length vs ≤ length ks → zip (ks ++ rest) vs ≡ zip ks vs
zip_front [] rest [] few = zip_none rest
zip_front [] rest (w ∷ vs) few = absurd (omega (arith, few))
zip_front (j ∷ ks) rest [] few = refl
zip_front {K} {V} (j ∷ ks) rest (w ∷ vs) few = ap (λ (ps : List (K × V)). (j, w) ∷ ps) (zip_front ks rest vs (omega (arith, few)))

-- if `P` holds for all elements of two lists, it holds for all elements of both together
pub all_both : {X : Type 0} (P : X → Type 0) (xs ys : List X) → AllByRecursion P xs → AllByRecursion P ys → AllByRecursion P (xs ++ ys)
all_both P [] ys all more = more
all_both P (x ∷ xs) ys all more = (all.0, all_both P xs ys all.1 more)

-- if `P` holds for all elements of a list and for one more, it holds for all elements of the longer list
pub all_more : {X : Type 0} (P : X → Type 0) (xs : List X) (x : X) → AllByRecursion P xs → P x → AllByRecursion P (xs ++ x ∷ [])
all_more P [] x all fits = (fits, tt)
all_more P (y ∷ xs) x all fits = (all.0, all_more P xs x all.1 fits)

-- if `P` holds for all pairs and for the next pair, it holds for all pairs of the longer lists
pub pairs_more : {K V : Type 0} (P : K × V → Type 0) (ks rest : List K) (vs : List V) (k : K) (v : V) → length vs ≡ length ks
    → AllByRecursion P (zip ks vs) → P (k, v) → AllByRecursion P (zip (ks ++ k ∷ rest) (vs ++ v ∷ []))
pairs_more P ks rest vs k v same all fits = subst (AllByRecursion P) (sym (zip_next ks rest vs k v same)) (all_more P (zip ks vs) (k, v) all fits)

-- if `P` holds for all pairs, it still does if keys without a value follow
pub pairs_front : {K V : Type 0} (P : K × V → Type 0) (ks rest : List K) (vs : List V) → length vs ≤ length ks
    → AllByRecursion P (zip ks vs) → AllByRecursion P (zip (ks ++ rest) vs)
pairs_front P ks rest vs few all = subst (AllByRecursion P) (sym (zip_front ks rest vs few)) all

-- if `P` holds for the pairs of the first keys and for those of the other keys, it holds for all pairs of the longer lists
pub pairs_both : {K V : Type 0} (P : K × V → Type 0) (ks js : List K) (vs ws : List V) → length vs ≡ length ks
    → AllByRecursion P (zip ks vs) → AllByRecursion P (zip js ws) → AllByRecursion P (zip (ks ++ js) (vs ++ ws))
pairs_both P ks js vs ws same all more =
    subst (AllByRecursion P) (sym (zip_both ks js vs ws same)) (all_both P (zip ks vs) (zip js ws) all more)
