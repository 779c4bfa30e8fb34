-- A page as contracts see it, made from its list of keys and its list of values, which may be shorter.
use Rattle.std.proofs.Common.{subst, ◌≡◌, ◌++◌, ℕ, zero, suc, ◌+◌, ◌-◌, ◌<◌, ◌≤◌, true, Option, List, [], ◌∷◌, length, map, get_or, take, drop, set, refl, sym, ap, ◌∙◌, append_assoc, arith}
use Rattle.std.specs.Prelude.{None, Some, Result, Ok, Err, OnErr, OnOk, option_map, slice_get}
use Rattle.std.proofs.lemmas.List.{length-append}
use Rattle.std.specs.List.{insert}
use Rattle.std.specs.Option.{is_some}
use Rattle.std.specs.Ordering.{is_lt}
use Rattle.std.specs.declared.cmp.Ordering.{Ordering}
use Rattle.std.specs.Cmp.{IsTotalOrder}
use Rattle.covmap.specs.Staged.{column_of, with_column}
use Rattle.covmap.specs.Slots.{AreSlots, IsGap, beside, empty, ends_before, page_at, value_in}
use Rattle.covmap.proofs.SlotWrites.{append_nil, put_whole, set_same}

pub beside_length : {K V : Type 0} (keys : List K) (values : List (Option V)) → length (beside keys values) ≡ length keys
beside_length [] values = refl
beside_length (key ∷ keys) [] = ap suc (beside_length keys [])
beside_length (key ∷ keys) (value ∷ values) = ap suc (beside_length keys values)

pub beside_keys : {K V : Type 0} (keys : List K) (values : List (Option V)) → map (λ slot. slot.0) (beside keys values) ≡ keys
beside_keys [] values = refl
beside_keys (key ∷ keys) [] = ap (λ rest. key ∷ rest) (beside_keys keys [])
beside_keys (key ∷ keys) (value ∷ values) = ap (λ rest. key ∷ rest) (beside_keys keys values)

-- the key in a slot is the one in the list of keys
pub beside_key : {K V : Type 0} (keys : List K) (values : List (Option V)) (i : ℕ) → option_map (λ slot. slot.0) (slice_get (beside keys values) i) ≡ slice_get keys i
beside_key [] values i = refl
beside_key (key ∷ keys) [] zero = refl
beside_key (key ∷ keys) [] (suc i) = beside_key keys [] i
beside_key (key ∷ keys) (value ∷ values) zero = refl
beside_key (key ∷ keys) (value ∷ values) (suc i) = beside_key keys values i

-- the value in a slot is the one in the list of values, if there is one
pub beside_value : {K V : Type 0} (keys : List K) (values : List (Option V)) (i : ℕ) → length values ≤ length keys → value_in (option_map (λ slot. slot.1) (slice_get (beside keys values) i)) ≡ value_in (slice_get values i)
beside_value [] [] i e = refl
beside_value [] (value ∷ values) i e = absurd (omega arith)
beside_value (key ∷ keys) [] zero e = refl
beside_value (key ∷ keys) [] (suc i) e = beside_value keys [] i (omega arith)
beside_value (key ∷ keys) (value ∷ values) zero e = refl
beside_value (key ∷ keys) (value ∷ values) (suc i) e = beside_value keys values i (omega arith)

-- the index of a slot that has a value is within the list of values
pub value_within : {V : Type 0} (values : List (Option V)) (i : ℕ) → is_some (value_in (slice_get values i)) ≡ true → i < length values
value_within [] i e = absurd cc
value_within (value ∷ values) zero e = omega arith
value_within (value ∷ values) (suc i) e = omega (arith, value_within values i e)

pub beside_read : {K V : Type 0} (keys : List K) (values : List (Option V)) (i : ℕ) (slot : K × Option V) → i < length keys → (get_or (beside keys values) i slot).0 ≡ get_or keys i slot.0
beside_read [] values i slot l = absurd (omega arith)
beside_read (key ∷ keys) [] zero slot l = refl
beside_read (key ∷ keys) [] (suc i) slot l = beside_read keys [] i slot (omega arith)
beside_read (key ∷ keys) (value ∷ values) zero slot l = refl
beside_read (key ∷ keys) (value ∷ values) (suc i) slot l = beside_read keys values i slot (omega arith)

-- a key that another one follows doesn't decide whether a page ends before the queried key
ends : {K V : Type 0} (order : K → Ordering) (first next : K) (keys : List K) (value : Option V) (values : List (Option V)) → ends_before order ((first, value) ∷ beside (next ∷ keys) values) ≡ ends_before order (beside (next ∷ keys) values)
ends order first next keys value [] = refl
ends order first next keys value (second ∷ values) = refl

-- only the last key decides whether a page ends before the queried key
pub beside_last : {K V : Type 0} (order : K → Ordering) (keys : List K) (values : List (Option V)) (last : ℕ) (key : K) → last ≡ length keys - 1 → Some key ≡ slice_get keys last
    → is_lt (order key) ≡ ends_before order (beside keys values)
beside_last order [] values last key l s = absurd cc
beside_last order (first ∷ []) [] zero key l s = let same : key ≡ first = cc in ap (λ key. is_lt (order key)) same
beside_last order (first ∷ []) (value ∷ values) zero key l s = let same : key ≡ first = cc in ap (λ key. is_lt (order key)) same
beside_last order (first ∷ []) values (suc last) key l s = absurd (omega arith)
beside_last order (first ∷ next ∷ keys) values zero key l s = absurd (omega arith)
beside_last order (first ∷ next ∷ keys) [] (suc last) key l s = beside_last order (next ∷ keys) [] last key (omega arith) s
beside_last order (first ∷ next ∷ keys) (value ∷ values) (suc last) key l s = beside_last order (next ∷ keys) values last key (omega arith) s ∙ sym (ends order first next keys value values)

-- the values, filled up with empty ones, are the page's column
nothing_beside : {K V : Type 0} (keys : List K) → empty (length keys) ≡ column_of {K = K} {V = V} (beside keys [])
nothing_beside [] = refl
nothing_beside (key ∷ keys) = ap (λ rest. None ∷ rest) (nothing_beside keys)

pub beside_column : {K V : Type 0} (keys : List K) (values : List (Option V)) → length values ≤ length keys → values ++ empty (length keys - length values) ≡ column_of (beside keys values)
beside_column keys [] e = let all : length keys - 0 ≡ length keys = omega arith in ap (λ n. empty n) all ∙ nothing_beside keys
beside_column [] (value ∷ values) e = absurd (omega arith)
beside_column (key ∷ keys) (value ∷ values) e =
    let left : suc (length keys) - suc (length values) ≡ length keys - length values = omega arith in
    ap (λ rest. value ∷ rest) (ap (λ n. values ++ empty n) left ∙ beside_column keys values (omega arith))

pub beside_given : {K V : Type 0} (keys : List K) (values column : List (Option V)) → length column ≡ length keys → beside keys column ≡ with_column (beside keys values) column
beside_given [] values column e = refl
beside_given (key ∷ keys) values [] e = absurd (omega arith)
beside_given (key ∷ keys) [] (given ∷ column) e = ap (λ rest. (key, given) ∷ rest) (beside_given keys [] column (omega arith))
beside_given (key ∷ keys) (value ∷ values) (given ∷ column) e = ap (λ rest. (key, given) ∷ rest) (beside_given keys values column (omega arith))

own_column : {K V : Type 0} (slots : List (K × Option V)) → slots ≡ with_column slots (column_of slots)
own_column [] = refl
own_column (slot ∷ slots) = ap (λ rest. slot ∷ rest) (own_column slots)

-- writing a value into a slot that has one
pub beside_set : {K V : Type 0} (keys : List K) (values : List (Option V)) (i : ℕ) (value : Option V) → i < length values → length values ≤ length keys
    → beside keys (set values i value) ≡ with_column (beside keys values) (set (column_of (beside keys values)) i value)
beside_set keys [] i value l e = absurd (omega arith)
beside_set [] (old ∷ values) i value l e = absurd (omega arith)
beside_set (key ∷ keys) (old ∷ values) zero value l e = ap (λ rest. (key, value) ∷ rest) (own_column (beside keys values))
beside_set (key ∷ keys) (old ∷ values) (suc i) value l e = ap (λ rest. (key, old) ∷ rest) (beside_set keys values i value (omega arith) (omega arith))

-- inserting a key before the end of the list of values
pub beside_insert : {K V : Type 0} (keys : List K) (values : List (Option V)) (i : ℕ) (key : K) → i < length values → length values ≤ length keys → beside (insert keys i key) (insert values i None) ≡ insert (beside keys values) i (key, None)
beside_insert keys [] i key l e = absurd (omega arith)
beside_insert [] (value ∷ values) i key l e = absurd (omega arith)
beside_insert (first ∷ keys) (value ∷ values) zero key l e = refl
beside_insert (first ∷ keys) (value ∷ values) (suc i) key l e = ap (λ rest. (first, value) ∷ rest) (beside_insert keys values i key (omega arith) (omega arith))

-- inserting a key past the end of the list of values
pub beside_after : {K V : Type 0} (keys : List K) (values : List (Option V)) (i : ℕ) (key : K) → length values ≤ i → i ≤ length keys → beside (insert keys i key) values ≡ insert (beside keys values) i (key, None)
beside_after [] [] zero key l e = refl
beside_after [] [] (suc i) key l e = absurd (omega arith)
beside_after [] (value ∷ values) i key l e = absurd (omega arith)
beside_after (first ∷ keys) [] zero key l e = refl
beside_after (first ∷ keys) [] (suc i) key l e = ap (λ rest. (first, None) ∷ rest) (beside_after keys [] i key (omega arith) (omega arith))
beside_after (first ∷ keys) (value ∷ values) zero key l e = absurd (omega arith)
beside_after (first ∷ keys) (value ∷ values) (suc i) key l e = ap (λ rest. (first, value) ∷ rest) (beside_after keys values i key (omega arith) (omega arith))

-- inserting after all others is appending
pub insert_last : {X : Type 0} (xs : List X) (i : ℕ) (x : X) → i ≡ length xs → xs ++ x ∷ [] ≡ insert xs i x
insert_last [] zero x e = refl
insert_last [] (suc i) x e = absurd (omega arith)
insert_last (first ∷ xs) zero x e = absurd (omega arith)
insert_last (first ∷ xs) (suc i) x e = ap (λ rest. first ∷ rest) (insert_last xs i x (omega arith))

take_none : {K V : Type 0} (keys : List K) (n : ℕ) → beside {K = K} {V = V} (take n keys) [] ≡ take n (beside keys [])
take_none keys zero = refl
take_none [] (suc n) = refl
take_none (key ∷ keys) (suc n) = ap (λ rest. (key, None) ∷ rest) (take_none keys n)

drop_none : {K V : Type 0} (keys : List K) (n : ℕ) → beside {K = K} {V = V} (drop n keys) [] ≡ drop n (beside keys [])
drop_none keys zero = refl
drop_none [] (suc n) = refl
drop_none (key ∷ keys) (suc n) = drop_none keys n

pub beside_take : {K V : Type 0} (keys : List K) (values : List (Option V)) (n : ℕ) → beside (take n keys) (take n values) ≡ take n (beside keys values)
beside_take keys values zero = refl
beside_take [] values (suc n) = refl
beside_take (key ∷ keys) [] (suc n) = ap (λ rest. (key, None) ∷ rest) (take_none keys n)
beside_take (key ∷ keys) (value ∷ values) (suc n) = ap (λ rest. (key, value) ∷ rest) (beside_take keys values n)

pub beside_drop : {K V : Type 0} (keys : List K) (values : List (Option V)) (n : ℕ) → beside (drop n keys) (drop n values) ≡ drop n (beside keys values)
beside_drop keys values zero = refl
beside_drop [] values (suc n) = refl
beside_drop (key ∷ keys) [] (suc n) = drop_none keys n
beside_drop (key ∷ keys) (value ∷ values) (suc n) = beside_drop keys values n

pub beside_drop_all : {K V : Type 0} (keys : List K) (values : List (Option V)) (n : ℕ) → length values ≤ n → beside (drop n keys) [] ≡ drop n (beside keys values)
beside_drop_all keys [] n l = drop_none keys n
beside_drop_all keys (value ∷ values) zero l = absurd (omega arith)
beside_drop_all [] (value ∷ values) (suc n) l = refl
beside_drop_all (key ∷ keys) (value ∷ values) (suc n) l = beside_drop_all keys values n (omega arith)

-- one more empty value
pub empty_more : {V : Type 0} (n : ℕ) → empty {V = V} n ++ None ∷ [] ≡ empty (suc n)
empty_more zero = refl
empty_more (suc n) = ap (λ rest. None ∷ rest) (empty_more n)

pub filled_more : {V : Type 0} (old now more : List (Option V)) → now ≡ old ++ empty (length now - length old) → length old ≤ length now → more ≡ now ++ None ∷ [] → more ≡ old ++ empty (length more - length old)
filled_more old now more is le e =
    let n = length now - length old in
    let long : length more ≡ length now + 1 = ap length e ∙ length-append now (None ∷ []) in
    let count : suc n ≡ length more - length old = omega (arith, long, le) in
    e ∙ ap (λ xs. xs ++ None ∷ []) is ∙ append_assoc old (empty n) (None ∷ []) ∙ ap (λ xs. old ++ xs) (empty_more n) ∙ ap (λ n. old ++ empty n) count

pub filled_none : {V : Type 0} (old : List (Option V)) → old ≡ old ++ empty (length old - length old)
filled_none old = let none : 0 ≡ length old - length old = omega arith in sym (append_nil old) ∙ ap (λ n. old ++ empty n) none

pub drop_length : {X : Type 0} (n : ℕ) (xs : List X) → length (drop n xs) ≡ length xs - n
drop_length zero xs = omega arith
drop_length (suc n) [] = omega arith
drop_length (suc n) (x ∷ xs) = let rest = drop_length n xs in omega (arith, rest)

-- a page that was read at a number within the list is the page of that number
pub page_here : {X : Type 0} (pages : List (List X)) (i : ℕ) (page : List X) → i < length pages → page ≡ get_or pages i page → get_or pages i [] ≡ page
page_here [] i page l e = absurd (omega arith)
page_here (first ∷ pages) zero page l e = sym e
page_here (first ∷ pages) (suc i) page l e = page_here pages i page (omega arith) e

-- slots stay valid if a page gets one more key, or stays as it is
pub insert_whole : {K V E : Type 0} {cmp : K → K → Ordering} → IsTotalOrder cmp → (pages : List (List (K × Option V))) (i j : ℕ) (key : K) (page : List (K × Option V)) (r : Result (Unit {0}) E) → AreSlots cmp pages
    → IsGap (λ other. cmp other key) pages (i, j) → i < length pages → length (page_at pages i) < 256 → OnOk r (page ≡ insert (page_at pages i) j (key, None)) → OnErr r (page ≡ page_at pages i) → AreSlots cmp (set pages i page)
insert_whole {K} {V} {E} {cmp} t pages i j key page (Ok u) slots gap there room ok err = subst (λ page. AreSlots cmp (set pages i page)) (sym ok) (put_whole t pages i j key slots gap there room)
insert_whole {K} {V} {E} {cmp} t pages i j key page (Err e) slots gap there room ok err = subst (λ page. AreSlots cmp (set pages i page)) (sym err) (subst (AreSlots cmp) (sym (set_same pages i)) slots)
