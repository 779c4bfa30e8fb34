-- Bytes that are taken or written in steps, and the lines that are found in them.
use Rattle.std.proofs.Common.{◌≡◌, ℕ, zero, suc, ◌+◌, ◌-◌, ◌^◌, ◌<◌, ◌≤◌, Bool, true, false, List, [], ◌∷◌, ◌++◌, length, take, drop, min, get_or, Option, None, Some, refl, sym, ◌∙◌, ap, subst, arith, add-one, append_assoc, append-nil, length-append, eqb}
use Rattle.std.proofs.Math.Seq.{take-add}
use Rattle.std.proofs.lemmas.List.{take_rest, take-append-drop, take_all, length-take}
use Rattle.memchr.specs.Find.{IsFirstByte, is_byte}
use Rattle.std.specs.Io.KnownBytes.{Consumes, Appends, prepend_known}
use Rattle.covdata.specs.Delimiters.{line_feed}
use Rattle.covline.specs.Lines.{before_feed}
use Rattle.covsession.specs.Text.{line_after, line_with, IsCollected}
use Rattle.covsession.specs.declared.session.text.LineSoFar.{LineSoFar}
use Rattle.covsession.specs.declared.session.text.LineSoFar.TheVariants.{Nothing, Other}

-- a Bool that isn't true is false
pub not_true : (b : Bool) → (b ≡ true → ⊥) → b ≡ false
not_true true h = absurd (h refl)
not_true false h = refl

-- the first `k` bytes are those before the first line feed, if none of them is a line feed and the next byte, if there is one, is
pub front_of : (xs : List ℕ) (k : ℕ) → k ≤ length xs → ((j : ℕ) → j < k → eqb (get_or xs j 0) 10 ≡ true → ⊥)
    → (k < length xs → eqb (get_or xs k 0) 10 ≡ true) → before_feed xs ≡ take k xs
front_of [] zero few none here = refl
front_of [] (suc k) few none here = refl
front_of (b ∷ bs) zero few none here = rw (here (omega arith)) refl
front_of (b ∷ bs) (suc k) few none here =
    rw (not_true (eqb b 10) (none 0 (omega arith)))
    (ap (λ (ys : List ℕ). b ∷ ys) (front_of bs k (omega arith) (λ j h. none (suc j) (omega arith)) (λ h. here (omega arith))))

pub line_after-other : (bs : List ℕ) → line_after Other bs ≡ Other
line_after-other [] = refl
line_after-other (b ∷ bs) = line_after-other bs

pub line_after-step : (so_far : LineSoFar) (xs : List ℕ) (i : ℕ) → i < length xs
    → line_after (line_with so_far (get_or xs i 0)) (drop (i + 1) xs) ≡ line_after so_far (drop i xs)
line_after-step so_far [] i h = absurd (omega arith)
line_after-step so_far (x ∷ xs) zero h = refl
line_after-step so_far (x ∷ xs) (suc i) h = rw add-one (rw add-one at (line_after-step so_far xs i (omega arith)))

pub line_after-append : (so_far : LineSoFar) (xs ys : List ℕ) → line_after so_far (xs ++ ys) ≡ line_after (line_after so_far xs) ys
line_after-append so_far [] ys = refl
line_after-append so_far (x ∷ xs) ys = line_after-append (line_with so_far x) xs ys

-- if the first `i` bytes were written, and then the next `n`, the first `i + n` were written
pub Appends-step : (a b c : Option (List ℕ)) (xs : List ℕ) (i n : ℕ)
    → Appends a b (take i xs) → Appends b c (take n (take (length xs - i) (drop i xs))) → Appends a c (take (i + n) xs)
Appends-step None b c xs i n h k = tt
Appends-step (Some x) None c xs i n h k = absurd h
Appends-step (Some x) (Some y) None xs i n h k = absurd k
Appends-step (Some x) (Some y) (Some z) xs i n h k =
    k ∙ ap (λ (u : List ℕ). y ++ take n u) (take_rest xs i) ∙ ap (λ (u : List ℕ). u ++ take n (drop i xs)) h ∙ append_assoc x (take i xs) (take n (drop i xs)) ∙ ap (λ (u : List ℕ). x ++ u) (sym (take-add i n xs))

pub Consumes-trans : (a b c : Option (List ℕ)) (xs ys : List ℕ) → Consumes a b xs → Consumes b c ys → Consumes a c (xs ++ ys)
Consumes-trans None b c xs ys h k = tt
Consumes-trans (Some x) None c xs ys h k = absurd h
Consumes-trans (Some x) (Some y) None xs ys h k = absurd k
Consumes-trans (Some x) (Some y) (Some z) xs ys h k = h ∙ ap (λ (u : List ℕ). xs ++ u) k ∙ sym (append_assoc xs ys z)

pub Appends-trans : (a b c : Option (List ℕ)) (xs ys : List ℕ) → Appends a b xs → Appends b c ys → Appends a c (xs ++ ys)
Appends-trans None b c xs ys h k = tt
Appends-trans (Some x) None c xs ys h k = absurd h
Appends-trans (Some x) (Some y) None xs ys h k = absurd k
Appends-trans (Some x) (Some y) (Some z) xs ys h k = k ∙ ap (λ (u : List ℕ). u ++ ys) h ∙ append_assoc x xs ys

pub front_some : (ys xs : List ℕ) (k : ℕ) → ys ≡ xs → IsFirstByte (is_byte 10) ys (Some k) → before_feed xs ≡ take k xs
front_some ys xs k e h =
    subst (λ (zs : List ℕ). before_feed zs ≡ take k zs) e
    (let at : k < length ys = h.0.high in front_of ys k (omega arith) (λ j l. h.0.before j (omega arith) l) (λ l. h.1))

pub front_none : (ys xs : List ℕ) (k : ℕ) → ys ≡ xs → IsFirstByte (is_byte 10) ys None → k ≡ length ys → before_feed xs ≡ take k xs
front_none ys xs k e h same =
    subst (λ (zs : List ℕ). before_feed zs ≡ take k zs) e
    (front_of ys k (omega arith) (λ j l. h j (omega arith) (omega arith)) (λ l. absurd (omega arith)))

pub collected_add : (limit limit' : ℕ) (kept kept' : List ℕ) (total total' begins begins' : ℕ) (line line' : LineSoFar) (part before now : List ℕ)
    → IsCollected limit kept total begins line before now → limit' ≡ limit → begins' ≡ begins
    → kept' ≡ take limit ((before ++ now) ++ part) → total' ≡ min (total + length part) (2 ^ 64 - 1) → line' ≡ line_after line part
    → IsCollected limit' kept' total' begins' line' before (now ++ part)
collected_add limit limit' kept kept' total total' begins begins' line line' part before now h el eb ek et en = record {
  keeps = ek ∙ ap (λ (n : ℕ). take n ((before ++ now) ++ part)) (sym el) ∙ ap (λ (u : List ℕ). take limit' u) (append_assoc before now part);
  all =
      let h1 = h.all in
      let n1 : length (before ++ (now ++ part)) ≡ length (before ++ now) + length part = simp length-append (omega arith) in
      omega arith;
  start = eb ∙ h.start;
  so_far = en ∙ ap (λ (s : LineSoFar). line_after s part) h.so_far ∙ sym (line_after-append Nothing now part);
}

pub collected_next : (limit limit' : ℕ) (kept kept' : List ℕ) (total total' begins begins' : ℕ) (line : LineSoFar) (before now : List ℕ)
    → IsCollected limit kept total begins line before now → limit' ≡ limit
    → kept' ≡ take limit ((before ++ now) ++ line_feed ∷ []) → total' ≡ min (total + 1) (2 ^ 64 - 1) → begins' ≡ total'
    → IsCollected limit' kept' total' begins' Nothing (before ++ (now ++ line_feed ∷ [])) []
collected_next limit limit' kept kept' total total' begins begins' line before now h el ek et eb =
    let n1 : length (before ++ (now ++ line_feed ∷ [])) ≡ length (before ++ now) + 1 = simp length-append (omega arith) in
    let n2 : total' ≡ min (length (before ++ (now ++ line_feed ∷ []))) (2 ^ 64 - 1) = let h1 = h.all in omega arith in
    record {
      keeps = ek ∙ ap (λ (n : ℕ). take n ((before ++ now) ++ line_feed ∷ [])) (sym el)
          ∙ ap (λ (u : List ℕ). take limit' u) (append_assoc before now (line_feed ∷ []) ∙ sym (append-nil (before ++ (now ++ line_feed ∷ []))));
      all = n2 ∙ ap (λ (u : List ℕ). min (length u) (2 ^ 64 - 1)) (sym (append-nil (before ++ (now ++ line_feed ∷ []))));
      start = eb ∙ n2;
      so_far = refl;
    }

-- the next lemma for a list with one more byte in front
before_feed-cons : (x : ℕ) (xs ys : List ℕ) (b : Bool) → eqb x line_feed ≡ b → (before_feed xs ≡ xs → before_feed (xs ++ ys) ≡ xs ++ before_feed ys)
    → before_feed (x ∷ xs) ≡ x ∷ xs → before_feed (x ∷ (xs ++ ys)) ≡ x ∷ (xs ++ before_feed ys)
before_feed-cons x xs ys true e more h = let bad : [] ≡ x ∷ xs = rw e at h in absurd (let no : ⊥ = cc in no)
before_feed-cons x xs ys false e more h =
    let tail : x ∷ before_feed xs ≡ x ∷ xs = rw e at h in
    let rest : before_feed xs ≡ xs = cc in
    rw e (ap (λ (u : List ℕ). x ∷ u) (more rest))

-- if `xs` has no line feed, the first line feed of `xs ++ ys` is the first one of `ys`
pub before_feed-append : (xs ys : List ℕ) → before_feed xs ≡ xs → before_feed (xs ++ ys) ≡ xs ++ before_feed ys
before_feed-append [] ys h = refl
before_feed-append (x ∷ xs) ys h = before_feed-cons x xs ys (eqb x line_feed) refl (λ k. before_feed-append xs ys k) h

before_feed-twice-cons : (x : ℕ) (xs : List ℕ) (b : Bool) → eqb x line_feed ≡ b → before_feed (before_feed xs) ≡ before_feed xs
    → before_feed (before_feed (x ∷ xs)) ≡ before_feed (x ∷ xs)
before_feed-twice-cons x xs true e h = rw e refl
before_feed-twice-cons x xs false e h = rw e (rw e (ap (λ (u : List ℕ). x ∷ u) h))

pub before_feed-twice : (xs : List ℕ) → before_feed (before_feed xs) ≡ before_feed xs
before_feed-twice [] = refl
before_feed-twice (x ∷ xs) = before_feed-twice-cons x xs (eqb x line_feed) refl (before_feed-twice xs)

pub part_line : (p q part : List ℕ) (k : ℕ) → q ≡ p → part ≡ take k q → before_feed p ≡ take k p → before_feed part ≡ part
part_line p q part k e e2 h =
    let all : part ≡ before_feed p = e2 ∙ ap (λ (u : List ℕ). take k u) e ∙ sym h in
    ap (λ (u : List ℕ). before_feed u) all ∙ before_feed-twice p ∙ sym all

pub part_whole : (p q part rest : List ℕ) (k : ℕ) → q ≡ p → part ≡ take k q → drop k p ≡ line_feed ∷ drop (k + 1) p
    → rest ≡ drop (k + 1) p → p ≡ part ++ line_feed ∷ rest
part_whole p q part rest k e e2 h e3 =
    let front : part ≡ take k p = e2 ∙ ap (λ (u : List ℕ). take k u) e in
    sym (take-append-drop k p) ∙ ap (λ (u : List ℕ). take k p ++ u) (h ∙ ap (λ (u : List ℕ). line_feed ∷ u) (sym e3))
    ∙ ap (λ (u : List ℕ). u ++ line_feed ∷ rest) (sym front)

pub Consumes-part : (old part new : List ℕ) (left : Option (List ℕ)) → old ≡ part ++ new → Consumes (prepend_known old left) (prepend_known new left) part
Consumes-part old part new None e = tt
Consumes-part old part new (Some xs) e = ap (λ (u : List ℕ). u ++ xs) e ∙ append_assoc part new xs

pub whole_kept : (kept all : List ℕ) (limit : ℕ) → kept ≡ take limit all → length kept < limit → kept ≡ all
whole_kept kept all limit e few =
    let size : length kept ≡ min limit (length all) = ap length e ∙ length-take limit all in
    let fits : length all ≤ limit = omega arith in
    e ∙ take_all limit all fits
