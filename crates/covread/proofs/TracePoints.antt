-- How the code counts the points of items: one after another while they ascend, or after sorting them.
use Rattle.std.proofs.Common.{◌≡◌, ℕ, ◌+◌, ◌<◌, Bool, true, false, cond, ◌||◌, ◌&&◌, List, [], ◌∷◌, ◌++◌, length, get_or, map, Option, None, Some, refl, sym, ap, subst, ◌∙◌, arith}
use Rattle.std.specs.Prelude.{filter, option_map}
use Rattle.std.specs.Cmp.{IsTotalOrder}
use Rattle.std.specs.List.{flat_map, list_any}
use Rattle.std.specs.List.Sorted.{IsSorted, IsPermutation}
use Rattle.std.specs.Ordering.{ordering_then, ordering_reverse, eq_by_cmp, is_eq, is_le, is_lt}
use Rattle.std.specs.declared.cmp.Ordering.{Ordering}
use Rattle.std.specs.declared.cmp.Ordering.TheVariants.{Less, Equal, Greater}
use Rattle.std.proofs.lemmas.Cmp.{eq_by_cmp_equiv, tied_itself}
use Rattle.std.proofs.lemmas.List.{append-nil, length-append, map_push, get_or_default}
use Rattle.std.proofs.lemmas.List.Concat.{flat_map-append}
use Rattle.std.proofs.lemmas.List.Elements.{filter-append}
use Rattle.std.proofs.lemmas.List.Sorted.{list_any-IsPermutation}
use Rattle.std.proofs.lemmas.Map.Steps.{list_any_congr}
use Rattle.covdata.specs.declared.tally.Tally.{Tally}
use Rattle.covdata.specs.Points.{is_hit}
use Rattle.covdata.specs.Row.{ItemData}
use Rattle.covread.specs.declared.trace.points.Hit.{Hit}
use Rattle.covread.specs.Reads.{distinct}
use Rattle.covread.specs.TracePoints.{hit_points, hits_of_item, hits_said, points_in, hits_in, goes_on, IsTally, AscendsTo, Reaches, IsNone, AreTotals}
use Rattle.covread.proofs.TraceDistinct.{list_any_push, list_any_on, none_if, distinct_push, distinct_members}

-- ---- one more point

abbrev point_of : {P : Type 0} → Hit P → P
point_of h = h.point

abbrev hit_of : {P : Type 0} → Hit P → Bool
hit_of h = h.is_hit

points_push : {P : Type 0} (seen : List (Hit P)) (next : Hit P) → points_in (seen ++ next ∷ []) ≡ points_in seen ++ next.point ∷ []
points_push seen next = map_push point_of seen next

hits_push : {P : Type 0} (seen : List (Hit P)) (next : Hit P) → hits_in (seen ++ next ∷ []) ≡ hits_in seen ++ cond next.is_hit (next.point ∷ []) []
hits_push seen next = ap (map point_of) (filter-append hit_of seen (next ∷ [])) ∙ by next.is_hit
  where
    by : (b : Bool) → map point_of (filter hit_of seen ++ cond b (next ∷ []) []) ≡ hits_in seen ++ cond b (next.point ∷ []) []
    by true = map_push point_of (filter hit_of seen) next
    by false = ap (map point_of) (append-nil (filter hit_of seen)) ∙ sym (append-nil (hits_in seen))

or_last : (b : Bool) → (b || true) ≡ true
or_last true = refl
or_last false = refl

or_none : (b : Bool) → b ≡ (b || false)
or_none true = refl
or_none false = refl

module _ {P : Type 0} {R : P → P → Ordering} (o : IsTotalOrder R) where
  below_differs : (p q : P) → R p q ≡ Less → eq_by_cmp R q p ≡ false
  below_differs p q less = ap is_eq (o.antisymm q p ∙ ap ordering_reverse less)

  -- a point is among those that are hit exactly if it was so before, or if it is the next point and that is hit
  any_hit : (q : P) (seen : List (Hit P)) (next : Hit P) → list_any (eq_by_cmp R q) (hits_in (seen ++ next ∷ [])) ≡ (list_any (eq_by_cmp R q) (hits_in seen) || cond next.is_hit (eq_by_cmp R q next.point) false)
  any_hit q seen next = ap (list_any (eq_by_cmp R q)) (hits_push seen next) ∙ by next.is_hit
    where
      by : (b : Bool) → list_any (eq_by_cmp R q) (hits_in seen ++ cond b (next.point ∷ []) []) ≡ (list_any (eq_by_cmp R q) (hits_in seen) || cond b (eq_by_cmp R q next.point) false)
      by true = list_any_push (eq_by_cmp R q) (hits_in seen) next.point
      by false = ap (list_any (eq_by_cmp R q)) (append-nil (hits_in seen)) ∙ or_none (list_any (eq_by_cmp R q) (hits_in seen))

  any_point : (q : P) (seen : List (Hit P)) (next : Hit P) → list_any (eq_by_cmp R q) (points_in (seen ++ next ∷ [])) ≡ (list_any (eq_by_cmp R q) (points_in seen) || eq_by_cmp R q next.point)
  any_point q seen next = ap (list_any (eq_by_cmp R q)) (points_push seen next) ∙ list_any_push (eq_by_cmp R q) (points_in seen) next.point

  count_points : (seen : List (Hit P)) (next : Hit P) → distinct (eq_by_cmp R) (points_in (seen ++ next ∷ [])) ≡ distinct (eq_by_cmp R) (points_in seen) + none_if (list_any (eq_by_cmp R next.point) (points_in seen))
  count_points seen next = ap (distinct (eq_by_cmp R)) (points_push seen next) ∙ distinct_push (eq_by_cmp_equiv o) (points_in seen) next.point

  count_hits : (seen : List (Hit P)) (next : Hit P) → distinct (eq_by_cmp R) (hits_in (seen ++ next ∷ [])) ≡ distinct (eq_by_cmp R) (hits_in seen) + cond next.is_hit (none_if (list_any (eq_by_cmp R next.point) (hits_in seen))) 0
  count_hits seen next = ap (distinct (eq_by_cmp R)) (hits_push seen next) ∙ by next.is_hit
    where
      by : (b : Bool) → distinct (eq_by_cmp R) (hits_in seen ++ cond b (next.point ∷ []) []) ≡ distinct (eq_by_cmp R) (hits_in seen) + cond b (none_if (list_any (eq_by_cmp R next.point) (hits_in seen))) 0
      by true = distinct_push (eq_by_cmp_equiv o) (hits_in seen) next.point
      by false = let k = ap (distinct (eq_by_cmp R)) (append-nil (hits_in seen)) in omega (arith, k)

  if_false : (b : Bool) → cond b false false ≡ false
  if_false true = refl
  if_false false = refl

  if_is : (b : Bool) → cond b true false ≡ b
  if_is true = refl
  if_is false = refl

  hit_is_one : (b : Bool) → cond b (none_if false) 0 ≡ cond b 1 0
  hit_is_one true = refl
  hit_is_one false = refl

  same_point : (p : P) → eq_by_cmp R p p ≡ true
  same_point p = ap is_eq (tied_itself o p)

  -- the totals are right after the first point
  pub first_point : (below : Tally) (next : Hit P) (seen : List (Hit P)) → IsNone R below seen → Reaches R below next (seen ++ next ∷ [])
  first_point below next seen h = subst (λ (xs : List (Hit P)). Reaches R below next (xs ++ next ∷ [])) (sym h.none) (record {
    few = omega (arith, h.found);
    found = omega (arith, h.found);
    hit = let a = count_hits [] next in let b = hit_is_one next.is_hit in omega (arith, h.hit, a, b);
    fresh = λ q less. any_point q [] next ∙ below_differs next.point q less;
    unhit = λ q less. any_hit q [] next ∙ ap (λ (b : Bool). cond next.is_hit b false) (below_differs next.point q less) ∙ if_false next.is_hit;
    there = any_point next.point [] next ∙ same_point next.point;
    is_hit = any_hit next.point [] next ∙ ap (λ (b : Bool). cond next.is_hit b false) (same_point next.point) ∙ if_is next.is_hit;
  })

  -- the totals are right after a point above the last one
  pub next_point : (below more : Tally) (last next : Hit P) (seen : List (Hit P)) → R last.point next.point ≡ Less → more.found ≡ below.found + 1 → more.hit ≡ below.hit + cond last.is_hit 1 0
      → Reaches R below last seen → Reaches R more next (seen ++ next ∷ [])
  next_point below more last next seen up f g h =
      let new = h.fresh next.point up in
      let unhit = h.unhit next.point up in
      record {
        few = omega (arith, f, h.few, length-append seen (next ∷ []));
        found = let a = count_points seen next in let b = ap none_if new in omega (arith, f, h.found, a, b);
        hit =
            let a = count_hits seen next in
            let b : cond next.is_hit (none_if (list_any (eq_by_cmp R next.point) (hits_in seen))) 0 ≡ cond next.is_hit 1 0 = ap (λ (b : Bool). cond next.is_hit (none_if b) 0) unhit ∙ hit_is_one next.is_hit in
            omega (arith, g, h.hit, a, b);
        fresh = λ q less. any_point q seen next ∙ ap (λ (b : Bool). b || eq_by_cmp R q next.point) (h.fresh q (o.trans last.point next.point q up less)) ∙ below_differs next.point q less;
        unhit = λ q less.
            any_hit q seen next ∙ ap (λ (b : Bool). b || cond next.is_hit (eq_by_cmp R q next.point) false) (h.unhit q (o.trans last.point next.point q up less))
            ∙ ap (λ (b : Bool). cond next.is_hit b false) (below_differs next.point q less) ∙ if_false next.is_hit;
        there = any_point next.point seen next ∙ ap (λ (b : Bool). list_any (eq_by_cmp R next.point) (points_in seen) || b) (same_point next.point) ∙ or_last (list_any (eq_by_cmp R next.point) (points_in seen));
        is_hit =
            any_hit next.point seen next ∙ ap (λ (b : Bool). b || cond next.is_hit (eq_by_cmp R next.point next.point) false) unhit
            ∙ ap (λ (b : Bool). cond next.is_hit b false) (same_point next.point) ∙ if_is next.is_hit;
      }

  either_counts : (a b : Bool) → cond a 1 0 + cond b (none_if a) 0 ≡ cond (a || b) 1 0
  either_counts true true = refl
  either_counts true false = refl
  either_counts false true = refl
  either_counts false false = refl

  -- the totals are right after the last point came again
  pub same_again : (below : Tally) (last next : Hit P) (both : Bool) (seen : List (Hit P)) → R last.point next.point ≡ Equal → both ≡ (last.is_hit || next.is_hit)
      → Reaches R below last seen → Reaches R below (record { point = next.point; is_hit = both }) (seen ++ next ∷ [])
  same_again below last next both seen tie e h =
      let laws = eq_by_cmp_equiv o in
      let tied : eq_by_cmp R last.point next.point ≡ true = ap is_eq tie in
      let there : list_any (eq_by_cmp R next.point) (points_in seen) ≡ true = sym (list_any_congr laws last.point next.point (points_in seen) tied) ∙ h.there in
      let hit : list_any (eq_by_cmp R next.point) (hits_in seen) ≡ last.is_hit = sym (list_any_congr laws last.point next.point (hits_in seen) tied) ∙ h.is_hit in
      record {
        few = omega (arith, h.few, length-append seen (next ∷ []));
        found = let a = count_points seen next in let b = ap none_if there in omega (arith, h.found, a, b);
        hit =
            let a = count_hits seen next in
            let b = ap (λ (b : Bool). cond next.is_hit (none_if b) 0) hit in
            let c = either_counts last.is_hit next.is_hit in
            let d = ap (λ (b : Bool). cond {A = ℕ} b 1 0) e in
            omega (arith, h.hit, a, b, c, d);
        fresh = λ q less. any_point q seen next ∙ ap (λ (b : Bool). b || eq_by_cmp R q next.point) (h.fresh q (o.congr last.point next.point q tie ∙ less)) ∙ below_differs next.point q less;
        unhit = λ q less.
            any_hit q seen next ∙ ap (λ (b : Bool). b || cond next.is_hit (eq_by_cmp R q next.point) false) (h.unhit q (o.congr last.point next.point q tie ∙ less))
            ∙ ap (λ (b : Bool). cond next.is_hit b false) (below_differs next.point q less) ∙ if_false next.is_hit;
        there = any_point next.point seen next ∙ ap (λ (b : Bool). b || eq_by_cmp R next.point next.point) there;
        is_hit =
            any_hit next.point seen next ∙ ap (λ (b : Bool). b || cond next.is_hit (eq_by_cmp R next.point next.point) false) hit
            ∙ ap (λ (b : Bool). last.is_hit || cond next.is_hit b false) (same_point next.point) ∙ ap (λ (b : Bool). last.is_hit || b) (if_is next.is_hit) ∙ sym e;
      }

  -- a point that is neither below nor above the last one equals it
  pub tied_from : (p q : P) → is_le (R p q) ≡ true → is_lt (R p q) ≡ false → R p q ≡ Equal
  tied_from p q le lt = by (R p q) le lt
    where
      by : (r : Ordering) → is_le r ≡ true → is_lt r ≡ false → r ≡ Equal
      by Less h k = absurd cc
      by Equal h k = refl
      by Greater h k = absurd cc

  pub less_from : (p q : P) → is_lt (R p q) ≡ true → R p q ≡ Less
  less_from p q lt = by (R p q) lt
    where
      by : (r : Ordering) → is_lt r ≡ true → r ≡ Less
      by Less h = refl
      by Equal h = absurd cc
      by Greater h = absurd cc

-- ---- the points that items count

module _ {P : Type 0} (points : ItemData → List P) where
  pub hits_said_push : (items : List ItemData) (i : ItemData) → hits_said points (items ++ i ∷ []) ≡ hits_said points items ++ hits_of_item points i
  hits_said_push items i = flat_map-append (hits_of_item points) items (i ∷ []) ∙ ap (λ xs. hits_said points items ++ xs) (append-nil (hits_of_item points i))

  pub hits_said_same : (items : List ItemData) (i : ItemData) → points i ≡ [] → hits_said points (items ++ i ∷ []) ≡ hits_said points items
  hits_said_same items i none = hits_said_push items i ∙ ap (λ (ps : List P). hits_said points items ++ map (λ p. record { point = p; is_hit = is_hit i }) ps) none ∙ append-nil (hits_said points items)

  pub hits_said_one : (items : List ItemData) (i : ItemData) (p : P) (b : Bool) → points i ≡ p ∷ [] → b ≡ is_hit i → hits_said points (items ++ i ∷ []) ≡ hits_said points items ++ record { point = p; is_hit = b } ∷ []
  hits_said_one items i p b one e =
      hits_said_push items i ∙ ap (λ (ps : List P). hits_said points items ++ map (λ p. record { point = p; is_hit = is_hit i }) ps) one
      ∙ ap (λ (c : Bool). hits_said points items ++ record { point = p; is_hit = c } ∷ []) (sym e)

  point_back : (b : Bool) (ps : List P) → points_in (map (λ p. record { point = p; is_hit = b }) ps) ≡ ps
  point_back b [] = refl
  point_back b (p ∷ ps) = ap (λ (xs : List P). p ∷ xs) (point_back b ps)

  points_join : (xs ys : List (Hit P)) → points_in (xs ++ ys) ≡ points_in xs ++ points_in ys
  points_join [] ys = refl
  points_join (x ∷ xs) ys = ap (λ (zs : List P). x.point ∷ zs) (points_join xs ys)

  pub points_are : (items : List ItemData) → points_in (hits_said points items) ≡ flat_map points items
  points_are [] = refl
  points_are (i ∷ items) =
      points_join (hits_of_item points i) (hits_said points items) ∙ ap (λ (xs : List P). xs ++ points_in (hits_said points items)) (point_back (is_hit i) (points i)) ∙ ap (λ (xs : List P). points i ++ xs) (points_are items)

  hits_join : (xs ys : List (Hit P)) → hits_in (xs ++ ys) ≡ hits_in xs ++ hits_in ys
  hits_join xs ys = ap points_in (filter-append hit_of xs ys) ∙ points_join (filter hit_of xs) (filter hit_of ys)

  hit_back : (b : Bool) (ps : List P) → hits_in (map (λ p. record { point = p; is_hit = b }) ps) ≡ cond b ps []
  hit_back true [] = refl
  hit_back false [] = refl
  hit_back true (p ∷ ps) = ap (λ (xs : List P). p ∷ xs) (hit_back true ps)
  hit_back false (p ∷ ps) = hit_back false ps

  hits_first : (b : Bool) (i : ItemData) (items : List ItemData) → flat_map points (cond b (i ∷ filter is_hit items) (filter is_hit items)) ≡ cond b (points i) [] ++ hit_points points items
  hits_first true i items = refl
  hits_first false i items = refl

  pub hits_are : (items : List ItemData) → hits_in (hits_said points items) ≡ hit_points points items
  hits_are [] = refl
  hits_are (i ∷ items) =
      hits_join (hits_of_item points i) (hits_said points items) ∙ ap (λ (xs : List P). xs ++ hits_in (hits_said points items)) (hit_back (is_hit i) (points i))
      ∙ ap (λ (xs : List P). cond (is_hit i) (points i) [] ++ xs) (hits_are items) ∙ sym (hits_first (is_hit i) i items)

  pub totals_are : (R : P → P → Ordering) (own : Tally) (items : List ItemData) → IsTally R own (hits_said points items) → AreTotals R points own items
  totals_are R own items h = record {
    found = h.found ∙ ap (distinct (eq_by_cmp R)) (points_are items);
    hit = h.hit ∙ ap (distinct (eq_by_cmp R)) (hits_are items);
  }

-- ---- a sorted list of points

-- this is the last of the first k points; `None` if k is 0
abbrev pub LastAt : {P : Type 0} → Option P → List (Hit P) → ℕ → Type 0
LastAt None hits k = k ≡ 0
LastAt {P} (Some last) hits k = (j : ℕ) × (k ≡ j + 1) × ((d : Hit P) → last ≡ (get_or hits j d).point)

module _ {P : Type 0} {R : P → P → Ordering} (o : IsTotalOrder R) where
  not_less : (r s : Ordering) → is_lt (ordering_then r s) ≡ false → is_lt r ≡ false
  not_less Less s h = h
  not_less Equal s h = refl
  not_less Greater s h = refl

  upward : (r : Ordering) → is_lt r ≡ false → is_le (ordering_reverse r) ≡ true
  upward Less h = absurd cc
  upward Equal h = refl
  upward Greater h = refl

  -- in a sorted list, the next point isn't below the last one
  pub goes_on_sorted : (cmp : Hit P → Hit P → Ordering) (rest : Hit P → Hit P → Ordering) → ((a b : Hit P) → cmp a b ≡ ordering_then (R a.point b.point) (rest a b)) → (hits : List (Hit P)) → IsSorted cmp hits
      → (last : Option (Hit P)) (k : ℕ) (next : Hit P) → k < length hits → next ≡ get_or hits k next → LastAt (option_map point_of last) hits k → goes_on R last next.point ≡ true
  goes_on_sorted cmp rest is hits up None k next low e h = refl
  goes_on_sorted cmp rest is hits up (Some last) k next low e h =
      let before = get_or hits h.0 next in
      let here : get_or hits (h.0 + 1) next ≡ next = ap (λ (n : ℕ). get_or hits n next) (sym h.1) ∙ sym e in
      let less : is_lt (cmp (get_or hits (h.0 + 1) next) before) ≡ false = up h.0 next (omega (arith, low, h.1)) (omega (arith, low, h.1)) in
      let lower : is_lt (R next.point before.point) ≡ false = not_less (R next.point before.point) (rest next before) (ap is_lt (sym (is next before)) ∙ ap (λ (x : Hit P). is_lt (cmp x before)) (sym here) ∙ less) in
      ap (λ (p : P). is_le (R p next.point)) (h.2 next) ∙ ap is_le (o.antisymm before.point next.point) ∙ upward (R next.point before.point) lower

  pub last_at_first : (last : Option (Hit P)) (below : Tally) (hits : List (Hit P)) → AscendsTo R last below [] → LastAt (option_map point_of last) hits 0
  last_at_first None below hits h = refl
  last_at_first (Some last) below hits h = absurd (omega (arith, h.few))

  pub last_of : (last : Option P) (next : Hit P) (hits : List (Hit P)) (k : ℕ) → last ≡ Some next.point → k < length hits → next ≡ get_or hits k next → LastAt last hits (k + 1)
  last_of last next hits k e low is = subst (λ (x : Option P). LastAt x hits (k + 1)) (sym e) (k, refl, λ d. ap point_of (is ∙ get_or_default hits k next d low))

  member_of : (q : P) (hits : List (Hit P)) → list_any (eq_by_cmp R q) (points_in hits) ≡ list_any (λ (h : Hit P). eq_by_cmp R q h.point) hits
  member_of q hits = list_any_on point_of (eq_by_cmp R q) (λ (h : Hit P). eq_by_cmp R q h.point) (λ h. refl) hits

  hit_member_of : (q : P) (hits : List (Hit P)) → list_any (eq_by_cmp R q) (hits_in hits) ≡ list_any (λ (h : Hit P). h.is_hit && eq_by_cmp R q h.point) hits
  hit_member_of q [] = refl
  hit_member_of q (h ∷ hits) = by h.is_hit (hit_member_of q hits)
    where
      by : (b : Bool) → list_any (eq_by_cmp R q) (hits_in hits) ≡ list_any (λ (h : Hit P). h.is_hit && eq_by_cmp R q h.point) hits
          → list_any (eq_by_cmp R q) (points_in (cond b (h ∷ filter hit_of hits) (filter hit_of hits))) ≡ ((b && eq_by_cmp R q h.point) || list_any (λ (h : Hit P). h.is_hit && eq_by_cmp R q h.point) hits)
      by true e = ap (λ (b : Bool). eq_by_cmp R q h.point || b) e
      by false e = e

  moved_points : (xs ys : List (Hit P)) → IsPermutation xs ys → distinct (eq_by_cmp R) (points_in ys) ≡ distinct (eq_by_cmp R) (points_in xs)
  moved_points xs ys moved = distinct_members (eq_by_cmp_equiv o) (points_in ys) (points_in xs)
      (λ q. member_of q ys ∙ sym (list_any-IsPermutation (λ (h : Hit P). eq_by_cmp R q h.point) xs ys moved) ∙ sym (member_of q xs))

  moved_hits : (xs ys : List (Hit P)) → IsPermutation xs ys → distinct (eq_by_cmp R) (hits_in ys) ≡ distinct (eq_by_cmp R) (hits_in xs)
  moved_hits xs ys moved = distinct_members (eq_by_cmp_equiv o) (hits_in ys) (hits_in xs)
      (λ q. hit_member_of q ys ∙ sym (list_any-IsPermutation (λ (h : Hit P). h.is_hit && eq_by_cmp R q h.point) xs ys moved) ∙ sym (hit_member_of q xs))

  -- the totals don't depend on the order of the points
  pub tally_moved : (own : Tally) (xs ys : List (Hit P)) → IsPermutation xs ys → IsTally R own ys → IsTally R own xs
  tally_moved own xs ys moved h = record { found = h.found ∙ moved_points xs ys moved; hit = h.hit ∙ moved_hits xs ys moved }
