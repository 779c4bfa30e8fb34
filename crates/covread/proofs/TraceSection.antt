-- What an open section gives with one more line, and what becomes of it at its end.
use Rattle.std.proofs.Common.{◌≡◌, ℕ, zero, suc, ◌+◌, ◌<◌, ◌≤◌, ◌^◌, nat_lt, Bool, true, false, cond, ◌==◌, ◌&&◌, not, List, [], ◌∷◌, ◌++◌, length, get_or, map, Option, None, Some, refl, sym, ap, subst, ◌∙◌, append_assoc, arith}
use Rattle.std.specs.Prelude.{filter, count_by, is_none, option_map}
use Rattle.std.specs.List.{flat_map, list_any}
use Rattle.std.specs.Ordering.{nat_cmp}
use Rattle.std.specs.Str.{bytes_eq}
use Rattle.std.proofs.lemmas.Bool.Decides.{nat_tests}
use Rattle.std.proofs.lemmas.Cmp.{nat_list_eq_equiv}
use Rattle.std.proofs.lemmas.List.{append-nil, length-append}
use Rattle.std.proofs.lemmas.List.Concat.{flat_map-append}
use Rattle.std.proofs.lemmas.List.Elements.{filter-append}
use Rattle.std.proofs.lemmas.List.Sums.{sum_by-cons}
use Rattle.covdata.specs.declared.point.BranchPoint.{BranchPoint}
use Rattle.covdata.specs.Points.{func_points, func_point, is_hit, line_point}
use Rattle.covdata.specs.Row.{ItemData, LineItem, FuncItem, BranchItem, with_start}
use Rattle.covdata.specs.Records.{LineData, FuncStart, FuncCount, Branch, Line}
use Rattle.covread.specs.declared.trace.points.Hit.{Hit}
use Rattle.covpacked.specs.OpenItems.{left, start_set}
use Rattle.covread.specs.Reads.{distinct, start_in, counted, items_said, items_of}
use Rattle.covread.specs.declared.trace.functions.Found.{Found}
use Rattle.covread.specs.declared.trace.section.PendingCount.{PendingCount}
use Rattle.covread.specs.TraceFunctions.{named, found_by}
use Rattle.covread.specs.TracePoints.{Counts, branch_key, hits_said, hits_of_item}
use Rattle.covread.specs.TraceSection.{item_said, stored, Mark, mark, marks_from}
use Rattle.covread.specs.TraceSettle.{is_unstarted, names_in, alone, unstarted_in, start_put, filled, HavePlaces, IsSettled}
use Rattle.covread.specs.declared.trace.tally.SectionPoints.{SectionPoints}
use Rattle.covread.specs.declared.trace.tally.StatedTotal.{StatedTotal}
use Rattle.covread.specs.TraceTally.{is_total, branch_cmp, stated_record, HasTotals, AreFew}
use Rattle.covread.proofs.TraceDistinct.{distinct_push, none_if}

-- ---- one more record

pub stored_push : (inside : List LineData) (r : LineData) → stored (inside ++ r ∷ []) ≡ stored inside ++ item_said r
stored_push inside r = flat_map-append item_said inside (r ∷ []) ∙ ap (λ (x : List ItemData). stored inside ++ x) (append-nil (item_said r))

marks_at : (a b : ℕ) (inside : List LineData) → a ≡ b → marks_from a inside ≡ marks_from b inside
marks_at a b inside e = ap (λ (n : ℕ). marks_from n inside) e

marks_push : (at : ℕ) (inside : List LineData) (r : LineData) → marks_from at (inside ++ r ∷ []) ≡ marks_from at inside ++ marks_from (at + length (stored inside)) (r ∷ [])
marks_push at [] r = marks_at at (at + 0) (r ∷ []) (omega arith)
marks_push at (FuncCount count name ∷ inside) r =
    ap (λ (x : List Mark). record { at = at; name = name; is_hit = nat_lt 0 count } ∷ x)
    (marks_push (at + 1) inside r ∙ ap (λ (x : List Mark). marks_from (at + 1) inside ++ x) (marks_at ((at + 1) + length (stored inside)) (at + length (FuncItem name 0 count ∷ stored inside)) (r ∷ []) (omega arith)))
marks_push at (says ∷ inside) r =
    marks_push (at + length (item_said says)) inside r
    ∙ ap (λ (x : List Mark). marks_from (at + length (item_said says)) inside ++ x)
    (marks_at ((at + length (item_said says)) + length (stored inside)) (at + length (item_said says ++ stored inside)) (r ∷ [])
    (let k = length-append (item_said says) (stored inside) in omega (arith, k)))

-- the marks are right after one more record, if those of the record were appended
pub marks_more : (inside : List LineData) (r : LineData) (n : ℕ) (all new : List Mark) → n ≡ length (stored inside) → all ≡ marks_from 0 inside → new ≡ all ++ marks_from n (r ∷ []) → new ≡ marks_from 0 (inside ++ r ∷ [])
marks_more inside r n all new e f g =
    g ∙ ap (λ (x : List Mark). x ++ marks_from n (r ∷ [])) f ∙ ap (λ (x : List Mark). marks_from 0 inside ++ x) (marks_at n (0 + length (stored inside)) (r ∷ []) (omega (arith, e))) ∙ sym (marks_push 0 inside r)

pub marks_same : (inside : List LineData) (r : LineData) (all : List Mark) → ((at : ℕ) → marks_from at (r ∷ []) ≡ []) → all ≡ marks_from 0 inside → all ≡ marks_from 0 (inside ++ r ∷ [])
marks_same inside r all none e = e ∙ sym (marks_push 0 inside r ∙ ap (λ (x : List Mark). marks_from 0 inside ++ x) (none (0 + length (stored inside))) ∙ append-nil (marks_from 0 inside))

pub totals_push : (inside : List LineData) (r : LineData) → filter is_total (inside ++ r ∷ []) ≡ filter is_total inside ++ cond (is_total r) (r ∷ []) []
totals_push inside r = filter-append is_total inside (r ∷ [])

pub totals_same : (inside totals : List LineData) (r : LineData) → is_total r ≡ false → totals ≡ filter is_total inside → totals ≡ filter is_total (inside ++ r ∷ [])
totals_same inside totals r isnt e = e ∙ sym (totals_push inside r ∙ ap (λ (b : Bool). filter is_total inside ++ cond b (r ∷ []) []) isnt ∙ append-nil (filter is_total inside))

-- the items are right after a record that gives one item
pub items_more : (inside : List LineData) (r : LineData) (old new : List ItemData) (item : ItemData) → item_said r ≡ item ∷ [] → old ≡ stored inside → new ≡ old ++ item ∷ [] → new ≡ stored (inside ++ r ∷ [])
items_more inside r old new item e f g = g ∙ ap (λ (x : List ItemData). x ++ item ∷ []) f ∙ ap (λ (x : List ItemData). stored inside ++ x) (sym e) ∙ sym (stored_push inside r)

pub items_same : (inside : List LineData) (r : LineData) (items : List ItemData) → item_said r ≡ [] → items ≡ stored inside → items ≡ stored (inside ++ r ∷ [])
items_same inside r items none e = e ∙ sym (stored_push inside r ∙ ap (λ (x : List ItemData). stored inside ++ x) none ∙ append-nil (stored inside))

-- the points stay the same after a record that counts none
pub hits_same : {P : Type 0} (points : ItemData → List P) (inside : List LineData) (r : LineData) → hits_said points (item_said r) ≡ [] → hits_said points (stored inside) ≡ hits_said points (stored (inside ++ r ∷ []))
hits_same points inside r none =
    sym (ap (hits_said points) (stored_push inside r) ∙ flat_map-append (hits_of_item points) (stored inside) (item_said r) ∙ ap (λ xs. hits_said points (stored inside) ++ xs) none ∙ append-nil (hits_said points (stored inside)))

-- there is one point more after a record that counts one
pub hits_more : {P : Type 0} (points : ItemData → List P) (inside : List LineData) (r : LineData) (hit : Hit P) → hits_said points (item_said r) ≡ hit ∷ []
    → hits_said points (stored inside) ++ hit ∷ [] ≡ hits_said points (stored (inside ++ r ∷ []))
hits_more points inside r hit one =
    sym (ap (hits_said points) (stored_push inside r) ∙ flat_map-append (hits_of_item points) (stored inside) (item_said r) ∙ ap (λ xs. hits_said points (stored inside) ++ xs) one)

-- at most one item is stored for a record
pub few_stored : (inside : List LineData) → length (stored inside) ≤ length inside
few_stored [] = omega arith
few_stored (FuncStart line name ∷ inside) = let k = few_stored inside in omega (arith, k)
few_stored (FuncCount count name ∷ inside) = let k = few_stored inside in omega (arith, k)
few_stored (Branch line block branch taken ∷ inside) = let k = few_stored inside in omega (arith, k)
few_stored (Line line count checksum ∷ inside) = let k = few_stored inside in omega (arith, k)
few_stored (says ∷ inside) = let k = few_stored inside in omega (arith, k)

-- an item counts at most one of these points
abbrev pub CountsAtMostOne : {P : Type 0} → (ItemData → List P) → Type 0
CountsAtMostOne points = (item : ItemData) → length (points item) ≤ 1

length_map : {X Y : Type 0} (f : X → Y) (xs : List X) → length (map f xs) ≡ length xs
length_map f [] = refl
length_map f (x ∷ xs) = let k = length_map f xs in omega (arith, k)

pub few_hits : {P : Type 0} (points : ItemData → List P) → CountsAtMostOne points → (items : List ItemData) → length (hits_said points items) ≤ length items
few_hits points once [] = omega arith
few_hits {P} points once (i ∷ items) =
    let k = few_hits points once items in
    let f : P → Hit P = λ p. record { point = p; is_hit = is_hit i } in
    omega (arith, k, length-append (hits_of_item points i) (hits_said points items), length_map f (points i), once i)

pub line_once : CountsAtMostOne line_point
line_once (LineItem line count checksum) = omega arith
line_once (FuncItem name line count) = omega arith
line_once (BranchItem line block branch taken) = omega arith

pub branch_once : CountsAtMostOne branch_key
branch_once (LineItem line count checksum) = omega arith
branch_once (FuncItem name line count) = omega arith
branch_once (BranchItem line block branch taken) = omega arith

-- ---- the section's end

-- the items that a record gives in the end, if functions have these start lines
abbrev finished : (List ℕ → Option ℕ) → LineData → List ItemData
finished starts (FuncCount count name) = counted name count (starts name)
finished starts says = item_said says

abbrev half : List ℕ → ℕ → Option ℕ → ItemData
half name count None = FuncItem name 0 count
half name count (Some line) = FuncItem name line count

-- the same before counts of functions without a start line are removed
abbrev filled_said : (List ℕ → Option ℕ) → LineData → List ItemData
filled_said starts (FuncCount count name) = half name count (starts name) ∷ []
filled_said starts says = item_said says

abbrev starts_of : List LineData → List ℕ → Option ℕ
starts_of inside name = start_in name inside

set_there : (front : List ItemData) (line : ℕ) (item : ItemData) (back : List ItemData) → start_set (length front) line (front ++ item ∷ back) ≡ front ++ with_start line item ∷ back
set_there [] line item back = refl
set_there (f ∷ front) line item back = ap (λ (x : List ItemData). f ∷ x) (set_there front line item back)

put_there : (front : List ItemData) (name : List ℕ) (count : ℕ) (start : Option ℕ) (back : List ItemData)
    → start_put (length front) start (front ++ FuncItem name 0 count ∷ back) ≡ front ++ half name count start ∷ back
put_there front name count None back = refl
put_there front name count (Some line) back = set_there front line (FuncItem name 0 count) back

filled_at : (starts : List ℕ → Option ℕ) (a b : ℕ) (inside : List LineData) (items : List ItemData) → a ≡ b → filled starts (marks_from a inside) items ≡ filled starts (marks_from b inside) items
filled_at starts a b inside items e = ap (λ (n : ℕ). filled starts (marks_from n inside) items) e

filled_from : (starts : List ℕ → Option ℕ) (front : List ItemData) (inside : List LineData) → filled starts (marks_from (length front) inside) (front ++ stored inside) ≡ front ++ flat_map (filled_said starts) inside
filled_from starts front [] = refl
filled_from starts front (FuncCount count name ∷ inside) =
    let item = half name count (starts name) in
    ap (filled starts (marks_from (length front + 1) inside)) (put_there front name count (starts name) (stored inside) ∙ sym (append_assoc front (item ∷ []) (stored inside)))
    ∙ filled_at starts (length front + 1) (length (front ++ item ∷ [])) inside ((front ++ item ∷ []) ++ stored inside) (sym (length-append front (item ∷ [])))
    ∙ filled_from starts (front ++ item ∷ []) inside ∙ append_assoc front (item ∷ []) (flat_map (filled_said starts) inside)
filled_from starts front (says ∷ inside) =
    ap (filled starts (marks_from (length front + length (item_said says)) inside)) (sym (append_assoc front (item_said says) (stored inside)))
    ∙ filled_at starts (length front + length (item_said says)) (length (front ++ item_said says)) inside ((front ++ item_said says) ++ stored inside) (sym (length-append front (item_said says)))
    ∙ filled_from starts (front ++ item_said says) inside ∙ append_assoc front (item_said says) (flat_map (filled_said starts) inside)

-- the first of the places, if there is one, is at least this one
abbrev AtOrAfter : ℕ → List ℕ → Type 0
AtOrAfter at [] = Unit {0}
AtOrAfter at (place ∷ places) = at ≤ place

after_less : (a b : ℕ) (places : List ℕ) → a ≤ b → AtOrAfter b places → AtOrAfter a places
after_less a b [] le h = tt
after_less a b (p ∷ ps) le h = omega (arith, le, h)

alone_after : (at : ℕ) (start : Option ℕ) (rest : List ℕ) → AtOrAfter (at + 1) rest → AtOrAfter at (alone at start ++ rest)
alone_after at None rest h = omega arith
alone_after at (Some line) rest h = after_less at (at + 1) rest (omega arith) h

places_after : (starts : List ℕ → Option ℕ) (at : ℕ) (inside : List LineData) → AtOrAfter at (unstarted_in starts (marks_from at inside))
places_after starts at [] = tt
places_after starts at (FuncCount count name ∷ inside) = alone_after at (starts name) (unstarted_in starts (marks_from (at + 1) inside)) (places_after starts (at + 1) inside)
places_after starts at (says ∷ inside) =
    after_less at (at + length (item_said says)) (unstarted_in starts (marks_from (at + length (item_said says)) inside)) (omega arith) (places_after starts (at + length (item_said says)) inside)

differs_from : (a b : ℕ) → b < a → (a == b) ≡ false
differs_from a b lt = grind (arith, nat_tests)

same_number : (a : ℕ) → (a == a) ≡ true
same_number a = grind (arith, nat_tests)

left_nil : {X : Type 0} (at : ℕ) (xs : List X) → left at [] xs ≡ xs
left_nil at [] = refl
left_nil at (x ∷ xs) = refl

stays : {X : Type 0} (at : ℕ) (places : List ℕ) (x : X) (xs : List X) → AtOrAfter (at + 1) places → left at places (x ∷ xs) ≡ x ∷ left (at + 1) places xs
stays at [] x xs h = ap (λ (ys : List _). x ∷ ys) (sym (left_nil (at + 1) xs))
stays at (p ∷ ps) x xs h = ap (λ (b : Bool). cond b (left (at + 1) ps xs) (x ∷ left (at + 1) (p ∷ ps) xs)) (differs_from p at (omega (arith, h)))

goes : {X : Type 0} (at : ℕ) (places : List ℕ) (x : X) (xs : List X) → left at (at ∷ places) (x ∷ xs) ≡ left (at + 1) places xs
goes at places x xs = ap (λ (b : Bool). cond b (left (at + 1) places xs) (x ∷ left (at + 1) (at ∷ places) xs)) (same_number at)

left_count : (at : ℕ) (name : List ℕ) (count : ℕ) (start : Option ℕ) (places : List ℕ) (items after : List ItemData) → AtOrAfter (at + 1) places → left (at + 1) places items ≡ after
    → left at (alone at start ++ places) (half name count start ∷ items) ≡ counted name count start ++ after
left_count at name count None places items after h e = goes at places (FuncItem name 0 count) items ∙ e
left_count at name count (Some line) places items after h e = stays at places (FuncItem name line count) items h ∙ ap (λ (x : List ItemData). FuncItem name line count ∷ x) e

left_from : (starts : List ℕ → Option ℕ) (at : ℕ) (inside : List LineData) → left at (unstarted_in starts (marks_from at inside)) (flat_map (filled_said starts) inside) ≡ flat_map (finished starts) inside
left_from starts at [] = refl
left_from starts at (FuncCount count name ∷ inside) =
    left_count at name count (starts name) (unstarted_in starts (marks_from (at + 1) inside)) (flat_map (filled_said starts) inside) (flat_map (finished starts) inside)
    (places_after starts (at + 1) inside) (left_from starts (at + 1) inside)
left_from starts at (FuncStart line name ∷ inside) =
    stays at (unstarted_in starts (marks_from (at + 1) inside)) (FuncItem name line 0) (flat_map (filled_said starts) inside) (places_after starts (at + 1) inside)
    ∙ ap (λ (x : List ItemData). FuncItem name line 0 ∷ x) (left_from starts (at + 1) inside)
left_from starts at (Branch line block branch taken ∷ inside) =
    stays at (unstarted_in starts (marks_from (at + 1) inside)) (BranchItem line block branch taken) (flat_map (filled_said starts) inside) (places_after starts (at + 1) inside)
    ∙ ap (λ (x : List ItemData). BranchItem line block branch taken ∷ x) (left_from starts (at + 1) inside)
left_from starts at (Line line count checksum ∷ inside) =
    stays at (unstarted_in starts (marks_from (at + 1) inside)) (LineItem line count checksum) (flat_map (filled_said starts) inside) (places_after starts (at + 1) inside)
    ∙ ap (λ (x : List ItemData). LineItem line count checksum ∷ x) (left_from starts (at + 1) inside)
left_from starts at (says ∷ inside) = ap (λ (n : ℕ). left at (unstarted_in starts (marks_from n inside)) (flat_map (filled_said starts) inside)) (let k : at + 0 ≡ at = omega arith in k) ∙ left_from starts at inside

finished_is : (inside : List LineData) (r : LineData) → finished (starts_of inside) r ≡ items_said inside r
finished_is inside (FuncCount count name) = refl
finished_is inside r = refl

flat_same : {X Y : Type 0} (f g : X → List Y) → ((x : X) → f x ≡ g x) → (xs : List X) → flat_map f xs ≡ flat_map g xs
flat_same f g same [] = refl
flat_same f g same (x ∷ xs) = ap (λ ys. ys ++ flat_map f xs) (same x) ∙ ap (λ ys. g x ++ ys) (flat_same f g same xs)

-- the filled items, without those of counts without a start line, are the section's items
pub items_are : (inside : List LineData) (items : List ItemData) (places : List ℕ) → places ≡ unstarted_in (λ name. start_in name inside) (marks_from 0 inside)
    → items ≡ filled (λ name. start_in name inside) (marks_from 0 inside) (stored inside) → left 0 places items ≡ items_of inside
items_are inside items places e f =
    let starts = starts_of inside in
    ap (λ (x : List ℕ). left 0 x items) e ∙ ap (left 0 (unstarted_in starts (marks_from 0 inside))) (f ∙ filled_from starts [] inside) ∙ left_from starts 0 inside
    ∙ flat_same (finished starts) (items_said inside) (finished_is inside) inside

-- no item is removed if each count has a start line
pub items_stay : (items : List ItemData) (places : List ℕ) → length places ≡ 0 → left 0 places items ≡ items
items_stay items [] e = left_nil 0 items
items_stay items (p ∷ ps) e = absurd (omega (arith, e))

abbrev one_if_none : Option ℕ → ℕ
one_if_none o = cond (is_none o) 1 0

length_alone : (at : ℕ) (o : Option ℕ) → length (alone at o) ≡ one_if_none o
length_alone at None = refl
length_alone at (Some line) = refl

unstarted_count : (inside : List LineData) (at : ℕ) (rest : List LineData) → length (unstarted_in (starts_of inside) (marks_from at rest)) ≡ count_by (is_unstarted inside) rest
unstarted_count inside at [] = refl
unstarted_count inside at (FuncCount count name ∷ rest) =
    let a = length-append (alone at (start_in name inside)) (unstarted_in (starts_of inside) (marks_from (at + 1) rest)) in
    let b = sum_by-cons (λ (x : LineData). cond (is_unstarted inside x) 1 0) (FuncCount count name) rest in
    omega (arith, a, b, length_alone at (start_in name inside), unstarted_count inside (at + 1) rest)
unstarted_count inside at (says ∷ rest) =
    let b = sum_by-cons (λ (x : LineData). cond (is_unstarted inside x) 1 0) says rest in
    omega (arith, b, unstarted_count inside (at + length (item_said says)) rest)

-- there are as many such places as counts of functions without a start line
pub odd_counts : (inside : List LineData) (places : List ℕ) → places ≡ unstarted_in (λ name. start_in name inside) (marks_from 0 inside) → length places ≡ count_by (is_unstarted inside) inside
odd_counts inside places e = ap length e ∙ unstarted_count inside 0 inside

abbrev hits_in_items : List ItemData → List (List ℕ)
hits_in_items items = func_points (filter is_hit items)

join_hits : (xs ys : List ItemData) → hits_in_items (xs ++ ys) ≡ hits_in_items xs ++ hits_in_items ys
join_hits xs ys = ap func_points (filter-append is_hit xs ys) ∙ flat_map-append func_point (filter is_hit xs) (filter is_hit ys)

named_counted : (name : List ℕ) (count : ℕ) (start : Option ℕ) → named name (nat_lt 0 count) start ≡ hits_in_items (counted name count start)
named_counted name count None = by (nat_lt 0 count)
  where
    by : (b : Bool) → named name b None ≡ []
    by true = refl
    by false = refl
named_counted name count (Some line) = by (nat_lt 0 count)
  where
    by : (b : Bool) → named name b (Some line) ≡ func_points (cond b (FuncItem name line count ∷ []) [])
    by true = refl
    by false = refl

names_from : (inside : List LineData) (at : ℕ) (rest : List LineData) → names_in (starts_of inside) (marks_from at rest) ≡ hits_in_items (flat_map (items_said inside) rest)
names_from inside at [] = refl
names_from inside at (FuncCount count name ∷ rest) =
    ap (λ (x : List (List ℕ)). x ++ names_in (starts_of inside) (marks_from (at + 1) rest)) (named_counted name count (start_in name inside))
    ∙ ap (λ (x : List (List ℕ)). hits_in_items (counted name count (start_in name inside)) ++ x) (names_from inside (at + 1) rest)
    ∙ sym (join_hits (counted name count (start_in name inside)) (flat_map (items_said inside) rest))
names_from inside at (FuncStart line name ∷ rest) = names_from inside (at + 1) rest
names_from inside at (Branch line block branch None ∷ rest) = names_from inside (at + 1) rest
names_from inside at (Branch line block branch (Some taken) ∷ rest) = names_from inside (at + 1) rest ∙ by (nat_lt 0 taken)
  where
    by : (b : Bool) → hits_in_items (flat_map (items_said inside) rest) ≡ func_points (cond b (BranchItem line block branch (Some taken) ∷ filter is_hit (flat_map (items_said inside) rest)) (filter is_hit (flat_map (items_said inside) rest)))
    by true = refl
    by false = refl
names_from inside at (Line line count checksum ∷ rest) = names_from inside (at + 1) rest ∙ by (nat_lt 0 count)
  where
    by : (b : Bool) → hits_in_items (flat_map (items_said inside) rest) ≡ func_points (cond b (LineItem line count checksum ∷ filter is_hit (flat_map (items_said inside) rest)) (filter is_hit (flat_map (items_said inside) rest)))
    by true = refl
    by false = refl
names_from inside at (says ∷ rest) = names_from inside (at + 0) rest

-- the number of different functions that the counts hit is the number of those that items of the section hit
pub hit_names : (inside : List LineData) (n : ℕ) → n ≡ distinct bytes_eq (names_in (λ name. start_in name inside) (marks_from 0 inside)) → n ≡ distinct bytes_eq (func_points (filter is_hit (items_of inside)))
hit_names inside n e = e ∙ ap (distinct bytes_eq) (names_from inside 0 inside)

hits_none : {P : Type 0} (points : ItemData → List P) → ((name : List ℕ) (line count : ℕ) → points (FuncItem name line count) ≡ []) → (name : List ℕ) (line count : ℕ) (items : List ItemData)
    → hits_said points (FuncItem name line count ∷ items) ≡ hits_said points items
hits_none {P} points none name line count items = ap (λ (ps : List P). map (λ p. record { point = p; is_hit = is_hit (FuncItem name line count) }) ps ++ hits_said points items) (none name line count)

-- the items count the same points before and after the section's end, if items of functions count none
same_hits : {P : Type 0} (points : ItemData → List P) → ((name : List ℕ) (line count : ℕ) → points (FuncItem name line count) ≡ []) → (inside rest : List LineData) → hits_said points (stored rest) ≡ hits_said points (flat_map (items_said inside) rest)
same_hits points none inside [] = refl
same_hits {P} points none inside (FuncCount count name ∷ rest) =
    hits_none points none name 0 count (stored rest) ∙ same_hits points none inside rest ∙ by (start_in name inside)
  where
    by : (start : Option ℕ) → hits_said points (flat_map (items_said inside) rest) ≡ hits_said points (counted name count start ++ flat_map (items_said inside) rest)
    by None = refl
    by (Some line) = sym (hits_none points none name line count (flat_map (items_said inside) rest))
same_hits points none inside (FuncStart line name ∷ rest) = ap (λ xs. hits_of_item points (FuncItem name line 0) ++ xs) (same_hits points none inside rest)
same_hits points none inside (Branch line block branch taken ∷ rest) = ap (λ xs. hits_of_item points (BranchItem line block branch taken) ++ xs) (same_hits points none inside rest)
same_hits points none inside (Line line count checksum ∷ rest) = ap (λ xs. hits_of_item points (LineItem line count checksum) ++ xs) (same_hits points none inside rest)
same_hits points none inside (says ∷ rest) = same_hits points none inside rest

pub line_hits_stay : (inside : List LineData) → hits_said line_point (stored inside) ≡ hits_said line_point (items_of inside)
line_hits_stay inside = same_hits line_point (λ name line count. refl) inside inside

pub branch_hits_stay : (inside : List LineData) → hits_said branch_key (stored inside) ≡ hits_said branch_key (items_of inside)
branch_hits_stay inside = same_hits branch_key (λ name line count. refl) inside inside

-- the counts' places are places of items
places_from : (at : ℕ) (inside : List LineData) (n : ℕ) → at + length (stored inside) ≤ n → HavePlaces n (marks_from at inside)
places_from at [] n le = tt
places_from at (FuncCount count name ∷ inside) n le = (omega (arith, le), places_from (at + 1) inside n (omega (arith, le)))
places_from at (says ∷ inside) n le = places_from (at + length (item_said says)) inside n (let k = length-append (item_said says) (stored inside) in omega (arith, le, k))

pub have_places : (inside : List LineData) (items : List ItemData) (marks : List Mark) → items ≡ stored inside → marks ≡ marks_from 0 inside → HavePlaces (length items) marks
have_places inside items marks e f = subst (HavePlaces (length items)) (sym f) (places_from 0 inside (length items) (let k = ap length e in omega (arith, k)))

-- ---- one more count

names_push : (starts : List ℕ → Option ℕ) (ms : List Mark) (m : Mark) → names_in starts (ms ++ m ∷ []) ≡ names_in starts ms ++ named m.name m.is_hit (starts m.name)
names_push starts ms m =
    flat_map-append (λ (x : Mark). named x.name x.is_hit (starts x.name)) ms (m ∷ []) ∙ ap (λ (x : List (List ℕ)). names_in starts ms ++ x) (append-nil (named m.name m.is_hit (starts m.name)))

places_push : (starts : List ℕ → Option ℕ) (ms : List Mark) (m : Mark) → unstarted_in starts (ms ++ m ∷ []) ≡ unstarted_in starts ms ++ alone m.at (starts m.name)
places_push starts ms m = flat_map-append (λ (x : Mark). alone x.at (starts x.name)) ms (m ∷ []) ∙ ap (λ (x : List ℕ). unstarted_in starts ms ++ x) (append-nil (alone m.at (starts m.name)))

filled_push : (starts : List ℕ → Option ℕ) (ms : List Mark) (m : Mark) (items : List ItemData) → filled starts (ms ++ m ∷ []) items ≡ start_put m.at (starts m.name) (filled starts ms items)
filled_push starts [] m items = refl
filled_push starts (x ∷ ms) m items = filled_push starts ms m (start_put x.at (starts x.name) items)

pub names_more : {X : Type 0} (P : List (List ℕ) → X → Type 0) (x : X) (starts : List ℕ → Option ℕ) (ms : List Mark) (m : Mark) → P (names_in starts ms ++ named m.name m.is_hit (starts m.name)) x → P (names_in starts (ms ++ m ∷ [])) x
names_more P x starts ms m h = subst (λ (names : List (List ℕ)). P names x) (sym (names_push starts ms m)) h

first_counts : (n : ℕ) (names : List (List ℕ)) (name : List ℕ) (b : Bool) (line : ℕ) → n ≡ distinct bytes_eq names → n + cond (b && not (list_any (bytes_eq name) names)) 1 0 ≡ distinct bytes_eq (names ++ named name b (Some line))
first_counts n names name true line e = let k = distinct_push nat_list_eq_equiv names name in let f = flip (list_any (bytes_eq name) names) in omega (arith, e, k, f)
  where
    flip : (b : Bool) → cond {A = ℕ} (not b) 1 0 ≡ none_if b
    flip true = refl
    flip false = refl
first_counts n names name false line e = let k = ap (distinct bytes_eq) (append-nil names) in omega (arith, e, k)

-- what is settled stays right after a count whose function has a start line
pub settled_some : (starts : List ℕ → Option ℕ) (ms : List Mark) (m : Mark) (n more : ℕ) (places : List ℕ) (before after new : List ItemData) (f : Found)
    → Some f ≡ option_map (found_by (names_in starts ms) m.name m.is_hit) (starts m.name) → more ≡ cond f.is_first_hit 1 0 → new ≡ start_set m.at f.start after
    → IsSettled starts ms n places before after → IsSettled starts (ms ++ m ∷ []) (n + more) places before new
settled_some starts ms m n more places before after new f found byte set h = by (starts m.name) refl
  where
    by : (start : Option ℕ) → starts m.name ≡ start → IsSettled starts (ms ++ m ∷ []) (n + more) places before new
    by None e = absurd (let k : Some f ≡ None = found ∙ ap (option_map (found_by (names_in starts ms) m.name m.is_hit)) e in cc)
    by (Some line) e =
        let k : Some f ≡ Some (found_by (names_in starts ms) m.name m.is_hit line) = found ∙ ap (option_map (found_by (names_in starts ms) m.name m.is_hit)) e in
        let is : f ≡ found_by (names_in starts ms) m.name m.is_hit line = cc in
        record {
          hit =
              let a : n + more ≡ n + cond {A = ℕ} (m.is_hit && not (list_any (bytes_eq m.name) (names_in starts ms))) 1 0 = ap (λ (x : ℕ). n + x) (byte ∙ ap (λ (x : Found). cond {A = ℕ} x.is_first_hit 1 0) is) in
              a ∙ first_counts n (names_in starts ms) m.name m.is_hit line h.hit ∙ ap (λ (o : Option ℕ). distinct bytes_eq (names_in starts ms ++ named m.name m.is_hit o)) (sym e) ∙ ap (distinct bytes_eq) (sym (names_push starts ms m));
          unstarted = h.unstarted ∙ sym (places_push starts ms m ∙ ap (λ (o : Option ℕ). unstarted_in starts ms ++ alone m.at o) e ∙ append-nil (unstarted_in starts ms));
          items =
              set ∙ ap (λ (x : Found). start_set m.at x.start after) is ∙ ap (start_set m.at line) h.items ∙ ap (λ (o : Option ℕ). start_put m.at o (filled starts ms before)) (sym e) ∙ sym (filled_push starts ms m before);
        }

-- likewise, after a count whose function has none
pub settled_none : (starts : List ℕ → Option ℕ) (ms : List Mark) (m : Mark) (n : ℕ) (places new : List ℕ) (before after : List ItemData)
    → starts m.name ≡ None → new ≡ places ++ m.at ∷ [] → IsSettled starts ms n places before after → IsSettled starts (ms ++ m ∷ []) n new before after
settled_none starts ms m n places new before after e pushed h = record {
  hit = h.hit ∙ ap (distinct bytes_eq) (sym (names_push starts ms m ∙ ap (λ (o : Option ℕ). names_in starts ms ++ named m.name m.is_hit o) e ∙ nothing m.is_hit));
  unstarted = pushed ∙ ap (λ (x : List ℕ). x ++ m.at ∷ []) h.unstarted ∙ sym (places_push starts ms m ∙ ap (λ (o : Option ℕ). unstarted_in starts ms ++ alone m.at o) e);
  items = h.items ∙ ap (λ (o : Option ℕ). start_put m.at o (filled starts ms before)) (sym e) ∙ sym (filled_push starts ms m before);
}
  where
    nothing : (b : Bool) → names_in starts ms ++ named m.name b None ≡ names_in starts ms
    nothing true = append-nil (names_in starts ms)
    nothing false = append-nil (names_in starts ms)

pub length_set : (at line : ℕ) (xs : List ItemData) → length (start_set at line xs) ≡ length xs
length_set at line [] = refl
length_set zero line (x ∷ xs) = refl
length_set (suc at) line (x ∷ xs) = let k = length_set at line xs in omega (arith, k)

pub place_at : (n : ℕ) (ws : List PendingCount) (k : ℕ) (d : PendingCount) → HavePlaces n (map mark ws) → k < length ws → (get_or ws k d).at < n
place_at n [] k d all low = absurd (omega (arith, low))
place_at n (w ∷ ws) zero d all low = all.0
place_at n (w ∷ ws) (suc k) d all low = place_at n ws k d all.1 (omega (arith, low))

-- ---- all counts

pub settled_items : (inside : List LineData) (marks : List Mark) (n : ℕ) (places : List ℕ) (before after items : List ItemData) → marks ≡ marks_from 0 inside → before ≡ stored inside
    → IsSettled (λ name. start_in name inside) marks n places before after → items ≡ left 0 places after → items ≡ items_of inside
settled_items inside marks n places before after items e f h g =
    g ∙ items_are inside after places (h.unstarted ∙ ap (unstarted_in (starts_of inside)) e)
    (h.items ∙ ap (λ (ms : List Mark). filled (starts_of inside) ms before) e ∙ ap (filled (starts_of inside) (marks_from 0 inside)) f)

pub settled_odd : (inside : List LineData) (marks : List Mark) (n : ℕ) (places : List ℕ) (before after : List ItemData) → marks ≡ marks_from 0 inside
    → IsSettled (λ name. start_in name inside) marks n places before after → length places ≡ count_by (is_unstarted inside) inside
settled_odd inside marks n places before after e h = odd_counts inside places (h.unstarted ∙ ap (unstarted_in (starts_of inside)) e)

pub settled_hit : (inside : List LineData) (marks : List Mark) (n : ℕ) (places : List ℕ) (before after : List ItemData) → marks ≡ marks_from 0 inside
    → IsSettled (λ name. start_in name inside) marks n places before after → n ≡ distinct bytes_eq (func_points (filter is_hit (items_of inside)))
settled_hit inside marks n places before after e h = hit_names inside n (h.hit ∙ ap (λ (ms : List Mark). distinct bytes_eq (names_in (starts_of inside) ms)) e)

-- at the section's end, the builder has the section's points and the totals that it states
pub has_totals : (inside : List LineData) (stated : List StatedTotal) (has : SectionPoints) (all : List ItemData) → map stated_record stated ≡ filter is_total inside
    → has.functions.found ≡ distinct bytes_eq (func_points (items_of inside)) → has.functions.hit ≡ distinct bytes_eq (func_points (filter is_hit (items_of inside)))
    → Counts branch_cmp has.branches (hits_said branch_key (stored inside)) → Counts nat_cmp has.lines (hits_said line_point (stored inside)) → all ≡ items_of inside → HasTotals stated has all inside
has_totals inside stated has all totals found hit branches lines e = record {
  totals = totals;
  functions = record { found = found; hit = hit };
  branches = subst (λ (hits : List (Hit BranchPoint)). Counts branch_cmp has.branches hits) (branch_hits_stay inside ∙ ap (hits_said branch_key) (sym e)) branches;
  lines = subst (λ (hits : List (Hit ℕ)). Counts nat_cmp has.lines hits) (line_hits_stay inside ∙ ap (hits_said line_point) (sym e)) lines;
  items = e;
}

-- a section's points are few enough to be counted
pub are_few : (inside : List LineData) (all : List ItemData) → length inside + 1 < 2 ^ 64 → all ≡ items_of inside → AreFew all
are_few inside all few e = record {
  branches =
      let k = ap (λ (items : List ItemData). length (hits_said branch_key items)) e ∙ sym (ap length (branch_hits_stay inside)) in
      omega (arith, k, few_hits branch_key branch_once (stored inside), few_stored inside, few);
  lines =
      let k = ap (λ (items : List ItemData). length (hits_said line_point items)) e ∙ sym (ap length (line_hits_stay inside)) in
      omega (arith, k, few_hits line_point line_once (stored inside), few_stored inside, few);
}
