-- Inserting a slot, and splitting a page: both change the staged entries as they change the slots.
use Rattle.std.proofs.Common.{◌≡◌, ℕ, zero, suc, ◌+◌, ◌<◌, ◌≤◌, Bool, true, false, eqb, if◌then◌else◌, Option, List, [], ◌∷◌, ◌++◌, length, get_or, take, drop, set, map, refl, sym, ap, ◌∙◌, subst, arith, length-append, length-take, length-drop}
use Rattle.std.specs.Cmp.{IsTotalOrder}
use Rattle.std.specs.declared.cmp.Ordering.{Ordering}
use Rattle.std.proofs.lemmas.Cmp.{tied_itself}
use Rattle.std.specs.Prelude.{Some, None, option_map, nat_lt, slice_get}
use Rattle.std.specs.List.{AllByRecursion, insert}
use Rattle.std.proofs.Math.ListN.{length-set}
use Rattle.std.proofs.lemmas.Bool.Decides.{nat_tests}
use Rattle.std.proofs.lemmas.List.Edits.{length-insert}
use Rattle.covmap.specs.Slots.{lead, page_at, IsPlace, order_at, filled, slots_of, before, from, with_empty, with_page_split}
use Rattle.covmap.specs.Staged.{with_column, column_at, page_staged, staged_from, staged_of, AreAfter, AreAscending, IsColumnOf, AreColumnsOf, own_of, halves_of, moved, number_after, IsAmong, IsWidened, IsSplit}
use Rattle.covmap.proofs.Leads.{all_append, all_front, all_back, all_weaker, lead_le}
use Rattle.covmap.proofs.StagedPages.{same_staged, page_of_staged, column_passed, column_found, column_missing}
use Rattle.covmap.proofs.StagedSearch.{below_true, columns_front, columns_missing, columns_there}
use Rattle.covmap.proofs.StagedPut.{seen_written}
use Rattle.covmap.proofs.StagedTouch.{map_insert}
use Rattle.covmap.proofs.MapCommits.{none_given, ascending_front}
use Rattle.covmap.proofs.SlotPages.{whole, filled_append}
use Rattle.covmap.proofs.SlotSplit.{page_low, page_high, split_length, split_slots}
use Rattle.covmap.proofs.SlotWrites.{slots_put, slots_push}

-- ---- the column of a page among the others

pub here_among : {V : Type 0} (page : ℕ) (front : List (ℕ × List (Option V))) (here : Option (List (Option V))) (back : List (ℕ × List (Option V)))
    → AllByRecursion (λ other. other.0 < page) front → AllByRecursion (λ other. page < other.0) back → column_at page (front ++ (own_of page here ++ back)) ≡ here
here_among page front None back a b = column_missing page front back a b
here_among {V} page front (Some column) back a b = let own : ℕ × List (Option V) = (page, column) in column_found front own back a

pub others_among : {V : Type 0} (page m : ℕ) (front : List (ℕ × List (Option V))) (here : Option (List (Option V))) (back : List (ℕ × List (Option V))) → (m ≡ page → ⊥)
    → column_at m (front ++ (own_of page here ++ back)) ≡ column_at m (front ++ back)
others_among page m front None back f = refl
others_among {V} page m front (Some column) back f = let own : ℕ × List (Option V) = (page, column) in column_passed m front own back f

pub all_stay : {X : Type 0} (P Q R : X → Type 0) (xs : List X) → ((x : X) → P x → Q x → R x) → AllByRecursion P xs → AllByRecursion Q xs → AllByRecursion R xs
all_stay P Q R [] f a b = tt
all_stay P Q R (x ∷ xs) f a b = (f x a.0 b.0, all_stay P Q R xs f a.1 b.1)

-- ---- one more empty slot

wider : {K V : Type 0} (page : List (K × Option V)) (column : List (Option V)) (j : ℕ) (key : K) → length column ≡ length page
    → with_column (insert page j (key, None)) (insert column j None) ≡ insert (with_column page column) j (key, None)
wider page column zero key e = refl
wider [] [] (suc j) key e = refl
wider [] (value ∷ column) (suc j) key e = absurd (omega arith)
wider (slot ∷ page) [] (suc j) key e = absurd (omega arith)
wider (slot ∷ page) (value ∷ column) (suc j) key e = ap (λ rest. (slot.0, value) ∷ rest) (wider page column j key (omega arith))

-- if one page changes, together with its column, only that page changes in what is staged
both_changed : {K V : Type 0} (n i k : ℕ) (pages : List (List (K × Option V))) (old new : List (ℕ × List (Option V))) (page : List (K × Option V)) → n + i ≡ k
    → ((m : ℕ) → (m ≡ k → ⊥) → column_at m new ≡ column_at m old) → staged_from n (set pages i page) new ≡ set (staged_from n pages old) i (page_staged page (column_at k new))
both_changed n i k [] old new page e others = refl
both_changed n zero k (first ∷ pages) old new page e others =
    let same : n ≡ k = omega arith in
    ap (λ m. page_staged page (column_at m new) ∷ staged_from (suc n) pages new) same
    ∙ ap (λ rest. page_staged page (column_at k new) ∷ rest) (same_staged (suc n) pages old new (λ m l. others m (λ other. omega arith)))
both_changed n (suc i) k (first ∷ pages) old new page e others =
    ap (λ column. page_staged first column ∷ staged_from (suc n) (set pages i page) new) (others n (λ same. omega arith))
    ∙ ap (λ rest. page_staged first (column_at n old) ∷ rest) (both_changed (suc n) i k pages old new page (omega arith) others)

-- the column of a page is as long as the page
column_fits : {K V : Type 0} (pages : List (List (K × Option V))) (m : ℕ) (columns : List (ℕ × List (Option V))) (column : List (Option V)) → AreColumnsOf pages columns → column_at m columns ≡ Some column
    → length column ≡ length (page_at pages m)
column_fits pages m [] column a e = absurd cc
column_fits {K} {V} pages m (first ∷ columns) column a e = first_fits (eqb first.0 m) refl (column_fits pages m columns column a.1) e
  where
    first_fits : (b : Bool) → eqb first.0 m ≡ b → (column_at m columns ≡ Some column → length column ≡ length (page_at pages m)) → (if b then Some first.1 else column_at m columns) ≡ Some column
        → length column ≡ length (page_at pages m)
    first_fits true t rest f =
        let same : first.0 ≡ m = grind (arith, nat_tests) in
        let own : first.1 ≡ column = cc in
        ap length (sym own) ∙ a.0.1 ∙ ap (λ m. length (page_at pages m)) same
    first_fits false t rest f = rest f

wider_staged : {K V : Type 0} (page : List (K × Option V)) (here : Option (List (Option V))) (j : ℕ) (key : K) → ((column : List (Option V)) → here ≡ Some column → length column ≡ length page)
    → page_staged (insert page j (key, None)) (option_map (λ column. insert column j None) here) ≡ insert (page_staged page here) j (key, None)
wider_staged page None j key f = refl
wider_staged page (Some column) j key f = wider page column j key (f column refl)

-- what is staged gets the empty slot at the same place
pub staged_widened : {K V : Type 0} (pages : List (List (K × Option V))) (old new : List (ℕ × List (Option V))) (i j : ℕ) (key : K) → i < length pages → AreColumnsOf pages old → IsWidened i j old new
    → staged_of (with_empty (i, j) key pages) new ≡ with_empty (i, j) key (staged_of pages old)
staged_widened {K} {V} pages old new i j key there fit w =
    let page = insert (page_at pages i) j (key, None) in
    let wide : Option (List (Option V)) = option_map (λ column. insert column j None) w.here in
    let was : column_at i old ≡ w.here = ap (column_at i) w.was.is ∙ here_among i w.front w.here w.back w.was.below w.was.above in
    let now : column_at i new ≡ wide = ap (column_at i) w.is ∙ here_among i w.front wide w.back w.was.below w.was.above in
    both_changed 0 i i pages old new page (omega arith)
    (λ m f. ap (column_at m) w.is ∙ others_among i m w.front wide w.back f ∙ sym (ap (column_at m) w.was.is ∙ others_among i m w.front w.here w.back f))
    ∙ ap (λ page. set (staged_of pages old) i page)
    (ap (page_staged page) now ∙ wider_staged (page_at pages i) w.here j key (λ column e. column_fits pages i old column fit (was ∙ e))
    ∙ ap (λ page. insert page j (key, None)) (sym (page_of_staged 0 i i pages old (omega arith) there ∙ ap (page_staged (page_at pages i)) was)))

-- inserting an empty slot doesn't change the filled slots
pub filled_empty : {K V : Type 0} (pages : List (List (K × Option V))) (i j : ℕ) (key : K) → i < length pages → filled (slots_of (with_empty (i, j) key pages)) ≡ filled (slots_of pages)
filled_empty {K} {V} pages i j key there =
    let empty : K × Option V = (key, None) in
    ap filled (slots_put pages i j empty there)
    ∙ filled_append (before pages (i, j)) (empty ∷ from pages (i, j))
    ∙ sym (filled_append (before pages (i, j)) (from pages (i, j)))
    ∙ ap filled (sym (whole pages i j))

-- ---- the columns still fit the pages

page_same : {X : Type 0} (pages : List (List X)) (i m : ℕ) (page : List X) → (m ≡ i → ⊥) → get_or (set pages i page) m [] ≡ get_or pages m []
page_same [] i m page f = refl
page_same (first ∷ pages) zero zero page f = absurd (f refl)
page_same (first ∷ pages) zero (suc m) page f = refl
page_same (first ∷ pages) (suc i) zero page f = refl
page_same (first ∷ pages) (suc i) (suc m) page f = page_same pages i m page (λ e. f (ap suc e))

page_new : {X : Type 0} (pages : List (List X)) (i : ℕ) (page : List X) → i < length pages → get_or (set pages i page) i [] ≡ page
page_new [] i page l = absurd (omega arith)
page_new (first ∷ pages) zero page l = refl
page_new (first ∷ pages) (suc i) page l = page_new pages i page (omega arith)

own_fits : {K V : Type 0} (pages : List (List (K × Option V))) (i j : ℕ) (key : K) (here : Option (List (Option V))) → i < length pages → j ≤ length (page_at pages i) → AreColumnsOf pages (own_of i here)
    → AreColumnsOf (with_empty (i, j) key pages) (own_of i (option_map (λ column. insert column j None) here))
own_fits pages i j key None there on_page a = tt
own_fits {K} {V} pages i j key (Some column) there on_page a =
    let page = insert (page_at pages i) j (key, None) in
    let long = length-insert column j None (omega (arith, a.0.1, on_page)) in
    let same = ap length (page_new pages i page there) ∙ length-insert (page_at pages i) j (key, None) on_page in
    ((omega (arith, length-set pages i page, there), omega (arith, long, same, a.0.1)), tt)

pub columns_widened : {K V : Type 0} (pages : List (List (K × Option V))) (old new : List (ℕ × List (Option V))) (i j : ℕ) (key : K) → i < length pages → j ≤ length (page_at pages i) → AreColumnsOf pages old
    → IsWidened i j old new → AreColumnsOf (with_empty (i, j) key pages) new
columns_widened {K} {V} pages old new i j key there on_page fit w =
    let page = insert (page_at pages i) j (key, None) in
    let after = with_empty (i, j) key pages in
    let wide : Option (List (Option V)) = option_map (λ column. insert column j None) w.here in
    let parts = subst (AreColumnsOf pages) w.was.is fit in
    let rest = all_back (IsColumnOf pages) w.front (own_of i w.here ++ w.back) parts in
    let stays : (column : ℕ × List (Option V)) → (column.0 ≡ i → ⊥) → IsColumnOf pages column → IsColumnOf after column = λ column f fit.
    (omega (arith, length-set pages i page, fit.0), fit.1 ∙ ap length (sym (page_same pages i column.0 page f))) in
    subst (AreColumnsOf after) (sym w.is) (all_append (IsColumnOf after) w.front (own_of i wide ++ w.back)
    (all_stay (λ other. other.0 < i) (IsColumnOf pages) (IsColumnOf after) w.front (λ column l. stays column (λ e. omega arith)) w.was.below (all_front (IsColumnOf pages) w.front (own_of i w.here ++ w.back) parts))
    (all_append (IsColumnOf after) (own_of i wide) w.back
    (own_fits pages i j key w.here there on_page (all_front (IsColumnOf pages) (own_of i w.here) w.back rest))
    (all_stay (λ other. i < other.0) (IsColumnOf pages) (IsColumnOf after) w.back (λ column l. stays column (λ e. omega arith)) w.was.above (all_back (IsColumnOf pages) (own_of i w.here) w.back rest))))

-- ---- a page appended

pub staged_pushed : {K V : Type 0} (n : ℕ) (pages : List (List (K × Option V))) (columns : List (ℕ × List (Option V))) (page : List (K × Option V)) → AllByRecursion (λ column. column.0 < n + length pages) columns
    → staged_from n (pages ++ page ∷ []) columns ≡ staged_from n pages columns ++ page ∷ []
staged_pushed {K} {V} n [] columns page a =
    ap (λ column. page_staged page column ∷ []) (ap (column_at n) (sym (append_nil columns)) ∙ column_missing n columns [] (all_weaker (λ (column : ℕ × List (Option V)). column.0 < n + 0) (λ column. column.0 < n) columns (λ column l. omega (arith, l)) a) tt)
  where
    append_nil : {X : Type 0} (xs : List X) → xs ++ [] ≡ xs
    append_nil [] = refl
    append_nil (x ∷ xs) = ap (λ rest. x ∷ rest) (append_nil xs)
staged_pushed {K} {V} n (first ∷ pages) columns page a =
    ap (λ rest. page_staged first (column_at n columns) ∷ rest)
    (staged_pushed (suc n) pages columns page (all_weaker (λ (column : ℕ × List (Option V)). column.0 < n + suc (length pages)) (λ column. column.0 < suc n + length pages) columns (λ column l. omega (arith, l)) a))

pub filled_pushed : {K V : Type 0} (pages : List (List (K × Option V))) (key : K) → filled (slots_of (pages ++ ((key, None) ∷ []) ∷ [])) ≡ filled (slots_of pages)
filled_pushed {K} {V} pages key =
    let page : List (K × Option V) = (key, None) ∷ [] in
    ap filled (slots_push pages page) ∙ filled_append (slots_of pages) page ∙ append_nil (filled (slots_of pages))
  where
    append_nil : {X : Type 0} (xs : List X) → xs ++ [] ≡ xs
    append_nil [] = refl
    append_nil (x ∷ xs) = ap (λ rest. x ∷ rest) (append_nil xs)

page_there : {X : Type 0} (pages : List (List X)) (m : ℕ) (page : List X) → m < length pages → get_or (pages ++ page ∷ []) m [] ≡ get_or pages m []
page_there [] m page l = absurd (omega arith)
page_there (first ∷ pages) zero page l = refl
page_there (first ∷ pages) (suc m) page l = page_there pages m page (omega arith)

pub columns_pushed : {K V : Type 0} (pages : List (List (K × Option V))) (columns : List (ℕ × List (Option V))) (page : List (K × Option V)) → AreColumnsOf pages columns → AreColumnsOf (pages ++ page ∷ []) columns
columns_pushed {K} {V} pages columns page a =
    all_weaker (IsColumnOf pages) (IsColumnOf (pages ++ page ∷ [])) columns
    (λ column fit. (omega (arith, length-append pages (page ∷ []), fit.0), fit.1 ∙ ap length (sym (page_there pages column.0 page fit.0)))) a

-- ---- a page split in two

moved_after_at : {V : Type 0} (page n : ℕ) (column : ℕ × List (Option V)) (b : Bool) → nat_lt page column.0 ≡ b → n < column.0 → n < (if b then suc column.0 else column.0)
moved_after_at page n column true e l = omega arith
moved_after_at page n column false e l = l

moved_after : {V : Type 0} (page n : ℕ) (columns : List (ℕ × List (Option V))) → AreAfter n columns → AreAfter n (map (moved page) columns)
moved_after page n [] a = tt
moved_after page n (column ∷ columns) a = (moved_after_at page n column (nat_lt page column.0) refl a.0, moved_after page n columns a.1)

moved_more : {V : Type 0} (page n : ℕ) (columns : List (ℕ × List (Option V))) → page ≤ n → AreAfter n columns → AreAfter (suc n) (map (moved page) columns)
moved_more page n [] l a = tt
moved_more page n (column ∷ columns) l a = (rw (below_true page column.0 (omega (arith, a.0))) (omega (arith, a.0)), moved_more page n columns l a.1)

-- columns that move stay ascending
pub moved_ascending : {V : Type 0} (page : ℕ) (columns : List (ℕ × List (Option V))) → AreAscending columns → AreAscending (map (moved page) columns)
moved_ascending page [] a = tt
moved_ascending {V} page (column ∷ columns) a = (first (nat_lt page column.0) refl, moved_ascending page columns a.1)
  where
    first : (b : Bool) → nat_lt page column.0 ≡ b → AreAfter (if b then suc column.0 else column.0) (map (moved page) columns)
    first true e = let above : page < column.0 = grind (arith, nat_tests) in moved_more page column.0 columns (omega arith) a.0
    first false e = moved_after page column.0 columns a.0

-- once the columns have moved, none of them has the number right after that of the page
moved_apart : {V : Type 0} (page : ℕ) (columns : List (ℕ × List (Option V))) → AllByRecursion (λ column. column.0 ≡ suc page → ⊥) (map (moved page) columns)
moved_apart page [] = tt
moved_apart {V} page (column ∷ columns) = (first (nat_lt page column.0) refl, moved_apart page columns)
  where
    first : (b : Bool) → nat_lt page column.0 ≡ b → (if b then suc column.0 else column.0) ≡ suc page → ⊥
    first true e f = let above : page < column.0 = grind (arith, nat_tests) in omega (arith, above, f)
    first false e f = let above : column.0 ≤ page = grind (arith, nat_tests) in omega (arith, above, f)

apart : (a b : ℕ) → (a ≡ b → ⊥) → eqb a b ≡ false
apart a b f = grind (arith, nat_tests)

equal_tests : (a b : ℕ) → eqb (suc a) (suc b) ≡ eqb a b
equal_tests a b = at_test (eqb a b) refl
  where
    at_test : (t : Bool) → eqb a b ≡ t → eqb (suc a) (suc b) ≡ eqb a b
    at_test true e = let same : a ≡ b = grind (arith, nat_tests) in let addend : eqb (suc a) (suc b) ≡ true = grind (arith, nat_tests, same) in addend ∙ sym e
    at_test false e = let other : a ≡ b → ⊥ = grind (arith, nat_tests) in apart (suc a) (suc b) (λ f. other (omega (arith, f))) ∙ sym e

-- up to the page that is split, the moved columns are found under their old numbers
at_low : {V : Type 0} (page m : ℕ) (columns : List (ℕ × List (Option V))) → m ≤ page → column_at m (map (moved page) columns) ≡ column_at m columns
at_low page m [] l = refl
at_low {V} page m (column ∷ columns) l = first (nat_lt page column.0) refl ∙ ap (λ rest. if eqb column.0 m then Some column.1 else rest) (at_low page m columns l)
  where
    first : (b : Bool) → nat_lt page column.0 ≡ b → (if eqb (if b then suc column.0 else column.0) m then Some column.1 else column_at m (map (moved page) columns))
        ≡ (if eqb column.0 m then Some column.1 else column_at m (map (moved page) columns))
    first true e =
        let above : page < column.0 = grind (arith, nat_tests) in
        rw (apart (suc column.0) m (λ f. omega (arith, above, f, l)), apart column.0 m (λ f. omega (arith, above, f, l))) refl
    first false e = refl

-- after that page, the moved columns are found under the next numbers
at_high : {V : Type 0} (page m : ℕ) (columns : List (ℕ × List (Option V))) → page < m → column_at (suc m) (map (moved page) columns) ≡ column_at m columns
at_high page m [] l = refl
at_high {V} page m (column ∷ columns) l = first (nat_lt page column.0) refl ∙ ap (λ rest. if eqb column.0 m then Some column.1 else rest) (at_high page m columns l)
  where
    first : (b : Bool) → nat_lt page column.0 ≡ b → (if eqb (if b then suc column.0 else column.0) (suc m) then Some column.1 else column_at (suc m) (map (moved page) columns))
        ≡ (if eqb column.0 m then Some column.1 else column_at (suc m) (map (moved page) columns))
    first true e = rw (equal_tests column.0 m) refl
    first false e =
        let above : column.0 ≤ page = grind (arith, nat_tests) in
        rw (apart column.0 (suc m) (λ f. omega (arith, above, f, l)), apart column.0 m (λ f. omega (arith, above, f, l))) refl

-- ---- what the halves get

take_given : {K V : Type 0} (page : List (K × Option V)) (column : List (Option V)) (n : ℕ) → take n (with_column page column) ≡ with_column (take n page) (take n column)
take_given page column zero = refl
take_given [] column (suc n) = refl
take_given (slot ∷ page) [] (suc n) = refl
take_given (slot ∷ page) (value ∷ column) (suc n) = ap (λ rest. (slot.0, value) ∷ rest) (take_given page column n)

drop_given : {K V : Type 0} (page : List (K × Option V)) (column : List (Option V)) (n : ℕ) → drop n (with_column page column) ≡ with_column (drop n page) (drop n column)
drop_given page column zero = refl
drop_given [] column (suc n) = refl
drop_given (slot ∷ page) [] (suc n) = sym (none_given (drop n page))
drop_given (slot ∷ page) (value ∷ column) (suc n) = drop_given page column n

take_staged : {K V : Type 0} (page : List (K × Option V)) (here : Option (List (Option V))) → page_staged (take 128 page) (option_map (λ column. take 128 column) here) ≡ take 128 (page_staged page here)
take_staged page None = refl
take_staged page (Some column) = sym (take_given page column 128)

drop_staged : {K V : Type 0} (page : List (K × Option V)) (here : Option (List (Option V))) → page_staged (drop 128 page) (option_map (λ column. drop 128 column) here) ≡ drop 128 (page_staged page here)
drop_staged page None = refl
drop_staged page (Some column) = sym (drop_given page column 128)

-- if both the pages and their columns move by one, what is staged on these pages stays the same
next_staged : {K V : Type 0} (n : ℕ) (pages : List (List (K × Option V))) (old new : List (ℕ × List (Option V))) → ((m : ℕ) → n ≤ m → column_at (suc m) new ≡ column_at m old)
    → staged_from (suc n) pages new ≡ staged_from n pages old
next_staged n [] old new f = refl
next_staged n (page ∷ pages) old new f =
    ap (λ column. page_staged page column ∷ staged_from (suc (suc n)) pages new) (f n (omega arith))
    ∙ ap (λ rest. page_staged page (column_at n old) ∷ rest) (next_staged (suc n) pages old new (λ m l. f m (omega arith)))

split_staged : {K V : Type 0} (n i k : ℕ) (pages : List (List (K × Option V))) (old new : List (ℕ × List (Option V))) → n + i ≡ k → i < length pages
    → ((m : ℕ) → m < k → column_at m new ≡ column_at m old) → column_at k new ≡ option_map (λ column. take 128 column) (column_at k old)
    → column_at (suc k) new ≡ option_map (λ column. drop 128 column) (column_at k old) → ((m : ℕ) → k < m → column_at (suc m) new ≡ column_at m old)
    → staged_from n (with_page_split i pages) new ≡ with_page_split i (staged_from n pages old)
split_staged n i k [] old new e l low first second high = absurd (omega arith)
split_staged n zero k (page ∷ pages) old new e l low first second high =
    let same : n ≡ k = omega arith in
    ap (λ m. page_staged (take 128 page) (column_at m new) ∷ page_staged (drop 128 page) (column_at (suc m) new) ∷ staged_from (suc (suc n)) pages new) same
    ∙ ap (λ column. page_staged (take 128 page) column ∷ page_staged (drop 128 page) (column_at (suc k) new) ∷ staged_from (suc (suc n)) pages new) first
    ∙ ap (λ column. page_staged (take 128 page) (option_map (λ column. take 128 column) (column_at k old)) ∷ page_staged (drop 128 page) column ∷ staged_from (suc (suc n)) pages new) second
    ∙ ap (λ half. half ∷ page_staged (drop 128 page) (option_map (λ column. drop 128 column) (column_at k old)) ∷ staged_from (suc (suc n)) pages new) (take_staged page (column_at k old))
    ∙ ap (λ half. take 128 (page_staged page (column_at k old)) ∷ half ∷ staged_from (suc (suc n)) pages new) (drop_staged page (column_at k old))
    ∙ ap (λ rest. take 128 (page_staged page (column_at k old)) ∷ drop 128 (page_staged page (column_at k old)) ∷ rest) (next_staged (suc n) pages old new (λ m l. high m (omega arith)))
    ∙ ap (λ m. take 128 (page_staged page (column_at m old)) ∷ drop 128 (page_staged page (column_at m old)) ∷ staged_from (suc n) pages old) (sym same)
split_staged n (suc i) k (page ∷ pages) old new e l low first second high =
    ap (λ column. page_staged page column ∷ staged_from (suc n) (with_page_split i pages) new) (low n (omega arith))
    ∙ ap (λ rest. page_staged page (column_at n old) ∷ rest) (split_staged (suc n) i k pages old new (omega arith) (omega arith) low first second high)

-- ---- what is found after the split

second_half : {V : Type 0} (page : ℕ) (front : List (ℕ × List (Option V))) (here : Option (List (Option V))) (back : List (ℕ × List (Option V)))
    → AllByRecursion (λ other. other.0 < page) front → AllByRecursion (λ other. suc page < other.0) back
    → column_at (suc page) (front ++ (halves_of page here ++ back)) ≡ option_map (λ column. drop 128 column) here
second_half page front None back a b = column_missing (suc page) front back (all_weaker (λ other. other.0 < page) (λ other. other.0 < suc page) front (λ other l. omega (arith, l)) a) b
second_half {V} page front (Some column) back a b =
    let half : ℕ × List (Option V) = (page, take 128 column) in
    let next : ℕ × List (Option V) = (suc page, drop 128 column) in
    column_passed (suc page) front half (next ∷ back) (λ e. omega arith)
    ∙ column_found front next back (all_weaker (λ other. other.0 < page) (λ other. other.0 < suc page) front (λ other l. omega (arith, l)) a)

first_half : {V : Type 0} (page : ℕ) (front : List (ℕ × List (Option V))) (here : Option (List (Option V))) (back : List (ℕ × List (Option V)))
    → AllByRecursion (λ other. other.0 < page) front → AllByRecursion (λ other. page < other.0) back
    → column_at page (front ++ (halves_of page here ++ back)) ≡ option_map (λ column. take 128 column) here
first_half page front None back a b = column_missing page front back a b
first_half {V} page front (Some column) back a b =
    let half : ℕ × List (Option V) = (page, take 128 column) in
    let next : ℕ × List (Option V) = (suc page, drop 128 column) in
    column_found front half (next ∷ back) a

other_half : {V : Type 0} (page m : ℕ) (front : List (ℕ × List (Option V))) (here : Option (List (Option V))) (back : List (ℕ × List (Option V))) → (m ≡ page → ⊥) → (m ≡ suc page → ⊥)
    → column_at m (front ++ (halves_of page here ++ back)) ≡ column_at m (front ++ (own_of page here ++ back))
other_half page m front None back f s = refl
other_half {V} page m front (Some column) back f s =
    let own : ℕ × List (Option V) = (page, column) in
    let half : ℕ × List (Option V) = (page, take 128 column) in
    let next : ℕ × List (Option V) = (suc page, drop 128 column) in
    column_passed m front half (next ∷ back) f ∙ column_passed m front next back s ∙ sym (column_passed m front own back f)

all_away : {V : Type 0} (page : ℕ) (back : List (ℕ × List (Option V))) → AllByRecursion (λ other. page < other.0) back → AllByRecursion (λ other. other.0 ≡ suc page → ⊥) back
    → AllByRecursion (λ other. suc page < other.0) back
all_away {V} page back a b = all_stay (λ (other : ℕ × List (Option V)). page < other.0) (λ other. other.0 ≡ suc page → ⊥) (λ other. suc page < other.0) back away a b
  where
    away : (other : ℕ × List (Option V)) → page < other.0 → (other.0 ≡ suc page → ⊥) → suc page < other.0
    away other l f = grind (arith, f, l)

-- the columns of later pages have greater numbers than the page's second half
pub after_halves : {V : Type 0} (page : ℕ) (old front : List (ℕ × List (Option V))) (here : Option (List (Option V))) (back : List (ℕ × List (Option V))) → IsAmong page (map (moved page) old) front here back
    → AllByRecursion (λ other. suc page < other.0) back
after_halves {V} page old front here back w =
    let apart = λ (other : ℕ × List (Option V)). other.0 ≡ suc page → ⊥ in
    all_away page back w.above (all_back apart (own_of page here) back (all_back apart front (own_of page here ++ back) (subst (AllByRecursion apart) w.is (moved_apart page old))))

-- what is staged is split as the pages are
pub staged_split : {K V : Type 0} (pages : List (List (K × Option V))) (old new : List (ℕ × List (Option V))) (i : ℕ) → i < length pages → IsSplit i old new
    → staged_of (with_page_split i pages) new ≡ with_page_split i (staged_of pages old)
staged_split pages old new i there s =
    let following = after_halves i old s.front s.here s.back s.was in
    let here : column_at i old ≡ s.here = sym (at_low i i old (omega arith)) ∙ ap (column_at i) s.was.is ∙ here_among i s.front s.here s.back s.was.below s.was.above in
    split_staged 0 i i pages old new (omega arith) there
    (λ m l. ap (column_at m) s.is ∙ other_half i m s.front s.here s.back (λ e. omega arith) (λ e. omega arith) ∙ sym (ap (column_at m) s.was.is) ∙ at_low i m old (omega arith))
    (ap (column_at i) s.is ∙ first_half i s.front s.here s.back s.was.below s.was.above ∙ ap (option_map (λ column. take 128 column)) (sym here))
    (ap (column_at (suc i)) s.is ∙ second_half i s.front s.here s.back s.was.below following ∙ ap (option_map (λ column. drop 128 column)) (sym here))
    (λ m l. ap (column_at (suc m)) s.is ∙ other_half i (suc m) s.front s.here s.back (λ e. omega arith) (λ e. omega arith) ∙ sym (ap (column_at (suc m)) s.was.is) ∙ at_high i m old (omega arith))

-- ---- the columns of the halves

page_before : {K V : Type 0} (pages : List (List (K × Option V))) (i m : ℕ) → i < length pages → m < i → page_at (with_page_split i pages) m ≡ page_at pages m
page_before [] i m t l = absurd (omega arith)
page_before (page ∷ pages) zero m t l = absurd (omega arith)
page_before (page ∷ pages) (suc i) zero t l = refl
page_before (page ∷ pages) (suc i) (suc m) t l = page_before pages i m (omega arith) (omega arith)

page_after : {K V : Type 0} (pages : List (List (K × Option V))) (i m : ℕ) → i < length pages → i < m → page_at (with_page_split i pages) (suc m) ≡ page_at pages m
page_after [] i m t l = absurd (omega arith)
page_after (page ∷ pages) i zero t l = absurd (omega arith)
page_after (page ∷ pages) zero (suc m) t l = refl
page_after (page ∷ pages) (suc i) (suc m) t l = page_after pages i m (omega arith) (omega arith)

module _ {K V : Type 0} (pages : List (List (K × Option V))) (i : ℕ) (there : i < length pages) where
  -- a moved column fits its page after the split. Only the column of the page that is split fits the page as it was before
  abbrev MovesTo : ℕ × List (Option V) → Type 0
  MovesTo column = ((column.0 ≡ i → ⊥) → IsColumnOf (with_page_split i pages) column) × (column.0 ≡ i → length column.1 ≡ length (page_at pages i))

  moves_to : (columns : List (ℕ × List (Option V))) → AreColumnsOf pages columns → AllByRecursion MovesTo (map (moved i) columns)
  moves_to [] a = tt
  moves_to (column ∷ columns) a = (first (nat_lt i column.0) refl, moves_to columns a.1)
    where
      first : (b : Bool) → nat_lt i column.0 ≡ b → MovesTo (if b then suc column.0 else column.0, column.1)
      first true e =
          let above : i < column.0 = grind (arith, nat_tests) in
          (λ f. (omega (arith, split_length pages i there, a.0.0), a.0.1 ∙ ap length (sym (page_after pages i column.0 there above))), λ f. absurd (omega (arith, above, f)))
      first false e =
          let above : column.0 ≤ i = grind (arith, nat_tests) in (
            λ f. let below : column.0 < i = grind (arith, above, f) in (omega (arith, split_length pages i there, a.0.0), a.0.1 ∙ ap length (sym (page_before pages i column.0 there below))),
            λ f. a.0.1 ∙ ap (λ m. length (page_at pages m)) f,
          )

  halves_fit : (here : Option (List (Option V))) → length (page_at pages i) ≡ 256 → AllByRecursion MovesTo (own_of i here) → AreColumnsOf (with_page_split i pages) (halves_of i here)
  halves_fit None full a = tt
  halves_fit (Some column) full a =
      let count = split_length pages i there in
      let long = a.0.1 refl in (
        (omega (arith, count, there), omega (arith, length-take 128 column, length-take 128 (page_at pages i), long, ap length (page_low pages i there))),
        ((omega (arith, count, there), omega (arith, length-drop 128 column, length-drop 128 (page_at pages i), long, ap length (page_high pages i there))), tt),
      )

  pub columns_split : (old new : List (ℕ × List (Option V))) → length (page_at pages i) ≡ 256 → AreColumnsOf pages old → IsSplit i old new → AreColumnsOf (with_page_split i pages) new
  columns_split old new full fit s =
      let after = with_page_split i pages in
      let parts = subst (AllByRecursion MovesTo) s.was.is (moves_to old fit) in
      let rest = all_back MovesTo s.front (own_of i s.here ++ s.back) parts in
      subst (AreColumnsOf after) (sym s.is) (all_append (IsColumnOf after) s.front (halves_of i s.here ++ s.back)
      (all_stay (λ (other : ℕ × List (Option V)). other.0 < i) MovesTo (IsColumnOf after) s.front (λ column l m. m.0 (λ e. omega arith)) s.was.below (all_front MovesTo s.front (own_of i s.here ++ s.back) parts))
      (all_append (IsColumnOf after) (halves_of i s.here) s.back
      (halves_fit s.here full (all_front MovesTo (own_of i s.here) s.back rest))
      (all_stay (λ (other : ℕ × List (Option V)). i < other.0) MovesTo (IsColumnOf after) s.back (λ column l m. m.0 (λ e. omega arith)) s.was.above (all_back MovesTo (own_of i s.here) s.back rest))))

-- ---- the columns stay ascending

ascending_both : {V : Type 0} (page : ℕ) (front back : List (ℕ × List (Option V))) → AllByRecursion (λ other. other.0 < page) front → AllByRecursion (λ other. page ≤ other.0) back → AreAscending front
    → AreAscending back → AreAscending (front ++ back)
ascending_both page [] back a b f g = g
ascending_both {V} page (first ∷ front) back a b f g = (
  all_append (λ (other : ℕ × List (Option V)). first.0 < other.0) front back f.0 (all_weaker (λ (other : ℕ × List (Option V)). page ≤ other.0) (λ other. first.0 < other.0) back (λ other l. omega (arith, l, a.0)) b),
  ascending_both page front back a.1 b f.1 g,
)

ascending_back : {V : Type 0} (front back : List (ℕ × List (Option V))) → AreAscending (front ++ back) → AreAscending back
ascending_back [] back a = a
ascending_back (first ∷ front) back a = ascending_back front back a.1

-- columns still ascend if one is replaced by two, the second with the next number
pub halves_ascending : {V : Type 0} (page : ℕ) (column : List (Option V)) (front back : List (ℕ × List (Option V))) (first second : List (Option V)) → AllByRecursion (λ other. other.0 < page) front
    → AllByRecursion (λ other. suc page < other.0) back → AreAscending (front ++ (page, column) ∷ back) → AreAscending (front ++ (page, first) ∷ (suc page, second) ∷ back)
halves_ascending {V} page column front back first second below above a =
    let one : ℕ × List (Option V) = (page, first) in
    let two : ℕ × List (Option V) = (suc page, second) in
    let weak = all_weaker (λ (other : ℕ × List (Option V)). suc page < other.0) (λ other. page ≤ other.0) back (λ other l. omega (arith, l)) above in
    let after = all_weaker (λ (other : ℕ × List (Option V)). suc page < other.0) (λ other. page < other.0) back (λ other l. omega (arith, l)) above in
    ascending_both page front (one ∷ two ∷ back) below (omega arith, (omega arith, weak)) (ascending_front front ((page, column) ∷ back) a)
    ((omega arith, after), (above, (ascending_back front ((page, column) ∷ back) a).1))

-- ---- the numbers, written one by one

abbrev pub changed_front : {X : Type 0} → (X → X) → ℕ → List X → List X
changed_front f zero xs = xs
changed_front f (suc n) [] = []
changed_front f (suc n) (x ∷ xs) = f x ∷ changed_front f n xs

pub front_more : {X : Type 0} (f : X → X) (xs : List X) (i : ℕ) (x y : X) → i < length xs → x ≡ get_or (changed_front f i xs) i x → y ≡ f x → set (changed_front f i xs) i y ≡ changed_front f (i + 1) xs
front_more f [] i x y l e g = absurd (omega arith)
front_more f (first ∷ xs) zero x y l e g = ap (λ y. y ∷ xs) (g ∙ ap f e)
front_more f (first ∷ xs) (suc i) x y l e g =
    ap (λ rest. f first ∷ rest) (front_more f xs i x y (omega arith) e g) ∙ ap (λ n. changed_front f n (first ∷ xs)) (let same : suc (i + 1) ≡ suc i + 1 = omega arith in same)

pub front_read : {X : Type 0} (f : X → X) (xs : List X) (i : ℕ) (d : X) → get_or (changed_front f i xs) i d ≡ get_or xs i d
front_read f [] zero d = refl
front_read f [] (suc i) d = refl
front_read f (x ∷ xs) zero d = refl
front_read f (x ∷ xs) (suc i) d = front_read f xs i d

get_within : {X : Type 0} (xs : List X) (i : ℕ) (d e : X) → i < length xs → get_or xs i d ≡ get_or xs i e
get_within [] i d e l = absurd (omega arith)
get_within (x ∷ xs) zero d e l = refl
get_within (x ∷ xs) (suc i) d e l = get_within xs i d e (omega arith)

-- one more number is written
pub number_more : {P : Type 0} (page i : ℕ) (old columns : List (ℕ × P)) (column other : ℕ × P) (n : ℕ) → columns ≡ changed_front (λ column. (number_after page column.0, column.1)) i old → i < length old
    → column ≡ get_or columns i column → n ≡ number_after page (get_or columns i column).0
    → set columns i (n, (get_or columns i other).1) ≡ changed_front (λ column. (number_after page column.0, column.1)) (i + 1) old
number_more {P} page i old columns column other n is within here number =
    let change : ℕ × P → ℕ × P = λ column. (number_after page column.0, column.1) in
    let read : (d : ℕ × P) → get_or columns i d ≡ get_or old i d = λ d. ap (λ columns. get_or columns i d) is ∙ front_read change old i d in
    let same : get_or columns i other ≡ column = read other ∙ get_within old i other column within ∙ sym (read column) ∙ sym here in
    ap (λ columns. set columns i (n, (get_or columns i other).1)) is
    ∙ front_more change old i column (n, (get_or (changed_front change i old) i other).1) within (here ∙ ap (λ columns. get_or columns i column) is)
    (ap (λ (rest : ℕ × P). (n, rest.1)) (ap (λ columns. get_or columns i other) (sym is) ∙ same) ∙ ap (λ n. (n, column.1)) (number ∙ ap (λ (column : ℕ × P). number_after page column.0) (sym here)))

pub front_whole : {X : Type 0} (f : X → X) (xs : List X) (n : ℕ) → length xs ≤ n → changed_front f n xs ≡ map f xs
front_whole f [] zero l = refl
front_whole f [] (suc n) l = refl
front_whole f (x ∷ xs) zero l = absurd (omega arith)
front_whole f (x ∷ xs) (suc n) l = ap (λ rest. f x ∷ rest) (front_whole f xs n (omega arith))

-- ---- where the code finds the page's column

take_drop : {X : Type 0} (xs : List X) (n : ℕ) → take n xs ++ drop n xs ≡ xs
take_drop xs zero = refl
take_drop [] (suc n) = refl
take_drop (x ∷ xs) (suc n) = ap (λ rest. x ∷ rest) (take_drop xs n)

module _ {V : Type 0} (columns : List (ℕ × List (Option V))) (page index : ℕ) (found : index ≡ lead (λ column. nat_lt column.0 page) columns) (ascending : AreAscending columns) where
  pub front_length : index ≡ length (take index columns)
  front_length =
      let within = lead_le (λ (column : ℕ × List (Option V)). nat_lt column.0 page) columns in
      omega (arith, length-take index columns, found, within)

  front_below : AllByRecursion (λ other. other.0 < page) (take index columns)
  front_below = rw found (columns_front page columns)

  pub none_among : (option_map (λ column. column.0) (slice_get columns index) ≡ Some page → ⊥) → IsAmong page columns (take index columns) None (drop index columns)
  none_among none = record { is = sym (take_drop columns index); below = front_below; above = rw found (columns_missing page columns ascending (rw found at none)) }

  pub one_among : option_map (λ column. column.0) (slice_get columns index) ≡ Some page → (column : List (Option V)) × IsAmong page columns (take index columns) (Some column) (drop (suc index) columns)
  one_among e =
      let parts = columns_there page columns index e in (
        parts.0,
        record {
          is = parts.1;
          below = front_below;
          above = (ascending_back (take index columns) ((page, parts.0) ∷ drop (suc index) columns) (subst AreAscending parts.1 ascending)).0;
        },
      )

-- what is true of all columns is true of the page's
pub here_is : {V : Type 0} (P : ℕ × List (Option V) → Type 0) (page : ℕ) (columns front : List (ℕ × List (Option V))) (column : List (Option V)) (back : List (ℕ × List (Option V)))
    → IsAmong page columns front (Some column) back → AllByRecursion P columns → P (page, column)
here_is P page columns front column back w a = (all_back P front ((page, column) ∷ back) (subst (AllByRecursion P) w.is a)).0

-- ---- the columns as contracts see them

seen_moved : {V P : Type 0} (seen : P → ℕ × List (Option V)) (f : P → P) (page : ℕ) → ((p : P) → seen (f p) ≡ moved page (seen p)) → (ps : List P) → map seen (map f ps) ≡ map (moved page) (map seen ps)
seen_moved seen f page e [] = refl
seen_moved seen f page e (p ∷ ps) = ap (λ first. first ∷ map seen (map f ps)) (e p) ∙ ap (λ rest. moved page (seen p) ∷ rest) (seen_moved seen f page e ps)

pub moved_seen : {V P : Type 0} (seen : P → ℕ × List (Option V)) (f : P → P) (page : ℕ) (ps new : List P) (columns : List (ℕ × List (Option V))) → ((p : P) → seen (f p) ≡ moved page (seen p)) → map seen ps ≡ columns
    → new ≡ map f ps → map seen new ≡ map (moved page) columns
moved_seen seen f page ps new columns e view is = ap (map seen) is ∙ seen_moved seen f page e ps ∙ ap (map (moved page)) view

-- what is true of all columns as contracts see them is true of each column as it is seen
pub all_seen : {P X : Type 0} (Q : X → Type 0) (seen : P → X) (ps : List P) → AllByRecursion Q (map seen ps) → AllByRecursion (λ p. Q (seen p)) ps
all_seen Q seen [] a = tt
all_seen Q seen (p ∷ ps) a = (a.0, all_seen Q seen ps a.1)

insert_after : {X : Type 0} (front : List X) (y z : X) (back : List X) → insert (front ++ y ∷ back) (suc (length front)) z ≡ front ++ y ∷ z ∷ back
insert_after [] y z back = refl
insert_after (x ∷ front) y z back = ap (λ rest. x ∷ rest) (insert_after front y z back)

-- a column split in two
pub seen_halves : {V P : Type 0} (seen : P → ℕ × List (Option V)) (ps : List P) (columns front : List (ℕ × List (Option V))) (x : ℕ × List (Option V)) (back : List (ℕ × List (Option V))) (index : ℕ)
    → map seen ps ≡ columns → columns ≡ front ++ x ∷ back → index ≡ length front → (q r : P) (y z : ℕ × List (Option V)) → seen q ≡ y → seen r ≡ z
    → map seen (insert (set ps index q) (index + 1) r) ≡ front ++ y ∷ z ∷ back
seen_halves seen ps columns front x back index view is at q r y z e f =
    let next : index + 1 ≡ suc (length front) = omega (arith, at) in
    map_insert seen (set ps index q) (index + 1) r
    ∙ ap (λ xs. insert xs (index + 1) (seen r)) (seen_written seen ps columns front x back index view is at q y e)
    ∙ ap (insert (front ++ y ∷ back) (index + 1)) f
    ∙ ap (λ n. insert (front ++ y ∷ back) n z) next
    ∙ insert_after front y z back

-- the page's column keeps its length while the others move
pub moved_full : {V : Type 0} (page n : ℕ) (columns : List (ℕ × List (Option V))) → AllByRecursion (λ column. column.0 ≡ page → length column.1 ≡ n) columns
    → AllByRecursion (λ column. column.0 ≡ page → length column.1 ≡ n) (map (moved page) columns)
moved_full page n [] a = tt
moved_full {V} page n (column ∷ columns) a = (first (nat_lt page column.0) refl, moved_full page n columns a.1)
  where
    first : (b : Bool) → nat_lt page column.0 ≡ b → (if b then suc column.0 else column.0) ≡ page → length column.1 ≡ n
    first true e f = let above : page < column.0 = grind (arith, nat_tests) in absurd (omega (arith, above, f))
    first false e f = a.0 f

-- ---- what the steps require

pub length_staged : {K V : Type 0} (n : ℕ) (pages : List (List (K × Option V))) (columns : List (ℕ × List (Option V))) → length (staged_from n pages columns) ≡ length pages
length_staged n [] columns = refl
length_staged n (page ∷ pages) columns = ap suc (length_staged (suc n) pages columns)

pub room_for : {K V : Type 0} (pages : List (List (K × Option V))) (columns : List (ℕ × List (Option V))) (i j : ℕ) → AreColumnsOf pages columns → j ≤ length (page_at pages i)
    → AllByRecursion (λ column. column.0 ≡ i → j ≤ length column.1) columns
room_for pages columns i j fit l =
    all_weaker (IsColumnOf pages) (λ column. column.0 ≡ i → j ≤ length column.1) columns (λ column fit e. omega (arith, fit.1, ap (λ i. length (page_at pages i)) e, l)) fit

pub long_as : {K V : Type 0} (pages : List (List (K × Option V))) (columns : List (ℕ × List (Option V))) (i n : ℕ) → AreColumnsOf pages columns → length (page_at pages i) ≡ n
    → AllByRecursion (λ column. column.0 ≡ i → length column.1 ≡ n) columns
long_as pages columns i n fit l =
    all_weaker (IsColumnOf pages) (λ column. column.0 ≡ i → length column.1 ≡ n) columns (λ column fit e. fit.1 ∙ ap (λ i. length (page_at pages i)) e ∙ l) fit

pub numbers_fit : {K V : Type 0} (pages : List (List (K × Option V))) (columns : List (ℕ × List (Option V))) (limit : ℕ) → AreColumnsOf pages columns → length pages < limit
    → AllByRecursion (λ column. column.0 + 1 < limit) columns
numbers_fit pages columns limit fit l = all_weaker (IsColumnOf pages) (λ column. column.0 + 1 < limit) columns (λ column fit. omega (arith, fit.0, l)) fit

-- ---- the steps

get_inserted : {X : Type 0} (xs : List X) (j : ℕ) (x : X) → j ≤ length xs → slice_get (insert xs j x) j ≡ Some x
get_inserted xs zero x l = refl
get_inserted [] (suc j) x l = absurd (omega arith)
get_inserted (y ∷ xs) (suc j) x l = get_inserted xs j x (omega arith)

-- the key is where it was inserted
pub place_made : {K V : Type 0} {cmp : K → K → Ordering} → IsTotalOrder cmp → (pages : List (List (K × Option V))) (i j : ℕ) (key : K) → i < length pages → j ≤ length (page_at pages i)
    → IsPlace (λ other. cmp other key) (with_empty (i, j) key pages) (i, j)
place_made {K} {V} {cmp} t pages i j key there on_page =
    let slot : K × Option V = (key, None) in
    let order : K → Ordering = λ other. cmp other key in
    ap (λ page. order_at order (slice_get page j)) (page_new pages i (insert (page_at pages i) j slot) there)
    ∙ ap (order_at order) (get_inserted (page_at pages i) j slot on_page)
    ∙ tied_itself t key

pub staged_made : {K V : Type 0} (pages : List (List (K × Option V))) (old new : List (ℕ × List (Option V))) (i j : ℕ) (key : K) → i < length pages → AreColumnsOf pages old → IsWidened i j old new
    → filled (slots_of (staged_of (with_empty (i, j) key pages) new)) ≡ filled (slots_of (staged_of pages old))
staged_made pages old new i j key there fit w =
    ap (λ pages. filled (slots_of pages)) (staged_widened pages old new i j key there fit w) ∙ filled_empty (staged_of pages old) i j key (omega (arith, there, length_staged 0 pages old))

pub staged_made_after : {K V : Type 0} (pages : List (List (K × Option V))) (columns : List (ℕ × List (Option V))) (key : K) → AreColumnsOf pages columns
    → filled (slots_of (staged_of (pages ++ ((key, None) ∷ []) ∷ []) columns)) ≡ filled (slots_of (staged_of pages columns))
staged_made_after {K} {V} pages columns key fit =
    let page : List (K × Option V) = (key, None) ∷ [] in
    ap (λ pages. filled (slots_of pages)) (staged_pushed 0 pages columns page (all_weaker (IsColumnOf pages) (λ column. column.0 < 0 + length pages) columns (λ column fit. omega (arith, fit.0)) fit))
    ∙ filled_pushed (staged_of pages columns) key

pub staged_cut : {K V : Type 0} (pages : List (List (K × Option V))) (old new : List (ℕ × List (Option V))) (i : ℕ) → i < length pages → IsSplit i old new
    → filled (slots_of (staged_of (with_page_split i pages) new)) ≡ filled (slots_of (staged_of pages old))
staged_cut pages old new i there s =
    ap (λ pages. filled (slots_of pages)) (staged_split pages old new i there s) ∙ ap filled (split_slots (staged_of pages old) i (omega (arith, there, length_staged 0 pages old)))
