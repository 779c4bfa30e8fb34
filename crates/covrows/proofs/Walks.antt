-- One more step of a loop over rows.
use Rattle.std.proofs.Common.{◌≡◌, ℕ, ◌+◌, ◌<◌, ◌≤◌, ◌-◌, append-nil, length-drop, take, cond, Bool, true, false, List, [], ◌∷◌, ◌++◌, length, suc, map, filter, drop, get_or, refl, sym, ap, ◌∙◌, arith}
use Rattle.std.specs.Prelude.{Option, Some, None, option_map, option_to_list}
use Rattle.std.specs.declared.cmp.Ordering.{Ordering}
use Rattle.std.specs.List.{flat_map, sum_by}
use Rattle.std.proofs.lemmas.List.{drop-map, drop_all, drop_at, drop_more, take-map, take_at}
use Rattle.std.proofs.lemmas.List.Sums.{sum_by-append, sum_by-cons}
use Rattle.covdata.specs.Points.{least}
use Rattle.covdata.specs.Row.{ItemData, Row}
use Rattle.covtable.specs.Value.{Key, bounded, has_key, items_at, sum_if_any}
use Rattle.covrows.specs.Above.{least_of}
use Rattle.covrows.specs.Counted.{count_last, is_last_of}
use Rattle.covrows.specs.Data.{at_key}
use Rattle.covrows.proofs.Least.{lesser_seen}

-- ---- rows of a key

pub sum_at_key : (f : ItemData → ℕ) (key : Key) (rows : List Row) → sum_by (at_key f 0 key) rows ≡ sum_by f (items_at key rows)
sum_at_key f key [] = refl
sum_at_key f key (row ∷ rows) = sum_by-cons (at_key f 0 key) row rows ∙ by (has_key key row) (sum_at_key f key rows)
  where
    by : (b : Bool) → sum_by (at_key f 0 key) rows ≡ sum_by f (items_at key rows)
        → cond b (f row.item) 0 + sum_by (at_key f 0 key) rows ≡ sum_by f (map (λ (r : Row). r.item) (cond b (row ∷ filter (has_key key) rows) (filter (has_key key) rows)))
    by true rest = ap (λ (n : ℕ). f row.item + n) rest ∙ sym (sum_by-cons f row.item (items_at key rows))
    by false rest = omega (arith, rest)

pub flat_at_key : {X : Type 0} (f : ItemData → List X) (key : Key) (rows : List Row) → flat_map (at_key f [] key) rows ≡ flat_map f (items_at key rows)
flat_at_key f key [] = refl
flat_at_key {X} f key (row ∷ rows) = by (has_key key row) (flat_at_key f key rows)
  where
    by : (b : Bool) → flat_map (at_key f [] key) rows ≡ flat_map f (items_at key rows)
        → cond b (f row.item) [] ++ flat_map (at_key f [] key) rows ≡ flat_map f (map (λ (r : Row). r.item) (cond b (row ∷ filter (has_key key) rows) (filter (has_key key) rows)))
    by true rest = ap (λ (xs : List X). f row.item ++ xs) rest
    by false rest = rest

-- ---- numbers

pub least_again : (o p : Option ℕ) (ns : List ℕ) → least (option_to_list (least (option_to_list o ++ option_to_list p)) ++ ns) ≡ least (option_to_list o ++ (option_to_list p ++ ns))
least_again None None ns = refl
least_again None (Some m) ns = refl
least_again (Some n) None ns = refl
least_again (Some n) (Some m) ns = refl

pub sum_again : (o p : Option ℕ) (ns : List ℕ) → sum_if_any (option_to_list (sum_if_any (option_to_list o ++ option_to_list p)) ++ ns) ≡ sum_if_any (option_to_list o ++ (option_to_list p ++ ns))
sum_again None None ns = refl
sum_again None (Some m) ns = ap (λ (k : ℕ). Some k) (again (m ∷ []) ns)
  where
    again : (ms ns : List ℕ) → bounded (sum_by (λ (k : ℕ). k) (bounded (sum_by (λ (k : ℕ). k) ms) ∷ ns)) ≡ bounded (sum_by (λ (k : ℕ). k) (ms ++ ns))
    again ms ns = omega (arith, sum_by-cons (λ (k : ℕ). k) (bounded (sum_by (λ (k : ℕ). k) ms)) ns, sum_by-append (λ (k : ℕ). k) ms ns)
sum_again (Some n) None ns = ap (λ (k : ℕ). Some k) (again (n ∷ []) ns)
  where
    again : (ms ns : List ℕ) → bounded (sum_by (λ (k : ℕ). k) (bounded (sum_by (λ (k : ℕ). k) ms) ∷ ns)) ≡ bounded (sum_by (λ (k : ℕ). k) (ms ++ ns))
    again ms ns = omega (arith, sum_by-cons (λ (k : ℕ). k) (bounded (sum_by (λ (k : ℕ). k) ms)) ns, sum_by-append (λ (k : ℕ). k) ms ns)
sum_again (Some n) (Some m) ns = ap (λ (k : ℕ). Some k) (again (n ∷ m ∷ []) ns)
  where
    again : (ms ns : List ℕ) → bounded (sum_by (λ (k : ℕ). k) (bounded (sum_by (λ (k : ℕ). k) ms) ∷ ns)) ≡ bounded (sum_by (λ (k : ℕ). k) (ms ++ ns))
    again ms ns = omega (arith, sum_by-cons (λ (k : ℕ). k) (bounded (sum_by (λ (k : ℕ). k) ms)) ns, sum_by-append (λ (k : ℕ). k) ms ns)

pub least_one : (o : Option ℕ) → least (option_to_list o ++ []) ≡ o
least_one None = refl
least_one (Some n) = refl

-- a sum is its own bounded sum
pub sum_own : (o p next : Option ℕ) → next ≡ sum_if_any (option_to_list o ++ option_to_list p) → sum_if_any (option_to_list next ++ []) ≡ next
sum_own o p next is_next =
    ap (λ (q : Option ℕ). sum_if_any (option_to_list q ++ [])) is_next ∙ sum_again o p []
    ∙ ap (λ (ns : List ℕ). sum_if_any (option_to_list o ++ ns)) (append-nil (option_to_list p)) ∙ sym is_next

-- ---- lists

pub filter_seen : {R : Type 0} (d : R → Row) (q : Row → Bool) (rs : List R) → map d (filter (λ r. q (d r)) rs) ≡ filter q (map d rs)
filter_seen d q [] = refl
filter_seen {R} d q (r ∷ rs) = by (q (d r)) (filter_seen d q rs)
  where
    by : (b : Bool) → map d (filter (λ r. q (d r)) rs) ≡ filter q (map d rs) → map d (cond b (r ∷ filter (λ r. q (d r)) rs) (filter (λ r. q (d r)) rs)) ≡ cond b (d r ∷ filter q (map d rs)) (filter q (map d rs))
    by true rest = ap (λ (xs : List Row). d r ∷ xs) rest
    by false rest = rest

-- the parts of a list that is seen as two joined lists
pub first_part : {R : Type 0} (d : R → Row) (rs : List R) (n : ℕ) (rows more : List Row) → map d rs ≡ rows ++ more → n ≡ length rows → map d (take n rs) ≡ rows
first_part d rs n rows more joined e = sym (take-map d n rs) ∙ ap (take n) joined ∙ take_at rows more n (sym e)

pub other_part : {R : Type 0} (d : R → Row) (rs : List R) (n : ℕ) (rows more : List Row) → map d rs ≡ rows ++ more → n ≡ length rows → map d (drop n rs) ≡ more
other_part d rs n rows more joined e = sym (drop-map d n rs) ∙ ap (drop n) joined ∙ drop_at rows more n (sym e)

-- a slice from an index on has all elements from there on
pub rest_whole : {R : Type 0} (rows : List R) (i : ℕ) → take (length rows - i) (drop i rows) ≡ drop i rows
rest_whole rows i = ap (take (length rows - i)) (sym (append-nil (drop i rows))) ∙ take_at (drop i rows) [] (length rows - i) (length-drop i rows)

-- ---- steps

module _ {R : Type 0} (d : R → Row) (rows : List R) (i : ℕ) where
  -- no row is left
  pub none_left : {Y : Type 0} (F : List R → Y) → length rows ≤ i → F (drop i rows) ≡ F []
  none_left F end = ap F (drop_all i rows end)

  module _ (row : R) (within : i < length rows) (is : row ≡ get_or rows i row) where
    pub one_left : drop i rows ≡ row ∷ drop (i + 1) rows
    one_left = drop_more rows i row within ∙ ap (λ (r : R). r ∷ drop (i + 1) rows) (sym is)

    pub sum_step : (f : Row → ℕ) (sum next whole : ℕ) → next ≡ bounded (sum + f (d row)) → bounded (sum + sum_by f (map d (drop i rows))) ≡ whole → bounded (next + sum_by f (map d (drop (i + 1) rows))) ≡ whole
    sum_step f sum next whole added before =
        let split : sum_by f (map d (drop i rows)) ≡ f (d row) + sum_by f (map d (drop (i + 1) rows)) =
        ap (λ (rs : List R). sum_by f (map d rs)) one_left ∙ sum_by-cons f (d row) (map d (drop (i + 1) rows)) in
        omega (arith, added, before, split)

    pub flat_step : {X Y : Type 0} (g : Row → List X) (F : List X → Y) (whole : Y) → F (flat_map g (map d (drop i rows))) ≡ whole → F (g (d row) ++ flat_map g (map d (drop (i + 1) rows))) ≡ whole
    flat_step g F whole before = sym (ap (λ (rs : List R). F (flat_map g (map d rs))) one_left) ∙ before

    pub least_start_step : (g : Row → List ℕ) (o said next whole : Option ℕ) → option_to_list said ≡ g (d row) → next ≡ least (option_to_list o ++ option_to_list said)
        → least (option_to_list o ++ flat_map g (map d (drop i rows))) ≡ whole → least (option_to_list next ++ flat_map g (map d (drop (i + 1) rows))) ≡ whole
    least_start_step g o said next whole says is_next before =
        let rest = flat_map g (map d (drop (i + 1) rows)) in
        ap (λ (p : Option ℕ). least (option_to_list p ++ rest)) is_next ∙ least_again o said rest
        ∙ ap (λ (ns : List ℕ). least (option_to_list o ++ (ns ++ rest))) says
        ∙ flat_step g (λ ns. least (option_to_list o ++ ns)) whole before

    pub sum_if_step : (g : Row → List ℕ) (o said next whole : Option ℕ) → option_to_list said ≡ g (d row) → next ≡ sum_if_any (option_to_list o ++ option_to_list said)
        → sum_if_any (option_to_list o ++ flat_map g (map d (drop i rows))) ≡ whole → sum_if_any (option_to_list next ++ flat_map g (map d (drop (i + 1) rows))) ≡ whole
    sum_if_step g o said next whole says is_next before =
        let rest = flat_map g (map d (drop (i + 1) rows)) in
        ap (λ (p : Option ℕ). sum_if_any (option_to_list p ++ rest)) is_next ∙ sum_again o said rest
        ∙ ap (λ (ns : List ℕ). sum_if_any (option_to_list o ++ (ns ++ rest))) says
        ∙ flat_step g (λ ns. sum_if_any (option_to_list o ++ ns)) whole before

    pub least_step : {X Y : Type 0} {cmp : X → X → Ordering} (f : X → Y) (other : Y → Y → Ordering) → ((a b : X) → cmp a b ≡ other (f a) (f b)) → (g : Row → List Y) (last o said next : Option X) (whole : Option Y)
        → option_to_list (option_map f said) ≡ g (d row) → next ≡ least_of cmp last o (option_to_list said)
        → least_of other (option_map f last) (option_map f o) (flat_map g (map d (drop i rows))) ≡ whole → least_of other (option_map f last) (option_map f next) (flat_map g (map d (drop (i + 1) rows))) ≡ whole
    least_step {X} {Y} {cmp} f other keeps g last o said next whole says is_next before =
        let rest = flat_map g (map d (drop (i + 1) rows)) in
        ap (λ (p : Option X). least_of other (option_map f last) (option_map f p) rest) is_next ∙ seen said rest
        ∙ ap (λ (ys : List Y). least_of other (option_map f last) (option_map f o) (ys ++ rest)) says
        ∙ flat_step g (least_of other (option_map f last) (option_map f o)) whole before
      where
        seen : (said : Option X) (rest : List Y) → least_of other (option_map f last) (option_map f (least_of cmp last o (option_to_list said))) rest ≡ least_of other (option_map f last) (option_map f o) (option_to_list (option_map f said) ++ rest)
        seen None rest = refl
        seen (Some x) rest = ap (λ (p : Option Y). least_of other (option_map f last) p rest) (lesser_seen f cmp other keeps last o x)

    pub least_line_step : {Y : Type 0} (cmp : Y → Y → Ordering) (g : Row → List Y) (last o said next whole : Option Y) → option_to_list said ≡ g (d row) → next ≡ least_of cmp last o (option_to_list said)
        → least_of cmp last o (flat_map g (map d (drop i rows))) ≡ whole → least_of cmp last next (flat_map g (map d (drop (i + 1) rows))) ≡ whole
    least_line_step {Y} cmp g last o said next whole says is_next before =
        let rest = flat_map g (map d (drop (i + 1) rows)) in
        ap (λ (p : Option Y). least_of cmp last p rest) is_next ∙ seen said rest
        ∙ ap (λ (ys : List Y). least_of cmp last o (ys ++ rest)) says
        ∙ flat_step g (least_of cmp last o) whole before
      where
        seen : (said : Option Y) (rest : List Y) → least_of cmp last (least_of cmp last o (option_to_list said)) rest ≡ least_of cmp last o (option_to_list said ++ rest)
        seen None rest = refl
        seen (Some x) rest = refl

-- ---- counted rows

pub count_few : (p : Row → Bool) (rows : List Row) → count_last p rows ≤ length rows
count_few p [] = omega arith
count_few p (row ∷ rows) = by (is_last_of p row rows) (count_few p rows)
  where
    by : (b : Bool) → count_last p rows ≤ length rows → cond b 1 0 + count_last p rows ≤ suc (length rows)
    by true few = omega (arith, few)
    by false few = omega (arith, few)
