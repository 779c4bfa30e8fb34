-- The functions of a section, one record after another, and how many it has.
use Rattle.std.proofs.Common.{◌≡◌, ℕ, nat_lt, Bool, true, false, cond, ◌||◌, List, [], ◌∷◌, ◌++◌, map, Option, None, Some, refl, sym, ap, ◌∙◌, arith, min}
use Rattle.std.specs.Prelude.{is_some, option_map}
use Rattle.std.specs.BTreeMap.{BTreeMap, btree_map_len, IsOrdered, UpdatesBy, is_at}
use Rattle.std.specs.Cmp.Lexicographic.{slice_cmp}
use Rattle.std.specs.List.{flat_map, list_any}
use Rattle.std.specs.Map.{keys_of}
use Rattle.std.specs.Ordering.{nat_cmp, eq_by_cmp}
use Rattle.std.specs.Str.{bytes_eq}
use Rattle.std.specs.declared.cmp.Ordering.{Ordering}
use denote.Ref.{Bor}
use Rattle.std.proofs.lemmas.Bool.Decides.{nat_tests}
use Rattle.std.proofs.lemmas.Cmp.{eq_by_cmp_equiv, on_total, nat_list_cmp_total, nat_list_eq_equiv}
use Rattle.std.proofs.lemmas.List.{append-nil}
use Rattle.std.proofs.lemmas.List.Concat.{flat_map-append}
use Rattle.std.proofs.lemmas.List.Folds.{list_any-append}
use Rattle.std.proofs.lemmas.List.Sums.{fold-append}
use Rattle.std.proofs.lemmas.Map.Entries.{length-keys_of}
use Rattle.std.proofs.lemmas.Map.Keys.{IsDistinct-from_sorted}
use Rattle.std.proofs.lemmas.Map.Made.{is_some-lookup, length-from_keys}
use Rattle.std.proofs.lemmas.Map.Text.{btree_map_updates_str, is_eq-slice_cmp}
use Rattle.std.proofs.lemmas.Slice.Eq.{bytes_eq-Decides}
use Rattle.covdata.specs.Points.{func_points, func_point, least}
use Rattle.covdata.specs.Records.{LineData, Test, Path, FuncStart, FuncCount, Branch, Line, Total, End, Skip}
use Rattle.covread.specs.declared.trace.functions.Function.{Function}
use Rattle.covread.specs.Reads.{distinct, start_said, start_in, counted, items_said, items_of}
use Rattle.covread.specs.TraceFunctions.{function_at, known, named, AreFunctions}
use Rattle.covread.proofs.TraceDistinct.{distinct_is_count, distinct_on, list_any_on, list_any_push}

-- ---- one more start line

-- a start line, or the least one so far, if that is less
abbrev pub sooner : ℕ → Option ℕ → ℕ
sooner line None = line
sooner line (Some other) = min other line

least_push : (xs : List ℕ) (y : ℕ) → least (xs ++ y ∷ []) ≡ Some (sooner y (least xs))
least_push [] y = refl
least_push (x ∷ xs) y = ap Some (fold-append min x xs (y ∷ []))

start_push : (name : List ℕ) (records : List LineData) (r : LineData) → start_in name (records ++ r ∷ []) ≡ least (flat_map (start_said name) records ++ start_said name r)
start_push name records r = ap least (flat_map-append (start_said name) records (r ∷ []) ∙ ap (λ xs. flat_map (start_said name) records ++ xs) (append-nil (start_said name r)))

-- a record that gives a function no start line doesn't change the function's least one
pub start_same : (name : List ℕ) (records : List LineData) (r : LineData) → start_said name r ≡ [] → start_in name (records ++ r ∷ []) ≡ start_in name records
start_same name records r none = start_push name records r ∙ ap (λ xs. least (flat_map (start_said name) records ++ xs)) none ∙ ap least (append-nil (flat_map (start_said name) records))

start_here : (name : List ℕ) (records : List LineData) (line : ℕ) (other : List ℕ) → bytes_eq other name ≡ true → start_in name (records ++ FuncStart line other ∷ []) ≡ least (flat_map (start_said name) records ++ line ∷ [])
start_here name records line other e = start_push name records (FuncStart line other) ∙ ap (λ b. least (flat_map (start_said name) records ++ cond b (line ∷ []) [])) e

bytes_eq_flips : (a b : List ℕ) → bytes_eq a b ≡ bytes_eq b a
bytes_eq_flips = nat_list_eq_equiv.symm

pub or_false : (b : Bool) → (b || false) ≡ b
or_false true = refl
or_false false = refl

start_of : (names : List (List ℕ)) (name : List ℕ) (o : Option ℕ) → option_map (λ (f : Function). f.start) (option_map (known names name) o) ≡ o
start_of names name None = refl
start_of names name (Some line) = refl

-- the new map has this function at the name, and what the old map had at all other names
abbrev pub Puts : BTreeMap (Bor (List ℕ)) Function → BTreeMap (Bor (List ℕ)) Function → List ℕ → Function → Type 0
Puts old new name f = (q : List ℕ) → function_at new q ≡ cond (bytes_eq name q) (Some f) (function_at old q)

-- the map is right after one more start line, if it has the least one for this function
pub start_taken : (old new : BTreeMap (Bor (List ℕ)) Function) (records : List LineData) (line : ℕ) (name : List ℕ) (f : Function) → f.start ≡ sooner line (option_map (λ (g : Function). g.start) (function_at old name)) → f.is_hit ≡ false
    → Puts old new name f → AreFunctions old (λ other. start_in other records) [] → AreFunctions new (λ other. start_in other (records ++ FuncStart line name ∷ [])) []
start_taken old new records line name f start unhit puts h = record { at = λ q. by q (bytes_eq name q) refl }
  where
    by : (q : List ℕ) (b : Bool) → bytes_eq name q ≡ b → function_at new q ≡ option_map (known [] q) (start_in q (records ++ FuncStart line name ∷ []))
    by q true e =
        let same : name ≡ q = (bytes_eq-Decides name q).0 e in
        let was : option_map (λ (g : Function). g.start) (function_at old name) ≡ start_in q records = ap (λ (n : List ℕ). option_map (λ (g : Function). g.start) (function_at old n)) same ∙ ap (option_map (λ (g : Function). g.start)) (h.at q) ∙ start_of [] q (start_in q records) in
        let now : f.start ≡ sooner line (start_in q records) = start ∙ ap (sooner line) was in
        let first : f ≡ record { start = sooner line (start_in q records); is_hit = f.is_hit } = ap (λ (n : ℕ). let g : Function = record { start = n; is_hit = f.is_hit } in g) now in
        let second : record { start = sooner line (start_in q records); is_hit = f.is_hit } ≡ record { start = sooner line (start_in q records); is_hit = false } = ap (λ (b : Bool). let g : Function = record { start = sooner line (start_in q records); is_hit = b } in g) unhit in
        puts q ∙ ap (λ (b : Bool). cond b (Some f) (function_at old q)) e ∙ ap Some (first ∙ second)
        ∙ sym (ap (option_map (known [] q)) (start_here q records line name e ∙ least_push (flat_map (start_said q) records) line))
    by q false e =
        puts q ∙ ap (λ (b : Bool). cond b (Some f) (function_at old q)) e ∙ h.at q
        ∙ sym (ap (option_map (known [] q)) (start_same q records (FuncStart line name) (ap (λ (b : Bool). cond b (line ∷ []) []) e)))

-- a function with this start line and without a count
abbrev first_at : ℕ → Function
first_at line = record { start = line; is_hit = false }

-- the new map is the old one after this function was inserted under the name
abbrev Inserts : BTreeMap (Bor (List ℕ)) Function → BTreeMap (Bor (List ℕ)) Function → List ℕ → Function → Type 0
Inserts old new name f = UpdatesBy (λ x y. slice_cmp nat_cmp x.now y.now) (λ k. slice_cmp nat_cmp name k.now) old new (Some f)

-- a start line is taken right if the function had none
pub start_alone : (old new : BTreeMap (Bor (List ℕ)) Function) (records : List LineData) (line : ℕ) (name : List ℕ) → None ≡ function_at old name → Inserts old new name (first_at line)
    → AreFunctions old (λ other. start_in other records) [] → AreFunctions new (λ other. start_in other (records ++ FuncStart line name ∷ [])) []
start_alone old new records line name none inserts h =
    start_taken old new records line name (first_at line) (ap (λ (o : Option Function). sooner line (option_map (λ (g : Function). g.start) o)) none) refl (λ q. btree_map_updates_str name old new (Some (first_at line)) inserts q) h

-- likewise, if the least start line so far isn't less than this one, which replaces it
pub start_first : (old new : BTreeMap (Bor (List ℕ)) Function) (records : List LineData) (line : ℕ) (name : List ℕ) (g : Function) → Some g ≡ function_at old name → nat_lt g.start line ≡ false → Inserts old new name (first_at line)
    → AreFunctions old (λ other. start_in other records) [] → AreFunctions new (λ other. start_in other (records ++ FuncStart line name ∷ [])) []
start_first old new records line name g was late inserts h =
    let least : line ≡ min g.start line = grind (arith, nat_tests) in
    start_taken old new records line name (first_at line) (least ∙ ap (λ (o : Option Function). sooner line (option_map (λ (f : Function). f.start) o)) was) refl
    (λ q. btree_map_updates_str name old new (Some (first_at line)) inserts q) h

-- likewise, if the least start line so far is less than this one, and is put back in its place
pub start_again : (old mid new : BTreeMap (Bor (List ℕ)) Function) (records : List LineData) (line : ℕ) (name : List ℕ) (g : Function) → Some g ≡ function_at old name → nat_lt g.start line ≡ true → Inserts old mid name (first_at line)
    → Inserts mid new name g → AreFunctions old (λ other. start_in other records) [] → AreFunctions new (λ other. start_in other (records ++ FuncStart line name ∷ [])) []
start_again old mid new records line name g was early first back h =
    start_taken old new records line name g (least ∙ ap (λ (o : Option Function). sooner line (option_map (λ (f : Function). f.start) o)) was) (unhit (start_in name records) (sym (h.at name) ∙ sym was))
    (λ q. btree_map_updates_str name mid new (Some g) back q ∙ ap (cond (bytes_eq name q) (Some g)) (btree_map_updates_str name old mid (Some (first_at line)) first q) ∙ twice (bytes_eq name q) (function_at old q)) h
  where
    least : g.start ≡ min g.start line
    least = grind (arith, nat_tests)

    unhit : (o : Option ℕ) → option_map (known [] name) o ≡ Some g → g.is_hit ≡ false
    unhit None e = absurd (cc)
    unhit (Some start) e = let k : known [] name start ≡ g = cc in ap (λ (f : Function). f.is_hit) (sym k)

    twice : (b : Bool) (o : Option Function) → cond b (Some g) (cond b (Some (first_at line)) o) ≡ cond b (Some g) o
    twice true o = refl
    twice false o = refl

-- the functions stay right if a record gives no start line
pub starts_same : (functions : BTreeMap (Bor (List ℕ)) Function) (records : List LineData) (r : LineData) → ((name : List ℕ) → start_said name r ≡ []) → AreFunctions functions (λ name. start_in name records) []
    → AreFunctions functions (λ name. start_in name (records ++ r ∷ [])) []
starts_same functions records r none h = record { at = λ q. h.at q ∙ sym (ap (option_map (known [] q)) (start_same q records r (none q))) }

-- ---- one more count

pub or_true : (b : Bool) → (b || true) ≡ true
or_true true = refl
or_true false = refl

itself : (name : List ℕ) → bytes_eq name name ≡ true
itself name = nat_list_eq_equiv.refl name

hit_here : (names : List (List ℕ)) (name : List ℕ) (b : Bool) (line : ℕ) → list_any (bytes_eq name) (names ++ named name b (Some line)) ≡ (list_any (bytes_eq name) names || b)
hit_here names name true line = list_any_push (bytes_eq name) names name ∙ ap (λ (b : Bool). list_any (bytes_eq name) names || b) (itself name)
hit_here names name false line = ap (list_any (bytes_eq name)) (append-nil names) ∙ sym (or_false (list_any (bytes_eq name) names))

hit_elsewhere : (names : List (List ℕ)) (name q : List ℕ) (b : Bool) (start : Option ℕ) → bytes_eq name q ≡ false → list_any (bytes_eq q) (names ++ named name b start) ≡ list_any (bytes_eq q) names
hit_elsewhere names name q true (Some line) e =
    list_any_push (bytes_eq q) names name ∙ ap (λ (b : Bool). list_any (bytes_eq q) names || b) (bytes_eq_flips q name ∙ e) ∙ or_false (list_any (bytes_eq q) names)
hit_elsewhere names name q true None e = ap (list_any (bytes_eq q)) (append-nil names)
hit_elsewhere names name q false start e = ap (list_any (bytes_eq q)) (append-nil names)

-- the map is right after one more count, if the function keeps its start line, and is hit exactly if it was hit before or this
-- count is above 0
pub count_taken : (old new : BTreeMap (Bor (List ℕ)) Function) (starts : List ℕ → Option ℕ) (names : List (List ℕ)) (name : List ℕ) (b : Bool) (was now : Function) → function_at old name ≡ Some was → now.start ≡ was.start → now.is_hit ≡ (was.is_hit || b)
    → Puts old new name now → AreFunctions old starts names → AreFunctions new starts (names ++ named name b (starts name))
count_taken old new starts names name b was now there start hit puts h = record { at = λ q. by q (bytes_eq name q) refl }
  where
    some : (line : Option ℕ) → starts name ≡ line → option_map (known names name) line ≡ Some was → Some now ≡ option_map (known (names ++ named name b (starts name)) name) (starts name)
    some None e k = absurd (cc)
    some (Some line) e k =
        let known_is : known names name line ≡ was = cc in
        let first : now ≡ record { start = line; is_hit = now.is_hit } = ap (λ (n : ℕ). let g : Function = record { start = n; is_hit = now.is_hit } in g) (start ∙ ap (λ (f : Function). f.start) (sym known_is)) in
        let second : record { start = line; is_hit = now.is_hit } ≡ known (names ++ named name b (Some line)) name line =
        ap (λ (c : Bool). let g : Function = record { start = line; is_hit = c } in g) (hit ∙ ap (λ (f : Function). f.is_hit || b) (sym known_is) ∙ sym (hit_here names name b line)) in
        ap Some (first ∙ second) ∙ sym (ap (λ (o : Option ℕ). option_map (known (names ++ named name b o) name) o) e)

    by : (q : List ℕ) (c : Bool) → bytes_eq name q ≡ c → function_at new q ≡ option_map (known (names ++ named name b (starts name)) q) (starts q)
    by q true e =
        let same : name ≡ q = (bytes_eq-Decides name q).0 e in
        puts q ∙ ap (λ (c : Bool). cond c (Some now) (function_at old q)) e ∙ some (starts name) refl (sym (h.at name) ∙ there)
        ∙ ap (λ (n : List ℕ). option_map (known (names ++ named name b (starts name)) n) (starts n)) same
    by q false e =
        puts q ∙ ap (λ (c : Bool). cond c (Some now) (function_at old q)) e ∙ h.at q ∙ others (starts q)
      where
        others : (o : Option ℕ) → option_map (known names q) o ≡ option_map (known (names ++ named name b (starts name)) q) o
        others None = refl
        others (Some line) = ap (λ (c : Bool). let g : Option Function = Some (record { start = line; is_hit = c }) in g) (sym (hit_elsewhere names name q b (starts name) e))

-- the functions stay right after a count of a function without a start line
pub count_alone : (functions : BTreeMap (Bor (List ℕ)) Function) (starts : List ℕ → Option ℕ) (names : List (List ℕ)) (name : List ℕ) (b : Bool) → starts name ≡ None → AreFunctions functions starts names → AreFunctions functions starts (names ++ named name b (starts name))
count_alone functions starts names name b none h = record { at = λ q. h.at q ∙ ap (λ (ns : List (List ℕ)). option_map (known ns q) (starts q)) (sym (ap (λ (o : Option ℕ). names ++ named name b o) none ∙ nothing b)) }
  where
    nothing : (b : Bool) → names ++ named name b None ≡ names
    nothing true = append-nil names
    nothing false = append-nil names

pub none_from : (functions : BTreeMap (Bor (List ℕ)) Function) (starts : List ℕ → Option ℕ) (names : List (List ℕ)) (name : List ℕ) → AreFunctions functions starts names → function_at functions name ≡ None → starts name ≡ None
none_from functions starts names name h e = by (starts name) (sym (h.at name) ∙ e)
  where
    by : (o : Option ℕ) → option_map (known names name) o ≡ None → o ≡ None
    by None k = refl
    by (Some line) k = absurd (cc)

-- ---- the functions that a section has

-- the record gives a start line to the function
abbrev gives : List ℕ → LineData → Bool
gives name (FuncStart line other) = bytes_eq other name
gives name (FuncCount count other) = false
gives name (Branch line block branch taken) = false
gives name (Line line count checksum) = false
gives name (Total kind value) = false
gives name (Test other) = false
gives name (Path path) = false
gives name End = false
gives name Skip = false

some_step : (line : ℕ) (b : Bool) (starts : List ℕ) (later : Bool) → is_some (least starts) ≡ later → is_some (least (cond b (line ∷ []) [] ++ starts)) ≡ (b || later)
some_step line true starts later h = refl
some_step line false starts later h = h

some_start : (name : List ℕ) (records : List LineData) → is_some (start_in name records) ≡ list_any (gives name) records
some_start name [] = refl
some_start name (FuncStart line other ∷ rs) = some_step line (bytes_eq other name) (flat_map (start_said name) rs) (list_any (gives name) rs) (some_start name rs)
some_start name (FuncCount count other ∷ rs) = some_start name rs
some_start name (Branch line block branch taken ∷ rs) = some_start name rs
some_start name (Line line count checksum ∷ rs) = some_start name rs
some_start name (Total kind value ∷ rs) = some_start name rs
some_start name (Test other ∷ rs) = some_start name rs
some_start name (Path path ∷ rs) = some_start name rs
some_start name (End ∷ rs) = some_start name rs
some_start name (Skip ∷ rs) = some_start name rs

-- one of the record's items is of this function
abbrev has_item_of : List LineData → List ℕ → LineData → Bool
has_item_of inside name r = list_any (bytes_eq name) (func_points (items_said inside r))

speaks_cons : (inside : List LineData) (name : List ℕ) (r : LineData) (rs : List LineData) → list_any (bytes_eq name) (func_points (flat_map (items_said inside) (r ∷ rs))) ≡ (has_item_of inside name r || list_any (bytes_eq name) (func_points (flat_map (items_said inside) rs)))
speaks_cons inside name r rs = ap (list_any (bytes_eq name)) (flat_map-append func_point (items_said inside r) (flat_map (items_said inside) rs)) ∙ list_any-append (bytes_eq name) (func_points (items_said inside r)) (func_points (flat_map (items_said inside) rs))

any_speaks : (inside : List LineData) (name : List ℕ) (rs : List LineData) → list_any (bytes_eq name) (func_points (flat_map (items_said inside) rs)) ≡ list_any (has_item_of inside name) rs
any_speaks inside name [] = refl
any_speaks inside name (r ∷ rs) = speaks_cons inside name r rs ∙ ap (λ b. has_item_of inside name r || b) (any_speaks inside name rs)

-- a record that gives a function a start line has an item of this function
gives_speaks : (inside : List LineData) (name : List ℕ) (r : LineData) → gives name r ≡ true → has_item_of inside name r ≡ true
gives_speaks inside name (FuncStart line other) h = or_false (bytes_eq name other) ∙ bytes_eq_flips name other ∙ h
gives_speaks inside name (FuncCount count other) h = absurd (cc)
gives_speaks inside name (Branch line block branch taken) h = absurd (cc)
gives_speaks inside name (Line line count checksum) h = absurd (cc)
gives_speaks inside name (Total kind value) h = absurd (cc)
gives_speaks inside name (Test other) h = absurd (cc)
gives_speaks inside name (Path path) h = absurd (cc)
gives_speaks inside name End h = absurd (cc)
gives_speaks inside name Skip h = absurd (cc)

counted_speaks : (inside : List LineData) (name other : List ℕ) (count : ℕ) (start : Option ℕ) → start_in other inside ≡ start → list_any (bytes_eq name) (func_points (counted other count start)) ≡ true → is_some (start_in name inside) ≡ true
counted_speaks inside name other count None e h = absurd (cc)
counted_speaks inside name other count (Some line) e h =
    let same : name ≡ other = (bytes_eq-Decides name other).0 (sym (or_false (bytes_eq name other)) ∙ h) in
    ap (λ (n : List ℕ). is_some (start_in n inside)) same ∙ ap is_some e

speaks_gives : (inside : List LineData) (name : List ℕ) (r : LineData) → has_item_of inside name r ≡ true → (gives name r || is_some (start_in name inside)) ≡ true
speaks_gives inside name (FuncStart line other) h = ap (λ (b : Bool). b || is_some (start_in name inside)) (bytes_eq_flips other name ∙ sym (or_false (bytes_eq name other)) ∙ h)
speaks_gives inside name (FuncCount count other) h = counted_speaks inside name other count (start_in other inside) refl h
speaks_gives inside name (Branch line block branch taken) h = absurd (cc)
speaks_gives inside name (Line line count checksum) h = absurd (cc)
speaks_gives inside name (Total kind value) h = absurd (cc)
speaks_gives inside name (Test other) h = absurd (cc)
speaks_gives inside name (Path path) h = absurd (cc)
speaks_gives inside name End h = absurd (cc)
speaks_gives inside name Skip h = absurd (cc)

or_last : (a b : Bool) → b ≡ true → (a || b) ≡ true
or_last true b h = refl
or_last false b h = h

or_both : (a b c d : Bool) → (a ≡ true → c ≡ true) → (b ≡ true → d ≡ true) → (a || b) ≡ true → (c || d) ≡ true
or_both true b c d f g h = ap (λ (x : Bool). x || d) (f refl)
or_both false b c d f g h = or_last c d (g h)

or_else : (a b c d e : Bool) → (a ≡ true → (c || e) ≡ true) → (b ≡ true → (d || e) ≡ true) → (a || b) ≡ true → ((c || d) || e) ≡ true
or_else true b true d e f g h = refl
or_else true b false d e f g h = or_last d e (f refl)
or_else false b true d e f g h = refl
or_else false b false d e f g h = g h

or_same : (a : Bool) → (a || a) ≡ true → a ≡ true
or_same true h = refl
or_same false h = h

any_gives_speaks : (inside : List LineData) (name : List ℕ) (rs : List LineData) → list_any (gives name) rs ≡ true → list_any (has_item_of inside name) rs ≡ true
any_gives_speaks inside name [] h = h
any_gives_speaks inside name (r ∷ rs) h = or_both (gives name r) (list_any (gives name) rs) (has_item_of inside name r) (list_any (has_item_of inside name) rs) (gives_speaks inside name r) (any_gives_speaks inside name rs) h

any_speaks_gives : (inside : List LineData) (name : List ℕ) (rs : List LineData) → list_any (has_item_of inside name) rs ≡ true → (list_any (gives name) rs || is_some (start_in name inside)) ≡ true
any_speaks_gives inside name [] h = absurd (cc)
any_speaks_gives inside name (r ∷ rs) h = or_else (has_item_of inside name r) (list_any (has_item_of inside name) rs) (gives name r) (list_any (gives name) rs) (is_some (start_in name inside)) (speaks_gives inside name r) (any_speaks_gives inside name rs) h

eq_from_both : (a b : Bool) → (a ≡ true → b ≡ true) → (b ≡ true → a ≡ true) → a ≡ b
eq_from_both true b f g = sym (f refl)
eq_from_both false true f g = g refl
eq_from_both false false f g = refl

-- a function has a start line in the section exactly if some item of the section is of this function
pub named_is : (inside : List LineData) (name : List ℕ) → is_some (start_in name inside) ≡ list_any (bytes_eq name) (func_points (items_of inside))
named_is inside name =
    let given = list_any (gives name) inside in
    let back : list_any (has_item_of inside name) inside ≡ true → given ≡ true = λ h. or_same given (ap (λ (b : Bool). given || b) (sym (some_start name inside)) ∙ any_speaks_gives inside name inside h) in
    some_start name inside ∙ eq_from_both given (list_any (has_item_of inside name) inside) (any_gives_speaks inside name inside) back ∙ sym (any_speaks inside name inside)

-- ---- how many functions the map has

abbrev name_cmp : Bor (List ℕ) → Bor (List ℕ) → Ordering
name_cmp x y = slice_cmp nat_cmp x.now y.now

abbrev as_key : List ℕ → Bor (List ℕ)
as_key name = record { ref_ptr = (0, 0); now = name }

some_known : (o : Option ℕ) (q : List ℕ) → (names : List (List ℕ)) → is_some (option_map (known names q) o) ≡ is_some o
some_known None q names = refl
some_known (Some line) q names = refl

pub found_is : (starts : BTreeMap (Bor (List ℕ)) Function) (names : List (List ℕ)) (inside : List LineData) → AreFunctions starts (λ name. start_in name inside) names → IsOrdered (λ x y. slice_cmp nat_cmp x.now y.now) starts → btree_map_len starts ≡ distinct bytes_eq (func_points (items_of inside))
found_is starts names inside h ordered =
    let seen = func_points (items_of inside) in
    let laws = eq_by_cmp_equiv (on_total (λ (k : Bor (List ℕ)). k.now) nat_list_cmp_total) in
    sym (length-keys_of starts.entries)
    ∙ length-from_keys laws (keys_of starts.entries) (map as_key seen) (IsDistinct-from_sorted name_cmp (keys_of starts.entries) ordered)
    (λ q. sym (is_some-lookup (is_at (name_cmp q)) starts.entries) ∙ ap is_some (h.at q.now) ∙ some_known (start_in q.now inside) q.now names ∙ named_is inside q.now ∙ sym (list_any_on as_key (eq_by_cmp name_cmp q) (bytes_eq q.now) (λ x. is_eq-slice_cmp q.now x) seen))
    ∙ sym (distinct_is_count (eq_by_cmp name_cmp) (map as_key seen))
    ∙ distinct_on as_key (eq_by_cmp name_cmp) bytes_eq is_eq-slice_cmp seen
