-- The totals that a printed section states are those of its points, so none of its lines is odd.
use Rattle.std.proofs.Common.{◌≡◌, ℕ, Bool, true, false, not, List, [], ◌∷◌, ◌++◌, length, map, Option, Some, None, refl, sym, ap, ◌∙◌, eq-eqb}
use Rattle.std.specs.Prelude.{filter, count_by, nat_eq, nat_lt, ◌==◌, if◌then◌else◌, is_none}
use Rattle.std.specs.List.{flat_map, AllByRecursion}
use Rattle.std.specs.Str.{bytes_eq}
use Rattle.std.proofs.lemmas.Cmp.{nat_list_eq_equiv}
use Rattle.std.proofs.lemmas.List.{append-nil, length-map}
use Rattle.std.proofs.lemmas.List.Elements.{filter-append}
use Rattle.std.proofs.lemmas.List.Sums.{length-filter}
use Rattle.covdata.specs.declared.trace_line.TotalKind.{TotalKind}
use Rattle.covdata.specs.declared.trace_line.TotalKind.TheVariants.{FuncFound, FuncHit, BranchFound, BranchHit, LineFound, LineHit}
use Rattle.covdata.specs.Row.{ItemData, BranchItem}
use Rattle.covdata.specs.Records.{LineData, Total}
use Rattle.covdata.specs.Points.{BranchPoint, line_point, func_point, branch_point, is_hit}
use Rattle.covtable.specs.Value.{is_taken}
use Rattle.covread.specs.Reads.{items_of, distinct, branch_eq, own_total, is_odd}
use Rattle.covtable.specs.Content.{FunctionValueData, BranchValueData, LineValueData, SectionData}
use Rattle.covreport.specs.Report.{totals, totals_if_any, by_start, function_cmp, start_record, call_record, functions_hit, branch_record, branches_hit, line_record, lines_hit}
use Rattle.covlaws.specs.Printable.{start_item, call_item, branch_item, line_item, items_shown}
use Rattle.covtable.proofs.Members.{All-joined}
use Rattle.covlaws.proofs.Apart.{AreApart, all_more, all_mapped, always, distinct_apart, distinct_again, apart_kept, apart_mapped, length-sorted, count_by-sorted}
use Rattle.covlaws.proofs.MappedParts.{joined, none_in, each_in, kept_in, none_kept_in, dropped_in}
use Rattle.covlaws.proofs.ShownOrders.{HasPointsApart}
use Rattle.covlaws.proofs.ShownParts.{inside_of, function_totals, branch_totals, line_totals, starts_found, items_back}

-- ---- what the items shown give, part by part

module _ {A : Type 0} (f : ItemData → List A) (s : SectionData) (starts calls branches lines : List A) where
  pub shown_by_parts : flat_map f (map start_item (by_start s.functions)) ≡ starts → flat_map f (map call_item (by_start s.functions)) ≡ calls
      → flat_map f (map branch_item s.branches) ≡ branches → flat_map f (map line_item s.lines) ≡ lines
      → flat_map f (items_shown s) ≡ starts ++ (calls ++ (branches ++ lines))
  shown_by_parts a b c d = joined f _ _ starts (calls ++ (branches ++ lines)) a (joined f _ _ calls (branches ++ lines) b (joined f _ _ branches lines c d))

  hit_joined : (xs ys : List ItemData) (a b : List A) → flat_map f (filter is_hit xs) ≡ a → flat_map f (filter is_hit ys) ≡ b → flat_map f (filter is_hit (xs ++ ys)) ≡ a ++ b
  hit_joined xs ys a b x y = ap (flat_map f) (filter-append is_hit xs ys) ∙ joined f (filter is_hit xs) (filter is_hit ys) a b x y

  -- those of the items that are hit give what the hit items of the four parts give, in turn
  pub hit_by_parts : flat_map f (filter is_hit (map start_item (by_start s.functions))) ≡ starts → flat_map f (filter is_hit (map call_item (by_start s.functions))) ≡ calls
      → flat_map f (filter is_hit (map branch_item s.branches)) ≡ branches → flat_map f (filter is_hit (map line_item s.lines)) ≡ lines
      → flat_map f (filter is_hit (items_shown s)) ≡ starts ++ (calls ++ (branches ++ lines))
  hit_by_parts a b c d =
      hit_joined (map start_item (by_start s.functions)) (map call_item (by_start s.functions) ++ (map branch_item s.branches ++ map line_item s.lines)) starts (calls ++ (branches ++ lines)) a
      (hit_joined (map call_item (by_start s.functions)) (map branch_item s.branches ++ map line_item s.lines) calls (branches ++ lines) b
      (hit_joined (map branch_item s.branches) (map line_item s.lines) branches lines c d))

-- ---- how many different points there are

module _ {X Y : Type 0} (f : X → Y) (same : Y → Y → Bool) (xs : List X) (apart : AreApart (λ a b. same (f a) (f b)) xs) where
  all_counted : distinct same (map f xs) ≡ length xs
  all_counted = distinct_apart same (map f xs) (apart_mapped f same xs apart) ∙ length-map xs f

  kept_counted : (q : X → Bool) → distinct same (map f (filter q xs)) ≡ count_by q xs
  kept_counted q =
      distinct_apart same (map f (filter q xs)) (apart_mapped f same (filter q xs) (apart_kept (λ a b. same (f a) (f b)) q xs apart))
      ∙ length-map (filter q xs) f
      ∙ length-filter q xs

-- ---- functions

abbrev name_of : FunctionValueData → List ℕ
name_of f = f.name

abbrev is_called : FunctionValueData → Bool
is_called f = nat_lt 0 f.count

names_shown : (s : SectionData) → flat_map func_point (items_shown s) ≡ map name_of (by_start s.functions) ++ (map name_of (by_start s.functions) ++ [])
names_shown s =
    shown_by_parts func_point s _ _ [] []
    (each_in func_point start_item name_of (λ f. refl) (by_start s.functions))
    (each_in func_point call_item name_of (λ f. refl) (by_start s.functions))
    (none_in func_point branch_item (λ b. refl) s.branches)
    (none_in func_point line_item (λ l. refl) s.lines)

-- as many functions are found as are printed, although each has two items
functions_found : (s : SectionData) → HasPointsApart s → own_total FuncFound (items_shown s) ≡ length s.functions
functions_found s apart =
    ap (distinct bytes_eq) (names_shown s)
    ∙ ap (λ (l : List (List ℕ)). distinct bytes_eq (map name_of (by_start s.functions) ++ l)) (append-nil (map name_of (by_start s.functions)))
    ∙ distinct_again bytes_eq nat_list_eq_equiv (map name_of (by_start s.functions)) [] (map name_of (by_start s.functions)) refl
    ∙ all_counted name_of bytes_eq (by_start s.functions) apart.functions
    ∙ length-sorted function_cmp s.functions

-- the names of hit items are those of the functions with a count above 0, each once: an `FN:` line's item has the count 0
names_hit : (s : SectionData) → flat_map func_point (filter is_hit (items_shown s)) ≡ map name_of (filter is_called (by_start s.functions)) ++ []
names_hit s =
    hit_by_parts func_point s [] _ [] []
    (ap (flat_map func_point) (dropped_in is_hit start_item (λ f. refl) (by_start s.functions)))
    (kept_in is_hit func_point call_item is_called name_of (λ f. refl) (λ f. refl) (by_start s.functions))
    (none_kept_in is_hit func_point branch_item (λ b. refl) s.branches)
    (none_kept_in is_hit func_point line_item (λ l. refl) s.lines)

functions_called : (s : SectionData) → HasPointsApart s → own_total FuncHit (items_shown s) ≡ functions_hit s.functions
functions_called s apart =
    ap (distinct bytes_eq) (names_hit s ∙ append-nil (map name_of (filter is_called (by_start s.functions))))
    ∙ kept_counted name_of bytes_eq (by_start s.functions) apart.functions is_called
    ∙ count_by-sorted function_cmp is_called s.functions

-- ---- branches

abbrev point_of : BranchValueData → BranchPoint
point_of b = b.point

abbrev is_branch_taken : BranchValueData → Bool
is_branch_taken b = is_taken b.taken

branches_found : (s : SectionData) → HasPointsApart s → own_total BranchFound (items_shown s) ≡ length s.branches
branches_found s apart =
    ap (distinct branch_eq)
    (shown_by_parts branch_point s [] [] (map point_of s.branches) []
    (none_in branch_point start_item (λ f. refl) (by_start s.functions))
    (none_in branch_point call_item (λ f. refl) (by_start s.functions))
    (each_in branch_point branch_item point_of (λ b. refl) s.branches)
    (none_in branch_point line_item (λ l. refl) s.lines)
    ∙ append-nil (map point_of s.branches))
    ∙ all_counted point_of branch_eq s.branches apart.branches

hit_if_taken : (line block branch : ℕ) (taken : Option ℕ) → is_hit (BranchItem line block branch taken) ≡ is_taken taken
hit_if_taken line block branch None = refl
hit_if_taken line block branch (Some taken) = refl

branches_taken : (s : SectionData) → HasPointsApart s → own_total BranchHit (items_shown s) ≡ branches_hit s.branches
branches_taken s apart =
    ap (distinct branch_eq)
    (hit_by_parts branch_point s [] [] (map point_of (filter is_branch_taken s.branches)) []
    (none_kept_in is_hit branch_point start_item (λ f. refl) (by_start s.functions))
    (none_kept_in is_hit branch_point call_item (λ f. refl) (by_start s.functions))
    (kept_in is_hit branch_point branch_item is_branch_taken point_of (λ b. hit_if_taken b.point.line b.point.block b.point.branch b.taken) (λ b. refl) s.branches)
    (none_kept_in is_hit branch_point line_item (λ l. refl) s.lines)
    ∙ append-nil (map point_of (filter is_branch_taken s.branches)))
    ∙ kept_counted point_of branch_eq s.branches apart.branches is_branch_taken

-- ---- lines

abbrev number_of : LineValueData → ℕ
number_of l = l.line

abbrev is_run : LineValueData → Bool
is_run l = nat_lt 0 l.count

lines_found : (s : SectionData) → HasPointsApart s → own_total LineFound (items_shown s) ≡ length s.lines
lines_found s apart =
    ap (distinct nat_eq)
    (shown_by_parts line_point s [] [] [] (map number_of s.lines)
    (none_in line_point start_item (λ f. refl) (by_start s.functions))
    (none_in line_point call_item (λ f. refl) (by_start s.functions))
    (none_in line_point branch_item (λ b. refl) s.branches)
    (each_in line_point line_item number_of (λ l. refl) s.lines))
    ∙ all_counted number_of nat_eq s.lines apart.lines

lines_run : (s : SectionData) → HasPointsApart s → own_total LineHit (items_shown s) ≡ lines_hit s.lines
lines_run s apart =
    ap (distinct nat_eq)
    (hit_by_parts line_point s [] [] [] (map number_of (filter is_run s.lines))
    (none_kept_in is_hit line_point start_item (λ f. refl) (by_start s.functions))
    (none_kept_in is_hit line_point call_item (λ f. refl) (by_start s.functions))
    (none_kept_in is_hit line_point branch_item (λ b. refl) s.branches)
    (kept_in is_hit line_point line_item is_run number_of (λ l. refl) (λ l. refl) s.lines))
    ∙ kept_counted number_of nat_eq s.lines apart.lines is_run

-- ---- nothing is odd

pub all_if_any : (P : LineData → Type 0) (a b : TotalKind) (n m : ℕ) → P (Total a n) → P (Total b m) → AllByRecursion P (totals_if_any a b n m)
all_if_any P a b n m x y = by (n == 0)
  where
    by : (c : Bool) → AllByRecursion P (if c then [] else totals a b n m)
    by true = tt
    by false = (x, (y, tt))

-- what holds of the records of each part holds of all records inside a section
pub all_inside : (P : LineData → Type 0) (s : SectionData)
    → AllByRecursion P (map start_record (by_start s.functions)) → AllByRecursion P (map call_record (by_start s.functions)) → AllByRecursion P (function_totals s)
    → AllByRecursion P (map branch_record s.branches) → AllByRecursion P (branch_totals s)
    → AllByRecursion P (map line_record s.lines) → AllByRecursion P (line_totals s) → AllByRecursion P (inside_of s)
all_inside P s starts calls called branches taken lines run =
    All-joined P _ _ starts (All-joined P _ _ calls (All-joined P _ _ called (All-joined P _ _ branches (All-joined P _ _ taken (All-joined P _ _ lines run)))))

total_fits : (kind : TotalKind) (items : List ItemData) (value : ℕ) → own_total kind items ≡ value → not (value == own_total kind items) ≡ false
total_fits kind items value own = ap not (eq-eqb value (own_total kind items) (sym own))

-- a total isn't odd if it is the number that the section's items have
own_even : (s : SectionData) → HasPointsApart s → (kind : TotalKind) (value : ℕ) → own_total kind (items_shown s) ≡ value → is_odd (inside_of s) (Total kind value) ≡ false
own_even s apart kind value own = total_fits kind (items_of (inside_of s)) value (ap (own_total kind) (items_back s apart) ∙ own)

none_odd : (s : SectionData) → HasPointsApart s → AllByRecursion (λ says. is_odd (inside_of s) says ≡ false) (inside_of s)
none_odd s apart =
    all_inside _ s
    (all_mapped start_record _ (by_start s.functions) (always _ (λ f. refl) (by_start s.functions)))
    (all_mapped call_record _ (by_start s.functions) (all_more _ _ (λ f found. ap is_none found) (by_start s.functions) (starts_found s apart)))
    (all_if_any _ FuncFound FuncHit _ _ (own_even s apart FuncFound _ (functions_found s apart)) (own_even s apart FuncHit _ (functions_called s apart)))
    (all_mapped branch_record _ s.branches (always _ (λ b. refl) s.branches))
    (all_if_any _ BranchFound BranchHit _ _ (own_even s apart BranchFound _ (branches_found s apart)) (own_even s apart BranchHit _ (branches_taken s apart)))
    (all_mapped line_record _ s.lines (always _ (λ l. refl) s.lines))
    (own_even s apart LineFound _ (lines_found s apart), (own_even s apart LineHit _ (lines_run s apart), tt))

none_passes : {X : Type 0} (p : X → Bool) (xs : List X) → AllByRecursion (λ x. p x ≡ false) xs → filter p xs ≡ []
none_passes p [] none = refl
none_passes p (x ∷ xs) none = ap (λ b. if b then x ∷ filter p xs else filter p xs) none.0 ∙ none_passes p xs none.1

-- no record that is printed inside a section is odd
pub odd_back : (s : SectionData) → HasPointsApart s → count_by (is_odd (inside_of s)) (inside_of s) ≡ 0
odd_back s apart = sym (length-filter (is_odd (inside_of s)) (inside_of s)) ∙ ap length (none_passes (is_odd (inside_of s)) (inside_of s) (none_odd s apart))
