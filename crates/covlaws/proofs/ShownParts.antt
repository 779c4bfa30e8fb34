-- The records that a printed section has between its path and its end, and the items that they are read as.
use Rattle.std.proofs.Common.{◌≡◌, ℕ, Bool, true, false, cond, List, [], ◌∷◌, ◌++◌, length, map, Some, refl, ap, ◌∙◌}
use Rattle.std.specs.Prelude.{◌==◌, if◌then◌else◌}
use Rattle.std.specs.List.{flat_map, AllByRecursion}
use Rattle.std.specs.Str.{bytes_eq}
use Rattle.std.proofs.lemmas.Cmp.{nat_list_eq_equiv}
use Rattle.std.proofs.lemmas.List.{append-nil}
use Rattle.covdata.specs.declared.trace_line.TotalKind.{TotalKind}
use Rattle.covdata.specs.declared.trace_line.TotalKind.TheVariants.{FuncFound, FuncHit, BranchFound, BranchHit, LineFound, LineHit}
use Rattle.covdata.specs.Records.{LineData, Total}
use Rattle.covdata.specs.Points.{least}
use Rattle.covread.specs.Reads.{start_said, start_in, counted, items_said, items_of}
use Rattle.covtable.specs.Content.{FunctionValueData, SectionData}
use Rattle.covreport.specs.Report.{totals, totals_if_any, by_start, start_record, call_record, functions_hit, branch_record, branches_hit, line_record, lines_hit}
use Rattle.covlaws.specs.Printable.{start_item, call_item, branch_item, line_item, items_shown}
use Rattle.covlaws.proofs.Apart.{AreApart, all_zip, all_more}
use Rattle.covlaws.proofs.MappedParts.{joined, none_in, none_among, each_in, each_among}
use Rattle.covlaws.proofs.ShownOrders.{same_name, HasPointsApart}

-- the records with the totals of a section's functions
abbrev pub function_totals : SectionData → List LineData
function_totals s = totals_if_any FuncFound FuncHit (length s.functions) (functions_hit s.functions)

abbrev pub branch_totals : SectionData → List LineData
branch_totals s = totals_if_any BranchFound BranchHit (length s.branches) (branches_hit s.branches)

abbrev pub line_totals : SectionData → List LineData
line_totals s = totals LineFound LineHit (length s.lines) (lines_hit s.lines)

-- the records that a printed section has between its path and its end
abbrev pub inside_of : SectionData → List LineData
inside_of s =
    map start_record (by_start s.functions) ++ (map call_record (by_start s.functions) ++ (function_totals s
    ++ (map branch_record s.branches ++ (branch_totals s ++ (map line_record s.lines ++ line_totals s)))))

-- ---- what `flat_map f` gives of these records

module _ {A : Type 0} (f : LineData → List A) (none : (kind : TotalKind) (value : ℕ) → f (Total kind value) ≡ []) where
  -- records of totals give nothing
  none_totals : (a b : TotalKind) (n m : ℕ) → flat_map f (totals a b n m) ≡ []
  none_totals a b n m = ap (λ (l : List A). l ++ (f (Total b m) ++ [])) (none a n) ∙ ap (λ (l : List A). l ++ []) (none b m)

  none_if_any : (a b : TotalKind) (n m : ℕ) → flat_map f (totals_if_any a b n m) ≡ []
  none_if_any a b n m = by (n == 0)
    where
      by : (c : Bool) → flat_map f (if c then [] else totals a b n m) ≡ []
      by true = refl
      by false = none_totals a b n m

  -- a section's records give what their four parts other than totals give, in turn
  pub by_parts : (s : SectionData) (starts calls branches lines : List A)
      → flat_map f (map start_record (by_start s.functions)) ≡ starts → flat_map f (map call_record (by_start s.functions)) ≡ calls
      → flat_map f (map branch_record s.branches) ≡ branches → flat_map f (map line_record s.lines) ≡ lines
      → flat_map f (inside_of s) ≡ starts ++ (calls ++ (branches ++ lines))
  by_parts s starts calls branches lines a b c d =
      joined f _ _ starts (calls ++ (branches ++ lines)) a
      (joined f _ _ calls (branches ++ lines) b
      (joined f _ _ [] (branches ++ lines) (none_if_any FuncFound FuncHit (length s.functions) (functions_hit s.functions))
      (joined f _ _ branches lines c
      (joined f _ _ [] lines (none_if_any BranchFound BranchHit (length s.branches) (branches_hit s.branches))
      (joined f _ _ lines [] d (none_totals LineFound LineHit (length s.lines) (lines_hit s.lines)) ∙ append-nil lines)))))

-- ---- start lines

chosen : (b : Bool) (line : ℕ) → b ≡ false → (if b then line ∷ [] else []) ≡ []
chosen b line e = ap (λ (c : Bool). cond c (line ∷ []) []) e

-- if no two functions have the same name, their start records say one start line for each name
own_starts : (fs : List FunctionValueData) → AreApart same_name fs → AllByRecursion (λ f. flat_map (start_said f.name) (map start_record fs) ≡ f.line ∷ []) fs
own_starts [] apart = tt
own_starts (f ∷ fs) apart = (first, all_zip _ _ _ later fs apart.0 (own_starts fs apart.1))
  where
    none : flat_map (start_said f.name) (map start_record fs) ≡ []
    none = none_among (start_said f.name) start_record fs
        (all_more _ _ (λ g differ. chosen (bytes_eq g.name f.name) g.line (nat_list_eq_equiv.symm g.name f.name ∙ differ)) fs apart.0)

    first : flat_map (start_said f.name) (map start_record (f ∷ fs)) ≡ f.line ∷ []
    first =
        ap (λ (b : Bool). cond b (f.line ∷ []) [] ++ flat_map (start_said f.name) (map start_record fs)) (nat_list_eq_equiv.refl f.name)
        ∙ ap (λ (l : List ℕ). f.line ∷ l) none

    later : (g : FunctionValueData) → bytes_eq f.name g.name ≡ false → flat_map (start_said g.name) (map start_record fs) ≡ g.line ∷ []
        → flat_map (start_said g.name) (map start_record (f ∷ fs)) ≡ g.line ∷ []
    later g differ rest = ap (λ (l : List ℕ). l ++ flat_map (start_said g.name) (map start_record fs)) (chosen (bytes_eq f.name g.name) f.line differ) ∙ rest

starts_inside : (s : SectionData) (name : List ℕ) → flat_map (start_said name) (inside_of s) ≡ flat_map (start_said name) (map start_record (by_start s.functions))
starts_inside s name =
    by_parts (start_said name) (λ kind value. refl) s _ [] [] [] refl
    (none_in (start_said name) call_record (λ f. refl) (by_start s.functions))
    (none_in (start_said name) branch_record (λ b. refl) s.branches)
    (none_in (start_said name) line_record (λ l. refl) s.lines)
    ∙ append-nil _

-- the reader finds for each function's name the start line that was printed
pub starts_found : (s : SectionData) → HasPointsApart s → AllByRecursion (λ f. start_in f.name (inside_of s) ≡ Some f.line) (by_start s.functions)
starts_found s apart = all_more _ _ (λ f one. ap least (starts_inside s f.name ∙ one)) (by_start s.functions) (own_starts (by_start s.functions) apart.functions)

-- ---- items

-- the items that a printed section's records are read as are those that it shows
pub items_back : (s : SectionData) → HasPointsApart s → items_of (inside_of s) ≡ items_shown s
items_back s apart =
    by_parts (items_said (inside_of s)) (λ kind value. refl) s _ _ _ _
    (each_in (items_said (inside_of s)) start_record start_item (λ f. refl) (by_start s.functions))
    (each_among (items_said (inside_of s)) call_record call_item (by_start s.functions)
    (all_more _ _ (λ f found. ap (counted f.name f.count) found) (by_start s.functions) (starts_found s apart)))
    (each_in (items_said (inside_of s)) branch_record branch_item (λ b. refl) s.branches)
    (each_in (items_said (inside_of s)) line_record line_item (λ l. refl) s.lines)
