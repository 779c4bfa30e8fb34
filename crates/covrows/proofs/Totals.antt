-- The numbers that the code counts are the totals.
use Rattle.std.proofs.Common.{◌≡◌, ℕ, ◌==◌, nat_lt, Bool, true, false, Option, Some, None, List, [], ◌∷◌, filter, refl, sym, ap, ◌∙◌, subst, inl, inr}
use Rattle.std.specs.Str.{bytes_eq}
use Rattle.std.proofs.lemmas.Bool.{and_from, and_parts, eq-eqb, eqb-true, false≢true}
use Rattle.std.proofs.lemmas.Slice.Eq.{bytes_eq-Decides}
use Rattle.covdata.specs.Points.{BranchPoint, branch_point, func_point, is_hit, line_point}
use Rattle.covdata.specs.Row.{ItemData, LineItem, FuncItem, BranchItem, Row}
use Rattle.covtable.specs.Content.{content_of}
use Rattle.covtable.specs.Counted.{lines, functions, branches}
use Rattle.covtable.specs.declared.totals.Totals.{Totals}
use Rattle.covtable.specs.Totals.{totals_of}
use Rattle.covtable.specs.TotalsSteps.{hits_line, hits_function, hits_branch}
use Rattle.covtable.specs.Value.{Key, is_branch, is_taken, key_of_row}
use Rattle.covtable.proofs.Members.{In}
use Rattle.covtable.proofs.TotalsDifferent.{lines_counted, functions_counted, branches_counted}
use Rattle.covtable.proofs.TotalsKinds.{branch_above, function_above, itself, line_above, same_branch, same_totals}
use Rattle.covtable.proofs.WithoutContent.{content_picked}
use Rattle.covrows.specs.Counted.{count_last, same_point, takes}
use Rattle.covrows.specs.declared.selection.Kind.TheVariants as kinds
use Rattle.covrows.proofs.Different.{IsKindOf, found_last, hit_last}

abbrev first : {X : Type 0} → X → List X → X
first other [] = other
first other (x ∷ xs) = x

line_same : (a b : ItemData) (x y : ℕ) → lines.point a ≡ x ∷ [] → lines.point b ≡ y ∷ [] → same_point a b ≡ lines.same x y
line_same (LineItem line count sum) (LineItem other times said) x y a b = λ i. lines.same (ap (first line) a i) (ap (first other) b i)
line_same (LineItem line count sum) (FuncItem name start times) x y a b = absurd cc
line_same (LineItem line count sum) (BranchItem at block branch taken) x y a b = absurd cc
line_same (FuncItem name start times) b x y e f = absurd cc
line_same (BranchItem at block branch taken) b x y e f = absurd cc

is_line : IsKindOf lines kinds.Lines hits_line
is_line = record {
  decides = λ a b. (eqb-true a b, eq-eqb a b);
  none = elim [ LineItem line count sum ↦ λ e. absurd (false≢true (sym e)) | FuncItem name start times ↦ λ e. refl | BranchItem at block branch taken ↦ λ e. refl ];
  some = elim [ LineItem line count sum ↦ λ e. (line, refl) | FuncItem name start times ↦ λ e. absurd (false≢true e) | BranchItem at block branch taken ↦ λ e. absurd (false≢true e) ];
  same = line_same;
  above = line_above;
  speaks = speaks;
  hit_by = hit_by;
}
  where
    speaks : (line : ℕ) (item : ItemData) → hits_line line item ≡ true → In line (line_point item) × (is_hit item ≡ true)
    speaks line (LineItem at count sum) e = let both = and_parts (at == line) (nat_lt 0 count) e in (inl (eqb-true at line both.0), both.1)
    speaks line (FuncItem name start times) e = absurd (false≢true e)
    speaks line (BranchItem at block branch taken) e = absurd (false≢true e)

    hit_by : (line : ℕ) (item : ItemData) → In line (line_point item) → is_hit item ≡ true → hits_line line item ≡ true
    hit_by line (LineItem at count sum) (inl is) e = and_from (at == line) (nat_lt 0 count) (eq-eqb at line is) e
    hit_by line (LineItem at count sum) (inr i) e = absurd i
    hit_by line (FuncItem name start times) i e = absurd i
    hit_by line (BranchItem at block branch taken) i e = absurd i

function_same : (a b : ItemData) (x y : List ℕ) → functions.point a ≡ x ∷ [] → functions.point b ≡ y ∷ [] → same_point a b ≡ functions.same x y
function_same (FuncItem name line count) (FuncItem other start times) x y a b = λ i. functions.same (ap (first name) a i) (ap (first other) b i)
function_same (FuncItem name line count) (LineItem other times said) x y a b = absurd cc
function_same (FuncItem name line count) (BranchItem at block branch taken) x y a b = absurd cc
function_same (LineItem line count sum) b x y e f = absurd cc
function_same (BranchItem at block branch taken) b x y e f = absurd cc

is_function : IsKindOf functions kinds.Functions hits_function
is_function = record {
  decides = bytes_eq-Decides;
  none = elim [ LineItem line count sum ↦ λ e. refl | FuncItem name start times ↦ λ e. absurd (false≢true (sym e)) | BranchItem at block branch taken ↦ λ e. refl ];
  some = elim [ LineItem line count sum ↦ λ e. absurd (false≢true e) | FuncItem name start times ↦ λ e. (name, refl) | BranchItem at block branch taken ↦ λ e. absurd (false≢true e) ];
  same = function_same;
  above = function_above;
  speaks = speaks;
  hit_by = hit_by;
}
  where
    speaks : (name : List ℕ) (item : ItemData) → hits_function name item ≡ true → In name (func_point item) × (is_hit item ≡ true)
    speaks name (FuncItem other start times) e = let both = and_parts (bytes_eq other name) (nat_lt 0 times) e in (inl ((bytes_eq-Decides other name).0 both.0), both.1)
    speaks name (LineItem at count sum) e = absurd (false≢true e)
    speaks name (BranchItem at block branch taken) e = absurd (false≢true e)

    hit_by : (name : List ℕ) (item : ItemData) → In name (func_point item) → is_hit item ≡ true → hits_function name item ≡ true
    hit_by name (FuncItem other start times) (inl is) e = and_from (bytes_eq other name) (nat_lt 0 times) ((bytes_eq-Decides other name).1 is) e
    hit_by name (FuncItem other start times) (inr i) e = absurd i
    hit_by name (LineItem at count sum) i e = absurd i
    hit_by name (BranchItem at block branch taken) i e = absurd i

branch_same : (a b : ItemData) (x y : BranchPoint) → branches.point a ≡ x ∷ [] → branches.point b ≡ y ∷ [] → same_point a b ≡ branches.same x y
branch_same (BranchItem line block branch taken) (BranchItem at part number times) x y a b = λ i. branches.same (ap (first x) a i) (ap (first y) b i)
branch_same (BranchItem line block branch taken) (LineItem other times said) x y a b = absurd cc
branch_same (BranchItem line block branch taken) (FuncItem name start times) x y a b = absurd cc
branch_same (LineItem line count sum) b x y e f = absurd cc
branch_same (FuncItem name start times) b x y e f = absurd cc

is_branch_kind : IsKindOf branches kinds.Branches hits_branch
is_branch_kind = record {
  decides = λ a b. (λ e. sym (same_branch a b.line b.block b.branch e), λ is. subst (λ (c : BranchPoint). branches.same a c ≡ true) is (itself a));
  none = elim [ LineItem line count sum ↦ λ e. refl | FuncItem name start times ↦ λ e. refl | BranchItem at block branch taken ↦ λ e. absurd (false≢true (sym e)) ];
  some = elim [ LineItem line count sum ↦ λ e. absurd (false≢true e) | FuncItem name start times ↦ λ e. absurd (false≢true e) | BranchItem at block branch taken ↦ λ e. (record { line = at; block = block; branch = branch }, refl) ];
  same = branch_same;
  above = branch_above;
  speaks = speaks;
  hit_by = hit_by;
}
  where
    taken_is_hit : (line block branch : ℕ) (taken : Option ℕ) → is_hit (BranchItem line block branch taken) ≡ is_taken taken
    taken_is_hit line block branch None = refl
    taken_is_hit line block branch (Some n) = refl

    speaks : (point : BranchPoint) (item : ItemData) → hits_branch point item ≡ true → In point (branch_point item) × (is_hit item ≡ true)
    speaks point (BranchItem line block branch taken) e =
        let both = and_parts (is_branch point line block branch) (is_taken taken) e in
        (inl (same_branch point line block branch both.0), taken_is_hit line block branch taken ∙ both.1)
    speaks point (LineItem at count sum) e = absurd (false≢true e)
    speaks point (FuncItem name start times) e = absurd (false≢true e)

    hit_by : (point : BranchPoint) (item : ItemData) → In point (branch_point item) → is_hit item ≡ true → hits_branch point item ≡ true
    hit_by point (BranchItem line block branch taken) (inl is) e =
        and_from (is_branch point line block branch) (is_taken taken) (subst (λ (p : BranchPoint). is_branch p line block branch ≡ true) is (itself (record { line = line; block = block; branch = branch })))
        (sym (taken_is_hit line block branch taken) ∙ e)
    hit_by point (BranchItem line block branch taken) (inr i) e = absurd i
    hit_by point (LineItem at count sum) i e = absurd i
    hit_by point (FuncItem name start times) i e = absurd i

-- ---- the totals of rows of some keys

module _ (q : Key → Bool) (rows : List Row) where
  abbrev picked : List Row
  picked = filter (λ row. q (key_of_row row)) rows

  pub counted_totals : (t : Totals) → t.lf ≡ count_last (takes q kinds.Lines false) rows → t.lh ≡ count_last (takes q kinds.Lines true) rows
      → t.ff ≡ count_last (takes q kinds.Functions false) rows → t.fh ≡ count_last (takes q kinds.Functions true) rows
      → t.bf ≡ count_last (takes q kinds.Branches false) rows → t.bh ≡ count_last (takes q kinds.Branches true) rows
      → t ≡ totals_of (filter (λ s. q s.key) (content_of rows))
  counted_totals t lf lh ff fh bf bh =
      same_totals t (totals_of (content_of picked))
      (lf ∙ found_last lines kinds.Lines hits_line is_line q rows ∙ sym (lines_counted picked).0)
      (lh ∙ hit_last lines kinds.Lines hits_line is_line q rows ∙ sym (lines_counted picked).1)
      (ff ∙ found_last functions kinds.Functions hits_function is_function q rows ∙ sym (functions_counted picked).0)
      (fh ∙ hit_last functions kinds.Functions hits_function is_function q rows ∙ sym (functions_counted picked).1)
      (bf ∙ found_last branches kinds.Branches hits_branch is_branch_kind q rows ∙ sym (branches_counted picked).0)
      (bh ∙ hit_last branches kinds.Branches hits_branch is_branch_kind q rows ∙ sym (branches_counted picked).1)
      ∙ ap totals_of (content_picked q rows)
