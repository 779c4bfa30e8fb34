-- A printable section has no point twice: no two of its functions have the same name, no two of its branches are the same, and no
-- two of its lines.
use Rattle.std.proofs.Common.{◌≡◌, ℕ, Bool, false, ◌&&◌, List, map, refl, sym, ap, ◌∙◌}
use Rattle.std.specs.Prelude.{◌==◌, nat_eq}
use Rattle.std.specs.declared.cmp.Ordering.{Ordering}
use Rattle.std.specs.declared.cmp.Ordering.TheVariants.{Less, Equal, Greater}
use Rattle.std.specs.Ordering.{is_eq, nat_cmp, ordering_then}
use Rattle.std.specs.Cmp.{unsigned_tied}
use Rattle.std.specs.Cmp.Lexicographic.{slice_cmp}
use Rattle.std.specs.Str.{bytes_eq}
use Rattle.std.proofs.lemmas.Cmp.{nat_list_eq_equiv}
use Rattle.std.proofs.lemmas.Map.Text.{is_eq-slice_cmp}
use Rattle.covdata.specs.Points.{BranchPoint}
use Rattle.covtable.specs.Value.{branch_cmp}
use Rattle.covread.specs.Reads.{branch_eq}
use Rattle.covtable.specs.Content.{FunctionValueData, BranchValueData, LineValueData, SectionData}
use Rattle.covreport.specs.Report.{by_start, function_cmp}
use Rattle.covlaws.specs.Printable.{HasPointsInOrder}
use Rattle.covlaws.proofs.Apart.{AreApart, apart_ordered, apart_sorted, apart_unmapped}

-- if one line number is less than another, they aren't the same
less_line : (x y : ℕ) → nat_cmp x y ≡ Less → nat_eq x y ≡ false
less_line x y less = sym (unsigned_tied x y) ∙ ap is_eq less

less_name : (x y : List ℕ) → slice_cmp nat_cmp x y ≡ Less → bytes_eq x y ≡ false
less_name x y less = sym (is_eq-slice_cmp x y) ∙ ap is_eq less

not_all_equal : (o p q : Ordering) → ordering_then o (ordering_then p q) ≡ Less → (is_eq o && is_eq p && is_eq q) ≡ false
not_all_equal Less p q less = refl
not_all_equal Greater p q less = refl
not_all_equal Equal Less q less = refl
not_all_equal Equal Greater q less = refl
not_all_equal Equal Equal Less less = refl
not_all_equal Equal Equal Greater less = refl
not_all_equal Equal Equal Equal less = absurd cc

less_branch : (x y : BranchPoint) → branch_cmp x y ≡ Less → branch_eq x y ≡ false
less_branch x y less =
    ap (λ (b : Bool). b && x.block == y.block && x.branch == y.branch) (sym (unsigned_tied x.line y.line))
    ∙ ap (λ (b : Bool). is_eq (nat_cmp x.line y.line) && b && x.branch == y.branch) (sym (unsigned_tied x.block y.block))
    ∙ ap (λ (b : Bool). is_eq (nat_cmp x.line y.line) && is_eq (nat_cmp x.block y.block) && b) (sym (unsigned_tied x.branch y.branch))
    ∙ not_all_equal (nat_cmp x.line y.line) (nat_cmp x.block y.block) (nat_cmp x.branch y.branch) less

abbrev pub same_name : FunctionValueData → FunctionValueData → Bool
same_name f g = bytes_eq f.name g.name

abbrev pub same_branch : BranchValueData → BranchValueData → Bool
same_branch a b = branch_eq a.point b.point

abbrev pub same_line : LineValueData → LineValueData → Bool
same_line a b = nat_eq a.line b.line

-- the section has no function's name, no branch and no line twice
pub record HasPointsApart (s : SectionData) : Type 0 where
  pub functions : AreApart same_name (by_start s.functions)
  pub branches : AreApart same_branch s.branches
  pub lines : AreApart same_line s.lines

pub points_apart : (s : SectionData) → HasPointsInOrder s → HasPointsApart s
points_apart s order = record {
  functions = apart_sorted function_cmp same_name (λ f g differ. nat_list_eq_equiv.symm g.name f.name ∙ differ) s.functions
      (apart_unmapped (λ f. f.name) bytes_eq s.functions (apart_ordered (slice_cmp nat_cmp) bytes_eq less_name (map (λ f. f.name) s.functions) order.functions));
  branches = apart_unmapped (λ b. b.point) branch_eq s.branches (apart_ordered branch_cmp branch_eq less_branch (map (λ b. b.point) s.branches) order.branches);
  lines = apart_unmapped (λ l. l.line) nat_eq s.lines (apart_ordered nat_cmp nat_eq less_line (map (λ l. l.line) s.lines) order.lines);
}
