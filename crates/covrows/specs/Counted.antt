-- Which rows are counted, and how many different points they have.
use Rattle.std.specs.Prelude.{ℕ, ◌+◌, Bool, true, false, not, ◌==◌, ◌&&◌, ◌||◌, cond, List, [], ◌∷◌}
use Rattle.std.specs.List.{list_any}
use Rattle.std.specs.Str.{bytes_eq}
use Rattle.covdata.specs.Points.{is_hit}
use Rattle.covdata.specs.Row.{ItemData, LineItem, FuncItem, BranchItem, Row}
use Rattle.covreport.specs.Choice.{is_chosen}
use Rattle.covreport.specs.ChoiceView.{choice_data}
use Rattle.covtable.specs.Value.{Key, key_of_row}
use Rattle.covrows.specs.declared.selection.Kind.{Kind}
use Rattle.covrows.specs.declared.selection.Kind.TheVariants as kinds
use Rattle.covrows.specs.declared.selection.Selection.{Selection}
use Rattle.covrows.specs.declared.selection.Selection.TheVariants as selections

-- whether rows of this key are selected
abbrev pub is_selected : {A : Type 0} → Selection A → Key → Bool
is_selected selections.All key = true
is_selected (selections.File file) key = bytes_eq key.file file.now
is_selected (selections.Without test) key = not (bytes_eq key.test test.now)
is_selected (selections.Chosen choice) key = is_chosen (choice_data choice.now) key.file

-- the item counts a point of this kind
abbrev pub has_kind : Kind → ItemData → Bool
has_kind kinds.Lines (LineItem line count checksum) = true
has_kind kinds.Lines (FuncItem name line count) = false
has_kind kinds.Lines (BranchItem line block branch taken) = false
has_kind kinds.Functions (LineItem line count checksum) = false
has_kind kinds.Functions (FuncItem name line count) = true
has_kind kinds.Functions (BranchItem line block branch taken) = false
has_kind kinds.Branches (LineItem line count checksum) = false
has_kind kinds.Branches (FuncItem name line count) = false
has_kind kinds.Branches (BranchItem line block branch taken) = true

-- the items count the same point
abbrev pub same_point : ItemData → ItemData → Bool
same_point (LineItem line count checksum) (LineItem other times sum) = line == other
same_point (LineItem line count checksum) (FuncItem other start times) = false
same_point (LineItem line count checksum) (BranchItem at block branch taken) = false
same_point (FuncItem name line count) (LineItem other times sum) = false
same_point (FuncItem name line count) (FuncItem other start times) = bytes_eq name other
same_point (FuncItem name line count) (BranchItem at block branch taken) = false
same_point (BranchItem line block branch taken) (LineItem other times sum) = false
same_point (BranchItem line block branch taken) (FuncItem other start times) = false
same_point (BranchItem line block branch taken) (BranchItem at part number times) = at == line && part == block && number == branch

-- the rows have the same point of the same file
abbrev pub same_points : Row → Row → Bool
same_points row other = bytes_eq row.file other.file && same_point row.item other.item

-- the row is of a selected key, with a count above 0 if only such rows are counted
abbrev pub picks : (Key → Bool) → Bool → Row → Bool
picks q hit row = q (key_of_row row) && (not hit || is_hit row.item)

-- the row is counted: it is picked, and has a point of the kind
abbrev pub takes : (Key → Bool) → Kind → Bool → Row → Bool
takes q kind hit row = picks q hit row && has_kind kind row.item

-- `p` takes the row, and none of the later rows that it takes has the same point
abbrev pub is_last_of : (Row → Bool) → Row → List Row → Bool
is_last_of p row rows = p row && not (list_any (λ other. p other && same_points row other) rows)

-- how many of the rows that `p` takes have no later such row of the same point
abbrev pub count_last : (Row → Bool) → List Row → ℕ
count_last p [] = 0
count_last p (row ∷ rows) = cond (is_last_of p row rows) 1 0 + count_last p rows
