-- An item has at most one point of each kind, so items have at most as many points as there are items.
use Rattle.std.proofs.Common.{◌≤◌, List, [], ◌∷◌, length, arith}
use Rattle.std.specs.List.{flat_map}
use Rattle.std.proofs.lemmas.List.{length-append}
use Rattle.covdata.specs.Points.{line_point, func_point, branch_point}
use Rattle.covdata.specs.Row.{ItemData, LineItem, FuncItem, BranchItem}

pub one_line : (item : ItemData) → length (line_point item) ≤ 1
one_line (LineItem line count checksum) = omega arith
one_line (FuncItem name line count) = omega arith
one_line (BranchItem line block branch taken) = omega arith

pub one_function : (item : ItemData) → length (func_point item) ≤ 1
one_function (LineItem line count checksum) = omega arith
one_function (FuncItem name line count) = omega arith
one_function (BranchItem line block branch taken) = omega arith

pub one_branch : (item : ItemData) → length (branch_point item) ≤ 1
one_branch (LineItem line count checksum) = omega arith
one_branch (FuncItem name line count) = omega arith
one_branch (BranchItem line block branch taken) = omega arith

pub few_parts : {X Y : Type 0} (f : X → List Y) → ((x : X) → length (f x) ≤ 1) → (xs : List X) → length (flat_map f xs) ≤ length xs
few_parts f one [] = omega arith
few_parts f one (x ∷ xs) = omega (arith, length-append (f x) (flat_map f xs), one x, few_parts f one xs)
