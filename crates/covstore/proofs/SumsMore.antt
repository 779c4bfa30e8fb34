-- What items add up to after one more item.
use Rattle.covstore.proofs.Words.{◌≡◌, List, [], ◌∷◌, ◌++◌, refl, ItemData, LineItem, FuncItem, BranchItem, test_of, with_item}
use Rattle.covstore.proofs.SumsBranches.{branches_put, branches_same}
use Rattle.covstore.proofs.SumsFunctions.{functions_put, functions_same}
use Rattle.covstore.proofs.SumsLines.{lines_put, lines_same}
use Rattle.covstore.proofs.EachKind.{same_test}

-- one more item changes the sums as `with_item` says
pub sums_more : (items : List ItemData) (item : ItemData) → test_of (items ++ item ∷ []) ≡ with_item item (test_of items)
sums_more items (LineItem line count checksum) =
    let item = LineItem line count checksum in
    same_test (test_of (items ++ item ∷ [])) (with_item item (test_of items)) (lines_put items line count checksum) (functions_same items item refl) (branches_same items item refl)
sums_more items (FuncItem name line count) =
    let item = FuncItem name line count in
    same_test (test_of (items ++ item ∷ [])) (with_item item (test_of items)) (lines_same items item refl) (functions_put name items line count) (branches_same items item refl)
sums_more items (BranchItem line block branch taken) =
    let item = BranchItem line block branch taken in
    same_test (test_of (items ++ item ∷ [])) (with_item item (test_of items)) (lines_same items item refl) (functions_same items item refl) (branches_put items line block branch taken)
