-- The sums of functions after one more item.
use Rattle.covstore.proofs.Words.{◌≡◌, ℕ, true, min, Some, None, unwrap_or, List, [], ◌∷◌, ◌++◌, refl, ap, ◌∙◌, slice_cmp, flat_map, nat_cmp, bytes_eq, cond-true, false≢true, fold-append, bytes_eq-Decides, func_point, func_points, least, ItemData, FuncItem, put, value_of, function_sum, function_with, bounded, function_added, function_start, start_said, In, names_order}
use Rattle.std.specs.Option.{is_some}
use Rattle.covstore.specs.declared.sums.FunctionSum.{FunctionSum}
use Rattle.covtable.proofs.ContentsPoints.{count_unadded, has_start, nothing_added, nothing_said, start_unsaid}
use Rattle.covstore.proofs.SumsKinds.{sums, sums_put, sums_same}
use Rattle.covstore.proofs.SumsLast.{last_said, none_added, none_said, sum_first, sum_last}

-- what items add up to at a function
abbrev pub function_held : List ItemData → List ℕ → FunctionSum
function_held items name = (function_sum items name).1

-- two sums with equal parts are equal
same_sum : (sum other : FunctionSum) → sum.line ≡ other.line → sum.count ≡ other.count → sum ≡ other
same_sum sum other line count = λ i. record { line = line i; count = count i }

-- an item of another point leaves the function's sum as it is
function_others : (items : List ItemData) (item : ItemData) (name : List ℕ) → (In name (func_point item) → ⊥) → function_held (items ++ item ∷ []) name ≡ function_held items name
function_others items item name none =
    same_sum (function_held (items ++ item ∷ []) name) (function_held items name)
    (ap (λ (said : List ℕ). unwrap_or (least said) 0) (none_said (start_said name) items item (start_unsaid name item none)))
    (ap bounded (none_added (function_added name) items item (count_unadded name item none)))

-- ---- an item of the function

pub own_count : (name : List ℕ) (line count : ℕ) → function_added name (FuncItem name line count) ≡ count
own_count name line count = cond-true (bytes_eq name name) count 0 ((bytes_eq-Decides name name).1 refl)

pub own_start : (name : List ℕ) (line count : ℕ) → start_said name (FuncItem name line count) ≡ line ∷ []
own_start name line count = cond-true (bytes_eq name name) (line ∷ []) [] ((bytes_eq-Decides name name).1 refl)

least_last : (starts : List ℕ) (line : ℕ) → is_some (least starts) ≡ true → unwrap_or (least (starts ++ line ∷ [])) 0 ≡ min (unwrap_or (least starts) 0) line
least_last [] line some = absurd (false≢true some)
least_last (start ∷ starts) line some = fold-append min start starts (line ∷ [])

module _ (name : List ℕ) (items : List ItemData) (line count : ℕ) where
  starts_more : function_start name (items ++ FuncItem name line count ∷ []) ≡ unwrap_or (least (flat_map (start_said name) items ++ line ∷ [])) 0
  starts_more =
      ap (λ (said : List ℕ). unwrap_or (least said) 0)
      (last_said (start_said name) items (FuncItem name line count) ∙ ap (λ (said : List ℕ). flat_map (start_said name) items ++ said) (own_start name line count))

  function_more : In name (func_points items) → function_held (items ++ FuncItem name line count ∷ []) name ≡ function_with line count (Some (function_held items name))
  function_more i =
      same_sum (function_held (items ++ FuncItem name line count ∷ []) name) (function_with line count (Some (function_held items name)))
      (starts_more ∙ least_last (flat_map (start_said name) items) line (has_start name items i))
      (sum_last (function_added name) items (FuncItem name line count) count (own_count name line count))

  function_first : (In name (func_points items) → ⊥) → function_held (items ++ FuncItem name line count ∷ []) name ≡ function_with line count None
  function_first none =
      same_sum (function_held (items ++ FuncItem name line count ∷ []) name) (function_with line count None)
      (starts_more ∙ ap (λ (said : List ℕ). unwrap_or (least (said ++ line ∷ [])) 0) (nothing_said func_point (start_said name) name (start_unsaid name) items none))
      (sum_first (function_added name) items (FuncItem name line count) count (own_count name line count) (nothing_added func_point (function_added name) name (count_unadded name) items none))

  pub functions_put : sums (slice_cmp nat_cmp) func_point function_held (items ++ FuncItem name line count ∷ [])
      ≡ put (slice_cmp nat_cmp) name (function_with line count (value_of (slice_cmp nat_cmp) name (sums (slice_cmp nat_cmp) func_point function_held items)))
      (sums (slice_cmp nat_cmp) func_point function_held items)
  functions_put =
      sums_put names_order func_point function_held items (FuncItem name line count) (function_others items (FuncItem name line count)) name (function_with line count) refl function_first function_more

-- an item of another kind leaves all functions as they are
pub functions_same : (items : List ItemData) (item : ItemData) → func_point item ≡ []
    → sums (slice_cmp nat_cmp) func_point function_held (items ++ item ∷ []) ≡ sums (slice_cmp nat_cmp) func_point function_held items
functions_same items item none = sums_same names_order func_point function_held items item (function_others items item) none
