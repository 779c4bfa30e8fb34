-- The sums of lines after one more item.
use Rattle.covstore.proofs.Words.{◌≡◌, ℕ, Bool, ◌||◌, eqb, Option, Some, None, List, [], ◌∷◌, ◌++◌, refl, ap, ◌∙◌, flat_map, nat_cmp, cond-true, eq-eqb, line_point, line_points, ItemData, LineItem, LineSum, put, value_of, line_sum, line_with, bounded, checksum_said, first_of, line_added, line_checksum, In, lines_order}
use Rattle.std.specs.Option.{is_some}
use Rattle.covtable.proofs.ContentsPoints.{checksum_unsaid, line_unadded, nothing_added, nothing_said}
use Rattle.covstore.proofs.SumsKinds.{sums, sums_put, sums_same}
use Rattle.covstore.proofs.SumsLast.{last_said, none_added, none_said, sum_first, sum_last}

-- what items add up to at a line
abbrev pub line_held : List ItemData → ℕ → LineSum
line_held items line = (line_sum items line).1

-- two sums with equal parts are equal
same_sum : (sum other : LineSum) → sum.count ≡ other.count → sum.has_checksum ≡ other.has_checksum → sum ≡ other
same_sum sum other count has_checksum = λ i. record { count = count i; has_checksum = has_checksum i }

-- an item of another point leaves the line's sum as it is
line_others : (items : List ItemData) (item : ItemData) (line : ℕ) → (In line (line_point item) → ⊥) → line_held (items ++ item ∷ []) line ≡ line_held items line
line_others items item line none =
    same_sum (line_held (items ++ item ∷ []) line) (line_held items line)
    (ap bounded (none_added (line_added line) items item (line_unadded line item none)))
    (ap (λ (said : List (List ℕ)). is_some (first_of said)) (none_said (checksum_said line) items item (checksum_unsaid line item none)))

-- ---- an item of the line

pub own_count : (line count : ℕ) (checksum : Option (List ℕ)) → line_added line (LineItem line count checksum) ≡ count
own_count line count checksum = cond-true (eqb line line) count 0 (eq-eqb line line refl)

own_checksum : (line count : ℕ) (checksum : Option (List ℕ)) → is_some (first_of (checksum_said line (LineItem line count checksum))) ≡ is_some checksum
own_checksum line count None = refl
own_checksum line count (Some checksum) = ap (λ (said : List (List ℕ)). is_some (first_of said)) (cond-true (eqb line line) (checksum ∷ []) [] (eq-eqb line line refl))

either_said : {X : Type 0} (xs ys : List X) → is_some (first_of (xs ++ ys)) ≡ (is_some (first_of xs) || is_some (first_of ys))
either_said [] ys = refl
either_said (x ∷ xs) ys = refl

checksum_more : (items : List ItemData) (line count : ℕ) (checksum : Option (List ℕ)) → is_some (line_checksum line (items ++ LineItem line count checksum ∷ [])) ≡ (is_some (line_checksum line items) || is_some checksum)
checksum_more items line count checksum =
    let item = LineItem line count checksum in
    ap (λ (said : List (List ℕ)). is_some (first_of said)) (last_said (checksum_said line) items item)
    ∙ either_said (flat_map (checksum_said line) items) (checksum_said line item)
    ∙ ap (λ (b : Bool). is_some (line_checksum line items) || b) (own_checksum line count checksum)

module _ (items : List ItemData) (line count : ℕ) (checksum : Option (List ℕ)) where
  line_more : line_held (items ++ LineItem line count checksum ∷ []) line ≡ line_with count (is_some checksum) (Some (line_held items line))
  line_more =
      same_sum (line_held (items ++ LineItem line count checksum ∷ []) line) (line_with count (is_some checksum) (Some (line_held items line)))
      (sum_last (line_added line) items (LineItem line count checksum) count (own_count line count checksum))
      (checksum_more items line count checksum)

  line_first : (In line (line_points items) → ⊥) → line_held (items ++ LineItem line count checksum ∷ []) line ≡ line_with count (is_some checksum) None
  line_first none =
      same_sum (line_held (items ++ LineItem line count checksum ∷ []) line) (line_with count (is_some checksum) None)
      (sum_first (line_added line) items (LineItem line count checksum) count (own_count line count checksum) (nothing_added line_point (line_added line) line (line_unadded line) items none))
      (checksum_more items line count checksum ∙ ap (λ (said : List (List ℕ)). is_some (first_of said) || is_some checksum) (nothing_said line_point (checksum_said line) line (checksum_unsaid line) items none))

  pub lines_put : sums nat_cmp line_point line_held (items ++ LineItem line count checksum ∷ [])
      ≡ put nat_cmp line (line_with count (is_some checksum) (value_of nat_cmp line (sums nat_cmp line_point line_held items))) (sums nat_cmp line_point line_held items)
  lines_put =
      sums_put lines_order line_point line_held items (LineItem line count checksum) (line_others items (LineItem line count checksum)) line (line_with count (is_some checksum)) refl
      line_first (λ _. line_more)

-- an item of another kind leaves all lines as they are
pub lines_same : (items : List ItemData) (item : ItemData) → line_point item ≡ [] → sums nat_cmp line_point line_held (items ++ item ∷ []) ≡ sums nat_cmp line_point line_held items
lines_same items item none = sums_same lines_order line_point line_held items item (line_others items item) none
