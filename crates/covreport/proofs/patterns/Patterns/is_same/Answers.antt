use Rattle.std.proofs.Common.{◌≡◌, ℕ, ◌+◌, ◌<◌, ◌++◌, List, [], ◌∷◌, IsTrue, length, get_or, take, arith, ap, sym, ◌∙◌}
use Rattle.std.proofs.lemmas.Bool.{false≢true}
use Rattle.std.proofs.lemmas.List.{get_or_default, take_more}
use Rattle.covreport.proofs.patterns.Patterns.is_same.Goals as goal

-- if the patterns so far are equal and so are the next ones, the lists are equal up to these
same_more : (xs ys : List (List ℕ)) (i : ℕ) (x y : List ℕ) → i < length xs → x ≡ get_or xs i x → i < length ys → y ≡ get_or ys i y → take i xs ≡ take i ys → x ≡ y → take (i + 1) xs ≡ take (i + 1) ys
same_more xs ys i x y in_xs is_x in_ys is_y so_far same =
    take_more xs i x in_xs ∙ ap (λ (z : List ℕ). take i xs ++ z ∷ []) (sym is_x ∙ same ∙ is_y)
    ∙ ap (λ (zs : List (List ℕ)). zs ++ get_or ys i y ∷ []) so_far ∙ sym (take_more ys i y in_ys)

-- equal lists are equal at each place
same_at : (xs ys : List (List ℕ)) (i : ℕ) (x y : List ℕ) → x ≡ get_or xs i x → i < length ys → y ≡ get_or ys i y → xs ≡ ys → x ≡ y
same_at xs ys i x y is_x in_ys is_y same = is_x ∙ ap (λ (zs : List (List ℕ)). get_or zs i x) same ∙ get_or_default ys i x y in_ys ∙ sym is_y

pub loop-index-preserved : goal.loop-index-preserved
loop-index-preserved g c =
    let i = c.loop-index.index in
    let within : i < length c.as_slice-others.result.now = omega (arith, c.loop-index-test.true, c.if-patterns-others.false) in
    same_more c.as_slice-patterns.result.now c.as_slice-others.result.now i c.index-patterns-index.result c.index-others-index.result
    c.loop-index-test.true c.index-patterns-index.is within c.index-others-index.is c.loop-index.invariant (c.is_same.ensures.0 c.if-not-is_same.false)

pub returns-then-not-is_same : goal.returns-then-not-is_same
returns-then-not-is_same g c =
    let i = c.loop-index.index in
    let within : i < length c.as_slice-others.result.now = omega (arith, c.loop-index-test.true, c.if-patterns-others.false) in (
      (λ wrong. absurd (false≢true wrong)),
      λ same.
          let both : c.as_slice-patterns.result.now ≡ c.as_slice-others.result.now = c.as_slice-patterns.ensures.value ∙ c.self.view_is ∙ same ∙ sym c.other.view_is ∙ sym c.as_slice-others.ensures.value in
          let yes : IsTrue c.is_same.result = c.is_same.ensures.1 (same_at c.as_slice-patterns.result.now c.as_slice-others.result.now i c.index-patterns-index.result c.index-others-index.result c.index-patterns-index.is within c.index-others-index.is both) in
          sym c.if-not-is_same.true ∙ yes,
    )
