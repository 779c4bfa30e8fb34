-- Two lists of rows with the same state: they have the same content and the same clashes, and again the same state after the same
-- rows are added to both.
use Rattle.covstore.proofs.Words.{◌≡◌, ℕ, List, [], ◌∷◌, ◌++◌, sym, ap, ◌∙◌, subst, append_assoc, inl, inr, ⊎_elim, flat_map-append, ItemData, Row, checksum_of_row, checksums_in, clash_of, content_of, FileData, IsStateOf, test_of, with_item, items_at, Contains-from, In, In-from, In-joined, In-parts}
use Rattle.std.proofs.lemmas.List.{append-nil}
use Rattle.covstore.proofs.AddsPlace.{state_agrees}
use Rattle.covtable.proofs.Contents.{clash_by_content}
use Rattle.covtable.proofs.ContentsChecksums.{checksums_there}
use Rattle.covstore.proofs.StateSections.{sections_are}
use Rattle.covstore.proofs.SumsMore.{sums_more}
use Rattle.covtable.proofs.ContentsSections.{items_at-append}

-- two lists of items that add up to the same still do after the same items are added to both
pub tests_with_more : (xs ys more : List ItemData) → test_of xs ≡ test_of ys → test_of (xs ++ more) ≡ test_of (ys ++ more)
tests_with_more xs ys [] same = ap test_of (append-nil xs) ∙ same ∙ ap test_of (sym (append-nil ys))
tests_with_more xs ys (item ∷ more) same =
    let one : test_of (xs ++ item ∷ []) ≡ test_of (ys ++ item ∷ []) = sums_more xs item ∙ ap (with_item item) same ∙ sym (sums_more ys item) in
    ap test_of (sym (append_assoc xs (item ∷ []) more)) ∙ tests_with_more (xs ++ item ∷ []) (ys ++ item ∷ []) more one ∙ ap test_of (append_assoc ys (item ∷ []) more)

module _ (rows others : List Row) (files : List (List ℕ × FileData)) (state : IsStateOf rows files) (other : IsStateOf others files) where
  pub same_contents : content_of rows ≡ content_of others
  same_contents = sym (sections_are rows files state (state_agrees rows files state)) ∙ sections_are others files other (state_agrees others files other)

  pub same_state : (more : List Row) (after : List (List ℕ × FileData)) → IsStateOf (rows ++ more) after → IsStateOf (others ++ more) after
  same_state more after later = record {
    ascending = later.ascending;
    points = λ key.
        later.points key ∙ ap test_of (items_at-append key rows more)
        ∙ tests_with_more (items_at key rows) (items_at key others) (items_at key more) (sym (state.points key) ∙ other.points key)
        ∙ ap test_of (sym (items_at-append key others more));
    texts = λ checksum i. later.texts checksum (Contains-from (checksums_in (rows ++ more)) checksum (
        subst (In checksum) (sym (flat_map-append checksum_of_row rows more))
        (⊎_elim {C = In checksum (checksums_in rows ++ checksums_in more)}
        (λ (before : In checksum (checksums_in others)).
        In-joined (checksums_in rows) (checksums_in more) checksum (inl (checksums_there others rows (state_agrees others files other) (sym same_contents) checksum before)))
        (λ (now : In checksum (checksums_in more)). In-joined (checksums_in rows) (checksums_in more) checksum (inr now))
        (In-parts (checksums_in others) (checksums_in more) checksum
        (subst (In checksum) (flat_map-append checksum_of_row others more) (In-from (checksums_in (others ++ more)) checksum i))))));
    whole = later.whole;
  }

  pub same_clash : (more : List Row) → clash_of rows more ≡ clash_of others more
  same_clash more = clash_by_content rows others more (state_agrees rows files state) (state_agrees others files other) same_contents
