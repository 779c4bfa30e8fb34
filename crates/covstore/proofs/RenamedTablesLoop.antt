-- A rename is prepared: the old test's values are copied file by file, until all are copied.
use Rattle.covstore.proofs.Words.{◌≡◌, ℕ, ◌+◌, ◌*◌, ◌<◌, ◌≤◌, ◌^◌, Bool, true, false, cond, not, Option, Some, List, [], ◌∷◌, ◌++◌, drop, get_or, length, filter, map, take, refl, sym, ap, ◌∙◌, subst, append_assoc, inl, inr, arith, slice_cmp, nat_cmp, bytes_eq, drop_more, map_more, flat_map-append, ItemData, Row, Totals, checksum_of_row, checksums_in, ArePairs, value_of, Copies, HasRoomToCopy, IsMoving, key_of, names_with, FileData, IsStateOf, has_no_points, has_points_of, points_at, points_in, SameCommitted, StoreData, test_of, all_rows, items_at, In-unfilter, Contains-from, In, In-from, In-joined, In-unmap, names_order}
use Rattle.std.proofs.lemmas.List.{append-nil}
use Rattle.covtable.specs.Renamed.{moved_rows}
use Rattle.covstore.specs.StoreKept.{IsKept}
use Rattle.covstore.proofs.AddsPlace.{state_agrees}
use Rattle.covstore.proofs.AddsStore.{held_by_both, same_committed}
use Rattle.covtable.proofs.ContentsChecksums.{checksums_there}
use Rattle.covtable.proofs.ContentsSections.{items_at-append}
use Rattle.covstore.proofs.Prepares.{rows_in_table}
use Rattle.covstore.proofs.Puts.{value_of_pair}
use Rattle.covstore.proofs.RenamedAlike.{tests_swapped}
use Rattle.covstore.proofs.RenamedTablesCopies.{all_copied, copied_next, copies_of, held_in_moved, later_items, moved_items, points_still}
use Rattle.covstore.proofs.RenamedTablesFew.{copied_room}
use Rattle.covstore.proofs.StateSame.{same_contents, tests_with_more}

-- ---- what is moved depends only on the state

tests_joined : (xs ys some others : List ItemData) → test_of xs ≡ test_of some → test_of ys ≡ test_of others → test_of (xs ++ ys) ≡ test_of (some ++ others)
tests_joined xs ys some others first second = tests_with_more xs some ys first ∙ tests_swapped some ys ∙ tests_with_more ys others some second ∙ tests_swapped others some

test_or_none : (b : Bool) (xs ys : List ItemData) → test_of xs ≡ test_of ys → test_of (cond b xs []) ≡ test_of (cond b ys [])
test_or_none true xs ys same = same
test_or_none false xs ys same = refl

module _ (old new : List ℕ) (rows others : List Row) (committed : List (List ℕ × FileData)) (state : IsStateOf rows committed) (other : IsStateOf others committed) where
  -- a state of `rows` with their moved rows is also one of `others` with theirs
  pub moved_too : (staged : List (List ℕ × FileData)) → IsStateOf (rows ++ moved_rows old new rows) staged → IsStateOf (others ++ moved_rows old new others) staged
  moved_too staged later = record {
    ascending = later.ascending;
    points = λ key.
        later.points key
        ∙ ap test_of (items_at-append key rows (moved_rows old new rows) ∙ ap (λ (is : List ItemData). items_at key rows ++ is) (moved_items old new key rows))
        ∙ tests_joined (items_at key rows) (cond (bytes_eq new key.test) (items_at (key_of key.file old) rows) []) (items_at key others) (cond (bytes_eq new key.test) (items_at (key_of key.file old) others) [])
        (sym (state.points key) ∙ other.points key)
        (test_or_none (bytes_eq new key.test) (items_at (key_of key.file old) rows) (items_at (key_of key.file old) others)
        (sym (state.points (key_of key.file old)) ∙ other.points (key_of key.file old)))
        ∙ ap test_of (sym (items_at-append key others (moved_rows old new others) ∙ ap (λ (is : List ItemData). items_at key others ++ is) (moved_items old new key others)));
    texts = λ sum i. later.texts sum (Contains-from (checksums_in (rows ++ moved_rows old new rows)) sum (
        subst (In sum) (sym (flat_map-append checksum_of_row rows (moved_rows old new rows)))
        (In-joined (checksums_in rows) (checksums_in (moved_rows old new rows)) sum
        (inl (checksums_there others rows (state_agrees others committed other) (sym (same_contents rows others committed state other)) sum
        (held_in_moved old new others sum (In-from (checksums_in (others ++ moved_rows old new others)) sum i)))))));
    whole = later.whole;
  }

-- ---- each named file has points of the test

last_in : (some others : List (List ℕ)) (file : List ℕ) → In file (some ++ file ∷ others)
last_in some others file = In-joined some (file ∷ others) file (inr (inl refl))

not_false : (b : Bool) → not b ≡ true → b ≡ false
not_false b e = by b e
  where
    by : (b : Bool) → not b ≡ true → b ≡ false
    by true e = sym e
    by false e = refl

pub named_has_points : (old : List ℕ) (files : List (List ℕ × FileData)) → ArePairs (slice_cmp nat_cmp) files → (file : List ℕ) → In file (names_with old files)
    → has_no_points (points_at (key_of file old) files) ≡ false
named_has_points old files sorted file i =
    let pair = In-unmap (λ (p : List ℕ × FileData). p.0) (filter (λ p. has_points_of old p.1) files) file i in
    let own = In-unfilter (λ (p : List ℕ × FileData). has_points_of old p.1) files pair.0 pair.1 in
    let found : value_of (slice_cmp nat_cmp) pair.0.0 files ≡ Some pair.0.1 = value_of_pair names_order pair.0.0 pair.0.1 files sorted own.0 in
    let has : has_no_points (points_at (key_of pair.0.0 old) files) ≡ false =
    ap (λ (f : Option FileData). has_no_points (points_in f old)) found ∙ not_false (has_no_points (points_in (Some pair.0.1) old)) own.1 in
    subst (λ (name : List ℕ). has_no_points (points_at (key_of name old) files) ≡ false) pair.2 has

-- ---- the loop over the files

-- of the files with points of the old test, `some` are copied, and `rest` are still to be copied
pub record HasCopied (old new : List ℕ) (some rest : List (List ℕ)) (before now : StoreData) : Type 0 where
  pub committed : SameCommitted before now
  pub names : names_with old before.committed ≡ some ++ rest
  pub rows : List Row
  pub first : IsStateOf rows before.committed
  pub few : 2 * length rows ≤ 2 ^ 47
  pub state : IsStateOf (rows ++ copies_of old new rows some) now.staged

-- at first no file is copied
pub none_copied : (old new : List ℕ) (names : List (List ℕ)) (store : StoreData) (totals : Totals) → IsKept store totals → store.staged ≡ store.committed → names ≡ names_with old store.committed
    → HasCopied old new [] names store store
none_copied old new names store totals kept still named =
    let rows = all_rows kept.is.own in
    record {
      committed = same_committed store;
      names = sym named;
      rows = rows;
      first = kept.is.state;
      few = omega (arith, rows_in_table kept.is.own kept.is.small, kept.is.few);
      state = subst (λ (rs : List Row). IsStateOf rs store.staged) (sym (append-nil rows)) (subst (λ (files : List (List ℕ × FileData)). IsStateOf rows files) (sym still) kept.is.state);
    }

module _ (old new : List ℕ) (apart : old ≡ new → ⊥) (some : List (List ℕ)) (before now : StoreData) where
  -- there is room for the next file
  pub copy_room : (file : List ℕ) (rest : List (List ℕ)) → HasCopied old new some (file ∷ rest) before now → HasRoomToCopy file old now
  copy_room file rest copied =
      let items : items_at (key_of file old) (copied.rows ++ copies_of old new copied.rows some) ≡ items_at (key_of file old) copied.rows = later_items old new apart file copied.rows some in
      let room : length (copied.rows ++ copies_of old new copied.rows some) + length (items_at (key_of file old) copied.rows) ≤ 2 * length copied.rows =
      copied_room old new copied.rows before.committed copied.first.ascending some file rest copied.names in
      let has : has_no_points (points_at (key_of file old) before.committed) ≡ false =
      named_has_points old before.committed copied.first.ascending file (subst (In file) (sym copied.names) (last_in some rest file)) in
      record {
        own = copied.rows;
        stands = copied.committed.committed.states copied.rows copied.first;
        rows = copied.rows ++ copies_of old new copied.rows some;
        state = copied.state;
        few = omega (arith, room, copied.few, ap (λ (is : List ItemData). length is) items);
        some = ap has_no_points (points_still old new apart file copied.rows some before.committed now.staged copied.first copied.state) ∙ has;
        same = points_still old new apart file copied.rows some now.committed now.staged (copied.committed.committed.states copied.rows copied.first) copied.state;
      }

  -- after the next file is copied, it is the last of the copied ones
  pub one_file_copied : (file : List ℕ) (rest : List (List ℕ)) → HasCopied old new some (file ∷ rest) before now → (later : StoreData) → SameCommitted now later
      → Copies file old new now.staged later.staged → HasCopied old new (some ++ file ∷ []) rest before later
  one_file_copied file rest copied later committed copies = record {
    committed = held_by_both before now later copied.committed committed;
    names = copied.names ∙ sym (append_assoc some (file ∷ []) rest);
    rows = copied.rows;
    first = copied.first;
    few = copied.few;
    state = copied_next old new apart file copied.rows some now.staged later.staged copied.state copies;
  }

  -- after the last file the rename is prepared
  pub moving_ready : HasCopied old new some [] before now → IsMoving now old new old
  moving_ready copied =
      let names : some ≡ names_with old before.committed = sym (copied.names ∙ append-nil some) in
      let state : IsStateOf (copied.rows ++ moved_rows old new copied.rows) now.staged =
      all_copied old new copied.rows before.committed now.staged copied.first
      (subst (λ (ns : List (List ℕ)). IsStateOf (copied.rows ++ copies_of old new copied.rows ns) now.staged) names copied.state) in
      record {
        is_old = refl;
        apart = apart;
        moves = λ rows committed. moved_too old new copied.rows rows now.committed (copied.committed.committed.states copied.rows copied.first) committed now.staged state;
      }

-- ---- files left and copied, by the index of the next one

module _ {D E : Type 0} (f : D → E) (items : List D) (i : ℕ) (d : D) (within : i < length items) (is : d ≡ get_or items i d) where
  pub left_at : map f (drop i items) ≡ f d ∷ map f (drop (i + 1) items)
  left_at = ap (map f) (drop_more items i d within) ∙ ap (λ (x : D). f x ∷ map f (drop (i + 1) items)) (sym is)

  pub taken_at : map f (take (i + 1) items) ≡ map f (take i items) ++ f d ∷ []
  taken_at = map_more f items i d within ∙ ap (λ (x : D). map f (take i items) ++ f x ∷ []) (sym is)
