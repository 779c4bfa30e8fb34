-- Changes of one file that leave the state as it is. Either a test without points is added, or texts are added to lines of which
-- no test holds a checksum.
use Rattle.covstore.proofs.Words.{◌≡◌, ℕ, true, false, Option, Some, None, List, [], map, refl, sym, ap, ◌∙◌, subst, arith, ⊎_elim, slice_cmp, sum_by, nat_cmp, cases_Bool, cond-false, cond-true, false≢true, Row, CountsOf, Each, Kind, above_of, at, cmp_of, IsIn, checksums_in, AreCounts, found_of, hit_of, KeepsIn, KeepsFile, tests_with, with_test, KeepsState, ArePairs, put, value_of, FileData, IsIndexOf, IsStateOf, IsConsistentFile, file_with, found_at, hit_at, points_in, tests_in, totals_in, TestData, test_of, In-from, names_order}
use Rattle.std.specs.Prelude.{if◌then◌else◌}
use Rattle.std.specs.Option.{is_some}
use Rattle.covstore.proofs.AddsLists.{put_there, put_twice}
use Rattle.covstore.proofs.AddsPlace.{checksum_held, state_agrees, text_kept}
use Rattle.covstore.proofs.Puts.{ArePairs-put, at_before, sum_by-put, value_of-put}
use Rattle.covstore.proofs.StateMore.{test_more}
use Rattle.covstore.proofs.StateRows.{file_whole, state_changed}
use Rattle.covstore.proofs.StateSections.{points_same}
use Rattle.covstore.proofs.EachKind.{totals_same}

module _ (name : List ℕ) (before after : FileData) (files : List (List ℕ × FileData)) (ascending : ArePairs (slice_cmp nat_cmp) files) (there : value_of (slice_cmp nat_cmp) name files ≡ Some before) where
  as_much : (f : List ℕ × FileData → ℕ) → f (name, after) ≡ f (name, before) → sum_by f (put (slice_cmp nat_cmp) name after files) ≡ sum_by f files
  as_much f same =
      let own : at_before f name (value_of (slice_cmp nat_cmp) name files) ≡ f (name, before) = ap (at_before f name) there in
      omega (arith, sum_by-put names_order f name after files ascending, own, same)

  -- a file with the same counts leaves the totals as they are
  pub totals_stay : after.index.counts ≡ before.index.counts → totals_in (put (slice_cmp nat_cmp) name after files) ≡ totals_in files
  totals_stay counts =
      totals_same (put (slice_cmp nat_cmp) name after files) files
      (λ kind. (as_much (found_at kind) (ap (λ (all : Each CountsOf). found_of (at kind all)) counts), as_much (hit_at kind) (ap (λ (all : Each CountsOf). hit_of (at kind all)) counts)))

-- ---- a test without points is added

is_none : {X : Type 0} (found : Option X) → is_some found ≡ false → found ≡ None
is_none None e = refl
is_none (Some x) e = absurd (false≢true (sym e))

module _ (name test : List ℕ) (file : FileData) (files : List (List ℕ × FileData)) (ascending : ArePairs (slice_cmp nat_cmp) files) (is : value_of (slice_cmp nat_cmp) name files ≡ Some file) where
  with_test_keeps : KeepsState files (put (slice_cmp nat_cmp) name (with_test test file) files)
  with_test_keeps =
      ⊎_elim {C = KeepsState files (put (slice_cmp nat_cmp) name (with_test test file) files)}
      (λ (there : is_some (value_of (slice_cmp nat_cmp) test file.tests) ≡ true).
      let same = cond-true (is_some (value_of (slice_cmp nat_cmp) test file.tests)) file.tests (put (slice_cmp nat_cmp) test (test_of []) file.tests) there in
      subst (λ (tests : List (List ℕ × TestData)). KeepsState files (put (slice_cmp nat_cmp) name (file_with tests file.index) files)) (sym same)
      (subst (KeepsState files) (sym (put_there names_order name file files ascending is)) (record { states = λ rows state. state; totals = refl })))
      (λ (none : is_some (value_of (slice_cmp nat_cmp) test file.tests) ≡ false).
      let more = cond-false (is_some (value_of (slice_cmp nat_cmp) test file.tests)) file.tests (put (slice_cmp nat_cmp) test (test_of []) file.tests) none in
      subst (λ (tests : List (List ℕ × TestData)). KeepsState files (put (slice_cmp nat_cmp) name (file_with tests file.index) files)) (sym more)
      (record {
        states = λ rows state. test_more rows files state name test file is (is_none (value_of (slice_cmp nat_cmp) test file.tests) none);
        totals = totals_stay name file (file_with (put (slice_cmp nat_cmp) test (test_of []) file.tests) file.index) files ascending is refl;
      }))
      (cases_Bool (is_some (value_of (slice_cmp nat_cmp) test file.tests)))

pub test_keeps : (test : List ℕ) (file : FileData) → KeepsIn file (with_test test file)
test_keeps test file files name ascending is = with_test_keeps name test file files ascending is

-- the value that the key has afterwards: the one before, or the new one
pub made_ready : {X : Type 0} (key : List ℕ) (new : X) (pairs : List (List ℕ × X))
    → (x : X) × (value_of (slice_cmp nat_cmp) key (if is_some (value_of (slice_cmp nat_cmp) key pairs) then pairs else put (slice_cmp nat_cmp) key new pairs) ≡ Some x)
made_ready {X} key new pairs = at (value_of (slice_cmp nat_cmp) key pairs) refl
  where
    at : (found : Option X) → value_of (slice_cmp nat_cmp) key pairs ≡ found → (x : X) × (value_of (slice_cmp nat_cmp) key (if is_some found then pairs else put (slice_cmp nat_cmp) key new pairs) ≡ Some x)
    at None e = (new, value_of-put names_order key new pairs)
    at (Some x) e = (x, e)

-- ---- texts of lines whose checksum no test holds

module _ (before after : FileData) (keeps : KeepsFile before after) where
  still_whole : IsConsistentFile before → IsConsistentFile after
  still_whole whole = record {
    ascending = subst (ArePairs (slice_cmp nat_cmp)) (sym keeps.tests) whole.ascending;
    kept = subst (λ (tests : List (List ℕ × TestData)). IsIndexOf (map (λ (pair : List ℕ × TestData). pair.1) tests) after.index) (sym keeps.tests) (record {
      counts = subst (λ (counts : Each CountsOf). (kind : Kind) → AreCounts (cmp_of kind) (above_of kind) (map (at kind) (tests_in before)) (at kind counts)) (sym keeps.index.counts) whole.kept.counts;
      holders = λ line. ap (value_of nat_cmp line) keeps.index.holders ∙ whole.kept.holders line;
    });
  }

  module _ (name : List ℕ) (rows : List Row) (files : List (List ℕ × FileData)) (state : IsStateOf rows files) (is : value_of (slice_cmp nat_cmp) name files ≡ Some before) where
    -- the file is in the state, after a test without points and with the empty name is added to the file
    its_place : IsIn rows (put (slice_cmp nat_cmp) name (with_test [] before) files) name [] (tests_with [] before.tests) (made_ready [] (test_of []) before.tests).0 before.index
    its_place = record {
      state = (test_keeps [] before files name state.ascending is).states rows state;
      agree = state_agrees rows files state;
      its_file = value_of-put names_order name (with_test [] before) files;
      its_test = (made_ready [] (test_of []) before.tests).1;
    }

    file_state : IsStateOf rows (put (slice_cmp nat_cmp) name after files)
    file_state = state_changed rows rows files state name after (record {
      whole = still_whole (file_whole rows files state name before is);
      points = λ t.
          points_same after before t (ap (value_of (slice_cmp nat_cmp) t) keeps.tests)
          ∙ ap (λ (found : Option FileData). points_in found t) (sym is) ∙ state.points (record { file = name; test = t });
      others = λ key other. refl;
      texts = λ c i same.
          keeps.index.texts c.line (checksum_held its_place c (In-from (checksums_in rows) c i) same) ∙ text_kept its_place c (In-from (checksums_in rows) c i) same;
      held_before = λ c i other. i;
    })

  pub file_keeps : KeepsIn before after
  file_keeps files name ascending is = record {
    states = λ rows state. file_state name rows files state is;
    totals = totals_stay name before after files ascending is keeps.index.counts;
  }

-- ---- one change after another

pub state_stays : (files : List (List ℕ × FileData)) → KeepsState files files
state_stays files = record { states = λ rows state. state; totals = refl }

pub both_keep : (a b c : List (List ℕ × FileData)) → KeepsState a b → KeepsState b c → KeepsState a c
both_keep a b c first second = record { states = λ rows state. second.states rows (first.states rows state); totals = second.totals ∙ first.totals }

pub keeps_then : (name : List ℕ) (before after : FileData) (files ready : List (List ℕ × FileData)) → KeepsState files ready → ArePairs (slice_cmp nat_cmp) ready → value_of (slice_cmp nat_cmp) name ready ≡ Some before → KeepsIn before after
    → KeepsState files (put (slice_cmp nat_cmp) name after ready)
keeps_then name before after files ready first ascending there keeps =
    both_keep files ready (put (slice_cmp nat_cmp) name after ready) first (keeps ready name ascending there)

pub keeps_both : (a b c : FileData) → KeepsIn a b → KeepsIn b c → KeepsIn a c
keeps_both a b c first second files name ascending is =
    subst (KeepsState files) (put_twice names_order name b c files)
    (keeps_then name b c files (put (slice_cmp nat_cmp) name b files) (first files name ascending is) (ArePairs-put names_order name b files ascending) (value_of-put names_order name b files) second)

pub keeps_same : (file other : FileData) → other ≡ file → KeepsIn file other
keeps_same file other same files name ascending is =
    subst (KeepsState files) (sym (ap (λ (f : FileData). put (slice_cmp nat_cmp) name f files) same ∙ put_there names_order name file files ascending is))
    (record { states = λ rows state. state; totals = refl })
