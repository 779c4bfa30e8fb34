-- Statements about each kind of points, and what stays when the points of one kind change.
use Rattle.covstore.proofs.Words.{◌≡◌, List, ◌∷◌, ◌++◌, length, map, sym, ap, subst, arith, ℕ, length-map, map-append, FileIndexData, counts_totals, HasRoom, HasRoomOfKind, KeepsCountsOfKind, AreCounts, Branch, CountsOf, Each, Function, Kind, Line, PointsOf, above_of, at, cmp_of, of_each, with_at, FileData, IsIndexOf, found_at, hit_at, totals_in, TestData, IsTallyOf, totals_by, IsExactOrder, branches_order, lines_order, names_order, sum_by}
use Rattle.covstore.specs.declared.point_index.KindTally.{KindTally}

-- ---- by cases, for each kind. Other files state and prove things of any kind at once

pub each_kind : (P : Kind → Type 0) → P Line → P Function → P Branch → (kind : Kind) → P kind
each_kind P line function branch Line = line
each_kind P line function branch Function = function
each_kind P line function branch Branch = branch

pub order_of : (kind : Kind) → IsExactOrder (cmp_of kind)
order_of Line = lines_order
order_of Function = names_order
order_of Branch = branches_order

at_with : {T U : Kind → Type 0} (P : (kind : Kind) → T kind → U kind → Type 0) (own : Kind) (value : T own) (other : U own) (all : Each T) (others : Each U)
    → P own value other → ((kind : Kind) → P kind (at kind all) (at kind others)) → (kind : Kind) → P kind (at kind (with_at own value all)) (at kind (with_at own other others))
at_with P Line value other all others own rest Line = own
at_with P Line value other all others own rest Function = rest Function
at_with P Line value other all others own rest Branch = rest Branch
at_with P Function value other all others own rest Line = rest Line
at_with P Function value other all others own rest Function = own
at_with P Function value other all others own rest Branch = rest Branch
at_with P Branch value other all others own rest Line = rest Line
at_with P Branch value other all others own rest Function = rest Function
at_with P Branch value other all others own rest Branch = own

pub of_all : {T : Kind → Type 0} (P : (kind : Kind) → T kind → Type 0) (f : (kind : Kind) → T kind) → ((kind : Kind) → P kind (f kind)) → (kind : Kind) → P kind (at kind (of_each f))
of_all P f all Line = all Line
of_all P f all Function = all Function
of_all P f all Branch = all Branch

pub same_each : {T : Kind → Type 0} (all others : Each T) → ((kind : Kind) → at kind all ≡ at kind others) → all ≡ others
same_each all others same = λ i. record { lines = same Line i; functions = same Function i; branches = same Branch i }

pub same_test : (test other : TestData) → test.lines ≡ other.lines → test.functions ≡ other.functions → test.branches ≡ other.branches → test ≡ other
same_test test other lines functions branches = λ i. record { lines = lines i; functions = functions i; branches = branches i }

-- ---- one test among others

pub map_between : {X Y : Type 0} (f : X → Y) (front : List X) (x : X) (back : List X) → map f (front ++ x ∷ back) ≡ map f front ++ f x ∷ map f back
map_between f front x back = map-append f front (x ∷ back)

pub room_in : (own : Kind) (test : TestData) (index : FileIndexData) → HasRoom test index → HasRoomOfKind (cmp_of own) (above_of own) (at own test) (at own index.counts)
room_in own test index room = record {
  front = map (at own) room.front;
  back = map (at own) room.back;
  kept = subst (λ (tests : List (PointsOf own)). AreCounts (cmp_of own) (above_of own) tests (at own index.counts)) (map_between (at own) room.front test room.back) (room.kept.counts own);
  few_tests = omega (arith, ap (λ (tests : List (PointsOf own)). length tests) (map_between (at own) room.front test room.back), length-map (room.front ++ test ∷ room.back) (at own), room.few_tests);
  few = room.few own;
}

-- if the counts of one kind stay right while the test's points of this kind change, the counts of all kinds stay right
pub keeps_added : (own : Kind) (after : PointsOf own) (more : CountsOf own) (test : TestData) (index : FileIndexData) → KeepsCountsOfKind (cmp_of own) (above_of own) (at own test) after (at own index.counts) more
    → (front back : List TestData) → IsIndexOf (front ++ test ∷ back) index → (kind : Kind)
    → AreCounts (cmp_of kind) (above_of kind) (map (at kind) (front ++ with_at own after test ∷ back)) (at kind (with_at own more index.counts))
keeps_added own after more test index keeps front back are kind =
    let changed : TestData = with_at own after test in
    let counts : CountsOf kind = at kind (with_at own more index.counts) in
    let all = at_with (λ (k : Kind) (points : PointsOf k) (kept : CountsOf k). KeepsCountsOfKind (cmp_of k) (above_of k) (at k test) points (at k index.counts) kept) own after more test index.counts keeps
    (λ k front back are. are) in
    let before = subst (λ (tests : List (PointsOf kind)). AreCounts (cmp_of kind) (above_of kind) tests (at kind index.counts)) (map_between (at kind) front test back) (are.counts kind) in
    subst (λ (tests : List (PointsOf kind)). AreCounts (cmp_of kind) (above_of kind) tests counts) (sym (map_between (at kind) front changed back)) (all kind (map (at kind) front) (map (at kind) back) before)

-- ---- totals

pub totals_same : (files others : List (List ℕ × FileData)) → ((kind : Kind) → (sum_by (found_at kind) files ≡ sum_by (found_at kind) others) × (sum_by (hit_at kind) files ≡ sum_by (hit_at kind) others)) → totals_in files ≡ totals_in others
totals_same files others same =
    λ i. record { lf = (same Line).0 i; lh = (same Line).1 i; ff = (same Function).0 i; fh = (same Function).1 i; bf = (same Branch).0 i; bh = (same Branch).1 i }

pub totals_of_tallies : (counts : Each CountsOf) (lines functions branches : KindTally) → IsTallyOf counts.lines lines → IsTallyOf counts.functions functions → IsTallyOf counts.branches branches
    → totals_by lines functions branches ≡ counts_totals counts
totals_of_tallies counts lines functions branches l f b = λ i. record { lf = l.found i; lh = l.hit i; ff = f.found i; fh = f.hit i; bf = b.found i; bh = b.hit i }
