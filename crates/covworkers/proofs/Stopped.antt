-- Which of the workers' ends is returned, as the ends are looked through.
use Rattle.std.proofs.Common.{◌≡◌, ◌∙◌, ◌⊎◌, inl, inr, ℕ, zero, suc, ◌+◌, ◌<◌, ◌≤◌, length, min, Bool, true, false, List, [], ◌∷◌, ◌++◌, map, Option, None, Some, Ok, Err, ap, sym, refl, subst, arith}
use Rattle.std.specs.Prelude.{if◌then◌else◌, nat_lt}
use Rattle.std.specs.List.{AllByRecursion, Contains, sum_by}
use Rattle.std.proofs.lemmas.List.Sums.{sum_by-cons}
use Rattle.std.proofs.lemmas.Bool.{cases_lt, ltb-true, ltb-false}
use Rattle.std.proofs.lemmas.Option.{none-some}
use Rattle.covbook.specs.declared.book.BookFault.{BookFault}
use Rattle.covworkers.specs.declared.stop.Refusal.{Refusal}
use Rattle.covworkers.specs.declared.stop.Stop.{Stop}
use Rattle.covworkers.specs.declared.stop.Stop.TheVariants as stops
use Rattle.covworkers.specs.Stops.{both_of, lesser_of, more_parts, no_memory, worst_of}
use Rattle.covworkers.specs.Work.{WorkerData, IsUnrefused, IsNotBefore, IsFirstFault, IsFrom, IsLeastUnread, IsWorstEnd, parts_of_end, parts_of_stop}
use Rattle.covworkers.proofs.Ended.{End}

-- ---- what is known of the ends so far

-- an end isn't at an input that can't be read, or it is at this place or after it
abbrev IsUnreadFrom : {F : Type 0} → ℕ → End F → Type 0
IsUnreadFrom least (Ok worker) = Unit {0}
IsUnreadFrom least (Err (stops.Unread index)) = least ≤ index
IsUnreadFrom least (Err (stops.Refused refusal)) = Unit {0}

abbrev IsNoUnread : {F : Type 0} → End F → Type 0
IsNoUnread (Ok worker) = Unit {0}
IsNoUnread (Err (stops.Unread index)) = ⊥
IsNoUnread (Err (stops.Refused refusal)) = Unit {0}

-- a worker that was refused something has read its inputs before this place
abbrev HasReadUpto : {F : Type 0} → ℕ → End F → Type 0
HasReadUpto upto (Ok worker) = Unit {0}
HasReadUpto upto (Err (stops.Unread index)) = Unit {0}
HasReadUpto upto (Err (stops.Refused refusal)) = upto ≤ refusal.upto

-- the least place of an input that can't be read
abbrev pub IsLeast : {F : Type 0} → Option ℕ → List (End F) → Type 0
IsLeast None ended = AllByRecursion IsNoUnread ended
IsLeast (Some least) ended = AllByRecursion (IsUnreadFrom least) ended × Contains ended (Err (stops.Unread least))

-- the first fault, and a place before which each worker that was refused something has read its inputs
abbrev pub IsLeastRefused : {F : Type 0} → Option Refusal → List (End F) → Type 0
IsLeastRefused None ended = AllByRecursion IsUnrefused ended
IsLeastRefused (Some refusal) ended =
    AllByRecursion (HasReadUpto refusal.upto) ended × ((found : Refusal) × (found.upto ≡ refusal.upto) × Contains ended (Err (stops.Refused found))) × IsFirstFault ended refusal.fault

-- if all ended well, they are these workers
abbrev AreWorkers : {F : Type 0} → List (WorkerData F) → Option ℕ → Option Refusal → List (End F) → Type 0
AreWorkers workers None None ended = map Ok workers ≡ ended
AreWorkers workers (Some least) refused ended = Unit {0}
AreWorkers workers None (Some refusal) ended = Unit {0}

-- these ends and the ends that are left are all ends
pub record AreSoFar {F : Type 0} (workers : List (WorkerData F)) (least : Option ℕ) (refused : Option Refusal) (left ended : List (End F)) : Type 0 where
  pub front : List (End F)
  pub all : front ++ left ≡ ended
  pub unread : IsLeast least front
  pub refusals : IsLeastRefused refused front
  pub well : AreWorkers workers least refused front

all_joined : {X : Type 0} (P : X → Type 0) (xs : List X) (x : X) → AllByRecursion P xs → P x → AllByRecursion P (xs ++ x ∷ [])
all_joined P [] x all here = (here, tt)
all_joined P (y ∷ xs) x all here = (all.0, all_joined P xs x all.1 here)

later_contains : {F : Type 0} (ended : List (End F)) (end other : End F) → Contains ended other → Contains (ended ++ end ∷ []) other
later_contains [] end other there = absurd (omega (arith, there.1))
later_contains (e ∷ ended) end other (zero, less, is) = (0, omega arith, is)
later_contains (e ∷ ended) end other (suc k, less, is) =
    let rest = later_contains ended end other (k, omega (arith, less), is) in
    (suc rest.0, omega (arith, rest.1), rest.2)

last_contains : {F : Type 0} (ended : List (End F)) (end : End F) → Contains (ended ++ end ∷ []) end
last_contains [] end = (0, omega arith, refl)
last_contains (e ∷ ended) end = let rest = last_contains ended end in (suc rest.0, omega (arith, rest.1), rest.2)

map_after : {F : Type 0} (workers : List (WorkerData F)) (worker : WorkerData F) → ◌≡◌ {A = List (End F)} (map Ok (workers ++ worker ∷ [])) (map Ok workers ++ Ok worker ∷ [])
map_after [] worker = refl
map_after {F} (w ∷ workers) worker = ap (λ (es : List (End F)). Ok w ∷ es) (map_after workers worker)

on_front : {F : Type 0} (front : List (End F)) (end : End F) (left ended : List (End F)) → front ++ end ∷ left ≡ ended → (front ++ end ∷ []) ++ left ≡ ended
on_front front end left ended all = joined front end left ∙ all
  where
    joined : {F : Type 0} (front : List (End F)) (end : End F) (left : List (End F)) → (front ++ end ∷ []) ++ left ≡ front ++ end ∷ left
    joined [] end left = refl
    joined {F} (e ∷ front) end left = ap (λ (es : List (End F)). e ∷ es) (joined front end left)

abbrev stop_in : Stop → Option Stop → Stop
stop_in other None = other
stop_in other (Some stop) = stop

some_is : (one other : Stop) → ◌≡◌ {A = Option Stop} (Some one) (Some other) → one ≡ other
some_is one other same = ap (λ (s : Option Stop). stop_in one s) same

all_of : {F : Type 0} (P : End F → Type 0) (ended : List (End F)) (end : End F) → AllByRecursion P ended → Contains ended end → P end
all_of P [] end all there = absurd (omega (arith, there.1))
all_of P (e ∷ ended) end all (zero, less, is) = subst P is all.0
all_of P (e ∷ ended) end all (suc k, less, is) = all_of P ended end all.1 (k, omega (arith, less), is)

all_by : {F : Type 0} (P Q : End F → Type 0) → ((end : End F) → P end → Q end) → (ended : List (End F)) → AllByRecursion P ended → AllByRecursion Q ended
all_by P Q from [] all = tt
all_by P Q from (end ∷ ended) all = (from end all.0, all_by P Q from ended all.1)

all_both : {F : Type 0} (P Q R : End F → Type 0) → ((end : End F) → P end → Q end → R end) → (ended : List (End F)) → AllByRecursion P ended → AllByRecursion Q ended → AllByRecursion R ended
all_both P Q R from [] all both = tt
all_both P Q R from (end ∷ ended) all both = (from end all.0 both.0, all_both P Q R from ended all.1 both.1)

-- ---- one more end

-- one more end, which isn't at an input that can't be read: the least place stays
keeps_least : {F : Type 0} (least : Option ℕ) (front : List (End F)) (end : End F) → IsNoUnread end → ((n : ℕ) → IsUnreadFrom n end) → IsLeast least front → IsLeast least (front ++ end ∷ [])
keeps_least None front end none from is = all_joined IsNoUnread front end is none
keeps_least (Some least) front end none from is = (all_joined (IsUnreadFrom least) front end is.0 (from least), later_contains front end (Err (stops.Unread least)) is.1)

first_stays : {F : Type 0} (front : List (End F)) (end : End F) (fault : BookFault) → IsFirstFault front fault → IsFirstFault (front ++ end ∷ []) fault
first_stays {F} front end fault first =
    (first.0, first.1, first.2 ++ end ∷ [], first.3, ap (λ (es : List (End F)). es ++ end ∷ []) first.4 ∙ joined first.0 (Err (stops.Refused first.1)) first.2 end, first.5)
  where
    joined : {F : Type 0} (before : List (End F)) (here : End F) (after : List (End F)) (end : End F) → (before ++ here ∷ after) ++ end ∷ [] ≡ before ++ here ∷ (after ++ end ∷ [])
    joined [] here after end = refl
    joined {F} (e ∷ before) here after end = ap (λ (es : List (End F)). e ∷ es) (joined before here after end)

-- one more end, which is no refusal: the first refusal stays
keeps_refused : {F : Type 0} (refused : Option Refusal) (front : List (End F)) (end : End F) → IsUnrefused end → ((n : ℕ) → HasReadUpto n end) → IsLeastRefused refused front → IsLeastRefused refused (front ++ end ∷ [])
keeps_refused None front end well upto is = all_joined IsUnrefused front end is well
keeps_refused (Some refusal) front end well upto is = (
  all_joined (HasReadUpto refusal.upto) front end is.0 (upto refusal.upto),
  (is.1.0, is.1.1, later_contains front end (Err (stops.Refused is.1.0)) is.1.2),
  first_stays front end refusal.fault is.2,
)

-- no end yet
pub none_so_far : {F : Type 0} (left ended : List (End F)) → left ≡ ended → AreSoFar [] None None left ended
none_so_far left ended is = record { front = []; all = is; unread = tt; refusals = tt; well = refl }

more_workers : {F : Type 0} (workers : List (WorkerData F)) (worker : WorkerData F) (least : Option ℕ) (refused : Option Refusal) (front : List (End F)) → AreWorkers workers least refused front → AreWorkers (workers ++ worker ∷ []) least refused (front ++ Ok worker ∷ [])
more_workers {F} workers worker None None front are = map_after workers worker ∙ ap (λ (es : List (End F)). es ++ Ok worker ∷ []) are
more_workers workers worker (Some least) refused front are = tt
more_workers workers worker None (Some refusal) front are = tt

-- one more worker that ended well
pub well_so_far : {F : Type 0} (workers : List (WorkerData F)) (worker : WorkerData F) (least : Option ℕ) (refused : Option Refusal) (left ended : List (End F)) → AreSoFar workers least refused (Ok worker ∷ left) ended
    → AreSoFar (workers ++ worker ∷ []) least refused left ended
well_so_far workers worker least refused left ended so_far = record {
  front = so_far.front ++ Ok worker ∷ [];
  all = on_front so_far.front (Ok worker) left ended so_far.all;
  unread = keeps_least least so_far.front (Ok worker) tt (λ n. tt) so_far.unread;
  refusals = keeps_refused refused so_far.front (Ok worker) tt (λ n. tt) so_far.refusals;
  well = more_workers workers worker least refused so_far.front so_far.well;
}

from_any : {F : Type 0} (index : ℕ) (end : End F) → IsNoUnread end → IsUnreadFrom index end
from_any index (Ok worker) none = tt
from_any index (Err (stops.Unread other)) none = absurd none
from_any index (Err (stops.Refused refusal)) none = tt

lower : {F : Type 0} (least lesser : ℕ) → lesser ≤ least → (end : End F) → IsUnreadFrom least end → IsUnreadFrom lesser end
lower least lesser le (Ok worker) is = tt
lower least lesser le (Err (stops.Unread index)) is = omega (arith, le, is)
lower least lesser le (Err (stops.Refused refusal)) is = tt

either : (m n : ℕ) → (min m n ≡ m) ⊎ (min m n ≡ n)
either m n = elim (cases_lt m n) [
  | inl less ↦ inl (omega (arith, less))
  | inr more ↦ inr (omega (arith, more))
]

lesser_least : {F : Type 0} (least : Option ℕ) (index : ℕ) (front : List (End F)) → IsLeast least front → IsLeast (Some (lesser_of least index)) (front ++ Err (stops.Unread index) ∷ [])
lesser_least None index front is = (
  all_joined (IsUnreadFrom index) front (Err (stops.Unread index)) (all_by IsNoUnread (IsUnreadFrom index) (from_any index) front is) (omega arith),
  last_contains front (Err (stops.Unread index)),
)
lesser_least {F} (Some least) index front is =
    let end : End F = Err (stops.Unread index) in
    let lesser = min least index in (
      all_joined (IsUnreadFrom lesser) front end (all_by (IsUnreadFrom least) (IsUnreadFrom lesser) (lower least lesser (omega arith)) front is.0) (omega arith),
      elim (either least index) [
        | inl same ↦ subst (λ (n : ℕ). Contains (front ++ end ∷ []) (Err (stops.Unread n))) (sym same) (later_contains front end (Err (stops.Unread least)) is.1)
        | inr same ↦ subst (λ (n : ℕ). Contains (front ++ end ∷ []) (Err (stops.Unread n))) (sym same) (last_contains front end)
      ],
    )

-- one more worker that stopped at an input that can't be read
pub unread_so_far : {F : Type 0} (workers : List (WorkerData F)) (least : Option ℕ) (refused : Option Refusal) (index : ℕ) (left ended : List (End F)) → AreSoFar workers least refused (Err (stops.Unread index) ∷ left) ended
    → AreSoFar workers (Some (lesser_of least index)) refused left ended
unread_so_far workers least refused index left ended so_far = record {
  front = so_far.front ++ Err (stops.Unread index) ∷ [];
  all = on_front so_far.front (Err (stops.Unread index)) left ended so_far.all;
  unread = lesser_least least index so_far.front so_far.unread;
  refusals = keeps_refused refused so_far.front (Err (stops.Unread index)) tt (λ n. tt) so_far.refusals;
  well = tt;
}

upto_any : {F : Type 0} (upto : ℕ) (end : End F) → IsUnrefused end → HasReadUpto upto end
upto_any upto (Ok worker) well = tt
upto_any upto (Err (stops.Unread index)) well = tt
upto_any upto (Err (stops.Refused refusal)) well = absurd well

sooner : {F : Type 0} (upto lesser : ℕ) → lesser ≤ upto → (end : End F) → HasReadUpto upto end → HasReadUpto lesser end
sooner upto lesser le (Ok worker) is = tt
sooner upto lesser le (Err (stops.Unread index)) is = tt
sooner upto lesser le (Err (stops.Refused refusal)) is = omega (arith, le, is)

both_refused : {F : Type 0} (refused : Option Refusal) (next : Refusal) (front : List (End F)) → IsLeastRefused refused front → IsLeastRefused (Some (both_of refused next)) (front ++ Err (stops.Refused next) ∷ [])
both_refused None next front is = (
  all_joined (HasReadUpto next.upto) front (Err (stops.Refused next)) (all_by IsUnrefused (HasReadUpto next.upto) (upto_any next.upto) front is) (omega arith),
  (next, refl, last_contains front (Err (stops.Refused next))),
  (front, next, [], is, refl, refl),
)
both_refused {F} (Some first) next front is =
    let end : End F = Err (stops.Refused next) in
    let lesser = min first.upto next.upto in (
      all_joined (HasReadUpto lesser) front end (all_by (HasReadUpto first.upto) (HasReadUpto lesser) (sooner first.upto lesser (omega arith)) front is.0) (omega arith),
      elim (either first.upto next.upto) [
        | inl same ↦ (is.1.0, is.1.1 ∙ sym same, later_contains front end (Err (stops.Refused is.1.0)) is.1.2)
        | inr same ↦ (next, sym same, last_contains front end)
      ],
      first_stays front end first.fault is.2,
    )

no_workers : {F : Type 0} (workers : List (WorkerData F)) (least : Option ℕ) (refusal : Refusal) (front : List (End F)) → AreWorkers workers least (Some refusal) front
no_workers workers None refusal front = tt
no_workers workers (Some least) refusal front = tt

-- one more worker that was refused something
pub refused_so_far : {F : Type 0} (workers : List (WorkerData F)) (least : Option ℕ) (refused : Option Refusal) (next : Refusal) (left ended : List (End F)) → AreSoFar workers least refused (Err (stops.Refused next) ∷ left) ended
    → AreSoFar workers least (Some (both_of refused next)) left ended
refused_so_far workers least refused next left ended so_far = record {
  front = so_far.front ++ Err (stops.Refused next) ∷ [];
  all = on_front so_far.front (Err (stops.Refused next)) left ended so_far.all;
  unread = keeps_least least so_far.front (Err (stops.Refused next)) tt (λ n. tt) so_far.unread;
  refusals = both_refused refused next so_far.front so_far.refusals;
  well = no_workers workers least (both_of refused next) (so_far.front ++ Err (stops.Refused next) ∷ []);
}

-- ---- all ends

-- no end is left
pub all_so_far : {F : Type 0} (workers : List (WorkerData F)) (least : Option ℕ) (refused : Option Refusal) (left ended : List (End F)) → AreSoFar workers least refused left ended → left ≡ [] → AreSoFar workers least refused [] ended
all_so_far {F} workers least refused left ended so_far none = subst (λ (es : List (End F)). AreSoFar workers least refused es ended) none so_far

whole_front : {F : Type 0} (workers : List (WorkerData F)) (least : Option ℕ) (refused : Option Refusal) (ended : List (End F)) (so_far : AreSoFar workers least refused [] ended) → so_far.front ≡ ended
whole_front workers least refused ended so_far = sym (nothing_after so_far.front) ∙ so_far.all
  where
    nothing_after : {F : Type 0} (front : List (End F)) → front ++ [] ≡ front
    nothing_after [] = refl
    nothing_after {F} (end ∷ front) = ap (λ (es : List (End F)). end ∷ es) (nothing_after front)

not_before : {F : Type 0} (index : ℕ) (end : End F) → IsUnreadFrom index end → IsUnrefused end → IsNotBefore index end
not_before index (Ok worker) from well = tt
not_before index (Err (stops.Unread other)) from well = from
not_before index (Err (stops.Refused refusal)) from well = absurd well

not_before_any : {F : Type 0} (index upto : ℕ) → index < upto → (end : End F) → IsUnreadFrom index end → HasReadUpto upto end → IsNotBefore index end
not_before_any index upto less (Ok worker) from has = tt
not_before_any index upto less (Err (stops.Unread other)) from has = from
not_before_any index upto less (Err (stops.Refused refusal)) from has = omega (arith, less, has)

no_least : {F : Type 0} (ended : List (End F)) (index : ℕ) → AllByRecursion IsNoUnread ended → IsLeastUnread ended index → ⊥
no_least ended index none is = all_of IsNoUnread ended (Err (stops.Unread index)) none is.1

later_least : {F : Type 0} (ended : List (End F)) (index least : ℕ) (found : Refusal) → AllByRecursion (IsUnreadFrom least) ended → Contains ended (Err (stops.Refused found)) → found.upto ≤ least → IsLeastUnread ended index → ⊥
later_least ended index least found from there late is =
    let after : least ≤ index = all_of (IsUnreadFrom least) ended (Err (stops.Unread index)) from is.1 in
    let before : index < found.upto = all_of (IsNotBefore index) ended (Err (stops.Refused found)) is.0 there in
    omega (arith, after, before, late)

-- no end is before the place up to which the refused ones have read
from_both : {F : Type 0} (index upto : ℕ) → upto ≤ index → (end : End F) → IsUnreadFrom index end → HasReadUpto upto end → IsFrom upto end
from_both index upto late (Ok worker) from has = tt
from_both index upto late (Err (stops.Unread other)) from has = omega (arith, late, from)
from_both index upto late (Err (stops.Refused refusal)) from has = has

from_none : {F : Type 0} (upto : ℕ) (end : End F) → IsNoUnread end → HasReadUpto upto end → IsFrom upto end
from_none upto (Ok worker) none has = tt
from_none upto (Err (stops.Unread other)) none has = absurd none
from_none upto (Err (stops.Refused refusal)) none has = has

either_worst : {F : Type 0} (index : ℕ) (refusal : Refusal) (ended : List (End F)) (test : Bool) → nat_lt index refusal.upto ≡ test → IsLeast (Some index) ended → IsLeastRefused (Some refusal) ended
    → IsWorstEnd ended (if test then stops.Unread index else stops.Refused refusal)
either_worst index refusal ended true is least refused =
    (all_both (IsUnreadFrom index) (HasReadUpto refusal.upto) (IsNotBefore index) (not_before_any index refusal.upto (ltb-true index refusal.upto is)) ended least.0 refused.0, least.1)
either_worst index refusal ended false is least refused =
    let late : refusal.upto ≤ index = ltb-false index refusal.upto is in (
      refused.2,
      λ other unread. later_least ended other index refused.1.0 least.0 refused.1.2 (omega (arith, refused.1.1, late)) unread,
      all_both (IsUnreadFrom index) (HasReadUpto refusal.upto) (IsFrom refusal.upto) (from_both index refusal.upto late) ended least.0 refused.0,
    )

worst_is : {F : Type 0} (least : Option ℕ) (refused : Option Refusal) (ended : List (End F)) → IsLeast least ended → IsLeastRefused refused ended → (stop : Stop) → worst_of least refused ≡ Some stop → IsWorstEnd ended stop
worst_is None None ended none well stop is = absurd (none-some stop is)
worst_is (Some index) None ended unread well stop is =
    subst (λ (s : Stop). IsWorstEnd ended s) (some_is (stops.Unread index) stop is) (all_both (IsUnreadFrom index) IsUnrefused (IsNotBefore index) (not_before index) ended unread.0 well, unread.1)
worst_is None (Some refusal) ended none refused stop is = subst (λ (s : Stop). IsWorstEnd ended s) (some_is (stops.Refused refusal) stop is)
    (refused.2, λ index unread. no_least ended index none unread, all_both IsNoUnread (HasReadUpto refusal.upto) (IsFrom refusal.upto) (from_none refusal.upto) ended none refused.0)
worst_is (Some index) (Some refusal) ended unread refused stop is =
    subst (λ (s : Stop). IsWorstEnd ended s) (some_is (if nat_lt index refusal.upto then stops.Unread index else stops.Refused refusal) stop is) (either_worst index refusal ended (nat_lt index refusal.upto) refl unread refused)

-- not all ended well: this is the worst end
pub worst_so_far : {F : Type 0} (workers : List (WorkerData F)) (least : Option ℕ) (refused : Option Refusal) (left ended : List (End F)) (stop : Stop) → AreSoFar workers least refused left ended → left ≡ [] → worst_of least refused ≡ Some stop → IsWorstEnd ended stop
worst_so_far {F} workers least refused left ended stop so_far none is =
    let all = all_so_far workers least refused left ended so_far none in
    subst (λ (es : List (End F)). IsWorstEnd es stop) (whole_front workers least refused ended all) (worst_is least refused all.front all.unread all.refusals stop is)

all_are : {F : Type 0} (workers : List (WorkerData F)) (least : Option ℕ) (refused : Option Refusal) (ended : List (End F)) → AreWorkers workers least refused ended → worst_of least refused ≡ None → map Ok workers ≡ ended
all_are workers None None ended are is = are
all_are workers (Some index) None ended are is = absurd (none-some (stops.Unread index) (sym is))
all_are workers None (Some refusal) ended are is = absurd (none-some (stops.Refused refusal) (sym is))
all_are workers (Some index) (Some refusal) ended are is = absurd (none-some (if nat_lt index refusal.upto then stops.Unread index else stops.Refused refusal) (sym is))

-- the parts of the workers that ended well change nothing of this
pub worst_with : {F : Type 0} (ended : List (End F)) (parts : ℕ) (stop : Stop) → IsWorstEnd ended stop → IsWorstEnd ended (more_parts parts stop)
worst_with ended parts (stops.Unread index) is = is
worst_with ended parts (stops.Refused refusal) is = is

-- ---- parts

abbrev pub parts_refused : Option Refusal → ℕ
parts_refused None = 0
parts_refused (Some refusal) = refusal.parts

-- the parts that were counted and those of the ends that are left are at most those of all ends
abbrev pub AreCounted : {F : Type 0} → (submitted : ℕ) → (refused : Option Refusal) → (left ended : List (End F)) → Type 0
AreCounted submitted refused left ended = submitted + parts_refused refused + sum_by parts_of_end left ≤ sum_by parts_of_end ended

-- a refusal of memory before anything was read has no parts
pub no_parts : {F : Type 0} (ended : List (End F)) (stop : Stop) → stop ≡ no_memory → parts_of_stop stop ≤ sum_by parts_of_end ended
no_parts ended stop is = subst (λ (s : Stop). parts_of_stop s ≤ sum_by parts_of_end ended) (sym is) (omega arith)

pub none_counted : {F : Type 0} (left ended : List (End F)) → left ≡ ended → AreCounted 0 None left ended
none_counted {F} left ended is =
    let same : sum_by parts_of_end left ≡ sum_by parts_of_end ended = ap (λ (es : List (End F)). sum_by parts_of_end es) is in
    omega (arith, same)

pub well_counted : {F : Type 0} (worker : WorkerData F) (submitted after : ℕ) (refused : Option Refusal) (left ended : List (End F)) → after ≤ submitted + length worker.receipts
    → AreCounted submitted refused (Ok worker ∷ left) ended → AreCounted after refused left ended
well_counted {F} worker submitted after refused left ended few so_far =
    let end : End F = Ok worker in
    let here : sum_by parts_of_end (end ∷ left) ≡ length worker.receipts + sum_by parts_of_end left = sum_by-cons parts_of_end end left in
    omega (arith, here, few, so_far)

pub unread_counted : {F : Type 0} (index submitted : ℕ) (refused : Option Refusal) (left ended : List (End F)) → AreCounted submitted refused (Err (stops.Unread index) ∷ left) ended → AreCounted submitted refused left ended
unread_counted {F} index submitted refused left ended so_far =
    let end : End F = Err (stops.Unread index) in
    let here : sum_by parts_of_end (end ∷ left) ≡ 0 + sum_by parts_of_end left = sum_by-cons parts_of_end end left in
    omega (arith, here, so_far)

both_few : (refused : Option Refusal) (next : Refusal) → (both_of refused next).parts ≤ parts_refused refused + next.parts
both_few None next = omega arith
both_few (Some first) next = omega arith

pub refused_counted : {F : Type 0} (next : Refusal) (submitted : ℕ) (refused : Option Refusal) (left ended : List (End F)) → AreCounted submitted refused (Err (stops.Refused next) ∷ left) ended
    → AreCounted submitted (Some (both_of refused next)) left ended
refused_counted {F} next submitted refused left ended so_far =
    let end : End F = Err (stops.Refused next) in
    let here : sum_by parts_of_end (end ∷ left) ≡ next.parts + sum_by parts_of_end left = sum_by-cons parts_of_end end left in
    omega (arith, here, so_far, both_few refused next)

worst_few : (least : Option ℕ) (refused : Option Refusal) (stop : Stop) → worst_of least refused ≡ Some stop → parts_of_stop stop ≤ parts_refused refused
worst_few None None stop is = absurd (none-some stop is)
worst_few (Some index) None stop is = subst (λ (s : Stop). parts_of_stop s ≤ 0) (some_is (stops.Unread index) stop is) (omega arith)
worst_few None (Some refusal) stop is = subst (λ (s : Stop). parts_of_stop s ≤ refusal.parts) (some_is (stops.Refused refusal) stop is) (omega arith)
worst_few (Some index) (Some refusal) stop is =
    subst (λ (s : Stop). parts_of_stop s ≤ refusal.parts) (some_is (if nat_lt index refusal.upto then stops.Unread index else stops.Refused refusal) stop is) (either_few index refusal (nat_lt index refusal.upto))
  where
    either_few : (index : ℕ) (refusal : Refusal) (test : Bool) → parts_of_stop (if test then stops.Unread index else stops.Refused refusal) ≤ refusal.parts
    either_few index refusal true = omega arith
    either_few index refusal false = omega arith

with_few : (parts : ℕ) (stop : Stop) → parts_of_stop (more_parts parts stop) ≤ parts + parts_of_stop stop
with_few parts (stops.Unread index) = omega arith
with_few parts (stops.Refused refusal) = omega arith

-- no end is left: the worst end has at most the parts of all ends
pub worst_counted : {F : Type 0} (submitted : ℕ) (least : Option ℕ) (refused : Option Refusal) (left ended : List (End F)) (stop : Stop) → AreCounted submitted refused left ended → worst_of least refused ≡ Some stop
    → parts_of_stop (more_parts submitted stop) ≤ sum_by parts_of_end ended
worst_counted submitted least refused left ended stop counted is = omega (arith, counted, worst_few least refused stop is, with_few submitted stop)

-- all ended well
pub well_at_end : {F : Type 0} (workers : List (WorkerData F)) (least : Option ℕ) (refused : Option Refusal) (left ended : List (End F)) → AreSoFar workers least refused left ended → left ≡ [] → worst_of least refused ≡ None → map Ok workers ≡ ended
well_at_end workers least refused left ended so_far none is =
    let all = all_so_far workers least refused left ended so_far none in
    all_are workers least refused all.front all.well is ∙ whole_front workers least refused ended all
