-- The seats of all jobs come back: the closed history is a merge of their logs, so it has an entry for each call, and no seat has seen
-- more.
use Rattle.std.proofs.Common.{◌≡◌, ◌∙◌, ℕ, zero, suc, ◌+◌, ◌<◌, ◌≤◌, List, [], ◌∷◌, ◌++◌, length, map, inl, inr, ap, sym, refl, subst, arith, add-one}
use Rattle.std.specs.List.{AllByRecursion, Contains}
use Rattle.std.proofs.lemmas.List.{append-nil, length-append, length-map}
use Rattle.std.proofs.lemmas.List.Sums.{sum_by-cons}
use Rattle.covbook.proofs.Counted.{log_after, merge_by_count, places_within}
use Rattle.covbook.proofs.Once.{told_once}
use Rattle.covbook.proofs.PlaceCounts.{In, In-from, Contains-from, all_joined, all_weaker}
use Rattle.covbook.specs.Gather.{LogData, AreReadingsOf, Differ, IsGathered, IsLogOf, jobs_of, places_of, places_in}
use Rattle.covbook.specs.Kept.{IsPrefix}
use Rattle.covbook.specs.Op.{EntryData, ReceiptData}
use Rattle.covbook.specs.Step.{max_entries}
use Rattle.covnews.proofs.Prefixes.{prefix_of_prefix, shorter_prefix}
use Rattle.covlock.specs.Handed.{AllAreSeated}
use Rattle.covlock.specs.Logs.{AreLogged, HasSeen, IsLogged}
use Rattle.covlock.specs.Seat.{SeatData, calls_in, log_of, logs_of}
use Rattle.covlock.specs.Weight.{weight, weight_below}
use Rattle.covlock.proofs.Seated.{all_need_seats, jobs_differ}
use Rattle.covlock.proofs.Weights.{AreWeighed, as_many, place_below, weight_append}

pub prefix_of_itself : (xs : List EntryData) → IsPrefix xs xs
prefix_of_itself xs = ([], append-nil xs)

-- the places of a log are those of entries
places_few : (entries : List EntryData) (log : LogData) (most : ℕ) → IsLogOf entries log → length entries ≤ most → AllByRecursion (λ (p : ℕ). p < most) (places_of log)
places_few entries log most is few = all_weaker (λ (p : ℕ). p < length entries) (λ (p : ℕ). p < most) (λ (p : ℕ) (h : p < length entries). omega (arith, h, few)) (places_of log) (places_within entries log is)

-- ---- the logs of all seats

in_left : (xs ys : List ℕ) (x : ℕ) → In x xs → In x (xs ++ ys)
in_left [] ys x h = absurd h
in_left (z ∷ xs) ys x (inl e) = inl e
in_left (z ∷ xs) ys x (inr h) = inr (in_left xs ys x h)

in_right : (xs ys : List ℕ) (x : ℕ) → In x ys → In x (xs ++ ys)
in_right [] ys x h = h
in_right (z ∷ xs) ys x h = inr (in_right xs ys x h)

left_contains : (xs ys : List ℕ) (x : ℕ) → Contains xs x → Contains (xs ++ ys) x
left_contains xs ys x h = Contains-from (xs ++ ys) x (in_left xs ys x (In-from xs x h))

right_contains : (xs ys : List ℕ) (x : ℕ) → Contains ys x → Contains (xs ++ ys) x
right_contains xs ys x h = Contains-from (xs ++ ys) x (in_right xs ys x (In-from ys x h))

abbrev LastIn : List ℕ → SeatData → Type 0
LastIn places s = (place : ℕ) → place + 1 ≡ s.seen → Contains places place

-- without seats there are no logs
pub none_logged : (history : List EntryData) (before after : ℕ) → after ≡ before → AreLogged history [] before after
none_logged history before after same = record { seen = tt; last = tt; few = tt; weighs = omega (arith, same) }

-- one more seat comes before those that have seen beginnings of a history, which also begins with that of the seat's latest news
one_logged : (history latest : List EntryData) (seat : SeatData) (seats : List SeatData) (before own after : ℕ) → IsLogged seat latest own → IsPrefix latest history
    → AreLogged history seats (before + own) after → AreLogged history (seat ∷ seats) before after
one_logged history latest seat seats before own after logged prefix are =
    let log = log_of seat in
    let others : List ℕ = places_in (logs_of seats) in
    let places : List ℕ = places_in (logs_of (seat ∷ seats)) in
    let adds : weight places ≡ weight (places_of log) + weight others = weight_append (places_of log) others in
    record {
      seen = (record { latest = latest; kept = logged.kept; prefix = prefix }, are.seen);
      last = (
        λ place ends. left_contains (places_of log) others place (logged.last place ends),
        all_weaker (LastIn others) (LastIn places) (λ (s : SeatData) (h : LastIn others s) (place : ℕ) (ends : place + 1 ≡ s.seen). right_contains (places_of log) others place (h place ends)) seats are.last,
      );
      few = all_joined (λ (p : ℕ). p < max_entries) (places_of log) others (places_few latest log max_entries logged.kept.log_of (omega (arith, logged.kept.upto, logged.few))) are.few;
      weighs = omega (arith, are.weighs, logged.weighs, adds);
    }

-- if the seats that are left have seen beginnings of a history that begins with these news, all seats have
abbrev Follows : List EntryData → (left : List SeatData) → (now : ℕ) → (seats : List SeatData) → (before : ℕ) → Type 0
Follows news left now seats before = (history : List EntryData) → (after : ℕ) → IsPrefix news history → AreLogged history left now after → AreLogged history seats before after

-- this stays if one more seat gives its share, and the news are then at least as long as its own
pub one_given : (news longer latest : List EntryData) (seat : SeatData) (left rest seats : List SeatData) (now own next before : ℕ) → left ≡ seat ∷ rest → next ≡ now + own → IsLogged seat latest own
    → IsPrefix news longer → IsPrefix latest longer → Follows news left now seats before → Follows longer rest next seats before
one_given news longer latest seat left rest seats now own next before is adds logged onward begins follows = λ history after prefix are.
    follows history after (prefix_of_prefix news longer history onward prefix)
    (subst (λ (ss : List SeatData). AreLogged history ss now after) (sym is)
    (one_logged history latest seat rest now own after logged (prefix_of_prefix latest longer history begins prefix) (subst (λ (n : ℕ). AreLogged history rest n after) adds are)))

-- the logs of the seats are logs of the history of which they have seen beginnings
logs_are_of : (history : List EntryData) (seats : List SeatData) → AllByRecursion (HasSeen history) seats → AllByRecursion (IsLogOf history) (logs_of seats)
logs_are_of history [] seen = tt
logs_are_of history (s ∷ seats) seen = (log_after seen.0.latest history (log_of s) seen.0.prefix seen.0.kept.log_of, logs_are_of history seats seen.1)

-- and they have a receipt for each call
places_count : (history : List EntryData) (seats : List SeatData) → AllByRecursion (HasSeen history) seats → length (places_in (logs_of seats)) ≡ calls_in seats
places_count history [] seen = refl
places_count history (s ∷ seats) seen =
    let parts : length (places_in (logs_of (s ∷ seats))) ≡ length (places_of (log_of s)) + length (places_in (logs_of seats)) = length-append (places_of (log_of s)) (places_in (logs_of seats)) in
    let here : length (places_of (log_of s)) ≡ length s.receipts = length-map s.receipts (λ (r : ReceiptData). r.place) in
    let counted : length s.receipts ≡ s.calls = seen.0.kept.counted in
    let sum : calls_in (s ∷ seats) ≡ s.calls + calls_in seats = sum_by-cons (λ (s : SeatData). s.calls) s seats in
    let rest : length (places_in (logs_of seats)) ≡ calls_in seats = places_count history seats seen.1 in
    omega (arith, parts, here, counted, sum, rest)

jobs_of_logs : (seats : List SeatData) → jobs_of (logs_of seats) ≡ map (λ (s : SeatData). s.job) seats
jobs_of_logs [] = refl
jobs_of_logs (s ∷ seats) = ap (λ (js : List ℕ). s.job ∷ js) (jobs_of_logs seats)

logs_differ : (jobs : ℕ) (seats : List SeatData) → AllAreSeated jobs seats → length seats ≤ jobs → Differ (jobs_of (logs_of seats))
logs_differ jobs seats seated few = subst (λ (js : List ℕ). Differ js) (sym (jobs_of_logs seats)) (jobs_differ jobs seats seated few)

-- ---- the closed history

last_below : (places : List ℕ) (n : ℕ) → AreWeighed places n → (seen : ℕ) → ((place : ℕ) → place + 1 ≡ seen → Contains places place) → seen ≤ n
last_below places n are zero last = omega arith
last_below places n are (suc p) last = let less = place_below places n are p (In-from places p (last p (add-one p))) in omega (arith, less)

all_closed : (seats : List SeatData) (places : List ℕ) (n : ℕ) → AreWeighed places n → AllByRecursion (LastIn places) seats → AllByRecursion (λ (s : SeatData). s.seen ≤ n) seats
all_closed seats places n are last = all_weaker (LastIn places) (λ (s : SeatData). s.seen ≤ n) (λ (s : SeatData) (h : LastIn places s). last_below places n are s.seen h) seats last

weighed : (history entries : List EntryData) (seats : List SeatData) (jobs total : ℕ) → AreLogged history seats 0 total → AllAreSeated jobs seats → length seats ≤ jobs
    → length entries ≤ max_entries → total ≡ weight_below (length entries) → AreWeighed (places_in (logs_of seats)) (length entries)
weighed history entries seats jobs total are seated few most counted = record {
  once = told_once history (logs_of seats) (logs_differ jobs seats seated few) (logs_are_of history seats are.seen);
  few = are.few;
  most = most;
  weight = omega (arith, are.weighs, counted);
}

-- no seat has seen more than the closed history, so all have seen beginnings of it
closed_logs : (history entries : List EntryData) (seats : List SeatData) → IsPrefix entries history → AllByRecursion (HasSeen history) seats
    → AllByRecursion (λ (s : SeatData). s.seen ≤ length entries) seats → AllByRecursion (IsLogOf entries) (logs_of seats)
closed_logs history entries [] prefix seen short = tt
closed_logs history entries (s ∷ seats) prefix seen short =
    let latest : List EntryData = seen.0.latest in
    let upto : length latest ≡ s.seen = seen.0.kept.upto in
    let begins : IsPrefix latest entries = shorter_prefix latest entries history seen.0.prefix prefix (omega (arith, upto, short.0)) in
    (log_after latest entries (log_of s) begins seen.0.kept.log_of, closed_logs history entries seats prefix seen.1 short.1)

nothing_read : (entries : List EntryData) (seats : List SeatData) → AllByRecursion (AreReadingsOf entries) (logs_of seats)
nothing_read entries [] = tt
nothing_read entries (s ∷ seats) = (tt, nothing_read entries seats)

-- what a close finds
pub record IsClosed (entries : List EntryData) (seats : List SeatData) : Type 0 where
  pub gathered : IsGathered entries (logs_of seats)
  pub calls : length entries ≡ calls_in seats
  pub seen : AllByRecursion (λ (s : SeatData). s.seen ≤ length entries) seats

is_closed : (history entries : List EntryData) (seats : List SeatData) (jobs total : ℕ) → AreLogged history seats 0 total → IsPrefix entries history → AllAreSeated jobs seats → length seats ≤ jobs
    → length entries ≤ max_entries → total ≡ weight_below (length entries) → IsClosed entries seats
is_closed history entries seats jobs total are prefix seated few most counted =
    let places : List ℕ = places_in (logs_of seats) in
    let weigh = weighed history entries seats jobs total are seated few most counted in
    let count : length places ≡ length entries = as_many places (length entries) weigh in
    let short = all_closed seats places (length entries) weigh are.last in
    record {
      gathered = record {
        merge = merge_by_count entries (logs_of seats) (logs_differ jobs seats seated few) (closed_logs history entries seats prefix are.seen short) count;
        readings = nothing_read entries seats;
      };
      calls = sym count ∙ places_count history seats are.seen;
      seen = short;
    }

-- the share to which all seats gave theirs began without parts and without an amount, and has every part
pub closed : (history entries news shown : List EntryData) (seats : List SeatData) (jobs first parts before after total : ℕ) → entries ≡ shown → news ≡ entries → IsPrefix news history → AllAreSeated jobs seats
    → AreLogged history seats before after → before ≡ 0 → first ≡ 0 → parts ≡ first + length seats → parts ≤ jobs → length entries ≤ max_entries → (parts ≡ jobs → after ≡ total)
    → total ≡ weight_below (length entries) → IsClosed shown seats
closed history entries news shown seats jobs first parts before after total view told prefix seated are none empty given few most whole counted =
    let enough = all_need_seats jobs seats seated in
    let all : after ≡ total = whole (omega (arith, empty, given, few, enough)) in
    subst (λ (es : List EntryData). IsClosed es seats) view
    (is_closed history entries seats jobs after (subst (λ (n : ℕ). AreLogged history seats n after) none are) (subst (λ (es : List EntryData). IsPrefix es history) told prefix) seated
    (omega (arith, empty, given, few)) most (all ∙ counted))
