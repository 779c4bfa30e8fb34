-- How inputs come into the shares of jobs.
use Rattle.std.proofs.Common.{◌≡◌, ◌∙◌, ℕ, zero, suc, ◌+◌, ◌<◌, ◌%◌, List, [], ◌∷◌, ◌++◌, length, map, replicate, Option, Some, Result, slice_get, get_or, set, ap, sym, refl, subst, arith}
use Rattle.std.specs.List.{AllByRecursion, range_with_len}
use Rattle.std.proofs.lemmas.Bool.{eq-eqb, ne_eqb}
use Rattle.std.proofs.lemmas.List.{append-nil, append_assoc, length-append}
use Rattle.std.proofs.lemmas.List.FromFn.{length-map-range_with_len}
use Rattle.std.proofs.lemmas.Nat.{mod_below}
use Rattle.covlock.specs.Seat.{SeatData, fresh_seat, first_seats}
use Rattle.covworkers.specs.declared.shares.Placed.{Placed}
use Rattle.covworkers.specs.declared.readers.Readers.{Readers}
use Rattle.covworkers.specs.declared.stop.Stop.{Stop}
use Rattle.covworkers.specs.Collect.{brought, places_of_job}
use Rattle.covworkers.specs.Shares.{placed_at, share_of, shares_of}
use Rattle.covworkers.specs.Work.{Chances, WorkerData, HaveEndedIfStarted, work_of}
use Rattle.covworkers.proofs.Taken.{brought_more, brought_past}
use Rattle.covworkers.proofs.Whole.{works_from}

-- what each of `some` jobs, from the job `from` on, has of the first `count` places
abbrev pub dealt_to : {X : Type 0} → (bring : ℕ → List X) → (jobs count from some : ℕ) → List (List X)
dealt_to bring jobs count from some = map (λ job. brought (places_of_job jobs job) bring count) (range_with_len from some)

pub none_dealt : {X : Type 0} (bring : ℕ → List X) (jobs from some : ℕ) → replicate some [] ≡ dealt_to bring jobs 0 from some
none_dealt bring jobs from zero = refl
none_dealt {X} bring jobs from (suc some) = ap (λ (shares : List (List X)). [] ∷ shares) (none_dealt bring jobs (from + 1) some)

-- a place of a job before `from` changes nothing for the jobs from `from` on
same_dealt : {X : Type 0} (bring : ℕ → List X) (jobs count from some : ℕ) → count % jobs < from → dealt_to bring jobs count from some ≡ dealt_to bring jobs (count + 1) from some
same_dealt bring jobs count from zero earlier = refl
same_dealt {X} bring jobs count from (suc some) earlier =
    ap (λ (share : List X). share ∷ dealt_to bring jobs count (from + 1) some) (sym (brought_past (places_of_job jobs from) bring count (ne_eqb (count % jobs) from (λ same. omega (arith, earlier, same)))))
    ∙ ap (λ (shares : List (List X)). brought (places_of_job jobs from) bring (count + 1) ∷ shares) (same_dealt bring jobs count (from + 1) some (omega (arith, earlier)))

more_from : {X : Type 0} (bring : ℕ → List X) (jobs count from some k : ℕ) (here : X) → bring count ≡ here ∷ [] → count % jobs ≡ from + k → k < some
    → set (dealt_to bring jobs count from some) k (get_or (dealt_to bring jobs count from some) k [] ++ here ∷ []) ≡ dealt_to bring jobs (count + 1) from some
more_from bring jobs count from zero k here brings place below = absurd (omega (arith, below))
more_from {X} bring jobs count from (suc some) zero here brings place below =
    ap (λ (share : List X). share ∷ dealt_to bring jobs count (from + 1) some) (sym (brought_more (places_of_job jobs from) bring bring count (here ∷ []) (λ index less. refl) (eq-eqb (count % jobs) from (omega (arith, place))) brings))
    ∙ ap (λ (shares : List (List X)). brought (places_of_job jobs from) bring (count + 1) ∷ shares) (same_dealt bring jobs count (from + 1) some (omega (arith, place)))
more_from {X} bring jobs count from (suc some) (suc k) here brings place below =
    ap (λ (share : List X). share ∷ set (dealt_to bring jobs count (from + 1) some) k (get_or (dealt_to bring jobs count (from + 1) some) k [] ++ here ∷ [])) (sym (brought_past (places_of_job jobs from) bring count (ne_eqb (count % jobs) from (λ same. omega (arith, place, same)))))
    ∙ ap (λ (shares : List (List X)). brought (places_of_job jobs from) bring (count + 1) ∷ shares) (more_from bring jobs count (from + 1) some k here brings (omega (arith, place)) (omega (arith, below)))

-- one more place is dealt
pub one_dealt : {X : Type 0} (bring : ℕ → List X) (jobs count : ℕ) (here : X) → bring count ≡ here ∷ [] → count % jobs < jobs
    → set (dealt_to bring jobs count 0 jobs) (count % jobs) (get_or (dealt_to bring jobs count 0 jobs) (count % jobs) [] ++ here ∷ []) ≡ dealt_to bring jobs (count + 1) 0 jobs
one_dealt bring jobs count here brings below = more_from bring jobs count 0 jobs (count % jobs) here brings (none_before (count % jobs)) below
  where
    none_before : (k : ℕ) → k ≡ 0 + k
    none_before k = omega arith

-- the first inputs are dealt out, and these are left
pub record IsDealing {X : Type 0} (inputs : List X) (jobs count : ℕ) (rest : List X) (shares : List (List (Placed X))) : Type 0 where
  pub before : List X
  pub all : before ++ rest ≡ inputs
  pub many : length before ≡ count
  pub dealt : shares ≡ dealt_to (λ index. placed_at index (slice_get inputs index)) jobs count 0 jobs

pub none_yet : {X : Type 0} (inputs : List X) (jobs count : ℕ) (rest : List X) (shares : List (List (Placed X))) → count ≡ 0 → rest ≡ inputs → shares ≡ replicate jobs [] → IsDealing inputs jobs count rest shares
none_yet {X} inputs jobs count rest shares none same empty =
    let bring : ℕ → List (Placed X) = λ index. placed_at index (slice_get inputs index) in
    record { before = []; all = same; many = sym none; dealt = empty ∙ none_dealt bring jobs 0 jobs ∙ ap (λ (n : ℕ). dealt_to bring jobs n 0 jobs) (sym none) }

-- there is a share for each job
pub shares_long : {X : Type 0} (inputs : List X) (jobs count : ℕ) (rest : List X) (shares : List (List (Placed X))) → IsDealing inputs jobs count rest shares → length shares ≡ jobs
shares_long {X} inputs jobs count rest shares so_far =
    ap (λ (ss : List (List (Placed X))). length ss) so_far.dealt
    ∙ length-map-range_with_len (λ (job : ℕ). brought (places_of_job jobs job) (λ index. placed_at index (slice_get inputs index)) count) 0 jobs

found_behind : {X : Type 0} (before : List X) (input : X) (rest : List X) → slice_get (before ++ input ∷ rest) (length before) ≡ Some input
found_behind [] input rest = refl
found_behind (other ∷ before) input rest = found_behind before input rest

-- the next input is put at the end of the share of its place's job
pub next_dealt : {X : Type 0} (inputs : List X) (jobs count : ℕ) (input : X) (rest : List X) (shares after : List (List (Placed X))) → 0 < jobs → IsDealing inputs jobs count (input ∷ rest) shares
    → after ≡ set shares (count % jobs) (get_or shares (count % jobs) [] ++ record { index = count; input = input } ∷ []) → IsDealing inputs jobs (count + 1) rest after
next_dealt {X} inputs jobs count input rest shares after some so_far given =
    let bring : ℕ → List (Placed X) = λ index. placed_at index (slice_get inputs index) in
    let here : Placed X = record { index = count; input = input } in
    let found : slice_get inputs count ≡ Some input =
    subst (λ (n : ℕ). slice_get inputs n ≡ Some input) so_far.many (subst (λ (xs : List X). slice_get xs (length so_far.before) ≡ Some input) so_far.all (found_behind so_far.before input rest)) in
    record {
      before = so_far.before ++ input ∷ [];
      all = append_assoc so_far.before (input ∷ []) rest ∙ so_far.all;
      many = length-append so_far.before (input ∷ []) ∙ ap (λ (n : ℕ). n + 1) so_far.many;
      dealt = given ∙ ap (λ (ss : List (List (Placed X))). set ss (count % jobs) (get_or ss (count % jobs) [] ++ here ∷ [])) so_far.dealt
          ∙ one_dealt bring jobs count here (ap (λ (o : Option X). placed_at count o) found) (mod_below count jobs some);
    }

-- if no input is left, the shares of all jobs are complete
pub all_dealt : {X : Type 0} (inputs : List X) (jobs count : ℕ) (rest : List X) (shares : List (List (Placed X))) → IsDealing inputs jobs count rest shares → rest ≡ [] → shares ≡ shares_of inputs jobs
all_dealt {X} inputs jobs count rest shares so_far none =
    let whole : count ≡ length inputs =
    sym so_far.many ∙ ap (λ (xs : List X). length xs) (sym (append-nil so_far.before) ∙ ap (λ (xs : List X). so_far.before ++ xs) (sym none) ∙ so_far.all) in
    so_far.dealt ∙ ap (λ (n : ℕ). dealt_to (λ index. placed_at index (slice_get inputs index)) jobs n 0 jobs) whole

-- the shares of all jobs are those of all seats
of_seats : {X : Type 0} (share : ℕ → List X) (from some : ℕ) → map share (range_with_len from some) ≡ map (λ (seat : SeatData). share seat.job) (map fresh_seat (range_with_len from some))
of_seats share from zero = refl
of_seats {X} share from (suc some) = ap (λ (shares : List (List X)). share from ∷ shares) (of_seats share (from + 1) some)

pub share_for_each : {X : Type 0} (inputs dealt : List X) (jobs : ℕ) (seats : List SeatData) (shares : List (List (Placed X))) → dealt ≡ inputs → seats ≡ first_seats jobs → shares ≡ shares_of inputs jobs
    → shares ≡ map (λ (seat : SeatData). share_of dealt jobs seat.job) seats
share_for_each {X} inputs dealt jobs seats shares same seated are =
    are ∙ of_seats (share_of inputs jobs) 0 jobs
    ∙ ap (λ (xs : List X). map (λ (seat : SeatData). share_of xs jobs seat.job) (first_seats jobs)) (sym same)
    ∙ ap (λ (ss : List SeatData). map (λ (seat : SeatData). share_of dealt jobs seat.job) ss) (sym seated)

-- the seats are those of all jobs, so how their workers ended is how the work of all jobs ended
pub ended_for_all : {X F : Type 0} (chances : Chances X F) (readers : Readers) (inputs dealt : List X) (jobs : ℕ) (seats : List SeatData) (ended : List (Result (WorkerData F) Stop)) → dealt ≡ inputs → seats ≡ first_seats jobs
    → HaveEndedIfStarted chances (map (work_of dealt jobs readers) seats) ended → HaveEndedIfStarted chances (works_from inputs jobs readers 0 jobs) ended
ended_for_all {X} chances readers inputs dealt jobs seats ended same seated done =
    subst (λ (xs : List X). HaveEndedIfStarted chances (works_from xs jobs readers 0 jobs) ended) same
    (subst (λ (ss : List SeatData). HaveEndedIfStarted chances (map (work_of dealt jobs readers) ss) ended) seated done)

-- the seats of all jobs are fresh
fresh_from : (from some : ℕ) → AllByRecursion (λ (seat : SeatData). seat ≡ fresh_seat seat.job) (map fresh_seat (range_with_len from some))
fresh_from from zero = tt
fresh_from from (suc some) = (refl, fresh_from (from + 1) some)

pub all_fresh : (jobs : ℕ) (seats : List SeatData) → seats ≡ first_seats jobs → AllByRecursion (λ (seat : SeatData). seat ≡ fresh_seat seat.job) seats
all_fresh jobs seats seated = subst (λ (ss : List SeatData). AllByRecursion (λ (seat : SeatData). seat ≡ fresh_seat seat.job) ss) (sym seated) (fresh_from 0 jobs)
