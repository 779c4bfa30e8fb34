-- A worker reads its share to the end, also after it was refused something.
use Rattle.std.proofs.Common.{◌≡◌, ◌∙◌, inl, inr, ℕ, zero, suc, ◌+◌, ◌-◌, ◌^◌, ◌≤◌, min, arith, length-append, List, [], ◌∷◌, ◌++◌, length, map, Option, None, Some, Err, slice_get, ap, sym, refl, subst}
use Rattle.std.specs.Prelude.{IsSomeAnd}
use Rattle.std.proofs.lemmas.List.{map-append}
use Rattle.std.proofs.lemmas.Option.{none-some}
use Rattle.covdata.specs.Row.{SubmissionData}
use Rattle.covbook.specs.declared.book.BookFault.{BookFault}
use Rattle.covbook.specs.Op.{OpData, SubmitOp, NoSuchTestAnswer, ReceiptData}
use Rattle.covworkers.specs.declared.readers.Readers.{Readers}
use Rattle.covworkers.specs.declared.refused.RefusedInput.{RefusedInput}
use Rattle.covworkers.specs.declared.shares.Placed.{Placed}
use Rattle.covworkers.specs.declared.stop.Stop.{Stop}
use Rattle.covworkers.specs.declared.stop.Stop.TheVariants as stops
use Rattle.covworkers.specs.Collect.{HasRead, submitted, refusal, ops_in}
use Rattle.covworkers.specs.Shares.{share_of}
use Rattle.covworkers.specs.Stops.{IsStopAt, counted_of}
use Rattle.covworkers.specs.Work.{Chances, Takes, WorkerData, HasTaken, HasOutcome, HasParts, HasReadAll, HasReadBefore, HasEnded, IsStopPlace, IsUnreadAt}
use Rattle.covworkers.proofs.ReadAfter.{none_read}
use Rattle.covworkers.proofs.Taken.{Outcome}
use Rattle.covworkers.proofs.Underway.{IsUnderway, none_underway, one_taken, all_taken, next_of}

some_outcome : {X F : Type 0} (Gives : X → Outcome F → Type 0) (inputs : List X) (place : ℕ) (outcome : Outcome F) → IsSomeAnd (slice_get inputs place) (λ input. Gives input outcome)
    → IsSomeAnd (slice_get inputs place) (λ input. HasOutcome (Gives input))
some_outcome Gives [] place outcome is = absurd is
some_outcome Gives (x ∷ inputs) zero outcome is = (outcome, is)
some_outcome Gives (x ∷ inputs) (suc place) outcome is = some_outcome Gives inputs place outcome is

-- what a job has taken it has read
pub read_of : {X F : Type 0} (chances : Chances X F) (inputs : List X) (jobs job count : ℕ) (receipts : List ReceiptData) (refused : List (RefusedInput F)) → HasTaken chances.Gives inputs jobs job count receipts refused → HasReadBefore chances inputs jobs job count
read_of chances inputs jobs job count receipts refused taken = λ place less within own. some_outcome chances.Gives inputs place (taken.outcome place) (taken.outcomes place less own)

-- a worker has read its share except for `rest`, so it would be underway with these `receipts` and `refused` inputs: at least `parts`
-- receipts. As long as it was refused nothing, these are the worker's own
pub record IsGoingOn {X F : Type 0} (Gives : X → Outcome F → Type 0) (inputs : List X) (jobs job : ℕ) (rest : List (Placed X)) (first : Option BookFault) (parts : ℕ) (worker : WorkerData F) : Type 0 where
  pub receipts : List ReceiptData
  pub refused : List (RefusedInput F)
  pub underway : IsUnderway Gives inputs jobs job rest receipts refused
  pub counted : parts ≤ length receipts
  pub own : first ≡ None → (receipts ≡ worker.receipts) × (refused ≡ worker.refused) × HasRead worker.has_reader worker.receipts worker.readings

pub none_gone : {X F : Type 0} (Gives : X → Outcome F → Type 0) (inputs : List X) (jobs job : ℕ) (share : List (Placed X)) (first : Option BookFault) (worker : WorkerData F)
    → share ≡ share_of inputs jobs job → worker.receipts ≡ [] → worker.refused ≡ [] → worker.readings ≡ [] → IsGoingOn Gives inputs jobs job share first 0 worker
none_gone Gives inputs jobs job share first worker is no_receipts none_refused no_readings = record {
  receipts = worker.receipts;
  refused = worker.refused;
  underway = none_underway Gives inputs jobs job share worker.receipts worker.refused is no_receipts none_refused;
  counted = omega arith;
  own = λ well. (refl, refl, none_read worker.has_reader worker.receipts worker.readings no_receipts no_readings);
}

-- a receipt of each submission that would have been submitted
abbrev receipts_of : List SubmissionData → List ReceiptData
receipts_of submissions = map (λ (s : SubmissionData). record { place = 0; op = SubmitOp s; answer = NoSuchTestAnswer }) submissions

ops_of : (submissions : List SubmissionData) → ops_in (receipts_of submissions) ≡ map SubmitOp submissions
ops_of [] = refl
ops_of (s ∷ submissions) = ap (λ (ops : List OpData). SubmitOp s ∷ ops) (ops_of submissions)

many_receipts : (submissions : List SubmissionData) → length (receipts_of submissions) ≡ length submissions
many_receipts [] = refl
many_receipts (s ∷ submissions) = ap suc (many_receipts submissions)

own_underway : {X F : Type 0} (Gives : X → Outcome F → Type 0) (inputs : List X) (jobs job : ℕ) (rest : List (Placed X)) (receipts own : List ReceiptData) (refused refuses : List (RefusedInput F)) → receipts ≡ own → refused ≡ refuses
    → IsUnderway Gives inputs jobs job rest receipts refused → IsUnderway Gives inputs jobs job rest own refuses
own_underway {X} {F} Gives inputs jobs job rest receipts own refused refuses same same_refused underway =
    subst (λ (rs : List (RefusedInput F)). IsUnderway Gives inputs jobs job rest own rs) same_refused
    (subst (λ (rs : List ReceiptData). IsUnderway Gives inputs jobs job rest rs refused) same underway)

-- the input's submissions are counted in addition to those before
more_counted : (before more counted : ℕ) (receipts : List ReceiptData) (submissions : List SubmissionData) → counted ≡ min (before + more) (2 ^ 64 - 1) → before ≤ length receipts → more ≤ length submissions
    → counted ≤ length (receipts ++ receipts_of submissions)
more_counted before more counted receipts submissions is so_far many =
    omega (arith, is, so_far, many, length-append receipts (receipts_of submissions), many_receipts submissions)

-- the next input of the share is read, and taken if nothing is refused
pub one_gone : {X F : Type 0} (Gives : X → Outcome F → Type 0) (inputs : List X) (jobs job : ℕ) (placed : Placed X) (rest : List (Placed X)) (first fault : Option BookFault) (before more counted : ℕ) (old new : WorkerData F)
    → IsGoingOn Gives inputs jobs job (placed ∷ rest) first before old → HasParts (Gives placed.input) more → counted ≡ counted_of fault (length new.receipts) before more
    → (fault ≡ None → (first ≡ None) × Takes (Gives placed.input) placed.index (ops_in old.receipts) (ops_in new.receipts) old.refused new.refused)
    → (fault ≡ None → HasRead old.has_reader old.receipts old.readings → HasRead new.has_reader new.receipts new.readings)
    → IsGoingOn Gives inputs jobs job rest fault counted new
one_gone Gives inputs jobs job placed rest first None before more counted old new so_far has count takes read =
    let well = takes refl in
    let own = so_far.own well.0 in
    record {
      receipts = new.receipts;
      refused = new.refused;
      underway =
          one_taken Gives inputs jobs job placed rest old.receipts new.receipts old.refused new.refused (own_underway Gives inputs jobs job (placed ∷ rest) so_far.receipts old.receipts so_far.refused old.refused own.0 own.1 so_far.underway)
          well.1;
      counted = omega (arith, count);
      own = λ is. (refl, refl, read refl own.2);
    }
one_gone {X} {F} Gives inputs jobs job placed rest first (Some fault) before more counted old new so_far has count takes read =
    let receipts : List ReceiptData = so_far.receipts ++ receipts_of (submitted has.0) in
    let refused : List (RefusedInput F) = so_far.refused ++ refusal placed.index has.0 in
    record {
      receipts = receipts;
      refused = refused;
      underway =
          one_taken Gives inputs jobs job placed rest so_far.receipts receipts so_far.refused refused so_far.underway
          (record {
            outcome = has.0;
            is_outcome = has.1;
            submits = map-append (λ (r : ReceiptData). r.op) so_far.receipts (receipts_of (submitted has.0)) ∙ ap (λ (ops : List OpData). ops_in so_far.receipts ++ ops) (ops_of (submitted has.0));
            tells = refl;
          });
      counted = more_counted before more counted so_far.receipts (submitted has.0) count so_far.counted has.2;
      own = λ is. absurd (none-some fault (sym is));
    }

-- nothing of the share is left: what was read is the whole share, and the worker stops behind all inputs
pub all_read : {X F : Type 0} (chances : Chances X F) (inputs : List X) (jobs job upto parts : ℕ) (rest : List (Placed X)) (first : Option BookFault) (worker : WorkerData F) → IsGoingOn chances.Gives inputs jobs job rest first parts worker → rest ≡ []
    → length inputs ≤ upto → HasReadBefore chances inputs jobs job upto × IsStopPlace inputs jobs job upto × (length inputs ≤ upto → HasReadAll chances.Gives inputs jobs job parts)
all_read chances inputs jobs job upto parts rest first worker so_far none behind =
    let taken = all_taken chances.Gives inputs jobs job rest so_far.receipts so_far.refused so_far.underway none in
    (λ place less within own. read_of chances inputs jobs job (length inputs) so_far.receipts so_far.refused taken place within within own, inr behind, λ all. (so_far.receipts, so_far.refused, taken, so_far.counted))

-- if nothing was refused, the worker has taken its share
pub all_gone : {X F : Type 0} (Gives : X → Outcome F → Type 0) (inputs : List X) (jobs job : ℕ) (rest : List (Placed X)) (first : Option BookFault) (parts : ℕ) (worker : WorkerData F) → IsGoingOn Gives inputs jobs job rest first parts worker → rest ≡ []
    → first ≡ None → HasTaken Gives inputs jobs job (length inputs) worker.receipts worker.refused
all_gone Gives inputs jobs job rest first parts worker so_far none well =
    let own = so_far.own well in
    all_taken Gives inputs jobs job rest worker.receipts worker.refused (own_underway Gives inputs jobs job rest so_far.receipts worker.receipts so_far.refused worker.refused own.0 own.1 so_far.underway) none

-- an input isn't behind all inputs
not_behind : {X : Type 0} (inputs : List X) (index : ℕ) (input : X) → slice_get inputs index ≡ Some input → length inputs ≤ index → ⊥
not_behind [] index input is behind = none-some input is
not_behind (first ∷ inputs) zero input is behind = omega (arith, behind)
not_behind (first ∷ inputs) (suc index) input is behind = not_behind inputs index input is (omega (arith, behind))

-- a worker that stops while it reads an input has ended as `HasEnded` says
pub stop_of : {X F : Type 0} (chances : Chances X F) (readers : Readers) (inputs : List X) (jobs job : ℕ) (placed : Placed X) (rest : List (Placed X)) (first : Option BookFault) (parts : ℕ) (worker : WorkerData F) (stop : Stop)
    → IsGoingOn chances.Gives inputs jobs job (placed ∷ rest) first parts worker → IsStopAt placed.index (chances.MayFail placed.input) stop
    → HasEnded chances (record { inputs = inputs; jobs = jobs; job = job; readers = readers }) (Err stop)
stop_of {X} chances readers inputs jobs job placed rest first parts worker (stops.Unread index) so_far is =
    let next = next_of chances.Gives inputs jobs job placed rest so_far.receipts so_far.refused so_far.underway in
    subst (λ (i : ℕ). IsUnreadAt chances inputs jobs job i) (sym is.0)
    (record {
      own = next.own;
      before = read_of chances inputs jobs job placed.index so_far.receipts so_far.refused next.taken;
      fails = subst (λ (found : Option X). IsSomeAnd found chances.MayFail) (sym next.is) is.1;
    })
stop_of chances readers inputs jobs job placed rest first parts worker (stops.Refused refusal) so_far is =
    let next = next_of chances.Gives inputs jobs job placed rest so_far.receipts so_far.refused so_far.underway in
    subst (λ (i : ℕ). HasReadBefore chances inputs jobs job i × IsStopPlace inputs jobs job i × (length inputs ≤ i → HasReadAll chances.Gives inputs jobs job refusal.parts)) (sym is)
    (read_of chances inputs jobs job placed.index so_far.receipts so_far.refused next.taken, inl next.own, λ behind. absurd (not_behind inputs placed.index placed.input next.is behind))
