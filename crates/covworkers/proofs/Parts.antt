-- An input that is read part by part is taken part by part.
use Rattle.std.proofs.Common.{◌≡◌, ◌∙◌, ℕ, suc, ◌+◌, ◌<◌, ◌≤◌, List, [], ◌∷◌, ◌++◌, length, map, Option, None, Some, Result, Ok, Err, ap, sym, refl, subst, arith, append_assoc}
use Rattle.std.specs.List.{sum_by}
use Rattle.std.specs.Prelude.{IfOk, IfSome}
use Rattle.std.specs.Result.{result_err}
use Rattle.std.proofs.lemmas.List.{append-nil}
use Rattle.std.proofs.lemmas.List.Sums.{sum_by-cons}
use Rattle.std.proofs.lemmas.Option.{none-some}
use Rattle.covdata.specs.Row.{SubmissionData}
use Rattle.covbook.specs.declared.book.BookFault.{BookFault}
use Rattle.covbook.specs.Op.{OpData, SubmitOp}
use Rattle.covworkers.specs.declared.late_fault.LateFault.{LateFault}
use Rattle.covworkers.specs.declared.late_fault.LateFault.TheVariants as late
use Rattle.covworkers.specs.declared.refused.RefusedInput.{RefusedInput}
use Rattle.covworkers.specs.declared.stop.Stop.{Stop}
use Rattle.covworkers.specs.declared.stop.Stop.TheVariants as stops
use Rattle.covworkers.specs.Collect.{HasRead, whole, submitted, refusal, ops_in}
use Rattle.covworkers.specs.Late.{IsNextPart}
use Rattle.covworkers.specs.Stops.{IsStopAt, of_late}
use Rattle.covworkers.specs.Work.{Chances, Takes, WorkerData, HasParts, GivesLeft, IsPartOf, IsReading, in_front, one_if_read}
use Rattle.covworkers.proofs.Taken.{Outcome, nothing}

-- ---- a part that is read

abbrev fault_in : {F : Type 0} → F → Result F Stop → F
fault_in other (Ok fault) = fault
fault_in other (Err stop) = other

-- a text that is refused ends the input with this fault
pub refused_part : {X F : Type 0} (A : Type 0) (MayGive : X → Outcome F → Type 0) (MayFail : X → Type 0) (most : X → ℕ) (input : X) (index : ℕ) (first : Option BookFault) (late_fault : LateFault F) (fault : F)
    → IsNextPart {A = A} MayGive MayFail most input (Err late_fault) → of_late index first late_fault ≡ Ok fault → IsPartOf MayGive input (Err fault) None
refused_part {X} {F} A MayGive MayFail most input index first (late.Refused found) fault is told = subst (λ (f : F). MayGive input (whole (Err f))) (ap (λ (r : Result F Stop). fault_in found r) told) is
refused_part A MayGive MayFail most input index first late.Unreadable fault is told = absurd cc
refused_part A MayGive MayFail most input index first late.Memory fault is told = absurd cc

-- ---- one part after another

same_first : (first : Option BookFault) → IfSome first (λ f. first ≡ Some f)
same_first None = tt
same_first (Some fault) = refl

same_lists : {F : Type 0} (first : Option BookFault) (worker : WorkerData F) → IfSome first (λ f. (worker.receipts ≡ worker.receipts) × (worker.refused ≡ worker.refused))
same_lists None worker = tt
same_lists (Some fault) worker = (refl, refl)

-- an outcome with some parts has fewer parts as well
fewer_parts : {F : Type 0} (Gives : Outcome F → Type 0) (parts fewer : ℕ) → fewer ≤ parts → HasParts Gives parts → HasParts Gives fewer
fewer_parts Gives parts fewer few (outcome, is, many) = (outcome, is, omega (arith, few, many))

-- nothing is read yet
pub none_of_it : {X F : Type 0} (chances : Chances X F) (index : ℕ) (input : X) (first : Option BookFault) (worker : WorkerData F) → IsReading chances index input first worker (Some input) first 0 worker
none_of_it chances index input first worker =
    record { outcome = λ more has. fewer_parts (chances.Gives input) more (0 + more) (omega arith) has; fails = λ may. may; well = λ is. is; kept = same_first first; idle = same_lists first worker; taken = λ none asks refuses takes. takes; read = λ none so_far. so_far }

still_fails : {X : Type 0} (MayFail : X → Type 0) (input rest : X) (left : Option X) → (MayFail rest → MayFail input) → IfSome left (λ more. MayFail more → MayFail rest) → IfSome left (λ more. MayFail more → MayFail input)
still_fails MayFail input rest None fails more = tt
still_fails MayFail input rest (Some left) fails more = λ may. fails (more may)

still_kept : (first fault after : Option BookFault) → IfSome first (λ f. fault ≡ Some f) → IfSome fault (λ f. after ≡ Some f) → IfSome first (λ f. after ≡ Some f)
still_kept None fault after is kept = tt
still_kept (Some first) fault after is kept = subst (λ (found : Option BookFault). IfSome found (λ f. after ≡ Some f)) is kept

still_idle : {F : Type 0} (first fault : Option BookFault) (old between new : WorkerData F) → IfSome first (λ f. fault ≡ Some f) → IfSome first (λ f. (between.receipts ≡ old.receipts) × (between.refused ≡ old.refused))
    → IfSome fault (λ f. (new.receipts ≡ between.receipts) × (new.refused ≡ between.refused)) → IfSome first (λ f. (new.receipts ≡ old.receipts) × (new.refused ≡ old.refused))
still_idle None fault old between new is idle more = tt
still_idle (Some first) fault old between new is idle more =
    let behind : (new.receipts ≡ between.receipts) × (new.refused ≡ between.refused) =
    subst (λ (found : Option BookFault). IfSome found (λ f. (new.receipts ≡ between.receipts) × (new.refused ≡ between.refused))) is more in
    (behind.0 ∙ idle.0, behind.1 ∙ idle.1)

-- more parts are read of what is left
pub more_of_it : {X F : Type 0} (chances : Chances X F) (index : ℕ) (input rest : X) (left : Option X) (first fault after : Option BookFault) (parts others all : ℕ) (old between new : WorkerData F)
    → all ≤ parts + others → IsReading chances index input first old (Some rest) fault parts between → IsReading chances index rest fault between left after others new → IsReading chances index input first old left after all new
more_of_it chances index input rest left first fault after parts others all old between new few so_far more = record {
  outcome = λ n has. fewer_parts (chances.Gives input) (parts + (others + n)) (all + n) (omega (arith, few)) (so_far.outcome (others + n) (more.outcome n has));
  fails = still_fails chances.MayFail input rest left so_far.fails more.fails;
  well = λ none. so_far.well (more.well none);
  kept = still_kept first fault after so_far.kept more.kept;
  idle = still_idle first fault old between new so_far.kept so_far.idle more.idle;
  taken = λ none asks refuses takes. so_far.taken (more.well none) asks refuses (more.taken none asks refuses takes);
  read = λ none before. more.read none (so_far.read (more.well none) before);
}

-- ---- one part

part_given : {X F : Type 0} (Gives : X → Outcome F → Type 0) (input : X) (part : Result SubmissionData F) (left : Option X) → IsPartOf Gives input part left → (more : ℕ) → HasParts (GivesLeft Gives left) more
    → HasParts (Gives input) (one_if_read part + more)
part_given {X} {F} Gives input (Ok submission) None is more (outcome, none, many) =
    let no_more : length outcome.read ≡ 0 = ap (λ (o : Outcome F). length o.read) none in
    (whole (Ok submission), is, omega (arith, many, no_more))
part_given {X} {F} Gives input (Err fault) None is more (outcome, none, many) =
    let no_more : length outcome.read ≡ 0 = ap (λ (o : Outcome F). length o.read) none in
    (whole (Err fault), is, omega (arith, many, no_more))
part_given Gives input (Ok submission) (Some rest) is more (outcome, gives, many) = (in_front submission outcome, is outcome gives, omega (arith, many))
part_given Gives input (Err fault) (Some rest) is more has = absurd is

-- the same for the number of parts that was counted
parts_given : {X F : Type 0} (Gives : X → Outcome F → Type 0) (input : X) (part : Result SubmissionData F) (left : Option X) (parts : ℕ) → IsPartOf Gives input part left → parts ≡ one_if_read part
    → (more : ℕ) → HasParts (GivesLeft Gives left) more → HasParts (Gives input) (parts + more)
parts_given Gives input part left parts is same more has = subst (λ (n : ℕ). HasParts (Gives input) (n + more)) (sym same) (part_given Gives input part left is more has)

-- a part is taken: with an outcome of what is left, the input is taken
one_taken : {X F : Type 0} (Gives : X → Outcome F → Type 0) (index : ℕ) (input : X) (part : Result SubmissionData F) (left : Option X) (asked now asks : List OpData) (refused now_refused refuses : List (RefusedInput F))
    → IsPartOf Gives input part left → now ≡ asked ++ map SubmitOp (submitted (whole part)) → now_refused ≡ refused ++ refusal index (whole part)
    → Takes (GivesLeft Gives left) index now asks now_refused refuses → Takes (Gives input) index asked asks refused refuses
one_taken {X} {F} Gives index input part None asked now asks refused now_refused refuses is submits tells takes = record {
  outcome = whole part;
  is_outcome = is;
  submits = takes.submits ∙ ap (λ (o : Outcome F). now ++ map SubmitOp (submitted o)) takes.is_outcome ∙ append-nil now ∙ submits;
  tells = takes.tells ∙ ap (λ (o : Outcome F). now_refused ++ refusal index o) takes.is_outcome ∙ append-nil now_refused ∙ tells;
}
one_taken {X} {F} Gives index input (Ok submission) (Some rest) asked now asks refused now_refused refuses is submits tells takes =
    let more : List OpData = map SubmitOp (submitted takes.outcome) in
    record {
      outcome = in_front submission takes.outcome;
      is_outcome = is takes.outcome takes.is_outcome;
      submits = takes.submits ∙ ap (λ (ops : List OpData). ops ++ more) submits ∙ append_assoc asked (SubmitOp submission ∷ []) more;
      tells = takes.tells ∙ ap (λ (rs : List (RefusedInput F)). rs ++ refusal index takes.outcome) (tells ∙ append-nil refused);
    }
one_taken Gives index input (Err fault) (Some rest) asked now asks refused now_refused refuses is submits tells takes = absurd is

-- one part is read and taken, or a call or list is refused
pub part_taken : {X F : Type 0} (chances : Chances X F) (index : ℕ) (input : X) (part : Result SubmissionData F) (left : Option X) (fault : Option BookFault) (parts : ℕ) (old new : WorkerData F)
    → IsPartOf chances.Gives input part left → parts ≡ one_if_read part → IfSome left (λ rest. chances.MayFail rest → chances.MayFail input)
    → (fault ≡ None → ops_in new.receipts ≡ ops_in old.receipts ++ map SubmitOp (submitted (whole part)))
    → (fault ≡ None → new.refused ≡ old.refused ++ refusal index (whole part))
    → (fault ≡ None → HasRead old.has_reader old.receipts old.readings → HasRead new.has_reader new.receipts new.readings)
    → IsReading chances index input None old left fault parts new
part_taken chances index input part left fault parts old new is same fails submits tells read = record {
  outcome = parts_given chances.Gives input part left parts is same;
  fails = fails;
  well = λ none. refl;
  kept = tt;
  idle = tt;
  taken = λ none asks refuses takes. one_taken chances.Gives index input part left (ops_in old.receipts) (ops_in new.receipts) asks old.refused new.refused refuses is (submits none) (tells none) takes;
  read = read;
}

-- after a refused call or list a part is only read
pub part_read : {X F : Type 0} (chances : Chances X F) (index : ℕ) (input : X) (part : Result SubmissionData F) (left : Option X) (fault : BookFault) (parts : ℕ) (worker : WorkerData F)
    → IsPartOf chances.Gives input part left → parts ≡ one_if_read part → IfSome left (λ rest. chances.MayFail rest → chances.MayFail input)
    → IsReading chances index input (Some fault) worker left (Some fault) parts worker
part_read chances index input part left fault parts worker is same fails = record {
  outcome = parts_given chances.Gives input part left parts is same;
  fails = fails;
  well = λ none. none;
  kept = refl;
  idle = (refl, refl);
  taken = λ none. absurd (none-some fault (sym none));
  read = λ none. absurd (none-some fault (sym none));
}

-- what holds if a call is accepted holds if it gives no fault
pub if_no_fault : {V E : Type 0} (answer : Result V E) (fault : Option E) (Holds : Type 0) → fault ≡ result_err answer → IfOk answer (λ _. Holds) → fault ≡ None → Holds
if_no_fault (Ok value) fault Holds is holds none = holds
if_no_fault (Err found) fault Holds is holds none = absurd (none-some found (sym none ∙ is))

-- ---- the whole input

-- nothing is left of the input, so it had an outcome
pub had_outcome : {X F : Type 0} (chances : Chances X F) (index : ℕ) (input : X) (first fault : Option BookFault) (parts : ℕ) (old new : WorkerData F) → IsReading chances index input first old None fault parts new
    → HasParts (chances.Gives input) parts
had_outcome chances index input first fault parts old new all = fewer_parts (chances.Gives input) (parts + 0) parts (omega arith) (all.outcome 0 (nothing, refl, omega arith))

-- and if nothing was refused, it is taken
pub was_taken : {X F : Type 0} (chances : Chances X F) (index : ℕ) (input : X) (first fault : Option BookFault) (parts : ℕ) (old new : WorkerData F) → IsReading chances index input first old None fault parts new → fault ≡ None
    → (first ≡ None) × Takes (chances.Gives input) index (ops_in old.receipts) (ops_in new.receipts) old.refused new.refused
was_taken chances index input first fault parts old new all none = (
  all.well none,
  all.taken none (ops_in new.receipts) new.refused (record { outcome = nothing; is_outcome = refl; submits = sym (append-nil (ops_in new.receipts)); tells = sym (append-nil new.refused) }),
)

-- a stop while what is left is read
pub stops_at : (index : ℕ) (RestFails Fails : Type 0) (stop : Stop) → (RestFails → Fails) → IsStopAt index RestFails stop → IsStopAt index Fails stop
stops_at index RestFails Fails (stops.Unread other) fails is = (is.0, fails is.1)
stops_at index RestFails Fails (stops.Refused refusal) fails is = is

-- ---- how many parts there are

-- more than the most parts that are left
abbrev pub most_left : {X : Type 0} → (most : X → ℕ) → Option X → ℕ
most_left most None = 0
most_left most (Some rest) = suc (most rest)

pub fewer_left : {X : Type 0} (most : X → ℕ) (input : X) (left : Option X) → IfSome left (λ rest. most rest < most input) → most_left most left < suc (most input)
fewer_left most input None fewer = omega arith
fewer_left most input (Some rest) fewer = omega (arith, fewer)

-- inputs with one part each have as many parts as there are inputs
pub one_each : {X : Type 0} (inputs : List X) → sum_by (λ (input : X). 1) inputs ≡ length inputs
one_each [] = refl
one_each {X} (input ∷ inputs) = sum_by-cons (λ (input : X). 1) input inputs ∙ one_more (sum_by (λ (input : X). 1) inputs) (length inputs) (one_each inputs)
  where
    one_more : (sum count : ℕ) → sum ≡ count → 1 + sum ≡ suc count
    one_more sum count is = omega (arith, is)
