-- All lines of a text: the reader's run over them gives an outcome by the definitions, and there is no other outcome.
use Rattle.std.proofs.Common.{◌≡◌, ◌≢◌, ℕ, ◌+◌, ◌<◌, ◌≤◌, ◌⊎◌, inl, inr, Bool, true, false, cond, List, [], ◌∷◌, ◌++◌, length, Option, Some, None, Result, Ok, Err, refl, sym, ap, subst, ◌∙◌, append_assoc, arith}
use Rattle.std.specs.Prelude.{All}
use Rattle.std.proofs.lemmas.Bool.{cases_Bool, cases_lt, cases_eq, false≢true}
use Rattle.std.proofs.lemmas.List.Elements.{All-nil, All-cons, All-head, All-tail}
use Rattle.std.proofs.lemmas.List.{append-nil, length-append}
use Rattle.covdata.specs.Row.{SubmissionData, SectData}
use Rattle.covdata.specs.Delimiters.{line_feed, carriage_return}
use Rattle.covline.specs.Lines.{lines_of}
use Rattle.covdata.specs.Lawful.{IsGoodTest}
use Rattle.covdata.specs.declared.fault.ReadFault.{ReadFault}
use Rattle.covdata.specs.declared.fault.ReadFault.TheVariants as faults
use Rattle.covread.specs.Gcov.{GcovLine, Says, says_of, LineSays}
use Rattle.covread.specs.GcovReading.{is_name, shape_of}
use Rattle.covread.specs.GcovItems.{waiting, sects_from, is_empty, place_fault}
use Rattle.covread.specs.Outcome.{max_bytes, IsOrMemory}
use Rattle.covread.specs.GcovOutcome.{AllSay, own_fault, IsFaultAt, IsFirstFault, LosesFunction, Reads, IsOutcome, Answers}
use Rattle.covread.specs.GcovSteps.{HeldData, empty, Stepped, step, line_step, run_on, run, submission_held, ends}
use Rattle.covread.proofs.GcovRuns.{Stands, stands_at_first, goes}
use Rattle.covread.proofs.GcovParts.{is_name-from, is_name-true}
use Rattle.covread.proofs.GcovShapes.{is_shape, one_shape}

-- ---- one line

abbrev pub read : List ℕ → Says
read line = says_of (shape_of line)

pub some_says : (line : List ℕ) → LineSays line (read line)
some_says line = (shape_of line, is_shape line, refl)

pub says_is : (line : List ℕ) (says : Says) → LineSays line says → read line ≡ says
says_is line says h = ap says_of (one_shape line h.0 h.1) ∙ sym h.2

pub one_says : (line : List ℕ) (x y : Says) → LineSays line x → LineSays line y → x ≡ y
one_says line x y h k = sym (says_is line x h) ∙ says_is line y k

-- ---- one more line

pub more_above : (above : List GcovLine) (says : GcovLine) (said : List GcovLine) → (above ++ says ∷ []) ++ said ≡ above ++ says ∷ said
more_above above says said = append_assoc above (says ∷ []) said

pub all_say-more : (above : List GcovLine) (lines : List (List ℕ)) (said : List GcovLine) (line : List ℕ) (says : GcovLine) → AllSay above lines said
    → LineSays line (Ok says) → place_fault (length (above ++ said) + 1) (above ++ said) says ≡ None → AllSay above (lines ++ line ∷ []) (said ++ says ∷ [])
all_say-more above [] [] line says all spells place =
    (spells, subst (λ (ls : List GcovLine). place_fault (length ls + 1) ls says ≡ None) (append-nil above) place, tt)
all_say-more above [] (s ∷ said) line says all spells place = absurd all
all_say-more above (l ∷ lines) [] line says all spells place = absurd all
all_say-more above (l ∷ lines) (s ∷ said) line says all spells place = (
  all.0,
  all.1,
  all_say-more (above ++ s ∷ []) lines said line says all.2 spells
      (subst (λ (ls : List GcovLine). place_fault (length ls + 1) ls says ≡ None) (sym (more_above above s said)) place),
)

pub all_say-length : (above : List GcovLine) (lines : List (List ℕ)) (said : List GcovLine) → AllSay above lines said → length said ≡ length lines
all_say-length above [] [] all = refl
all_say-length above [] (s ∷ said) all = absurd all
all_say-length above (l ∷ lines) [] all = absurd all
all_say-length above (l ∷ lines) (s ∷ said) all = omega (arith, all_say-length (above ++ s ∷ []) lines said all.2)

-- ---- the run, forward

-- how the run over all lines ends: with what the reader holds then, or with the first fault
pub data Ending (test : List ℕ) (all : List (List ℕ)) (stepped : Stepped) : Type 0 where
  To : (held : HeldData) (said : List GcovLine) → stepped ≡ Ok held → AllSay [] all said → Stands test said held → Ending test all stepped
  At : (fault : ReadFault) → stepped ≡ Err fault → IsFirstFault all fault → Ending test all stepped

ending_same : (test : List ℕ) (all : List (List ℕ)) (x y : Stepped) → x ≡ y → Ending test all y → Ending test all x
ending_same test all x y e h = subst (λ (s : Stepped). Ending test all s) (sym e) h

-- what is known of the lines above: they say this without a fault, and the reader holds what follows from that
pub record Above (test : List ℕ) (before : List (List ℕ)) (above : List GcovLine) (held : HeldData) : Type 0 where
  pub said : AllSay [] before above
  pub stands : Stands test above held

above_length : (test : List ℕ) (before : List (List ℕ)) (above : List GcovLine) (held : HeldData) → Above test before above held → length above ≡ length before
above_length test before above held h = all_say-length [] before above h.said

faulty_here : (before : List (List ℕ)) (above : List GcovLine) (line : List ℕ) (rest all : List (List ℕ)) (fault : ReadFault) → all ≡ before ++ line ∷ rest → AllSay [] before above → IsFaultAt (length before + 1) above line fault → IsFirstFault all fault
faulty_here before above line rest all fault e said faulty = record { before = before; line = line; after = rest; place = e; above = above; said = said; faulty = faulty }

pub above_more : (test : List ℕ) (before : List (List ℕ)) (above : List GcovLine) (held next : HeldData) (line : List ℕ) (says : GcovLine)
    → Above test before above held → LineSays line (Ok says) → place_fault (length before + 1) above says ≡ None → Stands test (above ++ says ∷ []) next → Above test (before ++ line ∷ []) (above ++ says ∷ []) next
above_more test before above held next line says h spells place stands = record {
  said = all_say-more [] before above line says h.said spells (subst (λ (n : ℕ). place_fault (n + 1) above says ≡ None) (sym (above_length test before above held h)) place);
  stands = stands;
}

pub line_more : (before : List (List ℕ)) (line : List ℕ) → length (before ++ line ∷ []) ≡ length before + 1
line_more before line = omega (arith, length-append before (line ∷ []))

walk_on : (test : List ℕ) (before : List (List ℕ)) (above : List GcovLine) (held : HeldData) (line : List ℕ) (rest all : List (List ℕ)) (at : ℕ) (says : Says)
    → Above test before above held → at ≡ length before → all ≡ before ++ line ∷ rest → LineSays line says
    → ((next : HeldData) (says : GcovLine) → Above test (before ++ line ∷ []) (above ++ says ∷ []) next → Ending test all (run test (at + 1) next rest))
    → Ending test all (run_on (line_step test (at + 1) held says) (λ next. run test (at + 1) next rest))
walk_on test before above held line rest all at (Err why) h number e spells go =
    At (own_fault (at + 1) why) refl (faulty_here before above line rest all (own_fault (at + 1) why) e h.said (inl (why, spells, ap (λ (n : ℕ). own_fault (n + 1) why) number)))
walk_on test before above held line rest all at (Ok says) h number e spells go =
    elim (goes test (at + 1) above held says h.stands) [
      | inl on ↦
          ending_same test all (run_on (step test (at + 1) held says) (λ next. run test (at + 1) next rest)) (run test (at + 1) on.0 rest) (ap (λ (s : Stepped). run_on s (λ next. run test (at + 1) next rest)) on.1)
          (go on.0 says (above_more test before above held on.0 line says h spells (subst (λ (n : ℕ). place_fault (n + 1) above says ≡ None) number on.2) on.3))
      | inr off ↦
          At off.0 (ap (λ (s : Stepped). run_on s (λ next. run test (at + 1) next rest)) off.1)
          (faulty_here before above line rest all off.0 e h.said (inr (says, spells, subst (λ (n : ℕ). place_fault (n + 1) above says ≡ Some off.0) number off.2)))
    ]

walk : (test : List ℕ) (before : List (List ℕ)) (above : List GcovLine) (held : HeldData) (rest all : List (List ℕ)) (at : ℕ)
    → Above test before above held → at ≡ length before → all ≡ before ++ rest → Ending test all (run test at held rest)
walk test before above held [] all at h number e =
    To held above refl (subst (λ (ls : List (List ℕ)). AllSay [] ls above) (sym (e ∙ append-nil before)) h.said) h.stands
walk test before above held (line ∷ rest) all at h number e =
    walk_on test before above held line rest all at (read line) h number e (some_says line)
    (λ next says k. walk test (before ++ line ∷ []) (above ++ says ∷ []) next rest all (at + 1) k (ap (λ (n : ℕ). n + 1) number ∙ sym (line_more before line)) (e ∙ sym (append_assoc before (line ∷ []) rest)))

abbrev pub whole_run : List ℕ → List ℕ → Stepped
whole_run test text = run test 0 empty (lines_of text)

pub ending : (test text : List ℕ) → Ending test (lines_of text) (whole_run test text)
ending test text = walk test [] [] empty (lines_of text) (lines_of text) 0 (record { said = tt; stands = stands_at_first test }) refl refl

-- ---- what the run's end is

abbrev pub then_ends : List ℕ → Stepped → Result SubmissionData ReadFault
then_ends test (Err fault) = Err fault
then_ends test (Ok held) = ends test held

-- what a text is read as, if it isn't too long and the test's name is good
abbrev pub whole : List ℕ → List ℕ → Result SubmissionData ReadFault
whole test text = then_ends test (whole_run test text)

record IsFit (test text : List ℕ) : Type 0 where
  short : length text ≤ max_bytes
  good : IsGoodTest test

waiting_empty : (test : List ℕ) (said : List GcovLine) (held : HeldData) (b : Bool) → Stands test said held → is_empty held.waiting ≡ b → is_empty (waiting said) ≡ b
waiting_empty test said held b stands e = ap (λ (w : List (List ℕ × ℕ)). is_empty w) (sym stands.waits) ∙ e

submission_is : (test : List ℕ) (said : List GcovLine) (held : HeldData) → Stands test said held → submission_held test held ≡ record { sects = sects_from test [] said; odd = 0 }
submission_is test said held stands = ap (λ (ss : List SectData). record { sects = ss; odd = 0 }) (sym stands.sects)

ends_so : (test text : List ℕ) (held : HeldData) (said : List GcovLine) → IsFit test text → AllSay [] (lines_of text) said → Stands test said held → IsOutcome test text (ends test held)
ends_so test text held said fit all stands =
    elim (cases_Bool (is_empty held.waiting)) [
      | inl none ↦ rw none (fit.short, fit.good, record { all = said; said = all; none_left = waiting_empty test said held true stands none; is = submission_is test said held stands })
      | inr some ↦ rw some (inr (inr (inr (fit.short, fit.good, record { all = said; said = all; left = waiting_empty test said held false stands some }, refl))))
    ]

outcome_of : (test text : List ℕ) (stepped : Stepped) → IsFit test text → Ending test (lines_of text) stepped → IsOutcome test text (then_ends test stepped)
outcome_of test text stepped fit (To held said e all stands) = subst (λ (s : Stepped). IsOutcome test text (then_ends test s)) (sym e) (ends_so test text held said fit all stands)
outcome_of test text stepped fit (At fault e first) = subst (λ (s : Stepped). IsOutcome test text (then_ends test s)) (sym e) (inr (inr (inl (fit.short, fit.good, first))))

pub whole_outcome : (test text : List ℕ) → length text ≤ max_bytes → IsGoodTest test → IsOutcome test text (whole test text)
whole_outcome test text short good = outcome_of test text (whole_run test text) (record { short = short; good = good }) (ending test text)

-- ---- there is no other: what the definitions ask for is the run

record Follows (test : List ℕ) (at : ℕ) (held : HeldData) (lines rest : List (List ℕ)) (said : List GcovLine) : Type 0 where
  next : HeldData
  same : run test at held (lines ++ rest) ≡ run test (at + length lines) next rest
  stands : Stands test said next

pub some_other : (x : ReadFault) (o : Option ReadFault) → o ≡ None → o ≡ Some x → ⊥
some_other x o e f = cc

same_fault : (x y : ReadFault) (o : Option ReadFault) → o ≡ Some x → o ≡ Some y → x ≡ y
same_fault x y o e f = cc

follow : (test : List ℕ) (at : ℕ) (above : List GcovLine) (held : HeldData) (lines rest : List (List ℕ)) (said : List GcovLine)
    → AllSay above lines said → Stands test above held → at ≡ length above → Follows test at held lines rest (above ++ said)
follow test at above held [] rest [] all stands number =
    record { next = held; same = ap (λ (n : ℕ). run test n held rest) (omega arith); stands = subst (λ (ls : List GcovLine). Stands test ls held) (sym (append-nil above)) stands }
follow test at above held [] rest (s ∷ said) all stands number = absurd all
follow test at above held (l ∷ lines) rest [] all stands number = absurd all
follow test at above held (l ∷ lines) rest (s ∷ said) all stands number =
    elim (goes test (at + 1) above held s stands) [
      | inl on ↦
          let len : at + 1 ≡ length (above ++ s ∷ []) = omega (arith, length-append above (s ∷ [])) in
          let f = follow test (at + 1) (above ++ s ∷ []) on.0 lines rest said all.2 on.3 len in
          let here : run test at held (l ∷ lines ++ rest) ≡ run test (at + 1) on.0 (lines ++ rest)
          = ap (λ (x : Says). run_on (line_step test (at + 1) held x) (λ next. run test (at + 1) next (lines ++ rest))) (says_is l (Ok s) all.0)
          ∙ ap (λ (x : Stepped). run_on x (λ next. run test (at + 1) next (lines ++ rest))) on.1 in
          let n : at + 1 + length lines ≡ at + length (l ∷ lines) = omega arith in
          record {
            next = f.next;
            same = here ∙ f.same ∙ ap (λ (k : ℕ). run test k f.next rest) n;
            stands = subst (λ (ls : List GcovLine). Stands test ls f.next) (more_above above s said) f.stands;
          }
      | inr off ↦ absurd (some_other off.0 (place_fault (at + 1) above s) (subst (λ (n : ℕ). place_fault (n + 1) above s ≡ None) (sym number) all.1) off.2)
    ]

pub fault_step : (test : List ℕ) (at : ℕ) (above : List GcovLine) (held : HeldData) (line : List ℕ) (fault : ReadFault) → Stands test above held → IsFaultAt at above line fault → line_step test at held (read line) ≡ Err fault
fault_step test at above held line fault stands (inl own) = ap (line_step test at held) (says_is line (Err own.0) own.1) ∙ ap (λ (f : ReadFault). Err f) (sym own.2)
fault_step test at above held line fault stands (inr place) =
    ap (line_step test at held) (says_is line (Ok place.0) place.1) ∙ elim (goes test at above held place.0 stands) [
      | inl on ↦ absurd (some_other fault (place_fault at above place.0) on.2 place.2)
      | inr off ↦ off.1 ∙ ap (λ (f : ReadFault). Err f) (same_fault off.0 fault (place_fault at above place.0) off.2 place.2)
    ]

pub first_run : (test : List ℕ) (lines : List (List ℕ)) (fault : ReadFault) → IsFirstFault lines fault → run test 0 empty lines ≡ Err fault
first_run test lines fault first =
    let f = follow test 0 [] empty first.before (first.line ∷ first.after) first.above first.said (stands_at_first test) refl in
    let n : 0 + length first.before + 1 ≡ length first.before + 1 = omega arith in
    let stepped : line_step test (0 + length first.before + 1) f.next (read first.line) ≡ Err fault
    = ap (λ (k : ℕ). line_step test k f.next (read first.line)) n ∙ fault_step test (length first.before + 1) first.above f.next first.line fault f.stands first.faulty in
    ap (run test 0 empty) first.place ∙ f.same ∙ ap (λ (x : Stepped). run_on x (λ next. run test (0 + length first.before + 1) next first.after)) stepped

-- how the run over lines without a fault ends
record Through (test : List ℕ) (lines : List (List ℕ)) (said : List GcovLine) : Type 0 where
  held : HeldData
  is : run test 0 empty lines ≡ Ok held
  stands : Stands test said held

through : (test : List ℕ) (lines : List (List ℕ)) (said : List GcovLine) → AllSay [] lines said → Through test lines said
through test lines said all =
    let f = follow test 0 [] empty lines [] said all (stands_at_first test) refl in
    record { held = f.next; is = ap (run test 0 empty) (sym (append-nil lines)) ∙ f.same; stands = f.stands }

held_empty : (test : List ℕ) (said : List GcovLine) (held : HeldData) (b : Bool) → Stands test said held → is_empty (waiting said) ≡ b → is_empty held.waiting ≡ b
held_empty test said held b stands e = ap (λ (w : List (List ℕ × ℕ)). is_empty w) stands.waits ∙ e

reads_whole : (test text : List ℕ) (submission : SubmissionData) → Reads test (lines_of text) submission → whole test text ≡ Ok submission
reads_whole test text submission reads =
    let t = through test (lines_of text) reads.all reads.said in
    ap (then_ends test) t.is
    ∙ ap (λ (b : Bool). cond b (Ok (submission_held test t.held)) (Err faults.LostFunction)) (held_empty test reads.all t.held true t.stands reads.none_left)
    ∙ ap (λ (s : SubmissionData). Ok s) (submission_is test reads.all t.held t.stands ∙ sym reads.is)

loses_whole : (test text : List ℕ) → LosesFunction (lines_of text) → whole test text ≡ Err faults.LostFunction
loses_whole test text loses =
    let t = through test (lines_of text) loses.all loses.said in
    ap (then_ends test) t.is
    ∙ ap (λ (b : Bool). cond b (Ok (submission_held test t.held)) (Err faults.LostFunction)) (held_empty test loses.all t.held false t.stands loses.left)

-- an outcome is of one of three kinds: the text is too long; the test's name isn't good; or it is what the run ends with
data Kind (test text : List ℕ) (outcome : Result SubmissionData ReadFault) : Type 0 where
  Long : max_bytes < length text → outcome ≡ Err faults.TooLong → Kind test text outcome
  Bad : length text ≤ max_bytes → ¬ IsGoodTest test → outcome ≡ Err faults.BadTest → Kind test text outcome
  Said : length text ≤ max_bytes → IsGoodTest test → outcome ≡ whole test text → Kind test text outcome

kind_of : (test text : List ℕ) (outcome : Result SubmissionData ReadFault) → IsOutcome test text outcome → Kind test text outcome
kind_of test text (Ok submission) is = Said is.0 is.1 (sym (reads_whole test text submission is.2))
kind_of test text (Err fault) (inl long) = Long long.0 (ap (λ (f : ReadFault). Err f) long.1)
kind_of test text (Err fault) (inr (inl bad)) = Bad bad.0 bad.1 (ap (λ (f : ReadFault). Err f) bad.2)
kind_of test text (Err fault) (inr (inr (inl first))) = Said first.0 first.1 (sym (ap (then_ends test) (first_run test (lines_of text) fault first.2)))
kind_of test text (Err fault) (inr (inr (inr lost))) = Said lost.0 lost.1 (ap (λ (f : ReadFault). Err f) lost.3 ∙ sym (loses_whole test text lost.2))

same_kind : (test text : List ℕ) (x y : Result SubmissionData ReadFault) → Kind test text x → Kind test text y → x ≡ y
same_kind test text x y (Long a e) (Long b f) = e ∙ sym f
same_kind test text x y (Bad a b e) (Bad c d f) = e ∙ sym f
same_kind test text x y (Said a b e) (Said c d f) = e ∙ sym f
same_kind test text x y (Long a e) (Bad b c f) = absurd (omega (arith, a, b))
same_kind test text x y (Long a e) (Said b c f) = absurd (omega (arith, a, b))
same_kind test text x y (Bad a b e) (Long c f) = absurd (omega (arith, a, c))
same_kind test text x y (Bad a b e) (Said c d f) = absurd (b d)
same_kind test text x y (Said a b e) (Long c f) = absurd (omega (arith, a, c))
same_kind test text x y (Said a b e) (Bad c d f) = absurd (d b)

pub one_outcome : (test text : List ℕ) (x y : Result SubmissionData ReadFault) → IsOutcome test text x → IsOutcome test text y → x ≡ y
one_outcome test text x y h k = same_kind test text x y (kind_of test text x h) (kind_of test text y k)

-- if a text has an outcome, a right answer is this outcome, unless memory ran out
pub answer_is : (test text : List ℕ) (answer outcome : Result SubmissionData ReadFault) → Answers test text answer → IsOutcome test text outcome → IsOrMemory answer outcome
answer_is test text answer outcome (inl none) k = inl none.2
answer_is test text answer outcome (inr h) k = inr (one_outcome test text outcome answer k h)

-- ---- there is one for each text

no_feed : (name : List ℕ) → All (λ b. b ≢ line_feed) name ⊎ ¬ All (λ b. b ≢ line_feed) name
no_feed [] = inl (All-nil (λ b. b ≢ line_feed))
no_feed (b ∷ bs) =
    elim (cases_eq b line_feed) [
      | inl same ↦ inr (λ all. All-head (λ x. x ≢ line_feed) b bs all same)
      | inr differ ↦ elim (no_feed bs) [
        | inl all ↦ inl (All-cons (λ x. x ≢ line_feed) b bs differ all)
        | inr other ↦ inr (λ all. other (All-tail (λ x. x ≢ line_feed) b bs all))
      ]
    ]

abbrev EndsInNone : List ℕ → Type 0
EndsInNone name = (front : List ℕ) → name ≢ front ++ carriage_return ∷ []

nothing_ends : (front : List ℕ) → [] ≢ front ++ carriage_return ∷ []
nothing_ends [] = λ e. absurd cc
nothing_ends (b ∷ front) = λ e. absurd cc

no_return : (name : List ℕ) → EndsInNone name ⊎ ¬ EndsInNone name
no_return [] = inl nothing_ends
no_return (b ∷ bs) =
    elim (cases_Bool (is_name (b ∷ bs))) [
      | inl is ↦ let name = is_name-from (b ∷ bs) is in inl name.no_return
      | inr isnt ↦ inr (λ none. false≢true (sym isnt ∙ is_name-true (b ∷ bs) (record { some = omega arith; no_return = none })))
    ]

good_or_not : (name : List ℕ) → IsGoodTest name ⊎ ¬ IsGoodTest name
good_or_not name =
    elim (no_feed name) [
      | inl line ↦ elim (no_return name) [
        | inl none ↦ inl (record { one_line = line; no_return = none })
        | inr some ↦ inr (λ good. some good.no_return)
      ]
      | inr feed ↦ inr (λ good. feed good.one_line)
    ]

pub some_outcome : (test text : List ℕ) → (outcome : Result SubmissionData ReadFault) × IsOutcome test text outcome
some_outcome test text =
    elim (cases_lt max_bytes (length text)) [
      | inl long ↦ (Err faults.TooLong, inl (long, refl))
      | inr short ↦ elim (good_or_not test) [
        | inl good ↦ (whole test text, whole_outcome test text short good)
        | inr bad ↦ (Err faults.BadTest, inr (inl (short, bad, refl)))
      ]
    ]
