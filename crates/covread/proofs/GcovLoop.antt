-- The loop over the lines of a text, and what the reader's lists hold.
use Rattle.std.proofs.Common.{◌≡◌, ◌≢◌, ℕ, ◌+◌, ◌<◌, ◌≤◌, ◌⊎◌, inl, inr, true, false, eqb, get_or, take, List, [], ◌∷◌, ◌++◌, length, map, Option, None, Result, Ok, Err, refl, sym, ap, subst, ◌∙◌, append_assoc, arith}
use Rattle.std.proofs.lemmas.Bool.{ne_eqb}
use Rattle.std.specs.Prelude.{is_ok, is_some}
use Rattle.std.proofs.lemmas.List.{length-append, take_more, map_push}
use Rattle.covline.specs.Lines.{lines_of}
use Rattle.covdata.specs.Lawful.{IsGoodTest, IsLawful}
use Rattle.covdata.specs.Row.{ItemData, FuncItem, SectData, SubmissionData}
use Rattle.covline.proofs.LineLaws.{few_lines}
use Rattle.covdata.specs.declared.fault.ReadFault.{ReadFault}
use Rattle.covdata.specs.declared.fault.ReadFault.TheVariants as faults
use Rattle.covread.specs.declared.gcov.reader.Function.{Function}
use Rattle.covread.specs.GcovItems.{func_item, place_fault, is_empty}
use Rattle.covread.specs.Gcov.{GcovLine, Says, LineSays}
use Rattle.covread.specs.Outcome.{max_bytes}
use Rattle.covread.specs.GcovOutcome.{HasBegun, IsOutcome, Answers}
use Rattle.covread.specs.GcovSteps.{line_grows, step_path, begun, SectionData, HeldData, func_data, empty, Stepped, line_step, run_on, run, submission_held, ends, EndsTo}
use Rattle.covread.proofs.GcovRuns.{stands_at_first, goes, Stands}
use Rattle.covread.proofs.GcovText.{read, some_says, Above, above_more, line_more, whole_run, then_ends, whole_outcome}
use Rattle.covread.proofs.GcovBegun.{err_isnt_ok, line_begun, ok_same}
use Rattle.covread.proofs.GcovLawful.{lawful_run}

-- ---- one line after the other

-- the reader took `at` lines of the text without a fault, and holds this. From here, the run over the rest of the text ends as
-- the run over the whole text does
pub record Reading (test text rest : List ℕ) (held : HeldData) (at : ℕ) : Type 0 where
  pub same : run test at held (lines_of rest) ≡ whole_run test text
  pub before : List (List ℕ)
  pub above : List GcovLine
  pub place : lines_of text ≡ before ++ lines_of rest
  pub number : at ≡ length before
  pub known : Above test before above held

pub reading_begins : (test text rest : List ℕ) (held : HeldData) → held ≡ empty → rest ≡ text → Reading test text rest held 0
reading_begins test text rest held e f = record {
  same = ap (λ (h : HeldData). run test 0 h (lines_of rest)) e ∙ ap (λ (t : List ℕ). run test 0 empty (lines_of t)) f;
  before = [];
  above = [];
  place = ap lines_of (sym f);
  number = refl;
  known = record { said = tt; stands = subst (λ (h : HeldData). Stands test [] h) (sym e) (stands_at_first test) };
}

-- in the text, the next line comes right after the lines that were taken
place_is : (test text rest line left : List ℕ) (held : HeldData) (at : ℕ) (r : Reading test text rest held at) → lines_of rest ≡ line ∷ lines_of left → lines_of text ≡ r.before ++ line ∷ lines_of left
place_is test text rest line left held at r e = r.place ∙ ap (λ (ls : List (List ℕ)). r.before ++ ls) e

stepped_on : (test text rest line left : List ℕ) (held : HeldData) (at : ℕ) (stepped : Stepped) → Reading test text rest held at → lines_of rest ≡ line ∷ lines_of left → line_step test (at + 1) held (read line) ≡ stepped
    → run_on stepped (λ next. run test (at + 1) next (lines_of left)) ≡ whole_run test text
stepped_on test text rest line left held at stepped r e f =
    ap (λ (s : Stepped). run_on s (λ next. run test (at + 1) next (lines_of left))) (sym f) ∙ ap (run test at held) (sym e) ∙ r.same

-- what is known of the lines above still holds if there is one more
known_more : (test : List ℕ) (before : List (List ℕ)) (above : List GcovLine) (held next : HeldData) (line : List ℕ) (at : ℕ) (says : Says) → Above test before above held → at ≡ length before
    → LineSays line says → line_step test (at + 1) held says ≡ Ok next → (more : GcovLine) × Above test (before ++ line ∷ []) (above ++ more ∷ []) next
known_more test before above held next line at (Err why) h number spells f = absurd cc
known_more test before above held next line at (Ok says) h number spells f =
    elim (goes test (at + 1) above held says h.stands) [
      | inl on ↦ (
        says,
        subst (λ (x : HeldData). Above test (before ++ line ∷ []) (above ++ says ∷ []) x) (ok_same on.0 next (line_step test (at + 1) held (Ok says)) on.1 f)
            (above_more test before above held on.0 line says h spells (subst (λ (n : ℕ). place_fault (n + 1) above says ≡ None) number on.2) on.3),
      )
      | inr off ↦ absurd (err_isnt_ok off.0 next (line_step test (at + 1) held (Ok says)) off.1 f)
    ]

reading_more : (test text rest line left : List ℕ) (held next : HeldData) (at : ℕ) → Reading test text rest held at → lines_of rest ≡ line ∷ lines_of left → line_step test (at + 1) held (read line) ≡ Ok next
    → Reading test text left next (at + 1)
reading_more test text rest line left held next at r e f =
    let more = known_more test r.before r.above held next line at (read line) r.known r.number (some_says line) f in
    record {
      same = stepped_on test text rest line left held at (Ok next) r e f;
      before = r.before ++ line ∷ [];
      above = r.above ++ more.0 ∷ [];
      place = place_is test text rest line left held at r e ∙ sym (append_assoc r.before (line ∷ []) (lines_of left));
      number = ap (λ (n : ℕ). n + 1) r.number ∙ sym (line_more r.before line);
      known = more.1;
    }

pub reading_room : (test text rest line left : List ℕ) (held : HeldData) (at : ℕ) → length text ≤ max_bytes → Reading test text rest held at → lines_of rest ≡ line ∷ lines_of left → at + 1 ≤ max_bytes
reading_room test text rest line left held at short r e =
    omega (arith, r.number, ap length (place_is test text rest line left held at r e), length-append r.before (line ∷ lines_of left), few_lines text, short)

-- why the code's step returned this fault: memory ran out where lists grow, or the line is faulty
abbrev pub StopsBy : List ℕ → HeldData → List ℕ → ℕ → ReadFault → Type 0
StopsBy test held line at fault =
    ((fault ≡ faults.Memory) × (is_ok (line_step test (at + 1) held (read line)) ≡ true) × (line_grows held (read line) ≡ true)) ⊎ (line_step test (at + 1) held (read line) ≡ Err fault)

reading_stop : (test text rest line left : List ℕ) (held : HeldData) (at : ℕ) (fault : ReadFault) → Reading test text rest held at → lines_of rest ≡ line ∷ lines_of left
    → StopsBy test held line at fault → ((fault ≡ faults.Memory) × HasBegun (lines_of text)) ⊎ (whole_run test text ≡ Err fault)
reading_stop test text rest line left held at fault r e (inl none) =
    inl (none.0, line_begun test r.before (lines_of left) (lines_of text) r.above held line at (read line) (place_is test text rest line left held at r e) r.known r.number (some_says line) none.1 none.2)
reading_stop test text rest line left held at fault r e (inr f) = inr (sym (stepped_on test text rest line left held at (Err fault) r e f))

pub reading_end : (test text rest : List ℕ) (held : HeldData) (at : ℕ) → Reading test text rest held at → lines_of rest ≡ [] → whole_run test text ≡ Ok held
reading_end test text rest held at r e = sym r.same ∙ ap (run test at held) e

-- as `reading_more`, with the test's name that the reader holds
pub own_more : (test own text rest line left : List ℕ) (held next : HeldData) (at : ℕ) → own ≡ test → Reading test text rest held at → lines_of rest ≡ line ∷ lines_of left → line_step own (at + 1) held (read line) ≡ Ok next
    → Reading test text left next (at + 1)
own_more test own text rest line left held next at same r e f =
    reading_more test text rest line left held next at r e (subst (λ (t : List ℕ). line_step t (at + 1) held (read line) ≡ Ok next) same f)

pub own_stop : (test own text rest line left : List ℕ) (held : HeldData) (at : ℕ) (fault : ReadFault) → own ≡ test → Reading test text rest held at → lines_of rest ≡ line ∷ lines_of left
    → StopsBy own held line at fault → ((fault ≡ faults.Memory) × HasBegun (lines_of text)) ⊎ (whole_run test text ≡ Err fault)
own_stop test own text rest line left held at fault same r e f =
    reading_stop test text rest line left held at fault r e (subst (λ (t : List ℕ). StopsBy t held line at fault) same f)

-- ---- the answer

pub answer_fault : (test text : List ℕ) (fault : ReadFault) → length text ≤ max_bytes → IsGoodTest test → ((fault ≡ faults.Memory) × HasBegun (lines_of text)) ⊎ (whole_run test text ≡ Err fault) → Answers test text (Err fault)
answer_fault test text fault short good (inl none) = inl (short, good, ap (λ (f : ReadFault). Err f) none.0)
answer_fault test text fault short good (inr e) = inr (subst (λ (r : Result SubmissionData ReadFault). IsOutcome test text r) (ap (then_ends test) e) (whole_outcome test text short good))

pub answer_end : (test text : List ℕ) (held : HeldData) (answer : Result SubmissionData ReadFault) → length text ≤ max_bytes → IsGoodTest test → whole_run test text ≡ Ok held → EndsTo answer (is_some held.section) (ends test held) → Answers test text answer
answer_end test text held answer short good e (inl none) = inl (short, good, none.0)
answer_end test text held answer short good e (inr is) =
    inr (subst (λ (r : Result SubmissionData ReadFault). IsOutcome test text r) (ap (then_ends test) e ∙ sym is) (whole_outcome test text short good))

pub lawful_end : (test own text : List ℕ) (held : HeldData) → own ≡ test → length text ≤ max_bytes → IsGoodTest test → whole_run test text ≡ Ok held → IsLawful (submission_held own held)
lawful_end test own text held same short good e = subst (λ (t : List ℕ). IsLawful (submission_held t held)) (sym same) (lawful_run test text held short good e)

pub answer_own : (test own text : List ℕ) (held : HeldData) (answer : Result SubmissionData ReadFault) → own ≡ test → length text ≤ max_bytes → IsGoodTest test → whole_run test text ≡ Ok held → EndsTo answer (is_some held.section) (ends own held) → Answers test text answer
answer_own test own text held answer same short good e ended = answer_end test text held answer short good e (subst (λ (t : List ℕ). EndsTo answer (is_some held.section) (ends t held)) same ended)

-- ---- the functions that wait

pushed_one : (line : ℕ) (items : List ItemData) (funcs : List Function) (i : ℕ) (d : Function) → i < length funcs
    → items ++ map (func_item line) (map func_data (take (i + 1) funcs)) ≡ (items ++ map (func_item line) (map func_data (take i funcs))) ++ func_item line (func_data (get_or funcs i d)) ∷ []
pushed_one line items funcs i d lt =
    ap (λ (fs : List Function). items ++ map (func_item line) (map func_data fs)) (take_more funcs i d lt)
    ∙ ap (λ (fs : List (List ℕ × ℕ)). items ++ map (func_item line) fs) (map_push func_data (take i funcs) (get_or funcs i d))
    ∙ ap (λ (is : List ItemData). items ++ is) (map_push (func_item line) (map func_data (take i funcs)) (func_data (get_or funcs i d)))
    ∙ sym (append_assoc items (map (func_item line) (map func_data (take i funcs))) (func_item line (func_data (get_or funcs i d)) ∷ []))

pub pushed_more : (line : ℕ) (first before after : List ItemData) (funcs : List Function) (i : ℕ) (d : Function) (name : List ℕ) → i < length funcs → before ≡ first ++ map (func_item line) (map func_data (take i funcs))
    → name ≡ (get_or funcs i d).name.now → after ≡ before ++ FuncItem name line (get_or funcs i d).count ∷ [] → after ≡ first ++ map (func_item line) (map func_data (take (i + 1) funcs))
pushed_more line first before after funcs i d name lt e f h =
    h ∙ ap (λ (n : List ℕ). before ++ FuncItem n line (get_or funcs i d).count ∷ []) f
    ∙ ap (λ (is : List ItemData). is ++ func_item line (func_data (get_or funcs i d)) ∷ []) e
    ∙ sym (pushed_one line first funcs i d lt)

-- if functions wait at the end, the outcome is `LostFunction`
pub lost_end : (test : List ℕ) (funcs : List Function) (section : Option SectionData) (sects : List SectData) → false ≡ eqb (length funcs) 0
    → Err faults.LostFunction ≡ ends test (record { waiting = map func_data funcs; section = section; sects = sects })
lost_end test [] section sects e = absurd cc
lost_end test (f ∷ fs) section sects e = refl

-- an empty path is a fault
pub no_path : (test : List ℕ) (at : ℕ) (held : HeldData) (path : List ℕ) → true ≡ eqb (length path) 0 → step_path test at held path ≡ Err (faults.NoSource at)
no_path test at held [] e = refl
no_path test at held (b ∷ bs) e = let ne : length (b ∷ bs) ≢ 0 = omega arith in let d = ne_eqb (length (b ∷ bs)) 0 ne in absurd cc

-- any other path is a fault if functions wait
pub lost_path : (test : List ℕ) (at : ℕ) (held : HeldData) (path : List ℕ) → false ≡ eqb (length path) 0 → false ≡ is_empty held.waiting
    → step_path test at held path ≡ Err faults.LostFunction
lost_path test at held [] e lost = absurd cc
lost_path test at held (b ∷ bs) e lost = rw (← lost) refl

-- any other path begins a section if no function waits
pub taken_path : (test : List ℕ) (at : ℕ) (held : HeldData) (path : List ℕ) → false ≡ eqb (length path) 0 → true ≡ is_empty held.waiting
    → step_path test at held path ≡ Ok (begun test path held)
taken_path test at held [] e none = absurd cc
taken_path test at held (b ∷ bs) e none = rw (← none) refl

pub none_wait : (funcs : List Function) → eqb (length funcs) 0 ≡ is_empty (map func_data funcs)
none_wait [] = refl
none_wait (f ∷ fs) = let ne : length (f ∷ fs) ≢ 0 = omega arith in ne_eqb (length (f ∷ fs)) 0 ne
