-- Memory runs out only after keeping began: after first lines without a fault, one of which begins it.
use Rattle.std.proofs.Common.{◌≡◌, ℕ, ◌+◌, ◌≤◌, ◌⊎◌, inl, inr, Bool, true, false, cond, List, [], ◌∷◌, ◌++◌, length, Option, Some, None, Result, Ok, Err, refl, sym, ap, subst, ◌∙◌, append_assoc}
use Rattle.std.specs.Prelude.{◌||◌, is_ok, is_some}
use Rattle.std.specs.List.{list_any}
use Rattle.std.proofs.lemmas.Bool.{cases_Bool, false≢true}
use Rattle.std.proofs.lemmas.List.{append-nil}
use Rattle.covdata.specs.Row.{SubmissionData}
use Rattle.covline.specs.Lines.{lines_of}
use Rattle.covdata.specs.Lawful.{IsGoodTest}
use Rattle.covdata.specs.declared.fault.ReadFault.{ReadFault}
use Rattle.covdata.specs.declared.fault.ReadFault.TheVariants as faults
use Rattle.covread.specs.declared.gcov.line.OwnFault.{OwnFault}
use Rattle.covread.specs.declared.gcov.line.OwnFault.TheVariants as own
use Rattle.covread.specs.Gcov.{GcovLine, Path, SourceLine, FuncCount, BranchCount, BlockNumber, Nothing, Says, LineSays}
use Rattle.covread.specs.GcovItems.{is_path, has_path, has_line, waiting, is_empty, begins_keeping, place_fault}
use Rattle.covread.specs.Outcome.{max_bytes}
use Rattle.covread.specs.GcovOutcome.{AllSay, own_fault, IsFaultAt, IsFirstFault, FaultsEarly, HasBegun, GrowsLate, Answers}
use Rattle.covread.specs.GcovSteps.{SectionData, HeldData, Stepped, line_step, line_grows, submission_held, ends, EndsTo}
use Rattle.covread.proofs.GcovPlaces.{any-yes}
use Rattle.covread.proofs.GcovRuns.{SectionStands, goes}
use Rattle.covread.proofs.GcovText.{read, says_is, more_above, all_say-length, Above, above_more, whole_run, To, At, ending, some_other, answer_is}

-- ---- keeping began

keeps_path : (above : List GcovLine) → list_any is_path above ≡ true → list_any begins_keeping above ≡ true
keeps_path [] some = absurd (false≢true some)
keeps_path (Path path ∷ above) some = refl
keeps_path (FuncCount name count ∷ above) some = refl
keeps_path (says ∷ above) some = keeps_path above some

section_path : (above : List GcovLine) (section : Option SectionData) → SectionStands above section → is_some section ≡ true → has_path above ≡ true
section_path above None stands some = absurd (false≢true some)
section_path above (Some s) stands some = stands.0

-- if a section is open after some first lines, keeping began in these
open_begun : (test : List ℕ) (before after all : List (List ℕ)) (above : List GcovLine) (held : HeldData) → all ≡ before ++ after → Above test before above held → is_some held.section ≡ true → HasBegun all
open_begun test before after all above held e h some = record {
  before = before;
  after = after;
  place = e;
  above = above;
  said = h.said;
  begun = keeps_path above (section_path above held.section h.stands.section some);
}

or_last : (a b : Bool) → a ≡ false → (a || b) ≡ true → b ≡ true
or_last true b f h = absurd (false≢true (sym f))
or_last false b f h = h

-- if the next line isn't faulty and makes lists grow, keeping began, at the latest with this line
pub line_begun : (test : List ℕ) (before rest all : List (List ℕ)) (above : List GcovLine) (held : HeldData) (line : List ℕ) (at : ℕ) (says : Says)
    → all ≡ before ++ line ∷ rest → Above test before above held → at ≡ length before → LineSays line says → is_ok (line_step test (at + 1) held says) ≡ true → line_grows held says ≡ true → HasBegun all
line_begun test before rest all above held line at (Err why) e h number spells ok grows = absurd (false≢true ok)
line_begun test before rest all above held line at (Ok says) e h number spells ok grows =
    elim (goes test (at + 1) above held says h.stands) [
      | inl on ↦
          let next = above_more test before above held on.0 line says h spells (subst (λ (n : ℕ). place_fault (n + 1) above says ≡ None) number on.2) on.3 in
          elim (cases_Bool (begins_keeping says)) [
            | inl keeps ↦ record {
              before = before ++ line ∷ [];
              after = rest;
              place = e ∙ sym (append_assoc before (line ∷ []) rest);
              above = above ++ says ∷ [];
              said = next.said;
              begun = any-yes begins_keeping above says keeps;
            }
            | inr other ↦ open_begun test before (line ∷ rest) all above held e h (or_last (begins_keeping says) (is_some held.section) other grows)
          ]
      | inr off ↦ absurd (false≢true (ap (λ (s : Stepped). is_ok s) (sym off.1) ∙ ok))
    ]

pub ok_same : (x y : HeldData) (a : Stepped) → a ≡ Ok x → a ≡ Ok y → x ≡ y
ok_same x y a e f = cc

pub err_isnt_ok : (fault : ReadFault) (x : HeldData) (a : Stepped) → a ≡ Err fault → a ≡ Ok x → ⊥
err_isnt_ok fault x a e f = cc

err_same : (x y : ReadFault) (a : Stepped) → a ≡ Err x → a ≡ Err y → x ≡ y
err_same x y a e f = cc

-- if a section is open after the last line, keeping began
end_begun : (test text : List ℕ) (held : HeldData) → whole_run test text ≡ Ok held → is_some held.section ≡ true → HasBegun (lines_of text)
end_begun test text held e some =
    elim (ending test text) [
      | To other said f all stands ↦
          open_begun test (lines_of text) [] (lines_of text) said other (sym (append-nil (lines_of text))) (record { said = all; stands = stands })
          (subst (λ (h : HeldData). is_some h.section ≡ true) (ok_same held other (whole_run test text) e f) some)
      | At fault f first ↦ absurd (err_isnt_ok fault held (whole_run test text) f e)
    ]

-- ---- no line has the fault that memory ran out

own_isnt : (at : ℕ) (why : OwnFault) → own_fault at why ≡ faults.Memory → ⊥
own_isnt at own.Instances e = cc
own_isnt at own.Percent e = cc
own_isnt at own.BadMark e = cc
own_isnt at own.NumberTooLarge e = cc

none_or : (b : Bool) (fault : ReadFault) → (fault ≡ faults.Memory → ⊥) → cond b None (Some fault) ≡ Some faults.Memory → ⊥
none_or true fault other e = cc
none_or false fault other e = let same : fault ≡ faults.Memory = cc in other same

place_isnt : (at : ℕ) (above : List GcovLine) (says : GcovLine) → place_fault at above says ≡ Some faults.Memory → ⊥
place_isnt at above (Path []) e = cc
place_isnt at above (Path (b ∷ bs)) e = none_or (is_empty (waiting above)) faults.LostFunction (λ f. cc) e
place_isnt at above (SourceLine line count) e = none_or (has_path above) (faults.NoSource at) (λ f. cc) e
place_isnt at above (BranchCount branch taken) e = none_or (has_line above) (faults.Misplaced at) (λ f. cc) e
place_isnt at above (FuncCount name count) e = cc
place_isnt at above (BlockNumber block) e = cc
place_isnt at above Nothing e = cc

first_isnt : (lines : List (List ℕ)) → IsFirstFault lines faults.Memory → ⊥
first_isnt lines first =
    elim first.faulty [
      | inl o ↦ own_isnt (length first.before + 1) o.0 (sym o.2)
      | inr p ↦ place_isnt (length first.before + 1) first.above p.0 p.2
    ]

run_isnt : (test text : List ℕ) → whole_run test text ≡ Err faults.Memory → ⊥
run_isnt test text e =
    elim (ending test text) [
      | To held said f all stands ↦ err_isnt_ok faults.Memory held (whole_run test text) e f
      | At fault f first ↦ first_isnt (lines_of text) (subst (λ (x : ReadFault). IsFirstFault (lines_of text) x) (err_same fault faults.Memory (whole_run test text) f e) first)
    ]

end_isnt : (b : Bool) (submission : SubmissionData) → cond b (Ok submission) (Err faults.LostFunction) ≡ Err faults.Memory → ⊥
end_isnt true submission e = cc
end_isnt false submission e = cc

-- ---- the answer

pub late_err : (test text : List ℕ) (fault : ReadFault) → ((fault ≡ faults.Memory) × HasBegun (lines_of text)) ⊎ (whole_run test text ≡ Err fault) → GrowsLate text (Err fault)
late_err test text fault (inl none) = λ same. none.1
late_err test text fault (inr e) = λ same.
    let f : fault ≡ faults.Memory = cc in
    absurd (run_isnt test text (e ∙ ap (λ (x : ReadFault). Err x) f))

late_end : (test text : List ℕ) (held : HeldData) (answer : Result SubmissionData ReadFault) → whole_run test text ≡ Ok held → EndsTo answer (is_some held.section) (ends test held) → GrowsLate text answer
late_end test text held answer e (inl none) = λ same. end_begun test text held e none.1
late_end test text held answer e (inr is) = λ same. absurd (end_isnt (is_empty held.waiting) (submission_held test held) (sym is ∙ same))

-- the answer after the last line is that memory ran out only if keeping began. `kept` is the test's name that the reader holds
pub late_own : (test kept text : List ℕ) (held : HeldData) (answer : Result SubmissionData ReadFault) → kept ≡ test → whole_run test text ≡ Ok held → EndsTo answer (is_some held.section) (ends kept held) → GrowsLate text answer
late_own test kept text held answer same e ended = late_end test text held answer e (subst (λ (t : List ℕ). EndsTo answer (is_some held.section) (ends t held)) same ended)

-- ---- a fault that comes early

says_same : (a b : GcovLine) (x : Says) → x ≡ Ok a → x ≡ Ok b → a ≡ b
says_same a b x e f = cc

says_or_not : (says : GcovLine) (why : OwnFault) (x : Says) → x ≡ Ok says → x ≡ Err why → ⊥
says_or_not says why x e f = cc

not_faulty : (at : ℕ) (above : List GcovLine) (line : List ℕ) (says : GcovLine) (fault : ReadFault) → LineSays line (Ok says) → place_fault at above says ≡ None → IsFaultAt at above line fault → ⊥
not_faulty at above line says fault spells place (inl o) = says_or_not says o.0 (read line) (says_is line (Ok says) spells) (says_is line (Err o.0) o.1)
not_faulty at above line says fault spells place (inr p) =
    let same = says_same p.0 says (read line) (says_is line (Ok p.0) p.1) (says_is line (Ok says) spells) in
    some_other fault (place_fault at above says) place (subst (λ (s : GcovLine). place_fault at above s ≡ Some fault) same p.2)

or_parts : (a b : Bool) → (a || b) ≡ false → (a ≡ false) × (b ≡ false)
or_parts true b e = absurd (false≢true (sym e))
or_parts false b e = (refl, e)

-- if keeping doesn't begin before the first faulty line, it begins in no first lines without a fault: these end before that line
reach : (above : List GcovLine) (before : List (List ℕ)) (line : List ℕ) (after : List (List ℕ)) (said : List GcovLine) (fault : ReadFault) (first rest : List (List ℕ)) (more : List GcovLine)
    → before ++ line ∷ after ≡ first ++ rest → AllSay above before said → IsFaultAt (length (above ++ said) + 1) (above ++ said) line fault → AllSay above first more
    → list_any begins_keeping said ≡ false → list_any begins_keeping more ≡ true → ⊥
reach above before line after said fault [] rest [] e all faulty one none some = false≢true some
reach above before line after said fault [] rest (m ∷ more) e all faulty one none some = one
reach above before line after said fault (l ∷ first) rest [] e all faulty one none some = one
reach above [] line after [] fault (l ∷ first) rest (m ∷ more) e all faulty one none some =
    let same : l ≡ line = cc in
    not_faulty (length above + 1) above line m fault (subst (λ (x : List ℕ). LineSays x (Ok m)) same one.0) one.1 (subst (λ (ls : List GcovLine). IsFaultAt (length ls + 1) ls line fault) (append-nil above) faulty)
reach above [] line after (s ∷ said) fault (l ∷ first) rest (m ∷ more) e all faulty one none some = all
reach above (k ∷ before) line after [] fault (l ∷ first) rest (m ∷ more) e all faulty one none some = all
reach above (k ∷ before) line after (s ∷ said) fault (l ∷ first) rest (m ∷ more) e all faulty one none some =
    let same : l ≡ k = cc in
    let tail : before ++ line ∷ after ≡ first ++ rest = cc in
    let says : m ≡ s = says_same m s (read k) (says_is k (Ok m) (subst (λ (x : List ℕ). LineSays x (Ok m)) same one.0)) (says_is k (Ok s) all.0) in
    let parts = or_parts (begins_keeping s) (list_any begins_keeping said) none in
    reach (above ++ s ∷ []) before line after said fault first rest more tail all.2 (subst (λ (ls : List GcovLine). IsFaultAt (length ls + 1) ls line fault) (sym (more_above above s said)) faulty)
    (subst (λ (x : GcovLine). AllSay (above ++ x ∷ []) first more) says one.2) parts.1 (or_last (begins_keeping m) (list_any begins_keeping more) (ap begins_keeping says ∙ parts.0) some)

early_isnt : (lines : List (List ℕ)) (fault : ReadFault) → FaultsEarly lines fault → HasBegun lines → ⊥
early_isnt lines fault early late =
    let first = early.first in
    let faulty = subst (λ (n : ℕ). IsFaultAt (n + 1) first.above first.line fault) (sym (all_say-length [] first.before first.above first.said)) first.faulty in
    reach [] first.before first.line first.after first.above fault late.before late.after late.above (sym first.place ∙ late.place) first.said faulty late.said early.none_kept late.begun

pub early_told : (test text : List ℕ) (answer : Result SubmissionData ReadFault) (fault : ReadFault) → Answers test text answer → GrowsLate text answer
    → length text ≤ max_bytes → IsGoodTest test → FaultsEarly (lines_of text) fault → answer ≡ Err fault
early_told test text answer fault answers late short good early =
    elim (answer_is test text answer (Err fault) answers (inr (inr (inl (short, good, early.first))))) [
      | inl none ↦ absurd (early_isnt (lines_of text) fault early (late none))
      | inr same ↦ sym same
    ]
