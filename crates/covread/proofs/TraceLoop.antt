-- Reading line after line, as the loop does.
use Rattle.std.proofs.Common.{◌≡◌, ℕ, ◌+◌, ◌<◌, ◌≤◌, ◌^◌, Bool, true, false, eqb, List, [], ◌∷◌, ◌++◌, length, Option, Some, None, Result, Ok, Err, refl, sym, ap, subst, ◌∙◌, append_assoc, arith, inl, inr}
use Rattle.std.specs.Prelude.{option_map, is_some}
use Rattle.std.proofs.lemmas.Bool.{eqb-true}
use Rattle.std.proofs.lemmas.List.{append-nil, length-append}
use Rattle.covline.specs.Lines.{lines_of}
use Rattle.covdata.specs.Row.{ItemData, SectData}
use Rattle.covdata.specs.Lawful.{IsLawful}
use Rattle.covdata.specs.Records.{LineData, Path}
use Rattle.covline.specs.Spells.{Spells}
use Rattle.covdata.specs.declared.fault.ReadFault.{ReadFault}
use Rattle.covdata.specs.declared.fault.ReadFault.TheVariants as faults
use Rattle.covread.specs.declared.trace.reader.OpenSection.{OpenSection}
use Rattle.covread.specs.declared.trace.reader.Reader.{Reader}
use Rattle.covread.specs.Reads.{Part}
use Rattle.covread.specs.Outcome.{max_bytes, IsFirstFault, Answers, HasBegun, GrowsLate}
use Rattle.covread.specs.TraceSteps.{SectionData, HeldData, submission_held, IsLawfulAt, empty, kept_in, section_data, IsOpenAt, step, StopsAt, TakesLine, GrowsAt, ends, ends_at, EndsLawfully}
use Rattle.covread.proofs.TraceGrammar.{TextLaw, Place, Between, Within}
use Rattle.covread.proofs.TraceStands.{Stands, stands_path, stands_goes_on, path_line, stands_reads, stop_by_fault, stop_open}
use Rattle.covread.proofs.TraceRun.{Holds, held_of, section_of, holds_at_first, holds_more, holds_outside, holds_inside}
use Rattle.covread.proofs.TraceLawful.{held_room, lawful_parts}

-- the reader took `at` lines of the text, holds this, and the rest is left
pub record Reading (text rest : List ℕ) (held : HeldData) (at : ℕ) : Type 0 where
  pub before : List (List ℕ)
  pub whole : lines_of text ≡ before ++ lines_of rest
  pub holds : Holds before held
  pub number : at ≡ length before

pub reading_at_first : (text : List ℕ) → Reading text text empty 0
reading_at_first text = record { before = []; whole = refl; holds = holds_at_first; number = refl }

-- the rest of the text begins with this line, and `left` follows the line
abbrev Follows : List ℕ → List ℕ → List ℕ → Type 0
Follows rest line left = lines_of rest ≡ line ∷ lines_of left

place_is : (text rest line left : List ℕ) (held : HeldData) (at : ℕ) (r : Reading text rest held at) → Follows rest line left → lines_of text ≡ r.before ++ line ∷ lines_of left
place_is text rest line left held at r f = r.whole ∙ ap (λ (x : List (List ℕ)). r.before ++ x) f

pub reading_more : (text rest line left : List ℕ) (before after : HeldData) (at : ℕ) → Reading text rest before at → lines_of rest ≡ line ∷ lines_of left
    → (says : LineData) → Spells line says → step before says ≡ Ok after → Reading text left after (at + 1)
reading_more text rest line left before after at r f says spells e = record {
  before = r.before ++ line ∷ [];
  whole = place_is text rest line left before at r f ∙ sym (append_assoc r.before (line ∷ []) (lines_of left));
  holds = holds_more r.before line before after says r.holds spells e;
  number = omega (arith, r.number, length-append r.before (line ∷ []));
}

-- the number of the next line fits into 64 bits
pub reading_number : TextLaw → (text rest line left : List ℕ) (held : HeldData) (at : ℕ) → length text ≤ max_bytes → Reading text rest held at → lines_of rest ≡ line ∷ lines_of left → at + 1 < 2 ^ 64
reading_number law text rest line left held at short r f =
    omega (arith, short, law.few_lines text, r.number, ap length (place_is text rest line left held at r f), length-append r.before (line ∷ lines_of left))

-- likewise, whether or not a line is left
pub reading_next : TextLaw → (text rest : List ℕ) (held : HeldData) (at : ℕ) → length text ≤ max_bytes → Reading text rest held at → at + 1 < 2 ^ 64
reading_next law text rest held at short r = omega (arith, short, law.few_lines text, r.number, ap length r.whole, length-append r.before (lines_of rest))

-- the number of odd lines fits into 64 bits, even if all records of the open section and one more turn out odd
pub reading_room : TextLaw → (text rest : List ℕ) (held : HeldData) (at : ℕ) → length text ≤ max_bytes → Reading text rest held at → held.odd + length (kept_in held.section) + 1 < 2 ^ 64
reading_room law text rest held at short r =
    omega (arith, short, law.few_lines text, held_room r.before held r.holds, ap length r.whole, length-append r.before (lines_of rest))

number_is : (n at : ℕ) (lines : List (List ℕ)) → n ≡ at + 1 → at ≡ length lines → length lines + 1 ≡ n
number_is n at lines e f = omega (arith, e, f)

-- why the reader stops at the next line is a right answer: this line has the text's first fault, or memory ran out
pub reading_stop : TextLaw → (text rest line left : List ℕ) (before : HeldData) (at : ℕ) (fault : ReadFault) → length text ≤ max_bytes → Reading text rest before at
    → lines_of rest ≡ line ∷ lines_of left → StopsAt fault before line (at + 1) → Answers text (Err fault)
reading_stop law text rest line left before at (faults.Line n f) short r e takes = inr (inr (
  short,
  subst (λ (k : ℕ). IsFirstFault (lines_of text) (faults.Line k f)) (number_is n at r.before takes.0 r.number)
      (stop_by_fault law.line_law r.holds.place line r.before r.holds.parts (lines_of left) (lines_of text) r.holds.stands (place_is text rest line left before at r e) f takes.1),
))
reading_stop law text rest line left before at (faults.Outside n) short r e takes = inr (inr (
  short,
  subst (λ (k : ℕ). IsFirstFault (lines_of text) (faults.Outside k)) (number_is n at r.before takes.0 r.number)
      (holds_outside law.line_law r.before line (lines_of left) (lines_of text) before takes.1 r.holds (place_is text rest line left before at r e) takes.2 takes.3),
))
reading_stop law text rest line left before at (faults.Inside n) short r e takes = inr (inr (
  short,
  subst (λ (k : ℕ). IsFirstFault (lines_of text) (faults.Inside k)) (number_is n at r.before takes.0 r.number)
      (holds_inside law.line_law r.before line (lines_of left) (lines_of text) before takes.1 r.holds (place_is text rest line left before at r e) takes.2 takes.3),
))
reading_stop law text rest line left before at faults.Memory short r e takes = inl (short, refl)
reading_stop law text rest line left before at other short r e takes = absurd takes

-- ---- where memory ran out

begun_at : (all lines : List (List ℕ)) (parts : List Part) (place : Place) (line : List ℕ) (after : List (List ℕ)) (says : LineData) → Stands lines parts place → all ≡ lines ++ line ∷ after → Spells line says
    → GrowsAt (section_of place) says → HasBegun all
begun_at all lines parts Between line after (Path path) s e spells grows =
    (lines, line, after, path, e, spells, stands_goes_on (lines ++ line ∷ []) parts (Within path []) (stands_path lines parts line path s spells))
begun_at all lines parts Between line after says s e spells grows = absurd grows
begun_at all lines parts (Within path inside) line after says s e spells grows =
    let k = path_line lines parts path inside s in
    let whole : all ≡ k.0 ++ k.1 ∷ (k.2 ++ line ∷ after) = e ∙ ap (λ (x : List (List ℕ)). x ++ line ∷ after) k.3 ∙ append_assoc k.0 (k.1 ∷ k.2) (line ∷ after) in
    (k.0, k.1, k.2 ++ line ∷ after, path, whole, k.5, stands_goes_on (k.0 ++ k.1 ∷ []) parts (Within path []) (stands_path k.0 parts k.1 path k.4 k.5))

-- if the reader stops at the next line because memory ran out, this line is a path or is below one
pub reading_grows : (text rest line left : List ℕ) (before : HeldData) (at : ℕ) (fault : ReadFault) → Reading text rest before at → lines_of rest ≡ line ∷ lines_of left
    → StopsAt fault before line (at + 1) → GrowsLate text (Err fault)
reading_grows text rest line left before at faults.Memory r e takes = λ same.
    begun_at (lines_of text) r.before r.holds.parts r.holds.place line (lines_of left) takes.0 r.holds.stands (place_is text rest line left before at r e) takes.1
    (subst (λ (x : HeldData). GrowsAt x.section takes.0) r.holds.is takes.2)
reading_grows text rest line left before at (faults.Line n f) r e takes = λ same. absurd cc
reading_grows text rest line left before at (faults.Outside n) r e takes = λ same. absurd cc
reading_grows text rest line left before at (faults.Inside n) r e takes = λ same. absurd cc
reading_grows text rest line left before at other r e takes = absurd takes

-- the end needs no memory
pub ends_late : (text : List ℕ) (section : Option SectionData) (held : HeldData) → GrowsLate text (ends_at section held)
ends_late text None held = λ same. absurd cc
ends_late text (Some s) held = λ same. absurd cc

-- ---- after the last line

abbrev Ended : List ℕ → HeldData → Type 0
Ended text held = Answers text (ends held) × EndsLawfully held

ended : TextLaw → (text : List ℕ) (parts : List Part) (place : Place) → length text ≤ max_bytes → Stands (lines_of text) parts place → Ended text (held_of parts place)
ended law text parts Between short s =
    (inr (short, stands_reads (lines_of text) parts s), lawful_parts law.good_rest (lines_of text) parts s (law.good_lines text) (omega (arith, short, law.few_lines text)))
ended law text parts (Within path inside) short s = (inr (inr (short, stop_open law.line_law (lines_of text) parts path inside s)), tt)

pub reading_end : TextLaw → (text rest : List ℕ) (held : HeldData) (at : ℕ) → length text ≤ max_bytes → Reading text rest held at → lines_of rest ≡ []
    → Answers text (ends held) × EndsLawfully held
reading_end law text rest held at short r none =
    let all : r.before ≡ lines_of text = sym (r.whole ∙ ap (λ (x : List (List ℕ)). r.before ++ x) none ∙ append-nil r.before) in
    let s : Stands (lines_of text) r.holds.parts r.holds.place = subst (λ (x : List (List ℕ)). Stands x r.holds.parts r.holds.place) all r.holds.stands in
    subst (λ (x : HeldData). Ended text x) (sym r.holds.is) (ended law text r.holds.parts r.holds.place short s)

-- if the rest of the text is empty, no lines are left
pub no_lines : (rest : List ℕ) (b : Bool) → b ≡ eqb (length rest) 0 → b ≡ true → lines_of rest ≡ []
no_lines [] b is e = refl
no_lines (x ∷ xs) b is e = let none : length (x ∷ xs) ≡ 0 = eqb-true (length (x ∷ xs)) 0 (sym is ∙ e) in absurd (omega arith)

pub reading_begins : (text rest : List ℕ) (held : HeldData) → held ≡ empty → rest ≡ text → Reading text rest held 0
reading_begins text rest held e f =
    subst (λ (h : HeldData). Reading text rest h 0) (sym e) (subst (λ (x : List ℕ). Reading text x empty 0) (sym f) (reading_at_first text))

-- the outcome of what is held after the last line, if the open section has these records. It doesn't depend on them
abbrev EndsAt : {A : Type 0} → List ℕ → List ℕ → List SectData → ℕ → Option (OpenSection A) → List LineData → Type 0
EndsAt text test sects odd section inside = Ended text (record { test = test; section = option_map (section_data inside) section; sects = sects; odd = odd })

pub ends_without : {A : Type 0} (text test : List ℕ) (sects : List SectData) (odd : ℕ) (section : Option (OpenSection A)) (inside : List LineData) → EndsAt text test sects odd section inside → EndsAt text test sects odd section []
ends_without text test sects odd None inside h = h
ends_without text test sects odd (Some s) inside h = h

-- there are as many records so far as are kept
pub open_length : {A : Type 0} (section : Option (OpenSection A)) (items : List ItemData) (inside : List LineData) → IsOpenAt section items inside → length inside ≡ length (kept_in (option_map (section_data inside) section))
open_length None items inside h = ap length h
open_length (Some s) items inside h = refl

-- if no section is open, what is held makes a lawful submission
pub closed_lawful : {X : Type 0} (view : X → SectionData) (section : Option X) (held : HeldData) → is_some section ≡ false → IsLawfulAt (option_map view section) held → IsLawful (submission_held held)
closed_lawful view None held e h = h
closed_lawful view (Some s) held e h = absurd cc

-- if the result for a line is a fault, this fault is why the reader stops at the line
pub stopped : {A T : Type 0} (r : Result T ReadFault) (fault : ReadFault) (before : HeldData) (after : Reader A) (line : List ℕ) (at : ℕ) → r ≡ Err fault → TakesLine r before after line at → StopsAt fault before line at
stopped {A} {T} r fault before after line at is took = subst (λ (x : Result T ReadFault). TakesLine x before after line at) is took
