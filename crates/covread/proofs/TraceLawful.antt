-- What a tracefile is read as is lawful: its names and checksums fit into lines, its numbers fit, and its items aren't too many.
use Rattle.std.proofs.Common.{◌≡◌, ◌≢◌, ℕ, ◌+◌, ◌<◌, ◌≤◌, ◌^◌, Bool, true, false, List, [], ◌∷◌, ◌++◌, length, Option, Some, None, Ok, sym, subst, arith}
use Rattle.std.specs.Prelude.{codes, All, IfSome, fold, min, if◌then◌else◌}
use Rattle.std.specs.List.{flat_map, sum_by, AllByRecursion}
use Rattle.std.specs.Str.{bytes_eq}
use Rattle.std.proofs.lemmas.List.{append-nil, length-append}
use Rattle.std.proofs.lemmas.List.Elements.{All-from_recursion, recursion_from_All, All-nil}
use Rattle.std.proofs.lemmas.List.Sums.{sum_by-cons, count_by-le-length}
use Rattle.covdata.specs.Delimiters.{line_feed, carriage_return, comma}
use Rattle.covline.specs.Lines.{lines_of}
use Rattle.covdata.specs.Points.{least}
use Rattle.covdata.specs.Row.{ItemData, LineItem, BranchItem, SectData, SubmissionData, items_in}
use Rattle.covdata.specs.Lawful.{IsGoodTest, IsGoodName, IsLawfulItem, IsLawfulSect, FitsItem, AllFit, IsLawful}
use Rattle.covdata.specs.Records.{LineData, Test, Path, FuncStart, FuncCount, Branch, Line, End, HasSmallNumbers}
use Rattle.covline.specs.Spells.{HasForm}
use Rattle.covline.specs.LineLaws.{GoodRest}
use Rattle.covline.proofs.LineLaws as line_laws
use Rattle.covread.specs.Reads.{AllSpell, Part, Outside, Section, records_of, start_said, start_in, counted, items_said, items_of, is_odd, odd_in, test_after, sects_from}
use Rattle.covread.specs.Outcome.{max_bytes, IsOutcome}
use Rattle.covread.specs.TraceSteps.{HeldData, kept_in}
use Rattle.covread.proofs.AllOf.{all_front, all_back, all_weaker, all_flat}
use Rattle.covread.proofs.TraceGrammar.{Place, Between, Within}
use Rattle.covread.proofs.TraceKept.{without_skips-length}
use Rattle.covread.proofs.TraceStands.{Stands, AllSpell-length, begun}
use Rattle.covread.proofs.TraceRun.{Holds, section_of}

-- ---- what a line of a text says

-- the names and checksums in what a line says fit into a line
abbrev HasGoodTexts : LineData → Type 0
HasGoodTexts (Test name) = IsGoodTest name
HasGoodTexts (Path path) = IsGoodName path
HasGoodTexts (FuncStart line name) = IsGoodName name
HasGoodTexts (FuncCount count name) = IsGoodName name
HasGoodTexts (Line line count checksum) = IsLawfulItem (LineItem line count checksum)
HasGoodTexts says = Unit {0}

record IsGood (says : LineData) : Type 0 where
  small : HasSmallNumbers says
  texts : HasGoodTexts says

-- if a line fits, so does what follows a key, a number and a comma in it
good_after : GoodRest → (key number rest line : List ℕ) → line ≡ key ++ number ++ comma ∷ rest → IsGoodTest line → IsGoodTest rest
good_after good_rest key number rest line e good =
    good_rest (comma ∷ []) rest (good_rest (key ++ number) (comma ∷ rest) (subst (λ (x : List ℕ). IsGoodTest x) e good))

texts_good : GoodRest → (line : List ℕ) (says : LineData) → IsGoodTest line → HasForm line says → HasGoodTexts says
texts_good good_rest line (Test name) good form = good_rest (codes "TN:") name (subst (λ (x : List ℕ). IsGoodTest x) form good)
texts_good good_rest line (Path path) good form = record { fits = good_rest (codes "SF:") path (subst (λ (x : List ℕ). IsGoodTest x) form.0 good); some = form.1 }
texts_good good_rest line (FuncStart number name) good form = record { fits = good_after good_rest (codes "FN:") form.0 name line form.1 good; some = form.3 }
texts_good good_rest line (FuncCount count name) good form = record { fits = good_after good_rest (codes "FNDA:") form.0 name line form.1 good; some = form.3 }
texts_good good_rest line (Line number count (Some checksum)) good form = form.5
texts_good good_rest line says good form = tt

all_good : GoodRest → (lines : List (List ℕ)) (says : List LineData) → AllByRecursion IsGoodTest lines → AllSpell lines says → AllByRecursion IsGood says
all_good good_rest [] [] good spelled = tt
all_good good_rest [] (s ∷ says) good spelled = absurd spelled
all_good good_rest (line ∷ lines) [] good spelled = absurd spelled
all_good good_rest (line ∷ lines) (s ∷ says) good spelled =
    (record { small = spelled.0.small; texts = texts_good good_rest line s good.0 spelled.0.form }, all_good good_rest lines says good.1 spelled.1)

-- ---- the items of a section

abbrev IsSmall : ℕ → Type 0
IsSmall n = n < 2 ^ 64

fold_small : (n : ℕ) (ns : List ℕ) → IsSmall n → AllByRecursion IsSmall ns → IsSmall (fold min n ns)
fold_small n [] h k = h
fold_small n (m ∷ ns) h k = fold_small (min n m) ns (omega arith) k.1

least_small : (ns : List ℕ) → AllByRecursion IsSmall ns → IfSome (least ns) IsSmall
least_small [] h = tt
least_small (n ∷ ns) h = fold_small n ns h.0 h.1

small_if : (same : Bool) (line : ℕ) → IsSmall line → AllByRecursion IsSmall (if same then line ∷ [] else [])
small_if true line h = (h, tt)
small_if false line h = tt

start_said_small : (name : List ℕ) (says : LineData) → IsGood says → AllByRecursion IsSmall (start_said name says)
start_said_small name (FuncStart line other) good = small_if (bytes_eq other name) line good.small
start_said_small name says good = tt

start_small : (name : List ℕ) (inside : List LineData) → AllByRecursion IsGood inside → IfSome (start_in name inside) IsSmall
start_small name inside good = least_small (flat_map (start_said name) inside) (all_flat IsGood IsSmall (start_said name) (start_said_small name) inside good)

record IsGoodItem (item : ItemData) : Type 0 where
  fits : FitsItem item
  lawful : IsLawfulItem item

counted_good : (name : List ℕ) (count : ℕ) (start : Option ℕ) → IfSome start IsSmall → IsGood (FuncCount count name) → AllByRecursion IsGoodItem (counted name count start)
counted_good name count None small good = tt
counted_good name count (Some line) small good = (record { fits = (small, good.small); lawful = good.texts }, tt)

branch_fits : (line block branch : ℕ) (taken : Option ℕ) → HasSmallNumbers (Branch line block branch taken) → FitsItem (BranchItem line block branch taken)
branch_fits line block branch None small = small
branch_fits line block branch (Some taken) small = small

said_good : (inside : List LineData) → AllByRecursion IsGood inside → (says : LineData) → IsGood says → AllByRecursion IsGoodItem (items_said inside says)
said_good inside all (FuncStart line name) good = (record { fits = (good.small, omega arith); lawful = good.texts }, tt)
said_good inside all (FuncCount count name) good = counted_good name count (start_in name inside) (start_small name inside all) good
said_good inside all (Branch line block branch taken) good = (record { fits = branch_fits line block branch taken good.small; lawful = tt }, tt)
said_good inside all (Line line count checksum) good = (record { fits = good.small; lawful = good.texts }, tt)
said_good inside all says good = tt

good_items : (inside : List LineData) → AllByRecursion IsGood inside → AllByRecursion IsGoodItem (items_of inside)
good_items inside all = all_flat IsGood IsGoodItem (items_said inside) (said_good inside all) inside all

-- ---- the sections

no_end : (front : List ℕ) → [] ≢ front ++ carriage_return ∷ []
no_end [] = λ e. absurd cc
no_end (b ∷ front) = λ e. absurd cc

empty_good : IsGoodTest []
empty_good = record { one_line = All-nil (λ b. b ≢ line_feed); no_return = no_end }

test_good : (test : List ℕ) (says : LineData) → IsGoodTest test → IsGood says → IsGoodTest (test_after test says)
test_good test (Test name) good h = h.texts
test_good test says good h = good

record IsGoodSect (sect : SectData) : Type 0 where
  fit : AllFit sect.items
  lawful : IsLawfulSect sect

good_sects : (test : List ℕ) (parts : List Part) → IsGoodTest test → AllByRecursion IsGood (flat_map records_of parts) → AllByRecursion IsGoodSect (sects_from test parts)
good_sects test [] good h = tt
good_sects test (Outside says ∷ parts) good h = good_sects (test_after test says) parts (test_good test says good h.0) h.1
good_sects test (Section path inside ∷ parts) good h =
    let rest = flat_map records_of parts in
    let items = good_items inside (all_front IsGood inside (End ∷ []) (all_front IsGood (inside ++ End ∷ []) rest h.1)) in (
      record {
        fit = all_weaker IsGoodItem FitsItem (λ item good. good.fits) (items_of inside) items;
        lawful = record { test = good; file = h.0.texts; items = all_weaker IsGoodItem IsLawfulItem (λ item good. good.lawful) (items_of inside) items };
      },
      good_sects test parts good (all_back IsGood (inside ++ End ∷ []) rest h.1),
    )

-- ---- how many

few_counted : (name : List ℕ) (count : ℕ) (start : Option ℕ) → length (counted name count start) ≤ 1
few_counted name count None = omega arith
few_counted name count (Some line) = omega arith

few_said : (inside : List LineData) (says : LineData) → length (items_said inside says) ≤ 1
few_said inside (FuncCount count name) = few_counted name count (start_in name inside)
few_said inside says = omega arith

few_flat : {X Y : Type 0} (f : X → List Y) → ((x : X) → length (f x) ≤ 1) → (xs : List X) → length (flat_map f xs) ≤ length xs
few_flat f few [] = omega arith
few_flat f few (x ∷ xs) = omega (arith, few x, few_flat f few xs, length-append (f x) (flat_map f xs))

few_items : (inside : List LineData) → length (items_of inside) ≤ length inside
few_items inside = few_flat (items_said inside) (few_said inside) inside

abbrev records : List Part → List LineData
records parts = flat_map records_of parts

section_length : (path : List ℕ) (inside : List LineData) (parts : List Part) → length (records (Section path inside ∷ parts)) ≡ length inside + length (records parts) + 2
section_length path inside parts =
    omega (arith, length-append (inside ++ End ∷ []) (records parts), length-append inside (End ∷ []))

few_in_sects : (test : List ℕ) (parts : List Part) → items_in (sects_from test parts) ≤ length (records parts)
few_in_sects test [] = omega arith
few_in_sects test (Outside says ∷ parts) = omega (arith, few_in_sects (test_after test says) parts)
few_in_sects test (Section path inside ∷ parts) =
    let one : SectData = record { test = test; file = path; items = items_of inside } in
    let k = sum_by-cons (λ (s : SectData). length s.items) one (sects_from test parts) in
    omega (arith, k, few_in_sects test parts, few_items inside, section_length path inside parts)

few_odd : (parts : List Part) → sum_by odd_in parts ≤ length (records parts)
few_odd [] = omega arith
few_odd (Outside says ∷ parts) = let k = sum_by-cons odd_in (Outside says) parts in omega (arith, k, few_odd parts)
few_odd (Section path inside ∷ parts) =
    let k = sum_by-cons odd_in (Section path inside) parts in
    omega (arith, k, few_odd parts, count_by-le-length (is_odd inside) inside, section_length path inside parts)

few_kept : (place : Place) → length (kept_in (section_of place)) ≤ length (begun place)
few_kept Between = omega arith
few_kept (Within path inside) = omega (arith, without_skips-length inside)

room : (lines : List (List ℕ)) (parts : List Part) (place : Place) → Stands lines parts place
    → sum_by odd_in parts + length (kept_in (section_of place)) ≤ length lines
room lines parts place s =
    omega (arith, few_odd parts, few_kept place, AllSpell-length lines (records parts ++ begun place) s.spelled, length-append (records parts) (begun place))

-- the odd lines so far, and the records of the open section, each of which may turn out odd, are together no more than the lines
pub held_room : (lines : List (List ℕ)) (held : HeldData) → Holds lines held → held.odd + length (kept_in held.section) ≤ length lines
held_room lines held h =
    subst (λ (x : HeldData). x.odd + length (kept_in x.section) ≤ length lines) (sym h.is) (room lines h.parts h.place h.stands)

-- ---- the submission

pub lawful_parts : GoodRest → (lines : List (List ℕ)) (parts : List Part) → Stands lines parts Between → All IsGoodTest lines → length lines ≤ max_bytes
    → IsLawful (record { sects = sects_from [] parts; odd = sum_by odd_in parts })
lawful_parts good_rest lines parts s good short =
    let spelled : AllSpell lines (records parts) = subst (λ (x : List LineData). AllSpell lines x) (append-nil (records parts)) s.spelled in
    let says = all_good good_rest lines (records parts) (recursion_from_All IsGoodTest lines good) spelled in
    let sects = good_sects [] parts empty_good says in
    let len = AllSpell-length lines (records parts) spelled in
    record {
      few = omega (arith, few_in_sects [] parts, len, short);
      texts = All-from_recursion IsLawfulSect (sects_from [] parts) (all_weaker IsGoodSect IsLawfulSect (λ sect good. good.lawful) (sects_from [] parts) sects);
      fit = all_weaker IsGoodSect (λ sect. AllFit sect.items) (λ sect good. good.fit) (sects_from [] parts) sects;
      odd_fits = omega (arith, few_odd parts, len, short);
    }

same_lawful : (s : SubmissionData) (sects : List SectData) (odd : ℕ) → s.sects ≡ sects → s.odd ≡ odd → IsLawful (record { sects = sects; odd = odd }) → IsLawful s
same_lawful s sects odd e f h =
    let k : IsLawful (record { sects = sects; odd = s.odd }) = subst (λ (n : ℕ). IsLawful (record { sects = sects; odd = n })) (sym f) h in
    subst (λ (x : List SectData). IsLawful (record { sects = x; odd = s.odd })) (sym e) k

-- what a text is read as is lawful
pub lawful_outcome : (text : List ℕ) (s : SubmissionData) → IsOutcome text (Ok s) → IsLawful s
lawful_outcome text s h =
    let parts = h.1.parts in
    let lines = lines_of text in
    let stands : Stands lines parts Between =
    record { lawful = h.1.lawful; inside = tt; spelled = subst (λ (x : List LineData). AllSpell lines x) (sym (append-nil (records parts))) h.1.spelled } in
    same_lawful s (sects_from [] parts) (sum_by odd_in parts) h.1.sects h.1.odd
    (lawful_parts line_laws.good_rest lines parts stands (line_laws.good_lines text) (omega (arith, h.0, line_laws.few_lines text)))
