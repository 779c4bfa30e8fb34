-- What gcov's output is read as is lawful: its names fit into lines, its numbers into 64 bits, and its items aren't too many.
use Rattle.std.proofs.Common.{◌≡◌, ◌≢◌, ℕ, ◌+◌, ◌<◌, ◌≤◌, ◌^◌, inl, inr, Bool, true, false, cond, eqb, List, [], ◌∷◌, ◌++◌, length, map, Option, Some, None, Result, Ok, Err, refl, sym, ap, subst, ◌∙◌, arith}
use Rattle.std.specs.Prelude.{codes, All, option_map, ◌||◌, if◌then◌else◌}
use Rattle.std.specs.Str.{bytes_eq}
use Rattle.std.specs.List.{AllByRecursion}
use Rattle.std.proofs.lemmas.Bool.{cases_Bool, cases_lt, lt-ltb, le-ltb}
use Rattle.std.proofs.lemmas.List.{length-append}
use Rattle.std.proofs.lemmas.List.Elements.{All-from_recursion, recursion_from_All, All-take}
use Rattle.std.proofs.lemmas.List.Sums.{sum_by-cons, sum_by-append}
use Rattle.std.proofs.Math.Seq.{take-append_seam}
use Rattle.covdata.specs.Delimiters.{line_feed}
use Rattle.covline.specs.Lines.{lines_of}
use Rattle.covdata.specs.Row.{ItemData, BranchItem, SectData, SubmissionData, items_in}
use Rattle.covdata.specs.Lawful.{IsGoodTest, IsGoodName, IsLawfulItem, IsLawfulSect, FitsItem, AllFit, IsLawful}
use Rattle.covline.specs.Spells.{digits_value}
use Rattle.covline.specs.Reading.{after_key}
use Rattle.covline.proofs.LineLaws.{good_rest, good_lines, few_lines}
use Rattle.covdata.specs.declared.fault.ReadFault.{ReadFault}
use Rattle.covdata.specs.declared.fault.ReadFault.TheVariants as faults
use Rattle.covread.specs.declared.gcov.line.OwnFault.TheVariants as own
use Rattle.covread.specs.declared.gcov.reader.BranchAnchor.{BranchAnchor}
use Rattle.covread.specs.Gcov.{Shape, Instances, Function, Never, Taken, Block, Numbered, Other, HasShape, IsName, Says, says_of, GcovLine, Path, SourceLine, FuncCount, BranchCount, BlockNumber, Nothing, with_number, are_digits, without_last, percent, star, branch_says, source_says, path_says, colon}
use Rattle.covread.specs.GcovReading.{shape_of}
use Rattle.covread.specs.GcovItems.{func_item, line_item, is_empty}
use Rattle.covread.specs.Outcome.{max_bytes}
use Rattle.covread.specs.GcovOutcome.{IsOutcome}
use Rattle.covread.specs.GcovSteps.{SectionData, HeldData, empty, closed, section_with, Stepped, begun, step_path, step_source, step_func, step_branch, step_branch_in, in_block, section_in_block, step_block, step, line_step, run_on, run, submission_held}
use Rattle.covread.proofs.GcovParts.{key_or_none}
use Rattle.covread.proofs.GcovShapes.{found_fits}
use Rattle.covread.proofs.GcovText.{read, whole_run, then_ends, whole, whole_outcome, one_outcome}

-- ---- what a line says

abbrev IsSmall : ℕ → Type 0
IsSmall n = n < 2 ^ 64

abbrev IsSmallIf : Option ℕ → Type 0
IsSmallIf None = Unit {0}
IsSmallIf (Some n) = IsSmall n

abbrev IsGood : GcovLine → Type 0
IsGood (Path path) = IsGoodTest path
IsGood (SourceLine line count) = IsSmall line × IsSmallIf count
IsGood (FuncCount name count) = IsGoodName name × IsSmall count
IsGood (BranchCount branch taken) = IsSmall branch × IsSmallIf taken
IsGood (BlockNumber block) = IsSmall block
IsGood Nothing = Unit {0}

abbrev IsGoodIf : Says → Type 0
IsGoodIf (Err why) = Unit {0}
IsGoodIf (Ok says) = IsGood says

numbered_good : (digits : List ℕ) (says : ℕ → Says) → ((n : ℕ) → IsSmall n → IsGoodIf (says n)) → IsGoodIf (with_number digits says)
numbered_good digits says good =
    elim (cases_lt (digits_value digits) (2 ^ 64)) [
      | inl lt ↦ rw (lt-ltb (digits_value digits) (2 ^ 64) lt) (good (digits_value digits) lt)
      | inr le ↦ rw (le-ltb (digits_value digits) (2 ^ 64) le) tt
    ]

branch_good : (branch word : List ℕ) → IsGoodIf (branch_says branch word)
branch_good branch word =
    elim (cases_Bool (are_digits word)) [
      | inl digits ↦ rw digits (numbered_good branch (λ b. with_number word (λ n. Ok (BranchCount b (Some n)))) (λ b small. numbered_good word (λ n. Ok (BranchCount b (Some n))) (λ n less. (small, less))))
      | inr other ↦ elim (cases_Bool (are_digits (without_last percent word))) [
        | inl rate ↦ rw (other, rate) tt
        | inr bad ↦ rw (other, bad) tt
      ]
    ]

if_good : (b : Bool) (x y : Says) → IsGoodIf x → IsGoodIf y → IsGoodIf (cond b x y)
if_good true x y g h = g
if_good false x y g h = h

source_good : (mark line : List ℕ) → IsGoodIf (source_says mark line)
source_good mark line =
    elim (cases_Bool (bytes_eq mark (codes "-"))) [
      | inl none ↦ rw none (numbered_good line (λ l. Ok (SourceLine l None)) (λ l small. (small, tt)))
      | inr code ↦ elim (cases_Bool (bytes_eq mark (codes "#####") || bytes_eq mark (codes "====="))) [
        | inl zero ↦ rw (code, zero) (numbered_good line (λ l. Ok (SourceLine l (Some 0))) (λ l small. (small, omega arith)))
        | inr other ↦ rw (code, other) (if_good (are_digits (without_last star mark)) (with_number line (λ l. with_number (without_last star mark) (λ n. Ok (SourceLine l (Some n))))) (Err own.BadMark)
            (numbered_good line (λ l. with_number (without_last star mark) (λ n. Ok (SourceLine l (Some n)))) (λ l small. numbered_good (without_last star mark) (λ n. Ok (SourceLine l (Some n))) (λ n less. (small, less)))) tt)
      ]
    ]

-- what holds of all bytes holds of those at the front
all_of_front : (P : ℕ → Type 0) (front rest : List ℕ) → All P (front ++ rest) → All P front
all_of_front P front rest all = subst (λ (t : List ℕ). All P t) (take-append_seam front rest) (All-take P (length front) (front ++ rest) all)

name_good : (line name rest : List ℕ) → line ≡ codes "function " ++ (name ++ rest) → IsName name → IsGoodTest line → IsGoodName name
name_good line name rest e is good =
    let following = good_rest (codes "function ") (name ++ rest) (subst (λ (t : List ℕ). IsGoodTest t) e good) in
    record { fits = record { one_line = all_of_front (λ b. b ≢ line_feed) name rest following.one_line; no_return = is.no_return }; some = is.some }

text_good : (line indent mark pad number text : List ℕ) → line ≡ indent ++ (mark ++ colon ∷ (pad ++ (number ++ colon ∷ text))) → IsGoodTest line → IsGoodTest text
text_good line indent mark pad number text e good =
    good_rest (colon ∷ []) text (good_rest number (colon ∷ text) (good_rest pad (number ++ colon ∷ text) (good_rest (colon ∷ []) (pad ++ (number ++ colon ∷ text))
    (good_rest mark (colon ∷ (pad ++ (number ++ colon ∷ text))) (good_rest indent (mark ++ colon ∷ (pad ++ (number ++ colon ∷ text))) (subst (λ (t : List ℕ). IsGoodTest t) e good))))))

path_good : (text : List ℕ) → IsGoodTest text → IsGoodIf (path_says (after_key (codes "Source:") text))
path_good text good =
    elim (key_or_none (codes "Source:") text) [
      | inl key ↦ rw key.read (good_rest (codes "Source:") key.rest (subst (λ (t : List ℕ). IsGoodTest t) key.parts good))
      | inr none ↦ rw none tt
    ]

shape_good : (line : List ℕ) (shape : Shape) → HasShape line shape → IsGoodTest line → IsGoodIf (says_of shape)
shape_good line Instances form good = tt
shape_good line (Function name count) form good = numbered_good count (λ n. Ok (FuncCount name n)) (λ n small. (name_good line name (codes " called " ++ (count ++ form.0)) form.1 form.2 good, small))
shape_good line (Never branch) form good = numbered_good branch (λ b. Ok (BranchCount b None)) (λ b small. (small, tt))
shape_good line (Taken branch word) form good = branch_good branch word
shape_good line (Block number block) form good = numbered_good number (λ _. with_number block (λ b. Ok (BlockNumber b))) (λ _ _. numbered_good block (λ b. Ok (BlockNumber b)) (λ b small. small))
shape_good line (Numbered mark number text) form good =
    if_good (eqb (digits_value number) 0) (path_says (after_key (codes "Source:") text)) (source_says mark number) (path_good text (text_good line form.0 mark form.1 number text form.2 good)) (source_good mark number)
shape_good line Other form good = tt

read_good : (line : List ℕ) → IsGoodTest line → IsGoodIf (read line)
read_good line good = shape_good line (shape_of line) (found_fits line) good

-- ---- what is held

record IsGoodSect (sect : SectData) : Type 0 where
  fit : AllFit sect.items
  lawful : IsLawfulSect sect

record IsGoodFunc (f : List ℕ × ℕ) : Type 0 where
  name : IsGoodName f.0
  small : IsSmall f.1

record IsGoodItem (item : ItemData) : Type 0 where
  fits : FitsItem item
  lawful : IsLawfulItem item

abbrev IsSmallAnchor : Option BranchAnchor → Type 0
IsSmallAnchor None = Unit {0}
IsSmallAnchor (Some p) = IsSmall p.line × IsSmall p.block

abbrev IsGoodSection : Option SectionData → Type 0
IsGoodSection None = Unit {0}
IsGoodSection (Some s) = IsGoodName s.file × AllByRecursion IsGoodItem s.items × IsSmallAnchor s.anchor

-- how many items there are, with one for each function that waits
abbrev held_items : List ℕ → HeldData → ℕ
held_items test held = items_in (held.sects ++ closed test held.section) + length held.waiting

record IsGoodHeld (test : List ℕ) (n : ℕ) (held : HeldData) : Type 0 where
  funcs : AllByRecursion IsGoodFunc held.waiting
  sects : AllByRecursion IsGoodSect held.sects
  section : IsGoodSection held.section
  few : held_items test held ≤ n

all_joined : {X : Type 0} (P : X → Type 0) (xs ys : List X) → AllByRecursion P xs → AllByRecursion P ys → AllByRecursion P (xs ++ ys)
all_joined P [] ys a b = b
all_joined P (x ∷ xs) ys a b = (a.0, all_joined P xs ys a.1 b)

all_weaker : {X : Type 0} (P Q : X → Type 0) → ((x : X) → P x → Q x) → (xs : List X) → AllByRecursion P xs → AllByRecursion Q xs
all_weaker P Q weak [] h = tt
all_weaker P Q weak (x ∷ xs) h = (weak x h.0, all_weaker P Q weak xs h.1)

closed_good : (test : List ℕ) (section : Option SectionData) → IsGoodTest test → IsGoodSection section → AllByRecursion IsGoodSect (closed test section)
closed_good test None good h = tt
closed_good test (Some s) good h = (
  record {
    fit = all_weaker IsGoodItem FitsItem (λ item g. g.fits) s.items h.1;
    lawful = record { test = good; file = h.0; items = all_weaker IsGoodItem IsLawfulItem (λ item g. g.lawful) s.items h.1 };
  },
  tt,
)

funcs_good : (line : ℕ) (funcs : List (List ℕ × ℕ)) → IsSmall line → AllByRecursion IsGoodFunc funcs → AllByRecursion IsGoodItem (map (func_item line) funcs)
funcs_good line [] small h = tt
funcs_good line (f ∷ fs) small h = (record { fits = (small, omega (arith, h.0.small)); lawful = h.0.name }, funcs_good line fs small h.1)

line_good : (line : ℕ) (count : Option ℕ) → IsSmall line → IsSmallIf count → AllByRecursion IsGoodItem (line_item line count)
line_good line None small h = tt
line_good line (Some n) small h = (record { fits = (small, omega (arith, h)); lawful = tt }, tt)

branch_fits : (line block branch : ℕ) (taken : Option ℕ) → IsSmall line → IsSmall block → IsSmall branch → IsSmallIf taken → FitsItem (BranchItem line block branch taken)
branch_fits line block branch None l k b t = (l, k, b)
branch_fits line block branch (Some n) l k b t = (l, k, b, omega (arith, t))

-- ---- how many items there are

items_append : (xs ys : List SectData) → items_in (xs ++ ys) ≡ items_in xs + items_in ys
items_append xs ys = sum_by-append (λ (s : SectData). length s.items) xs ys

one_section : (s : SectData) → items_in (s ∷ []) ≡ length s.items
one_section s = let k = sum_by-cons (λ (t : SectData). length t.items) s [] in omega (arith, k)

map_length : (line : ℕ) (funcs : List (List ℕ × ℕ)) → length (map (func_item line) funcs) ≡ length funcs
map_length line [] = refl
map_length line (f ∷ fs) = omega (arith, map_length line fs)

few_of_line : (line : ℕ) (count : Option ℕ) → length (line_item line count) ≤ 1
few_of_line line None = omega arith
few_of_line line (Some n) = omega arith

few_begun : (test path : List ℕ) (n : ℕ) (held : HeldData) → held_items test held ≤ n → held_items test (begun test path held) ≤ n
few_begun test path n held few =
    omega (arith, few, items_append (held.sects ++ closed test held.section) (record { test = test; file = path; items = [] } ∷ []), one_section (record { test = test; file = path; items = [] }))

few_with : (test : List ℕ) (n k : ℕ) (held : HeldData) (s : SectionData) (more : List ItemData) (anchor : Option BranchAnchor) (waits : List (List ℕ × ℕ)) → held.section ≡ Some s
    → held_items test held ≤ n → length more + length waits ≤ length held.waiting + k → held_items test (section_with s more anchor held waits) ≤ n + k
few_with test n k held s more anchor waits e few less =
    let old : SectData = record { test = test; file = s.file; items = s.items } in
    let now : SectData = record { test = test; file = s.file; items = s.items ++ more } in
    let before : items_in (held.sects ++ closed test held.section) ≡ items_in held.sects + length s.items
    = ap (λ (x : Option SectionData). items_in (held.sects ++ closed test x)) e ∙ items_append held.sects (old ∷ []) ∙ ap (λ (m : ℕ). items_in held.sects + m) (one_section old) in
    let after : items_in (held.sects ++ now ∷ []) ≡ items_in held.sects + length (s.items ++ more)
    = items_append held.sects (now ∷ []) ∙ ap (λ (m : ℕ). items_in held.sects + m) (one_section now) in
    omega (arith, few, less, before, after, length-append s.items more)

-- ---- the steps

abbrev IsGoodStep : List ℕ → ℕ → Stepped → Type 0
IsGoodStep test n (Err fault) = Unit {0}
IsGoodStep test n (Ok held) = IsGoodHeld test n held

path_step : (test : List ℕ) (at n : ℕ) (held : HeldData) (path : List ℕ) → IsGoodTest test → IsGoodHeld test n held → IsGoodTest path → IsGoodStep test (n + 1) (step_path test at held path)
path_step test at n held [] good h p = tt
path_step test at n held (b ∷ bs) good h p =
    elim (cases_Bool (is_empty held.waiting)) [
      | inl none ↦ rw none (record {
        funcs = h.funcs;
        sects = all_joined IsGoodSect held.sects (closed test held.section) h.sects (closed_good test held.section good h.section);
        section = (record { fits = p; some = omega arith }, tt, tt);
        few = omega (arith, few_begun test (b ∷ bs) n held h.few);
      })
      | inr some ↦ rw some tt
    ]

source_step : (test : List ℕ) (at n : ℕ) (held : HeldData) (line : ℕ) (count : Option ℕ) (section : Option SectionData) → held.section ≡ section → IsGoodSection section
    → IsGoodHeld test n held → IsSmall line → IsSmallIf count → IsGoodStep test (n + 1) (step_source at section held line count)
source_step test at n held line count None e g h small s = tt
source_step test at n held line count (Some o) e g h small s =
    let items = map (func_item line) held.waiting ++ line_item line count in
    record {
      funcs = tt;
      sects = h.sects;
      section = (
        g.0,
        all_joined IsGoodItem o.items items g.1 (all_joined IsGoodItem (map (func_item line) held.waiting) (line_item line count) (funcs_good line held.waiting small h.funcs) (line_good line count small s)),
        (small, omega arith),
      );
      few = few_with test n 1 held o items (Some (record { line = line; block = 0 })) [] e h.few
          (omega (arith, length-append (map (func_item line) held.waiting) (line_item line count), map_length line held.waiting, few_of_line line count));
    }

func_step : (test : List ℕ) (n : ℕ) (held : HeldData) (name : List ℕ) (count : ℕ) → IsGoodHeld test n held → IsGoodName name → IsSmall count → IsGoodHeld test (n + 1) (step_func held name count)
func_step test n held name count h good small = record {
  funcs = all_joined IsGoodFunc held.waiting ((name, count) ∷ []) h.funcs (record { name = good; small = small }, tt);
  sects = h.sects;
  section = h.section;
  few = omega (arith, h.few, length-append held.waiting ((name, count) ∷ []));
}

branch_in : (test : List ℕ) (at n : ℕ) (held : HeldData) (branch : ℕ) (taken : Option ℕ) (o : SectionData) (anchor : Option BranchAnchor) → held.section ≡ Some o → IsGoodSection (Some o) → IsSmallAnchor anchor
    → IsGoodHeld test n held → IsSmall branch → IsSmallIf taken → IsGoodStep test (n + 1) (step_branch_in at o anchor held branch taken)
branch_in test at n held branch taken o None e g small h b t = tt
branch_in test at n held branch taken o (Some p) e g small h b t = record {
  funcs = h.funcs;
  sects = h.sects;
  section = (g.0, all_joined IsGoodItem o.items (BranchItem p.line p.block branch taken ∷ []) g.1 (record { fits = branch_fits p.line p.block branch taken small.0 small.1 b t; lawful = tt }, tt), g.2);
  few = few_with test n 1 held o (BranchItem p.line p.block branch taken ∷ []) o.anchor held.waiting e h.few (omega arith);
}

branch_step : (test : List ℕ) (at n : ℕ) (held : HeldData) (branch : ℕ) (taken : Option ℕ) (section : Option SectionData) → held.section ≡ section → IsGoodSection section
    → IsGoodHeld test n held → IsSmall branch → IsSmallIf taken → IsGoodStep test (n + 1) (step_branch at section held branch taken)
branch_step test at n held branch taken None e g h b t = tt
branch_step test at n held branch taken (Some o) e g h b t = branch_in test at n held branch taken o o.anchor e g g.2 h b t

anchor_small : (block : ℕ) (anchor : Option BranchAnchor) → IsSmall block → IsSmallAnchor anchor → IsSmallAnchor (option_map (in_block block) anchor)
anchor_small block None b p = tt
anchor_small block (Some x) b p = (p.0, b)

section_good : (block : ℕ) (section : Option SectionData) → IsSmall block → IsGoodSection section → IsGoodSection (option_map (section_in_block block) section)
section_good block None b g = tt
section_good block (Some s) b g = (g.0, g.1, anchor_small block s.anchor b g.2)

closed_block : (test : List ℕ) (block : ℕ) (section : Option SectionData) → closed test (option_map (section_in_block block) section) ≡ closed test section
closed_block test block None = refl
closed_block test block (Some s) = refl

block_step : (test : List ℕ) (n : ℕ) (held : HeldData) (block : ℕ) → IsGoodHeld test n held → IsSmall block → IsGoodHeld test (n + 1) (step_block held block)
block_step test n held block h small = record {
  funcs = h.funcs;
  sects = h.sects;
  section = section_good block held.section small h.section;
  few = omega (arith, h.few, ap (λ (ss : List SectData). items_in (held.sects ++ ss)) (closed_block test block held.section));
}

more_room : (test : List ℕ) (n : ℕ) (held : HeldData) → IsGoodHeld test n held → IsGoodHeld test (n + 1) held
more_room test n held h = record { funcs = h.funcs; sects = h.sects; section = h.section; few = omega (arith, h.few) }

step_good : (test : List ℕ) (at n : ℕ) (held : HeldData) (says : GcovLine) → IsGoodTest test → IsGoodHeld test n held → IsGood says → IsGoodStep test (n + 1) (step test at held says)
step_good test at n held (Path path) good h g = path_step test at n held path good h g
step_good test at n held (SourceLine line count) good h g = source_step test at n held line count held.section refl h.section h g.0 g.1
step_good test at n held (FuncCount name count) good h g = func_step test n held name count h g.0 g.1
step_good test at n held (BranchCount branch taken) good h g = branch_step test at n held branch taken held.section refl h.section h g.0 g.1
step_good test at n held (BlockNumber block) good h g = block_step test n held block h g
step_good test at n held Nothing good h g = more_room test n held h

line_step_good : (test : List ℕ) (at n : ℕ) (held : HeldData) (says : Says) → IsGoodTest test → IsGoodHeld test n held → IsGoodIf says → IsGoodStep test (n + 1) (line_step test at held says)
line_step_good test at n held (Err why) good h g = tt
line_step_good test at n held (Ok says) good h g = step_good test at n held says good h g

run_on_good : (test : List ℕ) (n m : ℕ) (stepped : Stepped) (next : HeldData → Stepped) → IsGoodStep test n stepped → ((held : HeldData) → IsGoodHeld test n held → IsGoodStep test m (next held)) → IsGoodStep test m (run_on stepped next)
run_on_good test n m (Err fault) next g go = tt
run_on_good test n m (Ok held) next g go = go held g

step_room : (test : List ℕ) (n m : ℕ) (stepped : Stepped) → n ≡ m → IsGoodStep test n stepped → IsGoodStep test m stepped
step_room test n m stepped e h = subst (λ (k : ℕ). IsGoodStep test k stepped) e h

run_good : (test : List ℕ) (at n : ℕ) (held : HeldData) (lines : List (List ℕ)) → IsGoodTest test → IsGoodHeld test n held → AllByRecursion IsGoodTest lines → IsGoodStep test (n + length lines) (run test at held lines)
run_good test at n held [] good h all = step_room test n (n + 0) (Ok held) (omega arith) h
run_good test at n held (line ∷ lines) good h all =
    run_on_good test (n + 1) (n + length (line ∷ lines)) (line_step test (at + 1) held (read line)) (λ next. run test (at + 1) next lines)
    (line_step_good test (at + 1) n held (read line) good h (read_good line all.0))
    (λ next g. step_room test (n + 1 + length lines) (n + length (line ∷ lines)) (run test (at + 1) next lines) (omega arith) (run_good test (at + 1) (n + 1) next lines good g all.1))

-- ---- the submission

pub lawful_run : (test text : List ℕ) (held : HeldData) → length text ≤ max_bytes → IsGoodTest test → run test 0 empty (lines_of text) ≡ Ok held → IsLawful (submission_held test held)
lawful_run test text held short good e =
    let start : IsGoodHeld test 0 empty = record { funcs = tt; sects = tt; section = tt; few = omega arith } in
    let h : IsGoodStep test (0 + length (lines_of text)) (Ok held)
    = subst (λ (s : Stepped). IsGoodStep test (0 + length (lines_of text)) s) e (run_good test 0 0 empty (lines_of text) good start (recursion_from_All IsGoodTest (lines_of text) (good_lines text))) in
    let sects = held.sects ++ closed test held.section in
    let all = all_joined IsGoodSect held.sects (closed test held.section) h.sects (closed_good test held.section good h.section) in
    record {
      few = omega (arith, h.few, few_lines text, short);
      texts = All-from_recursion IsLawfulSect sects (all_weaker IsGoodSect IsLawfulSect (λ sect g. g.lawful) sects all);
      fit = all_weaker IsGoodSect (λ sect. AllFit sect.items) (λ sect g. g.fit) sects all;
      odd_fits = omega arith;
    }

abbrev Told : Type 0
Told = Result SubmissionData ReadFault

lawful_if : (none : Bool) (s t : SubmissionData) → IsLawful t → (let told : Told = Ok s in told ≡ (if none then Ok t else Err faults.LostFunction)) → IsLawful s
lawful_if true s t h e = let same : s ≡ t = cc in subst (λ (x : SubmissionData). IsLawful x) (sym same) h
lawful_if false s t h e = absurd cc

lawful_stepped : (test text : List ℕ) (s : SubmissionData) (stepped : Stepped) → length text ≤ max_bytes → IsGoodTest test → whole_run test text ≡ stepped → (let told : Told = Ok s in told ≡ then_ends test stepped) → IsLawful s
lawful_stepped test text s (Err fault) short good e f = absurd cc
lawful_stepped test text s (Ok held) short good e f = lawful_if (is_empty held.waiting) s (submission_held test held) (lawful_run test text held short good e) f

-- what a text is read as is lawful
pub lawful_outcome : (test text : List ℕ) (s : SubmissionData) → IsOutcome test text (Ok s) → IsLawful s
lawful_outcome test text s h =
    lawful_stepped test text s (whole_run test text) h.0 h.1 refl (one_outcome test text (Ok s) (whole test text) h (whole_outcome test text h.0 h.1))
