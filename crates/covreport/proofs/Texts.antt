-- A text that is printed part by part while points are counted, and the parts of a section.
use Rattle.std.proofs.Common.{◌≡◌, ℕ, ◌+◌, ◌^◌, ◌<◌, ◌≤◌, Bool, true, false, cond, List, [], ◌∷◌, ◌++◌, length, map, filter, count_by, refl, sym, ap, ◌∙◌, append_assoc, arith}
use Rattle.std.specs.List.{flat_map}
use Rattle.std.proofs.lemmas.List.{append-nil}
use Rattle.std.proofs.lemmas.List.Concat.{flat_map-append}
use Rattle.std.proofs.lemmas.List.Elements.{filter-append}
use Rattle.std.proofs.lemmas.List.Folds.{flat_map-map}
use Rattle.std.proofs.lemmas.List.Sums.{sum_by-cons}
use Rattle.covdata.specs.Records.{LineData, Test, Path, End}
use Rattle.covdata.specs.Printed.{printed}
use Rattle.covreport.specs.Report.{function_records, branch_records, line_records, section_text, report_text}
use Rattle.covreport.specs.Choice.{ChoiceData, is_chosen}
use Rattle.covtable.specs.Content.{SectionData}

-- ---- one more part

module _ {X Y : Type 0} (part : X → List Y) (whole text : List Y) where
  pub goes_on : (new : List Y) (x : X) (left more : List X) → left ≡ x ∷ more → text ++ flat_map part left ≡ whole → new ≡ text ++ part x → new ++ flat_map part more ≡ whole
  goes_on new x left more next so_far put =
      ap (λ (t : List Y). t ++ flat_map part more) put
      ∙ append_assoc text (part x) (flat_map part more)
      ∙ ap (λ (xs : List X). text ++ flat_map part xs) (sym next)
      ∙ so_far

  pub ends : (left : List X) → left ≡ [] → text ++ flat_map part left ≡ whole → text ≡ whole
  ends left none so_far = sym (append-nil text) ∙ ap (λ (xs : List X). text ++ flat_map part xs) (sym none) ∙ so_far

-- what is printed and counted so far, together with what is left, is the whole text and the numbers of all points
pub record IsPrinted {X : Type 0} (part : X → List ℕ) (is_hit : X → Bool) (all left : List X) (before text : List ℕ) (found hit : ℕ) : Type 0 where
  pub written : text ++ flat_map part left ≡ before ++ flat_map part all
  pub counted : found + length left ≡ length all
  pub hits : hit + count_by is_hit left ≡ count_by is_hit all
  pub fewer : hit ≤ found

at_most_one : (b : Bool) → cond {A = ℕ} b 1 0 ≤ 1
at_most_one false = omega arith
at_most_one true = omega arith

module _ {X : Type 0} (part : X → List ℕ) (is_hit : X → Bool) (all : List X) (before : List ℕ) where
  pub printed_none : (left : List X) (found hit : ℕ) → left ≡ all → found ≡ 0 → hit ≡ 0 → IsPrinted part is_hit all left before before found hit
  printed_none left found hit is f h = record {
    written = ap (λ (xs : List X). before ++ flat_map part xs) is;
    counted = omega (arith, ap length is, f);
    hits = omega (arith, ap (count_by is_hit) is, h);
    fewer = omega (arith, f, h);
  }

  pub printed_more : (x : X) (b : Bool) (left more : List X) (text new : List ℕ) (found hit found_now hit_now : ℕ) → left ≡ x ∷ more → IsPrinted part is_hit all left before text found hit → new ≡ text ++ part x
      → b ≡ is_hit x → found_now ≡ found + 1 → hit_now ≡ hit + cond b 1 0 → IsPrinted part is_hit all more before new found_now hit_now
  printed_more x b left more text new found hit found_now hit_now next so_far put is f h =
      let one : count_by is_hit (x ∷ more) ≡ cond b 1 0 + count_by is_hit more =
      sum_by-cons (λ (y : X). cond (is_hit y) 1 0) x more ∙ ap (λ (a : Bool). cond a 1 0 + count_by is_hit more) (sym is) in
      record {
        written = goes_on part (before ++ flat_map part all) text new x left more next so_far.written put;
        counted = omega (arith, ap length next, so_far.counted, f);
        hits = omega (arith, ap (count_by is_hit) next, one, so_far.hits, h);
        fewer = omega (arith, at_most_one b, so_far.fewer, f, h);
      }

  pub printed_all : (left : List X) (text : List ℕ) (found hit : ℕ) → left ≡ [] → IsPrinted part is_hit all left before text found hit
      → (text ≡ before ++ flat_map part all) × (found ≡ length all) × (hit ≡ count_by is_hit all)
  printed_all left text found hit none so_far =
      (ends part (before ++ flat_map part all) text left none so_far.written, omega (arith, ap length none, so_far.counted), omega (arith, ap (count_by is_hit) none, so_far.hits))

  -- one more point can be counted
  pub count_fits : (x : X) (left more : List X) (text : List ℕ) (found hit : ℕ) → length all < 2 ^ 64 → left ≡ x ∷ more → IsPrinted part is_hit all left before text found hit → found + 1 < 2 ^ 64
  count_fits x left more text found hit few next so_far =
      let size : length left ≡ length (x ∷ more) = ap length next in
      omega (arith, size, so_far.counted)

-- ---- records with what follows them

pub with_tail : {X : Type 0} (record_of : X → LineData) (all : List X) (tail : List LineData) (t t1 t2 : List ℕ) → t1 ≡ t ++ flat_map (λ x. printed (record_of x)) all → t2 ≡ t1 ++ flat_map printed tail
    → t2 ≡ t ++ flat_map printed (map record_of all ++ tail)
with_tail {X} record_of all tail t t1 t2 first second =
    second
    ∙ ap (λ (x : List ℕ). x ++ flat_map printed tail) (first ∙ ap (λ (x : List ℕ). t ++ x) (sym (flat_map-map printed record_of all)))
    ∙ append_assoc t (flat_map printed (map record_of all)) (flat_map printed tail)
    ∙ ap (λ (x : List ℕ). t ++ x) (sym (flat_map-append printed (map record_of all) tail))

-- ---- the parts of a section

joined : (t t1 t2 t3 t4 t5 t6 a b c d e f : List ℕ) → t1 ≡ t ++ a → t2 ≡ t1 ++ b → t3 ≡ t2 ++ c → t4 ≡ t3 ++ d → t5 ≡ t4 ++ e → t6 ≡ t5 ++ f → t6 ≡ t ++ (a ++ (b ++ (c ++ (d ++ (e ++ (f ++ []))))))
joined t t1 t2 t3 t4 t5 t6 a b c d e f e1 e2 e3 e4 e5 e6 =
    e6 ∙ ap (λ (x : List ℕ). x ++ f) (e5 ∙ ap (λ (x : List ℕ). x ++ e) (e4 ∙ ap (λ (x : List ℕ). x ++ d) (e3 ∙ ap (λ (x : List ℕ). x ++ c) (e2 ∙ ap (λ (x : List ℕ). x ++ b) e1)))) ∙ simp (append_assoc, append-nil)

pub section_is : (s : SectionData) (t t1 t2 t3 t4 t5 t6 : List ℕ) → t1 ≡ t ++ printed (Test s.key.test) → t2 ≡ t1 ++ printed (Path s.key.file)
    → t3 ≡ t2 ++ flat_map printed (function_records s.functions) → t4 ≡ t3 ++ flat_map printed (branch_records s.branches) → t5 ≡ t4 ++ flat_map printed (line_records s.lines)
    → t6 ≡ t5 ++ printed End → t6 ≡ t ++ section_text s
section_is s t t1 t2 t3 t4 t5 t6 e1 e2 e3 e4 e5 e6 =
    let functions = function_records s.functions in
    let branches = branch_records s.branches in
    let lines = line_records s.lines in
    let whole : section_text s ≡ printed (Test s.key.test) ++ (printed (Path s.key.file) ++ (flat_map printed functions ++ (flat_map printed branches ++ (flat_map printed lines ++ (printed End ++ []))))) =
    ap (λ (x : List ℕ). printed (Test s.key.test) ++ (printed (Path s.key.file) ++ x)) (flat_map-append printed functions (branches ++ (lines ++ (End ∷ [])))
    ∙ ap (λ (x : List ℕ). flat_map printed functions ++ x) (flat_map-append printed branches (lines ++ (End ∷ []))
    ∙ ap (λ (x : List ℕ). flat_map printed branches ++ x) (flat_map-append printed lines (End ∷ [])))) in
    joined t t1 t2 t3 t4 t5 t6 (printed (Test s.key.test)) (printed (Path s.key.file)) (flat_map printed functions) (flat_map printed branches) (flat_map printed lines) (printed End) e1 e2 e3 e4 e5 e6
    ∙ ap (λ (x : List ℕ). t ++ x) (sym whole)

-- ---- the sections of the chosen files

module _ (choice : ChoiceData) (whole text : List ℕ) where
  pub report_goes_on : (new : List ℕ) (s : SectionData) (left more : List SectionData) → left ≡ s ∷ more → text ++ report_text choice left ≡ whole
      → new ≡ text ++ report_text choice (s ∷ []) → new ++ report_text choice more ≡ whole
  report_goes_on new s left more next so_far put =
      ap (λ (t : List ℕ). t ++ report_text choice more) put
      ∙ append_assoc text (report_text choice (s ∷ [])) (report_text choice more)
      ∙ ap (λ (t : List ℕ). text ++ t) (sym (report-cons s more) ∙ ap (report_text choice) (sym next))
      ∙ so_far
    where
      report-cons : (s : SectionData) (more : List SectionData) → report_text choice (s ∷ more) ≡ report_text choice (s ∷ []) ++ report_text choice more
      report-cons s more =
          ap (flat_map section_text) (filter-append (λ (s : SectionData). is_chosen choice s.key.file) (s ∷ []) more)
          ∙ flat_map-append section_text (filter (λ (s : SectionData). is_chosen choice s.key.file) (s ∷ [])) (filter (λ (s : SectionData). is_chosen choice s.key.file) more)

  pub report_ends : (left : List SectionData) → left ≡ [] → text ++ report_text choice left ≡ whole → text ≡ whole
  report_ends left none so_far = sym (append-nil text) ∙ ap (λ (s : List SectionData). text ++ report_text choice s) (sym none) ∙ so_far

-- one section, whose file is chosen or isn't
module _ (choice : ChoiceData) (s : SectionData) (file : List ℕ) (takes : Bool) (text : List ℕ) (is : file ≡ s.key.file) (test : takes ≡ is_chosen choice file) where
  report_one : report_text choice (s ∷ []) ≡ cond takes (section_text s) []
  report_one = ap (λ (b : Bool). flat_map section_text (cond b (s ∷ []) [])) (ap (is_chosen choice) (sym is) ∙ sym test) ∙ read takes
    where
      read : (b : Bool) → flat_map section_text (cond b (s ∷ []) []) ≡ cond b (section_text s) []
      read false = refl
      read true = append-nil (section_text s)

  pub passes_over : takes ≡ false → text ≡ text ++ report_text choice (s ∷ [])
  passes_over e = sym (append-nil text) ∙ ap (λ (t : List ℕ). text ++ t) (sym (report_one ∙ ap (λ (b : Bool). cond b (section_text s) []) e))

  pub prints_one : (new : List ℕ) → takes ≡ true → new ≡ text ++ section_text s → new ≡ text ++ report_text choice (s ∷ [])
  prints_one new e put = put ∙ ap (λ (t : List ℕ). text ++ t) (sym (report_one ∙ ap (λ (b : Bool). cond b (section_text s) []) e))
