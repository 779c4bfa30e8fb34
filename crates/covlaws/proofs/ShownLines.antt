-- Each record of a printable section is readable, and the lines of the printed text say these records.
use Rattle.std.proofs.Common.{◌≡◌, ℕ, ◌<◌, ◌≤◌, ◌^◌, List, [], ◌∷◌, ◌++◌, map, Option, Some, None, refl, sym, ap, subst, ◌∙◌, append_assoc, arith}
use Rattle.std.specs.Prelude.{nat_lt}
use Rattle.std.specs.List.{flat_map, AllByRecursion}
use Rattle.std.proofs.lemmas.List.Concat.{flat_map-append}
use Rattle.std.proofs.lemmas.List.Sums.{count_by-le-length}
use Rattle.covdata.specs.declared.trace_line.TotalKind.{TotalKind}
use Rattle.covdata.specs.declared.trace_line.TotalKind.TheVariants.{FuncFound, FuncHit, BranchFound, BranchHit, LineFound, LineHit}
use Rattle.covdata.specs.Row.{ItemData, LineItem, BranchItem}
use Rattle.covdata.specs.Lawful.{IsLawfulItem, FitsItem}
use Rattle.covdata.specs.Delimiters.{line_feed}
use Rattle.covline.specs.Lines.{lines_of}
use Rattle.covline.specs.LineLaws.{OneAfterOther, PrintedSpells}
use Rattle.covdata.specs.Records.{LineData, Test, Path, FuncStart, FuncCount, Branch, Line, Total, End, Skip}
use Rattle.covdata.specs.Printed.{line_text, printed, IsReadable}
use Rattle.covread.specs.Reads.{AllSpell}
use Rattle.covtable.specs.Value.{is_taken}
use Rattle.covtable.specs.Content.{FunctionValueData, SectionData}
use Rattle.covreport.specs.Report.{by_start, start_record, call_record, functions_hit, branch_record, branches_hit, line_record, lines_hit, section_records, section_text}
use Rattle.covlaws.specs.Printable.{start_item, call_item, branch_item, line_item, items_shown, IsPrintableSection}
use Rattle.covtable.proofs.Members.{All-joined, All-front, All-back}
use Rattle.covlaws.proofs.Apart.{all_zip, all_more, all_mapped, all_unmapped}
use Rattle.covlaws.proofs.ShownParts.{function_totals, branch_totals, line_totals}
use Rattle.covlaws.proofs.ShownTotals.{all_if_any, all_inside}
use Rattle.covlaws.proofs.ShownSizes.{all_records, HasFewPoints}

-- ---- each record of a printable section is readable

-- the item's name or checksum is lawful, and its numbers fit
abbrev IsGoodItem : ItemData → Type 0
IsGoodItem item = IsLawfulItem item × FitsItem item

readable_start : (f : FunctionValueData) → IsGoodItem (start_item f) → IsReadable (start_record f)
readable_start f good = record { texts = good.0; small = good.1.0 }

readable_call : (f : FunctionValueData) → IsGoodItem (call_item f) → IsReadable (call_record f)
readable_call f good = record { texts = good.0; small = good.1.1 }

readable_branch : (line block branch : ℕ) (taken : Option ℕ) → FitsItem (BranchItem line block branch taken) → IsReadable (Branch line block branch taken)
readable_branch line block branch None fits = record { texts = tt; small = fits }
readable_branch line block branch (Some taken) fits = record { texts = tt; small = fits }

readable_line : (line count : ℕ) (checksum : Option (List ℕ)) → IsGoodItem (LineItem line count checksum) → IsReadable (Line line count checksum)
readable_line line count None good = record { texts = tt; small = good.1 }
readable_line line count (Some checksum) good = record { texts = good.0; small = good.1 }

readable_total : (kind : TotalKind) (value : ℕ) → value < 2 ^ 64 → IsReadable (Total kind value)
readable_total kind value small = record { texts = tt; small = small }

-- the number of points hit is readable, since no more points are hit than found
readable_hit : (kind : TotalKind) (hit found : ℕ) → hit ≤ found → found < 2 ^ 64 → IsReadable (Total kind hit)
readable_hit kind hit found most small = readable_total kind hit (omega arith)

-- if all items that a section shows are good, so are those of each part
module _ (s : SectionData) (good : AllByRecursion IsGoodItem (items_shown s)) where
  after_starts : AllByRecursion IsGoodItem (map call_item (by_start s.functions) ++ (map branch_item s.branches ++ map line_item s.lines))
  after_starts = All-back IsGoodItem (map start_item (by_start s.functions)) _ good

  after_calls : AllByRecursion IsGoodItem (map branch_item s.branches ++ map line_item s.lines)
  after_calls = All-back IsGoodItem (map call_item (by_start s.functions)) _ after_starts

  readable_starts : AllByRecursion IsReadable (map start_record (by_start s.functions))
  readable_starts =
      all_mapped start_record IsReadable (by_start s.functions)
      (all_more _ _ readable_start (by_start s.functions)
      (all_unmapped start_item IsGoodItem (by_start s.functions) (All-front IsGoodItem (map start_item (by_start s.functions)) _ good)))

  readable_calls : AllByRecursion IsReadable (map call_record (by_start s.functions))
  readable_calls =
      all_mapped call_record IsReadable (by_start s.functions)
      (all_more _ _ readable_call (by_start s.functions)
      (all_unmapped call_item IsGoodItem (by_start s.functions) (All-front IsGoodItem (map call_item (by_start s.functions)) _ after_starts)))

  readable_branches : AllByRecursion IsReadable (map branch_record s.branches)
  readable_branches =
      all_mapped branch_record IsReadable s.branches
      (all_more _ _ (λ b good. readable_branch b.point.line b.point.block b.point.branch b.taken good.1) s.branches
      (all_unmapped branch_item IsGoodItem s.branches (All-front IsGoodItem (map branch_item s.branches) _ after_calls)))

  readable_lines : AllByRecursion IsReadable (map line_record s.lines)
  readable_lines =
      all_mapped line_record IsReadable s.lines
      (all_more _ _ (λ l good. readable_line l.line l.count l.checksum good) s.lines
      (all_unmapped line_item IsGoodItem s.lines (All-back IsGoodItem (map branch_item s.branches) _ after_calls)))

pub readable_section : (s : SectionData) → IsPrintableSection s → HasFewPoints s → AllByRecursion IsReadable (section_records s)
readable_section s printable few =
    all_records IsReadable s (record { texts = printable.lawful.test; small = tt }) (record { texts = printable.lawful.file; small = tt })
    (all_inside IsReadable s (readable_starts s good) (readable_calls s good) functions (readable_branches s good) branches (readable_lines s good) lines)
    (record { texts = tt; small = tt })
  where
    good : AllByRecursion IsGoodItem (items_shown s)
    good = all_zip _ _ _ (λ item lawful fits. (lawful, fits)) (items_shown s) printable.lawful.items printable.fit

    functions : AllByRecursion IsReadable (function_totals s)
    functions =
        all_if_any IsReadable FuncFound FuncHit _ _ (readable_total FuncFound _ few.functions)
        (readable_hit FuncHit (functions_hit s.functions) _ (count_by-le-length (λ f. nat_lt 0 f.count) s.functions) few.functions)

    branches : AllByRecursion IsReadable (branch_totals s)
    branches =
        all_if_any IsReadable BranchFound BranchHit _ _ (readable_total BranchFound _ few.branches)
        (readable_hit BranchHit (branches_hit s.branches) _ (count_by-le-length (λ b. is_taken b.taken) s.branches) few.branches)

    lines : AllByRecursion IsReadable (line_totals s)
    lines = (readable_total LineFound _ few.lines, (readable_hit LineHit (lines_hit s.lines) _ (count_by-le-length (λ l. nat_lt 0 l.count) s.lines) few.lines, tt))

-- ---- the lines of readable records say them

feed_last : (says : LineData) → IsReadable says → printed says ≡ line_text says ++ line_feed ∷ []
feed_last (Test name) readable = refl
feed_last (Path path) readable = refl
feed_last (FuncStart line name) readable = refl
feed_last (FuncCount count name) readable = refl
feed_last (Branch line block branch taken) readable = refl
feed_last (Line line count checksum) readable = refl
feed_last (Total kind value) readable = refl
feed_last End readable = refl
feed_last Skip readable = absurd readable.texts

module _ (spells : PrintedSpells) (one_after_other : OneAfterOther) where
  first_line : (says : LineData) → IsReadable says → (rest : List ℕ) → lines_of (printed says ++ rest) ≡ line_text says ∷ lines_of rest
  first_line says readable rest =
      ap (λ (text : List ℕ). lines_of (text ++ rest)) (feed_last says readable)
      ∙ ap lines_of (append_assoc (line_text says) (line_feed ∷ []) rest)
      ∙ one_after_other (line_text says) rest
      ∙ ap (λ (text : List ℕ). lines_of text ++ lines_of rest) (sym (feed_last says readable))
      ∙ ap (λ (lines : List (List ℕ)). lines ++ lines_of rest) (spells says readable).0

  pub all_spell : (records : List LineData) → AllByRecursion IsReadable records → AllSpell (lines_of (flat_map printed records)) records
  all_spell [] readable = tt
  all_spell (says ∷ records) readable =
      subst (λ (lines : List (List ℕ)). AllSpell lines (says ∷ records)) (sym (first_line says readable.0 (flat_map printed records)))
      ((spells says readable.0).1, all_spell records readable.1)

-- ---- the text of sections is made of their records

pub text_printed : (sections : List SectionData) → flat_map printed (flat_map section_records sections) ≡ flat_map section_text sections
text_printed [] = refl
text_printed (s ∷ sections) =
    flat_map-append printed (section_records s) (flat_map section_records sections) ∙ ap (λ (rest : List ℕ). section_text s ++ rest) (text_printed sections)

pub readable_sections : (sections : List SectionData) → AllByRecursion IsPrintableSection sections → AllByRecursion HasFewPoints sections
    → AllByRecursion IsReadable (flat_map section_records sections)
readable_sections [] printable few = tt
readable_sections (s ∷ sections) printable few =
    All-joined IsReadable (section_records s) (flat_map section_records sections) (readable_section s printable.0 few.0) (readable_sections sections printable.1 few.1)
