-- Printed sections are read as parts of a lawful text, and as the submission that they show.
use Rattle.std.proofs.Common.{◌≡◌, ℕ, ◌≤◌, List, [], ◌∷◌, ◌++◌, length, map, refl, sym, ap, subst, ◌∙◌, arith}
use Rattle.std.specs.List.{flat_map, sum_by, AllByRecursion}
use Rattle.std.proofs.lemmas.List.Elements.{All-from_recursion}
use Rattle.std.proofs.lemmas.List.Sums.{sum_by-cons}
use Rattle.covdata.specs.declared.trace_line.TotalKind.TheVariants.{FuncFound, FuncHit, BranchFound, BranchHit}
use Rattle.covdata.specs.Row.{ItemData, SectData}
use Rattle.covdata.specs.Lawful.{AllFit, IsLawful, IsLawfulSect}
use Rattle.covline.specs.Lines.{lines_of}
use Rattle.covline.specs.LineLaws.{OneAfterOther, PrintedSpells}
use Rattle.covread.specs.Outcome.{max_bytes}
use Rattle.covdata.specs.Records.{LineData, Test, Path, End}
use Rattle.covread.specs.Reads.{Part, Outside, Section, IsInside, IsLawfulPart, AllSpell, records_of, odd_in, sects_from, Reads}
use Rattle.covtable.specs.Content.{SectionData}
use Rattle.covreport.specs.Report.{by_start, start_record, call_record, branch_record, line_record, section_records, section_text}
use Rattle.covlaws.specs.Printable.{sect_shown, submission_shown, IsPrintable}
use Rattle.covlaws.proofs.Apart.{all_more, all_mapped, always}
use Rattle.covlaws.proofs.ShownOrders.{HasPointsApart, points_apart}
use Rattle.covlaws.proofs.ShownParts.{inside_of, items_back}
use Rattle.covlaws.proofs.ShownTotals.{all_if_any, all_inside, odd_back}
use Rattle.covlaws.proofs.ShownSizes.{records_shown, few_points, all_short, items_in_text}
use Rattle.covlaws.proofs.ShownLines.{all_spell, text_printed, readable_sections}

-- the parts of the printed text: for each section, a line with the test's name and then the section's lines
abbrev parts_of : List SectionData → List Part
parts_of sections = flat_map (λ s. Outside (Test s.key.test) ∷ Section s.key.file (inside_of s) ∷ []) sections

-- each section begins with its own test's name, so the tests before it don't matter
sects_back : (test : List ℕ) (sections : List SectionData) → AllByRecursion HasPointsApart sections → sects_from test (parts_of sections) ≡ map sect_shown sections
sects_back test [] apart = refl
sects_back test (s ∷ sections) apart =
    ap (λ (items : List ItemData). made items ∷ sects_from s.key.test (parts_of sections)) (items_back s apart.0)
    ∙ ap (λ (rest : List SectData). sect_shown s ∷ rest) (sects_back s.key.test sections apart.1)
  where
    made : List ItemData → SectData
    made items = record { test = s.key.test; file = s.key.file; items = items }

-- the records of the parts are those of the sections that are printed
records_back : (sections : List SectionData) → flat_map records_of (parts_of sections) ≡ flat_map section_records sections
records_back [] = refl
records_back (s ∷ sections) =
    ap (λ (rest : List LineData). Test s.key.test ∷ Path s.key.file ∷ ((inside_of s ++ End ∷ []) ++ rest)) (records_back sections)
    ∙ ap (λ (own : List LineData). own ++ flat_map section_records sections) (records_shown s)

inside_lawful : (s : SectionData) → AllByRecursion IsInside (inside_of s)
inside_lawful s =
    all_inside IsInside s
    (all_mapped start_record IsInside (by_start s.functions) (always _ (λ f. tt) (by_start s.functions)))
    (all_mapped call_record IsInside (by_start s.functions) (always _ (λ f. tt) (by_start s.functions)))
    (all_if_any IsInside FuncFound FuncHit _ _ tt tt)
    (all_mapped branch_record IsInside s.branches (always _ (λ b. tt) s.branches))
    (all_if_any IsInside BranchFound BranchHit _ _ tt tt)
    (all_mapped line_record IsInside s.lines (always _ (λ l. tt) s.lines))
    (tt, (tt, tt))

parts_lawful : (sections : List SectionData) → AllByRecursion IsLawfulPart (parts_of sections)
parts_lawful [] = tt
parts_lawful (s ∷ sections) = (tt, (inside_lawful s, parts_lawful sections))

-- nothing is odd in any part
none_odd : (sections : List SectionData) → AllByRecursion HasPointsApart sections → sum_by odd_in (parts_of sections) ≡ 0
none_odd [] apart = refl
none_odd (s ∷ sections) apart =
    omega (
      arith,
      sum_by-cons odd_in (Outside (Test s.key.test)) (Section s.key.file (inside_of s) ∷ parts_of sections),
      sum_by-cons odd_in (Section s.key.file (inside_of s)) (parts_of sections),
      odd_back s apart.0,
      none_odd sections apart.1,
    )

all_apart : (sections : List SectionData) → IsPrintable sections → AllByRecursion HasPointsApart sections
all_apart sections printable = all_more _ _ (λ s own. points_apart s own.order) sections printable.each

-- the lines of the whole text say the records of the parts, in order
parts_spelled : PrintedSpells → OneAfterOther → (sections : List SectionData) → IsPrintable sections → length (flat_map section_text sections) ≤ max_bytes
    → AllSpell (lines_of (flat_map section_text sections)) (flat_map records_of (parts_of sections))
parts_spelled spells one_after_other sections printable short =
    subst (λ (records : List LineData). AllSpell (lines_of (flat_map section_text sections)) records) (sym (records_back sections))
    (subst (λ (text : List ℕ). AllSpell (lines_of text) (flat_map section_records sections)) (text_printed sections)
    (all_spell spells one_after_other (flat_map section_records sections)
    (readable_sections sections printable.each (all_more _ _ few_points sections (all_short sections max_bytes short)))))

pub text_reads_back : PrintedSpells → OneAfterOther → (sections : List SectionData) → IsPrintable sections → length (flat_map section_text sections) ≤ max_bytes
    → Reads (lines_of (flat_map section_text sections)) (submission_shown sections)
text_reads_back spells one_after_other sections printable short = record {
  parts = parts_of sections;
  lawful = parts_lawful sections;
  spelled = parts_spelled spells one_after_other sections printable short;
  sects = sym (sects_back [] sections (all_apart sections printable));
  odd = sym (none_odd sections (all_apart sections printable));
}

pub shown_is_lawful : (sections : List SectionData) → IsPrintable sections → length (flat_map section_text sections) ≤ max_bytes → IsLawful (submission_shown sections)
shown_is_lawful sections printable short = record {
  few = omega (arith, items_in_text sections, short);
  texts = All-from_recursion IsLawfulSect (map sect_shown sections) (all_mapped sect_shown IsLawfulSect sections (all_more _ _ (λ s own. own.lawful) sections printable.each));
  fit = all_mapped sect_shown (λ sect. AllFit sect.items) sections (all_more _ _ (λ s own. own.fit) sections printable.each);
  odd_fits = omega arith;
}
