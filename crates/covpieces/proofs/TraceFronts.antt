-- Tracefiles of version 1: what lines say after lines that are read as a submission.
use Rattle.std.proofs.Common.{◌≡◌, ℕ, ◌+◌, ◌-◌, List, [], ◌∷◌, ◌++◌, length, refl, sym, ap, subst, ◌∙◌, arith}
use Rattle.std.specs.Prelude.{codes}
use Rattle.std.specs.List.{flat_map, sum_by, AllByRecursion}
use Rattle.std.proofs.lemmas.List.{append-nil}
use Rattle.std.proofs.lemmas.List.Concat.{flat_map-append}
use Rattle.std.proofs.lemmas.List.Sums.{sum_by-cons, sum_by-append}
use Rattle.covdata.specs.Row.{SectData, SubmissionData}
use Rattle.covdata.specs.Records.{LineData, Test, Path, End, Skip}
use Rattle.covline.specs.Spells.{Begins, Spells}
use Rattle.covdata.specs.declared.fault.ReadFault.{ReadFault}
use Rattle.covdata.specs.declared.fault.ReadFault.TheVariants as faults
use Rattle.covread.specs.Reads as reads
use Rattle.covread.specs.Reads.{AllSpell, Part, Outside, Section, IsLawfulPart, records_of, odd_in, sects_from, Reads}
use Rattle.covread.specs.Outcome.{IsLawfulText, MayGoOn, IsFirstFaulty, IsFirstFault}
use Rattle.covread.proofs.AllOf.{all_append}
use Rattle.covread.proofs.TraceGrammar.{LineLaw}
use Rattle.covread.proofs.TraceStands.{AllSpell-append, AllSpell-split, AllSpell-one}
use Rattle.covpieces.specs.Pieces.{with_name, last_test, joined, no_sections, renumbered}
use Rattle.covpieces.proofs.Parts.{test_at, sects-append, last_of, last_of-append, test_of_last, whole_parts, later_parts}
use Rattle.covpieces.proofs.Faults.{FirstFaulty, GoAlike, goes_on_first, faulty_after, faulty_longer}

-- the lines are a lawful text, and this is what it says if this test's name is valid before its first line
pub record ReadsFrom (test : List ℕ) (lines : List (List ℕ)) (submission : SubmissionData) : Type 0 where
  pub parts : List Part
  pub lawful : AllByRecursion IsLawfulPart parts
  pub spelled : AllSpell lines (flat_map records_of parts)
  pub sects : submission.sects ≡ sects_from test parts
  pub odd : submission.odd ≡ sum_by odd_in parts

abbrev test_line : List ℕ → List ℕ
test_line name = codes "TN:" ++ name

spells_test : (name : List ℕ) → Spells (test_line name) (Test name)
spells_test name = record { form = refl; small = tt }

path_isnt_test : (path name : List ℕ) → Path path ≡ Test name → ⊥
path_isnt_test path name e = cc

-- ---- the line of the test's name

with_line : (name : List ℕ) (lines : List (List ℕ)) (s : SubmissionData) → ReadsFrom name lines s → Reads (test_line name ∷ lines) s
with_line name lines s from = record {
  parts = Outside (Test name) ∷ from.parts;
  lawful = (tt, from.lawful);
  spelled = (spells_test name, from.spelled);
  sects = from.sects;
  odd = omega (arith, from.odd, sum_by-cons odd_in (Outside (Test name)) from.parts);
}

-- no line stands for the empty name
pub with_test : (name : List ℕ) (lines : List (List ℕ)) (s : SubmissionData) → ReadsFrom name lines s → Reads (with_name name [] ++ lines) s
with_test [] lines s from = record { parts = from.parts; lawful = from.lawful; spelled = from.spelled; sects = from.sects; odd = from.odd }
with_test (b ∷ bs) lines s from = with_line (b ∷ bs) lines s from

parts_with_test : LineLaw → (name : List ℕ) (lines : List (List ℕ)) (s : SubmissionData) (parts : List Part) → AllByRecursion IsLawfulPart parts
    → AllSpell (test_line name ∷ lines) (flat_map records_of parts) → s.sects ≡ sects_from [] parts → s.odd ≡ sum_by odd_in parts → ReadsFrom name lines s
parts_with_test law name lines s [] lawful spelled sects odd = absurd spelled
parts_with_test law name lines s (Section path inside ∷ parts) lawful spelled sects odd =
    absurd (path_isnt_test path name (law.meaning (test_line name) (Path path) (Test name) spelled.0 (spells_test name)))
parts_with_test law name lines s (Outside says ∷ parts) lawful spelled sects odd =
    let same : says ≡ Test name = law.meaning (test_line name) says (Test name) spelled.0 (spells_test name) in
    record {
      parts = parts;
      lawful = lawful.1;
      spelled = spelled.1;
      sects = sects ∙ ap (λ (x : LineData). sects_from (reads.test_after [] x) parts) same;
      odd = omega (arith, odd, sum_by-cons odd_in (Outside says) parts);
    }

pub from_test : LineLaw → (name : List ℕ) (lines : List (List ℕ)) (s : SubmissionData) → Reads (with_name name [] ++ lines) s → ReadsFrom name lines s
from_test law [] lines s all = record { parts = all.parts; lawful = all.lawful; spelled = all.spelled; sects = all.sects; odd = all.odd }
from_test law (b ∷ bs) lines s all = parts_with_test law (b ∷ bs) lines s all.parts all.lawful all.spelled all.sects all.odd

-- ---- lines after others

-- the lines of a text that was read, followed by more lines
append_reads : (first lines : List (List ℕ)) (s t : SubmissionData) (r : Reads first s) → ReadsFrom (test_at [] r.parts) lines t → Reads (first ++ lines) (joined s t)
append_reads first lines s t r from = record {
  parts = r.parts ++ from.parts;
  lawful = all_append IsLawfulPart r.parts from.parts r.lawful from.lawful;
  spelled =
      subst (λ (x : List LineData). AllSpell (first ++ lines) x) (sym (flat_map-append records_of r.parts from.parts))
      (AllSpell-append first lines (flat_map records_of r.parts) (flat_map records_of from.parts) r.spelled from.spelled);
  sects =
      ap (λ (x : List SectData). x ++ t.sects) r.sects ∙ ap (λ (x : List SectData). sects_from [] r.parts ++ x) from.sects
      ∙ sym (sects-append [] r.parts from.parts);
  odd = omega (arith, r.odd, from.odd, sum_by-append odd_in r.parts from.parts);
}

-- conversely, the lines after those of a text that was read
rest_reads : LineLaw → (first lines : List (List ℕ)) (s all : SubmissionData) (r : Reads first s) → Reads (first ++ lines) all → (t : SubmissionData) × ReadsFrom (test_at [] r.parts) lines t
rest_reads law first lines s all r whole =
    let split = AllSpell-split first lines (flat_map records_of whole.parts) whole.spelled in
    let same : split.0 ≡ flat_map records_of r.parts = AllSpell-one law first split.0 (flat_map records_of r.parts) split.3 r.spelled in
    let later = later_parts r.parts whole.parts split.1 r.lawful whole.lawful (split.2 ∙ ap (λ (x : List LineData). x ++ split.1) same) in (
      record { sects = sects_from (test_at [] r.parts) later.parts; odd = sum_by odd_in later.parts },
      record {
        parts = later.parts;
        lawful = later.lawful;
        spelled = subst (λ (x : List LineData). AllSpell lines x) (sym later.same) split.4;
        sects = refl;
        odd = refl;
      },
    )

module _ (law : LineLaw) where
  pub joined_reads : (first lines : List (List ℕ)) (name : List ℕ) (s t : SubmissionData) (r : Reads first s) → test_at [] r.parts ≡ name → Reads (with_name name [] ++ lines) t → Reads (first ++ lines) (joined s t)
  joined_reads first lines name s t r same all =
      append_reads first lines s t r (from_test law (test_at [] r.parts) lines t (subst (λ (x : List ℕ). Reads (with_name x [] ++ lines) t) (sym same) all))

  -- a text goes on after lines that were read as it goes on after the line of the current test
  pub test_alike : (first : List (List ℕ)) (name : List ℕ) (s : SubmissionData) (r : Reads first s) → test_at [] r.parts ≡ name → GoAlike Reads first (with_name name [])
  test_alike first name s r same = record {
    whole =
        let none = with_test name [] no_sections (record { parts = []; lawful = tt; spelled = tt; sects = refl; odd = refl }) in
        (no_sections, subst (λ (x : List (List ℕ)). Reads x no_sections) (append-nil (with_name name [])) none);
    to_first = λ rest text. (joined s text.0, joined_reads first rest name s text.0 r same text.1);
    to_front = λ rest text.
        let from = rest_reads law first rest s text.0 r text.1 in
        (from.0, subst (λ (x : List ℕ). Reads (with_name x [] ++ rest) from.0) same (with_test (test_at [] r.parts) rest from.0 from.1));
  }

-- ---- faults

to_faulty : (lines : List (List ℕ)) (at : ℕ) (line : List ℕ) → IsFirstFaulty lines at line → FirstFaulty Reads lines at line
to_faulty lines at line f = record { before = f.before; after = f.after; place = f.place; number = f.number; goes_on = f.goes_on; ends_here = f.ends_here }

of_faulty : (lines : List (List ℕ)) (at : ℕ) (line : List ℕ) → FirstFaulty Reads lines at line → IsFirstFaulty lines at line
of_faulty lines at line f = record { before = f.before; after = f.after; place = f.place; number = f.number; goes_on = f.goes_on; ends_here = f.ends_here }

module _ (first front : List (List ℕ)) (alike : GoAlike Reads first front) (rest : List (List ℕ)) where
  abbrev after_front : ℕ → ℕ
  after_front at = length first + (at - length front)

  faulty : (at : ℕ) (line : List ℕ) → IsFirstFaulty (front ++ rest) at line → IsFirstFaulty (first ++ rest) (after_front at) line
  faulty at line f = of_faulty (first ++ rest) (after_front at) line (faulty_after Reads first front alike rest at line (to_faulty (front ++ rest) at line f))

  -- the first fault is the same, with another number
  pub fault_after : (fault : ReadFault) → IsFirstFault (front ++ rest) fault → IsFirstFault (first ++ rest) (renumbered after_front fault)
  fault_after (faults.Line at fault) a = (a.0, faulty at a.0 a.1, a.2)
  fault_after (faults.Outside at) a = (a.0, a.1, faulty at a.0 a.2, a.3, a.4)
  fault_after (faults.Inside at) a = (a.0, a.1, faulty at a.0 a.2, a.3, a.4)
  fault_after faults.OpenEnd a = (goes_on_first Reads first front alike rest a.0, λ text. a.1 (alike.to_front rest text))
  fault_after other a = absurd a

-- ---- lines that end with the end of a section

last_is_end : LineLaw → (last : List ℕ) (says : List LineData) → Begins last (codes "end_of_record") → AllSpell (last ∷ []) says → (d : LineData) → last_of d says ≡ End
last_is_end law last [] begins spelled d = absurd spelled
last_is_end law last (says ∷ []) begins spelled d = law.meaning last says End spelled.0 (record { form = begins; small = tt })
last_is_end law last (says ∷ more ∷ others) begins spelled d = absurd spelled.1

module _ (law : LineLaw) (lines above : List (List ℕ)) (last : List ℕ) (place : lines ≡ above ++ last ∷ []) (begins : Begins last (codes "end_of_record")) where
  ends_in_end : (says : List LineData) → AllSpell lines says → last_of Skip says ≡ End
  ends_in_end says spelled =
      let split = AllSpell-split above (last ∷ []) says (subst (λ (x : List (List ℕ)). AllSpell x says) place spelled) in
      ap (last_of Skip) split.2 ∙ last_of-append Skip split.0 split.1 ∙ last_is_end law last split.1 begins split.4 (last_of Skip split.0)

  -- the current test is the last section's
  pub test_at_end : (other : List ℕ) (s : SubmissionData) (r : Reads lines s) → test_at [] r.parts ≡ last_test other s.sects
  test_at_end other s r =
      test_of_last r.parts Skip [] other r.lawful (ends_in_end (flat_map records_of r.parts) r.spelled) (λ e. absurd cc)
      ∙ ap (last_test other) (sym r.sects)

  -- no section is open
  not_open : MayGoOn lines → IsLawfulText lines
  not_open on =
      let r = on.1.1 in
      let split = AllSpell-split lines on.0 (flat_map records_of r.parts) r.spelled in
      let whole = whole_parts r.parts split.0 split.1 Skip r.lawful split.2 (ends_in_end split.0 split.3) in (
        record { sects = sects_from [] whole.parts; odd = sum_by odd_in whole.parts },
        record {
          parts = whole.parts;
          lawful = whole.lawful;
          spelled = subst (λ (x : List LineData). AllSpell lines x) (sym whole.same) split.3;
          sects = refl;
          odd = refl;
        },
      )

  longer : (more : List (List ℕ)) (at : ℕ) (line : List ℕ) → IsFirstFaulty lines at line → IsFirstFaulty (lines ++ more) at line
  longer more at line f = of_faulty (lines ++ more) at line (faulty_longer Reads lines more at line (to_faulty lines at line f))

  -- the first fault stays it if more lines follow
  pub fault_longer : (more : List (List ℕ)) (fault : ReadFault) → IsFirstFault lines fault → IsFirstFault (lines ++ more) fault
  fault_longer more (faults.Line at fault) a = (a.0, longer more at a.0 a.1, a.2)
  fault_longer more (faults.Outside at) a = (a.0, a.1, longer more at a.0 a.2, a.3, a.4)
  fault_longer more (faults.Inside at) a = (a.0, a.1, longer more at a.0 a.2, a.3, a.4)
  fault_longer more faults.OpenEnd a = absurd (a.1 (not_open a.0))
  fault_longer more other a = absurd a
