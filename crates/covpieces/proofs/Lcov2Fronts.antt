-- Tracefiles of LCOV 2: what lines say after lines that are read as a submission.
use Rattle.std.proofs.Common.{◌≡◌, ℕ, ◌+◌, ◌-◌, Bool, true, false, List, [], ◌∷◌, ◌++◌, length, Some, refl, sym, ap, subst, ◌∙◌, arith, lit<, if◌then◌else◌}
use Rattle.std.specs.Prelude.{codes}
use Rattle.std.specs.List.{flat_map, sum_by, AllByRecursion}
use Rattle.std.proofs.lemmas.List.{append-nil}
use Rattle.std.proofs.lemmas.List.Elements.{All-from_recursion}
use Rattle.std.proofs.lemmas.List.Concat.{flat_map-append}
use Rattle.std.proofs.lemmas.List.Sums.{sum_by-cons, sum_by-append}
use Rattle.covdata.specs.Row.{SectData, SubmissionData}
use Rattle.covdata.specs.Records.{LineData, Test, End, Skip}
use Rattle.covline.specs.Spells.{Begins, IsDigit, IsNumeral}
use Rattle.covdata.specs.declared.fault.ReadFault.{ReadFault}
use Rattle.covdata.specs.declared.fault.ReadFault.TheVariants as faults
use Rattle.covread.specs.Reads as reads
use Rattle.covread.specs.Reads.{Part, Outside, Section, IsLawfulPart, records_of, odd_in, sects_from}
use Rattle.covread.proofs.AllOf.{all_append}
use Rattle.covread.proofs.TraceGrammar.{accepts_parts}
use Rattle.covlcov2.specs.Spells.{Lcov2Data, Plain, Leader, Lcov2Spells}
use Rattle.covlcov2.specs.LineLaws.{Lcov2LineLaw}
use Rattle.covlcov2.specs.Reads.{said, above_after, StandFor, Reads}
use Rattle.covlcov2.specs.Outcome.{IsLawfulText, MayGoOn, IsFirstFaulty, IsFirstFault}
use Rattle.covlcov2.proofs.Holds.{goes_says, says_split}
use Rattle.covlcov2.proofs.Records.{same_some}
use Rattle.covpieces.specs.Pieces.{group_line, with_name, last_test, joined, renumbered}
use Rattle.covpieces.proofs.Parts.{test_at, sects-append, last_of, last_of-append, test_of_last, whole_parts, later_parts}
use Rattle.covpieces.proofs.Faults.{FirstFaulty, GoAlike, goes_on_first, faulty_after, faulty_longer}
use Rattle.covpieces.proofs.Lcov2Lines.{goes_on, stand_then, halves, last_is_end, is_grouped, stands_below}

-- the lines are a lawful text, and this is what it says if this test's name is valid before its first line, and functions are
-- grouped there or not
pub record ReadsFrom (test : List ℕ) (grouped : Bool) (lines : List (List ℕ)) (submission : SubmissionData) : Type 0 where
  pub parts : List Part
  pub lawful : AllByRecursion IsLawfulPart parts
  pub above : List Lcov2Data
  pub same : is_grouped above ≡ grouped
  pub spelled : StandFor lines above (flat_map records_of parts)
  pub sects : submission.sects ≡ sects_from test parts
  pub odd : submission.odd ≡ sum_by odd_in parts

-- the lines stand for the same below other lines
pub below : (test : List ℕ) (grouped : Bool) (lines : List (List ℕ)) (s : SubmissionData) (from : ReadsFrom test grouped lines s) (above : List Lcov2Data) → is_grouped above ≡ grouped
    → StandFor lines above (flat_map records_of from.parts)
below test grouped lines s from above same =
    stands_below lines from.above above (flat_map records_of from.parts) (accepts_parts from.parts from.lawful) (from.same ∙ sym same) from.spelled

-- ---- the lines of a front

abbrev test_line : List ℕ → List ℕ
test_line name = codes "TN:" ++ name

spells_test : (name : List ℕ) → Lcov2Spells (test_line name) (Plain (Test name))
spells_test name = record { form = refl; small = tt }

zero_numeral : IsNumeral (codes "0") 0
zero_numeral = record { some = lit< tt; each = All-from_recursion IsDigit (codes "0") ((omega arith, omega arith), tt); value = refl }

spells_group : Lcov2Spells group_line (Leader 0 0)
spells_group = record { form = (codes "0", codes "0", [], refl, zero_numeral, zero_numeral, tt); small = (omega arith, omega arith) }

-- the line that begins to group functions, if they are grouped
abbrev group_lines : Bool → List (List ℕ)
group_lines grouped = if grouped then group_line ∷ [] else []

-- the front of a piece
abbrev front_of : List ℕ → Bool → List (List ℕ)
front_of name grouped = with_name name (group_lines grouped)

group_stands : (grouped : Bool) (lines : List (List ℕ)) (above : List Lcov2Data) (records : List LineData) → is_grouped above ≡ false
    → ((below : List Lcov2Data) → is_grouped below ≡ grouped → StandFor lines below records) → StandFor (group_lines grouped ++ lines) above records
group_stands false lines above records none h = h above none
group_stands true lines above records none h = (Leader 0 0, [], records, spells_group, refl, refl, h (Leader 0 0 ∷ above) refl)

-- no line stands for the empty name
pub with_front : (name : List ℕ) (grouped : Bool) (lines : List (List ℕ)) (s : SubmissionData) → ReadsFrom name grouped lines s → Reads (front_of name grouped ++ lines) s
with_front [] grouped lines s from = record {
  parts = from.parts;
  lawful = from.lawful;
  spelled = group_stands grouped lines [] (flat_map records_of from.parts) refl (below [] grouped lines s from);
  sects = from.sects;
  odd = from.odd;
}
with_front (b ∷ bs) grouped lines s from =
    let says = Test (b ∷ bs) in
    let records = flat_map records_of from.parts in
    record {
      parts = Outside says ∷ from.parts;
      lawful = (tt, from.lawful);
      spelled = (
        Plain says,
        says ∷ [],
        records,
        spells_test (b ∷ bs),
        refl,
        refl,
        group_stands grouped lines (Plain says ∷ []) records refl (below (b ∷ bs) grouped lines s from),
      );
      sects = from.sects;
      odd = omega (arith, from.odd, sum_by-cons odd_in (Outside says) from.parts);
    }

-- what a line makes of the records of a text, if it says this
record Said (lines : List (List ℕ)) (above : List Lcov2Data) (says : Lcov2Data) (now records : List LineData) : Type 0 where
  pub later : List LineData
  pub both : records ≡ now ++ later
  pub others : StandFor lines (above_after above says) later

said_first : Lcov2LineLaw → (line : List ℕ) (lines : List (List ℕ)) (above : List Lcov2Data) (says : Lcov2Data) (now records : List LineData) → Lcov2Spells line says → said above says ≡ Some now
    → StandFor (line ∷ lines) above records → Said lines above says now records
said_first law line lines above says now records spells e h =
    let one : h.0 ≡ says = law.meaning line h.0 says h.3 spells in
    let same : h.1 ≡ now = same_some h.1 now (sym h.4 ∙ ap (said above) one ∙ e) in
    record {
      later = h.2;
      both = h.5 ∙ ap (λ (r : List LineData). r ++ h.2) same;
      others = subst (λ (x : Lcov2Data). StandFor lines (above_after above x) h.2) one h.6;
    }

-- the records of the lines behind the one that begins to group functions
record Behind (grouped : Bool) (lines : List (List ℕ)) (records : List LineData) : Type 0 where
  pub above : List Lcov2Data
  pub same : is_grouped above ≡ grouped
  pub stands : StandFor lines above records

behind_group : Lcov2LineLaw → (grouped : Bool) (lines : List (List ℕ)) (above : List Lcov2Data) (records : List LineData) → is_grouped above ≡ false
    → StandFor (group_lines grouped ++ lines) above records → Behind grouped lines records
behind_group law false lines above records none h = record { above = above; same = none; stands = h }
behind_group law true lines above records none h =
    let first = said_first law group_line lines above (Leader 0 0) [] records spells_group refl h in
    record { above = Leader 0 0 ∷ above; same = refl; stands = subst (λ (r : List LineData). StandFor lines (Leader 0 0 ∷ above) r) (sym first.both) first.others }

parts_behind : (name : List ℕ) (grouped : Bool) (lines : List (List ℕ)) (s : SubmissionData) (parts : List Part) (later : List LineData) → AllByRecursion IsLawfulPart parts
    → flat_map records_of parts ≡ Test name ∷ later → Behind grouped lines later → s.sects ≡ sects_from [] parts → s.odd ≡ sum_by odd_in parts → ReadsFrom name grouped lines s
parts_behind name grouped lines s [] later lawful e b sects odd = absurd cc
parts_behind name grouped lines s (Section path inside ∷ parts) later lawful e b sects odd = absurd cc
parts_behind name grouped lines s (Outside says ∷ parts) later lawful e b sects odd =
    let first : says ≡ Test name = cc in
    let rest : flat_map records_of parts ≡ later = cc in
    record {
      parts = parts;
      lawful = lawful.1;
      above = b.above;
      same = b.same;
      spelled = subst (λ (r : List LineData). StandFor lines b.above r) (sym rest) b.stands;
      sects = sects ∙ ap (λ (x : LineData). sects_from (reads.test_after [] x) parts) first;
      odd = omega (arith, odd, sum_by-cons odd_in (Outside says) parts);
    }

pub from_front : Lcov2LineLaw → (name : List ℕ) (grouped : Bool) (lines : List (List ℕ)) (s : SubmissionData) → Reads (front_of name grouped ++ lines) s → ReadsFrom name grouped lines s
from_front law [] grouped lines s all =
    let b = behind_group law grouped lines [] (flat_map records_of all.parts) refl all.spelled in
    record { parts = all.parts; lawful = all.lawful; above = b.above; same = b.same; spelled = b.stands; sects = all.sects; odd = all.odd }
from_front law (b ∷ bs) grouped lines s all =
    let name = b ∷ bs in
    let first = said_first law (test_line name) (group_lines grouped ++ lines) [] (Plain (Test name)) (Test name ∷ []) (flat_map records_of all.parts) (spells_test name) refl all.spelled in
    parts_behind name grouped lines s all.parts first.later all.lawful first.both (behind_group law grouped lines (Plain (Test name) ∷ []) first.later refl first.others) all.sects all.odd

-- ---- lines after others

-- whether functions are grouped after the lines of a text that was read
abbrev pub grouped_at : (lines : List (List ℕ)) (s : SubmissionData) → Reads lines s → Bool
grouped_at lines s r = is_grouped (goes_on lines [] (flat_map records_of r.parts) r.spelled).0

append_reads : (first lines : List (List ℕ)) (s t : SubmissionData) (r : Reads first s) → ReadsFrom (test_at [] r.parts) (grouped_at first s r) lines t → Reads (first ++ lines) (joined s t)
append_reads first lines s t r from =
    let k = goes_on first [] (flat_map records_of r.parts) r.spelled in
    let others = below (test_at [] r.parts) (grouped_at first s r) lines t from k.0 refl in
    record {
      parts = r.parts ++ from.parts;
      lawful = all_append IsLawfulPart r.parts from.parts r.lawful from.lawful;
      spelled =
          subst (λ (x : List LineData). StandFor (first ++ lines) [] x) (sym (flat_map-append records_of r.parts from.parts))
          (stand_then first lines [] k.0 (flat_map records_of r.parts) (flat_map records_of from.parts) k.1 others);
      sects =
          ap (λ (x : List SectData). x ++ t.sects) r.sects ∙ ap (λ (x : List SectData). sects_from [] r.parts ++ x) from.sects
          ∙ sym (sects-append [] r.parts from.parts);
      odd = omega (arith, r.odd, from.odd, sum_by-append odd_in r.parts from.parts);
    }

rest_reads : Lcov2LineLaw → (first lines : List (List ℕ)) (s all : SubmissionData) (r : Reads first s) → Reads (first ++ lines) all
    → (t : SubmissionData) × ReadsFrom (test_at [] r.parts) (grouped_at first s r) lines t
rest_reads law first lines s all r whole =
    let k = goes_on first [] (flat_map records_of r.parts) r.spelled in
    let split = says_split law first lines [] k.0 (flat_map records_of r.parts) (flat_map records_of whole.parts) k.1 whole.spelled in
    let later = later_parts r.parts whole.parts split.0 r.lawful whole.lawful split.1 in (
      record { sects = sects_from (test_at [] r.parts) later.parts; odd = sum_by odd_in later.parts },
      record {
        parts = later.parts;
        lawful = later.lawful;
        above = k.0;
        same = refl;
        spelled = subst (λ (x : List LineData). StandFor lines k.0 x) (sym later.same) split.2;
        sects = refl;
        odd = refl;
      },
    )

module _ (law : Lcov2LineLaw) (first : List (List ℕ)) (name : List ℕ) (grouped : Bool) (s : SubmissionData) (r : Reads first s) (test_is : test_at [] r.parts ≡ name) (grouped_is : grouped_at first s r ≡ grouped) where
  from_name : (lines : List (List ℕ)) (t : SubmissionData) → ReadsFrom (test_at [] r.parts) (grouped_at first s r) lines t → ReadsFrom name grouped lines t
  from_name lines t from =
      subst (λ (b : Bool). ReadsFrom name b lines t) grouped_is (subst (λ (x : List ℕ). ReadsFrom x (grouped_at first s r) lines t) test_is from)

  to_name : (lines : List (List ℕ)) (t : SubmissionData) → ReadsFrom name grouped lines t → ReadsFrom (test_at [] r.parts) (grouped_at first s r) lines t
  to_name lines t from =
      subst (λ (b : Bool). ReadsFrom (test_at [] r.parts) b lines t) (sym grouped_is) (subst (λ (x : List ℕ). ReadsFrom x grouped lines t) (sym test_is) from)

  pub joined_reads : (lines : List (List ℕ)) (t : SubmissionData) → Reads (front_of name grouped ++ lines) t → Reads (first ++ lines) (joined s t)
  joined_reads lines t all = append_reads first lines s t r (to_name lines t (from_front law name grouped lines t all))

  nothing_more : ReadsFrom name grouped [] (record { sects = []; odd = 0 })
  nothing_more = from_name [] (record { sects = []; odd = 0 }) (record {
    parts = [];
    lawful = tt;
    above = (goes_on first [] (flat_map records_of r.parts) r.spelled).0;
    same = refl;
    spelled = refl;
    sects = refl;
    odd = refl;
  })

  -- a text goes on after lines that were read as it goes on after the lines of a front
  pub front_alike : GoAlike Reads first (front_of name grouped)
  front_alike = record {
    whole =
        let none : SubmissionData = record { sects = []; odd = 0 } in
        (none, subst (λ (x : List (List ℕ)). Reads x none) (append-nil (front_of name grouped)) (with_front name grouped [] none nothing_more));
    to_first = λ rest text. (joined s text.0, joined_reads rest text.0 text.1);
    to_front = λ rest text.
        let from = rest_reads law first rest s text.0 r text.1 in
        (from.0, with_front name grouped rest from.0 (from_name rest from.0 from.1));
  }

-- ---- faults

to_faulty : (lines : List (List ℕ)) (at : ℕ) (line : List ℕ) → IsFirstFaulty lines at line → FirstFaulty Reads lines at line
to_faulty lines at line f = record { before = f.before; after = f.after; place = f.place; number = f.number; goes_on = f.goes_on; ends_here = f.ends_here }

of_faulty : (lines : List (List ℕ)) (at : ℕ) (line : List ℕ) → FirstFaulty Reads lines at line → IsFirstFaulty lines at line
of_faulty lines at line f = record { before = f.before; after = f.after; place = f.place; number = f.number; goes_on = f.goes_on; ends_here = f.ends_here }

module _ (first front : List (List ℕ)) (alike : GoAlike Reads first front) (rest : List (List ℕ)) where
  abbrev after_front : ℕ → ℕ
  after_front at = length first + (at - length front)

  faulty : (at : ℕ) (line : List ℕ) → IsFirstFaulty (front ++ rest) at line → IsFirstFaulty (first ++ rest) (after_front at) line
  faulty at line f = of_faulty (first ++ rest) (after_front at) line (faulty_after Reads first front alike rest at line (to_faulty (front ++ rest) at line f))

  -- the first fault is the same, with another number
  pub fault_after : (fault : ReadFault) → IsFirstFault (front ++ rest) fault → IsFirstFault (first ++ rest) (renumbered after_front fault)
  fault_after (faults.Line at fault) a = (a.0, faulty at a.0 a.1, a.2)
  fault_after (faults.Outside at) a = (a.0, a.1, faulty at a.0 a.2, a.3, a.4)
  fault_after (faults.Inside at) a = (a.0, a.1, faulty at a.0 a.2, a.3, a.4)
  fault_after (faults.Misplaced at) a = (a.0, a.1, faulty at a.0 a.2, a.3, a.4)
  fault_after faults.OpenEnd a = (goes_on_first Reads first front alike rest a.0, λ text. a.1 (alike.to_front rest text))
  fault_after other a = absurd a

-- ---- lines that end with the end of a section

module _ (law : Lcov2LineLaw) (lines above : List (List ℕ)) (last : List ℕ) (place : lines ≡ above ++ last ∷ []) (begins : Begins last (codes "end_of_record")) where
  ends_in_end : (records : List LineData) → StandFor lines [] records → last_of Skip records ≡ End
  ends_in_end records stands =
      let k = halves above (last ∷ []) [] records (subst (λ (x : List (List ℕ)). StandFor x [] records) place stands) in
      ap (last_of Skip) k.both ∙ last_of-append Skip k.front k.back ∙ last_is_end law last k.last k.back begins k.others (last_of Skip k.front)

  -- the current test is the last section's
  pub test_at_end : (other : List ℕ) (s : SubmissionData) (r : Reads lines s) → test_at [] r.parts ≡ last_test other s.sects
  test_at_end other s r =
      test_of_last r.parts Skip [] other r.lawful (ends_in_end (flat_map records_of r.parts) r.spelled) (λ e. absurd cc)
      ∙ ap (last_test other) (sym r.sects)

  -- no section is open
  not_open : MayGoOn lines → IsLawfulText lines
  not_open on =
      let r = on.1.1 in
      let k = halves lines on.0 [] (flat_map records_of r.parts) r.spelled in
      let stands = goes_says lines [] k.last k.front k.goes in
      let whole = whole_parts r.parts k.front k.back Skip r.lawful k.both (ends_in_end k.front stands) in (
        record { sects = sects_from [] whole.parts; odd = sum_by odd_in whole.parts },
        record {
          parts = whole.parts;
          lawful = whole.lawful;
          spelled = subst (λ (x : List LineData). StandFor lines [] x) (sym whole.same) stands;
          sects = refl;
          odd = refl;
        },
      )

  longer : (more : List (List ℕ)) (at : ℕ) (line : List ℕ) → IsFirstFaulty lines at line → IsFirstFaulty (lines ++ more) at line
  longer more at line f = of_faulty (lines ++ more) at line (faulty_longer Reads lines more at line (to_faulty lines at line f))

  -- the first fault stays it if more lines follow
  pub fault_longer : (more : List (List ℕ)) (fault : ReadFault) → IsFirstFault lines fault → IsFirstFault (lines ++ more) fault
  fault_longer more (faults.Line at fault) a = (a.0, longer more at a.0 a.1, a.2)
  fault_longer more (faults.Outside at) a = (a.0, a.1, longer more at a.0 a.2, a.3, a.4)
  fault_longer more (faults.Inside at) a = (a.0, a.1, longer more at a.0 a.2, a.3, a.4)
  fault_longer more (faults.Misplaced at) a = (a.0, a.1, longer more at a.0 a.2, a.3, a.4)
  fault_longer more faults.OpenEnd a = absurd (a.1 (not_open a.0))
  fault_longer more other a = absurd a
