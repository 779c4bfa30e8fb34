-- What a reader holds after some lines: what the reader of version 1 holds after the printed records that they stand for. So the
-- lemmas of version 1 on what a reader holds serve as they are.
use Rattle.std.proofs.Common.{◌≡◌, ℕ, ◌+◌, ◌≤◌, List, [], ◌∷◌, ◌++◌, length, map, All, Some, refl, sym, ap, subst, ◌∙◌, append_assoc, arith}
use Rattle.std.specs.Prelude.{codes}
use Rattle.std.specs.List.{flat_map, sum_by, AllByRecursion}
use Rattle.std.proofs.lemmas.List.{append-nil, map-append, length-append}
use Rattle.std.proofs.lemmas.List.Elements.{All-head, All-cons, All-nil}
use Rattle.std.proofs.lemmas.List.Sums.{sum_by_push}
use Rattle.covdata.specs.Lawful.{IsGoodTest}
use Rattle.covline.specs.LineLaws.{FewLines, FewBytes, GoodLines, GoodRest, PrintedSpells}
use Rattle.covdata.specs.Printed.{line_text, printed, IsReadable}
use Rattle.covdata.specs.Records.{LineData, End}
use Rattle.covread.specs.Reads.{AllSpell, Part, Section, records_of, sects_from, odd_in}
use Rattle.covread.specs.TraceSteps.{HeldData, empty}
use Rattle.covread.proofs.AllOf.{all_append}
use Rattle.covread.proofs.TraceGrammar.{LineLaw, Place, Between, Within, Accepts, accepts_open, accepts_after_inside, accepts_parts, accepts_after_parts}
use Rattle.covread.proofs.TraceStands.{AllSpell-append, AllSpell-one, begun, IsLawfulPlace, Stands, stands_end}
use Rattle.covread.proofs.TraceRun.{Holds, holds_at_first, holds_more}
use Rattle.covlcov2.specs.Spells.{Lcov2Data, Plain, HasSmallLcov2Numbers, Lcov2Spells}
use Rattle.covlcov2.specs.LineLaws.{Lcov2LineLaw}
use Rattle.covlcov2.specs.Reads.{said, above_after, StandFor, Reads}
use Rattle.covlcov2.specs.Outcome.{IsLawfulText, MayGoOn, IsFirstFaulty}
use Rattle.covlcov2.specs.Run.{StepsTo}
use Rattle.covlcov2.proofs.Records.{same_some, readable, small_after, few}

-- all that is known of lines
pub record Laws : Type 0 where
  pub plain : LineLaw
  pub lcov2 : Lcov2LineLaw
  pub printed : PrintedSpells
  pub good_lines : GoodLines
  pub good_rest : GoodRest
  pub few_lines : FewLines
  pub few_bytes : FewBytes

-- ---- lines, and the records that they stand for

-- as `StandFor`, and these lines are above the next line in its section
abbrev pub Goes : List (List ℕ) → List Lcov2Data → List LineData → List Lcov2Data → Type 0
Goes [] above records last = (records ≡ []) × (last ≡ above)
Goes (line ∷ lines) above records last =
    (says : Lcov2Data) × (now : List LineData) × (later : List LineData) × Lcov2Spells line says × (said above says ≡ Some now) × (records ≡ now ++ later)
    × Goes lines (above_after above says) later last

pub goes_says : (lines : List (List ℕ)) (above last : List Lcov2Data) (records : List LineData) → Goes lines above records last → StandFor lines above records
goes_says [] above last records g = g.0
goes_says (line ∷ lines) above last records g = (g.0, g.1, g.2, g.3, g.4, g.5, goes_says lines (above_after above g.0) last g.2 g.6)

pub goes_more : (lines : List (List ℕ)) (line : List ℕ) (above last : List Lcov2Data) (records now : List LineData) (says : Lcov2Data) → Goes lines above records last → Lcov2Spells line says → said last says ≡ Some now
    → Goes (lines ++ line ∷ []) above (records ++ now) (above_after last says)
goes_more [] line above last records now says g spells e = (
  says,
  now,
  [],
  spells,
  sym (ap (λ (a : List Lcov2Data). said a says) g.1) ∙ e,
  ap (λ (r : List LineData). r ++ now) g.0 ∙ sym (append-nil now),
  (refl, ap (λ (a : List Lcov2Data). above_after a says) g.1),
)
goes_more (l ∷ lines) line above last records now says g spells e = (
  g.0,
  g.1,
  g.2 ++ now,
  g.3,
  g.4,
  ap (λ (r : List LineData). r ++ now) g.5 ∙ append_assoc g.1 g.2 now,
  goes_more lines line (above_after above g.0) last g.2 now says g.6 spells e,
)

-- what these lines and more lines say together begins with what these lines say
pub says_split : Lcov2LineLaw → (front back : List (List ℕ)) (above last : List Lcov2Data) (records all : List LineData) → Goes front above records last → StandFor (front ++ back) above all
    → (later : List LineData) × (all ≡ records ++ later) × StandFor back last later
says_split law [] back above last records all g h =
    (all, ap (λ (r : List LineData). r ++ all) (sym g.0), subst (λ (a : List Lcov2Data). StandFor back a all) (sym g.1) h)
says_split law (l ∷ front) back above last records all g h =
    let one : h.0 ≡ g.0 = law.meaning l h.0 g.0 h.3 g.3 in
    let now : h.1 ≡ g.1 = same_some h.1 g.1 (sym h.4 ∙ ap (said above) one ∙ g.4) in
    let rest : StandFor (front ++ back) (above_after above g.0) h.2 = subst (λ (s : Lcov2Data). StandFor (front ++ back) (above_after above s) h.2) one h.6 in
    let k = says_split law front back (above_after above g.0) last g.2 h.2 g.6 rest in (
      k.0,
      h.5 ∙ ap (λ (r : List LineData). r ++ h.2) now ∙ ap (λ (r : List LineData). g.1 ++ r) k.1 ∙ sym (append_assoc g.1 g.2 k.0) ∙ ap (λ (r : List LineData). r ++ k.0) (sym g.5),
      k.2,
    )

-- ---- what is held

pub record Lcov2Holds (lines : List (List ℕ)) (above : List Lcov2Data) (held : HeldData) : Type 0 where
  pub records : List LineData
  pub goes : Goes lines [] records above
  pub can_print : AllByRecursion IsReadable records
  pub small : AllByRecursion HasSmallLcov2Numbers above
  pub bound : length records ≤ sum_by length lines
  pub holds : Holds (map line_text records) held

pub holds_nothing : Lcov2Holds [] [] empty
holds_nothing = record { records = []; goes = (refl, refl); can_print = tt; small = tt; bound = omega arith; holds = holds_at_first }

holds_records : PrintedSpells → (now : List LineData) (lines : List (List ℕ)) (held after : HeldData) → Holds lines held → AllByRecursion IsReadable now → StepsTo now held after → Holds (lines ++ map line_text now) after
holds_records law [] lines held after h reads steps =
    subst (λ (x : List (List ℕ)). Holds x after) (sym (append-nil lines)) (subst (λ (x : HeldData). Holds lines x) (sym steps) h)
holds_records law (says ∷ now) lines held after h reads steps =
    let one = holds_more lines (line_text says) held steps.0 says h (law says reads.0).1 steps.1 in
    subst (λ (x : List (List ℕ)). Holds x after) (append_assoc lines (line_text says ∷ []) (map line_text now)) (holds_records law now (lines ++ line_text says ∷ []) steps.0 after one reads.1 steps.2)

-- one more line
pub holds_line : Laws → (lines : List (List ℕ)) (line : List ℕ) (above : List Lcov2Data) (held after : HeldData) (says : Lcov2Data) (now : List LineData) → Lcov2Holds lines above held → IsGoodTest line
    → Lcov2Spells line says → said above says ≡ Some now → StepsTo now held after → Lcov2Holds (lines ++ line ∷ []) (above_after above says) after
holds_line laws lines line above held after says now h good spells e steps =
    let reads = readable laws.good_rest line above says now good h.small spells e in
    record {
      records = h.records ++ now;
      goes = goes_more lines line [] above h.records now says h.goes spells e;
      can_print = all_append IsReadable h.records now h.can_print reads;
      small = small_after above says h.small spells.small;
      bound = omega (arith, h.bound, few line above says now spells e, length-append h.records now, sum_by_push length lines line);
      holds = subst (λ (x : List (List ℕ)). Holds x after) (sym (map-append line_text h.records now)) (holds_records laws.printed now (map line_text h.records) held after h.holds reads steps);
    }

-- ---- where the reader is

pub spell_all : PrintedSpells → (records : List LineData) → AllByRecursion IsReadable records → AllSpell (map line_text records) records
spell_all law [] reads = tt
spell_all law (says ∷ records) reads = ((law says reads.0).1, spell_all law records reads.1)

-- the records so far are those of the parts, and the beginning of a section if one is open
pub records_are : Laws → (records : List LineData) (parts : List Part) (place : Place) → AllByRecursion IsReadable records → Stands (map line_text records) parts place → records ≡ flat_map records_of parts ++ begun place
records_are laws records parts place reads s = AllSpell-one laws.plain (map line_text records) records (flat_map records_of parts ++ begun place) (spell_all laws.printed records reads) s.spelled

pub reads_between : Laws → (lines : List (List ℕ)) (above : List Lcov2Data) (held : HeldData) (h : Lcov2Holds lines above held) (parts : List Part) → Stands (map line_text h.records) parts Between
    → Reads lines (record { sects = sects_from [] parts; odd = sum_by odd_in parts })
reads_between laws lines above held h parts s = record {
  parts = parts;
  lawful = s.lawful;
  spelled =
      subst (λ (x : List LineData). StandFor lines [] x) (records_are laws h.records parts Between h.can_print s ∙ append-nil (flat_map records_of parts)) (goes_says lines [] above h.records h.goes);
  sects = refl;
  odd = refl;
}

end_spells : Lcov2Spells (codes "end_of_record") (Plain End)
end_spells = record { form = ([], refl); small = tt }

end_readable : IsReadable End
end_readable = record { texts = tt; small = tt }

-- an open section can be ended
reads_within : Laws → (lines : List (List ℕ)) (above : List Lcov2Data) (held : HeldData) (h : Lcov2Holds lines above held) (parts : List Part) (path : List ℕ) (inside : List LineData)
    → Stands (map line_text h.records) parts (Within path inside) → IsLawfulText (lines ++ codes "end_of_record" ∷ [])
reads_within laws lines above held h parts path inside s =
    let ends = stands_end (map line_text h.records) parts (line_text End) path inside s (laws.printed End end_readable).1 in
    let spelled = AllSpell-append (map line_text h.records) (line_text End ∷ []) h.records (End ∷ []) (spell_all laws.printed h.records h.can_print) ((laws.printed End end_readable).1, tt) in
    let all = parts ++ Section path inside ∷ [] in
    let same : h.records ++ End ∷ [] ≡ flat_map records_of all ++ [] = AllSpell-one laws.plain (map line_text h.records ++ line_text End ∷ []) (h.records ++ End ∷ []) (flat_map records_of all ++ []) spelled ends.spelled in
    let goes = goes_more lines (codes "end_of_record") [] above h.records (End ∷ []) (Plain End) h.goes end_spells refl in (
      record { sects = sects_from [] all; odd = sum_by odd_in all },
      record {
        parts = all;
        lawful = ends.lawful;
        spelled =
            subst (λ (x : List LineData). StandFor (lines ++ codes "end_of_record" ∷ []) [] x) (same ∙ append-nil (flat_map records_of all))
            (goes_says (lines ++ codes "end_of_record" ∷ []) [] (above_after above (Plain End)) (h.records ++ End ∷ []) goes);
        sects = refl;
        odd = refl;
      },
    )

goes_on_at : Laws → (lines : List (List ℕ)) (above : List Lcov2Data) (held : HeldData) (h : Lcov2Holds lines above held) (parts : List Part) (place : Place) → Stands (map line_text h.records) parts place → MayGoOn lines
goes_on_at laws lines above held h parts Between s = ([], subst (λ (x : List (List ℕ)). IsLawfulText x) (sym (append-nil lines)) (_, reads_between laws lines above held h parts s))
goes_on_at laws lines above held h parts (Within path inside) s = (codes "end_of_record" ∷ [], reads_within laws lines above held h parts path inside s)

pub goes_on : Laws → (lines : List (List ℕ)) (above : List Lcov2Data) (held : HeldData) → Lcov2Holds lines above held → MayGoOn lines
goes_on laws lines above held h = goes_on_at laws lines above held h h.holds.parts h.holds.place h.holds.stands

-- ---- what may follow

accepts_place : (place : Place) (more : List LineData) → IsLawfulPlace place → Accepts Between (begun place ++ more) → Accepts place more
accepts_place Between more h a = a
accepts_place (Within path inside) more h a = accepts_open more path path [] inside (accepts_after_inside path [] inside more h a)

-- if a text is lawful, the lines that follow these stand for records that are accepted where the reader is
pub then_accepts : Laws → (lines : List (List ℕ)) (above : List Lcov2Data) (held : HeldData) (h : Lcov2Holds lines above held) (more : List (List ℕ)) → IsLawfulText (lines ++ more)
    → (later : List LineData) × StandFor more above later × Accepts h.holds.place later
then_accepts laws lines above held h more text =
    let reads = text.1 in
    let parts = h.holds.parts in
    let place = h.holds.place in
    let k = says_split laws.lcov2 lines more [] above h.records (flat_map records_of reads.parts) h.goes reads.spelled in
    let whole : flat_map records_of reads.parts ≡ flat_map records_of parts ++ (begun place ++ k.0) =
    k.1 ∙ ap (λ (x : List LineData). x ++ k.0) (records_are laws h.records parts place h.can_print h.holds.stands) ∙ append_assoc (flat_map records_of parts) (begun place) k.0 in
    let all : Accepts Between (flat_map records_of parts ++ (begun place ++ k.0)) = subst (λ (x : List LineData). Accepts Between x) whole (accepts_parts reads.parts reads.lawful) in
    (k.0, k.2, accepts_place place k.0 h.holds.stands.inside (accepts_after_parts parts (begun place ++ k.0) h.holds.stands.lawful all))

-- the line stands for no records that are accepted where the reader is
abbrev pub IsStop : List Lcov2Data → Place → List ℕ → Type 0
IsStop above place line = (says : Lcov2Data) (now later : List LineData) → Lcov2Spells line says → said above says ≡ Some now → Accepts place (now ++ later) → ⊥

stops : Laws → (lines : List (List ℕ)) (line : List ℕ) (above : List Lcov2Data) (held : HeldData) (h : Lcov2Holds lines above held) → IsStop above h.holds.place line → ¬ MayGoOn (lines ++ line ∷ [])
stops laws lines line above held h stop = λ on.
    let text : IsLawfulText (lines ++ line ∷ on.0) = subst (λ (x : List (List ℕ)). IsLawfulText x) (append_assoc lines (line ∷ []) on.0) on.1 in
    let k = then_accepts laws lines above held h (line ∷ on.0) text in
    stop k.1.0 k.1.1 k.1.2 k.1.3 k.1.4 (subst (λ (x : List LineData). Accepts h.holds.place x) k.1.5 k.2)

pub first_faulty : Laws → (lines : List (List ℕ)) (line : List ℕ) (above : List Lcov2Data) (held : HeldData) (after all : List (List ℕ)) (h : Lcov2Holds lines above held) → IsStop above h.holds.place line → all ≡ lines ++ line ∷ after
    → IsFirstFaulty all (length lines + 1) line
first_faulty laws lines line above held after all h stop e = record {
  before = lines;
  after = after;
  place = e;
  number = refl;
  goes_on = goes_on laws lines above held h;
  ends_here = stops laws lines line above held h stop;
}

-- ---- the printed lines are good

line_good : Laws → (says : LineData) → IsReadable says → IsGoodTest (line_text says)
line_good laws says reads =
    let k : All IsGoodTest (line_text says ∷ []) = subst (λ (x : List (List ℕ)). All IsGoodTest x) (laws.printed says reads).0 (laws.good_lines (printed says)) in
    All-head IsGoodTest (line_text says) [] k

pub lines_good : Laws → (records : List LineData) → AllByRecursion IsReadable records → All IsGoodTest (map line_text records)
lines_good laws [] reads = All-nil IsGoodTest
lines_good laws (says ∷ records) reads = All-cons IsGoodTest (line_text says) (map line_text records) (line_good laws says reads.0) (lines_good laws records reads.1)
