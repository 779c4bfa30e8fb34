-- Where a reader is after some lines, what the next line makes of it, and why it stops.
use Rattle.std.proofs.Common.{◌≡◌, ℕ, ◌+◌, List, [], ◌∷◌, ◌++◌, length, refl, sym, ap, subst, ◌∙◌, append_assoc}
use Rattle.std.specs.Prelude.{codes}
use Rattle.std.specs.List.{flat_map, sum_by, AllByRecursion}
use Rattle.std.proofs.lemmas.List.{append-nil}
use Rattle.std.proofs.lemmas.List.Concat.{flat_map-append}
use Rattle.covdata.specs.Records.{LineData, Test, Path, End, Skip}
use Rattle.covline.specs.Spells.{Spells, HasFault}
use Rattle.covdata.specs.declared.trace_line.LineFault.{LineFault}
use Rattle.covdata.specs.declared.fault.ReadFault.TheVariants as faults
use Rattle.covread.specs.Reads.{AllSpell, Part, Outside, Section, IsOutside, IsInside, IsLawfulPart, records_of, odd_in, sects_from, Reads}
use Rattle.covread.specs.Outcome.{IsLawfulText, MayGoOn, IsFirstFaulty, NeedsSection, NeedsOutside, IsFirstFault}
use Rattle.covread.proofs.AllOf.{all_push}
use Rattle.covread.proofs.TraceGrammar.{LineLaw, Place, Between, Within, Accepts, accepts_open, accepts_after_inside, accepts_parts, accepts_after_parts}

-- ---- lines and what they say

pub AllSpell-append : (ls ms : List (List ℕ)) (a b : List LineData) → AllSpell ls a → AllSpell ms b → AllSpell (ls ++ ms) (a ++ b)
AllSpell-append [] ms [] b h k = k
AllSpell-append [] ms (says ∷ a) b h k = absurd h
AllSpell-append (l ∷ ls) ms [] b h k = absurd h
AllSpell-append (l ∷ ls) ms (says ∷ a) b h k = (h.0, AllSpell-append ls ms a b h.1 k)

abbrev Splits : List (List ℕ) → List (List ℕ) → List LineData → Type 0
Splits ls ms says = (front : List LineData) × (back : List LineData) × (says ≡ front ++ back) × AllSpell ls front × AllSpell ms back

pub AllSpell-split : (ls ms : List (List ℕ)) (says : List LineData) → AllSpell (ls ++ ms) says → Splits ls ms says
AllSpell-split [] ms says h = ([], says, refl, tt, h)
AllSpell-split (l ∷ ls) ms [] h = absurd h
AllSpell-split (l ∷ ls) ms (s ∷ says) h =
    let k = AllSpell-split ls ms says h.1 in
    (s ∷ k.0, k.1, ap (λ (x : List LineData). s ∷ x) k.2, (h.0, k.3), k.4)

pub AllSpell-one : LineLaw → (ls : List (List ℕ)) (a b : List LineData) → AllSpell ls a → AllSpell ls b → a ≡ b
AllSpell-one law [] [] [] h k = refl
AllSpell-one law [] (s ∷ a) b h k = absurd h
AllSpell-one law [] [] (t ∷ b) h k = absurd k
AllSpell-one law (l ∷ ls) [] b h k = absurd h
AllSpell-one law (l ∷ ls) (s ∷ a) [] h k = absurd k
AllSpell-one law (l ∷ ls) (s ∷ a) (t ∷ b) h k =
    let first = law.meaning l s t h.0 k.0 in
    let others = AllSpell-one law ls a b h.1 k.1 in
    cc

pub AllSpell-length : (ls : List (List ℕ)) (a : List LineData) → AllSpell ls a → length ls ≡ length a
AllSpell-length [] [] h = refl
AllSpell-length [] (s ∷ a) h = absurd h
AllSpell-length (l ∷ ls) [] h = absurd h
AllSpell-length (l ∷ ls) (s ∷ a) h = let k = AllSpell-length ls a h.1 in cc

-- ---- where a reader is

-- the records of the open section so far, the first of which is its path
abbrev pub begun : Place → List LineData
begun Between = []
begun (Within path inside) = Path path ∷ inside

abbrev pub IsLawfulPlace : Place → Type 0
IsLawfulPlace Between = Unit {0}
IsLawfulPlace (Within path inside) = AllByRecursion IsInside inside

-- the lines so far are whole parts, and the beginning of a section if one is open
pub record Stands (lines : List (List ℕ)) (parts : List Part) (place : Place) : Type 0 where
  pub lawful : AllByRecursion IsLawfulPart parts
  pub inside : IsLawfulPlace place
  pub spelled : AllSpell lines (flat_map records_of parts ++ begun place)

pub stands_at_first : Stands [] [] Between
stands_at_first = record { lawful = tt; inside = tt; spelled = tt }

-- the records of the parts, with one more part
flat_push : (parts : List Part) (part : Part) → flat_map records_of (parts ++ part ∷ []) ≡ flat_map records_of parts ++ records_of part
flat_push parts part = flat_map-append records_of parts (part ∷ []) ∙ ap (λ (x : List LineData). flat_map records_of parts ++ x) (append-nil (records_of part))

pub stands_outside : (lines : List (List ℕ)) (parts : List Part) (line : List ℕ) (says : LineData) → Stands lines parts Between → IsOutside says → Spells line says
    → Stands (lines ++ line ∷ []) (parts ++ Outside says ∷ []) Between
stands_outside lines parts line says s out spells = record {
  lawful = all_push IsLawfulPart parts (Outside says) s.lawful out;
  inside = tt;
  spelled =
      let e : flat_map records_of (parts ++ Outside says ∷ []) ++ [] ≡ (flat_map records_of parts ++ []) ++ says ∷ [] =
      append-nil (flat_map records_of (parts ++ Outside says ∷ [])) ∙ flat_push parts (Outside says) ∙ ap (λ (x : List LineData). x ++ says ∷ []) (sym (append-nil (flat_map records_of parts))) in
      subst (λ (x : List LineData). AllSpell (lines ++ line ∷ []) x) (sym e) (AllSpell-append lines (line ∷ []) (flat_map records_of parts ++ []) (says ∷ []) s.spelled (spells, tt));
}

pub stands_path : (lines : List (List ℕ)) (parts : List Part) (line path : List ℕ) → Stands lines parts Between → Spells line (Path path)
    → Stands (lines ++ line ∷ []) parts (Within path [])
stands_path lines parts line path s spells = record {
  lawful = s.lawful;
  inside = tt;
  spelled =
      let e : (flat_map records_of parts ++ []) ++ Path path ∷ [] ≡ flat_map records_of parts ++ Path path ∷ [] =
      ap (λ (x : List LineData). x ++ Path path ∷ []) (append-nil (flat_map records_of parts)) in
      subst (λ (x : List LineData). AllSpell (lines ++ line ∷ []) x) e (AllSpell-append lines (line ∷ []) (flat_map records_of parts ++ []) (Path path ∷ []) s.spelled (spells, tt));
}

pub stands_inside : (lines : List (List ℕ)) (parts : List Part) (line path : List ℕ) (inside : List LineData) (says : LineData)
    → Stands lines parts (Within path inside) → IsInside says → Spells line says → Stands (lines ++ line ∷ []) parts (Within path (inside ++ says ∷ []))
stands_inside lines parts line path inside says s within spells = record {
  lawful = s.lawful;
  inside = all_push IsInside inside says s.inside within;
  spelled =
      subst (λ (x : List LineData). AllSpell (lines ++ line ∷ []) x) (append_assoc (flat_map records_of parts) (Path path ∷ inside) (says ∷ []))
      (AllSpell-append lines (line ∷ []) (flat_map records_of parts ++ Path path ∷ inside) (says ∷ []) s.spelled (spells, tt));
}

pub stands_end : (lines : List (List ℕ)) (parts : List Part) (line path : List ℕ) (inside : List LineData)
    → Stands lines parts (Within path inside) → Spells line End → Stands (lines ++ line ∷ []) (parts ++ Section path inside ∷ []) Between
stands_end lines parts line path inside s spells = record {
  lawful = all_push IsLawfulPart parts (Section path inside) s.lawful s.inside;
  inside = tt;
  spelled =
      let e : flat_map records_of (parts ++ Section path inside ∷ []) ++ [] ≡ (flat_map records_of parts ++ Path path ∷ inside) ++ End ∷ [] =
      append-nil (flat_map records_of (parts ++ Section path inside ∷ [])) ∙ flat_push parts (Section path inside) ∙ sym (append_assoc (flat_map records_of parts) (Path path ∷ inside) (End ∷ [])) in
      subst (λ (x : List LineData). AllSpell (lines ++ line ∷ []) x) (sym e) (AllSpell-append lines (line ∷ []) (flat_map records_of parts ++ Path path ∷ inside) (End ∷ []) s.spelled (spells, tt));
}

-- if the lines say the records `a`, then `b`, then `c`, one of the lines says `b`, and the lines above that one say `a`
by_record : (lines : List (List ℕ)) (a : List LineData) (b : LineData) (c : List LineData) → AllSpell lines (a ++ b ∷ c)
    → (ls : List (List ℕ)) × (l : List ℕ) × (ms : List (List ℕ)) × (lines ≡ ls ++ l ∷ ms) × AllSpell ls a × Spells l b
by_record [] [] b c h = absurd h
by_record [] (x ∷ a) b c h = absurd h
by_record (l ∷ lines) [] b c h = ([], l, lines, refl, tt, h.0)
by_record (l ∷ lines) (x ∷ a) b c h =
    let k = by_record lines a b c h.1 in
    (l ∷ k.0, k.1, k.2, ap (λ (x : List (List ℕ)). l ∷ x) k.3, (h.0, k.4), k.5)

-- the line that the open section began with
pub path_line : (lines : List (List ℕ)) (parts : List Part) (path : List ℕ) (inside : List LineData) → Stands lines parts (Within path inside)
    → (ls : List (List ℕ)) × (l : List ℕ) × (ms : List (List ℕ)) × (lines ≡ ls ++ l ∷ ms) × Stands ls parts Between × Spells l (Path path)
path_line lines parts path inside s =
    let k = by_record lines (flat_map records_of parts) (Path path) inside s.spelled in (
      k.0,
      k.1,
      k.2,
      k.3,
      record {
        lawful = s.lawful;
        inside = tt;
        spelled = subst (λ (x : List LineData). AllSpell k.0 x) (sym (append-nil (flat_map records_of parts))) k.4;
      },
      k.5,
    )

-- ---- what follows from where the reader is

-- if no section is open, the lines are a lawful text
pub stands_reads : (lines : List (List ℕ)) (parts : List Part) → Stands lines parts Between → Reads lines (record { sects = sects_from [] parts; odd = sum_by odd_in parts })
stands_reads lines parts s = record {
  parts = parts;
  lawful = s.lawful;
  spelled = subst (λ (x : List LineData). AllSpell lines x) (append-nil (flat_map records_of parts)) s.spelled;
  sects = refl;
  odd = refl;
}

end_line : Spells (codes "end_of_record") End
end_line = record { form = ([], refl); small = tt }

-- lines that a reader passed begin a lawful text
pub stands_goes_on : (lines : List (List ℕ)) (parts : List Part) (place : Place) → Stands lines parts place → MayGoOn lines
stands_goes_on lines parts Between s =
    ([], subst (λ (x : List (List ℕ)). IsLawfulText x) (sym (append-nil lines)) (_, stands_reads lines parts s))
stands_goes_on lines parts (Within path inside) s =
    (codes "end_of_record" ∷ [], (_, stands_reads (lines ++ codes "end_of_record" ∷ []) (parts ++ Section path inside ∷ []) (stands_end lines parts (codes "end_of_record") path inside s end_line)))

accepts_place : (place : Place) (more : List LineData) → IsLawfulPlace place → Accepts Between (begun place ++ more) → Accepts place more
accepts_place Between more h a = a
accepts_place (Within path inside) more h a = accepts_open more path path [] inside (accepts_after_inside path [] inside more h a)

-- if a text is lawful, the lines that follow these are accepted where the reader is
pub stands_then : LineLaw → (lines : List (List ℕ)) (parts : List Part) (place : Place) (more : List (List ℕ)) → Stands lines parts place → IsLawfulText (lines ++ more)
    → (rest : List LineData) × AllSpell more rest × Accepts place rest
stands_then law lines parts place more s text =
    let reads = text.1 in
    let k = AllSpell-split lines more (flat_map records_of reads.parts) reads.spelled in
    let same : k.0 ≡ flat_map records_of parts ++ begun place = AllSpell-one law lines k.0 (flat_map records_of parts ++ begun place) k.3 s.spelled in
    let whole : flat_map records_of reads.parts ≡ flat_map records_of parts ++ (begun place ++ k.1) =
    k.2 ∙ ap (λ (x : List LineData). x ++ k.1) same ∙ append_assoc (flat_map records_of parts) (begun place) k.1 in
    let all : Accepts Between (flat_map records_of parts ++ (begun place ++ k.1)) = subst (λ (x : List LineData). Accepts Between x) whole (accepts_parts reads.parts reads.lawful) in
    (k.1, k.4, accepts_place place k.1 s.inside (accepts_after_parts parts (begun place ++ k.1) s.lawful all))

-- the line says no record that is accepted where the reader is
abbrev pub IsStop : Place → List ℕ → Type 0
IsStop place line = (says : LineData) (more : List LineData) → Spells line says → Accepts place (says ∷ more) → ⊥

refuses : (place : Place) (line : List ℕ) (more : List (List ℕ)) (rest : List LineData) → IsStop place line → AllSpell (line ∷ more) rest → Accepts place rest → ⊥
refuses place line more [] stop h a = absurd h
refuses place line more (says ∷ rest) stop h a = stop says rest h.0 a

pub stands_stops : LineLaw → (lines : List (List ℕ)) (parts : List Part) (place : Place) (line : List ℕ) → Stands lines parts place → IsStop place line → ¬ MayGoOn (lines ++ line ∷ [])
stands_stops law lines parts place line s stop = λ on.
    let text : IsLawfulText (lines ++ line ∷ on.0) = subst (λ (x : List (List ℕ)). IsLawfulText x) (append_assoc lines (line ∷ []) on.0) on.1 in
    let k = stands_then law lines parts place (line ∷ on.0) s text in
    refuses place line on.0 k.0 stop k.1 k.2

pub first_faulty : LineLaw → (lines : List (List ℕ)) (parts : List Part) (place : Place) (line : List ℕ) (after all : List (List ℕ))
    → Stands lines parts place → IsStop place line → all ≡ lines ++ line ∷ after → IsFirstFaulty all (length lines + 1) line
first_faulty law lines parts place line after all s stop e = record {
  before = lines;
  after = after;
  place = e;
  number = refl;
  goes_on = stands_goes_on lines parts place s;
  ends_here = stands_stops law lines parts place line s stop;
}

-- a line's own fault is the first fault
pub stop_by_fault : LineLaw → (place : Place) (line : List ℕ) (lines : List (List ℕ)) (parts : List Part) (after all : List (List ℕ))
    → Stands lines parts place → all ≡ lines ++ line ∷ after → (f : LineFault) → HasFault line f → IsFirstFault all (faults.Line (length lines + 1) f)
stop_by_fault law place line lines parts after all s e f has =
    (line, first_faulty law lines parts place line after all s (λ says more spells a. law.never_both line says f spells has) e, has)

no_section : (says : LineData) (more : List LineData) → NeedsSection says → Accepts Between (says ∷ more) → ⊥
no_section (Test name) more n a = n
no_section (Path path) more n a = n
no_section Skip more n a = n
no_section says more n a = a

in_section : (says : LineData) (path : List ℕ) (inside more : List LineData) → NeedsOutside says → Accepts (Within path inside) (says ∷ more) → ⊥
in_section (Test name) path inside more n a = a
in_section (Path other) path inside more n a = a
in_section says path inside more n a = n

-- the first fault is `Outside`, if no section is open and the line has to be in one
pub stop_outside : LineLaw → (lines : List (List ℕ)) (parts : List Part) (line : List ℕ) (after all : List (List ℕ)) (says : LineData)
    → Stands lines parts Between → all ≡ lines ++ line ∷ after → Spells line says → NeedsSection says → IsFirstFault all (faults.Outside (length lines + 1))
stop_outside law lines parts line after all says s e spells needs = (
  line,
  says,
  first_faulty law lines parts Between line after all s
      (λ t more spells_t a. no_section t more (subst (λ (x : LineData). NeedsSection x) (law.meaning line says t spells spells_t) needs) a) e,
  spells,
  needs,
)

-- the first fault is `Inside`, if a section is open and the line can't be in one
pub stop_inside : LineLaw → (lines : List (List ℕ)) (parts : List Part) (path : List ℕ) (inside : List LineData) (line : List ℕ) (after all : List (List ℕ)) (says : LineData)
    → Stands lines parts (Within path inside) → all ≡ lines ++ line ∷ after → Spells line says → NeedsOutside says → IsFirstFault all (faults.Inside (length lines + 1))
stop_inside law lines parts path inside line after all says s e spells needs = (
  line,
  says,
  first_faulty law lines parts (Within path inside) line after all s
      (λ t more spells_t a. in_section t path inside more (subst (λ (x : LineData). NeedsOutside x) (law.meaning line says t spells spells_t) needs) a) e,
  spells,
  needs,
)

nothing_left : (rest : List LineData) (path : List ℕ) (inside : List LineData) → AllSpell [] rest → Accepts (Within path inside) rest → ⊥
nothing_left [] path inside h a = a
nothing_left (says ∷ rest) path inside h a = h

-- the first fault is `OpenEnd`, if a section is open after the last line
pub stop_open : LineLaw → (lines : List (List ℕ)) (parts : List Part) (path : List ℕ) (inside : List LineData)
    → Stands lines parts (Within path inside) → IsFirstFault lines faults.OpenEnd
stop_open law lines parts path inside s = (
  stands_goes_on lines parts (Within path inside) s,
  λ text. let k = stands_then law lines parts (Within path inside) [] s (subst (λ (x : List (List ℕ)). IsLawfulText x) (sym (append-nil lines)) text) in
      nothing_left k.0 path inside k.1 k.2,
)
