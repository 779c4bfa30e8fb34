-- What is held after the last line is the outcome, and a line that isn't taken is the first fault.
use Rattle.std.proofs.Common.{◌≡◌, ℕ, ◌+◌, ◌≤◌, List, [], ◌∷◌, ◌++◌, length, map, Option, Some, None, Err, refl, sym, ap, subst, ◌∙◌, arith, inl, inr}
use Rattle.std.specs.Prelude.{◌⊎◌}
use Rattle.std.specs.List.{flat_map}
use Rattle.std.proofs.lemmas.List.{append-nil, length-map}
use Rattle.covdata.specs.declared.trace_line.TotalKind.{TotalKind}
use Rattle.covdata.specs.declared.trace_line.TotalKind.TheVariants.{FuncFound, FuncHit, BranchFound, BranchHit, LineFound, LineHit}
use Rattle.std.proofs.Common.{Bool, true, false}
use Rattle.covline.specs.Lines.{lines_of}
use Rattle.covdata.specs.Printed.{line_text}
use Rattle.covdata.specs.Records.{LineData, Test, Path, FuncStart, FuncCount, Total, Skip}
use Rattle.covdata.specs.declared.fault.ReadFault.{ReadFault}
use Rattle.covdata.specs.declared.fault.ReadFault.TheVariants as faults
use Rattle.covread.specs.Reads.{Part, records_of}
use Rattle.covread.specs.Outcome as version1
use Rattle.covread.specs.TraceSteps.{SectionData, HeldData, ends, EndsLawfully}
use Rattle.covread.proofs.TraceGrammar.{Place, Between, Within, Accepts}
use Rattle.covread.proofs.TraceStands.{Stands}
use Rattle.covread.proofs.TraceRun.{section_of, held_of}
use Rattle.covread.proofs.TraceLawful.{lawful_parts}
use Rattle.covlcov2.specs.Spells.{Lcov2Data, Plain, Leader, Alias, Edge, Lcov2Spells}
use Rattle.covlcov2.specs.Reads.{leader, total_said, plain_said, alias_said, edge_said, said, above_after, StandFor}
use Rattle.covlcov2.specs.Outcome.{IsLawfulText, IsFirstFault, NeedsLeader, Answers}
use Rattle.covlcov2.specs.Run.{IsWithin, Stopped}
use Rattle.covlcov2.proofs.Records.{same_some, some_isnt_none}
use Rattle.covlcov2.proofs.Holds.{Laws, Lcov2Holds, Goes, records_are, reads_between, goes_on, then_accepts, IsStop, first_faulty, lines_good}

-- ---- the end

abbrev Ended : List ℕ → HeldData → Type 0
Ended text held = Answers text (ends held) × EndsLawfully held

nothing_left : (later : List LineData) (path : List ℕ) (inside : List LineData) → StandFor [] [] later → Accepts (Within path inside) later → ⊥
nothing_left later path inside e a = subst (λ (x : List LineData). Accepts (Within path inside) x) e a

no_end : Laws → (lines : List (List ℕ)) (above : List Lcov2Data) (held : HeldData) (h : Lcov2Holds lines above held) (path : List ℕ) (inside : List LineData) → h.holds.place ≡ Within path inside → ¬ IsLawfulText lines
no_end laws lines above held h path inside at lawful =
    let k = then_accepts laws lines above held h [] (subst (λ (x : List (List ℕ)). IsLawfulText x) (sym (append-nil lines)) lawful) in
    nothing_left k.0 path inside k.1 (subst (λ (x : Place). Accepts x k.0) at k.2)

ended : Laws → (text : List ℕ) (above : List Lcov2Data) (held : HeldData) (h : Lcov2Holds (lines_of text) above held) (parts : List Part) (place : Place) → length text ≤ version1.max_bytes
    → h.holds.place ≡ place → Stands (map line_text h.records) parts place → Ended text (held_of parts place)
ended laws text above held h parts Between short at s = (
  inr (short, reads_between laws (lines_of text) above held h parts s),
  lawful_parts laws.good_rest (map line_text h.records) parts s (lines_good laws h.records h.can_print) (omega (arith, short, laws.few_bytes text, h.bound, length-map h.records line_text)),
)
ended laws text above held h parts (Within path inside) short at s =
    (inr (inr (short, (goes_on laws (lines_of text) above held h, no_end laws (lines_of text) above held h path inside at))), tt)

pub holds_end : Laws → (text : List ℕ) (above : List Lcov2Data) (held : HeldData) → length text ≤ version1.max_bytes → Lcov2Holds (lines_of text) above held → Answers text (ends held) × EndsLawfully held
holds_end laws text above held short h = subst (λ (x : HeldData). Ended text x) (sym h.holds.is) (ended laws text above held h h.holds.parts h.holds.place short refl h.holds.stands)

-- ---- a line that isn't taken

is_between : (place : Place) → section_of place ≡ None → place ≡ Between
is_between Between e = refl
is_between (Within path inside) e = absurd cc

within_stops : (place : Place) (says : LineData) (later : List LineData) → IsWithin (section_of place) → version1.NeedsOutside says → Accepts place (says ∷ later) → ⊥
within_stops Between says later w needs a = w
within_stops (Within path inside) (Test name) later w needs a = a
within_stops (Within path inside) (Path other) later w needs a = a
within_stops (Within path inside) says later w needs a = needs

between_stops : (says : LineData) (later : List LineData) → version1.NeedsSection says → Accepts Between (says ∷ later) → ⊥
between_stops (Test name) later needs a = needs
between_stops (Path path) later needs a = needs
between_stops Skip later needs a = needs
between_stops says later needs a = a

alias_stops : (start : Option ℕ) (count : ℕ) (name : List ℕ) (now later : List LineData) → alias_said start count name ≡ Some now → Accepts Between (now ++ later) → ⊥
alias_stops None count name now later e a = some_isnt_none now e
alias_stops (Some line) count name now later e a =
    subst (λ (x : List LineData). Accepts Between (x ++ later)) (sym (same_some (FuncStart line name ∷ FuncCount count name ∷ []) now e)) a

-- between sections no `FNA:` line leads on
misplaced_stops : (above : List Lcov2Data) (says : Lcov2Data) (now later : List LineData) → NeedsLeader says → said above says ≡ Some now → Accepts Between (now ++ later) → ⊥
misplaced_stops above (Plain says) now later needs e a = needs
misplaced_stops above (Leader index line) now later needs e a = needs
misplaced_stops above (Alias index count name) now later needs e a = alias_stops (leader index above) count name now later e a
misplaced_stops above (Edge is_excluded line block number taken) now later needs e a = needs

pub section_is : (lines : List (List ℕ)) (above : List Lcov2Data) (held : HeldData) (h : Lcov2Holds lines above held) → held.section ≡ section_of h.holds.place
section_is lines above held h = ap (λ (x : HeldData). x.section) h.holds.is

place_is : (lines : List (List ℕ)) (above : List Lcov2Data) (held : HeldData) (h : Lcov2Holds lines above held) → held.section ≡ None → h.holds.place ≡ Between
place_is lines above held h none = is_between h.holds.place (sym (section_is lines above held h) ∙ none)

module _ (laws : Laws) (text : List ℕ) (before : List (List ℕ)) (line : List ℕ) (after : List (List ℕ)) (above : List Lcov2Data) (held : HeldData) (h : Lcov2Holds before above held) (e : lines_of text ≡ before ++ line ∷ after) where
  -- a line whose one record is not accepted where the reader is
  only_stops : (says : Lcov2Data) (only : LineData) → Lcov2Spells line says → said above says ≡ Some (only ∷ []) → ((later : List LineData) → Accepts h.holds.place (only ∷ later) → ⊥) → IsStop above h.holds.place line
  only_stops says only spells alone stop = λ other now later other_spells stands a.
      let one : other ≡ says = laws.lcov2.meaning line other says other_spells spells in
      let now_is : now ≡ only ∷ [] = same_some now (only ∷ []) (sym stands ∙ ap (said above) one ∙ alone) in
      stop later (subst (λ (x : List LineData). Accepts h.holds.place (x ++ later)) now_is a)

  pub stop_first : (fault : ReadFault) → length text ≤ version1.max_bytes → Stopped fault above held line (length before + 1) → Answers text (Err fault)
  stop_first (faults.Line n f) short stop = inr (inr (
    short,
    subst (λ (k : ℕ). IsFirstFault (lines_of text) (faults.Line k f)) (sym stop.0)
        (line, first_faulty laws before line above held after (lines_of text) h (λ says now later spells stands a. laws.lcov2.never_both line says f spells stop.1) e, stop.1),
  ))
  stop_first (faults.Outside n) short stop =
      let is = stop.3 in
      let ends_so : (later : List LineData) → Accepts h.holds.place (is.only ∷ later) → ⊥ =
      λ later a. between_stops is.only later is.only_needs (subst (λ (p : Place). Accepts p (is.only ∷ later)) (place_is before above held h is.closed) a) in
      inr (inr (
        short,
        subst (λ (k : ℕ). IsFirstFault (lines_of text) (faults.Outside k)) (sym stop.0)
            (line, stop.1, first_faulty laws before line above held after (lines_of text) h (only_stops stop.1 is.only stop.2 is.stands_for ends_so) e, stop.2, is.needs),
      ))
  stop_first (faults.Inside n) short stop =
      let is = stop.3 in
      let within : IsWithin (section_of h.holds.place) = subst (λ (x : Option SectionData). IsWithin x) (section_is before above held h) is.open_is in
      inr (inr (
        short,
        subst (λ (k : ℕ). IsFirstFault (lines_of text) (faults.Inside k)) (sym stop.0) (
          line,
          stop.1,
          first_faulty laws before line above held after (lines_of text) h
              (only_stops stop.1 is.only stop.2 is.stands_for (λ later a. within_stops h.holds.place is.only later within is.only_needs a)) e,
          stop.2,
          is.needs,
        ),
      ))
  stop_first (faults.Misplaced n) short stop =
      let is = stop.3 in
      inr (inr (
        short,
        subst (λ (k : ℕ). IsFirstFault (lines_of text) (faults.Misplaced k)) (sym stop.0) (
          line,
          stop.1,
          first_faulty laws before line above held after (lines_of text) h (λ says now later spells stands a.
              let one : says ≡ stop.1 = laws.lcov2.meaning line says stop.1 spells stop.2 in
              let now_is : said above stop.1 ≡ Some now = ap (said above) (sym one) ∙ stands in
              elim is.lacks [
                | inl none ↦ some_isnt_none now (sym none ∙ now_is)
                | inr none ↦ misplaced_stops above stop.1 now later is.needs now_is (subst (λ (p : Place). Accepts p (now ++ later)) (place_is before above held h none) a)
              ]) e,
          stop.2,
          is.needs,
        ),
      ))
  stop_first faults.Memory short stop = inl (short, refl)
  stop_first other short stop = absurd stop

-- ---- lines that say a path

abbrev pub AnyPath : List LineData → Type 0
AnyPath [] = ⊥
AnyPath (Path path ∷ more) = Unit {0}
AnyPath (says ∷ more) = AnyPath more

any_front : (front back : List LineData) → AnyPath (front ++ back) → AnyPath front ⊎ AnyPath back
any_front [] back any = inr any
any_front (Path path ∷ front) back any = inl tt
any_front (says ∷ front) back any = any_front front back any

any_at : (front : List LineData) (path : List ℕ) (back : List LineData) → AnyPath (front ++ Path path ∷ back)
any_at [] path back = tt
any_at (Path other ∷ front) path back = tt
any_at (says ∷ front) path back = any_at front path back

no_total_path : (is_grouped : Bool) (kind : TotalKind) (value : ℕ) → ¬ AnyPath (total_said is_grouped kind value)
no_total_path false kind value any = any
no_total_path true FuncFound value any = any
no_total_path true FuncHit value any = any
no_total_path true BranchFound value any = any
no_total_path true BranchHit value any = any
no_total_path true LineFound value any = any
no_total_path true LineHit value any = any

plain_path : (is_grouped : Bool) (says : LineData) → AnyPath (plain_said is_grouped says) → (path : List ℕ) × (Plain says ≡ Plain (Path path))
plain_path is_grouped (Path path) any = (path, refl)
plain_path is_grouped (Total kind value) any = absurd (no_total_path is_grouped kind value any)
plain_path is_grouped says any = absurd any

alias_path : (start : Option ℕ) (count : ℕ) (name : List ℕ) (now : List LineData) → alias_said start count name ≡ Some now → ¬ AnyPath now
alias_path None count name now e any = some_isnt_none now e
alias_path (Some line) count name now e any = subst (λ (x : List LineData). AnyPath x) (sym (same_some (FuncStart line name ∷ FuncCount count name ∷ []) now e)) any

edge_path : (above : List Lcov2Data) (is_excluded : Bool) (line block : ℕ) (number taken : Option ℕ) → ¬ AnyPath (edge_said above is_excluded line block number taken)
edge_path above true line block number taken any = any
edge_path above false line block number taken any = any

-- only a line that says a path stands for one
path_said : (above : List Lcov2Data) (says : Lcov2Data) (now : List LineData) → said above says ≡ Some now → AnyPath now → (path : List ℕ) × (says ≡ Plain (Path path))
path_said above (Plain says) now e any = plain_path _ says (subst (λ (x : List LineData). AnyPath x) (sym (same_some _ now e)) any)
path_said above (Leader index line) now e any = absurd (subst (λ (x : List LineData). AnyPath x) (sym (same_some [] now e)) any)
path_said above (Alias index count name) now e any = absurd (alias_path (leader index above) count name now e any)
path_said above (Edge is_excluded line block number taken) now e any =
    absurd (edge_path above is_excluded line block number taken (subst (λ (x : List LineData). AnyPath x) (sym (same_some _ now e)) any))

-- one of the lines says a path
abbrev pub HasPathLine : List (List ℕ) → Type 0
HasPathLine lines =
    (before : List (List ℕ)) × (line : List ℕ) × (after : List (List ℕ)) × (path : List ℕ) × (lines ≡ before ++ line ∷ after) × Lcov2Spells line (Plain (Path path))

path_line : (lines : List (List ℕ)) (above last : List Lcov2Data) (records : List LineData) → Goes lines above records last → AnyPath records → HasPathLine lines
path_line [] above last records g any = absurd (subst (λ (x : List LineData). AnyPath x) g.0 any)
path_line (line ∷ lines) above last records g any =
    elim (any_front g.1 g.2 (subst (λ (x : List LineData). AnyPath x) g.5 any)) [
      | inl now ↦ let k = path_said above g.0 g.1 g.4 now in
          ([], line, lines, k.0, refl, subst (λ (x : Lcov2Data). Lcov2Spells line x) k.1 g.3)
      | inr later ↦ let k = path_line lines (above_after above g.0) last g.2 g.6 later in
          (line ∷ k.0, k.1, k.2, k.3, ap (λ (x : List (List ℕ)). line ∷ x) k.4, k.5)
    ]

path_at : Laws → (lines : List (List ℕ)) (above : List Lcov2Data) (held : HeldData) (h : Lcov2Holds lines above held) (place : Place) → Stands (map line_text h.records) h.holds.parts place → IsWithin (section_of place) → HasPathLine lines
path_at laws lines above held h Between s w = absurd w
path_at laws lines above held h (Within path inside) s w =
    let records : h.records ≡ flat_map records_of h.holds.parts ++ Path path ∷ inside = records_are laws h.records h.holds.parts (Within path inside) h.can_print s in
    path_line lines [] above h.records h.goes (subst (λ (x : List LineData). AnyPath x) (sym records) (any_at (flat_map records_of h.holds.parts) path inside))

-- if a section is open, one of the lines says a path
pub path_before : Laws → (lines : List (List ℕ)) (above : List Lcov2Data) (held : HeldData) (h : Lcov2Holds lines above held) → IsWithin held.section → HasPathLine lines
path_before laws lines above held h w =
    path_at laws lines above held h h.holds.place h.holds.stands (subst (λ (x : Option SectionData). IsWithin x) (section_is lines above held h) w)
