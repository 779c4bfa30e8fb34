-- Reading line after line, as the loop does.
use Rattle.std.proofs.Common.{◌≡◌, ℕ, ◌+◌, ◌<◌, ◌≤◌, ◌^◌, List, [], ◌∷◌, ◌++◌, length, map, Option, Some, None, Result, Ok, Err, refl, sym, ap, subst, ◌∙◌, append_assoc, arith}
use Rattle.std.specs.Prelude.{option_map}
use Rattle.std.specs.List.{sum_by, AllByRecursion}
use Rattle.std.proofs.lemmas.List.{append-nil, length-append, length-map}
use Rattle.std.proofs.lemmas.List.Elements.{recursion_from_All}
use Rattle.std.proofs.lemmas.List.Sums.{sum_by-append}
use Rattle.covdata.specs.Lawful.{IsGoodTest}
use Rattle.covline.specs.Lines.{lines_of}
use Rattle.covdata.specs.Printed.{line_text}
use Rattle.covdata.specs.Row.{SectData}
use Rattle.covdata.specs.Records.{LineData, Path}
use Rattle.covdata.specs.declared.fault.ReadFault.{ReadFault}
use Rattle.covdata.specs.declared.fault.ReadFault.TheVariants as faults
use Rattle.covread.specs.declared.trace.reader.OpenSection.{OpenSection}
use Rattle.covread.specs.Outcome.{max_bytes}
use Rattle.covread.specs.TraceSteps.{SectionData, HeldData, empty, kept_in, section_data, held_data, step_at, ends, ends_at, EndsLawfully}
use Rattle.covread.proofs.AllOf.{all_back}
use Rattle.covread.proofs.TraceLawful.{held_room}
use Rattle.covlcov2.specs.Spells.{Lcov2Data, Plain, Leader, Alias, Edge, Lcov2Spells}
use Rattle.covlcov2.specs.Reads.{said, above_after}
use Rattle.covlcov2.specs.Outcome.{Answers, HasBegun, GrowsLate}
use Rattle.covlcov2.specs.declared.take_fault.TakeFault.{TakeFault}
use Rattle.covlcov2.specs.declared.take_fault.TakeFault.TheVariants as why
use Rattle.covlcov2.specs.declared.reader.Lcov2Reader.{Lcov2Reader}
use Rattle.covlcov2.specs.Steps.{IsHeld, Lcov2Steps, lcov2_fault_at}
use Rattle.covlcov2.specs.Run.{StepsTo, Taken, IsWithin, Grows, Stopped}
use Rattle.covlcov2.proofs.Holds.{Laws, Lcov2Holds, holds_nothing, holds_line, goes_on}
use Rattle.covlcov2.proofs.Runs.{HasPathLine, holds_end, path_before, stop_first}
use Rattle.covlcov2.proofs.OneOutcome.{shorter}

-- the reader took `at` lines of the text, holds this, and the rest is left
pub record Lcov2Reading (text rest : List ℕ) (above : List Lcov2Data) (held : HeldData) (at : ℕ) : Type 0 where
  pub before : List (List ℕ)
  pub whole : lines_of text ≡ before ++ lines_of rest
  pub holds : Lcov2Holds before above held
  pub number : at ≡ length before

pub reading_begins : (text rest : List ℕ) (held : HeldData) → held ≡ empty → rest ≡ text → Lcov2Reading text rest [] held 0
reading_begins text rest held e f =
    record { before = []; whole = ap lines_of (sym f); holds = subst (λ (x : HeldData). Lcov2Holds [] [] x) (sym e) holds_nothing; number = refl }

module _ (laws : Laws) (text : List ℕ) (short : length text ≤ max_bytes) where
  -- each line is good

  good_line : (before : List (List ℕ)) (line : List ℕ) (after : List (List ℕ)) → lines_of text ≡ before ++ line ∷ after → IsGoodTest line
  good_line before line after e =
      let all : AllByRecursion IsGoodTest (before ++ line ∷ after) = subst (λ (x : List (List ℕ)). AllByRecursion IsGoodTest x) e (recursion_from_All IsGoodTest (lines_of text) (laws.good_lines text)) in
      let good = all_back IsGoodTest before (line ∷ after) all in
      good.0

  pub holds_next : (before : List (List ℕ)) (line : List ℕ) (after : List (List ℕ)) (above next : List Lcov2Data) (held taken : HeldData) → lines_of text ≡ before ++ line ∷ after → Lcov2Holds before above held
      → Taken line above next held taken → Lcov2Holds (before ++ line ∷ []) next taken
  holds_next before line after above next held taken e h t =
      subst (λ (x : List Lcov2Data). Lcov2Holds (before ++ line ∷ []) x taken) (sym t.leads)
      (holds_line laws before line above held taken t.says t.now h (good_line before line after e) t.spells t.stands_for t.steps)

  -- ---- where memory ran out

  path_step : (section : Option SectionData) (held : HeldData) (path : List ℕ) → section ≡ None → (next : HeldData) × (step_at section held (Path path) ≡ Ok next)
  path_step None held path e = (_, refl)
  path_step (Some s) held path e = absurd cc

  below_path : (before : List (List ℕ)) (line : List ℕ) (after : List (List ℕ)) → lines_of text ≡ before ++ line ∷ after → (above : List Lcov2Data) (held : HeldData) → Lcov2Holds before above held → HasPathLine before → HasBegun (lines_of text)
  below_path before line after e above held h k =
      let whole : lines_of text ≡ k.0 ++ k.1 ∷ (k.2 ++ line ∷ after) = e ∙ ap (λ (x : List (List ℕ)). x ++ line ∷ after) k.4 ∙ append_assoc k.0 (k.1 ∷ k.2) (line ∷ after) in
      (k.0, k.1, k.2 ++ line ∷ after, k.3, whole, k.5, shorter k.0 k.1 k.2 before k.4 (goes_on laws before above held h))

  at_path : (before : List (List ℕ)) (line : List ℕ) (after : List (List ℕ)) → lines_of text ≡ before ++ line ∷ after → (above : List Lcov2Data) (held : HeldData) → Lcov2Holds before above held → (path : List ℕ)
      → Lcov2Spells line (Plain (Path path)) → held.section ≡ None → HasBegun (lines_of text)
  at_path before line after e above held h path spells closed =
      let next = path_step held.section held path closed in
      let now : StepsTo (Path path ∷ []) held next.0 = (next.0, next.1, refl) in
      let taken : Taken line above [] held next.0 = record { says = Plain (Path path); now = Path path ∷ []; spells = spells; stands_for = refl; steps = now; leads = refl } in
      (before, line, after, path, e, spells, goes_on laws (before ++ line ∷ []) [] next.0 (holds_next before line after above [] held next.0 e h taken))

  grown : (before : List (List ℕ)) (line : List ℕ) (after : List (List ℕ)) → lines_of text ≡ before ++ line ∷ after → (above : List Lcov2Data) (held : HeldData) → Lcov2Holds before above held → (section : Option SectionData) (says : Lcov2Data)
      → held.section ≡ section → Lcov2Spells line says → Grows section says → HasBegun (lines_of text)
  grown before line after e above held h (Some s) says is spells grows =
      below_path before line after e above held h (path_before laws before above held h (subst (λ (x : Option SectionData). IsWithin x) (sym is) tt))
  grown before line after e above held h None (Plain (Path path)) is spells grows = at_path before line after e above held h path spells is
  grown before line after e above held h None (Plain says) is spells grows = absurd grows
  grown before line after e above held h None (Leader index number) is spells grows = absurd grows
  grown before line after e above held h None (Alias index count name) is spells grows = absurd grows
  grown before line after e above held h None (Edge is_excluded number block branch taken) is spells grows = absurd grows

  -- ---- the loop

  module _ (rest : List ℕ) (above : List Lcov2Data) (held : HeldData) (at : ℕ) (r : Lcov2Reading text rest above held at) where
    place_is : (line left : List ℕ) → lines_of rest ≡ line ∷ lines_of left → lines_of text ≡ r.before ++ line ∷ lines_of left
    place_is line left f = r.whole ∙ ap (λ (x : List (List ℕ)). r.before ++ x) f

    pub reading_more : (line left : List ℕ) (next : List Lcov2Data) (after : HeldData) → lines_of rest ≡ line ∷ lines_of left → Taken line above next held after → Lcov2Reading text left next after (at + 1)
    reading_more line left next after f t =
        let place = place_is line left f in
        record {
          before = r.before ++ line ∷ [];
          whole = place ∙ sym (append_assoc r.before (line ∷ []) (lines_of left));
          holds = holds_next r.before line (lines_of left) above next held after place r.holds t;
          number = omega (arith, r.number, length-append r.before (line ∷ []));
        }

    pub reading_stop : (line left : List ℕ) (fault : ReadFault) → lines_of rest ≡ line ∷ lines_of left → Stopped fault above held line (at + 1) → Answers text (Err fault)
    reading_stop line left fault f stop =
        stop_first laws text r.before line (lines_of left) above held r.holds (place_is line left f) fault short (subst (λ (n : ℕ). Stopped fault above held line (n + 1)) r.number stop)

    -- if the reader stops at the next line because memory ran out, this line is a path or is below one
    pub reading_grows : (line left : List ℕ) (fault : ReadFault) → lines_of rest ≡ line ∷ lines_of left → Stopped fault above held line (at + 1) → GrowsLate text (Err fault)
    reading_grows line left faults.Memory f stop = λ same. grown r.before line (lines_of left) (place_is line left f) above held r.holds held.section stop.0 refl stop.1 stop.2
    reading_grows line left (faults.Line n fault) f stop = λ same. absurd cc
    reading_grows line left (faults.Outside n) f stop = λ same. absurd cc
    reading_grows line left (faults.Inside n) f stop = λ same. absurd cc
    reading_grows line left (faults.Misplaced n) f stop = λ same. absurd cc
    reading_grows line left other f stop = absurd stop

    -- the number of the next line fits into 64 bits
    pub reading_next : at + 1 < 2 ^ 64
    reading_next = omega (arith, short, laws.few_lines text, r.number, ap length r.whole, length-append r.before (lines_of rest))

    -- there is room for two more records
    pub reading_room : held.odd + length (kept_in held.section) + 2 < 2 ^ 64
    reading_room =
        omega (
          arith,
          short,
          laws.few_bytes text,
          ap (λ (x : List (List ℕ)). sum_by length x) r.whole,
          sum_by-append length r.before (lines_of rest),
          r.holds.bound,
          length-map r.holds.records line_text,
          held_room (map line_text r.holds.records) held r.holds.holds,
        )

    pub reading_end : lines_of rest ≡ [] → Answers text (ends held) × EndsLawfully held
    reading_end none =
        let all : r.before ≡ lines_of text = sym (r.whole ∙ ap (λ (x : List (List ℕ)). r.before ++ x) none ∙ append-nil r.before) in
        holds_end laws text above held short (subst (λ (x : List (List ℕ)). Lcov2Holds x above held) all r.holds)

-- the end needs no memory
pub ends_late : (text : List ℕ) (section : Option SectionData) (held : HeldData) → GrowsLate text (ends_at section held)
ends_late text None held = λ same. absurd cc
ends_late text (Some s) held = λ same. absurd cc

-- the outcome of what is held after the last line, if the open section has these records. It doesn't depend on them
abbrev EndsAt : {A : Type 0} → List ℕ → List ℕ → List SectData → ℕ → Option (OpenSection A) → List LineData → Type 0
EndsAt text test sects odd section inside =
    let held : HeldData = record { test = test; section = option_map (section_data inside) section; sects = sects; odd = odd } in
    Answers text (ends held) × EndsLawfully held

pub ends_without : {A : Type 0} (text test : List ℕ) (sects : List SectData) (odd : ℕ) (section : Option (OpenSection A)) (inside : List LineData) → EndsAt text test sects odd section inside → EndsAt text test sects odd section []
ends_without text test sects odd None inside h = h
ends_without text test sects odd (Some s) inside h = h

-- why the reader doesn't take what a line says is why it doesn't take the line
pub stops_so : {A T : Type 0} (w : TakeFault) (r : Result T TakeFault) (above : List Lcov2Data) (held : HeldData) (after : Lcov2Reader A) (line : List ℕ) (says : Lcov2Data) (at : ℕ) → r ≡ Err w → Lcov2Spells line says
    → Lcov2Steps r above held after says → Stopped (lcov2_fault_at w at) above held line at
stops_so {A} {T} w r above held after line says at e spells steps = by w (subst (λ (x : Result T TakeFault). Lcov2Steps x above held after says) e steps)
  where
    by : (v : TakeFault) → Lcov2Steps {A = A} {T = T} (Err v) above held after says → Stopped (lcov2_fault_at v at) above held line at
    by why.Outside k = (refl, says, spells, k)
    by why.Inside k = (refl, says, spells, k)
    by why.Misplaced k = (refl, says, spells, k)
    by why.Memory k = (says, spells, k)

-- a line is taken if what it says is taken
pub takes_so : {A : Type 0} (line : List ℕ) (says : Lcov2Data) (above : List Lcov2Data) (held : HeldData) (after : Lcov2Reader A) → Lcov2Spells line says
    → ((now : List LineData) × (inside : List LineData) × (said above says ≡ Some now) × StepsTo now held (held_data after.plain inside) × IsHeld after (above_after above says) inside)
    → (next : List Lcov2Data) × (inside : List LineData) × Taken line above next held (held_data after.plain inside) × IsHeld after next inside
takes_so line says above held after spells k = (above_after above says, k.1, record { says = says; now = k.0; spells = spells; stands_for = k.2; steps = k.3; leads = refl }, k.4)
