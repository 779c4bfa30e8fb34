-- What becomes of a line once the reader of version 1 took its records, or refused one.
use Rattle.std.proofs.Common.{◌≡◌, ℕ, Bool, true, false, List, [], ◌∷◌, Option, Some, None, Result, Ok, Err, refl, sym, ap, subst, ◌∙◌, cond}
use Rattle.std.specs.Prelude.{option_map, is_some}
use Rattle.std.specs.List.{list_any}
use Rattle.covdata.specs.declared.trace_line.TotalKind.{TotalKind}
use Rattle.covdata.specs.declared.trace_line.TotalKind.TheVariants.{FuncFound, FuncHit, BranchFound, BranchHit, LineFound, LineHit}
use Rattle.covdata.specs.Records.{LineData, Test, Path, FuncStart, FuncCount, Branch, Line, Total, End, Skip}
use Rattle.covread.specs.declared.trace.placement_fault.PlacementFault.{PlacementFault}
use Rattle.covread.specs.declared.trace.reader.OpenSection.{OpenSection}
use Rattle.covread.specs.declared.trace.reader.Reader.{Reader}
use Rattle.covread.specs.Outcome as version1_outcome
use Rattle.covread.specs.TraceSteps.{SectionData, HeldData, section_data, held_data, kept, GrowsAt, IsOpen, step, step_at}
use Rattle.covlcov2.specs.declared.take_fault.TakeFault.{TakeFault}
use Rattle.covlcov2.specs.declared.take_fault.TakeFault.TheVariants as why
use Rattle.covlcov2.specs.declared.indexes.Indexes.{Indexes}
use Rattle.covlcov2.specs.declared.reader.Lcov2Reader.{Lcov2Reader}
use Rattle.covlcov2.specs.Spells.{Lcov2Data, Plain, Leader, Alias, Edge}
use Rattle.covlcov2.specs.Reads.{leader, is_leader, branch_number, total_said, alias_said, said, above_after}
use Rattle.covlcov2.specs.Outcome.{NeedsSection, NeedsOutside}
use Rattle.covlcov2.specs.Run.{StepsTo, IsWithin, Grows}
use Rattle.covlcov2.proofs.Blocks.{same_numbers}
use Rattle.covlcov2.specs.Steps.{AreIndexes, AreOpenIndexes, IsHeld, IsNoPath, Lcov2Steps, counts_functions, Given, IsQuiet, StandsFor}

-- ---- one record

ok_is : (x y : HeldData) → (let a : Result HeldData PlacementFault = Ok x in let b : Result HeldData PlacementFault = Ok y in a ≡ b) → x ≡ y
ok_is x y e = cc

-- a section that is open after a record other than a path was open before
was_open : (section : Option SectionData) (held after : HeldData) (says : LineData) → held.section ≡ section → IsNoPath says → step_at section held says ≡ Ok after → IsWithin after.section → IsWithin section
was_open (Some s) held after says is no_path e w = tt
was_open None held after (Test name) is no_path e w = subst (λ (x : HeldData). IsWithin x.section) (sym (ok_is _ after e)) w
was_open None held after (Path path) is no_path e w = no_path
was_open None held after Skip is no_path e w =
    subst (λ (x : Option SectionData). IsWithin x) is (subst (λ (x : HeldData). IsWithin x.section) (sym (ok_is held after e)) w)
was_open None held after says is no_path e w = absurd cc

open_indexes : {A : Type 0} (section : Option (OpenSection A)) (inside : List LineData) (indexes : Indexes A) (above : List Lcov2Data) → IsWithin (option_map (section_data inside) section) → AreOpenIndexes section indexes above → AreIndexes indexes above
open_indexes None inside indexes above w are = absurd w
open_indexes (Some s) inside indexes above w are = are

any_indexes : {A : Type 0} (section : Option (OpenSection A)) (indexes : Indexes A) (above : List Lcov2Data) → AreIndexes indexes above → AreOpenIndexes section indexes above
any_indexes None indexes above are = tt
any_indexes (Some s) indexes above are = are

-- if the indexes are right whenever the section is open, they are right
indexes_if : {A : Type 0} (section : Option (OpenSection A)) (inside : List LineData) (indexes : Indexes A) (above : List Lcov2Data) → (IsWithin (option_map (section_data inside) section) → AreIndexes indexes above)
    → AreOpenIndexes section indexes above
indexes_if None inside indexes above are = tt
indexes_if (Some s) inside indexes above are = are tt

-- ---- lines of which later ones need nothing

pub same_indexes : {A : Type 0} (indexes : Indexes A) (above : List Lcov2Data) (line : Lcov2Data) → IsQuiet above line → AreIndexes indexes above → AreIndexes indexes (line ∷ above)
same_indexes indexes above line quiet are = record {
  leaders = λ index. are.leaders index ∙ sym (quiet.leads index);
  numbers = same_numbers indexes.numbers above line quiet.next quiet.expressions are.numbers;
}

same_leaders : (line : Lcov2Data) (above : List Lcov2Data) → is_leader line ≡ false → list_any is_leader above ≡ list_any is_leader (line ∷ above)
same_leaders line above e = rw e refl

quiet_open : {A : Type 0} (section : Option (OpenSection A)) (indexes : Indexes A) (above : List Lcov2Data) (line : Lcov2Data) → IsQuiet above line → AreOpenIndexes section indexes above → AreOpenIndexes section indexes (line ∷ above)
quiet_open None indexes above line quiet are = tt
quiet_open (Some s) indexes above line quiet are = same_indexes indexes above line quiet are

pub held_quiet : {A : Type 0} (r : Lcov2Reader A) (above : List Lcov2Data) (inside : List LineData) (line : Lcov2Data) → IsQuiet above line → IsHeld r above inside → IsHeld r (line ∷ above) inside
held_quiet r above inside line quiet is = record {
  is_open = is.is_open;
  grouped = is.grouped ∙ same_leaders line above quiet.no_leader;
  indexes = quiet_open r.plain.section r.indexes above line quiet is.indexes;
}

-- a line that stands for nothing
pub nothing_said : {A : Type 0} (r : Lcov2Reader A) (above : List Lcov2Data) (inside : List LineData) (line : Lcov2Data) → IsQuiet above line → above_after above line ≡ line ∷ above → said above line ≡ Some [] → IsHeld r above inside
    → Lcov2Steps {A = A} {T = Unit {0}} (Ok tt) above (held_data r.plain inside) r line
nothing_said r above inside line quiet after e is =
    ([], inside, e, refl, subst (λ (x : List Lcov2Data). IsHeld r x inside) (sym after) (held_quiet r above inside line quiet is))

-- ---- a refused record

pub grows_from : (section : Option SectionData) (says : LineData) (line : Lcov2Data) → IsNoPath says → GrowsAt section says → Grows section line
grows_from None (Path path) line no_path grows = absurd no_path
grows_from None (Test name) line no_path grows = absurd grows
grows_from None (FuncStart number name) line no_path grows = absurd grows
grows_from None (FuncCount count name) line no_path grows = absurd grows
grows_from None (Branch number block branch taken) line no_path grows = absurd grows
grows_from None (Line number count checksum) line no_path grows = absurd grows
grows_from None (Total kind value) line no_path grows = absurd grows
grows_from None End line no_path grows = absurd grows
grows_from None Skip line no_path grows = absurd grows
grows_from (Some s) says line no_path grows = tt

-- a line is refused for the reason for which its one record is
pub refusal : {A T : Type 0} (w : TakeFault) (r : Result T TakeFault) (held : HeldData) (plain : Reader A) (after : Lcov2Reader A) (above : List Lcov2Data) (line : Lcov2Data) (says : LineData) → r ≡ Err w
    → said above line ≡ Some (says ∷ []) → (version1_outcome.NeedsSection says → NeedsSection line) → (version1_outcome.NeedsOutside says → NeedsOutside line) → (GrowsAt held.section says → Grows held.section line)
    → Given r held plain says → Lcov2Steps {A = A} {T = T} (Err w) above held after line
refusal {A} {T} w r held plain after above line says same alone section outside grows given = by w (subst (λ (x : Result T TakeFault). Given x held plain says) same given)
  where
    by : (v : TakeFault) → Given {A = A} {T = T} (Err v) held plain says → Lcov2Steps {A = A} {T = T} (Err v) above held after line
    by why.Outside g = record { needs = section g.1; only = says; stands_for = alone; only_needs = g.1; closed = g.0 }
    by why.Inside g = record { needs = outside g.1; only = says; stands_for = alone; only_needs = g.1; open_is = g.0 }
    by why.Misplaced g = absurd g
    by why.Memory g = grows g

-- ---- a line that stands for one record

-- the indexes become those below this line too
pub passed_to : {A T : Type 0} (r : Result T TakeFault) (old : Lcov2Reader A) (plain : Reader A) (next : Indexes A) (above : List Lcov2Data) (inside : List LineData) (line : Lcov2Data) (says : LineData) → IsHeld old above inside
    → StandsFor above line says → is_leader line ≡ false → (AreIndexes old.indexes above → AreIndexes next (line ∷ above)) → Given r (held_data old.plain inside) plain says
    → Lcov2Steps r above (held_data old.plain inside) (record { plain = plain; indexes = next; is_grouped = old.is_grouped }) line
passed_to (Ok done) old plain next above inside line says is stands no_leader more given =
    let new : Lcov2Reader _ = record { plain = plain; indexes = next; is_grouped = old.is_grouped } in
    let held = held_data old.plain inside in
    let after : IsHeld new (line ∷ above) given.0 =
    record {
      is_open = given.2;
      grouped = is.grouped ∙ same_leaders line above no_leader;
      indexes = indexes_if plain.section given.0 next (line ∷ above) (λ w.
          more (open_indexes old.plain.section inside old.indexes above (was_open held.section held (held_data plain given.0) says refl stands.no_path given.1 w) is.indexes));
    } in
    (says ∷ [], given.0, stands.alone, (held_data plain given.0, given.1, refl), subst (λ (x : List Lcov2Data). IsHeld new x given.0) (sym stands.after) after)
passed_to {T = T} (Err w) old plain next above inside line says is stands no_leader more given =
    refusal {T = T} w (Err w) (held_data old.plain inside) plain _ above line says refl stands.alone stands.needs_section stands.needs_outside (grows_from (held_data old.plain inside).section says line stands.no_path) given

pub passed : {A T : Type 0} (r : Result T TakeFault) (old : Lcov2Reader A) (plain : Reader A) (above : List Lcov2Data) (inside : List LineData) (line : Lcov2Data) (says : LineData) → IsHeld old above inside → StandsFor above line says
    → IsQuiet above line → Given r (held_data old.plain inside) plain says
    → Lcov2Steps r above (held_data old.plain inside) (record { plain = plain; indexes = old.indexes; is_grouped = old.is_grouped }) line
passed r old plain above inside line says is stands quiet given =
    passed_to r old plain old.indexes above inside line says is stands quiet.no_leader (same_indexes old.indexes above line quiet) given

pub plain_quiet : (above : List Lcov2Data) (says : LineData) → IsQuiet above (Plain says)
plain_quiet above says = record { no_leader = refl; expressions = λ number block. refl; next = λ number block. refl; leads = λ index. refl }

stays_above : (above : List Lcov2Data) (says : LineData) → IsNoPath says → above_after above (Plain says) ≡ Plain says ∷ above
stays_above above (Path path) no_path = absurd no_path
stays_above above (Test name) no_path = refl
stays_above above (FuncStart number name) no_path = refl
stays_above above (FuncCount count name) no_path = refl
stays_above above (Branch number block branch taken) no_path = refl
stays_above above (Line number count checksum) no_path = refl
stays_above above (Total kind value) no_path = refl
stays_above above End no_path = refl
stays_above above Skip no_path = refl

pub plain_stands : (above : List Lcov2Data) (says : LineData) → IsNoPath says → said above (Plain says) ≡ Some (says ∷ []) → StandsFor above (Plain says) says
plain_stands above says no_path alone = record {
  alone = alone;
  after = stays_above above says no_path;
  no_path = no_path;
  needs_section = λ n. n;
  needs_outside = λ n. n;
}

pub skipped : {A : Type 0} (r : Lcov2Reader A) (above : List Lcov2Data) (inside : List LineData) → IsHeld r above inside → Lcov2Steps {A = A} {T = Unit {0}} (Ok tt) above (held_data r.plain inside) r (Plain Skip)
skipped r above inside is = nothing_said r above inside (Plain Skip) (plain_quiet above Skip) refl refl is

-- ---- totals

total_left_out : (is_grouped : Bool) (kind : TotalKind) (value : ℕ) → is_grouped ≡ true → counts_functions kind ≡ true → total_said is_grouped kind value ≡ []
total_left_out true FuncFound value e f = refl
total_left_out true FuncHit value e f = refl
total_left_out true BranchFound value e f = absurd cc
total_left_out true BranchHit value e f = absurd cc
total_left_out true LineFound value e f = absurd cc
total_left_out true LineHit value e f = absurd cc
total_left_out false kind value e f = absurd cc

pub total_skipped : {A : Type 0} (r : Lcov2Reader A) (above : List Lcov2Data) (inside : List LineData) (kind : TotalKind) (value : ℕ) → IsHeld r above inside → r.is_grouped ≡ true → counts_functions kind ≡ true
    → Lcov2Steps {A = A} {T = Unit {0}} (Ok tt) above (held_data r.plain inside) r (Plain (Total kind value))
total_skipped r above inside kind value is grouped functions =
    nothing_said r above inside (Plain (Total kind value)) (plain_quiet above (Total kind value)) refl
    (ap (λ (x : List LineData). Some x) (total_left_out (list_any is_leader above) kind value (sym is.grouped ∙ grouped) functions)) is

-- ---- a path

pub path_taken : {A : Type 0} (new : Lcov2Reader A) (held : HeldData) (above : List Lcov2Data) (inside : List LineData) (path : List ℕ) → step held (Path path) ≡ Ok (held_data new.plain inside) → IsOpen new.plain inside
    → AreIndexes new.indexes [] → new.is_grouped ≡ false → Lcov2Steps {A = A} {T = Unit {0}} (Ok tt) above held new (Plain (Path path))
path_taken new held above inside path stepped is_open are grouped = (
  Path path ∷ [],
  inside,
  refl,
  (held_data new.plain inside, stepped, refl),
  record { is_open = is_open; grouped = grouped; indexes = any_indexes new.plain.section new.indexes [] are },
)

path_grows : (section : Option SectionData) (path : List ℕ) → GrowsAt section (Path path) → Grows section (Plain (Path path))
path_grows None path grows = grows
path_grows (Some s) path grows = tt

pub path_refused : {A T : Type 0} (w : TakeFault) (r : Result T TakeFault) (held : HeldData) (plain : Reader A) (after : Lcov2Reader A) (above : List Lcov2Data) (path : List ℕ) → r ≡ Err w → Given r held plain (Path path)
    → Lcov2Steps {A = A} {T = T} (Err w) above held after (Plain (Path path))
path_refused w r held plain after above path same given =
    refusal w r held plain after above (Plain (Path path)) (Path path) same refl (λ n. n) (λ n. n) (path_grows held.section path) given

-- ---- branches

pub edge_stands : (above : List Lcov2Data) (line block : ℕ) (given taken : Option ℕ) → StandsFor above (Edge false line block given taken) (Branch line block (branch_number above line block given) taken)
edge_stands above line block given taken = record {
  alone = refl;
  after = refl;
  no_path = tt;
  needs_section = λ n. tt;
  needs_outside = λ n. n;
}

no_indexes : {A : Type 0} (section : Option (OpenSection A)) (indexes : Indexes A) (above : List Lcov2Data) → is_some section ≡ false → AreOpenIndexes section indexes above
no_indexes None indexes above e = tt
no_indexes (Some s) indexes above e = absurd cc

pub some_indexes : {A : Type 0} (section : Option (OpenSection A)) (indexes : Indexes A) (above : List Lcov2Data) → is_some section ≡ true → AreOpenIndexes section indexes above → AreIndexes indexes above
some_indexes None indexes above e are = absurd cc
some_indexes (Some s) indexes above e are = are

pub closed_data : {A : Type 0} (section : Option (OpenSection A)) (inside : List LineData) → is_some section ≡ false → option_map (section_data inside) section ≡ None
closed_data None inside e = refl
closed_data (Some s) inside e = absurd cc

open_data : {A : Type 0} (section : Option (OpenSection A)) (inside : List LineData) → is_some section ≡ true → IsWithin (option_map (section_data inside) section)
open_data None inside e = absurd cc
open_data (Some s) inside e = tt

grows_within : (section : Option SectionData) (line : Lcov2Data) → IsWithin section → Grows section line
grows_within None line w = absurd w
grows_within (Some s) line w = tt

-- a branch outside of sections
pub outside_taken : {A : Type 0} (r : Lcov2Reader A) (above : List Lcov2Data) (inside : List LineData) (is_excluded : Bool) (line block : ℕ) (given taken : Option ℕ) (result : Result (Unit {0}) TakeFault)
    → result ≡ cond is_excluded (Ok tt) (Err why.Outside) → IsHeld r above inside → is_some r.plain.section ≡ false → Lcov2Steps result above (held_data r.plain inside) r (Edge is_excluded line block given taken)
outside_taken r above inside true line block given taken result same is closed =
    subst (λ (x : Result (Unit {0}) TakeFault). Lcov2Steps x above (held_data r.plain inside) r (Edge true line block given taken)) (sym same)
    ([], inside, refl, refl, record { is_open = is.is_open; grouped = is.grouped; indexes = no_indexes r.plain.section r.indexes (Edge true line block given taken ∷ above) closed })
outside_taken r above inside false line block given taken result same is closed =
    subst (λ (x : Result (Unit {0}) TakeFault). Lcov2Steps x above (held_data r.plain inside) r (Edge false line block given taken)) (sym same)
    (record { needs = tt; only = Branch line block (branch_number above line block given) taken; stands_for = refl; only_needs = tt; closed = closed_data r.plain.section inside closed })

-- an excluded branch in a section, which was counted
pub edge_excluded : {A : Type 0} (old new : Lcov2Reader A) (above : List Lcov2Data) (inside : List LineData) (line block : ℕ) (given taken : Option ℕ) → IsHeld old above inside → new.plain ≡ old.plain → new.is_grouped ≡ old.is_grouped
    → AreIndexes new.indexes (Edge true line block given taken ∷ above) → Lcov2Steps {A = A} {T = Unit {0}} (Ok tt) above (held_data old.plain inside) new (Edge true line block given taken)
edge_excluded {A} old new above inside line block given taken is same grouped are = (
  [],
  inside,
  refl,
  ap (λ (x : Reader A). held_data x inside) same,
  record {
    is_open = subst (λ (x : Reader A). IsOpen x inside) (sym same) is.is_open;
    grouped = grouped ∙ is.grouped;
    indexes = any_indexes new.plain.section new.indexes (Edge true line block given taken ∷ above) are;
  },
)

-- a branch that is given to the reader of version 1 with its number
pub edge_taken : {A T : Type 0} (r : Result T TakeFault) (old : Lcov2Reader A) (plain : Reader A) (next : Indexes A) (above : List Lcov2Data) (inside : List LineData) (line block number : ℕ) (given taken : Option ℕ) → IsHeld old above inside
    → number ≡ branch_number above line block given → (AreIndexes old.indexes above → AreIndexes next (Edge false line block given taken ∷ above)) → Given r (held_data old.plain inside) plain (Branch line block number taken)
    → Lcov2Steps r above (held_data old.plain inside) (record { plain = plain; indexes = next; is_grouped = old.is_grouped }) (Edge false line block given taken)
edge_taken r old plain next above inside line block number given taken is number_is more given_is =
    passed_to r old plain next above inside (Edge false line block given taken) (Branch line block (branch_number above line block given) taken) is (edge_stands above line block given taken) refl more
    (subst (λ (n : ℕ). Given r (held_data old.plain inside) plain (Branch line block n taken)) number_is given_is)

pub grows_open : {A : Type 0} (r : Lcov2Reader A) (inside : List LineData) (line : Lcov2Data) → is_some r.plain.section ≡ true → Grows (held_data r.plain inside).section line
grows_open r inside line open_is = grows_within (held_data r.plain inside).section line (open_data r.plain.section inside open_is)

-- ---- an `FNL:` line

abbrev LeaderTaken : {A : Type 0} → Lcov2Reader A → Lcov2Reader A → List Lcov2Data → List LineData → (index line : ℕ) → Type 0
LeaderTaken old now above inside index line =
    (x : List LineData) × (after : List LineData) × (said above (Leader index line) ≡ Some x) × StepsTo x (held_data old.plain inside) (held_data now.plain after)
    × IsHeld (record { plain = now.plain; indexes = now.indexes; is_grouped = true }) (Leader index line ∷ above) after

pub leader_kept : {A : Type 0} (old now : Lcov2Reader A) (above : List Lcov2Data) (inside : List LineData) (index line : ℕ) (indexes : Indexes A) → now ≡ record { plain = old.plain; indexes = indexes; is_grouped = old.is_grouped }
    → (AreIndexes old.indexes above → AreIndexes indexes (Leader index line ∷ above)) → is_some old.plain.section ≡ true → IsHeld old above inside → LeaderTaken old now above inside index line
leader_kept {A} old now above inside index line indexes e more open_is is =
    subst (λ (x : Lcov2Reader A). LeaderTaken old x above inside index line) (sym e) (
      [],
      inside,
      refl,
      refl,
      record {
        is_open = is.is_open;
        grouped = refl;
        indexes = any_indexes old.plain.section indexes (Leader index line ∷ above) (more (some_indexes old.plain.section old.indexes above open_is is.indexes));
      },
    )

pub leader_left : {A : Type 0} (old now : Lcov2Reader A) (above : List Lcov2Data) (inside : List LineData) (index line : ℕ) → now ≡ old → is_some old.plain.section ≡ false → IsHeld old above inside → LeaderTaken old now above inside index line
leader_left {A} old now above inside index line e closed is =
    subst (λ (x : Lcov2Reader A). LeaderTaken old x above inside index line) (sym e)
    ([], inside, refl, refl, record { is_open = is.is_open; grouped = refl; indexes = no_indexes old.plain.section old.indexes (Leader index line ∷ above) closed })

-- ---- an `FNA:` line in a section: its start line, and then its count

open_isnt_none : (section : Option SectionData) → IsWithin section → section ≡ None → ⊥
open_isnt_none None w e = w
open_isnt_none (Some s) w e = absurd cc

-- in a section, a start line or a count is refused only if memory runs out
open_refused : {A B T : Type 0} (w : TakeFault) (r : Result T TakeFault) (held before : HeldData) (plain : Reader B) (after : Lcov2Reader A) (above : List Lcov2Data) (line : Lcov2Data) (says : LineData) → r ≡ Err w → IsWithin held.section
    → (version1_outcome.NeedsOutside says → ⊥) → Grows before.section line → Given r held plain says → Lcov2Steps {A = A} {T = T} (Err w) above before after line
open_refused {A} {B} {T} w r held before plain after above line says same within never grows given = by w (subst (λ (x : Result T TakeFault). Given x held plain says) same given)
  where
    by : (v : TakeFault) → Given {A = B} {T = T} (Err v) held plain says → Lcov2Steps {A = A} {T = T} (Err v) above before after line
    by why.Outside g = absurd (open_isnt_none held.section within g.0)
    by why.Inside g = absurd (never g.1)
    by why.Misplaced g = absurd g
    by why.Memory g = grows

start_stays : (section : Option SectionData) (held after : HeldData) (line : ℕ) (name : List ℕ) → step_at section held (FuncStart line name) ≡ Ok after → IsWithin after.section
start_stays None held after line name e = absurd cc
start_stays (Some s) held after line name e = subst (λ (x : HeldData). IsWithin x.section) (ok_is (kept s held (FuncStart line name)) after e) tt

alias_quiet : (above : List Lcov2Data) (index count : ℕ) (name : List ℕ) → IsQuiet above (Alias index count name)
alias_quiet above index count name = record { no_leader = refl; expressions = λ n b. refl; next = λ n b. refl; leads = λ i. refl }

pub alias_taken : {A T : Type 0} (r : Result T TakeFault) (old : Lcov2Reader A) (between plain : Reader A) (above : List Lcov2Data) (inside after : List LineData) (line index count : ℕ) (name : List ℕ) → IsHeld old above inside → is_some old.plain.section ≡ true
    → leader index above ≡ Some line → step (held_data old.plain inside) (FuncStart line name) ≡ Ok (held_data between after) → Given r (held_data between after) plain (FuncCount count name)
    → Lcov2Steps r above (held_data old.plain inside) (record { plain = plain; indexes = old.indexes; is_grouped = old.is_grouped }) (Alias index count name)
alias_taken (Ok done) old between plain above inside after line index count name is open_is found first given =
    let are = same_indexes old.indexes above (Alias index count name) (alias_quiet above index count name) (some_indexes old.plain.section old.indexes above open_is is.indexes) in (
      FuncStart line name ∷ FuncCount count name ∷ [],
      given.0,
      ap (λ (o : Option ℕ). alias_said o count name) found,
      (held_data between after, first, (held_data plain given.0, given.1, refl)),
      record { is_open = given.2; grouped = is.grouped; indexes = any_indexes plain.section old.indexes (Alias index count name ∷ above) are },
    )
alias_taken {T = T} (Err w) old between plain above inside after line index count name is open_is found first given =
    open_refused {T = T} w (Err w) (held_data between after) (held_data old.plain inside) plain _ above (Alias index count name) (FuncCount count name) refl
    (start_stays (held_data old.plain inside).section (held_data old.plain inside) (held_data between after) line name first) (λ n. n) (grows_open old inside (Alias index count name) open_is) given
