-- Lines that are taken without being cut first: what the reader of version 1 makes of such a line is right for LCOV 2.
use Rattle.std.proofs.Common.{◌≡◌, ℕ, ◌<◌, ◌^◌, List, [], ◌∷◌, true, false, Option, Some, None, Result, Ok, Err, refl, sym, ap, subst, ◌∙◌}
use Rattle.std.specs.Prelude.{is_some}
use Rattle.std.proofs.lemmas.List.Elements.{All-nil}
use Rattle.covdata.specs.Records.{LineData, Test, Path, Branch, Line, End, Skip, HasSmallNumbers}
use Rattle.covline.specs.Spells.{Spells}
use Rattle.covdata.specs.Printed.{line_text}
use Rattle.covline.proofs.PrintedLaws.{printed-spells}
use Rattle.covline.proofs.ReadLaws.{one_meaning, no_fault_beside}
use Rattle.covdata.specs.declared.fault.ReadFault.{ReadFault}
use Rattle.covdata.specs.declared.fault.ReadFault.TheVariants as faults
use Rattle.covread.specs.declared.trace.placement_fault.PlacementFault.{PlacementFault}
use Rattle.covread.specs.declared.trace.placement_fault.PlacementFault.TheVariants as version1
use Rattle.covread.specs.declared.trace.reader.Reader.{Reader}
use Rattle.covread.specs.Outcome as version1_outcome
use Rattle.covread.specs.TraceSteps.{SectionData, HeldData, held_data, GrowsAt, TakesLine, step, step_at}
use Rattle.covlcov2.specs.declared.indexes.Indexes.{Indexes}
use Rattle.covlcov2.specs.declared.reader.Lcov2Reader.{Lcov2Reader}
use Rattle.covlcov2.specs.Reads.{is_leader, branch_number}
use Rattle.covlcov2.specs.Spells.{Lcov2Data, Plain, Edge, IsMark, HasSmallLcov2Numbers, Lcov2Spells}
use Rattle.covlcov2.specs.Run.{IsWithin, Stopped}
use Rattle.covlcov2.specs.Steps.{AreIndexes, IsHeld, StandsFor, TakesLcov2Line}
use Rattle.covlcov2.proofs.Loop.{takes_so}
use Rattle.covlcov2.proofs.Records.{number_fits}
use Rattle.covlcov2.proofs.Passing.{grows_from, grows_open, closed_data, passed_to, plain_quiet, plain_stands, same_indexes, edge_stands}

-- ---- a record that the reader of version 1 refuses

no_error : (x : HeldData) (m : PlacementFault) → (let a : Result HeldData PlacementFault = Ok x in let b : Result HeldData PlacementFault = Err m in a ≡ b) → ⊥
no_error x m e = absurd cc

two_errors : (let a : Result HeldData PlacementFault = Err version1.Outside in let b : Result HeldData PlacementFault = Err version1.Inside in a ≡ b) → ⊥
two_errors e = absurd cc

is_outside : (section : Option SectionData) (held : HeldData) (says : LineData) → step_at section held says ≡ Err version1.Outside → (section ≡ None) × version1_outcome.NeedsSection says
is_outside None held (Test name) e = absurd (no_error _ _ e)
is_outside None held (Path path) e = absurd (no_error _ _ e)
is_outside None held Skip e = absurd (no_error _ _ e)
is_outside None held says e = (refl, tt)
is_outside (Some s) held (Test name) e = absurd (two_errors (sym e))
is_outside (Some s) held (Path path) e = absurd (two_errors (sym e))
is_outside (Some s) held End e = absurd (no_error _ _ e)
is_outside (Some s) held Skip e = absurd (no_error _ _ e)
is_outside (Some s) held says e = absurd (no_error _ _ e)

is_inside : (section : Option SectionData) (held : HeldData) (says : LineData) → step_at section held says ≡ Err version1.Inside → IsWithin section × version1_outcome.NeedsOutside says
is_inside None held (Test name) e = absurd (no_error _ _ e)
is_inside None held (Path path) e = absurd (no_error _ _ e)
is_inside None held Skip e = absurd (no_error _ _ e)
is_inside None held says e = absurd (two_errors e)
is_inside (Some s) held (Test name) e = (tt, tt)
is_inside (Some s) held (Path path) e = (tt, tt)
is_inside (Some s) held End e = absurd (no_error _ _ e)
is_inside (Some s) held Skip e = absurd (no_error _ _ e)
is_inside (Some s) held says e = absurd (no_error _ _ e)

-- ---- a line that stands for one record

-- `record_line` is a line of version 1 that says this record; it may be another than `text`. The indexes become those below this line
-- too
module _ {A : Type 0} (old : Lcov2Reader A) (plain : Reader A) (next : Indexes A) (text record_line : List ℕ) (at : ℕ) (above : List Lcov2Data) (inside : List LineData) (line : Lcov2Data) (says : LineData) (is : IsHeld old above inside) (stands : StandsFor above line says)
    (no_leader : is_leader line ≡ false) (more : AreIndexes old.indexes above → AreIndexes next (line ∷ above)) (spells : Spells record_line says) (means : Lcov2Spells text line) where
  abbrev held : HeldData
  held = held_data old.plain inside

  abbrev new : Lcov2Reader A
  new = record { plain = plain; indexes = next; is_grouped = old.is_grouped }

  -- what the line says is this record
  same : (other : LineData) → Spells record_line other → other ≡ says
  same other other_spells = one_meaning record_line other says other_spells spells

  pub one_taken : {T : Type 0} (r : Result T ReadFault) → TakesLine r held plain record_line at → TakesLcov2Line r above held new text at
  one_taken (Ok done) t =
      let step_is : step held says ≡ Ok (held_data plain t.2) = ap (step held) (sym (same t.0 t.1)) ∙ t.3 in
      takes_so text line above held new means (passed_to {T = Unit {0}} (Ok tt) old plain next above inside line says is stands no_leader more (t.2, step_is, t.4))
  one_taken (Err (faults.Line n f)) t = absurd (no_fault_beside record_line says f spells t.1)
  one_taken (Err (faults.Outside n)) t =
      let out = is_outside held.section held says (ap (step held) (sym (same t.1 t.2)) ∙ t.3) in
      (t.0, line, means, record { needs = stands.needs_section out.1; only = says; stands_for = stands.alone; only_needs = out.1; closed = out.0 })
  one_taken (Err (faults.Inside n)) t =
      let in_one = is_inside held.section held says (ap (step held) (sym (same t.1 t.2)) ∙ t.3) in
      (t.0, line, means, record { needs = stands.needs_outside in_one.1; only = says; stands_for = stands.alone; only_needs = in_one.1; open_is = in_one.0 })
  one_taken (Err faults.Memory) t =
      (line, means, grows_from held.section says line stands.no_path (subst (λ (x : LineData). GrowsAt held.section x) (same t.0 t.1) t.2))
  one_taken (Err other) t = absurd t

-- a counted line
pub count_taken : {A T : Type 0} (r : Result T ReadFault) (old : Lcov2Reader A) (plain : Reader A) (text : List ℕ) (at : ℕ) (above : List Lcov2Data) (inside : List LineData) (line count : ℕ) (checksum : Option (List ℕ)) → IsHeld old above inside
    → Spells text (Line line count checksum) → TakesLine r (held_data old.plain inside) plain text at
    → TakesLcov2Line r above (held_data old.plain inside) (record { plain = plain; indexes = old.indexes; is_grouped = old.is_grouped }) text at
count_taken r old plain text at above inside line count checksum is spells takes =
    let says = Line line count checksum in
    one_taken old plain old.indexes text text at above inside (Plain says) says is (plain_stands above says tt refl) refl (same_indexes old.indexes above (Plain says) (plain_quiet above says)) spells
    (record { form = spells.form; small = spells.small }) r takes

small_edge : (line block branch : ℕ) (taken : Option ℕ) → HasSmallNumbers (Branch line block branch taken) → HasSmallLcov2Numbers (Edge false line block (Some branch) taken)
small_edge line block branch None small = (small.0, small.1, small.2, tt)
small_edge line block branch (Some n) small = (small.0, small.1, small.2, small.3)

-- a branch without marks and with a number
pub edge_spelled : (text : List ℕ) (line block branch : ℕ) (taken : Option ℕ) → Spells text (Branch line block branch taken) → Lcov2Spells text (Edge false line block (Some branch) taken)
edge_spelled text line block branch taken spells =
    let form = spells.form in
    record {
      form = record {
        digits = form.0;
        marks = [];
        blocks = form.1;
        words = form.2;
        text = form.3;
        parts = form.4;
        number_is = form.5;
        each = All-nil IsMark;
        excluded_is = refl;
        block_is = form.6;
        branch_is = form.7;
        taken_is = form.8;
      };
      small = small_edge line block branch taken spells.small;
    }

small_branch : (line block branch : ℕ) (taken : Option ℕ) → HasSmallLcov2Numbers (Edge false line block (Some branch) taken) → HasSmallNumbers (Branch line block branch taken)
small_branch line block branch None small = (small.0, small.1, small.2)
small_branch line block branch (Some n) small = (small.0, small.1, small.2, small.3)

-- the line that is printed for a branch
abbrev pub branch_text : (line block branch : ℕ) (taken : Option ℕ) → List ℕ
branch_text line block branch taken = line_text (Branch line block branch taken)

number_small : (line block number branch : ℕ) (taken : Option ℕ) → number < 2 ^ 64 → HasSmallLcov2Numbers (Edge false line block (Some branch) taken) → HasSmallLcov2Numbers (Edge false line block (Some number) taken)
number_small line block number branch taken few small = (small.0, small.1, few, small.3)

branch_spells : (line block branch : ℕ) (taken : Option ℕ) → HasSmallLcov2Numbers (Edge false line block (Some branch) taken) → Spells (branch_text line block branch taken) (Branch line block branch taken)
branch_spells line block branch taken small = (printed-spells (Branch line block branch taken) (record { texts = tt; small = small_branch line block branch taken small })).1

-- a branch that has a number and isn't excluded: the reader of version 1 takes it as it takes the line that is printed for the branch
-- with the number that it gets
pub branch_taken : {A T : Type 0} (r : Result T ReadFault) (old : Lcov2Reader A) (plain : Reader A) (next : Indexes A) (text : List ℕ) (at : ℕ) (above : List Lcov2Data) (inside : List LineData) (line block branch number : ℕ) (taken : Option ℕ)
    → IsHeld old above inside → Lcov2Spells text (Edge false line block (Some branch) taken) → number ≡ branch_number above line block (Some branch)
    → (AreIndexes old.indexes above → AreIndexes next (Edge false line block (Some branch) taken ∷ above))
    → (Spells (branch_text line block number taken) (Branch line block number taken) → TakesLine r (held_data old.plain inside) plain (branch_text line block number taken) at)
    → TakesLcov2Line r above (held_data old.plain inside) (record { plain = plain; indexes = next; is_grouped = old.is_grouped }) text at
branch_taken r old plain next text at above inside line block branch number taken is means number_is more takes =
    let few : number < 2 ^ 64 = subst (λ (n : ℕ). n < 2 ^ 64) (sym number_is) (number_fits above line block (Some branch) means.small.2) in
    let spells : Spells (branch_text line block number taken) (Branch line block number taken) = branch_spells line block number taken (number_small line block number branch taken few means.small) in
    let edge = Edge false line block (Some branch) taken in
    let stands : StandsFor above edge (Branch line block number taken) = subst (λ (n : ℕ). StandsFor above edge (Branch line block n taken)) (sym number_is) (edge_stands above line block (Some branch) taken) in
    one_taken old plain next text (branch_text line block number taken) at above inside edge (Branch line block number taken) is stands refl more spells means r (takes spells)

-- such a branch outside of sections
pub branch_outside : {A : Type 0} (T : Type 0) (old after : Lcov2Reader A) (text : List ℕ) (at : ℕ) (above : List Lcov2Data) (inside : List LineData) (line block branch : ℕ) (taken : Option ℕ) → is_some old.plain.section ≡ false
    → Lcov2Spells text (Edge false line block (Some branch) taken) → TakesLcov2Line {A = A} {T = T} (Err (faults.Outside at)) above (held_data old.plain inside) after text at
branch_outside T old after text at above inside line block branch taken closed means = (
  refl,
  Edge false line block (Some branch) taken,
  means,
  record { needs = tt; only = Branch line block (branch_number above line block (Some branch)) taken; stands_for = refl; only_needs = tt; closed = closed_data old.plain.section inside closed },
)

-- such a branch, if memory runs out for its number
pub branch_refused : {A : Type 0} (T : Type 0) (old after : Lcov2Reader A) (text : List ℕ) (at : ℕ) (above : List Lcov2Data) (inside : List LineData) (line block branch : ℕ) (taken : Option ℕ) → is_some old.plain.section ≡ true
    → Lcov2Spells text (Edge false line block (Some branch) taken) → TakesLcov2Line {A = A} {T = T} (Err faults.Memory) above (held_data old.plain inside) after text at
branch_refused T old after text at above inside line block branch taken open_is means =
    (Edge false line block (Some branch) taken, means, grows_open old inside (Edge false line block (Some branch) taken) open_is)

-- if the result for a line is a fault, this fault is why the reader stops at the line
pub stopped : {A T : Type 0} (r : Result T ReadFault) (fault : ReadFault) (above : List Lcov2Data) (before : HeldData) (after : Lcov2Reader A) (line : List ℕ) (at : ℕ) → r ≡ Err fault → TakesLcov2Line r above before after line at
    → Stopped fault above before line at
stopped {A} {T} r fault above before after line at is took = subst (λ (x : Result T ReadFault). TakesLcov2Line x above before after line at) is took
