-- Single lines of version 1: LCOV 2 reads the same record in them, or the same fault.
use Rattle.std.proofs.Common.{◌≡◌, ℕ, ◌<◌, inl, inr, false, List, [], ◌∷◌, ◌++◌, length, Some, None, refl, sym, subst, arith}
use Rattle.std.proofs.lemmas.List.Elements.{All-nil}
use Rattle.covdata.specs.Delimiters.{comma}
use Rattle.covdata.specs.declared.trace_line.LineFault.{LineFault}
use Rattle.covdata.specs.declared.trace_line.LineFault.TheVariants.{BadLine, NumberTooLarge, EmptyPath}
use Rattle.covdata.specs.Records.{LineData, FuncStart, Branch, Skip, HasSmallNumbers}
use Rattle.covline.specs.Spells.{HasForm, Spells, HasFault}
use Rattle.covread.specs.Outcome as version1
use Rattle.covread.proofs.TraceGrammar.{LineLaw}
use Rattle.covlcov2.specs.LineLaws.{Lcov2LineLaw}
use Rattle.covlcov2.specs.Outcome.{NeedsSection, NeedsOutside}
use Rattle.covlcov2.specs.Spells.{Lcov2Data, Plain, Leader, Alias, Edge, IsMark, IsNameIn, HasLcov2Form, HasSmallLcov2Numbers, Lcov2Spells, HasLcov2Fault}
use Rattle.covlaws.specs.Version1.{IsReadAlike, IsOfVersion1}

-- a record of version 1 as LCOV 2 has it
abbrev pub lcov2_record : LineData → Lcov2Data
lcov2_record (Branch line block branch taken) = Edge false line block (Some branch) taken
lcov2_record says = Plain says

form_alike : (line : List ℕ) → IsReadAlike line → (says : LineData) → HasForm line says → HasLcov2Form line (lcov2_record says)
form_alike line alike (FuncStart number name) form = (form.0, name, form.1, form.2, inr (refl, form.3, λ other. alike.no_end number name other form))
form_alike line alike (Branch number block branch taken) form = record {
  digits = form.0;
  marks = [];
  blocks = form.1;
  words = form.2;
  text = form.3;
  parts = form.4;
  number_is = form.5;
  each = All-nil IsMark;
  excluded_is = refl;
  block_is = form.6;
  branch_is = form.7;
  taken_is = form.8;
}
form_alike line alike Skip form = (form, alike.no_leader, alike.no_alias)
form_alike line alike says form = form

small_alike : (says : LineData) → HasSmallNumbers says → HasSmallLcov2Numbers (lcov2_record says)
small_alike (Branch line block branch None) small = (small.0, small.1, small.2, tt)
small_alike (Branch line block branch (Some taken)) small = small
small_alike says small = small

small_back : (says : LineData) → HasSmallLcov2Numbers (lcov2_record says) → HasSmallNumbers says
small_back (Branch line block branch None) small = (small.0, small.1, small.2)
small_back (Branch line block branch (Some taken)) small = small
small_back says small = small

pub spells_alike : (line : List ℕ) → IsReadAlike line → (says : LineData) → Spells line says → Lcov2Spells line (lcov2_record says)
spells_alike line alike says spells = record { form = form_alike line alike says spells.form; small = small_alike says spells.small }

some_before : (front : List ℕ) (b : ℕ) (rest : List ℕ) → 0 < length (front ++ b ∷ rest)
some_before [] b rest = omega arith
some_before (c ∷ cs) b rest = omega arith

-- a text with a name isn't empty
some_text : (text name : List ℕ) → IsNameIn text name → 0 < length text
some_text text name (inl cut) = subst (λ (t : List ℕ). 0 < length t) (sym cut.2) (some_before cut.0 comma name)
some_text text name (inr is) = subst (λ (t : List ℕ). 0 < length t) (sym is.0) is.1

-- a line without a form of version 1 has none of LCOV 2
no_form : (line : List ℕ) → IsOfVersion1 line → HasFault line BadLine → (says : Lcov2Data) → HasLcov2Form line says → ⊥
no_form line of1 bad (Plain (FuncStart number name)) form = bad.2 (FuncStart number form.1) (form.0, form.2, form.3, some_text form.1 name form.4)
no_form line of1 bad (Plain (Branch number block branch taken)) form = form
no_form line of1 bad (Plain Skip) form = bad.2 Skip form.0
no_form line of1 bad (Plain says) form = bad.2 says form
no_form line of1 bad (Leader index number) form = of1.alike.no_leader (form.0 ++ comma ∷ (form.1 ++ form.2), form.3)
no_form line of1 bad (Alias index count name) form = of1.alike.no_alias (form.0 ++ comma ∷ (form.1 ++ comma ∷ name), form.2)
no_form line of1 bad (Edge is_excluded number block branch taken) form =
    of1.branch (form.digits ++ comma ∷ (form.marks ++ (form.blocks ++ comma ∷ (form.words ++ comma ∷ form.text))), form.parts) bad

pub fault_alike : (line : List ℕ) → IsOfVersion1 line → (fault : LineFault) → HasFault line fault → HasLcov2Fault line fault
fault_alike line of1 EmptyPath has = has
fault_alike line of1 NumberTooLarge has = (lcov2_record has.0, form_alike line of1.alike has.0 has.1, λ small. has.2 (small_back has.0 small))
fault_alike line of1 BadLine has = (inr (inr has.0), has.1, no_form line of1 has)

-- what LCOV 2 reads in a line of version 1 is what version 1 reads
pub record_back : LineLaw → Lcov2LineLaw → (line : List ℕ) → IsOfVersion1 line → (says : Lcov2Data) → Lcov2Spells line says → (plain : LineData) × Spells line plain × (says ≡ lcov2_record plain)
record_back law lcov2 line of1 says spells =
    elim (law.one_of line) [
      | inl m ↦ (m.0, m.1, lcov2.meaning line says (lcov2_record m.0) spells (spells_alike line of1.alike m.0 m.1))
      | inr f ↦ absurd (lcov2.never_both line says f.0 spells (fault_alike line of1 f.0 f.1))
    ]

-- ---- where a line may be

pub section_alike : (says : LineData) → version1.NeedsSection says → NeedsSection (lcov2_record says)
section_alike (Branch line block branch taken) needs = needs
section_alike says needs = needs

pub outside_alike : (says : LineData) → version1.NeedsOutside says → NeedsOutside (lcov2_record says)
outside_alike (Branch line block branch taken) needs = needs
outside_alike says needs = needs
