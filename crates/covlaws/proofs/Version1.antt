-- A text of version 1 has the same outcome in both versions.
use Rattle.std.proofs.Common.{◌≡◌, ℕ, ◌⊎◌, inl, inr, Bool, false, List, [], ◌∷◌, ◌++◌, Some, Ok, Err, refl, sym, ap, subst, ◌∙◌, append_assoc}
use Rattle.std.specs.Prelude.{◌==◌, codes}
use Rattle.std.specs.List.{flat_map, sum_by, list_any, AllByRecursion}
use Rattle.std.proofs.lemmas.Bool.{false≢true}
use Rattle.std.proofs.lemmas.List.{append-nil}
use Rattle.covdata.specs.Records.{LineData, Test, Path, Branch, Total, End, Skip}
use Rattle.covdata.specs.Row.{SubmissionData}
use Rattle.covdata.specs.declared.fault.ReadFault.{ReadFault}
use Rattle.covdata.specs.declared.fault.ReadFault.TheVariants as faults
use Rattle.covline.specs.Lines.{lines_of}
use Rattle.covline.specs.Spells.{Spells}
use Rattle.covread.specs.Outcome as version1
use Rattle.covread.specs.Reads.{AllSpell, IsInside, IsLawfulPart, records_of, sects_from, odd_in}
use Rattle.covread.specs.Reads as version1_reads
use Rattle.covread.proofs.AllOf.{all_back, all_front, all_push, all_weaker}
use Rattle.covread.proofs.TraceGrammar.{LineLaw, Place, Between, Within, Accepts, accepts_parts, parts_from}
use Rattle.covread.proofs.TraceStands.{AllSpell-append, AllSpell-split, begun, IsLawfulPlace}
use Rattle.covlcov2.specs.LineLaws.{Lcov2LineLaw}
use Rattle.covlcov2.specs.Outcome as lcov2
use Rattle.covlcov2.specs.Reads.{Reads, StandFor, said, above_after, is_leader, has_expression, next_number, number_from, total_said}
use Rattle.covlcov2.specs.Spells.{Lcov2Data}
use Rattle.covlcov2.proofs.Records.{same_some}
use Rattle.covlaws.specs.Version1.{IsReadAlike, IsOfVersion1}
use Rattle.covlaws.proofs.LinesAlike.{lcov2_record, spells_alike, fault_alike, record_back, section_alike, outside_alike}
use Rattle.covlaws.proofs.WithoutSkipped.{unless_skipped, without_skipped, parts_without, lawful_without, records_without, sects_without, odd_parts_without, accepts_with, may_close, append_without}

-- ---- the records that lines stand for

-- none of the lines above begins to group functions, and none has a branch with an expression
record IsPlain (above : List Lcov2Data) : Type 0 where
  no_leader : list_any is_leader above ≡ false
  no_expression : (line block : ℕ) → has_expression line block above ≡ false

plain_at_first : IsPlain []
plain_at_first = record { no_leader = refl; no_expression = λ line block. refl }

plain_after : (above : List Lcov2Data) → IsPlain above → (says : LineData) → IsPlain (above_after above (lcov2_record says))
plain_after above plain (Path path) = plain_at_first
plain_after above plain says = record { no_leader = plain.no_leader; no_expression = plain.no_expression }

said_alike : (above : List Lcov2Data) → IsPlain above → (says : LineData) → said above (lcov2_record says) ≡ Some (unless_skipped says)
said_alike above plain (Branch line block branch taken) =
    ap (λ (below : Bool). Some (Branch line block (number_from below (next_number line block above) (Some branch)) taken ∷ [])) (plain.no_expression line block)
said_alike above plain (Total kind value) = ap (λ (is_grouped : Bool). Some (total_said is_grouped kind value)) plain.no_leader
said_alike above plain says = refl

stand_alike : (lines : List (List ℕ)) (above : List Lcov2Data) → IsPlain above → AllByRecursion IsReadAlike lines → (records : List LineData) → AllSpell lines records → StandFor lines above (without_skipped records)
stand_alike [] above plain alike [] spell = refl
stand_alike [] above plain alike (says ∷ records) spell = absurd spell
stand_alike (line ∷ lines) above plain alike [] spell = absurd spell
stand_alike (line ∷ lines) above plain alike (says ∷ records) spell = (
  lcov2_record says,
  unless_skipped says,
  without_skipped records,
  spells_alike line alike.0 says spell.0,
  said_alike above plain says,
  refl,
  stand_alike lines (above_after above (lcov2_record says)) (plain_after above plain says) alike.1 records spell.1,
)

-- a lawful text of version 1 says the same in LCOV 2
reads_alike : (lines : List (List ℕ)) → AllByRecursion IsReadAlike lines → (s : SubmissionData) → version1_reads.Reads lines s → Reads lines s
reads_alike lines alike s r = record {
  parts = parts_without r.parts;
  lawful = lawful_without r.parts r.lawful;
  spelled = subst (StandFor lines []) (sym (records_without r.parts)) (stand_alike lines [] plain_at_first alike (flat_map records_of r.parts) r.spelled);
  sects = r.sects ∙ sym (sects_without [] r.parts);
  odd = r.odd ∙ sym (odd_parts_without r.parts);
}

-- ---- lawful texts of version 1, by their records

parts_lawful : (place : Place) (records : List LineData) → IsLawfulPlace place → Accepts place records → AllByRecursion IsLawfulPart (parts_from place records)
parts_lawful Between [] inner accepts = tt
parts_lawful Between (Test name ∷ more) inner accepts = (tt, parts_lawful Between more tt accepts)
parts_lawful Between (Path path ∷ more) inner accepts = parts_lawful (Within path []) more tt accepts
parts_lawful Between (Skip ∷ more) inner accepts = (tt, parts_lawful Between more tt accepts)
parts_lawful Between (says ∷ more) inner accepts = absurd accepts
parts_lawful (Within path inside) [] inner accepts = absurd accepts
parts_lawful (Within path inside) (Test name ∷ more) inner accepts = absurd accepts
parts_lawful (Within path inside) (Path other ∷ more) inner accepts = absurd accepts
parts_lawful (Within path inside) (End ∷ more) inner accepts = (inner, parts_lawful Between more tt accepts)
parts_lawful (Within path inside) (says ∷ more) inner accepts = parts_lawful (Within path (inside ++ says ∷ [])) more (all_push IsInside inside says inner tt) accepts

parts_records : (place : Place) (records : List LineData) → Accepts place records → flat_map records_of (parts_from place records) ≡ begun place ++ records
parts_records Between [] accepts = refl
parts_records Between (Test name ∷ more) accepts = ap (λ (x : List LineData). Test name ∷ x) (parts_records Between more accepts)
parts_records Between (Path path ∷ more) accepts = parts_records (Within path []) more accepts
parts_records Between (Skip ∷ more) accepts = ap (λ (x : List LineData). Skip ∷ x) (parts_records Between more accepts)
parts_records Between (says ∷ more) accepts = absurd accepts
parts_records (Within path inside) [] accepts = absurd accepts
parts_records (Within path inside) (Test name ∷ more) accepts = absurd accepts
parts_records (Within path inside) (Path other ∷ more) accepts = absurd accepts
parts_records (Within path inside) (End ∷ more) accepts =
    ap (λ (x : List LineData). (Path path ∷ (inside ++ End ∷ [])) ++ x) (parts_records Between more accepts)
    ∙ ap (λ (x : List LineData). Path path ∷ x) (append_assoc inside (End ∷ []) more)
parts_records (Within path inside) (says ∷ more) accepts =
    parts_records (Within path (inside ++ says ∷ [])) more accepts ∙ ap (λ (x : List LineData). Path path ∷ x) (append_assoc inside (says ∷ []) more)

lawful_text : (lines : List (List ℕ)) (records : List LineData) → AllSpell lines records → Accepts Between records → version1.IsLawfulText lines
lawful_text lines records spell accepts =
    let parts = parts_from Between records in (
      record { sects = sects_from [] parts; odd = sum_by odd_in parts },
      record {
        parts = parts;
        lawful = parts_lawful Between records tt accepts;
        spelled = subst (AllSpell lines) (sym (parts_records Between records accepts)) spell;
        sects = refl;
        odd = refl;
      },
    )

-- ---- `end_of_record` is a line of version 1

abbrev begins_with_e : List ℕ → Bool
begins_with_e [] = false
begins_with_e (b ∷ bs) = b == 101

end_spells : Spells (codes "end_of_record") End
end_spells = record { form = ([], refl); small = tt }

end_is : IsOfVersion1 (codes "end_of_record")
end_is = record {
  alike = record {
    no_leader = λ begins. false≢true (sym (ap begins_with_e begins.1));
    no_alias = λ begins. false≢true (sym (ap begins_with_e begins.1));
    no_end = λ number name other form. absurd (false≢true (sym (ap begins_with_e form.1)));
  };
  branch = λ begins. absurd (false≢true (sym (ap begins_with_e begins.1)));
}

-- ---- lines that begin a lawful text

-- the lines are a lawful text, or become one by `end_of_record`
abbrev ClosesBy : (List (List ℕ) → Type 0) → List (List ℕ) → Type 0
ClosesBy IsLawful lines = IsLawful lines ⊎ IsLawful (lines ++ codes "end_of_record" ∷ [])

closes_by : (lines : List (List ℕ)) (records : List LineData) → AllSpell lines records → Accepts Between records ⊎ Accepts Between (records ++ End ∷ []) → ClosesBy version1.IsLawfulText lines
closes_by lines records spell (inl accepts) = inl (lawful_text lines records spell accepts)
closes_by lines records spell (inr accepts) =
    inr (lawful_text (lines ++ codes "end_of_record" ∷ []) (records ++ End ∷ []) (AllSpell-append lines (codes "end_of_record" ∷ []) records (End ∷ []) spell (end_spells, tt)) accepts)

closes_first : (lines : List (List ℕ)) → version1.MayGoOn lines → ClosesBy version1.IsLawfulText lines
closes_first lines on =
    let reads = on.1.1 in
    let k = AllSpell-split lines on.0 (flat_map records_of reads.parts) reads.spelled in
    closes_by lines k.0 k.3 (may_close Between k.0 k.1 (subst (Accepts Between) k.2 (accepts_parts reads.parts reads.lawful)))

-- as each of these is lawful, the lines begin a lawful text
goes_on_first : (lines : List (List ℕ)) → ClosesBy version1.IsLawfulText lines → version1.MayGoOn lines
goes_on_first lines (inl text) = ([], subst version1.IsLawfulText (sym (append-nil lines)) text)
goes_on_first lines (inr text) = (codes "end_of_record" ∷ [], text)

goes_on_lcov2 : (lines : List (List ℕ)) → ClosesBy lcov2.IsLawfulText lines → lcov2.MayGoOn lines
goes_on_lcov2 lines (inl text) = ([], subst lcov2.IsLawfulText (sym (append-nil lines)) text)
goes_on_lcov2 lines (inr text) = (codes "end_of_record" ∷ [], text)

alike_of : (line : List ℕ) → IsOfVersion1 line → IsReadAlike line
alike_of line of1 = of1.alike

all_alike : (lines : List (List ℕ)) → AllByRecursion IsOfVersion1 lines → AllByRecursion IsReadAlike lines
all_alike lines all = all_weaker IsOfVersion1 IsReadAlike alike_of lines all

lawful_lcov2 : (lines : List (List ℕ)) → AllByRecursion IsOfVersion1 lines → version1.IsLawfulText lines → lcov2.IsLawfulText lines
lawful_lcov2 lines all text = (text.0, reads_alike lines (all_alike lines all) text.0 text.1)

closes_alike : (lines : List (List ℕ)) → AllByRecursion IsOfVersion1 lines → ClosesBy version1.IsLawfulText lines → ClosesBy lcov2.IsLawfulText lines
closes_alike lines all (inl text) = inl (lawful_lcov2 lines all text)
closes_alike lines all (inr text) = inr (lawful_lcov2 (lines ++ codes "end_of_record" ∷ []) (all_push IsOfVersion1 lines (codes "end_of_record") all end_is) text)

-- lines that begin a lawful text of version 1 begin one of LCOV 2
on_lcov2 : (lines : List (List ℕ)) → AllByRecursion IsOfVersion1 lines → version1.MayGoOn lines → lcov2.MayGoOn lines
on_lcov2 lines all on = goes_on_lcov2 lines (closes_alike lines all (closes_first lines on))

-- ---- the other way round

module _ (law : LineLaw) (lcov2_law : Lcov2LineLaw) where
  -- lines of version 1 stand for the records that they spell, and the lines after them for the other records
  stand_split : (lines more : List (List ℕ)) (above : List Lcov2Data) → IsPlain above → AllByRecursion IsOfVersion1 lines → (all : List LineData) → StandFor (lines ++ more) above all
      → (records : List LineData) × (later : List LineData) × (last : List Lcov2Data) × AllSpell lines records × (all ≡ without_skipped records ++ later) × StandFor more last later
  stand_split [] more above plain of1 all stand = ([], all, above, tt, refl, stand)
  stand_split (line ∷ lines) more above plain of1 all stand =
      let one = record_back law lcov2_law line of1.0 stand.0 stand.3 in
      let rest : StandFor (lines ++ more) (above_after above (lcov2_record one.0)) stand.2 = subst (λ (s : Lcov2Data). StandFor (lines ++ more) (above_after above s) stand.2) one.2 stand.6 in
      let now : stand.1 ≡ unless_skipped one.0 = same_some stand.1 (unless_skipped one.0) (sym stand.4 ∙ ap (said above) one.2 ∙ said_alike above plain one.0) in
      let k = stand_split lines more (above_after above (lcov2_record one.0)) (plain_after above plain one.0) of1.1 stand.2 rest in (
        one.0 ∷ k.0,
        k.1,
        k.2,
        (one.1, k.3),
        stand.5 ∙ ap (λ (x : List LineData). x ++ stand.2) now ∙ ap (λ (x : List LineData). unless_skipped one.0 ++ x) k.4
            ∙ sym (append_assoc (unless_skipped one.0) (without_skipped k.0) k.1),
        k.5,
      )

  with_end : (records : List LineData) → Accepts Between (without_skipped records) ⊎ Accepts Between (without_skipped records ++ End ∷ []) → Accepts Between records ⊎ Accepts Between (records ++ End ∷ [])
  with_end records (inl accepts) = inl (accepts_with Between records accepts)
  with_end records (inr accepts) = inr (accepts_with Between (records ++ End ∷ []) (subst (Accepts Between) (sym (append_without records (End ∷ []))) accepts))

  on_first : (lines : List (List ℕ)) → AllByRecursion IsOfVersion1 lines → lcov2.MayGoOn lines → version1.MayGoOn lines
  on_first lines all on =
      let reads = on.1.1 in
      let k = stand_split lines on.0 [] plain_at_first all (flat_map records_of reads.parts) reads.spelled in
      goes_on_first lines (closes_by lines k.0 k.3 (with_end k.0 (may_close Between (without_skipped k.0) k.1 (subst (Accepts Between) k.4 (accepts_parts reads.parts reads.lawful)))))

  lawful_first : (lines : List (List ℕ)) → AllByRecursion IsOfVersion1 lines → lcov2.IsLawfulText lines → version1.IsLawfulText lines
  lawful_first lines all text =
      let reads = text.1 in
      let records = flat_map records_of reads.parts in
      let k = stand_split lines [] [] plain_at_first all records (subst (λ (x : List (List ℕ)). StandFor x [] records) (sym (append-nil lines)) reads.spelled) in
      let same : records ≡ without_skipped k.0 = k.4 ∙ ap (λ (x : List LineData). without_skipped k.0 ++ x) k.5 ∙ append-nil (without_skipped k.0) in
      lawful_text lines k.0 k.3 (accepts_with Between k.0 (subst (Accepts Between) same (accepts_parts reads.parts reads.lawful)))

  -- ---- faults

  line_is : (lines : List (List ℕ)) (at : ℕ) (line : List ℕ) → AllByRecursion IsOfVersion1 lines → version1.IsFirstFaulty lines at line → IsOfVersion1 line
  line_is lines at line all f = (all_back IsOfVersion1 f.before (line ∷ f.after) (subst (AllByRecursion IsOfVersion1) f.place all)).0

  faulty_alike : (lines : List (List ℕ)) (at : ℕ) (line : List ℕ) → AllByRecursion IsOfVersion1 lines → version1.IsFirstFaulty lines at line → lcov2.IsFirstFaulty lines at line
  faulty_alike lines at line all f =
      let before_is = all_front IsOfVersion1 f.before (line ∷ f.after) (subst (AllByRecursion IsOfVersion1) f.place all) in
      record {
        before = f.before;
        after = f.after;
        place = f.place;
        number = f.number;
        goes_on = on_lcov2 f.before before_is f.goes_on;
        ends_here = λ on. f.ends_here (on_first (f.before ++ line ∷ []) (all_push IsOfVersion1 f.before line before_is (line_is lines at line all f)) on);
      }

  first_fault_alike : (lines : List (List ℕ)) → AllByRecursion IsOfVersion1 lines → (fault : ReadFault) → version1.IsFirstFault lines fault → lcov2.IsFirstFault lines fault
  first_fault_alike lines all (faults.Line at fault) a = (a.0, faulty_alike lines at a.0 all a.1, fault_alike a.0 (line_is lines at a.0 all a.1) fault a.2)
  first_fault_alike lines all (faults.Outside at) a =
      (a.0, lcov2_record a.1, faulty_alike lines at a.0 all a.2, spells_alike a.0 (line_is lines at a.0 all a.2).alike a.1 a.3, section_alike a.1 a.4)
  first_fault_alike lines all (faults.Inside at) a =
      (a.0, lcov2_record a.1, faulty_alike lines at a.0 all a.2, spells_alike a.0 (line_is lines at a.0 all a.2).alike a.1 a.3, outside_alike a.1 a.4)
  first_fault_alike lines all faults.OpenEnd a = (on_lcov2 lines all a.0, λ text. a.1 (lawful_first lines all text))
  first_fault_alike lines all other a = absurd a

  pub refused_alike : (text : List ℕ) (fault : ReadFault) → AllByRecursion IsOfVersion1 (lines_of text) → version1.IsOutcome text (Err fault) → lcov2.IsOutcome text (Err fault)
  refused_alike text fault all (inl long) = inl long
  refused_alike text fault all (inr first) = inr (first.0, first_fault_alike (lines_of text) all fault first.1)

pub accepted_alike : (text : List ℕ) (s : SubmissionData) → AllByRecursion IsReadAlike (lines_of text) → version1.IsOutcome text (Ok s) → lcov2.IsOutcome text (Ok s)
accepted_alike text s alike outcome = (outcome.0, reads_alike (lines_of text) alike s outcome.1)
