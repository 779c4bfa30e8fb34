-- What is known of tracefiles of LCOV 2.
use Rattle.std.proofs.Common.{◌≡◌, ◌⊎◌, ℕ, List, [], ◌∷◌, ◌++◌, Result, Ok, Err, refl, sym, ap, ◌∙◌, append_assoc, inl, inr}
use Rattle.std.specs.List.{flat_map}
use Rattle.covdata.specs.Lawful.{IsLawful}
use Rattle.covline.specs.Lines.{lines_of}
use Rattle.covdata.specs.Row.{SubmissionData}
use Rattle.covdata.specs.declared.fault.ReadFault.{ReadFault}
use Rattle.covdata.specs.declared.fault.ReadFault.TheVariants.{TooLong}
use Rattle.covread.specs.Reads.{records_of}
use Rattle.covlcov2.specs.LineLaws.{Lcov2LineLaw}
use Rattle.covlcov2.specs.Reads.{Reads}
use Rattle.covlcov2.specs.Outcome.{IsFirstFault, IsOutcome}
use Rattle.covpieces.specs.Sections.{EndsSection, grouped_after}
use Rattle.covpieces.specs.Pieces.{IsCut, CarriedData, nothing_carried, front_lines, front_text, last_test, no_sections, with_first, lcov2_carried_after, ReadsInPieces}
use Rattle.covpieces.specs.Whole.{IsWholeLcov2Outcome}
use Rattle.covpieces.proofs.Parts.{test_at}
use Rattle.covpieces.proofs.GoodTests.{IsGoodTest-none, good_after}
use Rattle.covpieces.proofs.Lcov2Lines.{goes_on}
use Rattle.covpieces.proofs.Lcov2Groups.{lines_group, front_groups}
use Rattle.covpieces.proofs.Lcov2Fronts.{grouped_at, joined_reads, front_alike, fault_after, test_at_end, fault_longer}
use Rattle.covpieces.proofs.InPieces.{behind_front, FormatLaw, IsWhole, whole, after_first}
use Rattle.covpieces.proofs.TraceFormat.{IsCarried}

faults_of : (text : List ℕ) (fault : ReadFault) → IsOutcome text (Err fault) → (fault ≡ TooLong) ⊎ IsFirstFault (lines_of text) fault
faults_of text fault (inl long) = inl long.1
faults_of text fault (inr first) = inr first.1

nothing_read : Reads [] no_sections
nothing_read = record { parts = []; lawful = tt; spelled = refl; sects = refl; odd = refl }

module _ (law : Lcov2LineLaw) where
  last_line : (c : CarriedData) (piece : List ℕ) (ends : EndsSection piece) → behind_front c piece ≡ (front_lines c ++ ends.above) ++ ends.last ∷ []
  last_line c piece ends = ap (λ (x : List (List ℕ)). front_lines c ++ x) ends.lines ∙ sym (append_assoc (front_lines c) ends.above (ends.last ∷ []))

  test_is : (c : CarriedData) (piece : List ℕ) (s : SubmissionData) → EndsSection piece → (r : Reads (behind_front c piece) s) → test_at [] r.parts ≡ last_test c.test s.sects
  test_is c piece s ends r = test_at_end law (behind_front c piece) (front_lines c ++ ends.above) ends.last (last_line c piece ends) ends.ends c.test s r

  grouped_is : (c : CarriedData) (piece : List ℕ) (s : SubmissionData) (r : Reads (behind_front c piece) s) → grouped_at (behind_front c piece) s r ≡ grouped_after c.is_grouped (lines_of piece)
  grouped_is c piece s r =
      let records = flat_map records_of r.parts in
      let k = goes_on (behind_front c piece) [] records r.spelled in
      lines_group (behind_front c piece) [] k.0 records k.1 ∙ front_groups c (lines_of piece)

  pub format : ((text : List ℕ) (s : SubmissionData) → IsOutcome text (Ok s) → IsLawful s) → FormatLaw Reads IsFirstFault IsOutcome IsCarried lcov2_carried_after
  format lawful = record {
    reads_of = λ text s outcome. outcome.1;
    fault_of = faults_of;
    lawful_of = lawful;
    nothing = nothing_read;
    begins = IsGoodTest-none;
    good = λ c is. is;
    carries = λ c piece s is texts. good_after c.test s.sects is texts;
    counts = λ c piece sects. refl;
    alike = λ c piece s is ends r.
        front_alike law (behind_front c piece) (last_test c.test s.sects) (grouped_after c.is_grouped (lines_of piece)) s r (test_is c piece s ends r) (grouped_is c piece s r);
    joins = λ c piece s is ends r rest t.
        joined_reads law (behind_front c piece) (last_test c.test s.sects) (grouped_after c.is_grouped (lines_of piece)) s r (test_is c piece s ends r) (grouped_is c piece s r) rest t;
    moves = fault_after;
    longer = λ lines above last place begins more fault first. fault_longer law lines above last place begins more fault first;
  }

  module _ (lawful : (text : List ℕ) (s : SubmissionData) → IsOutcome text (Ok s) → IsLawful s) where
    told : (text : List ℕ) (r : Result SubmissionData ReadFault) → (r ≡ Err TooLong) ⊎ IsWhole Reads IsFirstFault IsOutcome IsCarried lcov2_carried_after (format lawful) text r
        → (r ≡ Err TooLong) ⊎ IsWholeLcov2Outcome text r
    told text (Ok s) is = is
    told text (Err fault) is = is

    pub all_pieces : (text : List ℕ) (pieces : List (List ℕ)) (r : Result SubmissionData ReadFault) → IsCut text pieces → ReadsInPieces IsOutcome lcov2_carried_after nothing_carried pieces r
        → (r ≡ Err TooLong) ⊎ IsWholeLcov2Outcome text r
    all_pieces text pieces r cut reads = told text r (whole Reads IsFirstFault IsOutcome IsCarried lcov2_carried_after (format lawful) text pieces r cut reads)

    pub two_pieces : (first rest : List ℕ) (s : SubmissionData) (r : Result SubmissionData ReadFault) → EndsSection first → IsOutcome first (Ok s)
        → IsWholeLcov2Outcome (front_text (lcov2_carried_after nothing_carried first s.sects) ++ rest) r
        → IsWholeLcov2Outcome (first ++ rest) (with_first s (lcov2_carried_after nothing_carried first s.sects) r)
    two_pieces first rest s (Ok t) ends outcome later = after_first Reads IsFirstFault IsOutcome IsCarried lcov2_carried_after (format lawful) first rest s (Ok t) ends outcome later
    two_pieces first rest s (Err f) ends outcome later = after_first Reads IsFirstFault IsOutcome IsCarried lcov2_carried_after (format lawful) first rest s (Err f) ends outcome later
