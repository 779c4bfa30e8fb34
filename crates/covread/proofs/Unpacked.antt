-- A text that is read as sections began one, so memory that runs out while they are unpacked runs out late.
use Rattle.std.proofs.Common.{◌≡◌, ◌≢◌, ◌⊎◌, inl, inr, ℕ, ◌≤◌, true, List, [], ◌∷◌, ◌++◌, length, Result, Ok, Err, refl, sym, ap, subst, ◌∙◌, append_assoc, append-nil}
use Rattle.std.specs.List.{flat_map, list_any}
use Rattle.covline.specs.Lines.{lines_of}
use Rattle.covdata.specs.Row.{SectData, SubmissionData}
use Rattle.covdata.specs.Records.{LineData, Path}
use Rattle.covline.specs.Spells.{Spells}
use Rattle.covdata.specs.declared.fault.ReadFault.{ReadFault}
use Rattle.covdata.specs.declared.fault.ReadFault.TheVariants as faults
use Rattle.covread.specs.Gcov as gcov
use Rattle.covread.specs.GcovItems.{begins_keeping, sects_from as gcov_sects_from}
use Rattle.covread.specs.GcovOutcome as gcov_outcome
use Rattle.covread.specs.Outcome.{Answers, HasBegun, IsLawfulText}
use Rattle.covread.specs.Reads.{AllSpell, Part, Outside, Section, records_of, Reads, sects_from, test_after}

-- ---- tracefiles

-- a line that says a path, and the lines before and after it
record HasPath (lines : List (List ℕ)) : Type 0 where
  before : List (List ℕ)
  line : List ℕ
  after : List (List ℕ)
  path : List ℕ
  place : lines ≡ before ++ line ∷ after
  spells : Spells line (Path path)

further : (line : List ℕ) (lines : List (List ℕ)) → HasPath lines → HasPath (line ∷ lines)
further line lines h = record { before = line ∷ h.before; line = h.line; after = h.after; path = h.path; place = ap (λ (ls : List (List ℕ)). line ∷ ls) h.place; spells = h.spells }

has_path : (test : List ℕ) (lines : List (List ℕ)) (parts : List Part) → AllSpell lines (flat_map records_of parts) → sects_from test parts ≢ [] → HasPath lines
has_path test lines [] spelled some = absurd (some refl)
has_path test [] (Outside says ∷ parts) spelled some = absurd spelled
has_path test (line ∷ lines) (Outside says ∷ parts) spelled some = further line lines (has_path (test_after test says) lines parts spelled.1 some)
has_path test [] (Section path inside ∷ parts) spelled some = absurd spelled
has_path test (line ∷ lines) (Section path inside ∷ parts) spelled some = record { before = []; line = line; after = lines; path = path; place = refl; spells = spelled.0 }

begun_if_lawful : (lines : List (List ℕ)) → IsLawfulText lines → HasPath lines → HasBegun lines
begun_if_lawful lines lawful h =
    (h.before, h.line, h.after, h.path, h.place, h.spells, (h.after, subst IsLawfulText (h.place ∙ sym (append_assoc h.before (h.line ∷ []) h.after)) lawful))

pub sections_begun : (text : List ℕ) (submission : SubmissionData) → Answers text (Ok submission) → submission.sects ≢ [] → HasBegun (lines_of text)
sections_begun text submission (inl ran_out) some = absurd (let e : Ok submission ≡ Err faults.Memory = ran_out.1 in cc)
sections_begun text submission (inr read) some =
    let r = read.1 in
    begun_if_lawful (lines_of text) (submission, r) (has_path [] (lines_of text) r.parts r.spelled (λ none. some (r.sects ∙ none)))

-- ---- gcov's text

some_kept : (test : List ℕ) (above all : List gcov.GcovLine) → gcov_sects_from test above all ≢ [] → list_any begins_keeping all ≡ true
some_kept test above [] some = absurd (some refl)
some_kept test above (gcov.Path path ∷ more) some = refl
some_kept test above (gcov.FuncCount name count ∷ more) some = refl
some_kept test above (says ∷ more) some = some_kept test (above ++ says ∷ []) more some

pub sections_kept : (test text : List ℕ) (submission : SubmissionData) → gcov_outcome.Answers test text (Ok submission) → submission.sects ≢ [] → gcov_outcome.HasBegun (lines_of text)
sections_kept test text submission (inl ran_out) some = absurd (let e : Ok submission ≡ Err faults.Memory = ran_out.2 in cc)
sections_kept test text submission (inr read) some =
    let r = read.2 in
    record {
      before = lines_of text;
      after = [];
      place = sym (append-nil (lines_of text));
      above = r.all;
      said = r.said;
      begun = some_kept test [] r.all (λ none. some (ap (λ (s : SubmissionData). s.sects) r.is ∙ none));
    }
