-- What a text holds whose parts are taken one after another.
use Rattle.std.proofs.Common.{◌≡◌, ℕ, ◌+◌, inl, inr, List, [], ◌∷◌, ◌++◌, length, Option, Some, None, refl, sym, ap, subst, ◌∙◌, length-append, arith}
use Rattle.std.specs.Prelude.{map, IfSome}
use Rattle.std.specs.List.{enumerate_from}
use Rattle.std.proofs.lemmas.List.{length-map}
use Rattle.std.proofs.lemmas.List.Sums.{sum_by-append}
use Rattle.covcheck.specs.Skipped.{AreAllThat, IsSkippedIn}
use Rattle.covcheck.specs.TextSummary.{Holds, IsFirstOf}
use Rattle.covcheck.specs.declared.text_summary.SkippedLine.{SkippedLine}
use Rattle.covcheck.specs.declared.text_summary.TextSummary.{TextSummary}
use Rattle.covlarge.specs.HeldView.{format_of, moved_line, with_first, with_numbers}
use Rattle.covlarge.specs.Version.{IsSkippedOf}
use Rattle.covdata.specs.declared.version.LcovVersion.{LcovVersion}
use Rattle.covdata.specs.declared.version.LcovVersion.TheVariants.{One, Two}
use Rattle.covlarge.specs.Summary.{SkippedData, SummaryData, HoldsAll, HoldsAllIfTold, HoldsOn, HoldsOnIfTold, first_of, nothing_held, or_first, told_number}
use Rattle.covline.specs.Lines.{lines_of}
use Rattle.covdata.specs.Row.{SubmissionData, items_in}
use Rattle.covpieces.specs.Pieces.{joined}
use Rattle.covpieces.specs.Sections.{EndsSection}
use Rattle.covpieces.proofs.InPieces.{lines_after}

abbrev Line : Type 0
Line = ℕ × List ℕ

-- ---- numbers

-- a number may be told before more is added, or only at the end
told_then : (a b c n m r : ℕ) → m ≡ told_number (a + b) → r ≡ told_number (m + c) → n ≡ b + c → r ≡ told_number (a + n)
told_then a b c n m r middle after same = omega (arith, middle, after, same)

told_first : (n r : ℕ) → r ≡ told_number (0 + n) → r ≡ told_number n
told_first n r after = omega (arith, after)

-- ---- numbered lines

enumerate_both : {X : Type 0} → (n : ℕ) (xs ys : List X) → enumerate_from n (xs ++ ys) ≡ enumerate_from n xs ++ enumerate_from (n + length xs) ys
enumerate_both n [] ys = ap (λ (k : ℕ). enumerate_from k ys) (omega arith)
enumerate_both n (x ∷ xs) ys =
    ap (λ l. (n, x) ∷ l) (enumerate_both (n + 1) xs ys ∙ ap (λ (k : ℕ). enumerate_from (n + 1) xs ++ enumerate_from k ys) (omega arith))

all_both : {X : Type 0} → (holds : X → Type 0) (xs ys those more : List X) → AreAllThat holds xs those → AreAllThat holds ys more → AreAllThat holds (xs ++ ys) (those ++ more)
all_both holds [] ys those more are also = subst (λ (l : List _). AreAllThat holds ys (l ++ more)) (sym are) also
all_both holds (x ∷ xs) ys those more (inl (is, others, same, are)) also =
    inl (is, others ++ more, ap (λ (l : List _). l ++ more) same, all_both holds xs ys others more are also)
all_both holds (x ∷ xs) ys those more (inr (isnt, are)) also = inr (isnt, all_both holds xs ys those more are also)

-- a line after so many more lines
abbrev moved_by : ℕ → Line → Line
moved_by k line = (k + line.0, line.1)

-- the same lines, counted from another number
all_moved : (holds : List ℕ → Type 0) (k n : ℕ) (lines : List (List ℕ)) (those : List Line) → AreAllThat (λ (l : Line). holds l.1) (enumerate_from n lines) those
    → AreAllThat (λ (l : Line). holds l.1) (enumerate_from (k + n) lines) (map (moved_by k) those)
all_moved holds k n [] those are = ap (map (moved_by k)) are
all_moved holds k n (line ∷ lines) those (inl (is, others, same, are)) =
    inl (
      is,
      map (moved_by k) others,
      ap (map (moved_by k)) same,
      subst (λ (m : ℕ). AreAllThat (λ (l : Line). holds l.1) (enumerate_from m lines) (map (moved_by k) others)) (omega arith) (all_moved holds k (n + 1) lines others are),
    )
all_moved holds k n (line ∷ lines) those (inr (isnt, are)) =
    inr (
      isnt,
      subst (λ (m : ℕ). AreAllThat (λ (l : Line). holds l.1) (enumerate_from m lines) (map (moved_by k) those)) (omega arith) (all_moved holds k (n + 1) lines those are),
    )

-- ---- the first line

first_both : (those more : List Line) → first_of (those ++ more) ≡ or_first (first_of those) (first_of more)
first_both [] more = refl
first_both (line ∷ those) more = refl

or_first_twice : (a b c : Option SkippedData) → or_first (or_first a b) c ≡ or_first a (or_first b c)
or_first_twice None b c = refl
or_first_twice (Some line) b c = refl

first_then : (before middle after : Option SkippedData) (those more : List Line) → middle ≡ or_first before (first_of those) → after ≡ or_first middle (first_of more)
    → after ≡ or_first before (first_of (those ++ more))
first_then before middle after those more first then =
    then ∙ ap (λ (x : Option SkippedData). or_first x (first_of more)) first ∙ or_first_twice before (first_of those) (first_of more)
    ∙ ap (or_first before) (sym (first_both those more))

-- ---- parts one after another

pub holds_then : (is_skipped : List ℕ → Type 0) (number : ℕ) (before : SummaryData) (piece rest : List ℕ) (s t : SubmissionData) (middle after : SummaryData)
    → EndsSection piece → HoldsOn is_skipped number before piece s middle → HoldsOn is_skipped (number + length (lines_of piece)) middle rest t after
    → HoldsOn is_skipped number before (piece ++ rest) (joined s t) after
holds_then is_skipped number before piece rest s t middle after ends first later =
    let holds : Line → Type 0 = λ l. is_skipped l.1 in
    let numbers : number + length (lines_of piece) + 1 ≡ number + 1 + length (lines_of piece) = omega arith in
    let lines : enumerate_from (number + 1) (lines_of (piece ++ rest))
    ≡ enumerate_from (number + 1) (lines_of piece) ++ enumerate_from (number + length (lines_of piece) + 1) (lines_of rest)
    = ap (enumerate_from (number + 1)) (lines_after piece rest ends) ∙ enumerate_both (number + 1) (lines_of piece) (lines_of rest)
    ∙ ap (λ (k : ℕ). enumerate_from (number + 1) (lines_of piece) ++ enumerate_from k (lines_of rest)) (sym numbers) in
    record {
      sections = told_then before.sections (length s.sects) (length t.sects) _ middle.sections after.sections first.sections later.sections (length-append s.sects t.sects);
      items = told_then before.items (items_in s.sects) (items_in t.sects) _ middle.items after.items first.items later.items (sum_by-append _ s.sects t.sects);
      odd = told_then before.odd s.odd t.odd _ middle.odd after.odd first.odd later.odd refl;
      lines = first.lines ++ later.lines;
      those =
          subst (λ (x : List Line). AreAllThat holds x (first.lines ++ later.lines)) (sym lines)
          (all_both holds (enumerate_from (number + 1) (lines_of piece)) (enumerate_from (number + length (lines_of piece) + 1) (lines_of rest)) first.lines later.lines first.those later.those);
      skipped = told_then before.skipped (length first.lines) (length later.lines) _ middle.skipped after.skipped first.skipped later.skipped (length-append first.lines later.lines);
      first = first_then before.first middle.first after.first first.lines later.lines first.first later.first;
    }

pub holds_all : (is_skipped : List ℕ → Type 0) (text : List ℕ) (s : SubmissionData) (after : SummaryData) → HoldsOn is_skipped 0 nothing_held text s after → HoldsAll is_skipped text s after
holds_all is_skipped text s after on = record {
  sections = told_first (length s.sects) after.sections on.sections;
  items = told_first (items_in s.sects) after.items on.items;
  odd = told_first s.odd after.odd on.odd;
  lines = on.lines;
  those = on.those;
  skipped = told_first (length on.lines) after.skipped on.skipped;
  first = on.first;
}

-- ---- parts of which it may not be asked what they hold

pub holds_then_if_told : (is_skipped : List ℕ → Type 0) (number : ℕ) (before : Option SummaryData) (piece rest : List ℕ) (s t : SubmissionData) (middle after : Option SummaryData)
    → EndsSection piece → HoldsOnIfTold is_skipped number before piece s middle → HoldsOnIfTold is_skipped (number + length (lines_of piece)) middle rest t after
    → HoldsOnIfTold is_skipped number before (piece ++ rest) (joined s t) after
holds_then_if_told is_skipped number None piece rest s t None None ends first later = tt
holds_then_if_told is_skipped number None piece rest s t None (Some after) ends first later = absurd later
holds_then_if_told is_skipped number None piece rest s t (Some middle) after ends first later = absurd first
holds_then_if_told is_skipped number (Some before) piece rest s t None after ends first later = absurd first
holds_then_if_told is_skipped number (Some before) piece rest s t (Some middle) None ends first later = absurd later
holds_then_if_told is_skipped number (Some before) piece rest s t (Some middle) (Some after) ends first later =
    holds_then is_skipped number before piece rest s t middle after ends first later

pub holds_all_if_told : (is_skipped : List ℕ → Type 0) (text : List ℕ) (s : SubmissionData) (before after : Option SummaryData) → IfSome before (λ b. b ≡ nothing_held)
    → HoldsOnIfTold is_skipped 0 before text s after → HoldsAllIfTold is_skipped text s after
holds_all_if_told is_skipped text s None None begins on = tt
holds_all_if_told is_skipped text s None (Some after) begins on = absurd on
holds_all_if_told is_skipped text s (Some before) None begins on = absurd on
holds_all_if_told is_skipped text s (Some before) (Some after) begins on =
    holds_all is_skipped text s after (subst (λ (b : SummaryData). HoldsOn is_skipped 0 b text s after) begins on)

-- ---- one piece

first_moved : (k : ℕ) (those : List Line) (first : Option SkippedLine) → IsFirstOf those first → moved_line k first ≡ first_of (map (moved_by k) those)
first_moved k [] None is = refl
first_moved k [] (Some first) is = absurd is
first_moved k (line ∷ those) None is = absurd is
first_moved k (line ∷ those) (Some first) (at, start) =
    ap (λ (n : ℕ). Some (record { at = told_number (k + n); start = first.start.now })) at
    ∙ ap (λ (b : List ℕ). Some (record { at = told_number (k + line.0); start = b })) start

-- a piece's summary is added
pub holds_added : (is_skipped : List ℕ → Type 0) (number : ℕ) (before : SummaryData) (piece : List ℕ) (s : SubmissionData) (summary : TextSummary) → Holds is_skipped piece s summary
    → HoldsOn is_skipped number before piece s (with_numbers (with_first before (moved_line number summary.first)) summary)
holds_added is_skipped number before piece s summary holds = record {
  sections = ap (λ (n : ℕ). told_number (before.sections + n)) holds.sections;
  items = ap (λ (n : ℕ). told_number (before.items + n)) holds.items;
  odd = ap (λ (n : ℕ). told_number (before.odd + n)) holds.odd;
  lines = map (moved_by number) holds.lines;
  those = all_moved is_skipped number 1 (lines_of piece) holds.lines holds.those;
  skipped = ap (λ (n : ℕ). told_number (before.skipped + n)) (holds.skipped ∙ sym (length-map holds.lines (moved_by number)));
  first = ap (or_first before.first) (first_moved number holds.lines summary.first holds.first);
}

-- covcheck's lines that aren't read are those of the version
pub skipped_of : (version : LcovVersion) (piece : List ℕ) (s : SubmissionData) (summary : TextSummary) → Holds (IsSkippedIn (format_of version)) piece s summary → Holds (IsSkippedOf version) piece s summary
skipped_of One piece s summary holds = holds
skipped_of Two piece s summary holds = holds
