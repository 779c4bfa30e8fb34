-- Each text has exactly one outcome.
use Rattle.std.proofs.Common.{◌≡◌, ℕ, ◌<◌, ◌≤◌, List, [], ◌∷◌, ◌++◌, length, Result, Ok, Err, refl, sym, ap, subst, ◌∙◌, append_assoc, arith, inl, inr}
use Rattle.std.specs.List.{flat_map, sum_by}
use Rattle.std.proofs.lemmas.List.{append-nil}
use Rattle.covdata.specs.declared.trace_line.LineFault.{LineFault}
use Rattle.covdata.specs.Row.{SectData, SubmissionData}
use Rattle.covline.specs.Lines.{lines_of}
use Rattle.covdata.specs.Records.{LineData, Test, Path, Skip}
use Rattle.covdata.specs.declared.fault.ReadFault.{ReadFault}
use Rattle.covdata.specs.declared.fault.ReadFault.TheVariants as faults
use Rattle.covread.specs.Outcome as version1
use Rattle.covread.specs.Reads.{odd_in, records_of, sects_from}
use Rattle.covread.proofs.TraceGrammar.{one_parts}
use Rattle.covlcov2.specs.Spells.{Lcov2Data, Plain, Leader, Alias, Edge, Lcov2Spells, HasLcov2Fault}
use Rattle.covlcov2.specs.LineLaws.{Lcov2LineLaw}
use Rattle.covlcov2.specs.Reads.{said, above_after, StandFor, Reads}
use Rattle.covlcov2.specs.Outcome.{IsLawfulText, MayGoOn, IsFirstFaulty, NeedsSection, NeedsOutside, NeedsLeader, IsFirstFault, IsOutcome, Answers}
use Rattle.covlcov2.proofs.Records.{same_some}

-- ---- at most one

-- lines stand for one list of records
one_list : Lcov2LineLaw → (lines : List (List ℕ)) (above : List Lcov2Data) (a b : List LineData) → StandFor lines above a → StandFor lines above b → a ≡ b
one_list law [] above a b g h = g ∙ sym h
one_list law (line ∷ lines) above a b g h =
    let same : g.0 ≡ h.0 = law.meaning line g.0 h.0 g.3 h.3 in
    let now : g.1 ≡ h.1 = same_some g.1 h.1 (sym g.4 ∙ ap (said above) same ∙ h.4) in
    let rest : StandFor lines (above_after above g.0) h.2 = subst (λ (s : Lcov2Data). StandFor lines (above_after above s) h.2) (sym same) h.6 in
    let later : g.2 ≡ h.2 = one_list law lines (above_after above g.0) g.2 h.2 g.6 rest in
    g.5 ∙ ap (λ (x : List LineData). x ++ g.2) now ∙ ap (λ (x : List LineData). h.1 ++ x) later ∙ sym h.5

pub one_submission : Lcov2LineLaw → (lines : List (List ℕ)) (a b : SubmissionData) → Reads lines a → Reads lines b → a ≡ b
one_submission law lines a b ra rb =
    let said = one_list law lines [] (flat_map records_of ra.parts) (flat_map records_of rb.parts) ra.spelled rb.spelled in
    let parts = one_parts ra.parts rb.parts ra.lawful rb.lawful said in
    let sects : a.sects ≡ b.sects = ra.sects ∙ ap (sects_from []) parts ∙ sym rb.sects in
    let odd : a.odd ≡ b.odd = ra.odd ∙ ap (sum_by odd_in) parts ∙ sym rb.odd in
    let first : a ≡ record { sects = b.sects; odd = a.odd } = ap (λ (x : List SectData). record { sects = x; odd = a.odd }) sects in
    let second : record { sects = b.sects; odd = a.odd } ≡ b = ap (λ (n : ℕ). record { sects = b.sects; odd = n }) odd in
    first ∙ second

-- of two places in a list, one is before the other or they are the same
data Apart (p q : List (List ℕ)) (x y : List ℕ) : Type 0 where
  Same : length p ≡ length q → x ≡ y → Apart p q x y
  Left : (more : List (List ℕ)) → q ≡ p ++ x ∷ more → Apart p q x y
  Right : (more : List (List ℕ)) → p ≡ q ++ y ∷ more → Apart p q x y

apart_cons : (z : List ℕ) (p q : List (List ℕ)) (x y : List ℕ) → Apart p q x y → Apart (z ∷ p) (z ∷ q) x y
apart_cons z p q x y (Same len e) = Same (omega (arith, len)) e
apart_cons z p q x y (Left more e) = Left more (ap (λ (w : List (List ℕ)). z ∷ w) e)
apart_cons z p q x y (Right more e) = Right more (ap (λ (w : List (List ℕ)). z ∷ w) e)

apart : (p q : List (List ℕ)) (x y : List ℕ) (a b : List (List ℕ)) → p ++ x ∷ a ≡ q ++ y ∷ b → Apart p q x y
apart [] [] x y a b e = Same refl cc
apart [] (z ∷ q) x y a b e = let h : x ≡ z = cc in Left q (ap (λ (w : List ℕ). w ∷ q) (sym h))
apart (z ∷ p) [] x y a b e = let h : y ≡ z = cc in Right p (ap (λ (w : List ℕ). w ∷ p) (sym h))
apart (z ∷ p) (w ∷ q) x y a b e =
    let h : z ≡ w = cc in
    let k : p ++ x ∷ a ≡ q ++ y ∷ b = cc in
    subst (λ (v : List ℕ). Apart (z ∷ p) (v ∷ q) x y) h (apart_cons z p q x y (apart p q x y a b k))

-- if lines begin a lawful text, so do their own first lines
pub shorter : (front : List (List ℕ)) (x : List ℕ) (more all : List (List ℕ)) → all ≡ front ++ x ∷ more → MayGoOn all → MayGoOn (front ++ x ∷ [])
shorter front x more all e on =
    let k : all ++ on.0 ≡ (front ++ x ∷ []) ++ (more ++ on.0) = ap (λ (w : List (List ℕ)). w ++ on.0) e ∙ simp append_assoc in
    (more ++ on.0, subst (λ (w : List (List ℕ)). IsLawfulText w) k on.1)

same_place : (lines : List (List ℕ)) (at bt : ℕ) (x y : List ℕ) → IsFirstFaulty lines at x → IsFirstFaulty lines bt y → (at ≡ bt) × (x ≡ y)
same_place lines at bt x y f g =
    elim (apart f.before g.before x y f.after g.after (sym f.place ∙ g.place)) [
      | Same len e ↦ (omega (arith, f.number, g.number, len), e)
      | Left more e ↦ absurd (f.ends_here (shorter f.before x more g.before e g.goes_on))
      | Right more e ↦ absurd (g.ends_here (shorter g.before y more f.before e f.goes_on))
    ]

not_faulty : (lines : List (List ℕ)) (at : ℕ) (x : List ℕ) → IsFirstFaulty lines at x → MayGoOn lines → ⊥
not_faulty lines at x f on = f.ends_here (shorter f.before x f.after lines f.place on)

may_go_on : (lines : List (List ℕ)) → IsLawfulText lines → MayGoOn lines
may_go_on lines text = ([], subst (λ (w : List (List ℕ)). IsLawfulText w) (sym (append-nil lines)) text)

-- a line needs one of these at most
needs_one : (says : Lcov2Data) → NeedsSection says → NeedsOutside says → ⊥
needs_one (Plain (Test name)) a b = a
needs_one (Plain (Path path)) a b = a
needs_one (Plain Skip) a b = a
needs_one (Plain says) a b = b
needs_one (Leader index line) a b = a
needs_one (Alias index count name) a b = a
needs_one (Edge is_excluded line block number taken) a b = b

no_leader_in_section : (says : Lcov2Data) → NeedsLeader says → NeedsSection says → ⊥
no_leader_in_section (Plain says) a b = a
no_leader_in_section (Leader index line) a b = a
no_leader_in_section (Alias index count name) a b = b
no_leader_in_section (Edge is_excluded line block number taken) a b = a

no_leader_outside : (says : Lcov2Data) → NeedsLeader says → NeedsOutside says → ⊥
no_leader_outside (Plain says) a b = a
no_leader_outside (Leader index line) a b = a
no_leader_outside (Alias index count name) a b = b
no_leader_outside (Edge is_excluded line block number taken) a b = a

-- a fault of a line: its number, and what the line has
data Kind : Type 0 where
  ByItself : LineFault → Kind
  NoSection : Kind
  InSection : Kind
  NoLeader : Kind

-- the line has a fault of this kind
abbrev HasKind : List ℕ → Kind → Type 0
HasKind line (ByItself fault) = HasLcov2Fault line fault
HasKind line NoSection = (says : Lcov2Data) × Lcov2Spells line says × NeedsSection says
HasKind line InSection = (says : Lcov2Data) × Lcov2Spells line says × NeedsOutside says
HasKind line NoLeader = (says : Lcov2Data) × Lcov2Spells line says × NeedsLeader says

abbrev fault_of : ℕ → Kind → ReadFault
fault_of at (ByItself fault) = faults.Line at fault
fault_of at NoSection = faults.Outside at
fault_of at InSection = faults.Inside at
fault_of at NoLeader = faults.Misplaced at

-- a first fault is one of a line, or a section that is still open at the end
data Fault (lines : List (List ℕ)) : ReadFault → Type 0 where
  OfLine : (at : ℕ) (kind : Kind) (line : List ℕ) → IsFirstFaulty lines at line → HasKind line kind → Fault lines (fault_of at kind)
  Open : MayGoOn lines → Fault lines faults.OpenEnd

fault_is : (lines : List (List ℕ)) (fault : ReadFault) → IsFirstFault lines fault → Fault lines fault
fault_is lines (faults.Line at f) a = OfLine at (ByItself f) a.0 a.1 a.2
fault_is lines (faults.Outside at) a = OfLine at NoSection a.0 a.2 (a.1, a.3, a.4)
fault_is lines (faults.Inside at) a = OfLine at InSection a.0 a.2 (a.1, a.3, a.4)
fault_is lines (faults.Misplaced at) a = OfLine at NoLeader a.0 a.2 (a.1, a.3, a.4)
fault_is lines faults.OpenEnd a = Open a.0
fault_is lines other a = absurd a

module _ (law : Lcov2LineLaw) (line : List ℕ) where
  -- what the line says has both properties, if it has the second under another name
  also : (P : Lcov2Data → Type 0) (a b : Lcov2Data) → Lcov2Spells line a → Lcov2Spells line b → P b → P a
  also P a b p q has = subst P (law.meaning line b a q p) has

  one_kind : (a b : Kind) → HasKind line a → HasKind line b → a ≡ b
  one_kind (ByItself f) (ByItself g) a b = ap (λ (x : LineFault). ByItself x) (law.fault line f g a b)
  one_kind (ByItself f) NoSection a b = absurd (law.never_both line b.0 f b.1 a)
  one_kind (ByItself f) InSection a b = absurd (law.never_both line b.0 f b.1 a)
  one_kind (ByItself f) NoLeader a b = absurd (law.never_both line b.0 f b.1 a)
  one_kind NoSection (ByItself g) a b = absurd (law.never_both line a.0 g a.1 b)
  one_kind InSection (ByItself g) a b = absurd (law.never_both line a.0 g a.1 b)
  one_kind NoLeader (ByItself g) a b = absurd (law.never_both line a.0 g a.1 b)
  one_kind NoSection NoSection a b = refl
  one_kind InSection InSection a b = refl
  one_kind NoLeader NoLeader a b = refl
  one_kind NoSection InSection a b = absurd (needs_one a.0 a.2 (also NeedsOutside a.0 b.0 a.1 b.1 b.2))
  one_kind NoSection NoLeader a b = absurd (no_leader_in_section a.0 (also NeedsLeader a.0 b.0 a.1 b.1 b.2) a.2)
  one_kind InSection NoSection a b = absurd (needs_one a.0 (also NeedsSection a.0 b.0 a.1 b.1 b.2) a.2)
  one_kind InSection NoLeader a b = absurd (no_leader_outside a.0 (also NeedsLeader a.0 b.0 a.1 b.1 b.2) a.2)
  one_kind NoLeader NoSection a b = absurd (no_leader_in_section a.0 a.2 (also NeedsSection a.0 b.0 a.1 b.1 b.2))
  one_kind NoLeader InSection a b = absurd (no_leader_outside a.0 a.2 (also NeedsOutside a.0 b.0 a.1 b.1 b.2))

same_fault : Lcov2LineLaw → (lines : List (List ℕ)) (a b : ReadFault) → Fault lines a → Fault lines b → a ≡ b
same_fault law lines _ _ (OfLine at kind line f has) (OfLine bt other that g other_has) =
    let s = same_place lines at bt line that f g in
    let k : kind ≡ other = one_kind law line kind other has (subst (λ (w : List ℕ). HasKind w other) (sym s.1) other_has) in
    ap (λ (n : ℕ). fault_of n kind) s.0 ∙ ap (fault_of bt) k
same_fault law lines _ _ (OfLine at kind line f has) (Open on) = absurd (not_faulty lines at line f on)
same_fault law lines _ _ (Open on) (OfLine at kind line f has) = absurd (not_faulty lines at line f on)
same_fault law lines _ _ (Open on) (Open other) = refl

pub one_fault : Lcov2LineLaw → (lines : List (List ℕ)) (a b : ReadFault) → IsFirstFault lines a → IsFirstFault lines b → a ≡ b
one_fault law lines a b p q = same_fault law lines a b (fault_is lines a p) (fault_is lines b q)

-- a lawful text has no fault
pub lawful_no_fault : (lines : List (List ℕ)) (fault : ReadFault) → IsLawfulText lines → IsFirstFault lines fault → ⊥
lawful_no_fault lines (faults.Line at f) text a = not_faulty lines at a.0 a.1 (may_go_on lines text)
lawful_no_fault lines (faults.Outside at) text a = not_faulty lines at a.0 a.2 (may_go_on lines text)
lawful_no_fault lines (faults.Inside at) text a = not_faulty lines at a.0 a.2 (may_go_on lines text)
lawful_no_fault lines (faults.Misplaced at) text a = not_faulty lines at a.0 a.2 (may_go_on lines text)
lawful_no_fault lines faults.OpenEnd text a = a.1 text
lawful_no_fault lines other text a = a

-- an outcome is of one of three kinds: the text is too long; it is lawful and says this; or it has this first fault
data Told (text : List ℕ) : Result SubmissionData ReadFault → Type 0 where
  Long : version1.max_bytes < length text → Told text (Err faults.TooLong)
  Lawful : (s : SubmissionData) → length text ≤ version1.max_bytes → Reads (lines_of text) s → Told text (Ok s)
  Faulty : (f : ReadFault) → length text ≤ version1.max_bytes → IsFirstFault (lines_of text) f → Told text (Err f)

told : (text : List ℕ) (r : Result SubmissionData ReadFault) → IsOutcome text r → Told text r
told text (Ok s) h = Lawful s h.0 h.1
told text (Err fault) (inl h) = subst (λ (f : ReadFault). Told text (Err f)) (sym h.1) (Long h.0)
told text (Err fault) (inr h) = Faulty fault h.0 h.1

same_told : Lcov2LineLaw → (text : List ℕ) (r s : Result SubmissionData ReadFault) → Told text r → Told text s → r ≡ s
same_told law text _ _ (Long a) (Long b) = refl
same_told law text _ _ (Long a) (Lawful s b c) = absurd (omega (arith, a, b))
same_told law text _ _ (Long a) (Faulty f b c) = absurd (omega (arith, a, b))
same_told law text _ _ (Lawful s b c) (Long a) = absurd (omega (arith, a, b))
same_told law text _ _ (Lawful s b c) (Lawful t d e) = ap (λ (x : SubmissionData). Ok x) (one_submission law (lines_of text) s t c e)
same_told law text _ _ (Lawful s b c) (Faulty f d e) = absurd (lawful_no_fault (lines_of text) f (s, c) e)
same_told law text _ _ (Faulty f b c) (Long a) = absurd (omega (arith, a, b))
same_told law text _ _ (Faulty f b c) (Lawful t d e) = absurd (lawful_no_fault (lines_of text) f (t, e) c)
same_told law text _ _ (Faulty f b c) (Faulty g d e) = ap (λ (x : ReadFault). Err x) (one_fault law (lines_of text) f g c e)

-- two outcomes of one text are equal
pub one_outcome : Lcov2LineLaw → (text : List ℕ) (r s : Result SubmissionData ReadFault) → IsOutcome text r → IsOutcome text s → r ≡ s
one_outcome law text r s h k = same_told law text r s (told text r h) (told text s k)

-- if a text has an outcome, a right answer is this outcome, unless memory ran out
pub answer_is : Lcov2LineLaw → (text : List ℕ) (answer outcome : Result SubmissionData ReadFault) → Answers text answer → IsOutcome text outcome → version1.IsOrMemory answer outcome
answer_is law text answer outcome (inl none) k = inl none.1
answer_is law text answer outcome (inr h) k = inr (one_outcome law text outcome answer k h)
