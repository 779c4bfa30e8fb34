-- Each text has exactly one outcome.
use Rattle.std.proofs.Common.{◌≡◌, ℕ, ◌<◌, ◌≤◌, List, [], ◌∷◌, ◌++◌, length, Result, Ok, Err, refl, sym, ap, subst, ◌∙◌, append_assoc, arith, inl, inr}
use Rattle.std.specs.List.{flat_map, sum_by}
use Rattle.std.proofs.lemmas.List.{append-nil}
use Rattle.covdata.specs.Row.{SectData, SubmissionData}
use Rattle.covline.specs.Lines.{lines_of}
use Rattle.covdata.specs.Records.{LineData, Test, Path, Skip}
use Rattle.covline.specs.Spells.{Spells, HasFault}
use Rattle.covdata.specs.declared.fault.ReadFault.{ReadFault}
use Rattle.covdata.specs.declared.fault.ReadFault.TheVariants as faults
use Rattle.covread.specs.Reads.{odd_in, records_of, sects_from, Reads}
use Rattle.covread.specs.Outcome.{max_bytes, IsLawfulText, MayGoOn, IsFirstFaulty, NeedsSection, NeedsOutside, IsFirstFault, IsOutcome}
use Rattle.covread.proofs.TraceGrammar.{LineLaw, one_parts}
use Rattle.covread.proofs.TraceStands.{AllSpell-one}

-- ---- at most one

pub one_submission : LineLaw → (lines : List (List ℕ)) (a b : SubmissionData) → Reads lines a → Reads lines b → a ≡ b
one_submission law lines a b ra rb =
    let said = AllSpell-one law lines (flat_map records_of ra.parts) (flat_map records_of rb.parts) ra.spelled rb.spelled in
    let parts = one_parts ra.parts rb.parts ra.lawful rb.lawful said in
    let sects : a.sects ≡ b.sects = ra.sects ∙ ap (sects_from []) parts ∙ sym rb.sects in
    let odd : a.odd ≡ b.odd = ra.odd ∙ ap (sum_by odd_in) parts ∙ sym rb.odd in
    let first : a ≡ record { sects = b.sects; odd = a.odd } = ap (λ (x : List SectData). record { sects = x; odd = a.odd }) sects in
    let second : record { sects = b.sects; odd = a.odd } ≡ b = ap (λ (n : ℕ). record { sects = b.sects; odd = n }) odd in
    first ∙ second

-- of two places in a list, one is before the other or they are the same
data Apart (p q : List (List ℕ)) (x y : List ℕ) : Type 0 where
  Same : length p ≡ length q → x ≡ y → Apart p q x y
  Left : (more : List (List ℕ)) → q ≡ p ++ x ∷ more → Apart p q x y
  Right : (more : List (List ℕ)) → p ≡ q ++ y ∷ more → Apart p q x y

apart_cons : (z : List ℕ) (p q : List (List ℕ)) (x y : List ℕ) → Apart p q x y → Apart (z ∷ p) (z ∷ q) x y
apart_cons z p q x y (Same len e) = Same (omega (arith, len)) e
apart_cons z p q x y (Left more e) = Left more (ap (λ (w : List (List ℕ)). z ∷ w) e)
apart_cons z p q x y (Right more e) = Right more (ap (λ (w : List (List ℕ)). z ∷ w) e)

apart : (p q : List (List ℕ)) (x y : List ℕ) (a b : List (List ℕ)) → p ++ x ∷ a ≡ q ++ y ∷ b → Apart p q x y
apart [] [] x y a b e = Same refl cc
apart [] (z ∷ q) x y a b e = let h : x ≡ z = cc in Left q (ap (λ (w : List ℕ). w ∷ q) (sym h))
apart (z ∷ p) [] x y a b e = let h : y ≡ z = cc in Right p (ap (λ (w : List ℕ). w ∷ p) (sym h))
apart (z ∷ p) (w ∷ q) x y a b e =
    let h : z ≡ w = cc in
    let k : p ++ x ∷ a ≡ q ++ y ∷ b = cc in
    subst (λ (v : List ℕ). Apart (z ∷ p) (v ∷ q) x y) h (apart_cons z p q x y (apart p q x y a b k))

-- if lines begin a lawful text, so do their own first lines
shorter : (front : List (List ℕ)) (x : List ℕ) (more all : List (List ℕ)) → all ≡ front ++ x ∷ more → MayGoOn all → MayGoOn (front ++ x ∷ [])
shorter front x more all e on =
    let k : all ++ on.0 ≡ (front ++ x ∷ []) ++ (more ++ on.0) = ap (λ (w : List (List ℕ)). w ++ on.0) e ∙ simp append_assoc in
    (more ++ on.0, subst (λ (w : List (List ℕ)). IsLawfulText w) k on.1)

same_place : (lines : List (List ℕ)) (at bt : ℕ) (x y : List ℕ) → IsFirstFaulty lines at x → IsFirstFaulty lines bt y → (at ≡ bt) × (x ≡ y)
same_place lines at bt x y f g =
    elim (apart f.before g.before x y f.after g.after (sym f.place ∙ g.place)) [
      | Same len e ↦ (omega (arith, f.number, g.number, len), e)
      | Left more e ↦ absurd (f.ends_here (shorter f.before x more g.before e g.goes_on))
      | Right more e ↦ absurd (g.ends_here (shorter g.before y more f.before e f.goes_on))
    ]

not_faulty : (lines : List (List ℕ)) (at : ℕ) (x : List ℕ) → IsFirstFaulty lines at x → MayGoOn lines → ⊥
not_faulty lines at x f on = f.ends_here (shorter f.before x f.after lines f.place on)

may_go_on : (lines : List (List ℕ)) → IsLawfulText lines → MayGoOn lines
may_go_on lines text = ([], subst (λ (w : List (List ℕ)). IsLawfulText w) (sym (append-nil lines)) text)

needs_one : (says : LineData) → NeedsSection says → NeedsOutside says → ⊥
needs_one (Test name) a b = a
needs_one (Path path) a b = a
needs_one Skip a b = a
needs_one says a b = b

pub one_fault : LineLaw → (lines : List (List ℕ)) (a b : ReadFault) → IsFirstFault lines a → IsFirstFault lines b → a ≡ b
one_fault law lines (faults.Line at f) (faults.Line bt g) a b =
    let s = same_place lines at bt a.0 b.0 a.1 b.1 in
    let e = law.fault a.0 f g a.2 (subst (λ (w : List ℕ). HasFault w g) (sym s.1) b.2) in
    let n = s.0 in
    cc
one_fault law lines (faults.Line at f) (faults.Outside bt) a b =
    let s = same_place lines at bt a.0 b.0 a.1 b.2 in
    absurd (law.never_both a.0 b.1 f (subst (λ (w : List ℕ). Spells w b.1) (sym s.1) b.3) a.2)
one_fault law lines (faults.Line at f) (faults.Inside bt) a b =
    let s = same_place lines at bt a.0 b.0 a.1 b.2 in
    absurd (law.never_both a.0 b.1 f (subst (λ (w : List ℕ). Spells w b.1) (sym s.1) b.3) a.2)
one_fault law lines (faults.Line at f) faults.OpenEnd a b = absurd (not_faulty lines at a.0 a.1 b.0)
one_fault law lines (faults.Line at f) other a b = absurd b
one_fault law lines (faults.Outside at) (faults.Line bt g) a b =
    let s = same_place lines at bt a.0 b.0 a.2 b.1 in
    absurd (law.never_both a.0 a.1 g a.3 (subst (λ (w : List ℕ). HasFault w g) (sym s.1) b.2))
one_fault law lines (faults.Outside at) (faults.Outside bt) a b =
    let s = same_place lines at bt a.0 b.0 a.2 b.2 in
    ap (λ (n : ℕ). faults.Outside n) s.0
one_fault law lines (faults.Outside at) (faults.Inside bt) a b =
    let s = same_place lines at bt a.0 b.0 a.2 b.2 in
    let e = law.meaning a.0 a.1 b.1 a.3 (subst (λ (w : List ℕ). Spells w b.1) (sym s.1) b.3) in
    absurd (needs_one a.1 a.4 (subst (λ (w : LineData). NeedsOutside w) (sym e) b.4))
one_fault law lines (faults.Outside at) faults.OpenEnd a b = absurd (not_faulty lines at a.0 a.2 b.0)
one_fault law lines (faults.Outside at) other a b = absurd b
one_fault law lines (faults.Inside at) (faults.Line bt g) a b =
    let s = same_place lines at bt a.0 b.0 a.2 b.1 in
    absurd (law.never_both a.0 a.1 g a.3 (subst (λ (w : List ℕ). HasFault w g) (sym s.1) b.2))
one_fault law lines (faults.Inside at) (faults.Outside bt) a b =
    let s = same_place lines at bt a.0 b.0 a.2 b.2 in
    let e = law.meaning a.0 a.1 b.1 a.3 (subst (λ (w : List ℕ). Spells w b.1) (sym s.1) b.3) in
    absurd (needs_one a.1 (subst (λ (w : LineData). NeedsSection w) (sym e) b.4) a.4)
one_fault law lines (faults.Inside at) (faults.Inside bt) a b =
    let s = same_place lines at bt a.0 b.0 a.2 b.2 in
    ap (λ (n : ℕ). faults.Inside n) s.0
one_fault law lines (faults.Inside at) faults.OpenEnd a b = absurd (not_faulty lines at a.0 a.2 b.0)
one_fault law lines (faults.Inside at) other a b = absurd b
one_fault law lines faults.OpenEnd (faults.Line bt g) a b = absurd (not_faulty lines bt b.0 b.1 a.0)
one_fault law lines faults.OpenEnd (faults.Outside bt) a b = absurd (not_faulty lines bt b.0 b.2 a.0)
one_fault law lines faults.OpenEnd (faults.Inside bt) a b = absurd (not_faulty lines bt b.0 b.2 a.0)
one_fault law lines faults.OpenEnd faults.OpenEnd a b = refl
one_fault law lines faults.OpenEnd other a b = absurd b
one_fault law lines other fault a b = absurd a

-- a lawful text has no fault
pub lawful_no_fault : (lines : List (List ℕ)) (fault : ReadFault) → IsLawfulText lines → IsFirstFault lines fault → ⊥
lawful_no_fault lines (faults.Line at f) text a = not_faulty lines at a.0 a.1 (may_go_on lines text)
lawful_no_fault lines (faults.Outside at) text a = not_faulty lines at a.0 a.2 (may_go_on lines text)
lawful_no_fault lines (faults.Inside at) text a = not_faulty lines at a.0 a.2 (may_go_on lines text)
lawful_no_fault lines faults.OpenEnd text a = a.1 text
lawful_no_fault lines other text a = a

-- an outcome is of one of three kinds: the text is too long; it is lawful and says this; or it has this first fault
data Told (text : List ℕ) : Result SubmissionData ReadFault → Type 0 where
  Long : max_bytes < length text → Told text (Err faults.TooLong)
  Lawful : (s : SubmissionData) → length text ≤ max_bytes → Reads (lines_of text) s → Told text (Ok s)
  Faulty : (f : ReadFault) → length text ≤ max_bytes → IsFirstFault (lines_of text) f → Told text (Err f)

told : (text : List ℕ) (r : Result SubmissionData ReadFault) → IsOutcome text r → Told text r
told text (Ok s) h = Lawful s h.0 h.1
told text (Err fault) (inl h) = subst (λ (f : ReadFault). Told text (Err f)) (sym h.1) (Long h.0)
told text (Err fault) (inr h) = Faulty fault h.0 h.1

same_told : LineLaw → (text : List ℕ) (r s : Result SubmissionData ReadFault) → Told text r → Told text s → r ≡ s
same_told law text _ _ (Long a) (Long b) = refl
same_told law text _ _ (Long a) (Lawful s b c) = absurd (omega (arith, a, b))
same_told law text _ _ (Long a) (Faulty f b c) = absurd (omega (arith, a, b))
same_told law text _ _ (Lawful s b c) (Long a) = absurd (omega (arith, a, b))
same_told law text _ _ (Lawful s b c) (Lawful t d e) = ap (λ (x : SubmissionData). Ok x) (one_submission law (lines_of text) s t c e)
same_told law text _ _ (Lawful s b c) (Faulty f d e) = absurd (lawful_no_fault (lines_of text) f (s, c) e)
same_told law text _ _ (Faulty f b c) (Long a) = absurd (omega (arith, a, b))
same_told law text _ _ (Faulty f b c) (Lawful t d e) = absurd (lawful_no_fault (lines_of text) f (t, e) c)
same_told law text _ _ (Faulty f b c) (Faulty g d e) = ap (λ (x : ReadFault). Err x) (one_fault law (lines_of text) f g c e)

-- two outcomes of one text are equal
pub one_outcome : LineLaw → (text : List ℕ) (r s : Result SubmissionData ReadFault) → IsOutcome text r → IsOutcome text s → r ≡ s
one_outcome law text r s h k = same_told law text r s (told text r h) (told text s k)
