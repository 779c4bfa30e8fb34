-- The parts of a `BRDA:` line: its marks, the last comma, the branch's number or expression.
use Rattle.std.proofs.Common.{◌≡◌, ◌≢◌, ℕ, ◌+◌, ◌<◌, ◌⊎◌, inl, inr, Bool, true, false, ◌||◌, eqb, List, [], ◌∷◌, ◌++◌, length, get_or, take, drop, All, Option, Some, None, option_map, refl, sym, ap, ◌∙◌, arith}
use Rattle.std.specs.List.{list_any}
use Rattle.std.proofs.lemmas.Option.{none-some}
use Rattle.std.proofs.lemmas.Bool.{cases_Bool, cases_eq, eq-eqb, ne_eqb, or_from, eqb-true}
use Rattle.std.proofs.lemmas.List.{drop_more, take-append-drop, get_or-drop, length-drop}
use Rattle.std.proofs.lemmas.List.Elements.{All-nil, All-cons, All-head, All-tail, All-from_get_or}
use Rattle.memchr.specs.Find.{Nowhere, NoneAfter, Passes, is_byte}
use Rattle.covline.specs.declared.reader.Number.{Number}
use Rattle.covdata.specs.Delimiters.{comma}
use Rattle.covline.specs.Spells.{IsDigit, IsNumeral, IsTaken}
use Rattle.covline.specs.Reading.{number_of, sized_number}
use Rattle.covline.proofs.ReadNumbers.{whole_is, whole_or_none}
use Rattle.covlcov2.specs.Spells.{is_mark, is_exclusion, IsMark, IsBranchName}
use Rattle.covlcov2.specs.Reading.{marks_from, last_cut, branch_name}

-- ---- marks

-- the text doesn't begin with a mark
abbrev pub IsUnmarked : List ℕ → Type 0
IsUnmarked [] = Unit {0}
IsUnmarked (b ∷ bs) = is_mark b ≡ false

or_nothing : (x : Bool) → x ≡ (x || false)
or_nothing true = refl
or_nothing false = refl

or_assoc : (x y z : Bool) → ((x || y) || z) ≡ (x || (y || z))
or_assoc true y z = refl
or_assoc false y z = refl

no_marks : (x : Bool) (rest : List ℕ) → IsUnmarked rest → marks_from x rest ≡ (x, rest)
no_marks x [] none = refl
no_marks x (b ∷ bs) none = rw none refl

marks_so : (x : Bool) (marks rest : List ℕ) → All IsMark marks → IsUnmarked rest → marks_from x (marks ++ rest) ≡ (x || list_any is_exclusion marks, rest)
marks_so x [] rest each none = no_marks x rest none ∙ ap (λ (y : Bool). (y, rest)) (or_nothing x)
marks_so x (b ∷ bs) rest each none =
    let test : is_mark b ≡ true = All-head IsMark b bs each in
    rw test (
    marks_so (x || is_exclusion b) bs rest (All-tail IsMark b bs each) none
    ∙ ap (λ (y : Bool). (y, rest)) (or_assoc x (is_exclusion b) (list_any is_exclusion bs))
    )

pub marks_are : (marks rest : List ℕ) → All IsMark marks → IsUnmarked rest → marks_from false (marks ++ rest) ≡ (list_any is_exclusion marks, rest)
marks_are marks rest each none = marks_so false marks rest each none

digit_unmarked : (d : ℕ) → IsDigit d → is_mark d ≡ false
digit_unmarked d digit =
    or_from (eqb d 101) (eqb d 102 || eqb d 85) (ne_eqb d 101 (λ e. omega (arith, e, digit.1)))
    (or_from (eqb d 102) (eqb d 85) (ne_eqb d 102 (λ e. omega (arith, e, digit.1))) (ne_eqb d 85 (λ e. omega (arith, e, digit.1))))

-- a numeral doesn't begin with a mark
pub blocks_unmarked : (digits rest : List ℕ) (n : ℕ) → IsNumeral digits n → IsUnmarked (digits ++ rest)
blocks_unmarked [] rest n numeral = absurd (omega (arith, numeral.some))
blocks_unmarked (d ∷ ds) rest n numeral = digit_unmarked d (All-head IsDigit d ds numeral.each)

-- a text in two parts: all marks at its front, and the rest, which doesn't begin with a mark
pub record MarksAt (text : List ℕ) : Type 0 where
  pub marks : List ℕ
  pub rest : List ℕ
  pub is_excluded : Bool
  pub parts : text ≡ marks ++ rest
  pub each : All IsMark marks
  pub excluded_is : is_excluded ≡ list_any is_exclusion marks
  pub unmarked : IsUnmarked rest
  pub read : marks_from false text ≡ (is_excluded, rest)

record Front (text : List ℕ) : Type 0 where
  marks : List ℕ
  rest : List ℕ
  parts : text ≡ marks ++ rest
  each : All IsMark marks
  unmarked : IsUnmarked rest

front_of : (text : List ℕ) → Front text
front_of [] = record { marks = []; rest = []; parts = refl; each = All-nil IsMark; unmarked = tt }
front_of (b ∷ bs) =
    elim (cases_Bool (is_mark b)) [
      | inl mark ↦ let others = front_of bs in
          record { marks = b ∷ others.marks; rest = others.rest; parts = ap (λ (t : List ℕ). b ∷ t) others.parts; each = All-cons IsMark b others.marks mark others.each; unmarked = others.unmarked }
      | inr other ↦ record { marks = []; rest = b ∷ bs; parts = refl; each = All-nil IsMark; unmarked = other }
    ]

pub marks_at : (text : List ℕ) → MarksAt text
marks_at text =
    let front = front_of text in
    record {
      marks = front.marks;
      rest = front.rest;
      is_excluded = list_any is_exclusion front.marks;
      parts = front.parts;
      each = front.each;
      excluded_is = refl;
      unmarked = front.unmarked;
      read = ap (marks_from false) front.parts ∙ marks_are front.marks front.rest front.each front.unmarked;
    }

-- ---- the last comma

abbrev pub HasNoComma : List ℕ → Type 0
HasNoComma text = All (λ b. b ≢ comma) text

nowhere_cut : (text : List ℕ) → HasNoComma text → last_cut text ≡ None
nowhere_cut [] none = refl
nowhere_cut (b ∷ bs) none =
    let test : eqb b comma ≡ false = ne_eqb b comma (All-head (λ c. c ≢ comma) b bs none) in
    rw (nowhere_cut bs (All-tail (λ c. c ≢ comma) b bs none), test) refl

pub cut_is : (words text : List ℕ) → HasNoComma text → last_cut (words ++ comma ∷ text) ≡ Some (words, text)
cut_is [] text none = rw (nowhere_cut text none) refl
cut_is (w ∷ ws) text none = rw (cut_is ws text none) refl

digits_no_comma : (digits : List ℕ) → All IsDigit digits → HasNoComma digits
digits_no_comma [] each = All-nil (λ b. b ≢ comma)
digits_no_comma (d ∷ ds) each =
    let digit = All-head IsDigit d ds each in
    All-cons (λ b. b ≢ comma) d ds (λ e. omega (arith, e, digit.0)) (digits_no_comma ds (All-tail IsDigit d ds each))

pub has_no_comma : (text : List ℕ) (taken : Option ℕ) → IsTaken text taken → HasNoComma text
has_no_comma text None is = rw is (All-cons (λ b. b ≢ comma) 45 [] (λ e. omega (arith, e)) (All-nil (λ b. b ≢ comma)))
has_no_comma text (Some n) is = digits_no_comma text is.each

-- the text is cut at its last comma
pub record CutAt (text : List ℕ) : Type 0 where
  pub front : List ℕ
  pub back : List ℕ
  pub parts : text ≡ front ++ comma ∷ back
  pub read : last_cut text ≡ Some (front, back)

cut_first : (b : ℕ) (bs : List ℕ) → last_cut bs ≡ None → CutAt (b ∷ bs) ⊎ (last_cut (b ∷ bs) ≡ None)
cut_first b bs none =
    elim (cases_eq b comma) [
      | inl same ↦ let test : eqb b comma ≡ true = eq-eqb b comma same in
          inl (record { front = []; back = bs; parts = ap (λ (c : ℕ). c ∷ bs) same; read = rw (none, test) refl })
      | inr differ ↦ let test : eqb b comma ≡ false = ne_eqb b comma differ in inr (rw (none, test) refl)
    ]

pub cut_found : (text : List ℕ) → CutAt text ⊎ (last_cut text ≡ None)
cut_found [] = inr refl
cut_found (b ∷ bs) =
    elim (cut_found bs) [
      | inl cut ↦ inl (record { front = b ∷ cut.front; back = cut.back; parts = ap (λ (t : List ℕ). b ∷ t) cut.parts; read = rw cut.read refl })
      | inr none ↦ cut_first b bs none
    ]

-- ---- the place of the last comma that a search gives

no_comma_from : (text : List ℕ) → Nowhere (Passes (is_byte comma) text) 0 (length text) → HasNoComma text
no_comma_from text none = All-from_get_or (λ b. b ≢ comma) text 0 (λ k lt e. none k (omega arith) lt (eq-eqb (get_or text k 0) comma e))

pub cut_nowhere : (text : List ℕ) → Nowhere (Passes (is_byte comma) text) 0 (length text) → last_cut text ≡ None
cut_nowhere text none = nowhere_cut text (no_comma_from text none)

no_comma_after : (text : List ℕ) (i : ℕ) → i < length text → Nowhere (Passes (is_byte comma) text) (i + 1) (length text) → HasNoComma (drop (i + 1) text)
no_comma_after text i high none =
    All-from_get_or (λ b. b ≢ comma) (drop (i + 1) text) 0 (λ k lt e.
    let below : i + 1 + k < length text = omega (arith, lt, high, length-drop (i + 1) text) in
    none (i + 1 + k) (omega arith) below (eq-eqb (get_or text (i + 1 + k) 0) comma (sym (get_or-drop (i + 1) text k 0) ∙ e)))

pub cut_at : (text : List ℕ) (i : ℕ) → NoneAfter (Passes (is_byte comma) text) 0 (length text) i × Passes (is_byte comma) text i → last_cut text ≡ Some (take i text, drop (i + 1) text)
cut_at text i found =
    let after : drop i text ≡ comma ∷ drop (i + 1) text = drop_more text i 0 found.0.high ∙ ap (λ (b : ℕ). b ∷ drop (i + 1) text) (eqb-true (get_or text i 0) comma found.1) in
    let parts : text ≡ take i text ++ comma ∷ drop (i + 1) text = sym (take-append-drop i text) ∙ ap (λ (t : List ℕ). take i text ++ t) after in
    ap last_cut parts ∙ cut_is (take i text) (drop (i + 1) text) (no_comma_after text i found.0.high found.0.after)

-- ---- a branch's number or expression

named_so : (words : List ℕ) → 0 < length words → branch_name words ≡ Some (number_of words)
named_so [] some = absurd (omega (arith, some))
named_so (b ∷ bs) some = refl

pub name_read : (words : List ℕ) (branch : Option ℕ) → IsBranchName words branch → branch_name words ≡ Some (option_map sized_number branch)
name_read words None is =
    elim (whole_or_none words) [
      | inl found ↦ absurd (is.1 found.0 found.1)
      | inr none ↦ named_so words is.0 ∙ ap (λ (n : Option Number). Some n) none
    ]
name_read words (Some n) is = named_so words is.some ∙ ap (λ (v : Option Number). Some v) (whole_is words n is)

no_numeral : (words : List ℕ) → number_of words ≡ None → (n : ℕ) → ¬ IsNumeral words n
no_numeral words none n numeral = none-some (sized_number n) (sym none ∙ whole_is words n numeral)

-- each text but the empty one is the name of a branch
pub name_named : (words : List ℕ) → ((branch : Option ℕ) × IsBranchName words branch) ⊎ (branch_name words ≡ None)
name_named [] = inr refl
name_named (b ∷ bs) =
    elim (whole_or_none (b ∷ bs)) [
      | inl found ↦ inl (Some found.0, found.1)
      | inr none ↦ inl (None, (omega arith, no_numeral (b ∷ bs) none))
    ]
