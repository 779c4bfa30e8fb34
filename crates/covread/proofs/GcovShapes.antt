-- The shape that is found is the first that fits, and there is no other.
use Rattle.std.proofs.Common.{◌≡◌, ◌≢◌, ℕ, ◌<◌, ◌≤◌, ◌⊎◌, inl, inr, true, List, [], ◌∷◌, ◌++◌, Option, Some, None, refl, sym, ap, subst, ◌∙◌, arith}
use Rattle.std.specs.Prelude.{codes, ◌&&◌, IfSome}
use Rattle.std.specs.Option.{option_or}
use Rattle.std.proofs.lemmas.Bool.{cases_Bool, and_parts, eqb-true}
use Rattle.covline.specs.Reading.{is_digit, after_key}
use Rattle.covline.proofs.ReadKeys.{after_key-none}
use Rattle.covread.specs.Gcov.{Shape, Instances, Function, Never, Taken, Block, Numbered, Other, place_of, colon, is_space, is_mark_byte, is_word_byte, AreAll, AreSome, EndsWord, EndsDigits, IsName, Lacks, HasShape, IsShapeOf}
use Rattle.covread.specs.GcovReading.{front_of, rest_of, after_spaces, ends_word, is_name, before_called, function_of, function_shape, branch_front, never_of, taken_of, branch_rest, branch_shape, block_of, numbered_rest, numbered_shape, or_other, other_shape, shape_of}
use Rattle.covread.proofs.GcovParts.{Stops, rest_is, some_is, parts_of, front_all, HasFront, front_or_none, digits_then, mark_then, word_then, spaces_stop_digits, word_stops, digits_stop, digits_end, word_ends, ends_word-true, ends_word-from, is_name-from, is_name-true, HasKey, key_or_none, called, called_tail, called_is, HasCalled, called_or_none, before_is}

-- ---- a line with a form is found to have it

spaces_is : (gap rest : List ℕ) → AreSome is_space gap → Stops is_space rest → after_spaces (gap ++ rest) ≡ Some rest
spaces_is gap rest some stops = rw (some_is is_space gap rest some stops) refl

function_found : (name count rest : List ℕ) → IsName name → AreSome is_digit count → EndsWord rest → Lacks called (called_tail ++ (count ++ rest))
    → function_shape (name ++ (called ++ (count ++ rest))) ≡ Some (Function name count)
function_found name count rest is digits ends last =
    rw (
      called_is name (count ++ rest) last,
      some_is is_digit count rest digits (word_stops is_digit rest refl ends),
      before_is name (count ++ rest),
      is_name-true name is,
      ends_word-true rest ends,
    ) refl

branch_found : (gap branch wide rest : List ℕ) → AreSome is_space gap → AreSome is_digit branch → AreSome is_space wide → Stops is_space rest
    → branch_shape (gap ++ (branch ++ (wide ++ rest))) ≡ branch_rest branch rest
branch_found gap branch wide rest gaps digits wides stops =
    rw (
      spaces_is gap (branch ++ (wide ++ rest)) gaps (digits_then branch (wide ++ rest) digits),
      some_is is_digit branch (wide ++ rest) digits (spaces_stop_digits wide rest wides),
      spaces_is wide rest wides stops,
    ) refl

never_found : (branch rest : List ℕ) → EndsWord rest → branch_rest branch (codes "never executed" ++ rest) ≡ Some (Never branch)
never_found branch rest ends = rw (ends_word-true rest ends) refl

taken_found : (branch last word rest : List ℕ) → AreSome is_space last → AreSome is_word_byte word → EndsWord rest
    → branch_rest branch (codes "taken" ++ (last ++ (word ++ rest))) ≡ Some (Taken branch word)
taken_found branch last word rest lasts words ends =
    rw (
      spaces_is last (word ++ rest) lasts (word_then word rest words),
      some_is is_word_byte word rest words (word_stops is_word_byte rest refl ends),
    ) refl

numbered_found : (indent mark pad number rest : List ℕ) → AreAll is_space indent → AreSome is_mark_byte mark → AreAll is_space pad → AreSome is_digit number → Stops is_digit rest
    → numbered_shape (indent ++ (mark ++ colon ∷ (pad ++ (number ++ rest)))) ≡ numbered_rest mark number rest
numbered_found indent mark pad number rest indents marks pads digits stops =
    rw (
      rest_is is_space indent (mark ++ colon ∷ (pad ++ (number ++ rest))) indents (mark_then mark (colon ∷ (pad ++ (number ++ rest))) marks),
      some_is is_mark_byte mark (colon ∷ (pad ++ (number ++ rest))) marks refl,
      rest_is is_space pad (number ++ rest) pads (digits_then number rest digits),
      some_is is_digit number rest digits stops,
    ) refl

block_found : (mark number gap block rest : List ℕ) → AreSome is_space gap → AreSome is_digit block → EndsDigits rest
    → numbered_rest mark number (codes "-block" ++ (gap ++ (block ++ rest))) ≡ Some (Block number block)
block_found mark number gap block rest gaps digits ends =
    rw (
      spaces_is gap (block ++ rest) gaps (digits_then block rest digits),
      some_is is_digit block rest digits (digits_stop rest ends),
    ) refl

-- ---- a numbered line begins with neither of the other keys

-- the line doesn't begin with `-----`
record IsPlain (line : List ℕ) : Type 0 where
  plain : after_key (codes "-----") line ≡ None

or_none_then : (o : Option Shape) → o ≡ None → (p : Option Shape) → option_or o p ≡ p
or_none_then o e p = ap (λ (x : Option Shape). option_or x p) e

some_not_none : {X : Type 0} (s : X) (o : Option X) → o ≡ Some s → o ≡ None → ⊥
some_not_none s o e f = cc

branch_spaced : (b : ℕ) (bs : List ℕ) (s : Shape) → numbered_shape (codes "branch" ++ b ∷ bs) ≡ Some s → is_space b ≡ true → ⊥
branch_spaced b bs s found space =
    let e : b ≡ 32 = eqb-true b 32 space in
    some_not_none s (numbered_shape (codes "branch" ++ 32 ∷ bs)) (ap (λ (c : ℕ). numbered_shape (codes "branch" ++ c ∷ bs)) (sym e) ∙ found) refl

no_branch : (rest : List ℕ) (s : Shape) → numbered_shape (codes "branch" ++ rest) ≡ Some s → branch_shape rest ≡ None
no_branch [] s found = refl
no_branch (b ∷ bs) s found =
    elim (cases_Bool (is_space b)) [
      | inl space ↦ absurd (branch_spaced b bs s found space)
      | inr other ↦ rw other refl
    ]

numbered_other : (line : List ℕ) (s : Shape) → numbered_shape line ≡ Some s → other_shape line ≡ Some s
numbered_other line s found =
    elim (key_or_none (codes "branch") line) [
      | inl key ↦
          let none : branch_shape key.rest ≡ None = no_branch key.rest s (ap numbered_shape (sym key.parts) ∙ found) in
          rw (key.read, none) found
      | inr other ↦ rw other found
    ]

no_function : (line : List ℕ) (s : Shape) → numbered_shape line ≡ Some s → after_key (codes "function ") line ≡ None
no_function line s found =
    elim (key_or_none (codes "function ") line) [
      | inl key ↦ absurd (some_not_none s (numbered_shape line) found (ap numbered_shape key.parts))
      | inr other ↦ other
    ]

numbered_read : (line : List ℕ) (s : Shape) → after_key (codes "-----") line ≡ None → numbered_shape line ≡ Some s → shape_of line ≡ s
unfolding shape_of
numbered_read line s plain found = rw (plain, no_function line s found, numbered_other line s found) refl

branch_read : (rest : List ℕ) (s : Shape) → branch_shape rest ≡ Some s → shape_of (codes "branch" ++ rest) ≡ s
unfolding shape_of
branch_read rest s found = rw found refl

function_read : (rest : List ℕ) (s : Shape) → function_shape rest ≡ Some s → shape_of (codes "function " ++ rest) ≡ s
unfolding shape_of
function_read rest s found = rw found refl

-- ---- a line that has a shape is found to have it

-- one of the first six shapes
abbrev IsKnownShape : Shape → Type 0
IsKnownShape Other = ⊥
IsKnownShape shape = Unit {0}

instances_read : (line rest : List ℕ) → line ≡ codes "-----" ++ rest → shape_of line ≡ Instances
unfolding shape_of
instances_read line rest e = ap shape_of e

pub shape_read : (line : List ℕ) (shape : Shape) → IsKnownShape shape → HasShape line shape → (shape ≢ Instances → after_key (codes "-----") line ≡ None) → shape_of line ≡ shape
shape_read line Instances some form plain = instances_read line form.0 form.1
shape_read line (Function name count) some form plain =
    ap shape_of form.1 ∙ function_read (name ++ (called ++ (count ++ form.0))) (Function name count) (function_found name count form.0 form.2 form.3 form.4 form.5)
shape_read line (Never branch) some form plain =
    let rest = codes "never executed" ++ form.2 in
    ap shape_of form.3
    ∙ branch_read (form.0 ++ (branch ++ (form.1 ++ rest))) (Never branch)
    (branch_found form.0 branch form.1 rest form.4 form.5 form.6 refl ∙ never_found branch form.2 form.7)
shape_read line (Taken branch word) some form plain =
    let rest = codes "taken" ++ (form.2 ++ (word ++ form.3)) in
    ap shape_of form.4
    ∙ branch_read (form.0 ++ (branch ++ (form.1 ++ rest))) (Taken branch word)
    (branch_found form.0 branch form.1 rest form.5 form.6 form.7 refl ∙ taken_found branch form.2 word form.3 form.8 form.9 form.10)
shape_read line (Block number block) some form plain =
    let rest = codes "-block" ++ (form.3 ++ (block ++ form.4)) in
    numbered_read line (Block number block) (plain (λ e. absurd cc))
    (ap numbered_shape form.5
    ∙ numbered_found form.0 form.1 form.2 number rest form.6 form.7 form.8 form.9 refl
    ∙ block_found form.1 number form.3 block form.4 form.10 form.11 form.12)
shape_read line (Numbered mark number text) some form plain =
    numbered_read line (Numbered mark number text) (plain (λ e. absurd cc))
    (ap numbered_shape form.2 ∙ numbered_found form.0 mark form.1 number (colon ∷ text) form.3 form.4 form.5 form.6 refl)
shape_read line Other some form plain = absurd some

-- ---- a line has the shape that is found for it

-- if a shape was found, the line has its form
abbrev Fits : List ℕ → Option Shape → Type 0
Fits line found = IfSome found (λ shape. HasShape line shape)

with_found : (line : List ℕ) (found other : Option Shape) → found ≡ other → Fits line other → Fits line found
with_found line found other e fits = subst (λ (o : Option Shape). Fits line o) (sym e) fits

function_of_fits : (line : List ℕ) (text : List ℕ) → line ≡ codes "function " ++ text → (found : HasCalled text) (count : HasFront is_digit found.following)
    → Fits line (function_of (before_called text found.following) count.front count.rest)
function_of_fits line text e found count =
    let name : before_called text found.following ≡ found.front = ap (λ (t : List ℕ). before_called t found.following) found.parts ∙ before_is found.front found.following in
    with_found line (function_of (before_called text found.following) count.front count.rest) (function_of found.front count.front count.rest) (ap (λ (n : List ℕ). function_of n count.front count.rest) name)
    (elim (cases_Bool (is_name found.front && ends_word count.rest)) [
      | inl both ↦
          let p = and_parts (is_name found.front) (ends_word count.rest) both in
          rw both (
            count.rest,
            e ∙ ap (λ (t : List ℕ). codes "function " ++ t) (found.parts ∙ ap (λ (t : List ℕ). found.front ++ (called ++ t)) count.parts),
            is_name-from found.front p.0,
            count.some,
            ends_word-from count.rest p.1,
            subst (λ (t : List ℕ). Lacks called (called_tail ++ t)) count.parts found.last,
          )
      | inr other ↦ rw other tt
    ])

function_fits : (line text : List ℕ) → line ≡ codes "function " ++ text → Fits line (function_shape text)
function_fits line text e =
    elim (called_or_none text) [
      | inl found ↦ elim (front_or_none is_digit found.following) [
        | inl count ↦ rw (found.read, count.read) (function_of_fits line text e found count)
        | inr none ↦ rw (found.read, none) tt
      ]
      | inr none ↦ rw none tt
    ]

-- what follows `branch` in a line begins with spaces, a number and spaces
record HasBranch (line text : List ℕ) : Type 0 where
  gap : List ℕ
  branch : List ℕ
  wide : List ℕ
  rest : List ℕ
  parts : text ≡ gap ++ (branch ++ (wide ++ rest))
  gaps : AreSome is_space gap
  digits : AreSome is_digit branch
  wides : AreSome is_space wide
  read : branch_front text ≡ Some (branch, rest)

branch_or_none : (line text : List ℕ) → HasBranch line text ⊎ (branch_front text ≡ None)
branch_or_none line text =
    elim (front_or_none is_space text) [
      | inl gap ↦ elim (front_or_none is_digit gap.rest) [
        | inl digits ↦ elim (front_or_none is_space digits.rest) [
          | inl wide ↦ inl (record {
            gap = gap.front;
            branch = digits.front;
            wide = wide.front;
            rest = wide.rest;
            parts = gap.parts ∙ ap (λ (t : List ℕ). gap.front ++ t) (digits.parts ∙ ap (λ (t : List ℕ). digits.front ++ t) wide.parts);
            gaps = gap.some;
            digits = digits.some;
            wides = wide.some;
            read = rw (gap.read, digits.read, wide.read) refl;
          })
          | inr none ↦ inr (rw (gap.read, digits.read, none) refl)
        ]
        | inr none ↦ inr (rw (gap.read, none) refl)
      ]
      | inr none ↦ inr (rw none refl)
    ]

branch_whole : (line text : List ℕ) → line ≡ codes "branch" ++ text → (b : HasBranch line text) (rest : List ℕ) → b.rest ≡ rest → line ≡ codes "branch" ++ (b.gap ++ (b.branch ++ (b.wide ++ rest)))
branch_whole line text e b rest f = e ∙ ap (λ (t : List ℕ). codes "branch" ++ t) (b.parts ∙ ap (λ (t : List ℕ). b.gap ++ (b.branch ++ (b.wide ++ t))) f)

taken_fits : (line text after : List ℕ) → line ≡ codes "branch" ++ text → (b : HasBranch line text) → b.rest ≡ codes "taken" ++ after → Fits line (taken_of b.branch after)
taken_fits line text after e b f =
    elim (front_or_none is_space after) [
      | inl last ↦ elim (front_or_none is_word_byte last.rest) [
        | inl word ↦ rw (last.read, word.read) (
          b.gap,
          b.wide,
          last.front,
          word.rest,
          branch_whole line text e b (codes "taken" ++ (last.front ++ (word.front ++ word.rest)))
              (f ∙ ap (λ (t : List ℕ). codes "taken" ++ t) (last.parts ∙ ap (λ (t : List ℕ). last.front ++ t) word.parts)),
          b.gaps,
          b.digits,
          b.wides,
          last.some,
          word.some,
          word_ends word.rest word.stops,
        )
        | inr none ↦ rw (last.read, none) tt
      ]
      | inr none ↦ rw none tt
    ]

never_fits : (line text after : List ℕ) → line ≡ codes "branch" ++ text → (b : HasBranch line text) → b.rest ≡ codes "never executed" ++ after → Fits line (never_of b.branch after)
never_fits line text after e b f =
    elim (cases_Bool (ends_word after)) [
      | inl ends ↦ rw ends (b.gap, b.wide, after, branch_whole line text e b (codes "never executed" ++ after) f, b.gaps, b.digits, b.wides, ends_word-from after ends)
      | inr other ↦ rw other tt
    ]

branch_rest_fits : (line text : List ℕ) → line ≡ codes "branch" ++ text → (b : HasBranch line text) → Fits line (branch_rest b.branch b.rest)
branch_rest_fits line text e b =
    elim (key_or_none (codes "never executed") b.rest) [
      | inl never ↦ rw never.read (never_fits line text never.rest e b never.parts)
      | inr other ↦ elim (key_or_none (codes "taken") b.rest) [
        | inl taken ↦ rw (other, taken.read) (taken_fits line text taken.rest e b taken.parts)
        | inr none ↦ rw (other, none) tt
      ]
    ]

branch_fits : (line text : List ℕ) → line ≡ codes "branch" ++ text → Fits line (branch_shape text)
branch_fits line text e =
    elim (branch_or_none line text) [
      | inl b ↦ rw b.read (branch_rest_fits line text e b)
      | inr none ↦ rw none tt
    ]

-- a line begins with a mark, a colon and a number
record HasNumber (line : List ℕ) : Type 0 where
  indent : List ℕ
  mark : List ℕ
  pad : List ℕ
  number : List ℕ
  rest : List ℕ
  parts : line ≡ indent ++ (mark ++ colon ∷ (pad ++ (number ++ rest)))
  indents : AreAll is_space indent
  marks : AreSome is_mark_byte mark
  pads : AreAll is_space pad
  digits : AreSome is_digit number
  read : numbered_shape line ≡ numbered_rest mark number rest

number_from : (line : List ℕ) (mark : HasFront is_mark_byte (rest_of is_space line)) (key : HasKey (codes ":") mark.rest) (number : HasFront is_digit (rest_of is_space key.rest)) → HasNumber line
number_from line mark key number = record {
  indent = front_of is_space line;
  mark = mark.front;
  pad = front_of is_space key.rest;
  number = number.front;
  rest = number.rest;
  parts = parts_of is_space line ∙ ap (λ (t : List ℕ). front_of is_space line ++ t) (mark.parts ∙ ap (λ (t : List ℕ). mark.front ++ t) (key.parts ∙ ap (λ (t : List ℕ). colon ∷ t) (parts_of is_space key.rest ∙ ap (λ (t : List ℕ). front_of is_space key.rest ++ t) number.parts)));
  indents = front_all is_space line;
  marks = mark.some;
  pads = front_all is_space key.rest;
  digits = number.some;
  read = rw (mark.read, key.read, number.read) refl;
}

number_or_none : (line : List ℕ) → HasNumber line ⊎ (numbered_shape line ≡ None)
number_or_none line =
    elim (front_or_none is_mark_byte (rest_of is_space line)) [
      | inl mark ↦ elim (key_or_none (codes ":") mark.rest) [
        | inl key ↦ elim (front_or_none is_digit (rest_of is_space key.rest)) [
          | inl number ↦ inl (number_from line mark key number)
          | inr none ↦ inr (rw (mark.read, key.read, none) refl)
        ]
        | inr none ↦ inr (rw (mark.read, none) refl)
      ]
      | inr none ↦ inr (rw none refl)
    ]

number_whole : (line : List ℕ) (n : HasNumber line) (rest : List ℕ) → n.rest ≡ rest → line ≡ n.indent ++ (n.mark ++ colon ∷ (n.pad ++ (n.number ++ rest)))
number_whole line n rest f = n.parts ∙ ap (λ (t : List ℕ). n.indent ++ (n.mark ++ colon ∷ (n.pad ++ (n.number ++ t)))) f

block_fits : (line after : List ℕ) (n : HasNumber line) → n.rest ≡ codes "-block" ++ after → Fits line (block_of n.number after)
block_fits line after n f =
    elim (front_or_none is_space after) [
      | inl gap ↦ elim (front_or_none is_digit gap.rest) [
        | inl block ↦ rw (gap.read, block.read) (
          n.indent,
          n.mark,
          n.pad,
          gap.front,
          block.rest,
          number_whole line n (codes "-block" ++ (gap.front ++ (block.front ++ block.rest)))
              (f ∙ ap (λ (t : List ℕ). codes "-block" ++ t) (gap.parts ∙ ap (λ (t : List ℕ). gap.front ++ t) block.parts)),
          n.indents,
          n.marks,
          n.pads,
          n.digits,
          gap.some,
          block.some,
          digits_end block.rest block.stops,
        )
        | inr none ↦ rw (gap.read, none) tt
      ]
      | inr none ↦ rw none tt
    ]

numbered_rest_fits : (line : List ℕ) (n : HasNumber line) → Fits line (numbered_rest n.mark n.number n.rest)
numbered_rest_fits line n =
    elim (key_or_none (codes "-block") n.rest) [
      | inl block ↦ rw block.read (block_fits line block.rest n block.parts)
      | inr other ↦ elim (key_or_none (codes ":") n.rest) [
        | inl text ↦ rw (other, text.read) (n.indent, n.pad, number_whole line n (colon ∷ text.rest) text.parts, n.indents, n.marks, n.pads, n.digits)
        | inr none ↦ rw (other, none) tt
      ]
    ]

numbered_fits : (line : List ℕ) → Fits line (numbered_shape line)
numbered_fits line =
    elim (number_or_none line) [
      | inl n ↦ rw n.read (numbered_rest_fits line n)
      | inr none ↦ rw none tt
    ]

or_fits : (line : List ℕ) (first later : Option Shape) → Fits line first → Fits line later → Fits line (option_or first later)
or_fits line None later f g = g
or_fits line (Some shape) later f g = f

other_fits : (line : List ℕ) → Fits line (other_shape line)
other_fits line =
    elim (key_or_none (codes "branch") line) [
      | inl key ↦ rw key.read (or_fits line (branch_shape key.rest) (numbered_shape line) (branch_fits line key.rest key.parts) (numbered_fits line))
      | inr other ↦ rw other (numbered_fits line)
    ]

or_other_fits : (line : List ℕ) (found : Option Shape) → Fits line found → HasShape line (or_other found)
or_other_fits line None fits = tt
or_other_fits line (Some shape) fits = fits

pub found_fits : (line : List ℕ) → HasShape line (shape_of line)
unfolding shape_of
found_fits line =
    elim (key_or_none (codes "-----") line) [
      | inl key ↦ rw key.read (key.rest, key.parts)
      | inr other ↦ elim (key_or_none (codes "function ") line) [
        | inl key ↦ rw (other, key.read) (or_other_fits line (function_shape key.rest) (function_fits line key.rest key.parts))
        | inr none ↦ rw (other, none) (or_other_fits line (other_shape line) (other_fits line))
      ]
    ]

-- ---- it is the first that fits

some_by_place : (shape other : Shape) → place_of other < place_of shape → IsKnownShape other
some_by_place shape Instances lt = tt
some_by_place shape (Function name count) lt = tt
some_by_place shape (Never branch) lt = tt
some_by_place shape (Taken branch word) lt = tt
some_by_place shape (Block line block) lt = tt
some_by_place shape (Numbered mark line text) lt = tt
some_by_place Instances Other lt = absurd (omega (arith, lt))
some_by_place (Function name count) Other lt = absurd (omega (arith, lt))
some_by_place (Never branch) Other lt = absurd (omega (arith, lt))
some_by_place (Taken branch word) Other lt = absurd (omega (arith, lt))
some_by_place (Block line block) Other lt = absurd (omega (arith, lt))
some_by_place (Numbered mark line text) Other lt = absurd (omega (arith, lt))
some_by_place Other Other lt = absurd (omega (arith, lt))

place_first : (shape : Shape) → 1 ≤ place_of shape
place_first Instances = omega arith
place_first (Function name count) = omega arith
place_first (Never branch) = omega arith
place_first (Taken branch word) = omega arith
place_first (Block line block) = omega arith
place_first (Numbered mark line text) = omega arith
place_first Other = omega arith

-- the line has no shape before the one that is found. If it begins with `-----`, the first of all shapes is found. Any other line
-- that had such a shape would be found to have it
none_before : (line : List ℕ) (other : Shape) → place_of other < place_of (shape_of line) → ¬ HasShape line other
none_before line other lt form =
    elim (key_or_none (codes "-----") line) [
      | inl key ↦
          let e : shape_of line ≡ Instances = instances_read line key.rest key.parts in
          omega (arith, lt, ap place_of e, place_first other)
      | inr plain ↦
          let e : shape_of line ≡ other = shape_read line other (some_by_place (shape_of line) other lt) form (λ _. plain) in
          omega (arith, lt, ap place_of e)
    ]

pub is_shape : (line : List ℕ) → IsShapeOf line (shape_of line)
is_shape line = record { fits = found_fits line; first = none_before line }

-- ---- there is no other

not_instances : (line : List ℕ) (shape : Shape) → 1 < place_of shape → IsShapeOf line shape → after_key (codes "-----") line ≡ None
not_instances line shape lt is = after_key-none (codes "-----") line (λ begins. is.first Instances lt begins)

other_last : (line : List ℕ) (shape : Shape) → shape_of line ≡ shape → ((s : Shape) → place_of s < 7 → ¬ HasShape line s) → shape_of line ≡ Other
other_last line Other e none = e
other_last line Instances e none = absurd (none Instances (omega arith) (subst (λ (s : Shape). HasShape line s) e (found_fits line)))
other_last line (Function name count) e none = absurd (none (Function name count) (omega arith) (subst (λ (s : Shape). HasShape line s) e (found_fits line)))
other_last line (Never branch) e none = absurd (none (Never branch) (omega arith) (subst (λ (s : Shape). HasShape line s) e (found_fits line)))
other_last line (Taken branch word) e none = absurd (none (Taken branch word) (omega arith) (subst (λ (s : Shape). HasShape line s) e (found_fits line)))
other_last line (Block number block) e none = absurd (none (Block number block) (omega arith) (subst (λ (s : Shape). HasShape line s) e (found_fits line)))
other_last line (Numbered mark number text) e none = absurd (none (Numbered mark number text) (omega arith) (subst (λ (s : Shape). HasShape line s) e (found_fits line)))

pub one_shape : (line : List ℕ) (shape : Shape) → IsShapeOf line shape → shape_of line ≡ shape
one_shape line Instances is = shape_read line Instances tt is.fits (λ differ. absurd (differ refl))
one_shape line (Function name count) is = shape_read line (Function name count) tt is.fits (λ _. not_instances line (Function name count) (omega arith) is)
one_shape line (Never branch) is = shape_read line (Never branch) tt is.fits (λ _. not_instances line (Never branch) (omega arith) is)
one_shape line (Taken branch word) is = shape_read line (Taken branch word) tt is.fits (λ _. not_instances line (Taken branch word) (omega arith) is)
one_shape line (Block number block) is = shape_read line (Block number block) tt is.fits (λ _. not_instances line (Block number block) (omega arith) is)
one_shape line (Numbered mark number text) is = shape_read line (Numbered mark number text) tt is.fits (λ _. not_instances line (Numbered mark number text) (omega arith) is)
one_shape line Other is = other_last line (shape_of line) refl is.first
