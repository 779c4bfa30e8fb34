-- Texts that begin with a `BRDA:` line: how this line is read in one pass, and what it says.
use Rattle.std.proofs.Common.{◌≡◌, ◌≢◌, ℕ, ◌<◌, ◌^◌, inl, inr, Bool, true, false, cond, eqb, List, [], ◌∷◌, ◌++◌, All, Option, Some, None, option_map, refl, sym, ap, subst, ◌∙◌, arith, append_assoc}
use Rattle.std.specs.Prelude.{codes, IfSome, MatchOption}
use Rattle.std.specs.Option.{option_and_then}
use Rattle.std.proofs.lemmas.Bool.{cases_eq, eq-eqb, ne_eqb}
use Rattle.std.proofs.lemmas.Option.{none-some, option_and_then_some}
use Rattle.std.proofs.lemmas.List.Elements.{All-nil, All-cons, All-head, All-tail}
use Rattle.covline.specs.declared.reader.Number.{Number}
use Rattle.covline.specs.declared.reader.BranchLine.{BranchLine}
use Rattle.covdata.specs.Delimiters.{line_feed, carriage_return, comma}
use Rattle.covline.specs.Lines.{lines_of, IsFirstCut}
use Rattle.covdata.specs.Points.{BranchPoint}
use Rattle.covdata.specs.PointView.{branch_point_data}
use Rattle.covdata.specs.Records.{LineData, Branch, HasSmallNumbers, minus}
use Rattle.covline.specs.Spells.{IsDigit, IsNumeral, IsTaken, Spells, BeginsWithLine}
use Rattle.covline.specs.Reading.{after_key, field_at, number_at}
use Rattle.covline.specs.Fronts.{BeginsWithBranchLine, IsSmallIfAny, after_feed, branch_after_block, branch_after_key, branch_after_line, branch_after_number, branch_end, branch_front, small_front, taken_front}
use Rattle.covline.proofs.Cut.{HasNoFeed, NoReturn, cut_at, lines_at, strip-none}
use Rattle.covline.proofs.ReadNumbers.{field_is, number_is}
use Rattle.covline.proofs.SmallNumbers.{HasNumber, after_some, mapped_some, same_some, small_field_has, small_is, small_number_has}

-- each byte is above 13, so none is a line feed (10) or a carriage return (13)
abbrev IsClean : List ℕ → Type 0
IsClean [] = Unit {0}
IsClean (b ∷ bs) = (13 < b) × IsClean bs

clean_append : (front back : List ℕ) → IsClean front → IsClean back → IsClean (front ++ back)
clean_append [] back one other = other
clean_append (b ∷ bs) back one other = (one.0, clean_append bs back one.1 other)

clean_digits : (digits : List ℕ) → All IsDigit digits → IsClean digits
clean_digits [] each = tt
clean_digits (d ∷ ds) each = let digit = All-head IsDigit d ds each in (omega (arith, digit.0), clean_digits ds (All-tail IsDigit d ds each))

no_feed : (text : List ℕ) → IsClean text → HasNoFeed text
no_feed [] clean = All-nil (λ b. b ≢ line_feed)
no_feed (b ∷ bs) clean = All-cons (λ b. b ≢ line_feed) b bs (λ e. let above = clean.0 in omega (arith, e, above)) (no_feed bs clean.1)

no_return : (text : List ℕ) → IsClean text → NoReturn text
no_return [] clean [] e = absurd cc
no_return [] clean (b ∷ before) e = absurd cc
no_return (x ∷ xs) clean [] e = let same : x ≡ carriage_return = cc in let above = clean.0 in omega (arith, same, above)
no_return (x ∷ xs) clean (b ∷ before) e = let same : xs ≡ before ++ carriage_return ∷ [] = cc in no_return xs clean.1 before same

-- if a line has only such bytes, it is the first line of each text that begins with it and a line feed; so the text's first line
-- says what this line spells
clean_line : (line rest : List ℕ) (says : LineData) → IsClean line → Spells line says → BeginsWithLine (line ++ line_feed ∷ rest) says rest
clean_line line rest says clean spells = record {
  line = line;
  cut = lines_at line rest (no_feed line clean) ∙ ap (λ (l : List ℕ). l ∷ lines_of rest) (strip-none line (no_return line clean));
  front = subst (λ (l : List ℕ). IsFirstCut (line ++ line_feed ∷ rest) l rest) (strip-none line (no_return line clean)) (cut_at (line ++ line_feed ∷ rest) line rest (no_feed line clean) refl);
  spells = spells;
}

module _ (digits blocks branches word rest : List ℕ) (line block branch : ℕ) (taken : Option ℕ) where
  abbrev whole : List ℕ
  whole = codes "BRDA:" ++ (digits ++ comma ∷ (blocks ++ comma ∷ (branches ++ comma ∷ word)))

  whole_parts : codes "BRDA:" ++ (digits ++ comma ∷ (blocks ++ comma ∷ (branches ++ comma ∷ (word ++ line_feed ∷ rest)))) ≡ whole ++ line_feed ∷ rest
  whole_parts =
      let end : List ℕ = line_feed ∷ rest in
      let last : branches ++ comma ∷ (word ++ end) ≡ (branches ++ comma ∷ word) ++ end = sym (append_assoc branches (comma ∷ word) end) in
      let middle : blocks ++ comma ∷ (branches ++ comma ∷ (word ++ end)) ≡ (blocks ++ comma ∷ (branches ++ comma ∷ word)) ++ end =
      ap (λ (u : List ℕ). blocks ++ comma ∷ u) last ∙ sym (append_assoc blocks (comma ∷ (branches ++ comma ∷ word)) end) in
      ap (λ (u : List ℕ). codes "BRDA:" ++ u)
      (ap (λ (u : List ℕ). digits ++ comma ∷ u) middle ∙ sym (append_assoc digits (comma ∷ (blocks ++ comma ∷ (branches ++ comma ∷ word))) end))

  branch_line : IsNumeral digits line → IsNumeral blocks block → IsNumeral branches branch → IsTaken word taken → IsClean word → HasSmallNumbers (Branch line block branch taken)
      → BeginsWithLine (codes "BRDA:" ++ (digits ++ comma ∷ (blocks ++ comma ∷ (branches ++ comma ∷ (word ++ line_feed ∷ rest))))) (Branch line block branch taken) rest
  branch_line numeral block_is branch_is taken_is word_clean small =
      let last : IsClean (branches ++ comma ∷ word) = clean_append branches (comma ∷ word) (clean_digits branches branch_is.each) (omega arith, word_clean) in
      let middle : IsClean (blocks ++ comma ∷ (branches ++ comma ∷ word)) = clean_append blocks (comma ∷ (branches ++ comma ∷ word)) (clean_digits blocks block_is.each) (omega arith, last) in
      let first : IsClean (digits ++ comma ∷ (blocks ++ comma ∷ (branches ++ comma ∷ word))) =
      clean_append digits (comma ∷ (blocks ++ comma ∷ (branches ++ comma ∷ word))) (clean_digits digits numeral.each) (omega arith, middle) in
      let clean : IsClean whole = (omega arith, (omega arith, (omega arith, (omega arith, (omega arith, first))))) in
      subst (λ (t : List ℕ). BeginsWithLine t (Branch line block branch taken) rest) (sym whole_parts)
      (clean_line whole rest (Branch line block branch taken) clean (record { form = (digits, blocks, branches, word, refl, numeral, block_is, branch_is, taken_is); small = small }))

-- ---- how often it was taken

taken_at : (b : ℕ) (bs : List ℕ) (test : Bool) → eqb b minus ≡ test
    → taken_front (b ∷ bs) ≡ cond test (Some (None, bs)) (option_map (λ (f : ℕ × List ℕ). (Some f.0, f.1)) (small_front (number_at (b ∷ bs))))
taken_at b bs test e = ap (λ (t : Bool). cond t (Some (None, bs)) (option_map (λ (f : ℕ × List ℕ). (Some f.0, f.1)) (small_front (number_at (b ∷ bs))))) e

clean_taken : (word : List ℕ) (taken : Option ℕ) → IsTaken word taken → IsClean word
clean_taken word None is = subst IsClean (sym is) (omega arith, tt)
clean_taken word (Some n) is = clean_digits word is.each

small_taken : (line block branch : ℕ) (taken : Option ℕ) → line < 2 ^ 64 → block < 2 ^ 64 → branch < 2 ^ 64 → IsSmallIfAny taken → HasSmallNumbers (Branch line block branch taken)
small_taken line block branch None l k b small = (l, k, b)
small_taken line block branch (Some n) l k b small = (l, k, b, omega (arith, small))

-- the text begins with a field that says how often a branch was taken, and `rest` follows this field
record HasTaken (text rest : List ℕ) (taken : Option ℕ) : Type 0 where
  word : List ℕ
  is : IsTaken word taken
  small : IsSmallIfAny taken
  parts : text ≡ word ++ rest

with_minus : (b : ℕ) (bs : List ℕ) (read : Option ℕ × List ℕ) → b ≡ minus → Some (None, bs) ≡ Some read → HasTaken (b ∷ bs) read.1 read.0
with_minus b bs read dash e =
    let same : (None, bs) ≡ read = same_some (None, bs) read e in
    subst (λ (r : Option ℕ × List ℕ). HasTaken (b ∷ bs) r.1 r.0) same (record { word = codes "-"; is = refl; small = tt; parts = ap (λ (c : ℕ). c ∷ bs) dash })

with_number : (text : List ℕ) (read : Option ℕ × List ℕ) → option_map (λ (f : ℕ × List ℕ). (Some f.0, f.1)) (small_front (number_at text)) ≡ Some read → HasTaken text read.1 read.0
with_number text read e =
    let found = mapped_some (λ (f : ℕ × List ℕ). (Some f.0, f.1)) (small_front (number_at text)) read e in
    let number = small_number_has text found.0.1 found.0.0 found.1 in
    subst (λ (r : Option ℕ × List ℕ). HasTaken text r.1 r.0) found.2 (record { word = number.digits; is = number.numeral; small = number.small; parts = number.parts })

taken_has : (text : List ℕ) (read : Option ℕ × List ℕ) → taken_front text ≡ Some read → HasTaken text read.1 read.0
taken_has [] read e = absurd (none-some read e)
taken_has (b ∷ bs) read e =
    elim (cases_eq b minus) [
      | inl dash ↦ let test : eqb b minus ≡ true = eq-eqb b minus dash in with_minus b bs read dash (sym (taken_at b bs true test) ∙ e)
      | inr differ ↦ let test : eqb b minus ≡ false = ne_eqb b minus differ in with_number (b ∷ bs) read (sym (taken_at b bs false test) ∙ e)
    ]

taken_is : (word rest : List ℕ) (taken : Option ℕ) → IsTaken word taken → IsSmallIfAny taken → taken_front (word ++ line_feed ∷ rest) ≡ Some (taken, line_feed ∷ rest)
taken_is word rest None is small = ap (λ (w : List ℕ). taken_front (w ++ line_feed ∷ rest)) is
taken_is [] rest (Some n) is small = absurd (omega (arith, is.some))
taken_is (d ∷ ds) rest (Some n) is small =
    let digit = All-head IsDigit d ds is.each in
    let test : eqb d minus ≡ false = ne_eqb d minus (λ e. omega (arith, digit.0, e)) in
    taken_at d (ds ++ line_feed ∷ rest) false test
    ∙ ap (λ (f : Option (Number × List ℕ)). option_map (λ (g : ℕ × List ℕ). (Some g.0, g.1)) (small_front f)) (number_is (d ∷ ds) (line_feed ∷ rest) n is refl)
    ∙ ap (option_map (λ (g : ℕ × List ℕ). (Some g.0, g.1))) (small_is n (line_feed ∷ rest) small)

-- ---- what is read in one pass

field_parts : (fields rest : List ℕ) (n : ℕ) (f : HasNumber fields rest n (λ digits. digits ++ comma ∷ [])) → fields ≡ f.digits ++ comma ∷ rest
field_parts fields rest n f = f.parts ∙ append_assoc f.digits (comma ∷ []) rest

-- if each part of a `BRDA:` line is read from what the part before leaves, the text begins with this line
branch_line_of : (text fields : List ℕ) (line block branch : ℕ × List ℕ) (taken : Option ℕ × List ℕ) (rest : List ℕ) → after_key (codes "BRDA:") text ≡ Some fields
    → small_front (field_at fields) ≡ Some line → small_front (field_at line.1) ≡ Some block → small_front (field_at block.1) ≡ Some branch → taken_front branch.1 ≡ Some taken
    → after_feed taken.1 ≡ Some rest → BeginsWithBranchLine text (record { line = line.0; block = block.0; branch = branch.0 }) taken.0 rest
branch_line_of text fields line block branch taken rest key first second third fourth feed =
    let l = small_field_has fields line.1 line.0 first in
    let k = small_field_has line.1 block.1 block.0 second in
    let b = small_field_has block.1 branch.1 branch.0 third in
    let t = taken_has branch.1 taken fourth in
    let end : branch.1 ≡ t.word ++ line_feed ∷ rest = t.parts ∙ ap (λ (u : List ℕ). t.word ++ u) (after_some (line_feed ∷ []) taken.1 rest (sym feed)) in
    let last : block.1 ≡ b.digits ++ comma ∷ (t.word ++ line_feed ∷ rest) = field_parts block.1 branch.1 branch.0 b ∙ ap (λ (u : List ℕ). b.digits ++ comma ∷ u) end in
    let middle : line.1 ≡ k.digits ++ comma ∷ (b.digits ++ comma ∷ (t.word ++ line_feed ∷ rest)) = field_parts line.1 block.1 block.0 k ∙ ap (λ (u : List ℕ). k.digits ++ comma ∷ u) last in
    let front : fields ≡ l.digits ++ comma ∷ (k.digits ++ comma ∷ (b.digits ++ comma ∷ (t.word ++ line_feed ∷ rest))) =
    field_parts fields line.1 line.0 l ∙ ap (λ (u : List ℕ). l.digits ++ comma ∷ u) middle in
    record {
      digits = l.digits;
      blocks = k.digits;
      branches = b.digits;
      word = t.word;
      parts = after_some (codes "BRDA:") text fields (sym key) ∙ ap (λ (u : List ℕ). codes "BRDA:" ++ u) front;
      line_is = l.numeral;
      block_is = k.numeral;
      branch_is = b.numeral;
      taken_is = t.is;
      line_small = l.small;
      block_small = k.small;
      branch_small = b.small;
      taken_small = t.small;
    }

abbrev Read : Type 0
Read = (BranchPoint × Option ℕ) × List ℕ

branch_line_from : (text : List ℕ) (read : Read) → branch_front text ≡ Some read → BeginsWithBranchLine text read.0.0 read.0.1 read.1
branch_line_from text read e =
    option_and_then_some branch_after_key (after_key (codes "BRDA:") text) read e (λ fields key e1.
    option_and_then_some branch_after_line (small_front (field_at fields)) read e1 (λ line first e2.
    option_and_then_some (branch_after_block line.0) (small_front (field_at line.1)) read e2 (λ block second e3.
    option_and_then_some (branch_after_number line.0 block.0) (small_front (field_at block.1)) read e3 (λ branch third e4.
    let point : BranchPoint = record { line = line.0; block = block.0; branch = branch.0 } in
    option_and_then_some (branch_end point) (taken_front branch.1) read e4 (λ taken fourth e5.
    let end = mapped_some (λ (rest : List ℕ). ((point, taken.0), rest)) (after_feed taken.1) read e5 in
    subst (λ (r : Read). BeginsWithBranchLine text r.0.0 r.0.1 r.1) end.2 (branch_line_of text fields line block branch taken end.0 key first second third fourth end.1))))))

-- conversely, if a text begins with such a line, the line is read in one pass
branch_line_read : (text : List ℕ) (point : BranchPoint) (taken : Option ℕ) (rest : List ℕ) → BeginsWithBranchLine text point taken rest → branch_front text ≡ Some ((point, taken), rest)
branch_line_read text point taken rest begins =
    let end : List ℕ = begins.word ++ line_feed ∷ rest in
    let last : List ℕ = begins.branches ++ comma ∷ end in
    let middle : List ℕ = begins.blocks ++ comma ∷ last in
    ap branch_front begins.parts
    ∙ ap (option_and_then branch_after_line) (small_field begins.digits middle point.line begins.line_is begins.line_small)
    ∙ ap (option_and_then (branch_after_block point.line)) (small_field begins.blocks last point.block begins.block_is begins.block_small)
    ∙ ap (option_and_then (branch_after_number point.line point.block)) (small_field begins.branches end point.branch begins.branch_is begins.branch_small)
    ∙ ap (option_and_then (branch_end point)) (taken_is begins.word rest taken begins.taken_is begins.taken_small)
  where
    small_field : (digits after : List ℕ) (n : ℕ) → IsNumeral digits n → n < 2 ^ 64 → small_front (field_at (digits ++ comma ∷ after)) ≡ Some (n, after)
    small_field digits after n numeral small = ap small_front (field_is digits after n numeral) ∙ small_is n after small

-- if a text begins with such a line, this first line says the branch's record
branch_line_says : (text : List ℕ) (point : BranchPoint) (taken : Option ℕ) (rest : List ℕ) → BeginsWithBranchLine text point taken rest
    → BeginsWithLine text (Branch point.line point.block point.branch taken) rest
branch_line_says text point taken rest begins =
    subst (λ (u : List ℕ). BeginsWithLine u (Branch point.line point.block point.branch taken) rest) (sym begins.parts)
    (branch_line begins.digits begins.blocks begins.branches begins.word rest point.line point.block point.branch taken begins.line_is begins.block_is begins.branch_is begins.taken_is
    (clean_taken begins.word taken begins.taken_is) (small_taken point.line point.block point.branch taken begins.line_small begins.block_small begins.branch_small begins.taken_small))

-- ---- the contract of `try_branch_line`

abbrev pub branch_seen : BranchLine → Read
branch_seen f = ((branch_point_data f.point, f.taken), f.rest.now)

pub branch_form : (result : Option BranchLine) (text : List ℕ) → option_map branch_seen result ≡ branch_front text → IfSome result (λ f. BeginsWithBranchLine text (branch_point_data f.point) f.taken f.rest.now)
branch_form None text read = tt
branch_form (Some f) text read = branch_line_from text (branch_seen f) (sym read)

pub branch_says : (result : Option BranchLine) (text : List ℕ) → option_map branch_seen result ≡ branch_front text
    → IfSome result (λ f. BeginsWithLine text (Branch f.point.line f.point.block f.point.branch f.taken) f.rest.now)
branch_says None text read = tt
branch_says (Some f) text read = branch_line_says text (branch_point_data f.point) f.taken f.rest.now (branch_line_from text (branch_seen f) (sym read))

pub branch_only : (result : Option BranchLine) (text : List ℕ) → option_map branch_seen result ≡ branch_front text → (point : BranchPoint) (taken : Option ℕ) (rest : List ℕ)
    → BeginsWithBranchLine text point taken rest → MatchOption result ⊥ (λ f. (branch_point_data f.point ≡ point) × (f.taken ≡ taken) × (f.rest.now ≡ rest))
branch_only None text read point taken rest begins = none-some ((point, taken), rest) (read ∙ branch_line_read text point taken rest begins)
branch_only (Some f) text read point taken rest begins =
    let same : branch_seen f ≡ ((point, taken), rest) = same_some (branch_seen f) ((point, taken), rest) (read ∙ branch_line_read text point taken rest begins) in
    (ap (λ (r : Read). r.0.0) same, ap (λ (r : Read). r.0.1) same, ap (λ (r : Read). r.1) same)
