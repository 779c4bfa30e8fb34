-- Texts that begin with a `DA:` line, with a checksum or without: how this line is read in one pass, and what it says.
use Rattle.std.proofs.Common.{◌≡◌, ℕ, ◌<◌, ◌^◌, inl, inr, Bool, true, false, cond, eqb, List, [], ◌∷◌, ◌++◌, length, All, Option, Some, None, option_map, refl, sym, ap, subst, ◌∙◌, arith, append_assoc}
use Rattle.std.specs.Prelude.{codes, IfSome, MatchOption}
use Rattle.std.specs.Option.{option_and_then}
use Rattle.std.proofs.lemmas.Bool.{cases_Bool, cases_eq, eq-eqb, ne_eqb}
use Rattle.std.proofs.lemmas.Option.{none-some, option_and_then_some}
use Rattle.std.proofs.lemmas.List.Elements.{All-nil, All-cons, All-head, All-tail, All-append, All-weaker}
use Rattle.covline.specs.declared.reader.LineCount.{LineCount}
use Rattle.covdata.specs.Lawful.{IsChecksum, IsChecksumByte, IsGoodTest}
use Rattle.covdata.specs.Delimiters.{line_feed, comma}
use Rattle.covline.specs.Lines.{lines_of, IsFirstCut}
use Rattle.covdata.specs.Records.{LineData, Line}
use Rattle.covline.specs.Spells.{IsDigit, IsNumeral, Spells, BeginsWithLine}
use Rattle.covline.specs.Reading.{after_key, field_at, is_checksum_byte, number_at, sized_number}
use Rattle.covline.specs.Fronts.{BeginsWithCountedLine, EndsCount, after_checksum, after_feed, checked_end, checksum_bytes, checksum_front, count_end, counted_after_key, counted_after_line, counted_end, counted_front, plain_end, small_front, some_front}
use Rattle.covline.proofs.Cut.{cut_at, lines_at, strip-none}
use Rattle.covdata.proofs.GoodTexts.{IsGoodTest-append, IsGoodTest-checksum, IsGoodTest-plain, IsPlain}
use Rattle.covline.proofs.Checksums.{byte_from, byte_is, checksum_parts}
use Rattle.covline.proofs.ReadNumbers.{field_is, number_is}
use Rattle.covline.proofs.SmallNumbers.{after_some, mapped_some, same_some, small_field_has, small_is, small_number_has}

-- if a line has no line feed and doesn't end in a carriage return, it is the first line of each text that begins with it and a
-- line feed; so the text's first line says what this line spells
good_line : (line rest : List ℕ) (says : LineData) → IsGoodTest line → Spells line says → BeginsWithLine (line ++ line_feed ∷ rest) says rest
good_line line rest says good spells = record {
  line = line;
  cut = lines_at line rest good.one_line ∙ ap (λ (l : List ℕ). l ∷ lines_of rest) (strip-none line good.no_return);
  front = subst (λ (l : List ℕ). IsFirstCut (line ++ line_feed ∷ rest) l rest) (strip-none line good.no_return) (cut_at (line ++ line_feed ∷ rest) line rest good.one_line refl);
  spells = spells;
}

plain_digit : (b : ℕ) → IsDigit b → IsPlain b
plain_digit b digit = omega (arith, digit.0)

plain_digits : (digits rest : List ℕ) → All IsDigit digits → All IsPlain rest → All IsPlain (digits ++ rest)
plain_digits digits rest each more = All-append IsPlain digits rest (All-weaker IsDigit IsPlain plain_digit digits each) more

plain_comma : (rest : List ℕ) → All IsPlain rest → All IsPlain (comma ∷ rest)
plain_comma rest more = All-cons IsPlain comma rest (omega arith) more

plain_key : (rest : List ℕ) → All IsPlain rest → All IsPlain (codes "DA:" ++ rest)
plain_key rest more = All-cons IsPlain 68 (65 ∷ 58 ∷ rest) (omega arith) (All-cons IsPlain 65 (58 ∷ rest) (omega arith) (All-cons IsPlain 58 rest (omega arith) more))

module _ (digits counts checksum rest : List ℕ) (line count : ℕ) where
  abbrev front : List ℕ
  front = codes "DA:" ++ (digits ++ comma ∷ (counts ++ comma ∷ []))

  abbrev whole : List ℕ
  whole = codes "DA:" ++ (digits ++ comma ∷ (counts ++ comma ∷ checksum))

  joined : (more : List ℕ) → codes "DA:" ++ (digits ++ comma ∷ (counts ++ comma ∷ more)) ≡ front ++ more
  joined more =
      ap (λ (u : List ℕ). codes "DA:" ++ u)
      (ap (λ (u : List ℕ). digits ++ comma ∷ u) (sym (append_assoc counts (comma ∷ []) more)) ∙ sym (append_assoc digits (comma ∷ (counts ++ comma ∷ [])) more))

  ended : codes "DA:" ++ (digits ++ comma ∷ (counts ++ comma ∷ (checksum ++ line_feed ∷ rest))) ≡ whole ++ line_feed ∷ rest
  ended = joined (checksum ++ line_feed ∷ rest) ∙ sym (append_assoc front checksum (line_feed ∷ rest)) ∙ ap (λ (u : List ℕ). u ++ line_feed ∷ rest) (sym (joined checksum))

  checked_line : IsNumeral digits line → IsNumeral counts count → IsChecksum checksum → line < 2 ^ 64 → count < 2 ^ 64
      → BeginsWithLine (codes "DA:" ++ (digits ++ comma ∷ (counts ++ comma ∷ (checksum ++ line_feed ∷ rest)))) (Line line count (Some checksum)) rest
  checked_line numeral counted checked small few =
      let plain : All IsPlain front =
      plain_key (digits ++ comma ∷ (counts ++ comma ∷ []))
      (plain_digits digits (comma ∷ (counts ++ comma ∷ [])) numeral.each
      (plain_comma (counts ++ comma ∷ []) (plain_digits counts (comma ∷ []) counted.each (plain_comma [] (All-nil IsPlain))))) in
      let good : IsGoodTest whole = subst IsGoodTest (sym (joined checksum)) (IsGoodTest-append front checksum (IsGoodTest-plain front plain) (IsGoodTest-checksum checksum checked)) in
      subst (λ (t : List ℕ). BeginsWithLine t (Line line count (Some checksum)) rest) (sym ended)
      (good_line whole rest (Line line count (Some checksum)) good (record { form = (digits, counts, refl, numeral, inl counted, checked); small = (small, omega (arith, few)) }))

-- a `DA:` line without a checksum; the module above is of lines with one
module _ (digits counts rest : List ℕ) (line count : ℕ) where
  abbrev short : List ℕ
  short = codes "DA:" ++ (digits ++ comma ∷ counts)

  short_ended : codes "DA:" ++ (digits ++ comma ∷ (counts ++ line_feed ∷ rest)) ≡ short ++ line_feed ∷ rest
  short_ended = ap (λ (u : List ℕ). codes "DA:" ++ u) (sym (append_assoc digits (comma ∷ counts) (line_feed ∷ rest)))

  counted_line : IsNumeral digits line → IsNumeral counts count → line < 2 ^ 64 → count < 2 ^ 64
      → BeginsWithLine (codes "DA:" ++ (digits ++ comma ∷ (counts ++ line_feed ∷ rest))) (Line line count None) rest
  counted_line numeral counted small few =
      let digits_plain : All IsPlain counts = All-weaker IsDigit IsPlain plain_digit counts counted.each in
      let plain : All IsPlain short = plain_key (digits ++ comma ∷ counts) (plain_digits digits (comma ∷ counts) numeral.each (plain_comma counts digits_plain)) in
      subst (λ (t : List ℕ). BeginsWithLine t (Line line count None) rest) (sym short_ended)
      (good_line short rest (Line line count None) (IsGoodTest-plain short plain) (record { form = (digits, counts, refl, numeral, inl counted); small = (small, omega (arith, few)) }))

-- if a text begins with a `DA:` line of either form, this first line says the record of the source line
said : (digits counts end rest : List ℕ) (line count : ℕ) (checksum : Option (List ℕ)) → IsNumeral digits line → IsNumeral counts count → EndsCount end checksum rest → line < 2 ^ 64 → count < 2 ^ 64
    → BeginsWithLine (codes "DA:" ++ (digits ++ comma ∷ (counts ++ end))) (Line line count checksum) rest
said digits counts end rest line count None numeral counted ends small few =
    subst (λ (e : List ℕ). BeginsWithLine (codes "DA:" ++ (digits ++ comma ∷ (counts ++ e))) (Line line count None) rest) (sym ends)
    (counted_line digits counts rest line count numeral counted small few)
said digits counts end rest line count (Some checksum) numeral counted ends small few =
    subst (λ (e : List ℕ). BeginsWithLine (codes "DA:" ++ (digits ++ comma ∷ (counts ++ e))) (Line line count (Some checksum)) rest) (sym ends.0)
    (checked_line digits counts checksum rest line count numeral counted ends.1 small few)

counted_line_says : (text : List ℕ) (line count : ℕ) (checksum : Option (List ℕ)) (rest : List ℕ) → BeginsWithCountedLine text line count checksum rest → BeginsWithLine text (Line line count checksum) rest
counted_line_says text line count checksum rest begins =
    subst (λ (t : List ℕ). BeginsWithLine t (Line line count checksum) rest) (sym begins.parts)
    (said begins.digits begins.counts begins.end rest line count checksum begins.line_is begins.count_is begins.end_is begins.line_small begins.count_small)

-- ---- the end of such a line

checksum_read : (checksum rest : List ℕ) → All IsChecksumByte checksum → (checksum_bytes (checksum ++ line_feed ∷ rest) ≡ checksum) × (after_checksum (checksum ++ line_feed ∷ rest) ≡ line_feed ∷ rest)
checksum_read [] rest each = (refl, refl)
checksum_read (b ∷ bs) rest each =
    let test : is_checksum_byte b ≡ true = byte_is b (All-head IsChecksumByte b bs each) in
    let others = checksum_read bs rest (All-tail IsChecksumByte b bs each) in
    (rw test (ap (λ (u : List ℕ). b ∷ u) others.0), rw test others.1)

some_front_is : (checksum rest : List ℕ) → 0 < length checksum → some_front checksum rest ≡ Some (checksum, rest)
some_front_is [] rest some = absurd (omega (arith, some))
some_front_is (b ∷ bs) rest some = refl

checksum_front_is : (checksum rest : List ℕ) → IsChecksum checksum → checksum_front (checksum ++ line_feed ∷ rest) ≡ Some (checksum, line_feed ∷ rest)
checksum_front_is checksum rest checked =
    let read = checksum_read checksum rest checked.each in
    ap (λ (u : List ℕ). some_front u (after_checksum (checksum ++ line_feed ∷ rest))) read.0 ∙ ap (some_front checksum) read.1 ∙ some_front_is checksum (line_feed ∷ rest) checked.some

-- if a text is such an end, `count_end` reads it as this end
count_end_is : (end : List ℕ) (checksum : Option (List ℕ)) (rest : List ℕ) → EndsCount end checksum rest → count_end end ≡ Some (checksum, rest)
count_end_is end None rest ends = ap count_end ends
count_end_is end (Some checksum) rest ends = ap count_end ends.0 ∙ ap (option_and_then checked_end) (checksum_front_is checksum rest ends.1)

-- each of the bytes that `checksum_bytes` takes from the front is one that a checksum may have
each_byte : (text : List ℕ) → All IsChecksumByte (checksum_bytes text)
each_byte [] = All-nil IsChecksumByte
each_byte (b ∷ bs) =
    elim (cases_Bool (is_checksum_byte b)) [
      | inl holds ↦ rw holds (All-cons IsChecksumByte b (checksum_bytes bs) (byte_from b holds) (each_byte bs))
      | inr fails ↦ rw fails (All-nil IsChecksumByte)
    ]

some_front_has : (checksum rest : List ℕ) (front : List ℕ × List ℕ) → some_front checksum rest ≡ Some front → (0 < length checksum) × (checksum ≡ front.0) × (rest ≡ front.1)
some_front_has [] rest front e = absurd (none-some front e)
some_front_has (b ∷ bs) rest front e =
    let same : (b ∷ bs, rest) ≡ front = same_some (b ∷ bs, rest) front e in
    (omega arith, ap (λ (p : List ℕ × List ℕ). p.0) same, ap (λ (p : List ℕ × List ℕ). p.1) same)

plain_from : (text : List ℕ) (end : Option (List ℕ) × List ℕ) → plain_end text ≡ Some end → EndsCount text end.0 end.1
plain_from text end e =
    let feed = mapped_some (λ (rest : List ℕ). (None, rest)) (after_feed text) end e in
    subst (λ (r : Option (List ℕ) × List ℕ). EndsCount text r.0 r.1) feed.2 (after_some (line_feed ∷ []) text feed.0 (sym feed.1))

checked_from : (text : List ℕ) (end : Option (List ℕ) × List ℕ) → option_and_then checked_end (checksum_front text) ≡ Some end → EndsCount (comma ∷ text) end.0 end.1
checked_from text end e =
    option_and_then_some checked_end (checksum_front text) end e (λ front read e1.
    let some = some_front_has (checksum_bytes text) (after_checksum text) front read in
    let feed = mapped_some (λ (rest : List ℕ). (Some front.0, rest)) (after_feed front.1) end e1 in
    let after : front.1 ≡ line_feed ∷ feed.0 = after_some (line_feed ∷ []) front.1 feed.0 (sym feed.1) in
    let parts : text ≡ front.0 ++ line_feed ∷ feed.0 = checksum_parts text ∙ ap (λ (u : List ℕ). u ++ after_checksum text) some.1 ∙ ap (λ (u : List ℕ). front.0 ++ u) (some.2 ∙ after) in
    let checked : IsChecksum front.0 = subst IsChecksum some.1 (record { some = some.0; each = each_byte text }) in
    subst (λ (r : Option (List ℕ) × List ℕ). EndsCount (comma ∷ text) r.0 r.1) feed.2 (ap (λ (u : List ℕ). comma ∷ u) parts, checked))

-- conversely, what `count_end` reads is such an end
count_end_from : (text : List ℕ) (end : Option (List ℕ) × List ℕ) → count_end text ≡ Some end → EndsCount text end.0 end.1
count_end_from [] end e = absurd (none-some end e)
count_end_from (b ∷ bs) end e =
    elim (cases_eq b comma) [
      | inl same ↦ let test : eqb b comma ≡ true = eq-eqb b comma same in
          subst (λ (c : ℕ). EndsCount (c ∷ bs) end.0 end.1) (sym same) (checked_from bs end (sym (choice b bs true test) ∙ e))
      | inr differ ↦ let test : eqb b comma ≡ false = ne_eqb b comma differ in plain_from (b ∷ bs) end (sym (choice b bs false test) ∙ e)
    ]
  where
    choice : (b : ℕ) (bs : List ℕ) (test : Bool) → eqb b comma ≡ test → count_end (b ∷ bs) ≡ cond test (option_and_then checked_end (checksum_front bs)) (plain_end (b ∷ bs))
    choice b bs test e = ap (λ (t : Bool). cond t (option_and_then checked_end (checksum_front bs)) (plain_end (b ∷ bs))) e

-- ---- what is read in one pass

abbrev Read : Type 0
Read = (ℕ × ℕ) × (Option (List ℕ) × List ℕ)

-- if each part of a `DA:` line is read from what the part before leaves, the text begins with this line
counted_line_of : (text fields : List ℕ) (line count : ℕ × List ℕ) (end : Option (List ℕ) × List ℕ) → after_key (codes "DA:") text ≡ Some fields → small_front (field_at fields) ≡ Some line
    → small_front (number_at line.1) ≡ Some count → count_end count.1 ≡ Some end → BeginsWithCountedLine text line.0 count.0 end.0 end.1
counted_line_of text fields line count end key field number last =
    let f = small_field_has fields line.1 line.0 field in
    let n = small_number_has line.1 count.1 count.0 number in
    record {
      digits = f.digits;
      counts = n.digits;
      end = count.1;
      parts =
          after_some (codes "DA:") text fields (sym key)
          ∙ ap (λ (u : List ℕ). codes "DA:" ++ u) (f.parts ∙ append_assoc f.digits (comma ∷ []) line.1)
          ∙ ap (λ (u : List ℕ). codes "DA:" ++ (f.digits ++ comma ∷ u)) n.parts;
      line_is = f.numeral;
      count_is = n.numeral;
      end_is = count_end_from count.1 end last;
      line_small = f.small;
      count_small = n.small;
    }

counted_line_from : (text : List ℕ) (read : Read) → counted_front text ≡ Some read → BeginsWithCountedLine text read.0.0 read.0.1 read.1.0 read.1.1
counted_line_from text read e =
    option_and_then_some counted_after_key (after_key (codes "DA:") text) read e (λ fields key e1.
    option_and_then_some counted_after_line (small_front (field_at fields)) read e1 (λ line field e2.
    option_and_then_some (counted_end line.0) (small_front (number_at line.1)) read e2 (λ count number e3.
    let end = mapped_some (λ (last : Option (List ℕ) × List ℕ). ((line.0, count.0), last)) (count_end count.1) read e3 in
    subst (λ (r : Read). BeginsWithCountedLine text r.0.0 r.0.1 r.1.0 r.1.1) end.2 (counted_line_of text fields line count end.0 key field number end.1))))

-- the count is read up to such an end, because an end doesn't begin with a digit
counts_read : (counts end : List ℕ) (count : ℕ) (checksum : Option (List ℕ)) (rest : List ℕ) → IsNumeral counts count → EndsCount end checksum rest → number_at (counts ++ end) ≡ Some (sized_number count, end)
counts_read counts end count None rest counted ends =
    subst (λ (e : List ℕ). number_at (counts ++ e) ≡ Some (sized_number count, e)) (sym ends) (number_is counts (line_feed ∷ rest) count counted refl)
counts_read counts end count (Some checksum) rest counted ends =
    subst (λ (e : List ℕ). number_at (counts ++ e) ≡ Some (sized_number count, e)) (sym ends.0) (number_is counts (comma ∷ (checksum ++ line_feed ∷ rest)) count counted refl)

-- conversely, if a text begins with such a line, the line is read in one pass
counted_line_read : (text : List ℕ) (line count : ℕ) (checksum : Option (List ℕ)) (rest : List ℕ) → BeginsWithCountedLine text line count checksum rest
    → counted_front text ≡ Some ((line, count), (checksum, rest))
counted_line_read text line count checksum rest begins =
    let field : small_front (field_at (begins.digits ++ comma ∷ (begins.counts ++ begins.end))) ≡ Some (line, begins.counts ++ begins.end) =
    ap small_front (field_is begins.digits (begins.counts ++ begins.end) line begins.line_is) ∙ small_is line (begins.counts ++ begins.end) begins.line_small in
    let number : small_front (number_at (begins.counts ++ begins.end)) ≡ Some (count, begins.end) =
    ap small_front (counts_read begins.counts begins.end count checksum rest begins.count_is begins.end_is) ∙ small_is count begins.end begins.count_small in
    ap counted_front begins.parts
    ∙ ap (option_and_then counted_after_line) field
    ∙ ap (option_and_then (counted_end line)) number
    ∙ ap (option_map (λ (end : Option (List ℕ) × List ℕ). ((line, count), end))) (count_end_is begins.end checksum rest begins.end_is)

-- ---- the contract of `try_line_count`

abbrev pub counted_seen : LineCount → Read
counted_seen f = ((f.line, f.count), (option_map (λ c. c.now) f.checksum, f.rest.now))

pub counted_form : (result : Option LineCount) (text : List ℕ) → option_map counted_seen result ≡ counted_front text
    → IfSome result (λ f. BeginsWithCountedLine text f.line f.count (option_map (λ c. c.now) f.checksum) f.rest.now)
counted_form None text read = tt
counted_form (Some f) text read = counted_line_from text (counted_seen f) (sym read)

pub counted_says : (result : Option LineCount) (text : List ℕ) → option_map counted_seen result ≡ counted_front text
    → IfSome result (λ f. BeginsWithLine text (Line f.line f.count (option_map (λ c. c.now) f.checksum)) f.rest.now)
counted_says None text read = tt
counted_says (Some f) text read =
    counted_line_says text f.line f.count (option_map (λ c. c.now) f.checksum) f.rest.now (counted_line_from text (counted_seen f) (sym read))

pub counted_only : (result : Option LineCount) (text : List ℕ) → option_map counted_seen result ≡ counted_front text → (line count : ℕ) (checksum : Option (List ℕ)) (rest : List ℕ)
    → BeginsWithCountedLine text line count checksum rest
    → MatchOption result ⊥ (λ f. (f.line ≡ line) × (f.count ≡ count) × (option_map (λ c. c.now) f.checksum ≡ checksum) × (f.rest.now ≡ rest))
counted_only None text read line count checksum rest begins = none-some ((line, count), (checksum, rest)) (read ∙ counted_line_read text line count checksum rest begins)
counted_only (Some f) text read line count checksum rest begins =
    let same : counted_seen f ≡ ((line, count), (checksum, rest)) = same_some (counted_seen f) ((line, count), (checksum, rest)) (read ∙ counted_line_read text line count checksum rest begins) in (
      ap (λ (r : Read). r.0.0) same,
      ap (λ (r : Read). r.0.1) same,
      ap (λ (r : Read). r.1.0) same,
      ap (λ (r : Read). r.1.1) same,
    )
