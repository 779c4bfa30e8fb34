-- A printed record reads back: its text is one line, and that line spells the record.
use Rattle.std.proofs.Common.{◌≡◌, ℕ, ◌+◌, ◌-◌, ◌*◌, ◌/◌, ◌%◌, ◌^◌, ◌<◌, ◌≤◌, List, [], ◌∷◌, ◌++◌, Some, None, refl, sym, ap, ◌∙◌, lit<, arith, inl}
use Rattle.std.specs.Prelude.{All, codes, decimal}
use Rattle.std.proofs.lemmas.Fmt.{decimal_by_steps_wide}
use Rattle.std.proofs.lemmas.List.{append-nil, length_push}
use Rattle.std.proofs.lemmas.List.Elements.{All-nil, All-cons, All-append, All-push, All-weaker, All-from_recursion}
use Rattle.std.proofs.lemmas.List.Sums.{fold_push}
use Rattle.covdata.specs.Delimiters.{line_feed, comma}
use Rattle.covline.specs.Lines.{lines_of}
use Rattle.covdata.specs.Lawful.{IsGoodTest}
use Rattle.covdata.specs.declared.trace_line.TotalKind.{TotalKind}
use Rattle.covdata.specs.declared.trace_line.TotalKind.TheVariants.{FuncFound, FuncHit, BranchFound, BranchHit, LineFound, LineHit}
use Rattle.covdata.specs.Records.{LineData, Test, Path, FuncStart, FuncCount, Branch, Line, Total, End, Skip, key_of}
use Rattle.covline.specs.Spells.{IsDigit, IsNumeral, Spells}
use Rattle.covdata.specs.Printed.{line_text, printed, IsReadable}
use Rattle.covdata.proofs.GoodTexts.{IsPlain, IsGoodTest-append, IsGoodTest-plain, IsGoodTest-checksum}
use Rattle.covline.proofs.Cut.{lines_at, strip-none}

-- ---- numbers

numeral_one : (n : ℕ) → n < 10 → IsNumeral ((48 + n) ∷ []) n
numeral_one n small = record {
  some = omega arith;
  each = All-cons IsDigit (48 + n) [] (omega arith, omega arith) (All-nil IsDigit);
  value = omega arith;
}

numeral_more : (n : ℕ) (ds : List ℕ) → 10 ≤ n → IsNumeral ds (n / 10) → IsNumeral (ds ++ (48 + n % 10) ∷ []) n
numeral_more n ds big front = record {
  some = omega (arith, length_push ds (48 + n % 10));
  each = All-push IsDigit ds (48 + n % 10) front.each (omega arith, omega arith);
  value = omega (arith, fold_push (λ m b. m * 10 + (b - 48)) 0 ds (48 + n % 10), front.value);
}

within : (n : ℕ) → n < 2 ^ 128 → n < 10 ^ 64
within n small = omega (arith, small)

-- a number below 2^128, printed in decimal, is a numeral that says this number
pub IsNumeral-decimal : (n : ℕ) → n < 2 ^ 128 → IsNumeral (decimal n) n
IsNumeral-decimal n small = decimal_by_steps_wide (λ m ds. IsNumeral ds m) numeral_one numeral_more n (within n small)

wide : (n : ℕ) → n < 2 ^ 64 → n < 2 ^ 128
wide n small = omega (arith, small)

IsNumeral-small : (n : ℕ) → n < 2 ^ 64 → IsNumeral (decimal n) n
IsNumeral-small n small = IsNumeral-decimal n (wide n small)

digit_plain : (b : ℕ) → IsDigit b → IsPlain b
digit_plain b digit = omega arith

plain_decimal : (n : ℕ) → n < 2 ^ 128 → All IsPlain (decimal n)
plain_decimal n small = All-weaker IsDigit IsPlain digit_plain (decimal n) (IsNumeral-decimal n small).each

-- ---- keys

plain_total : (kind : TotalKind) → All IsPlain (key_of kind)
plain_total FuncFound = All-from_recursion IsPlain (codes "FNF:") (lit< tt, (lit< tt, (lit< tt, (lit< tt, tt))))
plain_total FuncHit = All-from_recursion IsPlain (codes "FNH:") (lit< tt, (lit< tt, (lit< tt, (lit< tt, tt))))
plain_total BranchFound = All-from_recursion IsPlain (codes "BRF:") (lit< tt, (lit< tt, (lit< tt, (lit< tt, tt))))
plain_total BranchHit = All-from_recursion IsPlain (codes "BRH:") (lit< tt, (lit< tt, (lit< tt, (lit< tt, tt))))
plain_total LineFound = All-from_recursion IsPlain (codes "LF:") (lit< tt, (lit< tt, (lit< tt, tt)))
plain_total LineHit = All-from_recursion IsPlain (codes "LH:") (lit< tt, (lit< tt, (lit< tt, tt)))

plain_test : All IsPlain (codes "TN:")
plain_test = All-from_recursion IsPlain (codes "TN:") (lit< tt, (lit< tt, (lit< tt, tt)))

plain_path : All IsPlain (codes "SF:")
plain_path = All-from_recursion IsPlain (codes "SF:") (lit< tt, (lit< tt, (lit< tt, tt)))

plain_start : All IsPlain (codes "FN:")
plain_start = All-from_recursion IsPlain (codes "FN:") (lit< tt, (lit< tt, (lit< tt, tt)))

plain_count : All IsPlain (codes "FNDA:")
plain_count = All-from_recursion IsPlain (codes "FNDA:") (lit< tt, (lit< tt, (lit< tt, (lit< tt, (lit< tt, tt)))))

plain_branch : All IsPlain (codes "BRDA:")
plain_branch = All-from_recursion IsPlain (codes "BRDA:") (lit< tt, (lit< tt, (lit< tt, (lit< tt, (lit< tt, tt)))))

plain_line : All IsPlain (codes "DA:")
plain_line = All-from_recursion IsPlain (codes "DA:") (lit< tt, (lit< tt, (lit< tt, tt)))

plain_end : All IsPlain (codes "end_of_record")
plain_end = All-from_recursion IsPlain (codes "end_of_record") (lit< tt, (lit< tt, (lit< tt, (lit< tt, (lit< tt, (lit< tt, (lit< tt, (lit< tt, (lit< tt, (lit< tt, (lit< tt, (lit< tt, (lit< tt, tt)))))))))))))

-- ---- fields

good_number : (front : List ℕ) (n : ℕ) → All IsPlain front → n < 2 ^ 128 → IsGoodTest (front ++ decimal n)
good_number front n plain small = IsGoodTest-plain (front ++ decimal n) (All-append IsPlain front (decimal n) plain (plain_decimal n small))

good_after_comma : (rest : List ℕ) → IsGoodTest rest → IsGoodTest (comma ∷ rest)
good_after_comma rest good = IsGoodTest-append (comma ∷ []) rest (IsGoodTest-plain (comma ∷ []) (All-cons IsPlain comma [] (lit< tt) (All-nil IsPlain))) good

-- a front, a number, a comma and a text fit into one line together if the text does
good_field : (front : List ℕ) (n : ℕ) (rest : List ℕ) → All IsPlain front → n < 2 ^ 128 → IsGoodTest rest → IsGoodTest ((front ++ decimal n) ++ comma ∷ rest)
good_field front n rest plain small good =
    IsGoodTest-append (front ++ decimal n) (comma ∷ rest) (good_number front n plain small) (good_after_comma rest good)

-- the same without a front
good_first : (n : ℕ) (rest : List ℕ) → n < 2 ^ 128 → IsGoodTest rest → IsGoodTest (decimal n ++ comma ∷ rest)
good_first n rest small good = good_field [] n rest (All-nil IsPlain) small good

-- a branch's record fits into one line if the text of its last field does
good_branch : (number block branch : ℕ) (text : List ℕ) → number < 2 ^ 64 → block < 2 ^ 64 → branch < 2 ^ 64 → IsGoodTest text → IsGoodTest (codes "BRDA:" ++ decimal number ++ comma ∷ (decimal block ++ comma ∷ (decimal branch ++ comma ∷ text)))
good_branch number block branch text first second third good =
    good_field (codes "BRDA:") number (decimal block ++ comma ∷ (decimal branch ++ comma ∷ text)) plain_branch (wide number first)
    (good_first block (decimal branch ++ comma ∷ text) (wide block second) (good_first branch text (wide branch third) good))

good_minus : IsGoodTest (codes "-")
good_minus = IsGoodTest-plain (codes "-") (All-from_recursion IsPlain (codes "-") (lit< tt, tt))

good_decimal : (n : ℕ) → n < 2 ^ 128 → IsGoodTest (decimal n)
good_decimal n small = IsGoodTest-plain (decimal n) (plain_decimal n small)

-- ---- lines

one_line : (text : List ℕ) → IsGoodTest text → lines_of (text ++ line_feed ∷ []) ≡ text ∷ []
one_line text good = lines_at text [] good.one_line ∙ ap (λ (t : List ℕ). t ∷ []) (strip-none text good.no_return)

good_text : (says : LineData) → IsReadable says → IsGoodTest (line_text says)
good_text (Test name) reads = IsGoodTest-append (codes "TN:") name (IsGoodTest-plain (codes "TN:") plain_test) reads.texts
good_text (Path path) reads = IsGoodTest-append (codes "SF:") path (IsGoodTest-plain (codes "SF:") plain_path) reads.texts.fits
good_text (FuncStart number name) reads = good_field (codes "FN:") number name plain_start (wide number reads.small) reads.texts.fits
good_text (FuncCount count name) reads = good_field (codes "FNDA:") count name plain_count reads.small reads.texts.fits
good_text (Branch number block branch None) reads =
    good_branch number block branch (codes "-") reads.small.0 reads.small.1 reads.small.2 good_minus
good_text (Branch number block branch (Some taken)) reads =
    good_branch number block branch (decimal taken) reads.small.0 reads.small.1 reads.small.2 (good_decimal taken reads.small.3)
good_text (Line number count None) reads =
    good_field (codes "DA:") number (decimal count ++ []) plain_line (wide number reads.small.0)
    (IsGoodTest-append (decimal count) [] (good_decimal count reads.small.1) (IsGoodTest-plain [] (All-nil IsPlain)))
good_text (Line number count (Some checksum)) reads =
    good_field (codes "DA:") number (decimal count ++ comma ∷ checksum) plain_line (wide number reads.small.0)
    (good_first count checksum reads.small.1 (IsGoodTest-checksum checksum reads.texts))
good_text (Total kind value) reads = good_number (key_of kind) value (plain_total kind) (wide value reads.small)
good_text End reads = IsGoodTest-plain (codes "end_of_record") plain_end
good_text Skip reads = absurd reads.texts

lines_printed : (says : LineData) → IsReadable says → lines_of (printed says) ≡ line_text says ∷ []
lines_printed (Test name) reads = one_line (line_text (Test name)) (good_text (Test name) reads)
lines_printed (Path path) reads = one_line (line_text (Path path)) (good_text (Path path) reads)
lines_printed (FuncStart number name) reads = one_line (line_text (FuncStart number name)) (good_text (FuncStart number name) reads)
lines_printed (FuncCount count name) reads = one_line (line_text (FuncCount count name)) (good_text (FuncCount count name) reads)
lines_printed (Branch number block branch taken) reads =
    one_line (line_text (Branch number block branch taken)) (good_text (Branch number block branch taken) reads)
lines_printed (Line number count checksum) reads =
    one_line (line_text (Line number count checksum)) (good_text (Line number count checksum) reads)
lines_printed (Total kind value) reads = one_line (line_text (Total kind value)) (good_text (Total kind value) reads)
lines_printed End reads = one_line (line_text End) (good_text End reads)
lines_printed Skip reads = absurd reads.texts

spells_printed : (says : LineData) → IsReadable says → Spells (line_text says) says
spells_printed (Test name) reads = record { form = refl; small = tt }
spells_printed (Path path) reads = record { form = (refl, reads.texts.some); small = tt }
spells_printed (FuncStart number name) reads = record {
  form = (decimal number, refl, IsNumeral-small number reads.small, reads.texts.some);
  small = reads.small;
}
spells_printed (FuncCount count name) reads = record {
  form = (decimal count, refl, inl (IsNumeral-decimal count reads.small), reads.texts.some);
  small = reads.small;
}
spells_printed (Branch number block branch None) reads = record {
  form = (decimal number, decimal block, decimal branch, codes "-", refl, IsNumeral-small number reads.small.0, IsNumeral-small block reads.small.1, IsNumeral-small branch reads.small.2, refl);
  small = reads.small;
}
spells_printed (Branch number block branch (Some taken)) reads = record {
  form = (decimal number, decimal block, decimal branch, decimal taken, refl, IsNumeral-small number reads.small.0, IsNumeral-small block reads.small.1, IsNumeral-small branch reads.small.2, IsNumeral-decimal taken reads.small.3);
  small = reads.small;
}
spells_printed (Line number count None) reads = record {
  form = (decimal number, decimal count, ap (λ (t : List ℕ). codes "DA:" ++ decimal number ++ comma ∷ t) (append-nil (decimal count)), IsNumeral-small number reads.small.0, inl (IsNumeral-decimal count reads.small.1));
  small = reads.small;
}
spells_printed (Line number count (Some checksum)) reads = record {
  form = (decimal number, decimal count, refl, IsNumeral-small number reads.small.0, inl (IsNumeral-decimal count reads.small.1), reads.texts);
  small = reads.small;
}
spells_printed (Total kind value) reads = record {
  form = (decimal value, refl, IsNumeral-small value reads.small);
  small = reads.small;
}
spells_printed End reads = record { form = ([], sym (append-nil (codes "end_of_record"))); small = tt }
spells_printed Skip reads = absurd reads.texts

-- the text that is printed for a record has one line, and this line spells the record
pub printed-spells : (says : LineData) → IsReadable says → (lines_of (printed says) ≡ line_text says ∷ []) × Spells (line_text says) says
printed-spells says reads = (lines_printed says reads, spells_printed says reads)
