-- Items stay the same while their lists grow.
use Rattle.std.proofs.Common.{◌≡◌, ℕ, ◌+◌, ◌-◌, ◌*◌, ◌/◌, ◌<◌, ◌≤◌, ◌%◌, Bool, true, false, if◌then◌else◌, nat_lt, List, [], ◌∷◌, ◌++◌, length, take, drop, Some, refl, sym, ap, ◌∙◌, subst, arith}
use Rattle.std.specs.List.{AllByRecursion}
use Rattle.std.proofs.lemmas.List.{get_or_append_left, length-append, length-drop, drop-append-le, take-append-le}
use Rattle.covdata.specs.Row.{ItemData, LineItem, FuncItem}
use Rattle.covpacked.specs.declared.parts.Kind.{Kind}
use Rattle.covpacked.specs.declared.parts.Kind.TheVariants.{Line, Checked, Taken, Untaken, Function}
use Rattle.covpacked.specs.declared.parts.Parts.{Parts}
use Rattle.covpacked.specs.Layout.{HasText, LieBetween, begin_at, begin_of, room_of, short_room, text_end}
use Rattle.covpacked.specs.PackedView.{items_of}
use Rattle.covpacked.specs.Words.{item_of, item_of_kind, item_of_parts, kind_of, line_in, long_parts, long_word, number_at, parts_of, short_parts, text_at, upper_in}

-- ---- the parts of a word

-- two lists of numbers that are the same from `low` on and below `high`
module _ (numbers after : List ℕ) (low high : ℕ) (same_number : (n : ℕ) → low ≤ n → n < high → number_at after n ≡ number_at numbers n) where
  short_same : (line upper : ℕ) (k : Kind) → low ≤ upper → upper + short_room k ≤ high → short_parts after line upper k ≡ short_parts numbers line upper k
  short_same line upper Line lo le = refl
  short_same line upper Checked lo le =
      ap (λ (n : ℕ). record { kind = Checked; line = line; count = n % 4294967296; first = number_at after (upper + 1); second = n / 4294967296 }) (same_number upper lo (omega (arith, le)))
      ∙ ap (λ (n : ℕ). record { kind = Checked; line = line; count = number_at numbers upper % 4294967296; first = n; second = number_at numbers upper / 4294967296 }) (same_number (upper + 1) (omega (arith, lo)) (omega (arith, le)))
  short_same line upper Taken lo le = ap (λ (n : ℕ). record { kind = Taken; line = line; count = n / 4294967296; first = n % 65536; second = n / 65536 % 65536 }) (same_number upper lo (omega (arith, le)))
  short_same line upper Untaken lo le = ap (λ (n : ℕ). record { kind = Untaken; line = line; count = n / 4294967296; first = n % 65536; second = n / 65536 % 65536 }) (same_number upper lo (omega (arith, le)))
  short_same line upper Function lo le = refl

  long_same : (n : ℕ) → low ≤ n → n + 6 ≤ high → long_parts after n ≡ long_parts numbers n
  long_same n lo le i = record {
    kind = kind_of (same_number n lo (omega (arith, le)) i);
    line = same_number (n + 1) (omega (arith, lo)) (omega (arith, le)) i;
    count = same_number (n + 3) (omega (arith, lo)) (omega (arith, le)) i * 18446744073709551616 + same_number (n + 2) (omega (arith, lo)) (omega (arith, le)) i;
    first = same_number (n + 4) (omega (arith, lo)) (omega (arith, le)) i;
    second = same_number (n + 5) (omega (arith, lo)) (omega (arith, le)) i;
  }

  -- a short word of this kind, which has its numbers there
  short_word_same : (from word : ℕ) (k : Kind) → nat_lt word long_word ≡ true → kind_of (word % 4) ≡ k → low ≤ begin_at (short_room k) from (upper_in word) → begin_at (short_room k) from (upper_in word) + short_room k ≤ high
      → short_parts after (line_in word) (upper_in word) k ≡ short_parts numbers (line_in word) (upper_in word) k
  short_word_same from word Line short e lo le = refl
  short_word_same from word Checked short e lo le = short_same (line_in word) (upper_in word) Checked lo le
  short_word_same from word Taken short e lo le = short_same (line_in word) (upper_in word) Taken lo le
  short_word_same from word Untaken short e lo le = short_same (line_in word) (upper_in word) Untaken lo le
  short_word_same from word Function short e lo le = refl

  parts_within_at : (from word : ℕ) (b : Bool) → nat_lt word long_word ≡ b → low ≤ begin_at (if b then short_room (kind_of (word % 4)) else 6) from (if b then upper_in word else word - long_word)
      → begin_at (if b then short_room (kind_of (word % 4)) else 6) from (if b then upper_in word else word - long_word) + (if b then short_room (kind_of (word % 4)) else 6) ≤ high
      → (if b then short_parts after (line_in word) (upper_in word) (kind_of (word % 4)) else long_parts after (word - long_word))
      ≡ (if b then short_parts numbers (line_in word) (upper_in word) (kind_of (word % 4)) else long_parts numbers (word - long_word))
  parts_within_at from word true e lo le = short_word_same from word (kind_of (word % 4)) e refl lo le
  parts_within_at from word false e lo le = long_same (word - long_word) lo le

  pub parts_within : (from word : ℕ) → low ≤ begin_of from word → begin_of from word + room_of word ≤ high → parts_of after word ≡ parts_of numbers word
  parts_within from word lo le = parts_within_at from word (nat_lt word long_word) refl lo le

pub parts_same : (numbers more : List ℕ) (from word : ℕ) → begin_of from word + room_of word ≤ length numbers → parts_of (numbers ++ more) word ≡ parts_of numbers word
parts_same numbers more from word le = parts_within numbers (numbers ++ more) 0 (length numbers) (λ n lo l. get_or_append_left numbers more 0 n l) from word (omega arith) le

-- ---- texts

pub text_same : (texts more : List ℕ) (begin bytes : ℕ) → begin + bytes ≤ length texts → text_at (texts ++ more) begin bytes ≡ text_at texts begin bytes
text_same texts more begin bytes le =
    ap (take bytes) (drop-append-le begin texts more (omega (arith, le)))
    ∙ take-append-le bytes (drop begin texts) more (let l = length-drop begin texts in omega (arith, l, le))

item_kind_same : (texts more : List ℕ) (p : Parts) (k : Kind) → text_end p k ≤ length texts → item_of_kind (texts ++ more) p k ≡ item_of_kind texts p k
item_kind_same texts more p Line le = refl
item_kind_same texts more p Checked le = ap (λ (text : List ℕ). LineItem p.line p.count (Some text)) (text_same texts more p.first p.second le)
item_kind_same texts more p Taken le = refl
item_kind_same texts more p Untaken le = refl
item_kind_same texts more p Function le = ap (λ (text : List ℕ). FuncItem text p.line p.count) (text_same texts more p.first p.second le)

-- ---- items

pub lie_below : (end from : ℕ) (words : List ℕ) → LieBetween end from words → from ≤ end
lie_below end from [] le = le
lie_below end from (word ∷ words) (le, rest) = let l = lie_below end (begin_of from word + room_of word) words rest in omega (arith, le, l)

pub lie_longer : (end more from : ℕ) (words : List ℕ) → end ≤ more → LieBetween end from words → LieBetween more from words
lie_longer end more from [] longer le = omega (arith, longer, le)
lie_longer end more from (word ∷ words) longer (le, rest) = (le, lie_longer end more (begin_of from word + room_of word) words longer rest)

module _ (numbers more-numbers texts more-texts : List ℕ) where
  pub word_same : (from word : ℕ) → begin_of from word + room_of word ≤ length numbers → HasText numbers texts word → item_of (numbers ++ more-numbers) (texts ++ more-texts) word ≡ item_of numbers texts word
  word_same from word le has =
      ap (item_of_parts (texts ++ more-texts)) (parts_same numbers more-numbers from word le)
      ∙ item_kind_same texts more-texts (parts_of numbers word) (parts_of numbers word).kind has

  pub items_same : (from : ℕ) (words : List ℕ) → LieBetween (length numbers) from words → AllByRecursion (HasText numbers texts) words → items_of (numbers ++ more-numbers) (texts ++ more-texts) words ≡ items_of numbers texts words
  items_same from [] lie has = refl
  items_same from (word ∷ words) (le, lie) (has, have) =
      ap (λ (item : ItemData). item ∷ items_of (numbers ++ more-numbers) (texts ++ more-texts) words) (word_same from word (lie_below (length numbers) (begin_of from word + room_of word) words lie) has)
      ∙ ap (λ (items : List ItemData). item_of numbers texts word ∷ items) (items_same (begin_of from word + room_of word) words lie have)

  pub texts_same : (from : ℕ) (words : List ℕ) → LieBetween (length numbers) from words → AllByRecursion (HasText numbers texts) words → AllByRecursion (HasText (numbers ++ more-numbers) (texts ++ more-texts)) words
  texts_same from [] lie has = has
  texts_same from (word ∷ words) (le, lie) (has, have) = (
    subst (λ (p : Parts). text_end p p.kind ≤ length (texts ++ more-texts)) (sym (parts_same numbers more-numbers from word (lie_below (length numbers) (begin_of from word + room_of word) words lie))) (let l = length-append texts more-texts in omega (arith, has, l)),
    texts_same (begin_of from word + room_of word) words lie have,
  )
