-- The start line of a function among packed items is replaced.
use Rattle.std.proofs.Common.{◌≡◌, ◌≢◌, ℕ, zero, suc, ◌+◌, ◌-◌, ◌*◌, ◌<◌, ◌≤◌, ◌%◌, Bool, true, false, if◌then◌else◌, nat_lt, List, [], ◌∷◌, length, take, drop, get_or, slice_set, refl, sym, ap, ◌∙◌, subst, arith}
use Rattle.std.specs.List.{AllByRecursion}
use Rattle.std.proofs.lemmas.Bool.{ltb-false}
use Rattle.std.proofs.lemmas.List.{get_or_read, get_or-set_other, get_or-set_same, length-drop, length-map, length-set}
use Rattle.covdata.specs.Row.{ItemData, SectData, with_start}
use Rattle.covpacked.specs.declared.packed_sects.ClosedSect.{ClosedSect}
use Rattle.covpacked.specs.declared.parts.Kind.{Kind}
use Rattle.covpacked.specs.declared.parts.Kind.TheVariants.{Line, Checked, Taken, Untaken, Function}
use Rattle.covpacked.specs.declared.parts.Parts.{Parts}
use Rattle.covpacked.specs.Layout.{HasText, LieBetween, begin_of, place_of, room_of, text_end, with_line, with_line_of}
use Rattle.covpacked.specs.OpenItems.{start_set}
use Rattle.covpacked.specs.PackedView.{ArePacked, PackedData, closed_items, items_of, packed_data, sects_of}
use Rattle.covpacked.specs.Words.{item_of, item_of_kind, item_of_parts, kind_of, line_in, long_parts, long_word, number_at, parts_of, short_parts, text_at, upper_in}
use Rattle.covpacked.proofs.Layouts.{lie_below, parts_within}
use Rattle.covpacked.proofs.Packeds.{begin_lower}
use Rattle.covpacked.proofs.Packing.{after_long, is_long, long_begin, long_is, long_room, short_is}

-- ---- the item of one word

-- `after` are the numbers after the line of this word's item was replaced, if the item is a function. No other item's numbers changed
record IsLineSet (texts numbers : List ℕ) (line from word : ℕ) (after : List ℕ) : Type 0 where
  pub before : (n : ℕ) → n < begin_of from word → number_at after n ≡ number_at numbers n
  pub behind : (n : ℕ) → begin_of from word + room_of word ≤ n → number_at after n ≡ number_at numbers n
  pub same_length : length after ≡ length numbers
  pub item : item_of after texts word ≡ with_start line (item_of numbers texts word)
  pub text : HasText numbers texts word → HasText after texts word

module _ (texts numbers : List ℕ) (line from : ℕ) where
  no_line_set : (word : ℕ) → item_of numbers texts word ≡ with_start line (item_of numbers texts word) → IsLineSet texts numbers line from word numbers
  no_line_set word e = record { before = λ n l. refl; behind = λ n l. refl; same_length = refl; item = e; text = λ has. has }

  -- no short word is a function's
  short_kept : (at upper : ℕ) (k : Kind) → item_of_parts texts (short_parts numbers at upper k) ≡ with_start line (item_of_parts texts (short_parts numbers at upper k))
  short_kept at upper Line = refl
  short_kept at upper Checked = refl
  short_kept at upper Taken = refl
  short_kept at upper Untaken = refl
  short_kept at upper Function = refl

  short_line_set : (word : ℕ) → nat_lt word long_word ≡ true → IsLineSet texts numbers line from word (with_line word line numbers)
  short_line_set word short =
      subst (λ (b : Bool). IsLineSet texts numbers line from word (if b then numbers else with_line_of (kind_of (number_at numbers (word - long_word))) (word - long_word) line numbers)) (sym short)
      (no_line_set word (subst (λ (p : Parts). item_of_parts texts p ≡ with_start line (item_of_parts texts p)) (sym (short_is numbers word short)) (short_kept (line_in word) (upper_in word) (kind_of (word % 4)))))

  module _ (n : ℕ) (fits : n + 6 ≤ length numbers) where
    abbrev after : List ℕ
    after = slice_set numbers (n + 1) line

    other : (m : ℕ) → m ≢ n + 1 → number_at after m ≡ number_at numbers m
    other m ne = get_or-set_other numbers (n + 1) m line 0 ne

    abbrev with_its_line : Parts → Parts
    with_its_line p = record { kind = p.kind; line = line; count = p.count; first = p.first; second = p.second }

    long_set : long_parts after n ≡ with_its_line (long_parts numbers n)
    long_set i = record {
      kind = kind_of (other n (omega arith) i);
      line = get_or-set_same numbers (n + 1) line 0 (omega (arith, fits)) i;
      count = other (n + 3) (omega arith) i * 18446744073709551616 + other (n + 2) (omega arith) i;
      first = other (n + 4) (omega arith) i;
      second = other (n + 5) (omega arith) i;
    }

    parts_set : parts_of after (long_word + n) ≡ with_its_line (parts_of numbers (long_word + n))
    parts_set = long_is after n ∙ long_set ∙ ap with_its_line (sym (long_is numbers n))

    function_kind : kind_of (number_at numbers n) ≡ Function → (parts_of numbers (long_word + n)).kind ≡ Function
    function_kind e = ap (λ (p : Parts). p.kind) (long_is numbers n) ∙ e

    start_is : (p : Parts) → p.kind ≡ Function → item_of_parts texts (with_its_line p) ≡ with_start line (item_of_parts texts p)
    start_is p e = subst (λ (k : Kind). item_of_kind texts (with_its_line p) k ≡ with_start line (item_of_kind texts p k)) (sym e) refl

    end_is : (p : Parts) (k : Kind) → text_end (with_its_line p) k ≡ text_end p k
    end_is p Line = refl
    end_is p Checked = refl
    end_is p Taken = refl
    end_is p Untaken = refl
    end_is p Function = refl

    function_line_set : kind_of (number_at numbers n) ≡ Function → IsLineSet texts numbers line from (long_word + n) after
    function_line_set e = record {
      before = λ m l. other m (let b = long_begin from n in omega (arith, b, l));
      behind = λ m l. other m (let b = long_begin from n in let r = long_room n in omega (arith, b, r, l));
      same_length = length-set numbers (n + 1) line;
      item = ap (item_of_parts texts) parts_set ∙ start_is (parts_of numbers (long_word + n)) (function_kind e);
      text = λ has. subst (λ (p : Parts). text_end p p.kind ≤ length texts) (sym parts_set) (let p = parts_of numbers (long_word + n) in let same = end_is p p.kind in omega (arith, same, has));
    }

    other_kept : (k : Kind) → kind_of (number_at numbers n) ≡ k → item_of_kind texts (long_parts numbers n) k ≡ with_start line (item_of_kind texts (long_parts numbers n) k) → IsLineSet texts numbers line from (long_word + n) numbers
    other_kept k e kept =
        no_line_set (long_word + n)
        (subst (λ (p : Parts). item_of_parts texts p ≡ with_start line (item_of_parts texts p)) (sym (long_is numbers n))
        (subst (λ (kind : Kind). item_of_kind texts (long_parts numbers n) kind ≡ with_start line (item_of_kind texts (long_parts numbers n) kind)) (sym e) kept))

    long_line_set_at : (k : Kind) → kind_of (number_at numbers n) ≡ k → IsLineSet texts numbers line from (long_word + n) (with_line_of k n line numbers)
    long_line_set_at Line e = other_kept Line e refl
    long_line_set_at Checked e = other_kept Checked e refl
    long_line_set_at Taken e = other_kept Taken e refl
    long_line_set_at Untaken e = other_kept Untaken e refl
    long_line_set_at Function e = function_line_set e

    long_line_is : with_line (long_word + n) line numbers ≡ with_line_of (kind_of (number_at numbers n)) n line numbers
    long_line_is =
        ap (λ (b : Bool). if b then numbers else with_line_of (kind_of (number_at numbers (long_word + n - long_word))) (long_word + n - long_word) line numbers) (is_long n)
        ∙ ap (λ (m : ℕ). with_line_of (kind_of (number_at numbers m)) m line numbers) (after_long n)

    long_line_set : IsLineSet texts numbers line from (long_word + n) (with_line (long_word + n) line numbers)
    long_line_set = subst (IsLineSet texts numbers line from (long_word + n)) (sym long_line_is) (long_line_set_at (kind_of (number_at numbers n)) refl)

  line_set_at : (word : ℕ) (b : Bool) → nat_lt word long_word ≡ b → begin_of from word + room_of word ≤ length numbers → IsLineSet texts numbers line from word (with_line word line numbers)
  line_set_at word true e le = short_line_set word e
  line_set_at word false e le =
      let n = word - long_word in
      let above = ltb-false word long_word e in
      let is : long_word + n ≡ word = omega (arith, above) in
      let fits = subst (λ (w : ℕ). begin_of from w + room_of w ≤ length numbers) (sym is) le in
      subst (λ (w : ℕ). IsLineSet texts numbers line from w (with_line w line numbers)) is
      (long_line_set n (let b = long_begin from n in let r = long_room n in omega (arith, b, r, fits)))

  line_set : (word : ℕ) → begin_of from word + room_of word ≤ length numbers → IsLineSet texts numbers line from word (with_line word line numbers)
  line_set word le = line_set_at word (nat_lt word long_word) refl le

-- ---- the items of all words

-- the numbers of the word at this index lie in the list
word_lies : (end from : ℕ) (words : List ℕ) (k word : ℕ) → k < length words → word ≡ get_or words k 0 → LieBetween end from words → (from ≤ begin_of from word) × (begin_of from word + room_of word ≤ end)
word_lies end from [] k word in_words is lie = absurd (omega (arith, in_words))
word_lies end from (w ∷ words) zero word in_words is (le, lie) =
    subst (λ (v : ℕ). (from ≤ begin_of from v) × (begin_of from v + room_of v ≤ end)) (sym is) (le, lie_below end (begin_of from w + room_of w) words lie)
word_lies end from (w ∷ words) (suc k) word in_words is (le, lie) =
    let lies = word_lies end (begin_of from w + room_of w) words k word (omega (arith, in_words)) is lie in
    begin_lower end (begin_of from w + room_of w) from (room_of word) (place_of word) (omega (arith, le)) lies.0 lies.1

module _ (texts numbers : List ℕ) (line word : ℕ) where
  abbrev set : List ℕ
  set = with_line word line numbers

  -- words whose numbers lie behind those of the word
  module _ (low : ℕ) (same : (n : ℕ) → low ≤ n → number_at set n ≡ number_at numbers n) where
    behind_parts : (from w : ℕ) → low ≤ begin_of from w → parts_of set w ≡ parts_of numbers w
    behind_parts from w le = parts_within numbers set low (begin_of from w + room_of w) (λ n lo hi. same n lo) from w le (omega arith)

    behind_items : (from : ℕ) (words : List ℕ) (end : ℕ) → low ≤ from → LieBetween end from words → items_of set texts words ≡ items_of numbers texts words
    behind_items from [] end lo lie = refl
    behind_items from (w ∷ words) end lo (le, lie) =
        ap (λ (p : Parts). item_of_parts texts p ∷ items_of set texts words) (behind_parts from w (omega (arith, lo, le)))
        ∙ ap (λ (items : List ItemData). item_of numbers texts w ∷ items) (behind_items (begin_of from w + room_of w) words end (omega (arith, lo, le)) lie)

    behind_texts : (from : ℕ) (words : List ℕ) (end : ℕ) → low ≤ from → LieBetween end from words → AllByRecursion (HasText numbers texts) words → AllByRecursion (HasText set texts) words
    behind_texts from [] end lo lie has = has
    behind_texts from (w ∷ words) end lo (le, lie) (has, have) = (
      subst (λ (p : Parts). text_end p p.kind ≤ length texts) (sym (behind_parts from w (omega (arith, lo, le)))) has,
      behind_texts (begin_of from w + room_of w) words end (omega (arith, lo, le)) lie have,
    )

  -- words in front of the word, which is at this index of the words behind them
  before_parts : (from w : ℕ) (words : List ℕ) (k : ℕ) → k < length words → word ≡ get_or words k 0 → LieBetween (length numbers) (begin_of from w + room_of w) words → parts_of set w ≡ parts_of numbers w
  before_parts from w words k in_words is lie =
      let lies = word_lies (length numbers) (begin_of from w + room_of w) words k word in_words is lie in
      let done = line_set texts numbers line (begin_of from w + room_of w) word lies.1 in
      parts_within numbers set 0 (begin_of from w + room_of w) (λ n lo hi. done.before n (let le = lies.0 in omega (arith, hi, le))) from w (omega arith) (omega arith)

  -- what is said of the word holds of the first of the words, which is the word
  module _ (from w : ℕ) (words : List ℕ) (is : word ≡ w) (lie : LieBetween (length numbers) from (w ∷ words)) where
    first_set : IsLineSet texts numbers line from w set
    first_set = subst (λ (v : ℕ). IsLineSet texts numbers line from v set) is (line_set texts numbers line from word (word_lies (length numbers) from (w ∷ words) 0 word (omega arith) is lie).1)

  set_items : (from : ℕ) (words : List ℕ) (k : ℕ) → k < length words → word ≡ get_or words k 0 → LieBetween (length numbers) from words → items_of set texts words ≡ start_set k line (items_of numbers texts words)
  set_items from [] k in_words is lie = absurd (omega (arith, in_words))
  set_items from (w ∷ words) zero in_words is (le, lie) =
      let done = first_set from w words is (le, lie) in
      ap (λ (item : ItemData). item ∷ items_of set texts words) done.item
      ∙ ap (λ (items : List ItemData). with_start line (item_of numbers texts w) ∷ items) (behind_items (begin_of from w + room_of w) done.behind (begin_of from w + room_of w) words (length numbers) (omega arith) lie)
  set_items from (w ∷ words) (suc k) in_words is (le, lie) =
      ap (λ (p : Parts). item_of_parts texts p ∷ items_of set texts words) (before_parts from w words k (omega (arith, in_words)) is lie)
      ∙ ap (λ (items : List ItemData). item_of numbers texts w ∷ items) (set_items (begin_of from w + room_of w) words k (omega (arith, in_words)) is lie)

  set_texts : (from : ℕ) (words : List ℕ) (k : ℕ) → k < length words → word ≡ get_or words k 0 → LieBetween (length numbers) from words → AllByRecursion (HasText numbers texts) words → AllByRecursion (HasText set texts) words
  set_texts from [] k in_words is lie has = has
  set_texts from (w ∷ words) zero in_words is (le, lie) (has, have) =
      let done = first_set from w words is (le, lie) in
      (done.text has, behind_texts (begin_of from w + room_of w) done.behind (begin_of from w + room_of w) words (length numbers) (omega arith) lie have)
  set_texts from (w ∷ words) (suc k) in_words is (le, lie) (has, have) = (
    subst (λ (p : Parts). text_end p p.kind ≤ length texts) (sym (before_parts from w words k (omega (arith, in_words)) is lie)) has,
    set_texts (begin_of from w + room_of w) words k (omega (arith, in_words)) is lie have,
  )

-- ---- the open section

drop-start_set : (closed k at line : ℕ) (items : List ItemData) → k ≡ closed + at → drop closed (start_set k line items) ≡ start_set at line (drop closed items)
drop-start_set zero k at line items e = ap (λ (n : ℕ). start_set n line items) (omega (arith, e))
drop-start_set (suc closed) k at line [] e = refl
drop-start_set (suc closed) zero at line (item ∷ items) e = absurd (omega (arith, e))
drop-start_set (suc closed) (suc k) at line (item ∷ items) e = drop-start_set closed k at line items (omega (arith, e))

take-start_set : (n k line : ℕ) (items : List ItemData) → n ≤ k → take n (start_set k line items) ≡ take n items
take-start_set zero k line items le = refl
take-start_set (suc n) zero line items le = absurd (omega (arith, le))
take-start_set (suc n) (suc k) line [] le = refl
take-start_set (suc n) (suc k) line (item ∷ items) le = ap (λ (rest : List ItemData). item ∷ rest) (take-start_set n k line items (omega (arith, le)))

-- no closed section changes
closed_same : (texts : List ℕ) (items : List ItemData) (sects : List ClosedSect) (k line : ℕ) → closed_items sects ≤ k → sects_of texts (start_set k line items) sects ≡ sects_of texts items sects
closed_same texts items [] k line le = refl
closed_same texts items (s ∷ sects) k line le =
    let m : closed_items (s ∷ sects) ≡ s.items + closed_items sects = refl in
    let j = k - s.items in
    let e : k ≡ s.items + j = omega (arith, le, m) in
    ap (λ (some : List ItemData). record { test = text_at texts s.test.begin s.test.bytes; file = text_at texts s.file.begin s.file.bytes; items = some } ∷ sects_of texts (drop s.items (start_set k line items)) sects) (take-start_set s.items k line items (omega (arith, le, m)))
    ∙ ap (λ (rest : List SectData). record { test = text_at texts s.test.begin s.test.bytes; file = text_at texts s.file.begin s.file.bytes; items = take s.items items } ∷ rest)
    (ap (λ (some : List ItemData). sects_of texts some sects) (drop-start_set s.items k j line items e)
    ∙ closed_same texts (drop s.items items) sects j line (omega (arith, le, m)))

-- the word at this place of the open section, whose items `old` has
module _ (numbers texts words : List ℕ) (sects : List ClosedSect) (closed : ℕ) (ok : ArePacked numbers texts words sects closed) (old : PackedData) (view_is : packed_data numbers texts words sects closed ≡ old) (at word : ℕ) (in_items : at < length old.items)
    (read : word ≡ get_or words (closed + at) word) where
  in_words : closed + at < length words
  in_words =
      let open_items = subst (λ (d : PackedData). at < length d.items) (sym view_is) in_items in
      let d = length-drop closed (items_of numbers texts words) in
      let l = length-map words (item_of numbers texts) in
      omega (arith, open_items, d, l)

  is : word ≡ get_or words (closed + at) 0
  is = get_or_read words (closed + at) word in_words read 0

  pub has_numbers : begin_of 0 word + room_of word ≤ length numbers
  has_numbers = (word_lies (length numbers) 0 words (closed + at) word in_words is ok.lie).1

  module _ (line : ℕ) (after : List ℕ) (set_is : after ≡ with_line word line numbers) where
    started_at : ArePacked (with_line word line numbers) texts words sects closed
    started_at = record {
      all = ok.all;
      few = ok.few;
      lie = subst (λ (end : ℕ). LieBetween end 0 words) (sym (line_set texts numbers line 0 word has_numbers).same_length) ok.lie;
      item_texts = set_texts texts numbers line word 0 words (closed + at) in_words is ok.lie ok.item_texts;
      names = ok.names;
    }

    pub started_ok : ArePacked after texts words sects closed
    started_ok = subst (λ (ns : List ℕ). ArePacked ns texts words sects closed) (sym set_is) started_at

    started_items : items_of after texts words ≡ start_set (closed + at) line (items_of numbers texts words)
    started_items = ap (λ (ns : List ℕ). items_of ns texts words) set_is ∙ set_items texts numbers line word 0 words (closed + at) in_words is ok.lie

    pub started_sects : (packed_data after texts words sects closed).sects ≡ old.sects
    started_sects =
        ap (λ (items : List ItemData). sects_of texts items sects) started_items
        ∙ closed_same texts (items_of numbers texts words) sects (closed + at) line (let all = ok.all in omega (arith, all))
        ∙ ap (λ (d : PackedData). d.sects) view_is

    pub started_open : (packed_data after texts words sects closed).items ≡ start_set at line old.items
    started_open =
        ap (drop closed) started_items
        ∙ drop-start_set closed (closed + at) at line (items_of numbers texts words) refl
        ∙ ap (λ (d : PackedData). start_set at line d.items) view_is
