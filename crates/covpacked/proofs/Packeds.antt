-- What packed sections say while their lists grow.
use Rattle.std.proofs.Common.{◌≡◌, ℕ, zero, suc, ◌+◌, ◌≤◌, List, [], ◌∷◌, ◌++◌, length, take, drop, Some, refl, sym, ap, ◌∙◌, subst, arith, append-nil}
use Rattle.std.specs.Prelude.{OnErr, OnOk, Result, Ok, Err}
use Rattle.std.specs.List.{AllByRecursion}
use Rattle.std.proofs.lemmas.List.{length-append, length-drop, length-map, drop-append-le, take-append-le, take_all, drop-drop, drop_all, map-append}
use Rattle.covdata.specs.Row.{ItemData, LineItem, FuncItem, SectData}
use Rattle.covpacked.specs.declared.packed_sects.ClosedSect.{ClosedSect}
use Rattle.covpacked.specs.declared.parts.Kind.{Kind}
use Rattle.covpacked.specs.declared.parts.Kind.TheVariants.{Line, Checked, Taken, Untaken, Function}
use Rattle.covpacked.specs.declared.parts.Parts.{Parts}
use Rattle.covpacked.specs.Layout.{BeginWith, HasText, IsAppended, IsPackedAs, LieBetween, begin_at, begin_of, place_of, room_of, text_end}
use Rattle.covpacked.specs.PackedView.{ArePacked, HasTexts, PackedData, closed_items, items_of, packed_data, sects_of}
use Rattle.covpacked.specs.Words.{HasItsText, HasNoText, item_of, item_of_kind, item_of_parts, item_with_text, text_at}
use Rattle.covpacked.proofs.Layouts.{items_same, lie_longer, text_same, texts_same}

-- ---- the closed sections

names_same : (texts more : List ℕ) (items : List ItemData) (sects : List ClosedSect) → AllByRecursion (HasTexts texts) sects → sects_of (texts ++ more) items sects ≡ sects_of texts items sects
names_same texts more items [] has = refl
names_same texts more items (s ∷ sects) (has, have) =
    ap (λ (test : List ℕ). record { test = test; file = text_at (texts ++ more) s.file.begin s.file.bytes; items = take s.items items } ∷ sects_of (texts ++ more) (drop s.items items) sects) (text_same texts more s.test.begin s.test.bytes has.test)
    ∙ ap (λ (file : List ℕ). record { test = text_at texts s.test.begin s.test.bytes; file = file; items = take s.items items } ∷ sects_of (texts ++ more) (drop s.items items) sects) (text_same texts more s.file.begin s.file.bytes has.file)
    ∙ ap (λ (rest : List SectData). record { test = text_at texts s.test.begin s.test.bytes; file = text_at texts s.file.begin s.file.bytes; items = take s.items items } ∷ rest) (names_same texts more (drop s.items items) sects have)

have_names : (texts more : List ℕ) (sects : List ClosedSect) → AllByRecursion (HasTexts texts) sects → AllByRecursion (HasTexts (texts ++ more)) sects
have_names texts more [] has = has
have_names texts more (s ∷ sects) (has, have) =
    let l = length-append texts more in
    (record { test = omega (arith, l, has.test); file = omega (arith, l, has.file) }, have_names texts more sects have)

pub more_items : (s : ClosedSect) (sects : List ClosedSect) → closed_items (s ∷ sects) ≡ s.items + closed_items sects
more_items s sects = refl

-- further items change no closed section
pub sects_same : (texts : List ℕ) (items : List ItemData) (more : List ItemData) (sects : List ClosedSect) → closed_items sects ≤ length items → sects_of texts (items ++ more) sects ≡ sects_of texts items sects
sects_same texts items more [] le = refl
sects_same texts items more (s ∷ sects) le =
    ap (λ (some : List ItemData). record { test = text_at texts s.test.begin s.test.bytes; file = text_at texts s.file.begin s.file.bytes; items = some } ∷ sects_of texts (drop s.items (items ++ more)) sects) (take-append-le s.items items more (let m = more_items s sects in omega (arith, le, m)))
    ∙ ap (λ (rest : List SectData). record { test = text_at texts s.test.begin s.test.bytes; file = text_at texts s.file.begin s.file.bytes; items = take s.items items } ∷ rest)
    (ap (λ (some : List ItemData). sects_of texts some sects) (drop-append-le s.items items more (let m = more_items s sects in omega (arith, le, m)))
    ∙ sects_same texts (drop s.items items) more sects (let l = length-drop s.items items in let m = more_items s sects in omega (arith, le, l, m)))

-- a section that is closed has the items of the open one
pub sect_closed : (texts : List ℕ) (items : List ItemData) (sects : List ClosedSect) (s : ClosedSect) → closed_items sects + s.items ≡ length items
    → sects_of texts items (sects ++ s ∷ []) ≡ sects_of texts items sects ++ record { test = text_at texts s.test.begin s.test.bytes; file = text_at texts s.file.begin s.file.bytes; items = drop (closed_items sects) items } ∷ []
sect_closed texts items [] s e = ap (λ (some : List ItemData). record { test = text_at texts s.test.begin s.test.bytes; file = text_at texts s.file.begin s.file.bytes; items = some } ∷ []) (take_all s.items items (omega (arith, e)))
sect_closed texts items (first ∷ sects) s e =
    ap (λ (rest : List SectData). record { test = text_at texts first.test.begin first.test.bytes; file = text_at texts first.file.begin first.file.bytes; items = take first.items items } ∷ rest)
    (sect_closed texts (drop first.items items) sects s (let l = length-drop first.items items in let m = more_items first sects in omega (arith, e, l, m))
    ∙ ap (λ (some : List ItemData). sects_of texts (drop first.items items) sects ++ record { test = text_at texts s.test.begin s.test.bytes; file = text_at texts s.file.begin s.file.bytes; items = some } ∷ []) (drop-drop (closed_items sects) first.items items))

-- ---- lists that grow

pub begins_with_itself : (numbers : List ℕ) → BeginWith numbers numbers
begins_with_itself numbers = record { more = []; appended = sym (append-nil numbers) }

module _ (numbers texts words : List ℕ) (sects : List ClosedSect) (closed : ℕ) (ok : ArePacked numbers texts words sects closed) where
  pub few_items : closed_items sects ≤ length (items_of numbers texts words)
  few_items = let l = length-map words (item_of numbers texts) in omega (arith, ok.all, ok.few, l)

  grown_ok_at : (more-numbers more-texts : List ℕ) → ArePacked (numbers ++ more-numbers) (texts ++ more-texts) words sects closed
  grown_ok_at n t = record {
    all = ok.all;
    few = ok.few;
    lie = lie_longer (length numbers) (length (numbers ++ n)) 0 words (let l = length-append numbers n in omega (arith, l)) ok.lie;
    item_texts = texts_same numbers n texts t 0 words ok.lie ok.item_texts;
    names = have_names texts t sects ok.names;
  }

  grown_data_at : (more-numbers more-texts : List ℕ) → packed_data (numbers ++ more-numbers) (texts ++ more-texts) words sects closed ≡ packed_data numbers texts words sects closed
  grown_data_at n t =
      ap (λ (items : List ItemData). record { sects = sects_of (texts ++ t) items sects; items = drop closed items }) (items_same numbers n texts t 0 words ok.lie ok.item_texts)
      ∙ ap (λ (some : List SectData). record { sects = some; items = drop closed (items_of numbers texts words) }) (names_same texts t (items_of numbers texts words) sects ok.names)

  module _ (numbers-after texts-after : List ℕ) (n : BeginWith numbers-after numbers) (t : BeginWith texts-after texts) where
    pub grown_ok : ArePacked numbers-after texts-after words sects closed
    grown_ok = subst (λ (ns : List ℕ). ArePacked ns texts-after words sects closed) (sym n.appended) (subst (λ (ts : List ℕ). ArePacked (numbers ++ n.more) ts words sects closed) (sym t.appended) (grown_ok_at n.more t.more))

    pub grown_data : packed_data numbers-after texts-after words sects closed ≡ packed_data numbers texts words sects closed
    grown_data =
        ap (λ (ns : List ℕ). packed_data ns texts-after words sects closed) n.appended
        ∙ ap (λ (ts : List ℕ). packed_data (numbers ++ n.more) ts words sects closed) t.appended
        ∙ grown_data_at n.more t.more

-- ---- a further item

pub begin_lower : (end middle from room place : ℕ) → from ≤ middle → middle ≤ begin_at room middle place → begin_at room middle place + room ≤ end → (from ≤ begin_at room from place) × (begin_at room from place + room ≤ end)
begin_lower end middle from zero place le here rest = (omega arith, omega (arith, le, rest))
begin_lower end middle from (suc room) place le here rest = (omega (arith, le, here), rest)

lie_pushed : (end middle from : ℕ) (words : List ℕ) (word : ℕ) → LieBetween middle from words → LieBetween end middle (word ∷ []) → LieBetween end from (words ++ word ∷ [])
lie_pushed end middle from [] word le (here, rest) = begin_lower end middle from (room_of word) (place_of word) le here rest
lie_pushed end middle from (w ∷ words) word (le, rest) last = (le, lie_pushed end middle (begin_of from w + room_of w) words word rest last)

pub all_pushed : {X : Type 0} (P : X → Type 0) (xs : List X) (x : X) → AllByRecursion P xs → P x → AllByRecursion P (xs ++ x ∷ [])
all_pushed P [] x all here = (here, all)
all_pushed P (y ∷ xs) x (first, all) here = (first, all_pushed P xs x all here)

module _ (numbers texts words : List ℕ) (sects : List ClosedSect) (closed : ℕ) (ok : ArePacked numbers texts words sects closed) (p : Parts) (word : ℕ) (after : List ℕ) (is : IsPackedAs p word numbers after) (has : text_end p p.kind ≤ length texts) where
  abbrev grew : BeginWith after numbers
  grew = record { more = is.more; appended = is.appended }

  grown : ArePacked after texts words sects closed
  grown = grown_ok numbers texts words sects closed ok after texts grew (begins_with_itself texts)

  pub pushed_ok : ArePacked after texts (words ++ word ∷ []) sects closed
  pushed_ok = record {
    all = ok.all;
    few = (let l = length-append words (word ∷ []) in let few = ok.few in omega (arith, l, few));
    lie = lie_pushed (length after) (length numbers) 0 words word ok.lie is.lies;
    item_texts = all_pushed (HasText after texts) words word grown.item_texts (subst (λ (q : Parts). text_end q q.kind ≤ length texts) (sym is.read) has);
    names = ok.names;
  }

  items_pushed : items_of after texts (words ++ word ∷ []) ≡ items_of after texts words ++ item_of_parts texts p ∷ []
  items_pushed = map-append (item_of after texts) words (word ∷ []) ∙ ap (λ (q : Parts). items_of after texts words ++ item_of_parts texts q ∷ []) is.read

  few_grown : closed_items sects ≤ length (items_of after texts words)
  few_grown = few_items after texts words sects closed grown

  abbrev all_items : List ItemData
  all_items = items_of after texts words

  pub pushed_data : packed_data after texts (words ++ word ∷ []) sects closed
      ≡ record { sects = (packed_data numbers texts words sects closed).sects; items = (packed_data numbers texts words sects closed).items ++ item_of_parts texts p ∷ [] }
  pushed_data =
      ap (λ (items : List ItemData). record { sects = sects_of texts items sects; items = drop closed items }) items_pushed
      ∙ ap (λ (some : List SectData). record { sects = some; items = drop closed (all_items ++ item_of_parts texts p ∷ []) }) (sects_same texts all_items (item_of_parts texts p ∷ []) sects few_grown)
      ∙ ap (λ (items : List ItemData). record { sects = sects_of texts all_items sects; items = items }) (drop-append-le closed all_items (item_of_parts texts p ∷ []) (let few = few_grown in let all = ok.all in omega (arith, few, all)))
      ∙ ap (λ (d : PackedData). record { sects = d.sects; items = d.items ++ item_of_parts texts p ∷ [] }) (grown_data numbers texts words sects closed ok after texts grew (begins_with_itself texts))

-- ---- the text of a further item

pub text_new : (texts text : List ℕ) → text_at (texts ++ text) (length texts) (length text) ≡ text
text_new texts text =
    ap (take (length text)) (drop-append-le (length texts) texts text (omega arith) ∙ ap (λ (front : List ℕ). front ++ text) (drop_all (length texts) texts (omega arith)))
    ∙ take_all (length text) text (omega arith)

abbrev with_text : Kind → ℕ → ℕ → ℕ → ℕ → Parts
with_text kind line count first second = record { kind = kind; line = line; count = count; first = first; second = second }

item_new_at : (kind : Kind) (texts text : List ℕ) (line count : ℕ) → HasItsText kind → item_of_parts (texts ++ text) (with_text kind line count (length texts) (length text)) ≡ item_with_text kind line count text
item_new_at Line texts text line count has = absurd has
item_new_at Checked texts text line count has = ap (λ (t : List ℕ). LineItem line count (Some t)) (text_new texts text)
item_new_at Taken texts text line count has = absurd has
item_new_at Untaken texts text line count has = absurd has
item_new_at Function texts text line count has = ap (λ (t : List ℕ). FuncItem t line count) (text_new texts text)

pub item_new : (kind : Kind) (texts text after : List ℕ) (line count first second : ℕ) → HasItsText kind → after ≡ texts ++ text → first ≡ length texts → second ≡ length text
    → item_of_parts after (with_text kind line count first second) ≡ item_with_text kind line count text
item_new kind texts text after line count first second has a f s =
    ap (λ (ts : List ℕ). item_of_parts ts (with_text kind line count first second)) a
    ∙ ap (λ (n : ℕ). item_of_parts (texts ++ text) (with_text kind line count n second)) f
    ∙ ap (λ (n : ℕ). item_of_parts (texts ++ text) (with_text kind line count (length texts) n)) s
    ∙ item_new_at kind texts text line count has

pub end_new : (kind : Kind) (texts text after : List ℕ) (line count first second : ℕ) → after ≡ texts ++ text → first ≡ length texts → second ≡ length text → text_end (with_text kind line count first second) kind ≤ length after
end_new Line texts text after line count first second a f s = omega arith
end_new Checked texts text after line count first second a f s = let l = ap length a ∙ length-append texts text in omega (arith, l, f, s)
end_new Taken texts text after line count first second a f s = omega arith
end_new Untaken texts text after line count first second a f s = omega arith
end_new Function texts text after line count first second a f s = let l = ap length a ∙ length-append texts text in omega (arith, l, f, s)

-- ---- an item is appended, or its growth is refused

pub on_ok_then : {X E P Q : Type 0} (r : Result X E) → (P → Q) → OnOk r P → OnOk r Q
on_ok_then (Ok x) f p = f p
on_ok_then (Err e) f p = p

pub on_err_then : {X E P Q : Type 0} (r : Result X E) → (P → Q) → OnErr r P → OnErr r Q
on_err_then (Ok x) f p = p
on_err_then (Err e) f p = f p

module _ (numbers texts words : List ℕ) (sects : List ClosedSect) (closed : ℕ) (ok : ArePacked numbers texts words sects closed) (p : Parts) (numbers-after words-after : List ℕ)
    (has : text_end p p.kind ≤ length texts) (grows : BeginWith numbers-after numbers) where
  pub appended_ok : {X E : Type 0} (r : Result X E) → OnOk r (IsAppended p words words-after numbers numbers-after) → OnErr r (words-after ≡ words) → ArePacked numbers-after texts words-after sects closed
  appended_ok (Ok x) is same = subst (λ (ws : List ℕ). ArePacked numbers-after texts ws sects closed) (sym is.appended) (pushed_ok numbers texts words sects closed ok p is.word numbers-after is.packed has)
  appended_ok (Err e) is same = subst (λ (ws : List ℕ). ArePacked numbers-after texts ws sects closed) (sym same) (grown_ok numbers texts words sects closed ok numbers-after texts grows (begins_with_itself texts))

  after_ok : (is : IsAppended p words words-after numbers numbers-after) → packed_data numbers-after texts words-after sects closed
      ≡ record { sects = (packed_data numbers texts words sects closed).sects; items = (packed_data numbers texts words sects closed).items ++ item_of_parts texts p ∷ [] }
  after_ok is = ap (λ (ws : List ℕ). packed_data numbers-after texts ws sects closed) is.appended ∙ pushed_data numbers texts words sects closed ok p is.word numbers-after is.packed has

  after_err : words-after ≡ words → packed_data numbers-after texts words-after sects closed ≡ packed_data numbers texts words sects closed
  after_err same = ap (λ (ws : List ℕ). packed_data numbers-after texts ws sects closed) same ∙ grown_data numbers texts words sects closed ok numbers-after texts grows (begins_with_itself texts)

  pub appended_sects : {X E : Type 0} (r : Result X E) → OnOk r (IsAppended p words words-after numbers numbers-after) → OnErr r (words-after ≡ words)
      → (packed_data numbers-after texts words-after sects closed).sects ≡ (packed_data numbers texts words sects closed).sects
  appended_sects (Ok x) is same = ap (λ (d : PackedData). d.sects) (after_ok is)
  appended_sects (Err e) is same = ap (λ (d : PackedData). d.sects) (after_err same)

  pub appended_item : {X E : Type 0} (r : Result X E) → OnOk r (IsAppended p words words-after numbers numbers-after)
      → OnOk r ((packed_data numbers-after texts words-after sects closed).items ≡ (packed_data numbers texts words sects closed).items ++ item_of_parts texts p ∷ [])
  appended_item (Ok x) is = ap (λ (d : PackedData). d.items) (after_ok is)
  appended_item (Err e) is = is

  pub not_appended : {X E : Type 0} (r : Result X E) → OnErr r (words-after ≡ words) → OnErr r ((packed_data numbers-after texts words-after sects closed).items ≡ (packed_data numbers texts words sects closed).items)
  not_appended (Ok x) same = same
  not_appended (Err e) same = ap (λ (d : PackedData). d.items) (after_err same)

-- ---- an item with a text is appended, or its growth is refused

module _ (numbers texts words : List ℕ) (sects : List ClosedSect) (closed : ℕ) (ok : ArePacked numbers texts words sects closed) (kind : Kind) (text texts-after : List ℕ) (line count first second : ℕ)
    (a : texts-after ≡ texts ++ text) (f : first ≡ length texts) (s : second ≡ length text) (numbers-after words-after : List ℕ) (grows : BeginWith numbers-after numbers) where
  abbrev p : Parts
  p = with_text kind line count first second

  abbrev more_texts : BeginWith texts-after texts
  more_texts = record { more = text; appended = a }

  ok_between : ArePacked numbers texts-after words sects closed
  ok_between = grown_ok numbers texts words sects closed ok numbers texts-after (begins_with_itself numbers) more_texts

  data_between : packed_data numbers texts-after words sects closed ≡ packed_data numbers texts words sects closed
  data_between = grown_data numbers texts words sects closed ok numbers texts-after (begins_with_itself numbers) more_texts

  has_end : text_end p p.kind ≤ length texts-after
  has_end = end_new kind texts text texts-after line count first second a f s

  module _ {X E : Type 0} (r : Result X E) (is : OnOk r (IsAppended p words words-after numbers numbers-after)) (same : OnErr r (words-after ≡ words)) where
    pub with_text_ok : ArePacked numbers-after texts-after words-after sects closed
    with_text_ok = appended_ok numbers texts-after words sects closed ok_between p numbers-after words-after has_end grows r is same

    pub with_text_sects : (packed_data numbers-after texts-after words-after sects closed).sects ≡ (packed_data numbers texts words sects closed).sects
    with_text_sects = appended_sects numbers texts-after words sects closed ok_between p numbers-after words-after has_end grows r is same ∙ ap (λ (d : PackedData). d.sects) data_between

    pub with_text_item : HasItsText kind → OnOk r ((packed_data numbers-after texts-after words-after sects closed).items ≡ (packed_data numbers texts words sects closed).items ++ item_with_text kind line count text ∷ [])
    with_text_item has = on_ok_then r
        (λ e. e ∙ ap (λ (items : List ItemData). items ++ item_of_parts texts-after p ∷ []) (ap (λ (d : PackedData). d.items) data_between)
        ∙ ap (λ (item : ItemData). (packed_data numbers texts words sects closed).items ++ item ∷ []) (item_new kind texts text texts-after line count first second has a f s))
        (appended_item numbers texts-after words sects closed ok_between p numbers-after words-after has_end grows r is)

    pub with_text_not : OnErr r ((packed_data numbers-after texts-after words-after sects closed).items ≡ (packed_data numbers texts words sects closed).items)
    with_text_not = on_err_then r (λ e. e ∙ ap (λ (d : PackedData). d.items) data_between) (not_appended numbers texts-after words sects closed ok_between p numbers-after words-after has_end grows r same)

-- ---- items without a text

pub plain_item : (texts : List ℕ) (p : Parts) → HasNoText p.kind → item_of_parts texts p ≡ item_of_parts [] p
plain_item texts p has = by_kind p.kind has
  where
    by_kind : (k : Kind) → HasNoText k → item_of_kind texts p k ≡ item_of_kind [] p k
    by_kind Line has = refl
    by_kind Checked has = absurd has
    by_kind Taken has = refl
    by_kind Untaken has = refl
    by_kind Function has = absurd has

pub plain_end : (texts : List ℕ) (p : Parts) → HasNoText p.kind → text_end p p.kind ≤ length texts
plain_end texts p has = by_kind p.kind has
  where
    by_kind : (k : Kind) → HasNoText k → text_end p k ≤ length texts
    by_kind Line has = omega arith
    by_kind Checked has = absurd has
    by_kind Taken has = omega arith
    by_kind Untaken has = omega arith
    by_kind Function has = absurd has
