-- Items of the open section are removed.
use Rattle.std.proofs.Common.{◌≡◌, ℕ, zero, suc, ◌+◌, ◌≤◌, ◌==◌, Bool, true, false, if◌then◌else◌, List, [], ◌∷◌, ◌++◌, length, map, take, drop, refl, sym, ap, ◌∙◌, subst, arith, append-nil, append_assoc, get_or, set, ◌<◌, rules}
use Rattle.std.specs.List.{AllByRecursion}
use Rattle.std.proofs.lemmas.List.{drop_all, drop_at, drop_more, drop-set-lt, take_more_set, length-append, length-map, length-take-le, map-append, take-append-drop, drop-map}
use Rattle.covdata.specs.Row.{ItemData}
use Rattle.covpacked.specs.declared.packed_sects.ClosedSect.{ClosedSect}
use Rattle.covpacked.specs.Layout.{HasText, LieBetween, begin_of, place_of, room_of}
use Rattle.covpacked.specs.OpenItems.{left, starts_with}
use Rattle.covpacked.specs.PackedView.{ArePacked, closed_items, items_of, packed_data, sects_of}
use Rattle.covpacked.specs.Words.{item_of}
use Rattle.covpacked.proofs.Layouts.{lie_below}
use Rattle.covpacked.proofs.Packeds.{begin_lower, sects_same}

-- ---- the elements that are left

left_all : {X : Type 0} (at : ℕ) (xs : List X) → left at [] xs ≡ xs
left_all at [] = refl
left_all at (x ∷ xs) = refl

same_number : (n : ℕ) → (n == n) ≡ true
same_number n = search rules

left_first : {X : Type 0} (at : ℕ) (places rest : List ℕ) (x : X) (xs : List X) → places ≡ at ∷ rest → left at places (x ∷ xs) ≡ left (at + 1) rest xs
left_first {X} at places rest x xs e =
    ap (λ (ps : List ℕ). left at ps (x ∷ xs)) e
    ∙ ap (λ (b : Bool). if b then left (at + 1) rest xs else x ∷ left (at + 1) (at ∷ rest) xs) (same_number at)

left_other : {X : Type 0} (at : ℕ) (places : List ℕ) (x : X) (xs : List X) → starts_with at places ≡ false → left at places (x ∷ xs) ≡ x ∷ left (at + 1) places xs
left_other {X} at [] x xs e = ap (λ (ys : List X). x ∷ ys) (sym (left_all (at + 1) xs))
left_other at (place ∷ places) x xs e = ap (λ (b : Bool). if b then left (at + 1) places xs else x ∷ left (at + 1) (place ∷ places) xs) e

-- of these words, those in front of the index `at` have been gone through, of which `n` may be removed
module _ (words all old : List ℕ) (n at : ℕ) (places : List ℕ) (so_far : all ≡ old ++ left n places (drop at words)) where
  pub left_end : length words ≤ at → all ≡ old
  left_end le = so_far ∙ ap (λ (ws : List ℕ). old ++ left n places ws) (drop_all at words le) ∙ append-nil old

  module _ (within : at < length words) where
    abbrev word : ℕ
    word = get_or words at 0

    abbrev behind : List ℕ
    behind = drop (at + 1) words

    here : all ≡ old ++ left n places (word ∷ behind)
    here = so_far ∙ ap (λ (ws : List ℕ). old ++ left n places ws) (drop_more words at 0 within)

    pub left_gone : (others : List ℕ) → places ≡ n ∷ others → all ≡ old ++ left (n + 1) others behind
    left_gone others e = here ∙ ap (λ (ws : List ℕ). old ++ ws) (left_first n places others word behind e)

    left_stays : starts_with n places ≡ false → all ≡ (old ++ word ∷ []) ++ left (n + 1) places behind
    left_stays other =
        here
        ∙ ap (λ (ws : List ℕ). old ++ ws) (left_other n places word behind other)
        ∙ sym (append_assoc old (word ∷ []) (left (n + 1) places behind))

-- of the words from `from` on, `n` have been gone through, and those that are left are in front
module _ (words all : List ℕ) (kept from n : ℕ) (places : List ℕ) (so_far : all ≡ take kept words ++ left n places (drop (from + n) words)) (within : from + n < length words) (new : List ℕ) where
  next_at : from + n + 1 ≡ from + (n + 1)
  next_at = omega arith

  -- the next one is removed
  pub left_skips : (others : List ℕ) → places ≡ n ∷ others → new ≡ words → all ≡ take kept new ++ left (n + 1) others (drop (from + (n + 1)) new)
  left_skips others e same =
      left_gone words all (take kept words) n (from + n) places so_far within others e
      ∙ ap (λ (at : ℕ). take kept words ++ left (n + 1) others (drop at words)) next_at
      ∙ ap (λ (ws : List ℕ). take kept ws ++ left (n + 1) others (drop (from + (n + 1)) ws)) (sym same)

  -- the next one stays, and is moved to the front
  pub left_moves : kept ≤ from + n → starts_with n places ≡ false → new ≡ set words kept (get_or words (from + n) 0)
      → all ≡ take (kept + 1) new ++ left (n + 1) places (drop (from + (n + 1)) new)
  left_moves few other is =
      let word = get_or words (from + n) 0 in
      left_stays words all (take kept words) n (from + n) places so_far within other
      ∙ ap (λ (ws : List ℕ). ws ++ left (n + 1) places (drop (from + n + 1) words)) (sym (take_more_set words kept word (omega (arith, few, within))))
      ∙ ap (λ (ws : List ℕ). take (kept + 1) (set words kept word) ++ left (n + 1) places ws) (sym (drop-set-lt (from + n + 1) words kept word (omega (arith, few))))
      ∙ ap (λ (at : ℕ). take (kept + 1) (set words kept word) ++ left (n + 1) places (drop at (set words kept word))) next_at
      ∙ ap (λ (ws : List ℕ). take (kept + 1) ws ++ left (n + 1) places (drop (from + (n + 1)) ws)) (sym is)

map-left_at : {X Y : Type 0} (f : X → Y) (b : Bool) (some others : List X) (x : X) (some-after others-after : List Y) → map f some ≡ some-after → map f others ≡ others-after → map f (if b then some else x ∷ others) ≡ (if b then some-after else f x ∷ others-after)
map-left_at f true some others x some-after others-after e o = e
map-left_at {X} {Y} f false some others x some-after others-after e o = ap (λ (ys : List Y). f x ∷ ys) o

map-left : {X Y : Type 0} (f : X → Y) (at : ℕ) (places : List ℕ) (xs : List X) → map f (left at places xs) ≡ left at places (map f xs)
map-left f at places [] = refl
map-left f at [] (x ∷ xs) = refl
map-left f at (place ∷ places) (x ∷ xs) =
    map-left_at f (place == at) (left (at + 1) places xs) (left (at + 1) (place ∷ places) xs) x (left (at + 1) places (map f xs)) (left (at + 1) (place ∷ places) (map f xs)) (map-left f (at + 1) places xs) (map-left f (at + 1) (place ∷ places) xs)

all_left_at : {X : Type 0} (P : X → Type 0) (b : Bool) (some others : List X) (x : X) → P x → AllByRecursion P some → AllByRecursion P others → AllByRecursion P (if b then some else x ∷ others)
all_left_at P true some others x first all rest = all
all_left_at P false some others x first all rest = (first, rest)

all_left : {X : Type 0} (P : X → Type 0) (at : ℕ) (places : List ℕ) (xs : List X) → AllByRecursion P xs → AllByRecursion P (left at places xs)
all_left P at places [] all = all
all_left P at [] (x ∷ xs) all = all
all_left P at (place ∷ places) (x ∷ xs) (first, all) = all_left_at P (place == at) (left (at + 1) places xs) (left (at + 1) (place ∷ places) xs) x first (all_left P (at + 1) places xs all) (all_left P (at + 1) (place ∷ places) xs all)

-- ---- the numbers of the words that are left

lie_lower : (end middle from : ℕ) (words : List ℕ) → from ≤ middle → LieBetween end middle words → LieBetween end from words
lie_lower end middle from [] le lie = omega (arith, le, lie)
lie_lower end middle from (w ∷ words) le (here, lie) =
    let lower = begin_lower (begin_of middle w + room_of w) middle from (room_of w) (place_of w) le here (omega arith) in
    (lower.0, lie_lower end (begin_of middle w + room_of w) (begin_of from w + room_of w) words lower.1 lie)

lie_left_at : (end from : ℕ) (b : Bool) (some others : List ℕ) (w : ℕ) → LieBetween end from some → LieBetween end from (w ∷ others) → LieBetween end from (if b then some else w ∷ others)
lie_left_at end from true some others w lie rest = lie
lie_left_at end from false some others w lie rest = rest

lie_left : (end from at : ℕ) (places words : List ℕ) → LieBetween end from words → LieBetween end from (left at places words)
lie_left end from at places [] lie = lie
lie_left end from at [] (w ∷ words) lie = lie
lie_left end from at (place ∷ places) (w ∷ words) (le, lie) =
    lie_left_at end from (place == at) (left (at + 1) places words) (left (at + 1) (place ∷ places) words) w
    (lie_left end from (at + 1) places words (lie_lower end (begin_of from w + room_of w) from words (omega (arith, le)) lie))
    (le, lie_left end (begin_of from w + room_of w) (at + 1) (place ∷ places) words lie)

-- ---- other words behind the first `closed` ones

all_behind : {X : Type 0} (P : X → Type 0) (closed : ℕ) (xs rest : List X) → (AllByRecursion P (drop closed xs) → AllByRecursion P rest) → AllByRecursion P xs → AllByRecursion P (take closed xs ++ rest)
all_behind P zero xs rest keeps all = keeps all
all_behind P (suc closed) [] rest keeps all = keeps all
all_behind P (suc closed) (x ∷ xs) rest keeps (first, all) = (first, all_behind P closed xs rest keeps all)

lie_behind : (end from closed : ℕ) (words rest : List ℕ) → ((low : ℕ) → LieBetween end low (drop closed words) → LieBetween end low rest) → LieBetween end from words → LieBetween end from (take closed words ++ rest)
lie_behind end from zero words rest keeps lie = keeps from lie
lie_behind end from (suc closed) [] rest keeps lie = keeps from lie
lie_behind end from (suc closed) (w ∷ words) rest keeps (le, lie) = (le, lie_behind end (begin_of from w + room_of w) closed words rest keeps lie)

module _ (numbers texts words : List ℕ) (sects : List ClosedSect) (closed : ℕ) (ok : ArePacked numbers texts words sects closed) where
  module _ (rest : List ℕ) (lies : (low : ℕ) → LieBetween (length numbers) low (drop closed words) → LieBetween (length numbers) low rest) (has : AllByRecursion (HasText numbers texts) (drop closed words) → AllByRecursion (HasText numbers texts) rest)
      (after : List ℕ) (is : after ≡ take closed words ++ rest) where
    abbrev front : List ItemData
    front = items_of numbers texts (take closed words)

    front_length : length front ≡ closed
    front_length = length-map (take closed words) (item_of numbers texts) ∙ length-take-le closed words ok.few

    enough : closed_items sects ≤ length front
    enough = let all = ok.all in let l = front_length in omega (arith, all, l)

    behind_ok_at : ArePacked numbers texts (take closed words ++ rest) sects closed
    behind_ok_at = record {
      all = ok.all;
      few = (let l = length-append (take closed words) rest in let t = length-take-le closed words ok.few in omega (arith, l, t));
      lie = lie_behind (length numbers) 0 closed words rest lies ok.lie;
      item_texts = all_behind (HasText numbers texts) closed words rest has ok.item_texts;
      names = ok.names;
    }

    behind_ok : ArePacked numbers texts after sects closed
    behind_ok = subst (λ (ws : List ℕ). ArePacked numbers texts ws sects closed) (sym is) behind_ok_at

    items_after : items_of numbers texts after ≡ front ++ items_of numbers texts rest
    items_after = ap (items_of numbers texts) is ∙ map-append (item_of numbers texts) (take closed words) rest

    items_before : items_of numbers texts words ≡ front ++ items_of numbers texts (drop closed words)
    items_before = ap (items_of numbers texts) (sym (take-append-drop closed words)) ∙ map-append (item_of numbers texts) (take closed words) (drop closed words)

    behind_sects : (packed_data numbers texts after sects closed).sects ≡ (packed_data numbers texts words sects closed).sects
    behind_sects =
        ap (λ (items : List ItemData). sects_of texts items sects) items_after
        ∙ sects_same texts front (items_of numbers texts rest) sects enough
        ∙ sym (sects_same texts front (items_of numbers texts (drop closed words)) sects enough)
        ∙ ap (λ (items : List ItemData). sects_of texts items sects) (sym items_before)

    behind_items : (packed_data numbers texts after sects closed).items ≡ items_of numbers texts rest
    behind_items = ap (drop closed) items_after ∙ drop_at front (items_of numbers texts rest) closed front_length

  -- all items of the open section are gone
  module _ (after : List ℕ) (is : after ≡ take closed words) where
    none_lie : (low : ℕ) → LieBetween (length numbers) low (drop closed words) → LieBetween (length numbers) low []
    none_lie low lie = lie_below (length numbers) low (drop closed words) lie

    none_behind : after ≡ take closed words ++ []
    none_behind = is ∙ sym (append-nil (take closed words))

    pub emptied_ok : ArePacked numbers texts after sects closed
    emptied_ok = behind_ok [] none_lie (λ has. tt) after none_behind

    pub emptied_sects : (packed_data numbers texts after sects closed).sects ≡ (packed_data numbers texts words sects closed).sects
    emptied_sects = behind_sects [] none_lie (λ has. tt) after none_behind

  -- the items at these places are gone
  module _ (places after : List ℕ) (is : after ≡ take closed words ++ left 0 places (drop closed words)) where
    left_lie : (low : ℕ) → LieBetween (length numbers) low (drop closed words) → LieBetween (length numbers) low (left 0 places (drop closed words))
    left_lie low lie = lie_left (length numbers) low 0 places (drop closed words) lie

    left_have : AllByRecursion (HasText numbers texts) (drop closed words) → AllByRecursion (HasText numbers texts) (left 0 places (drop closed words))
    left_have has = all_left (HasText numbers texts) 0 places (drop closed words) has

    pub removed_ok : ArePacked numbers texts after sects closed
    removed_ok = behind_ok (left 0 places (drop closed words)) left_lie left_have after is

    pub removed_sects : (packed_data numbers texts after sects closed).sects ≡ (packed_data numbers texts words sects closed).sects
    removed_sects = behind_sects (left 0 places (drop closed words)) left_lie left_have after is

    pub removed_items : (packed_data numbers texts after sects closed).items ≡ left 0 places (packed_data numbers texts words sects closed).items
    removed_items =
        behind_items (left 0 places (drop closed words)) left_lie left_have after is
        ∙ map-left (item_of numbers texts) 0 places (drop closed words)
        ∙ ap (left 0 places) (sym (drop-map (item_of numbers texts) closed words))
