-- The texts of a file's checksums at their indexes: what changes with a new text, and with a text that replaces another.
use Rattle.covstore.proofs.Words.{◌≡◌, ℕ, ◌+◌, ◌<◌, ◌≤◌, Bool, true, false, cond, Option, Some, None, List, [], ◌∷◌, ◌++◌, length, take, get_or, refl, sym, ap, ◌∙◌, subst, arith, slice_set, Ordering, Less, Equal, Greater, AllByRecursion, is_eq, match_ordering, nat_cmp, false≢true, tied_itself, get_or_append_left, get_or_push, get_or-set_other, get_or-set_same, get_or-take, length_push, tells_apart, MapData, ArePairs, put, value_of, All-weaker, All-in, lines_order}
use Rattle.std.specs.Prelude.{option_map}
use Rattle.std.specs.Option.{is_some}
use Rattle.std.proofs.lemmas.List.{length-take-le}
use Rattle.covstore.specs.KeptTexts.{AreApart, AreBelow, AreCommitted, ArePlaced, StayAt, StillHave, kept_texts, texts_at}
use Rattle.covstore.proofs.Puts.{All-put, ArePairs-put, pair_in, same_pairs, value_of-put_any, value_of-put_other}

-- the text at an index
abbrev at : List (List ℕ) → ℕ → List ℕ
at texts place = get_or texts place []

-- ---- the text of a line is the one at its index

mapped_at : (here : Bool) (texts : List (List ℕ)) (place : ℕ) (rest : Option ℕ) (later : Option (List ℕ)) → later ≡ option_map (at texts) rest
    → cond here (Some (at texts place)) later ≡ option_map (at texts) (cond here (Some place) rest)
mapped_at true texts place rest later e = refl
mapped_at false texts place rest later e = e

pub value_of_texts : (line : ℕ) (texts : List (List ℕ)) (places : List (ℕ × ℕ)) → value_of nat_cmp line (texts_at texts places) ≡ option_map (at texts) (value_of nat_cmp line places)
value_of_texts line texts [] = refl
value_of_texts line texts (place ∷ places) =
    mapped_at (is_eq (nat_cmp place.0 line)) texts place.1 (value_of nat_cmp line places) (value_of nat_cmp line (texts_at texts places)) (value_of_texts line texts places)

some_mapped : (texts : List (List ℕ)) (place : Option ℕ) → is_some (option_map (at texts) place) ≡ is_some place
some_mapped texts None = refl
some_mapped texts (Some place) = refl

some_text : (line : ℕ) (texts : List (List ℕ)) (places : List (ℕ × ℕ)) → is_some (value_of nat_cmp line (texts_at texts places)) ≡ is_some (value_of nat_cmp line places)
some_text line texts places = ap is_some (value_of_texts line texts places) ∙ some_mapped texts (value_of nat_cmp line places)

-- a line without a text has no index
pub no_place : (line : ℕ) (texts : List (List ℕ)) (places : List (ℕ × ℕ)) → value_of nat_cmp line (texts_at texts places) ≡ None → value_of nat_cmp line places ≡ None
no_place line texts places e = none_at (value_of nat_cmp line places) (sym (value_of_texts line texts places) ∙ e)
  where
    none_at : (place : Option ℕ) → option_map (at texts) place ≡ None → place ≡ None
    none_at None e = refl
    none_at (Some place) e = absurd cc

-- a line with an index has the text at that index
pub text_found : (line place : ℕ) (texts : List (List ℕ)) (places : List (ℕ × ℕ)) → value_of nat_cmp line places ≡ Some place → value_of nat_cmp line (texts_at texts places) ≡ Some (at texts place)
text_found line place texts places found = value_of_texts line texts places ∙ ap (option_map (at texts)) found

-- a line without an index has no text
pub no_text : (line : ℕ) (texts : List (List ℕ)) (places : List (ℕ × ℕ)) → value_of nat_cmp line places ≡ None → value_of nat_cmp line (texts_at texts places) ≡ None
no_text line texts places none = value_of_texts line texts places ∙ ap (option_map (at texts)) none

-- whatever the texts are, the same lines have one
pub still_have : (texts more : List (List ℕ)) (places : List (ℕ × ℕ)) → StillHave (texts_at texts places) (texts_at more places)
still_have texts more places line e = some_text line more places ∙ sym (some_text line texts places) ∙ e

pub are_committed : (places : MapData ℕ ℕ) (texts : List (List ℕ)) → StayAt places.committed places.staged → AreCommitted (kept_texts places texts)
are_committed places texts stay line e =
    value_of_texts line texts places.staged
    ∙ ap (option_map (at texts)) (stay line (sym (some_text line texts places.committed) ∙ e))
    ∙ sym (value_of_texts line texts places.committed)

-- ---- indexes below a number

pub below_found : (count line place : ℕ) (places : List (ℕ × ℕ)) → AreBelow count places → value_of nat_cmp line places ≡ Some place → place < count
below_found count line place places below found = All-in (λ (here : ℕ × ℕ). here.1 < count) places (line, place) below (pair_in lines_order line place places found)

pub below_more : (count more : ℕ) (places : List (ℕ × ℕ)) → count ≤ more → AreBelow count places → AreBelow more places
below_more count more places le below = All-weaker (λ (here : ℕ × ℕ). here.1 < count) (λ (here : ℕ × ℕ). here.1 < more) places (λ here l. omega (arith, l, le)) below

-- texts that are the same below the number
pub same_texts : (count : ℕ) (texts more : List (List ℕ)) (places : List (ℕ × ℕ)) → ((place : ℕ) → place < count → at more place ≡ at texts place) → AreBelow count places → texts_at more places ≡ texts_at texts places
same_texts count texts more [] same below = refl
same_texts count texts more (place ∷ places) same below =
    ap (λ (text : List ℕ). (place.0, text) ∷ texts_at more places) (same place.1 below.0)
    ∙ ap (λ (rest : List (ℕ × List ℕ)). (place.0, at texts place.1) ∷ rest) (same_texts count texts more places same below.1)

-- ---- an index is put in for a line

put_texts_at : (line count : ℕ) (texts : List (List ℕ)) (place : ℕ × ℕ) (places : List (ℕ × ℕ)) (order : Ordering) → texts_at texts (put nat_cmp line count places) ≡ put nat_cmp line (at texts count) (texts_at texts places)
    → texts_at texts (match_ordering order (place ∷ put nat_cmp line count places) ((line, count) ∷ places) ((line, count) ∷ place ∷ places))
    ≡ match_ordering order ((place.0, at texts place.1) ∷ put nat_cmp line (at texts count) (texts_at texts places)) ((line, at texts count) ∷ texts_at texts places) ((line, at texts count) ∷ (place.0, at texts place.1) ∷ texts_at texts places)
put_texts_at line count texts place places Less e = ap (λ (rest : List (ℕ × List ℕ)). (place.0, at texts place.1) ∷ rest) e
put_texts_at line count texts place places Equal e = refl
put_texts_at line count texts place places Greater e = refl

put_texts : (line count : ℕ) (texts : List (List ℕ)) (places : List (ℕ × ℕ)) → texts_at texts (put nat_cmp line count places) ≡ put nat_cmp line (at texts count) (texts_at texts places)
put_texts line count texts [] = refl
put_texts line count texts (place ∷ places) = put_texts_at line count texts place places (nat_cmp place.0 line) (put_texts line count texts places)

-- a new line adds one index
length_new_at : (line count : ℕ) (place : ℕ × ℕ) (places : List (ℕ × ℕ)) (order : Ordering) → cond (is_eq order) (Some place.1) (value_of nat_cmp line places) ≡ None
    → (value_of nat_cmp line places ≡ None → length (put nat_cmp line count places) ≡ length places + 1)
    → length (match_ordering order (place ∷ put nat_cmp line count places) ((line, count) ∷ places) ((line, count) ∷ place ∷ places)) ≡ length (place ∷ places) + 1
length_new_at line count place places Less e rest = let longer = rest e in omega (arith, longer)
length_new_at line count place places Equal e rest = absurd cc
length_new_at line count place places Greater e rest = omega arith

length_new : (line count : ℕ) (places : List (ℕ × ℕ)) → value_of nat_cmp line places ≡ None → length (put nat_cmp line count places) ≡ length places + 1
length_new line count [] e = omega arith
length_new line count (place ∷ places) e = length_new_at line count place places (nat_cmp place.0 line) e (length_new line count places)

-- ---- a new text

module _ (line : ℕ) (text : List ℕ) (places : MapData ℕ ℕ) (texts : List (List ℕ)) (committed : ℕ) (placed : ArePlaced places texts committed) where
  same_before : (place : ℕ) → place < length texts → at (texts ++ text ∷ []) place ≡ at texts place
  same_before place l = get_or_append_left texts (text ∷ []) [] place l

  pub pushed : texts_at (texts ++ text ∷ []) (put nat_cmp line (length texts) places.staged) ≡ put nat_cmp line text (texts_at texts places.staged)
  pushed =
      put_texts line (length texts) (texts ++ text ∷ []) places.staged
      ∙ ap (λ (one : List ℕ). put nat_cmp line one (texts_at (texts ++ text ∷ []) places.staged)) (get_or_push texts text [] (length texts) refl)
      ∙ ap (put nat_cmp line text) (same_texts (length texts) texts (texts ++ text ∷ []) places.staged same_before placed.staged_below)

  pub pushed_committed : texts_at (texts ++ text ∷ []) places.committed ≡ texts_at texts places.committed
  pushed_committed = same_texts committed texts (texts ++ text ∷ []) places.committed (λ place l. same_before place (omega (arith, l, placed.committed_fits))) placed.committed_below

  -- no line has the new index
  not_there : (other : ℕ) → value_of nat_cmp other places.staged ≡ Some (length texts) → ⊥
  not_there other e = let l = below_found (length texts) other (length texts) places.staged placed.staged_below e in omega (arith, l)

  apart_at : (l o : ℕ) (here there : Bool) → is_eq (nat_cmp line l) ≡ here → is_eq (nat_cmp line o) ≡ there → is_some (cond here (Some (length texts)) (value_of nat_cmp l places.staged)) ≡ true
      → cond here (Some (length texts)) (value_of nat_cmp l places.staged) ≡ cond there (Some (length texts)) (value_of nat_cmp o places.staged) → l ≡ o
  apart_at l o true true h t s e = sym (tells_apart lines_order.exact line l h) ∙ tells_apart lines_order.exact line o t
  apart_at l o true false h t s e = absurd (not_there o (sym e))
  apart_at l o false true h t s e = absurd (not_there l e)
  apart_at l o false false h t s e = placed.apart l o s e

  apart_pushed : AreApart (put nat_cmp line (length texts) places.staged)
  apart_pushed l o s e =
      let first = value_of-put_any lines_order line l (length texts) places.staged in
      let second = value_of-put_any lines_order line o (length texts) places.staged in
      apart_at l o (is_eq (nat_cmp line l)) (is_eq (nat_cmp line o)) refl refl (sym (ap is_some first) ∙ s) (sym first ∙ e ∙ second)

  -- a line without an index gets one
  pub placed_pushed : (more : MapData ℕ ℕ) → value_of nat_cmp line places.staged ≡ None → more.committed ≡ places.committed → more.staged ≡ put nat_cmp line (length texts) places.staged
      → ArePlaced more (texts ++ text ∷ []) committed
  placed_pushed more none same puts =
      let longer = length_push texts text in
      record {
        committed_below = subst (AreBelow committed) (sym same) placed.committed_below;
        staged_below = subst (AreBelow (length (texts ++ text ∷ []))) (sym puts)
            (All-put lines_order (λ (here : ℕ × ℕ). here.1 < length (texts ++ text ∷ [])) line (length texts) places.staged (omega (arith, longer))
            (below_more (length texts) (length (texts ++ text ∷ [])) places.staged (omega (arith, longer)) placed.staged_below));
        committed_fits = omega (arith, longer, placed.committed_fits);
        committed_all = placed.committed_all ∙ ap length (sym same);
        staged_all = longer ∙ ap (λ (long : ℕ). long + 1) placed.staged_all ∙ sym (length_new line (length texts) places.staged none) ∙ ap length (sym puts);
        stay = subst (λ (pairs : List (ℕ × ℕ)). StayAt pairs more.staged) (sym same) (subst (StayAt places.committed) (sym puts) (stays none));
        apart = subst AreApart (sym puts) apart_pushed;
      }
    where
      stays : value_of nat_cmp line places.staged ≡ None → StayAt places.committed (put nat_cmp line (length texts) places.staged)
      stays none other e =
          value_of-put_other lines_order line other (length texts) places.staged
          (λ here. false≢true (sym (ap is_some none) ∙ ap (λ (l : ℕ). is_some (value_of nat_cmp l places.staged)) here ∙ ap is_some (placed.stay other e) ∙ e))
          ∙ placed.stay other e

  -- ---- memory is refused: only the committed indexes are left

  module _ (more : List (List ℕ)) (kept : take committed more ≡ take committed texts) where
    same_kept : (place : ℕ) → place < committed → at (take committed more) place ≡ at texts place
    same_kept place l = ap (λ (those : List (List ℕ)). at those place) kept ∙ get_or-take committed texts place [] l

    pub dropped : texts_at (take committed more) places.committed ≡ texts_at texts places.committed
    dropped = same_texts committed texts (take committed more) places.committed same_kept placed.committed_below

    pub placed_dropped : (less : MapData ℕ ℕ) → less.committed ≡ places.committed → less.staged ≡ places.committed → ArePlaced less (take committed more) committed
    placed_dropped less same staged =
        let long = ap length kept ∙ length-take-le committed texts placed.committed_fits in
        record {
          committed_below = subst (AreBelow committed) (sym same) placed.committed_below;
          staged_below = subst (AreBelow (length (take committed more))) (sym staged) (below_more committed (length (take committed more)) places.committed (omega (arith, long)) placed.committed_below);
          committed_fits = omega (arith, long);
          committed_all = placed.committed_all ∙ ap length (sym same);
          staged_all = long ∙ placed.committed_all ∙ ap length (sym staged);
          stay = λ line e. ap (value_of nat_cmp line) (staged ∙ sym same);
          apart = subst AreApart (sym staged) (λ l o s e. placed.apart l o (ap is_some (placed.stay l s) ∙ s) (placed.stay l s ∙ e ∙ sym (placed.stay o (sym (ap is_some e) ∙ s))));
        }

-- ---- a text replaces the text at a line's index

module _ (line place : ℕ) (text : List ℕ) (places : MapData ℕ ℕ) (texts : List (List ℕ)) (committed : ℕ) (placed : ArePlaced places texts committed) (found : value_of nat_cmp line places.staged ≡ Some place) where
  there : place < length texts
  there = below_found (length texts) line place places.staged placed.staged_below found

  other_at : (other : ℕ) (here : Option ℕ) → value_of nat_cmp other places.staged ≡ here → (line ≡ other → ⊥) → option_map (at (slice_set texts place text)) here ≡ option_map (at texts) here
  other_at other None e apart = refl
  other_at other (Some here) e apart =
      ap Some (get_or-set_other texts place here text []
      (λ same. apart (placed.apart line other (ap is_some found) (found ∙ ap Some (sym same) ∙ sym e))))

  value_at : (other : ℕ) (equal : Bool) → is_eq (nat_cmp line other) ≡ equal
      → option_map (at (slice_set texts place text)) (value_of nat_cmp other places.staged) ≡ cond equal (Some text) (option_map (at texts) (value_of nat_cmp other places.staged))
  value_at other true e =
      ap (option_map (at (slice_set texts place text))) (ap (λ (l : ℕ). value_of nat_cmp l places.staged) (sym (tells_apart lines_order.exact line other e)) ∙ found)
      ∙ ap Some (get_or-set_same texts place text [] there)
  value_at other false e = other_at other (value_of nat_cmp other places.staged) refl (λ same. false≢true (sym e ∙ ap (λ (l : ℕ). is_eq (nat_cmp line l)) (sym same) ∙ itself line))
    where
      itself : (l : ℕ) → is_eq (nat_cmp l l) ≡ true
      itself l = ap is_eq (tied_itself lines_order.total l)

  pub replaced : ArePairs nat_cmp places.staged → texts_at (slice_set texts place text) places.staged ≡ put nat_cmp line text (texts_at texts places.staged)
  replaced ascending =
      same_pairs lines_order (texts_at (slice_set texts place text) places.staged) (put nat_cmp line text (texts_at texts places.staged))
      (pairs_of (slice_set texts place text) places.staged ascending)
      (ArePairs-put lines_order line text (texts_at texts places.staged) (pairs_of texts places.staged ascending))
      (λ other. value_of_texts other (slice_set texts place text) places.staged
      ∙ value_at other (is_eq (nat_cmp line other)) refl
      ∙ ap (λ (before : Option (List ℕ)). cond (is_eq (nat_cmp line other)) (Some text) before) (sym (value_of_texts other texts places.staged))
      ∙ sym (value_of-put_any lines_order line other text (texts_at texts places.staged)))
    where
      all_of : (those : List (List ℕ)) (line : ℕ) (pairs : List (ℕ × ℕ)) → AllByRecursion (λ next. nat_cmp line next.0 ≡ Less) pairs → AllByRecursion (λ next. nat_cmp line next.0 ≡ Less) (texts_at those pairs)
      all_of those line [] all = tt
      all_of those line (pair ∷ pairs) all = (all.0, all_of those line pairs all.1)

      pairs_of : (those : List (List ℕ)) (pairs : List (ℕ × ℕ)) → ArePairs nat_cmp pairs → ArePairs nat_cmp (texts_at those pairs)
      pairs_of those [] sorted = tt
      pairs_of those (pair ∷ pairs) sorted = (all_of those pair.0 pairs sorted.0, pairs_of those pairs sorted.1)
