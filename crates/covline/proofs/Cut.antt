-- How a text is cut into lines: into all its lines, as the definitions do, and at its first line feed, as the code does.
use Rattle.std.proofs.Common.{◌≡◌, ◌≢◌, ℕ, suc, ◌+◌, ◌<◌, ◌≤◌, Bool, true, false, cond, eqb, List, [], ◌∷◌, ◌++◌, length, get_or, take, drop, map, refl, sym, ap, ◌∙◌, arith, append_assoc, replicate, lit<}
use Rattle.std.specs.Prelude.{All}
use Rattle.std.specs.List.{concat, sum_by, flat_map}
use Rattle.std.proofs.lemmas.Bool.{ne_eqb, eq-eqb, eqb-true, eqb-false}
use Rattle.std.proofs.lemmas.List.{append-nil, drop_more, take-append-drop, get_or-take, same_from_push, length-take, length-map, length-append, map-append}
use Rattle.std.proofs.lemmas.List.Elements.{All-nil, All-cons, All-head, All-tail, All-from_get_or}
use Rattle.std.proofs.lemmas.List.Sums.{sum_by-cons}
use Rattle.memchr.specs.Find.{NoneBefore, Nowhere, Passes, is_byte}
use Rattle.covdata.specs.Delimiters.{line_feed, carriage_return}
use Rattle.covline.specs.Lines.{onto_first, pieces_of, before_feed, before_stripped, strip, line_of, lines_of, IsFirstCut}
use Rattle.covdata.specs.Lawful.{IsGoodTest}

-- no byte is a line feed
abbrev pub HasNoFeed : List ℕ → Type 0
HasNoFeed text = All (λ b. b ≢ line_feed) text

pub HasNoFeed-head : (b : ℕ) (bs : List ℕ) → HasNoFeed (b ∷ bs) → eqb b line_feed ≡ false
HasNoFeed-head b bs none = ne_eqb b line_feed (All-head (λ x. x ≢ line_feed) b bs none)

pub HasNoFeed-tail : (b : ℕ) (bs : List ℕ) → HasNoFeed (b ∷ bs) → HasNoFeed bs
HasNoFeed-tail b bs none = All-tail (λ x. x ≢ line_feed) b bs none

-- ---- pieces

pub pieces_at : (front rest : List ℕ) → HasNoFeed front → pieces_of (front ++ line_feed ∷ rest) ≡ (front ++ line_feed ∷ []) ∷ pieces_of rest
pieces_at [] rest none = refl
pieces_at (b ∷ bs) rest none =
    rw (HasNoFeed-head b bs none, pieces_at bs rest (HasNoFeed-tail b bs none)) refl

pub pieces_last : (b : ℕ) (bs : List ℕ) → HasNoFeed (b ∷ bs) → pieces_of (b ∷ bs) ≡ (b ∷ bs) ∷ []
pieces_last b [] none = rw (HasNoFeed-head b [] none) refl
pieces_last b (c ∷ cs) none =
    rw (HasNoFeed-head b (c ∷ cs) none, pieces_last c cs (HasNoFeed-tail b (c ∷ cs) none)) refl

concat-onto_first : (b : ℕ) (pieces : List (List ℕ)) → concat (onto_first b pieces) ≡ b ∷ concat pieces
concat-onto_first b [] = refl
concat-onto_first b (piece ∷ pieces) = refl

concat_cut : (b : ℕ) (pieces : List (List ℕ)) (test : Bool) → concat (cond test ((b ∷ []) ∷ pieces) (onto_first b pieces)) ≡ b ∷ concat pieces
concat_cut b pieces true = refl
concat_cut b pieces false = concat-onto_first b pieces

-- joined again, the pieces make up the text
pub concat-pieces : (text : List ℕ) → concat (pieces_of text) ≡ text
concat-pieces [] = refl
concat-pieces (b ∷ bs) = concat_cut b (pieces_of bs) (eqb b line_feed) ∙ ap (λ (t : List ℕ). b ∷ t) (concat-pieces bs)

length-onto_first : (b : ℕ) (pieces : List (List ℕ)) → length (onto_first b pieces) ≤ suc (length pieces)
length-onto_first b [] = omega arith
length-onto_first b (piece ∷ pieces) = omega arith

length_cut : (b : ℕ) (pieces : List (List ℕ)) (test : Bool) → length (cond test ((b ∷ []) ∷ pieces) (onto_first b pieces)) ≤ suc (length pieces)
length_cut b pieces true = omega arith
length_cut b pieces false = length-onto_first b pieces

-- there are at most as many pieces as bytes
pub length-pieces : (text : List ℕ) → length (pieces_of text) ≤ length text
length-pieces [] = omega arith
length-pieces (b ∷ bs) = omega (arith, length_cut b (pieces_of bs) (eqb b line_feed), length-pieces bs)

-- ---- the bytes before the first line feed

pub before_feed-at : (front rest : List ℕ) → HasNoFeed front → before_feed (front ++ line_feed ∷ rest) ≡ front
before_feed-at [] rest none = refl
before_feed-at (b ∷ bs) rest none =
    rw (HasNoFeed-head b bs none, before_feed-at bs rest (HasNoFeed-tail b bs none)) refl

pub before_feed-none : (text : List ℕ) → HasNoFeed text → before_feed text ≡ text
before_feed-none [] none = refl
before_feed-none (b ∷ bs) none =
    rw (HasNoFeed-head b bs none, before_feed-none bs (HasNoFeed-tail b bs none)) refl

no_feed_cut : (b : ℕ) (bs : List ℕ) (test : Bool) → eqb b line_feed ≡ test → HasNoFeed bs → HasNoFeed (cond test [] (b ∷ bs))
no_feed_cut b bs true e none = All-nil (λ x. x ≢ line_feed)
no_feed_cut b bs false e none = All-cons (λ x. x ≢ line_feed) b bs (eqb-false b line_feed e) none

HasNoFeed-before : (text : List ℕ) → HasNoFeed (before_feed text)
HasNoFeed-before [] = All-nil (λ x. x ≢ line_feed)
HasNoFeed-before (b ∷ bs) = no_feed_cut b (before_feed bs) (eqb b line_feed) refl (HasNoFeed-before bs)

length_before : (b : ℕ) (bs : List ℕ) (test : Bool) → length (cond test [] (b ∷ bs)) ≤ suc (length bs)
length_before b bs true = omega arith
length_before b bs false = omega arith

length-before_feed : (text : List ℕ) → length (before_feed text) ≤ length text
length-before_feed [] = omega arith
length-before_feed (b ∷ bs) = omega (arith, length_before b (before_feed bs) (eqb b line_feed), length-before_feed bs)

-- ---- carriage returns at the end

-- the text doesn't end in a carriage return
abbrev pub NoReturn : List ℕ → Type 0
NoReturn text = (front : List ℕ) → text ≢ front ++ carriage_return ∷ []

keeps_first : (b : ℕ) (test : Bool) → eqb b carriage_return ≡ test → NoReturn (b ∷ []) → cond test [] (b ∷ []) ≡ b ∷ []
keeps_first b true e none = absurd (none [] (ap (λ (x : ℕ). x ∷ []) (eqb-true b carriage_return e)))
keeps_first b false e none = refl

NoReturn-tail : (b : ℕ) (bs : List ℕ) → NoReturn (b ∷ bs) → NoReturn bs
NoReturn-tail b bs none front e = none (b ∷ front) (ap (λ (t : List ℕ). b ∷ t) e)

keeps_more : (b : ℕ) (bs : List ℕ) → NoReturn (b ∷ bs) → before_stripped b bs ≡ b ∷ bs
keeps_more b [] none = keeps_first b (eqb b carriage_return) refl none
keeps_more b (c ∷ cs) none = refl

pub strip-none : (text : List ℕ) → NoReturn text → strip text ≡ text
strip-none [] none = refl
strip-none (b ∷ bs) none = rw (strip-none bs (NoReturn-tail b bs none)) (keeps_more b bs none)

pub strip-return : (text : List ℕ) → strip (text ++ carriage_return ∷ []) ≡ strip text
strip-return [] = refl
strip-return (b ∷ bs) = ap (λ (t : List ℕ). before_stripped b t) (strip-return bs)

pub strip_returns : (text front : List ℕ) (last : ℕ) → text ≡ front ++ last ∷ [] → last ≡ carriage_return → strip front ≡ strip text
strip_returns text front last e same = rw (e, same) (sym (strip-return front))

pub strip_other : (text front : List ℕ) (last : ℕ) → text ≡ front ++ last ∷ [] → last ≢ carriage_return → strip text ≡ text
strip_other text front last e other = strip-none text (λ before at. other (same_from_push front before last carriage_return (sym e ∙ at)).1)

pub strip_empty : (text : List ℕ) → length text ≡ 0 → strip text ≡ text
strip_empty [] empty = refl
strip_empty (b ∷ bs) empty = absurd (omega arith)

NoReturn-nil : NoReturn []
NoReturn-nil [] e = absurd cc
NoReturn-nil (f ∷ front) e = absurd cc

NoReturn-one : (b : ℕ) (test : Bool) → eqb b carriage_return ≡ test → NoReturn (cond test [] (b ∷ []))
NoReturn-one b true t front e = NoReturn-nil front e
NoReturn-one b false t [] e = let same : b ≡ carriage_return = cc in eqb-false b carriage_return t same
NoReturn-one b false t (f ∷ []) e = absurd cc
NoReturn-one b false t (f ∷ g ∷ front) e = absurd cc

NoReturn-stripped : (b : ℕ) (bs : List ℕ) → NoReturn bs → NoReturn (before_stripped b bs)
NoReturn-stripped b [] none front e = NoReturn-one b (eqb b carriage_return) refl front e
NoReturn-stripped b (c ∷ cs) none [] e = absurd cc
NoReturn-stripped b (c ∷ cs) none (f ∷ front) e = let rest : c ∷ cs ≡ front ++ carriage_return ∷ [] = cc in none front rest

pub NoReturn-strip : (text : List ℕ) → NoReturn (strip text)
NoReturn-strip [] = NoReturn-nil
NoReturn-strip (b ∷ bs) = NoReturn-stripped b (strip bs) (NoReturn-strip bs)

no_feed_one : (b : ℕ) (test : Bool) → b ≢ line_feed → HasNoFeed (cond test [] (b ∷ []))
no_feed_one b true ne = All-nil (λ x. x ≢ line_feed)
no_feed_one b false ne = All-cons (λ x. x ≢ line_feed) b [] ne (All-nil (λ x. x ≢ line_feed))

no_feed_stripped : (b : ℕ) (bs : List ℕ) → b ≢ line_feed → HasNoFeed bs → HasNoFeed (before_stripped b bs)
no_feed_stripped b [] ne none = no_feed_one b (eqb b carriage_return) ne
no_feed_stripped b (c ∷ cs) ne none = All-cons (λ x. x ≢ line_feed) b (c ∷ cs) ne none

HasNoFeed-strip : (text : List ℕ) → HasNoFeed text → HasNoFeed (strip text)
HasNoFeed-strip [] none = none
HasNoFeed-strip (b ∷ bs) none = no_feed_stripped b (strip bs) (All-head (λ x. x ≢ line_feed) b bs none) (HasNoFeed-strip bs (HasNoFeed-tail b bs none))

length_one : (b : ℕ) (test : Bool) → length (cond test [] (b ∷ [])) ≤ 1
length_one b true = omega arith
length_one b false = omega arith

length_stripped : (b : ℕ) (bs : List ℕ) → length (before_stripped b bs) ≤ suc (length bs)
length_stripped b [] = length_one b (eqb b carriage_return)
length_stripped b (c ∷ cs) = omega arith

length-strip : (text : List ℕ) → length (strip text) ≤ length text
length-strip [] = omega arith
length-strip (b ∷ bs) = omega (arith, length_stripped b (strip bs), length-strip bs)

-- ---- lines

pub IsGoodTest-line : (piece : List ℕ) → IsGoodTest (line_of piece)
IsGoodTest-line piece = record {
  one_line = HasNoFeed-strip (before_feed piece) (HasNoFeed-before piece);
  no_return = NoReturn-strip (before_feed piece);
}

every_line : (pieces : List (List ℕ)) → All IsGoodTest (map line_of pieces)
every_line [] = All-nil IsGoodTest
every_line (piece ∷ pieces) = All-cons IsGoodTest (line_of piece) (map line_of pieces) (IsGoodTest-line piece) (every_line pieces)

-- no line of a text has a line feed or ends in a carriage return
pub IsGoodTest-lines : (text : List ℕ) → All IsGoodTest (lines_of text)
IsGoodTest-lines text = every_line (pieces_of text)

-- there are at most as many lines as bytes
pub length-lines : (text : List ℕ) → length (lines_of text) ≤ length text
length-lines text = omega (arith, length-map (pieces_of text) line_of, length-pieces text)

bytes_of_lines : (pieces : List (List ℕ)) → sum_by length (map line_of pieces) ≤ length (concat pieces)
bytes_of_lines [] = omega arith
bytes_of_lines (piece ∷ pieces) =
    omega (arith, sum_by-cons length (line_of piece) (map line_of pieces), length-append piece (concat pieces), bytes_of_lines pieces, length-strip (before_feed piece), length-before_feed piece)

-- together the lines have at most as many bytes as the text
pub bytes-lines : (text : List ℕ) → sum_by length (lines_of text) ≤ length text
bytes-lines text = omega (arith, bytes_of_lines (pieces_of text), ap length (concat-pieces text))

pub lines_at : (front rest : List ℕ) → HasNoFeed front → lines_of (front ++ line_feed ∷ rest) ≡ strip front ∷ lines_of rest
lines_at front rest none = rw (pieces_at front rest none, before_feed-at front [] none) refl

pub lines_last : (b : ℕ) (bs : List ℕ) → HasNoFeed (b ∷ bs) → lines_of (b ∷ bs) ≡ strip (b ∷ bs) ∷ []
lines_last b bs none = rw (pieces_last b bs none, before_feed-none (b ∷ bs) none) refl

-- ---- at the place that a search for the line feed gives

HasNoFeed-from : (text : List ℕ) → Nowhere (Passes (is_byte line_feed) text) 0 (length text) → HasNoFeed text
HasNoFeed-from text none =
    All-from_get_or (λ b. b ≢ line_feed) text 0 (λ k lt e. none k (omega arith) lt (eq-eqb (get_or text k 0) line_feed e))

HasNoFeed-take : (text : List ℕ) (i : ℕ) → Nowhere (Passes (is_byte line_feed) text) 0 i → HasNoFeed (take i text)
HasNoFeed-take text i none =
    All-from_get_or (λ b. b ≢ line_feed) (take i text) 0 (λ k lt e.
    let below : k < i = omega (arith, length-take i text) in
    none k (omega arith) below (eq-eqb (get_or text k 0) line_feed (sym (get_or-take i text k 0 below) ∙ e)))

-- if the first line feed is at this place, the text is the bytes before it, a line feed, and the bytes after it
parts_at : (text : List ℕ) (i : ℕ) → NoneBefore (Passes (is_byte line_feed) text) 0 (length text) i → Passes (is_byte line_feed) text i → text ≡ take i text ++ line_feed ∷ drop (i + 1) text
parts_at text i first here =
    let after : drop i text ≡ line_feed ∷ drop (i + 1) text = drop_more text i 0 first.high ∙ ap (λ (b : ℕ). b ∷ drop (i + 1) text) (eqb-true (get_or text i 0) line_feed here) in
    sym (take-append-drop i text) ∙ ap (λ (t : List ℕ). take i text ++ t) after

pub cut_at : (text front rest : List ℕ) → HasNoFeed front → text ≡ front ++ line_feed ∷ rest → IsFirstCut text (strip front) rest
cut_at text front rest none parts = record {
  piece = front ++ line_feed ∷ [];
  first = ap pieces_of parts ∙ pieces_at front rest none;
  line_is = ap strip (sym (before_feed-at front [] none));
  after = parts ∙ sym (append_assoc front (line_feed ∷ []) rest);
}

cut_whole : (b : ℕ) (bs : List ℕ) → HasNoFeed (b ∷ bs) → IsFirstCut (b ∷ bs) (strip (b ∷ bs)) []
cut_whole b bs none = record {
  piece = b ∷ bs;
  first = pieces_last b bs none;
  line_is = ap strip (sym (before_feed-none (b ∷ bs) none));
  after = sym (append-nil (b ∷ bs));
}

-- if the search found a line feed, the code's line and rest are the first cut of the text
pub first_cut_at : (text line rest : List ℕ) (i : ℕ) → NoneBefore (Passes (is_byte line_feed) text) 0 (length text) i × Passes (is_byte line_feed) text i → line ≡ strip (take i text) → rest ≡ drop (i + 1) text → IsFirstCut text line rest
first_cut_at text line rest i found line-is rest-is =
    rw (line-is, rest-is) (cut_at text (take i text) (drop (i + 1) text) (HasNoFeed-take text i found.0.before) (parts_at text i found.0 found.1))

-- likewise if it found none, and the line is the whole text
pub first_cut_whole : (text line rest : List ℕ) → 0 < length text → Nowhere (Passes (is_byte line_feed) text) 0 (length text) → line ≡ strip text → length rest ≡ 0 → IsFirstCut text line rest
first_cut_whole [] line rest some none line-is empty = absurd (omega (arith, some))
first_cut_whole (b ∷ bs) line [] some none line-is empty = rw line-is (cut_whole b bs (HasNoFeed-from (b ∷ bs) none))
first_cut_whole text line (b ∷ bs) some none line-is empty = absurd (omega (arith, empty))

-- the lines of a text that is cut like this are the first line and those of the rest
pub lines_after : (text line rest : List ℕ) → IsFirstCut text line rest → lines_of text ≡ line ∷ lines_of rest
lines_after text line rest cut = ap (map line_of) cut.first ∙ ap (λ (l : List ℕ). l ∷ lines_of rest) (sym cut.line_is)

-- ---- texts joined to others

concat_first : (b : ℕ) (front rest : List (List ℕ)) → 0 < length front → onto_first b (front ++ rest) ≡ onto_first b front ++ rest
concat_first b [] rest some = absurd (omega arith)
concat_first b (piece ∷ front) rest some = refl

some_onto : (b : ℕ) (pieces : List (List ℕ)) → 0 < length (onto_first b pieces)
some_onto b [] = omega arith
some_onto b (piece ∷ pieces) = omega arith

some_cut : (b : ℕ) (pieces : List (List ℕ)) (test : Bool) → 0 < length (cond test ((b ∷ []) ∷ pieces) (onto_first b pieces))
some_cut b pieces true = omega arith
some_cut b pieces false = some_onto b pieces

-- a text that ends in a line feed has at least one piece
some_pieces : (front : List ℕ) → 0 < length (pieces_of (front ++ line_feed ∷ []))
some_pieces [] = lit< tt
some_pieces (b ∷ bs) = some_cut b (pieces_of (bs ++ line_feed ∷ [])) (eqb b line_feed)

cut_first : (b : ℕ) (front rest : List (List ℕ)) (test : Bool) → 0 < length front → cond test ((b ∷ []) ∷ (front ++ rest)) (onto_first b (front ++ rest)) ≡ cond test ((b ∷ []) ∷ front) (onto_first b front) ++ rest
cut_first b front rest true some = refl
cut_first b front rest false some = concat_first b front rest some

pieces-append : (front rest : List ℕ) → pieces_of (front ++ line_feed ∷ rest) ≡ pieces_of (front ++ line_feed ∷ []) ++ pieces_of rest
pieces-append [] rest = refl
pieces-append (b ∷ bs) rest =
    let test = eqb b line_feed in
    ap (λ (ps : List (List ℕ)). cond test ((b ∷ []) ∷ ps) (onto_first b ps)) (pieces-append bs rest) ∙ cut_first b (pieces_of (bs ++ line_feed ∷ [])) (pieces_of rest) test (some_pieces bs)

-- the lines of a text with a line feed in it are those up to this line feed, and then those of the text after it
pub lines-append : (front rest : List ℕ) → lines_of (front ++ line_feed ∷ rest) ≡ lines_of (front ++ line_feed ∷ []) ++ lines_of rest
lines-append front rest = ap (λ (ps : List (List ℕ)). map line_of ps) (pieces-append front rest) ∙ map-append line_of (pieces_of (front ++ line_feed ∷ [])) (pieces_of rest)

-- if all these lines fit into one line, the text that has each with a line feed after it has exactly these lines
pub lines-joined : (lines : List (List ℕ)) → All IsGoodTest lines → lines_of (flat_map (λ line. line ++ line_feed ∷ []) lines) ≡ lines
lines-joined [] good = refl
lines-joined (line ∷ lines) good =
    let first = All-head IsGoodTest line lines good in
    let rest = flat_map (λ l. l ++ line_feed ∷ []) lines in
    ap lines_of (append_assoc line (line_feed ∷ []) rest) ∙ (lines_at line rest first.one_line ∙ (ap (λ (l : List ℕ). l ∷ lines_of rest) (strip-none line first.no_return) ∙ ap (λ (ls : List (List ℕ)). line ∷ ls) (lines-joined lines (All-tail IsGoodTest line lines good))))

parts_one : (b n : ℕ) (test : Bool) → eqb b carriage_return ≡ test → (m : ℕ) × (b ∷ replicate n carriage_return ≡ cond test [] (b ∷ []) ++ replicate m carriage_return)
parts_one b n true e = (suc n, ap (λ (x : ℕ). x ∷ replicate n carriage_return) (eqb-true b carriage_return e))
parts_one b n false e = (n, refl)

parts_stripped : (b : ℕ) (bs : List ℕ) (n : ℕ) → (m : ℕ) × (b ∷ (bs ++ replicate n carriage_return) ≡ before_stripped b bs ++ replicate m carriage_return)
parts_stripped b [] n = parts_one b n (eqb b carriage_return) refl
parts_stripped b (c ∷ cs) n = (n, refl)

-- `strip` takes only carriage returns off the end of a text
pub strip-parts : (text : List ℕ) → (n : ℕ) × (text ≡ strip text ++ replicate n carriage_return)
strip-parts [] = (0, refl)
strip-parts (b ∷ bs) =
    let rest = strip-parts bs in
    let parts = parts_stripped b (strip bs) rest.0 in
    (parts.0, ap (λ (t : List ℕ). b ∷ t) rest.1 ∙ parts.1)
