-- Whole lines of a text that are taken at once.
use Rattle.std.proofs.Common.{◌≡◌, None, Some, ℕ, zero, suc, ◌+◌, ◌^◌, ◌-◌, ◌<◌, ◌≤◌, Bool, true, false, eqb, List, [], ◌∷◌, ◌++◌, length, take, get_or, min, refl, sym, ◌∙◌, ap, subst, arith, append_assoc, append-nil, length-append}
use Rattle.std.proofs.lemmas.Bool.{eqb-true}
use Rattle.memchr.specs.Find.{FindsNeedle, IsLastByte, Nowhere, OccursAt, is_byte}
use Rattle.std.specs.List.{concat}
use Rattle.covdata.specs.Delimiters.{line_feed}
use Rattle.covline.specs.Lines.{before_feed}
use Rattle.covsession.specs.Command.{IsBody}
use Rattle.covread.specs.Outcome.{max_bytes}
use Rattle.covsession.specs.Streams.{InputData, Moment, Moves, AreCut, moment, turns}
use Rattle.covsession.specs.Text.{line_after, line_with, starts_with_dot, AreLines, HasCollected, IsCollected}
use Rattle.covsession.specs.declared.session.text.LineEnd.TheVariants.{Feed}
use Rattle.covsession.specs.declared.session.text.LineSoFar.{LineSoFar}
use Rattle.covsession.specs.declared.session.text.LineSoFar.TheVariants.{Nothing, Dot, Other}
use Rattle.covsession.specs.declared.session.text.Text.{Text}
use Rattle.covsession.proofs.SessionBytes.{before_feed-append, line_after-append, not_true}
use Rattle.covsession.proofs.SessionMoves.{Moves-part, Moves-trans}
use Rattle.covsession.proofs.SessionPieces.{cut_append, cut_ending, not_last}

-- no lines
pub no_lines : AreLines []
no_lines = record { body = []; joined = refl; none_last = tt; cut = λ more. refl }

-- one line before others
line_before : (line rest : List ℕ) → before_feed line ≡ line → (line_after Nothing line ≡ Dot → ⊥) → AreLines rest → AreLines (line ++ line_feed ∷ rest)
line_before line rest one other h = record {
  body = (line ++ line_feed ∷ []) ∷ h.body;
  joined = append_assoc line (line_feed ∷ []) (concat h.body) ∙ ap (λ (u : List ℕ). line ++ line_feed ∷ u) h.joined;
  none_last = (not_last Feed line one other, h.none_last);
  cut =
      let P : List ℕ → Type 0 = λ u. AreCut Feed u ((line ++ line_feed ∷ []) ∷ h.body) in
      subst P (append_assoc line (line_feed ∷ []) rest) (cut_append Feed (line ++ line_feed ∷ []) rest ((line ++ line_feed ∷ []) ∷ []) h.body (cut_ending Feed line one) h.cut);
}

-- a byte that isn't a line feed goes on with the line
line_byte : (line : List ℕ) (b : ℕ) → before_feed line ≡ line → eqb b line_feed ≡ false → before_feed (line ++ b ∷ []) ≡ line ++ b ∷ []
line_byte line b one e =
    let alone : before_feed (b ∷ []) ≡ b ∷ [] = rw e refl in
    before_feed-append line (b ∷ []) one ∙ ap (λ (u : List ℕ). line ++ u) alone

-- a line that isn't `Dot` is `Other` after one more byte, unless this is a dot and the line's first byte
still_other : (so_far : LineSoFar) (b : ℕ) → (so_far ≡ Dot → ⊥) → (so_far ≡ Nothing → eqb b 46 ≡ false) → line_with so_far b ≡ Other
still_other Nothing b dot first = rw (first refl) refl
still_other Dot b dot first = absurd (dot refl)
still_other Other b dot first = refl

not_dot : Other ≡ Dot → ⊥
not_dot e = cc

not_nothing : Other ≡ Nothing → ⊥
not_nothing e = cc

none_dot : Nothing ≡ Dot → ⊥
none_dot e = cc

-- the line that was begun and the bytes after it are whole lines, none of which ends a text: the last byte is a line feed, and
-- no further line begins with a dot
pub lines_in : (line xs : List ℕ) (m : ℕ) (so_far : LineSoFar) → before_feed line ≡ line → line_after Nothing line ≡ so_far → (so_far ≡ Dot → ⊥)
    → (so_far ≡ Nothing → eqb (get_or xs 0 0) 46 ≡ false) → m < length xs → eqb (get_or xs m 0) line_feed ≡ true
    → ((j : ℕ) → j < m → eqb (get_or xs j 0) line_feed ≡ true → eqb (get_or xs (suc j) 0) 46 ≡ false)
    → AreLines (line ++ take (suc m) xs)
lines_in line [] m so_far one is other first few last pairs = absurd (omega arith)
lines_in line (b ∷ bs) zero so_far one is other first few last pairs =
    let P : ℕ → Type 0 = λ c. AreLines (line ++ c ∷ []) in
    subst P (sym (eqb-true b line_feed last)) (line_before line [] one (λ d. other (sym is ∙ d)) no_lines)
lines_in line (b ∷ bs) (suc m) so_far one is other first few last pairs =
    by (eqb b line_feed) refl
    (λ e. lines_in [] bs m Nothing refl refl none_dot (λ n. pairs 0 (omega arith) e) (omega (arith, few)) last (λ j l f. pairs (suc j) (omega (arith, l)) f))
    (λ e.
    let next : line_after Nothing (line ++ b ∷ []) ≡ Other = line_after-append Nothing line (b ∷ []) ∙ ap (λ (s : LineSoFar). line_with s b) is ∙ still_other so_far b other first in
    lines_in (line ++ b ∷ []) bs m Other (line_byte line b one e) next not_dot (λ n. absurd (not_nothing n)) (omega (arith, few)) last (λ j l f. pairs (suc j) (omega (arith, l)) f))
  where
    by : (t : Bool) → eqb b line_feed ≡ t → (eqb b line_feed ≡ true → AreLines (take (suc m) bs))
        → (eqb b line_feed ≡ false → AreLines ((line ++ b ∷ []) ++ take (suc m) bs)) → AreLines (line ++ b ∷ take (suc m) bs)
    by true e begin on =
        let P : ℕ → Type 0 = λ c. AreLines (line ++ c ∷ take (suc m) bs) in
        subst P (sym (eqb-true b line_feed e)) (line_before line (take (suc m) bs) one (λ d. other (sym is ∙ d)) (begin e))
    by false e begin on =
        let P : List ℕ → Type 0 = AreLines in
        subst P (append_assoc line (b ∷ []) (take (suc m) bs)) (on e)

-- ---- lines found by the place of the last line feed, and of the first that a dot comes right after

occurs : (bytes : List ℕ) (j : ℕ) → suc j < length bytes → get_or bytes j 0 ≡ line_feed → get_or bytes (suc j) 0 ≡ 46 → OccursAt bytes (line_feed ∷ 46 ∷ []) j
occurs bytes j low feed dot = record {
  fits = omega (arith, low);
  reads = λ i l. by i l;
}
  where
    by : (i : ℕ) → i < 2 → get_or bytes (j + i) 0 ≡ get_or (line_feed ∷ 46 ∷ []) i 0
    by zero l = ap (λ (n : ℕ). get_or bytes n 0) (let e : j + 0 ≡ j = omega arith in e) ∙ feed
    by (suc zero) l = ap (λ (n : ℕ). get_or bytes n 0) (let e : j + 1 ≡ suc j = omega arith in e) ∙ dot
    by (suc (suc i)) l = absurd (omega arith)

no_dot_after : (bytes : List ℕ) (j bound : ℕ) → suc j < length bytes → j < bound → Nowhere (OccursAt bytes (line_feed ∷ 46 ∷ [])) 0 bound
    → eqb (get_or bytes j 0) line_feed ≡ true → eqb (get_or bytes (suc j) 0) 46 ≡ false
no_dot_after bytes j bound low within none feed =
    not_true (eqb (get_or bytes (suc j) 0) 46) (λ dot. none j (omega arith) within (occurs bytes j low (eqb-true (get_or bytes j 0) line_feed feed) (eqb-true (get_or bytes (suc j) 0) 46 dot)))

first_byte : (bytes : List ℕ) → starts_with_dot bytes ≡ false → eqb (get_or bytes 0 0) 46 ≡ false
first_byte [] e = refl
first_byte (b ∷ bs) e = e

-- the bytes before the first line that begins with a dot are such lines
pub lines_to_dot : (bytes : List ℕ) (feed : ℕ) (b : Bool) → b ≡ starts_with_dot bytes → b ≡ false → FindsNeedle bytes (line_feed ∷ 46 ∷ []) 0 (Some feed) → AreLines (take (feed + 1) bytes)
lines_to_dot bytes feed b is e found =
    let low : feed + 2 ≤ length bytes = found.1.fits in
    let here : get_or bytes (feed + 0) 0 ≡ line_feed = found.1.reads 0 (omega arith) in
    let feed_at : get_or bytes feed 0 ≡ line_feed = ap (λ (n : ℕ). get_or bytes n 0) (let e : feed ≡ feed + 0 = omega arith in e) ∙ here in
    let is_feed : eqb (get_or bytes feed 0) line_feed ≡ true = ap (λ (n : ℕ). eqb n line_feed) feed_at in
    let P : ℕ → Type 0 = λ n. AreLines (take n bytes) in
    subst P (let e : suc feed ≡ feed + 1 = omega arith in e)
    (lines_in [] bytes feed Nothing refl refl none_dot (λ n. first_byte bytes (sym is ∙ e)) (omega (arith, low)) is_feed
    (λ j l f. no_dot_after bytes j feed (omega (arith, low, l)) l found.0.before f))

-- if no line begins with a dot, the bytes up to the last line feed are such lines
pub lines_to_last : (bytes : List ℕ) (last : ℕ) (b : Bool) → b ≡ starts_with_dot bytes → b ≡ false → FindsNeedle bytes (line_feed ∷ 46 ∷ []) 0 None
    → IsLastByte (is_byte line_feed) bytes (Some last) → AreLines (take (last + 1) bytes)
lines_to_last bytes last b is e none at =
    let few : last < length bytes = at.0.high in
    let P : ℕ → Type 0 = λ n. AreLines (take n bytes) in
    subst P (let e : suc last ≡ last + 1 = omega arith in e)
    (lines_in [] bytes last Nothing refl refl none_dot (λ n. first_byte bytes (sym is ∙ e)) few at.1
    (λ j l f. no_dot_after bytes j (length bytes + 1) (omega (arith, few, l)) (omega (arith, few, l)) none f))

-- ---- lines are collected

pub collected_lines : (limit limit' : ℕ) (kept kept' : List ℕ) (total total' begins begins' : ℕ) (line line' : LineSoFar) (lines before : List ℕ)
    → IsCollected limit kept total begins line before [] → limit' ≡ limit → line' ≡ line
    → kept' ≡ take limit ((before ++ []) ++ lines) → total' ≡ min (total + length lines) (2 ^ 64 - 1) → begins' ≡ total'
    → IsCollected limit' kept' total' begins' line' (before ++ lines) []
collected_lines limit limit' kept kept' total total' begins begins' line line' lines before h el en ek et eb =
    let flat : (before ++ []) ++ lines ≡ (before ++ lines) ++ [] = ap (λ (u : List ℕ). u ++ lines) (append-nil before) ∙ sym (append-nil (before ++ lines)) in
    let n2 : total' ≡ min (length (before ++ lines)) (2 ^ 64 - 1) =
    let h1 = h.all in
    let n0 : length (before ++ []) ≡ length before = ap length (append-nil before) in
    let n1 : length (before ++ lines) ≡ length before + length lines = length-append before lines in
    omega arith in
    record {
      keeps = ek ∙ ap (λ (n : ℕ). take n ((before ++ []) ++ lines)) (sym el) ∙ ap (λ (u : List ℕ). take limit' u) flat;
      all = n2 ∙ ap (λ (u : List ℕ). min (length u) (2 ^ 64 - 1)) (sym (append-nil (before ++ lines)));
      start = eb ∙ n2;
      so_far = en ∙ h.so_far;
    }

-- ---- a text goes on by whole lines

concat_both : (xs ys : List (List ℕ)) → concat (xs ++ ys) ≡ concat xs ++ concat ys
concat_both [] ys = refl
concat_both (x ∷ xs) ys = ap (λ (u : List ℕ). x ++ u) (concat_both xs ys) ∙ sym (append_assoc x (concat xs) (concat ys))

body_both : (xs ys : List (List ℕ)) → IsBody xs → IsBody ys → IsBody (xs ++ ys)
body_both [] ys h k = k
body_both (x ∷ xs) ys h k = (h.0, body_both xs ys h.1 k)

-- between two moments, whole lines of a text were taken and collected in `text`, and no further line was begun
abbrev pub IsBegun : {A : Type 0} → Moment → Moment → Text A → Type 0
IsBegun m n text =
    (body : List (List ℕ)) × IsBody body × AreCut Feed (concat body) body × Moves m n (concat body) []
    × (turns n.input ≤ turns m.input) × HasCollected text (concat body) [] × (text.limit ≡ max_bytes)

pub begun_more : {A : Type 0} (m n : Moment) (j : InputData) (old new : Text A) (lines : List ℕ) → IsBegun m n old → AreLines lines
    → n.input.pending ≡ lines ++ j.pending → j ≡ record n.input { pending = j.pending } → turns j ≤ turns n.input
    → ((before : List ℕ) → HasCollected old before [] → HasCollected new (before ++ lines) []) → new.limit ≡ old.limit
    → IsBegun m (moment j n.output) new
begun_more m n j old new lines h k e same fewer collected limit =
    let both : concat (h.0 ++ k.body) ≡ concat h.0 ++ lines = concat_both h.0 k.body ∙ ap (λ (u : List ℕ). concat h.0 ++ u) k.joined in
    let C : List ℕ → Type 0 = λ u. AreCut Feed u (h.0 ++ k.body) in
    let M : List ℕ → Type 0 = λ u. Moves m (moment j n.output) u [] in
    let T : List ℕ → Type 0 = λ u. HasCollected new u [] in (
      h.0 ++ k.body,
      body_both h.0 k.body h.1 k.none_last,
      subst C (sym both) (cut_append Feed (concat h.0) lines h.0 k.body h.2 k.cut),
      subst M (sym both) (Moves-trans m n (moment j n.output) (concat h.0) lines [] [] h.3 (Moves-part n j lines e same)),
      omega (arith, fewer, h.4),
      subst T (sym both) (collected (concat h.0) h.5),
      limit ∙ h.6,
    )
