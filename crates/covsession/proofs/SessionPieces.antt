-- Lines and texts as pieces of an input.
use Rattle.std.proofs.Common.{◌≡◌, ◌≢◌, ℕ, ◌<◌, ◌≤◌, Bool, true, false, eqb, List, [], ◌∷◌, ◌++◌, refl, sym, ◌∙◌, ap, subst, arith, append_assoc, append-nil, codes}
use Rattle.std.proofs.lemmas.Bool.{eqb-true}
use Rattle.std.specs.List.{concat}
use Rattle.covdata.specs.Delimiters.{line_feed, carriage_return}
use Rattle.covline.specs.Lines.{before_feed, before_stripped, strip, pieces_of, onto_first, line_of}
use Rattle.covsession.specs.Command.{IsBody}
use Rattle.covsession.specs.Streams.{InputData, Moment, Moves, TakesLine, TakesPieces, AreCut, EndsAs, turns, line_bytes, line_pieces}
use Rattle.covsession.specs.Text.{line_after, line_with, IsTaken, IsTextOf, HasCollected}
use Rattle.covsession.specs.declared.session.text.Text.{Text}
use Rattle.covsession.specs.declared.session.text.CollectedText.{CollectedText}
use Rattle.covsession.specs.declared.session.text.CollectedText.TheVariants.{Whole, TooLong, Unfinished}
use Rattle.covsession.specs.declared.session.text.LineEnd.{LineEnd}
use Rattle.covsession.specs.declared.session.text.LineEnd.TheVariants.{Feed, Input}
use Rattle.covsession.specs.declared.session.text.LineSoFar.{LineSoFar}
use Rattle.covsession.specs.declared.session.text.LineSoFar.TheVariants.{Nothing, Dot, Other}
use Rattle.covsession.proofs.SessionBytes.{before_feed-append, line_after-other}
use Rattle.covsession.proofs.SessionMoves.{Moves-trans}

-- a line with its line feed is one piece, whatever follows
cut_cons : (x : ℕ) (xs more : List ℕ) (b : Bool) → eqb x line_feed ≡ b
    → (before_feed xs ≡ xs → pieces_of ((xs ++ line_feed ∷ []) ++ more) ≡ (xs ++ line_feed ∷ []) ∷ pieces_of more)
    → before_feed (x ∷ xs) ≡ x ∷ xs → pieces_of (x ∷ ((xs ++ line_feed ∷ []) ++ more)) ≡ (x ∷ (xs ++ line_feed ∷ [])) ∷ pieces_of more
cut_cons x xs more true e go h = let bad : [] ≡ x ∷ xs = rw e at h in absurd (let no : ⊥ = cc in no)
cut_cons x xs more false e go h =
    let tail : x ∷ before_feed xs ≡ x ∷ xs = rw e at h in
    let rest : before_feed xs ≡ xs = cc in
    rw e (ap (λ (ps : List (List ℕ)). onto_first x ps) (go rest))

pub cut_line : (line : List ℕ) → before_feed line ≡ line → (more : List ℕ) → pieces_of ((line ++ line_feed ∷ []) ++ more) ≡ (line ++ line_feed ∷ []) ∷ pieces_of more
cut_line [] h more = refl
cut_line (x ∷ xs) h more = cut_cons x xs more (eqb x line_feed) refl (λ k. cut_line xs k more) h

onto_last : (x : ℕ) (xs : List ℕ) → onto_first x (line_pieces Input xs) ≡ (x ∷ xs) ∷ []
onto_last x [] = refl
onto_last x (y ∷ ys) = refl

-- the last line without a line feed is one piece, if it has a byte
last_cons : (x : ℕ) (xs : List ℕ) (b : Bool) → eqb x line_feed ≡ b → (before_feed xs ≡ xs → pieces_of xs ≡ line_pieces Input xs)
    → before_feed (x ∷ xs) ≡ x ∷ xs → pieces_of (x ∷ xs) ≡ (x ∷ xs) ∷ []
last_cons x xs true e go h = let bad : [] ≡ x ∷ xs = rw e at h in absurd (let no : ⊥ = cc in no)
last_cons x xs false e go h =
    let tail : x ∷ before_feed xs ≡ x ∷ xs = rw e at h in
    let rest : before_feed xs ≡ xs = cc in
    rw e (ap (λ (ps : List (List ℕ)). onto_first x ps) (go rest) ∙ onto_last x xs)

pub cut_last : (line : List ℕ) → before_feed line ≡ line → pieces_of line ≡ line_pieces Input line
cut_last [] h = refl
cut_last (x ∷ xs) h = last_cons x xs (eqb x line_feed) refl (λ k. cut_last xs k) h

pub cut_ending : (ending : LineEnd) (line : List ℕ) → before_feed line ≡ line → AreCut ending (line_bytes ending line) (line_pieces ending line)
cut_ending Feed line h = λ more. cut_line line h more
cut_ending Input line h = cut_last line h

pub cut_append : (ending : LineEnd) (xs ys : List ℕ) (ps qs : List (List ℕ)) → AreCut Feed xs ps → AreCut ending ys qs → AreCut ending (xs ++ ys) (ps ++ qs)
cut_append Feed xs ys ps qs h k = λ more.
    ap pieces_of (append_assoc xs ys more) ∙ h (ys ++ more) ∙ ap (λ (u : List (List ℕ)). ps ++ u) (k more) ∙ sym (append_assoc ps qs (pieces_of more))
cut_append Input xs ys ps qs h k = h ys ∙ ap (λ (u : List (List ℕ)). ps ++ u) k

-- a line with its ending, cut off again by `line_of`, is the line without the carriage returns at its end
pub line_of_bytes : (ending : LineEnd) (line : List ℕ) → before_feed line ≡ line → line_of (line_bytes ending line) ≡ strip line
line_of_bytes Feed line h = ap strip (before_feed-append line (line_feed ∷ []) h ∙ append-nil line)
line_of_bytes Input line h = ap strip h

-- a line is one that ends a text exactly if it is a dot, with any number of carriage returns after it
not_dot : Other ≢ Dot
not_dot e = cc

no_byte : Nothing ≢ Dot
no_byte e = cc

returns_byte : (b : ℕ) (bs : List ℕ) (t : Bool) → eqb b carriage_return ≡ t → (line_after Dot bs ≡ Dot → strip bs ≡ [])
    → line_after (line_with Dot b) bs ≡ Dot → before_stripped b (strip bs) ≡ []
returns_byte b bs true e go h =
    let k : line_after Dot bs ≡ Dot = rw e at h in
    let none : strip bs ≡ [] = go k in rw none (rw e refl)
returns_byte b bs false e go h =
    let k : line_after Other bs ≡ Dot = rw e at h in absurd (not_dot (sym (line_after-other bs) ∙ k))

returns_only : (bs : List ℕ) → line_after Dot bs ≡ Dot → strip bs ≡ []
returns_only [] h = refl
returns_only (b ∷ bs) h = returns_byte b bs (eqb b carriage_return) refl (λ k. returns_only bs k) h

stripped_byte : (b : ℕ) (bs ss : List ℕ) (t : Bool) → eqb b carriage_return ≡ t → strip bs ≡ ss → (strip bs ≡ [] → line_after Dot bs ≡ Dot)
    → before_stripped b ss ≡ [] → line_after (line_with Dot b) bs ≡ Dot
stripped_byte b bs [] true e es go h = rw e (go es)
stripped_byte b bs [] false e es go h = let bad : b ∷ [] ≡ [] = rw e at h in absurd (let no : ⊥ = cc in no)
stripped_byte b bs (s ∷ ss) t e es go h = absurd (let no : ⊥ = cc in no)

stripped_only : (bs : List ℕ) → strip bs ≡ [] → line_after Dot bs ≡ Dot
stripped_only [] h = refl
stripped_only (b ∷ bs) h = stripped_byte b bs (strip bs) (eqb b carriage_return) refl refl (λ k. stripped_only bs k) h

dot_byte : (b : ℕ) (bs : List ℕ) (t : Bool) → eqb b 46 ≡ t → line_after (line_with Nothing b) bs ≡ Dot → before_stripped b (strip bs) ≡ codes "."
dot_byte b bs true e h =
    let k : line_after Dot bs ≡ Dot = rw e at h in
    let is : b ≡ 46 = eqb-true b 46 e in
    rw is (rw (returns_only bs k) refl)
dot_byte b bs false e h =
    let k : line_after Other bs ≡ Dot = rw e at h in absurd (not_dot (sym (line_after-other bs) ∙ k))

pub dot_line : (line : List ℕ) → line_after Nothing line ≡ Dot → strip line ≡ codes "."
dot_line [] h = absurd (no_byte h)
dot_line (b ∷ bs) h = dot_byte b bs (eqb b 46) refl h

head_is : (a b : ℕ) (xs ys : List ℕ) → a ∷ xs ≡ b ∷ ys → a ≡ b
head_is a b xs ys e = cc

is_dot_byte : (b : ℕ) (bs ss : List ℕ) (t : Bool) → eqb b carriage_return ≡ t → strip bs ≡ ss → before_stripped b ss ≡ 46 ∷ [] → line_after (line_with Nothing b) bs ≡ Dot
is_dot_byte b bs [] true e es h = let bad : [] ≡ 46 ∷ [] = rw e at h in absurd (let no : ⊥ = cc in no)
is_dot_byte b bs [] false e es h =
    let alone : b ∷ [] ≡ 46 ∷ [] = rw e at h in
    rw (head_is b 46 [] [] alone) (stripped_only bs es)
is_dot_byte b bs (s ∷ ss) t e es h = absurd (let no : ⊥ = cc in no)

pub is_dot_line : (line : List ℕ) → strip line ≡ codes "." → line_after Nothing line ≡ Dot
is_dot_line [] h = absurd (let bad : [] ≡ 46 ∷ [] = h in let no : ⊥ = cc in no)
is_dot_line (b ∷ bs) h = is_dot_byte b bs (strip bs) (eqb b carriage_return) refl refl h

pub dot_pieces : (ending : LineEnd) (line : List ℕ) → line_after Nothing line ≡ Dot → line_pieces ending line ≡ line_bytes ending line ∷ []
dot_pieces Feed line h = refl
dot_pieces Input [] h = absurd (no_byte h)
dot_pieces Input (b ∷ bs) h = refl

-- pieces were taken, and then one more line
ends_more : (m n o : InputData) (ending : LineEnd) → turns n ≤ turns m → EndsAs ending n o → EndsAs ending m o
ends_more m n o Feed le h = omega arith
ends_more m n o Input le h = h

pub takes_more : (m n o : Moment) (bytes line : List ℕ) (pieces : List (List ℕ)) (ending : LineEnd)
    → AreCut Feed bytes pieces → Moves m n bytes [] → turns n.input ≤ turns m.input → TakesLine n o line ending
    → TakesPieces m o (pieces ++ line_pieces ending line) ending []
takes_more m n o bytes line pieces ending cut moves le h = record {
  bytes = bytes ++ line_bytes ending line;
  moves = Moves-trans m n o bytes (line_bytes ending line) [] [] moves h.moves;
  cut = cut_append ending bytes (line_bytes ending line) pieces (line_pieces ending line) cut (cut_ending ending line h.one_line);
  ended = ends_more m.input n.input o.input ending le h.ended;
}

pub body_more : (body : List (List ℕ)) (piece : List ℕ) → IsBody body → line_of piece ≢ codes "." → IsBody (body ++ piece ∷ [])
body_more [] piece h k = (k, tt)
body_more (p ∷ ps) piece h k = (h.0, body_more ps piece h.1 k)

pub concat_more : (body : List (List ℕ)) (piece : List ℕ) → concat (body ++ piece ∷ []) ≡ concat body ++ piece
concat_more [] piece = append-nil piece
concat_more (p ∷ ps) piece = ap (λ (u : List ℕ). p ++ u) (concat_more ps piece) ∙ sym (append_assoc p (concat ps) piece)

-- the line that ends a text was taken
pub text_done : (m n o : Moment) (body : List (List ℕ)) (line : List ℕ) (ending : LineEnd)
    → AreCut Feed (concat body) body → Moves m n (concat body) [] → turns n.input ≤ turns m.input → TakesLine n o line ending
    → line_after Nothing line ≡ Dot → TakesPieces m o (body ++ line_bytes ending line ∷ []) ending []
text_done m n o body line ending cut moves le h dot =
    let P : List (List ℕ) → Type 0 = λ u. TakesPieces m o (body ++ u) ending [] in
    subst P (dot_pieces ending line dot) (takes_more m n o (concat body) line body ending cut moves le h)

pub is_taken : {A : Type 0} (taken : CollectedText A) (body : List (List ℕ)) (line : List ℕ) (ending : LineEnd) → IsBody body
    → before_feed line ≡ line → line_after Nothing line ≡ Dot → IsTextOf (concat body) taken → IsTaken (body ++ line_bytes ending line ∷ []) ending taken
is_taken (Whole kept) body line ending h one dot t = (body, line_bytes ending line, refl, h, line_of_bytes ending line one ∙ dot_line line dot, t)
is_taken TooLong body line ending h one dot t = (body, line_bytes ending line, refl, h, line_of_bytes ending line one ∙ dot_line line dot, t)
is_taken Unfinished body line ending h one dot t = absurd t

pub not_last : (ending : LineEnd) (line : List ℕ) → before_feed line ≡ line → (line_after Nothing line ≡ Dot → ⊥) → line_of (line_bytes ending line) ≢ codes "."
not_last ending line one other e = other (is_dot_line line (sym (line_of_bytes ending line one) ∙ e))

-- the input ended in a text: no line up to the end is the one that ends the text
pub text_rest : (body : List (List ℕ)) (line : List ℕ) → IsBody body → before_feed line ≡ line → (line_after Nothing line ≡ Dot → ⊥)
    → IsBody (body ++ line_pieces Input line)
text_rest body [] h one other = let P : List (List ℕ) → Type 0 = IsBody in subst P (sym (append-nil body)) h
text_rest body (b ∷ bs) h one other = body_more body (b ∷ bs) h (not_last Input (b ∷ bs) one other)

-- another line of a text was taken
pub more_cut : (body : List (List ℕ)) (line : List ℕ) → AreCut Feed (concat body) body → before_feed line ≡ line
    → AreCut Feed (concat (body ++ (line ++ line_feed ∷ []) ∷ [])) (body ++ (line ++ line_feed ∷ []) ∷ [])
more_cut body line cut one =
    let P : List ℕ → Type 0 = λ u. AreCut Feed u (body ++ (line ++ line_feed ∷ []) ∷ []) in
    subst P (sym (concat_more body (line ++ line_feed ∷ [])))
    (cut_append Feed (concat body) (line ++ line_feed ∷ []) body ((line ++ line_feed ∷ []) ∷ []) cut (cut_ending Feed line one))

pub more_moves : (m n o : Moment) (body : List (List ℕ)) (line : List ℕ) → Moves m n (concat body) [] → TakesLine n o line Feed
    → Moves m o (concat (body ++ (line ++ line_feed ∷ []) ∷ [])) []
more_moves m n o body line moves h =
    let P : List ℕ → Type 0 = λ u. Moves m o u [] in
    subst P (sym (concat_more body (line ++ line_feed ∷ []))) (Moves-trans m n o (concat body) (line ++ line_feed ∷ []) [] [] moves h.moves)

pub more_turns : (m n o : Moment) (line : List ℕ) → turns n.input ≤ turns m.input → TakesLine n o line Feed → turns o.input ≤ turns m.input
more_turns m n o line le h = let lt : turns o.input < turns n.input = h.ended in omega arith

pub more_collected : {A : Type 0} (text : Text A) (body : List (List ℕ)) (line : List ℕ)
    → HasCollected text (concat body ++ (line ++ line_feed ∷ [])) [] → HasCollected text (concat (body ++ (line ++ line_feed ∷ []) ∷ [])) []
more_collected text body line h =
    let P : List ℕ → Type 0 = λ u. HasCollected text u [] in subst P (sym (concat_more body (line ++ line_feed ∷ []))) h

pub same_line : (line : LineSoFar) (now : List ℕ) → line ≡ line_after Nothing now → (line ≡ Dot → ⊥) → line_after Nothing now ≡ Dot → ⊥
same_line line now e other d = other (e ∙ d)
