-- How the steps of a session join: what was taken, what was said, and what was collected.
use Rattle.std.proofs.Common.{◌≡◌, ℕ, ◌+◌, ◌≤◌, List, [], ◌∷◌, ◌++◌, length, Bool, true, false, Option, None, Some, refl, sym, ◌∙◌, ap, subst, arith, append_assoc, append-nil, length-append}
use Rattle.std.specs.Io.KnownBytes.{Consumes, Appends, IsAtEnd, append_known}
use Rattle.std.proofs.lemmas.Bool.{eqb-true}
use Rattle.std.specs.Prelude.{◌==◌}
use Rattle.covdata.specs.Delimiters.{line_feed}
use Rattle.covline.specs.Lines.{before_feed}
use Rattle.covsession.specs.Streams.{InputData, OutputData, Moment, Grows, Takes, Says, Moves, TakesLine, unread, turns, said_so_far, TakesPart}
use Rattle.covsession.specs.Text.{HasCollected}
use Rattle.covsession.specs.declared.session.text.LineEnd.TheVariants.{Feed, Input}
use Rattle.covsession.specs.declared.session.text.Text.{Text}
use Rattle.covsession.proofs.SessionBytes.{Consumes-trans, Appends-trans, Consumes-part, before_feed-append}

pub Takes-trans : (i j k : InputData) (b c : List ℕ) → Takes i j b → Takes j k c → Takes i k (b ++ c)
Takes-trans i j k b c h l = record {
  took = Consumes-trans (unread i) (unread j) (unread k) b c h.took l.took;
  counted = l.counted ∙ h.counted;
  failed = l.failed ∙ h.failed;
  same_source = l.same_source ∙ h.same_source;
}

pub Grows-trans : (a b c : Option (List ℕ)) → Grows a b → Grows b c → Grows a c
Grows-trans a b c h k = (h.0 ++ k.0, Appends-trans a b c h.0 k.0 h.1 k.1)

pub Says-trans : (o p q : OutputData) (x y : List ℕ) → Says o p x → Says p q y → Says o q (x ++ y)
Says-trans o p q x y h k = record {
  says = Appends-trans (said_so_far o) (said_so_far p) (said_so_far q) x y h.says k.says;
  grows = Grows-trans o.written p.written q.written h.grows k.grows;
  failed = k.failed ∙ h.failed;
  same_sink = k.same_sink ∙ h.same_sink;
}

pub Moves-trans : (m n o : Moment) (b c x y : List ℕ) → Moves m n b x → Moves n o c y → Moves m o (b ++ c) (x ++ y)
Moves-trans m n o b c x y h k = record {
  takes = Takes-trans m.input n.input o.input b c h.takes k.takes;
  says = Says-trans m.output n.output o.output x y h.says k.says;
}

pub consumes_none : (a : Option (List ℕ)) → Consumes a a []
consumes_none None = tt
consumes_none (Some xs) = refl

pub appends_none : (a : Option (List ℕ)) → Appends a a []
appends_none None = tt
appends_none (Some xs) = sym (append-nil xs)

pub Takes-none : (i : InputData) → Takes i i []
Takes-none i = record { took = consumes_none (unread i); counted = refl; failed = refl; same_source = refl }

pub Grows-none : (a : Option (List ℕ)) → Grows a a
Grows-none a = ([], appends_none a)

pub Says-none : (o : OutputData) → Says o o []
Says-none o = record { says = appends_none (said_so_far o); grows = Grows-none o.written; failed = refl; same_sink = refl }

pub Moves-none : (m : Moment) → Moves m m [] []
Moves-none m = record { takes = Takes-none m.input; says = Says-none m.output }

-- what waits was written
put_known : (old new : Option (List ℕ)) (waiting rest : List ℕ) → rest ≡ [] → Appends old new waiting
    → Appends (append_known old waiting) (append_known new rest) []
put_known None new waiting rest e h = tt
put_known (Some xs) None waiting rest e h = absurd h
put_known (Some xs) (Some ys) waiting rest e h =
    ap (λ (u : List ℕ). ys ++ u) e ∙ append-nil ys ∙ h ∙ sym (append-nil (xs ++ waiting))

pub says_put : (o p : OutputData) → Appends o.written p.written o.waiting → p.waiting ≡ [] → p.failed_writes ≡ o.failed_writes → p.sink ≡ o.sink → Says o p []
says_put o p h e f s = record {
  says = put_known o.written p.written o.waiting p.waiting e h;
  grows = (o.waiting, h);
  failed = f;
  same_sink = s;
}

-- more bytes wait, after those that wait already
pub wait_known : (written : Option (List ℕ)) (waiting new bytes : List ℕ) → new ≡ waiting ++ bytes → Appends (append_known written waiting) (append_known written new) bytes
wait_known None waiting new bytes e = tt
wait_known (Some xs) waiting new bytes e = ap (λ (u : List ℕ). xs ++ u) e ∙ sym (append_assoc xs waiting bytes)

pub says_waiting : (o : OutputData) (new bytes : List ℕ) → new ≡ o.waiting ++ bytes → Says o (record o { waiting = new }) bytes
says_waiting o new bytes e = record {
  says = wait_known o.written o.waiting new bytes e;
  grows = Grows-none o.written;
  failed = refl;
  same_sink = refl;
}

pub says_waiting_at : (o q : OutputData) (bytes : List ℕ) → q.waiting ≡ o.waiting ++ bytes → q.written ≡ o.written → q.failed_writes ≡ o.failed_writes → q.sink ≡ o.sink
    → Says o q bytes
says_waiting_at o q bytes e same failed sink =
    let P : Option (List ℕ) → Type 0 = λ w. Appends (said_so_far o) (append_known w q.waiting) bytes in
    let G : Option (List ℕ) → Type 0 = λ w. Grows o.written w in
    record {
      says = subst P (sym same) (wait_known o.written o.waiting q.waiting bytes e);
      grows = subst G (sym same) (Grows-none o.written);
      failed = failed;
      same_sink = sink;
    }

-- nothing waits, and bytes were written
written_known : (old new : Option (List ℕ)) (waiting bytes : List ℕ) → waiting ≡ [] → Appends old new bytes
    → Appends (append_known old waiting) (append_known new waiting) bytes
written_known None new waiting bytes e h = tt
written_known (Some xs) None waiting bytes e h = absurd h
written_known (Some xs) (Some ys) waiting bytes e h =
    ap (λ (u : List ℕ). ys ++ u) e ∙ append-nil ys ∙ h ∙ ap (λ (u : List ℕ). u ++ bytes) (sym (append-nil xs) ∙ ap (λ (u : List ℕ). xs ++ u) (sym e))

pub says_written : (o p : OutputData) (bytes : List ℕ) → o.waiting ≡ [] → p.waiting ≡ o.waiting → Appends o.written p.written bytes
    → p.failed_writes ≡ o.failed_writes → p.sink ≡ o.sink → Says o p bytes
says_written o p bytes e same h f s =
    let P : List ℕ → Type 0 = λ u. Appends (said_so_far o) (append_known p.written u) bytes in
    record {
      says = subst P (sym same) (written_known o.written p.written o.waiting bytes e h);
      grows = (bytes, h);
      failed = f;
      same_sink = s;
    }

-- a part of the pending bytes was taken
Takes-part : (i j : InputData) (part : List ℕ) → i.pending ≡ part ++ j.pending → j ≡ record i { pending = j.pending } → Takes i j part
Takes-part i j part e same =
    let P : InputData → Type 0 = λ k. Takes i k part in
    subst P (sym same) (record { took = Consumes-part i.pending part j.pending i.left e; counted = refl; failed = refl; same_source = refl })

pub Moves-part : (m : Moment) (j : InputData) (part : List ℕ) → m.input.pending ≡ part ++ j.pending → j ≡ record m.input { pending = j.pending }
    → Moves m (record m { input = j }) part []
Moves-part m j part e same = record { takes = Takes-part m.input j part e same; says = Says-none m.output }

one_line : (line part : List ℕ) → before_feed line ≡ line → before_feed part ≡ part → before_feed (line ++ part) ≡ line ++ part
one_line line part h k = before_feed-append line part h ∙ ap (λ (u : List ℕ). line ++ u) k

-- the rest of a line was taken, with its line feed
pub line_end : (m n o : Moment) (j : InputData) (line part : List ℕ) → before_feed line ≡ line → before_feed part ≡ part
    → Moves m n line [] → Moves n o [] [] → o.input.pending ≡ part ++ line_feed ∷ j.pending → j ≡ record o.input { pending = j.pending }
    → turns n.input ≤ turns m.input → turns o.input ≤ turns n.input → TakesLine m (record o { input = j }) (line ++ part) Feed
line_end m n o j line part hl hp h k e same t1 t2 =
    let whole : o.input.pending ≡ (part ++ line_feed ∷ []) ++ j.pending = e ∙ sym (append_assoc part (line_feed ∷ []) j.pending) in
    let step = Moves-part o j (part ++ line_feed ∷ []) whole same in
    let all = Moves-trans m n (record o { input = j }) line (part ++ line_feed ∷ []) [] [] h (Moves-trans n o (record o { input = j }) [] (part ++ line_feed ∷ []) [] [] k step) in
    let P : List ℕ → Type 0 = λ u. Moves m (record o { input = j }) u [] in
    let size : length o.input.pending ≡ length part + (1 + length j.pending) = ap length e ∙ simp length-append (omega arith) in
    let er : j.reads_left ≡ o.input.reads_left = ap (λ (i : InputData). i.reads_left) same in
    record {
      one_line = one_line line part hl hp;
      moves = subst P (sym (append_assoc line part (line_feed ∷ []))) all;
      ended = omega arith;
    }

-- all pending bytes were taken, as a part of a line that goes on
pub line_on : (m n o : Moment) (j : InputData) (line part : List ℕ)
    → Moves m n line [] → Moves n o [] [] → o.input.pending ≡ part → j.pending ≡ [] → j ≡ record o.input { pending = j.pending }
    → Moves m (record o { input = j }) (line ++ part) []
line_on m n o j line part h k e none same =
    let whole : o.input.pending ≡ part ++ j.pending = e ∙ sym (append-nil part) ∙ ap (λ (u : List ℕ). part ++ u) (sym none) in
    let step = Moves-part o j part whole same in
    Moves-trans m n (record o { input = j }) line part [] [] h (Moves-trans n o (record o { input = j }) [] part [] [] k step)

pub line_on-line : (line part : List ℕ) → before_feed line ≡ line → before_feed part ≡ part → before_feed (line ++ part) ≡ line ++ part
line_on-line line part h k = one_line line part h k

pub line_on-turns : (k n o j : InputData) → j.pending ≡ [] → j ≡ record o { pending = j.pending } → turns o ≤ turns n → turns n ≤ turns k → turns j ≤ turns k
line_on-turns k n o j none same t1 t2 =
    let size : length j.pending ≡ 0 = ap length none in
    let er : j.reads_left ≡ o.reads_left = ap (λ (i : InputData). i.reads_left) same in
    omega arith

pub collected_on : {A : Type 0} (t : Text A) (before now line part : List ℕ)
    → HasCollected t before ((now ++ line) ++ part) → HasCollected t before (now ++ (line ++ part))
collected_on t before now line part h = let P : List ℕ → Type 0 = λ u. HasCollected t before u in subst P (append_assoc now line part) h

pub taken_whole : (b : Bool) (old part new : List ℕ) → b ≡ true → TakesPart b old part new → old ≡ part ++ line_feed ∷ new
taken_whole true old part new e h = h
taken_whole false old part new e h = absurd (let no : ⊥ = cc in no)

pub taken_all : (b : Bool) (old part new : List ℕ) → b ≡ false → TakesPart b old part new → (old ≡ part) × (new ≡ [])
taken_all false old part new e h = h
taken_all true old part new e h = absurd (let no : ⊥ = cc in no)

-- the input ended, and so did the line
pub line_last : (m n o : Moment) (line : List ℕ) → before_feed line ≡ line → Moves m n line [] → Moves n o [] [] → IsAtEnd (unread o.input) → TakesLine m o line Input
line_last m n o line one h k ended =
    let P : List ℕ → Type 0 = λ u. Moves m o u [] in
    record {
      one_line = one;
      moves = subst P (append-nil line) (Moves-trans m n o line [] [] [] h k);
      ended = ended;
    }

-- if the slice of the pending bytes is empty, no byte is pending
pub nothing_at : (pending bytes : List ℕ) (b : Bool) → bytes ≡ pending → b ≡ (length bytes == 0) → b ≡ true → pending ≡ []
nothing_at pending [] b same is empty = sym same
nothing_at pending (x ∷ xs) b same is empty = let none : length (x ∷ xs) ≡ 0 = eqb-true (length (x ∷ xs)) 0 (sym is ∙ empty) in absurd (omega (arith, none))
