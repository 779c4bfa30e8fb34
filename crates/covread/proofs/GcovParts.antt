-- The parts of a line: what is at its front is found, and what is found is there.
use Rattle.std.proofs.Common.{◌≡◌, ◌≢◌, ℕ, ◌+◌, ◌-◌, ◌<◌, ◌≤◌, ◌⊎◌, inl, inr, Bool, true, false, cond, eqb, List, [], ◌∷◌, ◌++◌, length, take, Option, Some, None, refl, sym, ap, subst, ◌∙◌, arith}
use Rattle.std.specs.Prelude.{codes, not, ◌&&◌, is_some}
use Rattle.std.specs.Option.{option_or}
use Rattle.std.proofs.lemmas.Bool.{cases_Bool, cases_eq, eq-eqb, ne_eqb, eqb-true, false≢true}
use Rattle.std.proofs.lemmas.List.{length-append}
use Rattle.std.proofs.Math.Seq.{take-append_seam}
use Rattle.covline.specs.Reading.{is_digit, after_key}
use Rattle.covline.proofs.ReadKeys.{begins_or_not, after_key-same, after_key-none}
use Rattle.covline.proofs.ReadNumbers.{digit_from}
use Rattle.covread.specs.Gcov.{is_space, is_mark_byte, is_word_byte, AreAll, AreSome, EndsWord, EndsDigits, IsName, Lacks, without_last}
use Rattle.covread.specs.GcovReading.{front_of, rest_of, some_front, ends_word, is_name, last_called, before_called}

-- ---- bytes of a kind at the front

-- the bytes don't begin with one of this kind
abbrev pub Stops : (ℕ → Bool) → List ℕ → Type 0
Stops kind [] = Unit {0}
Stops kind (b ∷ bs) = kind b ≡ false

pub front_is : (kind : ℕ → Bool) (xs rest : List ℕ) → AreAll kind xs → Stops kind rest → front_of kind (xs ++ rest) ≡ xs
front_is kind [] [] each stops = refl
front_is kind [] (b ∷ bs) each stops = rw stops refl
front_is kind (x ∷ xs) rest each stops = rw (each.0, front_is kind xs rest each.1 stops) refl

pub rest_is : (kind : ℕ → Bool) (xs rest : List ℕ) → AreAll kind xs → Stops kind rest → rest_of kind (xs ++ rest) ≡ rest
rest_is kind [] [] each stops = refl
rest_is kind [] (b ∷ bs) each stops = rw stops refl
rest_is kind (x ∷ xs) rest each stops = rw (each.0) (rest_is kind xs rest each.1 stops)

pub some_is : (kind : ℕ → Bool) (xs rest : List ℕ) → AreSome kind xs → Stops kind rest → some_front kind (xs ++ rest) ≡ Some (xs, rest)
some_is kind [] rest some stops = absurd (omega (arith, some.some))
some_is kind (x ∷ xs) rest some stops =
    let whole : (front_of kind (x ∷ xs ++ rest), rest_of kind (x ∷ xs ++ rest)) ≡ (x ∷ xs, rest)
    = rw (front_is kind (x ∷ xs) rest some.each stops, rest_is kind (x ∷ xs) rest some.each stops) refl in
    ap (λ (t : Bool). cond t (Some (front_of kind (x ∷ xs ++ rest), rest_of kind (x ∷ xs ++ rest))) None) some.each.0
    ∙ ap (λ (p : List ℕ × List ℕ). Some p) whole

pub parts_of : (kind : ℕ → Bool) (text : List ℕ) → text ≡ front_of kind text ++ rest_of kind text
parts_of kind [] = refl
parts_of kind (b ∷ bs) =
    elim (cases_Bool (kind b)) [
      | inl holds ↦ rw holds (ap (λ (t : List ℕ). b ∷ t) (parts_of kind bs))
      | inr fails ↦ rw fails refl
    ]

pub front_all : (kind : ℕ → Bool) (text : List ℕ) → AreAll kind (front_of kind text)
front_all kind [] = tt
front_all kind (b ∷ bs) =
    elim (cases_Bool (kind b)) [
      | inl holds ↦ rw holds (holds, front_all kind bs)
      | inr fails ↦ rw fails tt
    ]

pub rest_stops : (kind : ℕ → Bool) (text : List ℕ) → Stops kind (rest_of kind text)
rest_stops kind [] = tt
rest_stops kind (b ∷ bs) =
    elim (cases_Bool (kind b)) [
      | inl holds ↦ rw holds (rest_stops kind bs)
      | inr fails ↦ rw fails fails
    ]

-- the text begins with at least one byte of this kind, and `some_front` finds all those at the front
pub record HasFront (kind : ℕ → Bool) (text : List ℕ) : Type 0 where
  pub front : List ℕ
  pub rest : List ℕ
  pub parts : text ≡ front ++ rest
  pub some : AreSome kind front
  pub stops : Stops kind rest
  pub read : some_front kind text ≡ Some (front, rest)

pub front_or_none : (kind : ℕ → Bool) (text : List ℕ) → HasFront kind text ⊎ (some_front kind text ≡ None)
front_or_none kind [] = inr refl
front_or_none kind (b ∷ bs) =
    elim (cases_Bool (kind b)) [
      | inl holds ↦ inl (record {
        front = front_of kind (b ∷ bs);
        rest = rest_of kind (b ∷ bs);
        parts = parts_of kind (b ∷ bs);
        some = record { some = rw holds (omega arith); each = front_all kind (b ∷ bs) };
        stops = rest_stops kind (b ∷ bs);
        read = rw holds refl;
      })
      | inr fails ↦ inr (rw fails refl)
    ]

-- ---- which kinds exclude one another

digit_is_no_space : (b : ℕ) → is_digit b ≡ true → is_space b ≡ false
digit_is_no_space b digit = let d = digit_from b digit in ne_eqb b 32 (λ e. omega (arith, d.0))

not_true : (t : Bool) → not t ≡ true → t ≡ false
not_true true e = absurd cc
not_true false e = refl

first_of_both : (s t : Bool) → (s && t) ≡ true → s ≡ true
first_of_both true t e = refl
first_of_both false t e = absurd cc

mark_is_no_space : (b : ℕ) → is_mark_byte b ≡ true → is_space b ≡ false
mark_is_no_space b mark = not_true (eqb b 32) (first_of_both (not (eqb b 32)) (not (eqb b 58)) mark)

word_is_no_space : (b : ℕ) → is_word_byte b ≡ true → is_space b ≡ false
word_is_no_space b word = not_true (eqb b 32) word

no_space_then : (kind : ℕ → Bool) (xs rest : List ℕ) → ((b : ℕ) → kind b ≡ true → is_space b ≡ false) → AreSome kind xs → Stops is_space (xs ++ rest)
no_space_then kind [] rest apart some = absurd (omega (arith, some.some))
no_space_then kind (x ∷ xs) rest apart some = apart x some.each.0

pub digits_then : (xs rest : List ℕ) → AreSome is_digit xs → Stops is_space (xs ++ rest)
digits_then xs rest some = no_space_then is_digit xs rest digit_is_no_space some

pub mark_then : (xs rest : List ℕ) → AreSome is_mark_byte xs → Stops is_space (xs ++ rest)
mark_then xs rest some = no_space_then is_mark_byte xs rest mark_is_no_space some

pub word_then : (xs rest : List ℕ) → AreSome is_word_byte xs → Stops is_space (xs ++ rest)
word_then xs rest some = no_space_then is_word_byte xs rest word_is_no_space some

spaces_then : (kind : ℕ → Bool) (xs rest : List ℕ) → kind 32 ≡ false → AreSome is_space xs → Stops kind (xs ++ rest)
spaces_then kind [] rest apart some = absurd (omega (arith, some.some))
spaces_then kind (x ∷ xs) rest apart some = let e : x ≡ 32 = eqb-true x 32 some.each.0 in ap kind e ∙ apart

pub spaces_stop_digits : (xs rest : List ℕ) → AreSome is_space xs → Stops is_digit (xs ++ rest)
spaces_stop_digits xs rest some = spaces_then is_digit xs rest refl some

pub word_stops : (kind : ℕ → Bool) (rest : List ℕ) → kind 32 ≡ false → EndsWord rest → Stops kind rest
word_stops kind [] apart ends = tt
word_stops kind (b ∷ bs) apart ends = ap kind ends ∙ apart

pub digits_stop : (rest : List ℕ) → EndsDigits rest → Stops is_digit rest
digits_stop [] ends = tt
digits_stop (b ∷ bs) ends = ends

pub digits_end : (rest : List ℕ) → Stops is_digit rest → EndsDigits rest
digits_end [] stops = tt
digits_end (b ∷ bs) stops = stops

no_word_is_space : (b : ℕ) → is_word_byte b ≡ false → b ≡ 32
no_word_is_space b fails = elim (cases_eq b 32) [ inl same ↦ same | inr differ ↦ absurd (false≢true (sym fails ∙ ap not (ne_eqb b 32 differ))) ]

pub word_ends : (rest : List ℕ) → Stops is_word_byte rest → EndsWord rest
word_ends [] stops = tt
word_ends (b ∷ bs) stops = no_word_is_space b stops

-- ---- the tests of the code

pub ends_word-true : (rest : List ℕ) → EndsWord rest → ends_word rest ≡ true
ends_word-true [] ends = refl
ends_word-true (b ∷ bs) ends = eq-eqb b 32 ends

pub ends_word-from : (rest : List ℕ) → ends_word rest ≡ true → EndsWord rest
ends_word-from [] holds = tt
ends_word-from (b ∷ bs) holds = eqb-true b 32 holds

return_is_no_name : (front : List ℕ) → is_name (front ++ 13 ∷ []) ≡ false
return_is_no_name [] = refl
return_is_no_name (b ∷ []) = refl
return_is_no_name (b ∷ d ∷ ds) = return_is_no_name (d ∷ ds)

name_some : (name : List ℕ) → is_name name ≡ true → 0 < length name
name_some [] holds = absurd cc
name_some (b ∷ bs) holds = omega arith

pub is_name-from : (name : List ℕ) → is_name name ≡ true → IsName name
is_name-from name holds = record {
  some = name_some name holds;
  no_return = λ front e. false≢true (sym (return_is_no_name front) ∙ ap is_name (sym e) ∙ holds);
}

pub is_name-true : (name : List ℕ) → IsName name → is_name name ≡ true
is_name-true [] is = absurd (omega (arith, is.some))
is_name-true (b ∷ []) is = ap not (ne_eqb b 13 (λ e. is.no_return [] (ap (λ (c : ℕ). c ∷ []) e)))
is_name-true (b ∷ d ∷ ds) is =
    is_name-true (d ∷ ds) (record { some = omega arith; no_return = λ front e. is.no_return (b ∷ front) (ap (λ (t : List ℕ). b ∷ t) e) })

-- ---- keys

pub record HasKey (key text : List ℕ) : Type 0 where
  pub rest : List ℕ
  pub parts : text ≡ key ++ rest
  pub read : after_key key text ≡ Some rest

pub key_or_none : (key text : List ℕ) → HasKey key text ⊎ (after_key key text ≡ None)
key_or_none key text =
    elim (begins_or_not key text) [
      | inl begins ↦ inl (record { rest = begins.0; parts = begins.1; read = ap (after_key key) begins.1 ∙ after_key-same key begins.0 })
      | inr other ↦ inr (after_key-none key text other)
    ]

-- ---- the last ` called `

abbrev pub called : List ℕ
called = codes " called "

abbrev pub called_tail : List ℕ
called_tail = codes "called "

or_some : (a b : Option (List ℕ)) → is_some b ≡ true → is_some (option_or a b) ≡ true
or_some None b holds = holds
or_some (Some x) b holds = refl

or_first : (a b : Option (List ℕ)) → is_some a ≡ true → is_some (option_or a b) ≡ true
or_first None b holds = absurd cc
or_first (Some x) b holds = refl

called_some : (before after : List ℕ) → is_some (last_called (before ++ (called ++ after))) ≡ true
called_some [] after = or_some (last_called (called_tail ++ after)) (Some after) refl
called_some (b ∷ before) after = or_first (last_called (before ++ (called ++ after))) (after_key called (b ∷ (before ++ (called ++ after)))) (called_some before after)

none_lacks : (text : List ℕ) → last_called text ≡ None → Lacks called text
none_lacks text none before after e =
    false≢true (ap (λ (o : Option (List ℕ)). is_some o) (sym none ∙ ap last_called e) ∙ called_some before after)

lacks_none : (text : List ℕ) → Lacks called text → last_called text ≡ None
lacks_none [] lacks = refl
lacks_none (b ∷ bs) lacks =
    let below : last_called bs ≡ None = lacks_none bs (λ before after e. lacks (b ∷ before) after (ap (λ (t : List ℕ). b ∷ t) e)) in
    let here : after_key called (b ∷ bs) ≡ None = after_key-none called (b ∷ bs) (λ begins. lacks [] begins.0 begins.1) in
    ap (λ (o : Option (List ℕ)). option_or o (after_key called (b ∷ bs))) below ∙ here

pub called_is : (front following : List ℕ) → Lacks called (called_tail ++ following) → last_called (front ++ (called ++ following)) ≡ Some following
called_is [] following last = ap (λ (o : Option (List ℕ)). option_or o (Some following)) (lacks_none (called_tail ++ following) last)
called_is (b ∷ front) following last = ap (λ (o : Option (List ℕ)). option_or o (after_key called (b ∷ (front ++ (called ++ following))))) (called_is front following last)

pub record HasCalled (text : List ℕ) : Type 0 where
  pub front : List ℕ
  pub following : List ℕ
  pub parts : text ≡ front ++ (called ++ following)
  pub last : Lacks called (called_tail ++ following)
  pub read : last_called text ≡ Some following

cons_tail : (a b : ℕ) (xs ys : List ℕ) → a ∷ xs ≡ b ∷ ys → xs ≡ ys
cons_tail a b xs ys e = cc

called_here : (b : ℕ) (bs : List ℕ) → last_called bs ≡ None → HasKey called (b ∷ bs) → HasCalled (b ∷ bs)
called_here b bs none key =
    let tail : bs ≡ called_tail ++ key.rest = cons_tail b 32 bs (called_tail ++ key.rest) key.parts in
    record {
      front = [];
      following = key.rest;
      parts = key.parts;
      last = subst (λ (t : List ℕ). Lacks called t) tail (none_lacks bs none);
      read = ap (λ (o : Option (List ℕ)). option_or o (after_key called (b ∷ bs))) none ∙ key.read;
    }

pub called_or_none : (text : List ℕ) → HasCalled text ⊎ (last_called text ≡ None)
called_or_none [] = inr refl
called_or_none (b ∷ bs) =
    elim (called_or_none bs) [
      | inl found ↦ inl (record {
        front = b ∷ found.front;
        following = found.following;
        parts = ap (λ (t : List ℕ). b ∷ t) found.parts;
        last = found.last;
        read = ap (λ (o : Option (List ℕ)). option_or o (after_key called (b ∷ bs))) found.read;
      })
      | inr none ↦ elim (key_or_none called (b ∷ bs)) [
        | inl key ↦ inl (called_here b bs none key)
        | inr other ↦ inr (ap (λ (o : Option (List ℕ)). option_or o (after_key called (b ∷ bs))) none ∙ other)
      ]
    ]

pub before_is : (front following : List ℕ) → before_called (front ++ (called ++ following)) following ≡ front
before_is front following =
    let n : length (front ++ (called ++ following)) - (length following + 8) ≡ length front = omega (arith, length-append front (called ++ following)) in
    ap (λ (k : ℕ). take k (front ++ (called ++ following))) n ∙ take-append_seam front (called ++ following)

-- ---- what the code's calls give

pub is_name-last : (front : List ℕ) (b : ℕ) → is_name (front ++ b ∷ []) ≡ not (eqb b 13)
is_name-last [] b = refl
is_name-last (c ∷ []) b = refl
is_name-last (c ∷ d ∷ ds) b = is_name-last (d ∷ ds) b

pub without-last : (c : ℕ) (front : List ℕ) (b : ℕ) → without_last c (front ++ b ∷ []) ≡ cond (eqb b c) front (front ++ b ∷ [])
without-last c [] b = refl
without-last c (d ∷ []) b = elim (cases_Bool (eqb b c)) [ inl same ↦ rw same refl | inr other ↦ rw other refl ]
without-last c (d ∷ e ∷ es) b =
    elim (cases_Bool (eqb b c)) [
      | inl same ↦ ap (λ (t : List ℕ). d ∷ t) (without-last c (e ∷ es) b ∙ ap (λ (t : Bool). cond t (e ∷ es) (e ∷ es ++ b ∷ [])) same) ∙ rw same refl
      | inr other ↦ ap (λ (t : List ℕ). d ∷ t) (without-last c (e ∷ es) b ∙ ap (λ (t : Bool). cond t (e ∷ es) (e ∷ es ++ b ∷ [])) other) ∙ rw other refl
    ]

pub rest_fits : (kind : ℕ → Bool) (text : List ℕ) → length (rest_of kind text) ≤ length text
rest_fits kind text = omega (arith, ap length (parts_of kind text), length-append (front_of kind text) (rest_of kind text))

pub front_taken : (kind : ℕ → Bool) (text : List ℕ) → take (length text - length (rest_of kind text)) text ≡ front_of kind text
front_taken kind text =
    let n : length text - length (rest_of kind text) ≡ length (front_of kind text) = omega (arith, ap length (parts_of kind text), length-append (front_of kind text) (rest_of kind text)) in
    ap (λ (k : ℕ). take k text) n ∙ ap (take (length (front_of kind text))) (parts_of kind text) ∙ take-append_seam (front_of kind text) (rest_of kind text)

pub front_none : (kind : ℕ → Bool) (text : List ℕ) → length (rest_of kind text) ≡ length text → some_front kind text ≡ None
front_none kind [] same = refl
front_none kind (b ∷ bs) same =
    elim (cases_Bool (kind b)) [
      | inl is ↦ let e : length (rest_of kind bs) ≡ length (b ∷ bs) = ap (λ (t : Bool). length (cond t (rest_of kind bs) (b ∷ bs))) (sym is) ∙ same in absurd (omega (arith, e, rest_fits kind bs))
      | inr isnt ↦ rw isnt refl
    ]

pub front_some : (kind : ℕ → Bool) (text : List ℕ) → length (rest_of kind text) ≢ length text → some_front kind text ≡ Some (front_of kind text, rest_of kind text)
front_some kind [] differ = absurd (differ refl)
front_some kind (b ∷ bs) differ =
    elim (cases_Bool (kind b)) [
      | inl is ↦ rw is refl
      | inr isnt ↦ absurd (differ (ap (λ (t : Bool). length (cond t (rest_of kind bs) (b ∷ bs))) isnt))
    ]
