-- What is shown of a byte tells the byte, whatever follows it. So different names are shown differently.
use Rattle.std.proofs.Common.{◌≡◌, ℕ, zero, suc, ◌<◌, Bool, true, false, ◌==◌, ◌||◌, nat_lt, List, [], ◌∷◌, ◌++◌, length, get_or, take, drop, Result, Ok, Err, refl, sym, ap, ◌∙◌, arith, codes, if◌then◌else◌}
use Rattle.std.proofs.lemmas.Bool.{eqb-true, eqb-false, ltb-true, false≢true}
use Rattle.std.proofs.lemmas.List.Concat.{flat_map-cons}
use Rattle.hex.specs.Hex.{encode_lower, encode_with, decode_of, IsBytes}
use Rattle.hex.specs.declared.error.FromHexError.{FromHexError}
use Rattle.hex.proofs.HexLemmas.{decode_of-encode_lower}
use Rattle.covlist.specs.Shown.{is_control, shown_byte, shown_name}

-- how a byte is shown, if it is a backslash, a control byte, or any other
abbrev shown_by : (is_backslash is_control : Bool) → ℕ → List ℕ
shown_by p q b = if p then codes "\\\\" else if q then codes "\\x" ++ encode_lower (b ∷ []) else b ∷ []

abbrev first : List ℕ → ℕ
first text = get_or text 0 0

abbrev second : List ℕ → ℕ
second text = get_or text 1 0

-- a control byte is a byte
below : (b : ℕ) (p q : Bool) → nat_lt b 32 ≡ p → (b == 127) ≡ q → (p || q) ≡ true → b < 256
below b true q less is_last either = let l : b < 32 = ltb-true b 32 less in omega (arith, l)
below b false true less is_last either = let l : b ≡ 127 = eqb-true b 127 is_last in omega (arith, l)
below b false false less is_last either = absurd (false≢true either)

is_bytes : (b : ℕ) → b < 256 → IsBytes (b ∷ [])
is_bytes b less zero = less
is_bytes b less (suc i) = omega arith

abbrev first_of : Result (List ℕ) FromHexError → ℕ
first_of (Ok bytes) = first bytes
first_of (Err e) = 0

-- two digits tell their byte
digits_tell : (b c : ℕ) → b < 256 → c < 256 → encode_lower (b ∷ []) ≡ encode_lower (c ∷ []) → b ≡ c
digits_tell b c b_less c_less same =
    ap first_of (sym (decode_of-encode_lower (b ∷ []) (is_bytes b b_less)) ∙ ap decode_of same ∙ decode_of-encode_lower (c ∷ []) (is_bytes c c_less))

-- what two texts that begin with a shown byte tell of these bytes
tells : (b c : ℕ) (x y : List ℕ) (p q r s : Bool) → (b == 92) ≡ p → is_control b ≡ q → (c == 92) ≡ r → is_control c ≡ s
    → shown_by p q b ++ x ≡ shown_by r s c ++ y → (b ≡ c) × (x ≡ y)
unfolding encode_with
tells b c x y true q true s is_b q_is is_c s_is e = (eqb-true b 92 is_b ∙ sym (eqb-true c 92 is_c), ap (drop 2) e)
tells b c x y true q false true is_b q_is is_c s_is e = let l : 92 ≡ 120 = ap second e in absurd (omega (arith, l))
tells b c x y true q false false is_b q_is is_c s_is e = let l : 92 ≡ c = ap first e in absurd (eqb-false c 92 is_c (sym l))
tells b c x y false true true s is_b q_is is_c s_is e = let l : 120 ≡ 92 = ap second e in absurd (omega (arith, l))
tells b c x y false true false true is_b q_is is_c s_is e =
    let same : encode_lower (b ∷ []) ++ x ≡ encode_lower (c ∷ []) ++ y = ap (drop 2) e in
    (digits_tell b c (below b (nat_lt b 32) (b == 127) refl refl q_is) (below c (nat_lt c 32) (c == 127) refl refl s_is) (ap (take 2) same), ap (drop 2) same)
tells b c x y false true false false is_b q_is is_c s_is e = let l : 92 ≡ c = ap first e in absurd (eqb-false c 92 is_c (sym l))
tells b c x y false false true s is_b q_is is_c s_is e = let l : b ≡ 92 = ap first e in absurd (eqb-false b 92 is_b l)
tells b c x y false false false true is_b q_is is_c s_is e = let l : b ≡ 92 = ap first e in absurd (eqb-false b 92 is_b l)
tells b c x y false false false false is_b q_is is_c s_is e = (ap first e, ap (drop 1) e)

-- what is shown of a byte isn't empty
some_shown : (b : ℕ) (x : List ℕ) (p q : Bool) → shown_by p q b ++ x ≡ [] → ⊥
some_shown b x true q e = let l : suc (suc (length x)) ≡ 0 = ap length e in absurd (omega (arith, l))
some_shown b x false true e = let l : suc (suc (length (encode_lower (b ∷ []) ++ x))) ≡ 0 = ap length e in absurd (omega (arith, l))
some_shown b x false false e = let l : suc (length x) ≡ 0 = ap length e in absurd (omega (arith, l))

pub told_apart : (one other : List ℕ) → shown_name one ≡ shown_name other → one ≡ other
told_apart [] [] e = refl
told_apart [] (c ∷ cs) e = absurd (some_shown c (shown_name cs) (c == 92) (is_control c) (sym (e ∙ flat_map-cons shown_byte c cs)))
told_apart (b ∷ bs) [] e = absurd (some_shown b (shown_name bs) (b == 92) (is_control b) (sym (flat_map-cons shown_byte b bs) ∙ e))
told_apart (b ∷ bs) (c ∷ cs) e =
    let told : (b ≡ c) × (shown_name bs ≡ shown_name cs) =
    tells b c (shown_name bs) (shown_name cs) (b == 92) (is_control b) (c == 92) (is_control c) refl refl refl refl
    (sym (flat_map-cons shown_byte b bs) ∙ e ∙ flat_map-cons shown_byte c cs) in
    ap (λ (x : ℕ). x ∷ bs) told.0 ∙ ap (λ (xs : List ℕ). c ∷ xs) (told_apart bs cs told.1)
