-- What a name has of a byte tells the byte, whatever follows. So the names of different files are different.
use Rattle.std.proofs.Common.{◌≡◌, ◌≢◌, ◌⊎◌, ℕ, suc, ◌+◌, ◌/◌, ◌%◌, ◌^◌, ◌≤◌, ◌<◌, Bool, true, false, cond, ◌==◌, nat_le, nat_lt, List, [], ◌∷◌, ◌++◌, length, get_or, drop, refl, sym, ap, ◌∙◌, arith, codes, if◌then◌else◌, inl, inr}
use Rattle.std.specs.Char.{digit_char}
use Rattle.std.specs.Prelude.{decimal}
use Rattle.std.proofs.lemmas.Bool.{eqb-true, false≢true, ltb-true, ltb-false}
use Rattle.std.proofs.lemmas.Fmt.{decimal_injective}
use Rattle.std.proofs.lemmas.List.{append_cancel_left, append_cancel_right}
use Rattle.std.proofs.lemmas.List.Concat.{flat_map-cons}
use Rattle.covhtml.specs.PageName.{encoded_path, most_bytes, name_byte, page_name, stays}

-- ---- hexadecimal digits

digit_by : (m n : ℕ) (p q : Bool) → nat_lt m 10 ≡ p → nat_lt n 10 ≡ q → cond p (48 + m) (87 + m) ≡ cond q (48 + n) (87 + n) → m ≡ n
digit_by m n true true small_m small_n e = omega (arith, e)
digit_by m n true false small_m large_n e =
    let l : m < 10 = ltb-true m 10 small_m in
    let k : 10 ≤ n = ltb-false n 10 large_n in
    absurd (omega (arith, e, l, k))
digit_by m n false true large_m small_n e =
    let l : 10 ≤ m = ltb-false m 10 large_m in
    let k : n < 10 = ltb-true n 10 small_n in
    absurd (omega (arith, e, l, k))
digit_by m n false false large_m large_n e = omega (arith, e)

digit_tells : (m n : ℕ) → digit_char m ≡ digit_char n → m ≡ n
digit_tells m n e = digit_by m n (nat_lt m 10) (nat_lt n 10) refl refl e

-- ---- bytes of a path

-- what a name has of a byte that stays, of a slash, or of any other byte
abbrev named_by : (stays is_slash : Bool) → ℕ → List ℕ
named_by p q b = if p then b ∷ [] else if q then 45 ∷ [] else 126 ∷ digit_char (b / 16) ∷ digit_char (b % 16) ∷ []

abbrev at : ℕ → List ℕ → ℕ
at i text = get_or text i 0

tells : (b c : ℕ) (x y : List ℕ) (p q r s : Bool) → stays b ≡ p → (b == 47) ≡ q → stays c ≡ r → (c == 47) ≡ s
    → named_by p q b ++ x ≡ named_by r s c ++ y → (b ≡ c) × (x ≡ y)
tells b c x y true q true s is_b q_is is_c s_is e = (ap (at 0) e, ap (drop 1) e)
tells b c x y true q false true is_b q_is is_c s_is e =
    let l : b ≡ 45 = ap (at 0) e in let wrong : false ≡ true = sym (ap stays l) ∙ is_b in absurd (false≢true wrong)
tells b c x y true q false false is_b q_is is_c s_is e =
    let l : b ≡ 126 = ap (at 0) e in let wrong : false ≡ true = sym (ap stays l) ∙ is_b in absurd (false≢true wrong)
tells b c x y false true true s is_b q_is is_c s_is e =
    let l : 45 ≡ c = ap (at 0) e in let wrong : false ≡ true = ap stays l ∙ is_c in absurd (false≢true wrong)
tells b c x y false true false true is_b q_is is_c s_is e = (eqb-true b 47 q_is ∙ sym (eqb-true c 47 s_is), ap (drop 1) e)
tells b c x y false true false false is_b q_is is_c s_is e = let l : 45 ≡ 126 = ap (at 0) e in absurd (omega (arith, l))
tells b c x y false false true s is_b q_is is_c s_is e =
    let l : 126 ≡ c = ap (at 0) e in let wrong : false ≡ true = ap stays l ∙ is_c in absurd (false≢true wrong)
tells b c x y false false false true is_b q_is is_c s_is e = let l : 126 ≡ 45 = ap (at 0) e in absurd (omega (arith, l))
tells b c x y false false false false is_b q_is is_c s_is e =
    let high : b / 16 ≡ c / 16 = digit_tells (b / 16) (c / 16) (ap (at 1) e) in
    let low : b % 16 ≡ c % 16 = digit_tells (b % 16) (c % 16) (ap (at 2) e) in
    (omega (arith, high, low), ap (drop 3) e)

-- what a name has of a byte isn't empty
some_named : (b : ℕ) (x : List ℕ) (p q : Bool) → named_by p q b ++ x ≡ [] → ⊥
some_named b x true q e = let l : suc (length x) ≡ 0 = ap length e in absurd (omega (arith, l))
some_named b x false true e = let l : suc (length x) ≡ 0 = ap length e in absurd (omega (arith, l))
some_named b x false false e = let l : suc (suc (suc (length x))) ≡ 0 = ap length e in absurd (omega (arith, l))

path_tells : (one other : List ℕ) → encoded_path one ≡ encoded_path other → one ≡ other
path_tells [] [] e = refl
path_tells [] (c ∷ cs) e = absurd (some_named c (encoded_path cs) (stays c) (c == 47) (sym (e ∙ flat_map-cons name_byte c cs)))
path_tells (b ∷ bs) [] e = absurd (some_named b (encoded_path bs) (stays b) (b == 47) (sym (flat_map-cons name_byte b bs) ∙ e))
path_tells (b ∷ bs) (c ∷ cs) e =
    let told : (b ≡ c) × (encoded_path bs ≡ encoded_path cs) =
    tells b c (encoded_path bs) (encoded_path cs) (stays b) (b == 47) (stays c) (c == 47) refl refl refl refl
    (sym (flat_map-cons name_byte b bs) ∙ e ∙ flat_map-cons name_byte c cs) in
    ap (λ (x : ℕ). x ∷ bs) told.0 ∙ ap (λ (xs : List ℕ). c ∷ xs) (path_tells bs cs told.1)

-- ---- names

-- a name with the path, or with the number
abbrev name_by : (is_short : Bool) (number : ℕ) (path : List ℕ) → List ℕ
name_by p number path = if p then codes "file-" ++ encoded_path path ++ codes ".html" else codes "long-" ++ decimal number ++ codes ".html"

name_tells : (m n : ℕ) (one other : List ℕ) (p q : Bool) → m < 2 ^ 64 → n < 2 ^ 64 → name_by p m one ≡ name_by q n other → (one ≡ other) ⊎ (m ≡ n)
name_tells m n one other true true m_small n_small e =
    inl (path_tells one other
    (append_cancel_left (codes "file-") (encoded_path one) (encoded_path other) (append_cancel_right (codes "file-" ++ encoded_path one) (codes "file-" ++ encoded_path other) (codes ".html") e)))
name_tells m n one other true false m_small n_small e = let l : 102 ≡ 108 = ap (at 0) e in absurd (omega (arith, l))
name_tells m n one other false true m_small n_small e = let l : 108 ≡ 102 = ap (at 0) e in absurd (omega (arith, l))
name_tells m n one other false false m_small n_small e =
    inr (decimal_injective m n m_small n_small
    (append_cancel_left (codes "long-") (decimal m) (decimal n) (append_cancel_right (codes "long-" ++ decimal m) (codes "long-" ++ decimal n) (codes ".html") e)))

pub names_apart : (m n : ℕ) (one other : List ℕ) → m < 2 ^ 64 → n < 2 ^ 64 → m ≢ n → one ≢ other → page_name m one ≢ page_name n other
names_apart m n one other m_small n_small numbers paths e =
    elim (name_tells m n one other (nat_le (length (encoded_path one)) most_bytes) (nat_le (length (encoded_path other)) most_bytes) m_small n_small e) [
      | inl same ↦ paths same
      | inr same ↦ numbers same
    ]
