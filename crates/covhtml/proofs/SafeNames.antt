-- The names of pages have only bytes that are safe in a link and in each file system, and aren't too long.
use Rattle.std.proofs.Common.{◌≡◌, ℕ, ◌+◌, ◌-◌, ◌/◌, ◌%◌, ◌^◌, ◌≤◌, ◌<◌, Bool, true, false, ◌==◌, ◌||◌, nat_le, List, [], ◌∷◌, ◌++◌, IsTrue, length, drop, refl, sym, subst, rules, arith, codes, if◌then◌else◌, inl, inr}
use Rattle.std.specs.Char.{digit_char}
use Rattle.std.specs.List.{AllByRecursion}
use Rattle.std.specs.Prelude.{decimal}
use Rattle.std.proofs.lemmas.Bool.{agree_below_at, leb-true, or_left}
use Rattle.std.proofs.lemmas.Fmt.{decimal_by_steps, length-decimal-le}
use Rattle.std.proofs.lemmas.List.{drop_at, length-append}
use Rattle.std.proofs.lemmas.List.Concat.{flat_map-cons}
use Rattle.covhtml.specs.PageName.{IsSafeName, encoded_path, is_name_byte, most_bytes, name_byte, page_name, stays}

abbrev AreSafe : List ℕ → Type 0
AreSafe bytes = AllByRecursion (λ b. IsTrue (is_name_byte b)) bytes

both_safe : (front back : List ℕ) → AreSafe front → AreSafe back → AreSafe (front ++ back)
both_safe [] back safe others = others
both_safe (b ∷ front) back safe others = (safe.0, both_safe front back safe.1 others)

digit_safe : (d : ℕ) → d < 16 → IsTrue (is_name_byte (digit_char d))
digit_safe d small = agree_below_at (λ (n : ℕ). is_name_byte (digit_char n)) (λ (n : ℕ). true) 16 d refl small

-- a byte that stays, a slash, or any other byte
byte_safe : (b : ℕ) (p q : Bool) → stays b ≡ p → b < 256 → AreSafe (if p then b ∷ [] else if q then 45 ∷ [] else 126 ∷ digit_char (b / 16) ∷ digit_char (b % 16) ∷ [])
byte_safe b true q is_b small = (or_left (stays b || b == 45) (b == 126) (or_left (stays b) (b == 45) is_b), tt)
byte_safe b false true is_b small = (refl, tt)
byte_safe b false false is_b small = (refl, (digit_safe (b / 16) (omega (arith, small)), (digit_safe (b % 16) (omega arith), tt)))

path_safe : (path : List ℕ) → AllByRecursion (λ b. b < 256) path → AreSafe (encoded_path path)
path_safe [] bytes = tt
path_safe (b ∷ path) bytes =
    subst AreSafe (sym (flat_map-cons name_byte b path))
    (both_safe (name_byte b) (encoded_path path) (byte_safe b (stays b) (b == 47) refl bytes.0) (path_safe path bytes.1))

decimal_safe : (n : ℕ) → n < 2 ^ 64 → AreSafe (decimal n)
decimal_safe n small = decimal_by_steps (λ m digits. AreSafe digits) one more n small
  where
    ten : (d : ℕ) → d < 10 → IsTrue (is_name_byte (48 + d))
    ten d less = agree_below_at (λ (k : ℕ). is_name_byte (48 + k)) (λ (k : ℕ). true) 10 d refl less

    one : (m : ℕ) → m < 10 → AreSafe ((48 + m) ∷ [])
    one m less = (ten m less, tt)

    more : (m : ℕ) (digits : List ℕ) → 10 ≤ m → AreSafe digits → AreSafe (digits ++ ((48 + m % 10) ∷ []))
    more m digits many safe = both_safe digits ((48 + m % 10) ∷ []) safe (ten (m % 10) (omega arith), tt)

ended : (front : List ℕ) → drop (length (front ++ codes ".html") - 5) (front ++ codes ".html") ≡ codes ".html"
ended front = drop_at front (codes ".html") (length (front ++ codes ".html") - 5) (omega (arith, length-append front (codes ".html")))

safe_by : (number : ℕ) (path : List ℕ) (p : Bool) → nat_le (length (encoded_path path)) most_bytes ≡ p → number < 2 ^ 64 → AllByRecursion (λ b. b < 256) path
    → IsSafeName (if p then codes "file-" ++ encoded_path path ++ codes ".html" else codes "long-" ++ decimal number ++ codes ".html")
safe_by number path true is_short small bytes =
    let few : length (encoded_path path) ≤ 245 = leb-true (length (encoded_path path)) 245 is_short in
    record {
      bytes = both_safe (codes "file-" ++ encoded_path path) (codes ".html")
          (both_safe (codes "file-") (encoded_path path) (refl, (refl, (refl, (refl, (refl, tt))))) (path_safe path bytes))
          (refl, (refl, (refl, (refl, (refl, tt)))));
      short = omega (arith, few, length-append (codes "file-" ++ encoded_path path) (codes ".html"), length-append (codes "file-") (encoded_path path));
      begins = inl refl;
      ends = ended (codes "file-" ++ encoded_path path);
    }
safe_by number path false is_short small bytes =
    let few : length (decimal number) ≤ 20 = search (rules, length-decimal-le 20) in
    record {
      bytes = both_safe (codes "long-" ++ decimal number) (codes ".html")
          (both_safe (codes "long-") (decimal number) (refl, (refl, (refl, (refl, (refl, tt))))) (decimal_safe number small))
          (refl, (refl, (refl, (refl, (refl, tt)))));
      short = omega (arith, few, length-append (codes "long-" ++ decimal number) (codes ".html"), length-append (codes "long-") (decimal number));
      begins = inr refl;
      ends = ended (codes "long-" ++ decimal number);
    }

pub names_safe : (number : ℕ) (path : List ℕ) → number < 2 ^ 64 → AllByRecursion (λ b. b < 256) path → IsSafeName (page_name number path)
names_safe number path small bytes = safe_by number path (nat_le (length (encoded_path path)) most_bytes) refl small bytes
