-- What is packed is read again.
use Rattle.std.proofs.Common.{◌≡◌, ℕ, ◌+◌, ◌-◌, ◌*◌, ◌/◌, ◌%◌, Bool, true, false, if◌then◌else◌, nat_lt, List, [], ◌∷◌, ◌++◌, length, refl, sym, ap, ◌∙◌, arith}
use Rattle.std.proofs.lemmas.Bool.{le-ltb}
use Rattle.std.proofs.lemmas.List.{get_or-append-add, length-append}
use Rattle.covpacked.specs.declared.parts.Kind.{Kind}
use Rattle.covpacked.specs.declared.parts.Kind.TheVariants.{Line, Checked, Taken, Untaken, Function}
use Rattle.covpacked.specs.declared.parts.Parts.{Parts}
use Rattle.covpacked.specs.Layout.{IsPackedAs, begin_at, begin_of, place_of, room_of, short_room}
use Rattle.covpacked.specs.Words.{kind_number, kind_of, line_in, long_parts, long_word, number_at, parts_of, short_parts, upper_in}

pub kind_read : (k : Kind) → kind_of (kind_number k) ≡ k
kind_read Line = refl
kind_read Checked = refl
kind_read Taken = refl
kind_read Untaken = refl
kind_read Function = refl

-- ---- words that are long, and short ones

pub is_long : (n : ℕ) → nat_lt (long_word + n) long_word ≡ false
is_long n = le-ltb (long_word + n) long_word (omega arith)

pub after_long : (n : ℕ) → long_word + n - long_word ≡ n
after_long n = omega arith

pub long_is : (numbers : List ℕ) (n : ℕ) → parts_of numbers (long_word + n) ≡ long_parts numbers n
long_is numbers n =
    ap (λ (b : Bool). if b then short_parts numbers (line_in (long_word + n)) (upper_in (long_word + n)) (kind_of ((long_word + n) % 4)) else long_parts numbers (long_word + n - long_word)) (is_long n)
    ∙ ap (long_parts numbers) (after_long n)

pub long_room : (n : ℕ) → room_of (long_word + n) ≡ 6
long_room n = ap (λ (b : Bool). if b then short_room (kind_of ((long_word + n) % 4)) else 6) (is_long n)

pub long_begin : (from n : ℕ) → begin_of from (long_word + n) ≡ n
long_begin from n =
    ap (λ (room : ℕ). begin_at room from (place_of (long_word + n))) (long_room n)
    ∙ ap (λ (b : Bool). if b then upper_in (long_word + n) else long_word + n - long_word) (is_long n)
    ∙ after_long n

pub short_is : (numbers : List ℕ) (word : ℕ) → nat_lt word long_word ≡ true → parts_of numbers word ≡ short_parts numbers (line_in word) (upper_in word) (kind_of (word % 4))
short_is numbers word short = ap (λ (b : Bool). if b then short_parts numbers (line_in word) (upper_in word) (kind_of (word % 4)) else long_parts numbers (word - long_word)) short

pub short_room_is : (word : ℕ) → nat_lt word long_word ≡ true → room_of word ≡ short_room (kind_of (word % 4))
short_room_is word short = ap (λ (b : Bool). if b then short_room (kind_of (word % 4)) else 6) short

pub short_place : (word : ℕ) → nat_lt word long_word ≡ true → place_of word ≡ upper_in word
short_place word short = ap (λ (b : Bool). if b then upper_in word else word - long_word) short

-- ---- the numbers at the end of the list

at_end : (before more : List ℕ) (n i : ℕ) → n ≡ length before + i → number_at (before ++ more) n ≡ number_at more i
at_end before more n i e = ap (number_at (before ++ more)) e ∙ get_or-append-add before more i 0

module _ (before : List ℕ) (p : Parts) (low high : ℕ) (count_is : p.count ≡ high * 18446744073709551616 + low) where
  abbrev six : List ℕ
  six = kind_number p.kind ∷ p.line ∷ low ∷ high ∷ p.first ∷ p.second ∷ []

  long_read : (begin : ℕ) → begin ≡ length before → long_parts (before ++ six) begin ≡ p
  long_read begin e i = record {
    kind = (ap kind_of (at_end before six begin 0 (omega (arith, e))) ∙ kind_read p.kind) i;
    line = at_end before six (begin + 1) 1 (omega (arith, e)) i;
    count = (ap (λ (h : ℕ). h * 18446744073709551616 + number_at (before ++ six) (begin + 2)) (at_end before six (begin + 3) 3 (omega (arith, e))) ∙ ap (λ (l : ℕ). high * 18446744073709551616 + l) (at_end before six (begin + 2) 2 (omega (arith, e))) ∙ sym count_is) i;
    first = at_end before six (begin + 4) 4 (omega (arith, e)) i;
    second = at_end before six (begin + 5) 5 (omega (arith, e)) i;
  }

  pub packed_long : (n : ℕ) (after : List ℕ) → n ≡ length before → after ≡ before ++ six → IsPackedAs p (long_word + n) before after
  packed_long n after e a = record {
    more = six;
    appended = a;
    read = long_is after n ∙ ap (λ (numbers : List ℕ). long_parts numbers n) a ∙ long_read n e;
    lies = (let b = long_begin (length before) n in omega (arith, b, e), let b = long_begin (length before) n in let r = long_room n in let l = ap length a ∙ length-append before six in omega (arith, b, r, e, l));
  }

module _ (before : List ℕ) (p : Parts) (is : p.kind ≡ Checked) (word : ℕ) (short : nat_lt word long_word ≡ true) (kind : kind_of (word % 4) ≡ Checked) (line : line_in word ≡ p.line) (upper : upper_in word ≡ length before) where
  abbrev both : ℕ → List ℕ
  both n = n ∷ p.first ∷ []

  checked_read : (n : ℕ) → n % 4294967296 ≡ p.count → n / 4294967296 ≡ p.second → short_parts (before ++ both n) p.line (length before) Checked ≡ p
  checked_read n low high i = record {
    kind = sym is i;
    line = p.line;
    count = (ap (λ (m : ℕ). m % 4294967296) (at_end before (both n) (length before) 0 (omega arith)) ∙ low) i;
    first = at_end before (both n) (length before + 1) 1 (omega arith) i;
    second = (ap (λ (m : ℕ). m / 4294967296) (at_end before (both n) (length before) 0 (omega arith)) ∙ high) i;
  }

  checked_room : room_of word ≡ 2
  checked_room = short_room_is word short ∙ ap short_room kind

  checked_begin : begin_of (length before) word ≡ length before
  checked_begin =
      ap (λ (room : ℕ). begin_at room (length before) (place_of word)) checked_room
      ∙ short_place word short
      ∙ upper

  pub packed_checked : (n : ℕ) (after : List ℕ) → n % 4294967296 ≡ p.count → n / 4294967296 ≡ p.second → after ≡ before ++ both n → IsPackedAs p word before after
  packed_checked n after low high a = record {
    more = both n;
    appended = a;
    read = short_is after word short
        ∙ ap (λ (l : ℕ). short_parts after l (upper_in word) (kind_of (word % 4))) line
        ∙ ap (λ (u : ℕ). short_parts after p.line u (kind_of (word % 4))) upper
        ∙ ap (short_parts after p.line (length before)) kind
        ∙ ap (λ (numbers : List ℕ). short_parts numbers p.line (length before) Checked) a
        ∙ checked_read n low high;
    lies = (let b = checked_begin in omega (arith, b), let b = checked_begin in let r = checked_room in let l = ap length a ∙ length-append before (both n) in omega (arith, b, r, l));
  }
