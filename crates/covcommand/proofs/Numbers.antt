-- What clap's getters return: a number, words, a flag.
use Rattle.std.specs.contracts.prelude.U32FromStr.TheImpl.{ghosts}
use Rattle.clap.proofs.CallerReads.{signed_reads}
use Rattle.clap.specs.Lexer.{without_minus}
use Rattle.clap.specs.Matches.{ReadsOne}
use Rattle.clap.specs.Walk.{Row, Text, one_of}
use Rattle.covcommand.specs.Asked.{IsNumberIfAny, IsUpToIfAny}
use Rattle.covcommand.specs.Found.{HasNumberIfAny}
use Rattle.std.proofs.Common.{◌≡◌, ◌∙◌, ◌<◌, ◌≤◌, ◌^◌, ◌⊎◌, inl, inr, ℕ, Bool, true, false, true≢false, codes, List, [], Some, None, Option, IsSome, refl, sym, ap, subst, unwrap_or, option_map, arith}

pub is_some_number : (r : Option ℕ) (n : ℕ) → r ≡ Some n → IsSome r
is_some_number r n is = subst (λ (o : Option ℕ). IsSome o) (sym is) refl

pub in_bounds : (r : Option ℕ) (a n : ℕ) → r ≡ Some a → r ≡ Some n → 1 ≤ n → n ≤ 64 → (1 ≤ a) × (a ≤ 64)
in_bounds r a n is_a is_n low high =
    let same : a ≡ n = ap (λ (o : Option ℕ). unwrap_or o 0) (sym is_a ∙ is_n) in
    (omega (arith, same, low), omega (arith, same, high))

pub values_are : {X Y : Type 0} (f : X → List Y) (got : Option X) (x : X) (all : Option (List Y)) → got ≡ Some x → option_map f got ≡ all → unwrap_or all [] ≡ f x
values_are f got x all is same = ap (λ o. unwrap_or o []) (sym same ∙ ap (option_map f) is)

pub no_values : {X Y : Type 0} (f : X → List Y) (got : Option X) (all : Option (List Y)) → got ≡ None → option_map f got ≡ all → unwrap_or all [] ≡ []
no_values f got all is same = ap (λ o. unwrap_or o []) (sym same ∙ ap (option_map f) is)

-- a flag that is set says "true", and one that isn't says "false"
pub is_set : (said : Option (List ℕ)) (flag : Bool) → (said ≡ Some (codes "true")) ⊎ (said ≡ Some (codes "false"))
    → (said ≡ Some (codes "false") → flag ≡ false) → flag ≡ true → said ≡ Some (codes "true")
is_set said flag (inl is) other on = is
is_set said flag (inr is) other on = absurd (true≢false (sym on ∙ other is))

pub is_not_set : (said : Option (List ℕ)) (flag : Bool) → (said ≡ Some (codes "true")) ⊎ (said ≡ Some (codes "false"))
    → (said ≡ Some (codes "true") → flag ≡ true) → flag ≡ false → said ≡ Some (codes "false")
is_not_set said flag (inl is) other off = absurd (true≢false (sym (other is) ∙ off))
is_not_set said flag (inr is) other off = is

-- the number of an option that may be left out, as clap's getter returns it
pub told_if_any : (id : Text) (most : ℕ) (rows : List Row) (result : Option ℕ) → HasNumberIfAny id most rows → (one_of id rows ≡ None → result ≡ None)
    → ((t : Text) → one_of id rows ≡ Some t → ReadsOne ghosts.from_str_gives t result) → most < 2 ^ 32
    → IsNumberIfAny id rows result × IsUpToIfAny most result
told_if_any id most rows result (inl none) absent value few =
    subst (λ (r : Option ℕ). IsNumberIfAny id rows r × IsUpToIfAny most r) (sym (absent none)) (none, tt)
told_if_any id most rows result (inr (text, is, signed)) absent value few =
    let read = value (without_minus text) is in
    let got = signed_reads _ ghosts.from_str_gives 32 1 most text result read (λ u x h. h.0) few signed in
    let parsed = subst (λ (r : Option ℕ). ReadsOne ghosts.from_str_gives (without_minus text) r) got.1 read in
    subst (λ (r : Option ℕ). IsNumberIfAny id rows r × IsUpToIfAny most r) (sym got.1) ((without_minus text, is, parsed.0.1), (got.2, got.3))
