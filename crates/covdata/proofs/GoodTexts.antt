-- Texts that fit into one line (`IsGoodTest`). If a text does, so does what follows any front of it. If two texts do, so do both
-- joined. A checksum does.
use Rattle.std.proofs.Common.{◌≡◌, ◌≢◌, ℕ, ◌<◌, List, [], ◌∷◌, ◌++◌, length, drop, refl, sym, ap, ◌∙◌, append_assoc, arith}
use Rattle.std.specs.Prelude.{All}
use Rattle.std.proofs.lemmas.List.{append-nil, drop_at}
use Rattle.std.proofs.lemmas.List.Elements.{All-head, All-append, All-drop, All-same, All-weaker}
use Rattle.covdata.specs.Delimiters.{line_feed, carriage_return}
use Rattle.covdata.specs.Lawful.{IsChecksum, IsChecksumByte, IsGoodTest}

-- if a text ends in this byte, what follows any front of it ends in the same byte, unless it is empty
last_of_part : (front : List ℕ) (b : ℕ) (bs whole : List ℕ) (c : ℕ) → front ++ b ∷ bs ≡ whole ++ c ∷ [] → (rest : List ℕ) × (b ∷ bs ≡ rest ++ c ∷ [])
last_of_part [] b bs whole c e = (whole, e)
last_of_part (x ∷ []) b bs [] c e = absurd cc
last_of_part (x ∷ y ∷ front) b bs [] c e = absurd cc
last_of_part (x ∷ front) b bs (w ∷ whole) c e =
    let rest : front ++ b ∷ bs ≡ whole ++ c ∷ [] = cc in
    last_of_part front b bs whole c rest

pub All-part : {X : Type 0} (P : X → Type 0) (front rest : List X) → All P (front ++ rest) → All P rest
All-part P front rest all = All-same P rest (drop (length front) (front ++ rest)) (sym (drop_at front rest (length front) refl)) (All-drop P (length front) (front ++ rest) all)

-- if a text fits into one line, so does what follows any front of it
pub IsGoodTest-after : (front rest : List ℕ) → IsGoodTest (front ++ rest) → IsGoodTest rest
IsGoodTest-after front rest good = record {
  one_line = All-part (λ b. b ≢ line_feed) front rest good.one_line;
  no_return = λ before e. good.no_return (front ++ before) (ap (λ (t : List ℕ). front ++ t) e ∙ sym (append_assoc front before (carriage_return ∷ [])));
}

no_return_joined : (front rest : List ℕ) → IsGoodTest front → IsGoodTest rest → (before : List ℕ) → front ++ rest ≢ before ++ carriage_return ∷ []
no_return_joined front [] good last before e = good.no_return before (sym (append-nil front) ∙ e)
no_return_joined front (b ∷ bs) good last before e =
    let part = last_of_part front b bs before carriage_return e in
    last.no_return part.0 part.1

pub IsGoodTest-append : (front rest : List ℕ) → IsGoodTest front → IsGoodTest rest → IsGoodTest (front ++ rest)
IsGoodTest-append front rest good last = record {
  one_line = All-append (λ b. b ≢ line_feed) front rest good.one_line last.one_line;
  no_return = no_return_joined front rest good last;
}

-- the byte is above the carriage return, as the bytes of keys and numbers and the comma are
abbrev pub IsPlain : ℕ → Type 0
IsPlain b = carriage_return < b

ne_feed : (b : ℕ) → IsPlain b → b ≢ line_feed
ne_feed b plain e = omega arith

pub IsGoodTest-plain : (text : List ℕ) → All IsPlain text → IsGoodTest text
IsGoodTest-plain text plain = record {
  one_line = All-weaker IsPlain (λ b. b ≢ line_feed) ne_feed text plain;
  no_return = λ before e.
      let last = All-head IsPlain carriage_return [] (All-part IsPlain before (carriage_return ∷ []) (All-same IsPlain (before ++ carriage_return ∷ []) text (sym e) plain)) in
      omega (arith, last);
}

checksum_feed : (b : ℕ) → IsChecksumByte b → b ≢ line_feed
checksum_feed b lawful = lawful.no_feed

-- a checksum fits into one line
pub IsGoodTest-checksum : (checksum : List ℕ) → IsChecksum checksum → IsGoodTest checksum
IsGoodTest-checksum checksum lawful = record {
  one_line = All-weaker IsChecksumByte (λ b. b ≢ line_feed) checksum_feed checksum lawful.each;
  no_return = λ before e.
      let last = All-head IsChecksumByte carriage_return [] (All-part IsChecksumByte before (carriage_return ∷ []) (All-same IsChecksumByte (before ++ carriage_return ∷ []) checksum (sym e) lawful.each)) in
      last.no_return refl;
}
