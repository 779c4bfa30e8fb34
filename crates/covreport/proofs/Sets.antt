-- Sets in a pattern, closed and not.
use Rattle.std.proofs.Common.{◌≡◌, ◌≢◌, ℕ, suc, ◌+◌, false, eqb, ◌&&◌, not, List, [], ◌∷◌, ◌++◌, length, drop, refl, ap, ◌∙◌, arith, Some, None}
use Rattle.std.specs.Prelude.{All}
use Rattle.std.proofs.lemmas.Bool.{ne_eqb}
use Rattle.std.proofs.lemmas.List.Elements.{All-head, All-tail}
use Rattle.covreport.specs.Pattern.{Head, OneByte, OneOf, NoneOf, before_close, opened_set, plain, head_of, parts_of, in_body, fits, matches}
use Rattle.covreport.proofs.Heads.{parts_drop}

abbrev pub HasNoClose : List ℕ → Type 0
HasNoClose text = All (λ c. c ≢ 93) text

close_differs : (b : ℕ) (bs : List ℕ) → HasNoClose (b ∷ bs) → eqb b 93 ≡ false
close_differs b bs none = ne_eqb b 93 (All-head (λ c. c ≢ 93) b bs none)

close_found : (body rest : List ℕ) → HasNoClose body → before_close (body ++ 93 ∷ rest) ≡ Some body
close_found [] rest none = refl
close_found (b ∷ bs) rest none =
    rw (close_differs b bs none, close_found bs rest (All-tail (λ c. c ≢ 93) b bs none)) refl

close_lacks : (body : List ℕ) → HasNoClose body → before_close body ≡ None
close_lacks [] none = refl
close_lacks (b ∷ bs) none =
    rw (close_differs b bs none, close_lacks bs (All-tail (λ c. c ≢ 93) b bs none)) refl

-- a pattern matches a path exactly if its head's part, followed by the parts after the head, fits the path
by_head : (first : ℕ) (after path : List ℕ) (head : Head) → head_of first after ≡ head → matches (first ∷ after) path ≡ fits (head.part ∷ parts_of (drop head.more after)) path
by_head first after path head e =
    rw (parts_drop (head_of first after).more after) (ap (λ (h : Head). fits (h.part ∷ parts_of (drop h.more after)) path) e)

past_close : (body rest : List ℕ) → drop (suc (length body)) (body ++ 93 ∷ rest) ≡ rest
past_close [] rest = refl
past_close (b ∷ bs) rest = past_close bs rest

after_set : (first : ℕ) (body rest : List ℕ) → drop (suc (length body) + 1) (first ∷ (body ++ 93 ∷ rest)) ≡ rest
after_set first body rest =
    let more : suc (length body) + 1 ≡ suc (suc (length body)) = omega arith in
    ap (λ (n : ℕ). drop n (first ∷ (body ++ 93 ∷ rest))) more ∙ past_close body rest

after_none : (first : ℕ) (body rest : List ℕ) → drop (suc (length body) + 2) (33 ∷ first ∷ (body ++ 93 ∷ rest)) ≡ rest
after_none first body rest =
    let more : suc (length body) + 2 ≡ suc (suc (suc (length body))) = omega arith in
    ap (λ (n : ℕ). drop n (33 ∷ first ∷ (body ++ 93 ∷ rest))) more ∙ past_close body rest

pub set_takes : (first b : ℕ) (body rest path : List ℕ) → first ≢ 33 → HasNoClose body → matches (91 ∷ first ∷ (body ++ 93 ∷ rest)) (b ∷ path) ≡ (in_body b (first ∷ body) && matches rest path)
set_takes first b body rest path other none =
    by_head 91 (first ∷ (body ++ 93 ∷ rest)) (b ∷ path) (record { part = OneByte (OneOf (first ∷ body)); more = length (first ∷ body) + 1 })
    (rw (ne_eqb first 33 other, close_found body rest none) refl)
    ∙ ap (λ (t : List ℕ). in_body b (first ∷ body) && matches t path) (after_set first body rest)

pub set_takes_none : (first b : ℕ) (body rest path : List ℕ) → HasNoClose body → matches (91 ∷ 33 ∷ first ∷ (body ++ 93 ∷ rest)) (b ∷ path) ≡ (not (in_body b (first ∷ body)) && matches rest path)
set_takes_none first b body rest path none =
    by_head 91 (33 ∷ first ∷ (body ++ 93 ∷ rest)) (b ∷ path) (record { part = OneByte (NoneOf (first ∷ body)); more = length (first ∷ body) + 2 })
    (rw (close_found body rest none) refl)
    ∙ ap (λ (t : List ℕ). not (in_body b (first ∷ body)) && matches t path) (after_none first body rest)

-- a [ that opens no set takes itself
bracket_plain : (b : ℕ) (after path : List ℕ) → opened_set after ≡ None → matches (91 ∷ after) (b ∷ path) ≡ (eqb b 91 && matches after path)
bracket_plain b after path e = by_head 91 after (b ∷ path) (plain 91) (rw e refl)

pub unclosed_set : (first b : ℕ) (body path : List ℕ) → first ≢ 33 → HasNoClose body → matches (91 ∷ first ∷ body) (b ∷ path) ≡ (eqb b 91 && matches (first ∷ body) path)
unclosed_set first b body path other none =
    bracket_plain b (first ∷ body) path (rw (ne_eqb first 33 other, close_lacks body none) refl)

pub unclosed_none : (first b : ℕ) (body path : List ℕ) → HasNoClose body → matches (91 ∷ 33 ∷ first ∷ body) (b ∷ path) ≡ (eqb b 91 && matches (33 ∷ first ∷ body) path)
unclosed_none first b body path none =
    bracket_plain b (33 ∷ first ∷ body) path (rw (close_lacks body none) refl)
