-- Histories of one book: each is a beginning of each longer one.
use Rattle.std.proofs.Common.{◌≡◌, ◌∙◌, inl, inr, ◌+◌, ◌<◌, ◌≤◌, List, length, ap, sym, subst, arith}
use Rattle.std.specs.Prelude.{◌⊎◌}
use Rattle.std.proofs.lemmas.List.{length-append}
use Rattle.covbook.specs.Kept.{IsPrefix}
use Rattle.covbook.specs.Op.{EntryData}

pub prefix_short : (xs ys : List EntryData) → IsPrefix xs ys → length xs ≤ length ys
prefix_short xs ys p =
    let long : length ys ≡ length xs + length p.0 = sym (ap (λ (zs : List EntryData). length zs) p.1) ∙ length-append xs p.0 in
    omega (arith, long)

-- of two histories of one book, the longer one is that of which both are beginnings
pub longer_is : (latest news result : List EntryData) → length latest < length news → (result ≡ latest) ⊎ (result ≡ news) → IsPrefix news result → result ≡ news
longer_is latest news result less (inl is) p =
    let short = prefix_short news latest (subst (λ (h : List EntryData). IsPrefix news h) is p) in
    absurd (omega (arith, short, less))
longer_is latest news result less (inr is) p = is
