use Rattle.std.proofs.Common.{◌≤◌, List, ap, arith, length, subst}
use mathlib.Core.List.{IsPrefix}
use Rattle.covbook.specs.Op.{EntryData}
use Rattle.covnews.proofs.Prefixes.{shorter_prefix}
use Rattle.covnews.proofs.news.News.longer.Goals as goal

pub returns-then-self-other-clause-this : goal.returns-then-self-other-clause-this
returns-then-self-other-clause-this g c =
    let own = c.self.inside.snapshot.seen.log in
    let others = c.other.inside.snapshot.seen.log in
    let both = c.learn.new.self.log in
    let prefix : IsPrefix own both = subst (λ (l : List EntryData). IsPrefix l both) (ap (λ s. s.log) c.again-both.ensures) c.learn.ensures.2 in
    let few : length own ≤ length others = omega (arith, c.self.inside.snapshot.describes.upto, c.other.inside.snapshot.describes.upto, c.if-self-other.true) in
    rw (c.copy.ensures, ← c.self.view_is, ← c.other.view_is) (shorter_prefix own others both prefix c.learn.ensures.3 few)

pub returns-clause-that : goal.returns-clause-that
returns-clause-that g c =
    let own = c.self.inside.snapshot.seen.log in
    let others = c.other.inside.snapshot.seen.log in
    let both = c.learn.new.self.log in
    let prefix : IsPrefix own both = subst (λ (l : List EntryData). IsPrefix l both) (ap (λ s. s.log) c.again-both.ensures) c.learn.ensures.2 in
    let few : length others ≤ length own = omega (arith, c.self.inside.snapshot.describes.upto, c.other.inside.snapshot.describes.upto, c.if-self-other.false) in
    rw (c.copy-else-self-other.ensures, ← c.self.view_is, ← c.other.view_is) (shorter_prefix others own both c.learn.ensures.3 prefix few)
