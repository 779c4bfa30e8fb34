use Rattle.std.proofs.Common.{◌≡◌, ◌∙◌, ◌<◌, None, true, false, get_or, ap, refl, sym, subst, length, arith}
use Rattle.std.specs.List.{insert}
use Rattle.covmap.specs.RunPage.{FirstHere, IsNewPage}
use Rattle.covmap.specs.Slots.{IsAscending, ends_before, filled}
use Rattle.covmap.proofs.RunPages.{more_ascends, more_first, more_long, more_none, some_unless_less}
use Rattle.covmap.proofs.slots.page.Page.push_front.Goals as goal

pub loop-count-init : goal.loop-count-init
loop-count-init g c =
    let none = c.requires.none in (
      subst (IsAscending g.K.Key.cmp) (sym none) tt,
      ap length none,
      ap filled none,
      omega arith,
      λ some. absurd (omega (arith, some, ap length none)),
    )

pub loop-count-preserved : goal.loop-count-preserved
loop-count-preserved g c =
    let is = c.loop-count.invariant in
    let page = c.loop-count.self in
    let count = c.loop-count.count in
    let run = c.args.run.now in
    let key = g.Q.Query.named (get_or run count c.index-run-count.result).0 in
    let put : c.push_greater.new.self ≡ insert page count (key, None) = c.in_ok-is_pushed.ensures.pushed c.if-not-is_pushed.false in
    let ends : ends_before (λ other. g.K.Key.cmp other key) page ≡ true = sym c.in_ok-is_pushed.ensures.greater ∙ c.if-not-is_pushed.false in
    let below : count < length run = omega (arith, c.loop-count-test.true, c.requires.there) in (
      subst (IsAscending g.K.Key.cmp) (sym put) (more_ascends g.K.Key.total g.Q.Query.named run page key count is.1 is.0 ends),
      ap length put ∙ more_long g.K.Key.total g.Q.Query.named run page key count is.1,
      ap filled put ∙ more_none g.K.Key.total g.Q.Query.named run page key count is.1 is.2,
      omega (arith, c.loop-count-test.true),
      λ some. subst (λ page. FirstHere g.K.Key.cmp g.Q.Query.named page 0 run) (sym put) (more_first g.K.Key.total g.Q.Query.named run page key count is.1 c.index-run-count.result below refl is.4),
    )

pub returns-then-not-is_pushed : goal.returns-then-not-is_pushed
returns-then-not-is_pushed g c =
    let is = c.loop-count.invariant in
    let page = c.loop-count.self in
    let count = c.loop-count.count in
    let run = c.args.run.now in
    let key = g.Q.Query.named (get_or run count c.index-run-count.result).0 in
    let ends : ends_before (λ other. g.K.Key.cmp other key) page ≡ false = sym c.in_ok-is_pushed.ensures.greater ∙ c.if-not-is_pushed.true in
    let some : 0 < length page = some_unless_less (λ other. g.K.Key.cmp other key) page ends in
    subst (IsNewPage g.K.Key.cmp g.Q.Query.named run) (sym (c.in_ok-is_pushed.ensures.same c.if-not-is_pushed.true))
    (record { ascending = is.0; some = some; fits = omega (arith, is.1, is.3, c.requires.fits); none = is.2; first = is.4 some })

pub returns : goal.returns
returns g c =
    let is = c.loop-count.invariant in
    let some : 0 < length c.loop-count.self = omega (arith, is.1, c.loop-count-test.false, c.requires.some) in
    record { ascending = is.0; some = some; fits = omega (arith, is.1, is.3, c.requires.fits); none = is.2; first = is.4 some }
