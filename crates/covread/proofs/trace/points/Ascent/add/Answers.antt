use Rattle.std.proofs.Common.{◌≡◌, ◌||◌, Bool, Option, true, ap, sym, subst, ◌∙◌}
use Rattle.std.specs.Ordering.{is_le, is_lt}
use Rattle.covread.specs.declared.trace.points.Hit.{Hit}
use Rattle.covread.specs.TracePoints.{AscendsTo, goes_on}
use Rattle.covread.proofs.TracePoints.{next_point, same_again, tied_from, less_from}
use Rattle.covread.proofs.trace.points.Ascent.add.Goals as goal
use Rattle.covread.proofs.trace.points.Ascent.add.Goals.{then-last, else-last}

pub returns-then-is_lt-clause-ascent : goal.returns-then-is_lt-clause-ascent
returns-then-is_lt-clause-ascent g c = λ seen h.
    let R = g.P.Ord.cmp in
    let last = c.in-Some.last in
    let reaches = subst (λ (o : Option (Hit g.row.P.Denot)). AscendsTo R o c.args.self.now.below seen) c.in-Some.is h in
    let up = less_from g.met.P.Ord.total last.point c.args.next.point (ap is_lt (sym c.cmp.ensures) ∙ sym c.is_lt.ensures ∙ c.if-is_lt.true) in
    next_point g.met.P.Ord.total c.args.self.now.below c.and-self.result last c.args.next seen up c.and-self.ensures.found c.and-self.ensures.hit reaches

pub returns-in-Some-clause-ascent : goal.returns-in-Some-clause-ascent
returns-in-Some-clause-ascent g c = λ seen h.
    let R = g.P.Ord.cmp in
    let last = c.in-Some.last in
    let reaches = subst (λ (o : Option (Hit g.row.P.Denot)). AscendsTo R o c.args.self.now.below seen) c.in-Some.is h in
    let le : is_le (R last.point c.args.next.point) ≡ true = subst (λ (o : Option (Hit g.row.P.Denot)). goes_on R o c.args.next.point ≡ true) c.in-Some.is c.requires.ascends in
    let tie = tied_from g.met.P.Ord.total last.point c.args.next.point le (ap is_lt (sym c.cmp.ensures) ∙ sym c.is_lt.ensures ∙ c.if-is_lt.false) in
    let both : c.if-last.last ≡ (last.is_hit || c.args.next.is_hit) = elim c.if-last.branch [ then-last w ↦ w.last-is ∙ w.if-last.true ∙ ap (λ (b : Bool). b || c.args.next.is_hit) (sym w.if-last.true) | else-last w ↦ w.last-is ∙ ap (λ (b : Bool). b || c.args.next.is_hit) (sym w.if-last.false) ] in
    same_again g.met.P.Ord.total c.args.self.now.below last c.args.next c.if-last.last seen tie both reaches
