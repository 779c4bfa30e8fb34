use Rattle.std.proofs.Common.{◌≡◌, ◌++◌, ◌∷◌, [], List, length, sym, ◌∙◌, ap, subst, arith, rules, length-append}
use Rattle.covbook.specs.EntryView.{entry_data}
use Rattle.covbook.specs.Op.{EntryData}
use Rattle.covbook.specs.Step.{ComesNext, IsLegal, last_totals}
use Rattle.covnews.proofs.Appending.{may_append}
use Rattle.covnews.proofs.Runs.{last_totals-next, legal_with_next}
use Rattle.covnews.proofs.news.News.appended.Goals as goal

pub compare_exchange-found-requires : goal.compare_exchange-found-requires
compare_exchange-found-requires g c =
    let is = c.requires.history in
    let again = c.again-seen.ensures in
    let offer = c.plain-offer.ensures in
    let pen = c.no_pen-pen.ensures in
    let history = c.self.inside.snapshot.seen.log in
    let entry = entry_data c.args.entry.now in
    let next : ComesNext history entry = rw c.self.view_is c.requires.next in
    let book = ap (λ s. s.book) again ∙ (c.self.invariant.0 ∙ sym (ap (λ w. w.book) is)) in (
      ap (λ w. w.tracked) is,
      book,
      pen.0 ∙ book,
      offer.0,
      rw (ap (λ w. w.key) is, pen.1, offer.1, offer.3, again) (may_append history entry c.self.inside.snapshot.upto (sym c.self.inside.snapshot.describes.upto) next),
    )

pub invariant_of-snapshot : goal.invariant_of-snapshot
invariant_of-snapshot g c =
    let before = c.self.inside.snapshot.seen.log in
    let entry = entry_data c.args.entry.now in
    let after = c.compare_exchange-found.new.seen.log in
    let grown : after ≡ before ++ entry ∷ [] = search rules in record {
      describes = record {
        upto = omega (arith, ap (λ (es : List EntryData). length es) grown, length-append before (entry ∷ []), c.self.inside.snapshot.describes.upto);
        totals = sym (ap last_totals grown ∙ last_totals-next before entry);
      };
    }

pub invariant_of-result : goal.invariant_of-result
invariant_of-result g c =
    let before = c.self.inside.snapshot.seen.log in
    let entry = entry_data c.args.entry.now in
    let after = c.compare_exchange-found.new.seen.log in
    let grown : after ≡ before ++ entry ∷ [] = search rules in
    let next : ComesNext before entry = rw c.self.view_is c.requires.next in (
      c.compare_exchange-found.ensures.0 ∙ (ap (λ s. s.book) c.again-seen.ensures ∙ c.self.invariant.0),
      subst IsLegal (sym grown) (legal_with_next before entry c.self.invariant.1 next),
    )
