use Rattle.std.proofs.Common.{map, refl}
use Rattle.std.proofs.lemmas.Bool.{false≢true}
use Rattle.covdata.specs.SectView.{sect_data}
use Rattle.covdata.proofs.SectLaws.{lawful_from, refused_from, too_many, unlawful_from}
use Rattle.covdata.proofs.submission.Submission.of.Goals as goal

pub returns-in_default-clause-lawful : goal.returns-in_default-clause-lawful
returns-in_default-clause-lawful g c =
    (λ e. absurd (false≢true e), λ lawful. absurd (too_many (map sect_data c.get-all.result.now) c.args.sects c.args.odd c.get-all.ensures c.in_default.ensures.count lawful))

pub returns-in-Some-first_unlawful-clause-refused : goal.returns-in-Some-first_unlawful-clause-refused
returns-in-Some-first_unlawful-clause-refused g c =
    (refl, refused_from (map sect_data c.get-all.result.now) c.args.sects c.in-Some.items c.in-Some-first_unlawful.sect c.get-all.ensures c.in-Some.ensures.count c.in-Some-first_unlawful.ensures)

pub returns-in-Some-first_unlawful-clause-lawful : goal.returns-in-Some-first_unlawful-clause-lawful
returns-in-Some-first_unlawful-clause-lawful g c =
    (λ e. absurd (false≢true e), λ lawful. absurd (unlawful_from (map sect_data c.get-all.result.now) c.args.sects c.in-Some-first_unlawful.sect c.args.odd c.get-all.ensures c.in-Some-first_unlawful.ensures lawful))

pub invariant_of-result : goal.invariant_of-result
invariant_of-result g c = lawful_from (map sect_data c.get-all.result.now) c.args.sects c.in-Some.items c.args.odd c.get-all.ensures c.in-Some.ensures.count (c.in-Some.ensures.fit refl) c.in_default-first_unlawful.ensures c.ranges.odd.fits

pub returns-clause-lawful : goal.returns-clause-lawful
returns-clause-lawful g c =
    let holds = lawful_from (map sect_data c.get-all.result.now) c.args.sects c.in-Some.items c.args.odd c.get-all.ensures c.in-Some.ensures.count (c.in-Some.ensures.fit refl) c.in_default-first_unlawful.ensures c.ranges.odd.fits in
    (λ e. holds.0, λ lawful. refl)
