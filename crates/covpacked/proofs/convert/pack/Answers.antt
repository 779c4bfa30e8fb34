use Rattle.std.proofs.Common.{◌≡◌, ◌∙◌, ap, sym, subst, map}
use Rattle.std.proofs.lemmas.List.{take_all}
use Rattle.covdata.specs.Lawful.{IsLawful}
use Rattle.covdata.specs.SectView.{sect_data}
use Rattle.covpacked.proofs.Copied.{copied_more}
use Rattle.covpacked.proofs.convert.pack.Goals as goal

pub loop-sect-preserved : goal.loop-sect-preserved
loop-sect-preserved g c = record {
  sects = copied_more (sect_data {A = g.row.A.Denot}) c.sects-sect-items.result.now c.loop-sect.sect-index c.sect-item.result c.loop-sect-test.true c.sect-item.is
      c.loop-sect.sects.sects c.pack_sect.new.sects.sects c.loop-sect.invariant.sects c.in_ok-pack_sect.ensures.sects;
  items = c.in_ok-pack_sect.ensures.items;
}

pub of_lawful-requires : goal.of_lawful-requires
of_lawful-requires g c =
    let all : c.loop-sect.sects.sects ≡ c.args.submission.now.sects =
    c.loop-sect.invariant.sects ∙ ap (map (sect_data {A = g.row.A.Denot})) (take_all c.loop-sect.sect-index c.sects-sect-items.result.now c.loop-sect-test.false) ∙ c.sects-sect-items.ensures.sects in
    record { lawful = subst IsLawful (λ i. record { sects = sym all i; odd = sym c.odd.ensures i }) c.sects-sect-items.ensures.lawful }
