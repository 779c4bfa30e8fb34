use Rattle.std.proofs.Common.{◌-◌, length, map, take, ap, sym, ◌∙◌, ◌∷◌, []}
use Rattle.std.proofs.lemmas.List.{map-append}
use Rattle.covdata.specs.SectView.{sect_data}
use Rattle.covpacked.proofs.Lasts.{last_parts}
use Rattle.covpacked.proofs.read_text.SubmissionReadText.last_test.Goals as goal

pub returns-in-Some : goal.returns-in-Some
returns-in-Some g c =
    let view = sect_data {A = g.row.A.Denot} in
    let sects = c.sects.result.now in
    let last = c.in-Some.sect.now in
    let front = take (length sects - 1) sects in
    record {
      before = map view front;
      last = view last;
      parts = sym c.sects.ensures.sects ∙ ap (map view) (last_parts sects last (sym c.in-Some.ensures.value)) ∙ map-append view front (last ∷ []);
      is = sym c.get.ensures;
    }
