use Rattle.std.proofs.Common.{◌≡◌, ◌+◌, ◌<◌, ◌∙◌, ap, arith, length, refl, set}
use Rattle.std.proofs.lemmas.List.{get_or_default, length-set}
use Rattle.covpacked.proofs.Removes.{left_moves, left_skips}
use Rattle.covpacked.proofs.packed_sects.remove_words.Goals as goal
use Rattle.covpacked.proofs.packed_sects.remove_words.Goals.{in-Some, in-None}

pub loop-place-preserved : goal.loop-place-preserved
loop-place-preserved g c =
    let l = c.loop-place in
    let from = c.args.from in
    let within : from + l.place < length l.words.items = omega (arith, c.loop-place-test.true, c.requires, l.invariant.length) in
    elim c.match-skip_place.branch [
      | in-Some w ↦ rw (w.kept-is, w.places-is) (record {
        same = left_skips l.words.items _ l.kept from l.place l.places.now l.invariant.same within c.match-skip_place.words.items _ w.in-Some.ensures (cc w.words-is);
        few = omega (arith, l.invariant.few);
        length = cc (w.words-is, l.invariant.length);
      })
      | in-None w ↦ let is = w.index.ensures ∙ get_or_default l.words.items (from + l.place) w.index.result.now 0 within in
          let new : c.match-skip_place.words.items ≡ set l.words.items l.kept w.index.result.now = rw w.words-is refl in
          rw (w.kept-is, w.places-is) (record {
            same = left_moves l.words.items _ l.kept from l.place l.places.now l.invariant.same within c.match-skip_place.words.items l.invariant.few w.in-None.ensures (new ∙ ap (set l.words.items l.kept) is);
            few = omega (arith, l.invariant.few);
            length = ap length new ∙ length-set l.words.items l.kept w.index.result.now ∙ l.invariant.length;
          })
    ]
