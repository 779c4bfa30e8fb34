use Rattle.std.proofs.Common.{◌∙◌, refl, ap, string_bytes, arith}
use Rattle.covcombine.proofs.Twice.{none_at_end, none_first, none_on, seen_on, twice_at, was_new, was_there}
use Rattle.covcombine.proofs.work.named_twice.Goals as goal

pub loop-word-init : goal.loop-word-init
loop-word-init c = record { none = none_first; seen = λ q. rw c.new-seen.ensures.empty refl }

pub returns-then-not-is_new : goal.returns-then-not-is_new
returns-then-not-is_new c =
    let is = c.as_str-name.ensures.value ∙ ap string_bytes c.word-item.is in
    twice_at string_bytes c.args.names.now c.loop-word.word-index c.word-item.result c.loop-word-test.true c.as_str-name.result.now is
    _ (c.loop-word.invariant.seen c.as_str-name.result.now) (was_there _ c.in_ok-is_new.is_new c.in_ok-is_new.ensures.added c.if-not-is_new.true)

pub loop-word-preserved : goal.loop-word-preserved
loop-word-preserved c =
    let is = c.as_str-name.ensures.value ∙ ap string_bytes c.word-item.is in
    record {
      none = none_on string_bytes c.args.names.now c.loop-word.word-index c.word-item.result c.loop-word-test.true c.as_str-name.result.now is
          _ (c.loop-word.invariant.seen c.as_str-name.result.now) (was_new _ c.in_ok-is_new.is_new c.in_ok-is_new.ensures.added c.if-not-is_new.false) c.loop-word.invariant.none;
      seen = λ q. seen_on string_bytes c.args.names.now c.loop-word.word-index c.word-item.result c.loop-word-test.true c.as_str-name.result.now is
          (λ k. k.now) c.loop-word.seen.keys c.insert.new.self.keys c.as_str-name.result refl c.in_ok-is_new.ensures.keys q (c.loop-word.invariant.seen q);
    }

pub returns : goal.returns
returns c = none_at_end string_bytes c.args.names.now c.loop-word.word-index (omega arith) c.loop-word.invariant.none
