use Rattle.std.proofs.Common.{◌∙◌, refl, ap, string_bytes, arith}
use Rattle.covcombine.proofs.Apart.{apart_at_end, none_yet, noted_at, one_file_at, unknown_at}
use Rattle.covcombine.proofs.work.one_file.Goals.{in-Some+in_ok-first+in_default-2, in_default}
use Rattle.covcombine.proofs.work.one_file.Goals as goal

pub loop-word-init : goal.loop-word-init
loop-word-init g c = none_yet _ _ (λ id. rw c.new-seen.ensures.empty refl)

pub returns-in-Some-2 : goal.returns-in-Some-2
returns-in-Some-2 g c =
    let is = c.as_str-name.ensures.value ∙ ap string_bytes c.word-item.is in
    one_file_at _ string_bytes c.args.names.now c.loop-word.word-index c.loop-word.seen c.loop-word.invariant c.word-item.result c.loop-word-test.true c.as_str-name.result is
    c.in-Some.id c.in-Some.ensures _ c.in_ok-first.ensures.old c.in-Some-2.first c.in-Some-2.is

pub loop-word-preserved : goal.loop-word-preserved
loop-word-preserved g c =
    let is = c.as_str-name.ensures.value ∙ ap string_bytes c.word-item.is in
    elim c.match-look.branch [
      | in-Some+in_ok-first+in_default-2 w ↦
          noted_at _ string_bytes c.args.names.now c.loop-word.word-index c.loop-word.seen c.loop-word.invariant c.word-item.result c.loop-word-test.true c.as_str-name.result is
          w.in-Some.id w.in-Some.ensures _ w.in_ok-first.ensures.old w.in_default-2.is w.insert.new.self w.in_ok-first.ensures.updates c.match-look.seen w.seen-is
      | in_default w ↦
          unknown_at _ string_bytes c.args.names.now c.loop-word.word-index c.loop-word.seen c.loop-word.invariant c.word-item.result c.loop-word-test.true c.as_str-name.result is
          w.in_default.ensures c.match-look.seen w.seen-is
    ]

pub returns : goal.returns
returns g c = apart_at_end _ string_bytes c.args.names.now c.loop-word.word-index c.loop-word.seen c.loop-word.invariant (omega arith)
