use Rattle.std.proofs.Common.{◌∙◌, ◌++◌, ℕ, List, ap, refl, string_bytes}
use Rattle.covcommand.specs.Word.{shown}
use Rattle.covcommand.proofs.Copied.{appended_more}
use Rattle.covcommand.proofs.word.push_shown.Goals as goal

pub loop-byte-preserved : goal.loop-byte-preserved
loop-byte-preserved c =
    appended_more shown c.args.bytes.now c.loop-byte.byte-index _ c.loop-byte-test.true
    (string_bytes c.args.text.now) (string_bytes c.loop-byte.text) (string_bytes c.push.new.self) _ c.loop-byte.invariant
    (c.in_ok-push.ensures.bytes ∙ ap (λ (ys : List ℕ). string_bytes c.loop-byte.text ++ ys) c.shown.ensures) refl
