use Rattle.std.proofs.Common.{refl}
use Rattle.covpieces.proofs.LastLines.{looking_begins, looking_on}
use Rattle.covpieces.proofs.cut.whole_sections.Goals as goal

pub loop-front-init : goal.loop-front-init
loop-front-init c = looking_begins c.args.text.now _ c.after_last_feed.result refl c.after_last_feed.ensures.whole c.after_last_feed.ensures.rest

pub loop-front-preserved : goal.loop-front-preserved
loop-front-preserved c =
    let shorter = c.in-Some.ensures in
    looking_on c.args.text.now c.loop-front.rest.now c.in-Some.front.now shorter.0 c.loop-front.invariant shorter.1 shorter.2
