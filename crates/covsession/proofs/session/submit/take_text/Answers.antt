use Rattle.std.proofs.Common.{◌≡◌, ◌++◌, [], ◌∷◌, rules, refl, sym, ◌∙◌, subst}
use Rattle.std.proofs.lemmas.Bool.{false≢true}
use Rattle.std.specs.List.{concat}
use Rattle.covdata.specs.Delimiters.{line_feed}
use Rattle.covsession.specs.Broken.{IsPart}
use Rattle.covsession.specs.Command.{IsBody}
use Rattle.covsession.specs.Streams.{moment, TakesLine, line_bytes, line_pieces}
use Rattle.covsession.specs.Text.{line_after}
use Rattle.covsession.specs.declared.session.text.LineSoFar.TheVariants.{Nothing, Dot}
use Rattle.covsession.specs.declared.session.text.LineEnd.{LineEnd}
use Rattle.covsession.specs.declared.session.text.LineEnd.TheVariants.{Feed, Input}
use Rattle.covsession.proofs.SessionLines.{begun_more}
use Rattle.covsession.proofs.SessionPieces.{takes_more, text_done, text_rest, is_taken, body_more, not_last, more_cut, more_moves, more_turns, more_collected, same_line}
use Rattle.std.proofs.lemmas.Result.{err_from_is_err_and}
use Rattle.covsession.proofs.SessionBreaks.{taking_later, taking_taken}
use Rattle.covsession.proofs.SessionMoves.{Moves-trans}
use Rattle.covsession.proofs.session.submit.take_text.Goals as goal

pub loop-text-init : goal.loop-text-init
loop-text-init g c = ([], tt, λ more. refl, search rules, search rules, c.in_room-text.ensures.empty, c.in_room-text.ensures.limit)

pub returns-then-is_last-clause-taken : goal.returns-then-is_last-clause-taken
returns-then-is_last-clause-taken g c =
    let m = moment c.args.input.now c.args.output.now in
    let n = moment c.take_lines.new.self c.loop-text.output in
    let o = moment c.take_line.new.self c.take_line.new.output in
    let lines = c.in_ok-take_lines.ensures in
    let i = begun_more m (moment c.loop-text.input c.loop-text.output) c.take_lines.new.self c.loop-text.text c.take_lines.new.text lines.taken.0 c.loop-text.invariant
    lines.taken.1 lines.taken.2 lines.kept lines.fewer lines.taken.3 lines.limit in
    let t = c.in_ok-ending.ensures.taken in
    let col = t.2 (concat i.0) [] i.5 in
    let dot : line_after Nothing t.0 ≡ Dot = sym col.so_far ∙ c.if-is_last.ensures.0 refl in (
      i.0 ++ line_bytes c.in_ok-ending.ending t.0 ∷ [],
      text_done m n o i.0 t.0 c.in_ok-ending.ending i.2 i.3 i.4 t.1 dot,
      is_taken c.body.result i.0 t.0 c.in_ok-ending.ending i.1 t.1.one_line dot (c.body.ensures (concat i.0) t.0 col),
    )

pub returns-in-Input-clause-taken : goal.returns-in-Input-clause-taken
returns-in-Input-clause-taken g c =
    let m = moment c.args.input.now c.args.output.now in
    let n = moment c.take_lines.new.self c.loop-text.output in
    let o = moment c.take_line.new.self c.take_line.new.output in
    let lines = c.in_ok-take_lines.ensures in
    let i = begun_more m (moment c.loop-text.input c.loop-text.output) c.take_lines.new.self c.loop-text.text c.take_lines.new.text lines.taken.0 c.loop-text.invariant
    lines.taken.1 lines.taken.2 lines.kept lines.fewer lines.taken.3 lines.limit in
    let t = c.in_ok-ending.ensures.taken in
    let col = t.2 (concat i.0) [] i.5 in
    let other : line_after Nothing t.0 ≡ Dot → ⊥ = same_line _ t.0 col.so_far (λ d. false≢true (c.if-is_last.ensures.1 d)) in
    let P : LineEnd → Type 0 = λ e. TakesLine n o t.0 e in
    let taken = subst P c.in-Input.is t.1 in (
      i.0 ++ line_pieces Input t.0,
      takes_more m n o (concat i.0) t.0 i.0 Input i.2 i.3 i.4 taken,
      (text_rest i.0 t.0 i.1 t.1.one_line other, refl),
    )

pub loop-text-preserved : goal.loop-text-preserved
loop-text-preserved g c =
    let m = moment c.args.input.now c.args.output.now in
    let n = moment c.take_lines.new.self c.loop-text.output in
    let o = moment c.take_line.new.self c.take_line.new.output in
    let lines = c.in_ok-take_lines.ensures in
    let i = begun_more m (moment c.loop-text.input c.loop-text.output) c.take_lines.new.self c.loop-text.text c.take_lines.new.text lines.taken.0 c.loop-text.invariant
    lines.taken.1 lines.taken.2 lines.kept lines.fewer lines.taken.3 lines.limit in
    let t = c.in_ok-ending.ensures.taken in
    let col = t.2 (concat i.0) [] i.5 in
    let other : line_after Nothing t.0 ≡ Dot → ⊥ = same_line _ t.0 col.so_far (λ d. false≢true (c.if-is_last.ensures.1 d)) in
    let P : LineEnd → Type 0 = λ e. TakesLine n o t.0 e in
    let taken = subst P c.in-Feed.is t.1 in (
      i.0 ++ (t.0 ++ line_feed ∷ []) ∷ [],
      body_more i.0 (t.0 ++ line_feed ∷ []) i.1 (not_last Feed t.0 t.1.one_line other),
      more_cut i.0 t.0 i.2 t.1.one_line,
      more_moves m n o i.0 t.0 i.3 taken,
      more_turns m n o t.0 i.4 taken,
      more_collected c.next_line.new.self i.0 t.0 (c.in_ok-next_line-in-Feed.ensures.collected (concat i.0) t.0 col),
      c.in_ok-next_line-in-Feed.ensures.limit ∙ c.in_ok-ending.ensures.limit ∙ i.6,
    )

pub returns-in_err-ending-clause-fails : goal.returns-in_err-ending-clause-fails
returns-in_err-ending-clause-fails g c =
    let m = moment c.args.input.now c.args.output.now in
    let n = moment c.take_lines.new.self c.loop-text.output in
    let o = moment c.take_line.new.self c.take_line.new.output in
    let lines = c.in_ok-take_lines.ensures in
    let i = begun_more m (moment c.loop-text.input c.loop-text.output) c.take_lines.new.self c.loop-text.text c.take_lines.new.text lines.taken.0 c.loop-text.invariant
    lines.taken.1 lines.taken.2 lines.kept lines.fewer lines.taken.3 lines.limit in
    let p = err_from_is_err_and c.from_residual-in_err-ending.result c.from_residual-in_err-ending.ensures.1 in
    rw (p.1, p.2) (taking_later IsBody m n o c.in_err-ending.field-0.0 i.0 (concat i.0) i.2 i.1 i.3 c.in_err-ending.ensures.fails)

pub returns-in_err-next_line-in-Feed-clause-fails : goal.returns-in_err-next_line-in-Feed-clause-fails
returns-in_err-next_line-in-Feed-clause-fails g c =
    let m = moment c.args.input.now c.args.output.now in
    let n = moment c.take_lines.new.self c.loop-text.output in
    let o = moment c.take_line.new.self c.take_line.new.output in
    let lines = c.in_ok-take_lines.ensures in
    let i = begun_more m (moment c.loop-text.input c.loop-text.output) c.take_lines.new.self c.loop-text.text c.take_lines.new.text lines.taken.0 c.loop-text.invariant
    lines.taken.1 lines.taken.2 lines.kept lines.fewer lines.taken.3 lines.limit in
    let t = c.in_ok-ending.ensures.taken in
    let p = err_from_is_err_and c.from_residual-in_err-next_line-in-Feed.result c.from_residual-in_err-next_line-in-Feed.ensures.1 in
    rw (p.1, p.2) (taking_taken (IsPart IsBody) m o c.in_err-next_line-in-Feed.field-0.0 _ c.in_err-next_line-in-Feed.ensures.fault
    (Moves-trans m n o (concat i.0) (line_bytes c.in_ok-ending.ending t.0) [] [] i.3 t.1.moves))
