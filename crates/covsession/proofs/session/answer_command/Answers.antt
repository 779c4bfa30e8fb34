use Rattle.std.proofs.Common.{◌≡◌, [], ◌∙◌, subst, List, ℕ, codes}
use Rattle.covline.specs.Lines.{strip}
use Rattle.covbook.specs.Step.{ops_in}
use Rattle.covsession.specs.Command.{Announces, IsBody, IsWord, format_of}
use Rattle.covsession.specs.Run.{TakesAfter}
use Rattle.covsession.specs.Streams.{moment}
use Rattle.covsession.specs.declared.session.command.word.Word.{Word}
use Rattle.covsession.proofs.SessionRename.{names_last}
use Rattle.covsession.proofs.SessionSteps.{line_command, says_on, taken_run, after_command}
use Rattle.std.proofs.Common.{inl, inr, refl}
use Rattle.std.proofs.lemmas.Result.{err_from_is_err_and}
use Rattle.covsession.specs.Rename.{LacksName}
use Rattle.covsession.proofs.SessionBroken.{either_with_line, fails_after_line, fails_in_line, fails_line, given_fails}
use Rattle.covsession.proofs.SessionOpen.{open_rename, open_text}
use Rattle.covsession.proofs.session.answer_command.Goals as goal

pub returns-in-Some-clause-takes : goal.returns-in-Some-clause-takes
returns-in-Some-clause-takes g c =
    let m = moment c.args.input.now c.args.output.now in
    let n = moment c.take_line.new.self c.take_line.new.output in
    let o = moment c.take_text.new.input c.take_text.new.output in
    let p = moment c.take_text.new.input c.answer_given.new.output in
    let t = c.in_ok-ending.ensures.taken in
    let same : c.whole.result.now ≡ t.0 = c.whole.ensures [] t.0 (c.in_ok-ending.ensures.limit ∙ c.new-line.ensures.limit) (t.2 [] [] c.new-line.ensures.empty) in
    let P : List ℕ → Type 0 = λ u. IsWord (strip u) c.word_of-word.result in
    let word : IsWord (strip t.0) c.word_of-word.result = subst P same c.word_of-word.ensures in
    let follows = c.in-Some.ensures.text in
    let Q : Word → Type 0 = λ u. IsWord (strip t.0) u in
    let format = format_of c.in-Some.format in
    let s = c.in_ok-taken.ensures.taken in
    let a = c.in_ok-answer_given.ensures.answered in
    let text : TakesAfter (λ line. Announces format line) n p (ops_in c.args.book.now.entries) (ops_in c.answer_given.new.book.entries) c.in_ok-taken.ended = record {
      pieces = s.0;
      commands = a.0;
      taken = says_on n o c.answer_given.new.output s.0 c.in_ok-taken.ended _ s.1 a.3;
      asks = a.2;
      run = taken_run format c.in_ok-taken.taken s.0 c.in_ok-taken.ended a.0 s.2 a.1;
    } in
    after_command (λ line. Announces format line) m n p t.0 c.in_ok-taken.ended c.in_ok-ending.ending (ops_in c.args.book.now.entries) (ops_in c.answer_given.new.book.entries)
    t.1 follows.1 (subst Q follows.0 word) text

pub returns-clause-takes : goal.returns-clause-takes
returns-clause-takes g c =
    let m = moment c.args.input.now c.args.output.now in
    let n = moment c.take_line.new.self c.take_line.new.output in
    let t = c.in_ok-ending.ensures.taken in
    let same : c.whole.result.now ≡ t.0 = c.whole.ensures [] t.0 (c.in_ok-ending.ensures.limit ∙ c.new-line.ensures.limit) (t.2 [] [] c.new-line.ensures.empty) in
    let P : List ℕ → Type 0 = λ u. IsWord (strip u) c.word_of-word.result in
    let word : IsWord (strip t.0) c.word_of-word.result = subst P same c.word_of-word.ensures in
    line_command m n c.answer_word.new.output t.0 c.in_ok-ending.ending c.word_of-word.result
    (ops_in c.args.book.now.entries) (ops_in c.answer_word.new.book.entries)
    t.1 word (record { text = c.in_default.ensures.no_text; names = names_last _ _ _ c.names_after.ensures c.if-names_after.false })
    c.in_ok-answer_word.ensures.asks c.in_ok-answer_word.ensures.says

pub returns-then-names_after-clause-takes : goal.returns-then-names_after-clause-takes
returns-then-names_after-clause-takes g c =
    let m = moment c.args.input.now c.args.output.now in
    let n = moment c.take_line.new.self c.take_line.new.output in
    let o = moment c.answer_rename.new.input c.answer_rename.new.output in
    let t = c.in_ok-ending.ensures.taken in
    let same : c.whole.result.now ≡ t.0 = c.whole.ensures [] t.0 (c.in_ok-ending.ensures.limit ∙ c.new-line.ensures.limit) (t.2 [] [] c.new-line.ensures.empty) in
    let P : List ℕ → Type 0 = λ u. IsWord (strip u) c.word_of-word.result in
    let word : IsWord (strip t.0) c.word_of-word.result = subst P same c.word_of-word.ensures in
    let follows = c.names_after.ensures.0 c.if-names_after.true in
    let Q : Word → Type 0 = λ u. IsWord (strip t.0) u in
    after_command (λ line. line ≡ codes "rename") m n o t.0 c.in_ok-ended.ended c.in_ok-ending.ending (ops_in c.args.book.now.entries) (ops_in c.answer_rename.new.book.entries)
    t.1 follows.1 (subst Q follows.0 word) c.in_ok-ended.ensures.takes

pub returns-in_err-taken-clause-fails : goal.returns-in_err-taken-clause-fails
returns-in_err-taken-clause-fails g c =
    let m = moment c.args.input.now c.args.output.now in
    let n = moment c.take_line.new.self c.take_line.new.output in
    let o = moment c.take_text.new.input c.take_text.new.output in
    let t = c.in_ok-ending.ensures.taken in
    let same : c.whole.result.now ≡ t.0 = c.whole.ensures [] t.0 (c.in_ok-ending.ensures.limit ∙ c.new-line.ensures.limit) (t.2 [] [] c.new-line.ensures.empty) in
    let P : List ℕ → Type 0 = λ u. IsWord (strip u) c.word_of-word.result in
    let word : IsWord (strip t.0) c.word_of-word.result = subst P same c.word_of-word.ensures in
    let Q : Word → Type 0 = λ u. IsWord (strip t.0) u in
    let follows = c.in-Some.ensures.text in
    let format = format_of c.in-Some.format in
    let p = err_from_is_err_and c.from_residual-in_err-taken.result c.from_residual-in_err-taken.ensures.1 in
    rw (p.1, p.2) (inl (fails_after_line (λ line. Announces format line) IsBody m n o t.0 c.in_ok-ending.ending c.in_err-taken.field-0.0 t.1 follows.1 (subst Q follows.0 word)
    (λ first pieces is part. open_text format first pieces is part) c.in_err-taken.ensures.fails))

pub returns-in_err-ending-clause-fails : goal.returns-in_err-ending-clause-fails
returns-in_err-ending-clause-fails g c =
    let p = err_from_is_err_and c.from_residual.result c.from_residual.ensures.1 in
    rw (p.1, p.2) (inl (fails_in_line (moment c.args.input.now c.args.output.now) (moment c.take_line.new.self c.take_line.new.output) c.in_err-ending.field-0.0
    c.in_err-ending.ensures.fails))

pub returns-in_err-answer_given-clause-fails : goal.returns-in_err-answer_given-clause-fails
returns-in_err-answer_given-clause-fails g c =
    let m = moment c.args.input.now c.args.output.now in
    let n = moment c.take_line.new.self c.take_line.new.output in
    let t = c.in_ok-ending.ensures.taken in
    let same : c.whole.result.now ≡ t.0 = c.whole.ensures [] t.0 (c.in_ok-ending.ensures.limit ∙ c.new-line.ensures.limit) (t.2 [] [] c.new-line.ensures.empty) in
    let P : List ℕ → Type 0 = λ u. IsWord (strip u) c.word_of-word.result in
    let word : IsWord (strip t.0) c.word_of-word.result = subst P same c.word_of-word.ensures in
    let Q : Word → Type 0 = λ u. IsWord (strip t.0) u in
    let before = ops_in c.args.book.now.entries in
    let k = moment c.take_text.new.input c.take_text.new.output in
    let o = moment c.take_text.new.input c.answer_given.new.output in
    let follows = c.in-Some.ensures.text in
    let format = format_of c.in-Some.format in
    let s = c.in_ok-taken.ensures.taken in
    let p = err_from_is_err_and c.from_residual-in_err-answer_given.result c.from_residual-in_err-answer_given.ensures.1 in
    rw (p.1, p.2) (either_with_line (λ line. Announces format line) IsBody m n o t.0 c.in_ok-ending.ending before c.in_err-answer_given.field-0.0
    t.1 follows.1 (subst Q follows.0 word) (λ first pieces is part. open_text format first pieces is part)
    (given_fails format c.in_ok-taken.taken n k o s.0 c.in_ok-taken.ended before c.in_err-answer_given.field-0.0 s.1 s.2 refl c.in_err-answer_given.ensures.fails))

pub returns-in_err-ended-clause-fails : goal.returns-in_err-ended-clause-fails
returns-in_err-ended-clause-fails g c =
    let m = moment c.args.input.now c.args.output.now in
    let n = moment c.take_line.new.self c.take_line.new.output in
    let t = c.in_ok-ending.ensures.taken in
    let same : c.whole.result.now ≡ t.0 = c.whole.ensures [] t.0 (c.in_ok-ending.ensures.limit ∙ c.new-line.ensures.limit) (t.2 [] [] c.new-line.ensures.empty) in
    let P : List ℕ → Type 0 = λ u. IsWord (strip u) c.word_of-word.result in
    let word : IsWord (strip t.0) c.word_of-word.result = subst P same c.word_of-word.ensures in
    let Q : Word → Type 0 = λ u. IsWord (strip t.0) u in
    let before = ops_in c.args.book.now.entries in
    let o = moment c.answer_rename.new.input c.answer_rename.new.output in
    let follows = c.names_after.ensures.0 c.if-names_after.true in
    let p = err_from_is_err_and c.from_residual-in_err-ended.result c.from_residual-in_err-ended.ensures.1 in
    rw (p.1, p.2) (either_with_line (λ line. line ≡ codes "rename") LacksName m n o t.0 c.in_ok-ending.ending before c.in_err-ended.field-0.0
    t.1 follows.1 (subst Q follows.0 word) (λ first pieces is part. open_rename first pieces is part) c.in_err-ended.ensures.fails)

pub returns-in_err-answer_word-clause-fails : goal.returns-in_err-answer_word-clause-fails
returns-in_err-answer_word-clause-fails g c =
    let m = moment c.args.input.now c.args.output.now in
    let n = moment c.take_line.new.self c.take_line.new.output in
    let t = c.in_ok-ending.ensures.taken in
    let same : c.whole.result.now ≡ t.0 = c.whole.ensures [] t.0 (c.in_ok-ending.ensures.limit ∙ c.new-line.ensures.limit) (t.2 [] [] c.new-line.ensures.empty) in
    let P : List ℕ → Type 0 = λ u. IsWord (strip u) c.word_of-word.result in
    let word : IsWord (strip t.0) c.word_of-word.result = subst P same c.word_of-word.ensures in
    let Q : Word → Type 0 = λ u. IsWord (strip t.0) u in
    let before = ops_in c.args.book.now.entries in
    let o = moment c.take_line.new.self c.answer_word.new.output in
    let p = err_from_is_err_and c.from_residual-in_err-answer_word.result c.from_residual-in_err-answer_word.ensures.1 in
    rw (p.1, p.2) (inr (fails_line m n o t.0 c.in_ok-ending.ending c.word_of-word.result before c.in_err-answer_word.field-0.0
    t.1 word (record { text = c.in_default.ensures.no_text; names = names_last _ _ _ c.names_after.ensures c.if-names_after.false }) refl c.in_err-answer_word.ensures.fails))
