use Rattle.std.proofs.Common.{◌<◌, ◌≤◌, arith, refl}
use Rattle.std.proofs.lemmas.Result.{err_from_is_err_and}
use Rattle.covread.specs.Outcome.{max_bytes}
use Rattle.covlarge.proofs.PieceSteps.{behind_piece, no_more, some_left, unread, long, last_unread, last_read, sections, piece_unread, piece_read, within_more, few_lines_more}
use Rattle.covlarge.proofs.large_tracefile.LargeTracefile.next_piece.Goals as goal

pub returns-then-self-eq0 : goal.returns-then-self-eq0
returns-then-self-eq0 g c = no_more g.S.Source.left g.S.Source.failed_reads _ c.args.self c.self.view_is c.if-self-eq0.true

pub returns-in_err-text : goal.returns-in_err-text
returns-in_err-text g c =
    let told = err_from_is_err_and c.from_residual-in_err-text.result c.from_residual-in_err-text.ensures.1 in
    rw (told.1, told.2) (unread g.S.Source.left g.S.Source.failed_reads _ c.args.self c.self.view_is c.read_on.new.source _ c.in_err-text.ensures.failed)

pub returns-in_err-submission-in-Last : goal.returns-in_err-submission-in-Last
returns-in_err-submission-in-Last g c =
    let told = err_from_is_err_and c.from_residual-in_err-submission-in-Last.result c.from_residual-in_err-submission-in-Last.ensures.1 in
    rw (told.1, told.2) (last_unread g.S.Source.left g.S.Source.failed_reads _ c.args.self c.self.view_is c.read_on.new.source _ _ _ _ _
    c.in_ok-text.ensures.found c.in_ok-text.ensures.front c.in_ok-begun.ensures.front c.in_ok-begun.ensures.bytes c.in-Last.is _ c.in_err-submission-in-Last.ensures)

pub returns-in_err-submission-in-Sections : goal.returns-in_err-submission-in-Sections
returns-in_err-submission-in-Sections g c =
    let told = err_from_is_err_and c.from_residual-in_err-submission-in-Sections.result c.from_residual-in_err-submission-in-Sections.ensures.1 in
    rw (told.1, told.2) (piece_unread g.S.Source.left g.S.Source.failed_reads _ c.args.self c.self.view_is c.read_on.new.source _ _ _ _ _
    c.in_ok-text.ensures.found c.in_ok-text.ensures.front c.in_ok-begun.ensures.front c.in_ok-begun.ensures.bytes c.in-Sections.len c.in-Sections.is _ c.in_err-submission-in-Sections.ensures.read)

pub returns-in_err-rest-in-Sections : goal.returns-in_err-rest-in-Sections
returns-in_err-rest-in-Sections g c =
    let told = err_from_is_err_and c.from_residual-in_err-rest-in-Sections.result c.from_residual-in_err-rest-in-Sections.ensures.1 in
    rw (told.1, told.2) tt

pub invariant_of-next : goal.invariant_of-next
invariant_of-next g c =
    let found = sections g.S.Source.left g.S.Source.failed_reads _ c.args.self c.self.view_is c.read_on.new.source _ _ _ _ _
    c.in_ok-text.ensures.found c.in_ok-text.ensures.front c.in_ok-begun.ensures.front c.in_ok-begun.ensures.bytes c.in-Sections.len c.in-Sections.is in
    let few : c.in-Sections.len ≤ max_bytes = omega (arith, found.1) in
    within_more c.self.inside.left _ c.self.inside.so_far.carried.lines (g.S.Source.reads c.self.inside.source) (g.S.Source.failed_reads c.self.inside.source) _ _ _ c.self.invariant (omega (arith, c.if-self-eq0.false))
    (few_lines_more c.self.inside.so_far.version c.self.inside.so_far.carried c.next_piece.new.self.carried c.in_ok-text.text.bytes c.in-Sections.len c.in_ok-submission-in-Sections.submission.sects c.in_ok-submission-in-Sections.ensures.carried few) c.in_ok-text.ensures.counted c.in_ok-text.ensures.good

pub returns-in_ok-submission-in-Last : goal.returns-in_ok-submission-in-Last
returns-in_ok-submission-in-Last g c =
    let read = c.in_ok-submission-in-Last.ensures in
    let some : 0 < c.self.inside.left = omega (arith, c.if-self-eq0.false) in (
      some_left g.S.Source.left g.S.Source.failed_reads _ c.args.self c.self.view_is some,
      last_read g.S.Source.left g.S.Source.failed_reads _ c.args.self c.self.view_is c.read_on.new.source _ _ _ _ _
          c.in_ok-text.ensures.found c.in_ok-text.ensures.front c.in_ok-begun.ensures.front c.in_ok-begun.ensures.bytes c.in-Last.is _ _ read.0 read.1,
    )

pub returns-in_ok-rest-in-Sections : goal.returns-in_ok-rest-in-Sections
returns-in_ok-rest-in-Sections g c =
    let read = c.in_ok-submission-in-Sections.ensures.read in
    piece_read g.S.Source.left g.S.Source.failed_reads _ c.args.self c.self.view_is c.read_on.new.source _ _ _ _ _
    c.in_ok-text.ensures.found c.in_ok-text.ensures.front c.in_ok-begun.ensures.front c.in_ok-begun.ensures.bytes c.in-Sections.len c.in-Sections.is
    (record {
      version = c.next_piece.new.self.version;
      carried = c.next_piece.new.self.carried;
      held = c.next_piece.new.self.held;
      left = _;
      rest = c.in_ok-rest-in-Sections.rest;
      source = c.read_on.new.source;
    }) c.in_ok-submission-in-Sections.submission refl (behind_piece c.in-Sections.len c.bytes.result.now _ _ c.in_ok-rest-in-Sections.ensures c.bytes.ensures) c.in_ok-submission-in-Sections.ensures.version c.in_ok-submission-in-Sections.ensures.carried (omega (arith, c.if-self-eq0.false)) c.in_ok-text.ensures.good
    read.0 read.1

pub returns-in-TooLong : goal.returns-in-TooLong
returns-in-TooLong g c =
    long g.S.Source.left g.S.Source.failed_reads _ c.args.self c.self.view_is c.read_on.new.source _ _ _ _ _
    c.in_ok-text.ensures.found c.in_ok-text.ensures.front c.in_ok-begun.ensures.front c.in_ok-begun.ensures.bytes c.in-TooLong.is
