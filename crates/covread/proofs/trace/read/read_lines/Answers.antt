use Rattle.std.proofs.Common.{◌≡◌, List, [], ℕ, ◌∙◌, ap, refl, sym, arith, length, ◌∷◌}
use Rattle.std.proofs.lemmas.Result.{err_from_is_err_and}
use Rattle.covline.specs.Lines.{lines_of}
use Rattle.covread.specs.TraceSteps.{held_data}
use Rattle.covread.proofs.TraceGrammar.{TextLaw}
use Rattle.covread.proofs.TraceLoop.{reading_begins, reading_more, reading_next, reading_room, reading_stop, reading_grows, reading_end, ends_without, no_lines, open_length}
use Rattle.covread.proofs.trace.read.read_lines.Goals as goal

pub loop-rest-init : goal.loop-rest-init
loop-rest-init g c = ([], c.new-reader.ensures.closed, reading_begins c.args.text.now c.args.text.now (held_data c.new-reader.result []) c.new-reader.ensures.held refl)

pub overflow_add-at : goal.overflow_add-at
overflow_add-at g c =
    let law : TextLaw = record {
      line_law = record {
        meaning = c.each_line_has_one_meaning.ensures.one_meaning;
        fault = c.each_line_has_one_meaning.ensures.one_fault;
        never_both = c.each_line_has_one_meaning.ensures.no_fault_beside;
        one_of = c.each_line_has_one_meaning.ensures.some;
      };
      few_lines = c.lines_are_the_text.ensures.few_lines;
      good_lines = c.lines_are_the_text.ensures.good_lines;
      good_rest = c.lines_are_the_text.ensures.good_rest;
    } in
    let h = c.loop-rest.invariant in
    let text = c.args.text.now in
    let rest = c.loop-rest.rest.now in
    omega (arith, reading_next law text rest (held_data c.loop-rest.reader h.0) c.loop-rest.at c.requires h.2)

pub take_first-requires-clause-room : goal.take_first-requires-clause-room
take_first-requires-clause-room g c =
    let law : TextLaw = record {
      line_law = record {
        meaning = c.each_line_has_one_meaning.ensures.one_meaning;
        fault = c.each_line_has_one_meaning.ensures.one_fault;
        never_both = c.each_line_has_one_meaning.ensures.no_fault_beside;
        one_of = c.each_line_has_one_meaning.ensures.some;
      };
      few_lines = c.lines_are_the_text.ensures.few_lines;
      good_lines = c.lines_are_the_text.ensures.good_lines;
      good_rest = c.lines_are_the_text.ensures.good_rest;
    } in
    let h = c.loop-rest.invariant in
    let text = c.args.text.now in
    let rest = c.loop-rest.rest.now in
    let len = open_length c.loop-rest.reader.section c.loop-rest.reader.sects.items h.0 h.1 in
    (h.0, record { is_open = h.1; few = omega (arith, len, reading_room law text rest (held_data c.loop-rest.reader h.0) c.loop-rest.at c.requires h.2) })

pub returns-in_err-rest : goal.returns-in_err-rest
returns-in_err-rest g c =
    let law : TextLaw = record {
      line_law = record {
        meaning = c.each_line_has_one_meaning.ensures.one_meaning;
        fault = c.each_line_has_one_meaning.ensures.one_fault;
        never_both = c.each_line_has_one_meaning.ensures.no_fault_beside;
        one_of = c.each_line_has_one_meaning.ensures.some;
      };
      few_lines = c.lines_are_the_text.ensures.few_lines;
      good_lines = c.lines_are_the_text.ensures.good_lines;
      good_rest = c.lines_are_the_text.ensures.good_rest;
    } in
    let h = c.loop-rest.invariant in
    let text = c.args.text.now in
    let rest = c.loop-rest.rest.now in
    let f = c.in_err-rest.ensures in
    let p = err_from_is_err_and c.from_residual.result c.from_residual.ensures.1 in
    let takes = f.4 h.0 h.1 in
    rw (p.1, p.2) (
      reading_stop law text rest f.0 f.1 (held_data c.loop-rest.reader h.0) c.loop-rest.at c.in_err-rest.field-0.0 c.requires h.2 f.2 takes,
      reading_grows text rest f.0 f.1 (held_data c.loop-rest.reader h.0) c.loop-rest.at c.in_err-rest.field-0.0 h.2 f.2 takes,
    )

pub loop-rest-smaller : goal.loop-rest-smaller
loop-rest-smaller g c =
    let f = c.in_ok-rest.ensures in
    omega (arith, ap length f.2, ap (λ (t : List ℕ). length (lines_of t)) f.3)

pub loop-rest-preserved : goal.loop-rest-preserved
loop-rest-preserved g c =
    let h = c.loop-rest.invariant in
    let f = c.in_ok-rest.ensures in
    let t = f.4 h.0 h.1 in
    let cut : lines_of c.loop-rest.rest.now ≡ _ = f.2 ∙ ap (λ (u : List ℕ). f.0 ∷ lines_of u) (sym f.3) in (
      t.2,
      t.4,
      reading_more c.args.text.now c.loop-rest.rest.now f.0 c.in_ok-rest.rest.now (held_data c.loop-rest.reader h.0) (held_data c.take_first.new.reader t.2) c.loop-rest.at h.2 cut t.0 t.1 t.3,
    )

pub returns : goal.returns
returns g c =
    let law : TextLaw = record {
      line_law = record {
        meaning = c.each_line_has_one_meaning.ensures.one_meaning;
        fault = c.each_line_has_one_meaning.ensures.one_fault;
        never_both = c.each_line_has_one_meaning.ensures.no_fault_beside;
        one_of = c.each_line_has_one_meaning.ensures.some;
      };
      few_lines = c.lines_are_the_text.ensures.few_lines;
      good_lines = c.lines_are_the_text.ensures.good_lines;
      good_rest = c.lines_are_the_text.ensures.good_rest;
    } in
    let h = c.loop-rest.invariant in
    let text = c.args.text.now in
    let rest = c.loop-rest.rest.now in
    let r = c.loop-rest.reader in
    ends_without text r.test.now r.sects.sects r.odd r.section h.0 (reading_end law text rest (held_data r h.0) c.loop-rest.at c.requires h.2 (no_lines rest c.is_empty.result c.is_empty.ensures c.loop-rest-test.false))
