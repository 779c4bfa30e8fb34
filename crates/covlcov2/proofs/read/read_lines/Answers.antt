use Rattle.std.proofs.Common.{◌≡◌, List, [], ℕ, ◌∙◌, ap, refl, sym, arith, length, ◌∷◌}
use Rattle.std.proofs.lemmas.Result.{err_from_is_err_and}
use Rattle.covline.specs.Lines.{lines_of}
use Rattle.covread.specs.TraceSteps.{held_data}
use Rattle.covread.proofs.TraceLoop.{no_lines, open_length}
use Rattle.covlcov2.proofs.Holds.{Laws}
use Rattle.covlcov2.proofs.Loop.{reading_begins, reading_more, reading_next, reading_room, reading_stop, reading_grows, reading_end, ends_without}
use Rattle.covlcov2.proofs.read.read_lines.Goals as goal

pub loop-rest-init : goal.loop-rest-init
loop-rest-init g c = ([], [], c.new-reader.ensures.held, reading_begins c.args.text.now c.args.text.now (held_data c.new-reader.result.plain []) c.new-reader.ensures.empty refl)

pub overflow_add-at : goal.overflow_add-at
overflow_add-at g c =
    let laws : Laws = record {
      plain = record {
        meaning = c.each_line_has_one_meaning.ensures.one_meaning;
        fault = c.each_line_has_one_meaning.ensures.one_fault;
        never_both = c.each_line_has_one_meaning.ensures.no_fault_beside;
        one_of = c.each_line_has_one_meaning.ensures.some;
      };
      lcov2 = record {
        meaning = c.each_lcov2_line_has_one_meaning.ensures.one_meaning;
        fault = c.each_lcov2_line_has_one_meaning.ensures.one_fault;
        never_both = c.each_lcov2_line_has_one_meaning.ensures.no_fault_beside;
        one_of = c.each_lcov2_line_has_one_meaning.ensures.some;
      };
      printed = c.printed_records_spell.ensures;
      good_lines = c.lines_are_the_text.ensures.good_lines;
      good_rest = c.lines_are_the_text.ensures.good_rest;
      few_lines = c.lines_are_the_text.ensures.few_lines;
      few_bytes = c.lines_are_the_text.ensures.few_bytes;
    } in
    let h = c.loop-rest.invariant in
    omega (arith, reading_next laws c.args.text.now c.requires c.loop-rest.rest.now h.0 (held_data c.loop-rest.reader.plain h.1) c.loop-rest.at h.3)

pub take_first-requires-clause-room : goal.take_first-requires-clause-room
take_first-requires-clause-room g c =
    let laws : Laws = record {
      plain = record {
        meaning = c.each_line_has_one_meaning.ensures.one_meaning;
        fault = c.each_line_has_one_meaning.ensures.one_fault;
        never_both = c.each_line_has_one_meaning.ensures.no_fault_beside;
        one_of = c.each_line_has_one_meaning.ensures.some;
      };
      lcov2 = record {
        meaning = c.each_lcov2_line_has_one_meaning.ensures.one_meaning;
        fault = c.each_lcov2_line_has_one_meaning.ensures.one_fault;
        never_both = c.each_lcov2_line_has_one_meaning.ensures.no_fault_beside;
        one_of = c.each_lcov2_line_has_one_meaning.ensures.some;
      };
      printed = c.printed_records_spell.ensures;
      good_lines = c.lines_are_the_text.ensures.good_lines;
      good_rest = c.lines_are_the_text.ensures.good_rest;
      few_lines = c.lines_are_the_text.ensures.few_lines;
      few_bytes = c.lines_are_the_text.ensures.few_bytes;
    } in
    let h = c.loop-rest.invariant in
    let text = c.args.text.now in
    let rest = c.loop-rest.rest.now in
    let held = held_data c.loop-rest.reader.plain h.1 in
    let len = open_length c.loop-rest.reader.plain.section c.loop-rest.reader.plain.sects.items h.1 h.2.is_open in (
      h.0,
      h.1,
      record {
        held = h.2;
        few = omega (arith, len, reading_room laws text c.requires rest h.0 held c.loop-rest.at h.3);
      },
    )

pub returns-in_err-rest : goal.returns-in_err-rest
returns-in_err-rest g c =
    let laws : Laws = record {
      plain = record {
        meaning = c.each_line_has_one_meaning.ensures.one_meaning;
        fault = c.each_line_has_one_meaning.ensures.one_fault;
        never_both = c.each_line_has_one_meaning.ensures.no_fault_beside;
        one_of = c.each_line_has_one_meaning.ensures.some;
      };
      lcov2 = record {
        meaning = c.each_lcov2_line_has_one_meaning.ensures.one_meaning;
        fault = c.each_lcov2_line_has_one_meaning.ensures.one_fault;
        never_both = c.each_lcov2_line_has_one_meaning.ensures.no_fault_beside;
        one_of = c.each_lcov2_line_has_one_meaning.ensures.some;
      };
      printed = c.printed_records_spell.ensures;
      good_lines = c.lines_are_the_text.ensures.good_lines;
      good_rest = c.lines_are_the_text.ensures.good_rest;
      few_lines = c.lines_are_the_text.ensures.few_lines;
      few_bytes = c.lines_are_the_text.ensures.few_bytes;
    } in
    let h = c.loop-rest.invariant in
    let text = c.args.text.now in
    let rest = c.loop-rest.rest.now in
    let held = held_data c.loop-rest.reader.plain h.1 in
    let f = c.in_err-rest.ensures in
    let p = err_from_is_err_and c.from_residual.result c.from_residual.ensures.1 in
    let takes = f.4 h.0 h.1 h.2 in
    rw (p.1, p.2) (
      reading_stop laws text c.requires rest h.0 held c.loop-rest.at h.3 f.0 f.1 c.in_err-rest.field-0.0 f.2 takes,
      reading_grows laws text c.requires rest h.0 held c.loop-rest.at h.3 f.0 f.1 c.in_err-rest.field-0.0 f.2 takes,
    )

pub loop-rest-smaller : goal.loop-rest-smaller
loop-rest-smaller g c =
    let f = c.in_ok-rest.ensures in
    omega (arith, ap length f.2, ap (λ (t : List ℕ). length (lines_of t)) f.3)

pub loop-rest-preserved : goal.loop-rest-preserved
loop-rest-preserved g c =
    let laws : Laws = record {
      plain = record {
        meaning = c.each_line_has_one_meaning.ensures.one_meaning;
        fault = c.each_line_has_one_meaning.ensures.one_fault;
        never_both = c.each_line_has_one_meaning.ensures.no_fault_beside;
        one_of = c.each_line_has_one_meaning.ensures.some;
      };
      lcov2 = record {
        meaning = c.each_lcov2_line_has_one_meaning.ensures.one_meaning;
        fault = c.each_lcov2_line_has_one_meaning.ensures.one_fault;
        never_both = c.each_lcov2_line_has_one_meaning.ensures.no_fault_beside;
        one_of = c.each_lcov2_line_has_one_meaning.ensures.some;
      };
      printed = c.printed_records_spell.ensures;
      good_lines = c.lines_are_the_text.ensures.good_lines;
      good_rest = c.lines_are_the_text.ensures.good_rest;
      few_lines = c.lines_are_the_text.ensures.few_lines;
      few_bytes = c.lines_are_the_text.ensures.few_bytes;
    } in
    let h = c.loop-rest.invariant in
    let f = c.in_ok-rest.ensures in
    let t = f.4 h.0 h.1 h.2 in
    let cut : lines_of c.loop-rest.rest.now ≡ _ = f.2 ∙ ap (λ (u : List ℕ). f.0 ∷ lines_of u) (sym f.3) in (
      t.0,
      t.1,
      t.3,
      reading_more laws c.args.text.now c.requires c.loop-rest.rest.now h.0 (held_data c.loop-rest.reader.plain h.1) c.loop-rest.at h.3 f.0 c.in_ok-rest.rest.now t.0 (held_data c.take_first.new.reader.plain t.1) cut t.2,
    )

pub returns : goal.returns
returns g c =
    let laws : Laws = record {
      plain = record {
        meaning = c.each_line_has_one_meaning.ensures.one_meaning;
        fault = c.each_line_has_one_meaning.ensures.one_fault;
        never_both = c.each_line_has_one_meaning.ensures.no_fault_beside;
        one_of = c.each_line_has_one_meaning.ensures.some;
      };
      lcov2 = record {
        meaning = c.each_lcov2_line_has_one_meaning.ensures.one_meaning;
        fault = c.each_lcov2_line_has_one_meaning.ensures.one_fault;
        never_both = c.each_lcov2_line_has_one_meaning.ensures.no_fault_beside;
        one_of = c.each_lcov2_line_has_one_meaning.ensures.some;
      };
      printed = c.printed_records_spell.ensures;
      good_lines = c.lines_are_the_text.ensures.good_lines;
      good_rest = c.lines_are_the_text.ensures.good_rest;
      few_lines = c.lines_are_the_text.ensures.few_lines;
      few_bytes = c.lines_are_the_text.ensures.few_bytes;
    } in
    let h = c.loop-rest.invariant in
    let text = c.args.text.now in
    let rest = c.loop-rest.rest.now in
    let r = c.loop-rest.reader.plain in
    ends_without text r.test.now r.sects.sects r.odd r.section h.1
    (reading_end laws text c.requires rest h.0 (held_data r h.1) c.loop-rest.at h.3 (no_lines rest c.is_empty.result c.is_empty.ensures c.loop-rest-test.false))
