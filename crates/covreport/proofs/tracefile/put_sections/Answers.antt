use Rattle.std.proofs.Common.{◌≡◌, ◌++◌, ◌≤◌, List, ℕ, refl, sym, ap, ◌∙◌, arith}
use Rattle.std.specs.Prelude.{vec_capacity}
use Rattle.std.proofs.lemmas.Bool.{false≢true}
use Rattle.covreport.specs.ChoiceView.{choice_data}
use Rattle.covreport.specs.Report.{report_text}
use Rattle.covreport.proofs.Texts.{report_goes_on, report_ends}
use Rattle.covreport.proofs.Room.{room_first, room_rest}
use Rattle.covreport.proofs.tracefile.put_sections.Goals as goal

pub loop-section-init : goal.loop-section-init
loop-section-init g c = record { written = refl; room = c.requires; closed = λ shut. (shut, refl) }

pub put_if_wanted-requires : goal.put_if_wanted-requires
put_if_wanted-requires g c =
    λ k. ((refl, tt), room_first (choice_data c.args.choice.now) _ _ _ (vec_capacity c.loop-section.functions) c.in-Some.ensures c.loop-section.invariant.room)

pub loop-section-preserved : goal.loop-section-preserved
loop-section-preserved g c =
    let choice = choice_data c.args.choice.now in
    record {
      written =
          report_goes_on choice (g.P.Printer.text c.args.out.now ++ report_text choice (g.I.TableSections.left c.args.sections)) (g.P.Printer.text c.loop-section.out) (g.P.Printer.text c.put_if_wanted.new.out) _ _ _
          c.in-Some.ensures c.loop-section.invariant.written (c.put_if_wanted.ensures.text c.if-not-put_if_wanted.false);
      room = omega (arith, room_rest choice _ _ _ (vec_capacity c.loop-section.functions) c.in-Some.ensures c.loop-section.invariant.room, c.put_if_wanted.ensures.room);
      closed = λ shut. absurd (false≢true (sym (c.put_if_wanted.ensures.stops (c.loop-section.invariant.closed shut).0) ∙ c.if-not-put_if_wanted.false));
    }

pub returns-then-not-put_if_wanted : goal.returns-then-not-put_if_wanted
returns-then-not-put_if_wanted g c =
    let stopped = c.put_if_wanted.ensures in
    record {
      begun = (_, ap (λ (t : List ℕ). t ++ report_text (choice_data c.args.choice.now) (g.I.TableSections.left c.loop-section.sections)) (stopped.same c.if-not-put_if_wanted.true) ∙ c.loop-section.invariant.written);
      whole = λ is. absurd (false≢true (sym (stopped.closed c.if-not-put_if_wanted.true) ∙ is));
      stops = λ shut. stopped.same c.if-not-put_if_wanted.true ∙ (c.loop-section.invariant.closed shut).1;
    }

pub returns : goal.returns
returns g c =
    let choice = choice_data c.args.choice.now in
    let all = report_ends choice (g.P.Printer.text c.args.out.now ++ report_text choice (g.I.TableSections.left c.args.sections)) (g.P.Printer.text c.loop-section.out) _ c.in_default.ensures.0 c.loop-section.invariant.written in
    record { begun = (_, c.loop-section.invariant.written); whole = λ is. all; stops = λ shut. (c.loop-section.invariant.closed shut).1 }
