use Rattle.covstore.proofs.Words.{◌≡◌, List, [], ◌∷◌, ◌++◌, ap, sym, subst, ◌∙◌, flat_map, Row, SectData, SubmissionData, rows_of, rows_of_sect, clash_of, AddsTo, all_rows, content_at, totals_of}
use Rattle.std.specs.Prelude.{None}
use Rattle.covmap.proofs.SlotWrites.{on_err}
use Rattle.covstore.proofs.Nothing.{if_ok_then, no_rows, some_rows_of}
use Rattle.covstore.proofs.store.Store.prepare.Goals as goal

pub returns-then-items-eq0-clause-planned : goal.returns-then-items-eq0-clause-planned
returns-then-items-eq0-clause-planned g c =
    let nothing = ap (λ (s : SubmissionData). s.sects) c.of_lawful-nothing.ensures ∙ c.new.ensures.sects in
    let same = ap (λ (sects : List SectData). flat_map rows_of_sect sects) nothing ∙ no_rows c.args.submission.now (sym c.items.ensures.count ∙ c.if-items-eq0.true) in
    let later = c.prepare_packed.new.self in
    if_ok_then c.prepare_packed.result
    (λ plan is. record {
      lawful = c.items.ensures.lawful;
      adds = subst (λ (rows : List Row). AddsTo rows later.committed later.staged) same is.adds;
      planned = is.planned;
      totals = is.totals;
      few = is.few;
    }) c.prepare_packed.ensures.planned

pub returns-then-items-eq0-clause-after : goal.returns-then-items-eq0-clause-after
returns-then-items-eq0-clause-after g c =
    let nothing = ap (λ (s : SubmissionData). s.sects) c.of_lawful-nothing.ensures ∙ c.new.ensures.sects in
    let same = ap (λ (sects : List SectData). flat_map rows_of_sect sects) nothing ∙ no_rows c.args.submission.now (sym c.items.ensures.count ∙ c.if-items-eq0.true) in
    if_ok_then c.prepare_packed.result (λ plan is. λ table stands. is table stands ∙ ap (λ (rows : List Row). totals_of (content_at (table ++ rows ∷ []))) same) c.prepare_packed.ensures.after

pub returns-then-items-eq0-clause-agrees : goal.returns-then-items-eq0-clause-agrees
returns-then-items-eq0-clause-agrees g c =
    let nothing = ap (λ (s : SubmissionData). s.sects) c.of_lawful-nothing.ensures ∙ c.new.ensures.sects in
    let same = ap (λ (sects : List SectData). flat_map rows_of_sect sects) nothing ∙ no_rows c.args.submission.now (sym c.items.ensures.count ∙ c.if-items-eq0.true) in
    if_ok_then c.prepare_packed.result (λ plan is. λ table stands. subst (λ (rows : List Row). clash_of (all_rows table) rows ≡ None) same (is table stands)) c.prepare_packed.ensures.agrees

pub returns-in_err-packed-clause-some : goal.returns-in_err-packed-clause-some
returns-in_err-packed-clause-some g c =
    on_err c.from_residual.result (some_rows_of c.args.submission.now (λ none. c.if-items-eq0.false (c.items.ensures.count ∙ none)))

pub returns-clause-after : goal.returns-clause-after
returns-clause-after g c =
    if_ok_then c.prepare_packed-2.result
    (λ plan is. λ table stands. is table stands ∙ ap (λ (s : SubmissionData). totals_of (content_at (table ++ rows_of s ∷ []))) c.in_ok-packed.ensures) c.prepare_packed-2.ensures.after
