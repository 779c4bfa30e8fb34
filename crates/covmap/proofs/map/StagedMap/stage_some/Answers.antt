use Rattle.std.proofs.Common.{◌++◌, ◌∙◌, ap, sym, subst, take}
use Rattle.covmap.specs.MapData.{MapData}
use Rattle.covmap.specs.Run.{FitRun, summed, reports_run}
use Rattle.covmap.proofs.map.StagedMap.stage_some.Goals as goal

pub make_slots-requires-clause-some : goal.make_slots-requires-clause-some
make_slots-requires-clause-some g c = c.requires.some

pub make_slots-requires-clause-columns : goal.make_slots-requires-clause-columns
make_slots-requires-clause-columns g c = c.self.invariant

pub invariant_of-self : goal.invariant_of-self
invariant_of-self g c = c.in_err-place.ensures.columns

pub returns-in_err-place-clause-committed : goal.returns-in_err-place-clause-committed
returns-in_err-place-clause-committed g c = c.in_err-place.ensures.committed ∙ ap (λ (entries : MapData g.row.K.Denot g.row.V.Denot). entries.committed) c.self.view_is

pub add_run-requires-clause-some : goal.add_run-requires-clause-some
add_run-requires-clause-some g c = c.requires.some

pub add_run-requires-clause-first : goal.add_run-requires-clause-first
add_run-requires-clause-first g c = c.in_ok-place.ensures.place

pub add_run-requires-clause-columns : goal.add_run-requires-clause-columns
add_run-requires-clause-columns g c = c.in_ok-place.ensures.columns

pub add_run-requires-clause-fits : goal.add_run-requires-clause-fits
add_run-requires-clause-fits g c =
    let same = c.in_ok-place.ensures.staged ∙ ap (λ (entries : MapData g.row.K.Denot g.row.V.Denot). entries.staged) c.self.view_is in
    subst (FitRun g.K.Key.cmp g.Q.Query.named g.M.Addend.fits g.M.Addend.sum c.args.run.now) (sym same) c.requires.fits

pub invariant_of-self-in_err-along : goal.invariant_of-self-in_err-along
invariant_of-self-in_err-along g c = c.in_err-along.ensures.columns

pub returns-in_err-along-clause-committed : goal.returns-in_err-along-clause-committed
returns-in_err-along-clause-committed g c = c.in_ok-place.ensures.committed ∙ ap (λ (entries : MapData g.row.K.Denot g.row.V.Denot). entries.committed) c.self.view_is

pub invariant_of-self-2 : goal.invariant_of-self-2
invariant_of-self-2 g c = c.in_ok-along.ensures.columns

pub returns-clause-committed : goal.returns-clause-committed
returns-clause-committed g c = c.in_ok-place.ensures.committed ∙ ap (λ (entries : MapData g.row.K.Denot g.row.V.Denot). entries.committed) c.self.view_is

pub returns-clause-count : goal.returns-clause-count
returns-clause-count g c = c.in_ok-along.ensures.count

pub returns-clause-ok : goal.returns-clause-ok
returns-clause-ok g c =
    let same = c.in_ok-place.ensures.staged ∙ ap (λ (entries : MapData g.row.K.Denot g.row.V.Denot). entries.staged) c.self.view_is in
    c.in_ok-along.ensures.ok ∙ ap (summed g.K.Key.cmp g.Q.Query.named g.M.Addend.sum (take c.in_ok-along.along.count c.args.run.now)) same

pub returns-clause-reports : goal.returns-clause-reports
returns-clause-reports g c =
    let same = c.in_ok-place.ensures.staged ∙ ap (λ (entries : MapData g.row.K.Denot g.row.V.Denot). entries.staged) c.self.view_is in
    let reported = reports_run g.K.Key.cmp g.Q.Query.named g.M.Addend.sum g.M.ReportingAddend.reports (take c.in_ok-along.along.count c.args.run.now) in
    c.in_ok-along.ensures.reports ∙ ap (λ staged. c.args.reports.now.items ++ reported staged) same
