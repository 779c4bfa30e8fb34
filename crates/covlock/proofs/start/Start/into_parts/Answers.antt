use Rattle.std.proofs.Common.{◌∙◌, ap, subst, ℕ}
use Rattle.covlock.specs.Start.{StartData, AreJobs}
use Rattle.covlock.proofs.start.Start.into_parts.Goals as goal

pub returns-clause-jobs : goal.returns-clause-jobs
returns-clause-jobs g c = ap (λ (s : StartData). s.jobs) c.self.view_is

pub returns-clause-bounds : goal.returns-clause-bounds
returns-clause-bounds g c = subst (λ (jobs : ℕ). AreJobs jobs) (ap (λ (s : StartData). s.jobs) c.self.view_is) c.self.invariant.bounds

pub returns-clause-name : goal.returns-clause-name
returns-clause-name g c = ap (λ (s : StartData). s.name) c.self.view_is

pub returns-clause-parts : goal.returns-clause-parts
returns-clause-parts g c = c.self.invariant.parts_are ∙ ap (λ (s : StartData). s.jobs) c.self.view_is

pub returns-clause-book : goal.returns-clause-book
returns-clause-book g c = ap (λ (s : StartData). s.book) c.self.view_is
