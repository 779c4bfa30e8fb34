use Rattle.covworld.proofs.sinks.Sinks.serve.Goals as goal

pub returns : goal.returns
returns g c = rw (← c.self.view_is) c.run_session.ensures
