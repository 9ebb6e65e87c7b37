use Rattle.whole_trials.proofs.tests.site.Site.log_in.Goals as goal

pub invariant_of-self : goal.invariant_of-self
invariant_of-self c = c.login_at-begun.ensures.able _ c.self.invariant
