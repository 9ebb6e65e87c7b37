use Rattle.whole_trials.proofs.tests.site.Site.conclude.Goals as goal

pub invariant_of-self : goal.invariant_of-self
invariant_of-self c = c.conclude_at-concluded.ensures.able _ c.self.invariant
