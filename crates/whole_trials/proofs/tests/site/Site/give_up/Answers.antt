use Rattle.whole_trials.proofs.tests.site.Site.give_up.Goals as goal

pub invariant_of-self : goal.invariant_of-self
invariant_of-self c = c.give_up_at-letter.ensures.able _ c.self.invariant
