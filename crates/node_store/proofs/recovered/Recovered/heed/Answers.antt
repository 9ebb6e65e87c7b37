use Rattle.std.proofs.Common.{ap, ◌∙◌, Option}
use Rattle.std.specs.Prelude.{max}
use Rattle.mail_model.specs.Identity.{Id}
use Rattle.node_store.specs.Recovers.{drawn_found, number_for}
use Rattle.node_store.proofs.Snocs.{recovers_more}
use Rattle.node_store.proofs.recovered.Recovered.heed.Goals as goal

pub returns : goal.returns
returns c = λ records one is r. recovers_more c.args.own c.args.self.now _ one (c.boot_with-self.ensures one is) (c.promise_with-self.ensures one is) (c.count_with-self.ensures one is)
    (λ boot. c.in_ok-raise_own.ensures boot ∙ ap (λ (i : Option Id). max (drawn_found c.args.self.now boot) (number_for c.args.own boot i)) (c.id_named.ensures one is))
    records r
