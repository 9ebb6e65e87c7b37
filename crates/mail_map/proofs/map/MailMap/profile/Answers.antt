use Rattle.std.proofs.Common.{None, Option, sym, ap, subst, ◌∙◌}
use Rattle.std.specs.Option.{option_copied}
use Rattle.std.specs.BTreeMap.{BTreeMap}
use Rattle.object_model.specs.Letters.{Row}
use Rattle.mail_map.specs.Tellers.{Teller}
use Rattle.mail_map.specs.Rows.{row_of_teller}
use Rattle.mail_map.specs.Profiles.{IsGreatest}
use Rattle.mail_map.proofs.Greatest.{greatest_at, none_is}
use Rattle.mail_map.proofs.map.MailMap.profile.Goals as goal

pub returns-in-Some : goal.returns-in-Some
returns-in-Some c = greatest_at c.in-Some.rows.now _ _ (sym (ap option_copied c.in-Some.is) ∙ c.get.ensures.value) c.greatest_profile.ensures.profile c.greatest_profile.ensures.ordered

pub returns-in-None : goal.returns-in-None
returns-in-None c =
    let found = sym (ap option_copied c.in-None.is) ∙ c.get.ensures.value in
    subst (λ (o : Option (BTreeMap Teller Row)). IsGreatest (λ n boot. row_of_teller o n boot) None) found none_is
