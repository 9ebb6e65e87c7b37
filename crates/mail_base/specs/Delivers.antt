-- A message on its way, as its client told it.
use Rattle.std.specs.Prelude.{◌≤◌, length}
use Rattle.mail_model.specs.Told.{Mail}
use Rattle.mail_base.specs.declared.deliver.Deliver.{Deliver}

abbrev pub mail_in : Deliver → Mail
mail_in deliver = record { sender = deliver.sender; helo = deliver.helo; extended = deliver.extended; mailboxes = deliver.users; text = deliver.text }

-- within the limits of a message
pub record IsMessageWithinLimits (deliver : Deliver) : Type 0 where
  pub sender : length deliver.sender ≤ 512
  pub helo : length deliver.helo ≤ 255
  pub text : length deliver.text ≤ 16777216
