use Rattle.std.proofs.Common.{◌∙◌, ap}
use Rattle.std.specs.Option.{option_map}
use Rattle.mail_base.specs.Items.{item_seen}
use Rattle.pop_session.proofs.Marks.{message_alike, message_own_of}
use Rattle.pop_session.proofs.listing.Listing.message.Goals as goal

pub returns-clause-message : goal.returns-clause-message
returns-clause-message c = ap (option_map item_seen) c.held_message.ensures ∙ message_alike c.args.self.now c.args.number

pub returns-clause-own : goal.returns-clause-own
returns-clause-own c = message_own_of c.args.self.now c.args.number c.held_message.result c.held_message.ensures
