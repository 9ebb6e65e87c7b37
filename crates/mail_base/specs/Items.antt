-- A message that a node lists as a session shows it.
use Rattle.mail_model.specs.PopReplies as replies
use Rattle.mail_base.specs.declared.item.Item.{Item}

-- its id and the number of its octets
abbrev pub item_seen : Item → replies.Item
item_seen item = record { id = item.id; size = item.length }
