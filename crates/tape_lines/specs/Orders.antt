-- A run line as the definitions see it.
use Rattle.tape_lines.specs.declared.protocol.Protocol.{Protocol}
use Rattle.tape_lines.specs.declared.protocol.Protocol.TheVariants.{Smtp, Pop}
use Rattle.tape_lines.specs.declared.order.Order.{Order}
use Rattle.tape_lines.specs.declared.order.Order.TheVariants.{Open, Say, Feed, Close, GiveUp, Moves, End}
use Rattle.mail_model.specs.Tape as tape
use Rattle.tape_lines.specs.ClusterOrders.{moves_seen}

-- what a session speaks
abbrev pub protocol_seen : Protocol → tape.Protocol
protocol_seen Smtp = tape.Protocol.Smtp
protocol_seen Pop = tape.Protocol.Pop

-- the run line
abbrev pub order_seen : Order → tape.Order
order_seen (Open protocol node) = tape.Order.Open (protocol_seen protocol) node
order_seen (Say session text) = tape.Order.Say session text.now
order_seen (Feed session octets) = tape.Order.Feed session octets.items
order_seen (Close session) = tape.Order.Close session
order_seen (GiveUp session) = tape.Order.GiveUp session
order_seen (Moves order) = moves_seen order
order_seen End = tape.Order.End
