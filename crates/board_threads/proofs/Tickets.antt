-- The tickets of calls, and a node that has them, may cross threads.
use denote.Param.Send.{IsSend, sendable}
use denote.Param.SendFields.{declared_send, variants_send}
use Rattle.std.proofs.Crossing as lists
use Rattle.std.proofs.MapsCrossing as maps
use Rattle.call_tickets.specs.contracts.answer.Mishaps as mishaps
use Rattle.mail_base.specs.contracts.filing.CallKind as kind
use Rattle.node_tickets.specs.contracts.want.Asked as asked
use Rattle.node_tickets.specs.contracts.want.Want as want
use Rattle.node_tickets.specs.contracts.want.Want.TheInside as want_inside
use Rattle.node_tickets.specs.contracts.progress.Progress as progress
use Rattle.node_tickets.specs.contracts.progress.Progress.TheInside as progress_inside
use Rattle.node_tickets.specs.contracts.tickets.Tickets as tickets
use Rattle.membership.specs.contracts.install.Install as install
use Rattle.membership.specs.contracts.install.Install.TheInside as install_inside
use Rattle.mail_base.specs.contracts.member.Member as member
use Rattle.node_core.specs.contracts.shape.Shape as shape
use Rattle.node_core.specs.contracts.numbers.Numbers as numbers
use Rattle.node_core.specs.contracts.node.Node as node
use Rattle.board_threads.proofs.Mail.{name_send, node_no_send, node_set_send, msg_id_send, filing_send, epoch_id_send, member_send, user_map_send, sequence_send}
use Rattle.board_threads.proofs.Stores.{store_send}

pub mishaps_send : IsSend mishaps.the_row
mishaps_send = search (sendable) depth 20

pub kind_send : IsSend kind.the_row
kind_send = search (sendable) depth 20

pub asked_send : IsSend asked.the_row
asked_send = variants_send asked.enum ((filing_send, tt), ((name_send, (msg_id_send, tt)), tt))

want_inside_send : IsSend want_inside.the_row
want_inside_send = declared_send want_inside.the_type (asked_send, (node_set_send, (node_set_send, (node_set_send, tt))))

pub want_send : IsSend want.the_row
want_send = search (want_inside_send, sendable) depth 20

progress_inside_send : IsSend progress_inside.the_row
progress_inside_send = declared_send progress_inside.the_type (kind_send, (search (want_send, lists.crosses, sendable) depth 20, (mishaps_send, (search (node_set_send, lists.crosses, sendable) depth 20, tt))))

pub progress_send : IsSend progress.the_row
progress_send = search (progress_inside_send, sendable) depth 20

pub tickets_send : IsSend tickets.the_row
tickets_send = declared_send tickets.the_type (node_no_send, (search sendable depth 20, (search sendable depth 20, (search (progress_send, maps.crosses, lists.crosses, sendable) depth 20, tt))))

install_inside_send : IsSend install_inside.the_row
install_inside_send = declared_send install_inside.the_type (epoch_id_send, (sequence_send member.the_row member_send, (user_map_send, tt)))

pub install_send : IsSend install.the_row
install_send = search (install_inside_send, sendable) depth 20

pub shape_send : IsSend shape.the_row
shape_send = declared_send shape.the_type (search sendable depth 20, (search sendable depth 20, (search sendable depth 20, (search (install_send, sendable) depth 20, tt))))

pub numbers_send : IsSend numbers.the_row
numbers_send = search (sendable) depth 20

pub node_send : IsSend node.the_row
node_send = declared_send node.the_type (shape_send, (numbers_send, (store_send, (tickets_send, tt))))
