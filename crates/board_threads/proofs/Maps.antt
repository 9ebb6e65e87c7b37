-- What a node has of members and of users, and a whole node, may cross threads.
use denote.Param.Send.{IsSend, sendable}
use denote.Param.SendFields.{declared_send}
use Rattle.std.proofs.Crossing as lists
use Rattle.std.proofs.MapsCrossing as maps
use Rattle.membership.specs.contracts.opened.Joined as joined
use Rattle.membership.specs.contracts.opened.Joined.TheInside as joined_inside
use Rattle.membership.specs.contracts.opened.OpenGroup as open_group
use Rattle.membership.specs.contracts.opened.OpenGroup.TheInside as open_group_inside
use Rattle.membership.specs.contracts.group.Group as group
use Rattle.membership.specs.contracts.group.Group.TheInside as group_inside
use Rattle.mail_map.specs.contracts.teller.Teller as teller
use Rattle.mail_map.specs.contracts.teller.Teller.TheInside as teller_inside
use Rattle.mail_map.specs.contracts.map.MailMap as rows
use Rattle.map_rebuild.specs.contracts.reports.Reports as reports
use Rattle.mailbox_fragment.specs.contracts.fragments.Fragments as fragments
use Rattle.node_maps.specs.contracts.maps.NodeMaps as node_maps
use Rattle.whole_node.specs.contracts.node.WholeNode as whole
use Rattle.mail_base.specs.contracts.member.Claim as claim
use Rattle.board_threads.proofs.Mail.{name_send, node_no_send, msg_id_send, epoch_id_send, member_send, claim_send, row_send, sequence_send}
use Rattle.board_threads.proofs.Tickets.{install_send, node_send}
use Rattle.board_threads.proofs.Readings.{reads_send, locks_send}

joined_inside_send : IsSend joined_inside.the_row
joined_inside_send = declared_send joined_inside.the_type (member_send, (sequence_send claim.the_row claim_send, tt))

pub joined_send : IsSend joined.the_row
joined_send = search (joined_inside_send, sendable) depth 20

open_group_inside_send : IsSend open_group_inside.the_row
open_group_inside_send = declared_send open_group_inside.the_type (epoch_id_send, (search (joined_send, lists.crosses, sendable) depth 20, tt))

pub open_group_send : IsSend open_group.the_row
open_group_send = search (open_group_inside_send, sendable) depth 20

group_inside_send : IsSend group_inside.the_row
group_inside_send = declared_send group_inside.the_type (node_no_send, (search sendable depth 20, (epoch_id_send, (search sendable depth 20, (search (open_group_send, sendable) depth 20, (search (install_send, sendable) depth 20, tt))))))

pub group_send : IsSend group.the_row
group_send = search (group_inside_send, sendable) depth 20

teller_inside_send : IsSend teller_inside.the_row
teller_inside_send = declared_send teller_inside.the_type (node_no_send, (search sendable depth 20, tt))

pub teller_send : IsSend teller.the_row
teller_send = search (teller_inside_send, sendable) depth 20

pub rows_send : IsSend rows.the_row
rows_send = declared_send rows.the_type (search sendable depth 20, (search (name_send, teller_send, row_send, maps.crosses, lists.crosses, sendable) depth 20, tt))

pub reports_send : IsSend reports.the_row
reports_send = declared_send reports.the_type (search sendable depth 20, (search (name_send, maps.crosses, lists.crosses, sendable) depth 20, (search (name_send, maps.crosses, lists.crosses, sendable) depth 20, (epoch_id_send, (search sendable depth 20, tt)))))

pub fragments_send : IsSend fragments.the_row
fragments_send = declared_send fragments.the_type (search sendable depth 20, (search (name_send, msg_id_send, maps.crosses, lists.crosses, sendable) depth 20, tt))

pub node_maps_send : IsSend node_maps.the_row
node_maps_send = declared_send node_maps.the_type (group_send, (reports_send, (rows_send, (fragments_send, tt))))

pub whole_send : IsSend whole.the_row
whole_send = declared_send whole.the_type (node_send, (node_maps_send, (reads_send, (locks_send, tt))))
