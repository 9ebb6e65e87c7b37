-- Names, messages, plans and letters may cross threads.
use denote.RattleType.{RattleType}
use denote.Param.Send.{IsSend, IsSync, sendable}
use denote.Param.SendFields.{declared_send, variants_send}
use Rattle.std.proofs.Crossing as lists
use Rattle.std.proofs.MapsCrossing as maps
use Rattle.mail_base.specs.contracts.name.Name as name
use Rattle.mail_base.specs.contracts.names.Names as names
use Rattle.mail_base.specs.contracts.octets.Octets as octets
use Rattle.mail_base.specs.contracts.secret.Secret as secret
use Rattle.mail_base.specs.contracts.node_no.NodeNo as node_no
use Rattle.mail_base.specs.contracts.node_set.NodeSet as node_set
use Rattle.mail_base.specs.contracts.msg_id.MsgId as msg_id
use Rattle.mail_base.specs.contracts.stamp.Stamp as stamp
use Rattle.mail_base.specs.contracts.ticket.Ticket as ticket
use Rattle.mail_base.specs.contracts.epoch_id.EpochId as epoch_id
use Rattle.mail_base.specs.contracts.sequence.Sequence as sequence
use Rattle.mail_base.specs.contracts.proof.Proof as proof
use Rattle.mail_base.specs.contracts.told.LoginWord as login_word
use Rattle.mail_base.specs.contracts.told.ToldPart as told_part
use Rattle.mail_base.specs.contracts.told.ToldItem as told_item
use Rattle.mail_base.specs.contracts.told.StrikeMark as strike_mark
use Rattle.mail_base.specs.contracts.ids.Ids as ids
use Rattle.mail_base.specs.contracts.items.Items as items
use Rattle.mail_base.specs.contracts.item.Item as item
use Rattle.mail_base.specs.contracts.value.Value as value
use Rattle.mail_base.specs.contracts.obj_state.ObjState as obj_state
use Rattle.mail_base.specs.contracts.key.Key as key
use Rattle.mail_base.specs.contracts.row.Row as row
use Rattle.mail_base.specs.contracts.member.Member as member
use Rattle.mail_base.specs.contracts.member.Claim as claim
use Rattle.mail_base.specs.contracts.user_map.MapRow as map_row
use Rattle.mail_base.specs.contracts.user_map.UserMap as user_map
use Rattle.mail_base.specs.contracts.users.Users as users
use Rattle.mail_base.specs.contracts.plan.Plan as plan
use Rattle.mail_base.specs.contracts.filing.Filing as filing
use Rattle.mail_base.specs.contracts.body.Body as body
use Rattle.mail_base.specs.contracts.letter.Letter as letter
use Rattle.mail_base.specs.contracts.obj_state.ObjState.TheInside as obj_state_inside
use Rattle.mail_base.specs.contracts.row.Row.TheInside as row_inside
use Rattle.mail_base.specs.contracts.letter.Letter.TheInside as letter_inside

pub node_no_send : IsSend node_no.the_row
node_no_send = search sendable depth 20

pub node_set_send : IsSend node_set.the_row
node_set_send = search sendable depth 20

pub msg_id_send : IsSend msg_id.the_row
msg_id_send = search (node_no_send, sendable) depth 20

pub stamp_send : IsSend stamp.the_row
stamp_send = search sendable depth 20

pub epoch_id_send : IsSend epoch_id.the_row
epoch_id_send = search sendable depth 20

pub ticket_send : IsSend ticket.the_row
ticket_send = search (node_no_send, sendable) depth 20

pub name_send : IsSend name.the_row
name_send = search (lists.crosses, sendable) depth 20

pub octets_send : IsSend octets.the_row
octets_send = search (lists.crosses, sendable) depth 20

pub secret_send : IsSend secret.the_row
secret_send = search (lists.crosses, sendable) depth 20

pub names_send : IsSend names.the_row
names_send = search (name_send, lists.crosses, sendable) depth 20

pub sequence_send : (T : RattleType) → IsSend T → IsSend (sequence.the_row T)
sequence_send T s = search (lists.crosses, sendable) depth 20

pub proof_send : IsSend proof.the_row
proof_send = search (octets_send, lists.crosses, sendable) depth 30

pub strike_mark_send : IsSend strike_mark.the_row
strike_mark_send = search (msg_id_send, stamp_send, sendable) depth 30

pub told_item_send : IsSend told_item.the_row
told_item_send = search (msg_id_send, stamp_send, node_set_send, sendable) depth 30

pub login_word_send : IsSend login_word.the_row
login_word_send = search (node_set_send, stamp_send, ticket_send, sendable) depth 30

pub told_part_send : IsSend told_part.the_row
told_part_send = search (octets_send, stamp_send, sendable) depth 30

pub ids_send : IsSend ids.the_row
ids_send = search (msg_id_send, lists.crosses, sendable) depth 30

pub item_send : IsSend item.the_row
item_send = search (msg_id_send, stamp_send, node_set_send, sendable) depth 30

pub items_send : IsSend items.the_row
items_send = search (item_send, lists.crosses, sendable) depth 30

pub value_send : IsSend value.the_row
value_send = search (secret_send, sendable) depth 30

obj_state_inside_send : IsSend obj_state_inside.the_row
obj_state_inside_send = declared_send obj_state_inside.the_type (value_send, (stamp_send, (node_set_send, tt)))

pub obj_state_send : IsSend obj_state.the_row
obj_state_send = search (obj_state_inside_send, sendable) depth 20

pub key_send : IsSend key.the_row
key_send = search (name_send, msg_id_send, sendable) depth 30

row_inside_send : IsSend row_inside.the_row
row_inside_send = declared_send row_inside.the_type (name_send, (node_no_send, (search sendable depth 20, (search sendable depth 20, (search sendable depth 20, (search (stamp_send, secret_send, sendable) depth 20, tt))))))

pub row_send : IsSend row.the_row
row_send = search (row_inside_send, sendable) depth 20

pub member_send : IsSend member.the_row
member_send = search (node_no_send, epoch_id_send, sendable) depth 30

pub claim_send : IsSend claim.the_row
claim_send = search (node_no_send, epoch_id_send, sendable) depth 30

pub map_row_send : IsSend map_row.the_row
map_row_send = search (node_no_send, epoch_id_send, sendable) depth 30

pub user_map_send : IsSend user_map.the_row
user_map_send = search (map_row_send, lists.crosses, sendable) depth 30

pub users_send : IsSend users.the_row
users_send = search (name_send, secret_send, maps.crosses, lists.crosses, sendable) depth 30

pub plan_send : IsSend plan.the_row
plan_send = search (users_send, name_send, sendable) depth 30

pub filing_send : IsSend filing.the_row
filing_send = search (msg_id_send, names_send, sendable) depth 30

pub body_send : IsSend body.the_row
body_send = variants_send body.enum ((msg_id_send, (stamp_send, (node_set_send, (names_send, (octets_send, tt))))), ((msg_id_send, tt), ((name_send, (proof_send, tt)), ((login_word_send, tt), ((name_send, tt), ((sequence_send told_item.the_row told_item_send, tt), ((name_send, (msg_id_send, (search sendable depth 20, (search sendable depth 20, tt)))), ((told_part_send, tt), ((name_send, (sequence_send strike_mark.the_row strike_mark_send, tt)), ((name_send, (ids_send, tt)), ((name_send, (ticket_send, tt)), ((key_send, (obj_state_send, (search (octets_send, sendable) depth 20, tt))), ((key_send, (obj_state_send, tt)), ((key_send, (obj_state_send, tt)), ((epoch_id_send, tt), ((epoch_id_send, (epoch_id_send, (search sendable depth 20, (epoch_id_send, (sequence_send claim.the_row claim_send, tt))))), ((epoch_id_send, (sequence_send member.the_row member_send, (user_map_send, tt))), ((row_send, tt), ((name_send, (search sendable depth 20, tt)), tt)))))))))))))))))))

letter_inside_send : IsSend letter_inside.the_row
letter_inside_send = declared_send letter_inside.the_type (node_no_send, (node_no_send, (epoch_id_send, (search (ticket_send, sendable) depth 20, (body_send, tt)))))

pub letter_send : IsSend letter.the_row
letter_send = search (letter_inside_send, sendable) depth 20

-- a plan may also be shared
name_sync : IsSync name.the_row
name_sync = search (lists.crosses, sendable) depth 20

secret_sync : IsSync secret.the_row
secret_sync = search (lists.crosses, sendable) depth 20

users_sync : IsSync users.the_row
users_sync = search (name_sync, secret_sync, maps.crosses, lists.crosses, sendable) depth 30

pub plan_sync : IsSync plan.the_row
plan_sync = search (users_sync, name_sync, sendable) depth 30
