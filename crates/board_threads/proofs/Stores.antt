-- What a node keeps may cross threads: its journal, its messages, its objects and its update log.
use denote.Param.Send.{IsSend, sendable}
use denote.Param.SendFields.{declared_send}
use Rattle.std.proofs.Crossing as lists
use Rattle.std.proofs.MapsCrossing as maps
use Rattle.disk_journal.specs.contracts.journal.Journal as journal
use Rattle.disk_journal.specs.contracts.place.Place as place
use Rattle.message_store.specs.contracts.store.MessageStore as messages
use Rattle.object_table.specs.contracts.states.States as states
use Rattle.object_table.specs.contracts.states.States.TheInside as states_inside
use Rattle.object_table.specs.contracts.user_keys.UserKeys as user_keys
use Rattle.object_table.specs.contracts.table.ObjectTable as objects
use Rattle.object_table.specs.contracts.table.ObjectTable.TheInside as objects_inside
use Rattle.update_log.specs.contracts.logged.Logged as logged
use Rattle.update_log.specs.contracts.logged.Logged.TheInside as logged_inside
use Rattle.update_log.specs.contracts.log.UpdateLog as log
use Rattle.update_log.specs.contracts.log.UpdateLog.TheInside as log_inside
use Rattle.node_store.specs.contracts.store.NodeStore as store
use Rattle.board_threads.proofs.Mail.{name_send, node_no_send, node_set_send, msg_id_send, key_send, obj_state_send}

pub journal_send : IsSend journal.the_row
journal_send = search (sendable) depth 20

pub place_send : IsSend place.the_row
place_send = search (sendable) depth 20

pub messages_send : IsSend messages.the_row
messages_send = search (msg_id_send, place_send, maps.crosses, lists.crosses, sendable) depth 30

states_inside_send : IsSend states_inside.the_row
states_inside_send = declared_send states_inside.the_type (search (key_send, obj_state_send, maps.crosses, lists.crosses, sendable) depth 20, tt)

pub states_send : IsSend states.the_row
states_send = search (states_inside_send, sendable) depth 20

pub user_keys_send : IsSend user_keys.the_row
user_keys_send = search (name_send, key_send, maps.crosses, lists.crosses, sendable) depth 30

objects_inside_send : IsSend objects_inside.the_row
objects_inside_send = declared_send objects_inside.the_type (states_send, (user_keys_send, tt))

pub objects_send : IsSend objects.the_row
objects_send = search (objects_inside_send, sendable) depth 20

logged_inside_send : IsSend logged_inside.the_row
logged_inside_send = declared_send logged_inside.the_type (obj_state_send, (node_set_send, tt))

pub logged_send : IsSend logged.the_row
logged_send = search (logged_inside_send, sendable) depth 20

log_inside_send : IsSend log_inside.the_row
log_inside_send = declared_send log_inside.the_type (search (key_send, logged_send, maps.crosses, lists.crosses, sendable) depth 20, tt)

pub log_send : IsSend log.the_row
log_send = search (log_inside_send, sendable) depth 20

pub store_send : IsSend store.the_row
store_send = declared_send store.the_type (node_no_send, (journal_send, (messages_send, (objects_send, (log_send, tt)))))
