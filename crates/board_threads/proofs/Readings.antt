-- The tickets of calls that read, and the locks of maildrops, may cross threads.
use denote.Param.Send.{IsSend, sendable}
use denote.Param.SendFields.{declared_send, variants_send}
use Rattle.std.proofs.Crossing as lists
use Rattle.std.proofs.MapsCrossing as maps
use Rattle.mail_base.specs.contracts.told.ToldItem as told_item
use Rattle.told_lists.specs.contracts.told_list.ToldList as told_list
use Rattle.told_lists.specs.contracts.told_list.ToldList.TheInside as told_list_inside
use Rattle.node_reads.specs.contracts.lists.NamedLists as named
use Rattle.node_reads.specs.contracts.lists.NamedLists.TheInside as named_inside
use Rattle.node_reads.specs.contracts.login.Denial as denial
use Rattle.node_reads.specs.contracts.login.LoginStage as login_stage
use Rattle.node_reads.specs.contracts.login.Login as login
use Rattle.node_reads.specs.contracts.login.Login.TheInside as login_inside
use Rattle.node_reads.specs.contracts.fetch.FetchStage as fetch_stage
use Rattle.node_reads.specs.contracts.fetch.Fetch as fetch
use Rattle.node_reads.specs.contracts.fetch.Fetch.TheInside as fetch_inside
use Rattle.node_reads.specs.contracts.progress.Reading as reading
use Rattle.node_reads.specs.contracts.progress.ReadProgress as progress
use Rattle.node_reads.specs.contracts.progress.ReadProgress.TheInside as progress_inside
use Rattle.node_reads.specs.contracts.reads.NodeReads as reads
use Rattle.drop_lock.specs.contracts.locks.Locks as locks
use Rattle.board_threads.proofs.Mail.{name_send, node_no_send, node_set_send, msg_id_send, stamp_send, ticket_send, told_item_send, told_part_send, sequence_send}
use Rattle.board_threads.proofs.Tickets.{mishaps_send}

told_list_inside_send : IsSend told_list_inside.the_row
told_list_inside_send = declared_send told_list_inside.the_type (node_no_send, (sequence_send told_item.the_row told_item_send, tt))

told_list_send : IsSend told_list.the_row
told_list_send = search (told_list_inside_send, sendable) depth 20

named_inside_send : IsSend named_inside.the_row
named_inside_send = declared_send named_inside.the_type (node_set_send, (node_set_send, (sequence_send told_list.the_row told_list_send, tt)))

named_send : IsSend named.the_row
named_send = search (named_inside_send, sendable) depth 20

denial_send : IsSend denial.the_row
denial_send = variants_send denial.enum ((stamp_send, tt), ((ticket_send, tt), (tt, tt)))

login_stage_send : IsSend login_stage.the_row
login_stage_send = variants_send login_stage.enum (tt, ((denial_send, tt), ((named_send, tt), (tt, tt))))

login_inside_send : IsSend login_inside.the_row
login_inside_send = declared_send login_inside.the_type (name_send, (search (name_send, sendable) depth 20, (node_no_send, (login_stage_send, tt))))

login_send : IsSend login.the_row
login_send = search (login_inside_send, sendable) depth 20

fetch_stage_send : IsSend fetch_stage.the_row
fetch_stage_send = variants_send fetch_stage.enum ((node_no_send, (node_set_send, tt)), ((node_no_send, (told_part_send, tt)), (tt, tt)))

fetch_inside_send : IsSend fetch_inside.the_row
fetch_inside_send = declared_send fetch_inside.the_type (name_send, (search (name_send, lists.crosses, sendable) depth 20, (msg_id_send, (search sendable depth 20, (search sendable depth 20, (fetch_stage_send, tt))))))

fetch_send : IsSend fetch.the_row
fetch_send = search (fetch_inside_send, sendable) depth 20

reading_send : IsSend reading.the_row
reading_send = variants_send reading.enum ((login_send, tt), ((fetch_send, tt), tt))

progress_inside_send : IsSend progress_inside.the_row
progress_inside_send = declared_send progress_inside.the_type (reading_send, (mishaps_send, tt))

progress_send : IsSend progress.the_row
progress_send = search (progress_inside_send, sendable) depth 20

pub reads_send : IsSend reads.the_row
reads_send = declared_send reads.the_type (node_no_send, (search sendable depth 20, (search (progress_send, maps.crosses, lists.crosses, sendable) depth 20, tt)))

pub locks_send : IsSend locks.the_row
locks_send = search (name_send, ticket_send, maps.crosses, lists.crosses, sendable) depth 30
