-- A world may cross threads, where its disks may.
use denote.RattleType.{RattleType}
use denote.Param.Send.{IsSend, sendable}
use denote.Param.SendFields.{declared_send, variants_send, as_row_send}
use denote.Struct.Field.{row_field}
use Rattle.std.proofs.Crossing as lists
use Rattle.std.proofs.MapsCrossing as maps
use Rattle.world_book.specs.contracts.entry.Entry as entry
use Rattle.world_book.specs.contracts.book.Book as book
use Rattle.cluster_world.specs.contracts.life.Life as life
use Rattle.cluster_world.specs.contracts.flight.Flight as flight
use Rattle.cluster_world.specs.contracts.flight.Flight.TheInside as flight_inside
use Rattle.cluster_world.specs.contracts.flying.Flying as flying
use Rattle.cluster_world.specs.contracts.flying.Flying.TheInside as flying_inside
use Rattle.cluster_world.specs.contracts.nodes.Nodes as nodes
use Rattle.cluster_world.specs.contracts.world.World as world
use Rattle.board_threads.proofs.Mail.{name_send, node_no_send, node_set_send, msg_id_send, epoch_id_send, plan_send, letter_send}
use Rattle.board_threads.proofs.Maps.{whole_send}

pub entry_send : IsSend entry.the_row
entry_send = variants_send entry.enum ((name_send, (msg_id_send, (search sendable depth 20, (search sendable depth 20, (search sendable depth 20, (node_set_send, tt)))))), ((name_send, (msg_id_send, tt)), ((name_send, (msg_id_send, (node_set_send, tt))), ((node_no_send, (search sendable depth 20, (epoch_id_send, tt))), ((node_no_send, tt), ((node_no_send, (search sendable depth 20, tt)), ((node_no_send, tt), tt)))))))

pub book_send : IsSend book.the_row
book_send = declared_send book.the_type (search (entry_send, lists.crosses, sendable) depth 20, tt)

pub life_send : IsSend life.the_row
life_send = variants_send life.enum ((whole_send, tt), (tt, (tt, tt)))

flight_inside_send : IsSend flight_inside.the_row
flight_inside_send = declared_send flight_inside.the_type (search sendable depth 20, (letter_send, tt))

pub flight_send : IsSend flight.the_row
flight_send = search (flight_inside_send, sendable) depth 20

flying_inside_send : IsSend flying_inside.the_row
flying_inside_send = declared_send flying_inside.the_type (search (flight_send, lists.crosses, sendable) depth 20, (search sendable depth 20, (search sendable depth 20, tt)))

pub flying_send : IsSend flying.the_row
flying_send = search (flying_inside_send, sendable) depth 20

pub nodes_send : (D : RattleType) → IsSend D → IsSend (nodes.the_row D)
nodes_send D s = declared_send (nodes.the_type D) (plan_send, (search (life_send, lists.crosses, sendable) depth 20, (search (lists.crosses, sendable) depth 20, tt)))

pub world_send : (D : RattleType) → IsSend D → IsSend (world.the_row D)
world_send D s = declared_send (world.the_type D) (nodes_send D s, (flying_send, (book_send, (search sendable depth 20, (search sendable depth 20, tt)))))
