-- A run line that moves the cluster itself, as the definitions see it.
use Rattle.tape_lines.specs.declared.cluster_order.ClusterOrder.{ClusterOrder}
use Rattle.tape_lines.specs.declared.cluster_order.ClusterOrder.TheVariants.{Crash, Start, Lose, Post, Again, Drop, Flow, Push, Widen, Group, Conclude, Regroup, Report, Settle, Maps, Tick, Sum}
use Rattle.mail_model.specs.Tape as tape

-- what it does to the cluster
abbrev pub cluster_order_seen : ClusterOrder → tape.ClusterOrder
cluster_order_seen (Crash node) = tape.ClusterOrder.Crash node
cluster_order_seen (Start node) = tape.ClusterOrder.Start node
cluster_order_seen (Lose node) = tape.ClusterOrder.Lose node
cluster_order_seen (Post letter) = tape.ClusterOrder.Post letter
cluster_order_seen (Again letter) = tape.ClusterOrder.Again letter
cluster_order_seen (Drop letter) = tape.ClusterOrder.Drop letter
cluster_order_seen Flow = tape.ClusterOrder.Flow
cluster_order_seen (Push node) = tape.ClusterOrder.Push node
cluster_order_seen (Widen at user id to) = tape.ClusterOrder.Widen at user id to
cluster_order_seen (Group node) = tape.ClusterOrder.Group node
cluster_order_seen (Conclude node) = tape.ClusterOrder.Conclude node
cluster_order_seen (Regroup node) = tape.ClusterOrder.Regroup node
cluster_order_seen (Report node) = tape.ClusterOrder.Report node
cluster_order_seen Settle = tape.ClusterOrder.Settle
cluster_order_seen (Maps user) = tape.ClusterOrder.Maps user
cluster_order_seen (Tick seconds) = tape.ClusterOrder.Tick seconds
cluster_order_seen Sum = tape.ClusterOrder.Sum

-- as one of all run lines
abbrev pub moves_seen : ClusterOrder → tape.Order
moves_seen order = tape.Order.Moves (cluster_order_seen order)
