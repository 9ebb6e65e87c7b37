-- Seats, tables and turnstiles may cross threads, where the value behind the lock may.
use denote.RattleType.{RattleType}
use denote.Struct.Struct.{Struct}
use denote.Struct.Owning.{shape}
use denote.Struct.Field.{row_field}
use denote.Param.Send.{IsSend, IsSync, sendable, part_keyless}
use denote.Param.SendFields.{declared_send, declared_sync, as_row_send, as_row_sync}
use Rattle.std.proofs.Crossing as lists
use Rattle.std.proofs.MapsCrossing as maps
use Rattle.std.specs.contracts.alloc.Global as Heap
use Rattle.std.specs.contracts.impls.GlobalAllocator.TheImpl.{ghosts as heap}
use Rattle.atomic_table.specs.declared.shared.TableRule.{Ghosts}
use Rattle.atomic_table.specs.contracts.shared.Seat as seat
use Rattle.atomic_table.specs.contracts.shared.Shared as shared
use Rattle.atomic_table.specs.contracts.send_lease.SendLease as lease
use Rattle.atomic_table.specs.contracts.owned.Table as table
use Rattle.atomic_table.proofs.Sent.{seat_keyless, shares_keyless}
use Rattle.atomic_table.proofs.Rights.{right_send}
use Rattle.turnstile.specs.contracts.lock.Turnstile as turnstile
use Rattle.turnstile.specs.contracts.lock.Pass as pass
use Rattle.turnstile.specs.contracts.views.View as view
use Rattle.turnstile.specs.contracts.views.Key as key
use Rattle.turnstile.specs.contracts.plays.OneAtATime as rule
use Rattle.turnstile.specs.Rule.{TableIsSound, first_view}
use Rattle.turnstile.specs.declared.counted.Counted as counted

pub seat_send : (S V : RattleType) → IsSend S → IsSend (seat.the_row S V)
seat_send S V s = record { owned = λ d vs. ((λ vss. (tt, ((λ uss. (tt, tt)), tt))), seat_keyless S s V.coded.code d.table_id d.id d.me); leaving = λ k f vs. tt }

pub shared_sync : (S V K P : RattleType) (g : Ghosts P.Denot S.Denot V.Denot K.Denot) → IsSend S → IsSync (shared.the_row S V K P g)
shared_sync S V K P g s = let fields : IsSync (Struct (shape (shared.the_type S V K P g))) = search sendable depth 20 in
    record { shared = λ d b o ν. (fields.shared (d.words, (d.slots, (tt, tt))) b o ν, shares_keyless S s V.coded.code d.table_id (g.holds d.key) d.words d.slots ν) }

pub lease_sync : (T : RattleType) → IsSync (lease.the_row T Heap.the_row heap)
lease_sync T = record { shared = λ d b o ν q. part_keyless (lease.the_row T Heap.the_row heap) (right_send T Heap.the_row heap (record { frees = lists.frees.frees })) q d b o }

pub table_sync : (S V K P : RattleType) (g : Ghosts P.Denot S.Denot V.Denot K.Denot) → IsSend S → IsSync (table.the_row S V K P Heap.the_row g heap)
table_sync S V K P g s = declared_sync (table.the_type S V K P Heap.the_row g heap) (
  search (sendable, shared_sync) depth 10,
  (search sendable depth 10, (search sendable depth 10, (search (sendable, lease_sync) depth 10, (search (sendable, lease_sync) depth 10, (search sendable depth 20, tt))))),
)

module _ (V E : RattleType) where
  pub turnstile_sync : (g : counted.Ghosts V.Denot E.Denot) → IsSend V → IsSync (turnstile.the_row V E g)
  turnstile_sync g s = declared_sync (turnstile.the_type V E g) (table_sync V (view.the_row V E) (key.the_row V) rule.the_row (record { holds = TableIsSound g.history g.keeps; first = first_view g.history }) s, tt)

  pub lower_send : IsSend V → IsSend (pass.the_row V E)
  lower_send s = declared_send (pass.the_type V E) (seat_send V (view.the_row V E) s, tt)
