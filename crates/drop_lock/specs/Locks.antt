-- How a lock is taken.
use Rattle.std.specs.Prelude.{◌≡◌, ℕ, List, Some, None, Result, Ok, Err}
use Rattle.std.specs.FinMap as map
use Rattle.object_model.specs.Letters.{Number}
use Rattle.object_model.specs.Locks.{Held, holder_beside, taken}
use Rattle.drop_lock.specs.declared.locks.LockFault.{LockFault}
use Rattle.drop_lock.specs.declared.locks.LockFault.TheVariants.{InUse, NoMemory}

-- The login takes the lock, or has it already, where no other holds it. Or another holds it; or memory ran out as it was free.
abbrev pub TakesLock : Result (Unit {0}) LockFault → List ℕ → Number → Held → Held → Type 0
TakesLock (Ok _) user login old new = (holder_beside user login old ≡ None) × (new ≡ taken user login old)
TakesLock (Err (InUse by)) user login old new = (holder_beside user login old ≡ Some by) × (new ≡ old)
TakesLock (Err NoMemory) user login old new = (map.get old user ≡ None) × (new ≡ old)
