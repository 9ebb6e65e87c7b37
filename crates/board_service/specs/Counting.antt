-- How doors are said to have ended once it is known how many connections were served.
use Rattle.std.specs.Prelude.{◌≡◌, ℕ, ◌<◌, ⊤}
use Rattle.mail_service.specs.declared.doors.DoorEnd.{DoorEnd}
use Rattle.mail_service.specs.declared.doors.DoorEnd.TheVariants.{Quiet, Failed, NoMemory}
use Rattle.board_service.specs.Passes.{most}

-- They were quiet, and as many were served as were handed on, and not too many to be counted; or they had failed.
abbrev pub IsSettledAs : DoorEnd → ℕ → ℕ → DoorEnd → Type 0
IsSettledAs doors taken served Quiet = (doors ≡ Quiet) × (taken ≡ served) × (served < most)
IsSettledAs doors taken served Failed = doors ≡ Failed
IsSettledAs doors taken served NoMemory = ⊤
