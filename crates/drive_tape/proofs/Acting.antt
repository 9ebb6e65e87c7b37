-- What one session does is an act.
use Rattle.std.proofs.Common.{◌≡◌, ◌+◌, ◌-◌, ◌++◌, ℕ, List, Some, refl, sym, ap, ◌∙◌, arith}
use Rattle.std.specs.Prelude.{slice_get, slice_set}
use Rattle.mail_model.specs.Plan.{Plan}
use Rattle.mail_model.specs.Transcript.{said_lines}
use Rattle.session_model.specs.Sessions.{Session}
use Rattle.session_model.specs.Acts.{Acted, Did, Deed, closing}
use Rattle.session_model.specs.Acts.Act.{Does}
use Rattle.drive_tape.proofs.Talks.{at_place}

pub minus_one : (place : ℕ) → place + 1 - 1 ≡ place
minus_one place = omega arith

-- a session does something
pub acted_does : (plan : Plan) (sessions : List Session) (place : ℕ) (plain after : Session) (deed : Deed) (said : List (List ℕ)) → slice_get sessions place ≡ Some plain → Did plan plain deed said after
    → Acted plan sessions (Does (place + 1) deed) (said_lines (place + 1) said ++ closing (place + 1) deed after.standing) (slice_set sessions place after)
acted_does plan sessions place plain after deed said here did =
    (plain, after, said, at_place sessions (place + 1) place refl ∙ here, did, refl, ap (λ (i : ℕ). slice_set sessions i after) (sym (minus_one place)))
