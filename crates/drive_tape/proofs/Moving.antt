-- What the moves of one session make of all sessions.
use Rattle.std.proofs.Common.{zero, suc, ◌≡◌, ◌<◌, ℕ, List, [], ◌∷◌, length, Option, Some, None, refl, ap, subst, arith}
use Rattle.std.specs.Prelude.{slice_get, slice_set}
use Rattle.std.specs.FinMap as map
use Rattle.mail_model.specs.Plan.{Plan}
use Rattle.session_model.specs.Calls as calls
use Rattle.session_model.specs.Talk.{IsOn}
use Rattle.session_model.specs.Talk.Standing.{Waiting, EndedDown}
use Rattle.session_model.specs.Sessions.{Session}
use Rattle.session_model.specs.Acts.{Did}
use Rattle.session_model.specs.Acts.Deed.{Falls}
use Rattle.call_tickets.specs.Moves.{HasEnded}
use Rattle.call_tickets.specs.Moves.Due.{Nothing}
use Rattle.drive_tape.specs.declared.talker.Talker.{Talker}
use Rattle.drive_tape.specs.Talks.{Converse}
use Rattle.drive_tape.specs.Speakers.{Matches, talker_left}
use Rattle.drive_tape.specs.Moving.{left_of, left_here}
use Rattle.drive_tape.proofs.Talks.{converse_set, set_same}

module _ (talkers : List (Option Talker)) (sessions : List Session) (place : ℕ) (talker new : Talker) (plain : Session) where
  -- the others sit as they did
  pub seated : (after : Session) → Converse talkers sessions → slice_get talkers place ≡ Some (Some talker) → slice_get sessions place ≡ Some plain → Matches new after Nothing
      → Converse (slice_set talkers place (Some new)) (slice_set sessions place after)
  seated after all there here matches = converse_set talkers sessions place (Some new) after all matches

pub waits_on : (after : Session) (state : _) (call : calls.Call) → after.standing ≡ Waiting state call → IsOn after.standing
waits_on after state call is = rw is tt

-- nothing is left to do where nobody sits
pub left_none : (talkers : List (Option Talker)) (place : ℕ) (talker : Option Talker) → talker ≡ None → left_here (slice_get (slice_set talkers place talker) place) ≡ 0
left_none [] place talker is = refl
left_none (t ∷ ts) zero talker is = ap left_of is
left_none (t ∷ ts) (suc place) talker is = left_none ts place talker is

pub left_set : (talkers : List (Option Talker)) (place : ℕ) (talker : Talker) → place < length talkers → left_here (slice_get (slice_set talkers place (Some talker)) place) ≡ talker_left talker
left_set [] place talker within = absurd (omega (arith, within))
left_set (t ∷ ts) zero talker within = refl
left_set (t ∷ ts) (suc place) talker within = left_set ts place talker (omega (arith, within))

pub left_was : (talkers : List (Option Talker)) (place : ℕ) (talker : Talker) → slice_get talkers place ≡ Some (Some talker) → left_here (slice_get talkers place) ≡ talker_left talker
left_was talkers place talker there = ap left_here there

-- nothing has changed for any of them
pub stays : (talkers : List (Option Talker)) (sessions : List Session) (place : ℕ) (talker new : Talker) (plain : Session) → Converse talkers sessions
    → slice_get talkers place ≡ Some (Some talker) → slice_get sessions place ≡ Some plain → Matches new plain Nothing → Converse (slice_set talkers place (Some new)) sessions
stays talkers sessions place talker new plain all there here matches =
    subst (λ (l : List Session). Converse (slice_set talkers place (Some new)) l) (set_same sessions place plain here) (seated talkers sessions place talker new plain plain all there here matches)

pub fell_ended : (plan : Plan) (old : Session) (said : List (List ℕ)) (new : Session) → Did plan old Falls said new → HasEnded new.standing
fell_ended plan old said new did = let is : new.standing ≡ EndedDown = ap (λ (s : Session). s.standing) did.2 in rw is tt

pub any_plan : Plan
any_plan = record { nodes = 1; copies = 1; confirm = 1; buckets = 1; users = map.empty; postmaster = [] }
