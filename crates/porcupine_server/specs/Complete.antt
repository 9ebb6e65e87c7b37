-- A tape that is handled through its line `end`, where nothing of the outside fails.
use Rattle.std.specs.Prelude.{◌≡◌, ℕ, ◌≤◌, ◌^◌, List, ◌++◌, length, flat_map, All, Some}
use Rattle.mail_model.specs.Lines.{HasNoLf, ended}
use Rattle.mail_model.specs.Plan.{Plan}
use Rattle.mail_model.specs.Tape.{Draft, empty_draft, planned, tape_plan_line, tape_order}
use Rattle.mail_model.specs.Tape.PlanLine.{Go}
use Rattle.mail_model.specs.Tape.Order.{End}
use Rattle.drive_tape.specs.Plans.{DraftsTo}
use Rattle.accepted_tapes.specs.Accepted.{AreAccepted}

-- The octets are plan lines that give a plan, `go`, run lines that are accepted, none of whose steps the machine refuses, and `end` within the octets that a tape may have; anything may follow.
pub record IsGoodTape (octets : List ℕ) : Type 0 where
  pub head : List (List ℕ)
  pub draft : Draft
  pub go : List ℕ
  pub plan : Plan
  pub lines : List (List ℕ)
  pub last : List ℕ
  pub behind : List ℕ
  pub whole : octets ≡ flat_map ended head ++ (ended go ++ (flat_map ended lines ++ (ended last ++ behind)))
  pub head_each : All HasNoLf head
  pub go_one : HasNoLf go
  pub each : All HasNoLf lines
  pub last_one : HasNoLf last
  pub drafts : DraftsTo empty_draft head draft
  pub goes : tape_plan_line go ≡ Some Go
  pub plan_is : planned draft ≡ Some plan
  pub ends : tape_order last ≡ Some End
  pub accepted : AreAccepted plan lines
  pub short : length (flat_map ended lines ++ ended last) ≤ 2 ^ 40
