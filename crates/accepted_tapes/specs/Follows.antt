-- What the machine makes of the acts of a tape, one after another.
use Rattle.std.specs.Prelude.{◌≡◌, ◌⊎◌, ℕ, true, not, nat_eq, List, [], ◌∷◌, ◌++◌, filter, Option, Some, None}
use Rattle.mail_model.specs.Plan.{Plan}
use Rattle.mail_model.specs.Stored.{opened, kind_at}
use Rattle.mail_model.specs.Tape.{Protocol}
use Rattle.object_model.specs.Lists.{Among}
use Rattle.object_model.specs.Letters.{Number}
use Rattle.session_model.specs.Calls.{Call}
use Rattle.session_model.specs.Acts.{Act}
use Rattle.session_model.specs.Acts.Act.{Opens, Does, Faults, StillWaits, Leaves, Makes, Abandons}
use Rattle.session_model.specs.Acts.Deed.{IsFed, Hears, IsAnswered, IsGivenUp, Falls, Closes}
use Rattle.cluster_model.specs.Progress.{NodeAnswer}
use Rattle.cluster_model.specs.Progress.Ask.{Pending, Done}
use Rattle.cluster_model.specs.Steps.{NodeCall}
use Rattle.cluster_model.specs.Steps.NodeCall.{Leave}
use Rattle.cluster_model.specs.Steps.Step.{Begin, AskFor, GiveUp}
use Rattle.cluster_model.specs.Steps.Said.{Begun, Asked, Finished, Faulted}
use Rattle.whole_world.specs.Steps.{StepOutcome}
use Rattle.whole_world.specs.Steps.Step.{OfMessages}
use Rattle.whole_world.specs.Steps.Said.{Told}
use Rattle.whole_world.specs.Steps.StepOutcome.{Says}
use Rattle.whole_world.specs.Makes.{MadeStep}
use Rattle.joint_world.specs.World.{World}
use Rattle.joint_world.specs.Makes.{MakesStep}
use Rattle.cluster_owes.specs.Seen.{call_made, answer_told}
use Rattle.accepted_tapes.specs.Orders.{MakesOrder, WentSo}

-- A call of a session that has begun, and was neither answered nor given up. Of a session that ended as its node went down it is kept, and nobody asks for it.
pub record Standing : Type 0 where
  pub session : ℕ
  pub ticket : Number

-- those of other sessions than this
abbrev pub without_session : ℕ → List Standing → List Standing
without_session k calls = filter (λ one. not (nat_eq one.session k)) calls

-- session k was opened at this node
abbrev pub IsOpenedAt : List (List ℕ) → ℕ → ℕ → Type 0
IsOpenedAt lines k node = (protocol : Protocol) × (kind_at (opened lines) k ≡ Some (protocol, node))

-- the call that session k asks, if any, has begun at its node; or the disk of the node failed in it
abbrev pub Begins : Plan → List (List ℕ) → ℕ → Option Call → List Standing → World → List Standing → World → Type 0
Begins plan lines k None calls old left new = (left ≡ calls) × (new ≡ old)
Begins plan lines k (Some asked) calls old left new =
    (node : ℕ) × (call : NodeCall) × IsOpenedAt lines k node × (call_made call ≡ Some asked)
    × (((ticket : Number) × MakesStep plan true old (OfMessages (Begin node call)) (Says (Told (Begun ticket))) new × (left ≡ calls ++ record { session = k; ticket = ticket } ∷ []))
    ⊎ (MakesStep plan true old (OfMessages (Begin node call)) (Says (Told (Faulted node))) new × (left ≡ calls)))

-- the call of session k was given up
abbrev pub GivesUp : Plan → ℕ → List Standing → World → List Standing → World → Type 0
GivesUp plan k calls old left new =
    (ticket : Number) × Among (record { session = k; ticket = ticket }) calls × MakesStep plan true old (OfMessages (GiveUp ticket)) (Says (Told Finished)) new × (left ≡ without_session k calls)

-- What the machine makes of an act, where these calls stand and the run lines of the tape are these.
abbrev pub Follows : Plan → List (List ℕ) → Act → List Standing → World → List Standing → World → Type 0
Follows plan lines (Opens protocol node greeting) calls old left new = (left ≡ calls) × (new ≡ old)
Follows plan lines (Does k (Hears one)) calls old left new = Begins plan lines k one.call calls old left new
Follows plan lines (Does k (IsAnswered call answer reply)) calls old left new =
    (ticket : Number) × (own : NodeAnswer) × (answer ≡ answer_told own) × Among (record { session = k; ticket = ticket }) calls
    × MakesStep plan true old (OfMessages (AskFor ticket)) (Says (Told (Asked (Done own)))) new × (left ≡ without_session k calls)
Follows plan lines (Does k (IsGivenUp call reply)) calls old left new = GivesUp plan k calls old left new
Follows plan lines (Does k (IsFed octets)) calls old left new = (left ≡ calls) × (new ≡ old)
Follows plan lines (Does k Falls) calls old left new = (left ≡ calls) × (new ≡ old)
Follows plan lines (Does k Closes) calls old left new = (left ≡ calls) × (new ≡ old)
Follows plan lines (Faults node) calls old left new = (left ≡ calls) × (new ≡ old)
Follows plan lines (StillWaits k) calls old left new =
    (ticket : Number) × (got : ℕ) × (wanted : ℕ) × Among (record { session = k; ticket = ticket }) calls
    × MakesStep plan true old (OfMessages (AskFor ticket)) (Says (Told (Asked (Pending got wanted)))) new × (left ≡ calls)
Follows plan lines (Leaves k user) calls old left new =
    (node : ℕ) × (login : Number) × (manager : ℕ) × (outcome : StepOutcome) × IsOpenedAt lines k node
    × MakesStep plan true old (OfMessages (Begin node (Leave user login manager))) outcome new × (left ≡ calls)
Follows plan lines (Makes order event) calls old left new = (steps : List MadeStep) × MakesOrder plan order steps old new × WentSo event steps × (left ≡ calls)
Follows plan lines (Abandons k) calls old left new = GivesUp plan k calls old left new

-- acts, one after another
abbrev pub FollowsAll : Plan → List (List ℕ) → List Act → List Standing → World → List Standing → World → Type 0
FollowsAll plan lines [] calls old left new = (left ≡ calls) × (new ≡ old)
FollowsAll plan lines (act ∷ acts) calls old left new =
    (between : List Standing) × (mid : World) × Follows plan lines act calls old between mid × FollowsAll plan lines acts between mid left new
