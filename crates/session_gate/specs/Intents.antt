-- What a session is about to do.
use Rattle.std.specs.Prelude.{◌≡◌, ◌⊎◌, List, ℕ, [], ⊤, Some, None}
use Rattle.mail_model.specs.Plan.{Plan}
use Rattle.session_model.specs.Calls as model
use Rattle.session_model.specs.Sessions.{Session}
use Rattle.call_tickets.specs.Moves.{Due, HeardUnit, HasEnded, HearsNothing}
use Rattle.call_tickets.specs.Moves.Due.{Nothing}
use Rattle.call_tickets.specs.Seen.{call_seen}
use Rattle.session_gate.specs.declared.intent.Intent.{Intent}
use Rattle.session_gate.specs.declared.intent.Intent.TheVariants.{Says, Asks, Rests}

-- The intent of a session that waits for no answer, with the octets that it said. It rests only where it has ended, or hears no unit in what it was fed.
abbrev pub IsIntent : (Session → Due → Type 0) → Plan → Session → Intent → List ℕ → Type 0
IsIntent follows plan plain Says octets = HeardUnit follows plan plain None octets
IsIntent follows plan plain (Asks call) octets = (asked : model.Call) × (call_seen call ≡ Some asked) × HeardUnit follows plan plain (Some asked) octets
IsIntent follows plan plain Rests octets = (HasEnded plain.standing ⊎ HearsNothing plain.standing plain.rest) × (octets ≡ []) × follows plain Nothing

-- another may follow
abbrev pub IsGoing : Intent → Type 0
IsGoing Says = ⊤
IsGoing (Asks call) = ⊤
IsGoing Rests = ⊥
