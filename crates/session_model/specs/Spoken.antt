-- The lines that a session has said, and that all it does adds to them.
use Rattle.std.specs.Prelude.{◌≡◌, ℕ, List, [], ◌++◌}
use Rattle.mail_model.specs.Plan.{Plan}
use Rattle.session_model.specs.Talk.{IsTalk, farewell, replies}
use Rattle.session_model.specs.Sessions.{Session}
use Rattle.session_model.specs.Acts.{Deed, Did}

-- A session whose lines, after its greeting, are these.
pub record Speaks (plan : Plan) (said : List (List ℕ)) (session : Session) : Type 0 where
  pub talk : IsTalk plan session.node session.protocol session.octets session.whole session.standing session.rest
  pub none : session.others ≡ []
  pub lines : said ≡ replies session.whole ++ farewell session.protocol session.node session.standing

-- Whatever it does, its lines are then those before and, after them, those that it says as it does so.
abbrev pub SpeaksOn : Type 0
SpeaksOn = (plan : Plan) (said lines : List (List ℕ)) (old new : Session) (deed : Deed) → Speaks plan said old → Did plan old deed lines new → Speaks plan (said ++ lines) new
