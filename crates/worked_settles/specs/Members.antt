-- Acts show one list of members.
use Rattle.std.specs.Prelude.{◌≡◌, ℕ, List}
use Rattle.mail_model.specs.Plan.{Plan}
use Rattle.session_model.specs.Acts.{Act}
use Rattle.fresh_sessions.specs.Acts.{ShowsMembers}

-- Where acts show these members and those, they are the same: no epoch was formed, or the last was formed by one regroup.
abbrev pub MembersAreOne : Type 0
MembersAreOne = (plan : Plan) (acts : List Act) (members others : List ℕ) → ShowsMembers plan acts members → ShowsMembers plan acts others → members ≡ others
