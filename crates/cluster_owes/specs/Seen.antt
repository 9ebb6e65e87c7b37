-- A node's calls and answers as sessions make and get them.
use Rattle.std.specs.Prelude.{ℕ, Bool, ◌&&◌, nat_eq, map, Option, Some, None, if◌then◌else◌}
use Rattle.mail_model.specs.PopReplies.{Item}
use Rattle.session_model.specs.Calls.{Call, Answer, given_of}
use Rattle.session_model.specs.Calls.Answer.{Stored, Listed, Wrong, InUse, NoProfile, Part, GoneAlready, Dropped, Failed}
use Rattle.cluster_model.specs.Reads.{ListedCopy, Found}
use Rattle.cluster_model.specs.Reads.Found.{Listed as ListedFound, WrongSecret, InUse as InUseFound, NoProfile as NoProfileFound, PartOf, NotThere}
use Rattle.cluster_model.specs.Progress.{NodeAnswer}
use Rattle.cluster_model.specs.Progress.NodeAnswer.{Stored as IsStored, Dropped as AreDropped, Read, Failed as HasFailed}
use Rattle.cluster_model.specs.Steps.{NodeCall}
use Rattle.cluster_model.specs.Steps.NodeCall.{Deliver, Login, Fetch, Strike, Leave}

-- all octets of a message are asked for
abbrev pub is_whole : ℕ → ℕ → Bool
is_whole from most = nat_eq from 0 && nat_eq most 18446744073709551615

-- The call that a session makes so: one that fetches a whole message, and no Leave, which has no answer.
abbrev pub call_made : NodeCall → Option Call
call_made (Deliver mail) = Some (Call.Deliver mail)
call_made (Login user proof) = Some (Call.Login user (given_of proof))
call_made (Fetch user id from most holders) = if is_whole from most then Some (Call.Fetch user id) else None
call_made (Strike user items) = Some (Call.Strike user (map (λ item. item.id) items))
call_made (Leave user login manager) = None

-- a message of a listing as a session shows it
abbrev pub item_listed : ListedCopy → Item
item_listed copy = record { id = copy.id; size = copy.size }

abbrev pub found_told : Found → Answer
found_told (ListedFound login manager asked items) = Listed (map item_listed items)
found_told (WrongSecret stamp) = Wrong
found_told (InUseFound by) = InUse
found_told (NoProfileFound manager) = NoProfile
found_told (PartOf octets whole) = Part octets
found_told NotThere = GoneAlready

-- what the session is answered
abbrev pub answer_told : NodeAnswer → Answer
answer_told (IsStored id confirmers) = Stored id
answer_told (AreDropped confirmers) = Dropped
answer_told (Read what) = found_told what
answer_told (HasFailed mishaps) = Failed
