-- Which letters a node that is up throws, and what it learns of every letter that it hears.
use Rattle.std.specs.Prelude.{ℕ, max, Bool, true, false, not, ◌&&◌, List, [], ◌∷◌, map, Option, Some, None, is_some, if◌then◌else◌}
use Rattle.mail_model.specs.Identity.{Stamp}
use Rattle.object_model.specs.Keys.{is_same_epoch}
use Rattle.object_model.specs.Letters.{Membership, Body, Letter}
use Rattle.object_model.specs.Letters.LoginWord.{Wrong}
use Rattle.object_model.specs.Letters.ToldPart.{Gone as GonePart}
use Rattle.object_model.specs.Letters.Body.{File, Filed, LoginTold, ListTold, FetchTold, Strike, StrikeTold, Push, PushAck, Retire, Group, Join, Install, Report}
use Rattle.cluster_model.specs.Cluster.{Node}
use Rattle.cluster_model.specs.Rules.{ticket_at}

-- why a letter is thrown
pub data Why : Type 0 where
  -- its receiver is not up
  WhileDown : Why
  -- it carries an epoch, and its receiver has installed another or none
  Stale : Why
  -- a letter of membership: its epoch is over, was never promised, or does not name its receiver
  Old : Why
  NotPromised : Why
  NotMember : Why
  -- it answers a ticket that stands no more
  Late : Why

-- whether a letter of this kind carries the epoch of its sender
abbrev pub has_epoch : Body → Bool
has_epoch (Group epoch) = false
has_epoch (Join epoch promise boot was claims) = false
has_epoch (Install membership) = false
has_epoch body = true

-- whether it answers a ticket
abbrev pub answers_ticket : Body → Bool
answers_ticket (Filed id) = true
answers_ticket (LoginTold word) = true
answers_ticket (ListTold items) = true
answers_ticket (FetchTold part) = true
answers_ticket (StrikeTold user ids) = true
answers_ticket body = false

abbrev pub is_stale : Letter → Option Membership → Bool
is_stale letter None = has_epoch letter.body
is_stale letter (Some membership) = has_epoch letter.body && not (is_same_epoch letter.epoch membership.epoch)

abbrev pub is_late : ℕ → Node → Letter → Bool
is_late own node letter = answers_ticket letter.body && not (is_some (ticket_at own node letter.ticket))

-- why the node throws the letter, if it does: the first that applies
abbrev pub thrown_by : ℕ → Node → Letter → Option Why
thrown_by own node letter = if is_stale letter node.installed then Some Stale else (if is_late own node letter then Some Late else None)

abbrev pub stamps_of_row : Option (Stamp × List ℕ) → List Stamp
stamps_of_row None = []
stamps_of_row (Some profile) = profile.0 ∷ []

-- all stamps that a letter has
abbrev pub stamps_in : Body → List Stamp
stamps_in (File id stamp targets users octets) = stamp ∷ []
stamps_in (LoginTold (Wrong stamp)) = stamp ∷ []
stamps_in (ListTold items) = map (λ item. item.stamp) items
stamps_in (FetchTold (GonePart stamp)) = stamp ∷ []
stamps_in (Strike user marks) = map (λ mark. mark.stamp) marks
stamps_in (Push key state octets) = state.stamp ∷ []
stamps_in (PushAck key state) = state.stamp ∷ []
stamps_in (Retire key state) = state.stamp ∷ []
stamps_in (Report row) = stamps_of_row row.profile
stamps_in body = []

-- the greatest count of a stamp
abbrev pub count_through : ℕ → List Stamp → ℕ
count_through count [] = count
count_through count (stamp ∷ stamps) = count_through (max count stamp.count) stamps

-- A node that hears a letter knows its stamps, whatever the letter then does: the next stamp that it draws is above them.
abbrev pub with_stamps : Body → Node → Node
with_stamps body node = record node { count = count_through node.count (stamps_in body) }
