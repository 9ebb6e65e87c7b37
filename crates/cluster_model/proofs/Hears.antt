-- A node that hears a letter of any kind acts as the invariant asks.
use Rattle.std.proofs.Common.{◌≡◌, ℕ, List, [], Some, None, refl, subst}
use Rattle.mail_model.specs.Record.{Record}
use Rattle.object_model.specs.Letters.{Body, Letter}
use Rattle.object_model.specs.Letters.Body.{File, Filed, LoginAsk, LoginTold, ListAsk, ListTold, FetchAsk, FetchTold, Strike, StrikeTold, Unlock, Push, PushAck, Retire, Group, Join, Install, Report, ReportAck}
use Rattle.cluster_model.specs.Cluster.{AskedOfNodes, Node}
use Rattle.cluster_model.specs.Cluster.AskedOfNodes.{Copies, Deletion}
use Rattle.cluster_model.specs.Claims.{Asks, Tells}
use Rattle.cluster_model.specs.Moves.{IsReady, IsCallDone}
use Rattle.cluster_model.specs.Deeds.{slot_up, act_of, IsOfPlan, hear_body, hear}
use Rattle.cluster_model.proofs.HearCopies as copies
use Rattle.cluster_model.proofs.HearTold.{told_acts}
use Rattle.cluster_model.proofs.HearLogs.{ack_acts, retired_acts}
use Rattle.cluster_model.specs.Thrown.{stamps_in, count_through, with_stamps}
use Rattle.cluster_model.proofs.Learning.{counted_ready, unknown_acts}

module _ (own nodes : ℕ) (node : Node) (disk : List Record) (letter : Letter) (numbered : IsOfPlan own nodes) (to : letter.to ≡ own) (ready : IsReady own (slot_up node disk) (Some letter)) where
  by_body : (body : Body) → letter.body ≡ body → IsCallDone (act_of own node disk (hear_body own nodes node disk letter body) (Some letter) None [])
  by_body (File id stamp targets users octets) is = copies.file_acts own node disk letter to ready id stamp targets users octets is
  by_body (Filed id) is = told_acts own node disk letter to ready (λ asked a. answers asked (subst (λ b. Asks b asked) is a))
    where
      answers : (asked : AskedOfNodes) → Asks (Filed id) asked → ⊥
      answers (Copies filing) a = a
      answers (Deletion user other) a = a
  by_body (Strike user marks) is = copies.strike_acts own node disk letter to ready nodes numbered.some numbered.within numbered.few user marks is
  by_body (StrikeTold user ids) is = told_acts own node disk letter to ready (λ asked a. answers asked (subst (λ b. Asks b asked) is a))
    where
      answers : (asked : AskedOfNodes) → Asks (StrikeTold user ids) asked → ⊥
      answers (Copies filing) a = a
      answers (Deletion name other) a = a
  by_body (Push key state octets) is = copies.push_acts own node disk letter to ready key state octets is
  by_body (PushAck key state) is = ack_acts own node disk letter ready nodes key state is
  by_body (Retire key state) is = retired_acts own node disk letter ready key state is
  by_body (LoginAsk user proof) is = unknown_acts own node disk letter ready (λ asked a. subst (λ b. Asks b asked) is a) (λ asked t. subst (λ b. Tells b asked) is t)
  by_body (LoginTold word) is = unknown_acts own node disk letter ready (λ asked a. subst (λ b. Asks b asked) is a) (λ asked t. subst (λ b. Tells b asked) is t)
  by_body (ListAsk user) is = unknown_acts own node disk letter ready (λ asked a. subst (λ b. Asks b asked) is a) (λ asked t. subst (λ b. Tells b asked) is t)
  by_body (ListTold items) is = unknown_acts own node disk letter ready (λ asked a. subst (λ b. Asks b asked) is a) (λ asked t. subst (λ b. Tells b asked) is t)
  by_body (FetchAsk user id at most) is = unknown_acts own node disk letter ready (λ asked a. subst (λ b. Asks b asked) is a) (λ asked t. subst (λ b. Tells b asked) is t)
  by_body (FetchTold part) is = unknown_acts own node disk letter ready (λ asked a. subst (λ b. Asks b asked) is a) (λ asked t. subst (λ b. Tells b asked) is t)
  by_body (Unlock user login) is = unknown_acts own node disk letter ready (λ asked a. subst (λ b. Asks b asked) is a) (λ asked t. subst (λ b. Tells b asked) is t)
  by_body (Group epoch) is = unknown_acts own node disk letter ready (λ asked a. subst (λ b. Asks b asked) is a) (λ asked t. subst (λ b. Tells b asked) is t)
  by_body (Join epoch promise boot was claims) is = unknown_acts own node disk letter ready (λ asked a. subst (λ b. Asks b asked) is a) (λ asked t. subst (λ b. Tells b asked) is t)
  by_body (Install membership) is = unknown_acts own node disk letter ready (λ asked a. subst (λ b. Asks b asked) is a) (λ asked t. subst (λ b. Tells b asked) is t)
  by_body (Report row) is = unknown_acts own node disk letter ready (λ asked a. subst (λ b. Asks b asked) is a) (λ asked t. subst (λ b. Tells b asked) is t)
  by_body (ReportAck user version) is = unknown_acts own node disk letter ready (λ asked a. subst (λ b. Asks b asked) is a) (λ asked t. subst (λ b. Tells b asked) is t)

  pub does_body : IsCallDone (act_of own node disk (hear_body own nodes node disk letter letter.body) (Some letter) None [])
  does_body = by_body letter.body refl

pub hears : (own nodes : ℕ) (node : Node) (disk : List Record) (letter : Letter) → IsOfPlan own nodes → letter.to ≡ own → IsReady own (slot_up node disk) (Some letter)
    → IsCallDone (act_of own (with_stamps letter.body node) disk (hear own nodes node disk letter) (Some letter) None [])
hears own nodes node disk letter numbered to ready = does_body own nodes (with_stamps letter.body node) disk letter numbered to (counted_ready own node disk (count_through node.count (stamps_in letter.body)) (Some letter) ready)
