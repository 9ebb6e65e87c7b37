-- The rules of a node with locks are those of `login_model`, which leave all but tickets and their numbers.
use Rattle.std.proofs.Common.{◌≡◌, inl, inr, ◌≤◌, ℕ, arith, Bool, true, false, List, [], Option, Some, None, refl, sym, ap, le_refl, if◌then◌else◌}
use Rattle.mail_model.specs.Plan.{Plan, Proof, proves}
use Rattle.mail_model.specs.Record.{Record}
use Rattle.object_model.specs.Mishaps.{MishapKind}
use Rattle.object_model.specs.Letters.{Number, ToldItem, Body, Letter}
use Rattle.object_model.specs.Letters.LoginWord.{Named, Wrong}
use Rattle.object_model.specs.Letters.Body.{File, Filed, LoginAsk, LoginTold, ListAsk, ListTold, FetchAsk, FetchTold, Strike, StrikeTold, Unlock, Push, PushAck, Retire, Group, Join, Install, Report, ReportAck}
use Rattle.login_model.specs.Cluster as login
use Rattle.login_model.specs.Readings.{ReadTicket}
use Rattle.object_model.specs.Locks.{Held, holder_beside, released}
use Rattle.login_model.specs.Rules as login_rules
use Rattle.login_model.specs.Rules.{IsWordOf, judge, first_stamp, idle, answering, hear_told, told_at, read_at, mishap, befell_at}
use Rattle.login_model.specs.NodeLaws as login_laws
use Rattle.joint_model.specs.Joint.{Node, read_node}
use Rattle.joint_model.specs.Laws.{with_reaction, ChangesTicketsAlone}
use Rattle.joint_world.specs.Rules.{Reaction, reacted, Judged, judged_beside, judged, judged_for, Hears}

-- what such a rule leaves
pub record Alone (old new : login.Node) : Type 0 where
  pub alone : ChangesTicketsAlone old new
  pub calls : old.calls ≤ new.calls

pub alone_self : (node : login.Node) → Alone node node
alone_self node = record { alone = record { boot = refl; epoch = refl; manager = refl; named = refl; tells = refl }; calls = le_refl node.calls }

pub begins_alone : (own : ℕ) (node : login.Node) (did : login_rules.ReadDid) → Alone node (login_rules.begin_read own node did).node
begins_alone own node did = record { alone = record { boot = refl; epoch = refl; manager = refl; named = refl; tells = refl }; calls = omega arith }

pub told_alone : (own : ℕ) (node : login.Node) (letter : Letter) (mine : List ToldItem) → Alone node (hear_told own node letter mine).node × ((hear_told own node letter mine).node.calls ≡ node.calls)
told_alone own node letter mine = by letter.ticket (read_at own node letter.ticket)
  where
    by : (number : Option Number) (ticket : Option ReadTicket) → Alone node (told_at own node letter mine number ticket).node × ((told_at own node letter mine number ticket).node.calls ≡ node.calls)
    by None ticket = (alone_self node, refl)
    by (Some number) None = (alone_self node, refl)
    by (Some number) (Some ticket) = (record { alone = record { boot = refl; epoch = refl; manager = refl; named = refl; tells = refl }; calls = le_refl node.calls }, refl)

pub mishap_alone : (own : ℕ) (kind : MishapKind) (at : ℕ) (node : login.Node) (number : Number) → Alone node (mishap own kind at node number).node × ((mishap own kind at node number).node.calls ≡ node.calls)
mishap_alone own kind at node number = by (read_at own node (Some number))
  where
    by : (ticket : Option ReadTicket) → Alone node (befell_at own kind at node number ticket).node × ((befell_at own kind at node number ticket).node.calls ≡ node.calls)
    by None = (alone_self node, refl)
    by (Some ticket) = (record { alone = record { boot = refl; epoch = refl; manager = refl; named = refl; tells = refl }; calls = le_refl node.calls }, refl)

pub ends_alone : (node : login.Node) (seq : ℕ) → Alone node (login_rules.end_read node seq).node
ends_alone node seq = record { alone = record { boot = refl; epoch = refl; manager = refl; named = refl; tells = refl }; calls = le_refl node.calls }

-- calls that read see just what the rule left
pub seen_is : (tells : Bool) (node : Node) (did : login_rules.Reaction) (locks : Held) → ChangesTicketsAlone (read_node tells node) did.node → read_node tells (with_reaction node did locks) ≡ did.node
seen_is tells node did locks same = λ i. record {
  boot = sym same.boot i;
  calls = did.node.calls;
  epoch = sym same.epoch i;
  manager = sym same.manager i;
  named = sym same.named i;
  reads = did.node.reads;
  tells = sym same.tells i;
}

-- the word of a manager is one that it may tell
judged_word : (plan : Plan) (node : login.Node) (user : List ℕ) (proof : Proof) (number : Number) (locks : Held) → IsWordOf plan node user proof (judged plan node user proof number locks).word
judged_word plan node user proof number locks = by (proves plan user proof) refl
  where
    beside : proves plan user proof ≡ true → (o : Option Number) → IsWordOf plan node user proof (judged_beside node user number locks o).word
    beside right None = inl (sym (ap (λ (b : Bool). if b then Named (node.named user) else Wrong first_stamp) right))
    beside right (Some by_) = inr (right, by_, refl)

    by : (b : Bool) → proves plan user proof ≡ b
        → IsWordOf plan node user proof ((λ (j : Judged). j.word) (if b then judged_beside node user number locks (holder_beside user number locks) else record { word = Wrong first_stamp; locks = locks }))
    by true right = beside right (holder_beside user number locks)
    by false wrong = inl (sym (ap (λ (b : Bool). if b then Named (node.named user) else Wrong first_stamp) wrong))

pub word_for : (plan : Plan) (node : login.Node) (user : List ℕ) (proof : Proof) (number : Option Number) (locks : Held) → IsWordOf plan node user proof (judged_for plan node user proof number locks).word
word_for plan node user proof None locks = inl refl
word_for plan node user proof (Some number) locks = judged_word plan node user proof number locks

pub word_here : (plan : Plan) (node : login.Node) (user : List ℕ) (proof : Proof) (number : Number) (locks : Held) → IsWordOf plan node user proof (judged plan node user proof number locks).word
word_here plan node user proof number locks = judged_word plan node user proof number locks

-- what is heard is heard by a rule of `login_model`
pub record HeardBy (plan : Plan) (tells : Bool) (own : ℕ) (node : Node) (disk : List Record) (letter : Letter) (body : Body) (did : Reaction) : Type 0 where
  pub rule : login_rules.Reaction
  pub locks : Held
  pub hears : login_laws.Hears plan own (read_node tells node) disk letter body rule
  pub alone : Alone (read_node tells node) rule.node
  pub calls : rule.node.calls ≡ node.whole.mail.calls
  pub is : did ≡ reacted node rule locks

pub heard_by : (plan : Plan) (tells : Bool) (own : ℕ) (node : Node) (disk : List Record) (letter : Letter) (body : Body) (did : Reaction) → Hears plan tells own node disk letter body did
    → HeardBy plan tells own node disk letter body did
heard_by plan tells own node disk letter (LoginAsk user proof) did is = record {
  rule = answering (read_node tells node) letter (LoginTold (judged_for plan (read_node tells node) user proof letter.ticket node.locks).word);
  locks = (judged_for plan (read_node tells node) user proof letter.ticket node.locks).locks;
  hears = ((judged_for plan (read_node tells node) user proof letter.ticket node.locks).word, word_for plan (read_node tells node) user proof letter.ticket node.locks, refl);
  alone = alone_self (read_node tells node);
  calls = refl;
  is = is;
}
heard_by plan tells own node disk letter (ListAsk user) did (mine, lists, is) = record {
  rule = answering (read_node tells node) letter (ListTold mine);
  locks = node.locks;
  hears = (mine, lists, refl);
  alone = alone_self (read_node tells node);
  calls = refl;
  is = is;
}
heard_by plan tells own node disk letter (FetchAsk user id at most) did (part, says, is) = record {
  rule = answering (read_node tells node) letter (FetchTold part);
  locks = node.locks;
  hears = (part, says, refl);
  alone = alone_self (read_node tells node);
  calls = refl;
  is = is;
}
heard_by plan tells own node disk letter (LoginTold word) did (mine, has_mine, is) = record {
  rule = hear_told own (read_node tells node) letter mine;
  locks = node.locks;
  hears = (mine, has_mine, refl);
  alone = (told_alone own (read_node tells node) letter mine).0;
  calls = (told_alone own (read_node tells node) letter mine).1;
  is = is;
}
heard_by plan tells own node disk letter (ListTold items) did is = record {
  rule = hear_told own (read_node tells node) letter [];
  locks = node.locks;
  hears = refl;
  alone = (told_alone own (read_node tells node) letter []).0;
  calls = (told_alone own (read_node tells node) letter []).1;
  is = is;
}
heard_by plan tells own node disk letter (FetchTold part) did is = record {
  rule = hear_told own (read_node tells node) letter [];
  locks = node.locks;
  hears = refl;
  alone = (told_alone own (read_node tells node) letter []).0;
  calls = (told_alone own (read_node tells node) letter []).1;
  is = is;
}
heard_by plan tells own node disk letter (Unlock user number) did is = record {
  rule = idle (read_node tells node);
  locks = released user number node.locks;
  hears = refl;
  alone = alone_self (read_node tells node);
  calls = refl;
  is = is;
}
heard_by plan tells own node disk letter (File id stamp targets users octets) did h = absurd h
heard_by plan tells own node disk letter (Filed id) did h = absurd h
heard_by plan tells own node disk letter (Strike user marks) did h = absurd h
heard_by plan tells own node disk letter (StrikeTold user ids) did h = absurd h
heard_by plan tells own node disk letter (Push key state octets) did h = absurd h
heard_by plan tells own node disk letter (PushAck key state) did h = absurd h
heard_by plan tells own node disk letter (Retire key state) did h = absurd h
heard_by plan tells own node disk letter (Group epoch) did h = absurd h
heard_by plan tells own node disk letter (Join epoch promise boot was claims) did h = absurd h
heard_by plan tells own node disk letter (Install membership) did h = absurd h
heard_by plan tells own node disk letter (Report row) did h = absurd h
heard_by plan tells own node disk letter (ReportAck user version) did h = absurd h
