-- What a rule gives over a disk that tells its octets it gives also where other disks do not.
use Rattle.std.proofs.Common.{◌≡◌, ℕ, Bool, true, List, [], Option, Some, None, refl, sym, ap, ◌∙◌, subst, if◌then◌else◌}
use Rattle.std.specs.FinMap as fin
use Rattle.mail_model.specs.Identity.{Id}
use Rattle.mail_model.specs.Plan.{Plan, Proof, proves}
use Rattle.mail_model.specs.Record.{Record}
use Rattle.object_model.specs.Letters.{Number, LoginWord, ToldItem, ToldPart, Body, Letter}
use Rattle.object_model.specs.Letters.LoginWord.{Wrong}
use Rattle.object_model.specs.Letters.ToldPart.{Octets, Gone}
use Rattle.object_model.specs.Letters.Body.{File, Filed, LoginAsk, LoginTold, ListAsk, ListTold, FetchAsk, FetchTold, Strike, StrikeTold, Unlock, Push, PushAck, Retire, Group, Join, Install, Report, ReportAck}
use Rattle.object_model.specs.Locks.{Held, holder_beside}
use Rattle.login_model.specs.Readings.{ReadTicket}
use Rattle.login_model.specs.Rules as login_rules
use Rattle.login_model.specs.Rules.{first_stamp, judge, hear_told, told_at, read_at, answering}
use Rattle.login_model.specs.Facts.{IsToldPart}
use Rattle.login_model.specs.NodeLaws.{HasMine}
use Rattle.joint_model.specs.Joint.{Node, read_node}
use Rattle.joint_world.specs.Rules.{Reaction, Judged, reacted, judged, judged_beside, judged_for, Fetches, Hears}

part_untold : (tells : Bool) (user : List ℕ) (id : Id) (at most : ℕ) (disk : List Record) (part : ToldPart) → IsToldPart true user id at most disk part → IsToldPart tells user id at most disk part
part_untold tells user id at most disk (Octets octets whole) (here, p) = (here, record { all = p.all; held = p.held; part = λ e. p.part refl; count = p.count })
part_untold tells user id at most disk (Gone stamp) is = is

module _ (tells : Bool) (own : ℕ) (node : Node) where
  -- no rule looks at whether disks tell
  read_same : (ticket : Option Number) → read_at own (read_node true node) ticket ≡ read_at own (read_node tells node) ticket
  read_same None = refl
  read_same (Some number) = refl

  told_same : (letter : Letter) (mine : List ToldItem) (ticket : Option Number) (found : Option ReadTicket) (locks : Held)
      → reacted node (told_at own (read_node true node) letter mine ticket found) locks ≡ reacted node (told_at own (read_node tells node) letter mine ticket found) locks
  told_same letter mine None found locks = refl
  told_same letter mine (Some number) None locks = refl
  told_same letter mine (Some number) (Some ticket) locks = refl

  heard_same : (letter : Letter) (mine : List ToldItem) → reacted node (hear_told own (read_node true node) letter mine) node.locks ≡ reacted node (hear_told own (read_node tells node) letter mine) node.locks
  heard_same letter mine =
      told_same letter mine letter.ticket (read_at own (read_node true node) letter.ticket) node.locks
      ∙ ap (λ found. reacted node (told_at own (read_node tells node) letter mine letter.ticket found) node.locks) (read_same letter.ticket)

  module _ (plan : Plan) (user : List ℕ) (proof : Proof) (locks : Held) where
    beside_same : (number : Number) (holder : Option Number) → judged_beside (read_node true node) user number locks holder ≡ judged_beside (read_node tells node) user number locks holder
    beside_same number None = refl
    beside_same number (Some by) = refl

    judged_same : (number : Number) → judged plan (read_node true node) user proof number locks ≡ judged plan (read_node tells node) user proof number locks
    judged_same number =
        ap (λ (one : Judged). if proves plan user proof then one else record { word = Wrong first_stamp; locks = locks }) (beside_same number (holder_beside user number locks))

    judged_for_same : (ticket : Option Number) → judged_for plan (read_node true node) user proof ticket locks ≡ judged_for plan (read_node tells node) user proof ticket locks
    judged_for_same None = refl
    judged_for_same (Some number) = judged_same number

  pub fetches_untold : (disk : List Record) (user : List ℕ) (id : Id) (at most holders : ℕ) (did : Reaction) → Fetches true own node disk user id at most holders did → Fetches tells own node disk user id at most holders did
  fetches_untold disk user id at most holders did f = record {
    some = f.some;
    part = f.part;
    says = λ here. part_untold tells user id at most disk f.part (f.says here);
    is = f.is;
  }

  mine_untold : (disk : List Record) (letter : Letter) (word : LoginWord) (mine : List ToldItem) → HasMine own (read_node true node) disk letter word mine → HasMine own (read_node tells node) disk letter word mine
  mine_untold disk letter word mine has = λ login ticket stands. has login ticket (read_same letter.ticket ∙ stands)

  pub hears_untold : (plan : Plan) (disk : List Record) (letter : Letter) (body : Body) (did : Reaction) → Hears plan true own node disk letter body did → Hears plan tells own node disk letter body did
  hears_untold plan disk letter (LoginAsk user proof) did is =
      is ∙ ap (λ (one : Judged). reacted node (answering (read_node tells node) letter (LoginTold one.word)) one.locks) (judged_for_same plan user proof node.locks letter.ticket)
  hears_untold plan disk letter (ListAsk user) did (mine, told, is) = (mine, told, is)
  hears_untold plan disk letter (FetchAsk user id at most) did (part, told, is) = (part, part_untold tells user id at most disk part told, is)
  hears_untold plan disk letter (LoginTold word) did (mine, has, is) = (mine, mine_untold disk letter word mine has, is ∙ heard_same letter mine)
  hears_untold plan disk letter (ListTold items) did is = is ∙ heard_same letter []
  hears_untold plan disk letter (FetchTold part) did is = is ∙ heard_same letter []
  hears_untold plan disk letter (Unlock user number) did is = is
  hears_untold plan disk letter (File id stamp targets users octets) did is = absurd is
  hears_untold plan disk letter (Filed id) did is = absurd is
  hears_untold plan disk letter (Strike user marks) did is = absurd is
  hears_untold plan disk letter (StrikeTold user ids) did is = absurd is
  hears_untold plan disk letter (Push key state octets) did is = absurd is
  hears_untold plan disk letter (PushAck key state) did is = absurd is
  hears_untold plan disk letter (Retire key state) did is = absurd is
  hears_untold plan disk letter (Group epoch) did is = absurd is
  hears_untold plan disk letter (Join epoch promise boot was claims) did is = absurd is
  hears_untold plan disk letter (Install membership) did is = absurd is
  hears_untold plan disk letter (Report row) did is = absurd is
  hears_untold plan disk letter (ReportAck user version) did is = absurd is
