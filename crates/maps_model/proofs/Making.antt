-- How an act of a node that is up is shown to be one of the machine.
use Rattle.std.proofs.Common.{◌≡◌, ◌≢◌, ◌⊎◌, inl, inr, ℕ, ◌<◌, ◌≤◌, false, List, Option, Some, None, refl, sym, ◌∙◌, subst, arith}
use Rattle.mail_model.specs.Identity.{EpochId}
use Rattle.object_model.specs.Letters.{Claim, Membership, Row, Letter}
use Rattle.object_model.specs.Lists.{Among}
use Rattle.maps_model.specs.Epochs.{IsBefore, IsAtMost}
use Rattle.maps_model.specs.Cluster.{Joined, OpenGroup, Node, Disk, epoch_in, epoch_of}
use Rattle.maps_model.specs.Cluster.Life.{Up, Down, Lost}
use Rattle.object_model.specs.Letters.Body.{Join, Install}
use Rattle.maps_model.specs.Words.{IsReport, IsAck}
use Rattle.maps_model.specs.Moves.{NodeInOrder, NodeAct, WasUp, BeginsBoot, WasOpen, HadInstalled, HadJoin, Forms, Heard, SendsJoin, IsJoin, KeepsMembership, RowFrom, SaysSame, Unmarked, SendsReport, SendsAck, KeepsMaps, IsAct}
use Rattle.maps_model.specs.Moves.RowFrom.{Stood}
use Rattle.maps_model.specs.Moves.Unmarked.{Still}
use Rattle.maps_model.specs.Rules.{Reaction}
use Rattle.maps_model.specs.NodeLaws.{act_of}
use Rattle.maps_model.proofs.Order.{none_least}

pub same_life : (x y : Node) → Up x ≡ Up y → x ≡ y
same_life x y h = cc

pub not_lost : (x : Node) → Up x ≡ Lost → ⊥
not_lost x h = cc

pub not_up : (might : Disk) (y : Node) → Down might ≡ Up y → ⊥
not_up might y h = cc

pub lost_not_up : (y : Node) → Lost ≡ Up y → ⊥
lost_not_up y h = cc

-- what a node has installed is at most its promise
pub epoch_promised : (n : ℕ) (node : Node) (disk : Disk) → NodeInOrder n node disk → IsAtMost (epoch_of node) node.promise
epoch_promised n node disk o = by node.installed refl
  where
    by : (x : Option Membership) → node.installed ≡ x → IsAtMost (epoch_in x) node.promise
    by None e = none_least node.promise
    by (Some g) e = (o.installed g e).0

-- a letter of membership that forms nothing
pub record IsPlain (act : NodeAct) (letter : Letter) : Type 0 where
  pub from : letter.from ≡ act.node
  pub to : letter.to ≢ act.node
  pub install : (g : Membership) → letter.body ≡ Install g → ⊥
  pub join : (epoch promise : EpochId) (b : ℕ) (was : EpochId) (claims : List Claim) → letter.body ≡ Join epoch promise b was claims → SendsJoin act epoch b was
  pub report : (user : List ℕ) (b : ℕ) (row : Row) → IsReport letter user b row → ⊥
  pub ack : (user : List ℕ) (version : ℕ) → IsAck letter user version → ⊥

module _ (own : ℕ) (node : Node) (disk : Disk) (did : Reaction) (heard : Option Letter) where
  abbrev pub the_act : NodeAct
  the_act = act_of own node disk did heard

  pub both : (P : Node → Node → Type 0) → P node did.node → (old new : Node) → Up node ≡ Up old → Up did.node ≡ Up new → P old new
  both P p old new e f = subst (λ x. P x new) (same_life node old e) (subst (λ y. P node y) (same_life did.node new f) p)

  pub now : (P : Node → Type 0) → P did.node → (new : Node) → Up did.node ≡ Up new → P new
  now P p new f = subst P (same_life did.node new f) p

  -- what is asked of rows, versions, marks and the letters that carry an epoch
  pub maps_from : ((m boot : ℕ) (user : List ℕ) → RowFrom the_act node did.node m boot user) → ((user : List ℕ) → SaysSame the_act node did.node user ⊎ (node.version user < did.node.version user))
      → ((user : List ℕ) → did.node.marked user ≡ false → Unmarked the_act node did.node user)
      → ((letter : Letter) → Among letter did.out → (user : List ℕ) (boot : ℕ) (row : Row) → IsReport letter user boot row → SendsReport the_act letter user boot row)
      → ((letter : Letter) → Among letter did.out → (user : List ℕ) (version : ℕ) → IsAck letter user version → SendsAck the_act letter user version)
      → KeepsMaps the_act
  maps_from rows versions unmarked reports acks = record {
    rows = both (λ old new. (m boot : ℕ) (user : List ℕ) → RowFrom the_act old new m boot user) rows;
    versions = both (λ old new. (user : List ℕ) → SaysSame the_act old new user ⊎ (old.version user < new.version user)) versions;
    unmarked = both (λ old new. (user : List ℕ) → new.marked user ≡ false → Unmarked the_act old new user) unmarked;
    reports = reports;
    acks = acks;
  }

  -- nothing of the maps changes
  pub same_maps : did.node.installed ≡ node.installed → ((m boot : ℕ) (user : List ℕ) → did.node.rows m boot user ≡ node.rows m boot user) → ((user : List ℕ) → did.node.version user ≡ node.version user)
      → ((user : List ℕ) → did.node.marked user ≡ node.marked user) → ((user : List ℕ) → did.disk.holds user ≡ disk.holds user)
      → ((letter : Letter) → Among letter did.out → (user : List ℕ) (boot : ℕ) (row : Row) → IsReport letter user boot row → SendsReport the_act letter user boot row)
      → ((letter : Letter) → Among letter did.out → (user : List ℕ) (version : ℕ) → IsAck letter user version → SendsAck the_act letter user version)
      → KeepsMaps the_act
  same_maps installed rows versions marked holds reports acks = maps_from
      (λ m boot user. Stood (sym installed) (rows m boot user))
      (λ user. inl (record { version = versions user; full = holds user }))
      (λ user none. Still (sym installed) (sym (marked user) ∙ none) (record { version = versions user; full = holds user }))
      reports acks

  pub membership_from : ((g : Membership) → did.node.installed ≡ Some g → HadInstalled the_act g ⊎ Heard the_act (λ letter. letter.body ≡ Install g) ⊎ Forms the_act g)
      → ((group : OpenGroup) → did.node.group ≡ Some group → WasOpen the_act group.epoch ⊎ IsBefore disk.promise group.epoch)
      → ((group : OpenGroup) → did.node.group ≡ Some group → (join : Joined) → Among join group.joins
      → HadJoin the_act group.epoch join ⊎ ((join.member.node ≡ own) × SendsJoin the_act group.epoch join.member.boot join.member.was) ⊎ Heard the_act (λ letter. IsJoin letter group.epoch join))
      → ((letter : Letter) → Among letter did.out → (g : Membership) → letter.body ≡ Install g → Forms the_act g)
      → ((letter : Letter) → Among letter did.out → (epoch promise : EpochId) (boot : ℕ) (was : EpochId) (claims : List Claim) → letter.body ≡ Join epoch promise boot was claims → SendsJoin the_act epoch boot was)
      → ((letter : Letter) → Among letter did.out → (letter.from ≡ own) × (letter.to ≢ own))
      → KeepsMembership the_act
  membership_from installed group joins installs sent_joins sent = record {
    installed = now (λ new. (g : Membership) → new.installed ≡ Some g → HadInstalled the_act g ⊎ Heard the_act (λ letter. letter.body ≡ Install g) ⊎ Forms the_act g) installed;
    group = now (λ new. (group : OpenGroup) → new.group ≡ Some group → WasOpen the_act group.epoch ⊎ IsBefore disk.promise group.epoch) group;
    joins = now (λ new. (group : OpenGroup) → new.group ≡ Some group → (join : Joined) → Among join group.joins
        → HadJoin the_act group.epoch join ⊎ ((join.member.node ≡ own) × SendsJoin the_act group.epoch join.member.boot join.member.was) ⊎ Heard the_act (λ letter. IsJoin letter group.epoch join)) joins;
    sent_installs = installs;
    sent_joins = sent_joins;
    sent = sent;
  }

  pub had : did.node.installed ≡ node.installed → (g : Membership) → did.node.installed ≡ Some g → HadInstalled the_act g ⊎ Heard the_act (λ letter. letter.body ≡ Install g) ⊎ Forms the_act g
  had same g h = inl (record { old = node; is = refl; installed = sym same ∙ h })

  pub was_open : did.node.group ≡ node.group → (group : OpenGroup) → did.node.group ≡ Some group → WasOpen the_act group.epoch ⊎ IsBefore disk.promise group.epoch
  was_open same group h = inl (record { old = node; is = refl; group = group; opened = sym same ∙ h; same = refl })

  pub had_join : did.node.group ≡ node.group → (group : OpenGroup) → did.node.group ≡ Some group → (join : Joined) → Among join group.joins
      → HadJoin the_act group.epoch join ⊎ ((join.member.node ≡ own) × SendsJoin the_act group.epoch join.member.boot join.member.was) ⊎ Heard the_act (λ letter. IsJoin letter group.epoch join)
  had_join same group h join m = inl (record { old = node; is = refl; group = group; opened = sym same ∙ h; same = refl; inside = m })

  -- nothing of the membership changes, and letters are plain
  pub same_membership : did.node.installed ≡ node.installed → did.node.group ≡ node.group → ((letter : Letter) → Among letter did.out → IsPlain the_act letter) → KeepsMembership the_act
  same_membership installed group plain = membership_from (had installed) (was_open group) (had_join group)
      (λ letter m g h. absurd ((plain letter m).install g h))
      (λ letter m. (plain letter m).join)
      (λ letter m. ((plain letter m).from, (plain letter m).to))

  pub acts : NodeInOrder own did.node did.disk → disk.boot ≤ did.disk.boot → IsAtMost disk.promise did.disk.promise → node.boot ≡ did.node.boot
      → (node.installed ≡ did.node.installed) ⊎ (IsBefore (epoch_of node) (epoch_of did.node) × (epoch_of did.node ≡ did.node.promise)) → KeepsMembership the_act → KeepsMaps the_act → IsAct the_act
  acts order boots promises boot epochs membership maps = record {
    was = not_lost node;
    boots = boots;
    promises = promises;
    order = order;
    lives = now (λ new. WasUp the_act new ⊎ BeginsBoot the_act new) (inl (record { old = node; is = refl; boot = boot; epochs = epochs }));
    membership = membership;
    maps = maps;
  }

-- nothing changes but the count that was heard, and letters are plain
pub idles : (own : ℕ) (node : Node) (disk : Disk) (heard : Option Letter) (count : ℕ) (out : List Letter) → NodeInOrder own node disk → node.heard ≤ count
    → ((letter : Letter) → Among letter out → IsPlain (act_of own node disk (record { node = record node { heard = count }; disk = disk; out = out }) heard) letter)
    → IsAct (act_of own node disk (record { node = record node { heard = count }; disk = disk; out = out }) heard)
idles own node disk heard count out o more plain =
    let did : Reaction = record { node = record node { heard = count }; disk = disk; out = out } in
    acts own node disk did heard
    (record { booted = o.booted; promised = o.promised; heard = omega (arith, o.heard, more); installed = o.installed; group = o.group; counted = o.counted; joined = o.joined })
    (omega arith) (inr refl) refl (inl refl)
    (same_membership own node disk did heard refl refl plain)
    (same_maps own node disk did heard refl (λ m boot user. refl) (λ user. refl) (λ user. refl) (λ user. refl)
    (λ letter m user boot row h. absurd ((plain letter m).report user boot row h))
    (λ letter m user version h. absurd ((plain letter m).ack user version h)))

-- nothing happens
pub rests : (own : ℕ) (node : Node) (disk : Disk) (heard : Option Letter) (out : List Letter) → NodeInOrder own node disk
    → ((letter : Letter) → Among letter out → IsPlain (act_of own node disk (record { node = node; disk = disk; out = out }) heard) letter)
    → IsAct (act_of own node disk (record { node = node; disk = disk; out = out }) heard)
rests own node disk heard out o plain = idles own node disk heard node.heard out o (omega arith) plain
