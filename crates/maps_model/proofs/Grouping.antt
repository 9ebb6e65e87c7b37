-- That a node's rules on groups are acts of the machine.
use Rattle.std.proofs.Common.{◌≡◌, ◌≢◌, inl, inr, ⊎_elim, ℕ, zero, suc, ◌<◌, Bool, true, false, List, [], ◌∷◌, map, Option, Some, None, refl, sym, ap, ◌∙◌, subst, true≢false, arith, nat_eq, if◌then◌else◌}
use Rattle.std.proofs.lemmas.Bool.{eq-eqb}
use Rattle.mail_model.specs.Identity.{EpochId, no_epoch}
use Rattle.object_model.specs.Letters.{Claim, Member, Membership, Row, Letter}
use Rattle.object_model.specs.Lists.{Among}
use Rattle.maps_model.specs.Epochs.{IsBefore, IsAtMost}
use Rattle.maps_model.specs.Cluster.{Joined, OpenGroup, Node, Disk, epoch_of, NamesNode}
use Rattle.object_model.specs.Letters.Body.{Group, Join, Install, Report, ReportAck}
use Rattle.maps_model.specs.Moves.{NodeInOrder, NodeAct, SendsJoin, IsAct}
use Rattle.maps_model.specs.Rules.{Reaction, letter_to, others, own_join, promised, next_epoch, start_group, join_letter, join_group, HearsGroup}
use Rattle.maps_model.specs.Rules.HearsGroup.{Rises, Again, Old}
use Rattle.maps_model.specs.NodeLaws.{act_of}
use Rattle.maps_model.proofs.Order.{most_before}
use Rattle.maps_model.proofs.Lists.{among_one}
use Rattle.maps_model.proofs.Making.{epoch_promised, IsPlain, same_maps, membership_from, had, acts, rests}

-- letters of membership
pub plain_group : (act : NodeAct) (to : ℕ) (epoch : EpochId) → to ≢ act.node → IsPlain act (letter_to act.node (Group epoch) to)
plain_group act to epoch apart = record {
  from = refl;
  to = apart;
  install = λ g h. by_install g h;
  join = λ e p b was claims h. absurd (by_join e p b was claims h);
  report = λ user b row r. by_report row r.is;
  ack = λ user version r. by_ack user version r.is;
}
  where
    by_install : (g : Membership) → Group epoch ≡ Install g → ⊥
    by_install g h = cc

    by_join : (e p : EpochId) (b : ℕ) (was : EpochId) (claims : List Claim) → Group epoch ≡ Join e p b was claims → ⊥
    by_join e p b was claims h = cc

    by_report : (row : Row) → Group epoch ≡ Report row → ⊥
    by_report row h = cc

    by_ack : (user : List ℕ) (version : ℕ) → Group epoch ≡ ReportAck user version → ⊥
    by_ack user version h = cc

pub plain_join : (act : NodeAct) (to : ℕ) (epoch promise : EpochId) (b : ℕ) (was : EpochId) (claims : List Claim) → to ≢ act.node → SendsJoin act epoch b was → IsPlain act (letter_to act.node (Join epoch promise b was claims) to)
plain_join act to epoch promise b was claims apart within = record {
  from = refl;
  to = apart;
  install = λ g h. by_install g h;
  join = λ e p c w k h. let q = by_join e p c w k h in subst (λ x. SendsJoin act e c x) q.2 (subst (λ x. SendsJoin act e x was) q.1 (subst (λ x. SendsJoin act x b was) q.0 within));
  report = λ user c row r. by_report row r.is;
  ack = λ user version r. by_ack user version r.is;
}
  where
    by_install : (g : Membership) → Join epoch promise b was claims ≡ Install g → ⊥
    by_install g h = cc

    by_join : (e p : EpochId) (c : ℕ) (w : EpochId) (k : List Claim) → Join epoch promise b was claims ≡ Join e p c w k → (epoch ≡ e) × (b ≡ c) × (was ≡ w)
    by_join e p c w k h = (cc, cc, cc)

    by_report : (row : Row) → Join epoch promise b was claims ≡ Report row → ⊥
    by_report row h = cc

    by_ack : (user : List ℕ) (version : ℕ) → Join epoch promise b was claims ≡ ReportAck user version → ⊥
    by_ack user version h = cc

-- one letter goes out
pub one_plain : (act : NodeAct) (one : Letter) → IsPlain act one → (letter : Letter) → Among letter (one ∷ []) → IsPlain act letter
one_plain act one p letter m = subst (IsPlain act) (among_one letter one m) p

-- the others are asked
pub all_plain : (act : NodeAct) (epoch : EpochId) (n : ℕ) (letter : Letter) → Among letter (map (letter_to act.node (Group epoch)) (others act.node n)) → IsPlain act letter
all_plain act epoch zero letter m = absurd m
all_plain act epoch (suc k) letter m = by (nat_eq (suc k) act.node) refl (λ rest. all_plain act epoch k letter rest) m
  where
    by : (t : Bool) → nat_eq (suc k) act.node ≡ t → (Among letter (map (letter_to act.node (Group epoch)) (others act.node k)) → IsPlain act letter)
        → Among letter (map (letter_to act.node (Group epoch)) (if t then others act.node k else suc k ∷ others act.node k)) → IsPlain act letter
    by true e rest m = rest m
    by false e rest m = ⊎_elim
        (λ here. subst (IsPlain act) here (plain_group act (suc k) epoch (λ same. true≢false (sym (eq-eqb (suc k) act.node same) ∙ e))))
        (λ there. rest there)
        m

-- a node finds itself among those who joined
pub names_own : (own : ℕ) (member : Member) (epoch : EpochId) → member.node ≡ own → NamesNode (record { epoch = epoch; members = member ∷ []; map = [] }) own member.boot
names_own own member epoch same = record { member = member; is = ap (λ t. if t then Some member else None) (eq-eqb member.node own same); same = refl }

pub none_some : {X : Type 0} (x : X) → None ≡ Some x → ⊥
none_some x h = cc

pub some_same : {X : Type 0} (x y : X) → Some x ≡ Some y → x ≡ y
some_same x y h = cc

-- what was installed stays below a later promise
module _ (own : ℕ) (node : Node) (disk : Disk) (o : NodeInOrder own node disk) (epoch : EpochId) (later : IsBefore node.promise epoch) where
  pub installed_below : (g : Membership) → node.installed ≡ Some g → IsAtMost g.epoch epoch × NamesNode g own node.boot
  installed_below g h = (inl (most_before g.epoch node.promise epoch (o.installed g h).0 later), (o.installed g h).1)

  pub epoch_below : IsBefore (epoch_of node) epoch
  epoch_below = most_before (epoch_of node) node.promise epoch (epoch_promised own node disk o) later

  pub disk_below : IsBefore disk.promise epoch
  disk_below = subst (λ e. IsBefore e epoch) o.promised later

pub next_later : (own : ℕ) (node : Node) (disk : Disk) → NodeInOrder own node disk → IsBefore node.promise (next_epoch own node)
next_later own node disk o = inl (omega (arith, o.heard))

-- a group opens
pub groups : (own nodes : ℕ) (node : Node) (disk : Disk) → NodeInOrder own node disk → IsAct (act_of own node disk (start_group own nodes node disk) None)
groups own nodes node disk o =
    let epoch = next_epoch own node in
    let did = start_group own nodes node disk in
    let later = next_later own node disk o in
    let opened : OpenGroup = record { epoch = epoch; joins = own_join own node ∷ [] } in
    let act = act_of own node disk did None in
    let mine : SendsJoin act epoch node.boot (epoch_of node) = record { new = did.node; is = refl; booted = refl; promised = inr refl; from = inr refl } in
    acts own node disk did None
    (record {
      booted = o.booted;
      promised = refl;
      heard = omega arith;
      installed = installed_below own node disk o epoch later;
      group = λ group h. subst (λ (x : OpenGroup). (x.epoch ≡ epoch) × (x.epoch.node ≡ own) × IsBefore (epoch_of node) x.epoch) (some_same opened group h) (refl, refl, epoch_below own node disk o epoch later);
      counted = λ group h. subst (λ (x : OpenGroup). 0 < x.epoch.count) (some_same opened group h) (omega arith);
      joined = λ group h. subst (λ (x : OpenGroup). NamesNode (record { epoch = x.epoch; members = map (λ join. join.member) x.joins; map = [] }) own node.boot) (some_same opened group h)
          (names_own own (own_join own node).member epoch refl);
    })
    (omega arith) (inl (disk_below own node disk o epoch later)) refl (inl refl)
    (membership_from own node disk did None (had own node disk did None refl)
    (λ group h. inr (subst (λ (x : OpenGroup). IsBefore disk.promise x.epoch) (some_same opened group h) (disk_below own node disk o epoch later)))
    (λ group h join m. inr (inl (
    let its : opened ≡ group = some_same opened group h in
    let it : own_join own node ≡ join = among_one join (own_join own node) (subst (λ (x : OpenGroup). Among join x.joins) (sym its) m) in
    (ap (λ (y : Joined). y.member.node) (sym it), subst (λ (x : OpenGroup). SendsJoin act x.epoch join.member.boot join.member.was) its (subst (λ (y : Joined). SendsJoin act epoch y.member.boot y.member.was) it mine))
    )))
    (λ letter m g h. absurd ((all_plain act epoch nodes letter m).install g h))
    (λ letter m. (all_plain act epoch nodes letter m).join)
    (λ letter m. ((all_plain act epoch nodes letter m).from, (all_plain act epoch nodes letter m).to)))
    (same_maps own node disk did None refl (λ m boot user. refl) (λ user. refl) (λ user. refl) (λ user. refl)
    (λ letter m user boot row h. absurd ((all_plain act epoch nodes letter m).report user boot row h))
    (λ letter m user version h. absurd ((all_plain act epoch nodes letter m).ack user version h)))

-- a Group is heard
module _ (own : ℕ) (node : Node) (disk : Disk) (heard : Option Letter) (from : ℕ) (apart : from ≢ own) (o : NodeInOrder own node disk) where
  promises : (epoch : EpochId) → IsBefore node.promise epoch → IsAct (act_of own node disk (join_group own node disk epoch from) heard)
  promises epoch later =
      let did = join_group own node disk epoch from in
      let act = act_of own node disk did heard in
      let plain = one_plain act (join_letter own (promised node epoch) epoch from)
      (plain_join act from epoch epoch node.boot (epoch_of node) _ apart (record { new = did.node; is = refl; booted = refl; promised = inr refl; from = inr refl })) in
      acts own node disk did heard
      (record {
        booted = o.booted;
        promised = refl;
        heard = omega arith;
        installed = installed_below own node disk o epoch later;
        group = λ group h. absurd (none_some group h);
        counted = λ group h. absurd (none_some group h);
        joined = λ group h. absurd (none_some group h);
      })
      (omega arith) (inl (disk_below own node disk o epoch later)) refl (inl refl)
      (membership_from own node disk did heard (had own node disk did heard refl)
      (λ group h. absurd (none_some group h))
      (λ group h join m. absurd (none_some group h))
      (λ letter m g h. absurd ((plain letter m).install g h))
      (λ letter m. (plain letter m).join)
      (λ letter m. ((plain letter m).from, (plain letter m).to)))
      (same_maps own node disk did heard refl (λ m boot user. refl) (λ user. refl) (λ user. refl) (λ user. refl)
      (λ letter m user boot row h. absurd ((plain letter m).report user boot row h))
      (λ letter m user version h. absurd ((plain letter m).ack user version h)))

  pub hears_group : (epoch : EpochId) (did : Reaction) → HearsGroup own node disk from epoch did → IsAct (act_of own node disk did heard)
  hears_group epoch did (Rises later e) = subst (λ d. IsAct (act_of own node disk d heard)) (sym e) (promises epoch later)
  hears_group epoch did (Again same e) =
      let out = join_letter own node epoch from ∷ [] in
      let act = act_of own node disk (record { node = node; disk = disk; out = out }) heard in
      subst (λ d. IsAct (act_of own node disk d heard)) (sym e)
      (rests own node disk heard out o (one_plain act (join_letter own node epoch from)
      (plain_join act from epoch node.promise node.boot (epoch_of node) _ apart (record { new = node; is = refl; booted = refl; promised = inr same; from = inr refl }))))
  hears_group epoch did (Old before e) =
      let out = letter_to own (Join epoch node.promise node.boot no_epoch []) from ∷ [] in
      let act = act_of own node disk (record { node = node; disk = disk; out = out }) heard in
      subst (λ d. IsAct (act_of own node disk d heard)) (sym e)
      (rests own node disk heard out o (one_plain act (letter_to own (Join epoch node.promise node.boot no_epoch []) from)
      (plain_join act from epoch node.promise node.boot no_epoch [] apart (record { new = node; is = refl; booted = refl; promised = inl before; from = inl (refl, before) }))))
