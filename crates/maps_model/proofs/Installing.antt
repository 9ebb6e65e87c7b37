-- That concluding a group and hearing an Install are acts of the machine.
use Rattle.std.proofs.Common.{◌≡◌, ◌≢◌, inl, inr, ⊎_elim, ℕ, Bool, true, false, List, [], ◌∷◌, map, length, Option, Some, None, refl, sym, ap, ◌∙◌, subst, true≢false, arith, nat_eq, if◌then◌else◌}
use Rattle.std.specs.Prelude.{flat_map, slice_get}
use Rattle.std.proofs.lemmas.Bool.{eqb-true, eq-eqb}
use Rattle.mail_model.specs.Identity.{EpochId}
use Rattle.object_model.specs.Letters.{Claim, MapRow, Member, Membership, Row, Letter}
use Rattle.object_model.specs.Lists.{Among}
use Rattle.mail_base.specs.Buckets.{bucket_at}
use Rattle.maps_model.specs.Epochs.{IsBefore, IsAtMost}
use Rattle.maps_model.specs.Assign.{IsOfMembers, IsAssigned, ClaimedRow, FreeRow}
use Rattle.maps_model.specs.Cluster.{Joined, OpenGroup, Node, Disk, epoch_of, member_of, NamesNode, manager_in, manager_of}
use Rattle.object_model.specs.Letters.Body.{Join, Install, Report, ReportAck}
use Rattle.maps_model.specs.Words.{IsReport, IsAck}
use Rattle.maps_model.specs.Moves.{NodeInOrder, NodeAct, Forms, RowFrom, SaysSame, Unmarked, KeepsMaps, IsAct}
use Rattle.maps_model.specs.Moves.RowFrom.{Kept, Fell, Told}
use Rattle.maps_model.specs.Moves.Unmarked.{Own, Spared}
use Rattle.maps_model.specs.Rules.{Reaction, letter_to, IsRowKept, IsSpared, IsRowDue, MarkAt, RowAt, Entering, entered, membership_of, conclude, Concludes, HearsInstall}
use Rattle.maps_model.specs.Rules.MarkAt.{TellsItself, Marks, Spares}
use Rattle.maps_model.specs.Rules.RowAt.{Tells, Keeps, Drops}
use Rattle.maps_model.specs.Rules.HearsInstall.{Old, NotPromised, NotMember, Enters}
use Rattle.maps_model.specs.NodeLaws.{act_of}
use Rattle.maps_model.proofs.Lists.{among_either, among_one, same_some}
use Rattle.maps_model.proofs.Making.{membership_from, maps_from, was_open, had_join, acts, rests}
use Rattle.maps_model.proofs.Grouping.{none_some, some_same}

-- a test that isn't true is false
not_true : (b : Bool) → (b ≡ true → ⊥) → b ≡ false
not_true true h = absurd (h refl)
not_true false h = refl

-- entering an epoch, whatever becomes of the open group and whatever is sent
module _ (own : ℕ) (node : Node) (disk : Disk) (heard : Option Letter) (g : Membership) (later : IsBefore (epoch_of node) g.epoch) (group : Option OpenGroup) (out : List Letter)
    (marked : List ℕ → Bool) (rows : ℕ → ℕ → List ℕ → Option Row) (entering : Entering own node disk g marked rows) (names : NamesNode g own node.boot) where
  abbrev pub reaction : Reaction
  reaction = record { node = record (entered node g marked rows) { group = group }; disk = disk; out = out }

  abbrev act : NodeAct
  act = act_of own node disk reaction heard

  row_from : (m boot : ℕ) (user : List ℕ) → RowAt own node disk g m boot user (rows m boot user) → RowFrom act node reaction.node m boot user
  row_from m boot user (Tells mine its managed due e) = Told mine its e
  row_from m boot user (Keeps k undue e) = Kept g refl later k e
  row_from m boot user (Drops never undue e) = Fell g refl later never e

  -- a node that comes itself from the old epoch, and manages the user in both maps, keeps its own row
  own_kept : (user : List ℕ) → manager_of g user ≡ Some own → IsSpared node g user → IsRowKept own node g own node.boot user
  own_kept user managed s =
      let it : s.manager ≡ own = same_some (manager_of g user) s.manager own s.after managed in
      let member : member_of g.members own ≡ Some s.member = subst (λ k. member_of g.members k ≡ Some s.member) it s.is in
      record {
        old = s.old;
        installed = s.installed;
        managed = s.before ∙ ap Some it;
        manages = managed;
        comes = record { member = s.member; is = member; same = ap (λ (m : Member). m.boot) (same_some (member_of g.members own) s.member names.member member names.is) ∙ names.same; from = s.from };
        allowed = s.allowed;
      }

  spares_own : (user : List ℕ) → manager_of g user ≡ Some own → (k : IsRowKept own node g own node.boot user) → IsSpared node g user
  spares_own user managed k = record {
    old = k.old;
    installed = k.installed;
    manager = own;
    before = k.managed;
    after = managed;
    member = k.comes.member;
    is = k.comes.is;
    from = k.comes.from;
    allowed = k.allowed;
  }

  undue_is : (user : List ℕ) → (IsRowDue node disk g user → ⊥) → node.marked user ≡ false
  undue_is user undue = not_true (node.marked user) (λ e. undue (inl e))

  said : (user : List ℕ) → SaysSame act node reaction.node user
  said user = record { version = refl; full = refl }

  own_row_at : (user : List ℕ) → manager_of g user ≡ Some own → RowAt own node disk g own node.boot user (rows own node.boot user) → Unmarked act node reaction.node user
  own_row_at user managed (Tells mine its m due e) = Own (record {
    manager = λ x h. subst (λ (y : Membership). manager_of y user ≡ Some own) (some_same g x h) managed;
    told = e;
  })
  own_row_at user managed (Keeps k undue e) = Spared g refl later (undue_is user (undue refl)) (said user) (inr (spares_own user managed k))
  own_row_at user managed (Drops never undue e) =
      let is_undue : IsRowDue node disk g user → ⊥ = undue refl refl managed in
      Spared g refl later (undue_is user is_undue) (said user)
      (inl (not_true (disk.holds user) (λ h. is_undue (inr (h, λ s. never (own_kept user managed s))))))

  unmarked : (user : List ℕ) → MarkAt own node disk g user (marked user) → marked user ≡ false → Unmarked act node reaction.node user
  unmarked user (TellsItself managed e) none = own_row_at user managed (entering.keeps own node.boot user)
  unmarked user (Marks other due e) none = absurd (true≢false (sym e ∙ none))
  unmarked user (Spares other undue why e) none = Spared g refl later undue (said user) why

  pub entering_maps : ((letter : Letter) → Among letter out → (user : List ℕ) (boot : ℕ) (row : Row) → IsReport letter user boot row → ⊥)
      → ((letter : Letter) → Among letter out → (user : List ℕ) (version : ℕ) → IsAck letter user version → ⊥) → KeepsMaps act
  entering_maps reports acks = maps_from own node disk reaction heard
      (λ m boot user. row_from m boot user (entering.keeps m boot user)) (λ user. inl (said user)) (λ user. unmarked user (entering.marks user))
      (λ letter m user boot row h. absurd (reports letter m user boot row h))
      (λ letter m user version h. absurd (acks letter m user version h))

-- an Install is heard
module _ (own : ℕ) (node : Node) (disk : Disk) (letter : Letter) (o : NodeInOrder own node disk) (g : Membership) (body : letter.body ≡ Install g)
    (over : g.epoch.node ≡ own → (group : OpenGroup) → node.group ≡ Some group → IsBefore g.epoch group.epoch) where
  enters : g.epoch ≡ node.promise → IsBefore (epoch_of node) g.epoch → NamesNode g own node.boot → (marked : List ℕ → Bool) (rows : ℕ → ℕ → List ℕ → Option Row) → Entering own node disk g marked rows
      → IsAct (act_of own node disk (record { node = entered node g marked rows; disk = disk; out = [] }) (Some letter))
  enters promised later names marked rows entering =
      let it : Reaction = record { node = entered node g marked rows; disk = disk; out = [] } in
      -- an open group would be of the epoch that is installed
      let closed : (group : OpenGroup) → node.group ≡ Some group → IsBefore g.epoch group.epoch = λ group opened.
      let p = o.group group opened in
      over (ap (λ (e : EpochId). e.node) (promised ∙ sym p.0) ∙ p.1) group opened in
      acts own node disk it (Some letter)
      (record {
        booted = o.booted;
        promised = o.promised;
        heard = o.heard;
        installed = λ one h. subst (λ (x : Membership). IsAtMost x.epoch node.promise × NamesNode x own node.boot) (some_same g one h) (inr promised, names);
        group = λ group h. ((o.group group h).0, (o.group group h).1, closed group h);
        counted = o.counted;
        joined = o.joined;
      })
      (omega arith) (inr refl) refl (inr (later, promised))
      (membership_from own node disk it (Some letter)
      (λ one h. inr (inl (record { letter = letter; is = refl; holds = body ∙ ap Install (some_same g one h) })))
      (was_open own node disk it (Some letter) refl)
      (had_join own node disk it (Some letter) refl)
      (λ one m x h. absurd m)
      (λ one m. absurd m)
      (λ one m. absurd m))
      (entering_maps own node disk (Some letter) g later node.group [] marked rows entering names (λ one m user boot row h. m) (λ one m user version h. m))

  pub hears_install : (did : Reaction) → HearsInstall own node disk g did → IsAct (act_of own node disk did (Some letter))
  hears_install did (Old why e) = subst (λ d. IsAct (act_of own node disk d (Some letter))) (sym e) (rests own node disk (Some letter) [] o (λ one m. absurd m))
  hears_install did (NotPromised why e) = subst (λ d. IsAct (act_of own node disk d (Some letter))) (sym e) (rests own node disk (Some letter) [] o (λ one m. absurd m))
  hears_install did (NotMember why e) = subst (λ d. IsAct (act_of own node disk d (Some letter))) (sym e) (rests own node disk (Some letter) [] o (λ one m. absurd m))
  hears_install did (Enters promised later names marked rows entering e) = subst (λ d. IsAct (act_of own node disk d (Some letter))) (sym e) (enters promised later names marked rows entering)

-- a member that is found has joined
pub found_joined : (joins : List Joined) (n : ℕ) (member : Member) → member_of (map (λ join. join.member) joins) n ≡ Some member
    → (join : Joined) × Among join joins × (join.member.node ≡ n) × (join.member ≡ member)
found_joined [] n member e = absurd (none_some member e)
found_joined (join ∷ joins) n member e = by (nat_eq join.member.node n) refl (λ h. found_joined joins n member h) e
  where
    by : (t : Bool) → nat_eq join.member.node n ≡ t → (member_of (map (λ join. join.member) joins) n ≡ Some member → (one : Joined) × Among one joins × (one.member.node ≡ n) × (one.member ≡ member))
        → (if t then Some join.member else member_of (map (λ join. join.member) joins) n) ≡ Some member
        → (one : Joined) × Among one (join ∷ joins) × (one.member.node ≡ n) × (one.member ≡ member)
    by true t rest e = (join, inl refl, eqb-true join.member.node n t, some_same join.member member e)
    by false t rest e = let r = rest e in (r.0, inr r.1, r.2, r.3)

-- whoever manages is a member
managing : (claims : List Claim) (members : List Member) (buckets : ℕ) (epoch : EpochId) (rows : List MapRow) → IsAssigned claims members buckets epoch rows
    → (bucket manager : ℕ) → manager_in (slice_get rows bucket) ≡ Some manager → IsOfMembers members manager
managing claims members buckets epoch rows a bucket manager e = by (slice_get rows bucket) refl e
  where
    by : (x : Option MapRow) → slice_get rows bucket ≡ x → manager_in x ≡ Some manager → IsOfMembers members manager
    by None f e = absurd (none_some manager e)
    by (Some row) f e = subst (IsOfMembers members) (some_same row.manager manager e) (⊎_elim
        (λ (k : ClaimedRow claims members bucket row). subst (IsOfMembers members) (sym k.same_node) k.best.counts.of_member)
        (λ (v : FreeRow claims members epoch rows bucket row). v.least.of_member)
        (a.each bucket row f))

-- Installs go to the other members
sent_install : (own : ℕ) (g : Membership) (joins : List Joined) (letter : Letter)
    → Among letter (flat_map (λ join. if nat_eq join.member.node own then [] else letter_to own (Install g) join.member.node ∷ []) joins)
    → (to : ℕ) × (to ≢ own) × (letter_to own (Install g) to ≡ letter)
sent_install own g [] letter m = absurd m
sent_install own g (join ∷ joins) letter m = ⊎_elim
    (λ first. here (nat_eq join.member.node own) refl first)
    (λ rest. sent_install own g joins letter rest)
    (among_either letter (if nat_eq join.member.node own then [] else letter_to own (Install g) join.member.node ∷ [])
    (flat_map (λ join. if nat_eq join.member.node own then [] else letter_to own (Install g) join.member.node ∷ []) joins) m)
  where
    here : (t : Bool) → nat_eq join.member.node own ≡ t → Among letter (if t then [] else letter_to own (Install g) join.member.node ∷ []) → (to : ℕ) × (to ≢ own) × (letter_to own (Install g) to ≡ letter)
    here true e m = absurd m
    here false e m = (join.member.node, (λ same. true≢false (sym (eq-eqb join.member.node own same) ∙ e)), among_one letter (letter_to own (Install g) join.member.node) m)

module _ (own buckets : ℕ) (node : Node) (disk : Disk) (o : NodeInOrder own node disk) where
  concludes_with : (group : OpenGroup) → node.group ≡ Some group → (rows : List MapRow)
      → IsAssigned (flat_map (λ join. join.claims) group.joins) (map (λ join. join.member) group.joins) buckets group.epoch rows
      → (marked : List ℕ → Bool) (told : ℕ → ℕ → List ℕ → Option Row) → Entering own node disk (membership_of group rows) marked told
      → IsAct (act_of own node disk (conclude own node disk group rows marked told) None)
  concludes_with group opened rows assigned marked told entering =
      let g = membership_of group rows in
      let it = conclude own node disk group rows marked told in
      let p = o.group group opened in
      let j = o.joined group opened in
      let members = map (λ join. join.member) group.joins in
      let forms : Forms (act_of own node disk it None) g = record {
        opened = record { old = node; is = refl; group = group; opened = opened; same = refl };
        new = it.node;
        is = refl;
        installed = refl;
        closed = refl;
        managers = λ user manager h. managing (flat_map (λ join. join.claims) group.joins) members buckets group.epoch rows assigned (bucket_at user (length rows)) manager h;
        names = λ n boot was comes. let f = found_joined group.joins n comes.member comes.is in (f.0, f.1, f.2, ap (λ (m : Member). m.boot) f.3 ∙ comes.same, ap (λ (m : Member). m.was) f.3 ∙ comes.from);
      } in
      acts own node disk it None
      (record {
        booted = o.booted;
        promised = o.promised;
        heard = o.heard;
        installed = λ one h. subst (λ (x : Membership). IsAtMost x.epoch node.promise × NamesNode x own node.boot) (some_same g one h) (inr p.0, record { member = j.member; is = j.is; same = j.same });
        group = λ one h. absurd (none_some one h);
        counted = λ one h. absurd (none_some one h);
        joined = λ one h. absurd (none_some one h);
      })
      (omega arith) (inr refl) refl (inr (p.2, p.0))
      (membership_from own node disk it None
      (λ one h. inr (inr (subst (Forms (act_of own node disk it None)) (some_same g one h) forms)))
      (λ one h. absurd (none_some one h))
      (λ one h join m. absurd (none_some one h))
      (λ letter m x h. let s = sent_install own g group.joins letter m in
      subst (Forms (act_of own node disk it None)) (install_same g x (ap (λ (l : Letter). l.body) s.2 ∙ h)) forms)
      (λ letter m epoch promise boot was claims h. let s = sent_install own g group.joins letter m in
      absurd (not_join g epoch promise boot was claims (ap (λ (l : Letter). l.body) s.2 ∙ h)))
      (λ letter m. let s = sent_install own g group.joins letter m in
      (sym (ap (λ (l : Letter). l.from) s.2), λ same. s.1 (ap (λ (l : Letter). l.to) s.2 ∙ same))))
      (entering_maps own node disk None g p.2 None it.out marked told entering (record { member = j.member; is = j.is; same = j.same })
      (λ letter m user boot row h. let s = sent_install own g group.joins letter m in not_report g row (ap (λ (l : Letter). l.body) s.2 ∙ h.is))
      (λ letter m user version h. let s = sent_install own g group.joins letter m in not_ack g user version (ap (λ (l : Letter). l.body) s.2 ∙ h.is)))
    where
      install_same : (x y : Membership) → Install x ≡ Install y → x ≡ y
      install_same x y h = cc

      not_join : (x : Membership) (e p : EpochId) (b : ℕ) (w : EpochId) (k : List Claim) → Install x ≡ Join e p b w k → ⊥
      not_join x e p b w k h = cc

      not_report : (x : Membership) (r : Row) → Install x ≡ Report r → ⊥
      not_report x r h = cc

      not_ack : (x : Membership) (u : List ℕ) (v : ℕ) → Install x ≡ ReportAck u v → ⊥
      not_ack x u v h = cc

  pub concludes : (did : Reaction) → Concludes own buckets node disk did → IsAct (act_of own node disk did None)
  concludes did c = subst (λ d. IsAct (act_of own node disk d None)) (sym c.is) (concludes_with c.group c.opened c.rows c.assigned c.marked c.told c.entering)
