-- A login that is fresh in a settled epoch lists exactly what stands.
use Rattle.std.proofs.Common.{◌≡◌, inl, inr, ⊎_elim, ℕ, Bool, true, false, List, map as list_map, Some, refl, sym, ap, ◌∙◌, subst, true≢false}
use Rattle.std.specs.Prelude.{length}
use Rattle.mail_model.specs.Identity.{Id}
use Rattle.mail_model.specs.Identity.Key.{Message}
use Rattle.mail_model.specs.Identity.Value.{Here}
use Rattle.mail_model.specs.Record.{Record}
use Rattle.mail_model.specs.Listing.{octets_in}
use Rattle.object_model.specs.Sets.{has}
use Rattle.object_model.specs.Lists.{Among}
use Rattle.object_model.specs.Said.{said, is_gone_held}
use Rattle.object_model.specs.Letters.{Number, ToldItem}
use Rattle.object_model.proofs.Lists.{same_some}
use Rattle.cluster_model.specs.Reads.{ListedCopy, IsListedCopy, is_here_held}
use Rattle.cluster_model.proofs.Filing.{among_map, map_among}
use Rattle.login_model.specs.Readings.{ToldList, Login}
use Rattle.login_model.specs.Readings.LoginStage.{AsksNodes}
use Rattle.login_model.specs.Readings.Reading.{LogsIn}
use Rattle.login_model.specs.Cluster.{Node, Slot, Cluster, slot_at, slot_up}
use Rattle.login_model.specs.Cluster.Life.{Up}
use Rattle.login_model.specs.Facts.{Fact, copy_told, WasTrue, StageClaims, StageIsWhole, ReadingIsWhole, LoginIsWhole}
use Rattle.login_model.specs.Facts.Fact.{Manages, Names, Lists}
use Rattle.login_model.specs.Parts.{Sound}
use Rattle.login_model.specs.Listing.{LoginItem, IsToldOf, ListsItems, SameFor, IsFreshLogin, AgreesOn, NamesHolders, MemberLists, ListsStanding, is_later}

same_slot : (node : Node) (disk : List Record) (slot : Slot) → slot_up node disk ≡ slot → slot.life ≡ Up node
same_slot node disk slot e = ap (λ (s : Slot). s.life) (sym e)

module _ (w : Cluster) (s : Sound w) (number : Number) (login : Login) (items : List LoginItem) (l : ListsItems w number login items) (fresh : IsFreshLogin w number login.user)
    (proxy : Node) (disk : List Record) (here : slot_at w.slots number.node ≡ Some (slot_up proxy disk)) (manager : ℕ) (managed : proxy.manager login.user ≡ Some manager)
    (members : ℕ) (n : NamesHolders w.slots members login.user manager) (a : AgreesOn w.slots members login.user) where
  abbrev user : List ℕ
  user = login.user

  -- what was true of a node of lists is so now
  lists_now : (m : ℕ) (told : List ToldItem) → WasTrue w.story number m (Lists user told) → (slot : Slot) → slot_at w.slots m ≡ Some slot → (copy : ListedCopy)
      → (Among copy (list_map copy_told told) → IsListedCopy user slot.disk copy) × (IsListedCopy user slot.disk copy → Among copy (list_map copy_told told))
  lists_now m told was slot at copy =
      let f = fresh was.moment was.inside was.since m was.slot was.here in
      let is : f.0 ≡ slot = same_some (slot_at w.slots m) f.0 slot f.1 at in
      let same : SameFor user was.slot slot = subst (SameFor user was.slot) is f.2 in
      (λ inside. (same.lists copy).0 ((was.shows.shows.exact copy).0 inside), λ lists. (was.shows.shows.exact copy).1 ((same.lists copy).1 lists))

  -- the manager that was asked is the one of the proxy's epoch
  asked_manager : login.manager ≡ manager
  asked_manager =
      let was = s.knows.reads number (LogsIn login) l.reads number.node (Manages user login.manager) (inl (refl, refl)) in
      let f = fresh was.moment was.inside was.since number.node was.slot was.here in
      let up = same_slot proxy disk f.0 (same_some (slot_at w.slots number.node) (slot_up proxy disk) f.0 here f.1) in
      let same = (f.2.named was.shows.node proxy was.shows.up up).1 in
      same_some (proxy.manager user) login.manager manager (sym same ∙ was.shows.shows) managed

  claims : (m : ℕ) (fact : Fact) → StageClaims user login.manager (AsksNodes l.named l.waiting l.told) m fact → WasTrue w.story number m fact
  claims m fact c = s.knows.reads number (LogsIn login) l.reads m fact (inr (subst (λ g. StageClaims user login.manager g m fact) (sym l.stage) c))

  -- what was named is what the manager names now
  named_now : n.node.named user ≡ l.named
  named_now =
      let was = claims login.manager (Names user l.named) (inl (refl, refl)) in
      let f = fresh was.moment was.inside was.since login.manager was.slot was.here in
      let at : slot_at w.slots login.manager ≡ Some (slot_up n.node n.disk) = subst (λ k. slot_at w.slots k ≡ Some (slot_up n.node n.disk)) (sym asked_manager) n.here in
      let up = same_slot n.node n.disk f.0 (same_some (slot_at w.slots login.manager) (slot_up n.node n.disk) f.0 at f.1) in
      sym (f.2.named was.shows.node n.node was.shows.up up).0 ∙ was.shows.shows

  whole : StageIsWhole l.named l.waiting l.told
  whole =
      let r = l.reads.reads in
      let o = ((s.order.each number.node l.reads.slot l.reads.here).each r.node r.up).whole number.seq r.ticket r.here in
      subst LoginIsWhole l.stage (subst ReadingIsWhole r.is o)

  told_by : (list : ToldList) → Among list l.told → WasTrue w.story number list.node (Lists user list.items)
  told_by list inside = claims list.node (Lists user list.items) (inr (list, inside, refl, refl))

  -- who tells a message lists it now, and is a member
  told_lists : (id : Id) (m : ℕ) (one : ToldItem) → IsToldOf l.told id m one → MemberLists w.slots members user id m
  told_lists id m one t =
      let was = told_by t.list t.inside in
      let f = fresh was.moment was.inside was.since t.list.node was.slot was.here in
      subst (MemberLists w.slots members user id) t.from (record {
        member = n.members_only t.list.node (subst (λ k. has k t.list.node ≡ true) (sym named_now) (whole.told_named t.list t.inside));
        slot = f.0;
        here = f.1;
        copy = copy_told one;
        lists = (lists_now t.list.node t.list.items was f.0 f.1 (copy_told one)).0 (map_among copy_told one t.list.items t.item);
        same = t.same;
      })

  told_copy : (id : Id) (m : ℕ) (one : ToldItem) → IsToldOf l.told id m one → (h : MemberLists w.slots members user id m) × (h.copy ≡ copy_told one)
  told_copy id m one t =
      let was = told_by t.list t.inside in
      let f = fresh was.moment was.inside was.since t.list.node was.slot was.here in (
        record {
          member = subst (λ k. has members k ≡ true) t.from (n.members_only t.list.node (subst (λ k. has k t.list.node ≡ true) (sym named_now) (whole.told_named t.list t.inside)));
          slot = f.0;
          here = subst (λ k. slot_at w.slots k ≡ Some f.0) t.from f.1;
          copy = copy_told one;
          lists = (lists_now t.list.node t.list.items was f.0 f.1 (copy_told one)).0 (map_among copy_told one t.list.items t.item);
          same = t.same;
        },
        refl,
      )

  here_of : (copy : ListedCopy) (records : List Record) → IsListedCopy user records copy → is_here_held (said (Message user copy.id) records) ≡ true
  here_of copy records c = ap is_here_held c.says

  -- and whoever lists it now told it
  lists_told : (id : Id) (m : ℕ) (h : MemberLists w.slots members user id m) → (one : ToldItem) × IsToldOf l.told id m one × (copy_told one ≡ h.copy)
  lists_told id m h = ⊎_elim
      (λ waits. absurd (l.nobody m waits))
      (λ (list, inside, from).
      let at : slot_at w.slots list.node ≡ Some h.slot = subst (λ k. slot_at w.slots k ≡ Some h.slot) (sym from) h.here in
      let r = among_map copy_told h.copy list.items ((lists_now list.node list.items (told_by list inside) h.slot at h.copy).1 h.lists) in
      (r.0, record { list = list; inside = inside; from = from; item = r.1; same = ap (λ (c : ListedCopy). c.id) r.2 ∙ h.same }, r.2))
      (whole.covered m (subst (λ k. has k m ≡ true) named_now (n.holders m h.slot h.member h.here h.copy.id (here_of h.copy h.slot.disk h.lists))))

  -- no member says that it is gone
  not_gone : (id : Id) (m : ℕ) → MemberLists w.slots members user id m → (b : ℕ) (slot : Slot) → has members b ≡ true → slot_at w.slots b ≡ Some slot
      → is_gone_held (said (Message user id) slot.disk) ≡ false
  not_gone id m h b slot member at = by (is_gone_held (said (Message user id) slot.disk)) refl
    where
      by : (t : Bool) → is_gone_held (said (Message user id) slot.disk) ≡ t → is_gone_held (said (Message user id) slot.disk) ≡ false
      by false e = e
      by true e =
          let mine : said (Message user id) h.slot.disk ≡ Some (record { value = Here; stamp = h.copy.stamp; targets = h.copy.targets }) =
          subst (λ i. said (Message user i) h.slot.disk ≡ Some (record { value = Here; stamp = h.copy.stamp; targets = h.copy.targets })) h.same h.lists.says in
          absurd (true≢false (sym (a.gone b m slot h.slot member h.member at h.here id e) ∙ ap is_gone_held mine))

  pub fresh_lists : ListsStanding w.slots members user items
  fresh_lists = record {
    exact = λ id. (
      λ stands. let t = lists_told id stands.m stands.holds in l.merge.all id stands.m t.0 t.1,
      λ (item, inside, same).
          let latest = (l.merge.each item inside).latest in
          let h = told_lists id latest.m latest.one (subst (λ i. IsToldOf l.told i latest.m latest.one) same latest.is) in
          record { m = latest.m; holds = h; not_gone = not_gone id latest.m h },
    );
    once = l.merge.once;
    rising = l.merge.rising;
    stamps = λ item inside.
        let merged = l.merge.each item inside in
        let latest = merged.latest in
        let listed_ = told_copy item.id latest.m latest.one latest.is in
        record {
          m = latest.m;
          lists = listed_.0;
          same = ap (λ (c : ListedCopy). c.stamp) listed_.1 ∙ latest.holds.0;
          none_later = λ n other.
              let x = lists_told item.id n other in
              subst (λ (c : ListedCopy). is_later c.stamp item.stamp ≡ false) x.2 (merged.none_later n x.0 x.1);
        };
    sizes = λ item inside m slot octets at held.
        let latest = (l.merge.each item inside).latest in
        let was = told_by latest.is.list latest.is.inside in
        let f = fresh was.moment was.inside was.since latest.is.list.node was.slot was.here in
        let listed_ = (lists_now latest.is.list.node latest.is.list.items was f.0 f.1 (copy_told latest.one)).0 (map_among copy_told latest.one latest.is.list.items latest.is.item) in
        let mine : octets_in item.id f.0.disk ≡ Some listed_.octets = subst (λ i. octets_in i f.0.disk ≡ Some listed_.octets) latest.is.same listed_.held in
        sym latest.holds.1 ∙ listed_.size ∙ ap (λ (x : List ℕ). length x) (a.contents latest.is.list.node m f.0 slot f.1 at item.id listed_.octets octets mine held);
    holders = λ item inside m. (
      λ h. let t = ((l.merge.each item inside).holders m).0 h in subst (MemberLists w.slots members user item.id) t.holds (told_lists item.id t.m t.one t.is),
      λ h. let t = lists_told item.id m h in ((l.merge.each item inside).holders m).1 (record { m = m; one = t.0; is = t.1; holds = refl }),
    );
  }
