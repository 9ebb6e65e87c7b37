-- What a node does for membership and maps leads both machines by moves.
use Rattle.std.proofs.Common.{◌≡◌, inl, inr, ⊎_elim, ℕ, ◌≤◌, List, [], ◌∷◌, ◌++◌, append-nil, map, Option, Some, None, refl, sym, ap, ◌∙◌, subst, le_of_eq}
use Rattle.mail_model.specs.Identity.{Id, EpochId}
use Rattle.mail_model.specs.Plan.{Plan}
use Rattle.mail_model.specs.Record.{Record}
use Rattle.mail_model.specs.Record.Record.{Promise}
use Rattle.object_model.specs.Lists.{Among}
use Rattle.object_model.specs.Letters.{Number, Body, Letter}
use Rattle.object_model.specs.Letters.Body.{Group, Join, Install, Report, ReportAck}
use Rattle.cluster_model.specs.Cluster as mail_cluster
use Rattle.cluster_model.specs.Claims.{Covers, boot_of, Asks, Tells}
use Rattle.cluster_model.specs.World as mail
use Rattle.cluster_model.specs.World.{letters_of, Leads}
use Rattle.cluster_model.specs.Makes as mail_makes
use Rattle.object_model.proofs.Lists.{among_front, among_behind}
use Rattle.cluster_model.proofs.StoreSteps.{boot_both}
use Rattle.cluster_model.proofs.Stepping.{unheard_leads, down_leads}
use Rattle.maps_model.specs.Cluster as maps
use Rattle.maps_model.specs.Moves as maps_moves
use Rattle.maps_model.specs.Rules as maps_rules
use Rattle.maps_model.specs.NodeLaws.{act_of}
use Rattle.maps_model.specs.Epochs.{IsBefore, IsAtMost}
use Rattle.whole_model.specs.Whole.{Node, Slot, with_slot, maps_slot, maps_disk_of, promise_of}
use Rattle.whole_model.specs.Whole.Life.{Down}
use Rattle.whole_model.specs.Rules.{IsMapsBody, promise_records}
use Rattle.whole_model.proofs.Following.{promise_both}
use Rattle.whole_model.proofs.Leading.{falls_led}
use Rattle.whole_model.proofs.Membership.{membership_acts, membership_led}
use Rattle.whole_world.specs.World.{World, mail_world_of, maps_world_of, slot_up, IsUp, Reaction, after}
use Rattle.whole_world.specs.Makes.{done_for_maps, NodeGoesDown}
use Rattle.whole_world.specs.Laws.{Stands}
use Rattle.whole_world.proofs.Along.{LeadsTo, to_on, taken_to, maps_here, mail_here}
use Rattle.whole_world.proofs.Seeing.{IsPlainMaps, maps_set, put_slots, put_among, mail_did, after_seen, cut_seen}

-- letters of membership and maps cover no wait
covers_nothing : (body : Body) → IsMapsBody body → (asked : mail_cluster.AskedOfNodes) → (Asks body asked → ⊥) × (Tells body asked → ⊥)
covers_nothing (Group epoch) of asked = (λ a. a, λ t. t)
covers_nothing (Join epoch promise boot was claims) of asked = (λ a. a, λ t. t)
covers_nothing (Install g) of asked = (λ a. a, λ t. t)
covers_nothing (Report row) of asked = (λ a. a, λ t. t)
covers_nothing (ReportAck user version) of asked = (λ a. a, λ t. t)
covers_nothing body of asked = absurd of

pub none_covered : (letter : Letter) → IsMapsBody letter.body → (n : Number) (m : ℕ) (asked : mail_cluster.AskedOfNodes) → Covers letter n m asked → ⊥
none_covered letter of n m asked c = ⊎_elim (λ (from, to, a). (covers_nothing letter.body of asked).0 a) (λ (to, from, t). (covers_nothing letter.body of asked).1 t) c.1

module _ (plan : Plan) (old : World) (stands : Stands plan old) where
  abbrev pub seen : mail.World
  seen = mail_world_of old

  abbrev pub May : Id → List ℕ → Type 0
  May = λ id o. ⊥

  abbrev pub MailLeads : mail.World → Type 0
  MailLeads new = Leads plan.confirm May (mail.cluster_of seen) (mail.cluster_of new)

  module _ (own : ℕ) (node : Node) (disk : List Record) (up : IsUp old own node disk) where
    pub mail_up : mail_makes.IsUp seen own node.mail disk
    mail_up = mail_here old.slots own (slot_up node disk) up

    pub ordered : maps_moves.NodeInOrder own node.maps (maps_disk_of disk)
    ordered = stands.sound.maps.order.each own (maps_slot (slot_up node disk)) (maps_here old.slots own (slot_up node disk) up)

    -- it hears nothing
    pub mail_turned : (did : maps_rules.Reaction) (promise : Option EpochId) (out : List Letter) → ((letter : Letter) → Among letter out → IsPlainMaps letter)
        → MailLeads (mail_world_of (after old own (done_for_maps node disk did promise out)))
    mail_turned did promise out plain = subst MailLeads (sym (after_seen old own node disk did promise out plain))
        (unheard_leads plan.confirm May seen own node.mail disk (mail_did node disk did.node.installed promise out) None [] mail_up
        (λ ready. membership_acts own node.mail disk did.node.installed promise None out (λ letter e. absurd (cc e)) (λ letter m. (plain letter m).body) ready)
        (λ user id m. absurd m) (λ content e. absurd (cc e)))

    -- it goes down as it appends a promise
    pub mail_cut : (promise : Option EpochId) (new : World) → NodeGoesDown old own disk (promise_records promise) new → MailLeads (mail_world_of new)
    mail_cut promise new g = down_leads plan.confirm May seen (mail_world_of new) own node.mail disk (mail_did node disk node.mail.installed promise []) None None [] mail_up
        (λ ready. membership_acts own node.mail disk node.mail.installed promise None [] (λ letter e. absurd (cc e)) (λ letter m. absurd m) ready)
        (λ letter e. absurd (cc e)) (λ user id m. absurd m) (λ content e. absurd (cc e))
        (record { front = g.front; pending = g.pending; one = g.one; cut = record { missing = g.missing; is = ap (λ (a : List Record). disk ++ a) g.cut }; is = ap mail_world_of g.is ∙ cut_seen old own disk g.front g.pending })

    -- maps follow the rule, whatever of its letters finds room
    pub maps_turned : (x : World) → x.slots ≡ old.slots → ((letter : Letter) → Among letter (letters_of x.flying) → Among letter (letters_of old.flying))
        → (heard : Option Letter) → ((letter : Letter) → heard ≡ Some letter → Among letter (letters_of old.flying) × (letter.to ≡ own))
        → (from : Node) → from.maps ≡ node.maps
        → (did : maps_rules.Reaction) (promise : Option EpochId) (out : List Letter) → ((letter : Letter) → Among letter out → Among letter did.out)
        → did.disk ≡ maps_disk_of (disk ++ promise_records promise)
        → (maps_moves.IsReady own (maps.slot_up node.maps (maps_disk_of disk)) heard → maps_moves.IsAct (act_of own node.maps (maps_disk_of disk) did heard))
        → LeadsTo (maps_world_of old) (maps_world_of (after x own (done_for_maps from disk did promise out)))
    maps_turned x same flown heard came from is did promise out inside disks acts =
        let now : Reaction = done_for_maps from disk did promise out in
        let led = membership_led own node now.node disk promise heard did disks refl acts (maps_world_of old) (maps_here old.slots own (slot_up node disk) up) came in
        let mid : maps.Cluster = record { slots = map maps_slot (after x own now).slots; flying = letters_of old.flying ++ did.out } in
        let slots : maps.with_slot (map maps_slot old.slots) own (maps_slot (slot_up now.node now.disk)) ≡ map maps_slot (after x own now).slots =
        sym (ap (map maps_slot) (put_slots out (record x { slots = with_slot x.slots own (slot_up now.node now.disk) }) ∙ ap (λ (s : List Slot). with_slot s own (slot_up now.node now.disk)) same) ∙ maps_set old.slots own (slot_up now.node now.disk)) in
        to_on (maps_world_of old) mid (maps_world_of (after x own now))
        (record { moves = led.moves; may = led.may; is = led.is ∙ (λ i. record { slots = slots i; flying = letters_of old.flying ++ did.out }) })
        (taken_to mid.slots mid.flying (letters_of (after x own now).flying) (λ letter m. ⊎_elim
        (λ stood. among_front letter (letters_of old.flying) did.out (flown letter stood))
        (λ sent. among_behind letter (letters_of old.flying) did.out (inside letter sent))
        (put_among out (record x { slots = with_slot x.slots own (slot_up now.node now.disk) }) letter m)))

    pub maps_cut : (promise : Option EpochId) → ((epoch : EpochId) → promise ≡ Some epoch → IsBefore node.maps.promise epoch) → (new : World) → NodeGoesDown old own disk (promise_records promise) new
        → LeadsTo (maps_world_of old) (maps_world_of new)
    maps_cut promise later new g =
        let grown = grows promise refl g.front g.pending g.missing g.cut in
        let led = falls_led own node disk g.front g.pending None grown.0 grown.1 grown.2 grown.3 (maps_world_of old) (maps_here old.slots own (slot_up node disk) up) (λ letter e. absurd (cc e)) in
        record {
          moves = led.moves;
          may = led.may;
          is = led.is ∙ (λ i. record { slots = sym (maps_set old.slots own (record { life = Down g.pending; disk = disk ++ g.front })) i; flying = append-nil (letters_of old.flying) i }) ∙ sym (ap maps_world_of g.is);
        }
      where
        Grown : List Record → List Record → Type 0
        Grown front pending = (boot_of disk ≤ boot_of (disk ++ front)) × (boot_of (disk ++ front) ≤ boot_of ((disk ++ front) ++ pending))
            × IsAtMost (promise_of disk) (promise_of (disk ++ front)) × IsAtMost (promise_of (disk ++ front)) (promise_of ((disk ++ front) ++ pending))

        no_more : Grown [] []
        no_more = subst (λ d. (boot_of disk ≤ boot_of d) × (boot_of d ≤ boot_of (d ++ [])) × IsAtMost (promise_of disk) (promise_of d) × IsAtMost (promise_of d) (promise_of (d ++ []))) (sym (append-nil disk))
            (le_of_eq refl, le_of_eq (sym (ap boot_of (append-nil disk))), inr refl, inr (sym (ap promise_of (append-nil disk))))

        above : (epoch : EpochId) → promise ≡ Some epoch → IsAtMost (promise_of disk) (promise_of (disk ++ Promise epoch ∷ []))
        above epoch is = inl (subst (λ e. IsBefore (promise_of disk) e) (sym (promise_both _ disk (Promise epoch ∷ []))) (subst (λ e. IsBefore e epoch) ordered.promised (later epoch is)))

        same_boot : (epoch : EpochId) → boot_of disk ≡ boot_of (disk ++ Promise epoch ∷ [])
        same_boot epoch = sym (boot_both 0 disk (Promise epoch ∷ []))

        grows : (p : Option EpochId) → promise ≡ p → (front pending missing : List Record) → promise_records promise ≡ (front ++ pending) ++ missing → Grown front pending
        grows p is [] [] missing cut = no_more
        grows None is [] (one ∷ pending) missing cut = absurd (none_more one (pending ++ missing) (sym (ap promise_records is) ∙ cut))
          where
            none_more : (a : Record) (xs : List Record) → [] ≡ a ∷ xs → ⊥
            none_more a xs e = cc
        grows None is (one ∷ front) pending missing cut = absurd (none_more one ((front ++ pending) ++ missing) (sym (ap promise_records is) ∙ cut))
          where
            none_more : (a : Record) (xs : List Record) → [] ≡ a ∷ xs → ⊥
            none_more a xs e = cc
        grows (Some epoch) is [] (one ∷ pending) missing cut = subst (λ (p : List Record). Grown [] p) (only one pending missing (sym (ap promise_records is) ∙ cut))
            (subst (λ d. (boot_of disk ≤ boot_of d) × (boot_of d ≤ boot_of (d ++ Promise epoch ∷ [])) × IsAtMost (promise_of disk) (promise_of d) × IsAtMost (promise_of d) (promise_of (d ++ Promise epoch ∷ []))) (sym (append-nil disk))
            (le_of_eq refl, le_of_eq (same_boot epoch), inr refl, above epoch is))
          where
            only : (a : Record) (xs ys : List Record) → Promise epoch ∷ [] ≡ (a ∷ xs) ++ ys → Promise epoch ∷ [] ≡ a ∷ xs
            only a [] ys e = head a ys e
              where
                head : (a : Record) (ys : List Record) → Promise epoch ∷ [] ≡ a ∷ ys → Promise epoch ∷ [] ≡ a ∷ []
                head a ys e = ap (λ (r : Record). r ∷ []) (first a ys e)
                  where
                    first : (a : Record) (ys : List Record) → Promise epoch ∷ [] ≡ a ∷ ys → Promise epoch ≡ a
                    first a ys e = cc
            only a (b ∷ xs) ys e = absurd (two a b (xs ++ ys) e)
              where
                two : (a b : Record) (ys : List Record) → Promise epoch ∷ [] ≡ a ∷ b ∷ ys → ⊥
                two a b ys e = cc
        grows (Some epoch) is (one ∷ front) pending missing cut =
            let parts = only one front pending missing (sym (ap promise_records is) ∙ cut) in
            subst (λ (f : List Record). Grown f pending) parts.0 (subst (λ (p : List Record). Grown (Promise epoch ∷ []) p) (sym parts.1)
            (le_of_eq (same_boot epoch), le_of_eq (sym (ap boot_of (append-nil (disk ++ Promise epoch ∷ [])))), above epoch is, inr (sym (ap promise_of (append-nil (disk ++ Promise epoch ∷ []))))))
          where
            only : (a : Record) (xs ys zs : List Record) → Promise epoch ∷ [] ≡ ((a ∷ xs) ++ ys) ++ zs → (Promise epoch ∷ [] ≡ a ∷ xs) × (ys ≡ [])
            only a [] [] zs e = (ap (λ (r : Record). r ∷ []) (first a zs e), refl)
              where
                first : (a : Record) (ys : List Record) → Promise epoch ∷ [] ≡ a ∷ ys → Promise epoch ≡ a
                first a ys e = cc
            only a [] (b ∷ ys) zs e = absurd (two a b (ys ++ zs) e)
              where
                two : (a b : Record) (ys : List Record) → Promise epoch ∷ [] ≡ a ∷ b ∷ ys → ⊥
                two a b ys e = cc
            only a (b ∷ xs) ys zs e = absurd (two a b ((xs ++ ys) ++ zs) e)
              where
                two : (a b : Record) (ys : List Record) → Promise epoch ∷ [] ≡ a ∷ b ∷ ys → ⊥
                two a b ys e = cc
