-- A call that begins is a list of moves, however it ends.
use Rattle.std.proofs.Common.{◌≡◌, ◌+◌, ℕ, Bool, true, List, [], map, Option, Some, None, refl, sym, ap, ◌∙◌, subst, arith}
use Rattle.mail_model.specs.Identity.{Id}
use Rattle.mail_model.specs.Plan.{Plan}
use Rattle.mail_model.specs.Record.{Record}
use Rattle.mail_model.specs.Book.{BookEntry}
use Rattle.mail_model.specs.Book.BookEntry.{Struck as StruckEntry}
use Rattle.object_model.specs.Lists.{Among}
use Rattle.object_model.specs.Sets.{has, nodes_in}
use Rattle.cluster_model.specs.Cluster.{Node, slot_at, members_of}
use Rattle.cluster_model.specs.Cluster.CallKind.{Fetching}
use Rattle.cluster_model.specs.Moves.{Content, IsReady, IsCallDone, MayEnter}
use Rattle.cluster_model.specs.Rules.{refuse}
use Rattle.cluster_model.specs.Targets.{strike_asks}
use Rattle.cluster_model.specs.Deeds.{slot_up, act_of, IsOfPlan}
use Rattle.cluster_model.specs.NodeLaws.{content_of}
use Rattle.cluster_model.specs.World.{World, Leads, cluster_of}
use Rattle.cluster_model.specs.Steps.{Struck, NodeCall, Said, mishaps_of_call, ids_drawn}
use Rattle.cluster_model.specs.Steps.NodeCall.{Deliver, Login, Fetch, Strike, Leave}
use Rattle.cluster_model.specs.Steps.Step.{Begin}
use Rattle.cluster_model.specs.Makes.{IsUp, struck_entries, with_struck, targets_for, asked_for, IsFiled, begun_by, NodeGoesDown, BeginsCall}
use Rattle.cluster_model.specs.Makes.BeginsCall.{FailsAtOnce, Goes, FailsInIt}
use Rattle.cluster_model.specs.WorldLaws.{FiledBy, MayBring}
use Rattle.object_model.proofs.Lists.{among_behind}
use Rattle.cluster_model.proofs.Aims.{nodes_within, targets_are_members, asks_are_members}
use Rattle.cluster_model.proofs.Filing.{among_map, map_among}
use Rattle.cluster_model.proofs.BeginDeliver.{deliver_acts}
use Rattle.cluster_model.proofs.BeginStrike.{strike_begins}
use Rattle.cluster_model.proofs.Closing.{refuse_acts}
use Rattle.cluster_model.proofs.Leading.{no_move, led_on, entered_leads}
use Rattle.cluster_model.proofs.Stepping.{unheard_leads, down_leads, cut_nothing}

-- what a call files and what it is to delete
abbrev files_of : ℕ → Node → NodeCall → List ℕ → Option Content
files_of own node (Deliver mail) octets = Some (content_of own node mail.mailboxes octets)
files_of own node call octets = None

abbrev strikes_of : Plan → ℕ → Node → NodeCall → List (List ℕ × Id)
strikes_of plan own node (Strike user items) = map (λ pair. (user, pair.0)) (asked_for plan own node items)
strikes_of plan own node call = []

module _ (plan : Plan) (tells : Bool) (old : World) (own : ℕ) (numbered : IsOfPlan own plan.nodes) where
  -- the entries of what is to be deleted
  struck_leads : (May : Id → List ℕ → Type 0) (call : NodeCall) → Leads plan.confirm May (cluster_of old) (cluster_of (with_struck old call))
  struck_leads May (Deliver mail) = no_move plan.confirm May (cluster_of old) (cluster_of old) refl
  struck_leads May (Login user proof) = no_move plan.confirm May (cluster_of old) (cluster_of old) refl
  struck_leads May (Fetch user id from most holders) = no_move plan.confirm May (cluster_of old) (cluster_of old) refl
  struck_leads May (Leave user login manager) = no_move plan.confirm May (cluster_of old) (cluster_of old) refl
  struck_leads May (Strike user items) = entered_leads plan.confirm May (struck_entries user items) (cluster_of old) (λ entry m.
      let r = among_map (λ (item : Struck). StruckEntry user item.id) entry items m in subst (λ (x : BookEntry). MayEnter plan.confirm x old.slots) r.2 tt)

  still_up : (call : NodeCall) (node : Node) (disk : List Record) → IsUp old own node disk → slot_at (with_struck old call).slots own ≡ Some (slot_up node disk)
  still_up (Deliver mail) node disk up = up
  still_up (Login user proof) node disk up = up
  still_up (Fetch user id from most holders) node disk up = up
  still_up (Strike user items) node disk up = up
  still_up (Leave user login manager) node disk up = up

  -- what is struck is in the book
  is_struck : (node : Node) (call : NodeCall) (user : List ℕ) (id : Id) → Among (user, id) (strikes_of plan own node call) → Among (StruckEntry user id) (with_struck old call).book
  is_struck node (Deliver mail) user id m = absurd m
  is_struck node (Login name proof) user id m = absurd m
  is_struck node (Fetch name other from most holders) user id m = absurd m
  is_struck node (Leave name login manager) user id m = absurd m
  is_struck node (Strike name items) user id m =
      let pair = among_map (λ (p : Id × ℕ). (name, p.0)) (user, id) (asked_for plan own node items) m in
      let item = among_map (λ (s : Struck). (s.id, strike_asks plan.confirm own s.targets (nodes_in (members_of node) plan.nodes))) pair.0 items pair.1 in
      among_behind (StruckEntry user id) old.book (struck_entries name items)
      (subst (λ (e : BookEntry). Among e (struck_entries name items))
      (λ i. StruckEntry ((ap (λ (p : List ℕ × Id). p.0) pair.2) i) ((ap (λ (p : Id × ℕ). p.0) item.2 ∙ ap (λ (p : List ℕ × Id). p.1) pair.2) i))
      (map_among (λ (s : Struck). StruckEntry name s.id) item.0 items item.1))

  -- a call that goes on is an act
  goes_acts : (node : Node) (disk : List Record) (call : NodeCall) (octets : List ℕ) → IsFiled old own node call octets → IsReady own (slot_up node disk) None
      → IsCallDone (act_of own node disk (begun_by plan old own node disk call octets) None (files_of own node call octets) (strikes_of plan own node call))
  goes_acts node disk (Deliver mail) octets filed ready = deliver_acts own plan.nodes old.seconds node disk mail.mailboxes octets (targets_for plan own node)
      (λ m h. nodes_within (members_of node) plan.nodes m (targets_are_members plan.copies own (node.drawn + 1) (nodes_in (members_of node) plan.nodes) m h)) filed.1 ready
  goes_acts node disk (Login user proof) octets filed ready = absurd filed
  goes_acts node disk (Fetch user id from most holders) octets filed ready = absurd filed
  goes_acts node disk (Leave user login manager) octets filed ready = absurd filed
  goes_acts node disk (Strike user items) octets filed ready = strike_begins own plan.nodes numbered.some numbered.within numbered.few node disk user (asked_for plan own node items)
      (λ pair m n h.
      let item = among_map (λ (s : Struck). (s.id, strike_asks plan.confirm own s.targets (nodes_in (members_of node) plan.nodes))) pair items m in
      nodes_within (members_of node) plan.nodes n (asks_are_members plan.confirm own item.0.targets (nodes_in (members_of node) plan.nodes) n
      (subst (λ a. has a n ≡ true) (sym (ap (λ (p : Id × ℕ). p.1) item.2)) h)))
      ready

  -- what it files is the message that was told
  files_told : (node : Node) (disk : List Record) (call : NodeCall) (octets : List ℕ) → IsUp old own node disk → IsFiled old own node call octets
      → (content : Content) → files_of own node call octets ≡ Some content → MayBring old (Begin own call) content.id content.octets
  files_told node disk (Deliver mail) octets up filed content e = subst (λ (c : Content). FiledBy old own mail c.id c.octets) (same content e)
      (record { node = node; disk = disk; up = up; same_id = refl; stored = filed.0 })
    where
      same : (c : Content) → Some (content_of own node mail.mailboxes octets) ≡ Some c → content_of own node mail.mailboxes octets ≡ c
      same c e = cc
  files_told node disk (Login user proof) octets up filed content e = absurd (cc e)
  files_told node disk (Fetch user id from most holders) octets up filed content e = absurd (cc e)
  files_told node disk (Strike user items) octets up filed content e = absurd (cc e)
  files_told node disk (Leave user login manager) octets up filed content e = absurd (cc e)

  -- its disk fails in it, or memory runs out
  pub fails_lead : (call : NodeCall) (node : Node) (disk : List Record) (octets : List ℕ) (new : World) → IsUp old own node disk → IsFiled old own node call octets
      → NodeGoesDown (with_struck old call) own disk (begun_by plan old own node disk call octets).disk new → Leads plan.confirm (MayBring old (Begin own call)) (cluster_of old) (cluster_of new)
  fails_lead call node disk octets new up filed g = led_on plan.confirm (MayBring old (Begin own call)) (cluster_of old) (cluster_of (with_struck old call)) (cluster_of new)
      (struck_leads (MayBring old (Begin own call)) call)
      (down_leads plan.confirm (MayBring old (Begin own call)) (with_struck old call) new own node disk (begun_by plan old own node disk call octets) None (files_of own node call octets) (strikes_of plan own node call)
      (still_up call node disk up) (λ ready. goes_acts node disk call octets filed ready) (λ letter e. absurd (cc e)) (λ user id m. is_struck node call user id m) (λ content e. files_told node disk call octets up filed content e) g)

  pub begins_lead : (call : NodeCall) (said : Said) (new : World) → BeginsCall plan tells old own call said new → Leads plan.confirm (MayBring old (Begin own call)) (cluster_of old) (cluster_of new)
  begins_lead call said new (FailsAtOnce node disk kind up of_kind fails is new_world) = subst (λ (w : World). Leads plan.confirm (MayBring old (Begin own call)) (cluster_of old) (cluster_of w)) (sym new_world)
      (led_on plan.confirm (MayBring old (Begin own call)) (cluster_of old) (cluster_of (with_struck old call)) _
      (struck_leads (MayBring old (Begin own call)) call)
      (unheard_leads plan.confirm (MayBring old (Begin own call)) (with_struck old call) own node disk (refuse kind (mishaps_of_call plan old.seconds node call) (ids_drawn call) node disk) None []
      (still_up call node disk up) (λ ready. refuse_acts own node disk ready kind (mishaps_of_call plan old.seconds node call) (ids_drawn call)) (λ user id m. absurd m) (λ content e. absurd (cc e))))
  begins_lead call said new (Goes node disk octets up fails filed is new_world) = subst (λ (w : World). Leads plan.confirm (MayBring old (Begin own call)) (cluster_of old) (cluster_of w)) (sym new_world)
      (led_on plan.confirm (MayBring old (Begin own call)) (cluster_of old) (cluster_of (with_struck old call)) _
      (struck_leads (MayBring old (Begin own call)) call)
      (unheard_leads plan.confirm (MayBring old (Begin own call)) (with_struck old call) own node disk (begun_by plan old own node disk call octets) (files_of own node call octets) (strikes_of plan own node call)
      (still_up call node disk up) (λ ready. goes_acts node disk call octets filed ready) (λ user id m. is_struck node call user id m) (λ content e. files_told node disk call octets up filed content e)))
  begins_lead call said new (FailsInIt node disk octets up filed is g) = fails_lead call node disk octets new up filed g
