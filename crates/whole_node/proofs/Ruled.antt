-- What each rule of messages appends leads the maps along, once its copies were noted.
use Rattle.std.proofs.Common.{◌≡◌, ℕ, ◌+◌, Bool, true, false, not, ◌&&◌, List, [], ◌∷◌, ◌++◌, map, Option, Some, None, refl, sym, ap, ◌∙◌, subst, append-nil, if◌then◌else◌, nat_eq}
use Rattle.std.specs.Prelude.{flat_map}
use Rattle.std.specs.FinMap as fin
use Rattle.mail_model.specs.Identity.{Id, Stamp, Key, Value, State}
use Rattle.mail_model.specs.Identity.Key.{Profile, Message}
use Rattle.mail_model.specs.Identity.Value.{Here, Gone}
use Rattle.mail_model.specs.Listing.{is_here}
use Rattle.mail_model.specs.Record.{Record}
use Rattle.mail_model.specs.Record.Record.{Octets, Retired}
use Rattle.object_model.specs.Sets.{has, one_node, with_node, all_nodes}
use Rattle.object_model.proofs.SetLaws.{has_none}
use Rattle.object_model.specs.States.{is_same_state, join_with}
use Rattle.object_model.proofs.StateLaws.{later_is}
use Rattle.object_model.specs.Said.{said}
use Rattle.object_model.specs.Letters.{DeletionMark, Body, Letter}
use Rattle.object_model.specs.Letters.Body.{File, Filed, LoginAsk, LoginTold, ListAsk, ListTold, FetchAsk, FetchTold, Strike, StrikeTold, Unlock, Push, PushAck, Retire, Group, Join, Install, Report, ReportAck}
use Rattle.object_model.specs.UpdateLog.{Logged, cleared}
use Rattle.object_model.proofs.SaidLaws.{said_octets}
use Rattle.cluster_model.specs.Cluster as plain
use Rattle.cluster_model.specs.Store.{Store, Update, take_all, here_updates, gone_updates, is_wanted, with_octets}
use Rattle.cluster_model.specs.Rules as rules
use Rattle.cluster_model.specs.Reads.{is_here_held}
use Rattle.cluster_model.specs.Deeds.{hear, hear_body}
use Rattle.cluster_model.proofs.Takes.{took_join}
use Rattle.mailbox_fragment.specs.Here.{is_here_in}
use Rattle.cluster_model.specs.Thrown.{with_stamps}
use Rattle.node_maps.specs.Nodes.{own_of}
use Rattle.node_maps.specs.declared.maps.NodeMaps.{NodeMaps}
use Rattle.whole_node.specs.Nodes.{KnowsHere}
use Rattle.whole_node.specs.Noting.{Copy, NotesCopies, copies_named, copies_of_key, copies_confirmed}
use Rattle.whole_node.proofs.Ranks.{TakeAll}
use Rattle.whole_node.proofs.Noted.{notes_nothing}
use Rattle.whole_node.proofs.Taking.{Leads, leads_none, leads_on, leads_still, leads_retired, copies_of, all_taken}

-- copies for each user, and for each mark
here_copies : (id : Id) (stamp : Stamp) (targets : ℕ) (users : List (List ℕ)) → copies_of (here_updates id stamp targets users) ≡ map (λ user. (user, id)) users
here_copies id stamp targets [] = refl
here_copies id stamp targets (user ∷ users) = ap (λ (l : List Copy). (user, id) ∷ l) (here_copies id stamp targets users)

all_here : (id : Id) (stamp : Stamp) (targets : ℕ) (users : List (List ℕ)) → TakeAll Here (here_updates id stamp targets users)
all_here id stamp targets [] = tt
all_here id stamp targets (user ∷ users) = (refl, all_here id stamp targets users)

gone_copies : (user : List ℕ) (targets : ℕ) (marks : List DeletionMark) → copies_of (gone_updates user targets marks) ≡ map (λ mark. (user, mark.id)) marks
gone_copies user targets [] = refl
gone_copies user targets (mark ∷ marks) = ap (λ (l : List Copy). (user, mark.id) ∷ l) (gone_copies user targets marks)

all_gone : (user : List ℕ) (targets : ℕ) (marks : List DeletionMark) → TakeAll Gone (gone_updates user targets marks)
all_gone user targets [] = tt
all_gone user targets (mark ∷ marks) = (refl, all_gone user targets marks)

module _ (own : ℕ) (disk : List Record) (old : NodeMaps) (is : own_of old ≡ own) (knows : KnowsHere disk old) where
  leads_octets : (id : Id) (users : List (List ℕ)) (octets : List ℕ) → Leads own disk (with_octets id users octets disk) old old
  leads_octets id users octets = by (is_wanted id users disk)
    where
      by : (b : Bool) → Leads own disk (disk ++ (if b then Octets id octets ∷ [] else [])) old old
      by true = leads_still own disk (Octets id octets) old is knows refl (λ user one. said_octets (Message user one) disk id octets)
      by false = subst (λ (d : List Record). Leads own disk d old old) (sym (append-nil disk)) (leads_none own disk old is knows)

  leads_pushed : (key : Key) (octets : Option (List ℕ)) → Leads own disk (rules.with_pushed key octets disk) old old
  leads_pushed (Profile user) octets = leads_none own disk old is knows
  leads_pushed (Message user id) None = leads_none own disk old is knows
  leads_pushed (Message user id) (Some octets) = leads_octets id (user ∷ []) octets

  -- octets, and then states of one value
  leads_taken : (value : Value) (updates : List Update) (node : plain.Node) (mid : List Record) (new : NodeMaps) → TakeAll value updates → Leads own disk mid old old
      → NotesCopies (take_all own updates (rules.store_of node mid)).disk (copies_of updates) old new → Leads own disk (take_all own updates (rules.store_of node mid)).disk old new
  leads_taken value updates node mid new all first notes =
      leads_on own disk mid (take_all own updates (rules.store_of node mid)).disk old old new first (all_taken own value updates all (rules.store_of node mid) old new is first.knows notes)

  pub leads_filed : (node : plain.Node) (new : NodeMaps) (id : Id) (stamp : Stamp) (targets : ℕ) (users : List (List ℕ)) (octets : List ℕ)
      → NotesCopies (take_all own (here_updates id stamp targets users) (rules.store_of node (with_octets id users octets disk))).disk (map (λ user. (user, id)) users) old new
      → Leads own disk (take_all own (here_updates id stamp targets users) (rules.store_of node (with_octets id users octets disk))).disk old new
  leads_filed node new id stamp targets users octets notes =
      leads_taken Here (here_updates id stamp targets users) node (with_octets id users octets disk) new (all_here id stamp targets users) (leads_octets id users octets)
      (subst (λ (l : List Copy). NotesCopies (take_all own (here_updates id stamp targets users) (rules.store_of node (with_octets id users octets disk))).disk l old new) (sym (here_copies id stamp targets users)) notes)

  pub leads_struck : (node : plain.Node) (new : NodeMaps) (user : List ℕ) (targets : ℕ) (marks : List DeletionMark)
      → NotesCopies (take_all own (gone_updates user targets marks) (rules.store_of node disk)).disk (map (λ mark. (user, mark.id)) marks) old new
      → Leads own disk (take_all own (gone_updates user targets marks) (rules.store_of node disk)).disk old new
  leads_struck node new user targets marks notes =
      leads_taken Gone (gone_updates user targets marks) node disk new (all_gone user targets marks) (leads_none own disk old is knows)
      (subst (λ (l : List Copy). NotesCopies (take_all own (gone_updates user targets marks) (rules.store_of node disk)).disk l old new) (sym (gone_copies user targets marks)) notes)

  one_copy : (key : Key) (state : State) → copies_of (record { key = key; state = state } ∷ []) ≡ copies_of_key key
  one_copy (Profile user) state = refl
  one_copy (Message user id) state = refl

  -- one state, and before it perhaps octets
  leads_one : (node : plain.Node) (mid : List Record) (new : NodeMaps) (key : Key) (state : State) → Leads own disk mid old old
      → NotesCopies (take_all own (record { key = key; state = state } ∷ []) (rules.store_of node mid)).disk (copies_of_key key) old new
      → Leads own disk (take_all own (record { key = key; state = state } ∷ []) (rules.store_of node mid)).disk old new
  leads_one node mid new key state first notes =
      leads_taken state.value (record { key = key; state = state } ∷ []) node mid new (refl, tt) first
      (subst (λ (l : List Copy). NotesCopies (take_all own (record { key = key; state = state } ∷ []) (rules.store_of node mid)).disk l old new) (sym (one_copy key state)) notes)

  leads_same : (new : NodeMaps) → new ≡ old → Leads own disk disk old new
  leads_same new same = subst (Leads own disk disk old) (sym same) (leads_none own disk old is knows)

  leads_acked : (nodes : ℕ) (node : plain.Node) (new : NodeMaps) (key : Key) (state : State) (from : ℕ) (o : Option Logged) → new ≡ old
      → Leads own disk (rules.acked_at own nodes node disk key state from o).disk old new
  leads_acked nodes node new key state from None same = leads_same new same
  leads_acked nodes node new key state from (Some entry) same = by (is_same_state entry.state state && has entry.remaining from)
    where
      shrinks : (b : Bool) → Leads own disk ((λ (r : rules.Reaction). r.disk) (if b then record {
        node = record node { log = fin.remove node.log key };
        disk = disk ++ Retired key (cleared from entry).state ∷ [];
        out = rules.letters_to own (plain.epoch_of node) None (rules.receivers own (cleared from entry).state.targets nodes) (Retire key (cleared from entry).state);
      } else record { node = record node { log = fin.insert node.log key (cleared from entry) }; disk = disk; out = [] })) old new
      shrinks true = subst (Leads own disk (disk ++ Retired key (cleared from entry).state ∷ []) old) (sym same) (leads_retired own disk key (cleared from entry).state old is knows)
      shrinks false = leads_same new same

      by : (b : Bool) → Leads own disk ((λ (r : rules.Reaction). r.disk) (if b then rules.shrunk own nodes node disk key (cleared from entry) else rules.idle node disk)) old new
      by true = shrinks (nat_eq (cleared from entry).remaining 0)
      by false = leads_same new same

  leads_retire : (node : plain.Node) (new : NodeMaps) (key : Key) (state : State) (o : Option Logged) → new ≡ old → Leads own disk (rules.retired_at node disk key state o).disk old new
  leads_retire node new key state None same = leads_same new same
  leads_retire node new key state (Some entry) same = by (is_same_state entry.state state)
    where
      by : (b : Bool) → Leads own disk ((λ (r : rules.Reaction). r.disk) (if b then record { node = record node { log = fin.remove node.log key }; disk = disk ++ Retired key entry.state ∷ []; out = [] } else rules.idle node disk)) old new
      by true = subst (Leads own disk (disk ++ Retired key entry.state ∷ []) old) (sym same) (leads_retired own disk key entry.state old is knows)
      by false = leads_same new same

  leads_told : (node : plain.Node) (new : NodeMaps) (letter : Letter) (o : Option plain.Ticket) → new ≡ old → Leads own disk (rules.told_at node disk letter o).disk old new
  leads_told node new letter None same = leads_same new same
  leads_told node new letter (Some ticket) same = leads_same new same

  -- what a letter says is done
  leads_body : (nodes : ℕ) (node : plain.Node) (new : NodeMaps) (letter : Letter) (body : Body) → NotesCopies (hear_body own nodes node disk letter body).disk (copies_named body) old new
      → Leads own disk (hear_body own nodes node disk letter body).disk old new
  leads_body nodes node new letter (File id stamp targets users octets) notes = leads_filed node new id stamp targets users octets notes
  leads_body nodes node new letter (Filed id) same = leads_told node new letter (rules.ticket_at own node letter.ticket) same
  leads_body nodes node new letter (Strike user marks) notes = leads_struck node new user (all_nodes nodes) marks notes
  leads_body nodes node new letter (StrikeTold user ids) same = leads_told node new letter (rules.ticket_at own node letter.ticket) same
  leads_body nodes node new letter (Push key state octets) notes = leads_one node (rules.with_pushed key octets disk) new key state (leads_pushed key octets) notes
  leads_body nodes node new letter (PushAck key state) same = leads_acked nodes node new key state letter.from (fin.get node.log key) same
  leads_body nodes node new letter (Retire key state) same = leads_retire node new key state (fin.get node.log key) same
  leads_body nodes node new letter (LoginAsk user proof) same = leads_same new same
  leads_body nodes node new letter (LoginTold word) same = leads_same new same
  leads_body nodes node new letter (ListAsk user) same = leads_same new same
  leads_body nodes node new letter (ListTold items) same = leads_same new same
  leads_body nodes node new letter (FetchAsk user id at most) same = leads_same new same
  leads_body nodes node new letter (FetchTold part) same = leads_same new same
  leads_body nodes node new letter (Unlock user login) same = leads_same new same
  leads_body nodes node new letter (Group epoch) same = leads_same new same
  leads_body nodes node new letter (Join epoch promise boot was claims) same = leads_same new same
  leads_body nodes node new letter (Install membership) same = leads_same new same
  leads_body nodes node new letter (Report row) same = leads_same new same
  leads_body nodes node new letter (ReportAck user version) same = leads_same new same

  pub leads_heard : (nodes : ℕ) (node : plain.Node) (new : NodeMaps) (letter : Letter) → NotesCopies (hear own nodes node disk letter).disk (copies_named letter.body) old new
      → Leads own disk (hear own nodes node disk letter).disk old new
  leads_heard nodes node new letter notes = leads_body nodes (with_stamps letter.body node) new letter letter.body notes

  -- A copy that gets a target more is here before and after, so nothing is to be noted.
  pub leads_widened : (node : plain.Node) (user : List ℕ) (id : Id) (to : ℕ) → Leads own disk (rules.widen own to (Message user id) node disk).disk old old
  leads_widened node user id to = by (said (Message user id) disk) refl
    where
      wider : (held : State) → State
      wider held = record held { targets = with_node held.targets to }

      still : (held : State) → said (Message user id) disk ≡ Some held
          → is_here_in old.fragments user id ≡ is_here_held (said (Message user id) (take_all own (record { key = Message user id; state = record held { targets = with_node held.targets to } } ∷ []) (rules.store_of node disk)).disk)
      still held says = knows user id ∙ ap is_here_held says
          ∙ sym (later_is (λ (v : Value). is_here v ≡ is_here held.value) held (record held { targets = with_node held.targets to }) refl refl)
          ∙ ap (λ (o : Option State). is_here_held (Some (join_with o (record held { targets = with_node held.targets to })))) (sym says)
          ∙ sym (ap is_here_held (took_join own (record { key = Message user id; state = record held { targets = with_node held.targets to } }) (rules.store_of node disk)).0)

      widens : (held : State) → said (Message user id) disk ≡ Some held → (b : Bool)
          → Leads own disk ((λ (r : rules.Reaction). r.disk) (if b then (let updates = record { key = Message user id; state = record held { targets = with_node held.targets to } } ∷ [] in
          let store = take_all own updates (rules.store_of node disk) in
          record { node = rules.with_updates own node updates store; disk = store.disk; out = [] }) else rules.idle node disk)) old old
      widens held says true = leads_one node disk old (Message user id) (record held { targets = with_node held.targets to }) (leads_none own disk old is knows)
          (old, notes_nothing old user id (is_here_held (said (Message user id) (take_all own (record { key = Message user id; state = record held { targets = with_node held.targets to } } ∷ []) (rules.store_of node disk)).disk)) (still held says), refl)
      widens held says false = leads_none own disk old is knows

      by : (o : Option State) → said (Message user id) disk ≡ o → Leads own disk (rules.widened own to (Message user id) node disk o).disk old old
      by None says = leads_none own disk old is knows
      by (Some held) says = widens held says (is_here held.value && not (has held.targets to))

  -- what a call files itself
  pub leads_delivered : (nodes seconds : ℕ) (node : plain.Node) (new : NodeMaps) (users : List (List ℕ)) (octets : List ℕ) (targets : ℕ) → has (one_node own) own ≡ true
      → (filing : plain.NodeFiling) → filing.users ≡ users → filing.id ≡ record { node = own; boot = node.boot; seq = node.drawn + 1 }
      → NotesCopies (rules.begin_deliver own nodes seconds node disk users octets targets).disk (flat_map (copies_confirmed own) (rules.new_want own (plain.AskedOfNodes.Copies filing) targets ∷ [])) old new
      → Leads own disk (rules.begin_deliver own nodes seconds node disk users octets targets).disk old new
  leads_delivered nodes seconds node new users octets targets one filing whom which notes = by (has targets own) refl notes
    where
      id : Id
      id = record { node = own; boot = node.boot; seq = node.drawn + 1 }

      stamp : Stamp
      stamp = record { count = node.count + 1; boot = node.boot; node = own }

      disk_for : Bool → List Record
      disk_for b = (if b then take_all own (here_updates (record { node = own; boot = node.boot; seq = node.drawn + 1 }) (record { count = node.count + 1; boot = node.boot; node = own }) targets users)
          (rules.store_of node (with_octets (record { node = own; boot = node.boot; seq = node.drawn + 1 }) users octets disk)) else rules.store_of node disk).disk

      copies_for : Bool → List Copy
      copies_for b = (if has (if b then one_node own else 0) own then map (λ user. (user, filing.id)) filing.users else []) ++ []

      by : (b : Bool) → has targets own ≡ b → NotesCopies (disk_for b) (copies_for b) old new → Leads own disk (disk_for b) old new
      by true e n = leads_filed node new id stamp targets users octets
          (subst (λ (l : List Copy). NotesCopies (disk_for true) l old new)
          (ap (λ (t : Bool). (if t then map (λ (user : List ℕ). (user, filing.id)) filing.users else []) ++ []) one ∙ append-nil (map (λ (user : List ℕ). (user, filing.id)) filing.users)
          ∙ ap (λ (l : List (List ℕ)). map (λ (user : List ℕ). (user, filing.id)) l) whom ∙ ap (λ (i : Id). map (λ (user : List ℕ). (user, i)) users) which) n)
      by false e n = leads_same new (subst (λ (l : List Copy). NotesCopies disk l old new) (ap (λ (t : Bool). (if t then map (λ (user : List ℕ). (user, filing.id)) filing.users else []) ++ []) (has_none own)) n)

  -- of each deletion the own node notes what it is asked for
  own_marks : (user : List ℕ) (items : List rules.StrikeItem) → has (one_node own) own ≡ true
      → flat_map (copies_confirmed own) (map (λ (item : rules.StrikeItem). rules.new_want own (plain.AskedOfNodes.Deletion user item.mark.id) item.asks) items) ≡ map (λ mark. (user, mark.id)) (rules.marks_for own items)
  own_marks user [] one = refl
  own_marks user (item ∷ items) one = by (own_marks user items one) (has item.asks own)
    where
      more : List Copy
      more = flat_map (copies_confirmed own) (map (λ (item : rules.StrikeItem). rules.new_want own (plain.AskedOfNodes.Deletion user item.mark.id) item.asks) items)

      by : more ≡ map (λ (mark : DeletionMark). (user, mark.id)) (rules.marks_for own items) → (b : Bool) → (if has (if b then one_node own else 0) own then (user, item.mark.id) ∷ [] else []) ++ more
          ≡ map (λ (mark : DeletionMark). (user, mark.id)) ((if b then item.mark ∷ [] else []) ++ rules.marks_for own items)
      by rest true = ap (λ (t : Bool). (if t then (user, item.mark.id) ∷ [] else []) ++ more) one ∙ ap (λ (l : List Copy). (user, item.mark.id) ∷ l) rest
      by rest false = ap (λ (t : Bool). (if t then (user, item.mark.id) ∷ [] else []) ++ more) (has_none own) ∙ rest

  pub leads_deleted : (nodes : ℕ) (node : plain.Node) (new : NodeMaps) (user : List ℕ) (asked : List (Id × ℕ)) → has (one_node own) own ≡ true
      → NotesCopies (rules.begin_strike own nodes node disk user asked).disk
      (flat_map (copies_confirmed own) (map (λ (item : rules.StrikeItem). rules.new_want own (plain.AskedOfNodes.Deletion user item.mark.id) item.asks) (rules.dated own node node.count asked))) old new
      → Leads own disk (rules.begin_strike own nodes node disk user asked).disk old new
  leads_deleted nodes node new user asked one notes = leads_struck node new user (all_nodes nodes) (rules.marks_for own (rules.dated own node node.count asked))
      (subst (λ (l : List Copy). NotesCopies (rules.begin_strike own nodes node disk user asked).disk l old new) (own_marks user (rules.dated own node node.count asked) one) notes)
