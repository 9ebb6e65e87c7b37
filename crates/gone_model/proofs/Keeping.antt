-- Each deletion has all nodes of the plan as targets: what keeps it.
use Rattle.std.proofs.Common.{◌≡◌, ◌≢◌, inl, inr, ⊎_elim, ◌≤◌, ℕ, ◌+◌, Bool, true, false, zero, suc, List, [], ◌∷◌, ◌++◌, map, Option, Some, None, refl, sym, ap, ◌∙◌, subst, true≢false, if◌then◌else◌, ◌&&◌, nat_eq, bit_or}
use Rattle.std.specs.Prelude.{not, flat_map}
use Rattle.std.specs.FinMap as fin
use Rattle.std.proofs.lemmas.Bool.{and_parts}
use Rattle.mail_model.specs.Identity.{Id, Stamp, EpochId, Key, State}
use Rattle.mail_model.specs.Identity.Key.{Profile, Message}
use Rattle.mail_model.specs.Identity.Value.{Here, Gone}
use Rattle.mail_model.specs.Listing.{is_here}
use Rattle.mail_model.specs.Record.{Record}
use Rattle.mail_model.specs.Record.Record.{Octets, Stated, Retired}
use Rattle.object_model.specs.Sets.{has, with_node, without_node, all_nodes}
use Rattle.object_model.specs.Lists.{Among}
use Rattle.object_model.specs.States.{is_below, join_with, is_news, is_same_state}
use Rattle.object_model.specs.Said.{said}
use Rattle.object_model.specs.Letters.{Number, DeletionMark, Body, Letter}
use Rattle.object_model.specs.Letters.Body.{File, Filed, Strike, StrikeTold, Push, PushAck, Retire}
use Rattle.object_model.specs.UpdateLog.{Logged, cleared, noted}
use Rattle.object_model.proofs.SetLaws.{has_left, has_right, all_has}
use Rattle.object_model.proofs.SaidLaws.{said_backed, said_has}
use Rattle.object_model.proofs.Lists.{among_front, among_either}
use Rattle.cluster_model.specs.Cluster.{Ticket, Node, Slot, Cluster, slot_at, epoch_of}
use Rattle.cluster_model.specs.Claims.{all_records}
use Rattle.cluster_model.specs.Store.{Store, Update, recorded, take_one, take_all, here_updates, gone_updates, is_wanted, with_octets}
use Rattle.cluster_model.specs.Moves.{Content, NodeAct, IsReady, Move, MayMove, after_move, after_moves}
use Rattle.cluster_model.specs.Moves.Move.{Acted, Taken, Entered}
use Rattle.cluster_model.specs.Parts.{Sound}
use Rattle.cluster_model.proofs.Kept.{all_kept}
use Rattle.cluster_model.proofs.Slots.{read_after}
use Rattle.cluster_model.specs.Rules.{Reaction, idle, store_of, answer, with_pushed, told_at, ticket_at, receivers, letters_to, shrunk, acked_at, retired_at, push_of, push, pushed_octets, with_updates, widened, widen, begin_deliver, begin_strike, dated, marks_for, strike_to, strikes_to, StrikeItem, new_number}
use Rattle.cluster_model.specs.Deeds.{slot_up, act_of, hear_body, hear}
use Rattle.cluster_model.specs.Thrown.{with_stamps}
use Rattle.cluster_model.proofs.Filing.{among_map}
use Rattle.cluster_model.proofs.Logs.{sent_to}
use Rattle.gone_model.specs.Gone.{IsForAll, AreForAll, IsBodyForAll, KeepsGone, GoneForAll, MoveKeepsGone}
use Rattle.gone_model.specs.Gone as gone_specs

-- what stands on a disk of which nothing is pending
pub of_disk : (one : Record) (disk : List Record) → Among one (disk ++ []) → Among one disk
of_disk one disk m = ⊎_elim (λ a. a) (λ none. absurd none) (among_either one disk [] m)

module _ (nodes : ℕ) where
  -- a disk with more records
  both : (disk more : List Record) → AreForAll nodes disk → AreForAll nodes more → AreForAll nodes (disk ++ more)
  both disk more a b key state m = ⊎_elim (λ x. a key state x) (λ y. b key state y) (among_either (Stated key state) disk more m)

  -- what is said of a key
  pub said_fits : (records : List Record) (key : Key) (state : State) → AreForAll nodes records → said key records ≡ Some state → IsForAll nodes state
  said_fits records key state all e gone m some le =
      let b = said_backed key records state e in
      said_has key None records b.top state m e b.inside (all key b.top b.inside (b.same_value ∙ gone) m some le)

  -- a join
  join_fits : (disk : List Record) (key : Key) (state : State) → AreForAll nodes disk → IsForAll nodes state → IsForAll nodes (join_with (said key disk) state)
  join_fits disk key state all fits = by (said key disk) refl
    where
      two : (held : State) → IsForAll nodes held → (b : Bool) → is_below held state ≡ b → (if b then state else held).value ≡ Gone → (m : ℕ) → m ≢ 0 → m ≤ nodes → has (bit_or held.targets state.targets) m ≡ true
      two held its true e gone m some le = has_right held.targets state.targets m (fits gone m some le)
      two held its false e gone m some le = has_left held.targets state.targets m (its gone m some le)

      by : (o : Option State) → said key disk ≡ o → IsForAll nodes (join_with o state)
      by None e = fits
      by (Some held) e = λ gone m some le. two held (said_fits disk key held all e) (is_below held state) refl gone m some le

  abbrev UpdatesFit : List Update → Type 0
  UpdatesFit updates = (update : Update) → Among update updates → IsForAll nodes update.state

  stated_is : (a b : Key) (x y : State) → Stated a x ≡ Stated b y → x ≡ y
  stated_is a b x y e = cc

  records_fit : (disk : List Record) (key : Key) (state : State) (b : Bool) → AreForAll nodes disk → IsForAll nodes state
      → AreForAll nodes (disk ++ (if b then Stated key state ∷ Retired key state ∷ [] else Stated key state ∷ []))
  records_fit disk key state b all fits = both disk (if b then Stated key state ∷ Retired key state ∷ [] else Stated key state ∷ []) all (by b)
    where
      first : (k : Key) (s : State) → Stated key state ≡ Stated k s → IsForAll nodes s
      first k s e = subst (IsForAll nodes) (stated_is key k state s e) fits

      by : (b : Bool) → AreForAll nodes (if b then Stated key state ∷ Retired key state ∷ [] else Stated key state ∷ [])
      by true k s m = ⊎_elim (λ e. first k s e) (λ r. ⊎_elim (λ e. absurd (cc e)) (λ none. absurd none) r) m
      by false k s m = ⊎_elim (λ e. first k s e) (λ none. absurd none) m

  recorded_fits : (own : ℕ) (key : Key) (state : State) (store : Store) → AreForAll nodes store.disk → IsForAll nodes state → AreForAll nodes (recorded own key state store).disk
  recorded_fits own key state store all fits = by (nat_eq (without_node state.targets own) 0)
    where
      by : (b : Bool) → AreForAll nodes (if◌then◌else◌ {A = Store} b
          (record { log = fin.remove store.log key; disk = store.disk ++ Stated key state ∷ Retired key state ∷ [] })
          (record { log = noted own key state store.log; disk = store.disk ++ Stated key state ∷ [] })).disk
      by true = records_fit store.disk key state true all fits
      by false = records_fit store.disk key state false all fits

  one_fits : (own : ℕ) (update : Update) (store : Store) → AreForAll nodes store.disk → IsForAll nodes update.state → AreForAll nodes (take_one own update store).disk
  one_fits own update store all fits = by (is_news (said update.key store.disk) update.state)
    where
      by : (b : Bool) → AreForAll nodes (if◌then◌else◌ {A = Store} b (recorded own update.key (join_with (said update.key store.disk) update.state) store) store).disk
      by true = recorded_fits own update.key (join_with (said update.key store.disk) update.state) store all (join_fits store.disk update.key update.state all fits)
      by false = all

  pub all_fit : (own : ℕ) (updates : List Update) (store : Store) → AreForAll nodes store.disk → UpdatesFit updates → AreForAll nodes (take_all own updates store).disk
  all_fit own [] store all fits = all
  all_fit own (update ∷ updates) store all fits = all_fit own updates (take_one own update store) (one_fits own update store all (fits update (inl refl))) (λ u m. fits u (inr m))

  octets_fit : (id : Id) (users : List (List ℕ)) (octets : List ℕ) (disk : List Record) → AreForAll nodes disk → AreForAll nodes (with_octets id users octets disk)
  octets_fit id users octets disk all = both disk (if is_wanted id users disk then Octets id octets ∷ [] else []) all (by (is_wanted id users disk))
    where
      by : (b : Bool) → AreForAll nodes (if b then Octets id octets ∷ [] else [])
      by true k s m = ⊎_elim (λ e. absurd (cc e)) (λ none. absurd none) m
      by false k s m = absurd m

  here_fit : (id : Id) (stamp : Stamp) (targets : ℕ) (users : List (List ℕ)) → UpdatesFit (here_updates id stamp targets users)
  here_fit id stamp targets users update m =
      let r = among_map (λ (user : List ℕ). record { key = Message user id; state = record { value = Here; stamp = stamp; targets = targets } }) update users m in
      subst (λ (u : Update). IsForAll nodes u.state) r.2 (λ gone. absurd (cc gone))

  gone_fit : nodes ≤ 64 → (user : List ℕ) (marks : List DeletionMark) → UpdatesFit (gone_updates user (all_nodes nodes) marks)
  gone_fit few user marks update m =
      let r = among_map (λ (mark : DeletionMark). record { key = Message user mark.id; state = record { value = Gone; stamp = mark.stamp; targets = all_nodes nodes } }) update marks m in
      subst (λ (u : Update). IsForAll nodes u.state) r.2 (λ gone k some le. all_has nodes k some le few)

  -- one letter that is no Push
  one_letter : (letter one : Letter) → IsBodyForAll nodes letter.body → Among one (letter ∷ []) → IsBodyForAll nodes one.body
  one_letter letter one fits m = ⊎_elim (λ is. subst (λ (l : Letter). IsBodyForAll nodes l.body) is fits) (λ none. absurd none) m

  letters_fit : (own : ℕ) (epoch : EpochId) (ticket : Option Number) (to : List ℕ) (body : Body) → IsBodyForAll nodes body → (one : Letter) → Among one (letters_to own epoch ticket to body) → IsBodyForAll nodes one.body
  letters_fit own epoch ticket to body fits one m = let r = sent_to own epoch ticket to body one m in subst (λ (l : Letter). IsBodyForAll nodes l.body) r.2 fits

  -- a node that is up does something: its disk after it, and its letters
  keeps : (own : ℕ) (node : Node) (disk : List Record) (did : Reaction) (heard : Option Letter) (files : Option Content) (strikes : List (List ℕ × Id))
      → (AreForAll nodes disk → ((letter : Letter) → heard ≡ Some letter → IsBodyForAll nodes letter.body) → AreForAll nodes did.disk)
      → (AreForAll nodes disk → (letter : Letter) → Among letter did.out → IsBodyForAll nodes letter.body)
      → KeepsGone nodes (act_of own node disk did heard files strikes)
  keeps own node disk did heard files strikes after out = record {
    disk = λ all came key state m. after (λ k s x. all k s (among_front (Stated k s) disk [] x)) came key state (of_disk (Stated key state) did.disk m);
    sent = λ all came letter m. out (λ k s x. all k s (among_front (Stated k s) disk [] x)) letter m;
  }

  some_letter : (a b : Letter) → Some a ≡ Some b → a ≡ b
  some_letter a b e = cc

  retired_fits : (disk : List Record) (key : Key) (state : State) → AreForAll nodes disk → AreForAll nodes (disk ++ Retired key state ∷ [])
  retired_fits disk key state all = both disk (Retired key state ∷ []) all (λ k s m. ⊎_elim (λ e. absurd (cc e)) (λ none. absurd none) m)

  module _ (own : ℕ) (few : nodes ≤ 64) (node : Node) (disk : List Record) (letter : Letter) where
    abbrev Disk : Reaction → Type 0
    Disk did = AreForAll nodes disk → IsBodyForAll nodes letter.body → AreForAll nodes did.disk

    abbrev Out : Reaction → Type 0
    Out did = (one : Letter) → Among one did.out → IsBodyForAll nodes one.body

    told_fits : (t : Option Ticket) → Disk (told_at node disk letter t) × Out (told_at node disk letter t)
    told_fits None = (λ all body. all, λ one m. absurd m)
    told_fits (Some ticket) = (λ all body. all, λ one m. absurd m)

    shrunk_fits : (key : Key) (entry : Logged) → Disk (shrunk own nodes node disk key entry) × Out (shrunk own nodes node disk key entry)
    shrunk_fits key entry = by (nat_eq entry.remaining 0)
      where
        by : (b : Bool) → Disk (if b
            then record {
              node = record node { log = fin.remove node.log key };
              disk = disk ++ Retired key entry.state ∷ [];
              out = letters_to own (epoch_of node) None (receivers own entry.state.targets nodes) (Retire key entry.state);
            }
            else record { node = record node { log = fin.insert node.log key entry }; disk = disk; out = [] }) × Out (if b
            then record {
              node = record node { log = fin.remove node.log key };
              disk = disk ++ Retired key entry.state ∷ [];
              out = letters_to own (epoch_of node) None (receivers own entry.state.targets nodes) (Retire key entry.state);
            }
            else record { node = record node { log = fin.insert node.log key entry }; disk = disk; out = [] })
        by true = (λ all body. retired_fits disk key entry.state all, λ one m. letters_fit own (epoch_of node) None (receivers own entry.state.targets nodes) (Retire key entry.state) tt one m)
        by false = (λ all body. all, λ one m. absurd m)

    acked_fits : (key : Key) (state : State) (from : ℕ) (e : Option Logged) → Disk (acked_at own nodes node disk key state from e) × Out (acked_at own nodes node disk key state from e)
    acked_fits key state from None = (λ all body. all, λ one m. absurd m)
    acked_fits key state from (Some entry) = by (is_same_state entry.state state && has entry.remaining from)
      where
        by : (b : Bool) → Disk (if b then shrunk own nodes node disk key (cleared from entry) else idle node disk) × Out (if b then shrunk own nodes node disk key (cleared from entry) else idle node disk)
        by true = shrunk_fits key (cleared from entry)
        by false = (λ all body. all, λ one m. absurd m)

    retired_at_fits : (key : Key) (state : State) (e : Option Logged) → Disk (retired_at node disk key state e) × Out (retired_at node disk key state e)
    retired_at_fits key state None = (λ all body. all, λ one m. absurd m)
    retired_at_fits key state (Some entry) = by (is_same_state entry.state state)
      where
        by : (b : Bool) → Disk (if b then record { node = record node { log = fin.remove node.log key }; disk = disk ++ Retired key entry.state ∷ []; out = [] } else idle node disk)
            × Out (if b then record { node = record node { log = fin.remove node.log key }; disk = disk ++ Retired key entry.state ∷ []; out = [] } else idle node disk)
        by true = (λ all body. retired_fits disk key entry.state all, λ one m. absurd m)
        by false = (λ all body. all, λ one m. absurd m)

    pushed_disk : (key : Key) (octets : Option (List ℕ)) → AreForAll nodes disk → AreForAll nodes (with_pushed key octets disk)
    pushed_disk (Profile user) octets all = all
    pushed_disk (Message user id) None all = all
    pushed_disk (Message user id) (Some octets) all = octets_fit id (user ∷ []) octets disk all

    body_fits : (body : Body) → letter.body ≡ body → Disk (hear_body own nodes node disk letter body) × Out (hear_body own nodes node disk letter body)
    body_fits (File id stamp targets users octets) e = (
      λ all body. all_fit own (here_updates id stamp targets users) (store_of node (with_octets id users octets disk)) (octets_fit id users octets disk all) (here_fit id stamp targets users),
      λ one m. one_letter (answer letter (Filed id)) one tt m,
    )
    body_fits (Filed id) e = told_fits (ticket_at own node letter.ticket)
    body_fits (Strike user marks) e = (
      λ all body. all_fit own (gone_updates user (all_nodes nodes) marks) (store_of node disk) all (gone_fit few user marks),
      λ one m. one_letter (answer letter (StrikeTold user (map (λ mark. mark.id) marks))) one tt m,
    )
    body_fits (StrikeTold user ids) e = told_fits (ticket_at own node letter.ticket)
    body_fits (Push key state octets) e = (
      λ all body. all_fit own (record { key = key; state = state } ∷ []) (store_of node (with_pushed key octets disk)) (pushed_disk key octets all)
          (λ u m. ⊎_elim (λ is. subst (λ (x : Update). IsForAll nodes x.state) is (subst (IsBodyForAll nodes) e body)) (λ none. absurd none) m),
      λ one m. one_letter (answer letter (PushAck key state)) one tt m,
    )
    body_fits (PushAck key state) e = acked_fits key state letter.from (fin.get node.log key)
    body_fits (Retire key state) e = retired_at_fits key state (fin.get node.log key)
    body_fits body e = (λ all b. all, λ one m. absurd m)

  pub hears_keep : (own : ℕ) (node : Node) (disk : List Record) (letter : Letter) → nodes ≤ 64 → KeepsGone nodes (act_of own (with_stamps letter.body node) disk (hear own nodes node disk letter) (Some letter) None [])
  hears_keep own node disk letter few =
      let r = body_fits own few (with_stamps letter.body node) disk letter letter.body refl in
      keeps own (with_stamps letter.body node) disk (hear own nodes node disk letter) (Some letter) None [] (λ all came. r.0 all (came letter refl)) (λ all one m. r.1 one m)

  pub delivers_keep : (own seconds : ℕ) (node : Node) (disk : List Record) (users : List (List ℕ)) (octets : List ℕ) (targets : ℕ) (files : Option Content)
      → KeepsGone nodes (act_of own node disk (begin_deliver own nodes seconds node disk users octets targets) None files [])
  delivers_keep own seconds node disk users octets targets files = keeps own node disk (begin_deliver own nodes seconds node disk users octets targets) None files []
      (λ all came. by all (has targets own))
      (λ all one m. letters_fit own (epoch_of node) (Some (new_number own node)) (receivers own targets nodes)
      (File (record { node = own; boot = node.boot; seq = node.drawn + 1 }) (record { count = node.count + 1; boot = node.boot; node = own }) targets users octets) tt one m)
    where
      by : AreForAll nodes disk → (b : Bool) → AreForAll nodes (if b
          then take_all own (here_updates (record { node = own; boot = node.boot; seq = node.drawn + 1 }) (record { count = node.count + 1; boot = node.boot; node = own }) targets users)
          (store_of node (with_octets (record { node = own; boot = node.boot; seq = node.drawn + 1 }) users octets disk)) else store_of node disk).disk
      by all true = all_fit own (here_updates (record { node = own; boot = node.boot; seq = node.drawn + 1 }) (record { count = node.count + 1; boot = node.boot; node = own }) targets users)
          (store_of node (with_octets (record { node = own; boot = node.boot; seq = node.drawn + 1 }) users octets disk))
          (octets_fit (record { node = own; boot = node.boot; seq = node.drawn + 1 }) users octets disk all)
          (here_fit (record { node = own; boot = node.boot; seq = node.drawn + 1 }) (record { count = node.count + 1; boot = node.boot; node = own }) targets users)
      by all false = all

  strike_fits : (own : ℕ) (epoch : EpochId) (number : Number) (user : List ℕ) (m : ℕ) (marks : List DeletionMark) (one : Letter) → Among one (strike_to own epoch number user m marks) → IsBodyForAll nodes one.body
  strike_fits own epoch number user m [] one inside = absurd inside
  strike_fits own epoch number user m (mark ∷ marks) one inside = one_letter (record { from = own; to = m; epoch = epoch; ticket = Some number; body = Strike user (mark ∷ marks) }) one tt inside

  strikes_fit : (own : ℕ) (epoch : EpochId) (number : Number) (user : List ℕ) (items : List StrikeItem) (k : ℕ) (one : Letter) → Among one (strikes_to own epoch number user items k) → IsBodyForAll nodes one.body
  strikes_fit own epoch number user items zero one m = absurd m
  strikes_fit own epoch number user items (suc k) one m = ⊎_elim
      (λ front. strikes_fit own epoch number user items k one front)
      (λ last. by (nat_eq (suc k) own) last)
      (among_either one (strikes_to own epoch number user items k) _ m)
    where
      by : (b : Bool) → Among one (if b then [] else strike_to own epoch number user (suc k) (marks_for (suc k) items)) → IsBodyForAll nodes one.body
      by true x = absurd x
      by false x = strike_fits own epoch number user (suc k) (marks_for (suc k) items) one x

  pub strikes_keep : (own : ℕ) (node : Node) (disk : List Record) (user : List ℕ) (asked : List (Id × ℕ)) (struck : List (List ℕ × Id)) → nodes ≤ 64
      → KeepsGone nodes (act_of own node disk (begin_strike own nodes node disk user asked) None None struck)
  strikes_keep own node disk user asked struck few = keeps own node disk (begin_strike own nodes node disk user asked) None None struck
      (λ all came. all_fit own (gone_updates user (all_nodes nodes) (marks_for own (dated own node node.count asked))) (store_of node disk) all (gone_fit few user (marks_for own (dated own node node.count asked))))
      (λ all one m. strikes_fit own (epoch_of node) (new_number own node) user (dated own node node.count asked) nodes one m)

  among_flat : {X Y : Type 0} (f : X → List Y) (y : Y) (xs : List X) → Among y (flat_map f xs) → (x : X) × Among y (f x)
  among_flat f y [] m = absurd m
  among_flat f y (x ∷ xs) m = ⊎_elim (λ front. (x, front)) (λ more. among_flat f y xs more) (among_either y (f x) (flat_map f xs) m)

  pub pushes_keep : (own to : ℕ) (keys : List Key) (node : Node) (disk : List Record) → IsReady own (slot_up node disk) None → KeepsGone nodes (act_of own node disk (push own to keys node disk) None None [])
  pushes_keep own to keys node disk ready = keeps own node disk (push own to keys node disk) None None [] (λ all came. all)
      (λ all one m. let r = among_flat (λ key. push_of own to (epoch_of node) disk key (fin.get node.log key)) one keys m in found all r.0 (fin.get node.log r.0) refl one r.1)
    where
      found : AreForAll nodes disk → (key : Key) (e : Option Logged) → fin.get node.log key ≡ e → (one : Letter) → Among one (push_of own to (epoch_of node) disk key e) → IsBodyForAll nodes one.body
      found all key None is one m = absurd m
      found all key (Some entry) is one m = by (has entry.remaining to) m
        where
          by : (b : Bool) → Among one (if b then record { from = own; to = to; epoch = epoch_of node; ticket = None; body = Push key entry.state (pushed_octets key entry.state.value disk) } ∷ [] else []) → IsBodyForAll nodes one.body
          by true x = one_letter (record { from = own; to = to; epoch = epoch_of node; ticket = None; body = Push key entry.state (pushed_octets key entry.state.value disk) }) one
              (said_fits disk key entry.state all (ready.order.logged node refl key entry is)) x
          by false x = absurd x

  pub widens_keep : (own to : ℕ) (key : Key) (node : Node) (disk : List Record) → KeepsGone nodes (act_of own node disk (widen own to key node disk) None None [])
  widens_keep own to key node disk = by (said key disk)
    where
      test : (held : State) (b : Bool) → (is_here held.value && not (has held.targets to)) ≡ b → KeepsGone nodes (act_of own node disk (if b
          then record {
            node = with_updates own node (record { key = key; state = record held { targets = with_node held.targets to } } ∷ []) (take_all own (record { key = key; state = record held { targets = with_node held.targets to } } ∷ []) (store_of node disk));
            disk = (take_all own (record { key = key; state = record held { targets = with_node held.targets to } } ∷ []) (store_of node disk)).disk;
            out = [];
          }
          else idle node disk) None None [])
      test held true e = keeps own node disk (record {
        node = with_updates own node (record { key = key; state = record held { targets = with_node held.targets to } } ∷ []) (take_all own (record { key = key; state = record held { targets = with_node held.targets to } } ∷ []) (store_of node disk));
        disk = (take_all own (record { key = key; state = record held { targets = with_node held.targets to } } ∷ []) (store_of node disk)).disk;
        out = [];
      }) None None [] (λ all came. all_fit own (record { key = key; state = record held { targets = with_node held.targets to } } ∷ []) (store_of node disk) all
          (λ u m. ⊎_elim
          (λ is. subst (λ (x : Update). IsForAll nodes x.state) is (λ gone. absurd (true≢false (sym (and_parts (is_here held.value) (not (has held.targets to)) e).0 ∙ ap is_here gone))))
          (λ none. absurd none) m))
          (λ all one m. absurd m)
      test held false e = keeps own node disk (idle node disk) None None [] (λ all came. all) (λ all one m. absurd m)

      by : (o : Option State) → KeepsGone nodes (act_of own node disk (widened own to key node disk o) None None [])
      by None = keeps own node disk (idle node disk) None None [] (λ all came. all) (λ all one m. absurd m)
      by (Some held) = test held (is_here held.value && not (has held.targets to)) refl

  pub others_keep : (act : NodeAct) → ((key : Key) (state : State) → Among (Stated key state) (all_records act.after) → Among (Stated key state) (all_records act.before))
      → ((letter : Letter) → Among letter act.out → IsBodyForAll nodes letter.body) → KeepsGone nodes act
  others_keep act fewer out = record { disk = λ all came key state m. all key state (fewer key state m); sent = λ all came letter m. out letter m }

  pub cuts_keep : (act cut : NodeAct) → KeepsGone nodes act → cut.before ≡ act.before → cut.heard ≡ act.heard → cut.out ≡ []
      → ((one : Record) → Among one (all_records cut.after) → Among one (all_records act.after)) → KeepsGone nodes cut
  cuts_keep act cut k before heard out fewer = record {
    disk = λ all came key state m. k.disk (subst (λ (s : Slot). AreForAll nodes (all_records s)) before all) (λ letter e. came letter (heard ∙ e)) key state (fewer (Stated key state) m);
    sent = λ all came letter m. absurd (subst (Among letter) out m);
  }

  module _ (confirm : ℕ) where
    one_kept : (w : Cluster) (move : Move) → MayMove confirm move w → MoveKeepsGone nodes move → Sound confirm w → GoneForAll nodes w → GoneForAll nodes (after_move move w)
    one_kept w (Acted act) may keep s g =
        let (here, acts, flew, struck) = may in
        let k = keep (record {
          order = s.order.each act.node act.before here;
          fits = s.fit.slots_fit act.node act.before here;
          heard_fits = λ letter e. s.fit.letters_fit letter (flew letter e);
        }) in
        let mine = g.disks act.node act.before here in
        let came : (letter : Letter) → act.heard ≡ Some letter → IsBodyForAll nodes letter.body = λ letter e. g.letters letter (flew letter e) in
        record {
          disks = λ n slot at. ⊎_elim
              (λ (same, is). subst (λ (x : Slot). AreForAll nodes (all_records x)) (sym is) (k.disk mine came))
              (λ old. g.disks n slot old)
              (read_after w.slots act.node n act.before act.after slot here at);
          letters = λ letter m. ⊎_elim (λ old. g.letters letter old) (λ new. k.sent mine came letter new) (among_either letter w.flying act.out m);
        }
    one_kept w (Taken letter left) may keep s g = record { disks = g.disks; letters = λ one m. g.letters one (may.0 one m) }
    one_kept w (Entered entry) may keep s g = record { disks = g.disks; letters = g.letters }

    pub moves_keep : (w : Cluster) (moves : List Move) → gone_specs.MayMoves confirm nodes moves w → Sound confirm w → GoneForAll nodes w → GoneForAll nodes (after_moves moves w)
    moves_keep w [] may s g = g
    moves_keep w (move ∷ moves) (may, keep, rest) s g = moves_keep (after_move move w) moves rest (all_kept confirm w (move ∷ []) (may, tt) s) (one_kept w move may keep s g)

  pub empty_has : (w : Cluster) → ((n : ℕ) (slot : Slot) → slot_at w.slots n ≡ Some slot → (key : Key) (state : State) → Among (Stated key state) (all_records slot) → ⊥)
      → w.flying ≡ [] → GoneForAll nodes w
  empty_has w none still = record {
    disks = λ n slot at key state m. absurd (none n slot at key state m);
    letters = λ letter m. absurd (subst (Among letter) still m);
  }
