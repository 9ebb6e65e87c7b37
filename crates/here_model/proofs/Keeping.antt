-- Each copy that is here has its octets: what each rule leaves, and what moves leave.
use Rattle.std.proofs.Common.{◌≡◌, ◌⊎◌, inl, inr, ⊎_elim, ℕ, ◌+◌, Bool, true, false, zero, suc, List, [], ◌∷◌, ◌++◌, append-nil, map, Option, Some, None, refl, sym, ap, ◌∙◌, subst, if◌then◌else◌, ◌&&◌, nat_eq}
use Rattle.std.specs.Prelude.{not, flat_map}
use Rattle.std.specs.FinMap as fin
use Rattle.mail_model.specs.Identity.{Id, EpochId, Key, Value, State}
use Rattle.mail_model.specs.Identity.Key.{Profile, Message}
use Rattle.mail_model.specs.Identity.Value.{Here}
use Rattle.mail_model.specs.Listing.{is_here, octets_in}
use Rattle.mail_model.specs.Record.{Record}
use Rattle.mail_model.specs.Record.Record.{Stated, Retired}
use Rattle.object_model.specs.Sets.{has, with_node, all_nodes}
use Rattle.object_model.specs.Lists.{Among}
use Rattle.object_model.specs.States.{is_same_state}
use Rattle.object_model.specs.Said.{said}
use Rattle.object_model.specs.Letters.{Number, DeletionMark, Body, Letter}
use Rattle.object_model.specs.Letters.Body.{File, Filed, Strike, StrikeTold, Push, PushAck, Retire}
use Rattle.object_model.specs.UpdateLog.{Logged, cleared}
use Rattle.object_model.proofs.Lists.{among_either}
use Rattle.cluster_model.specs.Cluster.{Ticket, Node, Slot, Cluster, slot_at, epoch_of}
use Rattle.cluster_model.specs.Claims.{all_records, StoresMessage, ShowsGone}
use Rattle.cluster_model.specs.Store.{take_all, here_updates, gone_updates, with_octets}
use Rattle.cluster_model.specs.Moves.{Content, NodeAct, IsReady, Move, MayMove, after_move, after_moves}
use Rattle.cluster_model.specs.Moves.Move.{Acted, Taken, Entered}
use Rattle.cluster_model.specs.Parts.{Sound}
use Rattle.cluster_model.specs.Rules.{Reaction, idle, store_of, answer, with_pushed, told_at, ticket_at, receivers, letters_to, shrunk, acked_at, retired_at, push_of, push, pushed_octets, with_updates, widened, widen, begin_deliver, begin_strike, dated, marks_for, strike_to, strikes_to, StrikeItem, new_number}
use Rattle.cluster_model.specs.Deeds.{slot_up, act_of, hear_body, hear}
use Rattle.cluster_model.specs.Thrown.{with_stamps}
use Rattle.cluster_model.proofs.Kept.{all_kept}
use Rattle.cluster_model.proofs.Slots.{read_after}
use Rattle.cluster_model.proofs.Logs.{sent_to}
use Rattle.here_model.specs.Here.{EachHereHasOctets, IsBodyWithOctets, HereHasOctets, KeepsOctets, MoveKeepsOctets}
use Rattle.here_model.specs.Here as here_specs
use Rattle.here_model.proofs.Held.{prefix_has, plain_more, Fits, all_have, octets_have, here_fit, gone_fit, said_stores, octets_read}
use Rattle.cluster_model.proofs.Filing.{stored_or_gone}

-- one letter that is no Push of a copy that is here
one_letter : (letter one : Letter) → IsBodyWithOctets letter.body → Among one (letter ∷ []) → IsBodyWithOctets one.body
one_letter letter one fits m = ⊎_elim (λ is. subst (λ (l : Letter). IsBodyWithOctets l.body) is fits) (λ none. absurd none) m

letters_fit : (own : ℕ) (epoch : EpochId) (ticket : Option Number) (to : List ℕ) (body : Body) → IsBodyWithOctets body → (one : Letter) → Among one (letters_to own epoch ticket to body) → IsBodyWithOctets one.body
letters_fit own epoch ticket to body fits one m = let r = sent_to own epoch ticket to body one m in subst (λ (l : Letter). IsBodyWithOctets l.body) r.2 fits

-- a node that is up does something: its disk after it, and its letters
keeps : (own : ℕ) (node : Node) (disk : List Record) (did : Reaction) (heard : Option Letter) (files : Option Content) (strikes : List (List ℕ × Id))
    → (EachHereHasOctets disk → ((letter : Letter) → heard ≡ Some letter → IsBodyWithOctets letter.body) → EachHereHasOctets did.disk)
    → (EachHereHasOctets disk → (letter : Letter) → Among letter did.out → IsBodyWithOctets letter.body)
    → KeepsOctets (act_of own node disk did heard files strikes)
keeps own node disk did heard files strikes after out = record {
  disk = λ all came. subst EachHereHasOctets (sym (append-nil did.disk)) (after (subst EachHereHasOctets (append-nil disk) all) came);
  sent = λ all came letter m. out (subst EachHereHasOctets (append-nil disk) all) letter m;
}

retired_has : (disk : List Record) (key : Key) (state : State) → EachHereHasOctets disk → EachHereHasOctets (disk ++ Retired key state ∷ [])
retired_has disk key state all = plain_more disk (Retired key state ∷ []) (λ k s m. ⊎_elim (λ e. cc e) (λ none. none) m) all

module _ (own nodes : ℕ) (node : Node) (disk : List Record) (letter : Letter) where
  abbrev Disk : Reaction → Type 0
  Disk did = EachHereHasOctets disk → IsBodyWithOctets letter.body → EachHereHasOctets did.disk

  abbrev Out : Reaction → Type 0
  Out did = (one : Letter) → Among one did.out → IsBodyWithOctets one.body

  told_fits : (t : Option Ticket) → Disk (told_at node disk letter t) × Out (told_at node disk letter t)
  told_fits None = (λ all body. all, λ one m. absurd m)
  told_fits (Some ticket) = (λ all body. all, λ one m. absurd m)

  shrunk_fits : (key : Key) (entry : Logged) → Disk (shrunk own nodes node disk key entry) × Out (shrunk own nodes node disk key entry)
  shrunk_fits key entry = by (nat_eq entry.remaining 0)
    where
      by : (b : Bool) → Disk (if b
          then record {
            node = record node { log = fin.remove node.log key };
            disk = disk ++ Retired key entry.state ∷ [];
            out = letters_to own (epoch_of node) None (receivers own entry.state.targets nodes) (Retire key entry.state);
          }
          else record { node = record node { log = fin.insert node.log key entry }; disk = disk; out = [] }) × Out (if b
          then record {
            node = record node { log = fin.remove node.log key };
            disk = disk ++ Retired key entry.state ∷ [];
            out = letters_to own (epoch_of node) None (receivers own entry.state.targets nodes) (Retire key entry.state);
          }
          else record { node = record node { log = fin.insert node.log key entry }; disk = disk; out = [] })
      by true = (λ all body. retired_has disk key entry.state all, λ one m. letters_fit own (epoch_of node) None (receivers own entry.state.targets nodes) (Retire key entry.state) tt one m)
      by false = (λ all body. all, λ one m. absurd m)

  acked_fits : (key : Key) (state : State) (from : ℕ) (e : Option Logged) → Disk (acked_at own nodes node disk key state from e) × Out (acked_at own nodes node disk key state from e)
  acked_fits key state from None = (λ all body. all, λ one m. absurd m)
  acked_fits key state from (Some entry) = by (is_same_state entry.state state && has entry.remaining from)
    where
      by : (b : Bool) → Disk (if b then shrunk own nodes node disk key (cleared from entry) else idle node disk) × Out (if b then shrunk own nodes node disk key (cleared from entry) else idle node disk)
      by true = shrunk_fits key (cleared from entry)
      by false = (λ all body. all, λ one m. absurd m)

  retired_at_fits : (key : Key) (state : State) (e : Option Logged) → Disk (retired_at node disk key state e) × Out (retired_at node disk key state e)
  retired_at_fits key state None = (λ all body. all, λ one m. absurd m)
  retired_at_fits key state (Some entry) = by (is_same_state entry.state state)
    where
      by : (b : Bool) → Disk (if b then record { node = record node { log = fin.remove node.log key }; disk = disk ++ Retired key entry.state ∷ []; out = [] } else idle node disk)
          × Out (if b then record { node = record node { log = fin.remove node.log key }; disk = disk ++ Retired key entry.state ∷ []; out = [] } else idle node disk)
      by true = (λ all body. retired_has disk key entry.state all, λ one m. absurd m)
      by false = (λ all body. all, λ one m. absurd m)

  -- a Push finds octets where it says that a copy is here
  pushed_has : (key : Key) (state : State) (octets : Option (List ℕ)) → IsBodyWithOctets (Push key state octets) → EachHereHasOctets disk
      → EachHereHasOctets (with_pushed key octets disk) × Fits (with_pushed key octets disk) (record { key = key; state = state })
  pushed_has (Profile user) state octets body all = (all, λ name id is here. absurd (cc is))
  pushed_has (Message user id) state None body all = (all, λ name other is here. absurd (cc (body here).1))
  pushed_has (Message user id) state (Some octets) body all = (
    octets_have id (user ∷ []) octets disk all,
    λ name other is here. subst (λ u. ShowsGone u other (with_octets id (user ∷ []) octets disk) ⊎ StoresMessage other (with_octets id (user ∷ []) octets disk)) (user_of user name id other is)
        (subst (λ i. ShowsGone user i (with_octets id (user ∷ []) octets disk) ⊎ StoresMessage i (with_octets id (user ∷ []) octets disk)) (id_of user name id other is)
        (stored_or_gone id (user ∷ []) octets disk user (inl refl))),
  )
    where
      user_of : (a b : List ℕ) (i j : Id) → Message a i ≡ Message b j → a ≡ b
      user_of a b i j e = cc

      id_of : (a b : List ℕ) (i j : Id) → Message a i ≡ Message b j → i ≡ j
      id_of a b i j e = cc

  body_fits : (body : Body) → letter.body ≡ body → Disk (hear_body own nodes node disk letter body) × Out (hear_body own nodes node disk letter body)
  body_fits (File id stamp targets users octets) e = (
    λ all body. all_have own (here_updates id stamp targets users) (store_of node (with_octets id users octets disk)) (octets_have id users octets disk all) (here_fit id stamp targets users octets disk),
    λ one m. one_letter (answer letter (Filed id)) one tt m,
  )
  body_fits (Filed id) e = told_fits (ticket_at own node letter.ticket)
  body_fits (Strike user marks) e = (
    λ all body. all_have own (gone_updates user (all_nodes nodes) marks) (store_of node disk) all (gone_fit nodes user marks disk),
    λ one m. one_letter (answer letter (StrikeTold user (map (λ mark. mark.id) marks))) one tt m,
  )
  body_fits (StrikeTold user ids) e = told_fits (ticket_at own node letter.ticket)
  body_fits (Push key state octets) e = (
    λ all body. let p = pushed_has key state octets (subst IsBodyWithOctets e body) all in
        all_have own (record { key = key; state = state } ∷ []) (store_of node (with_pushed key octets disk)) p.0
        (λ u m. ⊎_elim (λ is. subst (Fits (with_pushed key octets disk)) is p.1) (λ none. absurd none) m),
    λ one m. one_letter (answer letter (PushAck key state)) one tt m,
  )
  body_fits (PushAck key state) e = acked_fits key state letter.from (fin.get node.log key)
  body_fits (Retire key state) e = retired_at_fits key state (fin.get node.log key)
  body_fits body e = (λ all b. all, λ one m. absurd m)

pub hears_keep : (own nodes : ℕ) (node : Node) (disk : List Record) (letter : Letter) → KeepsOctets (act_of own (with_stamps letter.body node) disk (hear own nodes node disk letter) (Some letter) None [])
hears_keep own nodes node disk letter =
    let r = body_fits own nodes (with_stamps letter.body node) disk letter letter.body refl in
    keeps own (with_stamps letter.body node) disk (hear own nodes node disk letter) (Some letter) None [] (λ all came. r.0 all (came letter refl)) (λ all one m. r.1 one m)

pub delivers_keep : (own nodes seconds : ℕ) (node : Node) (disk : List Record) (users : List (List ℕ)) (octets : List ℕ) (targets : ℕ) (files : Option Content)
    → KeepsOctets (act_of own node disk (begin_deliver own nodes seconds node disk users octets targets) None files [])
delivers_keep own nodes seconds node disk users octets targets files = keeps own node disk (begin_deliver own nodes seconds node disk users octets targets) None files []
    (λ all came. by all (has targets own))
    (λ all one m. letters_fit own (epoch_of node) (Some (new_number own node)) (receivers own targets nodes)
    (File (record { node = own; boot = node.boot; seq = node.drawn + 1 }) (record { count = node.count + 1; boot = node.boot; node = own }) targets users octets) tt one m)
  where
    by : EachHereHasOctets disk → (b : Bool) → EachHereHasOctets (if b
        then take_all own (here_updates (record { node = own; boot = node.boot; seq = node.drawn + 1 }) (record { count = node.count + 1; boot = node.boot; node = own }) targets users)
        (store_of node (with_octets (record { node = own; boot = node.boot; seq = node.drawn + 1 }) users octets disk)) else store_of node disk).disk
    by all true = all_have own (here_updates (record { node = own; boot = node.boot; seq = node.drawn + 1 }) (record { count = node.count + 1; boot = node.boot; node = own }) targets users)
        (store_of node (with_octets (record { node = own; boot = node.boot; seq = node.drawn + 1 }) users octets disk))
        (octets_have (record { node = own; boot = node.boot; seq = node.drawn + 1 }) users octets disk all)
        (here_fit (record { node = own; boot = node.boot; seq = node.drawn + 1 }) (record { count = node.count + 1; boot = node.boot; node = own }) targets users octets disk)
    by all false = all

strike_fits : (own : ℕ) (epoch : EpochId) (number : Number) (user : List ℕ) (m : ℕ) (marks : List DeletionMark) (one : Letter) → Among one (strike_to own epoch number user m marks) → IsBodyWithOctets one.body
strike_fits own epoch number user m [] one inside = absurd inside
strike_fits own epoch number user m (mark ∷ marks) one inside = one_letter (record { from = own; to = m; epoch = epoch; ticket = Some number; body = Strike user (mark ∷ marks) }) one tt inside

strikes_fit : (own : ℕ) (epoch : EpochId) (number : Number) (user : List ℕ) (items : List StrikeItem) (k : ℕ) (one : Letter) → Among one (strikes_to own epoch number user items k) → IsBodyWithOctets one.body
strikes_fit own epoch number user items zero one m = absurd m
strikes_fit own epoch number user items (suc k) one m = ⊎_elim
    (λ first. strikes_fit own epoch number user items k one first)
    (λ last. by (nat_eq (suc k) own) last)
    (among_either one (strikes_to own epoch number user items k) _ m)
  where
    by : (b : Bool) → Among one (if b then [] else strike_to own epoch number user (suc k) (marks_for (suc k) items)) → IsBodyWithOctets one.body
    by true x = absurd x
    by false x = strike_fits own epoch number user (suc k) (marks_for (suc k) items) one x

pub strikes_keep : (own nodes : ℕ) (node : Node) (disk : List Record) (user : List ℕ) (asked : List (Id × ℕ)) (struck : List (List ℕ × Id))
    → KeepsOctets (act_of own node disk (begin_strike own nodes node disk user asked) None None struck)
strikes_keep own nodes node disk user asked struck = keeps own node disk (begin_strike own nodes node disk user asked) None None struck
    (λ all came. all_have own (gone_updates user (all_nodes nodes) (marks_for own (dated own node node.count asked))) (store_of node disk) all (gone_fit nodes user (marks_for own (dated own node node.count asked)) disk))
    (λ all one m. strikes_fit own (epoch_of node) (new_number own node) user (dated own node node.count asked) nodes one m)

among_flat : {X Y : Type 0} (f : X → List Y) (y : Y) (xs : List X) → Among y (flat_map f xs) → (x : X) × Among y (f x)
among_flat f y [] m = absurd m
among_flat f y (x ∷ xs) m = ⊎_elim (λ first. (x, first)) (λ more. among_flat f y xs more) (among_either y (f x) (flat_map f xs) m)

-- what is pushed as here carries octets
pushed_with : (disk : List Record) (key : Key) (state : State) → EachHereHasOctets disk → said key disk ≡ Some state → IsBodyWithOctets (Push key state (pushed_octets key state.value disk))
pushed_with disk (Profile user) state all e = tt
pushed_with disk (Message user id) state all e = λ here.
    let s = said_stores disk user id state all e here in
    let o = octets_read id s.octets disk s.inside in
    (o.0, ap (λ (v : Value). pushed_octets (Message user id) v disk) here ∙ o.1)

pub pushes_keep : (own to : ℕ) (keys : List Key) (node : Node) (disk : List Record) → IsReady own (slot_up node disk) None → KeepsOctets (act_of own node disk (push own to keys node disk) None None [])
pushes_keep own to keys node disk ready = keeps own node disk (push own to keys node disk) None None [] (λ all came. all)
    (λ all one m. let r = among_flat (λ key. push_of own to (epoch_of node) disk key (fin.get node.log key)) one keys m in found all r.0 (fin.get node.log r.0) refl one r.1)
  where
    found : EachHereHasOctets disk → (key : Key) (e : Option Logged) → fin.get node.log key ≡ e → (one : Letter) → Among one (push_of own to (epoch_of node) disk key e) → IsBodyWithOctets one.body
    found all key None is one m = absurd m
    found all key (Some entry) is one m = by (has entry.remaining to) m
      where
        by : (b : Bool) → Among one (if b then record { from = own; to = to; epoch = epoch_of node; ticket = None; body = Push key entry.state (pushed_octets key entry.state.value disk) } ∷ [] else []) → IsBodyWithOctets one.body
        by true x = one_letter (record { from = own; to = to; epoch = epoch_of node; ticket = None; body = Push key entry.state (pushed_octets key entry.state.value disk) }) one
            (pushed_with disk key entry.state all (ready.order.logged node refl key entry is)) x
        by false x = absurd x

pub widens_keep : (own to : ℕ) (key : Key) (node : Node) (disk : List Record) → KeepsOctets (act_of own node disk (widen own to key node disk) None None [])
widens_keep own to key node disk = by (said key disk) refl
  where
    fits : EachHereHasOctets disk → (held : State) → said key disk ≡ Some held → Fits disk (record { key = key; state = record held { targets = with_node held.targets to } })
    fits all held e user id is here = inr (said_stores disk user id held all (ap (λ (k : Key). said k disk) (sym is) ∙ e) here)

    test : (held : State) → said key disk ≡ Some held → (b : Bool) → KeepsOctets (act_of own node disk (if b
        then record {
          node = with_updates own node (record { key = key; state = record held { targets = with_node held.targets to } } ∷ []) (take_all own (record { key = key; state = record held { targets = with_node held.targets to } } ∷ []) (store_of node disk));
          disk = (take_all own (record { key = key; state = record held { targets = with_node held.targets to } } ∷ []) (store_of node disk)).disk;
          out = [];
        }
        else idle node disk) None None [])
    test held e true = keeps own node disk (record {
      node = with_updates own node (record { key = key; state = record held { targets = with_node held.targets to } } ∷ []) (take_all own (record { key = key; state = record held { targets = with_node held.targets to } } ∷ []) (store_of node disk));
      disk = (take_all own (record { key = key; state = record held { targets = with_node held.targets to } } ∷ []) (store_of node disk)).disk;
      out = [];
    }) None None [] (λ all came. all_have own (record { key = key; state = record held { targets = with_node held.targets to } } ∷ []) (store_of node disk) all
        (λ u m. ⊎_elim (λ is. subst (Fits disk) is (fits all held e)) (λ none. absurd none) m))
        (λ all one m. absurd m)
    test held e false = keeps own node disk (idle node disk) None None [] (λ all came. all) (λ all one m. absurd m)

    by : (o : Option State) → said key disk ≡ o → KeepsOctets (act_of own node disk (widened own to key node disk o) None None [])
    by None e = keeps own node disk (idle node disk) None None [] (λ all came. all) (λ all one m. absurd m)
    by (Some held) e = test held e (is_here held.value && not (has held.targets to))

pub others_keep : (act : NodeAct) (kept lost added : List Record) → all_records act.before ≡ kept ++ lost → all_records act.after ≡ kept ++ added
    → ((key : Key) (state : State) → Among (Stated key state) added → ⊥) → ((letter : Letter) → Among letter act.out → IsBodyWithOctets letter.body) → KeepsOctets act
others_keep act kept lost added before after none out = record {
  disk = λ all came. subst EachHereHasOctets (sym after) (plain_more kept added none (prefix_has kept lost (all_records act.before) before all));
  sent = λ all came letter m. out letter m;
}

pub cuts_keep : (act cut : NodeAct) → KeepsOctets act → cut.before ≡ act.before → cut.heard ≡ act.heard → cut.out ≡ []
    → (missing : List Record) → all_records act.after ≡ all_records cut.after ++ missing → KeepsOctets cut
cuts_keep act cut k before heard out missing after = record {
  disk = λ all came. prefix_has (all_records cut.after) missing (all_records act.after) after
      (k.disk (subst (λ (s : Slot). EachHereHasOctets (all_records s)) before all) (λ letter e. came letter (heard ∙ e)));
  sent = λ all came letter m. absurd (subst (Among letter) out m);
}

pub empty_has : (w : Cluster) → ((n : ℕ) (slot : Slot) → slot_at w.slots n ≡ Some slot → (key : Key) (state : State) → Among (Stated key state) (all_records slot) → ⊥)
    → w.flying ≡ [] → HereHasOctets w
empty_has w none still = record {
  disks = λ n slot at. plain_more [] (all_records slot) (none n slot at) (λ prefix rest e user id state m here. absurd (nowhere prefix rest e (Stated (Message user id) state) m));
  letters = λ letter m. absurd (subst (Among letter) still m);
}
  where
    nowhere : (prefix rest : List Record) → prefix ++ rest ≡ [] → (one : Record) → Among one prefix → ⊥
    nowhere [] rest e one m = m
    nowhere (x ∷ prefix) rest e one m = cc e

pub here_reads : (records : List Record) (user : List ℕ) (id : Id) (state : State) → EachHereHasOctets records → said (Message user id) records ≡ Some state → state.value ≡ Here
    → (octets : List ℕ) × (octets_in id records ≡ Some octets)
here_reads records user id state all e here = let s = said_stores records user id state all e here in octets_read id s.octets records s.inside

module _ (confirm : ℕ) where
  one_kept : (w : Cluster) (move : Move) → MayMove confirm move w → MoveKeepsOctets move → Sound confirm w → HereHasOctets w → HereHasOctets (after_move move w)
  one_kept w (Acted act) may keep s g =
      let (here, acts, flew, struck) = may in
      let k = keep (record {
        order = s.order.each act.node act.before here;
        fits = s.fit.slots_fit act.node act.before here;
        heard_fits = λ letter e. s.fit.letters_fit letter (flew letter e);
      }) in
      let mine = g.disks act.node act.before here in
      let came : (letter : Letter) → act.heard ≡ Some letter → IsBodyWithOctets letter.body = λ letter e. g.letters letter (flew letter e) in
      record {
        disks = λ n slot at. ⊎_elim
            (λ (same, is). subst (λ (x : Slot). EachHereHasOctets (all_records x)) (sym is) (k.disk mine came))
            (λ old. g.disks n slot old)
            (read_after w.slots act.node n act.before act.after slot here at);
        letters = λ letter m. ⊎_elim (λ old. g.letters letter old) (λ new. k.sent mine came letter new) (among_either letter w.flying act.out m);
      }
  one_kept w (Taken letter left) may keep s g = record { disks = g.disks; letters = λ one m. g.letters one (may.0 one m) }
  one_kept w (Entered entry) may keep s g = record { disks = g.disks; letters = g.letters }

  pub moves_keep : (w : Cluster) (moves : List Move) → here_specs.MayMoves confirm moves w → Sound confirm w → HereHasOctets w → HereHasOctets (after_moves moves w)
  moves_keep w [] may s g = g
  moves_keep w (move ∷ moves) (may, keep, rest) s g = moves_keep (after_move move w) moves rest (all_kept confirm w (move ∷ []) (may, tt) s) (one_kept w move may keep s g)
