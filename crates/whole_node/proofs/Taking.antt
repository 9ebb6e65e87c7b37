-- States that a node takes, and of whose copies it then notes whether they are here, lead its maps along.
use Rattle.std.proofs.Common.{◌≡◌, ◌≢◌, ℕ, Bool, true, false, List, [], ◌∷◌, ◌++◌, map, Option, Some, None, refl, sym, ap, ◌∙◌, subst, append_assoc, append-nil, if◌then◌else◌, nat_eq}
use Rattle.std.specs.FinMap as fin
use Rattle.mail_model.specs.Identity.{Id, Key, Value, State}
use Rattle.mail_model.specs.Identity.Key.{Profile, Message}
use Rattle.mail_model.specs.Record.{Record}
use Rattle.mail_model.specs.Record.Record.{Stated, Retired}
use Rattle.object_model.specs.Sets.{without_node}
use Rattle.object_model.specs.States.{join_with, is_news}
use Rattle.object_model.specs.Said.{said}
use Rattle.object_model.specs.UpdateLog.{noted}
use Rattle.object_model.proofs.SaidLaws.{join_again, said_same, said_other, said_retired}
use Rattle.cluster_model.specs.Reads.{is_here_held}
use Rattle.cluster_model.specs.Store.{Store, Update, recorded, take_one, take_all}
use Rattle.cluster_model.proofs.Takes.{took_join}
use Rattle.maps_model.specs.Cluster as maps
use Rattle.whole_model.specs.Whole.{holds_of}
use Rattle.whole_model.specs.Rules.{followed, follows}
use Rattle.node_maps.specs.Nodes.{node_of, own_of}
use Rattle.node_maps.specs.Rounds.{NotesMessage}
use Rattle.node_maps.specs.declared.maps.NodeMaps.{NodeMaps}
use Rattle.whole_node.specs.Nodes.{KnowsHere}
use Rattle.whole_node.specs.Noting.{Copy, NotesCopies, copies_of_key}
use Rattle.whole_node.proofs.Led.{Led, led_none, led_on}
use Rattle.whole_node.proofs.Ranks.{IsNotUnder, TakeAll, settled, join_not_under}
use Rattle.whole_node.proofs.Noted.{noted_knows, noted_follows, noted_stays}

-- the records from one disk to another lead the maps from what they were to what they are
pub record Leads (own : ℕ) (seen all : List Record) (old new : NodeMaps) : Type 0 where
  pub own_is : own_of new ≡ own
  pub knows : KnowsHere all new
  pub led : Led own seen all (node_of old) (node_of new)

pub leads_none : (own : ℕ) (seen : List Record) (maps : NodeMaps) → own_of maps ≡ own → KnowsHere seen maps → Leads own seen seen maps maps
leads_none own seen maps is knows = record { own_is = is; knows = knows; led = led_none own seen (node_of maps) }

pub leads_on : (own : ℕ) (a b c : List Record) (x y z : NodeMaps) → Leads own a b x y → Leads own b c y z → Leads own a c x z
leads_on own a b c x y z p q = record { own_is = q.own_is; knows = q.knows; led = led_on own a b c (node_of x) (node_of y) (node_of z) p.led q.led }

-- a record that leads nothing, and says nothing of copies
pub leads_still : (own : ℕ) (seen : List Record) (one : Record) (maps : NodeMaps) → own_of maps ≡ own → KnowsHere seen maps
    → followed own (node_of maps) seen one ≡ node_of maps → ((user : List ℕ) (id : Id) → said (Message user id) (seen ++ one ∷ []) ≡ said (Message user id) seen)
    → Leads own seen (seen ++ one ∷ []) maps maps
leads_still own seen one maps is knows still same = record {
  own_is = is;
  knows = λ user id. knows user id ∙ ap is_here_held (sym (same user id));
  led = record { added = one ∷ []; is = refl; node = sym still };
}

pub leads_retired : (own : ℕ) (seen : List Record) (key : Key) (state : State) (maps : NodeMaps) → own_of maps ≡ own → KnowsHere seen maps → Leads own seen (seen ++ Retired key state ∷ []) maps maps
leads_retired own seen key state maps is knows = leads_still own seen (Retired key state) maps is knows refl (λ user id. said_retired (Message user id) key seen state)

-- the records of a state, and perhaps that it is retired
both_records : (disk : List Record) (one two : Record) → disk ++ one ∷ two ∷ [] ≡ (disk ++ one ∷ []) ++ two ∷ []
both_records disk one two = sym (append_assoc disk (one ∷ []) (two ∷ []))

-- the disk with a state that was recorded
abbrev recorded_in : Bool → Key → State → List Record → List Record
recorded_in alone key state disk = if alone then disk ++ Stated key state ∷ Retired key state ∷ [] else disk ++ Stated key state ∷ []

recorded_is : (own : ℕ) (key : Key) (state : State) (store : Store) → (recorded own key state store).disk ≡ recorded_in (nat_eq (without_node state.targets own) 0) key state store.disk
recorded_is own key state store = by (nat_eq (without_node state.targets own) 0)
  where
    by : (b : Bool) → ((λ (s : Store). s.disk) (if b then record { log = fin.remove store.log key; disk = store.disk ++ Stated key state ∷ Retired key state ∷ [] } else record { log = noted own key state store.log; disk = store.disk ++ Stated key state ∷ [] }))
        ≡ recorded_in b key state store.disk
    by true = refl
    by false = refl

leads_recorded : (own : ℕ) (alone : Bool) (key : Key) (state : State) (disk : List Record) (old new : NodeMaps) → Leads own disk (disk ++ Stated key state ∷ []) old new
    → Leads own disk (recorded_in alone key state disk) old new
leads_recorded own true key state disk old new l = subst (λ (d : List Record). Leads own disk d old new) (sym (both_records disk (Stated key state) (Retired key state)))
    (leads_on own disk (disk ++ Stated key state ∷ []) ((disk ++ Stated key state ∷ []) ++ Retired key state ∷ []) old new new l (leads_retired own (disk ++ Stated key state ∷ []) key state new l.own_is l.knows))
leads_recorded own false key state disk old new l = l

-- a copy's state
copy_stated : (own : ℕ) (disk : List Record) (user : List ℕ) (id : Id) (state : State) (here : Bool) (old new : NodeMaps) → own_of old ≡ own → KnowsHere disk old
    → is_here_held (said (Message user id) (disk ++ Stated (Message user id) state ∷ [])) ≡ here → NotesMessage user id here old new
    → Leads own disk (disk ++ Stated (Message user id) state ∷ []) old new
copy_stated own disk user id state here old new is knows says notes =
    let known : KnowsHere (disk ++ Stated (Message user id) state ∷ []) new =
    noted_knows disk (disk ++ Stated (Message user id) state ∷ []) user id here old new knows (λ key apart. said_other key (Message user id) disk state (λ same. apart (sym same))) says notes in
    record {
      own_is = notes.own ∙ is;
      knows = known;
      led = record {
        added = Stated (Message user id) state ∷ [];
        is = refl;
        node = noted_follows disk user id state here old new knows known notes ∙ ap (λ (n : ℕ). followed n (node_of old) disk (Stated (Message user id) state)) is;
      };
    }

-- one state is taken, and its copy noted
copy_taken : (own : ℕ) (user : List ℕ) (id : Id) (state : State) (store : Store) (here : Bool) (old new : NodeMaps) → own_of old ≡ own → KnowsHere store.disk old
    → is_here_held (said (Message user id) (take_one own (record { key = Message user id; state = state }) store).disk) ≡ here → NotesMessage user id here old new
    → Leads own store.disk (take_one own (record { key = Message user id; state = state }) store).disk old new
copy_taken own user id state store here old new is knows says notes = by (is_news (said (Message user id) store.disk) state) refl
  where
    key : Key
    key = Message user id

    update : Update
    update = record { key = Message user id; state = state }

    join : State
    join = join_with (said (Message user id) store.disk) state

    taken : is_here_held (Some (join_with (said (Message user id) store.disk) state)) ≡ here
    taken = sym (ap is_here_held (took_join own (record { key = Message user id; state = state }) store).0) ∙ says

    stated : is_here_held (said (Message user id) (store.disk ++ Stated (Message user id) (join_with (said (Message user id) store.disk) state) ∷ [])) ≡ here
    stated = ap is_here_held (said_same (Message user id) store.disk (join_with (said (Message user id) store.disk) state)) ∙ ap (λ (s : State). is_here_held (Some s)) (join_again (said (Message user id) store.disk) state) ∙ taken

    same : is_news (said (Message user id) store.disk) state ≡ false → is_here_held (said (Message user id) store.disk) ≡ here
    same e = sym (ap (λ (b : Bool). is_here_held (said (Message user id) (if b then recorded own (Message user id) (join_with (said (Message user id) store.disk) state) store else store).disk)) e) ∙ says

    by : (b : Bool) → is_news (said (Message user id) store.disk) state ≡ b
        → Leads own store.disk (if b then recorded own (Message user id) (join_with (said (Message user id) store.disk) state) store else store).disk old new
    by true e = subst (λ (d : List Record). Leads own store.disk d old new) (sym (recorded_is own (Message user id) (join_with (said (Message user id) store.disk) state) store))
        (leads_recorded own (nat_eq (without_node (join_with (said (Message user id) store.disk) state).targets own) 0) (Message user id) (join_with (said (Message user id) store.disk) state) store.disk old new
        (copy_stated own store.disk user id (join_with (said (Message user id) store.disk) state) here old new is knows stated notes))
    by false e =
        let known : KnowsHere store.disk new = noted_knows store.disk store.disk user id here old new knows (λ key apart. refl) (same e) notes in
        record {
          own_is = notes.own ∙ is;
          knows = known;
          led = record { added = []; is = sym (append-nil store.disk); node = noted_stays store.disk store.disk user id here old new knows known refl notes };
        }

-- a profile's state says nothing of copies
profile_taken : (own : ℕ) (user : List ℕ) (state : State) (store : Store) (maps : NodeMaps) → own_of maps ≡ own → KnowsHere store.disk maps
    → Leads own store.disk (take_one own (record { key = Profile user; state = state }) store).disk maps maps
profile_taken own user state store maps is knows = by (is_news (said (Profile user) store.disk) state)
  where
    by : (b : Bool) → Leads own store.disk (if b then recorded own (Profile user) (join_with (said (Profile user) store.disk) state) store else store).disk maps maps
    by true = subst (λ (d : List Record). Leads own store.disk d maps maps) (sym (recorded_is own (Profile user) (join_with (said (Profile user) store.disk) state) store))
        (leads_recorded own (nat_eq (without_node (join_with (said (Profile user) store.disk) state).targets own) 0) (Profile user) (join_with (said (Profile user) store.disk) state) store.disk maps maps
        (leads_still own store.disk (Stated (Profile user) (join_with (said (Profile user) store.disk) state)) maps is knows refl
        (λ name id. said_other (Message name id) (Profile user) store.disk (join_with (said (Profile user) store.disk) state) (λ same. cc))))
    by false = leads_none own store.disk maps is knows

-- the copies of states that are taken
abbrev pub copies_of : List Update → List Copy
copies_of [] = []
copies_of (update ∷ updates) = copies_of_key update.key ++ copies_of updates

-- states of one value are taken, and then their copies are noted as the disk says in the end
pub all_taken : (own : ℕ) (value : Value) (updates : List Update) → TakeAll value updates → (store : Store) (old new : NodeMaps) → own_of old ≡ own → KnowsHere store.disk old
    → NotesCopies (take_all own updates store).disk (copies_of updates) old new → Leads own store.disk (take_all own updates store).disk old new
all_taken own value [] all store old new is knows notes = subst (Leads own store.disk store.disk old) (sym notes) (leads_none own store.disk old is knows)
all_taken own value (update ∷ updates) all store old new is knows notes = by (λ next from to at here these. all_taken own value updates all.1 next from to at here these) update.key update.state all.0 notes
  where
    by : ((next : Store) (from to : NodeMaps) → own_of from ≡ own → KnowsHere next.disk from → NotesCopies (take_all own updates next).disk (copies_of updates) from to → Leads own next.disk (take_all own updates next).disk from to)
        → (key : Key) (state : State) → state.value ≡ value → NotesCopies (take_all own updates (take_one own (record { key = key; state = state }) store)).disk (copies_of_key key ++ copies_of updates) old new
        → Leads own store.disk (take_all own updates (take_one own (record { key = key; state = state }) store)).disk old new
    by rest (Profile user) state of n =
        let next = take_one own (record { key = Profile user; state = state }) store in
        let first = profile_taken own user state store old is knows in
        leads_on own store.disk next.disk (take_all own updates next).disk old old new first (rest next old new is first.knows n)
    by rest (Message user id) state of n =
        let next = take_one own (record { key = Message user id; state = state }) store in
        let held = join_with (said (Message user id) store.disk) state in
        let stays = settled own value updates all.1 next (Message user id) held (took_join own (record { key = Message user id; state = state }) store).0
        (subst (IsNotUnder held.value) of (join_not_under (said (Message user id) store.disk) state)) in
        let first = copy_taken own user id state store (is_here_held (said (Message user id) (take_all own updates next).disk)) old n.0 is knows (sym stays) n.1 in
        leads_on own store.disk next.disk (take_all own updates next).disk old n.0 new first (rest next n.0 new first.own_is first.knows n.2)
