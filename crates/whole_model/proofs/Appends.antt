-- The rules of messages append records of messages, and send letters of messages.
use Rattle.std.proofs.Common.{◌≡◌, ◌≢◌, ⊎_elim, ℕ, Bool, true, false, ◌&&◌, List, [], ◌∷◌, ◌++◌, map, Option, Some, None, refl, sym, ap, ◌∙◌, subst, nat_eq, if◌then◌else◌}
use Rattle.std.specs.FinMap as fin
use Rattle.mail_model.specs.Identity.{Id, Key, State}
use Rattle.mail_model.specs.Identity.Key.{Profile, Message}
use Rattle.mail_model.specs.Record.{Record}
use Rattle.mail_model.specs.Record.Record.{Octets, Stated, Retired}
use Rattle.object_model.specs.Lists.{Among}
use Rattle.object_model.specs.Sets.{has, without_node, all_nodes}
use Rattle.object_model.specs.States.{is_news, join_with, is_same_state}
use Rattle.object_model.specs.Said.{said}
use Rattle.object_model.specs.Letters.{Body, Letter}
use Rattle.object_model.specs.Letters.Body.{File, Filed, LoginAsk, LoginTold, ListAsk, ListTold, FetchAsk, FetchTold, Strike, StrikeTold, Unlock, Push, PushAck, Retire, Group, Join, Install, Report, ReportAck}
use Rattle.object_model.specs.UpdateLog.{Logged, cleared, noted}
use Rattle.object_model.proofs.Lists.{among_either}
use Rattle.cluster_model.specs.Cluster.{Ticket, Node, epoch_of}
use Rattle.cluster_model.specs.Store.{Store, Update, recorded, take_one, take_all, here_updates, gone_updates, is_wanted, with_octets}
use Rattle.cluster_model.specs.Rules.{Reaction, answer, idle, store_of, with_pushed, receivers, letters_to, shrunk, acked_at, retired_at, told_at, ticket_at}
use Rattle.cluster_model.specs.Deeds.{hear_body, hear}
use Rattle.cluster_model.specs.Thrown.{with_stamps}
use Rattle.cluster_model.proofs.Logs.{receiver_is, sent_to}
use Rattle.whole_model.specs.Rules.{IsOfMessages, AreOfMessages, IsMailBody, IsMail}

-- a disk that grew by records of messages
pub record Grew (old new : List Record) : Type 0 where
  pub added : List Record
  pub is : new ≡ old ++ added
  pub of : AreOfMessages added

no_records : (xs : List Record) → xs ++ [] ≡ xs
no_records [] = refl
no_records (x ∷ xs) = ap (λ (l : List Record). x ∷ l) (no_records xs)

assoc : (xs ys zs : List Record) → (xs ++ ys) ++ zs ≡ xs ++ (ys ++ zs)
assoc [] ys zs = refl
assoc (x ∷ xs) ys zs = ap (λ (l : List Record). x ∷ l) (assoc xs ys zs)

pub grew_none : (disk : List Record) → Grew disk disk
grew_none disk = record { added = []; is = sym (no_records disk); of = λ one m. absurd m }

pub grew_on : (a b c : List Record) → Grew a b → Grew b c → Grew a c
grew_on a b c p q = record {
  added = p.added ++ q.added;
  is = q.is ∙ ap (λ (l : List Record). l ++ q.added) p.is ∙ assoc a p.added q.added;
  of = λ one m. ⊎_elim (λ f. p.of one f) (λ g. q.of one g) (among_either one p.added q.added m);
}

grew_stated : (disk : List Record) (key : Key) (state : State) → Grew disk (disk ++ Stated key state ∷ [])
grew_stated disk key state = record { added = Stated key state ∷ []; is = refl; of = λ one m. ⊎_elim (λ e. subst IsOfMessages e tt) (λ none. absurd none) m }

grew_retired : (disk : List Record) (key : Key) (state : State) → Grew disk (disk ++ Retired key state ∷ [])
grew_retired disk key state = record { added = Retired key state ∷ []; is = refl; of = λ one m. ⊎_elim (λ e. subst IsOfMessages e tt) (λ none. absurd none) m }

grew_both : (disk : List Record) (key : Key) (state : State) → Grew disk (disk ++ Stated key state ∷ Retired key state ∷ [])
grew_both disk key state = record {
  added = Stated key state ∷ Retired key state ∷ [];
  is = refl;
  of = λ one m. ⊎_elim (λ e. subst IsOfMessages e tt) (λ more. ⊎_elim (λ e. subst IsOfMessages e tt) (λ none. absurd none) more) m;
}

grew_recorded : (own : ℕ) (key : Key) (state : State) (store : Store) → Grew store.disk (recorded own key state store).disk
grew_recorded own key state store = by (nat_eq (without_node state.targets own) 0)
  where
    by : (b : Bool) → Grew store.disk ((λ (s : Store). s.disk) (if b then record { log = fin.remove store.log key; disk = store.disk ++ Stated key state ∷ Retired key state ∷ [] } else record { log = noted own key state store.log; disk = store.disk ++ Stated key state ∷ [] }))
    by true = grew_both store.disk key state
    by false = grew_stated store.disk key state

grew_one : (own : ℕ) (update : Update) (store : Store) → Grew store.disk (take_one own update store).disk
grew_one own update store = by (is_news (said update.key store.disk) update.state)
  where
    by : (b : Bool) → Grew store.disk ((λ (s : Store). s.disk) (if b then recorded own update.key (join_with (said update.key store.disk) update.state) store else store))
    by true = grew_recorded own update.key (join_with (said update.key store.disk) update.state) store
    by false = grew_none store.disk

pub grew_all : (own : ℕ) (updates : List Update) (store : Store) → Grew store.disk (take_all own updates store).disk
grew_all own [] store = grew_none store.disk
grew_all own (update ∷ updates) store = grew_on store.disk (take_one own update store).disk (take_all own updates (take_one own update store)).disk (grew_one own update store) (grew_all own updates (take_one own update store))

pub grew_octets : (id : Id) (users : List (List ℕ)) (octets : List ℕ) (disk : List Record) → Grew disk (with_octets id users octets disk)
grew_octets id users octets disk = by (is_wanted id users disk)
  where
    by : (b : Bool) → Grew disk (disk ++ (if b then Octets id octets ∷ [] else []))
    by true = record { added = Octets id octets ∷ []; is = refl; of = λ one m. ⊎_elim (λ e. subst IsOfMessages e tt) (λ none. absurd none) m }
    by false = record { added = []; is = refl; of = λ one m. absurd m }

grew_pushed : (key : Key) (octets : Option (List ℕ)) (disk : List Record) → Grew disk (with_pushed key octets disk)
grew_pushed (Profile user) octets disk = grew_none disk
grew_pushed (Message user id) None disk = grew_none disk
grew_pushed (Message user id) (Some octets) disk = grew_octets id (user ∷ []) octets disk

-- a reaction that appends and sends for messages alone
pub record IsOf (own : ℕ) (disk : List Record) (did : Reaction) : Type 0 where
  pub grew : Grew disk did.disk
  pub mail : (letter : Letter) → Among letter did.out → IsMail own letter

module _ (own nodes : ℕ) (node : Node) (disk : List Record) (letter : Letter) (to : letter.to ≡ own) (from : letter.from ≢ own) where
  answered : (body : Body) → IsMailBody body → (one : Letter) → Among one (answer letter body ∷ []) → IsMail own one
  answered body of one m = ⊎_elim (λ e. subst (IsMail own) e (record { from = to; to = from; body = of })) (λ none. absurd none) m

  shrinks : (key : Key) (entry : Logged) → IsOf own disk (shrunk own nodes node disk key entry)
  shrinks key entry = by (nat_eq entry.remaining 0)
    where
      by : (b : Bool) → IsOf own disk (if b
          then record { node = record node { log = fin.remove node.log key }; disk = disk ++ Retired key entry.state ∷ []; out = letters_to own (epoch_of node) None (receivers own entry.state.targets nodes) (Retire key entry.state) }
          else record { node = record node { log = fin.insert node.log key entry }; disk = disk; out = [] })
      by true = record {
        grew = grew_retired disk key entry.state;
        mail = λ one m. let r = sent_to own (epoch_of node) None (receivers own entry.state.targets nodes) (Retire key entry.state) one m in
            subst (IsMail own) r.2 (record { from = refl; to = (receiver_is own entry.state.targets nodes r.0 r.1).1; body = tt });
      }
      by false = record { grew = grew_none disk; mail = λ one m. absurd m }

  quiet : (after : Node) → IsOf own disk (record { node = after; disk = disk; out = [] })
  quiet after = record { grew = grew_none disk; mail = λ one m. absurd m }

  acked : (key : Key) (state : State) (by : ℕ) (found : Option Logged) → IsOf own disk (acked_at own nodes node disk key state by found)
  acked key state by None = quiet node
  acked key state by (Some entry) = pick (is_same_state entry.state state && has entry.remaining by)
    where
      pick : (b : Bool) → IsOf own disk (if b then shrunk own nodes node disk key (cleared by entry) else idle node disk)
      pick true = shrinks key (cleared by entry)
      pick false = quiet node

  retired : (key : Key) (state : State) (found : Option Logged) → IsOf own disk (retired_at node disk key state found)
  retired key state None = quiet node
  retired key state (Some entry) = pick (is_same_state entry.state state)
    where
      pick : (b : Bool) → IsOf own disk (if b then record { node = record node { log = fin.remove node.log key }; disk = disk ++ Retired key entry.state ∷ []; out = [] } else idle node disk)
      pick true = record { grew = grew_retired disk key entry.state; mail = λ one m. absurd m }
      pick false = quiet node

  told : (found : Option Ticket) → IsOf own disk (told_at node disk letter found)
  told None = quiet node
  told (Some ticket) = record { grew = grew_none disk; mail = λ one m. absurd m }

  by_body : (body : Body) → IsOf own disk (hear_body own nodes node disk letter body)
  by_body (File id stamp targets users octets) = record {
    grew = grew_on disk (with_octets id users octets disk) _ (grew_octets id users octets disk) (grew_all own (here_updates id stamp targets users) (store_of node (with_octets id users octets disk)));
    mail = λ one m. answered (Filed id) tt one m;
  }
  by_body (Filed id) = told (ticket_at own node letter.ticket)
  by_body (Strike user marks) = record {
    grew = grew_all own (gone_updates user (all_nodes nodes) marks) (store_of node disk);
    mail = λ one m. answered (StrikeTold user (map (λ mark. mark.id) marks)) tt one m;
  }
  by_body (StrikeTold user ids) = told (ticket_at own node letter.ticket)
  by_body (Push key state octets) = record {
    grew = grew_on disk (with_pushed key octets disk) _ (grew_pushed key octets disk) (grew_all own (record { key = key; state = state } ∷ []) (store_of node (with_pushed key octets disk)));
    mail = λ one m. answered (PushAck key state) tt one m;
  }
  by_body (PushAck key state) = acked key state letter.from (fin.get node.log key)
  by_body (Retire key state) = retired key state (fin.get node.log key)
  by_body (LoginAsk user proof) = quiet node
  by_body (LoginTold word) = quiet node
  by_body (ListAsk user) = quiet node
  by_body (ListTold items) = quiet node
  by_body (FetchAsk user id at most) = quiet node
  by_body (FetchTold part) = quiet node
  by_body (Unlock user login) = quiet node
  by_body (Group epoch) = quiet node
  by_body (Join epoch promise boot was claims) = quiet node
  by_body (Install membership) = quiet node
  by_body (Report row) = quiet node
  by_body (ReportAck user version) = quiet node

pub hears_of : (own nodes : ℕ) (node : Node) (disk : List Record) (letter : Letter) → letter.to ≡ own → letter.from ≢ own → IsOf own disk (hear own nodes node disk letter)
hears_of own nodes node disk letter to from = by_body own nodes (with_stamps letter.body node) disk letter to from letter.body
