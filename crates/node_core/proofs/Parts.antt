-- What a node tells of a part of a message, and the numbers that calls that read draw.
use Rattle.std.proofs.Common.{◌≡◌, ◌≤◌, ◌⊎◌, inl, inr, ⊎_elim, ℕ, ◌+◌, List, length, take, drop, Bool, true, false, cond, not, ◌&&◌, ◌||◌, nat_lt, Option, Some, None, is_some, refl, ap, ◌∙◌, le-ltb, arith}
use Rattle.std.specs.Prelude.{IfSome, option_map}
use Rattle.io_edge.specs.Causes.{Rose}
use Rattle.mail_model.specs.Identity.{Id, Stamp}
use Rattle.mail_model.specs.Identity.Key.{Message}
use Rattle.mail_model.specs.Listing.{octets_in}
use Rattle.mail_model.specs.Plan.{Plan}
use Rattle.mail_model.specs.Record.{Record, payloads_of}
use Rattle.object_model.specs.Said.{said}
use Rattle.object_model.specs.Letters.{Number}
use Rattle.mail_base.specs.declared.told.ToldPart.{ToldPart}
use Rattle.mail_base.specs.declared.told.ToldPart.TheVariants.{Octets, Gone}
use Rattle.cluster_model.specs.Reads.{is_here_held, has_copy}
use Rattle.cluster_model.specs.Steps.{NodeCall, fails_at_once, is_worn_for, greatest}
use Rattle.cluster_model.specs.Steps.NodeCall.{Deliver, Login, Fetch, Strike, Leave}
use Rattle.cluster_model.specs.Makes.{DrawsTicket}
use Rattle.login_model.specs.Facts.{stamp_said}
use Rattle.disk_journal.specs.Journal.{TellsJournal}
use Rattle.node_store.specs.Disks.{View}
use Rattle.node_store.specs.Reads.{part_in, TellsKept, GivesWanted}
use Rattle.node_core.specs.Nodes.{node_seen, NodeKeeps, end_in, IsAsBefore}
use Rattle.node_core.specs.Works.{IsOnlyRead, ReadFailed}
use Rattle.node_core.specs.Reading.{copy_size, PartTold}
use Rattle.node_core.specs.Drawing.{lacks_ticket}
use Rattle.node_core.specs.declared.node.Node.{Node}

pub as_it_is : (node : Node) → IsAsBefore node node
as_it_is node = record { seen = refl; same = λ plan own p. p; keeps = λ records k. k; works = λ seen w. w; end_is = refl }

-- a copy that is here with its octets has their number
pub record IsSized (user : List ℕ) (id : Id) (records : List Record) (whole : ℕ) : Type 0 where
  pub here : is_here_held (said (Message user id) records) ≡ true
  pub all : List ℕ
  pub held : octets_in id records ≡ Some all
  pub count : whole ≡ length all

pub sized : (user : List ℕ) (id : Id) (records : List Record) (whole : ℕ) → Some whole ≡ copy_size user id records → IsSized user id records whole
sized user id records whole is = by (is_here_held (said (Message user id) records)) refl (octets_in id records) refl is
  where
    by : (b : Bool) → is_here_held (said (Message user id) records) ≡ b → (o : Option (List ℕ)) → octets_in id records ≡ o → Some whole ≡ cond b (option_map length o) None → IsSized user id records whole
    by true here (Some all) held e = record { here = here; all = all; held = held; count = cc e }
    by true here None held e = absurd (cc e)
    by false here o held e = absurd (cc e)

pub unsized : (user : List ℕ) (id : Id) (records : List Record) → None ≡ copy_size user id records → has_copy user id records ≡ false
unsized user id records is = by (is_here_held (said (Message user id) records)) (octets_in id records) is
  where
    by : (b : Bool) (o : Option (List ℕ)) → None ≡ cond b (option_map length o) None → (b && is_some o) ≡ false
    by true (Some all) e = absurd (cc e)
    by true None e = refl
    by false o e = refl

-- it is told that the copy is not here
module _ {D : Type 0} (on : View D) (user : List ℕ) (id : Id) (start most : ℕ) (node : Node) (before after : D) where
  pub none_told : IsOnlyRead on before after → on.faults after ≡ on.faults before → (stamp : Stamp)
      → ((records : List Record) → NodeKeeps records node → (None ≡ copy_size user id records) × (stamp ≡ stamp_said (said (Message user id) records)))
      → PartTold on user id start most node before after (Gone stamp)
  none_told read quiet stamp none = record {
    those = λ records k t. (unsized user id records (none records k).0, (none records k).1);
    read = read;
    quiet = quiet;
  }

  -- the octets that were read are the part, where the disk tells what it holds
  part_is : (seen : Option (List ℕ)) (octets all : List ℕ) (records : List Record) → octets_in id records ≡ Some all → NodeKeeps records node → TellsJournal seen node.store.own (payloads_of records) (end_in node)
      → IfSome seen (λ held. (rs : List Record) → TellsKept node.store held rs → Some octets ≡ part_in id start most rs) → is_some seen ≡ true → octets ≡ take most (drop start all)
  part_is None octets all records held k t those tells = absurd (cc tells)
  part_is (Some c) octets all records held k t those tells =
      let e : Some octets ≡ option_map (λ o. take most (drop start o)) (Some all) = those records (k, t.journal) ∙ ap (option_map (λ o. take most (drop start o))) held in
      cc e

  pub some_told : IsOnlyRead on before after → on.faults after ≡ on.faults before → (octets : List ℕ) (whole : ℕ) → ((records : List Record) → NodeKeeps records node → Some whole ≡ copy_size user id records)
      → GivesWanted (on.seen before) node.store (part_in id start most) (Some octets)
      → PartTold on user id start most node before after (Octets octets whole)
  some_told read quiet octets whole size given = record {
    those = λ records k t.
        let s = sized user id records whole (size records k) in
        (s.here, record { all = s.all; held = s.held; part = part_is (on.seen before) octets s.all records s.held k t given.those; count = s.count });
    read = read;
    quiet = quiet;
  }

  -- a copy that has a size has octets
  pub never_none : IsOnlyRead on before after → on.faults after ≡ on.faults before → (whole : ℕ) → ((records : List Record) → NodeKeeps records node → Some whole ≡ copy_size user id records)
      → GivesWanted (on.seen before) node.store (part_in id start most) None → (part : ToldPart) → PartTold on user id start most node before after part
  never_none read quiet whole size given part = record {
    those = λ records k t.
        let s = sized user id records whole (size records k) in
        let e : None ≡ option_map length (option_map (λ o. take most (drop start o)) (Some s.all)) = given.sized records k ∙ ap (λ o. option_map length (option_map (λ o. take most (drop start o)) o)) s.held in
        absurd (cc e);
    read = read;
    quiet = quiet;
  }

  -- it failed
  pub read_rose : IsOnlyRead on before after → on.faults before ≤ on.faults after → Rose (on.faults before) (on.faults after) → ReadFailed on node.store.own node before node after
  read_rose read later rose = record { as_before = as_it_is node; read = read; later = later; cause = inr (inl rose) }

  not_journal : (seen : Option (List ℕ)) → IfSome seen (λ held. (records : List Record) → TellsKept node.store held records → ⊥)
      → (seen ≡ None) ⊎ ((records : List Record) → NodeKeeps records node → TellsJournal seen node.store.own (payloads_of records) (end_in node) → ⊥)
  not_journal None none = inl refl
  not_journal (Some held) none = inr (λ records k t. none records (k, t.journal))

  pub read_other : IsOnlyRead on before after → on.faults after ≡ on.faults before → IfSome (on.seen before) (λ held. (records : List Record) → TellsKept node.store held records → ⊥)
      → ReadFailed on node.store.own node before node after
  read_other read quiet none = record {
    as_before = as_it_is node;
    read = read;
    later = omega (arith, quiet);
    cause = ⊎_elim (λ e. inl e) (λ f. inr (inr f)) (not_journal (on.seen before) none);
  }

-- no number is too great where none is drawn
not_over : (n : ℕ) → n ≤ greatest → nat_lt greatest (n + 0) ≡ false
not_over n le = le-ltb greatest (n + 0) (omega (arith, le))

pub leave_fresh : (plan : Plan) (seconds : ℕ) (old : Node) (user : List ℕ) (login : Number) (manager : ℕ) → old.numbers.calls ≤ greatest → old.numbers.drawn ≤ greatest → old.numbers.count ≤ greatest
    → is_worn_for plan seconds (node_seen old) (Leave user login manager) ≡ false
leave_fresh plan seconds old user login manager calls drawn count =
    ap (λ (b : Bool). b || nat_lt greatest (old.numbers.drawn + 0) || nat_lt greatest (old.numbers.count + 0)) (not_over old.numbers.calls calls)
    ∙ ap (λ (b : Bool). b || nat_lt greatest (old.numbers.count + 0)) (not_over old.numbers.drawn drawn) ∙ not_over old.numbers.count count

-- a call that reads draws the number of a ticket alone
worn_by_ticket : (node : Node) (fails : Bool) → node.numbers.drawn ≤ greatest → node.numbers.count ≤ greatest
    → (lacks_ticket (node_seen node) || nat_lt greatest (node.numbers.drawn + 0) || (not fails && nat_lt greatest (node.numbers.count + 0))) ≡ lacks_ticket (node_seen node)
worn_by_ticket node fails drawn count =
    ap (λ (b : Bool). lacks_ticket (node_seen node) || b || (not fails && nat_lt greatest (node.numbers.count + 0))) (not_over node.numbers.drawn drawn)
    ∙ ap (λ (b : Bool). lacks_ticket (node_seen node) || false || (not fails && b)) (not_over node.numbers.count count) ∙ by (lacks_ticket (node_seen node)) fails
  where
    by : (lacks fails : Bool) → (lacks || false || (not fails && false)) ≡ lacks
    by true fails = refl
    by false true = refl
    by false false = refl

pub read_worn : (plan : Plan) (seconds : ℕ) (node : Node) (call : NodeCall) → DrawsTicket call → node.numbers.drawn ≤ greatest → node.numbers.count ≤ greatest
    → is_worn_for plan seconds (node_seen node) call ≡ lacks_ticket (node_seen node)
read_worn plan seconds node (Deliver mail) draws drawn count = absurd draws
read_worn plan seconds node (Login user proof) draws drawn count = worn_by_ticket node (fails_at_once plan seconds (node_seen node) (Login user proof)) drawn count
read_worn plan seconds node (Fetch user id at most holders) draws drawn count = worn_by_ticket node (fails_at_once plan seconds (node_seen node) (Fetch user id at most holders)) drawn count
read_worn plan seconds node (Strike user items) draws drawn count = absurd draws
read_worn plan seconds node (Leave user login manager) draws drawn count = absurd draws
