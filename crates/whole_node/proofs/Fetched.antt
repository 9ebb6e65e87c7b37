-- A fetch that begins, by what the code did for it.
use Rattle.std.proofs.Common.{◌≡◌, ℕ, zero, suc, ◌+◌, nat_eq, cond, Bool, true, false, List, [], ◌∷◌, ◌++◌, Option, Some, None, refl, sym, ap, ◌∙◌, subst, arith, true≢false}
use Rattle.std.specs.Prelude.{Result, Ok, Err, is_some}
use Rattle.io_edge.proofs.Passing.{keeps_none}
use Rattle.mail_model.specs.Identity.{Id}
use Rattle.mail_model.specs.Plan.{Plan}
use Rattle.mail_model.specs.Record.{Record, payloads_of}
use Rattle.object_model.specs.Sets.{has, count_below, count_in}
use Rattle.object_model.specs.Letters.{Number, ToldPart, Letter}
use Rattle.object_model.specs.Letters.ToldPart.{Gone}
use Rattle.cluster_model.specs.Cluster as mail
use Rattle.cluster_model.specs.Cluster.CallKind.{Fetching}
use Rattle.cluster_model.specs.Rules.{new_number}
use Rattle.cluster_model.specs.Steps.{asked_of, is_worn_for}
use Rattle.cluster_model.specs.Steps.NodeCall.{Fetch}
use Rattle.login_model.specs.Facts.{IsToldPart}
use Rattle.login_model.specs.NodeLaws.{HasHolder}
use Rattle.login_model.specs.Rules.{first_stamp, under, next_number, begin_read, begin_fetch}
use Rattle.joint_model.specs.Joint.{Node}
use Rattle.joint_world.specs.Rules as rules
use Rattle.joint_world.specs.Rules.{Reaction}
use Rattle.joint_world.proofs.Holders.{counts_some}
use Rattle.disk_journal.specs.Journal.{TellsJournal}
use Rattle.node_store.specs.Disks.{View}
use Rattle.node_core.specs.Nodes.{node_seen, NodeKeeps, end_in, IsNodeOf}
use Rattle.node_core.specs.Works.{IsOnlyRead, ReadFailed}
use Rattle.node_core.specs.declared.fault.NodeFault.{NodeFault}
use Rattle.node_core.specs.declared.fault.NodeFault.TheVariants.{Disk, Worn, NoMemory}
use Rattle.node_core.specs.declared.outbox.Outbox.{Outbox}
use Rattle.node_reads.specs.Tables.{reads_in, Begins}
use Rattle.whole_node.specs.Nodes.{joint_seen, HasMaps, AreReadsOf}
use Rattle.whole_node.specs.Reading.{KeepsMail, IsUnchanged, KeepsHalves, ReadDid, ReadDone, RanShort, FetchesBy, BeginsFetch}
use Rattle.whole_node.specs.Beginning.{with_number, RefusesAs, AsksAHolder, FetchBegan, FetchRanShort, FetchesAmong}
use Rattle.whole_node.specs.declared.node.WholeNode.{WholeNode}
use Rattle.whole_node.proofs.Reacting.{seen_by, begins_so}
use Rattle.whole_node.proofs.ReadLetters.{FewRead, are_read, fetch_read}
use Rattle.whole_node.proofs.ReadDids.{unchanged}
use Rattle.whole_node.proofs.LoggedIn.{kept_from}

-- where a set counts some node it has one
some_below : (mask k c : ℕ) → count_below mask k ≡ suc c → HasHolder mask
unfolding count_below
some_below mask zero c e = absurd (cc e)
some_below mask (suc k) c e = by (λ f. some_below mask k c f) (has mask (suc k)) refl e
  where
    by : (count_below mask k ≡ suc c → HasHolder mask) → (b : Bool) → has mask (suc k) ≡ b → count_below mask k + cond b 1 0 ≡ suc c → HasHolder mask
    by rest true is f = (suc k, is)
    by rest false is f = rest (omega (arith, f))

pub holder_counted : (mask : ℕ) → nat_eq (count_in mask) 0 ≡ false → HasHolder mask
holder_counted mask e = by (count_in mask) refl
  where
    by : (c : ℕ) → count_in mask ≡ c → HasHolder mask
    by zero is = absurd (true≢false (ap (λ (n : ℕ). nat_eq n 0) (sym is) ∙ e))
    by (suc c) is = some_below mask 64 c is

pub none_counted : (mask : ℕ) → nat_eq (count_in mask) 0 ≡ true → HasHolder mask → ⊥
none_counted mask e some = true≢false (sym e ∙ counts_some mask some)

module _ {D : Type 0} (on : View D) (user : List ℕ) (id : Id) (at most asked : ℕ) (ticket : Number) (old : WholeNode) (before : D) (new : WholeNode) (after : D) where
  -- the own node told a part at once
  pub told_here : (part : ToldPart) (letters : List Letter) → has asked old.mail.store.own ≡ true → AreReadsOf old.mail old.reads
      → ((records : List Record) → NodeKeeps records old.mail → TellsJournal (on.seen before) old.mail.store.own (payloads_of records) (end_in old.mail) → IsToldPart (is_some (on.seen before)) user id at most records part)
      → (has asked old.reads.own ≡ true → Begins (mail.epoch_of (node_seen old.mail)) ticket.seq (λ u. begin_fetch u user id at most asked part) [] old.reads new.reads) → letters ≡ []
      → IsOnlyRead on before after → on.faults after ≡ on.faults before → FetchBegan on user id at most asked ticket old before new after letters
  told_here part letters own of says begins none read quiet = record {
    part = part;
    says = λ here. says;
    begins = subst (λ (l : List Letter). Begins (mail.epoch_of (node_seen old.mail)) ticket.seq (λ u. begin_fetch u user id at most asked part) l old.reads new.reads) (sym none)
        (begins (subst (λ (o : ℕ). has asked o ≡ true) (sym of.own_is) own));
    read = read;
    quiet = quiet;
  }

-- a holder was asked
pub asked_there : {D : Type 0} (on : View D) (user : List ℕ) (id : Id) (at most asked : ℕ) (ticket : Number) (old : WholeNode) (disk : D) (new : WholeNode) (letters : List Letter) → has asked old.mail.store.own ≡ false
    → AsksAHolder user id at most asked ticket letters old new → FetchBegan on user id at most asked ticket old disk new disk letters
asked_there on user id at most asked ticket old disk new letters apart asks = record {
  part = Gone first_stamp;
  says = λ here. absurd (true≢false (sym here ∙ apart));
  begins = asks (Gone first_stamp);
  read = record { seen = refl; images = keeps_none on.clock disk };
  quiet = refl;
}

module _ {D : Type 0} (on : View D) (plan : Plan) (at : ℕ) (user : List ℕ) (id : Id) (from most asked holders : ℕ) (old : WholeNode) (before : D) (mid : WholeNode) (after : D) (same : at ≡ old.mail.store.own)
    (of_holders : asked ≡ asked_of (node_seen old.mail) holders) (halves : KeepsHalves old mid) (locks : mid.locks ≡ old.locks) where
  -- a fetch has begun
  pub fetch_begun : (ticket : Number) (letters : List Letter) (new : WholeNode) → HasHolder asked → ticket ≡ new_number old.mail.store.own (node_seen old.mail) → HasMaps old → AreReadsOf old.mail old.reads → KeepsMail mid.mail new.mail
      → joint_seen new ≡ with_number (joint_seen mid) → new.maps ≡ mid.maps → FetchBegan on user id from most asked ticket old before mid after letters
      → ReadDone on (FetchesBy at user id from most holders) old before new after letters
  fetch_begun ticket letters new some number its of kept numbered maps f = record {
    did = λ records k t. FetchesBy.Fetches (subst (λ (o : ℕ). rules.Fetches (is_some (on.seen before)) o (joint_seen old) records user id from most holders (record { node = joint_seen new; out = letters })) (sym same) (record {
      some = subst HasHolder of_holders some;
      part = f.part;
      says = λ here. f.says (subst (λ (m : ℕ). has m old.mail.store.own ≡ true) (sym of_holders) here) records k t;
      is = ap (λ (n : Node). record { node = n; out = letters }) numbered ∙ sym (began (is_some (on.seen before)));
    }));
    mail = kept_from old.mail mid.mail new.mail halves.mail kept;
    maps = maps ∙ halves.maps;
    letters = are_read letters (subst FewRead (ap (λ (d : Reaction). d.out) (began true))
        (fetch_read (under old.mail.store.own (seen_by true old) (next_number old.mail.store.own (seen_by true old))) user id from most (asked_of (node_seen old.mail) holders) f.part));
    read = f.read;
    quiet = f.quiet;
  }
    where
      began : (tells : Bool) → rules.reacted (joint_seen old) (begin_read old.mail.store.own (seen_by tells old)
          (begin_fetch (under old.mail.store.own (seen_by tells old) (next_number old.mail.store.own (seen_by tells old))) user id from most (asked_of (node_seen old.mail) holders) f.part)) old.locks
          ≡ record { node = with_number (joint_seen mid); out = letters }
      began tells = begins_so tells old mid halves ticket.seq (λ u. begin_fetch u user id from most (asked_of (node_seen old.mail) holders) f.part) letters old.locks its of (ap (λ (n : Number). n.seq) number) (sym locks)
          (subst (λ (m : ℕ). Begins (mail.epoch_of (node_seen old.mail)) ticket.seq (λ u. begin_fetch u user id from most m f.part) letters old.reads mid.reads) of_holders f.begins)

  -- and one has not
  pub fetch_failed : (seconds : ℕ) (ticket : Number) (fault : NodeFault) → is_worn_for plan seconds (node_seen old.mail) (Fetch user id from most holders) ≡ false
      → FetchesAmong on user id from most asked ticket old before mid after (Err fault) → BeginsFetch on plan at old before mid after seconds user id from most holders (Err fault)
  fetch_failed seconds ticket Disk fresh f = record {
    fresh = fresh;
    holds = subst (λ (o : ℕ). has (asked_of (node_seen old.mail) holders) o ≡ true) (sym same) (subst (λ (m : ℕ). has m old.mail.store.own ≡ true) of_holders f.0);
    failed = subst (λ (o : ℕ). ReadFailed on o old.mail before mid.mail after) (sym same) f.1;
  }
  fetch_failed seconds ticket Worn fresh f = absurd f
  fetch_failed seconds ticket (NoMemory true) fresh f = f
  fetch_failed seconds ticket (NoMemory false) fresh f = record { unchanged = unchanged old mid halves f.reads locks; read = f.read; quiet = f.quiet }

-- it fails at once
pub fetch_refused : {D : Type 0} (on : View D) (plan : Plan) (at seconds : ℕ) (user : List ℕ) (id : Id) (from most holders : ℕ) (r : Result (Option Number × Outbox) NodeFault) (old : WholeNode) (disk : D) (new : WholeNode)
    → at ≡ old.mail.store.own → (HasHolder (asked_of (node_seen old.mail) holders) → ⊥) → RefusesAs Fetching r old new → BeginsFetch on plan at old disk new disk seconds user id from most holders r
fetch_refused on plan at seconds user id from most holders (Ok begun) old disk new same none r = (
  record { fresh = r.fresh plan seconds (Fetch user id from most holders) tt; ticket_is = r.ticket_is ∙ ap (λ (o : ℕ). Some (new_number o (node_seen old.mail))) (sym same); none_thrown = r.none_thrown },
  record {
    did = λ records k t. FetchesBy.HasNoHolder none (r.did.did (is_some (on.seen disk)) records k);
    mail = r.did.mail;
    maps = r.did.maps;
    letters = r.did.letters;
    read = record { seen = refl; images = keeps_none on.clock disk };
    quiet = refl;
  },
)
fetch_refused on plan at seconds user id from most holders (Err Disk) old disk new same none r = absurd r
fetch_refused on plan at seconds user id from most holders (Err Worn) old disk new same none r = (r.0 plan seconds (Fetch user id from most holders) tt, r.1, refl)
fetch_refused on plan at seconds user id from most holders (Err (NoMemory true)) old disk new same none r = r
fetch_refused on plan at seconds user id from most holders (Err (NoMemory false)) old disk new same none r = record { unchanged = r; read = record { seen = refl; images = keeps_none on.clock disk }; quiet = refl }
