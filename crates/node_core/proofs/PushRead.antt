-- Readings that a node makes for what it pushes.
use Rattle.std.proofs.Common.{◌≡◌, ◌≤◌, ◌+◌, ◌⊎◌, inl, inr, ⊎_elim, ℕ, List, [], ◌∷◌, ◌++◌, length, map, replicate, Bool, true, false, cond, Option, Some, None, IfSome, option_map, refl, sym, ap, subst, ◌∙◌, arith, append_assoc}
use Rattle.std.specs.Prelude.{Result, Ok, Err}
use Rattle.std.specs.FinMap as fin
use Rattle.std.proofs.lemmas.List.{map-append}
use Rattle.std.proofs.lemmas.List.Elements.{All-nil, All-cons, All-append}
use Rattle.io_edge.specs.Causes.{Rose}
use Rattle.io_edge.proofs.Passing.{keeps_none, then_kept}
use Rattle.mail_model.specs.Grammar.{IsObject}
use Rattle.mail_model.specs.Identity.{Id, Key}
use Rattle.mail_model.specs.Listing.{octets_in}
use Rattle.mail_model.specs.Record.{Record, payloads_of}
use Rattle.object_model.specs.Letters.{Letter}
use Rattle.object_model.specs.Letters.Body.{Push}
use Rattle.object_model.specs.Sets.{has}
use Rattle.object_model.specs.UpdateLog.{Logged}
use Rattle.cluster_model.specs.Cluster.{epoch_of}
use Rattle.cluster_model.specs.Rules.{pushed_octets, push_of, push}
use Rattle.cluster_model.specs.Room.{due_to}
use Rattle.disk_journal.specs.Journal.{TellsJournal}
use Rattle.node_store.specs.Disks.{View}
use Rattle.node_store.specs.Reads.{TellsKept, GivesWanted}
use Rattle.node_core.specs.Nodes.{node_seen, NodeKeeps, end_in}
use Rattle.node_core.specs.Spelling.{CanBeTaken, AllCanBeTaken}
use Rattle.node_core.specs.Works.{IsOnlyRead}
use Rattle.node_core.specs.Pushing.{untold, pushed_by, keys_within, NodePushed, PushesOut}
use Rattle.node_core.specs.PushReads.{OctetsAreShort, IsRead, Gives, Reads, ReadsLetters}
use Rattle.node_core.specs.declared.fault.NodeFault.{NodeFault}
use Rattle.node_core.specs.declared.fault.NodeFault.TheVariants.{Disk, Worn, NoMemory}
use Rattle.node_core.specs.declared.outbox.Outbox.{Outbox}
use Rattle.node_core.specs.declared.node.Node.{Node}
use Rattle.node_core.proofs.Parts.{as_it_is}
use Rattle.node_core.proofs.Pushed.{counted, first_few, first_small, alike_octets, alike_count}

both_some : {A B C : Type 0} (o : Option (List ℕ)) → (A → B → C) → IfSome o (λ _. A) → IfSome o (λ _. B) → IfSome o (λ _. C)
both_some None f a b = tt
both_some (Some held) f a b = f a b

some_always : {A : Type 0} (o : Option (List ℕ)) → A → IfSome o (λ _. A)
some_always None a = tt
some_always (Some held) a = a

module _ {D : Type 0} (on : View D) (node : Node) where
  pub read_none : (disk : D) → IsRead on node disk disk
  read_none disk = record { read = record { seen = refl; images = keeps_none on.clock disk }; quiet = refl }

  only_on : (before mid after : D) → IsOnlyRead on before mid → IsOnlyRead on mid after → IsOnlyRead on before after
  only_on before mid after a b = record { seen = b.seen ∙ a.seen; images = then_kept on.clock before mid after (on.clock.is_image before) a.images b.images }

  read_on : (before mid after : D) → IsRead on node before mid → IsRead on node mid after → IsRead on node before after
  read_on before mid after a b = record {
    read = only_on before mid after a.read b.read;
    quiet = b.quiet ∙ a.quiet;
  }

  -- nothing is read
  pub gives_known : {T U : Type 0} (form : T → U) (disk : D) (wanted : List Record → T) (given : T) → ((records : List Record) → wanted records ≡ given) → Gives on node disk disk form wanted given
  gives_known form disk wanted given is = record {
    told = some_always (on.seen disk) (λ records k t. is records);
    alike = λ records k. ap form (is records);
    is_read = read_none disk;
  }

  -- a first reading, and then one more
  pub reads_on : {T U : Type 0} (form : T → U) (Fits : T → Type 0) (before mid after : D) (wanted wanted' : List Record → T) → IsRead on node before mid
      → IfSome (on.seen before) (λ _. (records : List Record) → NodeKeeps records node → TellsJournal (on.seen before) node.store.own (payloads_of records) (end_in node) → wanted records ≡ wanted' records)
      → ((records : List Record) → NodeKeeps records node → form (wanted records) ≡ form (wanted' records))
      → (result : Result T NodeFault) → Reads on node mid after form Fits wanted' result → Reads on node before after form Fits wanted result
  reads_on {T} form Fits before mid after wanted wanted' first told alike (Ok given) r = (
    record {
      told = both_some (on.seen before) (λ a b records k t. a records k t ∙ b records k t) told
          (subst (λ (o : Option (List ℕ)). IfSome o (λ _. (records : List Record) → NodeKeeps records node → TellsJournal o node.store.own (payloads_of records) (end_in node) → wanted' records ≡ given)) first.read.seen r.0.told);
      alike = λ records k. alike records k ∙ r.0.alike records k;
      is_read = read_on before mid after first r.0.is_read;
    },
    r.1,
  )
  reads_on form Fits before mid after wanted wanted' first told alike (Err Disk) r = record {
    as_before = r.as_before;
    read = only_on before mid after first.read r.read;
    later = omega (arith, r.later, first.quiet);
    cause = ⊎_elim (λ none. inl (sym first.read.seen ∙ none))
        (λ others. inr (⊎_elim (λ rose. inl (subst (λ (n : ℕ). Rose n (on.faults after)) first.quiet rose))
        (λ never. inr (λ records k t. never records k (subst (λ (o : Option (List ℕ)). TellsJournal o node.store.own (payloads_of records) (end_in node)) (sym first.read.seen) t))) others)) r.cause;
  }
  reads_on form Fits before mid after wanted wanted' first told alike (Err Worn) r = absurd r
  reads_on form Fits before mid after wanted wanted' first told alike (Err (NoMemory true)) r = absurd r
  reads_on form Fits before mid after wanted wanted' first told alike (Err (NoMemory false)) r = read_on before mid after first r

  module _ (before after : D) (read : IsOnlyRead on before after) where
    -- what the store gives of a message
    pub gives_octets : on.faults after ≡ on.faults before → (id : Id) (given : Option (List ℕ)) → GivesWanted (on.seen before) node.store (octets_in id) given → Gives on node before after (option_map length) (octets_in id) given
    gives_octets quiet id given g = record { told = tells (on.seen before) g.those; alike = λ records k. sym (g.sized records k); is_read = record { read = read; quiet = quiet } }
      where
        tells : (seen : Option (List ℕ)) → IfSome seen (λ held. (records : List Record) → TellsKept node.store held records → given ≡ octets_in id records)
            → IfSome seen (λ _. (records : List Record) → NodeKeeps records node → TellsJournal seen node.store.own (payloads_of records) (end_in node) → octets_in id records ≡ given)
        tells None those = tt
        tells (Some held) those = λ records k t. sym (those records (k, t.journal))

  -- the letters with one more
  module _ (to : ℕ) (key : Key) (entry : Logged) (stands : fin.get node.store.log key ≡ Some entry) (owed : has entry.remaining to ≡ true) (before after : D) where
    abbrev letter_with : Option (List ℕ) → Letter
    letter_with octets = record { from = node.store.own; to = to; epoch = epoch_of (node_seen node); ticket = None; body = Push key entry.state octets }

    letter_is : (records : List Record) → push_of node.store.own to (epoch_of (node_seen node)) records key (fin.get node.store.log key) ≡ letter_with (pushed_octets key entry.state.value records) ∷ []
    letter_is records =
        ap (push_of node.store.own to (epoch_of (node_seen node)) records key) stands
        ∙ ap (λ (b : Bool). cond b (letter_with (pushed_octets key entry.state.value records) ∷ []) []) owed

    untold_alike : (a b : Option (List ℕ)) → option_map length a ≡ option_map length b → untold (letter_with a) ≡ untold (letter_with b)
    untold_alike None None same = refl
    untold_alike None (Some b) same = absurd (cc same)
    untold_alike (Some a) None same = absurd (cc same)
    untold_alike (Some a) (Some b) same =
        let count : length a ≡ length b = cc same in
        ap (λ (n : ℕ). untold_of n) count
      where
        untold_of : ℕ → Letter
        untold_of n = record { from = node.store.own; to = to; epoch = epoch_of (node_seen node); ticket = None; body = Push key entry.state (Some (replicate n 0)) }

    fit_letter : (octets : Option (List ℕ)) → IsObject key entry.state → OctetsAreShort octets → CanBeTaken (Push key entry.state octets)
    fit_letter None object short = object
    fit_letter (Some octets) object short = (object, short)

    pub one_pushed : (letters all : List Letter) (octets : Option (List ℕ)) → Gives on node before after (option_map length) (pushed_octets key entry.state.value) octets → OctetsAreShort octets → IsObject key entry.state
        → AllCanBeTaken letters → all ≡ letters ++ letter_with octets ∷ []
        → Gives on node before after (map untold) (λ records. letters ++ push_of node.store.own to (epoch_of (node_seen node)) records key (fin.get node.store.log key)) all × AllCanBeTaken all
    one_pushed letters all octets given short object fits is = (
      record {
        told = both_some (on.seen before) (λ a b records k t. ap (λ (l : List Letter). letters ++ l) (letter_is records ∙ ap (λ (o : Option (List ℕ)). letter_with o ∷ []) (a records k t)) ∙ sym is) given.told given.told;
        alike = λ records k.
            ap (λ (l : List Letter). map untold (letters ++ l)) (letter_is records)
            ∙ map-append untold letters (letter_with (pushed_octets key entry.state.value records) ∷ [])
            ∙ ap (λ (l : Letter). map untold letters ++ l ∷ []) (untold_alike (pushed_octets key entry.state.value records) octets (given.alike records k))
            ∙ sym (map-append untold letters (letter_with octets ∷ []))
            ∙ ap (map untold) (sym is);
        is_read = given.is_read;
      },
      subst AllCanBeTaken (sym is) (All-append (λ (letter : Letter). CanBeTaken letter.body) letters (letter_with octets ∷ []) fits
          (All-cons (λ (letter : Letter). CanBeTaken letter.body) (letter_with octets) [] (fit_letter octets object short) (All-nil (λ (letter : Letter). CanBeTaken letter.body)))),
    )

  -- a first letter, and then the others
  module _ (before mid after : D) (letters sent : List Letter) (one more : List Record → List Letter) where
    pub pushed_on : Gives on node before mid (map untold) (λ records. letters ++ one records) sent
        → (result : Result (List Letter) NodeFault) → ReadsLetters on node mid after (λ records. sent ++ more records) result → ReadsLetters on node before after (λ records. letters ++ (one records ++ more records)) result
    pushed_on first result r =
        reads_on (map untold) AllCanBeTaken before mid after (λ records. letters ++ (one records ++ more records)) (λ records. sent ++ more records) first.is_read
        (both_some (on.seen before) (λ a b records k t. sym (append_assoc letters (one records) (more records)) ∙ ap (λ (l : List Letter). l ++ more records) (a records k t)) first.told first.told)
        (λ records k.
        ap (map untold) (sym (append_assoc letters (one records) (more records)))
        ∙ map-append untold (letters ++ one records) (more records)
        ∙ ap (λ (l : List Letter). l ++ map untold (more records)) (first.alike records k)
        ∙ sym (map-append untold sent (more records))) result r

  -- what is pushed in all
  module _ (to most room : ℕ) (before after : D) (keys : List Key) (keys_are : (records : List Record) → NodeKeeps records node → keys ≡ keys_within most room node.store.own to (node_seen node) records) where
    out_is : (records : List Record) → NodeKeeps records node → pushed_by node.store.own to most room (node_seen node) records ≡ (push node.store.own to keys (node_seen node) records).out
    out_is records k = ap (λ (ks : List Key). (push node.store.own to ks (node_seen node) records).out) (sym (keys_are records k))

    all_pushed : (sent : List Letter) → Gives on node before after (map untold) (λ records. (push node.store.own to keys (node_seen node) records).out) sent → AllCanBeTaken sent → NodePushed on node.store.own to most room node before node after sent
    all_pushed sent g fits =
        record {
          told = both_some (on.seen before) (λ a b records k t. out_is records k ∙ a records k t) g.told g.told;
          alike = alike;
          count = λ records k. alike_count (pushed_by node.store.own to most room (node_seen node) records) sent (alike records k) ∙ counted node.store.own to (node_seen node) records most room;
          few = λ records k.
              subst (λ (n : ℕ). n ≤ most) (sym (alike_count (pushed_by node.store.own to most room (node_seen node) records) sent (alike records k) ∙ counted node.store.own to (node_seen node) records most room))
              (first_few (λ key. push_of node.store.own to (epoch_of (node_seen node)) records key (fin.get node.store.log key)) most room (due_to node.store.own to (node_seen node)));
          small = λ records k.
              subst (λ (n : ℕ). n ≤ room) (sym (alike_octets (pushed_by node.store.own to most room (node_seen node) records) sent (alike records k)))
              (first_small (λ key. push_of node.store.own to (epoch_of (node_seen node)) records key (fin.get node.store.log key)) most room (due_to node.store.own to (node_seen node)));
          fits = fits;
          as_before = as_it_is node;
          read = g.is_read.read;
          quiet = g.is_read.quiet;
        }
      where
        alike : (records : List Record) → NodeKeeps records node → map untold (pushed_by node.store.own to most room (node_seen node) records) ≡ map untold sent
        alike records k = ap (map untold) (out_is records k) ∙ g.alike records k

    pub pushed_out : (outbox : Outbox) (sent : List Letter) → outbox.letters ≡ sent → outbox.thrown ≡ None → ReadsLetters on node before after (λ records. (push node.store.own to keys (node_seen node) records).out) (Ok sent)
        → PushesOut on node.store.own to most room node before node after (Ok outbox)
    pushed_out outbox sent is none r = (none, subst (λ (l : List Letter). NodePushed on node.store.own to most room node before node after l) (sym is) (all_pushed sent r.0 r.1))

    pub push_failed : (fault : NodeFault) → ReadsLetters on node before after (λ records. (push node.store.own to keys (node_seen node) records).out) (Err fault) → PushesOut on node.store.own to most room node before node after (Err fault)
    push_failed Disk r = r
    push_failed Worn r = r
    push_failed (NoMemory true) r = r
    push_failed (NoMemory false) r = (as_it_is node, r.read, r.quiet)
