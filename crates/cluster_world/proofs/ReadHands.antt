-- All that comes of a letter of a call that reads that is handed to its receiver.
use Rattle.std.proofs.Common.{◌≡◌, ℕ, zero, suc, ◌+◌, ◌≤◌, ◌<◌, Bool, true, false, nat_le, List, [], ◌∷◌, Option, Some, None, Result, Ok, Err, IfOk, refl, sym, ap, ◌∙◌, subst, arith}
use Rattle.std.specs.Prelude.{slice_get}
use Rattle.std.proofs.lemmas.Option.{slice_get_within}
use Rattle.mail_model.specs.Plan.{Plan}
use Rattle.object_model.specs.Letters.{Letter, is_read_body}
use Rattle.object_model.specs.Mishaps.{MishapKind as mishap}
use Rattle.session_model.specs.Events.{NodeLife as life}
use Rattle.cluster_model.specs.Steps.{letter_at, letters_end}
use Rattle.joint_model.specs.Joint as joint
use Rattle.node_store.specs.Disks.{View}
use Rattle.node_maps.specs.Nodes.{node_of}
use Rattle.node_core.specs.Nodes.{IsNodeOf}
use Rattle.node_core.specs.Works.{IsOnlyRead}
use Rattle.node_core.specs.declared.fault.NodeFault.{NodeFault}
use Rattle.node_core.specs.declared.fault.NodeFault.TheVariants.{Disk, Worn, NoMemory}
use Rattle.node_core.specs.declared.outbox.Outbox.{Outbox}
use Rattle.node_core.specs.declared.outbox.Why.{Why}
use Rattle.node_core.specs.declared.outbox.Why.TheVariants as why
use Rattle.whole_node.specs.Nodes.{WholeWorks, joint_seen}
use Rattle.whole_node.specs.Reading.{KeepsMail, HearsRead, ReadThrown, ReadHeardOrThrown}
use Rattle.whole_node.specs.declared.node.WholeNode.{WholeNode}
use Rattle.world_book.specs.Books.{spare_of}
use Rattle.world_book.specs.declared.book.Book.{Book}
use Rattle.cluster_world.specs.Changes.{ChangesNode}
use Rattle.cluster_world.specs.Flights.{InFlight, AreInOrder}
use Rattle.cluster_world.specs.Lives.{life_seen, is_up_life, of_node, falls_left, all_falls_left, CanWorkOn}
use Rattle.cluster_world.specs.Reading.{AreOfOne, StaysBeside}
use Rattle.cluster_world.specs.ReadPosts.{ReadTurns, HearsReadAt, IsLost, EndsHeardRead, EndsRead, said_of_heard}
use Rattle.cluster_world.specs.Steps.{StepDid, AreSettled}
use Rattle.cluster_world.specs.Worlds.{state_with, life_among, seen_life}
use Rattle.cluster_world.specs.declared.life.Life.{Life}
use Rattle.cluster_world.specs.declared.life.Life.TheVariants.{Up, Down}
use Rattle.cluster_world.specs.declared.nodes.Nodes.{Nodes}
use Rattle.cluster_world.specs.declared.step.Step.TheVariants as step
use Rattle.cluster_world.specs.declared.step.Said.{Said}
use Rattle.cluster_world.specs.declared.step.Said.TheVariants as said
use Rattle.cluster_world.specs.declared.fault.StepFault.{StepFault}
use Rattle.cluster_world.specs.declared.fault.StepFault.TheVariants as fault
use Rattle.cluster_world.proofs.Asked.{ready_of}
use Rattle.cluster_world.proofs.BeginReads.{sent_put}
use Rattle.cluster_world.proofs.Queues.{beside_further}
use Rattle.cluster_world.proofs.ReadEnds.{nobody_read, stale_read, late_read, heard_read}
use Rattle.cluster_world.proofs.ReadFalls.{short_read, failed_read}
use Rattle.cluster_world.proofs.ReadNodes.{node_falls, node_ready, node_settled, unchanged_keeps, unchanged_seen}
use Rattle.cluster_world.proofs.ReadSteps.{beside_settled}
use Rattle.cluster_world.proofs.Still.{nothing_read}
use Rattle.cluster_world.proofs.Turned.{still_ready, falls_now, settled_by}

-- a node that has its maps yet is in its boot yet
boot_same : (seen seen' : Option (List ℕ)) (a b : WholeNode) → WholeWorks seen a → WholeWorks seen' b → b.maps ≡ a.maps → (joint_seen b).whole.mail.boot ≡ (joint_seen a).whole.mail.boot
boot_same seen seen' a b before after same = sym after.maps.boot ∙ ap (λ m. (node_of m).boot) same ∙ before.maps.boot

-- a letter that a node sends for a call that reads can be put in flight; one that is thrown sends none
pub heard_one : {D : Type 0} (on : View D) (plan : Plan) (own : ℕ) (a : WholeNode) (before : D) (b : WholeNode) (after : D) (letter : Letter) (o : Option Why) (letters : List Letter) → ReadHeardOrThrown on plan own a before b after letter o letters → AreOfOne letters
heard_one on plan own a before b after letter None letters h = (sent_put letters h.did.letters).one
heard_one on plan own a before b after letter (Some why.Stale) letters (stale, thrown) = none_one letters thrown.none
  where
    none_one : (ls : List Letter) → ls ≡ [] → AreOfOne ls
    none_one ls e = subst (λ (l : List Letter). AreOfOne l) (sym e) (λ one among. absurd among)
heard_one on plan own a before b after letter (Some why.Late) letters (fresh, late, thrown) = none_one letters thrown.none
  where
    none_one : (ls : List Letter) → ls ≡ [] → AreOfOne ls
    none_one ls e = subst (λ (l : List Letter). AreOfOne l) (sym e) (λ one among. absurd among)
heard_one on plan own a before b after letter (Some why.Down) letters h = absurd h
heard_one on plan own a before b after letter (Some why.Old) letters h = absurd h
heard_one on plan own a before b after letter (Some why.NotPromised) letters h = absurd h
heard_one on plan own a before b after letter (Some why.NotMember) letters h = absurd h

pub heard_fits : {D : Type 0} (on : View D) (plan : Plan) (own : ℕ) (a : WholeNode) (before : D) (b : WholeNode) (after : D) (letter : Letter) (heard : Result Outbox NodeFault) → HearsRead on plan own a before b after letter heard → IfOk heard (λ outbox. AreOfOne outbox.letters)
heard_fits on plan own a before b after letter (Ok outbox) h = heard_one on plan own a before b after letter outbox.thrown outbox.letters h
heard_fits on plan own a before b after letter (Err why_) h = tt

module _ {D : Type 0} (on : View D) (is_settled : D → Type 0) (old : Nodes D) (flying : InFlight) (book : Book) (number : ℕ) (keep : Bool) (works : CanWorkOn on.seen old.plan old.lives.items old.disks.items) where
  -- all that a caller asks of the step
  pub record Handed (result : Result Said StepFault) (new : Nodes D) (flying' : InFlight) (book' : Book) : Type 0 where
    pub did : (seconds : ℕ) → StepDid on result (step.Post number keep) (state_with old flying seconds book) (state_with new flying' seconds book')
    pub ready : CanWorkOn on.seen new.plan new.lives.items new.disks.items
    pub settled : (seconds : ℕ) → AreSettled is_settled (state_with old flying seconds book) → AreSettled is_settled (state_with new flying' seconds book')
    pub spare : spare_of book + all_falls_left new.lives.items ≤ spare_of book' + all_falls_left old.lives.items

  module _ (letter : Letter) (here : letter_at number flying.flights ≡ Some letter) (order : AreInOrder flying) (read : is_read_body letter.body ≡ true) (early : nat_le letters_end flying.sent ≡ false) where
    pub nobody_handed : (new : Nodes D) (flying' : InFlight) → is_up_life (life_among old letter.to) ≡ false → IsLost on number keep mishap.Down letter old flying new flying' → Handed (Ok (said.Thrown why.Down)) new flying' book
    nobody_handed new flying' down lost =
        let beside = beside_further on old lost.mid new lost.befell.beside lost.puts.beside in
        record {
          did = λ seconds. nobody_read on old flying seconds book number keep letter here order read early new flying' down lost;
          ready = beside.works works;
          settled = λ seconds. beside_settled on old new beside flying flying' seconds book book is_settled;
          spare = omega (arith, beside.falls);
        }

    module _ (heard : Result Outbox NodeFault) (mid : Nodes D) (ch : ChangesNode letter.to (HearsReadAt on is_settled old.plan letter.to letter heard) old mid) where
      P : Life → D → Life → D → Type 0
      P = HearsReadAt on is_settled old.plan letter.to letter heard

      abbrev t : ReadTurns on.seen (λ result old_ before new_ after. HearsRead on old.plan letter.to old_ before new_ after letter result) heard ch.life ch.disk ch.life' ch.disk'
      t = ch.does.0

      own : IsNodeOf old.plan letter.to t.old.mail × WholeWorks (on.seen ch.disk) t.old
      own = ready_of on.seen old.plan old.lives.items old.disks.items works letter.to t.old ch.disk (ch.was ∙ ap Some t.was) ch.held

      -- a node that stays up, and then nodes beside it
      module _ (up : ch.life' ≡ Up t.new) (only : IsOnlyRead on ch.disk ch.disk') (quiet : on.faults ch.disk' ≡ on.faults ch.disk) (kept : KeepsMail t.old.mail t.new.mail) (boot : (joint_seen t.new).whole.mail.boot ≡ (joint_seen t.old).whole.mail.boot)
          (mine : WholeWorks (on.seen ch.disk') t.new) (still : is_settled ch.disk → is_settled ch.disk') where
        mid_ready : CanWorkOn on.seen mid.plan mid.lives.items mid.disks.items
        mid_ready = subst (λ p. CanWorkOn on.seen p mid.lives.items mid.disks.items) (sym ch.plan)
            (node_ready on letter.to (HearsReadAt on is_settled old.plan letter.to letter heard) old mid ch t.old t.new t.was up only quiet kept boot old.plan works own.0 mine)

        mid_falls : all_falls_left mid.lives.items ≡ all_falls_left old.lives.items
        mid_falls = node_falls on letter.to (HearsReadAt on is_settled old.plan letter.to letter heard) old mid ch t.old t.new t.was up only quiet kept boot

        -- nothing was put in flight
        pub up_alone : (result : Result Said StepFault) (flying' : InFlight) → ((seconds : ℕ) → StepDid on result (step.Post number keep) (state_with old flying seconds book) (state_with mid flying' seconds book)) → Handed result mid flying' book
        up_alone result flying' did = record {
          did = did;
          ready = mid_ready;
          settled = λ seconds. node_settled on letter.to (HearsReadAt on is_settled old.plan letter.to letter heard) old mid ch t.old t.new t.was up only quiet kept boot is_settled still flying flying' seconds book book;
          spare = omega (arith, mid_falls);
        }

        pub up_beside : (result : Result Said StepFault) (new : Nodes D) (flying' : InFlight) → StaysBeside on.seen mid new
            → ((seconds : ℕ) → StepDid on result (step.Post number keep) (state_with old flying seconds book) (state_with new flying' seconds book)) → Handed result new flying' book
        up_beside result new flying' beside did = record {
          did = did;
          ready = beside.works mid_ready;
          settled = λ seconds s. beside_settled on mid new beside flying flying' seconds book book is_settled
              (node_settled on letter.to (HearsReadAt on is_settled old.plan letter.to letter heard) old mid ch t.old t.new t.was up only quiet kept boot is_settled still flying flying seconds book book s);
          spare = omega (arith, mid_falls, beside.falls);
        }

    -- It was heard, or thrown.
    module _ (outbox : Outbox) (mid : Nodes D) (ch : ChangesNode letter.to (HearsReadAt on is_settled old.plan letter.to letter (Ok outbox)) old mid) where
      abbrev Q : Life → D → Life → D → Type 0
      Q = HearsReadAt on is_settled old.plan letter.to letter (Ok outbox)

      mine : IsNodeOf old.plan letter.to ch.does.0.old.mail × WholeWorks (on.seen ch.disk) ch.does.0.old
      mine = ready_of on.seen old.plan old.lives.items old.disks.items works letter.to ch.does.0.old ch.disk (ch.was ∙ ap Some ch.does.0.was) ch.held

      pub ok_handed : (o : Option Why) → ReadHeardOrThrown on old.plan letter.to ch.does.0.old ch.disk ch.does.0.new ch.disk' letter o outbox.letters → (new : Nodes D) (flying' : InFlight)
          → EndsHeardRead on number keep o outbox.letters mid flying new flying' → Handed (Ok (said_of_heard o)) new flying' book
      ok_handed None h new flying' puts =
          let boot = boot_same (on.seen ch.disk) (on.seen ch.disk') ch.does.0.old ch.does.0.new mine.1 (ch.does.0.works tt) h.did.maps in
          up_beside (Ok outbox) mid ch ch.does.0.is h.did.read h.did.quiet h.did.mail boot (ch.does.0.works tt) (λ s. ch.does.1 tt s) (Ok said.Heard) new flying' puts.beside
          (λ seconds. heard_read on old flying seconds book number keep letter here order read early Q mid ch ch.does.0.old ch.does.0.new ch.does.0.was ch.does.0.is outbox.letters h mine.0.own_is new flying' puts boot)
      ok_handed (Some why.Stale) (stale, thrown) new flying' lost =
          let l : IsLost on number keep mishap.Stale letter mid flying new flying' = lost letter here in
          let same = thrown.unchanged in
          up_beside (Ok outbox) mid ch ch.does.0.is (nothing_read on ch.disk ch.disk' thrown.untouched) (ap on.faults thrown.untouched) (unchanged_keeps ch.does.0.old ch.does.0.new same)
          (ap (λ (x : joint.Node). x.whole.mail.boot) (unchanged_seen ch.does.0.old ch.does.0.new same)) (ch.does.0.works tt) (λ s. ch.does.1 tt s) (Ok (said.Thrown why.Stale)) new flying' (beside_further on mid l.mid new l.befell.beside l.puts.beside)
          (λ seconds. stale_read on old flying seconds book number keep letter here order read early Q mid ch ch.does.0.old ch.does.0.new ch.does.0.was ch.does.0.is same thrown.untouched stale new flying' l)
      ok_handed (Some why.Late) (fresh, late, thrown) new flying' (same_nodes, left) =
          let same = thrown.unchanged in
          subst (λ (x : Nodes D). Handed (Ok (said.Thrown why.Late)) x flying' book) (sym same_nodes)
          (up_alone (Ok outbox) mid ch ch.does.0.is (nothing_read on ch.disk ch.disk' thrown.untouched) (ap on.faults thrown.untouched) (unchanged_keeps ch.does.0.old ch.does.0.new same)
          (ap (λ (x : joint.Node). x.whole.mail.boot) (unchanged_seen ch.does.0.old ch.does.0.new same)) (ch.does.0.works tt) (λ s. ch.does.1 tt s) (Ok (said.Thrown why.Late)) flying'
          (λ seconds. late_read on old flying seconds book number keep letter here order read early Q mid ch ch.does.0.old ch.does.0.new ch.does.0.was ch.does.0.is same thrown.untouched fresh late flying' left))
      ok_handed (Some why.Down) h new flying' ends = absurd h
      ok_handed (Some why.Old) h new flying' ends = absurd h
      ok_handed (Some why.NotPromised) h new flying' ends = absurd h
      ok_handed (Some why.NotMember) h new flying' ends = absurd h

    -- whatever came of it
    pub all_handed : 1 ≤ letter.to → letter.to ≤ old.plan.nodes → (heard : Result Outbox NodeFault) (mid : Nodes D) → ChangesNode letter.to (HearsReadAt on is_settled old.plan letter.to letter heard) old mid
        → (result : Result Said StepFault) (new : Nodes D) (flying' : InFlight) (book' : Book) → EndsRead on number keep letter.to heard result mid flying book new flying' book' → Handed result new flying' book'
    all_handed above within (Ok outbox) mid ch result new flying' book' (is, ends, same) =
        subst (λ r. Handed r new flying' book') (sym is) (subst (λ (x : Book). Handed (Ok (said_of_heard outbox.thrown)) new flying' x) (sym same) (ok_handed outbox mid ch outbox.thrown ch.does.0.did new flying' ends))
    all_handed above within (Err Disk) mid ch result new flying' book' (is, lost, entered) =
        let l : IsLost on number keep mishap.Disk letter mid flying new flying' = lost letter here in
        let Q = HearsReadAt on is_settled old.plan letter.to letter (Err Disk) in
        let beside = beside_further on mid l.mid new l.befell.beside l.puts.beside in
        let (fetch, fresh, failed) = ch.does.0.did in
        let no_boot : (boot : ℕ) → life_seen ch.life' ≡ life.Up boot → ⊥ = (λ boot e. let never : life.Down ≡ life.Up boot = sym (ap life_seen ch.does.0.is) ∙ e in cc) in
        subst (λ r. Handed r new flying' book') (sym is) (record {
          did = λ seconds. failed_read on old flying seconds book number keep letter here order read early Q mid ch ch.does.0.old ch.does.0.was ch.does.0.is ch.does.0.new.mail failed fetch fresh above within new flying' book' l entered;
          ready = beside.works (subst (λ p. CanWorkOn on.seen p mid.lives.items mid.disks.items) (sym ch.plan)
              (still_ready letter.to Q old mid ch on.seen old.plan works (λ node up. absurd (let never : Down ≡ Up node = sym ch.does.0.is ∙ up in cc))));
          settled = λ seconds s. beside_settled on mid new beside flying flying' seconds book book' is_settled
              (settled_by letter.to Q old mid ch flying flying seconds seconds book book is_settled (λ boot up was. absurd (no_boot boot up)) s);
          spare = omega (arith, entered.spare, falls_now letter.to Q old mid ch, ap falls_left ch.does.0.is, ap falls_left ch.does.0.was, beside.falls);
        })
    all_handed above within (Err Worn) mid ch result new flying' book' ends = absurd ch.does.0.did
    all_handed above within (Err (NoMemory true)) mid ch result new flying' book' ends = absurd ch.does.0.did
    all_handed above within (Err (NoMemory false)) mid ch result new flying' book' (is, same_nodes, flies, same_book) =
        let (short, untouched) = ch.does.0.did in
        let Q = HearsReadAt on is_settled old.plan letter.to letter (Err (NoMemory false)) in
        subst (λ r. Handed r new flying' book') (sym is) (subst (λ (x : Nodes D). Handed (Err (fault.NoMemory None)) x flying' book') (sym same_nodes)
        (subst (λ (x : InFlight). Handed (Err (fault.NoMemory None)) mid x book') (sym flies) (subst (λ (x : Book). Handed (Err (fault.NoMemory None)) mid flying x) (sym same_book)
        (up_alone (Err (NoMemory false)) mid ch ch.does.0.is short.read short.quiet (unchanged_keeps ch.does.0.old ch.does.0.new short.unchanged)
        (ap (λ (x : joint.Node). x.whole.mail.boot) (unchanged_seen ch.does.0.old ch.does.0.new short.unchanged)) (ch.does.0.works tt) (λ s. ch.does.1 tt s) (Err (fault.NoMemory None)) flying
        (λ seconds. short_read on old flying seconds book number keep letter here order read early Q mid ch ch.does.0.old ch.does.0.was ch.does.0.new ch.does.0.is short untouched)))))

    -- whoever is up then can work
    pub mid_works : (heard : Result Outbox NodeFault) (mid : Nodes D) → ChangesNode letter.to (HearsReadAt on is_settled old.plan letter.to letter heard) old mid → CanWorkOn on.seen mid.plan mid.lives.items mid.disks.items
    mid_works (Ok outbox) mid ch = by outbox.thrown ch.does.0.did
      where
        mine : IsNodeOf old.plan letter.to ch.does.0.old.mail × WholeWorks (on.seen ch.disk) ch.does.0.old
        mine = ready_of on.seen old.plan old.lives.items old.disks.items works letter.to ch.does.0.old ch.disk (ch.was ∙ ap Some ch.does.0.was) ch.held

        as_was : ReadThrown on old.plan letter.to ch.does.0.old ch.disk ch.does.0.new ch.disk' outbox.letters → CanWorkOn on.seen mid.plan mid.lives.items mid.disks.items
        as_was thrown = mid_ready (Ok outbox) mid ch ch.does.0.is (nothing_read on ch.disk ch.disk' thrown.untouched) (ap on.faults thrown.untouched) (unchanged_keeps ch.does.0.old ch.does.0.new thrown.unchanged)
            (ap (λ (x : joint.Node). x.whole.mail.boot) (unchanged_seen ch.does.0.old ch.does.0.new thrown.unchanged)) (ch.does.0.works tt) (λ s. ch.does.1 tt s)

        by : (o : Option Why) → ReadHeardOrThrown on old.plan letter.to ch.does.0.old ch.disk ch.does.0.new ch.disk' letter o outbox.letters → CanWorkOn on.seen mid.plan mid.lives.items mid.disks.items
        by None h = mid_ready (Ok outbox) mid ch ch.does.0.is h.did.read h.did.quiet h.did.mail (boot_same (on.seen ch.disk) (on.seen ch.disk') ch.does.0.old ch.does.0.new mine.1 (ch.does.0.works tt) h.did.maps) (ch.does.0.works tt) (λ s. ch.does.1 tt s)
        by (Some why.Stale) (stale, thrown) = as_was thrown
        by (Some why.Late) (fresh, late, thrown) = as_was thrown
        by (Some why.Down) h = absurd h
        by (Some why.Old) h = absurd h
        by (Some why.NotPromised) h = absurd h
        by (Some why.NotMember) h = absurd h
    mid_works (Err Disk) mid ch = subst (λ p. CanWorkOn on.seen p mid.lives.items mid.disks.items) (sym ch.plan)
        (still_ready letter.to (HearsReadAt on is_settled old.plan letter.to letter (Err Disk)) old mid ch on.seen old.plan works (λ node up. absurd (let never : Down ≡ Up node = sym ch.does.0.is ∙ up in cc)))
    mid_works (Err Worn) mid ch = absurd ch.does.0.did
    mid_works (Err (NoMemory true)) mid ch = absurd ch.does.0.did
    mid_works (Err (NoMemory false)) mid ch =
        let (short, untouched) = ch.does.0.did in
        mid_ready (Err (NoMemory false)) mid ch ch.does.0.is short.read short.quiet (unchanged_keeps ch.does.0.old ch.does.0.new short.unchanged)
        (ap (λ (x : joint.Node). x.whole.mail.boot) (unchanged_seen ch.does.0.old ch.does.0.new short.unchanged)) (ch.does.0.works tt) (λ s. ch.does.1 tt s)

-- the book needs room for the fall of a node that is up
falls_at : (lives : List Life) (k : ℕ) (l : Life) → slice_get lives k ≡ Some l → is_up_life (life_seen l) ≡ true → 1 ≤ all_falls_left lives
falls_at [] k l e up = absurd (let never : None ≡ Some l = e in cc)
falls_at (x ∷ lives) zero l e up = by l (one x l e) up
  where
    one : (p q : Life) → Some p ≡ Some q → p ≡ q
    one p q h = cc

    by : (y : Life) → x ≡ y → is_up_life (life_seen y) ≡ true → 1 ≤ all_falls_left (x ∷ lives)
    by (Up node) same h = omega (arith, ap falls_left same)
    by Down same h = absurd (let never : false ≡ true = h in cc)
    by Rattle.cluster_world.specs.declared.life.Life.TheVariants.Lost same h = absurd (let never : false ≡ true = h in cc)
falls_at (x ∷ lives) (suc k) l e up = omega (arith, falls_at lives k l e up)

pub room_for_fall : {D : Type 0} (nodes : Nodes D) (book : Book) (n : ℕ) → is_up_life (life_among nodes n) ≡ true → all_falls_left nodes.lives.items ≤ spare_of book → 0 < spare_of book
room_for_fall nodes book zero up room = absurd (let never : false ≡ true = up in cc)
room_for_fall nodes book (suc k) up room = by (of_node nodes.lives.items (suc k)) refl up
  where
    by : (o : Option Life) → of_node nodes.lives.items (suc k) ≡ o → is_up_life (seen_life o) ≡ true → 0 < spare_of book
    by None e h = absurd (let never : false ≡ true = h in cc)
    by (Some l) e h = omega (arith, falls_at nodes.lives.items k l e h, room)

-- the number of a node that is up is one of the plan
pub up_within : {D : Type 0} (nodes : Nodes D) (n : ℕ) → is_up_life (life_among nodes n) ≡ true → (1 ≤ n) × (n ≤ nodes.plan.nodes)
up_within nodes zero up = absurd (let never : false ≡ true = up in cc)
up_within nodes (suc k) up = (omega arith, by (of_node nodes.lives.items (suc k)) refl up)
  where
    by : (o : Option Life) → of_node nodes.lives.items (suc k) ≡ o → is_up_life (seen_life o) ≡ true → suc k ≤ nodes.plan.nodes
    by None e h = absurd (let never : false ≡ true = h in cc)
    by (Some l) e h = omega (arith, slice_get_within nodes.lives.items k l e, nodes.all)
