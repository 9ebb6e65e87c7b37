-- The disk of the receiver of a letter of a call that reads fails, or memory runs out as it is heard.
use Rattle.std.proofs.Common.{◌≡◌, inl, inr, ⊎_elim, ℕ, ◌≤◌, Bool, true, false, nat_le, List, [], ◌∷◌, ◌++◌, length, map, append-nil, Some, None, Ok, Err, refl, sym, ap, ◌∙◌, subst}
use Rattle.std.specs.Prelude.{is_some}
use Rattle.mail_model.specs.Book.BookEntry.{WentDown}
use Rattle.mail_model.specs.Record.{Record}
use Rattle.io_edge.specs.Causes.{Rose}
use Rattle.object_model.specs.Letters.{Body, Letter, is_read_body}
use Rattle.object_model.specs.Letters.Body.{FetchAsk}
use Rattle.object_model.specs.Mishaps.{MishapKind as mishap}
use Rattle.session_model.specs.Events.{NodeLife as life, turned}
use Rattle.cluster_model.specs.Cluster as plain
use Rattle.cluster_model.specs.Makes.{IsFetchAsk}
use Rattle.cluster_model.specs.Steps.{letter_at, letters_end}
use Rattle.cluster_model.specs.Thrown.{is_stale}
use Rattle.cluster_model.specs.World as machine
use Rattle.whole_model.specs.Whole.{mail_slot}
use Rattle.joint_model.specs.Joint as joint
use Rattle.joint_model.specs.Joint.{whole_slot}
use Rattle.joint_world.specs.World.{World, mail_world_of}
use Rattle.joint_world.specs.Makes as joint_makes
use Rattle.joint_world.specs.Putting.{missed, Puts}
use Rattle.joint_world.proofs.Putting.{missed_seen}
use Rattle.node_store.specs.Disks.{View}
use Rattle.node_core.specs.Nodes.{node_seen}
use Rattle.node_core.specs.Works.{ReadFailed}
use Rattle.node_core.specs.declared.node.Node as half
use Rattle.whole_node.specs.Nodes.{joint_seen}
use Rattle.whole_node.specs.Reading.{RanShort}
use Rattle.whole_node.specs.declared.node.WholeNode.{WholeNode}
use Rattle.world_book.specs.Books.{entries_of}
use Rattle.world_book.specs.declared.book.Book.{Book}
use Rattle.world_book.specs.declared.entry.Entry.TheVariants as written
use Rattle.cluster_world.specs.Books.{booked_by, entries_seen}
use Rattle.cluster_world.specs.Changes.{ChangesNode}
use Rattle.cluster_world.specs.Flights.{InFlight, AreInOrder}
use Rattle.cluster_world.specs.Lives.{life_seen, of_node}
use Rattle.cluster_world.specs.Maps.{StandsForAll}
use Rattle.cluster_world.specs.Posts.{IsEntered}
use Rattle.cluster_world.specs.Readers.{reader_by, reader_of}
use Rattle.cluster_world.specs.Reading.{AllStand}
use Rattle.cluster_world.specs.ReadPosts.{IsLost}
use Rattle.cluster_world.specs.Stands.{SlotStands}
use Rattle.cluster_world.specs.Steps.{StepDid, FaultHasCause}
use Rattle.cluster_world.specs.Moments.{StopsKeep}
use Rattle.cluster_world.specs.Worlds.{WorldState, state_with, life_among, seen_life, memory_of_life}
use Rattle.cluster_world.specs.declared.life.Life.{Life}
use Rattle.cluster_world.specs.declared.life.Life.TheVariants.{Up, Down}
use Rattle.cluster_world.specs.declared.nodes.Nodes.{Nodes}
use Rattle.cluster_world.specs.declared.step.Step.TheVariants as step
use Rattle.cluster_world.specs.declared.step.Said.TheVariants as said
use Rattle.cluster_world.specs.declared.fault.StepFault.TheVariants as fault
use Rattle.cluster_world.proofs.BeginIdle.{read_down, read_cut}
use Rattle.cluster_world.proofs.Falling.{entries_more}
use Rattle.cluster_world.proofs.Kept.{kept_at, stops_on}
use Rattle.cluster_world.proofs.Longer.{same_book, longer_by}
use Rattle.cluster_world.proofs.Posted.{standing}
use Rattle.cluster_world.proofs.Posting.{flies_of}
use Rattle.cluster_world.proofs.ReadEnds.{there, passed_on, goes, of_reads, left_is, tells, up_in}
use Rattle.cluster_world.proofs.ReadNodes.{node_goes, node_all_same, unchanged_keeps, unchanged_seen}
use Rattle.cluster_world.proofs.ReadSlots.{HasUp, FitsLife, all_changed, mail_of, mail_set, mail_there}
use Rattle.cluster_world.proofs.ReadSteps.{read_did, read_stops, puts_same, flying_for, stands_all}
use Rattle.cluster_world.proofs.Still.{some_same}
use Rattle.cluster_world.proofs.Turned.{as_many, lives_turned, told_by, quiet_by, stops_kept, slot_of, disk_there}
use Rattle.cluster_world.proofs.Unchanged.{unchanged_by}

-- a letter that asks for octets has its receiver read them
pub fetch_reads : (to : ℕ) (body : Body) → IsFetchAsk body → reader_by to body ≡ Some to
fetch_reads to (FetchAsk user id from most) is = refl
fetch_reads to body is = absurd is

module _ {D : Type 0} (on : View D) (old : Nodes D) (flying : InFlight) (seconds : ℕ) (book : Book) (number : ℕ) (keep : Bool) (letter : Letter) (here : letter_at number flying.flights ≡ Some letter) (order : AreInOrder flying)
    (read : is_read_body letter.body ≡ true) (early : nat_le letters_end flying.sent ≡ false) (P : Life → D → Life → D → Type 0) (mid : Nodes D) (ch : ChangesNode letter.to P old mid) (a : WholeNode) (was : ch.life ≡ Up a) where
  abbrev before : WorldState D
  before = state_with old flying seconds book

  -- memory ran out, and nothing was done
  pub short_read : (b : WholeNode) → ch.life' ≡ Up b → RanShort on a ch.disk b ch.disk' → ((IsFetchAsk letter.body → ⊥) → ch.disk' ≡ ch.disk) → StepDid on (Err (fault.NoMemory None)) (step.Post number keep) before (state_with mid flying seconds book)
  short_read b is short untouched =
      let kept = unchanged_keeps a b short.unchanged in
      let same = unchanged_seen a b short.unchanged in
      let boot = ap (λ (x : joint.Node). x.whole.mail.boot) same in
      let all_goes = node_goes on letter.to P old mid ch a b was is short.read short.quiet kept boot in
      read_did on old mid all_goes flying flying seconds book book (Err (fault.NoMemory None)) (step.Post number keep) refl tt tt tt (λ n. refl) tt (same_book (booked_by book))
      (unchanged_by letter.to P old mid ch flying flying seconds seconds book book on (step.Post number keep)
      (ap (λ (x : Life). memory_of_life (Some x)) is ∙ ap Some same ∙ sym (ap (λ (x : Life). memory_of_life (Some x)) was))
      (λ away. untouched (λ fetch. away (ap reader_of here ∙ fetch_reads letter.to letter.body fetch))) (λ none. (short.read, short.quiet)) refl refl refl)
      (λ known ended story v st sound. record {
        next = v;
        stands = stands_all on mid flying seconds book v (record {
          all = node_all_same on letter.to P old mid ch a b was is short.read short.quiet kept boot same v.slots (flying_for on old flying seconds book v st).all
              (up_in on old flying seconds book number keep letter here order read early P mid ch a b was is v st);
          flies = st.mail.flying;
          sent = st.mail.sent;
        }) st.mail.seconds st.mail.book;
        made = refl;
        stops = read_stops on old mid all_goes flying flying seconds book book (mail_world_of v).slots (mail_world_of v).slots st.mail.slots (λ n. refl);
      })
      tt

  -- The disk failed: the node is down, and the letter is lost.
  module _ (down : ch.life' ≡ Down) (half_new : half.Node) (failed : ReadFailed on letter.to a.mail ch.disk half_new ch.disk') (fetch : IsFetchAsk letter.body) (fresh : is_stale letter (node_seen a.mail).installed ≡ false)
      (above : 1 ≤ letter.to) (within : letter.to ≤ old.plan.nodes) (new : Nodes D) (flying' : InFlight) (book' : Book) (lost : IsLost on number keep mishap.Disk letter mid flying new flying') (entered : IsEntered letter.to book book') where
    abbrev behind : WorldState D
    behind = state_with new flying' seconds book'

    up_slot : (v : World) → StandsForAll on before v → HasUp on letter.to a ch.disk v.slots
    up_slot v st = Rattle.cluster_world.proofs.ReadSlots.up_for on old.lives.items old.disks.items v.slots (flying_for on old flying seconds book v st).all letter.to a ch.disk (ch.was ∙ ap Some was) ch.held

    abbrev down_slot : List Record → joint.Slot
    down_slot records = record { life = joint.Life.Down []; disk = records }

    abbrev was_slot : List Record → joint.Slot
    was_slot records = joint.slot_up (joint_seen a) records

    down_stands : (v : World) (st : StandsForAll on before v) → SlotStands on letter.to Down ch.disk' (mail_of (down_slot (up_slot v st).records))
    down_stands v st =
        let up = up_slot v st in
        subst (λ xs. SlotStands on letter.to Down ch.disk' (record { life = plain.Life.Down []; disk = xs })) (append-nil up.records)
        (read_down on letter.to a ch.disk ch.disk' failed.read (mail_of (was_slot up.records)) (node_seen a.mail, refl, up.stands))

    no_life : (records : List Record) → FitsLife ch.life' (down_slot records)
    no_life records node up seen is = absurd (let never : Down ≡ Up node = sym down ∙ up in cc)

    mid_all : (v : World) (st : StandsForAll on before v) → AllStand on mid.lives.items mid.disks.items (joint.with_slot v.slots letter.to (down_slot (up_slot v st).records))
    mid_all v st =
        let up = up_slot v st in
        all_changed letter.to P old mid ch on v.slots (was_slot up.records) (down_slot up.records) (flying_for on old flying seconds book v st).all up.here
        (subst (λ l. SlotStands on letter.to l ch.disk' (mail_of (down_slot up.records))) (sym down) (down_stands v st)) (no_life up.records)

    there_later : (n : ℕ) (d : D) → of_node new.disks.items n ≡ Some d → of_node mid.disks.items n ≡ Some d
    there_later n d e = ap (λ ds. of_node ds n) (sym (lost.puts.beside.disks ∙ lost.befell.beside.disks)) ∙ e

    has_cause : (w : machine.World) → Rattle.cluster_world.specs.Worlds.StateStandsFor on before w → FaultHasCause on (Ok (said.Faulted letter.to)) (step.Post number keep) before behind
    has_cause w st disk disk' e f =
        let d_is : ch.disk ≡ disk = some_same ch.disk disk (sym ch.held ∙ e) in
        let d'_is : ch.disk' ≡ disk' = some_same ch.disk' disk' (sym (disk_there letter.to P old mid ch) ∙ there_later letter.to disk' f) in
        ⊎_elim
        (λ none. inr (subst (λ d. on.seen d ≡ None) d_is none, (letter.to, ap reader_of here ∙ fetch_reads letter.to letter.body fetch)))
        (λ more. ⊎_elim
        (λ rose. inl (subst (λ d. Rose (on.faults d) (on.faults disk')) d_is (subst (λ d. Rose (on.faults ch.disk) (on.faults d)) d'_is rose)))
        (λ never. absurd (against never))
        more)
        failed.cause
      where
        against : ((records : List Record) → Rattle.node_core.specs.Nodes.NodeKeeps records a.mail → Rattle.disk_journal.specs.Journal.TellsJournal (on.seen ch.disk) letter.to (Rattle.mail_model.specs.Record.payloads_of records) (Rattle.node_core.specs.Nodes.end_in a.mail) → ⊥) → ⊥
        against never =
            let (slot, at, stood) = slot_of on old.lives.items old.disks.items w.slots letter.to (Up a) ch.disk st.slots (ch.was ∙ ap Some was) ch.held in
            let (seen, is, s) = stood in
            never slot.disk s.keeps s.tells

    booked_is : booked_by book' ≡ booked_by book ++ WentDown letter.to ∷ []
    booked_is = ap entries_seen entered.wrote ∙ entries_more (entries_of book) (written.Down letter.to ∷ [])

    no_boot : (boot : ℕ) → life_seen ch.life' ≡ life.Up boot → ⊥
    no_boot boot e = let never : life.Down ≡ life.Up boot = sym (ap life_seen down) ∙ e in cc

    pub failed_read : StepDid on (Ok (said.Faulted letter.to)) (step.Post number keep) before behind
    failed_read = record {
      plan = lost.puts.beside.plan ∙ lost.befell.beside.plan ∙ ch.plan;
      handed = ap length (lost.puts.beside.disks ∙ lost.befell.beside.disks) ∙ as_many letter.to P old mid ch;
      refused = refl;
      kind = tt;
      falls = record { above = above; within = within; worked = inl ((node_seen a.mail).boot, ap seen_life ch.was ∙ ap life_seen was) };
      lives = λ m. lost.puts.beside.lives m ∙ lost.befell.beside.lives m ∙ lives_turned letter.to P old mid ch m ∙ ap (λ l. turned letter.to l m (life_among old m)) (ap life_seen down);
      clock = refl;
      told = record { each = λ n d d' e f. (told_by letter.to P old mid ch flying flying' seconds seconds book book' on.seen (ap (λ o. is_some o) failed.read.seen)).each n d d' e (there_later n d' f) };
      quiet = record {
        later = λ n d d' e f. (quiet_by letter.to P old mid ch flying flying' seconds seconds book book' on.faults failed.later (λ boot up. absurd (no_boot boot up))).later n d d' e (there_later n d' f);
        same = λ n boot d d' b e f. (quiet_by letter.to P old mid ch flying flying' seconds seconds book book' on.faults failed.later (λ boot up. absurd (no_boot boot up))).same n boot d d'
            (sym (lost.puts.beside.lives n ∙ lost.befell.beside.lives n) ∙ b) e (there_later n d' f);
      };
      passed = passed_on on old flying seconds book number keep letter here order keep (said.Faulted letter.to) new flying' book' lost.puts.flies;
      books = longer_by book book' (written.Down letter.to ∷ []) entered.wrote;
      kept = tt;
      leads = λ known ended story v st sound.
          let s = standing v.flying number letter (there on old flying seconds book number keep letter here order v st) in
          let up = up_slot v st in
          let t : Bool = tells on old flying seconds book number keep letter here order read early in
          let fell : World = record (joint_makes.fallen v letter.to up.records) { flying = machine.flies_on (mail_world_of v) number (flies_of (mail_world_of v) number letter s) keep } in
          let (all, out_is) = lost.befell.each t fell.slots (mid_all v st) in
          let w : World = record fell { slots = (missed t mishap.Disk fell.slots letter).slots } in
          let (next, now, goes_next) = lost.puts.each t w (record { all = all; flies = left_is on old flying seconds book number keep letter here order read early v st s keep; sent = st.mail.sent }) in
          let goes_so = subst (λ (q : List Letter). Puts t q w next) out_is goes_next in
          let (slots, sec, bk) = puts_same on t _ w next goes_so in
          let seen : (mail_world_of next).slots ≡ plain.with_slot (mail_world_of v).slots letter.to (mail_of (down_slot up.records)) =
          ap (map mail_slot) (slots ∙ (missed_seen t mishap.Disk fell.slots letter).same) ∙ mail_set v.slots letter.to (down_slot up.records) in
          record {
            next = next;
            stands = stands_all on new flying' seconds book' next now (st.mail.seconds ∙ sym sec) (booked_is ∙ ap (λ b. b ++ WentDown letter.to ∷ []) st.mail.book ∙ sym bk);
            made = (
              goes on old flying seconds book number keep letter here order read early v st,
              joint_makes.DoesStep.Posts number keep refl (of_reads on old flying seconds book number keep letter here order read early v st)
                  (joint_makes.PostsRead.FailsHearing (flies_of (mail_world_of v) number letter s) (joint_seen a) up.records fetch up.here fresh refl fell refl goes_so),
            );
            stops = stops_on on before (state_with mid flying' seconds book') behind (mail_world_of v).slots (plain.with_slot (mail_world_of v).slots letter.to (mail_of (down_slot up.records))) (mail_world_of next).slots
                (lost.puts.beside.disks ∙ lost.befell.beside.disks) (λ n. ap (λ xs. kept_at (plain.slot_at xs n)) seen)
                (record {
                  each = stops_kept letter.to P old mid ch on (mail_world_of v).slots (mail_of (was_slot up.records)) (mail_of (down_slot up.records)) st.mail.slots (mail_there v.slots letter.to (was_slot up.records) up.here)
                      (λ alive. subst (λ xs. StopsKeep on letter.to ch.disk ch.disk' (mail_of (was_slot up.records)) (record { life = plain.Life.Down []; disk = xs })) (append-nil up.records)
                      (read_cut on letter.to a ch.disk ch.disk' failed.read (mail_of (was_slot up.records)) (node_seen a.mail, refl, up.stands)));
                });
          };
      cause = λ w st. has_cause w st;
    }
