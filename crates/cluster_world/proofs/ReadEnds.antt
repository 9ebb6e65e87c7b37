-- What comes of a letter of a call that reads that is posted.
use Rattle.std.proofs.Common.{◌≡◌, inl, ℕ, zero, suc, Bool, true, false, nat_le, List, map, Some, None, Ok, Err, refl, sym, ap, ◌∙◌, subst}
use Rattle.std.specs.Prelude.{is_some}
use Rattle.std.specs.Option.{option_map}
use Rattle.object_model.specs.Letters.{Letter, is_read_body}
use Rattle.object_model.specs.Mishaps.{MishapKind, MishapKind as mishap}
use Rattle.cluster_model.specs.Cluster as plain
use Rattle.cluster_model.specs.Steps.{letter_at, letters_end}
use Rattle.cluster_model.specs.Plain.{without_letter}
use Rattle.cluster_model.specs.Thrown.{is_stale}
use Rattle.cluster_model.specs.World as machine
use Rattle.whole_model.specs.Whole.{mail_slot}
use Rattle.whole_world.specs.Steps.StepFault.{Fault}
use Rattle.joint_model.specs.Joint as joint
use Rattle.joint_world.specs.World.{World, mail_world_of, IsUp}
use Rattle.joint_world.specs.Makes as joint_makes
use Rattle.joint_world.specs.Makes.{learnt, is_late_read}
use Rattle.joint_world.specs.Rules as rules
use Rattle.joint_world.proofs.Putting.{missed_seen}
use Rattle.node_store.specs.Disks.{View}
use Rattle.node_core.specs.Nodes.{node_seen}
use Rattle.whole_node.specs.Nodes.{joint_seen}
use Rattle.whole_node.specs.Reading.{IsUnchanged, ReadHeard}
use Rattle.whole_node.specs.declared.node.WholeNode.{WholeNode}
use Rattle.node_core.specs.declared.outbox.Why.TheVariants as why
use Rattle.world_book.specs.declared.book.Book.{Book}
use Rattle.cluster_world.specs.Books.{booked_by}
use Rattle.cluster_world.specs.Changes.{ChangesNode}
use Rattle.cluster_world.specs.Flights.{InFlight, AreInOrder, taken_out}
use Rattle.cluster_world.specs.Lives.{life_seen, is_up_life}
use Rattle.cluster_world.specs.Maps.{StandsForAll}
use Rattle.cluster_world.specs.Posts.{out_of}
use Rattle.cluster_world.specs.Reading.{AllStand, FliesOn, PutsQueue}
use Rattle.cluster_world.specs.ReadPosts.{IsLost}
use Rattle.cluster_world.specs.Stands.{SlotStands}
use Rattle.cluster_world.specs.Steps.{StepDid, HasPassed, EveryStopKeeps}
use Rattle.cluster_world.specs.Worlds.{WorldState, state_with, life_among, seen_life, tells_in}
use Rattle.cluster_world.specs.declared.life.Life.{Life}
use Rattle.cluster_world.specs.declared.life.Life.TheVariants.{Up, Down, Lost}
use Rattle.cluster_world.specs.declared.nodes.Nodes.{Nodes}
use Rattle.cluster_world.specs.declared.step.Step.TheVariants as step
use Rattle.cluster_world.specs.declared.step.Said.{Said}
use Rattle.cluster_world.specs.declared.step.Said.TheVariants as said
use Rattle.cluster_world.specs.declared.fault.StepFault.TheVariants as fault
use Rattle.cluster_world.proofs.Kept.{kept_at}
use Rattle.cluster_world.proofs.Longer.{same_book}
use Rattle.cluster_world.proofs.Numbers.{one_letter}
use Rattle.cluster_world.proofs.Passing.{flies_passed, stays_flying}
use Rattle.cluster_world.proofs.Posted.{Standing, standing, FliesSo}
use Rattle.cluster_world.proofs.Posting.{post_fault, flies_of}
use Rattle.cluster_world.proofs.Queues.{beside_further}
use Rattle.cluster_world.proofs.ReadNodes.{node_goes, node_all, node_all_same, unchanged_keeps, unchanged_seen, all_tell}
use Rattle.cluster_world.proofs.ReadSlots.{HasUp, up_for, mail_of, mail_set, mail_there}
use Rattle.cluster_world.proofs.ReadKept.{set_kept}
use Rattle.cluster_world.proofs.ReadSteps.{GoesOnReading, beside_goes, goes_beside, read_did, read_stops, loses_so, puts_same, flying_for, stands_all}
use Rattle.cluster_world.proofs.Same.{led_kept, same_told, same_quiet, same_unchanged}
use Rattle.cluster_world.proofs.Untold.{hears_untold}

-- the letter, where it flies
abbrev pub flies_in : (w : machine.World) (number : ℕ) (letter : Letter) → Standing w.flying number letter → FliesSo w number letter
flies_in w number letter s = record { flies = flies_of w number letter s; letter_is = refl; left = s.left }

module _ {D : Type 0} (on : View D) (old : Nodes D) (flying : InFlight) (seconds : ℕ) (book : Book) (number : ℕ) (keep : Bool) (letter : Letter) (here : letter_at number flying.flights ≡ Some letter) (order : AreInOrder flying) where
  abbrev before : WorldState D
  before = state_with old flying seconds book

  pub there : (v : World) → StandsForAll on before v → letter_at number v.flying ≡ Some letter
  there v st = ap (letter_at number) (sym st.mail.flying) ∙ here

  pub worn_read : nat_le letters_end flying.sent ≡ true → StepDid on (Err fault.Worn) (step.Post number keep) before before
  worn_read late = record {
    plan = refl;
    handed = refl;
    clock = refl;
    passed = tt;
    books = same_book (booked_by book);
    kept = same_unchanged on before (step.Post number keep);
    refused = refl;
    kind = tt;
    falls = tt;
    lives = λ n. refl;
    told = same_told on before;
    quiet = same_quiet on before;
    leads = λ known ended story v st sound. led_kept on before (Err fault.Worn) (step.Post number keep) v st (record { step_is = refl; said_is = refl; sees = tt }) tt (λ done. done)
        (inl (inl (post_fault old.plan (mail_world_of v) number keep (Some letter) true (there v st) (ap (nat_le letters_end) (sym st.mail.sent) ∙ late))), refl);
    cause = λ w st. tt;
  }

  -- all that flies then has higher numbers
  pub passed_on : (k : Bool) (what : Said) (new : Nodes D) (flying' : InFlight) (book' : Book) → FliesOn (taken_out (out_of number k) flying) flying' → HasPassed (Ok what) (step.Post number k) before (state_with new flying' seconds book')
  passed_on true what new flying' book' on_ = tt
  passed_on false what new flying' book' on_ = λ first. flies_passed number flying flying' order first on_

  module _ (read : is_read_body letter.body ≡ true) (early : nat_le letters_end flying.sent ≡ false) where
    pub goes : (v : World) → StandsForAll on before v → option_map Fault (Rattle.cluster_model.specs.Steps.step_fault old.plan (Rattle.cluster_model.specs.Steps.Step.Post number keep) (mail_world_of v)) ≡ None
    goes v st = ap (option_map Fault) (post_fault old.plan (mail_world_of v) number keep (Some letter) false (there v st) (ap (nat_le letters_end) (sym st.mail.sent) ∙ early))

    pub of_reads : (v : World) → StandsForAll on before v → joint_makes.IsOfReads v number
    of_reads v st flies = ap (λ (l : Letter). is_read_body l.body) (one_letter flying number letter order here (mail_world_of v) st.mail.flying flies) ∙ read

    pub left_is : (v : World) → StandsForAll on before v → (s : Standing v.flying number letter) (k : Bool) → (taken_out (out_of number k) flying).flights ≡ machine.flies_on (mail_world_of v) number (flies_of (mail_world_of v) number letter s) k
    left_is v st s true = st.mail.flying
    left_is v st s false = ap (without_letter number) st.mail.flying ∙ s.left

    abbrev pub tells : Bool
    tells = tells_in on.seen before

    -- The letter is lost, with the nodes as they stand then.
    module _ (what : Said) (kind : MishapKind) (mid new : Nodes D) (flying' : InFlight) (goes_mid : GoesOnReading on old mid) (lost : IsLost on number keep kind letter mid flying new flying') where
      lost_goes : GoesOnReading on old new
      lost_goes = goes_beside on old mid new goes_mid (beside_further on mid lost.mid new lost.befell.beside lost.puts.beside)

      pub lost_posted : Rattle.cluster_world.specs.Steps.SaysSo (step.Post number keep) what → Rattle.cluster_world.specs.Steps.FallsSo (Ok what) old.plan.nodes (step.Post number keep) (life_among old)
          → ((n : ℕ) → life_among old n ≡ Rattle.cluster_world.specs.Turns.life_after_step (Ok what) (step.Post number keep) n (life_among old n))
          → Rattle.cluster_world.specs.Steps.FaultHasCause on (Ok what) (step.Post number keep) before (state_with new flying' seconds book)
          → ((v : World) → StandsForAll on before v → AllStand on mid.lives.items mid.disks.items v.slots)
          → ((v : World) (st : StandsForAll on before v) (s : Standing v.flying number letter) (next : World) → joint_makes.Loses tells kind v number (flies_of (mail_world_of v) number letter s) keep next
          → joint_makes.PostsRead old.plan tells v number keep (Rattle.cluster_world.specs.Seen.whole_said what) next)
          → StepDid on (Ok what) (step.Post number keep) before (state_with new flying' seconds book)
      lost_posted says falls lives cause stands posts = read_did on old new lost_goes flying flying' seconds book book (Ok what) (step.Post number keep) refl refl says falls lives
          (passed_on keep what new flying' book lost.puts.flies) (same_book (booked_by book)) tt
          (λ known ended story v st sound.
          let s = standing v.flying number letter (there v st) in
          let (next, now, loses) = loses_so on kind number keep letter lost.out mid lost.mid new flying (taken_out (out_of number keep) flying) flying' lost.befell refl lost.puts tells v
          (record { all = stands v st; flies = st.mail.flying; sent = st.mail.sent }) (flies_in (mail_world_of v) number letter s) in
          let (slots, sec, b) = puts_same on tells _ _ next loses in
          let seen : (mail_world_of next).slots ≡ (mail_world_of v).slots = ap (map mail_slot) (slots ∙ (missed_seen tells kind v.slots letter).same) in
          record {
            next = next;
            stands = stands_all on new flying' seconds book next now (st.mail.seconds ∙ sym sec) (st.mail.book ∙ sym b);
            made = (goes v st, joint_makes.DoesStep.Posts number keep refl (of_reads v st) (posts v st s next loses));
            stops = read_stops on old new lost_goes flying flying' seconds book book (mail_world_of v).slots (mail_world_of next).slots st.mail.slots (λ n. ap (λ xs. kept_at (plain.slot_at xs n)) seen);
          })
          cause

    -- its receiver is not up
    pub nobody_read : (new : Nodes D) (flying' : InFlight) → is_up_life (life_among old letter.to) ≡ false → IsLost on number keep mishap.Down letter old flying new flying' → StepDid on (Ok (said.Thrown why.Down)) (step.Post number keep) before (state_with new flying' seconds book)
    nobody_read new flying' down lost = lost_posted (said.Thrown why.Down) mishap.Down old new flying' same_goes lost tt tt (λ n. refl) tt (λ v st. (flying_for on old flying seconds book v st).all)
        (λ v st s next loses. joint_makes.PostsRead.NobodyUp (flies_of (mail_world_of v) number letter s) read (λ node disk up. nobody letter.to down v st node disk up) refl loses)
      where
        same_goes : GoesOnReading on old old
        same_goes = beside_goes on old old (Rattle.cluster_world.proofs.Queues.beside_same on old)

        is_up : (l : Life) (disk : D) (n : ℕ) (slot : joint.Slot) (node : joint.Node) → SlotStands on n l disk (mail_of slot) → slot.life ≡ joint.Life.Up node → is_up_life (life_seen l) ≡ true
        is_up (Up one) disk n slot node stood e = refl
        is_up Down disk n slot node (pending, is, fit, holds) e = absurd (let never : plain.Life.Down pending ≡ plain.Life.Up node.whole.mail = sym is ∙ ap (λ l. Rattle.whole_model.specs.Whole.mail_life (joint.whole_life l)) e in cc)
        is_up Lost disk n slot node (is, fit, holds) e = absurd (let never : plain.Life.Lost ≡ plain.Life.Up node.whole.mail = sym is ∙ ap (λ l. Rattle.whole_model.specs.Whole.mail_life (joint.whole_life l)) e in cc)

        nobody : (n : ℕ) → is_up_life (life_among old n) ≡ false → (v : World) → StandsForAll on before v → (node : joint.Node) (disk : List Rattle.mail_model.specs.Record.Record) → IsUp v n node disk → ⊥
        nobody zero e v st node disk up = let never : None ≡ Some (joint.slot_up node disk) = up in cc
        nobody (suc k) e v st node disk up =
            let mail = mail_there v.slots (suc k) (joint.slot_up node disk) up in
            let (l, there_is) = Rattle.cluster_world.proofs.Still.both_at old.lives.items (mail_world_of v).slots k (mail_of (joint.slot_up node disk)) st.mail.slots.count mail in
            let (d, held) = Rattle.cluster_world.proofs.Still.both_at old.disks.items old.lives.items k l (old.all ∙ sym old.disk_each) there_is in
            let up_is = ap (λ o. is_up_life (seen_life o)) there_is ∙ is_up l d (suc k) (joint.slot_up node disk) node (st.mail.slots.each k l d (mail_of (joint.slot_up node disk)) there_is held mail) refl in
            let never : true ≡ false = sym up_is ∙ e in cc

    -- Its receiver, which is up, did this.
    module _ (P : Life → D → Life → D → Type 0) (mid : Nodes D) (ch : ChangesNode letter.to P old mid) (a b : WholeNode) (was : ch.life ≡ Up a) (is : ch.life' ≡ Up b) where
      pub up_in : (v : World) → StandsForAll on before v → HasUp on letter.to a ch.disk v.slots
      up_in v st = up_for on old.lives.items old.disks.items v.slots (flying_for on old flying seconds book v st).all letter.to a ch.disk (ch.was ∙ ap Some was) ch.held

      module _ (same : IsUnchanged a b) (untouched : ch.disk' ≡ ch.disk) where
        same_goes : GoesOnReading on old mid
        same_goes = node_goes on letter.to P old mid ch a b was is (Rattle.cluster_world.proofs.Still.nothing_read on ch.disk ch.disk' untouched) (ap on.faults untouched) (unchanged_keeps a b same) (ap (λ (x : joint.Node). x.whole.mail.boot) (unchanged_seen a b same))

        same_all : (v : World) → StandsForAll on before v → AllStand on mid.lives.items mid.disks.items v.slots
        same_all v st = node_all_same on letter.to P old mid ch a b was is (Rattle.cluster_world.proofs.Still.nothing_read on ch.disk ch.disk' untouched) (ap on.faults untouched) (unchanged_keeps a b same)
            (ap (λ (x : joint.Node). x.whole.mail.boot) (unchanged_seen a b same)) (unchanged_seen a b same) v.slots (flying_for on old flying seconds book v st).all (up_in v st)

        -- it is of another epoch
        pub stale_read : is_stale letter (node_seen a.mail).installed ≡ true → (new : Nodes D) (flying' : InFlight) → IsLost on number keep mishap.Stale letter mid flying new flying' → StepDid on (Ok (said.Thrown why.Stale)) (step.Post number keep) before (state_with new flying' seconds book)
        stale_read stale new flying' lost = lost_posted (said.Thrown why.Stale) mishap.Stale mid new flying' same_goes lost tt tt (λ n. refl) tt same_all
            (λ v st s next loses. joint_makes.PostsRead.OfOtherEpoch (flies_of (mail_world_of v) number letter s) (joint_seen a) (up_in v st).records read (up_in v st).here stale refl loses)

        -- it is too late
        pub late_read : is_stale letter (node_seen a.mail).installed ≡ false → is_late_read letter.to (joint_seen a) letter ≡ true → (flying' : InFlight) → flying' ≡ taken_out (out_of number keep) flying
            → StepDid on (Ok (said.Thrown why.Late)) (step.Post number keep) before (state_with mid flying' seconds book)
        late_read fresh late flying' left = read_did on old mid same_goes flying flying' seconds book book (Ok (said.Thrown why.Late)) (step.Post number keep) refl refl tt tt (λ n. refl)
            (passed_on keep (said.Thrown why.Late) mid flying' book (subst (λ (f : InFlight). FliesOn (taken_out (out_of number keep) flying) f) (sym left) (stays_flying (taken_out (out_of number keep) flying)))) (same_book (booked_by book)) tt
            (λ known ended story v st sound.
            let s = standing v.flying number letter (there v st) in
            let next : World = record v { flying = machine.flies_on (mail_world_of v) number (flies_of (mail_world_of v) number letter s) keep } in
            record {
              next = next;
              stands = stands_all on mid flying' seconds book next (record { all = same_all v st; flies = ap (λ (f : InFlight). f.flights) left ∙ left_is v st s keep; sent = ap (λ (f : InFlight). f.sent) left ∙ st.mail.sent }) st.mail.seconds st.mail.book;
              made = (goes v st, joint_makes.DoesStep.Posts number keep refl (of_reads v st) (joint_makes.PostsRead.TooLate (flies_of (mail_world_of v) number letter s) (joint_seen a) (up_in v st).records read (up_in v st).here fresh late refl refl));
              stops = read_stops on old mid same_goes flying flying' seconds book book (mail_world_of v).slots (mail_world_of next).slots st.mail.slots (λ n. refl);
            })
            tt

      -- it was heard
      pub heard_read : (sent : List Letter) → ReadHeard on old.plan letter.to a ch.disk b ch.disk' letter sent → a.mail.store.own ≡ letter.to → (new : Nodes D) (flying' : InFlight) → PutsQueue on sent mid (taken_out (out_of number keep) flying) new flying'
          → (boot : (joint_seen b).whole.mail.boot ≡ (joint_seen a).whole.mail.boot) → StepDid on (Ok said.Heard) (step.Post number keep) before (state_with new flying' seconds book)
      heard_read sent did own new flying' puts boot =
          let mid_goes = node_goes on letter.to P old mid ch a b was is did.did.read did.did.quiet did.did.mail boot in
          let all_goes = goes_beside on old mid new mid_goes puts.beside in
          read_did on old new all_goes flying flying' seconds book book (Ok said.Heard) (step.Post number keep) refl refl tt tt (λ n. refl) (passed_on keep said.Heard new flying' book puts.flies) (same_book (booked_by book)) tt
          (λ known ended story v st sound.
          let s = standing v.flying number letter (there v st) in
          let up = up_in v st in
          let w : World = record v { slots = joint.with_slot v.slots letter.to (joint.slot_up (joint_seen b) up.records); flying = machine.flies_on (mail_world_of v) number (flies_of (mail_world_of v) number letter s) keep } in
          let (next, now, goes_next) = puts.each tells w (record {
            all = node_all on letter.to P old mid ch a b was is did.did.read did.did.quiet did.did.mail boot v.slots (flying_for on old flying seconds book v st).all up;
            flies = left_is v st s keep;
            sent = st.mail.sent;
          }) in
          let (slots, sec, bk) = puts_same on tells _ w next goes_next in
          let rule = did.did.did up.records up.stands.keeps (subst (λ n. Rattle.disk_journal.specs.Journal.TellsJournal (on.seen ch.disk) n (Rattle.mail_model.specs.Record.payloads_of up.records) (Rattle.node_core.specs.Nodes.end_in a.mail)) (sym own) up.stands.tells) in
          let hears = hears_now up.records sent rule in
          record {
            next = next;
            stands = stands_all on new flying' seconds book next now (st.mail.seconds ∙ sym sec) (st.mail.book ∙ sym bk);
            made = (
              goes v st,
              joint_makes.DoesStep.Posts number keep refl (of_reads v st)
                  (joint_makes.PostsRead.IsHeard (flies_of (mail_world_of v) number letter s) (joint_seen a) up.records read up.here did.within did.in_time refl (record { node = joint_seen b; out = sent }) hears goes_next),
            );
            stops = read_stops on old new all_goes flying flying' seconds book book (mail_world_of v).slots (mail_world_of next).slots st.mail.slots
                (λ n. ap (λ xs. kept_at (plain.slot_at xs n)) (ap (map mail_slot) slots ∙ mail_set v.slots letter.to (joint.slot_up (joint_seen b) up.records))
                ∙ set_kept (mail_world_of v).slots letter.to n (mail_of (joint.slot_up (joint_seen a) up.records)) (mail_of (joint.slot_up (joint_seen b) up.records)) (mail_there v.slots letter.to (joint.slot_up (joint_seen a) up.records) up.here) refl);
          })
          tt
        where
          hears_now : (records : List Rattle.mail_model.specs.Record.Record) (out : List Letter)
              → rules.Hears old.plan (is_some (on.seen ch.disk)) letter.to (learnt (joint_seen a) letter.body) records letter letter.body (record { node = joint_seen b; out = out })
              → rules.Hears old.plan tells letter.to (learnt (joint_seen a) letter.body) records letter letter.body (record { node = joint_seen b; out = out })
          hears_now records out h = by (is_some (on.seen ch.disk)) refl h
            where
              Rule : Bool → Type 0
              Rule t = rules.Hears old.plan t letter.to (learnt (joint_seen a) letter.body) records letter letter.body (record { node = joint_seen b; out = out })

              none_tell : is_some (on.seen ch.disk) ≡ false → (t : Bool) → t ≡ tells → false ≡ t
              none_tell e true is_ = absurd (let never : true ≡ false = sym (all_tell on.seen old.disks.items letter.to ch.disk ch.held (sym is_)) ∙ e in cc)
              none_tell e false is_ = refl

              by : (t : Bool) → is_some (on.seen ch.disk) ≡ t → rules.Hears old.plan t letter.to (learnt (joint_seen a) letter.body) records letter letter.body (record { node = joint_seen b; out = out }) → Rule tells
              by true e k = hears_untold tells letter.to (learnt (joint_seen a) letter.body) old.plan records letter letter.body (record { node = joint_seen b; out = out }) k
              by false e k = subst Rule (none_tell e tells refl) k
