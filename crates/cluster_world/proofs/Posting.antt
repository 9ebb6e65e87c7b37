-- A letter is handed to its receiver.
use Rattle.std.proofs.Common.{◌≡◌, ◌⊎◌, inl, inr, ℕ, zero, suc, ◌≤◌, ◌<◌, Bool, true, false, ◌||◌, nat_le, List, [], ◌∷◌, ◌++◌, length, drop, Option, Some, None, is_some, Ok, Err, refl, sym, ap, ◌∙◌, subst, arith, if◌then◌else◌}
use Rattle.std.specs.Prelude.{option_map}
use Rattle.io_edge.specs.Causes.{Rose}
use Rattle.mail_model.specs.Identity.{EpochId}
use Rattle.mail_model.specs.Plan.{Plan}
use Rattle.mail_model.specs.Record.{Record}
use Rattle.mail_model.specs.Book.BookEntry.{WentDown}
use Rattle.object_model.specs.Lists.{Among}
use Rattle.object_model.specs.Letters.{Membership, Letter, is_read_body}
use Rattle.object_model.specs.Mishaps.{MishapKind as mishap}
use Rattle.session_model.specs.Events.{NodeLife, NodeLife as life, turned}
use Rattle.cluster_model.specs.Cluster as plain
use Rattle.cluster_model.specs.Cluster.{Slot, slot_at}
use Rattle.cluster_model.specs.Deeds.{slot_up, hear}
use Rattle.cluster_model.specs.Thrown as thrown
use Rattle.cluster_model.specs.Thrown.{is_stale, is_late, thrown_by, with_stamps}
use Rattle.cluster_model.specs.World as machine
use Rattle.cluster_model.specs.World.{Flies, flies_on, missed}
use Rattle.cluster_model.specs.Forms.{IsMapsBody, IsPlainMaps, promise_records}
use Rattle.cluster_model.specs.Makes.{IsUp, IsHeardOrThrown, Posts, RunsShort, NodeGoesDown, lost_letter, cut_world, after, posted_letter}
use Rattle.cluster_model.specs.Steps as steps
use Rattle.cluster_model.specs.Steps.{letter_at, letters_end, first_fault, step_fault}
use Rattle.cluster_model.specs.Steps.StepFault.{NoSuchLetter, Worn}
use Rattle.whole_model.specs.Rules.{IsMailBody}
use Rattle.whole_model.specs.Whole as whole
use Rattle.whole_world.specs.Laws.{Stands}
use Rattle.whole_world.specs.Makes.{IsForMessages, promise_by, said_of}
use Rattle.whole_world.specs.Steps as whole_steps
use Rattle.whole_world.specs.World as whole_world
use Rattle.whole_world.specs.World.{mail_world_of}
use Rattle.whole_world.proofs.Along.{mail_here}
use Rattle.node_maps.specs.Nodes.{node_of, own_of}
use Rattle.node_store.specs.Disks.{View}
use Rattle.node_core.specs.Hearing.{why_seen}
use Rattle.node_core.specs.Nodes.{node_seen, IsAsBefore}
use Rattle.node_core.specs.Works.{Rule, NodeDid}
use Rattle.whole_node.specs.Following as node_follows
use Rattle.whole_node.specs.Hearing.{LookedAt}
use Rattle.whole_node.specs.declared.node.WholeNode.{WholeNode}
use Rattle.node_core.specs.declared.outbox.Why.{Why}
use Rattle.node_core.specs.declared.outbox.Why.TheVariants as why
use Rattle.world_book.specs.Books.{entries_of}
use Rattle.world_book.specs.declared.book.Book.{Book}
use Rattle.world_book.specs.declared.entry.Entry.TheVariants as written
use Rattle.cluster_world.specs.Books.{entries_seen, booked_by}
use Rattle.cluster_world.specs.Forming.{forms_rule}
use Rattle.cluster_world.specs.Flights.{InFlight, AreInOrder, flights_without, taken_out, put_down}
use Rattle.cluster_world.specs.Lives.{life_seen, is_up_life, of_node}
use Rattle.cluster_world.specs.Stands.{SlotStands}
use Rattle.cluster_world.specs.Worlds.{WorldState, seen_life, life_among, state_with, tells_in, StateStandsFor}
use Rattle.cluster_world.specs.Changes.{ChangesNode}
use Rattle.cluster_world.specs.Maps.{AreMaps, StandsForAll}
use Rattle.cluster_world.specs.Missing.{OnlyTickets, Noticed, SentOff}
use Rattle.cluster_world.specs.Posts.{out_of, IsEntered}
use Rattle.cluster_world.specs.Seen.{said_seen, whole_said}
use Rattle.cluster_world.specs.Turns.{life_after_step}
use Rattle.cluster_world.specs.Steps.{StepDid, LeadsWhole, WasToWork, SaysSo, FallsSo, FaultHasCause, HasPassed}
use Rattle.cluster_world.specs.declared.life.Life.{Life}
use Rattle.cluster_world.specs.declared.life.Life.TheVariants.{Up, Down, Lost}
use Rattle.cluster_world.specs.declared.nodes.Nodes.{Nodes}
use Rattle.cluster_world.specs.declared.step.Step.{Step}
use Rattle.cluster_world.specs.declared.step.Step.TheVariants as step
use Rattle.cluster_world.specs.declared.step.Said.{Said}
use Rattle.cluster_world.specs.declared.step.Said.TheVariants as said
use Rattle.cluster_world.specs.declared.fault.StepFault.TheVariants as fault
use Rattle.cluster_world.proofs.Still.{some_same, both_at, nothing_read}
use Rattle.cluster_world.proofs.Same.{led_kept, same_stops, same_told, same_quiet, same_unchanged}
use Rattle.cluster_world.proofs.Kept.{missed_kept, stops_on, only_told, only_quiet}
use Rattle.cluster_world.proofs.Falling.{entries_more}
use Rattle.cluster_world.proofs.Posted.{Standing, standing}
use Rattle.cluster_world.proofs.AfterWork.{nothing_else, work_did, work_goes_on, work_lives, up_slot, up_is, WorkSent, work_sent, CutSlot, cut_stands, cut_stops, sent_follows, cut_follows, idle_stands, idle_stops, idle_maps}
use Rattle.cluster_world.proofs.Unchanged.{unchanged_by, memory_kept}
use Rattle.cluster_world.proofs.Longer.{same_book, longer_by}
use Rattle.cluster_world.proofs.Follows.{disk_at, drop_front, missed_disk, tickets_follow}
use Rattle.cluster_world.proofs.Numbers.{one_letter}
use Rattle.cluster_world.proofs.Told.{IsOfMail}
use Rattle.cluster_world.proofs.WholeForms.{up_whole, looked_whole, hear_fails, hear_short}
use Rattle.cluster_world.proofs.Wholly.{led, led_whole, even_of}
use Rattle.cluster_world.proofs.Lifting.{lift}
use Rattle.cluster_world.proofs.Beside.{OwnKept, tickets_keep, turns_same}
use Rattle.cluster_world.proofs.Passing.{left_passed, sent_passed}
use Rattle.joint_world.specs.World as joint_world
use Rattle.joint_world.specs.World.{mail_world_of as mail_world}

-- what makes the machine refuse a post
module _ (plan : Plan) (w : machine.World) (number : ℕ) (keep : Bool) where
  pub post_fault : (o : Option Letter) (b : Bool) → letter_at number w.flying ≡ o → nat_le letters_end w.sent ≡ b
      → step_fault plan (steps.Step.Post number keep) w ≡ first_fault ((if is_some o then None else Some NoSuchLetter) ∷ (if b || false then Some Worn else None) ∷ None ∷ [])
  post_fault o b e f =
      ap (λ x. first_fault ((if is_some x then None else Some NoSuchLetter) ∷ (if nat_le letters_end w.sent || false then Some Worn else None) ∷ None ∷ [])) e
      ∙ ap (λ x. first_fault ((if is_some o then None else Some NoSuchLetter) ∷ (if x || false then Some Worn else None) ∷ None ∷ [])) f

-- where the letter is
abbrev pub flies_of : (w : machine.World) (number : ℕ) (letter : Letter) → Standing w.flying number letter → Flies w number
flies_of w number letter s = record { front = s.front; letter = letter; back = s.back; is = s.is }

flies_left : (w : machine.World) (number : ℕ) (letter : Letter) (s : Standing w.flying number letter) (keep : Bool)
    → flights_without (out_of number keep) w.flying ≡ flies_on w number (flies_of w number letter s) keep
flies_left w number letter s true = refl
flies_left w number letter s false = s.left

-- what is said of a letter that was handed to its receiver, which goes on
abbrev pub said_by : Option Why → Said
said_by None = said.Heard
said_by (Some what) = said.Thrown what

says_so : (o : Option Why) (number : ℕ) (keep : Bool) → SaysSo (step.Post number keep) (said_by o)
says_so None number keep = tt
says_so (Some what) number keep = tt

falls_none : (o : Option Why) (nodes number : ℕ) (keep : Bool) (lives : ℕ → NodeLife) → FallsSo (Ok (said_by o)) nodes (step.Post number keep) lives
falls_none None nodes number keep lives = tt
falls_none (Some what) nodes number keep lives = tt

lives_stay : (o : Option Why) (number : ℕ) (keep : Bool) (n : ℕ) (was : NodeLife) → life_after_step (Ok (said_by o)) (step.Post number keep) n was ≡ was
lives_stay None number keep n was = refl
lives_stay (Some what) number keep n was = refl

no_cause : {D : Type 0} (on : View D) (o : Option Why) (s : Step) (old new : WorldState D) → FaultHasCause on (Ok (said_by o)) s old new
no_cause on None s old new = tt
no_cause on (Some what) s old new = tt

-- What the machine makes of a letter that its receiver, which was this node, did this with: it is posted; or the node's disk fails; or memory runs out.
module _ (plan : Plan) (number : ℕ) (keep : Bool) (letter : Letter) (did_rule : Rule) (a : WholeNode) where
  abbrev pub PostsBy : Option Why → Type 0
  PostsBy o = (w : machine.World) (s : Standing w.flying number letter) (node : plain.Node) (disk : List Record) → IsUp w letter.to node disk → node ≡ node_seen a.mail
      → Posts plan w number keep (said_seen (said_by o)) (after (record w { flying = flies_on w number (flies_of w number letter s) keep }) letter.to (did_rule node disk))

  abbrev pub FailsBy : (List Slot → List Slot) → Type 0
  FailsBy change = (w : machine.World) (s : Standing w.flying number letter) (node : plain.Node) (disk : List Record) → IsUp w letter.to node disk → node ≡ node_seen a.mail
      → (fell : machine.World) → NodeGoesDown w letter.to disk (did_rule node disk).disk fell
      → Posts plan w number keep (steps.Said.Faulted letter.to) (record fell { slots = change fell.slots; flying = flies_on w number (flies_of w number letter s) keep })

  abbrev pub RunsBy : Type 0
  RunsBy = (w : machine.World) (s : Standing w.flying number letter) (node : plain.Node) (disk : List Record) → IsUp w letter.to node disk → node ≡ node_seen a.mail
      → (fell : machine.World) → NodeGoesDown w letter.to disk (did_rule node disk).disk fell → RunsShort plan w (steps.Step.Post number keep) letter.to fell

-- so it is of a letter of messages
module _ (plan : Plan) (number : ℕ) (keep : Bool) (letter : Letter) (a : WholeNode) where
  abbrev pub heard_rule : Rule
  heard_rule = λ node disk. hear letter.to plan.nodes node disk letter

  pub posts_heard : thrown_by letter.to (node_seen a.mail) letter ≡ None → PostsBy plan number keep letter heard_rule a None
  posts_heard taken w s node disk up is = Posts.IsHeard (flies_of w number letter s) node disk up (ap (λ n. thrown_by letter.to n letter) is ∙ taken) refl refl

  pub fails_heard : thrown_by letter.to (node_seen a.mail) letter ≡ None → FailsBy plan number keep letter heard_rule a (λ slots. missed mishap.Disk slots letter)
  fails_heard taken w s node disk up is fell goes = Posts.FailsHearing (flies_of w number letter s) node disk up (ap (λ n. thrown_by letter.to n letter) is ∙ taken) refl fell goes refl

  pub runs_heard : RunsBy plan number keep letter heard_rule a
  runs_heard w s node disk up is fell goes = RunsShort.Hearing number keep (flies_of w number letter s) node disk refl refl up goes

says_for_maps : (o : Option Why) → IsHeardOrThrown (said_seen (said_by o))
says_for_maps None = tt
says_for_maps (Some what) = tt

-- and of one of membership or maps
module _ (plan : Plan) (number : ℕ) (keep : Bool) (letter : Letter) (a : WholeNode) (maps : IsMapsBody letter.body) (within : is_stale letter (node_seen a.mail).installed ≡ false)
    (installed : Option Membership) (promise : Option EpochId) (sent : List Letter) where
  abbrev pub looked_rule : Rule
  looked_rule = forms_rule (with_stamps letter.body) installed promise sent

  pub posts_looked : ((one : Letter) → Among one sent → IsPlainMaps one) → (o : Option Why) → PostsBy plan number keep letter looked_rule a o
  posts_looked sends o w s node disk up is =
      Posts.IsForMaps (flies_of w number letter s) node disk up maps (ap (λ (n : plain.Node). is_stale letter n.installed) is ∙ within) (says_for_maps o) (looked_rule node disk)
      (record { installed = installed; promise = promise; node_is = refl; disk_is = refl; sends = sends }) refl

  pub fails_looked : FailsBy plan number keep letter looked_rule a (λ slots. slots)
  fails_looked w s node disk up is fell goes =
      Posts.FailsForMaps (flies_of w number letter s) node disk promise up maps (ap (λ (n : plain.Node). is_stale letter n.installed) is ∙ within) refl fell goes refl

  pub runs_looked : RunsBy plan number keep letter looked_rule a
  runs_looked w s node disk up is fell goes =
      RunsShort.Forming node disk promise up (flies_of w number letter s, refl, maps, ap (λ (n : plain.Node). is_stale letter n.installed) is ∙ within) goes

-- a slot that is up is of a node that is up
up_then : {D : Type 0} (on : View D) (n : ℕ) (l : Life) (disk : D) (slot : Slot) (node : plain.Node) → SlotStands on n l disk slot → slot.life ≡ plain.Life.Up node → is_up_life (life_seen l) ≡ true
up_then on n (Up one) disk slot node stood e = refl
up_then on n Down disk slot node (pending, is, fit, holds) e = absurd (let never : plain.Life.Down pending ≡ plain.Life.Up node = sym is ∙ e in cc)
up_then on n Lost disk slot node (is, fit, holds) e = absurd (let never : plain.Life.Lost ≡ plain.Life.Up node = sym is ∙ e in cc)

-- a letter is thrown for one of two reasons
pub two_reasons : (b c : Bool) (x : thrown.Why) → (if b then Some thrown.Why.Stale else (if c then Some thrown.Why.Late else None)) ≡ Some x → (x ≡ thrown.Why.Stale) ⊎ (x ≡ thrown.Why.Late)
two_reasons true c x e = inl (one x e)
  where
    one : (x : thrown.Why) → Some thrown.Why.Stale ≡ Some x → x ≡ thrown.Why.Stale
    one x e = cc
two_reasons false true x e = inr (one x e)
  where
    one : (x : thrown.Why) → Some thrown.Why.Late ≡ Some x → x ≡ thrown.Why.Late
    one x e = cc
two_reasons false false x e = absurd (let never : None ≡ Some x = e in cc)

-- The letters in flight are in order, and this one is of no call that reads.
pub record IsPosted (flying : InFlight) (letter : Letter) : Type 0 where
  pub order : AreInOrder flying
  pub mail : is_read_body letter.body ≡ false

-- the letter that was posted flies
flown : {plan : Plan} {w : machine.World} {number : ℕ} {keep : Bool} {said : steps.Said} {next : machine.World} (posts : Posts plan w number keep said next) → (flies : Flies w number) × (posted_letter posts ≡ flies.letter)
flown (Posts.NobodyUp flies nobody is e) = (flies, refl)
flown (Posts.OfOtherEpoch flies node disk up thrown is e) = (flies, refl)
flown (Posts.TooLate flies node disk up thrown is e) = (flies, refl)
flown (Posts.IsHeard flies node disk up thrown is e) = (flies, refl)
flown (Posts.FailsHearing flies node disk up thrown is down g e) = (flies, refl)
flown (Posts.IsForMaps flies node disk up of fresh is did forms e) = (flies, refl)
flown (Posts.FailsForMaps flies node disk promise up of fresh is down g e) = (flies, refl)

module _ {D : Type 0} (on : View D) (old : Nodes D) (flying : InFlight) (seconds : ℕ) (book : Book) (number : ℕ) (keep : Bool) where
  abbrev before : WorldState D
  before = state_with old flying seconds book

  pub no_letter_posted : letter_at number flying.flights ≡ None → StepDid on (Err fault.NoSuchLetter) (step.Post number keep) before before
  no_letter_posted none = record {
    plan = refl;
    handed = refl;
    clock = refl;
    passed = tt;
    books = same_book (booked_by book);
    kept = same_unchanged on before (step.Post number keep);
    refused = refl;
    kind = tt;
    falls = tt;
    lives = λ n. refl;
    told = same_told on before;
    quiet = same_quiet on before;
    leads = λ known ended story v st sound. led_kept on before (Err fault.NoSuchLetter) (step.Post number keep) v st (record { step_is = refl; said_is = refl; sees = tt }) tt (λ done. done)
        (inl (inl (post_fault old.plan (mail_world v) number keep None (nat_le letters_end v.sent) (ap (letter_at number) (sym st.mail.flying) ∙ none) refl)), refl);
    cause = λ w st. tt;
  }

  module _ (letter : Letter) (here : letter_at number flying.flights ≡ Some letter) (order : IsPosted flying letter) where
    there : (w : machine.World) → StateStandsFor on before w → letter_at number w.flying ≡ Some letter
    there w st = ap (letter_at number) (sym st.flying) ∙ here

    pub worn_posted : nat_le letters_end flying.sent ≡ true → StepDid on (Err fault.Worn) (step.Post number keep) before before
    worn_posted late = record {
      plan = refl;
      handed = refl;
      clock = refl;
      passed = tt;
      books = same_book (booked_by book);
      kept = same_unchanged on before (step.Post number keep);
      refused = refl;
      kind = tt;
      falls = tt;
      lives = λ n. refl;
      told = same_told on before;
      quiet = same_quiet on before;
      leads = λ known ended story v st sound. led_kept on before (Err fault.Worn) (step.Post number keep) v st (record { step_is = refl; said_is = refl; sees = tt }) tt (λ done. done)
          (inl (inl (post_fault old.plan (mail_world v) number keep (Some letter) true (there (mail_world v) st.mail) (ap (nat_le letters_end) (sym st.mail.sent) ∙ late))), refl);
      cause = λ w st. tt;
    }

    -- where the lowest leaves, what is in flight then has higher numbers
    passed_left : (k : Bool) (what : Said) (new : Nodes D) (flying' : InFlight) (book' : Book) → flying' ≡ taken_out (out_of number k) flying
        → HasPassed (Ok what) (step.Post number k) before (state_with new flying' seconds book')
    passed_left true what new flying' book' e = tt
    passed_left false what new flying' book' e = λ first. left_passed number flying flying' order.order first e

    -- so where it is answered
    passed_sent : (k : Bool) (what : Said) (new : Nodes D) (flying' : InFlight) (book' : Book) (letters : List Letter)
        → flying' ≡ (put_down letters (taken_out (out_of number k) flying)).flying → HasPassed (Ok what) (step.Post number k) before (state_with new flying' seconds book')
    passed_sent true what new flying' book' letters e = tt
    passed_sent false what new flying' book' letters e = λ first. sent_passed number letters flying flying' order.order first e

    -- it is none of calls that read
    for_mail : (v : joint_world.World) → StandsForAll on before v → (flies : Flies (mail_world v) number) → is_read_body flies.letter.body ≡ false
    for_mail v st flies = ap (λ (l : Letter). is_read_body l.body) (one_letter flying number letter order.order here (mail_world v) st.mail.flying flies) ∙ order.mail

    posted_mail : (w : machine.World) → StateStandsFor on before w → {said : steps.Said} {next : machine.World} (posts : Posts old.plan w number keep said next) → is_read_body (posted_letter posts).body ≡ false
    posted_mail w st posts =
        let (flies, same) = flown posts in
        ap (λ (l : Letter). is_read_body l.body) (same ∙ one_letter flying number letter order.order here w st.flying flies) ∙ order.mail

    module _ (early : nat_le letters_end flying.sent ≡ false) where
      goes : (w : machine.World) → StateStandsFor on before w → step_fault old.plan (steps.Step.Post number keep) w ≡ None
      goes w st = post_fault old.plan w number keep (Some letter) false (there w st) (ap (nat_le letters_end) (sym st.sent) ∙ early)

      -- what is left in flight of the machine
      left_is : (w : machine.World) → StateStandsFor on before w → (s : Standing w.flying number letter) (flying' : InFlight) → flying' ≡ taken_out (out_of number keep) flying
          → flying'.flights ≡ flies_on w number (flies_of w number letter s) keep
      left_is w st s flying' e = ap (λ (f : InFlight). f.flights) e ∙ ap (flights_without (out_of number keep)) st.flying ∙ flies_left w number letter s keep

      nobody_there : (n : ℕ) → is_up_life (life_among old n) ≡ false → (w : machine.World) → StateStandsFor on before w → (node : plain.Node) (disk : List Record) → IsUp w n node disk → ⊥
      nobody_there zero down w st node disk up = let never : None ≡ Some (slot_up node disk) = up in cc
      nobody_there (suc k) down w st node disk up =
          let (l, there_is) = both_at old.lives.items w.slots k (slot_up node disk) st.slots.count up in
          let (d, held) = both_at old.disks.items old.lives.items k l (old.all ∙ sym old.disk_each) there_is in
          let is : is_up_life (life_among old (suc k)) ≡ true =
          ap (λ o. is_up_life (seen_life o)) there_is ∙ up_then on (suc k) l d (slot_up node disk) node (st.slots.each k l d (slot_up node disk) there_is held up) refl in
          let never : true ≡ false = sym is ∙ down in cc

      -- a letter of the number in the whole world is this one, and its receiver as messages see it
      up_seen : (w : machine.World) → StateStandsFor on before w → (v : whole_world.World) → mail_world_of v ≡ w → (flies : Flies (mail_world_of v) number) (node : whole.Node) (disk : List Record)
          → whole_world.IsUp v flies.letter.to node disk → IsUp w letter.to node.mail disk
      up_seen w st v seen flies node disk up =
          let same : flies.letter ≡ letter = one_letter flying number letter order.order here (mail_world_of v) (st.flying ∙ ap (λ (x : machine.World). x.flying) (sym seen)) flies in
          ap (λ (x : machine.World). slot_at x.slots letter.to) (sym seen)
          ∙ mail_here v.slots letter.to (whole_world.slot_up node disk) (subst (λ (l : Letter). whole_world.IsUp v l.to node disk) same up)

      -- so it speaks of messages, where it does
      pub mail_seen : (w : machine.World) → StateStandsFor on before w → IsMailBody letter.body → (v : whole_world.World) → mail_world_of v ≡ w → IsForMessages v (steps.Step.Post number keep)
      mail_seen w st mail v seen flies node disk up fresh =
          let same : flies.letter ≡ letter = one_letter flying number letter order.order here (mail_world_of v) (st.flying ∙ ap (λ (x : machine.World). x.flying) (sym seen)) flies in
          subst (λ (l : Letter). IsMailBody l.body) (sym same) mail

      -- and it does not matter, where it is stale
      stale_seen : (w : machine.World) → StateStandsFor on before w → (here_up : (node : plain.Node) (disk : List Record) → IsUp w letter.to node disk → is_stale letter node.installed ≡ true)
          → (v : whole_world.World) → mail_world_of v ≡ w → IsForMessages v (steps.Step.Post number keep)
      stale_seen w st stale v seen flies node disk up fresh =
          let same : flies.letter ≡ letter = one_letter flying number letter order.order here (mail_world_of v) (st.flying ∙ ap (λ (x : machine.World). x.flying) (sym seen)) flies in
          let is : is_stale flies.letter node.mail.installed ≡ true = ap (λ (l : Letter). is_stale l node.mail.installed) same ∙ stale node.mail disk (up_seen w st v seen flies node disk up) in
          absurd (let never : true ≡ false = sym is ∙ fresh in cc)

      -- its receiver is not up
      pub nobody_posted : (new : Nodes D) (flying' : InFlight) → is_up_life (life_among old letter.to) ≡ false → Noticed on old.plan (λ slots. missed mishap.Down slots letter) old new
          → flying' ≡ taken_out (out_of number keep) flying → StepDid on (Ok (said.Thrown why.Down)) (step.Post number keep) before (state_with new flying' seconds book)
      nobody_posted new flying' down noted left = record {
        plan = noted.only.plan;
        handed = ap length noted.only.disks;
        clock = refl;
        passed = passed_left keep (said.Thrown why.Down) new flying' book left;
        books = same_book (booked_by book);
        kept = tt;
        refused = refl;
        kind = tt;
        falls = tt;
        lives = noted.only.lives;
        told = only_told on (λ slots. missed mishap.Down slots letter) old new noted.only flying flying' seconds seconds book book on.seen;
        quiet = only_quiet on (λ slots. missed mishap.Down slots letter) old new noted.only flying flying' seconds seconds book book on.faults;
        leads = λ known ended. lift on _ _ _ _ (even_of old) (even_of new) tt (λ v s done. for_mail v s) (tickets_keep on (λ slots. missed mishap.Down slots letter) old new noted.only) (λ w st.
            let s = standing w.flying number letter (there w st) in
            let posts : Posts old.plan w number keep (steps.Said.Thrown thrown.Why.WhileDown) (lost_letter mishap.Down w number (flies_of w number letter s) keep) =
            Posts.NobodyUp (flies_of w number letter s) (nobody_there letter.to down w st) refl refl in
            led on (Ok (said.Thrown why.Down)) (step.Post number keep) before (state_with new flying' seconds book) (even_of old) (even_of new) w st (record { step_is = refl; said_is = refl; sees = tt })
            (λ v seen sound done flies node disk up fresh. absurd (nobody_there letter.to down w st node.mail disk (up_seen w st v seen flies node disk up))) (record {
              next = lost_letter mishap.Down w number (flies_of w number letter s) keep;
              stands = record {
                slots = noted.only.slots w.slots st.slots;
                flying = left_is w st s flying' left;
                sent = ap (λ (f : InFlight). f.sent) left ∙ st.sent;
                seconds = st.seconds;
                book = st.book;
              };
              made = (goes w st, inl (posts, posted_mail w st posts));
              stops = stops_on on before before (state_with new flying' seconds book) w.slots w.slots (missed mishap.Down w.slots letter) noted.only.disks
                  (λ n. missed_kept mishap.Down w.slots n letter) (same_stops on before w st);
              follow = tickets_follow on (λ slots. missed mishap.Down slots letter) old new noted.only w.slots (missed mishap.Down w.slots letter) (λ n. missed_disk mishap.Down w.slots n letter);
            }));
        cause = λ w st. tt;
      }

      -- Its receiver is up, and was handed it.
      module _ (P : Life → D → Life → D → Type 0) (mid : Nodes D) (ch : ChangesNode letter.to P old mid) (a : WholeNode) (was : ch.life ≡ Up a) (own : OwnKept ch.life ch.life') where
        abbrev rule : Rule
        rule = λ node disk. hear letter.to old.plan.nodes node disk letter

        up_boot : (node : WholeNode) → ch.life' ≡ Up node → (node_seen node.mail).boot ≡ (node_seen a.mail).boot → life_seen ch.life' ≡ life_seen ch.life
        up_boot node is same = ap life_seen is ∙ ap life.Up same ∙ sym (ap life_seen was)

        -- it threw it
        module _ (b : WholeNode) (is : ch.life' ≡ Up b) (alike : IsAsBefore a.mail b.mail) (same_maps : node_of b.maps ≡ node_of a.maps) (untold : ch.disk' ≡ ch.disk) (new : Nodes D) (flying' : InFlight) where
          thrown_so : (what : Why) (x : thrown.Why) → why_seen what ≡ x → (change : List Slot → List Slot) (only : OnlyTickets on change mid new) → flying' ≡ taken_out (out_of number keep) flying
              → ((w : machine.World) (n : ℕ) → Rattle.cluster_world.proofs.Kept.kept_at (slot_at (change w.slots) n) ≡ Rattle.cluster_world.proofs.Kept.kept_at (slot_at w.slots n))
              → ((w : machine.World) (n : ℕ) → disk_at (slot_at (change w.slots) n) ≡ disk_at (slot_at w.slots n))
              → ((w : machine.World) → StateStandsFor on before w → (v : whole_world.World) → mail_world_of v ≡ w → IsForMessages v (steps.Step.Post number keep))
              → ((w : machine.World) (flies : Flies w number) (node : plain.Node) (disk : List Record) → flies.letter ≡ letter → IsUp w letter.to node disk → thrown_by letter.to node letter ≡ Some (why_seen what)
              → Posts old.plan w number keep (steps.Said.Thrown (why_seen what)) (record w { slots = change w.slots; flying = flies_on w number flies keep }))
              → thrown_by letter.to (node_seen a.mail) letter ≡ Some (why_seen what) → StepDid on (Ok (said.Thrown what)) (step.Post number keep) before (state_with new flying' seconds book)
          thrown_so what x x_is change only left kept disks for posts by = work_did on letter.to P old mid new ch change only flying flying' seconds book book (Ok (said.Thrown what)) (step.Post number keep) refl refl tt tt
              (work_goes_on on letter.to P old mid new ch change only (up_boot b is (ap (λ (n : plain.Node). n.boot) alike.seen)))
              (ap (λ d. is_some (on.seen d)) untold)
              (subst (λ d. on.faults ch.disk ≤ on.faults d) (sym untold) (omega arith))
              (λ boot _. ap on.faults untold)
              (passed_left keep (said.Thrown what) new flying' book left)
              (same_book (booked_by book))
              tt
              tt (λ v s done. for_mail v s) own
              (λ w st.
              let s = standing w.flying number letter (there w st) in
              let flies : Flies w number = flies_of w number letter s in
              let (slot, slot_here, stood) = up_slot on letter.to P old mid new ch rule a was flying flying' seconds book book w st in
              let up : IsUp w letter.to (node_seen a.mail) slot.disk = slot_here ∙ ap Some (up_is on letter.to P old mid new ch rule a was flying flying' seconds book book slot stood) in
              led on (Ok (said.Thrown what)) (step.Post number keep) before (state_with new flying' seconds book) (even_of old) (even_of new) w st (record { step_is = refl; said_is = refl; sees = tt })
              (λ v seen sound done. for w st v seen) (record {
                next = record w { slots = change w.slots; flying = flies_on w number flies keep };
                stands = idle_stands on letter.to P old mid new ch rule a was flying flying' seconds book book b is alike untold change only w st (flies_on w number flies keep)
                    (left_is w st s flying' left) (ap (λ (f : InFlight). f.sent) left) refl;
                made = (goes w st, inl (posts w flies (node_seen a.mail) slot.disk refl up by, posted_mail w st (posts w flies (node_seen a.mail) slot.disk refl up by)));
                stops = idle_stops on letter.to P old mid new ch rule a was flying flying' seconds book book b is alike untold change only w st (change w.slots) (kept w);
                follow = idle_maps on letter.to P old mid new ch rule a was flying flying' seconds book book b is alike untold change only same_maps w st (change w.slots) (disks w);
              }))
              tt

          pub stale_posted : thrown_by letter.to (node_seen a.mail) letter ≡ Some thrown.Why.Stale → Noticed on old.plan (λ slots. missed mishap.Stale slots letter) mid new
              → flying' ≡ taken_out (out_of number keep) flying → StepDid on (Ok (said.Thrown why.Stale)) (step.Post number keep) before (state_with new flying' seconds book)
          stale_posted by noted left = thrown_so why.Stale thrown.Why.Stale refl (λ slots. missed mishap.Stale slots letter) noted.only left
              (λ w n. missed_kept mishap.Stale w.slots n letter)
              (λ w n. missed_disk mishap.Stale w.slots n letter)
              (λ w st. stale_seen w st (λ node disk up. is_stale_there w st node disk up))
              (λ w flies node disk same up e. stale w flies node disk same up e) by
            where
              same_up : (x y : plain.Node) → plain.Life.Up x ≡ plain.Life.Up y → x ≡ y
              same_up x y e = cc

              stale_of : (b c : Bool) → (if b then Some thrown.Why.Stale else (if c then Some thrown.Why.Late else None)) ≡ Some thrown.Why.Stale → b ≡ true
              stale_of true c e = refl
              stale_of false true e = absurd (let never : Some thrown.Why.Late ≡ Some thrown.Why.Stale = e in cc)
              stale_of false false e = absurd (let never : None ≡ Some thrown.Why.Stale = e in cc)

              -- the machine finds it stale, too
              is_stale_there : (w : machine.World) → StateStandsFor on before w → (node : plain.Node) (disk : List Record) → IsUp w letter.to node disk → is_stale letter node.installed ≡ true
              is_stale_there w st node disk up =
                  let (slot, slot_here, stood) = up_slot on letter.to P old mid new ch rule a was flying flying' seconds book book w st in
                  let whole_is = up_is on letter.to P old mid new ch rule a was flying flying' seconds book book slot stood in
                  let node_is : node ≡ node_seen a.mail = same_up node (node_seen a.mail) (ap (λ (x : Slot). x.life) (some_same (slot_up node disk) slot (sym up ∙ slot_here) ∙ whole_is)) in
                  ap (λ (x : plain.Node). is_stale letter x.installed) node_is ∙ stale_of (is_stale letter (node_seen a.mail).installed) (is_late letter.to (node_seen a.mail) letter) by

              stale : (w : machine.World) (flies : Flies w number) (node : plain.Node) (disk : List Record) → flies.letter ≡ letter → IsUp w letter.to node disk → thrown_by letter.to node letter ≡ Some thrown.Why.Stale
                  → Posts old.plan w number keep (steps.Said.Thrown thrown.Why.Stale) (record w { slots = missed mishap.Stale w.slots letter; flying = flies_on w number flies keep })
              stale w flies node disk same up e = Posts.OfOtherEpoch flies node disk
                  (subst (λ (l : Letter). IsUp w l.to node disk) (sym same) up)
                  (subst (λ (l : Letter). thrown_by l.to node l ≡ Some thrown.Why.Stale) (sym same) e) refl
                  (ap (λ (l : Letter). record w { slots = missed mishap.Stale w.slots l; flying = flies_on w number flies keep }) (sym same))

          pub late_posted : IsMailBody letter.body → thrown_by letter.to (node_seen a.mail) letter ≡ Some thrown.Why.Late → new ≡ mid → flying' ≡ taken_out (out_of number keep) flying
              → StepDid on (Ok (said.Thrown why.Late)) (step.Post number keep) before (state_with new flying' seconds book)
          late_posted mail by same_nodes left = thrown_so why.Late thrown.Why.Late refl (λ slots. slots) (subst (λ (m : Nodes D). OnlyTickets on (λ slots. slots) mid m) (sym same_nodes) (nothing_else on mid)) left
              (λ w n. refl)
              (λ w n. refl)
              (λ w st. mail_seen w st mail)
              (λ w flies node disk same up e. late w flies node disk same up e) by
            where
              late : (w : machine.World) (flies : Flies w number) (node : plain.Node) (disk : List Record) → flies.letter ≡ letter → IsUp w letter.to node disk → thrown_by letter.to node letter ≡ Some thrown.Why.Late
                  → Posts old.plan w number keep (steps.Said.Thrown thrown.Why.Late) (record w { flying = flies_on w number flies keep })
              late w flies node disk same up e = Posts.TooLate flies node disk
                  (subst (λ (l : Letter). IsUp w l.to node disk) (sym same) up)
                  (subst (λ (l : Letter). thrown_by l.to node l ≡ Some thrown.Why.Late) (sym same) e) refl refl

        -- memory ran out before anything was done
        pub short_posted : (b : WholeNode) → ch.life' ≡ Up b → IsAsBefore a.mail b.mail → node_of b.maps ≡ node_of a.maps → ch.disk' ≡ ch.disk → StepDid on (Err (fault.NoMemory None)) (step.Post number keep) before (state_with mid flying seconds book)
        short_posted b is alike same_maps untold = work_did on letter.to P old mid mid ch (λ slots. slots) (nothing_else on mid) flying flying seconds book book (Err (fault.NoMemory None)) (step.Post number keep) refl tt tt tt
            (work_goes_on on letter.to P old mid mid ch (λ slots. slots) (nothing_else on mid) (up_boot b is (ap (λ (n : plain.Node). n.boot) alike.seen)))
            (ap (λ d. is_some (on.seen d)) untold)
            (subst (λ d. on.faults ch.disk ≤ on.faults d) (sym untold) (omega arith))
            (λ boot _. ap on.faults untold)
            tt
            (same_book (booked_by book))
            (unchanged_by letter.to P old mid ch flying flying seconds seconds book book on (step.Post number keep) (memory_kept ch.life ch.life' a b was is alike same_maps (turns_same ch.life ch.life' own a b was is same_maps))
            (λ _. untold) (λ _. (nothing_read on ch.disk ch.disk' untold, ap on.faults untold)) refl refl refl)
            tt (λ v s done. for_mail v s) own
            (λ w st. led on (Err (fault.NoMemory None)) (step.Post number keep) before (state_with mid flying seconds book) (even_of old) (even_of mid) w st (record { step_is = refl; said_is = refl; sees = tt })
            (λ v seen sound done. absurd done) (record {
              next = w;
              stands = idle_stands on letter.to P old mid mid ch rule a was flying flying seconds book book b is alike untold (λ slots. slots) (nothing_else on mid) w st w.flying st.flying refl refl;
              made = refl;
              stops = idle_stops on letter.to P old mid mid ch rule a was flying flying seconds book book b is alike untold (λ slots. slots) (nothing_else on mid) w st w.slots (λ n. refl);
              follow = idle_maps on letter.to P old mid mid ch rule a was flying flying seconds book book b is alike untold (λ slots. slots) (nothing_else on mid) same_maps w st w.slots (λ n. refl);
            }))
            tt

        -- It did this, and its letters are in flight: the letter was heard, or thrown all the same.
        module _ (did_rule : Rule) where
          -- the whole world after it
          abbrev pub Answers : Option Why → List Letter → Nodes D → InFlight → Type 0
          Answers o letters new flying' = (w : machine.World) (st : StateStandsFor on before w) (s : Standing w.flying number letter)
              → (sent : WorkSent on letter.to P old mid new ch did_rule a was flying flying' seconds book book letters (flies_on w number (flies_of w number letter s) keep) w.book w)
              → (v : whole_world.World) → mail_world_of v ≡ w → Stands old.plan v → AreMaps old.lives.items v.slots
              → LeadsWhole old.plan (tells_in on.seen before) (Ok (said_by o)) (step.Post number keep) new.lives.items v
              (after (record w { flying = flies_on w number (flies_of w number letter s) keep }) letter.to (did_rule sent.node sent.disk))

          -- where it is of messages the maps follow the rule
          pub mail_answers : (o : Option Why) → IsOfMail (Ok (said_by o)) (step.Post number keep) → (b : WholeNode) → ch.life' ≡ Up b → (letters : List Letter) (new : Nodes D) (flying' : InFlight)
              → SentOff on old.plan letters (out_of number keep) flying flying' mid new → PostsBy old.plan number keep letter did_rule a o
              → IsMailBody letter.body → node_follows.MapsFollow did_rule a b → own_of a.maps ≡ letter.to → Answers o letters new flying'
          mail_answers o of_mail b is letters new flying' off posts mail follow mine w st s sent v seen sound maps =
              led_whole on (Ok (said_by o)) (step.Post number keep) before (state_with new flying' seconds book) (even_of old) (even_of new) w st (record {
                next = after (record w { flying = flies_on w number (flies_of w number letter s) keep }) letter.to (did_rule sent.node sent.disk);
                stands = sent.stands;
                made = (goes w st, inl (posts w s sent.node sent.disk sent.up sent.node_is, posted_mail w st (posts w s sent.node sent.disk sent.up sent.node_is)));
                stops = sent.stops;
                follow = sent_follows on letter.to P old mid new ch did_rule a was flying flying' seconds book book letters (flies_on w number (flies_of w number letter s) keep) w.book w sent b is follow mine _ off.noticed.only;
              }) v seen maps of_mail (λ done. mail_seen w st mail v seen)

          pub answered_posted : (o : Option Why) (b : WholeNode) → ch.life' ≡ Up b → (letters : List Letter) → NodeDid on did_rule a.mail ch.disk b.mail ch.disk' letters
              → (new : Nodes D) (flying' : InFlight) → SentOff on old.plan letters (out_of number keep) flying flying' mid new
              → PostsBy old.plan number keep letter did_rule a o → Answers o letters new flying' → StepDid on (Ok (said_by o)) (step.Post number keep) before (state_with new flying' seconds book)
          answered_posted o b is letters did new flying' off posts whole = work_did on letter.to P old mid new ch _ off.noticed.only flying flying' seconds book book (Ok (said_by o)) (step.Post number keep) refl refl
              (says_so o number keep) (falls_none o old.plan.nodes number keep (life_among old))
              (λ m. work_goes_on on letter.to P old mid new ch _ off.noticed.only (up_boot b is did.boot) m ∙ sym (lives_stay o number keep m (life_among old m)))
              did.appends.told
              (subst (λ f. on.faults ch.disk ≤ f) (sym did.appends.quiet) (omega arith))
              (λ boot _. did.appends.quiet)
              (passed_sent keep (said_by o) new flying' book letters off.flies)
              (same_book (booked_by book))
              tt
              tt (λ v s done. for_mail v s) own
              (λ w st.
              let s = standing w.flying number letter (there w st) in
              let sent : WorkSent on letter.to P old mid new ch did_rule a was flying flying' seconds book book letters (flies_on w number (flies_of w number letter s) keep) w.book w =
              work_sent on letter.to P old mid new ch did_rule a was flying flying' seconds book book b is letters did old.plan (out_of number keep) off w st
              (flies_on w number (flies_of w number letter s) keep) (flies_left w number letter s keep) w.book st.book in
              record {
                next = after (record w { flying = flies_on w number (flies_of w number letter s) keep }) letter.to (did_rule sent.node sent.disk);
                stands = sent.stands;
                made = (goes w st, inl (posts w s sent.node sent.disk sent.up sent.node_is, posted_mail w st (posts w s sent.node sent.disk sent.up sent.node_is)));
                stops = sent.stops;
                whole = whole w st s sent;
              })
              (no_cause on o (step.Post number keep) before (state_with new flying' seconds book))

          -- it went down in it
          module _ (down : ch.life' ≡ Down) (told : is_some (on.seen ch.disk') ≡ is_some (on.seen ch.disk)) (later : on.faults ch.disk ≤ on.faults ch.disk')
              (above : 1 ≤ letter.to) (within : letter.to ≤ old.plan.nodes) (new : Nodes D) (flying' : InFlight) (book' : Book) (entered : IsEntered letter.to book book')
              (cut : (w : machine.World) → StateStandsFor on before w → CutSlot on letter.to P old mid new ch did_rule a was flying flying' seconds book book' w) where
            booked_is : (w : machine.World) → StateStandsFor on before w → booked_by book' ≡ w.book ++ WentDown letter.to ∷ []
            booked_is w st = ap entries_seen entered.wrote ∙ entries_more (entries_of book) (written.Down letter.to ∷ []) ∙ ap (λ b. b ++ WentDown letter.to ∷ []) st.book

            was_to_work : WasToWork old.plan.nodes (step.Post number keep) (life_among old letter.to) letter.to
            was_to_work = record { above = above; within = within; worked = inl ((node_seen a.mail).boot, ap seen_life ch.was ∙ ap life_seen was) }

            lives_down : (change : List Slot → List Slot) (only : OnlyTickets on change mid new) (m : ℕ) → life_among new m ≡ turned letter.to life.Down m (life_among old m)
            lives_down change only m = work_lives on letter.to P old mid new ch change only m ∙ ap (λ l. turned letter.to l m (life_among old m)) (ap life_seen down)

            not_up : (boot : ℕ) → life_seen ch.life' ≡ life.Up boot → ⊥
            not_up boot up = let never : life.Down ≡ life.Up boot = sym (ap life_seen down) ∙ up in cc

            -- the whole world, once its disk failed,
            abbrev pub Faults : (List Slot → List Slot) → Type 0
            Faults change = (w : machine.World) (st : StateStandsFor on before w) (s : Standing w.flying number letter) (v : whole_world.World) → mail_world_of v ≡ w → Stands old.plan v → AreMaps old.lives.items v.slots
                → LeadsWhole old.plan (tells_in on.seen before) (Ok (said.Faulted letter.to)) (step.Post number keep) new.lives.items v
                (record (cut_world w letter.to (cut w st).disk (cut w st).front (cut w st).pending) {
                  slots = change (cut_world w letter.to (cut w st).disk (cut w st).front (cut w st).pending).slots;
                  flying = flies_on w number (flies_of w number letter s) keep;
                })

            -- and once memory ran out
            abbrev pub Falls : Type 0
            Falls = (w : machine.World) (st : StateStandsFor on before w) (v : whole_world.World) → mail_world_of v ≡ w → Stands old.plan v → AreMaps old.lives.items v.slots
                → LeadsWhole old.plan (tells_in on.seen before) (Err (fault.NoMemory (Some letter.to))) (step.Post number keep) new.lives.items v (cut_world w letter.to (cut w st).disk (cut w st).front (cut w st).pending)

            pub mail_faults : (change : List Slot → List Slot) (only : OnlyTickets on change mid new)
                → ((slots : List Slot) (n : ℕ) → Rattle.cluster_world.proofs.Kept.kept_at (slot_at (change slots) n) ≡ Rattle.cluster_world.proofs.Kept.kept_at (slot_at slots n))
                → ((slots : List Slot) (n : ℕ) → disk_at (slot_at (change slots) n) ≡ disk_at (slot_at slots n)) → flying' ≡ taken_out (out_of number keep) flying
                → FailsBy old.plan number keep letter did_rule a change → IsMailBody letter.body → Faults change
            mail_faults change only kept disks left posts mail w st s v seen sound maps =
                let c = cut w st in
                let fell : machine.World = cut_world w letter.to c.disk c.front c.pending in
                led_whole on (Ok (said.Faulted letter.to)) (step.Post number keep) before (state_with new flying' seconds book') (even_of old) (even_of new) w st (record {
                  next = record fell { slots = change fell.slots; flying = flies_on w number (flies_of w number letter s) keep };
                  stands = cut_stands on letter.to P old mid new ch did_rule a was flying flying' seconds book book' down change only w st c
                      (flies_on w number (flies_of w number letter s) keep) (left_is w st s flying' left) (ap (λ (f : InFlight). f.sent) left) w.book (booked_is w st);
                  made = (goes w st, inl (posts w s c.node c.disk c.up c.node_is fell (record { front = c.front; pending = c.pending; one = c.one; cut = c.cut; is = refl }), posted_mail w st (posts w s c.node c.disk c.up c.node_is fell (record { front = c.front; pending = c.pending; one = c.one; cut = c.cut; is = refl }))));
                  stops = cut_stops on letter.to P old mid new ch did_rule a was flying flying' seconds book book' down change only w st c (change fell.slots) (kept fell.slots);
                  follow = cut_follows on letter.to P old mid new ch did_rule a was flying flying' seconds book book' down change only w c (change fell.slots) (disks fell.slots);
                }) v seen maps (record { step_is = refl; said_is = refl; sees = tt }) (λ done. mail_seen w st mail v seen)

            pub mail_falls : (only : OnlyTickets on (λ slots. slots) mid new) → flying' ≡ flying → RunsBy old.plan number keep letter did_rule a → IsMailBody letter.body → Falls
            mail_falls only left runs mail w st v seen sound maps =
                let s = standing w.flying number letter (there w st) in
                let c = cut w st in
                let fell : machine.World = cut_world w letter.to c.disk c.front c.pending in
                led_whole on (Err (fault.NoMemory (Some letter.to))) (step.Post number keep) before (state_with new flying' seconds book') (even_of old) (even_of new) w st (record {
                  next = fell;
                  stands = cut_stands on letter.to P old mid new ch did_rule a was flying flying' seconds book book' down (λ slots. slots) only w st c
                      w.flying (ap (λ (f : InFlight). f.flights) left ∙ st.flying) (ap (λ (f : InFlight). f.sent) left) w.book (booked_is w st);
                  made = runs w s c.node c.disk c.up c.node_is fell (record { front = c.front; pending = c.pending; one = c.one; cut = c.cut; is = refl });
                  stops = cut_stops on letter.to P old mid new ch did_rule a was flying flying' seconds book book' down (λ slots. slots) only w st c fell.slots (λ n. refl);
                  follow = cut_follows on letter.to P old mid new ch did_rule a was flying flying' seconds book book' down (λ slots. slots) only w c fell.slots (λ n. refl);
                }) v seen maps (record { step_is = refl; said_is = refl; sees = tt }) (λ done. mail_seen w st mail v seen)

            pub faulted_posted : Rose (on.faults ch.disk) (on.faults ch.disk') → (change : List Slot → List Slot) (only : OnlyTickets on change mid new)
                → ((slots : List Slot) (n : ℕ) → Rattle.cluster_world.proofs.Kept.kept_at (slot_at (change slots) n) ≡ Rattle.cluster_world.proofs.Kept.kept_at (slot_at slots n))
                → flying' ≡ taken_out (out_of number keep) flying
                → FailsBy old.plan number keep letter did_rule a change → Faults change → StepDid on (Ok (said.Faulted letter.to)) (step.Post number keep) before (state_with new flying' seconds book')
            faulted_posted rose change only kept left posts whole = work_did on letter.to P old mid new ch change only flying flying' seconds book book' (Ok (said.Faulted letter.to)) (step.Post number keep) refl
                refl tt was_to_work (lives_down change only) told later (λ boot up. absurd (not_up boot up))
                (passed_left keep (said.Faulted letter.to) new flying' book' left)
                (longer_by book book' (written.Down letter.to ∷ []) entered.wrote)
                tt
                tt (λ v s done. for_mail v s) own
                (λ w st.
                let s = standing w.flying number letter (there w st) in
                let c = cut w st in
                let fell : machine.World = cut_world w letter.to c.disk c.front c.pending in
                record {
                  next = record fell { slots = change fell.slots; flying = flies_on w number (flies_of w number letter s) keep };
                  stands = cut_stands on letter.to P old mid new ch did_rule a was flying flying' seconds book book' down change only w st c
                      (flies_on w number (flies_of w number letter s) keep) (left_is w st s flying' left) (ap (λ (f : InFlight). f.sent) left) w.book (booked_is w st);
                  made = (goes w st, inl (posts w s c.node c.disk c.up c.node_is fell (record { front = c.front; pending = c.pending; one = c.one; cut = c.cut; is = refl }), posted_mail w st (posts w s c.node c.disk c.up c.node_is fell (record { front = c.front; pending = c.pending; one = c.one; cut = c.cut; is = refl }))));
                  stops = cut_stops on letter.to P old mid new ch did_rule a was flying flying' seconds book book' down change only w st c (change fell.slots) (kept fell.slots);
                  whole = whole w st s;
                })
                (λ disk disk' e f. inl (rose_there disk disk' e f))
              where
                rose_there : (disk disk' : D) → of_node old.disks.items letter.to ≡ Some disk → of_node new.disks.items letter.to ≡ Some disk' → Rose (on.faults disk) (on.faults disk')
                rose_there disk disk' e f =
                    let d_is : ch.disk ≡ disk = Rattle.cluster_world.proofs.Still.some_same ch.disk disk (sym ch.held ∙ e) in
                    let d'_is : ch.disk' ≡ disk' = Rattle.cluster_world.proofs.Still.some_same ch.disk' disk'
                    (sym (Rattle.cluster_world.proofs.Turned.disk_there letter.to P old mid ch) ∙ ap (λ ds. of_node ds letter.to) (sym only.disks) ∙ f) in
                    subst (λ d. Rose (on.faults d) (on.faults disk')) d_is (subst (λ d. Rose (on.faults ch.disk) (on.faults d)) d'_is rose)

            pub fallen_posted : new ≡ mid → flying' ≡ flying → RunsBy old.plan number keep letter did_rule a → Falls → StepDid on (Err (fault.NoMemory (Some letter.to))) (step.Post number keep) before (state_with new flying' seconds book')
            fallen_posted same_nodes left runs whole =
                let only : OnlyTickets on (λ slots. slots) mid new = subst (λ (m : Nodes D). OnlyTickets on (λ slots. slots) mid m) (sym same_nodes) (nothing_else on mid) in
                work_did on letter.to P old mid new ch (λ slots. slots) only flying flying' seconds book book' (Err (fault.NoMemory (Some letter.to))) (step.Post number keep) refl
                tt tt was_to_work (lives_down (λ slots. slots) only) told later (λ boot up. absurd (not_up boot up)) tt (longer_by book book' (written.Down letter.to ∷ []) entered.wrote) tt
                tt (λ v s done. for_mail v s) own
                (λ w st.
                let s = standing w.flying number letter (there w st) in
                let c = cut w st in
                let fell : machine.World = cut_world w letter.to c.disk c.front c.pending in
                record {
                  next = fell;
                  stands = cut_stands on letter.to P old mid new ch did_rule a was flying flying' seconds book book' down (λ slots. slots) only w st c
                      w.flying (ap (λ (f : InFlight). f.flights) left ∙ st.flying) (ap (λ (f : InFlight). f.sent) left) w.book (booked_is w st);
                  made = runs w s c.node c.disk c.up c.node_is fell (record { front = c.front; pending = c.pending; one = c.one; cut = c.cut; is = refl });
                  stops = cut_stops on letter.to P old mid new ch did_rule a was flying flying' seconds book book' down (λ slots. slots) only w st c fell.slots (λ n. refl);
                  whole = whole w st;
                })
                tt

        -- A letter of membership or maps was looked at: the whole machine has its rule, too.
        module _ (body : IsMapsBody letter.body) (mine : a.mail.store.own ≡ letter.to) where
          abbrev pub looks : WholeNode → List Letter → Rule
          looks b letters = forms_rule (with_stamps letter.body) (node_of b.maps).installed (promise_by (node_of a.maps) letter.body) letters

          -- where the letter flies in the whole world
          abbrev flies_there : (w : machine.World) (s : Standing w.flying number letter) (v : whole_world.World) → mail_world_of v ≡ w → Flies (mail_world_of v) number
          flies_there w s v seen = record { front = s.front; letter = letter; back = s.back; is = ap (λ (x : machine.World). x.flying) seen ∙ s.is }

          left_there : (k : Bool) (w : machine.World) (s : Standing w.flying number letter) (v : whole_world.World) (seen : mail_world_of v ≡ w)
              → flies_on (mail_world_of v) number (flies_there w s v seen) k ≡ flies_on w number (flies_of w number letter s) k
          left_there true w s v seen = ap (λ (x : machine.World). x.flying) seen
          left_there false w s v seen = refl

          goes_there : (w : machine.World) → StateStandsFor on before w → (v : whole_world.World) → mail_world_of v ≡ w → whole_steps.step_fault old.plan (whole_steps.Step.OfMessages (steps.Step.Post number keep)) v ≡ None
          goes_there w st v seen = ap (option_map whole_steps.StepFault.Fault) (ap (step_fault old.plan (steps.Step.Post number keep)) seen ∙ goes w st)

          told_so : (o : Option Why) → whole_said (said_by o) ≡ said_of (option_map why_seen o)
          told_so None = refl
          told_so (Some what) = refl

          pub looked_answers : (o : Option Why) (b : WholeNode) → ch.life' ≡ Up b → (letters : List Letter) → LookedAt on letter a ch.disk b ch.disk' o letters → (new : Nodes D) (flying' : InFlight)
              → SentOff on old.plan letters (out_of number keep) flying flying' mid new → Answers (looks b letters) o letters new flying'
          looked_answers o b is letters h new flying' off w st s sent v seen sound maps =
              looked_whole on letter.to P old mid new ch _ off.noticed.only a b mine is (tells_in on.seen before) w v seen sound maps sent.node sent.disk
              (up_whole old.lives.items w v seen maps letter.to a sent.node sent.disk (ch.was ∙ ap Some was) sent.up sent.node_is) sent.keeps ch.disk ch.disk' letter refl body o letters h number keep
              (flies_there w s v seen) refl (flies_on w number (flies_of w number letter s) keep) (left_there keep w s v seen) (goes_there w st v seen) (said_by o) (told_so o)
              (looks b letters sent.node sent.disk)
              (ap (λ m. looks b letters m sent.disk) sent.node_is
              ∙ ap (λ x. record { node = x; disk = sent.disk ++ promise_records (promise_by (node_of a.maps) letter.body); out = letters }) (h.mail.did.node sent.disk sent.keeps))

          abbrev pub stops_in : Option Membership → List Letter → Rule
          stops_in installed letters = forms_rule (with_stamps letter.body) installed (promise_by (node_of a.maps) letter.body) letters

          -- what was cut of its promise
          cut_of : (installed : Option Membership) (letters : List Letter) (node : plain.Node) (disk front pending missing : List Record) → (stops_in installed letters node disk).disk ≡ disk ++ ((front ++ pending) ++ missing)
              → promise_records (promise_by (node_of a.maps) letter.body) ≡ (front ++ pending) ++ missing
          cut_of installed letters node disk front pending missing is =
              sym (drop_front disk (promise_records (promise_by (node_of a.maps) letter.body))) ∙ ap (drop (length disk)) is ∙ drop_front disk ((front ++ pending) ++ missing)

          module _ (installed : Option Membership) (letters : List Letter) (within : is_stale letter (node_seen a.mail).installed ≡ false) (down : ch.life' ≡ Down) (told : is_some (on.seen ch.disk') ≡ is_some (on.seen ch.disk)) (later : on.faults ch.disk ≤ on.faults ch.disk')
              (above : 1 ≤ letter.to) (inside : letter.to ≤ old.plan.nodes) (new : Nodes D) (flying' : InFlight) (book' : Book) (entered : IsEntered letter.to book book')
              (cut : (w : machine.World) → StateStandsFor on before w → CutSlot on letter.to P old mid new ch (stops_in installed letters) a was flying flying' seconds book book' w)
              (only : OnlyTickets on (λ slots. slots) mid new) where
            never_up : (node : WholeNode) → ch.life' ≡ Up node → ⊥
            never_up node up = let never : Down ≡ Up node = sym down ∙ up in cc

            pub looked_faults : Faults (stops_in installed letters) down told later above inside new flying' book' entered cut (λ slots. slots)
            looked_faults w st s v seen sound maps =
                let c = cut w st in
                hear_fails on letter.to P old mid new ch (λ slots. slots) only a never_up (tells_in on.seen before) w v seen maps c.disk
                (up_whole old.lives.items w v seen maps letter.to a c.node c.disk (ch.was ∙ ap Some was) c.up c.node_is) (promise_by (node_of a.maps) letter.body) c.front c.pending c.cut.missing c.one
                (cut_of installed letters c.node c.disk c.front c.pending c.cut.missing c.cut.is) number keep letter refl body within (flies_there w s v seen) refl refl
                (flies_on w number (flies_of w number letter s) keep) (left_there keep w s v seen) (goes_there w st v seen)

            pub looked_falls : Falls (stops_in installed letters) down told later above inside new flying' book' entered cut
            looked_falls w st v seen sound maps =
                let s = standing w.flying number letter (there w st) in
                let c = cut w st in
                hear_short on letter.to P old mid new ch (λ slots. slots) only a never_up (tells_in on.seen before) w v seen maps c.disk
                (up_whole old.lives.items w v seen maps letter.to a c.node c.disk (ch.was ∙ ap Some was) c.up c.node_is) (promise_by (node_of a.maps) letter.body) c.front c.pending c.cut.missing c.one
                (cut_of installed letters c.node c.disk c.front c.pending c.cut.missing c.cut.is) number keep letter refl body within (flies_there w s v seen) refl refl
