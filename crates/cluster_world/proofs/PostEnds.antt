-- All that a posted letter leads to, however its receiver heard it.
use Rattle.std.proofs.Common.{◌≡◌, ◌⊎◌, inl, inr, ⊎_elim, All, ℕ, zero, suc, ◌+◌, ◌≤◌, ◌<◌, Bool, true, false, nat_le, List, [], ◌∷◌, length, Option, Some, None, Result, Ok, Err, refl, sym, ap, ◌∙◌, subst, arith, if◌then◌else◌}
use Rattle.std.specs.Prelude.{IfOk}
use Rattle.io_edge.specs.Causes.{Rose}
use Rattle.std.proofs.lemmas.Option.{slice_get_within}
use Rattle.mail_model.specs.Plan.{Plan}
use Rattle.object_model.specs.Letters.{Body, Letter}
use Rattle.object_model.specs.Letters.Body.{Group, Join, Install, Report, ReportAck}
use Rattle.object_model.specs.Mishaps.{MishapKind, MishapKind as mishap}
use Rattle.session_model.specs.Events.{NodeLife as life}
use Rattle.cluster_model.specs.Cluster as plain
use Rattle.cluster_model.specs.Cluster.{Slot, slot_at}
use Rattle.cluster_model.specs.Deeds.{hear}
use Rattle.cluster_model.specs.Forms.{IsMapsBody}
use Rattle.cluster_model.specs.Steps.{letter_at, letters_end}
use Rattle.cluster_model.specs.Thrown as thrown
use Rattle.cluster_model.specs.World.{missed}
use Rattle.whole_model.specs.Rules.{IsMailBody}
use Rattle.whole_world.specs.Makes.{promise_by}
use Rattle.node_maps.specs.Nodes.{node_of, own_of}
use Rattle.node_store.specs.Disks.{View}
use Rattle.node_core.specs.Hearing.{why_seen, LetterThrown, HeardOrThrown}
use Rattle.node_core.specs.Nodes.{node_seen, IsAsBefore, IsNodeOf}
use Rattle.node_core.specs.Spelling.{AllCanBeTaken}
use Rattle.node_core.specs.Works.{Rule, NodeDid, NodeStopped}
use Rattle.node_core.specs.declared.fault.NodeFault.{NodeFault}
use Rattle.node_core.specs.declared.fault.NodeFault.TheVariants.{Disk, Worn, NoMemory}
use Rattle.whole_node.specs.Nodes.{WholeWorks}
use Rattle.node_core.specs.declared.node.Node.{Node}
use Rattle.whole_node.specs.declared.node.WholeNode.{WholeNode}
use Rattle.node_core.specs.declared.outbox.Outbox.{Outbox}
use Rattle.node_core.specs.declared.outbox.Why.{Why}
use Rattle.node_core.specs.declared.outbox.Why.TheVariants as why
use Rattle.whole_node.specs.Following.{FollowsOrThrows}
use Rattle.whole_node.specs.Hearing as whole
use Rattle.whole_node.specs.Hearing.{FitsMaps, LookedAt, ThrownStale}
use Rattle.world_book.specs.Books.{spare_of}
use Rattle.world_book.specs.declared.book.Book.{Book}
use Rattle.cluster_world.specs.Flights.{InFlight, AreInOrder, taken_out}
use Rattle.cluster_world.specs.Hears.{AllCanBeHeard, IsLookedAt, LookedAtOrStale, HearsAny, HearsWhole}
use Rattle.cluster_world.specs.Lives.{life_seen, is_up_life, of_node, falls_left, all_falls_left, CanWorkOn}
use Rattle.cluster_world.specs.Worlds.{life_among, state_with}
use Rattle.cluster_world.specs.Changes.{ChangesNode}
use Rattle.cluster_world.specs.Missing.{OnlyTickets, Noticed, SentOff}
use Rattle.cluster_world.specs.Posts.{out_of, HearsAtNode, mishap_of_thrown, mishap_of_fault, mishap_of, IsEntered, IsNotedIf, AnswersSent, EndsThrown, EndsHeard, EndsStopped, EndsPost}
use Rattle.cluster_world.specs.Steps.{StepDid, AreSettled}
use Rattle.cluster_world.specs.declared.life.Life.{Life}
use Rattle.cluster_world.specs.declared.life.Life.TheVariants.{Up, Down}
use Rattle.cluster_world.specs.declared.nodes.Nodes.{Nodes}
use Rattle.cluster_world.specs.declared.step.Step.TheVariants as step
use Rattle.cluster_world.specs.declared.step.Said.{Said}
use Rattle.cluster_world.specs.declared.step.Said.TheVariants as said
use Rattle.cluster_world.specs.declared.fault.StepFault.{StepFault}
use Rattle.cluster_world.specs.declared.fault.StepFault.TheVariants as fault
use Rattle.cluster_world.proofs.Asked.{ready_of}
use Rattle.cluster_world.proofs.AfterWork.{nothing_else, AreThese, turned_after, work_falls, work_settled, work_ready, work_stopped, work_undone}
use Rattle.cluster_world.proofs.FlightLaws.{all_heard}
use Rattle.cluster_world.proofs.Follows.{missed_disk}
use Rattle.cluster_world.proofs.Hearing.{stale_so}
use Rattle.cluster_world.proofs.Kept.{only_settled, missed_kept}
use Rattle.cluster_world.proofs.Posting.{two_reasons, said_by, PostsBy, FailsBy, RunsBy, posts_heard, fails_heard, runs_heard, looked_rule, posts_looked, fails_looked, runs_looked, nobody_posted, stale_posted, late_posted, short_posted, answered_posted, faulted_posted, fallen_posted, Answers, Faults, Falls, mail_answers, mail_faults, mail_falls, looked_answers, looked_faults, looked_falls, IsPosted}
use Rattle.cluster_world.proofs.Beside.{OwnKept, turns_keep}

-- all that is asked of a post
pub record PostDid {D : Type 0} (on : View D) (is_settled : D → Type 0) (number : ℕ) (keep : Bool) (result : Result Said StepFault) (old : Nodes D) (flying : InFlight) (book : Book) (new : Nodes D) (flying' : InFlight) (book' : Book) : Type 0 where
  pub did : (seconds : ℕ) → StepDid on result (step.Post number keep) (state_with old flying seconds book) (state_with new flying' seconds book')
  pub ready : CanWorkOn on.seen new.plan new.lives.items new.disks.items
  pub settled : (seconds : ℕ) → AreSettled is_settled (state_with old flying seconds book) → AreSettled is_settled (state_with new flying' seconds book')
  pub spare : spare_of book + all_falls_left new.lives.items ≤ spare_of book' + all_falls_left old.lives.items

-- the node is one of those that there are
up_within : {X : Type 0} (xs : List X) (n : ℕ) (x : X) → of_node xs n ≡ Some x → (1 ≤ n) × (n ≤ length xs)
up_within xs zero x e = absurd (let never : None ≡ Some x = e in cc)
up_within xs (suc k) x e = let within : suc k ≤ length xs = slice_get_within xs k x e in (omega arith, within)

falls_here : (lives : List Life) (n : ℕ) (l : Life) → of_node lives n ≡ Some l → falls_left l ≤ all_falls_left lives
falls_here lives zero l e = absurd (let never : None ≡ Some l = e in cc)
falls_here lives (suc k) l e = at lives k l e
  where
    at : (lives : List Life) (k : ℕ) (l : Life) → Rattle.std.specs.Prelude.slice_get lives k ≡ Some l → falls_left l ≤ all_falls_left lives
    at [] k l e = absurd (let never : None ≡ Some l = e in cc)
    at (x ∷ lives) zero l e = omega (arith, ap falls_left (Rattle.cluster_world.proofs.Still.some_same x l e))
    at (x ∷ lives) (suc k) l e = omega (arith, at lives k l e)

-- a letter is thrown for no other reason than the two
neither : (b c : Bool) (x : thrown.Why) → (if b then Some thrown.Why.Stale else (if c then Some thrown.Why.Late else None)) ≡ Some x → (x ≡ thrown.Why.Stale → ⊥) → (x ≡ thrown.Why.Late → ⊥) → ⊥
neither b c x e f g = ⊎_elim f g (two_reasons b c x e)

module _ {D : Type 0} (on : View D) (plan : Plan) (letter : Letter) where
  pub noted_plan : (o : Option MishapKind) (old new : Nodes D) → IsNotedIf on plan letter o old new → new.plan ≡ old.plan
  noted_plan None old new noted = ap (λ (m : Nodes D). m.plan) noted
  noted_plan (Some kind) old new noted = noted.only.plan

  -- nodes that can work still can
  pub noted_ready : (o : Option MishapKind) (old new : Nodes D) → plan ≡ old.plan → IsNotedIf on plan letter o old new → CanWorkOn on.seen old.plan old.lives.items old.disks.items
      → CanWorkOn on.seen new.plan new.lives.items new.disks.items
  noted_ready None old new same noted works = subst (λ (m : Nodes D). CanWorkOn on.seen m.plan m.lives.items m.disks.items) (sym noted) works
  noted_ready (Some kind) old new same noted works = subst (λ p. CanWorkOn on.seen p new.lives.items new.disks.items) (same ∙ sym noted.only.plan) noted.works

-- a letter of membership or maps was looked at, and is no mishap; or it was stale
looked_or_stale : {D : Type 0} (on : View D) (own nodes : ℕ) (letter : Letter) (a : Node) (d : D) (b : Node) (d' : D) (o : Option Why) (letters : List Letter) → LookedAtOrStale on own nodes letter a d b d' o letters
    → (IsLookedAt on own nodes letter a d b d' letters × (mishap_of_thrown o ≡ None)) ⊎ ((o ≡ Some why.Stale) × LetterThrown on own nodes letter a d b d' thrown.Why.Stale letters)
looked_or_stale on own nodes letter a d b d' None letters h = inl (h, refl)
looked_or_stale on own nodes letter a d b d' (Some why.Stale) letters h = inr (refl, h)
looked_or_stale on own nodes letter a d b d' (Some why.Down) letters h = inl (h, refl)
looked_or_stale on own nodes letter a d b d' (Some why.Old) letters h = inl (h, refl)
looked_or_stale on own nodes letter a d b d' (Some why.NotPromised) letters h = inl (h, refl)
looked_or_stale on own nodes letter a d b d' (Some why.NotMember) letters h = inl (h, refl)
looked_or_stale on own nodes letter a d b d' (Some why.Late) letters h = inl (h, refl)

-- so the whole node tells it
whole_looked_or_stale : {D : Type 0} (on : View D) (letter : Letter) (a : WholeNode) (d : D) (b : WholeNode) (d' : D) (o : Option Why) (letters : List Letter) → whole.LookedAtOrStale on letter a d b d' o letters
    → (LookedAt on letter a d b d' o letters × (mishap_of_thrown o ≡ None)) ⊎ ((o ≡ Some why.Stale) × ThrownStale on letter a d b d' letters)
whole_looked_or_stale on letter a d b d' None letters h = inl (h, refl)
whole_looked_or_stale on letter a d b d' (Some why.Stale) letters h = inr (refl, h)
whole_looked_or_stale on letter a d b d' (Some why.Down) letters h = inl (h, refl)
whole_looked_or_stale on letter a d b d' (Some why.Old) letters h = inl (h, refl)
whole_looked_or_stale on letter a d b d' (Some why.NotPromised) letters h = inl (h, refl)
whole_looked_or_stale on letter a d b d' (Some why.NotMember) letters h = inl (h, refl)
whole_looked_or_stale on letter a d b d' (Some why.Late) letters h = inl (h, refl)

-- with a disk fault a letter of messages has a mishap, and one of membership or maps has none
fault_of_mail : (body : Body) → IsMailBody body → mishap_of_fault body ≡ Some mishap.Disk
fault_of_mail (Group epoch) mail = absurd mail
fault_of_mail (Join epoch promise boot was claims) mail = absurd mail
fault_of_mail (Install membership) mail = absurd mail
fault_of_mail (Report row) mail = absurd mail
fault_of_mail (ReportAck user version) mail = absurd mail
fault_of_mail body mail = refl

fault_of_maps : (body : Body) → IsMapsBody body → mishap_of_fault body ≡ None
fault_of_maps (Group epoch) maps = refl
fault_of_maps (Join epoch promise boot was claims) maps = refl
fault_of_maps (Install membership) maps = refl
fault_of_maps (Report row) maps = refl
fault_of_maps (ReportAck user version) maps = refl
fault_of_maps body maps = absurd maps

-- nothing was sent
sent_none : {D : Type 0} (on : View D) (plan : Plan) (letters : List Letter) → letters ≡ [] → (posted : Option ℕ) (flying flying' : InFlight) → flying' ≡ taken_out posted flying → (mid new : Nodes D) → new ≡ mid
    → plan ≡ mid.plan → CanWorkOn on.seen mid.plan mid.lives.items mid.disks.items → SentOff on plan letters posted flying flying' mid new
sent_none on plan letters none posted flying flying' left mid new same plan_is works =
    subst (λ (ls : List Letter). SentOff on plan ls posted flying flying' mid new) (sym none)
    (subst (λ (m : Nodes _). SentOff on plan [] posted flying flying' mid m) (sym same)
    (record { flies = left; noticed = record { only = nothing_else on mid; works = subst (λ p. CanWorkOn on.seen p mid.lives.items mid.disks.items) (sym plan_is) works } }))

if_ok_same : (letters : List Letter) → letters ≡ [] → AllCanBeTaken letters
if_ok_same letters e = subst AllCanBeTaken (sym e) (λ k d within. absurd (omega (arith, within)))

module _ {D : Type 0} (on : View D) (is_settled : D → Type 0) (number : ℕ) (keep : Bool) (old : Nodes D) (flying : InFlight) (book : Book)
    (works : CanWorkOn on.seen old.plan old.lives.items old.disks.items) (room : all_falls_left old.lives.items ≤ spare_of book) (letter : Letter)
    (here : letter_at number flying.flights ≡ Some letter) (order : IsPosted flying letter) (early : nat_le letters_end flying.sent ≡ false) where
  -- its receiver is not up
  pub nobody_did : is_up_life (life_among old letter.to) ≡ false → (new : Nodes D) → Noticed on old.plan (λ slots. missed mishap.Down slots letter) old new
      → (flying' : InFlight) → flying' ≡ taken_out (out_of number keep) flying → PostDid on is_settled number keep (Ok (said.Thrown why.Down)) old flying book new flying' book
  nobody_did down new noted flying' left = record {
    did = λ seconds. nobody_posted on old flying seconds book number keep letter here order early new flying' down noted left;
    ready = subst (λ p. CanWorkOn on.seen p new.lives.items new.disks.items) (sym noted.only.plan) noted.works;
    settled = λ seconds. only_settled on (λ slots. missed mishap.Down slots letter) old new noted.only flying flying' seconds seconds book book is_settled;
    spare = omega (arith, noted.only.falls);
  }

  module _ (mid : Nodes D) where
    abbrev Handed : Result Outbox NodeFault → Type 0
    Handed heard = ChangesNode letter.to (HearsAtNode on is_settled old.plan letter.to letter heard) old mid

    abbrev rule : Rule
    rule = λ node disk. hear letter.to old.plan.nodes node disk letter

    -- a node that stays up keeps its tickets of calls that read
    handed_keeps : (heard : Result Outbox NodeFault) → (ch : Handed heard) → OwnKept ch.life ch.life'
    handed_keeps heard ch = turns_keep on.seen (λ result one before other after. HearsAny on letter.to old.plan.nodes letter one before other after result)
        (λ result one before other after. HearsWhole on letter.to old.plan.nodes letter result one before other after) heard ch.life ch.disk ch.life' ch.disk' ch.does.0

    none_kept : (life life' : Life) → life' ≡ Down → OwnKept life life'
    none_kept life life' down b up = absurd (let never : Down ≡ Up b = sym down ∙ up in cc)

    -- the node as it was
    module _ (P : Life → D → Life → D → Type 0) (ch : ChangesNode letter.to P old mid) (a : WholeNode) (was : ch.life ≡ Up a) where
      was_ready : IsNodeOf old.plan letter.to a.mail × WholeWorks (on.seen ch.disk) a
      was_ready = ready_of on.seen old.plan old.lives.items old.disks.items works letter.to a ch.disk (ch.was ∙ ap Some was) ch.held

      own_here : own_of a.maps ≡ letter.to
      own_here = was_ready.1.maps.own ∙ was_ready.0.own_is

      some_falls : 2 ≤ all_falls_left old.lives.items
      some_falls = omega (arith, falls_here old.lives.items letter.to ch.life ch.was, ap falls_left was)

      ready_up : (b : WholeNode) → ch.life' ≡ Up b → IsNodeOf old.plan letter.to b.mail → WholeWorks (on.seen ch.disk') b → CanWorkOn on.seen mid.plan mid.lives.items mid.disks.items
      ready_up b is of can = work_ready letter.to P old mid ch on.seen works
          (λ node up. let same : b ≡ node = up_same b node (sym is ∙ up) in (subst (λ (m : WholeNode). IsNodeOf old.plan letter.to m.mail) same of, subst (λ m. WholeWorks (on.seen ch.disk') m) same can))
        where
          up_same : (x y : WholeNode) → Up x ≡ Up y → x ≡ y
          up_same x y e = cc

      ready_down : ch.life' ≡ Down → CanWorkOn on.seen mid.plan mid.lives.items mid.disks.items
      ready_down down = work_ready letter.to P old mid ch on.seen works (λ node up. absurd (let never : Down ≡ Up node = sym down ∙ up in cc))

      -- the node is up, and so it was
      module _ (b : WholeNode) (is : ch.life' ≡ Up b) (boot : (node_seen b.mail).boot ≡ (node_seen a.mail).boot) (settles : is_settled ch.disk → is_settled ch.disk')
          (change : List Slot → List Slot) (new : Nodes D) (only : OnlyTickets on change mid new) where
        settled_up : (flying' : InFlight) (book' : Book) (seconds : ℕ) → AreSettled is_settled (state_with old flying seconds book) → AreSettled is_settled (state_with new flying' seconds book')
        settled_up flying' book' seconds = work_settled on letter.to P old mid new ch change only flying flying' seconds book book' is_settled
            (λ number up stayed. settles (stayed (ap life_seen was ∙ ap life.Up (sym boot) ∙ sym (ap life_seen is) ∙ up)))

        spare_up : (book' : Book) → book' ≡ book → spare_of book + all_falls_left new.lives.items ≤ spare_of book' + all_falls_left old.lives.items
        spare_up book' e =
            let same : all_falls_left new.lives.items + falls_left ch.life ≡ all_falls_left old.lives.items + falls_left ch.life' = work_falls on letter.to P old mid new ch change only in
            omega (arith, same, ap falls_left was, ap falls_left is, ap spare_of e)

      -- it is down
      module _ (down : ch.life' ≡ Down) (change : List Slot → List Slot) (new : Nodes D) (only : OnlyTickets on change mid new) where
        settled_down : (flying' : InFlight) (book' : Book) (seconds : ℕ) → AreSettled is_settled (state_with old flying seconds book) → AreSettled is_settled (state_with new flying' seconds book')
        settled_down flying' book' seconds = work_settled on letter.to P old mid new ch change only flying flying' seconds book book' is_settled
            (λ number up _. absurd (let never : life.Down ≡ life.Up number = sym (ap life_seen down) ∙ up in cc))

        spare_down : (book' : Book) → IsEntered letter.to book book' → spare_of book + all_falls_left new.lives.items ≤ spare_of book' + all_falls_left old.lives.items
        spare_down book' entered =
            let same : all_falls_left new.lives.items + falls_left ch.life ≡ all_falls_left old.lives.items + falls_left ch.life' = work_falls on letter.to P old mid new ch change only in
            omega (arith, same, ap falls_left was, ap falls_left down, entered.spare)

    pub handed_within : (heard : Result Outbox NodeFault) → Handed heard → (1 ≤ letter.to) × (letter.to ≤ old.plan.nodes)
    handed_within heard ch = let (above, within) = up_within old.lives.items letter.to ch.life ch.was in (above, subst (λ k. letter.to ≤ k) old.all within)

    pub handed_room : (heard : Result Outbox NodeFault) → Handed heard → 0 < spare_of book
    handed_room heard ch = omega (arith, room, some_falls (HearsAtNode on is_settled old.plan letter.to letter heard) ch ch.does.0.old ch.does.0.was)

    -- what it sends can be heard
    fit_by : (o : Option Why) (letters : List Letter) (a b : Node) (d d' : D) → HeardOrThrown on letter.to old.plan.nodes letter a d b d' o letters → AllCanBeTaken letters
    fit_by None letters a b d d' h = h.did.fits
    fit_by (Some what) letters a b d d' h = if_ok_same letters h.none

    looked_fit : (letters : List Letter) (a b : Node) (d d' : D) (o : Option Why)
        → (IsLookedAt on letter.to old.plan.nodes letter a d b d' letters × (mishap_of_thrown o ≡ None)) ⊎ ((o ≡ Some why.Stale) × LetterThrown on letter.to old.plan.nodes letter a d b d' thrown.Why.Stale letters)
        → AllCanBeTaken letters
    looked_fit letters a b d d' o (inl h) = h.0.formed.did.fits
    looked_fit letters a b d d' o (inr h) = if_ok_same letters h.1.none

    any_fit : (outbox : Outbox) (a b : Node) (d d' : D) → HearsAny on letter.to old.plan.nodes letter a d b d' (Ok outbox) → AllCanBeTaken outbox.letters
    any_fit outbox a b d d' (HearsAny.OfMessages mail h) = fit_by outbox.thrown outbox.letters a b d d' h
    any_fit outbox a b d d' (HearsAny.OfMaps maps h) = looked_fit outbox.letters a b d d' outbox.thrown (looked_or_stale on letter.to old.plan.nodes letter a d b d' outbox.thrown outbox.letters h)

    pub handed_fit : (heard : Result Outbox NodeFault) → Handed heard → IfOk heard (λ outbox. All FitsMaps outbox.letters) → IfOk heard (λ outbox. AllCanBeHeard outbox.letters)
    handed_fit (Ok outbox) ch fits = all_heard outbox.letters (any_fit outbox ch.does.0.old.mail ch.does.0.new.mail ch.disk ch.disk' ch.does.0.did) fits
    handed_fit (Err what) ch fits = tt

    -- and each node that is up can go on
    ready_by : (o : Option Why) (letters : List Letter) (P : Life → D → Life → D → Type 0) (ch : ChangesNode letter.to P old mid) (a b : WholeNode) → ch.life ≡ Up a → ch.life' ≡ Up b
        → HeardOrThrown on letter.to old.plan.nodes letter a.mail ch.disk b.mail ch.disk' o letters → WholeWorks (on.seen ch.disk') b → CanWorkOn on.seen mid.plan mid.lives.items mid.disks.items
    ready_by None letters P ch a b was is h can = ready_up P ch a was b is (h.did.same old.plan letter.to (was_ready P ch a was).0) can
    ready_by (Some what) letters P ch a b was is h can = ready_up P ch a was b is (h.as_before.same old.plan letter.to (was_ready P ch a was).0) can

    looked_ready : (letters : List Letter) (P : Life → D → Life → D → Type 0) (ch : ChangesNode letter.to P old mid) (a b : WholeNode) → ch.life ≡ Up a → ch.life' ≡ Up b → (o : Option Why)
        → (IsLookedAt on letter.to old.plan.nodes letter a.mail ch.disk b.mail ch.disk' letters × (mishap_of_thrown o ≡ None)) ⊎ ((o ≡ Some why.Stale) × LetterThrown on letter.to old.plan.nodes letter a.mail ch.disk b.mail ch.disk' thrown.Why.Stale letters)
        → WholeWorks (on.seen ch.disk') b → CanWorkOn on.seen mid.plan mid.lives.items mid.disks.items
    looked_ready letters P ch a b was is o (inl h) can = ready_up P ch a was b is (h.0.formed.did.same old.plan letter.to (was_ready P ch a was).0) can
    looked_ready letters P ch a b was is o (inr h) can = ready_by (Some why.Stale) letters P ch a b was is h.1 can

    any_ready : (outbox : Outbox) (P : Life → D → Life → D → Type 0) (ch : ChangesNode letter.to P old mid) (a b : WholeNode) → ch.life ≡ Up a → ch.life' ≡ Up b
        → HearsAny on letter.to old.plan.nodes letter a.mail ch.disk b.mail ch.disk' (Ok outbox) → WholeWorks (on.seen ch.disk') b → CanWorkOn on.seen mid.plan mid.lives.items mid.disks.items
    any_ready outbox P ch a b was is (HearsAny.OfMessages mail h) can = ready_by outbox.thrown outbox.letters P ch a b was is h can
    any_ready outbox P ch a b was is (HearsAny.OfMaps maps h) can =
        looked_ready outbox.letters P ch a b was is outbox.thrown (looked_or_stale on letter.to old.plan.nodes letter a.mail ch.disk b.mail ch.disk' outbox.thrown outbox.letters h) can

    -- a letter is never worn, and where memory ran out before anything was done nothing is changed
    never_worn : (a b : Node) (d d' : D) → HearsAny on letter.to old.plan.nodes letter a d b d' (Err Worn) → ⊥
    never_worn a b d d' (HearsAny.OfMessages mail h) = h
    never_worn a b d d' (HearsAny.OfMaps maps h) = h.failed

    as_it_was : (a b : Node) (d d' : D) → HearsAny on letter.to old.plan.nodes letter a d b d' (Err (NoMemory false)) → IsAsBefore a b × (d' ≡ d)
    as_it_was a b d d' (HearsAny.OfMessages mail h) = h
    as_it_was a b d d' (HearsAny.OfMaps maps h) = h.failed

    pub handed_ready : (heard : Result Outbox NodeFault) → Handed heard → CanWorkOn on.seen mid.plan mid.lives.items mid.disks.items
    handed_ready (Ok outbox) ch = any_ready outbox _ ch ch.does.0.old ch.does.0.new ch.does.0.was ch.does.0.is ch.does.0.did (ch.does.0.works tt)
    handed_ready (Err Disk) ch = ready_down _ ch ch.does.0.old ch.does.0.was ch.does.0.is
    handed_ready (Err Worn) ch = absurd (never_worn ch.does.0.old.mail ch.does.0.new.mail ch.disk ch.disk' ch.does.0.did)
    handed_ready (Err (NoMemory true)) ch = ready_down _ ch ch.does.0.old ch.does.0.was ch.does.0.is
    handed_ready (Err (NoMemory false)) ch =
        let (alike, same) = as_it_was ch.does.0.old.mail ch.does.0.new.mail ch.disk ch.disk' ch.does.0.did in
        let was = was_ready (HearsAtNode on is_settled old.plan letter.to letter (Err (NoMemory false))) ch ch.does.0.old ch.does.0.was in
        ready_up _ ch ch.does.0.old ch.does.0.was ch.does.0.new ch.does.0.is (alike.same old.plan letter.to was.0) (ch.does.0.works tt)

    -- What comes of it. The plan is the same all along.
    module _ (new : Nodes D) (flying' : InFlight) (book' : Book) where
      abbrev Did : Result Said StepFault → Type 0
      Did result = PostDid on is_settled number keep result old flying book new flying' book'

      -- the receiver is a node of the plan
      hears_within : {Q : Life → D → Life → D → Type 0} → {last : Nodes D} → ChangesNode letter.to Q old last → (1 ≤ letter.to) × (letter.to ≤ old.plan.nodes)
      hears_within t = let (x, y) = up_within old.lives.items letter.to t.life t.was in (x, subst (λ k. letter.to ≤ k) old.all y)

      -- the receiver did this and answered it, or went down as memory ran out
      answered_by : (did_rule : Rule) (o : Option Why) (result : Result Said StepFault) (letters : List Letter) (P : Life → D → Life → D → Type 0) (ch : ChangesNode letter.to P old mid) (own : OwnKept ch.life ch.life') (a b : WholeNode) (was : ch.life ≡ Up a)
          → ch.life' ≡ Up b → (is_settled ch.disk → is_settled ch.disk') → NodeDid on did_rule a.mail ch.disk b.mail ch.disk' letters → PostsBy old.plan number keep letter did_rule a o
          → RunsBy old.plan number keep letter did_rule a
          → (SentOff on old.plan letters (out_of number keep) flying flying' mid new → (seconds : ℕ) → Answers on old flying seconds book number keep letter here order early P mid ch a was own did_rule o letters new flying')
          → ((t : ChangesNode letter.to (AreThese ch.life Down ch.disk ch.disk') old new) (was' : t.life ≡ Up a) (entered : IsEntered letter.to book book') (did' : NodeDid on did_rule a.mail t.disk b.mail t.disk' letters) (left : flying' ≡ flying) (seconds : ℕ)
          → Falls on old flying seconds book number keep letter here order early (AreThese ch.life Down ch.disk ch.disk') new t a was' (none_kept t.life t.life' t.does.life_is) did_rule t.does.life_is did'.appends.told
          (subst (λ f. on.faults t.disk ≤ f) (sym did'.appends.quiet) (omega arith)) (hears_within t).0 (hears_within t).1 new flying' book' entered
          (work_undone on letter.to (AreThese ch.life Down ch.disk ch.disk') old new new t did_rule a was' flying flying' seconds book book' b letters did'))
          → AnswersSent on old.plan letter.to (out_of number keep) (said_by o) letters result mid flying book new flying' book' → Did result
      answered_by did_rule o (Ok what) letters P ch own a b was is settles did posts runs answers falls (what_is, off, book_is) = record {
        did = λ seconds. subst (λ s. StepDid on (Ok s) (step.Post number keep) (state_with old flying seconds book) (state_with new flying' seconds book')) (sym what_is)
            (subst (λ (x : Book). StepDid on (Ok (said_by o)) (step.Post number keep) (state_with old flying seconds book) (state_with new flying' seconds x)) (sym book_is)
            (answered_posted on old flying seconds book number keep letter here order early P mid ch a was own did_rule o b is letters did new flying' off posts (answers off seconds)));
        ready = subst (λ p. CanWorkOn on.seen p new.lives.items new.disks.items) (sym (off.noticed.only.plan ∙ ch.plan)) off.noticed.works;
        settled = settled_up P ch a was b is did.boot settles _ new off.noticed.only flying' book';
        spare = spare_up P ch a was b is did.boot settles _ new off.noticed.only book' book_is;
      }
      answered_by did_rule o (Err what) letters P ch own a b was is settles did posts runs answers falls (what_is, turned, flying_is, entered) =
          subst (λ f. Did (Err f)) (sym what_is)
          (undone_by (turned_after letter.to P Down old mid new ch turned))
        where
          undone_by : ChangesNode letter.to (AreThese ch.life Down ch.disk ch.disk') old new → Did (Err (fault.NoMemory (Some letter.to)))
          undone_by t =
              let was' : t.life ≡ Up a = t.does.life_was ∙ was in
              let did' : NodeDid on did_rule a.mail t.disk b.mail t.disk' letters =
              subst (λ d. NodeDid on did_rule a.mail d b.mail t.disk' letters) (sym t.does.disk_was) (subst (λ d. NodeDid on did_rule a.mail ch.disk b.mail d letters) (sym t.does.disk_is) did) in
              let within : (1 ≤ letter.to) × (letter.to ≤ old.plan.nodes) = hears_within t in
              record {
                did = λ seconds. fallen_posted on old flying seconds book number keep letter here order early (AreThese ch.life Down ch.disk ch.disk') new t a was' (none_kept t.life t.life' t.does.life_is) did_rule t.does.life_is
                    did'.appends.told (subst (λ f. on.faults t.disk ≤ f) (sym did'.appends.quiet) (omega arith)) within.0 within.1 new flying' book' entered
                    (work_undone on letter.to (AreThese ch.life Down ch.disk ch.disk') old new new t did_rule a was' flying flying' seconds book book' b letters did') refl flying_is runs (falls t was' entered did' flying_is seconds);
                ready = work_ready letter.to (AreThese ch.life Down ch.disk ch.disk') old new t on.seen works (λ node up. absurd (let never : Down ≡ Up node = sym t.does.life_is ∙ up in cc));
                settled = λ seconds. work_settled on letter.to (AreThese ch.life Down ch.disk ch.disk') old new new t (λ slots. slots) (nothing_else on new) flying flying' seconds book book' is_settled
                    (λ boot up _. absurd (let never : life.Down ≡ life.Up boot = sym (ap life_seen t.does.life_is) ∙ up in cc));
                spare =
                    let same : all_falls_left new.lives.items + falls_left t.life ≡ all_falls_left old.lives.items + falls_left t.life' =
                    work_falls on letter.to (AreThese ch.life Down ch.disk ch.disk') old new new t (λ slots. slots) (nothing_else on new) in
                    omega (arith, same, ap falls_left was', ap falls_left t.does.life_is, entered.spare);
              }

      -- the receiver threw it
      thrown_did : (what : Why) (letters : List Letter) (P : Life → D → Life → D → Type 0) (ch : ChangesNode letter.to P old mid) (own : OwnKept ch.life ch.life') (a b : WholeNode) → ch.life ≡ Up a → ch.life' ≡ Up b
          → (is_settled ch.disk → is_settled ch.disk') → WholeWorks (on.seen ch.disk') b → node_of b.maps ≡ node_of a.maps → (what ≡ why.Late → IsMailBody letter.body)
          → LetterThrown on letter.to old.plan.nodes letter a.mail ch.disk b.mail ch.disk' (why_seen what) letters
          → IsNotedIf on old.plan letter (mishap_of_thrown (Some what)) mid new → flying' ≡ taken_out (out_of number keep) flying → book' ≡ book → Did (Ok (said.Thrown what))
      thrown_did why.Stale letters P ch own a b was is settles can stay mail h noted flying_is book_is = record {
        did = λ seconds. subst (λ (x : Book). StepDid on (Ok (said.Thrown why.Stale)) (step.Post number keep) (state_with old flying seconds book) (state_with new flying' seconds x)) (sym book_is)
            (stale_posted on old flying seconds book number keep letter here order early P mid ch a was own b is h.as_before stay h.untouched new flying' h.thrown noted flying_is);
        ready = subst (λ p. CanWorkOn on.seen p new.lives.items new.disks.items) (sym (noted.only.plan ∙ ch.plan)) noted.works;
        settled = settled_up P ch a was b is (ap (λ n. n.boot) h.as_before.seen) settles _ new noted.only flying' book';
        spare = spare_up P ch a was b is (ap (λ n. n.boot) h.as_before.seen) settles _ new noted.only book' book_is;
      }
      thrown_did why.Late letters P ch own a b was is settles can stay mail h noted flying_is book_is =
          let only : OnlyTickets on (λ slots. slots) mid new = subst (λ (m : Nodes D). OnlyTickets on (λ slots. slots) mid m) (sym noted) (nothing_else on mid) in
          record {
            did = λ seconds. subst (λ (x : Book). StepDid on (Ok (said.Thrown why.Late)) (step.Post number keep) (state_with old flying seconds book) (state_with new flying' seconds x)) (sym book_is)
                (late_posted on old flying seconds book number keep letter here order early P mid ch a was own b is h.as_before stay h.untouched new flying' (mail refl) h.thrown noted flying_is);
            ready = subst (λ (m : Nodes D). CanWorkOn on.seen m.plan m.lives.items m.disks.items) (sym noted) (ready_by (Some why.Late) letters P ch a b was is h can);
            settled = settled_up P ch a was b is (ap (λ n. n.boot) h.as_before.seen) settles _ new only flying' book';
            spare = spare_up P ch a was b is (ap (λ n. n.boot) h.as_before.seen) settles _ new only book' book_is;
          }
      thrown_did why.Down letters P ch own a b was is settles can stay mail h noted flying_is book_is = absurd (neither _ _ _ h.thrown (λ e. cc) (λ e. cc))
      thrown_did why.Old letters P ch own a b was is settles can stay mail h noted flying_is book_is = absurd (neither _ _ _ h.thrown (λ e. cc) (λ e. cc))
      thrown_did why.NotPromised letters P ch own a b was is settles can stay mail h noted flying_is book_is = absurd (neither _ _ _ h.thrown (λ e. cc) (λ e. cc))
      thrown_did why.NotMember letters P ch own a b was is settles can stay mail h noted flying_is book_is = absurd (neither _ _ _ h.thrown (λ e. cc) (λ e. cc))

      -- one that was thrown with nothing to answer
      left_by : (what : Why) (result : Result Said StepFault) (letters : List Letter) → letters ≡ [] → (amid : Nodes D) → EndsThrown on old.plan letter.to (out_of number keep) what letters result amid flying book new flying' book'
          → (result ≡ Ok (said.Thrown what)) × (new ≡ amid) × (flying' ≡ taken_out (out_of number keep) flying) × (book' ≡ book)
      left_by what result letters none amid (EndsThrown.Leaves same result_is nodes_is flying_is book_is) = (result_is, nodes_is, flying_is, book_is)
      left_by what result letters none amid (EndsThrown.IsAnswered some sent) = absurd (omega (arith, some, ap (λ (ls : List Letter). length ls) none))

      thrown_by_it : (what : Why) (result : Result Said StepFault) (letters : List Letter) (P : Life → D → Life → D → Type 0) (ch : ChangesNode letter.to P old mid) (own : OwnKept ch.life ch.life') (a b : WholeNode) → ch.life ≡ Up a → ch.life' ≡ Up b
          → (is_settled ch.disk → is_settled ch.disk') → WholeWorks (on.seen ch.disk') b → node_of b.maps ≡ node_of a.maps → (what ≡ why.Late → IsMailBody letter.body)
          → LetterThrown on letter.to old.plan.nodes letter a.mail ch.disk b.mail ch.disk' (why_seen what) letters
          → (amid : Nodes D) → IsNotedIf on old.plan letter (mishap_of_thrown (Some what)) mid amid → EndsThrown on old.plan letter.to (out_of number keep) what letters result amid flying book new flying' book' → Did result
      thrown_by_it what result letters P ch own a b was is settles can stay mail h amid noted ends =
          let (result_is, nodes_is, flying_is, book_is) = left_by what result letters h.none amid ends in
          subst Did (sym result_is)
          (thrown_did what letters P ch own a b was is settles can stay mail h (subst (λ (m : Nodes D). IsNotedIf on old.plan letter (mishap_of_thrown (Some what)) mid m) (sym nodes_is) noted) flying_is book_is)

      heard_by : (result : Result Said StepFault) (o : Option Why) (letters : List Letter) (P : Life → D → Life → D → Type 0) (ch : ChangesNode letter.to P old mid) (own : OwnKept ch.life ch.life') (a b : WholeNode) → ch.life ≡ Up a → ch.life' ≡ Up b
          → (is_settled ch.disk → is_settled ch.disk') → WholeWorks (on.seen ch.disk') b → IsMailBody letter.body → FollowsOrThrows rule o a b
          → HeardOrThrown on letter.to old.plan.nodes letter a.mail ch.disk b.mail ch.disk' o letters
          → (amid : Nodes D) → IsNotedIf on old.plan letter (mishap_of_thrown o) mid amid → EndsHeard on old.plan letter.to (out_of number keep) o letters result amid flying book new flying' book' → Did result
      heard_by result None letters P ch own a b was is settles can mail follow h amid noted ends =
          answered_by rule None result letters P ch own a b was is settles h.did (posts_heard old.plan number keep letter a h.taken) (runs_heard old.plan number keep letter a)
          (λ off seconds. mail_answers on old flying seconds book number keep letter here order early P mid ch a was own rule None (record { step_is = refl; said_is = refl; sees = tt }) b is letters new flying' off
          (posts_heard old.plan number keep letter a h.taken) mail follow (own_here P ch a was))
          (λ t was' entered did' left seconds. mail_falls on old flying seconds book number keep letter here order early (AreThese ch.life Down ch.disk ch.disk') new t a was' (none_kept t.life t.life' t.does.life_is) rule t.does.life_is did'.appends.told
          (subst (λ f. on.faults t.disk ≤ f) (sym did'.appends.quiet) (omega arith)) (hears_within t).0 (hears_within t).1 new flying' book' entered
          (work_undone on letter.to (AreThese ch.life Down ch.disk ch.disk') old new new t rule a was' flying flying' seconds book book' b letters did')
          (nothing_else on new) left (runs_heard old.plan number keep letter a) mail)
          (subst (λ (m : Nodes D). AnswersSent on old.plan letter.to (out_of number keep) said.Heard letters result m flying book new flying' book') noted ends)
      heard_by result (Some what) letters P ch own a b was is settles can mail follow h amid noted ends = thrown_by_it what result letters P ch own a b was is settles can (ap node_of follow) (λ late. mail) h amid noted ends

      -- A letter of membership or maps was looked at: it is as one that is heard, also where it is thrown.
      looked_by : IsMapsBody letter.body → (result : Result Said StepFault) (o : Option Why) (letters : List Letter) (P : Life → D → Life → D → Type 0) (ch : ChangesNode letter.to P old mid) (own : OwnKept ch.life ch.life') (a b : WholeNode) → ch.life ≡ Up a
          → ch.life' ≡ Up b → (is_settled ch.disk → is_settled ch.disk') → WholeWorks (on.seen ch.disk') b → LookedAt on letter a ch.disk b ch.disk' o letters
          → EndsHeard on old.plan letter.to (out_of number keep) o letters result mid flying book new flying' book' → Did result
      looked_by maps result o letters P ch own a b was is settles can h ends =
          answered_by (looked_rule old.plan number keep letter a maps h.within (node_of b.maps).installed (promise_by (node_of a.maps) letter.body) letters) o result letters P ch own a b was is settles h.mail.did
          (posts_looked old.plan number keep letter a maps h.within (node_of b.maps).installed (promise_by (node_of a.maps) letter.body) letters h.mail.sends o)
          (runs_looked old.plan number keep letter a maps h.within (node_of b.maps).installed (promise_by (node_of a.maps) letter.body) letters)
          (λ off seconds. looked_answers on old flying seconds book number keep letter here order early P mid ch a was own maps ((was_ready P ch a was).0.own_is) o b is letters h new flying' off)
          (λ t was' entered did' left seconds. looked_falls on old flying seconds book number keep letter here order early (AreThese ch.life Down ch.disk ch.disk') new t a was' (none_kept t.life t.life' t.does.life_is) maps ((was_ready P ch a was).0.own_is)
          (node_of b.maps).installed letters h.within t.does.life_is did'.appends.told (subst (λ f. on.faults t.disk ≤ f) (sym did'.appends.quiet) (omega arith)) (hears_within t).0 (hears_within t).1 new flying' book' entered
          (work_undone on letter.to (AreThese ch.life Down ch.disk ch.disk') old new new t (looked_rule old.plan number keep letter a maps h.within (node_of b.maps).installed (promise_by (node_of a.maps) letter.body) letters)
          a was' flying flying' seconds book book' b letters did')
          (nothing_else on new))
          (sent_by o ends)
        where
          -- as it is where nothing is sent
          sent_by : (o : Option Why) → EndsHeard on old.plan letter.to (out_of number keep) o letters result mid flying book new flying' book'
              → AnswersSent on old.plan letter.to (out_of number keep) (said_by o) letters result mid flying book new flying' book'
          sent_by None ends = ends
          sent_by (Some what) (EndsThrown.IsAnswered some ends) = ends
          sent_by (Some what) (EndsThrown.Leaves none result_is nodes_is flying_is book_is) =
              subst (λ (r : Result Said StepFault). AnswersSent on old.plan letter.to (out_of number keep) (said.Thrown what) letters r mid flying book new flying' book') (sym result_is) (
                refl,
                sent_none on old.plan letters none (out_of number keep) flying flying' flying_is mid new nodes_is (sym ch.plan)
                    (ready_up P ch a was b is (h.mail.did.same old.plan letter.to (was_ready P ch a was).0) can),
                book_is,
              )

      for_maps : IsMapsBody letter.body → (result : Result Said StepFault) (o : Option Why) (letters : List Letter) (P : Life → D → Life → D → Type 0) (ch : ChangesNode letter.to P old mid) (own : OwnKept ch.life ch.life') (a b : WholeNode) → ch.life ≡ Up a
          → ch.life' ≡ Up b → (is_settled ch.disk → is_settled ch.disk') → WholeWorks (on.seen ch.disk') b → (amid : Nodes D) → IsNotedIf on old.plan letter (mishap_of_thrown o) mid amid
          → EndsHeard on old.plan letter.to (out_of number keep) o letters result amid flying book new flying' book'
          → (LookedAt on letter a ch.disk b ch.disk' o letters × (mishap_of_thrown o ≡ None)) ⊎ ((o ≡ Some why.Stale) × ThrownStale on letter a ch.disk b ch.disk' letters)
          → Did result
      for_maps maps result o letters P ch own a b was is settles can amid noted ends (inl (h, none)) =
          looked_by maps result o letters P ch own a b was is settles can h
          (subst (λ (m : Nodes D). EndsHeard on old.plan letter.to (out_of number keep) o letters result m flying book new flying' book')
          (subst (λ k. IsNotedIf on old.plan letter k mid amid) none noted) ends)
      for_maps maps result o letters P ch own a b was is settles can amid noted ends (inr (stale, h)) =
          thrown_by_it why.Stale result letters P ch own a b was is settles can (ap node_of h.maps) (λ late. absurd (let never : why.Stale ≡ why.Late = late in cc))
          (stale_so on letter.to old.plan.nodes letter a ch.disk b ch.disk' letters h) amid (subst (λ k. IsNotedIf on old.plan letter (mishap_of_thrown k) mid amid) stale noted)
          (subst (λ k. EndsHeard on old.plan letter.to (out_of number keep) k letters result amid flying book new flying' book') stale ends)

      -- The receiver went down in it, and all that is known of that is the same whatever stopped it.
      module _ (did_rule : Rule) (P : Life → D → Life → D → Type 0) (ch : ChangesNode letter.to P old mid) (own : OwnKept ch.life ch.life') (a : WholeNode) (was : ch.life ≡ Up a) (down : ch.life' ≡ Down)
          (stopped : NodeStopped on did_rule a.mail ch.disk ch.disk') (later : on.faults ch.disk ≤ on.faults ch.disk')
          (entered : IsEntered letter.to book book') where
        here_within : (1 ≤ letter.to) × (letter.to ≤ old.plan.nodes)
        here_within = let (x, y) = up_within old.lives.items letter.to ch.life ch.was in (x, subst (λ k. letter.to ≤ k) old.all y)

        fault_did : Rose (on.faults ch.disk) (on.faults ch.disk') → (change : List Slot → List Slot) (only : OnlyTickets on change mid new)
            → ((slots : List Slot) (n : ℕ) → Rattle.cluster_world.proofs.Kept.kept_at (slot_at (change slots) n) ≡ Rattle.cluster_world.proofs.Kept.kept_at (slot_at slots n))
            → CanWorkOn on.seen old.plan new.lives.items new.disks.items → FailsBy old.plan number keep letter did_rule a change → flying' ≡ taken_out (out_of number keep) flying
            → ((seconds : ℕ) → Faults on old flying seconds book number keep letter here order early P mid ch a was own did_rule down stopped.stops.told later here_within.0 here_within.1 new flying' book' entered
            (work_stopped on letter.to P old mid new ch did_rule a was flying flying' seconds book book' stopped) change)
            → Did (Ok (said.Faulted letter.to))
        fault_did rose change only kept ready fails flying_is whole = record {
          did = λ seconds. faulted_posted on old flying seconds book number keep letter here order early P mid ch a was own did_rule down stopped.stops.told later here_within.0 here_within.1 new flying' book' entered
              (work_stopped on letter.to P old mid new ch did_rule a was flying flying' seconds book book' stopped) rose change only kept flying_is fails (whole seconds);
          ready = subst (λ p. CanWorkOn on.seen p new.lives.items new.disks.items) (sym (only.plan ∙ ch.plan)) ready;
          settled = settled_down P ch a was down _ new only flying' book';
          spare = spare_down P ch a was down _ new only book' entered;
        }

        fall_did : new ≡ mid → flying' ≡ flying → RunsBy old.plan number keep letter did_rule a
            → ((seconds : ℕ) → Falls on old flying seconds book number keep letter here order early P mid ch a was own did_rule down stopped.stops.told later here_within.0 here_within.1 new flying' book' entered
            (work_stopped on letter.to P old mid new ch did_rule a was flying flying' seconds book book' stopped))
            → Did (Err (fault.NoMemory (Some letter.to)))
        fall_did same flying_is runs whole =
            let only : OnlyTickets on (λ slots. slots) mid new = subst (λ (m : Nodes D). OnlyTickets on (λ slots. slots) mid m) (sym same) (nothing_else on mid) in
            record {
              did = λ seconds. fallen_posted on old flying seconds book number keep letter here order early P mid ch a was own did_rule down stopped.stops.told later here_within.0 here_within.1 new flying' book' entered
                  (work_stopped on letter.to P old mid new ch did_rule a was flying flying' seconds book book' stopped) same flying_is runs (whole seconds);
              ready = subst (λ (m : Nodes D). CanWorkOn on.seen m.plan m.lives.items m.disks.items) (sym same) (ready_down P ch a was down);
              settled = settled_down P ch a was down _ new only flying' book';
              spare = spare_down P ch a was down _ new only book' entered;
            }

      -- nothing was done
      short_did : (P : Life → D → Life → D → Type 0) (ch : ChangesNode letter.to P old mid) (own : OwnKept ch.life ch.life') (a b : WholeNode) → ch.life ≡ Up a → ch.life' ≡ Up b → (is_settled ch.disk → is_settled ch.disk')
          → WholeWorks (on.seen ch.disk') b → node_of b.maps ≡ node_of a.maps → IsAsBefore a.mail b.mail → ch.disk' ≡ ch.disk → new ≡ mid → flying' ≡ flying → book' ≡ book → Did (Err (fault.NoMemory None))
      short_did P ch own a b was is settles can stay alike untold same flying_is book_is =
          let only : OnlyTickets on (λ slots. slots) mid new = subst (λ (m : Nodes D). OnlyTickets on (λ slots. slots) mid m) (sym same) (nothing_else on mid) in
          let boot = ap (λ (n : plain.Node). n.boot) alike.seen in
          let ready : CanWorkOn on.seen mid.plan mid.lives.items mid.disks.items = ready_up P ch a was b is (alike.same old.plan letter.to (was_ready P ch a was).0) can in
          record {
            did = λ seconds.
                subst (λ (m : Nodes D). StepDid on (Err (fault.NoMemory None)) (step.Post number keep) (state_with old flying seconds book) (state_with m flying' seconds book')) (sym same)
                (subst (λ (f : InFlight). StepDid on (Err (fault.NoMemory None)) (step.Post number keep) (state_with old flying seconds book) (state_with mid f seconds book')) (sym flying_is)
                (subst (λ (x : Book). StepDid on (Err (fault.NoMemory None)) (step.Post number keep) (state_with old flying seconds book) (state_with mid flying seconds x)) (sym book_is)
                (short_posted on old flying seconds book number keep letter here order early P mid ch a was own b is alike stay untold)));
            ready = subst (λ (m : Nodes D). CanWorkOn on.seen m.plan m.lives.items m.disks.items) (sym same) ready;
            settled = settled_up P ch a was b is boot settles _ new only flying' book';
            spare = spare_up P ch a was b is boot settles _ new only book' book_is;
          }

      -- its disk failed in it, whatever kind of letter it was
      failed_by : (result : Result Said StepFault) (P : Life → D → Life → D → Type 0) (ch : ChangesNode letter.to P old mid) (own : OwnKept ch.life ch.life') (a b : WholeNode) (was : ch.life ≡ Up a) → ch.life' ≡ Down
          → HearsAny on letter.to old.plan.nodes letter a.mail ch.disk b.mail ch.disk' (Err Disk) → HearsWhole on letter.to old.plan.nodes letter (Err Disk) a ch.disk b ch.disk'
          → (amid : Nodes D) → IsNotedIf on old.plan letter (mishap_of_fault letter.body) mid amid
          → EndsStopped letter.to (out_of number keep) Disk result flying book flying' book' → new ≡ amid → Did result
      failed_by result P ch own a b was is (HearsAny.OfMessages mail (taken, stopped, fails)) wholly amid noted (result_is, flying_is, entered) same =
          let seen : Noticed on old.plan (λ slots. missed mishap.Disk slots letter) mid new =
          subst (λ (m : Nodes D). Noticed on old.plan (λ slots. missed mishap.Disk slots letter) mid m) (sym same) (subst (λ k. IsNotedIf on old.plan letter k mid amid) (fault_of_mail letter.body mail) noted) in
          let within = here_within rule P ch own a was is stopped fails.0 entered in
          subst Did (sym result_is)
          (fault_did rule P ch own a was is stopped fails.0 entered fails.1 (λ slots. missed mishap.Disk slots letter) seen.only (λ slots n. missed_kept mishap.Disk slots n letter) seen.works
          (fails_heard old.plan number keep letter a taken) flying_is
          (λ seconds. mail_faults on old flying seconds book number keep letter here order early P mid ch a was own rule is stopped.stops.told fails.0 within.0 within.1 new flying' book' entered
          (work_stopped on letter.to P old mid new ch rule a was flying flying' seconds book book' stopped)
          (λ slots. missed mishap.Disk slots letter) seen.only (λ slots n. missed_kept mishap.Disk slots n letter) (λ slots n. missed_disk mishap.Disk slots n letter) flying_is (fails_heard old.plan number keep letter a taken) mail))
      failed_by result P ch own a b was is (HearsAny.OfMaps maps stops) wholly amid noted (result_is, flying_is, entered) same =
          let (within, stopped, fails) = (wholly.maps maps).0 in
          let same' : new ≡ mid = same ∙ subst (λ k. IsNotedIf on old.plan letter k mid amid) (fault_of_maps letter.body maps) noted in
          let only : OnlyTickets on (λ slots. slots) mid new = subst (λ (m : Nodes D). OnlyTickets on (λ slots. slots) mid m) (sym same') (nothing_else on mid) in
          let looks : Rule = looked_rule old.plan number keep letter a maps within None (promise_by (node_of a.maps) letter.body) [] in
          let inside = here_within looks P ch own a was is stopped fails.0 entered in
          subst Did (sym result_is)
          (fault_did looks P ch own a was is stopped fails.0 entered fails.1
          (λ slots. slots) only (λ slots n. refl)
          (subst (λ (m : Nodes D). CanWorkOn on.seen old.plan m.lives.items m.disks.items) (sym same') (subst (λ p. CanWorkOn on.seen p mid.lives.items mid.disks.items) ch.plan (ready_down P ch a was is)))
          (fails_looked old.plan number keep letter a maps within None (promise_by (node_of a.maps) letter.body) []) flying_is
          (λ seconds. looked_faults on old flying seconds book number keep letter here order early P mid ch a was own maps ((was_ready P ch a was).0.own_is) None [] within is stopped.stops.told fails.0 inside.0 inside.1
          new flying' book' entered (work_stopped on letter.to P old mid new ch looks a was flying flying' seconds book book' stopped) only))

      -- so it is where memory ran out in it
      fallen_by : (result : Result Said StepFault) (P : Life → D → Life → D → Type 0) (ch : ChangesNode letter.to P old mid) (own : OwnKept ch.life ch.life') (a b : WholeNode) (was : ch.life ≡ Up a) → ch.life' ≡ Down
          → HearsAny on letter.to old.plan.nodes letter a.mail ch.disk b.mail ch.disk' (Err (NoMemory true)) → HearsWhole on letter.to old.plan.nodes letter (Err (NoMemory true)) a ch.disk b ch.disk'
          → EndsStopped letter.to (out_of number keep) (NoMemory true) result flying book flying' book' → new ≡ mid → Did result
      fallen_by result P ch own a b was is (HearsAny.OfMessages mail (taken, stopped, fails)) wholly (result_is, flying_is, entered) same =
          let only : OnlyTickets on (λ slots. slots) mid new = subst (λ (m : Nodes D). OnlyTickets on (λ slots. slots) mid m) (sym same) (nothing_else on mid) in
          let within = here_within rule P ch own a was is stopped fails entered in
          subst Did (sym result_is) (fall_did rule P ch own a was is stopped fails entered same flying_is (runs_heard old.plan number keep letter a)
          (λ seconds. mail_falls on old flying seconds book number keep letter here order early P mid ch a was own rule is stopped.stops.told fails within.0 within.1 new flying' book' entered
          (work_stopped on letter.to P old mid new ch rule a was flying flying' seconds book book' stopped) only flying_is (runs_heard old.plan number keep letter a) mail))
      fallen_by result P ch own a b was is (HearsAny.OfMaps maps stops) wholly (result_is, flying_is, entered) same =
          let (within, stopped, fails) = (wholly.maps maps).0 in
          let only : OnlyTickets on (λ slots. slots) mid new = subst (λ (m : Nodes D). OnlyTickets on (λ slots. slots) mid m) (sym same) (nothing_else on mid) in
          let looks : Rule = looked_rule old.plan number keep letter a maps within None (promise_by (node_of a.maps) letter.body) [] in
          let inside = here_within looks P ch own a was is stopped fails entered in
          subst Did (sym result_is)
          (fall_did looks P ch own a was is stopped fails entered same flying_is
          (runs_looked old.plan number keep letter a maps within None (promise_by (node_of a.maps) letter.body) [])
          (λ seconds. looked_falls on old flying seconds book number keep letter here order early P mid ch a was own maps ((was_ready P ch a was).0.own_is) None [] within is stopped.stops.told fails inside.0 inside.1
          new flying' book' entered (work_stopped on letter.to P old mid new ch looks a was flying flying' seconds book book' stopped) only))

      -- where memory ran out before anything was done the maps are as they were
      stays_so : (a b : WholeNode) (d d' : D) → HearsAny on letter.to old.plan.nodes letter a.mail d b.mail d' (Err (NoMemory false)) → HearsWhole on letter.to old.plan.nodes letter (Err (NoMemory false)) a d b d'
          → node_of b.maps ≡ node_of a.maps
      stays_so a b d d' (HearsAny.OfMessages mail h) wholly = ap node_of (wholly.mail mail)
      stays_so a b d d' (HearsAny.OfMaps maps h) wholly = (wholly.maps maps).1.node

      stopped_by : (what : NodeFault) (result : Result Said StepFault) → Handed (Err what) → (amid : Nodes D) → IsNotedIf on old.plan letter (mishap_of letter.body (Err what)) mid amid
          → EndsStopped letter.to (out_of number keep) what result flying book flying' book' → new ≡ amid → Did result
      stopped_by Disk result ch amid noted ends same = failed_by result _ ch (handed_keeps _ ch) ch.does.0.old ch.does.0.new ch.does.0.was ch.does.0.is ch.does.0.did ch.does.0.maps amid noted ends same
      stopped_by Worn result ch amid noted ends same = absurd (never_worn ch.does.0.old.mail ch.does.0.new.mail ch.disk ch.disk' ch.does.0.did)
      stopped_by (NoMemory true) result ch amid noted ends same = fallen_by result _ ch (handed_keeps _ ch) ch.does.0.old ch.does.0.new ch.does.0.was ch.does.0.is ch.does.0.did ch.does.0.maps ends (same ∙ noted)
      stopped_by (NoMemory false) result ch amid noted (result_is, flying_is, book_is) same =
          let (alike, untold) = as_it_was ch.does.0.old.mail ch.does.0.new.mail ch.disk ch.disk' ch.does.0.did in
          subst Did (sym result_is) (short_did _ ch (handed_keeps _ ch) ch.does.0.old ch.does.0.new ch.does.0.was ch.does.0.is (ch.does.1 tt) (ch.does.0.works tt)
          (stays_so ch.does.0.old ch.does.0.new ch.disk ch.disk' ch.does.0.did ch.does.0.maps) alike untold (same ∙ noted) flying_is book_is)

      any_by : (outbox : Outbox) (result : Result Said StepFault) (P : Life → D → Life → D → Type 0) (ch : ChangesNode letter.to P old mid) (own : OwnKept ch.life ch.life') (a b : WholeNode) → ch.life ≡ Up a → ch.life' ≡ Up b
          → (is_settled ch.disk → is_settled ch.disk') → WholeWorks (on.seen ch.disk') b → HearsAny on letter.to old.plan.nodes letter a.mail ch.disk b.mail ch.disk' (Ok outbox)
          → HearsWhole on letter.to old.plan.nodes letter (Ok outbox) a ch.disk b ch.disk'
          → (amid : Nodes D) → IsNotedIf on old.plan letter (mishap_of_thrown outbox.thrown) mid amid
          → EndsHeard on old.plan letter.to (out_of number keep) outbox.thrown outbox.letters result amid flying book new flying' book' → Did result
      any_by outbox result P ch own a b was is settles can (HearsAny.OfMessages mail h) wholly amid noted ends =
          heard_by result outbox.thrown outbox.letters P ch own a b was is settles can mail (wholly.mail mail) h amid noted ends
      any_by outbox result P ch own a b was is settles can (HearsAny.OfMaps maps h) wholly amid noted ends =
          for_maps maps result outbox.thrown outbox.letters P ch own a b was is settles can amid noted ends
          (whole_looked_or_stale on letter a ch.disk b ch.disk' outbox.thrown outbox.letters (wholly.maps maps))

      handed_by : (heard : Result Outbox NodeFault) (result : Result Said StepFault) → Handed heard → (amid : Nodes D)
          → IsNotedIf on old.plan letter (mishap_of letter.body heard) mid amid → EndsPost on old.plan letter.to (out_of number keep) heard result amid flying book new flying' book' → Did result
      handed_by (Ok outbox) result ch amid noted ends =
          any_by outbox result _ ch (handed_keeps _ ch) ch.does.0.old ch.does.0.new ch.does.0.was ch.does.0.is (ch.does.1 tt) (ch.does.0.works tt) ch.does.0.did ch.does.0.maps amid noted ends
      handed_by (Err what) result ch amid noted (ends, same) = stopped_by what result ch amid noted ends same

      pub posted_did : (heard : Result Outbox NodeFault) (result : Result Said StepFault) → Handed heard → (amid : Nodes D)
          → IsNotedIf on mid.plan letter (mishap_of letter.body heard) mid amid → EndsPost on amid.plan letter.to (out_of number keep) heard result amid flying book new flying' book' → Did result
      posted_did heard result ch amid noted ends =
          handed_by heard result ch amid (subst (λ p. IsNotedIf on p letter (mishap_of letter.body heard) mid amid) ch.plan noted)
          (subst (λ p. EndsPost on p letter.to (out_of number keep) heard result amid flying book new flying' book') (noted_plan on mid.plan letter (mishap_of letter.body heard) mid amid noted ∙ ch.plan) ends)

      -- the same of the receiver and the number under the names that the code has for them
      pub ended_did : (n : ℕ) → n ≡ letter.to → (posted : Option ℕ) → posted ≡ out_of number keep → (heard : Result Outbox NodeFault) (result : Result Said StepFault) → Handed heard
          → (amid : Nodes D) → IsNotedIf on mid.plan letter (mishap_of letter.body heard) mid amid
          → EndsPost on amid.plan n posted heard result amid flying book new flying' book' → Did result
      ended_did n n_is posted posted_is heard result ch amid noted ends = posted_did heard result ch amid noted
          (subst (λ m. EndsPost on amid.plan m (out_of number keep) heard result amid flying book new flying' book') n_is
          (subst (λ o. EndsPost on amid.plan n o heard result amid flying book new flying' book') posted_is ends))

    pub ends_within : (n : ℕ) → n ≡ letter.to → (heard : Result Outbox NodeFault) → Handed heard → (amid : Nodes D) → IsNotedIf on mid.plan letter (mishap_of letter.body heard) mid amid → n ≤ amid.plan.nodes
    ends_within n n_is heard ch amid noted = subst (λ m. m ≤ amid.plan.nodes) (sym n_is)
        (subst (λ (p : Plan). letter.to ≤ p.nodes) (sym (noted_plan on mid.plan letter (mishap_of letter.body heard) mid amid noted ∙ ch.plan)) (handed_within heard ch).1)
