-- A world that was driven has what a cluster owes.
use Rattle.std.proofs.Common.{◌≡◌, ⊎_elim, ◌⊎◌, inl, inr, ℕ, ◌≤◌, Bool, true, List, [], ◌∷◌, ◌++◌, append-nil, append_assoc, length, map, refl, sym, ap, ◌∙◌, subst, arith}
use Rattle.std.specs.Prelude.{flat_map, is_some, Ok}
use Rattle.std.proofs.lemmas.List.Folds.{list_all-map}
use Rattle.mail_model.specs.Plan.{Plan}
use Rattle.object_model.specs.Lists.{Among}
use Rattle.object_model.proofs.Lists.{among_front, among_behind}
use Rattle.session_model.specs.Owes.{Owes}
use Rattle.whole_world.specs.Sweeps.{IsCharted}
use Rattle.joint_world.specs.First.{first_world}
use Rattle.joint_world.specs.Laws.{Stands}
use Rattle.joint_world.specs.World as joint
use Rattle.joint_world.specs.World.{mail_world_of}
use Rattle.cluster_owes.specs.Seen.{answer_told}
use Rattle.cluster_owes.specs.Outcomes as owes
use Rattle.cluster_owes.specs.Held.{filed_on}
use Rattle.cluster_owes.proofs.Owed.{cluster_owes, answers_fit}
use Rattle.cluster_owes.proofs.Sure.{none_waits}
use Rattle.node_store.specs.Disks.{View}
use Rattle.whole_node.specs.Starting.{first_map}
use Rattle.cluster_world.specs.Worlds.{disks_of, lives_of, disks_tell}
use Rattle.cluster_world.specs.Outcomes.{Outcome, Awaited, Came, Makes, asked_by_outcome, answered_by_outcome}
use Rattle.cluster_world.specs.Outcomes.Outcome.{StillPending}
use Rattle.cluster_world.specs.Opens.{IsAtBeginning}
use Rattle.cluster_world.specs.Seen.{whole_step, whole_outcome}
use Rattle.call_tickets.specs.declared.answer.Ask.TheVariants as ask
use Rattle.cluster_world.specs.declared.step.Step.TheVariants as step
use Rattle.cluster_world.specs.declared.step.Said.TheVariants as said
use Rattle.cluster_world.specs.Owing.{WorldOwes, NonePending, TellsImages, AreOfSessions, IsOfBlind, AllBlind}
use Rattle.cluster_world.specs.declared.world.World.{World}
use Rattle.cluster_world.proofs.AtFirst.{first_managers}
use Rattle.cluster_world.proofs.Chained.{stays, stays_came}
use Rattle.cluster_world.proofs.Leading.{opens_whole}
use Rattle.cluster_world.proofs.Mirrors.{Mirrored, IsOf, led, joined, makes_both, sessions_both}
use Rattle.cluster_world.proofs.Mirroring.{AnswersFitAt, mirror}
use Rattle.cluster_world.proofs.Holding.{holding, counted}

module _ {D : Type 0} (on : View D) where
  module _ (plan : Plan) (told : Bool) (lines : List (List ℕ)) (some : 1 ≤ plan.nodes) (few : plan.nodes ≤ 64) where
    abbrev opening : joint.World
    opening = first_world plan.nodes (first_map plan)

    -- so far
    abbrev SoFar : List Outcome → List Awaited → World D → Type 0
    SoFar outcomes left world = Mirrored on plan told outcomes left [] opening world

    fits_now : (outcomes : List Outcome) (left : List Awaited) (world : World D) (m : SoFar outcomes left world) → AreOfSessions lines outcomes
        → AnswersFitAt plan told (flat_map owes.begun_by_outcome m.outs) m.whole.v
    fits_now outcomes left world m of k asked ticket own next waits made =
        let one : owes.Outcome = owes.Outcome.Answers k asked ticket (answer_told own) in
        answers_fit plan told (first_map plan) lines (m.outs ++ one ∷ []) next some few (first_managers plan some)
        (makes_both on plan told m.outs (one ∷ []) [] opening m.whole.v next m.makes (next, (own, refl, waits, made), refl))
        (sessions_both on plan told lines m.outs (one ∷ []) (m.sessions lines of) (tt, tt))
        k asked ticket (answer_told own) (among_behind one m.outs (one ∷ []) (inl refl))

    pub mirror_all : (more done : List Outcome) (between left : List Awaited) (mid last : World D) → IsOf on plan told mid → SoFar done between mid → (told ≡ true) ⊎ AllBlind plan.nodes more
        → AreOfSessions lines (done ++ more) → Makes on more between mid left last → SoFar (done ++ more) left last
    mirror_all [] done between left mid last of m known sessions (left_is, is) =
        subst (λ o. SoFar o left last) (sym (append-nil done)) (subst (λ a. SoFar done a last) (sym left_is) (subst (λ (w : World D). SoFar done between w) (sym is) m))
    mirror_all (outcome ∷ more) done between left mid last of m known sessions (after, world, came, rest) =
        let one = mirror on plan told between after (flat_map owes.begun_by_outcome m.outs) mid world of m.whole m.within
        (fits_now done between mid m (λ o k. sessions o (among_front o done (outcome ∷ more) k))) lines outcome (first known)
        (sessions outcome (among_behind outcome done (outcome ∷ more) (inl refl))) came in
        let s = stays_came on outcome between after mid world came in
        subst (λ o. SoFar o left last) (append_assoc done (outcome ∷ []) more)
        (mirror_all more (done ++ outcome ∷ []) after left world last (record { plan_is = s.plan ∙ of.plan_is; told_is = s.told ∙ of.told_is })
        (joined on plan told done (outcome ∷ []) between after [] opening mid world m one) (others known)
        (subst (AreOfSessions lines) (sym (append_assoc done (outcome ∷ []) more)) sessions) rest)
      where
        first : (told ≡ true) ⊎ AllBlind plan.nodes (outcome ∷ more) → (told ≡ true) ⊎ IsOfBlind plan.nodes outcome
        first (inl t) = inl t
        first (inr b) = inr b.0

        others : (told ≡ true) ⊎ AllBlind plan.nodes (outcome ∷ more) → (told ≡ true) ⊎ AllBlind plan.nodes more
        others (inl t) = inl t
        others (inr b) = inr b.1

  -- a world that opens has made nothing
  pub opened_so : (plan : Plan) (told : Bool) (start : World D) → IsAtBeginning on plan start → Mirrored on plan told [] [] [] (first_world plan.nodes (first_map plan)) start
  opened_so plan told start begins =
      let (h, first, mail) = opens_whole on plan start begins in
      record {
        outs = [];
        whole = record {
          v = h.v;
          story = h.story;
          sound = subst (λ (p : Plan). Stands p (disks_tell on.seen start) h.story h.v) begins.plan_is h.sound;
          charted = subst (λ (p : Plan). IsCharted p (joint.whole_world_of h.v)) begins.plan_is h.charted;
          stands = h.stands;
        };
        makes = first;
        asked = refl;
        answered = refl;
        within = λ one k. absurd k;
        sessions = λ lines of. tt;
      }

  -- one of some outcomes, and those before it
  parted : (one : Outcome) (outcomes : List Outcome) → Among one outcomes → (front : List Outcome) × (more : List Outcome) × (outcomes ≡ front ++ one ∷ more)
  parted one [] among = absurd among
  parted one (first ∷ outcomes) (inl same) = ([], outcomes, ap (λ o. o ∷ outcomes) same)
  parted one (first ∷ outcomes) (inr among) = let rest = parted one outcomes among in (first ∷ rest.0, rest.1, ap (λ l. first ∷ l) rest.2)

  -- what was made before it, and it
  record MadeApart (front : List Outcome) (one : Outcome) (awaited : List Awaited) (old : World D) : Type 0 where
    between : List Awaited
    after : List Awaited
    mid : World D
    next : World D
    makes : Makes on front awaited old between mid
    came : Came on one between mid after next

  made_apart : (front : List Outcome) (one : Outcome) (more : List Outcome) (awaited left : List Awaited) (old new : World D) → Makes on (front ++ one ∷ more) awaited old left new → MadeApart front one awaited old
  made_apart [] one more awaited left old new (after, next, came, rest) = record { between = awaited; after = after; mid = old; next = next; makes = (refl, refl); came = came }
  made_apart (first ∷ front) one more awaited left old new (after, next, came, rest) =
      let apart = made_apart front one more after left next new rest in
      record { between = apart.between; after = apart.after; mid = apart.mid; next = apart.next; makes = (after, next, came, apart.makes); came = apart.came }

  blind_front : (nodes : ℕ) (front more : List Outcome) → AllBlind nodes (front ++ more) → AllBlind nodes front
  blind_front nodes [] more blind = tt
  blind_front nodes (one ∷ front) more blind = (blind.0, blind_front nodes front more blind.1)

  pub none_pending : NonePending on
  none_pending plan lines outcomes left start last one sure some begins known makes sessions k ticket among =
      let p = parted (StillPending k ticket) outcomes among in
      let apart = made_apart p.0 (StillPending k ticket) p.1 [] left start last (subst (λ o. Makes on o [] start left last) p.2 makes) in
      let s = stays on p.0 [] apart.between start apart.mid apart.makes in
      let told = disks_tell on.seen start in
      let few : plan.nodes ≤ 64 = omega (arith, one) in
      let m = mirror_all plan told lines begins.some few p.0 [] [] apart.between start apart.mid (record { plan_is = begins.plan_is; told_is = refl }) (opened_so plan told start begins)
      (⊎_elim (λ t. inl t) (λ b. inr (blind_front plan.nodes p.0 (StillPending k ticket ∷ p.1) (subst (AllBlind plan.nodes) p.2 (subst (λ (q : Plan). AllBlind q.nodes outcomes) begins.plan_is b)))) known)
      (λ outcome at. sessions outcome (subst (Among outcome) (sym p.2) (among_front outcome p.0 (StillPending k ticket ∷ p.1) at))) apart.makes in
      let (asked, got, wanted, waits, is, left_is) = apart.came in
      let other : owes.Outcome = owes.Outcome.Other (whole_step (step.Ask ticket)) (whole_outcome (Ok (said.Asked (ask.Pending got wanted)))) in
      let l = led on plan told (Ok (said.Asked (ask.Pending got wanted))) (step.Ask ticket) apart.mid apart.next (record { plan_is = s.plan ∙ begins.plan_is; told_is = s.told }) (inr tt) tt is m.whole in
      none_waits plan told (first_map plan) (m.outs ++ other ∷ []) l.whole.v one sure some (first_managers plan begins.some)
      (makes_both on plan told m.outs (other ∷ []) [] (first_world plan.nodes (first_map plan)) m.whole.v l.whole.v m.makes (l.whole.v, (tt, l.made), refl))
      ticket got wanted (among_behind other m.outs (other ∷ []) (inl refl))

  pub world_owes : TellsImages on → WorldOwes on
  world_owes images plan lines outcomes left start last begins known makes sessions =
      let s = stays on outcomes [] left start last makes in
      let told = disks_tell on.seen last in
      let few : plan.nodes ≤ 64 = omega (arith, start.nodes.few, ap (λ (p : Plan). p.nodes) begins.plan_is) in
      let m = mirror_all plan told lines begins.some few outcomes [] [] left start last (record { plan_is = begins.plan_is; told_is = sym s.told }) (opened_so plan told start begins)
      (⊎_elim (λ t. inl (s.told ∙ t)) (λ b. inr (subst (λ (p : Plan). AllBlind p.nodes outcomes) begins.plan_is b)) known) sessions makes in
      let each : length (disks_of last) ≡ length (lives_of last) = last.nodes.disk_each ∙ sym last.nodes.all in
      let h = holding on images (lives_of last) (disks_of last) (mail_world_of m.whole.v).slots each m.whole.stands.mail.slots in
      let owed = cluster_owes plan told (first_map plan) lines (map on.seen (disks_of last)) h.records m.outs m.whole.v begins.some few (first_managers plan begins.some) m.makes (m.sessions lines sessions) h.held h.are
      (λ t. counted 1 (map on.seen (disks_of last)) h.records (list_all-map is_some on.seen (disks_of last) ∙ t) h.are) in (
        h.records,
        subst (λ b. Owes plan told lines (map on.seen (disks_of last)) h.records (filed_on h.records) (flat_map asked_by_outcome outcomes) (flat_map answered_by_outcome outcomes) b) (sym m.whole.stands.mail.book)
            (subst (λ a. Owes plan told lines (map on.seen (disks_of last)) h.records (filed_on h.records) (flat_map asked_by_outcome outcomes) a m.whole.v.book) m.answered
            (subst (λ a. Owes plan told lines (map on.seen (disks_of last)) h.records (filed_on h.records) a (flat_map owes.answered_by_outcome m.outs) m.whole.v.book) m.asked owed)),
      )
