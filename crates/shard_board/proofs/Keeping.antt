-- What stays of a world over its steps.
use Rattle.std.proofs.Common.{◌≡◌, ◌⊎◌, inl, inr, ℕ, nat_eq, suc, Bool, true, false, true≢false, eqb-true, List, [], ◌∷◌, ◌++◌, refl, sym, ap, ◌∙◌, subst, append-nil, append_assoc}
use Rattle.std.specs.Prelude.{MatchBool, Result, Option, is_some}
use Rattle.std.specs.List.{list_all}
use Rattle.mail_model.specs.Plan.{Plan}
use Rattle.joint_world.specs.World.{World as Machine, mail_world_of}
use Rattle.desk_model.specs.Tickets.{TicketsAskOneThing}
use Rattle.desk_model.proofs.Tickets.{steps_ask_one_thing, opening_asks_one_thing}
use Rattle.node_store.specs.Disks.{View}
use Rattle.whole_node.specs.Starting.{first_map}
use Rattle.cluster_world.specs.Books.{IsLongerBook}
use Rattle.cluster_world.specs.Worlds.{state_of, plan_of, book_of, disks_of, disks_tell, CanMakeSteps}
use Rattle.cluster_world.specs.Steps.{IsStep, IsBlind, StepIsKnown}
use Rattle.cluster_world.specs.Ended.{IsEnded}
use Rattle.cluster_world.specs.Seen.{step_seen, outcome_seen}
use Rattle.cluster_world.specs.Made.{StepMade, MakesSteps, PostsAll, IsOfRegroup, AreOfRegroup, has_failed}
use Rattle.cluster_world.specs.Sound.{IsWhole}
use Rattle.cluster_world.specs.Settling.{IsOfSettle, AreOfSettle}
use Rattle.cluster_world.specs.Settling.IsOfSettle.{Posts, Pushes, Reports}
use Rattle.cluster_world.specs.declared.settling.Settle.{Settle}
use Rattle.cluster_world.specs.declared.world.World.{World}
use Rattle.cluster_world.specs.declared.step.Step.{Step}
use Rattle.cluster_world.specs.declared.step.Step.TheVariants as step
use Rattle.cluster_world.specs.declared.step.Said.{Said}
use Rattle.cluster_world.specs.declared.regrouping.Regroup.{Regroup}
use Rattle.cluster_world.specs.declared.fault.StepFault.{StepFault}
use Rattle.cluster_world.proofs.Chained.{tells_alike}
use Rattle.cluster_world.proofs.Righted.{rests_right}
use Rattle.cluster_world.proofs.Leading.{step_leads, opens_whole}
use Rattle.shard_board.specs.Deeds.{Regroups, Settles, is_blind}
use Rattle.shard_board.specs.Pages.{is_known_over}
use Rattle.shard_board.specs.Worlds.{KeepsWorld, AllKnown, StepsKeepWorld, FlowsKeepWorld, OpenedIsSound, SoundRestsRight}

-- disks of which each tells what it holds
pub all_tell : {D : Type 0} (seen : D → Option (List ℕ)) → ((disk : D) → is_some (seen disk) ≡ true) → (disks : List D) → list_all (λ disk. is_some (seen disk)) disks ≡ true
all_tell seen each [] = refl
all_tell seen each (disk ∷ disks) = rw (each disk) (all_tell seen each disks)

-- a deed over disks that tell is known
pub known_over : {D : Type 0} (seen : D → Option (List ℕ)) → ((disk : D) → is_some (seen disk) ≡ true) → (blind : Bool) (world : World D) → is_known_over seen blind world ≡ true
known_over seen each true world = refl
known_over seen each false world = all_tell seen each (disks_of world)

-- a step that is blind reads from no disk what the machine has to know
blind_so : (nodes : ℕ) (one : Step) → is_blind nodes one ≡ true → IsBlind nodes one
blind_so nodes (step.Push from to) blind = eqb-true nodes 1 blind
blind_so nodes (step.Start node) blind = absurd (true≢false (sym blind))
blind_so nodes (step.Begin node call) blind = tt
blind_so nodes (step.Ask ticket) blind = tt
blind_so nodes (step.GiveUp ticket) blind = tt
blind_so nodes (step.Post letter keep) blind = tt
blind_so nodes (step.Drop letter) blind = tt
blind_so nodes (step.Widen at user id to) blind = tt
blind_so nodes (step.Group node) blind = tt
blind_so nodes (step.Conclude node) blind = tt
blind_so nodes (step.Report from to) blind = tt
blind_so nodes (step.Crash node) blind = tt
blind_so nodes (step.Lose node) blind = tt
blind_so nodes (step.Tick seconds) blind = tt

-- each step of a regroup is blind, and hands in no message
pub regroup_blind : (nodes n : ℕ) (one : StepMade) → IsOfRegroup n one → IsBlind nodes one.step
regroup_blind nodes n one (inl is) = subst (IsBlind nodes) (sym is) tt
regroup_blind nodes n one (inr (inl is)) = subst (IsBlind nodes) (sym is) tt
regroup_blind nodes n one (inr (inr (letter, is))) = subst (IsBlind nodes) (sym is) tt

pub regroup_ended : (n : ℕ) (one : StepMade) → IsOfRegroup n one → IsEnded one.step
regroup_ended n one (inl is) = subst IsEnded (sym is) tt
regroup_ended n one (inr (inl is)) = subst IsEnded (sym is) tt
regroup_ended n one (inr (inr (letter, is))) = subst IsEnded (sym is) tt

regroup_known : (tells : Bool) (nodes n : ℕ) (steps : List StepMade) → AreOfRegroup n steps → AllKnown tells nodes steps
regroup_known tells nodes n [] of = tt
regroup_known tells nodes n (one ∷ more) (here, rest) = (inr (regroup_blind nodes n one here), regroup_ended n one here, regroup_known tells nodes n more rest)

-- each step of a settle hands in no message, and is known where the disks tell, or over one node
pub settle_ended : (one : StepMade) → IsOfSettle one → IsEnded one.step
settle_ended one (Posts post) = subst IsEnded (sym post.1) tt
settle_ended one (Pushes from to apart is) = subst IsEnded (sym is) tt
settle_ended one (Reports from to apart is) = subst IsEnded (sym is) tt

settle_step_known : (tells : Bool) (nodes : ℕ) (one : StepMade) → (tells ≡ true) ⊎ (nodes ≡ 1) → IsOfSettle one → (tells ≡ true) ⊎ IsBlind nodes one.step
settle_step_known tells nodes one (inl told) of = inl told
settle_step_known tells nodes one (inr alone) (Posts post) = inr (subst (IsBlind nodes) (sym post.1) tt)
settle_step_known tells nodes one (inr alone) (Pushes from to apart is) = inr (subst (IsBlind nodes) (sym is) alone)
settle_step_known tells nodes one (inr alone) (Reports from to apart is) = inr (subst (IsBlind nodes) (sym is) tt)

pub settle_known : (tells : Bool) (nodes : ℕ) (steps : List StepMade) → (tells ≡ true) ⊎ (nodes ≡ 1) → AreOfSettle steps → AllKnown tells nodes steps
settle_known tells nodes [] known of = tt
settle_known tells nodes (one ∷ more) known (here, rest) = (settle_step_known tells nodes one known here, settle_ended one here, settle_known tells nodes more known rest)

module _ {D : Type 0} (on : View D) where
  -- a sound world of the machine for which it stands
  pub record IsSound (world : World D) : Type 0 where
    pub whole : IsWhole on (plan_of world) world
    pub tickets : TicketsAskOneThing (mail_world_of whole.v).slots

  -- what stays, but that the world can make steps
  pub record Stays (old new : World D) : Type 0 where
    pub plan : plan_of new ≡ plan_of old
    pub told : disks_tell on.seen new ≡ disks_tell on.seen old
    pub longer : IsLongerBook (book_of old) (book_of new)
    pub sound : IsSound old → IsSound new

  stays_same : (old new : World D) → new ≡ old → Stays old new
  stays_same old new same = subst (Stays old) (sym same) (record { plan = refl; told = refl; longer = ([], sym (append-nil (book_of old))); sound = λ s. s })

  longer_both : (a b c : World D) → IsLongerBook (book_of a) (book_of b) → IsLongerBook (book_of b) (book_of c) → IsLongerBook (book_of a) (book_of c)
  longer_both a b c (first, p) (second, q) = (first ++ second, q ∙ ap (λ xs. xs ++ second) p ∙ append_assoc (book_of a) first second)

  stays_both : (a b c : World D) → Stays a b → Stays b c → Stays a c
  stays_both a b c p q = record {
    plan = q.plan ∙ p.plan;
    told = q.told ∙ p.told;
    longer = longer_both a b c p.longer q.longer;
    sound = λ s. q.sound (p.sound s);
  }

  pub step_stays : (result : Result Said StepFault) (step : Step) (old new : World D) → StepIsKnown on.seen (state_of old) step → IsEnded step → IsStep on result step old new → Stays old new
  step_stays result step old new known ended is = record {
    plan = is.did.plan;
    told = tells_alike on.seen (disks_of old) (disks_of new) is.did.handed (λ k x y. is.did.told.each (suc k) x y);
    longer = is.did.books;
    sound = λ s.
        let l = step_leads on result step old new known ended is s.whole in
        record {
          whole = l.whole;
          tickets = steps_ask_one_thing (plan_of old) (disks_tell on.seen old) (mail_world_of s.whole.v) (mail_world_of l.whole.v) (step_seen step) (outcome_seen result) l.seen s.whole.sound.whole.sound.mail
              s.tickets;
        };
  }

  steps_stay : (steps : List StepMade) (old new : World D) → AllKnown (disks_tell on.seen old) (plan_of old).nodes steps → MakesSteps on steps old new → Stays old new
  steps_stay [] old new known same = stays_same old new same
  steps_stay (one ∷ more) old new known (mid, is, makes) =
      let here = step_stays one.result one.step old mid known.0 known.1 is in
      let rest : AllKnown (disks_tell on.seen mid) (plan_of mid).nodes more = subst (λ t. AllKnown t (plan_of mid).nodes more) (sym here.told)
      (subst (λ (p : Plan). AllKnown (disks_tell on.seen old) p.nodes more) (sym here.plan) known.2) in
      stays_both old mid new here (steps_stay more mid new rest makes)

  posts_stay : (steps : List StepMade) (old new : World D) → PostsAll on steps old new → Stays old new
  posts_stay [] old new (none, same) = stays_same old new same
  posts_stay (one ∷ more) old new (letter, mid, first, posts, is, rest) =
      let here = step_stays one.result one.step old mid (inr (subst (IsBlind (plan_of old).nodes) (sym posts) tt)) (subst IsEnded (sym posts) tt) is in
      by (has_failed one.result) here (λ goes. posts_stay more mid new goes) rest
    where
      by : (failed : Bool) → Stays old mid → (PostsAll on more mid new → Stays mid new) → MatchBool failed ((more ≡ []) × (new ≡ mid)) (PostsAll on more mid new) → Stays old new
      by true here go stops = stays_both old mid new here (stays_same mid new stops.1)
      by false here go goes = stays_both old mid new here (go goes)

  kept : (old new : World D) → CanMakeSteps on.seen new → Stays old new → KeepsWorld on old new
  kept old new ready s = record {
    plan = s.plan;
    longer = s.longer;
    sound = λ c.
        let sound = s.sound (record { whole = c.whole; tickets = c.tickets }) in
        record { ready = ready; whole = sound.whole; tickets = sound.tickets };
  }

  pub keeps_step : (result : Result Said StepFault) (step : Step) (old new : World D) → StepIsKnown on.seen (state_of old) step → IsEnded step → CanMakeSteps on.seen new
      → IsStep on result step old new → KeepsWorld on old new
  keeps_step result step old new known ended ready is = kept old new ready (step_stays result step old new known ended is)

  pub steps_keep_world : StepsKeepWorld on
  steps_keep_world steps old new known ready makes = kept old new ready (steps_stay steps old new known makes)

  pub flows_keep_world : FlowsKeepWorld on
  flows_keep_world steps old new ready posts = kept old new ready (posts_stay steps old new posts)

  pub keeps_regroup : (n : ℕ) (result : Result Regroup StepFault) (old new : World D) → CanMakeSteps on.seen new → Regroups on n result old new → KeepsWorld on old new
  keeps_regroup n result old new ready (inl (steps, made)) =
      kept old new ready (steps_stay steps old new (regroup_known (disks_tell on.seen old) (plan_of old).nodes n steps made.of) made.made)
  keeps_regroup n result old new ready (inr (short, same)) = kept old new ready (stays_same old new same)

  -- what stays over a settle, whatever the disks tell
  settled_plan : (steps : List StepMade) (old new : World D) → MakesSteps on steps old new → (plan_of new ≡ plan_of old) × IsLongerBook (book_of old) (book_of new)
  settled_plan [] old new same = (ap plan_of same, subst (λ (w : World D). IsLongerBook (book_of old) (book_of w)) (sym same) ([], sym (append-nil (book_of old))))
  settled_plan (one ∷ more) old new (mid, is, makes) = let rest = settled_plan more mid new makes in (rest.0 ∙ is.did.plan, longer_both old mid new is.did.books rest.1)

  pub settles_plan : (result : Result Settle StepFault) (old new : World D) → Settles on result old new → plan_of new ≡ plan_of old
  settles_plan result old new (inl s) = (settled_plan s.makes.steps old new s.makes.made).0
  settles_plan result old new (inr (short, same)) = ap plan_of same

  pub settles_longer : (result : Result Settle StepFault) (old new : World D) → Settles on result old new → IsLongerBook (book_of old) (book_of new)
  settles_longer result old new (inl s) = (settled_plan s.makes.steps old new s.makes.made).1
  settles_longer result old new (inr (short, same)) = subst (λ (w : World D). IsLongerBook (book_of old) (book_of w)) (sym same) ([], sym (append-nil (book_of old)))

  pub keeps_settle : (result : Result Settle StepFault) (old new : World D) → (disks_tell on.seen old ≡ true) ⊎ ((plan_of old).nodes ≡ 1) → CanMakeSteps on.seen new → Settles on result old new → KeepsWorld on old new
  keeps_settle result old new known ready (inl s) =
      kept old new ready (steps_stay s.makes.steps old new (settle_known (disks_tell on.seen old) (plan_of old).nodes s.makes.steps known s.makes.of) s.makes.made)
  keeps_settle result old new known ready (inr (short, same)) = kept old new ready (stays_same old new same)

  -- a settle is known over one node, or where the disks tell
  pub settle_known_so : (world : World D) → is_known_over on.seen (nat_eq (plan_of world).nodes 1) world ≡ true → (disks_tell on.seen world ≡ true) ⊎ ((plan_of world).nodes ≡ 1)
  settle_known_so world known = by (nat_eq (plan_of world).nodes 1) refl known
    where
      by : (blind : Bool) → nat_eq (plan_of world).nodes 1 ≡ blind → is_known_over on.seen blind world ≡ true → (disks_tell on.seen world ≡ true) ⊎ ((plan_of world).nodes ≡ 1)
      by true blind known = inr (eqb-true (plan_of world).nodes 1 blind)
      by false blind tell = inl tell

  pub opened_is_sound : OpenedIsSound on
  opened_is_sound plan world begins =
      let opens = opens_whole on plan world begins in
      record {
        ready = begins.ready;
        whole = opens.0;
        tickets = subst (λ (v : Machine). TicketsAskOneThing (mail_world_of v).slots) (sym opens.1)
            (subst (λ w. TicketsAskOneThing w.slots) (sym opens.2) (opening_asks_one_thing plan.nodes (first_map plan)));
      }

  pub sound_rests_right : SoundRestsRight on
  sound_rests_right world s rest = rests_right on (plan_of world) world s.whole rest

  -- what the machine does in a step is known, where it is blind or the disks tell
  pub known_so : (world : World D) (step : Step) → is_known_over on.seen (is_blind (plan_of world).nodes step) world ≡ true → StepIsKnown on.seen (state_of world) step
  known_so world step known = by (is_blind (plan_of world).nodes step) refl known
    where
      by : (blind : Bool) → is_blind (plan_of world).nodes step ≡ blind → is_known_over on.seen blind world ≡ true → StepIsKnown on.seen (state_of world) step
      by true blind known = inr (blind_so (plan_of world).nodes step blind)
      by false blind tell = inl tell
