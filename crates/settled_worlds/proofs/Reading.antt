-- While nobody but readers does anything behind a settle, a login that began at a member is answered with what stands.
use Rattle.std.proofs.Common.{◌≡◌, inl, inr, ⊎_elim, ℕ, ◌≤◌, Bool, true, false, List, [], ◌∷◌, map, Some, None, Result, Ok, refl, sym, ap, ◌∙◌, subst, arith, if◌then◌else◌}
use Rattle.std.specs.Prelude.{All}
use Rattle.std.proofs.lemmas.List.Elements.{All-head, All-tail}
use Rattle.mail_model.specs.Identity.{Id}
use Rattle.mail_model.specs.Maildrop.{Given}
use Rattle.mail_model.specs.Plan.{Plan}
use Rattle.mail_model.specs.PopReplies.{Item}
use Rattle.mail_model.specs.Record.{Record}
use Rattle.mail_model.specs.Tape.{ClusterOrder}
use Rattle.mail_model.specs.Tape.{ClusterOrder as order}
use Rattle.session_model.specs.Sums.{BookSum}
use Rattle.mail_base.specs.Bodies.{proof_seen}
use Rattle.mail_base.specs.Items.{item_seen}
use Rattle.mail_base.specs.declared.item.Item.{Item as WorldItem}
use Rattle.object_model.specs.Letters.{Membership, Number}
use Rattle.object_model.specs.Lists.{Among}
use Rattle.object_model.proofs.Lists.{among_last}
use Rattle.session_model.specs.Calls as model
use Rattle.session_model.specs.Calls.Call.{Login}
use Rattle.session_model.specs.Calls.Answer.{Listed}
use Rattle.call_tickets.specs.Seen.{call_seen, answer_seen}
use Rattle.call_tickets.specs.declared.call.Call.{Call as WorldCall}
use Rattle.call_tickets.specs.declared.call.Call.TheVariants as calls
use Rattle.call_tickets.specs.declared.answer.Answer.{Answer as WorldAnswer}
use Rattle.call_tickets.specs.declared.answer.Answer.TheVariants as answers
use Rattle.call_tickets.specs.declared.answer.Ask.TheVariants as ask
use Rattle.cluster_model.specs.Cluster.{set_of_members}
use Rattle.cluster_model.specs.Reads.{ListedCopy}
use Rattle.node_tickets.specs.Seen.{copy_seen}
use Rattle.login_model.specs.Cluster as login
use Rattle.joint_world.specs.Laws.{Stands}
use Rattle.joint_world.specs.Makes.{MakesStep}
use Rattle.joint_world.specs.World as joint
use Rattle.joint_world.specs.World.{mail_world_of}
use Rattle.kept_parts.specs.Kept.{PartsHold}
use Rattle.settled_logins.specs.Reading.{IsReaderStep, disks_of as slots_disks}
use Rattle.settled_logins.specs.Settled.{ReadersStand, IsMember, BeganSettled}
use Rattle.settled_logins.proofs.Beginning.{begins_settled, stays_settled}
use Rattle.settled_logins.proofs.Listed.{began_lists}
use Rattle.settled_logins.proofs.Parts.{parts_stay}
use Rattle.settled_logins.proofs.Readers.{steps_stand}
use Rattle.standing_model.specs.Standing.{HasExactly, AreStanding}
use Rattle.node_store.specs.Disks.{View}
use Rattle.cluster_world.specs.Ended.{IsEnded}
use Rattle.cluster_world.specs.Made.{StepMade, IsPost, PostsAll, MakesSteps}
use Rattle.cluster_world.specs.Outcomes.{Outcome, Awaited, MakesOrder, Came, Makes}
use Rattle.cluster_world.specs.Outcomes.Outcome.{Began, Refused, Fell, Broke, Answers, StillPending, Unanswered, GaveUp, Abandoned, KeptUp, Left, Moved, Settling, Mapped}
use Rattle.cluster_world.specs.Regroups.{AllWentOn}
use Rattle.cluster_world.specs.Seen.{whole_step, whole_outcome}
use Rattle.cluster_world.specs.Steps.{IsBlind, IsStep}
use Rattle.cluster_world.specs.declared.fault.StepFault.{StepFault}
use Rattle.cluster_world.specs.declared.step.Said.{Said}
use Rattle.cluster_world.specs.declared.step.Said.TheVariants as said
use Rattle.cluster_world.specs.declared.step.Step.{Step}
use Rattle.cluster_world.specs.declared.step.Step.TheVariants as step
use Rattle.cluster_world.specs.declared.world.World.{World}
use Rattle.cluster_world.proofs.Leading.{led_whole}
use Rattle.cluster_world.proofs.Ordered.{posts_make, order_are}
use Rattle.cluster_world.proofs.Wholes.{is_of_next}
use Rattle.settled_worlds.specs.Settled.{IsReaderOutcome}
use Rattle.settled_worlds.proofs.Carrying.{Has, StepHas, sound_at, leave_ended}
use Rattle.settled_worlds.proofs.Readers.{AreFewer, fewer_sessions, fewer_after, fewer_after_all, goes_well, reads_so, leaves_so, asks_so, posts_so}

-- the ids of listed messages, however they are seen
same_ids : (items : List WorldItem) → map (λ (copy : ListedCopy). copy.id) (map copy_seen items) ≡ map (λ (item : Item). item.id) (map item_seen items)
same_ids [] = refl
same_ids (item ∷ items) = ap (λ (l : List Id). item.id ∷ l) (same_ids items)

-- a step that keeps all fast, or begins something
same_call : (a b : model.Call) → Some a ≡ Some b → a ≡ b
same_call a b e = cc

no_deliver : (mail : _) (user : List ℕ) (given : Given) → Some (model.Call.Deliver mail) ≡ Some (Login user given) → ⊥
no_deliver mail user given e = cc

no_strike : (name : List ℕ) (ids : List Id) (user : List ℕ) (given : Given) → Some (model.Call.Strike name ids) ≡ Some (Login user given) → ⊥
no_strike name ids user given e = cc

no_fetch : (b : Bool) (name : List ℕ) (id : Id) (user : List ℕ) (given : Given) → (if b then Some (model.Call.Fetch name id) else None) ≡ Some (Login user given) → ⊥
no_fetch true name id user given e = cc
no_fetch false name id user given e = cc

same_login : (a b : List ℕ) (g h : Given) → Login a g ≡ Login b h → a ≡ b
same_login a b g h e = cc

-- of run lines readers have one, which posts all letters
only_flows : (asked : ClusterOrder) (steps : List StepMade) (sum : BookSum) (up : List ℕ) → IsReaderOutcome (Moved asked steps sum up) → (asked ≡ order.Flow) × AllWentOn steps
only_flows order.Flow steps sum up reads = (refl, reads)
only_flows (order.Crash node) steps sum up reads = absurd reads
only_flows (order.Start node) steps sum up reads = absurd reads
only_flows (order.Lose node) steps sum up reads = absurd reads
only_flows (order.Post letter) steps sum up reads = absurd reads
only_flows (order.Again letter) steps sum up reads = absurd reads
only_flows (order.Drop letter) steps sum up reads = absurd reads
only_flows (order.Push node) steps sum up reads = absurd reads
only_flows (order.Widen at user id to) steps sum up reads = absurd reads
only_flows (order.Tick seconds) steps sum up reads = absurd reads
only_flows (order.Group node) steps sum up reads = absurd reads
only_flows (order.Conclude node) steps sum up reads = absurd reads
only_flows (order.Regroup node) steps sum up reads = absurd reads
only_flows (order.Report node) steps sum up reads = absurd reads
only_flows order.Settle steps sum up reads = absurd reads
only_flows (order.Maps user) steps sum up reads = absurd reads
only_flows order.Sum steps sum up reads = absurd reads

-- the parts of an answer
same_awaited : (j k : ℕ) (a b : model.Call) (t u : Number) (x y : model.Answer) → Answers j a t x ≡ Answers k b u y → ◌≡◌ {A = Awaited} (record { ticket = t; session = j; call = a }) (record { ticket = u; session = k; call = b })
same_awaited j k a b t u x y e = cc

same_ticket : (j k : ℕ) (a b : model.Call) (t u : Number) (x y : model.Answer) → Answers j a t x ≡ Answers k b u y → t ≡ u
same_ticket j k a b t u x y e = cc

same_given : (j k : ℕ) (a b : model.Call) (t u : Number) (x y : model.Answer) → Answers j a t x ≡ Answers k b u y → x ≡ y
same_given j k a b t u x y e = cc

module _ {D : Type 0} (on : View D) (plan : Plan) (told : Bool) (few : plan.nodes ≤ 16) (g : Membership) (members : List ℕ) (exactly : HasExactly (set_of_members g.members) members) (k : ℕ) (base : List (List Record)) where
  -- What stands while readers alone do something: no disk changed, and each login of session k that is awaited began behind the settle.
  pub record Reads (awaited : List Awaited) (v : joint.World) : Type 0 where
    pub parts : PartsHold plan (mail_world_of v)
    pub stand : ReadersStand v g
    pub disks : slots_disks v ≡ base
    pub logins : (one : Awaited) → Among one awaited → one.session ≡ k → (user : List ℕ) (given : Given) → one.call ≡ Login user given → BeganSettled told v g one.ticket user

  abbrev At : List Awaited → World D → Type 0
  At awaited world = Has on plan told (Reads awaited) world

  fewer_at : (awaited left : List Awaited) (world : World D) → AreFewer left awaited → At awaited world → At left world
  fewer_at awaited left world fewer h = record {
    of = h.of;
    whole = h.whole;
    holds = record { parts = h.holds.parts; stand = h.holds.stand; disks = h.holds.disks; logins = λ one m. h.holds.logins one (fewer one m) };
  }

  -- one step of a reader
  read_step : (awaited : List Awaited) (result : Result Said StepFault) (made : Step) (old new : World D) → IsBlind plan.nodes made → IsEnded made → IsStep on result made old new → (h : At awaited old)
      → ((w : joint.World) → MakesStep plan told h.whole.v (whole_step made) (whole_outcome result) w → IsReaderStep (record { step = whole_step made; outcome = whole_outcome result }))
      → StepHas on plan told (Reads awaited) result made new h.whole.v
  read_step awaited result made old new blind ended is h reads =
      let l = led_whole on plan told result made old new h.of.plan_is h.of.told_is (inr blind) ended is h.whole in
      let v = h.whole.v in
      let w = l.whole.v in
      let story = h.whole.story in
      let sound = sound_at on plan told (Reads awaited) old h in
      let reader = reads w l.made in
      let kept = steps_stand plan told story v w (record { step = whole_step made; outcome = whole_outcome result }) sound g h.holds.stand l.made reader in
      record {
        next = record {
          of = is_of_next on plan told result made old new h.of is;
          whole = l.whole;
          holds = record {
            parts = parts_stay plan told story v w (record { step = whole_step made; outcome = whole_outcome result } ∷ []) (omega (arith, few)) (w, l.made, refl) sound h.holds.parts;
            stand = kept.0;
            disks = kept.1.disks ∙ h.holds.disks;
            logins = λ one m own user given is_login.
                stays_settled plan told story v w (record { step = whole_step made; outcome = whole_outcome result }) sound g h.holds.stand l.made reader one.ticket user (h.holds.logins one m own user given is_login);
          };
        };
        makes = l.made;
      }

  -- a login that begins at a member
  begun_so : (story : List (List login.Slot)) (v w : joint.World) → Stands plan told story v → ReadersStand v g → (n : ℕ) → IsMember g n → (begun : WorldCall) (stirs : ℕ) (ticket : Number) (asked : model.Call)
      → call_seen begun ≡ Some asked → MakesStep plan told v (whole_step (step.Begin n begun)) (whole_outcome (Ok (said.Begun ticket stirs))) w → (user : List ℕ) (given : Given) → asked ≡ Login user given → BeganSettled told w g ticket user
  begun_so story v w sound stand n member (calls.Login name proof) stirs ticket asked seen makes user given is =
      let same : name ≡ user = same_login name user _ given (same_call _ _ (seen ∙ ap Some is)) in
      subst (BeganSettled told w g ticket) same (begins_settled plan told story v w sound g stand n member name (proof_seen proof) ticket makes)
  begun_so story v w sound stand n member (calls.Deliver deliver) stirs ticket asked seen makes user given is = absurd (no_deliver _ user given (seen ∙ ap Some is))
  begun_so story v w sound stand n member (calls.Fetch name id holders from most) stirs ticket asked seen makes user given is = absurd (no_fetch _ name id user given (seen ∙ ap Some is))
  begun_so story v w sound stand n member (calls.Strike name items) stirs ticket asked seen makes user given is = absurd (no_strike name _ user given (seen ∙ ap Some is))
  begun_so story v w sound stand n member (calls.Leave name login manager) stirs ticket asked seen makes user given is = absurd (let never : None ≡ Some asked = seen in cc)

  -- an answer that lists messages lists those that stand
  told_so : (story : List (List login.Slot)) (v w : joint.World) → Stands plan told story v → PartsHold plan (mail_world_of v) → ReadersStand v g → slots_disks v ≡ base → (ticket : Number) (user : List ℕ) → BeganSettled told v g ticket user
      → (own : WorldAnswer) (items : List Item) → Listed items ≡ answer_seen own → MakesStep plan told v (whole_step (step.Ask ticket)) (whole_outcome (Ok (said.Asked (ask.Done own)))) w
      → AreStanding base members user (map (λ (item : Item). item.id) items)
  told_so story v w sound parts stand disks ticket user began (answers.Listed login manager asked own) items is makes =
      subst (λ d. AreStanding d members user (map (λ (item : Item). item.id) items)) disks
      (subst (AreStanding (slots_disks v) members user) (same_ids own ∙ ap (map (λ (item : Item). item.id)) (sym (same items (map item_seen own) is)))
      (began_lists plan told story v w sound (omega (arith, few)) parts g stand ticket user began login manager asked (map copy_seen own) makes members exactly))
    where
      same : (a b : List Item) → Listed a ≡ Listed b → a ≡ b
      same a b e = cc
  told_so story v w sound parts stand disks ticket user began (answers.Stored id confirmers) items is makes = absurd (let never : Listed items ≡ model.Answer.Stored id = is in cc)
  told_so story v w sound parts stand disks ticket user began (answers.Wrong stamp) items is makes = absurd (let never : Listed items ≡ model.Answer.Wrong = is in cc)
  told_so story v w sound parts stand disks ticket user began (answers.InUse by) items is makes = absurd (let never : Listed items ≡ model.Answer.InUse = is in cc)
  told_so story v w sound parts stand disks ticket user began (answers.NoProfile manager) items is makes = absurd (let never : Listed items ≡ model.Answer.NoProfile = is in cc)
  told_so story v w sound parts stand disks ticket user began (answers.Part octets whole) items is makes = absurd (let never : Listed items ≡ model.Answer.Part octets = is in cc)
  told_so story v w sound parts stand disks ticket user began answers.GoneAlready items is makes = absurd (let never : Listed items ≡ model.Answer.GoneAlready = is in cc)
  told_so story v w sound parts stand disks ticket user began (answers.Dropped confirmers) items is makes = absurd (let never : Listed items ≡ model.Answer.Dropped = is in cc)
  told_so story v w sound parts stand disks ticket user began (answers.Failed mishaps) items is makes = absurd (let never : Listed items ≡ model.Answer.Failed = is in cc)

  -- letters are posted, and no step fails
  flow_at : (awaited : List Awaited) (steps : List StepMade) (old new : World D) → All IsPost steps → AllWentOn steps → MakesSteps on steps old new → At awaited old → At awaited new
  flow_at awaited [] old new posts well same h = subst (At awaited) (sym same) h
  flow_at awaited (one ∷ more) old new posts well (mid, is, rest) h =
      let (letter, post) = All-head IsPost one more posts in
      let is_post : IsStep on one.result (step.Post letter false) old mid = subst (λ (s : Step). IsStep on one.result s old mid) post is in
      flow_at awaited more mid new (All-tail IsPost one more posts) well.1 rest (read_step awaited one.result (step.Post letter false) old mid tt tt is_post h (λ w makes. posts_so letter false one.result well.0)).next

  -- what session k is answered with a listing
  abbrev Lists : Outcome → Type 0
  Lists outcome = (user : List ℕ) (given : Given) (ticket : Number) (items : List Item) → outcome ≡ Answers k (Login user given) ticket (Listed items) → AreStanding base members user (map (λ (item : Item). item.id) items)

  -- where session k begins a call, it does so at a member
  abbrev BeginsAtMember : Outcome → Type 0
  BeginsAtMember outcome = (n : ℕ) (asked : model.Call) (ticket : Number) → outcome ≡ Began k n asked ticket → IsMember g n

  record Goes (outcome : Outcome) (left : List Awaited) (new : World D) : Type 0 where
    at : At left new
    lists : Lists outcome

  -- what came of a step of a reader
  goes : (outcome : Outcome) (awaited left : List Awaited) (old new : World D) → IsReaderOutcome outcome → BeginsAtMember outcome → Came on outcome awaited old left new → At awaited old → Goes outcome left new
  goes (Began j n asked ticket) awaited left old new reads member (begun, stirs, seen, is, left_is) h =
      let r = reads_so n begun asked seen reads in
      let s = read_step awaited (Ok (said.Begun ticket stirs)) (step.Begin n begun) old new tt r.ended is h (λ w makes. r.reader (Ok (said.Begun ticket stirs)) (goes_well (Ok (said.Begun ticket stirs)) refl)) in
      let one : Awaited = record { ticket = ticket; session = j; call = asked } in
      record {
        at = subst (λ (l : List Awaited). At l new) (sym left_is) (record {
          of = s.next.of;
          whole = s.next.whole;
          holds = record {
            parts = s.next.holds.parts;
            stand = s.next.holds.stand;
            disks = s.next.holds.disks;
            logins = λ other m own user given is_login. ⊎_elim
                (λ before. s.next.holds.logins other before own user given is_login)
                (λ same. subst (λ (x : Awaited). BeganSettled told s.next.whole.v g x.ticket user) same
                (begun_so h.whole.story h.whole.v s.next.whole.v (sound_at on plan told (Reads awaited) old h) h.holds.stand n
                (member n asked ticket (ap (λ i. Began i n asked ticket) (ap (λ (x : Awaited). x.session) same ∙ own)))
                begun stirs ticket asked seen s.makes user given (ap (λ (x : Awaited). x.call) same ∙ is_login)))
                (among_last other awaited one m);
          };
        });
        lists = λ user given number items e. absurd (let never : Began j n asked ticket ≡ Answers k (Login user given) number (Listed items) = e in cc);
      }
  goes (Answers j asked ticket given) awaited left old new reads member (own, given_is, waits, is, left_is) h =
      let s = read_step awaited (Ok (said.Asked (ask.Done own))) (step.Ask ticket) old new tt tt is h (λ w makes. asks_so ticket (ask.Done own)) in
      record {
        at = subst (λ (l : List Awaited). At l new) (sym left_is) (fewer_at awaited _ new (fewer_sessions j awaited) s.next);
        lists = λ user proof number items e.
            let waited : Among (record { ticket = number; session = k; call = Login user proof }) awaited = subst (λ (x : Awaited). Among x awaited) (same_awaited j k asked (Login user proof) ticket number given (Listed items) e) waits in
            let number_is : ticket ≡ number = same_ticket j k asked (Login user proof) ticket number given (Listed items) e in
            let answer_is : given ≡ Listed items = same_given j k asked (Login user proof) ticket number given (Listed items) e in
            told_so h.whole.story h.whole.v s.next.whole.v (sound_at on plan told (Reads awaited) old h) h.holds.parts h.holds.stand h.holds.disks ticket user
            (subst (λ t. BeganSettled told h.whole.v g t user) (sym number_is) (h.holds.logins _ waited refl user proof refl)) own items (sym answer_is ∙ given_is) s.makes;
      }
  goes (StillPending j ticket) awaited left old new reads member (asked, got, wanted, waits, is, left_is) h =
      let s = read_step awaited (Ok (said.Asked (ask.Pending got wanted))) (step.Ask ticket) old new tt tt is h (λ w makes. asks_so ticket (ask.Pending got wanted)) in
      record {
        at = subst (λ (l : List Awaited). At l new) (sym left_is) s.next;
        lists = λ user given number items e. absurd (let never : StillPending j ticket ≡ Answers k (Login user given) number (Listed items) = e in cc);
      }
  goes (Left j n user) awaited left old new reads member (begun, result, leaves, is, left_is) h =
      let s = read_step awaited result (step.Begin n begun) old new tt (leave_ended user begun leaves) is h (λ w makes. leaves_so plan told h.whole.v w n user begun result leaves is.did.kind makes) in
      record {
        at = subst (λ (l : List Awaited). At l new) (sym left_is) (fewer_at awaited _ new (fewer_after _ awaited) s.next);
        lists = λ name given number items e. absurd (let never : Left j n user ≡ Answers k (Login name given) number (Listed items) = e in cc);
      }
  goes (Moved asked steps sum up) awaited left old new reads member (makes, left_is, sum_is, up_is) h =
      let (is, well) = only_flows asked steps sum up reads in
      let posts : PostsAll on steps old new = subst (λ (o : ClusterOrder). MakesOrder on o steps old new) is makes in
      record {
        at = subst (λ (l : List Awaited). At l new) (sym left_is) (fewer_at awaited _ new (fewer_after_all steps awaited)
            (flow_at awaited steps old new (order_are on order.Flow steps old new posts) well (posts_make on steps old new posts) h));
        lists = λ user given number items e. absurd (let never : Moved asked steps sum up ≡ Answers k (Login user given) number (Listed items) = e in cc);
      }
  goes (Refused j n asked) awaited left old new reads member came h = absurd reads
  goes (Fell j n asked) awaited left old new reads member came h = absurd reads
  goes (Broke j n asked) awaited left old new reads member came h = absurd reads
  goes (Unanswered j asked ticket) awaited left old new reads member came h = absurd reads
  goes (GaveUp j asked ticket) awaited left old new reads member came h = absurd reads
  goes (Abandoned j asked ticket) awaited left old new reads member came h = absurd reads
  goes (KeptUp j ticket why) awaited left old new reads member came h = absurd reads
  goes (Settling result steps) awaited left old new reads member came h = absurd reads
  goes (Mapped user told_map) awaited left old new reads member came h = absurd reads

  -- all that readers led to
  pub record AllGo (outcomes : List Outcome) (left : List Awaited) (new : World D) : Type 0 where
    pub at : Has on plan told (Reads left) new
    pub lists : (user : List ℕ) (given : Given) (ticket : Number) (items : List Item) → Among (Answers k (Login user given) ticket (Listed items)) outcomes → AreStanding base members user (map (λ (item : Item). item.id) items)

  pub all_go : (outcomes : List Outcome) (awaited left : List Awaited) (old new : World D) → All IsReaderOutcome outcomes → ((n : ℕ) (asked : model.Call) (ticket : Number) → Among (Began k n asked ticket) outcomes → IsMember g n)
      → Makes on outcomes awaited old left new → Has on plan told (Reads awaited) old → AllGo outcomes left new
  all_go [] awaited left old new reads members_are (left_is, same) h =
      record { at = subst (λ (l : List Awaited). At l new) (sym left_is) (subst (At awaited) (sym same) h); lists = λ user given ticket items m. absurd m }
  all_go (outcome ∷ more) awaited left old new reads members_are (between, mid, came, rest) h =
      let one = goes outcome awaited between old mid (All-head IsReaderOutcome outcome more reads) (λ n asked ticket e. members_are n asked ticket (inl e)) came h in
      let others = all_go more between left mid new (All-tail IsReaderOutcome outcome more reads) (λ n asked ticket m. members_are n asked ticket (inr m)) rest one.at in
      record {
        at = others.at;
        lists = λ user given ticket items m. ⊎_elim (λ same. one.lists user given ticket items same) (λ later. others.lists user given ticket items later) m;
      }
