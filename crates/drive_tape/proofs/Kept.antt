-- A world that was driven keeps what was promised to clients, by its own disks and its own book.
use Rattle.std.proofs.Common.{◌≡◌, ⊎_elim, inl, inr, ◌≤◌, ℕ, true, List, [], ◌∷◌, ◌++◌, map, flat_map, All, Option, Some, None, refl, sym, ap, ap₂, ◌∙◌, subst}
use Rattle.std.proofs.lemmas.List.{append-nil}
use Rattle.std.proofs.lemmas.List.Elements.{All-head, All-tail}
use Rattle.mail_model.specs.Identity.{Id}
use Rattle.mail_model.specs.Plan.{Plan}
use Rattle.mail_model.specs.Record.{Record}
use Rattle.mail_model.specs.Told.{Mail}
use Rattle.mail_model.specs.Tape.{Protocol, ClusterOrder, tape_order}
use Rattle.mail_model.specs.Tape.Protocol.{Smtp}
use Rattle.mail_model.specs.Tape.{ClusterOrder as order}
use Rattle.mail_model.specs.Tape as tape
use Rattle.mail_model.specs.Transcript.{Entry}
use Rattle.mail_model.specs.Stored.{opened, kind_at}
use Rattle.object_model.specs.Letters.{Number}
use Rattle.object_model.specs.Lists.{Among}
use Rattle.session_model.specs.Calls.{Call}
use Rattle.session_model.specs.Calls.Call.{Deliver, Login, Fetch, Strike}
use Rattle.session_model.specs.Sessions.{Session, session_at, exchanges_of}
use Rattle.session_model.specs.Acts.{Act}
use Rattle.session_model.specs.Acts.Act.{StillWaits}
use Rattle.session_model.specs.Logs.{Asked, Answered, asked_by, answered_by, asked_in}
use Rattle.session_model.specs.Turns.{IsAtNode}
use Rattle.session_model.specs.Run.{Stop, Made, IsDriven, IsCutShort}
use Rattle.session_model.specs.Run.Stop.{BehindLine, Denied, SinkFailed, OutOfMemory}
use Rattle.session_model.specs.Runs.{Shows}
use Rattle.session_model.specs.Books.{AreBegun}
use Rattle.session_model.specs.Owes.{Owes}
use Rattle.session_model.specs.SoundMails.{IsSoundMail}
use Rattle.session_model.specs.Kept.{IsEnding, KeepsPromises}
use Rattle.session_model.proofs.InOrder.{kind_there}
use Rattle.session_model.proofs.Books.{IsCallIn, among_in, call_at}
use Rattle.session_model.proofs.Owed.{logged}
use Rattle.session_model.proofs.Asking.{asks_as_told}
use Rattle.session_model.proofs.Driven.{driven_is_shown}
use Rattle.session_model.proofs.Kept.{owed_is_kept}
use Rattle.cluster_owes.specs.Held.{filed_on}
use Rattle.cluster_owes.specs.Outcomes.{IsTakenAt}
use Rattle.node_store.specs.Disks.{View}
use Rattle.cluster_world.specs.Sound.{IsWhole}
use Rattle.cluster_world.specs.Wholes.{HasOneMap}
use Rattle.cluster_world.specs.Worlds.{state_of, plan_of, disks_of, book_of, disks_tell}
use Rattle.cluster_world.specs.Opens.{IsAtBeginning}
use Rattle.cluster_world.specs.Owing.{AreBlind, IsOfBlind, AllBlind, AreKnown, AreOfSessions, WorldOwes}
use Rattle.cluster_world.specs.Made.{StepMade, IsPost, AreOfRegroup}
use Rattle.cluster_world.specs.Outcomes.{Outcome, Awaited, Came, Makes, made_of, asked_by_outcome, answered_by_outcome}
use Rattle.cluster_world.proofs.Ordered.{AreStepsOf, IsPushOf, IsReportOf, order_are}
use Rattle.cluster_world.specs.Outcomes.Outcome.{Began, Refused, Fell, Broke, Answers, StillPending, Unanswered, GaveUp, Abandoned, KeptUp, Left, Moved, Settling, Mapped}
use Rattle.cluster_world.specs.declared.world.World.{World}
use Rattle.cluster_world.specs.declared.step.Step.TheVariants as step
use Rattle.cluster_world.specs.Steps.{IsBlind}
use Rattle.cluster_world.proofs.Lasting.{pending_has_letter}
use Rattle.cluster_world.proofs.Owed.{none_pending}
use Rattle.cluster_world.proofs.Wholes.{world_is_whole, one_map_per_epoch}
use Rattle.cluster_world.proofs.Righted.{settled_maps_are_right}
use Rattle.cluster_world.specs.Lasting.{WasDriven, AllHaveLetters}
use Rattle.cluster_world.specs.Rests.{HasRightMaps}
use Rattle.cluster_world.specs.Settling.{IsAtRest, IsOfSettle, AreOfSettle}
use Rattle.cluster_world.specs.Settling.IsOfSettle.{Posts, Pushes, Reports}
use Rattle.fresh_sessions.specs.Kept.{KeepsSettled}
use Rattle.fresh_sessions.proofs.Kept.{owed_settled_is_kept}
use Rattle.settled_worlds.specs.Settled.{WorldOwesSettled}
use Rattle.drive_tape.proofs.AtRest.{ends_at_rest}
use Rattle.drive_tape.specs.Drive.{HasLetters, NamesTheUp, EndsSettled}
use Rattle.drive_tape.specs.Kept.{IsBlindOrder, AreBlindLines, AreToldOrBlind, KeptIn}
use Rattle.drive_tape.specs.Led.{AreLedTo}
use Rattle.drive_tape.specs.Points.{IsAtOwnNode, AreAtOwnNodes}
use Rattle.drive_tape.specs.Worlds.{AreLives}
use Rattle.drive_tape.proofs.Led.{MayLackOne}
use Rattle.drive_tape.proofs.NamedUp.{names_the_up}
use Rattle.drive_tape.proofs.Clocks.{ticked_by}
use Rattle.drive_tape.proofs.LineActs.{begun_is_asked, moved_by_line}
use Rattle.drive_tape.proofs.OpenedKinds.{driven_kinds}
use Rattle.drive_tape.proofs.OwnNodes.{own_among}
use Rattle.drive_tape.proofs.Settled.{whole_run, led_whole, owes_settled}

-- what was begun of what was asked
were_begun : (stop : Stop) (asked begun lacking : List Asked) → asked ≡ begun ++ lacking → MayLackOne stop lacking → AreBegun stop asked begun
were_begun BehindLine asked begun lacking are none = sym (are ∙ ap (λ (l : List Asked). begun ++ l) none ∙ append-nil begun)
were_begun Denied asked begun lacking are none = sym (are ∙ ap (λ (l : List Asked). begun ++ l) none ∙ append-nil begun)
were_begun SinkFailed asked begun lacking are none = sym (are ∙ ap (λ (l : List Asked). begun ++ l) none ∙ append-nil begun)
were_begun OutOfMemory asked begun lacking are may = ⊎_elim
    (λ none. inl (sym (are ∙ ap (λ (l : List Asked). begun ++ l) none ∙ append-nil begun)))
    (λ one. inr (one.0, are ∙ ap (λ (l : List Asked). begun ++ l) one.1)) may

-- lines that need nothing that a disk tells

posts_blind : (nodes : ℕ) (steps : List StepMade) → All IsPost steps → AreBlind nodes steps
posts_blind nodes [] all = tt
posts_blind nodes (one ∷ steps) all =
    let is : IsPost one = All-head IsPost one steps all in (subst (IsBlind nodes) (sym is.1) tt, posts_blind nodes steps (All-tail IsPost one steps all))

pushes_blind : (nodes node : ℕ) (steps : List StepMade) → nodes ≡ 1 → All (IsPushOf node) steps → AreBlind nodes steps
pushes_blind nodes node [] alone all = tt
pushes_blind nodes node (one ∷ steps) alone all =
    let is : IsPushOf node one = All-head (IsPushOf node) one steps all in (subst (IsBlind nodes) (sym is.1) alone, pushes_blind nodes node steps alone (All-tail (IsPushOf node) one steps all))

regroup_blind : (nodes node : ℕ) (steps : List StepMade) → AreOfRegroup node steps → AreBlind nodes steps
regroup_blind nodes node [] all = tt
regroup_blind nodes node (one ∷ steps) all = (
  ⊎_elim (λ (opens : one.step ≡ step.Group node). subst (IsBlind nodes) (sym opens) tt)
      (λ rest. ⊎_elim (λ (concludes : one.step ≡ step.Conclude node). subst (IsBlind nodes) (sym concludes) tt) (λ (post : IsPost one). subst (IsBlind nodes) (sym post.1) tt) rest) all.0,
  regroup_blind nodes node steps all.1,
)

reports_blind : (nodes node : ℕ) (steps : List StepMade) → All (IsReportOf node) steps → AreBlind nodes steps
reports_blind nodes node [] all = tt
reports_blind nodes node (one ∷ steps) all =
    let is : IsReportOf node one = All-head (IsReportOf node) one steps all in (subst (IsBlind nodes) (sym is.1) tt, reports_blind nodes node steps (All-tail (IsReportOf node) one steps all))

of_settle_blind : (nodes : ℕ) (one : StepMade) → nodes ≡ 1 → IsOfSettle one → IsBlind nodes one.step
of_settle_blind nodes one alone (Posts post) = subst (IsBlind nodes) (sym post.1) tt
of_settle_blind nodes one alone (Pushes from to apart is) = subst (IsBlind nodes) (sym is) alone
of_settle_blind nodes one alone (Reports from to apart is) = subst (IsBlind nodes) (sym is) tt

settle_blind : (nodes : ℕ) (steps : List StepMade) → nodes ≡ 1 → AreOfSettle steps → AreBlind nodes steps
settle_blind nodes [] alone all = tt
settle_blind nodes (one ∷ steps) alone all = (of_settle_blind nodes one alone all.0, settle_blind nodes steps alone all.1)

order_blind : (nodes : ℕ) (asked : ClusterOrder) (steps : List StepMade) → AreStepsOf asked steps → IsBlindOrder nodes (Some (tape.Order.Moves asked)) → AreBlind nodes steps
order_blind nodes (order.Crash node) steps (result, are) blind = subst (AreBlind nodes) (sym are) (tt, tt)
order_blind nodes (order.Start node) steps (result, are) blind = absurd blind
order_blind nodes (order.Lose node) steps (result, are) blind = subst (AreBlind nodes) (sym are) (tt, tt)
order_blind nodes (order.Post letter) steps (result, are) blind = subst (AreBlind nodes) (sym are) (tt, tt)
order_blind nodes (order.Again letter) steps (result, are) blind = subst (AreBlind nodes) (sym are) (tt, tt)
order_blind nodes (order.Drop letter) steps (result, are) blind = subst (AreBlind nodes) (sym are) (tt, tt)
order_blind nodes order.Flow steps are blind = posts_blind nodes steps are
order_blind nodes (order.Push node) steps are blind = pushes_blind nodes node steps blind are
order_blind nodes (order.Widen at user id to) steps (result, are) blind = subst (AreBlind nodes) (sym are) (tt, tt)
order_blind nodes (order.Group node) steps (result, are) blind = subst (AreBlind nodes) (sym are) (tt, tt)
order_blind nodes (order.Conclude node) steps (result, are) blind = subst (AreBlind nodes) (sym are) (tt, tt)
order_blind nodes (order.Regroup node) steps are blind = regroup_blind nodes node steps are
order_blind nodes (order.Tick seconds) steps (result, are) blind = subst (AreBlind nodes) (sym are) (tt, tt)
order_blind nodes (order.Report node) steps are blind = reports_blind nodes node steps are
order_blind nodes order.Settle steps are blind = absurd are
order_blind nodes (order.Maps user) steps are blind = absurd are
order_blind nodes order.Sum steps are blind = subst (AreBlind nodes) (sym are) tt

line_blind : (nodes : ℕ) (lines : List (List ℕ)) (line : List ℕ) → AreBlindLines nodes lines → Among line lines → IsBlindOrder nodes (tape_order line)
line_blind nodes [] line all among = absurd among
line_blind nodes (first ∷ lines) line all among = ⊎_elim
    (λ (same : first ≡ line). subst (λ (l : List ℕ). IsBlindOrder nodes (tape_order l)) same (All-head (λ (l : List ℕ). IsBlindOrder nodes (tape_order l)) first lines all))
    (λ (rest : Among line lines). line_blind nodes lines line (All-tail (λ (l : List ℕ). IsBlindOrder nodes (tape_order l)) first lines all) rest) among

-- each outcome is of the steps that its order asks for
all_blind : {D : Type 0} (on : View D) (nodes : ℕ) (outcomes : List Outcome) (awaited left : List Awaited) (old new : World D) → Makes on outcomes awaited old left new
    → ((asked : ClusterOrder) → Among (Made.Moves asked) (map made_of outcomes) → IsBlindOrder nodes (Some (tape.Order.Moves asked))) → AllBlind nodes outcomes
all_blind on nodes [] awaited left old new makes blind = tt
all_blind {D} on nodes (outcome ∷ more) awaited left old new (between, mid, came, makes) blind = (one outcome came (λ asked is. blind asked (inl is)), all_blind on nodes more between left mid new makes (λ asked among. blind asked (inr among)))
  where
    one : (outcome : Outcome) → Came on outcome awaited old between mid → ((asked : ClusterOrder) → made_of outcome ≡ Made.Moves asked → IsBlindOrder nodes (Some (tape.Order.Moves asked))) → IsOfBlind nodes outcome
    one (Moved asked steps sum up) (made, summed, waits, were) may = order_blind nodes asked steps (order_are on asked steps old mid made) (may asked refl)
    one (Settling result steps) (makes, are, left_is) may = settle_blind nodes steps (may order.Settle refl) (subst AreOfSettle are makes.of)
    one (Mapped user told) came may = tt
    one (Began k node asked ticket) came may = tt
    one (Refused k node asked) came may = tt
    one (Fell k node asked) came may = tt
    one (Broke k node asked) came may = tt
    one (Answers k asked ticket given) came may = tt
    one (StillPending k ticket) came may = tt
    one (Unanswered k asked ticket) came may = tt
    one (GaveUp k asked ticket) came may = tt
    one (Abandoned k asked ticket) came may = tt
    one (KeptUp k ticket why) came may = tt
    one (Left k node user) came may = tt

made_among : (outcomes : List Outcome) (outcome : Outcome) → Among outcome outcomes → Among (made_of outcome) (map made_of outcomes)
made_among [] outcome among = absurd among
made_among (first ∷ outcomes) outcome among = ⊎_elim (λ (same : first ≡ outcome). inl (ap made_of same)) (λ (rest : Among outcome outcomes). inr (made_among outcomes outcome rest)) among

module _ {D : Type 0} (on : View D) (start last : World D) (begins : IsAtBeginning on (plan_of start) start)
    (stop : Stop) (handled midst : List (List ℕ)) (acts behind : List (List Act)) (made : List Made) (entries : List Entry) (sessions : List Session)
    (driven : IsDriven (plan_of start) stop handled midst acts behind made entries sessions)
    (outcomes : List Outcome) (awaited : List Awaited) (steps : Makes on outcomes [] start awaited last) (made_are : map made_of outcomes ≡ made) (at_nodes : AreAtOwnNodes sessions outcomes) where
  abbrev plan : Plan
  plan = plan_of start

  abbrev lines : List (List ℕ)
  lines = handled ++ midst

  abbrev done : List Act
  done = flat_map (λ a. a) (acts ++ behind)

  abbrev begun : List Asked
  begun = flat_map asked_by_outcome outcomes

  shown : (sessions : List Session) × Shows plan lines entries done sessions
  shown = driven_is_shown plan stop handled midst acts behind made entries sessions driven

  made_in : (outcome : Outcome) → Among outcome outcomes → Among (made_of outcome) made
  made_in outcome among = subst (Among (made_of outcome)) made_are (made_among outcomes outcome among)

  -- a message that was asked to be stored is sound, and its session takes mail
  mail_asked : (k : ℕ) (mail : Mail) (there : Option Session) → session_at shown.0 k ≡ there → IsCallIn (Deliver mail) (asked_in k (flat_map asked_by done))
      → IsSoundMail (Deliver mail) × ((node : ℕ) × (kind_at (opened lines) k ≡ Some (Smtp, node)))
  mail_asked k mail None none is = absurd (subst (IsCallIn (Deliver mail)) (logged plan lines entries done shown.0 shown.1 k None none).0 is)
  mail_asked k mail (Some session) at is =
      let found = call_at (Deliver mail) (exchanges_of session) (subst (IsCallIn (Deliver mail)) (logged plan lines entries done shown.0 shown.1 k (Some session) at).0 is) in
      let talk = (shown.1.are.each k session at).talk in
      let told = asks_as_told plan session.node session.protocol session.octets (exchanges_of session) talk.before session.rest talk.goes found.0 found.1 found.2 mail found.3 found.4 in
      let kind = kind_there (opened lines) [] shown.0 k session (shown.1.are.kinds ∙ sym (append-nil _)) at in
      ((told.1.0, told.1.1, told.1.2, told.2), (session.node, kind ∙ ap (λ (p : Protocol). Some (p, session.node)) told.0))

  mail_begun : (k : ℕ) (mail : Mail) → Among (Made.Begins k (Deliver mail)) made → IsSoundMail (Deliver mail) × ((node : ℕ) × (kind_at (opened lines) k ≡ Some (Smtp, node)))
  mail_begun k mail among =
      mail_asked k mail (session_at shown.0 k) refl
      (among_in (record { session = k; call = Deliver mail }) (flat_map asked_by done) (begun_is_asked plan stop handled midst acts behind made entries sessions driven k (Deliver mail) among))

  sound_begun : (k : ℕ) (call : Call) → Among (Made.Begins k call) made → IsSoundMail call
  sound_begun k (Deliver mail) among = (mail_begun k mail among).0
  sound_begun k (Login user given) among = tt
  sound_begun k (Fetch user id) among = tt
  sound_begun k (Strike user ids) among = tt

  -- at the node at which its session is
  taken_begun : (k node : ℕ) (call : Call) → Among (Made.Begins k call) made → IsAtNode node (session_at sessions k) → IsTakenAt lines k node call
  taken_begun k node (Deliver mail) among own = by (session_at sessions k) refl own
    where
      protocol_of : Option (Protocol × ℕ) → Protocol
      protocol_of None = Smtp
      protocol_of (Some kind) = kind.0

      protocol_same : (a b : Protocol) (n m : ℕ) → ◌≡◌ {A = Option (Protocol × ℕ)} (Some (a, n)) (Some (b, m)) → a ≡ b
      protocol_same a b n m e = ap protocol_of e

      by : (there : Option Session) → session_at sessions k ≡ there → IsAtNode node there → kind_at (opened lines) k ≡ Some (Smtp, node)
      by None none at = absurd at
      by (Some session) here at =
          let kind : kind_at (opened lines) k ≡ Some (session.protocol, session.node) =
          kind_there (opened lines) [] sessions k session (driven_kinds plan stop handled midst acts behind made entries sessions driven ∙ sym (append-nil _)) here in
          let mail = (mail_begun k mail among).1 in
          let same : session.protocol ≡ Smtp = protocol_same session.protocol Smtp session.node mail.0 (sym kind ∙ mail.1) in
          kind ∙ ap₂ (λ (p : Protocol) (n : ℕ). Some (p, n)) same at
  taken_begun k node (Login user given) among own = tt
  taken_begun k node (Fetch user id) among own = tt
  taken_begun k node (Strike user ids) among own = tt

  -- each call is one that a session of its node makes
  pub of_sessions : AreOfSessions lines outcomes
  of_sessions (Began k node asked ticket) among = (sound_begun k asked (made_in _ among), taken_begun k node asked (made_in _ among) (own_among sessions outcomes _ at_nodes among))
  of_sessions (Fell k node asked) among = (sound_begun k asked (made_in _ among), taken_begun k node asked (made_in _ among) (own_among sessions outcomes _ at_nodes among))
  of_sessions (Broke k node asked) among = (sound_begun k asked (made_in _ among), taken_begun k node asked (made_in _ among) (own_among sessions outcomes _ at_nodes among))
  of_sessions (Refused k node asked) among = sound_begun k asked (made_in _ among)
  of_sessions (Answers k asked ticket given) among = tt
  of_sessions (StillPending k ticket) among = tt
  of_sessions (Unanswered k asked ticket) among = tt
  of_sessions (GaveUp k asked ticket) among = tt
  of_sessions (Abandoned k asked ticket) among = tt
  of_sessions (KeptUp k ticket why) among = tt
  of_sessions (Left k node user) among = tt
  of_sessions (Moved (order.Tick seconds) made_steps sum up) among =
      let found = moved_by_line plan stop handled midst acts behind made entries sessions driven (order.Tick seconds) (made_in _ among) in
      inr (ticked_by lines found.0 seconds found.1 found.2)
  of_sessions (Moved asked made_steps sum up) among = tt
  of_sessions (Settling result made_steps) among = tt
  of_sessions (Mapped user told) among = tt

  -- the disks tell what they hold, or no step needs it
  pub known : AreToldOrBlind on start lines → AreKnown on start outcomes
  known told = ⊎_elim (λ all. inl all) (λ blind. inr (all_blind on plan.nodes outcomes [] awaited start last steps (λ asked among.
      let found = moved_by_line plan stop handled midst acts behind made entries sessions driven asked (subst (Among (Made.Moves asked)) made_are among) in
      subst (IsBlindOrder plan.nodes) found.2 (line_blind plan.nodes lines found.0 blind found.1)))) told

  -- behind a line the promises of a settled epoch are kept
  keeps_settled : WorldOwesSettled on → (lacking : List Asked) (extra : List Made) → AreLedTo stop plan [] [] done outcomes lacking extra → (stop ≡ BehindLine → extra ≡ []) → ((stop ≡ OutOfMemory → ⊥) → AreLives plan done last)
      → AreToldOrBlind on start lines → (ending : List Entry) (records : List (List Record)) (filed : Id → Option (List ℕ)) (promises : KeepsPromises plan (disks_tell on.seen last) stop lines (entries ++ ending) (map on.seen (disks_of last)) records filed (book_of last) done begun)
      → stop ≡ BehindLine → disks_tell on.seen last ≡ true → KeepsSettled plan lines (acts ++ behind) records promises.sessions
  keeps_settled settling lacking extra led none lives told ending records filed promises is tells =
      let run = whole_run plan stop handled midst acts behind made entries sessions driven is in
      let driven_so : WasDriven on plan lines outcomes awaited start last = record { begins = begins; known = known told; makes = steps; sessions = of_sessions } in
      owed_settled_is_kept plan lines (entries ++ ending) entries (acts ++ behind) records promises.sessions
      (record { outputs = run.outputs; last = sessions; handled = run.handled; wrote = run.wrote })
      promises.clients.shown promises.clients.read_mail (promises.answered (λ cut. subst IsCutShort is cut)) promises.logged
      (owes_settled on start last outcomes awaited steps lines (acts ++ behind) run.outputs sessions run.handled (led_whole plan stop done outcomes lacking extra led is (none is)) at_nodes
      (lives (λ out. let never : BehindLine ≡ OutOfMemory = sym is ∙ out in cc)) records (settling plan lines outcomes awaited start last records driven_so tells promises.holds))

  -- whatever line says why the program ended
  pub kept_in : WorldOwes on → WorldOwesSettled on → (lacking : List Asked) (extra : List Made) → AreLedTo stop plan [] [] done outcomes lacking extra → (stop ≡ BehindLine → extra ≡ []) → ((stop ≡ OutOfMemory → ⊥) → AreLives plan done last)
      → flat_map asked_by done ≡ begun ++ lacking → MayLackOne stop lacking → flat_map answered_by done ≡ flat_map answered_by_outcome outcomes → (plan_of last ≡ plan_of start)
      → AreToldOrBlind on start lines → (ending : List Entry) → IsEnding ending → KeptIn on last plan stop lines (entries ++ ending) (acts ++ behind) begun
  kept_in owing settling lacking extra led none lives asked_are lack answered_are same told ending ends =
      let owed = owing plan lines outcomes awaited start last begins (known told) steps of_sessions in
      let promises : KeepsPromises plan (disks_tell on.seen last) stop lines (entries ++ ending) (map on.seen (disks_of last)) owed.0 (filed_on owed.0) (book_of last) done begun =
      owed_is_kept plan (disks_tell on.seen last) stop handled midst acts behind made entries ending sessions (map on.seen (disks_of last)) owed.0 (filed_on owed.0) begun (book_of last) driven ends
      (were_begun stop (flat_map asked_by done) begun lacking asked_are lack)
      (subst (λ (l : List Answered). Owes plan (disks_tell on.seen last) lines (map on.seen (disks_of last)) owed.0 (filed_on owed.0) begun l (book_of last)) (sym answered_are) owed.1) in
      record { records = owed.0; promises = promises; settled = keeps_settled settling lacking extra led none lives told ending owed.0 (filed_on owed.0) promises }

  -- where one node is all there is, no session waits
  pub none_waits : ((k : ℕ) → Among (StillWaits k) done → (ticket : Number) × Among (StillPending k ticket) outcomes) → AreToldOrBlind on start lines → plan.nodes ≡ 1 → plan.confirm ≡ 1 → 1 ≤ plan.copies → (k : ℕ) → Among (StillWaits k) done → ⊥
  none_waits waits told alone sure some k among =
      let found = waits k among in
      none_pending on plan lines outcomes awaited start last alone sure some begins (known told) steps of_sessions k found.0 found.1

  -- a ticket that is pending has a letter in flight
  pub letters_in : (plan_of last ≡ plan_of start) → AreToldOrBlind on start lines → HasLetters last
  letters_in same told = subst (λ (p : Plan). AllHaveLetters p.confirm last) (sym same)
      (pending_has_letter on plan lines outcomes awaited start last (record { begins = begins; known = known told; makes = steps; sessions = of_sessions }))

  -- it stands for a sound world of the whole machine, and all memberships of one epoch are equal
  pub whole_in : AreToldOrBlind on start lines → IsWhole on plan last
  whole_in told = world_is_whole on plan lines outcomes awaited start last (record { begins = begins; known = known told; makes = steps; sessions = of_sessions })

  pub one_map_in : AreToldOrBlind on start lines → HasOneMap (state_of last)
  one_map_in told = one_map_per_epoch on plan lines outcomes awaited start last (record { begins = begins; known = known told; makes = steps; sessions = of_sessions })

  -- a world that settled last is at rest, and its maps are right
  pub maps_right_in : (lacking : List Asked) (extra : List Made) → AreLedTo stop plan [] [] done outcomes lacking extra → stop ≡ BehindLine → extra ≡ [] → AreToldOrBlind on start lines → EndsSettled done → IsAtRest (state_of last) × HasRightMaps on (state_of last)
  maps_right_in lacking extra led is none told ends =
      let rest = ends_at_rest on plan outcomes awaited start last steps stop done lacking extra led is none ends in
      (rest, settled_maps_are_right on plan lines outcomes awaited start last (record { begins = begins; known = known told; makes = steps; sessions = of_sessions }) rest)

  -- the members that a regroup names are the nodes that were up
  pub names_in : (lacking : List Asked) (extra : List Made) → AreLedTo stop plan [] [] done outcomes lacking extra → AreToldOrBlind on start lines → NamesTheUp plan done
  names_in lacking extra led told = names_the_up on plan lines outcomes awaited start last begins (known told) steps of_sessions stop done lacking extra led
