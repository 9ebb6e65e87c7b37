-- The run lines of the tape of three nodes, one after another.
use Rattle.std.proofs.Common.{◌≡◌, ◌⊎◌, ⊎_elim, ◌≤◌, ℕ, Bool, true, false, List, [], ◌∷◌, ◌++◌, length, Option, Some, None, refl, sym, ap, ◌∙◌, subst, arith, codes}
use Rattle.mail_model.specs.Tape.{Protocol}
use Rattle.mail_model.specs.Tape.Order.{Say}
use Rattle.mail_model.specs.Tape.ClusterOrder.{Post, Again}
use Rattle.mail_model.specs.Transcript.{Entry}
use Rattle.session_model.specs.Talk.TalkState.{Mailing}
use Rattle.session_model.specs.Sessions.{Session}
use Rattle.session_model.specs.Acts.{Act}
use Rattle.session_model.specs.Acts.Act.{Does, StillWaits}
use Rattle.session_model.specs.Acts.Deed.{IsAnswered}
use Rattle.session_model.specs.Run.{IsHandled}
use Rattle.session_model.specs.Lives.{failed_in}
use Rattle.cluster_model.specs.Room.{Flight}
use Rattle.cluster_model.specs.World as mail
use Rattle.cluster_model.specs.WorldLaws.{opening_world}
use Rattle.cluster_model.specs.Starts.{first_membership}
use Rattle.cluster_model.specs.Steps.{NodeCall}
use Rattle.cluster_model.specs.Steps.Step.{Begin}
use Rattle.cluster_model.specs.Steps.Said.{Begun, Faulted}
use Rattle.cluster_model.specs.Makes.{BeginsCall, BeginsRead}
use Rattle.maps_model.specs.Words.{ManagersAreMembers}
use Rattle.whole_world.specs.Steps.Step.{OfMessages}
use Rattle.whole_world.specs.Steps.Said.{Told}
use Rattle.whole_world.specs.Steps.StepOutcome.{Says}
use Rattle.joint_world.specs.World.{World, mail_world_of}
use Rattle.joint_world.specs.First.{first_world}
use Rattle.joint_world.specs.Makes.{MakesStep}
use Rattle.cluster_owes.proofs.Chain.{Standing as AllStands, stands_on, step_of_mail, opens_standing, opens_for_mail}
use Rattle.object_model.specs.Letters.{Number, MapRow}
use Rattle.cluster_model.specs.Plain.{kept}
use Rattle.worked_sessions.specs.OneMessage.{greeted, texting, small_mail, waiting, at_hello}
use Rattle.worked_sessions.specs.ThreeNodes.{three_nodes, posted_lines}
use Rattle.worked_sessions.proofs.Lines.{idle_line, text_lines}
use Rattle.accepted_tapes.specs.Follows.{Standing, IsOpenedAt, FollowsAll}
use Rattle.accepted_tapes.specs.Accepted.{AreAccepted}
use Rattle.accepted_tapes.proofs.AcceptedLines.{Leads, Chained, chain_accepts}
use Rattle.accepted_tapes.proofs.AcceptedLines.Stage.{Fresh, One, Flown}
use Rattle.accepted_tapes.proofs.OneSession.{OnlyAsks, HasTold, tells}
use Rattle.accepted_tapes.proofs.Flown.{Keeps, asks_keep}
use Rattle.accepted_tapes.proofs.Posted.{file_posted, told_posted}
use Rattle.accepted_tapes.proofs.Told.{told_chain, hears_order}
use Rattle.accepted_tapes.proofs.Letters.{calm_post, calm_again, posts_line}
use Rattle.accepted_tapes.proofs.Delivered.{two_files, file_to, told_by, first_id, first_stamp, first_ticket, delivered, fits_in}

-- nobody is asked whose call has not begun
never_asked : (acts : List Act) → OnlyAsks acts → (acts ≡ [] → ⊥) → (w : World) (left : List Standing) (next : World) → FollowsAll three_nodes posted_lines acts [] w left next → ⊥
never_asked [] only some w left next follows = some refl
never_asked (StillWaits k ∷ acts) only some w left next (between, mid, one, rest) = one.3
never_asked (Does k (IsAnswered call answer reply) ∷ acts) only some w left next (between, mid, one, rest) = one.3
never_asked (act ∷ acts) only some w left next follows = absurd only

-- the session is at the first node
the_node : (node : ℕ) → IsOpenedAt posted_lines 1 node → node ≡ 1
the_node node (protocol, at) = ap number_in (sym at)
  where
    number_in : Option (Protocol × ℕ) → ℕ
    number_in None = 0
    number_in (Some kind) = kind.1

-- the line whose unit is the message
told : (acts : List Act) (outputs : List (List Entry)) (been : List Act) (new : List Session) → IsHandled three_nodes been (at_hello ∷ []) (codes "say 1 .") acts outputs new → failed_in acts ≡ [] → HasTold (codes ".") waiting acts new
told acts outputs been new handled sound =
    tells three_nodes been at_hello (codes "say 1 .") (codes ".") acts outputs new (Mailing texting) (Mailing greeted) small_mail waiting refl refl
    (record { is_unit = text_lines; whole = refl; led = (refl, refl) }) refl refl refl idle_line handled sound

-- what the beginning of a call may be to messages
abbrev MayBegin : NodeCall → Number → mail.World → mail.World → ℕ → Type 0
MayBegin call ticket new old own = BeginsCall three_nodes true old own call (Begun ticket) new ⊎ BeginsRead three_nodes old own call (Begun ticket) new

-- it has begun, and its letters are in flight
sent_off : (been : List Act) (acts : List Act) (new : List Session) (t : HasTold (codes ".") waiting acts new) (calls : List Standing) (w : World) (left : List Standing) (next : World) → calls ≡ [] → (managers : List MapRow) → ManagersAreMembers (first_membership 3 managers) → w ≡ first_world 3 managers
    → FollowsAll three_nodes posted_lines acts calls w left next → (octets : List ℕ) × (length octets ≤ 4096) × Keeps three_nodes (two_files octets) 2 next
sent_off been acts new t calls w left next none managers members opens follows =
    let (between, mid, one, (later, last, two, rest)) = subst (λ (a : List Act). FollowsAll three_nodes posted_lines a calls w left next) t.acts_are follows in
    let (node, call, at, made, either) = two in
    let is_one = the_node node at in
    let fresh : mid ≡ first_world 3 managers = one.1 ∙ opens in
    let stands : AllStands three_nodes true mid = subst (AllStands three_nodes true) (sym fresh) (opens_standing three_nodes true managers (omega arith) (omega arith) members) in
    let seen_fresh : mail_world_of mid ≡ opening_world 3 managers = ap mail_world_of fresh ∙ sym (opens_for_mail three_nodes true managers (omega arith) (omega arith) members) in
    ⊎_elim
    (λ (began : (ticket : Number) × MakesStep three_nodes true mid (OfMessages (Begin node call)) (Says (Told (Begun ticket))) last × (later ≡ between ++ record { session = 1; ticket = ticket } ∷ [])).
    let seen = step_of_mail three_nodes true mid last (OfMessages (Begin node call)) (Says (Told (Begun began.0))) began.1 stands in
    let begins : MayBegin call began.0 (mail_world_of last) (opening_world 3 managers) 1 =
    subst (λ (v : mail.World). MayBegin call began.0 (mail_world_of last) v 1) seen_fresh (subst (λ (n : ℕ). MayBegin call began.0 (mail_world_of last) (mail_world_of mid) n) is_one seen.1) in
    let sent = delivered managers call began.0 (mail_world_of last) made begins in (
      sent.0,
      sent.1,
      asks_keep three_nodes posted_lines (two_files sent.0) 2 t.more t.asked.asks later last left next
          (record { stands = stands_on three_nodes true mid last (OfMessages (Begin node call)) (Says (Told (Begun began.0))) began.1 stands; holds = sent.2 }) rest,
    ))
    (λ (fell : MakesStep three_nodes true mid (OfMessages (Begin node call)) (Says (Told (Faulted node))) last × (later ≡ between)).
    absurd (never_asked t.more t.asked.asks t.some last left next
    (subst (λ (c : List Standing). FollowsAll three_nodes posted_lines t.more c last left next) (fell.1 ∙ one.0 ∙ none) rest)))
    either

period : Leads three_nodes posted_lines (codes "say 1 .") (One at_hello) (Flown two_files 2)
period = record {
  accepts = λ been sessions calls w meets. (Say 1 (codes "."), refl, hears_order 3 refl posted_lines at_hello (codes ".") been sessions meets.0 refl, λ denied. tt);
  moves = λ been sessions calls w acts outputs new left next meets handled follows sound.
      let t = told acts outputs been new (subst (λ (ss : List Session). IsHandled three_nodes been ss (codes "say 1 .") acts outputs new) meets.0 handled) sound in
      (t.asked.session, t.asked.is, t.asked.idles, sent_off been acts new t calls w left next meets.1 meets.2.0 meets.2.1 meets.2.2 follows);
}

-- Which letters are in flight before each line that posts one: the two that carry the message, and those that answer them.
abbrev all_but : ℕ → Bool → (List ℕ → List Flight) → List ℕ → List Flight
all_but number keep flying octets = kept number keep (flying octets)

abbrev more_by : ℕ → ℕ → (List ℕ → List Flight) → List ℕ → List Flight
more_by number from flying octets = flying octets ++ record { number = number; letter = told_by from } ∷ []

abbrev third : List ℕ → List Flight
third = more_by 3 2 (all_but 1 true two_files)

abbrev fourth : List ℕ → List Flight
fourth = more_by 4 2 (all_but 1 true third)

abbrev fifth : List ℕ → List Flight
fifth = all_but 3 false fourth

abbrev sixth : List ℕ → List Flight
sixth = all_but 4 false fifth

abbrev seventh : List ℕ → List Flight
seventh = more_by 5 3 (all_but 2 false sixth)

abbrev last_of_all : List ℕ → List Flight
last_of_all = all_but 5 false seventh

again_first : Leads three_nodes posted_lines (codes "again 1") (Flown two_files 2) (Flown third 3)
again_first = posts_line three_nodes posted_lines (codes "again 1") (Again 1) 1 true two_files third 2 3 refl (λ been sessions. refl) (λ steps w next made. made) (λ steps why denied. denied) (calm_again 1) (file_to 2) (λ octets. refl) refl
    (λ octets w next said short h posts well. file_posted three_nodes (two_files octets) 2 w h refl 1 true 1 2 first_ticket first_id first_stamp 7 small_mail.mailboxes octets refl (omega arith) (omega arith)
    (fits_in _ 536870912 (omega (arith, short))) said next posts well)

again_second : Leads three_nodes posted_lines (codes "again 1") (Flown third 3) (Flown fourth 4)
again_second = posts_line three_nodes posted_lines (codes "again 1") (Again 1) 1 true third fourth 3 4 refl (λ been sessions. refl) (λ steps w next made. made) (λ steps why denied. denied) (calm_again 1) (file_to 2) (λ octets. refl) refl
    (λ octets w next said short h posts well. file_posted three_nodes (third octets) 3 w h refl 1 true 1 2 first_ticket first_id first_stamp 7 small_mail.mailboxes octets refl (omega arith) (omega arith)
    (fits_in _ 536870912 (omega (arith, short))) said next posts well)

post_third : Leads three_nodes posted_lines (codes "post 3") (Flown fourth 4) (Flown fifth 4)
post_third = posts_line three_nodes posted_lines (codes "post 3") (Post 3) 3 false fourth fifth 4 4 refl (λ been sessions. refl) (λ steps w next made. made) (λ steps why denied. denied) (calm_post 3) (λ octets. told_by 2) (λ octets. refl) refl
    (λ octets w next said short h posts well. told_posted three_nodes (fourth octets) 4 w h refl 3 false 2 1 first_ticket first_id refl (omega arith) (omega arith) said next posts well)

post_fourth : Leads three_nodes posted_lines (codes "post 4") (Flown fifth 4) (Flown sixth 4)
post_fourth = posts_line three_nodes posted_lines (codes "post 4") (Post 4) 4 false fifth sixth 4 4 refl (λ been sessions. refl) (λ steps w next made. made) (λ steps why denied. denied) (calm_post 4) (λ octets. told_by 2) (λ octets. refl) refl
    (λ octets w next said short h posts well. told_posted three_nodes (fifth octets) 4 w h refl 4 false 2 1 first_ticket first_id refl (omega arith) (omega arith) said next posts well)

post_second : Leads three_nodes posted_lines (codes "post 2") (Flown sixth 4) (Flown seventh 5)
post_second = posts_line three_nodes posted_lines (codes "post 2") (Post 2) 2 false sixth seventh 4 5 refl (λ been sessions. refl) (λ steps w next made. made) (λ steps why denied. denied) (calm_post 2) (file_to 3) (λ octets. refl) refl
    (λ octets w next said short h posts well. file_posted three_nodes (sixth octets) 4 w h refl 2 false 1 3 first_ticket first_id first_stamp 7 small_mail.mailboxes octets refl (omega arith) (omega arith)
    (fits_in _ 536870912 (omega (arith, short))) said next posts well)

post_fifth : Leads three_nodes posted_lines (codes "post 5") (Flown seventh 5) (Flown last_of_all 5)
post_fifth = posts_line three_nodes posted_lines (codes "post 5") (Post 5) 5 false seventh last_of_all 5 5 refl (λ been sessions. refl) (λ steps w next made. made) (λ steps why denied. denied) (calm_post 5) (λ octets. told_by 3) (λ octets. refl) refl
    (λ octets w next said short h posts well. told_posted three_nodes (seventh octets) 5 w h refl 5 false 3 1 first_ticket first_id refl (omega arith) (omega arith) said next posts well)

chained : Chained three_nodes posted_lines posted_lines Fresh
chained = told_chain 3 refl posted_lines (codes "say 1 ." ∷ codes "again 1" ∷ codes "again 1" ∷ codes "post 3" ∷ codes "post 4" ∷ codes "post 2" ∷ codes "post 5" ∷ []) (
  Flown two_files 2,
  period,
  (
    Flown third 3,
    again_first,
    (Flown fourth 4, again_second, (Flown fifth 4, post_third, (Flown sixth 4, post_fourth, (Flown seventh 5, post_second, (Flown last_of_all 5, post_fifth, tt))))),
  ),
)

pub letters_accepted : AreAccepted three_nodes posted_lines
letters_accepted map front line rest acts outputs sessions calls w members split runs follows sound alone =
    chain_accepts three_nodes posted_lines posted_lines Fresh chained [] [] [] (first_world 3 map) (refl, refl, refl, (map, members, refl)) front line rest acts outputs sessions calls w split runs follows sound
