-- The run lines that tell one message, in a cluster of so many nodes: each is accepted, and before the last no call begins.
use Rattle.std.proofs.Common.{◌≡◌, ℕ, Bool, true, false, List, [], ◌∷◌, ◌++◌, Some, None, refl, sym, ap, ◌∙◌, subst, codes, if◌then◌else◌}
use Rattle.std.proofs.lemmas.Option.{same_Some}
use Rattle.mail_model.specs.Lines.{sent_line}
use Rattle.mail_model.specs.Plan.{Plan}
use Rattle.mail_model.specs.Smtp.{greeting_text, helo_text}
use Rattle.mail_model.specs.Session.{silent}
use Rattle.mail_model.specs.Tape.{Order, tape_order}
use Rattle.mail_model.specs.Tape.Protocol.{Smtp}
use Rattle.mail_model.specs.Tape.Order.{Open, Say}
use Rattle.mail_model.specs.Site.TapeFault.{NoSuchSession}
use Rattle.mail_model.specs.Transcript.{Entry}
use Rattle.session_model.specs.Talk.{TalkState, IsNext}
use Rattle.session_model.specs.Talk.TalkState.{Mailing}
use Rattle.session_model.specs.Talk.Standing.{Hearing}
use Rattle.session_model.specs.Sessions.{Session}
use Rattle.session_model.specs.Acts.{Act, Acted}
use Rattle.session_model.specs.Acts.Act.{Opens, Does}
use Rattle.session_model.specs.Acts.Deed.{IsFed, Hears}
use Rattle.session_model.specs.Turns.{Turn, ActsGo, Starts}
use Rattle.session_model.specs.Turns.Turn.{Asking}
use Rattle.session_model.specs.Run.{IsHandled, refusal, is_on, is_no_node}
use Rattle.joint_world.specs.World.{World}
use Rattle.worked_sessions.specs.OneMessage.{plan_of_nodes, greeted, sending, addressed, texting, small_text, at_once, fed_with, heard_with, at_open, at_helo, at_mail, at_rcpt, at_data, at_subject, at_gap, at_hello}
use Rattle.worked_sessions.proofs.Lines.{whole_line, idle_line, idle_text, has_alice, reply_where, told_where, text_lines}
use Rattle.accepted_tapes.specs.Follows.{Standing, FollowsAll}
use Rattle.accepted_tapes.proofs.AcceptedLines.{Leads, Chained}
use Rattle.accepted_tapes.proofs.AcceptedLines.Stage.{Fresh, One}
use Rattle.accepted_tapes.proofs.OneSession.{Rests, nothing_more, only_fed, heard_one, says_once}

-- nothing follows of what a session is fed, nor of a unit that asks nothing
fed_quietly : (plan : Plan) (all : List (List ℕ)) (octets : List ℕ) (calls left : List Standing) (w next : World) → FollowsAll plan all (Does 1 (IsFed octets) ∷ []) calls w left next → (left ≡ calls) × (next ≡ w)
fed_quietly plan all octets calls left w next (between, mid, one, rest) = (rest.0 ∙ one.0, rest.1 ∙ one.1)

said_quietly : (plan : Plan) (all : List (List ℕ)) (octets line reply : List ℕ) (calls left : List Standing) (w next : World)
    → FollowsAll plan all (Does 1 (IsFed octets) ∷ Does 1 (Hears (at_once line reply)) ∷ []) calls w left next → (left ≡ calls) × (next ≡ w)
said_quietly plan all octets line reply calls left w next (between, mid, one, (later, last, two, rest)) = (rest.0 ∙ two.0 ∙ one.0, rest.1 ∙ two.1 ∙ one.1)

module _ (n : ℕ) (some : is_no_node (plan_of_nodes n) 1 ≡ false) (all : List (List ℕ)) where
  abbrev plan : Plan
  plan = plan_of_nodes n

  pub hears_order : (s : Session) (text : List ℕ) (been : List Act) (sessions : List Session) → sessions ≡ s ∷ [] → is_on s.standing ≡ true → refusal plan been sessions (Say 1 text) ≡ None
  hears_order s text been sessions is on =
      subst (λ (ss : List Session). refusal plan been ss (Say 1 text) ≡ None) (sym is) (ap (λ (b : Bool). if b then None else Some NoSuchSession) on)

  -- a line of which a unit is answered at once
  once : (s t : Session) (line text reply : List ℕ) (state : TalkState) → tape_order line ≡ Some (Say 1 text) → s.standing ≡ Hearing state
      → IsNext plan s.node state (s.rest ++ sent_line text) (at_once text reply) [] → t ≡ heard_one plan (fed_with s text) state (at_once text reply) → Rests t
      → Leads plan all line (One s) (One t)
  once s t line text reply state spelled hears is_next is rests = record {
    accepts = λ been sessions calls w meets. (Say 1 text, spelled, hears_order s text been sessions meets.0 (ap is_on hears), λ denied. tt);
    moves = λ been sessions calls w acts outputs new left next meets handled follows sound.
        let said = says_once plan been s line text acts outputs new state (at_once text reply) spelled hears is_next refl refl (subst Rests is rests)
        (subst (λ (ss : List Session). IsHandled plan been ss line acts outputs new) meets.0 handled) in
        let quiet = said_quietly plan all (sent_line text) text reply calls left w next (subst (λ (a : List Act). FollowsAll plan all a calls w left next) said.0 follows) in
        (said.1 ∙ ap (λ (b : Session). b ∷ []) (sym is), quiet.0 ∙ meets.1, (meets.2.0, meets.2.1, quiet.1 ∙ meets.2.2));
  }

  -- one of a text
  fed : (s : Session) (line text : List ℕ) (state : TalkState) → tape_order line ≡ Some (Say 1 text) → s.standing ≡ Hearing state → Rests (fed_with s text)
      → Leads plan all line (One s) (One (fed_with s text))
  fed s line text state spelled hears rests = record {
    accepts = λ been sessions calls w meets. (Say 1 text, spelled, hears_order s text been sessions meets.0 (ap is_on hears), λ denied. tt);
    moves = λ been sessions calls w acts outputs new left next meets handled follows sound.
        let said = only_fed plan been s line text acts outputs new spelled rests (subst (λ (ss : List Session). IsHandled plan been ss line acts outputs new) meets.0 handled) in
        let quiet = fed_quietly plan all (sent_line text) calls left w next (subst (λ (a : List Act). FollowsAll plan all a calls w left next) said.0 follows) in
        (said.1, quiet.0 ∙ meets.1, (meets.2.0, meets.2.1, quiet.1 ∙ meets.2.2));
  }

  opened : (acts : List Act) (outputs : List (List Entry)) (new : List Session) → IsHandled plan [] [] (codes "open smtp 1") acts outputs new → (acts ≡ Opens Smtp 1 (greeting_text 1) ∷ []) × (new ≡ at_open ∷ [])
  opened acts outputs new handled =
      let order : handled.begun.order ≡ Open Smtp 1 = same_Some handled.begun.order (Open Smtp 1) (sym handled.begun.spelled) in
      let starts : Starts plan [] (Open Smtp 1) [] handled.begun.first handled.begun.next =
      subst (λ (o : Order). Starts plan [] o [] handled.begun.first handled.begun.next) order handled.begun.starts in
      let acted : Acted plan [] (Opens Smtp 1 (greeting_text 1)) handled.begun.said handled.begun.mid =
      subst (λ (a : Act). Acted plan [] a handled.begun.said handled.begun.mid) starts.2 handled.begun.acted in
      let none = nothing_more plan at_open (record { state = Mailing silent; hears = refl; idle = idle_line }) (Asking 1) refl handled.begun.more handled.begun.others handled.last new
      (subst (λ (ss : List Session). ActsGo plan (Asking 1) ss handled.begun.more handled.begun.others handled.last new) acted.1
      (subst (λ (t : Turn). ActsGo plan t handled.begun.mid handled.begun.more handled.begun.others handled.last new) starts.3 handled.begun.goes)) in
      (handled.begun.acts_are ∙ ap (λ (a : Act). a ∷ handled.begun.more) starts.2 ∙ ap (λ (more : List Act). Opens Smtp 1 (greeting_text 1) ∷ more) none.0, none.1)

  accepts_open : (been : List Act) (sessions : List Session) → been ≡ [] → sessions ≡ [] → refusal plan been sessions (Open Smtp 1) ≡ None
  accepts_open been sessions fresh none =
      subst (λ (b : List Act). refusal plan b sessions (Open Smtp 1) ≡ None) (sym fresh)
      (subst (λ (ss : List Session). refusal plan [] ss (Open Smtp 1) ≡ None) (sym none) (rw some refl))

  opens : Leads plan all (codes "open smtp 1") Fresh (One at_open)
  opens = record {
    accepts = λ been sessions calls w meets. (Open Smtp 1, refl, accepts_open been sessions meets.0 meets.1, λ denied. tt);
    moves = λ been sessions calls w acts outputs new left next meets handled follows sound.
        let said = opened acts outputs new
        (subst (λ (b : List Act). IsHandled plan b [] (codes "open smtp 1") acts outputs new) meets.0
        (subst (λ (ss : List Session). IsHandled plan been ss (codes "open smtp 1") acts outputs new) meets.1 handled)) in
        let (between, mid, one, rest) = subst (λ (a : List Act). FollowsAll plan all a calls w left next) said.0 follows in
        (said.1, rest.0 ∙ one.0 ∙ meets.2, (meets.3.0, meets.3.1, rest.1 ∙ one.1 ∙ meets.3.2));
  }

  helo : Leads plan all (codes "say 1 HELO c.example") (One at_open) (One at_helo)
  helo = once at_open at_helo (codes "say 1 HELO c.example") (codes "HELO c.example") (helo_text 1) (Mailing silent) refl refl
      (record { is_unit = whole_line (codes "HELO c.example") refl; whole = refl; led = (refl, refl, refl) }) refl (record { state = Mailing greeted; hears = refl; idle = idle_line })

  mail : Leads plan all (codes "say 1 MAIL FROM:<bob@b.example>") (One at_helo) (One at_mail)
  mail = once at_helo at_mail (codes "say 1 MAIL FROM:<bob@b.example>") (codes "MAIL FROM:<bob@b.example>") (codes "250 sender ok") (Mailing greeted) refl refl
      (record { is_unit = whole_line (codes "MAIL FROM:<bob@b.example>") refl; whole = refl; led = (refl, refl, refl) }) refl (record { state = Mailing sending; hears = refl; idle = idle_line })

  rcpt : Leads plan all (codes "say 1 RCPT TO:<alice>") (One at_mail) (One at_rcpt)
  rcpt = once at_mail at_rcpt (codes "say 1 RCPT TO:<alice>") (codes "RCPT TO:<alice>") (codes "250 recipient ok") (Mailing sending) refl refl
      (record { is_unit = whole_line (codes "RCPT TO:<alice>") refl; whole = refl; led = (refl, refl, sym (ap reply_where has_alice)) })
      (sym (ap (λ (b : Bool). heard_with (fed_with at_mail (codes "RCPT TO:<alice>")) (at_once (codes "RCPT TO:<alice>") (codes "250 recipient ok")) (told_where b)) has_alice))
      (record { state = Mailing addressed; hears = refl; idle = idle_line })

  data_line : Leads plan all (codes "say 1 DATA") (One at_rcpt) (One at_data)
  data_line = once at_rcpt at_data (codes "say 1 DATA") (codes "DATA") (codes "354 end with a line that is a single period") (Mailing addressed) refl refl
      (record { is_unit = whole_line (codes "DATA") refl; whole = refl; led = (refl, refl, refl) }) refl (record { state = Mailing texting; hears = refl; idle = idle_text [] tt })

  subject : Leads plan all (codes "say 1 Subject: hi") (One at_data) (One at_subject)
  subject = fed at_data (codes "say 1 Subject: hi") (codes "Subject: hi") (Mailing texting) refl refl
      (record { state = Mailing texting; hears = refl; idle = idle_text (codes "Subject: hi" ∷ []) (text_lines.0, refl, tt) })

  gap : Leads plan all (codes "say 1") (One at_subject) (One at_gap)
  gap = fed at_subject (codes "say 1") [] (Mailing texting) refl refl
      (record { state = Mailing texting; hears = refl; idle = idle_text (codes "Subject: hi" ∷ [] ∷ []) (text_lines.0, refl, (whole_line [] refl, refl, tt)) })

  hello : Leads plan all (codes "say 1 hello") (One at_gap) (One at_hello)
  hello = fed at_gap (codes "say 1 hello") (codes "hello") (Mailing texting) refl refl (record { state = Mailing texting; hears = refl; idle = idle_text small_text text_lines })

  -- the run lines up to the last of the text, and others
  pub told_chain : (others : List (List ℕ)) → Chained plan all others (One at_hello)
      → Chained plan all (codes "open smtp 1" ∷ codes "say 1 HELO c.example" ∷ codes "say 1 MAIL FROM:<bob@b.example>" ∷ codes "say 1 RCPT TO:<alice>" ∷ codes "say 1 DATA"
      ∷ codes "say 1 Subject: hi" ∷ codes "say 1" ∷ codes "say 1 hello" ∷ others) Fresh
  told_chain others chain =
      (One at_open, opens, (One at_helo, helo, (One at_mail, mail, (One at_rcpt, rcpt, (One at_data, data_line, (One at_subject, subject, (One at_gap, gap, (One at_hello, hello, chain))))))))
