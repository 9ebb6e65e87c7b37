-- A session that takes mail, said by itself: it needs nothing of how mail is read.
use Rattle.std.specs.Prelude.{◌≡◌, ℕ, List, [], ◌∷◌, ◌++◌}
use Rattle.mail_model.specs.Plan.{Plan}
use Rattle.mail_model.specs.Session.{Unit, Told, silent, after_unit}
use Rattle.mail_model.specs.Told.{IsUnit, unit_octets}
use Rattle.session_model.specs.Talk.{Breaks, Exchange, IsLed, Lead, Standing, TalkState, closing_line, mail_lead, standing_asked}
use Rattle.session_model.specs.Talk.Lead.{Says, Ends, Asks}
use Rattle.session_model.specs.Talk.Standing.{Hearing, EndedByQuit}
use Rattle.session_model.specs.Talk.TalkState.{Mailing}

-- what it was told once the unit was replied to
abbrev pub mail_heard : Plan → Told → Unit → List (List ℕ) → TalkState
mail_heard plan talk unit reply = Mailing (after_unit plan talk unit (closing_line reply))

-- how it stands after an exchange
abbrev pub mail_stands : Plan → Told → Exchange → Lead → Standing
mail_stands plan talk one (Says reply) = Hearing (mail_heard plan talk one.unit one.reply)
mail_stands plan talk one (Ends reply) = EndedByQuit
mail_stands plan talk one (Asks call) = standing_asked (mail_heard plan talk one.unit []) call one.answer

-- These exchanges, one after another, cut from the left of the octets; what is left is not heard yet.
abbrev pub MailGoes : Plan → ℕ → Standing → List ℕ → List Exchange → Standing → List ℕ → Type 0
MailGoes plan node first octets [] last rest = (last ≡ first) × (rest ≡ octets)
MailGoes plan node (Hearing (Mailing talk)) octets (one ∷ more) last rest =
    (left : List ℕ) × IsUnit talk.in_text one.unit × (octets ≡ unit_octets one.unit ++ left) × IsLed (mail_lead plan node talk one.unit) one
    × MailGoes plan node (mail_stands plan talk one (mail_lead plan node talk one.unit)) left more last rest
MailGoes plan node first octets (one ∷ more) last rest = ⊥

-- A session at a node that takes mail and was fed these octets has had these exchanges, stands so, and has these octets left.
pub record IsMailTalk (plan : Plan) (node : ℕ) (octets : List ℕ) (exchanges : List Exchange) (standing : Standing) (rest : List ℕ) : Type 0 where
  pub before : Standing
  pub goes : MailGoes plan node (Hearing (Mailing silent)) octets exchanges before rest
  pub ends : Breaks before standing
