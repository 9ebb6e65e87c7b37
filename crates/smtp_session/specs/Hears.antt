-- What a command line and a text lead to, as the definition of a session says.
use Rattle.std.specs.Prelude.{◌≡◌, ℕ, true, false, List, Option, if◌then◌else◌}
use Rattle.mail_model.specs.Plan.{Plan}
use Rattle.mail_model.specs.Session as model
use Rattle.mail_model.specs.Session.{reply_text, lines_before, after_unit, rcpt_text, with_path, is_accepted, is_quit_line}
use Rattle.mail_model.specs.Session.Unit.{Line}
use Rattle.smtp_session.specs.declared.told.Heard.{Heard}
use Rattle.smtp_session.specs.declared.told.Heard.TheVariants.{GoesOn, Ends}
use Rattle.smtp_session.specs.declared.reply.Reply.{Reply}
use Rattle.smtp_session.specs.Replies.{text_of, front_of}

-- the reply
abbrev pub reply_in : Heard → Reply
reply_in (GoesOn reply) = reply
reply_in (Ends reply) = reply

-- at every node the reply is that to the line, and the session is told what the line tells
abbrev pub RepliedToLine : Plan → model.Told → List ℕ → Reply → model.Told → Type 0
RepliedToLine plan talk line reply new =
    (n : ℕ) → (text_of reply n ≡ reply_text plan n talk (Line line)) × (new ≡ after_unit plan talk (Line line) (reply_text plan n talk (Line line))) × (front_of reply n ≡ lines_before n line)

-- a command line is answered, and QUIT ends the session
abbrev pub HearsLine : Plan → model.Told → List ℕ → Heard → model.Told → Type 0
HearsLine plan talk line (GoesOn reply) new = (is_quit_line line ≡ false) × RepliedToLine plan talk line reply new
HearsLine plan talk line (Ends reply) new = (is_quit_line line ≡ true) × RepliedToLine plan talk line reply new

-- the reply to RCPT, and the envelope afterwards
abbrev pub Addresses : Plan → Option model.Envelope → List ℕ → List ℕ → Option model.Envelope → Type 0
Addresses plan old path reply new = (reply ≡ rcpt_text plan old path) × (new ≡ (if is_accepted (rcpt_text plan old path) then with_path plan old path else old))
