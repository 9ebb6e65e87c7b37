-- What a session has been told, as its definition sees it.
use Rattle.std.specs.Prelude.{◌≡◌, ℕ, Result, if◌then◌else◌}
use Rattle.std.specs.Option.{option_map}
use Rattle.mail_model.specs.Plan.{Plan}
use Rattle.mail_model.specs.Smtp.{Command, Fault}
use Rattle.mail_model.specs.Session as model
use Rattle.mail_model.specs.Session.{command_text, command_lines, told_by, is_accepted}
use Rattle.smtp_session.specs.declared.told.Told.{Told}
use Rattle.smtp_session.specs.declared.envelope.Greeting.{Greeting}
use Rattle.smtp_session.specs.declared.envelope.Envelope.{Envelope}
use Rattle.smtp_session.specs.declared.reply.Reply.{Reply}
use Rattle.smtp_session.specs.Replies.{text_of, front_of}

abbrev pub greeting_seen : Greeting → model.Greeting
greeting_seen greeting = record { name = greeting.name; extended = greeting.extended }

abbrev pub envelope_of : Envelope → model.Envelope
envelope_of envelope = record { sender = envelope.sender; mailboxes = envelope.mailboxes }

abbrev pub talk_of : Told → model.Told
talk_of told = record {
  greeting = option_map greeting_seen told.greeting;
  envelope = option_map envelope_of told.envelope;
  in_text = told.in_text;
}

-- the reply to a command, and what it leaves
abbrev pub DoesCommand : Plan → model.Told → Result Command Fault → Reply → model.Told → Type 0
DoesCommand plan talk command reply new = (n : ℕ) → (text_of reply n ≡ command_text plan n talk command)
    × (new ≡ (if is_accepted (command_text plan n talk command) then told_by plan talk command else talk)) × (front_of reply n ≡ command_lines n command)
