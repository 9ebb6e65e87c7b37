-- What a command leads to once its reply is known.
use Rattle.std.proofs.Common.{◌≡◌, ℕ, Bool, true, false, cond, List, refl}
use Rattle.mail_model.specs.Plan.{Plan}
use Rattle.mail_model.specs.Smtp.{command_of}
use Rattle.mail_model.specs.Session.{Told, is_long_line, is_quit}
use Rattle.smtp_session.specs.declared.told.Heard.TheVariants.{GoesOn, Ends}
use Rattle.smtp_session.specs.declared.reply.Reply.{Reply}
use Rattle.smtp_session.specs.Talks.{DoesCommand}
use Rattle.smtp_session.specs.Hears.{HearsLine}

pub closes : (plan : Plan) (talk new : Told) (line : List ℕ) (reply : Reply) (quits : Bool) → is_quit (command_of line) ≡ quits → is_long_line line ≡ false
    → DoesCommand plan talk (command_of line) reply new → HearsLine plan talk line (cond quits (Ends reply) (GoesOn reply)) new
closes plan talk new line reply true is short did = (rw (short, is) refl, λ n. let at = did n in (rw short at.0, rw short at.1, rw short at.2))
closes plan talk new line reply false is short did = (rw (short, is) refl, λ n. let at = did n in (rw short at.0, rw short at.1, rw short at.2))
