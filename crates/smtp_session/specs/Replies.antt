-- The text of each reply, and the lines before it.
use Rattle.std.specs.Prelude.{ℕ, List, [], ◌++◌, flat_map, codes}
use Rattle.mail_model.specs.Lines.{sent_line}
use Rattle.mail_model.specs.Smtp.{greeting_text, helo_text, extension_lines, extended_text, closing_text, down_text, stored_text}
use Rattle.session_model.specs.Calls.{unstored_text}
use Rattle.smtp_session.specs.declared.reply.Reply.{Reply}
use Rattle.smtp_session.specs.declared.reply.Reply.TheVariants.{Ready, Hello, Extended, SenderOk, RecipientOk, NoSuchMailbox, TooManyRecipients, BadOrder, UnknownCommand, BadArgument, NotDone, BadParameter, LineTooLong, SendText, TooLarge, Reset, Fine, NotVerified, Stored, NotStored, Closing, Down}

-- the last line, without its CRLF
abbrev pub text_of : Reply → ℕ → List ℕ
text_of Ready node = greeting_text node
text_of Hello node = helo_text node
text_of Extended node = extended_text
text_of SenderOk node = codes "250 sender ok"
text_of RecipientOk node = codes "250 recipient ok"
text_of NoSuchMailbox node = codes "550 no such mailbox"
text_of TooManyRecipients node = codes "452 too many recipients"
text_of BadOrder node = codes "503 bad order"
text_of UnknownCommand node = codes "500 unknown command"
text_of BadArgument node = codes "501 bad argument"
text_of NotDone node = codes "502 not done here"
text_of BadParameter node = codes "555 parameter not known"
text_of LineTooLong node = codes "500 line too long"
text_of SendText node = codes "354 end with a line that is a single period"
text_of TooLarge node = codes "552 message too large"
text_of Reset node = codes "250 reset"
text_of Fine node = codes "250 ok"
text_of NotVerified node = codes "252 not verified"
text_of Stored node = stored_text
text_of NotStored node = unstored_text
text_of Closing node = closing_text node
text_of Down node = down_text node

-- the lines before the last, which the reply to EHLO alone has
abbrev pub front_of : Reply → ℕ → List (List ℕ)
front_of Extended node = extension_lines node
front_of Ready node = []
front_of Hello node = []
front_of SenderOk node = []
front_of RecipientOk node = []
front_of NoSuchMailbox node = []
front_of TooManyRecipients node = []
front_of BadOrder node = []
front_of UnknownCommand node = []
front_of BadArgument node = []
front_of NotDone node = []
front_of BadParameter node = []
front_of LineTooLong node = []
front_of SendText node = []
front_of TooLarge node = []
front_of Reset node = []
front_of Fine node = []
front_of NotVerified node = []
front_of Stored node = []
front_of NotStored node = []
front_of Closing node = []
front_of Down node = []

-- the reply as it is sent
abbrev pub octets_of : Reply → ℕ → List ℕ
octets_of reply node = flat_map sent_line (front_of reply node) ++ sent_line (text_of reply node)
