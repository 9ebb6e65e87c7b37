-- No line of a reply has a CRLF in it.
use Rattle.std.proofs.Common.{◌≡◌, ◌+◌, ℕ, true, not, nat_eq, List, [], ◌∷◌, ◌++◌, refl}
use Rattle.std.specs.List.{list_all}
use Rattle.std.specs.Prelude.{codes, All}
use Rattle.std.specs.Fmt.{decimal}
use Rattle.std.proofs.lemmas.List.Elements.{All-cons, All-nil, All-append, All-get_or}
use Rattle.mail_model.specs.Lines.{HasNoLf, HasNoCrlf}
use Rattle.mail_model.specs.Smtp.{extension_lines}
use Rattle.mail_model.proofs.OneLine.{IsNoLf, by_test, decimal_no_lf}
use Rattle.smtp_session.specs.declared.reply.Reply.{Reply}
use Rattle.smtp_session.specs.declared.reply.Reply.TheVariants.{Ready, Hello, Extended, SenderOk, RecipientOk, NoSuchMailbox, TooManyRecipients, BadOrder, UnknownCommand, BadArgument, NotDone, BadParameter, LineTooLong, SendText, TooLarge, Reset, Fine, NotVerified, Stored, NotStored, Closing, Down}
use Rattle.smtp_session.specs.Replies.{text_of, front_of}

-- octets with no LF
none_of : (line : List ℕ) → HasNoLf line → HasNoCrlf line
none_of line none k within cr = All-get_or IsNoLf line (k + 1) 0 within none

-- a text that is written out, by a test of its octets
text : (line : List ℕ) → list_all (λ x. not (nat_eq x 10)) line ≡ true → HasNoCrlf line
text line h = none_of line (by_test line h)

-- one with the number of a node in it
named : (node : ℕ) (before behind : List ℕ) → list_all (λ x. not (nat_eq x 10)) before ≡ true → list_all (λ x. not (nat_eq x 10)) behind ≡ true
    → HasNoCrlf (before ++ decimal node ++ behind)
named node before behind front back =
    none_of (before ++ decimal node ++ behind) (All-append IsNoLf (before ++ decimal node) behind
    (All-append IsNoLf before (decimal node) (by_test before front) (decimal_no_lf node)) (by_test behind back))

pub one_line_of : (reply : Reply) (node : ℕ) → HasNoCrlf (text_of reply node)
one_line_of Ready node = named node (codes "220 node") (codes " Porcupine ready") refl refl
one_line_of Hello node = none_of (codes "250 node" ++ decimal node) (All-append IsNoLf (codes "250 node") (decimal node) (by_test (codes "250 node") refl) (decimal_no_lf node))
one_line_of Extended node = text (codes "250 PIPELINING") refl
one_line_of SenderOk node = text (codes "250 sender ok") refl
one_line_of RecipientOk node = text (codes "250 recipient ok") refl
one_line_of NoSuchMailbox node = text (codes "550 no such mailbox") refl
one_line_of TooManyRecipients node = text (codes "452 too many recipients") refl
one_line_of BadOrder node = text (codes "503 bad order") refl
one_line_of UnknownCommand node = text (codes "500 unknown command") refl
one_line_of BadArgument node = text (codes "501 bad argument") refl
one_line_of NotDone node = text (codes "502 not done here") refl
one_line_of BadParameter node = text (codes "555 parameter not known") refl
one_line_of LineTooLong node = text (codes "500 line too long") refl
one_line_of SendText node = text (codes "354 end with a line that is a single period") refl
one_line_of TooLarge node = text (codes "552 message too large") refl
one_line_of Reset node = text (codes "250 reset") refl
one_line_of Fine node = text (codes "250 ok") refl
one_line_of NotVerified node = text (codes "252 not verified") refl
one_line_of Stored node = text (codes "250 stored") refl
one_line_of NotStored node = text (codes "451 not stored, try again") refl
one_line_of Closing node = named node (codes "221 node") (codes " closing") refl refl
one_line_of Down node = named node (codes "421 node") (codes " down") refl refl

pub all_one : (reply : Reply) (node : ℕ) → All HasNoCrlf (text_of reply node ∷ [])
all_one reply node = All-cons HasNoCrlf (text_of reply node) [] (one_line_of reply node) (All-nil HasNoCrlf)

-- nor has one before it
extensions_of : (node : ℕ) → All HasNoCrlf (extension_lines node)
extensions_of node =
    All-cons HasNoCrlf (codes "250-node" ++ decimal node) (codes "250-SIZE 16777216" ∷ codes "250-8BITMIME" ∷ [])
    (none_of (codes "250-node" ++ decimal node) (All-append IsNoLf (codes "250-node") (decimal node) (by_test (codes "250-node") refl) (decimal_no_lf node)))
    (All-cons HasNoCrlf (codes "250-SIZE 16777216") (codes "250-8BITMIME" ∷ []) (text (codes "250-SIZE 16777216") refl)
    (All-cons HasNoCrlf (codes "250-8BITMIME") [] (text (codes "250-8BITMIME") refl) (All-nil HasNoCrlf)))

pub front_lines : (reply : Reply) (node : ℕ) → All HasNoCrlf (front_of reply node)
front_lines Extended node = extensions_of node
front_lines Ready node = All-nil HasNoCrlf
front_lines Hello node = All-nil HasNoCrlf
front_lines SenderOk node = All-nil HasNoCrlf
front_lines RecipientOk node = All-nil HasNoCrlf
front_lines NoSuchMailbox node = All-nil HasNoCrlf
front_lines TooManyRecipients node = All-nil HasNoCrlf
front_lines BadOrder node = All-nil HasNoCrlf
front_lines UnknownCommand node = All-nil HasNoCrlf
front_lines BadArgument node = All-nil HasNoCrlf
front_lines NotDone node = All-nil HasNoCrlf
front_lines BadParameter node = All-nil HasNoCrlf
front_lines LineTooLong node = All-nil HasNoCrlf
front_lines SendText node = All-nil HasNoCrlf
front_lines TooLarge node = All-nil HasNoCrlf
front_lines Reset node = All-nil HasNoCrlf
front_lines Fine node = All-nil HasNoCrlf
front_lines NotVerified node = All-nil HasNoCrlf
front_lines Stored node = All-nil HasNoCrlf
front_lines NotStored node = All-nil HasNoCrlf
front_lines Closing node = All-nil HasNoCrlf
front_lines Down node = All-nil HasNoCrlf

pub all_lines : (reply : Reply) (node : ℕ) → All HasNoCrlf (front_of reply node ++ text_of reply node ∷ [])
all_lines reply node = All-append HasNoCrlf (front_of reply node) (text_of reply node ∷ []) (front_lines reply node) (all_one reply node)
