-- No line of a reply of the tables has a CRLF in it.
use Rattle.std.proofs.Common.{◌≡◌, ◌+◌, ℕ, Bool, true, false, not, nat_eq, List, [], ◌∷◌, ◌++◌, length, Option, Some, None, Result, Ok, Err, sum_by, refl, if◌then◌else◌}
use Rattle.std.specs.Prelude.{All, codes, ⊤}
use Rattle.std.specs.List.{list_all}
use Rattle.std.specs.Fmt.{decimal}
use Rattle.std.proofs.lemmas.List.Elements.{All-cons, All-nil, All-append}
use Rattle.mail_model.specs.Lines.{HasNoLf, HasNoCrlf}
use Rattle.mail_model.specs.Plan.{Plan, is_user}
use Rattle.mail_model.specs.Identity.{Id, id_text}
use Rattle.mail_model.specs.Session.{is_long_line}
use Rattle.mail_model.specs.Pop.{Command, Fault, pop_command_of}
use Rattle.mail_model.specs.Pop.Command.{User, Pass, Apop, Stat, Listing, Uidl, Retr, Dele, Top, Noop, Rset, Quit, Capa}
use Rattle.mail_model.specs.Pop.Fault.{UnknownVerb, BadArgument, BadNumber}
use Rattle.mail_model.specs.PopReplies.{Item, ListingSlot, unmarked, marked_ids, size_line, id_line, stat_text, deleted_text, lines_from, last_line, capability_lines, capability_reply, banner_text, ready_text, down_text}
use Rattle.mail_model.specs.Maildrop.{Stage, Given, LineOutcome, line_outcome, command_outcome, login_outcome, pass_outcome, before_login, behind_login, of_message, message_at, deletion_of}
use Rattle.mail_model.specs.Maildrop as drop
use Rattle.mail_model.specs.Maildrop.Stage.{Authorization, Transaction}
use Rattle.mail_model.specs.Maildrop.Given.{BySecret, ByDigest}
use Rattle.mail_model.specs.Maildrop.LineOutcome.{Answered, Closed, AsksLogin, AsksMessage, AsksDeletion}
use Rattle.mail_model.proofs.OneLine.{IsNoLf, by_test, decimal_no_lf}
use Rattle.mail_model.specs.Names.{lower}
use Rattle.pop_session.proofs.Messages.{none_of, text}

-- the lines of a reply
abbrev pub AreLines : LineOutcome → Type 0
AreLines (Answered lines) = All HasNoCrlf lines
AreLines (Closed lines) = All HasNoCrlf lines
AreLines (AsksLogin user given) = ⊤
AreLines (AsksMessage number id) = ⊤
AreLines (AsksDeletion ids) = ⊤

-- one line that is written out
one : (line : List ℕ) → list_all (λ x. not (nat_eq x 10)) line ≡ true → All HasNoCrlf (line ∷ [])
one line h = All-cons HasNoCrlf line [] (text line h) (All-nil HasNoCrlf)

-- one line with no LF
single : (line : List ℕ) → HasNoLf line → All HasNoCrlf (line ∷ [])
single line none = All-cons HasNoCrlf line [] (none_of line none) (All-nil HasNoCrlf)

joined : (a b : List ℕ) → HasNoLf a → HasNoLf b → HasNoLf (a ++ b)
joined a b = All-append IsNoLf a b

id_none : (id : Id) → HasNoLf (id_text id)
id_none id =
    joined (decimal id.node ++ 46 ∷ [] ++ decimal id.boot ++ 46 ∷ []) (decimal id.seq)
    (joined (decimal id.node ++ 46 ∷ [] ++ decimal id.boot) (46 ∷ [])
    (joined (decimal id.node ++ 46 ∷ []) (decimal id.boot) (joined (decimal id.node) (46 ∷ []) (decimal_no_lf id.node) (by_test (46 ∷ []) refl)) (decimal_no_lf id.boot)) (by_test (46 ∷ []) refl))
    (decimal_no_lf id.seq)

size_none : (n : ℕ) (item : Item) → HasNoLf (size_line n item)
size_none n item = joined (decimal n ++ codes " ") (decimal item.size) (joined (decimal n) (codes " ") (decimal_no_lf n) (by_test (codes " ") refl)) (decimal_no_lf item.size)

uid_none : (n : ℕ) (item : Item) → HasNoLf (id_line n item)
uid_none n item = joined (decimal n ++ codes " ") (id_text item.id) (joined (decimal n) (codes " ") (decimal_no_lf n) (by_test (codes " ") refl)) (id_none item.id)

stat_none : (slots : List ListingSlot) → HasNoLf (stat_text slots)
stat_none slots =
    joined (codes "+OK " ++ decimal (length (unmarked slots)) ++ codes " ") (decimal (sum_by (λ item. item.size) (unmarked slots)))
    (joined (codes "+OK " ++ decimal (length (unmarked slots))) (codes " ")
    (joined (codes "+OK ") (decimal (length (unmarked slots))) (by_test (codes "+OK ") refl) (decimal_no_lf (length (unmarked slots)))) (by_test (codes " ") refl))
    (decimal_no_lf (sum_by (λ item. item.size) (unmarked slots)))

deleted_none : (n : ℕ) → HasNoLf (deleted_text n)
deleted_none n = joined (codes "+OK message " ++ decimal n) (codes " deleted") (joined (codes "+OK message ") (decimal n) (by_test (codes "+OK message ") refl) (decimal_no_lf n)) (by_test (codes " deleted") refl)

banner_none : (node boot number seconds : ℕ) → HasNoLf (banner_text node boot number seconds)
banner_none node boot number seconds =
    let c : List ℕ = codes "<" ++ decimal boot in
    let d : List ℕ = c ++ codes "." in
    let e : List ℕ = d ++ decimal number in
    let f : List ℕ = e ++ codes "." in
    let g : List ℕ = f ++ decimal seconds in
    let h : List ℕ = g ++ codes "@node" in
    let i : List ℕ = h ++ decimal node in
    joined i (codes ">") (joined h (decimal node) (joined g (codes "@node") (joined f (decimal seconds) (joined e (codes ".") (joined d (decimal number) (joined c (codes ".")
    (joined (codes "<") (decimal boot) (by_test (codes "<") refl) (decimal_no_lf boot)) (by_test (codes ".") refl)) (decimal_no_lf number)) (by_test (codes ".") refl)) (decimal_no_lf seconds))
    (by_test (codes "@node") refl)) (decimal_no_lf node)) (by_test (codes ">") refl)

pub ready_none : (node boot number seconds : ℕ) → HasNoCrlf (ready_text node boot number seconds)
ready_none node boot number seconds =
    let a : List ℕ = codes "+OK node" ++ decimal node in
    none_of (ready_text node boot number seconds)
    (joined (a ++ codes " ready ") (banner_text node boot number seconds)
    (joined a (codes " ready ") (joined (codes "+OK node") (decimal node) (by_test (codes "+OK node") refl) (decimal_no_lf node)) (by_test (codes " ready ") refl))
    (banner_none node boot number seconds))

pub down_none : (node : ℕ) → HasNoCrlf (down_text node)
down_none node =
    none_of (down_text node) (joined (codes "-ERR [SYS/TEMP] node" ++ decimal node) (codes " down")
    (joined (codes "-ERR [SYS/TEMP] node") (decimal node) (by_test (codes "-ERR [SYS/TEMP] node") refl) (decimal_no_lf node)) (by_test (codes " down") refl))

-- a line for each message that is not marked, and the line that ends them
listed : (line : ℕ → Item → List ℕ) → ((n : ℕ) (item : Item) → HasNoLf (line n item)) → (n : ℕ) (slots : List ListingSlot) → All HasNoCrlf (lines_from line n slots ++ last_line)
listed line none n [] = one (codes ".") refl
listed line none n (slot ∷ slots) = by_mark (listed line none (n + 1) slots) slot.marked
  where
    by_mark : All HasNoCrlf (lines_from line (n + 1) slots ++ last_line) → (marked : Bool) → All HasNoCrlf ((if marked then lines_from line (n + 1) slots else line n slot.item ∷ lines_from line (n + 1) slots) ++ last_line)
    by_mark behind true = behind
    by_mark behind false = All-cons HasNoCrlf (line n slot.item) (lines_from line (n + 1) slots ++ last_line) (none_of (line n slot.item) (none n slot.item)) behind

of_one : (f : Item → LineOutcome) → ((item : Item) → AreLines (f item)) → (item : Option Item) → AreLines (of_message f item)
of_one f lines None = one (codes "-ERR no such message") refl
of_one f lines (Some item) = lines item

deletion : (ids : List Id) → AreLines (deletion_of ids)
deletion [] = one (codes "+OK bye") refl
deletion (id ∷ ids) = tt

login : (plan : Plan) (user : List ℕ) (given : Given) → AreLines (login_outcome plan user given)
login plan user given = by_user (is_user plan user)
  where
    by_user : (known : Bool) → AreLines (if known then AsksLogin user given else drop.says_line drop.wrong_text)
    by_user true = tt
    by_user false = one (codes "-ERR name or secret is wrong") refl

passes : (plan : Plan) (user : Option (List ℕ)) (secret : List ℕ) → AreLines (pass_outcome plan user secret)
passes plan None secret = one (codes "-ERR bad order") refl
passes plan (Some user) secret = login plan user (BySecret secret)

one_more : (line : List ℕ) (lines : List (List ℕ)) → list_all (λ x. not (nat_eq x 10)) line ≡ true → All HasNoCrlf lines → All HasNoCrlf (line ∷ lines)
one_more line lines h behind = All-cons HasNoCrlf line lines (text line h) behind

capabilities : All HasNoCrlf capability_reply
capabilities =
    one_more (codes "+OK capabilities") (capability_lines ++ last_line) refl
    (one_more (codes "TOP") (codes "USER" ∷ codes "UIDL" ∷ codes "PIPELINING" ∷ codes "RESP-CODES" ∷ last_line) refl
    (one_more (codes "USER") (codes "UIDL" ∷ codes "PIPELINING" ∷ codes "RESP-CODES" ∷ last_line) refl
    (one_more (codes "UIDL") (codes "PIPELINING" ∷ codes "RESP-CODES" ∷ last_line) refl
    (one_more (codes "PIPELINING") (codes "RESP-CODES" ∷ last_line) refl
    (one_more (codes "RESP-CODES") last_line refl (one (codes ".") refl))))))

before : (plan : Plan) (user : Option (List ℕ)) (command : Command) → AreLines (before_login plan user command)
before plan user (User name) = one (codes "+OK send PASS") refl
before plan user (Pass secret) = passes plan user secret
before plan user (Apop name digest) = login plan (lower name) (ByDigest digest)
before plan user Stat = one (codes "-ERR bad order") refl
before plan user (Listing number) = one (codes "-ERR bad order") refl
before plan user (Uidl number) = one (codes "-ERR bad order") refl
before plan user (Retr number) = one (codes "-ERR bad order") refl
before plan user (Dele number) = one (codes "-ERR bad order") refl
before plan user (Top number lines) = one (codes "-ERR bad order") refl
before plan user Noop = one (codes "-ERR bad order") refl
before plan user Rset = one (codes "-ERR bad order") refl
before plan user Quit = one (codes "+OK bye") refl
before plan user Capa = capabilities

after : (slots : List ListingSlot) (command : Command) → AreLines (behind_login slots command)
after slots (User name) = one (codes "-ERR bad order") refl
after slots (Pass secret) = one (codes "-ERR bad order") refl
after slots (Apop name digest) = one (codes "-ERR bad order") refl
after slots Stat = single (stat_text slots) (stat_none slots)
after slots (Listing None) = All-cons HasNoCrlf (codes "+OK listing") (lines_from size_line 1 slots ++ last_line) (text (codes "+OK listing") refl) (listed size_line size_none 1 slots)
after slots (Listing (Some n)) = of_one _ (λ item. single (codes "+OK " ++ size_line n item) (joined (codes "+OK ") (size_line n item) (by_test (codes "+OK ") refl) (size_none n item))) (message_at slots n)
after slots (Uidl None) = All-cons HasNoCrlf (codes "+OK unique ids") (lines_from id_line 1 slots ++ last_line) (text (codes "+OK unique ids") refl) (listed id_line uid_none 1 slots)
after slots (Uidl (Some n)) = of_one _ (λ item. single (codes "+OK " ++ id_line n item) (joined (codes "+OK ") (id_line n item) (by_test (codes "+OK ") refl) (uid_none n item))) (message_at slots n)
after slots (Retr n) = of_one _ (λ item. tt) (message_at slots n)
after slots (Dele n) = of_one _ (λ item. single (deleted_text n) (deleted_none n)) (message_at slots n)
after slots (Top n lines) = of_one _ (λ item. tt) (message_at slots n)
after slots Noop = one (codes "+OK") refl
after slots Rset = one (codes "+OK unmarked") refl
after slots Quit = deletion (marked_ids slots)
after slots Capa = capabilities

command_lines : (plan : Plan) (stage : Stage) (command : Result Command Fault) → AreLines (command_outcome plan stage command)
command_lines plan stage (Err UnknownVerb) = one (codes "-ERR unknown command") refl
command_lines plan stage (Err BadArgument) = one (codes "-ERR bad argument") refl
command_lines plan stage (Err BadNumber) = one (codes "-ERR bad argument") refl
command_lines plan (Authorization user) (Ok command) = before plan user command
command_lines plan (Transaction slots) (Ok command) = after slots command

pub outcome_lines : (plan : Plan) (stage : Stage) (line : List ℕ) → AreLines (line_outcome plan stage line)
outcome_lines plan stage line = by_length (is_long_line line)
  where
    by_length : (long : Bool) → AreLines (if long then drop.says_line (codes "-ERR line too long") else command_outcome plan stage (pop_command_of line))
    by_length true = one (codes "-ERR line too long") refl
    by_length false = command_lines plan stage (pop_command_of line)
