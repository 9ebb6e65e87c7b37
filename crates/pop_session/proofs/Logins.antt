-- What a line that asks for a login is.
use Rattle.std.proofs.Common.{◌≡◌, ℕ, Bool, true, false, cond, List, [], ◌∷◌, Option, Some, None, unwrap_or, Result, Ok, Err, refl, sym, ◌∙◌, ap, subst}
use Rattle.mail_model.specs.Names.{lower}
use Rattle.mail_model.specs.Plan.{Plan, is_user}
use Rattle.mail_model.specs.Session.{is_long_line}
use Rattle.mail_model.specs.Pop.{Command, Fault, pop_command_of}
use Rattle.mail_model.specs.Pop.Command.{User, Pass, Apop, Stat, Listing, Uidl, Retr, Dele, Top, Noop, Rset, Quit, Capa}
use Rattle.mail_model.specs.Pop.Fault.{UnknownVerb, BadArgument, BadNumber}
use Rattle.mail_model.specs.PopReplies.{Item, ListingSlot, marked_ids}
use Rattle.mail_model.specs.Identity.{Id}
use Rattle.mail_model.specs.Maildrop.{Stage, Given, LineOutcome, says_line, login_outcome, pass_outcome, before_login, behind_login, of_message, message_at, deletion_of, command_outcome, named_by, named_in, after_line}
use Rattle.mail_model.specs.Maildrop.Stage.{Authorization, Transaction}
use Rattle.mail_model.specs.Maildrop.Given.{BySecret, ByDigest}
use Rattle.mail_model.specs.Maildrop.LineOutcome.{Answered, Closed, AsksLogin, AsksMessage, AsksDeletion}
use Rattle.pop_session.specs.Laws.{NamesUser, AsksBehindUser, AsksByApop}

-- whether it is a question for a login
is_login : LineOutcome → Bool
is_login (Answered lines) = false
is_login (Closed lines) = false
is_login (AsksLogin user given) = true
is_login (AsksMessage number id) = false
is_login (AsksDeletion ids) = false

user_in : LineOutcome → List ℕ
user_in (Answered lines) = []
user_in (Closed lines) = []
user_in (AsksLogin user given) = user
user_in (AsksMessage number id) = []
user_in (AsksDeletion ids) = []

given_in : LineOutcome → Given
given_in (Answered lines) = BySecret []
given_in (Closed lines) = BySecret []
given_in (AsksLogin user given) = given
given_in (AsksMessage number id) = BySecret []
given_in (AsksDeletion ids) = BySecret []

message_is_no_login : (f : Item → LineOutcome) (item : Option Item) → ((item : Item) → is_login (f item) ≡ false) → is_login (of_message f item) ≡ false
unfolding is_login
message_is_no_login f None h = refl
message_is_no_login f (Some item) h = h item

deletion_is_no_login : (ids : List Id) → is_login (deletion_of ids) ≡ false
unfolding is_login
deletion_is_no_login [] = refl
deletion_is_no_login (id ∷ ids) = refl

no_login_behind : (slots : List ListingSlot) (command : Command) → is_login (behind_login slots command) ≡ false
unfolding is_login
no_login_behind slots (User name) = refl
no_login_behind slots (Pass secret) = refl
no_login_behind slots (Apop name digest) = refl
no_login_behind slots Stat = refl
no_login_behind slots (Listing None) = refl
no_login_behind slots (Listing (Some n)) = message_is_no_login _ (message_at slots n) (λ item. refl)
no_login_behind slots (Uidl None) = refl
no_login_behind slots (Uidl (Some n)) = message_is_no_login _ (message_at slots n) (λ item. refl)
no_login_behind slots (Retr n) = message_is_no_login _ (message_at slots n) (λ item. refl)
no_login_behind slots (Dele n) = message_is_no_login _ (message_at slots n) (λ item. refl)
no_login_behind slots (Top n lines) = message_is_no_login _ (message_at slots n) (λ item. refl)
no_login_behind slots Noop = refl
no_login_behind slots Rset = refl
no_login_behind slots Capa = refl
no_login_behind slots Quit = deletion_is_no_login (marked_ids slots)

passes : (is : Bool) (name user : List ℕ) (given wanted : Given) (other : List (List ℕ)) → cond is (AsksLogin name given) (Answered other) ≡ AsksLogin user wanted →
    (is ≡ true) × (name ≡ user) × (given ≡ wanted)
unfolding user_in given_in
passes true name user given wanted other h = (refl, ap user_in h, ap given_in h)
passes false name user given wanted other h = absurd (cc)

-- what a session is told, and what a line says, by which a login is asked for so
abbrev pub SaysSo : Stage → Result Command Fault → List ℕ → Given → Type 0
SaysSo stage result user (BySecret secret) = (stage ≡ Authorization (Some user)) × (result ≡ Ok (Pass secret))
SaysSo stage result user (ByDigest digest) = (name : List ℕ) × (result ≡ Ok (Apop name digest)) × (lower name ≡ user)

-- what they are where a login is asked for
pub record Asks (plan : Plan) (stage : Stage) (result : Result Command Fault) (user : List ℕ) (given : Given) : Type 0 where
  pub stands : (named : Option (List ℕ)) × (stage ≡ Authorization named)
  pub configured : is_user plan user ≡ true
  pub says : SaysSo stage result user given

asks_passing : (plan : Plan) (name secret user : List ℕ) (given : Given) → pass_outcome plan (Some name) secret ≡ AsksLogin user given →
    Asks plan (Authorization (Some name)) (Ok (Pass secret)) user given
asks_passing plan name secret user given h =
    let all = passes (is_user plan name) name user (BySecret secret) given _ h in
    record {
      stands = (Some name, refl);
      configured = rw (sym all.1) all.0;
      says = subst (SaysSo (Authorization (Some name)) (Ok (Pass secret)) user) all.2 (ap (λ n. Authorization (Some n)) all.1, refl);
    }

asks_digest : (plan : Plan) (named : Option (List ℕ)) (name digest user : List ℕ) (given : Given) → login_outcome plan (lower name) (ByDigest digest) ≡ AsksLogin user given →
    Asks plan (Authorization named) (Ok (Apop name digest)) user given
asks_digest plan named name digest user given h =
    let all = passes (is_user plan (lower name)) (lower name) user (ByDigest digest) given _ h in
    record {
      stands = (named, refl);
      configured = subst (λ (u : List ℕ). is_user plan u ≡ true) all.1 all.0;
      says = subst (SaysSo (Authorization named) (Ok (Apop name digest)) user) all.2 (name, refl, all.1);
    }

asks_before : (plan : Plan) (named : Option (List ℕ)) (command : Command) (user : List ℕ) (given : Given) → before_login plan named command ≡ AsksLogin user given →
    Asks plan (Authorization named) (Ok command) user given
asks_before plan named (User name) user given h = absurd (cc)
asks_before plan None (Pass secret) user given h = absurd (cc)
asks_before plan (Some name) (Pass secret) user given h = asks_passing plan name secret user given h
asks_before plan named (Apop name digest) user given h = asks_digest plan named name digest user given h
asks_before plan named Stat user given h = absurd (cc)
asks_before plan named (Listing number) user given h = absurd (cc)
asks_before plan named (Uidl number) user given h = absurd (cc)
asks_before plan named (Retr number) user given h = absurd (cc)
asks_before plan named (Dele number) user given h = absurd (cc)
asks_before plan named (Top number lines) user given h = absurd (cc)
asks_before plan named Noop user given h = absurd (cc)
asks_before plan named Rset user given h = absurd (cc)
asks_before plan named Quit user given h = absurd (cc)
asks_before plan named Capa user given h = absurd (cc)

asks_by : (plan : Plan) (stage : Stage) (result : Result Command Fault) (user : List ℕ) (given : Given) → command_outcome plan stage result ≡ AsksLogin user given →
    Asks plan stage result user given
unfolding is_login
asks_by plan stage (Err UnknownVerb) user given h = absurd (cc)
asks_by plan stage (Err BadArgument) user given h = absurd (cc)
asks_by plan stage (Err BadNumber) user given h = absurd (cc)
asks_by plan (Authorization named) (Ok command) user given h = asks_before plan named command user given h
asks_by plan (Transaction slots) (Ok command) user given h =
    let no : true ≡ false = sym (ap is_login h) ∙ no_login_behind slots command in
    absurd (cc (no))

pub record AsksAtLength (plan : Plan) (stage : Stage) (long : Bool) (result : Result Command Fault) (user : List ℕ) (given : Given) : Type 0 where
  pub short : long ≡ false
  pub asks : Asks plan stage result user given

pub asks_at : (plan : Plan) (stage : Stage) (long : Bool) (result : Result Command Fault) (user : List ℕ) (given : Given) (text : List ℕ) →
    cond long (says_line text) (command_outcome plan stage result) ≡ AsksLogin user given → AsksAtLength plan stage long result user given
asks_at plan stage true result user given text h = absurd (cc)
asks_at plan stage false result user given text h = record { short = refl; asks = asks_by plan stage result user given h }

names_by : (line user : List ℕ) (long : Bool) (result : Result Command Fault) → is_long_line line ≡ long → pop_command_of line ≡ result →
    cond long None (named_by result) ≡ Some user → NamesUser line user
names_by line user true result long is h = absurd (cc)
names_by line user false (Ok (User name)) short is h = record { name = name; short = short; says = is; same = ap (λ o. unwrap_or o []) h }
names_by line user false (Ok (Pass secret)) short is h = absurd (cc)
names_by line user false (Ok (Apop name digest)) short is h = absurd (cc)
names_by line user false (Ok Stat) short is h = absurd (cc)
names_by line user false (Ok (Listing number)) short is h = absurd (cc)
names_by line user false (Ok (Uidl number)) short is h = absurd (cc)
names_by line user false (Ok (Retr number)) short is h = absurd (cc)
names_by line user false (Ok (Dele number)) short is h = absurd (cc)
names_by line user false (Ok (Top number lines)) short is h = absurd (cc)
names_by line user false (Ok Noop) short is h = absurd (cc)
names_by line user false (Ok Rset) short is h = absurd (cc)
names_by line user false (Ok Quit) short is h = absurd (cc)
names_by line user false (Ok Capa) short is h = absurd (cc)
names_by line user false (Err fault) short is h = absurd (cc)

user_of : Stage → Option (List ℕ)
user_of (Authorization user) = user
user_of (Transaction slots) = None

told : (stage : Stage) (line user : List ℕ) → after_line stage line ≡ Authorization (Some user) → named_in line ≡ Some user
unfolding user_of
told (Authorization old) line user h = ap user_of h
told (Transaction slots) line user h = absurd (cc)

pub asks_behind_user : AsksBehindUser
asks_behind_user plan stage first second user secret h =
    let all = asks_at plan _ (is_long_line second) (pop_command_of second) user (BySecret secret) _ h in
    record {
      names = names_by first user (is_long_line first) (pop_command_of first) refl refl (told stage first user all.asks.says.0);
      configured = all.asks.configured;
      short = all.short;
      says = all.asks.says.1;
    }

pub asks_by_apop : AsksByApop
asks_by_apop plan stage line user digest h =
    let all = asks_at plan stage (is_long_line line) (pop_command_of line) user (ByDigest digest) _ h in
    record {
      name = all.asks.says.0;
      named = all.asks.stands.0;
      before = all.asks.stands.1;
      configured = all.asks.configured;
      short = all.short;
      says = all.asks.says.1;
      same = all.asks.says.2;
    }
