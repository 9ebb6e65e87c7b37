-- The program's sessions stay those of the definitions, as one of them changes.
use Rattle.std.proofs.Common.{◌≡◌, ◌<◌, ◌≤◌, ◌+◌, ◌-◌, ◌++◌, ◌⊎◌, inl, inr, nat_eq, true, false, ℕ, zero, suc, List, [], ◌∷◌, length, Option, Some, None, refl, sym, ap, ◌∙◌, subst, arith}
use Rattle.std.specs.Prelude.{slice_get, slice_set, MatchBool, not, ◌≢◌, Bool, if◌then◌else◌}
use Rattle.mail_model.specs.Plan.{Plan}
use Rattle.session_model.specs.Talk.{Exchange, TalkState, Standing, Lead, IsOn, IsLed, Awaits, lead_of, stands, heard, standing_asked, answered}
use Rattle.session_model.specs.Talk.Lead.{Says, Ends, Asks}
use Rattle.session_model.specs.Talk.Standing.{Hearing, Waiting, EndedByQuit, EndedDown, EndedClosed}
use Rattle.session_model.specs.Run.{is_on, count_on, session_fault}
use Rattle.mail_model.specs.Site.TapeFault.{NoSuchSession}
use Rattle.call_tickets.specs.Moves.{HasEnded}
use Rattle.session_model.specs.Calls.{Call, Answer}
use Rattle.session_model.specs.Calls.Call.{Deliver, Login, Fetch, Strike}
use Rattle.session_model.specs.Calls.Answer.{Stored, Listed, Wrong, InUse, NoProfile, Part, GoneAlready, Dropped, Failed}
use Rattle.session_model.specs.Sessions.{Session, session_at}
use Rattle.session_model.specs.Acts.{Did, Deed}
use Rattle.session_model.specs.Acts.Deed.{IsFed, Hears, IsAnswered, IsGivenUp, Falls, Closes}
use Rattle.drive_tape.specs.declared.talker.Talker.{Talker}
use Rattle.drive_tape.specs.Talks.{Converse, Sits}
use Rattle.std.proofs.lemmas.Bool.Decides.{nat_tests}

pub some_same : {X : Type 0} (x y : X) → Some x ≡ Some y → x ≡ y
some_same x y is = cc

-- one session more
pub converse_more : (talkers : List (Option Talker)) (old : List Session) (talker : Option Talker) (one : Session)
    → Converse talkers old → Sits talker one → Converse (talkers ++ talker ∷ []) (old ++ one ∷ [])
converse_more [] [] talker one all last = (last, tt)
converse_more [] (c ∷ cs) talker one all last = absurd all
converse_more (t ∷ ts) [] talker one all last = absurd all
converse_more (t ∷ ts) (c ∷ cs) talker one all last = (all.0, converse_more ts cs talker one all.1 last)

-- the session at a place
pub converse_get : (talkers : List (Option Talker)) (old : List Session) (at : ℕ) (talker : Option Talker)
    → Converse talkers old → slice_get talkers at ≡ Some talker → (one : Session) × (slice_get old at ≡ Some one) × Sits talker one
converse_get [] old at talker all is = absurd (cc)
converse_get (t ∷ ts) [] at talker all is = absurd all
converse_get (t ∷ ts) (c ∷ cs) zero talker all is = (c, refl, subst (λ (x : Option Talker). Sits x c) (cc) all.0)
converse_get (t ∷ ts) (c ∷ cs) (suc at) talker all is = converse_get ts cs at talker all.1 is

pub matches_at : (talkers : List (Option Talker)) (old : List Session) (at : ℕ) (talker : Option Talker) (one : Session)
    → Converse talkers old → slice_get talkers at ≡ Some talker → slice_get old at ≡ Some one → Sits talker one
matches_at talkers old at talker one all there here =
    let got = converse_get talkers old at talker all there in
    subst (λ (s : Session). Sits talker s) (some_same got.0 one (sym got.1 ∙ here)) got.2

-- no session has a place after the last
pub converse_none : (talkers : List (Option Talker)) (old : List Session) (at : ℕ) → Converse talkers old → length talkers ≤ at → slice_get old at ≡ None
converse_none [] [] at all past = refl
converse_none [] (c ∷ cs) at all past = absurd all
converse_none (t ∷ ts) [] at all past = refl
converse_none (t ∷ ts) (c ∷ cs) zero all past = absurd (omega arith)
converse_none (t ∷ ts) (c ∷ cs) (suc at) all past = converse_none ts cs at all.1 (omega arith)

-- one session in place of another
pub converse_set : (talkers : List (Option Talker)) (old : List Session) (at : ℕ) (talker : Option Talker) (one : Session)
    → Converse talkers old → Sits talker one → Converse (slice_set talkers at talker) (slice_set old at one)
converse_set [] [] at talker one all here = tt
converse_set [] (c ∷ cs) at talker one all here = absurd all
converse_set (t ∷ ts) [] at talker one all here = absurd all
converse_set (t ∷ ts) (c ∷ cs) zero talker one all here = (here, all.1)
converse_set (t ∷ ts) (c ∷ cs) (suc at) talker one all here = (all.0, converse_set ts cs at talker one all.1 here)

pub converse_length : (talkers : List (Option Talker)) (old : List Session) → Converse talkers old → length talkers ≡ length old
converse_length [] [] all = refl
converse_length [] (c ∷ cs) all = absurd all
converse_length (t ∷ ts) [] all = absurd all
converse_length (t ∷ ts) (c ∷ cs) all = ap suc (converse_length ts cs all.1)

-- whatever a session does, it stays at its node
pub did_node : (plan : Plan) (old : Session) (deed : Deed) (said : List (List ℕ)) (new : Session) → Did plan old deed said new → new.node ≡ old.node
did_node plan old (IsFed more) said new did = ap (λ (s : Session). s.node) did.2
did_node plan old (Hears one) said new did = ap (λ (s : Session). s.node) did.5
did_node plan old (IsAnswered call answer reply) said new did = ap (λ (s : Session). s.node) did.7
did_node plan old (IsGivenUp call reply) said new did = ap (λ (s : Session). s.node) did.7
did_node plan old Falls said new did = ap (λ (s : Session). s.node) did.2
did_node plan old Closes said new did = ap (λ (s : Session). s.node) did.2

-- session k is at place k - 1
pub at_place : (sessions : List Session) (k place : ℕ) → k ≡ place + 1 → session_at sessions k ≡ slice_get sessions place
at_place sessions k place is =
    let not_zero : nat_eq k 0 ≡ false = grind (arith, nat_tests, is) in
    let minus : k - 1 ≡ place = omega (arith, is) in
    rw (not_zero, minus) refl

pub none_at : (talkers : List (Option Talker)) (sessions : List Session) (k : ℕ) → (k ≡ 0) ⊎ (length talkers < k) → Converse talkers sessions → session_at sessions k ≡ None
none_at talkers sessions k (inl none) all = rw none refl
none_at talkers sessions k (inr past) all =
    let not_zero : nat_eq k 0 ≡ false = grind (arith, nat_tests, past) in
    rw not_zero (converse_none talkers sessions (k - 1) all (omega (arith, past)))

-- a session that has ended does not stand, and one that has not does
pub ended_off : (standing : Standing) → HasEnded standing → is_on standing ≡ false
ended_off (Hearing state) ended = absurd ended
ended_off (Waiting state call) ended = absurd ended
ended_off EndedByQuit ended = refl
ended_off EndedDown ended = refl
ended_off EndedClosed ended = refl

pub on_on : (standing : Standing) → IsOn standing → is_on standing ≡ true
on_on (Hearing state) on = refl
on_on (Waiting state call) on = refl
on_on EndedByQuit on = absurd on
on_on EndedDown on = absurd on
on_on EndedClosed on = absurd on

pub is_spoken_to : (sessions : List Session) (k : ℕ) (plain : Session) → session_at sessions k ≡ Some plain → IsOn plain.standing → session_fault (session_at sessions k) ≡ None
is_spoken_to sessions k plain here on = let o : is_on plain.standing ≡ true = on_on plain.standing on in rw (here, o) refl

pub is_ended : (sessions : List Session) (k : ℕ) (plain : Session) → session_at sessions k ≡ Some plain → HasEnded plain.standing → session_fault (session_at sessions k) ≡ Some NoSuchSession
is_ended sessions k plain here ended = let o : is_on plain.standing ≡ false = ended_off plain.standing ended in rw (here, o) refl

flip : (b : Bool) (X Y : Type 0) → MatchBool b X Y → MatchBool (not b) Y X
flip true X Y is = is
flip false X Y is = is

pub is_on_so : (b : Bool) (standing : Standing) → MatchBool b (HasEnded standing) (IsOn standing) → MatchBool (not b) (IsOn standing) (HasEnded standing)
is_on_so b standing is = flip b (HasEnded standing) (IsOn standing) is

pub it_is : (b : Bool) (X Y : Type 0) → b ≡ true → MatchBool b X Y → X
it_is true X Y is so = so
it_is false X Y is so = absurd cc

pub it_is_not : (b : Bool) (X Y : Type 0) → b ≡ false → MatchBool b X Y → Y
it_is_not true X Y is so = absurd cc
it_is_not false X Y is so = so

-- lists in which one place is set
pub set_here : {X : Type 0} (xs : List X) (at : ℕ) (x : X) → at < length xs → slice_get (slice_set xs at x) at ≡ Some x
set_here [] at x within = absurd (omega (arith, within))
set_here (y ∷ xs) zero x within = refl
set_here (y ∷ xs) (suc at) x within = set_here xs at x (omega (arith, within))

pub set_length : {X : Type 0} (xs : List X) (at : ℕ) (x : X) → length (slice_set xs at x) ≡ length xs
set_length [] at x = refl
set_length (y ∷ xs) zero x = refl
set_length (y ∷ xs) (suc at) x = ap suc (set_length xs at x)

pub set_same : {X : Type 0} (xs : List X) (at : ℕ) (x : X) → slice_get xs at ≡ Some x → slice_set xs at x ≡ xs
set_same [] at x here = refl
set_same (y ∷ xs) zero x here = ap (λ z. z ∷ xs) (sym (some_same y x here))
set_same (y ∷ xs) (suc at) x here = ap (λ l. y ∷ l) (set_same xs at x here)

pub set_twice : {X : Type 0} (xs : List X) (at : ℕ) (x z : X) → slice_set (slice_set xs at x) at z ≡ slice_set xs at z
set_twice [] at x z = refl
set_twice (y ∷ xs) zero x z = refl
set_twice (y ∷ xs) (suc at) x z = ap (λ l. y ∷ l) (set_twice xs at x z)

pub within_get : {X : Type 0} (xs : List X) (at : ℕ) (x : X) → slice_get xs at ≡ Some x → at < length xs
within_get [] at x here = absurd cc
within_get (y ∷ xs) zero x here = omega arith
within_get (y ∷ xs) (suc at) x here = let before : at < length xs = within_get xs at x here in omega (arith, before)

pub set_here_with : (talkers : List (Option Talker)) (sessions : List Session) (at : ℕ) (one : Session) → Converse talkers (slice_set sessions at one) → at < length talkers
    → slice_get (slice_set sessions at one) at ≡ Some one
set_here_with talkers sessions at one all within =
    set_here sessions at one (omega (arith, within, converse_length talkers (slice_set sessions at one) all, set_length sessions at one))

pub sit_none : (talkers : List (Option Talker)) (old : List Session) (at : ℕ) (one : Session)
    → Converse talkers old → slice_get talkers at ≡ Some None → slice_get old at ≡ Some one → HasEnded one.standing
sit_none talkers old at one all there here = matches_at talkers old at None one all there here

-- what a session that heard a unit waits for
pub asks_waits : (plan : Plan) (old : Session) (one : Exchange) (said : List (List ℕ)) (new : Session) (call : Call) → Did plan old (Hears one) said new → one.call ≡ Some call
    → (state : TalkState) × (new.standing ≡ Waiting state call)
asks_waits plan old one said new call did is = by_lead (lead_of plan old.node did.0 one.unit) did.3.led (ap (λ (s : Session). s.standing) did.5)
  where
    by_lead : (lead : Lead) → IsLed lead one → new.standing ≡ stands plan did.0 one lead → (state : TalkState) × (new.standing ≡ Waiting state call)
    by_lead (Says reply) led so = let no : None ≡ Some call = sym led.0 ∙ is in absurd cc
    by_lead (Ends reply) led so = let no : None ≡ Some call = sym led.0 ∙ is in absurd cc
    by_lead (Asks asks) led so = (
      heard plan did.0 one.unit [],
      so ∙ ap (λ (a : Option Answer). standing_asked (heard plan did.0 one.unit []) asks a) did.6
          ∙ ap (λ (c : Call). Waiting (heard plan did.0 one.unit []) c) (some_same asks call (sym led.0 ∙ is)),
    )

abbrev NotWaiting : Standing → Type 0
NotWaiting standing = (state : TalkState) (call : Call) → standing ≢ Waiting state call

pub says_on : (plan : Plan) (old : Session) (one : Exchange) (said : List (List ℕ)) (new : Session) → Did plan old (Hears one) said new → one.call ≡ None
    → (state : TalkState) (call : Call) → new.standing ≢ Waiting state call
says_on plan old one said new did is = by_lead (lead_of plan old.node did.0 one.unit) did.3.led (ap (λ (s : Session). s.standing) did.5)
  where
    by_lead : (lead : Lead) → IsLed lead one → new.standing ≡ stands plan did.0 one lead → NotWaiting new.standing
    by_lead (Says reply) led so state call waits = let no : Hearing (heard plan did.0 one.unit one.reply) ≡ Waiting state call = sym so ∙ waits in absurd cc
    by_lead (Ends reply) led so state call waits = let no : EndedByQuit ≡ Waiting state call = sym so ∙ waits in absurd cc
    by_lead (Asks asks) led so state call waits = let no : Some asks ≡ None = sym led.0 ∙ is in absurd cc

answered_on : (state : TalkState) (call : Call) (answer : Answer) → NotWaiting (answered state call answer)
answered_on state (Deliver mail) answer s c waits = absurd cc
answered_on state (Login user given) (Stored id) s c waits = absurd cc
answered_on state (Login user given) (Listed items) s c waits = absurd cc
answered_on state (Login user given) Wrong s c waits = absurd cc
answered_on state (Login user given) InUse s c waits = absurd cc
answered_on state (Login user given) NoProfile s c waits = absurd cc
answered_on state (Login user given) (Part octets) s c waits = absurd cc
answered_on state (Login user given) GoneAlready s c waits = absurd cc
answered_on state (Login user given) Dropped s c waits = absurd cc
answered_on state (Login user given) Failed s c waits = absurd cc
answered_on state (Fetch user id) answer s c waits = absurd cc
answered_on state (Strike user ids) answer s c waits = absurd cc

pub replies_on : (plan : Plan) (old : Session) (call : Call) (answer : Answer) (reply said : List (List ℕ)) (new : Session) → Did plan old (IsAnswered call answer reply) said new
    → (state : TalkState) (other : Call) → new.standing ≢ Waiting state other
replies_on plan old call answer reply said new did state other waits =
    answered_on did.2 call answer state other (sym (ap (λ (s : Session). s.standing) did.7) ∙ waits)

pub on_not_ended : (standing : Standing) → IsOn standing → HasEnded standing → ⊥
on_not_ended (Hearing state) on ended = ended
on_not_ended (Waiting state call) on ended = ended
on_not_ended EndedByQuit on ended = on
on_not_ended EndedDown on ended = on
on_not_ended EndedClosed on ended = on

-- the session at a place that is within
pub found_at : (talkers : List (Option Talker)) (old : List Session) (at : ℕ) → Converse talkers old → at < length talkers → (one : Session) × (slice_get old at ≡ Some one)
found_at [] old at all within = absurd (omega (arith, within))
found_at (t ∷ ts) [] at all within = absurd all
found_at (t ∷ ts) (c ∷ cs) zero all within = (c, refl)
found_at (t ∷ ts) (c ∷ cs) (suc at) all within = found_at ts cs at all.1 (omega (arith, within))

-- one that asks says nothing yet
pub asks_silent : (plan : Plan) (old : Session) (one : Exchange) (said : List (List ℕ)) (new : Session) (call : Call) → Did plan old (Hears one) said new → one.call ≡ Some call → one.reply ≡ []
asks_silent plan old one said new call did is = by_lead (lead_of plan old.node did.0 one.unit) did.3.led
  where
    by_lead : (lead : Lead) → IsLed lead one → one.reply ≡ []
    by_lead (Says reply) led = let no : None ≡ Some call = sym led.0 ∙ is in absurd cc
    by_lead (Ends reply) led = let no : None ≡ Some call = sym led.0 ∙ is in absurd cc
    by_lead (Asks asks) led = silent one.answer did.6 led.1
      where
        silent : (answer : Option Answer) → answer ≡ None → Awaits one.unit asks answer one.reply → one.reply ≡ []
        silent None none awaits = awaits
        silent (Some answer) none awaits = absurd cc

-- one that says something and has ended was ended by QUIT
pub says_ended : (plan : Plan) (old : Session) (one : Exchange) (said : List (List ℕ)) (new : Session) → Did plan old (Hears one) said new → one.call ≡ None → HasEnded new.standing → new.standing ≡ EndedByQuit
says_ended plan old one said new did is = by_lead (lead_of plan old.node did.0 one.unit) did.3.led (ap (λ (s : Session). s.standing) did.5)
  where
    by_lead : (lead : Lead) → IsLed lead one → new.standing ≡ stands plan did.0 one lead → HasEnded new.standing → new.standing ≡ EndedByQuit
    by_lead (Says reply) led so ended = absurd (subst HasEnded so ended)
    by_lead (Ends reply) led so ended = so
    by_lead (Asks asks) led so ended = let no : Some asks ≡ None = sym led.0 ∙ is in absurd cc

answered_ended : (state : TalkState) (call : Call) (answer : Answer) → HasEnded (answered state call answer) → answered state call answer ≡ EndedByQuit
answered_ended state (Deliver mail) answer ended = absurd ended
answered_ended state (Login user given) (Stored id) ended = absurd ended
answered_ended state (Login user given) (Listed items) ended = absurd ended
answered_ended state (Login user given) Wrong ended = absurd ended
answered_ended state (Login user given) InUse ended = absurd ended
answered_ended state (Login user given) NoProfile ended = absurd ended
answered_ended state (Login user given) (Part octets) ended = absurd ended
answered_ended state (Login user given) GoneAlready ended = absurd ended
answered_ended state (Login user given) Dropped ended = absurd ended
answered_ended state (Login user given) Failed ended = absurd ended
answered_ended state (Fetch user id) answer ended = absurd ended
answered_ended state (Strike user ids) answer ended = refl

pub replies_ended : (plan : Plan) (old : Session) (call : Call) (answer : Answer) (reply said : List (List ℕ)) (new : Session) → Did plan old (IsAnswered call answer reply) said new
    → HasEnded new.standing → new.standing ≡ EndedByQuit
replies_ended plan old call answer reply said new did ended =
    let is : new.standing ≡ answered did.2 call answer = ap (λ (s : Session). s.standing) did.7 in
    is ∙ answered_ended did.2 call answer (subst HasEnded is ended)

-- how many stand once one of them changed
count_at : (sessions : List Session) (place : ℕ) (plain new : Session) → slice_get sessions place ≡ Some plain
    → count_on (slice_set sessions place new) + (if is_on plain.standing then 1 else 0) ≡ count_on sessions + (if is_on new.standing then 1 else 0)
count_at [] place plain new here = absurd cc
count_at (s ∷ ss) zero plain new here =
    let same : s ≡ plain = some_same s plain here in
    subst (λ (x : Session). (if is_on new.standing then 1 else 0) + count_on ss + (if is_on x.standing then 1 else 0) ≡ (if is_on s.standing then 1 else 0) + count_on ss + (if is_on new.standing then 1 else 0))
    same (omega arith)
count_at (s ∷ ss) (suc place) plain new here = let rest = count_at ss place plain new here in omega (arith, rest)

pub count_same : (sessions : List Session) (place : ℕ) (plain new : Session) → slice_get sessions place ≡ Some plain → IsOn plain.standing → IsOn new.standing → count_on (slice_set sessions place new) ≡ count_on sessions
count_same sessions place plain new here on still =
    let was : ◌≡◌ {A = ℕ} (if is_on plain.standing then 1 else 0) 1 = ap {B = ℕ} (λ (b : Bool). if b then 1 else 0) (on_on plain.standing on) in
    let now : ◌≡◌ {A = ℕ} (if is_on new.standing then 1 else 0) 1 = ap {B = ℕ} (λ (b : Bool). if b then 1 else 0) (on_on new.standing still) in
    let sum = count_at sessions place plain new here in omega (arith, sum, was, now)

pub count_less : (sessions : List Session) (place : ℕ) (plain new : Session) → slice_get sessions place ≡ Some plain → IsOn plain.standing → HasEnded new.standing → count_on (slice_set sessions place new) ≡ count_on sessions - 1
count_less sessions place plain new here on ended =
    let was : ◌≡◌ {A = ℕ} (if is_on plain.standing then 1 else 0) 1 = ap {B = ℕ} (λ (b : Bool). if b then 1 else 0) (on_on plain.standing on) in
    let now : ◌≡◌ {A = ℕ} (if is_on new.standing then 1 else 0) 0 = ap {B = ℕ} (λ (b : Bool). if b then 1 else 0) (ended_off new.standing ended) in
    let sum = count_at sessions place plain new here in omega (arith, sum, was, now)

pub not_true : (b : Bool) → not b ≡ true → b ≡ false
not_true true is = absurd cc
not_true false is = refl

pub not_false : (b : Bool) → not b ≡ false → b ≡ true
not_false true is = refl
not_false false is = absurd cc
