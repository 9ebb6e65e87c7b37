-- The text of each message that a session asks to be stored is whole.
use Rattle.std.proofs.Common.{◌≡◌, ◌⊎◌, inl, inr, ⊎_elim, ℕ, ◌≤◌, Bool, true, false, List, [], ◌∷◌, ◌++◌, length, length-append, append-nil, Option, Some, None, refl, sym, ap, ◌∙◌, subst, arith}
use Rattle.std.specs.Prelude.{All, ⊤, if◌then◌else◌}
use Rattle.std.proofs.lemmas.List.Elements.{All-head, All-tail}
use Rattle.mail_model.specs.Lines.{sent_line, ends_in_crlf}
use Rattle.mail_model.specs.Maildrop.{LineOutcome}
use Rattle.mail_model.specs.Maildrop.LineOutcome.{Answered, Closed, AsksLogin, AsksMessage, AsksDeletion}
use Rattle.mail_model.specs.Plan.{Plan}
use Rattle.mail_model.specs.Session.{Unit as SessionUnit, undotted, undotted_line, is_quit_line, is_large}
use Rattle.mail_model.specs.Session.Unit.{Line, Text}
use Rattle.mail_model.specs.Tape.{ClusterOrder}
use Rattle.mail_model.specs.Tape.{ClusterOrder as order}
use Rattle.session_model.specs.Acts.{Did}
use Rattle.session_model.specs.Acts.Deed.{Hears}
use Rattle.session_model.specs.Calls as model
use Rattle.session_model.specs.Sessions.{Session}
use Rattle.session_model.specs.Talk.{Exchange, TalkState, Lead, IsLed, lead_of, line_lead}
use Rattle.session_model.specs.Talk.Lead.{Says, Ends, Asks}
use Rattle.session_model.specs.Talk.TalkState.{Mailing, Entering, Reading}
use Rattle.call_tickets.specs.Seen.{call_seen}
use Rattle.call_tickets.specs.declared.call.Call.{Call}
use Rattle.call_tickets.specs.declared.call.Call.TheVariants.{Deliver, Login, Fetch, Strike, Leave}
use Rattle.mail_base.specs.Delivers.{mail_in}
use Rattle.node_core.specs.Beginning.{call_seen as machine_call, IsTextEnded}
use Rattle.cluster_world.specs.Ended.{IsEnded}
use Rattle.cluster_world.specs.Made.{StepMade, IsPost, AreOfRegroup}
use Rattle.cluster_world.specs.Settling.{IsOfSettle, AreOfSettle}
use Rattle.cluster_world.specs.Settling.IsOfSettle.{Posts, Pushes, Reports}
use Rattle.cluster_world.specs.Outcomes.{Outcome, IsLeave}
use Rattle.cluster_world.proofs.Ordered.{IsPushOf, IsReportOf, AreStepsOf}
use Rattle.cluster_world.specs.declared.step.Step.{Step}
use Rattle.cluster_world.specs.declared.step.Step.TheVariants as step
use Rattle.drive_tape.specs.Worlds.{IsWholeCall, IsWholeOutcome, AreWhole}

some_same : (a b : model.Call) → Some a ≡ Some b → a ≡ b
some_same a b e = cc

-- ---- what the world is asked

pub whole_ended : (call : Call) (asked : model.Call) → call_seen call ≡ Some asked → IsWholeCall asked → IsTextEnded (machine_call call)
whole_ended (Deliver deliver) asked e whole = subst IsWholeCall (sym (some_same (model.Call.Deliver (mail_in deliver)) asked e)) whole
whole_ended (Login user proof) asked e whole = tt
whole_ended (Fetch user id holders from most) asked e whole = tt
whole_ended (Strike user items) asked e whole = tt
whole_ended (Leave user login manager) asked e whole = tt

pub leave_ended : (user : List ℕ) (call : Call) → IsLeave user call → IsTextEnded (machine_call call)
leave_ended user (Deliver deliver) leave = absurd leave
leave_ended user (Login name proof) leave = tt
leave_ended user (Fetch name id holders from most) leave = tt
leave_ended user (Strike name items) leave = tt
leave_ended user (Leave name login manager) leave = tt

-- the steps of a run line begin no call
abbrev pub AreEnded : List StepMade → Type 0
AreEnded [] = ⊤
AreEnded (one ∷ more) = IsEnded one.step × AreEnded more

one_ended : (step : Step) (steps : List StepMade) → IsEnded step → (result : _) → steps ≡ record { step = step; result = result } ∷ [] → AreEnded steps
one_ended step steps ended result is = subst AreEnded (sym is) (ended, tt)

posts_ended : (steps : List StepMade) → All IsPost steps → AreEnded steps
posts_ended [] all = tt
posts_ended (one ∷ more) all = let first = All-head IsPost one more all in (subst IsEnded (sym first.1) tt, posts_ended more (All-tail IsPost one more all))

pushes_ended : (node : ℕ) (steps : List StepMade) → All (IsPushOf node) steps → AreEnded steps
pushes_ended node [] all = tt
pushes_ended node (one ∷ more) all = let first = All-head (IsPushOf node) one more all in (subst IsEnded (sym first.1) tt, pushes_ended node more (All-tail (IsPushOf node) one more all))

regroup_ended : (node : ℕ) (steps : List StepMade) → AreOfRegroup node steps → AreEnded steps
regroup_ended node [] all = tt
regroup_ended node (one ∷ more) all = (
  ⊎_elim (λ (opens : one.step ≡ step.Group node). subst IsEnded (sym opens) tt)
      (λ rest. ⊎_elim (λ (concludes : one.step ≡ step.Conclude node). subst IsEnded (sym concludes) tt) (λ (post : IsPost one). subst IsEnded (sym post.1) tt) rest) all.0,
  regroup_ended node more all.1,
)

reports_ended : (node : ℕ) (steps : List StepMade) → All (IsReportOf node) steps → AreEnded steps
reports_ended node [] all = tt
reports_ended node (one ∷ more) all = let first = All-head (IsReportOf node) one more all in (subst IsEnded (sym first.1) tt, reports_ended node more (All-tail (IsReportOf node) one more all))

of_settle_ended : (one : StepMade) → IsOfSettle one → IsEnded one.step
of_settle_ended one (Posts post) = subst IsEnded (sym post.1) tt
of_settle_ended one (Pushes from to apart is) = subst IsEnded (sym is) tt
of_settle_ended one (Reports from to apart is) = subst IsEnded (sym is) tt

pub settle_ended : (steps : List StepMade) → AreOfSettle steps → AreEnded steps
settle_ended [] all = tt
settle_ended (one ∷ more) all = (of_settle_ended one all.0, settle_ended more all.1)

pub are_ended : (line : ClusterOrder) (steps : List StepMade) → AreStepsOf line steps → AreEnded steps
are_ended (order.Crash node) steps are = one_ended _ steps tt are.0 are.1
are_ended (order.Start node) steps are = one_ended _ steps tt are.0 are.1
are_ended (order.Lose node) steps are = one_ended _ steps tt are.0 are.1
are_ended (order.Post letter) steps are = one_ended _ steps tt are.0 are.1
are_ended (order.Again letter) steps are = one_ended _ steps tt are.0 are.1
are_ended (order.Drop letter) steps are = one_ended _ steps tt are.0 are.1
are_ended order.Flow steps are = posts_ended steps are
are_ended (order.Push node) steps are = pushes_ended node steps are
are_ended (order.Widen node user id to) steps are = one_ended _ steps tt are.0 are.1
are_ended (order.Group node) steps are = one_ended _ steps tt are.0 are.1
are_ended (order.Conclude node) steps are = one_ended _ steps tt are.0 are.1
are_ended (order.Regroup node) steps are = regroup_ended node steps are
are_ended (order.Tick seconds) steps are = one_ended _ steps tt are.0 are.1
are_ended (order.Report node) steps are = reports_ended node steps are
are_ended order.Settle steps are = absurd are
are_ended (order.Maps user) steps are = absurd are
are_ended order.Sum steps are = subst AreEnded (sym are) tt

pub front_ended : (front more : List StepMade) → AreEnded (front ++ more) → AreEnded front
front_ended [] more ended = tt
front_ended (one ∷ front) more ended = (ended.0, front_ended front more ended.1)

pub whole_more : (outcomes : List Outcome) (outcome : Outcome) → AreWhole outcomes → IsWholeOutcome outcome → AreWhole (outcomes ++ outcome ∷ [])
whole_more [] outcome are is = (is, tt)
whole_more (first ∷ more) outcome are is = (are.0, whole_more more outcome are.1 is)

-- ---- what a session asks

-- after any octets, two or more decide
ends_behind : (front : List ℕ) (y z : ℕ) (l : List ℕ) → ends_in_crlf (front ++ y ∷ z ∷ l) ≡ ends_in_crlf (y ∷ z ∷ l)
ends_behind [] y z l = refl
ends_behind (a ∷ []) y z l = refl
ends_behind (a ∷ b ∷ []) y z l = refl
ends_behind (a ∷ b ∷ c ∷ front) y z l = ends_behind (b ∷ c ∷ front) y z l

ends_append : (front l : List ℕ) → 2 ≤ length l → ends_in_crlf (front ++ l) ≡ ends_in_crlf l
ends_append front [] two = absurd (omega (arith, two))
ends_append front (y ∷ []) two = absurd (omega (arith, two))
ends_append front (y ∷ z ∷ l) two = ends_behind front y z l

lines_end : (first : List ℕ) (lines : List (List ℕ)) → ends_in_crlf (undotted (first ∷ lines)) ≡ true
lines_end first [] = ap ends_in_crlf (append-nil (sent_line (undotted_line first))) ∙ ends_behind (undotted_line first) 13 10 []
lines_end first (second ∷ lines) =
    ends_append (sent_line (undotted_line first)) (undotted (second ∷ lines))
    (let e : 2 ≤ length (sent_line (undotted_line second) ++ undotted lines) = omega (arith, length-append (sent_line (undotted_line second)) (undotted lines), length-append (undotted_line second) (13 ∷ 10 ∷ [])) in e)
    ∙ lines_end second lines

text_ends : (lines : List (List ℕ)) → (undotted lines ≡ []) ⊎ (ends_in_crlf (undotted lines) ≡ true)
text_ends [] = inl refl
text_ends (first ∷ lines) = inr (lines_end first lines)

abbrev LeadsWhole : Lead → Type 0
LeadsWhole (Says reply) = ⊤
LeadsWhole (Ends reply) = ⊤
LeadsWhole (Asks call) = IsWholeCall call

says_or_ends : (b : Bool) (one other : List (List ℕ)) → LeadsWhole (if b then Ends one else Says other)
says_or_ends true one other = tt
says_or_ends false one other = tt

says_or_asks : (b : Bool) (one : List (List ℕ)) (call : model.Call) → IsWholeCall call → LeadsWhole (if b then Says one else Asks call)
says_or_asks true one call whole = tt
says_or_asks false one call whole = whole

line_whole : (user : List ℕ) (outcome : LineOutcome) → LeadsWhole (line_lead user outcome)
line_whole user (Answered reply) = tt
line_whole user (Closed reply) = tt
line_whole user (AsksLogin name given) = tt
line_whole user (AsksMessage number id) = tt
line_whole user (AsksDeletion ids) = tt

lead_whole : (plan : Plan) (node : ℕ) (state : TalkState) (one : SessionUnit) → LeadsWhole (lead_of plan node state one)
lead_whole plan node (Mailing talk) (Line line) = says_or_ends (is_quit_line line) _ _
lead_whole plan node (Mailing talk) (Text lines) = says_or_asks (is_large lines) _ _ (text_ends lines)
lead_whole plan node (Entering named) (Line line) = line_whole [] _
lead_whole plan node (Reading user slots) (Line line) = line_whole user _
lead_whole plan node (Entering named) (Text lines) = tt
lead_whole plan node (Reading user slots) (Text lines) = tt

-- the call that a unit asks
pub whole_asked : (plan : Plan) (old : Session) (one : Exchange) (said : List (List ℕ)) (new : Session) (asked : model.Call) → Did plan old (Hears one) said new → one.call ≡ Some asked → IsWholeCall asked
whole_asked plan old one said new asked did is = by_lead (lead_of plan old.node did.0 one.unit) (lead_whole plan old.node did.0 one.unit) did.3.led
  where
    by_lead : (lead : Lead) → LeadsWhole lead → IsLed lead one → IsWholeCall asked
    by_lead (Says reply) whole led = absurd (let no : ◌≡◌ {A = Option model.Call} None (Some asked) = sym led.0 ∙ is in cc)
    by_lead (Ends reply) whole led = absurd (let no : ◌≡◌ {A = Option model.Call} None (Some asked) = sym led.0 ∙ is in cc)
    by_lead (Asks call) whole led = subst IsWholeCall (some_same call asked (sym led.0 ∙ is)) whole
