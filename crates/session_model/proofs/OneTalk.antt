-- What a session was fed and was answered fixes its exchanges.
use Rattle.std.proofs.Common.{◌≡◌, ℕ, List, [], ◌∷◌, ◌++◌, flat_map, length, map, Option, Some, None, refl, sym, ap, ap₂, ◌∙◌, subst, All}
use Rattle.std.proofs.lemmas.List.Elements.{All-head, All-tail}
use Rattle.mail_model.specs.Plan.{Plan}
use Rattle.mail_model.specs.Lines.{HasNoCrlf, sent_line}
use Rattle.mail_model.specs.Session.{Unit}
use Rattle.mail_model.specs.PopReplies.{shown_text, dotted_line, last_line}
use Rattle.mail_model.proofs.Units.{one_sent_line, one_unit}
use Rattle.session_model.specs.Calls.{Call, Answer, RepliesTo, ShowsPart, asked_lines}
use Rattle.session_model.specs.Calls.Call.{Deliver, Login, Fetch, Strike}
use Rattle.session_model.specs.Calls.Answer.{Stored, Listed, Wrong, InUse, NoProfile, Part, GoneAlready, Dropped, Failed}
use Rattle.session_model.specs.Talk.{Exchange, Standing, Lead, IsLed, Awaits, IsIdle, TalkGoes, in_text, lead_of, stands_by}
use Rattle.session_model.specs.Talk.Lead.{Says, Ends, Asks}
use Rattle.session_model.specs.Talk.Standing.{Hearing}
use Rattle.session_model.specs.Moves.{OneTalk, answers, answer_to}

-- octets are cut into whole lines in one way
pub one_lines : (a b : List (List ℕ)) → All HasNoCrlf a → All HasNoCrlf b → flat_map sent_line a ≡ flat_map sent_line b → a ≡ b
one_lines [] [] is_a is_b e = refl
one_lines [] (line ∷ b) is_a is_b e = absurd (some_octets line (flat_map sent_line b) e)
  where
    some_octets : (l more : List ℕ) → [] ≡ sent_line l ++ more → ⊥
    some_octets [] more e = cc
    some_octets (x ∷ l) more e = cc
one_lines (line ∷ a) [] is_a is_b e = absurd (some_octets line (flat_map sent_line a) (sym e))
  where
    some_octets : (l more : List ℕ) → [] ≡ sent_line l ++ more → ⊥
    some_octets [] more e = cc
    some_octets (x ∷ l) more e = cc
one_lines (line ∷ a) (other ∷ b) is_a is_b e =
    let first = one_sent_line line other (flat_map sent_line a) (flat_map sent_line b) (All-head HasNoCrlf line a is_a) (All-head HasNoCrlf other b is_b) e in
    ap₂ ◌∷◌ first.0 (one_lines a b (All-tail HasNoCrlf line a is_a) (All-tail HasNoCrlf other b is_b) first.1)

-- a message is shown in one way
one_part : (asked : Option ℕ) (octets : List ℕ) (a b : List (List ℕ)) → ShowsPart asked octets a → ShowsPart asked octets b → a ≡ b
one_part asked octets a b shows shows_too =
    shows.says
    ∙ ap (λ (l : List (List ℕ)). shown_text asked (length octets) ∷ map dotted_line l ++ last_line) (one_lines shows.lines shows_too.lines shows.are shows_too.are (shows.whole ∙ sym shows_too.whole))
    ∙ sym shows_too.says

-- an answer is replied to in one way
pub one_reply_to : (unit : Unit) (call : Call) (answer : Answer) (a b : List (List ℕ)) → RepliesTo unit call answer a → RepliesTo unit call answer b → a ≡ b
one_reply_to unit (Deliver mail) (Stored id) a b is is_too = is ∙ sym is_too
one_reply_to unit (Deliver mail) Failed a b is is_too = is ∙ sym is_too
one_reply_to unit (Login user given) (Listed items) a b is is_too = is ∙ sym is_too
one_reply_to unit (Login user given) Wrong a b is is_too = is ∙ sym is_too
one_reply_to unit (Login user given) InUse a b is is_too = is ∙ sym is_too
one_reply_to unit (Login user given) NoProfile a b is is_too = is ∙ sym is_too
one_reply_to unit (Login user given) Failed a b is is_too = is ∙ sym is_too
one_reply_to unit (Fetch user id) (Part octets) a b is is_too = one_part (asked_lines unit) octets a b is is_too
one_reply_to unit (Fetch user id) GoneAlready a b is is_too = is ∙ sym is_too
one_reply_to unit (Fetch user id) Failed a b is is_too = is ∙ sym is_too
one_reply_to unit (Strike user ids) Dropped a b is is_too = is ∙ sym is_too
one_reply_to unit (Strike user ids) Failed a b is is_too = is ∙ sym is_too
one_reply_to unit call answer a b is is_too = absurd is

one_awaited : (unit : Unit) (call : Call) (answer : Option Answer) (a b : List (List ℕ)) → Awaits unit call answer a → Awaits unit call answer b → a ≡ b
one_awaited unit call None a b is is_too = is ∙ sym is_too
one_awaited unit call (Some answer) a b is is_too = one_reply_to unit call answer a b is is_too

-- exchanges of the same parts
same_parts : (x y : Exchange) → x.unit ≡ y.unit → x.call ≡ y.call → x.answer ≡ y.answer → x.reply ≡ y.reply → x ≡ y
same_parts x y unit call answer reply = λ i. record { unit = unit i; call = call i; answer = answer i; reply = reply i }

-- two exchanges of one lead and one answer, before further answers
one_led : (lead : Lead) (x y : Exchange) (xs ys : List (Option Answer)) → x.unit ≡ y.unit → IsLed lead x → IsLed lead y
    → answer_to x.call x.answer ++ xs ≡ answer_to y.call y.answer ++ ys → (x ≡ y) × (xs ≡ ys)
one_led (Says reply) x y xs ys units is is_too e = (
  same_parts x y units (is.0 ∙ sym is_too.0) (is.1 ∙ sym is_too.1) (is.2 ∙ sym is_too.2),
  ap (λ (c : Option Call). answer_to c x.answer ++ xs) (sym is.0) ∙ e ∙ ap (λ (c : Option Call). answer_to c y.answer ++ ys) is_too.0,
)
one_led (Ends reply) x y xs ys units is is_too e = (
  same_parts x y units (is.0 ∙ sym is_too.0) (is.1 ∙ sym is_too.1) (is.2 ∙ sym is_too.2),
  ap (λ (c : Option Call). answer_to c x.answer ++ xs) (sym is.0) ∙ e ∙ ap (λ (c : Option Call). answer_to c y.answer ++ ys) is_too.0,
)
one_led (Asks call) x y xs ys units is is_too e =
    let both : x.answer ∷ xs ≡ y.answer ∷ ys =
    ap (λ (c : Option Call). answer_to c x.answer ++ xs) (sym is.0) ∙ e ∙ ap (λ (c : Option Call). answer_to c y.answer ++ ys) is_too.0 in
    let given : x.answer ≡ y.answer = cc in
    let later : xs ≡ ys = cc in (
      same_parts x y units (is.0 ∙ sym is_too.0) given
          (one_awaited y.unit call y.answer x.reply y.reply (subst (λ (u : Unit). Awaits u call y.answer x.reply) units (subst (λ (a : Option Answer). Awaits x.unit call a x.reply) given is.1)) is_too.1),
      later,
    )

-- where nothing is to be answered, no exchange is next
none_next : (plan : Plan) (node : ℕ) (first last : Standing) (octets rest : List ℕ) (y : Exchange) (ys : List Exchange) (end : Standing) (left : List ℕ)
    → last ≡ first → rest ≡ octets → IsIdle last rest → TalkGoes plan node first octets (y ∷ ys) end left → ⊥
none_next plan node (Hearing state) last octets rest y ys end left is same idle g =
    let here : IsIdle (Hearing state) octets = subst (λ (s : Standing). IsIdle s octets) is (subst (IsIdle last) same idle) in
    here y.unit g.0 g.1.is_unit g.1.whole
none_next plan node first last octets rest y ys end left is same idle g = absurd g

pub one_talk : OneTalk
one_talk plan node first octets [] [] last_x last_y rest_x rest_y g h same idle idle_too = (refl, g.0 ∙ sym h.0, g.1 ∙ sym h.1)
one_talk plan node first octets [] (y ∷ ys) last_x last_y rest_x rest_y g h same idle idle_too =
    absurd (none_next plan node first last_x octets rest_x y ys last_y rest_y g.0 g.1 idle h)
one_talk plan node first octets (x ∷ xs) [] last_x last_y rest_x rest_y g h same idle idle_too =
    absurd (none_next plan node first last_y octets rest_y x xs last_x rest_x h.0 h.1 idle_too g)
one_talk plan node (Hearing state) octets (x ∷ xs) (y ∷ ys) last_x last_y rest_x rest_y (left_x, next_x, g) (left_y, next_y, h) same idle idle_too =
    let units = one_unit (in_text state) x.unit y.unit left_x left_y next_x.is_unit next_y.is_unit (sym next_x.whole ∙ next_y.whole) in
    let led : IsLed (lead_of plan node state x.unit) y = subst (λ (u : Unit). IsLed (lead_of plan node state u) y) (sym units.0) next_y.led in
    let parts = one_led (lead_of plan node state x.unit) x y (answers xs) (answers ys) units.0 next_x.led led same in
    let later : TalkGoes plan node (stands_by plan node state x) left_x ys last_y rest_y =
    subst (λ (l : List ℕ). TalkGoes plan node (stands_by plan node state x) l ys last_y rest_y) (sym units.1)
    (subst (λ (one : Exchange). TalkGoes plan node (stands_by plan node state one) left_y ys last_y rest_y) (sym parts.0) h) in
    let rest = one_talk plan node (stands_by plan node state x) left_x xs ys last_x last_y rest_x rest_y g later parts.1 idle idle_too in
    (ap₂ ◌∷◌ parts.0 rest.0, rest.1, rest.2)
one_talk plan node first octets (x ∷ xs) (y ∷ ys) last_x last_y rest_x rest_y g h same idle idle_too = absurd g
