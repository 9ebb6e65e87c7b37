-- The run lines of a tape that is freshly ended, and the acts of each.
use Rattle.std.proofs.Common.{◌≡◌, ◌⊎◌, ⊎_elim, ◌+◌, ℕ, List, [], ◌∷◌, ◌++◌, length, flat_map, All, Option, Some, refl, sym, ap, ◌∙◌, subst, append_assoc, append-nil}
use Rattle.std.specs.Prelude.{⊤}
use Rattle.std.proofs.lemmas.Bool.{cases_eq}
use Rattle.std.proofs.lemmas.List.Elements.{All-nil, All-append}
use Rattle.mail_model.specs.Plan.{Plan}
use Rattle.mail_model.specs.Tape.{Protocol, Order, tape_order}
use Rattle.mail_model.specs.Tape.Order.{Open, Say, Moves}
use Rattle.mail_model.specs.Tape.ClusterOrder.{Flow, Settle}
use Rattle.mail_model.specs.Transcript.{Entry}
use Rattle.session_model.specs.Sessions.{Session, session_at}
use Rattle.session_model.specs.Events.{ClusterEvent, NodeLife, IsEventOf}
use Rattle.session_model.specs.Events.ClusterEvent.{HasFlowed, HasFaulted, HasSettled}
use Rattle.session_model.specs.Acts.{Act, Acted, ActedAll, opened_session}
use Rattle.session_model.specs.Acts.Act.{Opens, Makes}
use Rattle.session_model.specs.Lives.{life_after}
use Rattle.session_model.specs.Turns.{Turn, Starts}
use Rattle.session_model.specs.Run.{IsBegun, IsHandled, AreHandled}
use Rattle.session_model.proofs.Acts.{pushed_other}
use Rattle.session_model.proofs.Driven.{begun_made}
use Rattle.fresh_sessions.specs.Tapes.{IsLine}
use Rattle.fresh_sessions.proofs.Plain.{OnlyOn, NoneOn, IsPlain, ArePlain, plain_only, plain_more, goes_plain}

-- Lines that were handled, cut in two.
pub record IsCutInTwo (plan : Plan) (been : List Act) (old : List Session) (lines more : List (List ℕ)) (acts others : List (List Act)) (last : List Session) : Type 0 where
  pub outputs : List (List (List Entry))
  pub says : List (List (List Entry))
  pub mid : List Session
  pub first : AreHandled plan been old lines acts outputs mid
  pub rest : AreHandled plan (been ++ flat_map (λ a. a) acts) mid more others says last

-- the cut comes where some run has the same lines and acts
pub cut_in_two : (plan : Plan) (been done : List Act) (old start last end : List Session) (lines more : List (List ℕ)) (acts others : List (List Act)) (outputs says : List (List (List Entry)))
    → AreHandled plan done start lines acts outputs end → AreHandled plan been old (lines ++ more) (acts ++ others) says last → IsCutInTwo plan been old lines more acts others last
cut_in_two plan been done old start last end [] more [] others [] says front all = record {
  outputs = [];
  says = says;
  mid = old;
  first = refl;
  rest = subst (λ (b : List Act). AreHandled plan b old more others says last) (sym (append-nil been)) all;
}
cut_in_two plan been done old start last end (line ∷ lines) more (a ∷ acts) others (o ∷ outputs) (s ∷ says) (mid, one, front) (next, first, all) =
    let later = cut_in_two plan (been ++ a) (done ++ a) next mid last end lines more acts others outputs says front all in
    record {
      outputs = s ∷ later.outputs;
      says = later.says;
      mid = later.mid;
      first = (next, first, later.first);
      rest = subst (λ (b : List Act). AreHandled plan b later.mid more others later.says last) (append_assoc been a (flat_map (λ x. x) acts)) later.rest;
    }
cut_in_two plan been done old start last end (line ∷ lines) more (a ∷ acts) others (o ∷ outputs) [] front all = absurd all
cut_in_two plan been done old start last end lines more acts others outputs says front all = absurd front

-- the order of a line that was begun
order_is : (order other : Order) (spelled : Option Order) → spelled ≡ Some order → spelled ≡ Some other → order ≡ other
order_is order other spelled is was = let both : Some order ≡ Some other = sym is ∙ was in cc

starts_as : (plan : Plan) (been : List Act) (old new : List Session) (line : List ℕ) (acts : List Act) (outputs : List (List Entry)) (turn : Turn) (order : Order)
    → (begun : IsBegun plan been old line acts outputs turn new) → IsLine line order → Starts plan been order old begun.first begun.next
starts_as plan been old new line acts outputs turn order begun is =
    subst (λ (o : Order). Starts plan been o old begun.first begun.next) (order_is begun.order order (tape_order line) begun.spelled is) begun.starts

-- a line that says something in a session, or lets letters flow
abbrev pub IsQuietLine : List ℕ → Type 0
IsQuietLine line = ((k : ℕ) × (text : List ℕ) × IsLine line (Say k text)) ⊎ IsLine line (Moves Flow)

abbrev pub AreQuietLines : List (List ℕ) → Type 0
AreQuietLines [] = ⊤
AreQuietLines (line ∷ lines) = IsQuietLine line × AreQuietLines lines

flows_plain : (plan : Plan) (lives : ℕ → NodeLife) (k : ℕ) (event : ClusterEvent) → IsEventOf plan lives Flow event → IsPlain k (Makes Flow event)
flows_plain plan lives k HasFlowed may = tt
flows_plain plan lives k (HasFaulted node) may = tt
flows_plain plan lives k event may = absurd may

module _ (plan : Plan) (been : List Act) (old new : List Session) (line : List ℕ) (acts : List Act) (outputs : List (List Entry)) (handled : IsHandled plan been old line acts outputs new) where
  -- its first act is plain
  first_plain : (k : ℕ) → IsQuietLine line → IsPlain k handled.begun.first
  first_plain k quiet = ⊎_elim
      (λ says.
      let starts = starts_as plan been old new line acts outputs handled.last (Say says.0 says.1) handled.begun says.2 in
      subst (IsPlain k) (sym starts.0) tt)
      (λ flows.
      let starts = starts_as plan been old new line acts outputs handled.last (Moves Flow) handled.begun flows in
      subst (IsPlain k) (sym starts.2) (flows_plain plan (life_after been) k starts.0 starts.1))
      quiet

  -- and all others
  pub line_plain : (k : ℕ) → IsQuietLine line → OnlyOn k old → ArePlain k acts new
  line_plain k quiet only =
      let begun = handled.begun in
      let plain = first_plain k quiet in
      let later = goes_plain plan k begun.next handled.last begun.mid new begun.more begun.others begun.goes
      (plain_only plan k old begun.mid only begun.first begun.said plain begun.acted) in
      subst (λ (a : List Act). ArePlain k a new) (sym begun.acts_are) (plain_more k begun.first begun.more new plain later)

-- A line that opens a session where none is on: behind its opening all is plain.
pub record IsOpened (protocol : Protocol) (node k : ℕ) (acts : List Act) (new : List Session) : Type 0 where
  pub greeting : List ℕ
  pub more : List Act
  pub are : acts ≡ Opens protocol node greeting ∷ more
  pub plain : ArePlain k more new

open_only : (plan : Plan) (old new : List Session) (protocol : Protocol) (node : ℕ) (greeting : List ℕ) (entries : List Entry) → Acted plan old (Opens protocol node greeting) entries new → NoneOn old
    → OnlyOn (length old + 1) new
open_only plan old new protocol node greeting entries acted none j session at on = ⊎_elim
    (λ same. same)
    (λ other. absurd (none j session (sym (pushed_other old (opened_session protocol node) j other) ∙ ap (λ (l : List Session). session_at l j) (sym acted.1) ∙ at) on))
    (cases_eq j (length old + 1))

pub line_opens : (plan : Plan) (been : List Act) (old new : List Session) (line : List ℕ) (acts : List Act) (outputs : List (List Entry)) (protocol : Protocol) (node : ℕ)
    → IsHandled plan been old line acts outputs new → IsLine line (Open protocol node) → NoneOn old → IsOpened protocol node (length old + 1) acts new
line_opens plan been old new line acts outputs protocol node handled opens none =
    let begun = handled.begun in
    let starts = starts_as plan been old new line acts outputs handled.last (Open protocol node) begun opens in
    let only = open_only plan old begun.mid protocol node _ begun.said (subst (λ (a : Act). Acted plan old a begun.said begun.mid) starts.2 begun.acted) none in
    record {
      greeting = _;
      more = begun.more;
      are = begun.acts_are ∙ ap (λ (a : Act). a ∷ begun.more) starts.2;
      plain = goes_plain plan (length old + 1) begun.next handled.last begun.mid new begun.more begun.others begun.goes only;
    }

-- a line that settled the cluster leaves all sessions as they were
settle_same : (plan : Plan) (old new : List Session) (outputs : List (List Entry)) → ActedAll plan old (Makes Settle HasSettled ∷ []) outputs new → new ≡ old
settle_same plan old new (entries ∷ []) (mid, acted, is) = is ∙ acted.1
settle_same plan old new [] done = absurd done
settle_same plan old new (entries ∷ more ∷ outputs) (mid, acted, is) = absurd is

-- quiet lines, one after another
lines_plain : (plan : Plan) (k : ℕ) (been : List Act) (old new : List Session) (lines : List (List ℕ)) (acts : List (List Act)) (outputs : List (List (List Entry)))
    → AreHandled plan been old lines acts outputs new → AreQuietLines lines → OnlyOn k old → All (IsPlain k) (flat_map (λ a. a) acts)
lines_plain plan k been old new [] [] [] same quiet only = All-nil (IsPlain k)
lines_plain plan k been old new (line ∷ lines) (a ∷ acts) (o ∷ outputs) (mid, one, more) quiet only =
    let first = line_plain plan been old mid line a o one k quiet.0 only in
    All-append (IsPlain k) a (flat_map (λ x. x) acts) first.each (lines_plain plan k (been ++ a) mid new lines acts outputs more quiet.1 first.only)
lines_plain plan k been old new lines acts outputs handled quiet only = absurd handled

-- The acts since a settle: a session was opened, and all behind it is plain.
pub record IsFreshSince (protocol : Protocol) (node k : ℕ) (acts : List Act) : Type 0 where
  pub greeting : List ℕ
  pub behind : List Act
  pub are : acts ≡ Opens protocol node greeting ∷ behind
  pub plain : All (IsPlain k) behind

pub fresh_since : (plan : Plan) (been : List Act) (old new : List Session) (settles opens : List ℕ) (lines : List (List ℕ)) (since : List (List Act)) (outputs : List (List (List Entry)))
    (protocol : Protocol) (node : ℕ) → AreHandled plan been old (settles ∷ opens ∷ lines) ((Makes Settle HasSettled ∷ []) ∷ since) outputs new → IsLine opens (Open protocol node)
    → AreQuietLines lines → NoneOn old → IsFreshSince protocol node (length old + 1) (flat_map (λ a. a) since)
fresh_since plan been old new settles opens lines (acts ∷ since) (said ∷ o ∷ outputs) protocol node (mid, settle, (next, opening, more)) is quiet none =
    let same = settle_same plan old mid said (begun_made plan been old mid settles (Makes Settle HasSettled ∷ []) said settle.last settle.begun).done in
    let opened = line_opens plan (been ++ Makes Settle HasSettled ∷ []) old next opens acts o protocol node (subst (λ (s : List Session). IsHandled plan (been ++ Makes Settle HasSettled ∷ []) s opens acts o next) same opening) is none in
    record {
      greeting = opened.greeting;
      behind = opened.more ++ flat_map (λ a. a) since;
      are = ap (λ (l : List Act). l ++ flat_map (λ a. a) since) opened.are;
      plain = All-append (IsPlain (length old + 1)) opened.more (flat_map (λ a. a) since) opened.plain.each
          (lines_plain plan (length old + 1) _ next new lines since outputs more quiet opened.plain.only);
    }
fresh_since plan been old new settles opens lines [] (said ∷ outputs) protocol node (mid, settle, rest) is quiet none = absurd rest
fresh_since plan been old new settles opens lines (acts ∷ since) (said ∷ []) protocol node (mid, settle, rest) is quiet none = absurd rest
fresh_since plan been old new settles opens lines since [] protocol node handled is quiet none = absurd handled
