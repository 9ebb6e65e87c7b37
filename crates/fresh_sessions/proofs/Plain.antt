-- Acts of run lines that say something in a session, or let letters flow, where one session at most is on.
use Rattle.std.proofs.Common.{◌≡◌, ⊎_elim, ◌+◌, ℕ, zero, suc, List, [], ◌∷◌, All, Some, sym, ap, ◌∙◌, subst, arith, slice_get, if◌then◌else◌}
use Rattle.std.specs.Prelude.{⊤}
use Rattle.std.proofs.lemmas.Bool.{cases_eq}
use Rattle.std.proofs.lemmas.Option.{none-some}
use Rattle.std.proofs.lemmas.List.Elements.{All-nil, All-cons}
use Rattle.mail_model.specs.Plan.{Plan}
use Rattle.mail_model.specs.Tape.ClusterOrder.{Flow}
use Rattle.mail_model.specs.Transcript.{Entry}
use Rattle.mail_model.proofs.Sessions.{by_number}
use Rattle.session_model.specs.Talk.{Standing, IsOn}
use Rattle.session_model.specs.Talk.Standing.{Hearing, Waiting, EndedByQuit, EndedDown, EndedClosed}
use Rattle.session_model.specs.Sessions.{Session, session_at}
use Rattle.session_model.specs.Events.ClusterEvent.{HasFlowed, HasFaulted}
use Rattle.session_model.specs.Acts.{Act, Deed, Did, Acted}
use Rattle.session_model.specs.Acts.Act.{Opens, Does, Faults, StillWaits, Leaves, Makes, Abandons}
use Rattle.session_model.specs.Acts.Deed.{IsFed, Hears, IsAnswered, IsGivenUp, Falls, Closes}
use Rattle.session_model.specs.Turns.{Turn, Next, ActsGo}
use Rattle.session_model.specs.Turns.Turn.{Hearing as Hears_on, Beginning, Closing, Falling, Asking}
use Rattle.session_model.specs.Run.{is_on, count_on}
use Rattle.session_model.proofs.Acts.{replaced_other}

-- no session is on but number k, if that is
abbrev pub OnlyOn : ℕ → List Session → Type 0
OnlyOn k sessions = (j : ℕ) (session : Session) → session_at sessions j ≡ Some session → IsOn session.standing → j ≡ k

-- none is on
abbrev pub NoneOn : List Session → Type 0
NoneOn sessions = (j : ℕ) (session : Session) → session_at sessions j ≡ Some session → IsOn session.standing → ⊥

on_counts : (standing : Standing) (more : ℕ) → IsOn standing → (if is_on standing then 1 else 0) + more ≡ 0 → ⊥
on_counts (Hearing state) more on none = omega (arith, none)
on_counts (Waiting state call) more on none = omega (arith, none)
on_counts EndedByQuit more on none = absurd on
on_counts EndedDown more on none = absurd on
on_counts EndedClosed more on none = absurd on

none_at : (sessions : List Session) (n : ℕ) (session : Session) → count_on sessions ≡ 0 → slice_get sessions n ≡ Some session → IsOn session.standing → ⊥
none_at [] n session none at on = absurd (none-some session at)
none_at (first ∷ sessions) zero session none at on =
    let same : first ≡ session = cc in
    on_counts first.standing (count_on sessions) (subst (λ (s : Session). IsOn s.standing) (sym same) on) none
none_at (first ∷ sessions) (suc n) session none at on =
    let rest : count_on sessions ≡ 0 = omega (arith, none) in
    none_at sessions n session rest at on

-- where their count is zero
pub none_on : (sessions : List Session) → count_on sessions ≡ 0 → NoneOn sessions
none_on sessions none zero session at on = absurd (none-some session at)
none_on sessions none (suc n) session at on = none_at sessions n session none (sym (by_number sessions n) ∙ at) on

-- An act that a line may lead to which opens nothing, closes nothing and gives nothing up: session k alone hears and is answered.
abbrev pub IsPlain : ℕ → Act → Type 0
IsPlain k (Opens protocol node greeting) = ⊥
IsPlain k (Does j (IsFed octets)) = ⊤
IsPlain k (Does j (Hears one)) = j ≡ k
IsPlain k (Does j (IsAnswered call answer reply)) = j ≡ k
IsPlain k (Does j (IsGivenUp call reply)) = ⊥
IsPlain k (Does j Falls) = ⊤
IsPlain k (Does j Closes) = ⊤
IsPlain k (Faults node) = ⊤
IsPlain k (StillWaits j) = ⊤
IsPlain k (Leaves j user) = ⊤
IsPlain k (Makes Flow HasFlowed) = ⊤
IsPlain k (Makes Flow (HasFaulted node)) = ⊤
IsPlain k (Makes order event) = ⊥
IsPlain k (Abandons j) = ⊥

-- a session that does something was on
did_on : (plan : Plan) (old new : Session) (deed : Deed) (said : List (List ℕ)) → Did plan old deed said new → IsOn old.standing
did_on plan old new (IsFed more) said did = did.0
did_on plan old new (Hears one) said did = subst IsOn (sym did.2) tt
did_on plan old new (IsAnswered call answer reply) said did = subst IsOn (sym did.4) tt
did_on plan old new (IsGivenUp call reply) said did = subst IsOn (sym did.4) tt
did_on plan old new Falls said did = did.0
did_on plan old new Closes said did = did.0

module _ (plan : Plan) (k : ℕ) (old new : List Session) (only : OnlyOn k old) where
  -- so it is session k
  does_own : (j : ℕ) (deed : Deed) (entries : List Entry) → Acted plan old (Does j deed) entries new → j ≡ k
  does_own j deed entries (before, behind, said, at, did, says, is) = only j before at (did_on plan before behind deed said did)

  deed_only : (j : ℕ) (deed : Deed) (entries : List Entry) → Acted plan old (Does j deed) entries new → OnlyOn k new
  deed_only j deed entries acted i session at on = ⊎_elim
      (λ same. same ∙ does_own j deed entries acted)
      (λ other. only i session
      (sym (replaced_other old j i acted.0 acted.1 acted.3 other) ∙ ap (λ (l : List Session). session_at l i) (sym acted.6) ∙ at) on)
      (cases_eq i j)

  same_only : new ≡ old → OnlyOn k new
  same_only same = subst (OnlyOn k) (sym same) only

  pub plain_only : (act : Act) (entries : List Entry) → IsPlain k act → Acted plan old act entries new → OnlyOn k new
  plain_only (Opens protocol node greeting) entries plain acted = absurd plain
  plain_only (Does j deed) entries plain acted = deed_only j deed entries acted
  plain_only (Faults node) entries plain acted = same_only acted.1
  plain_only (StillWaits j) entries plain acted = same_only acted.1
  plain_only (Leaves j user) entries plain acted = same_only acted.1
  plain_only (Makes order event) entries plain acted = same_only acted.1
  plain_only (Abandons j) entries plain acted = same_only acted.1

  -- each act after the first of a line
  next_plain : (turn next : Turn) (act : Act) (entries : List Entry) → Next turn old act next → Acted plan old act entries new → IsPlain k act
  next_plain turn next (Does j (Hears one)) entries is acted = does_own j (Hears one) entries acted
  next_plain turn next (Does j (IsAnswered call answer reply)) entries is acted = does_own j (IsAnswered call answer reply) entries acted
  next_plain turn next (Does j Falls) entries is acted = tt
  next_plain turn next (Does j Closes) entries is acted = tt
  next_plain turn next (Faults node) entries is acted = tt
  next_plain turn next (StillWaits j) entries is acted = tt
  next_plain turn next (Leaves j user) entries is acted = tt
  next_plain (Hears_on j onward) next act entries is acted = absurd is
  next_plain (Beginning j onward) next act entries is acted = absurd is
  next_plain (Closing j onward) next act entries is acted = absurd is
  next_plain (Falling j node onward) next act entries is acted = absurd is
  next_plain (Asking j) next act entries is acted = absurd is

-- Acts that are plain, and leave one session on at most.
pub record ArePlain (k : ℕ) (acts : List Act) (new : List Session) : Type 0 where
  pub each : All (IsPlain k) acts
  pub only : OnlyOn k new

pub plain_more : (k : ℕ) (act : Act) (acts : List Act) (new : List Session) → IsPlain k act → ArePlain k acts new → ArePlain k (act ∷ acts) new
plain_more k act acts new plain later = record { each = All-cons (IsPlain k) act acts plain later.each; only = later.only }

pub goes_plain : (plan : Plan) (k : ℕ) (turn last : Turn) (old new : List Session) (acts : List Act) (outputs : List (List Entry)) → ActsGo plan turn old acts outputs last new → OnlyOn k old
    → ArePlain k acts new
goes_plain plan k turn last old new [] [] (same, is) only = record { each = All-nil (IsPlain k); only = same_only plan k old new only is }
goes_plain plan k turn last old new (act ∷ acts) (entries ∷ outputs) (next, mid, is, acted, goes) only =
    let plain = next_plain plan k old mid only turn next act entries is acted in
    plain_more k act acts new plain (goes_plain plan k next last mid new acts outputs goes (plain_only plan k old mid only act entries plain acted))
goes_plain plan k turn last old new [] (entries ∷ outputs) goes only = absurd goes
goes_plain plan k turn last old new (act ∷ acts) [] goes only = absurd goes
