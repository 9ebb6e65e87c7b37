-- Whoever is shown as the one session of a tape, and said QUIT, has ended.
use Rattle.std.proofs.Common.{◌≡◌, ◌⊎◌, inl, inr, ⊎_elim, ℕ, zero, suc, List, [], ◌∷◌, ◌++◌, map, if◌then◌else◌, refl, sym, ap, ◌∙◌, subst, codes, ◌+◌}
use Rattle.mail_model.specs.Plan.{Plan}
use Rattle.mail_model.specs.Session.{Unit, silent}
use Rattle.mail_model.specs.Session.Unit.{Line}
use Rattle.mail_model.specs.Stored.{opened}
use Rattle.mail_model.specs.Tape.{Protocol}
use Rattle.mail_model.specs.Tape.Protocol.{Smtp}
use Rattle.mail_model.specs.Transcript.{Entry}
use Rattle.mail_model.proofs.Sessions.{by_number}
use Rattle.object_model.specs.Lists.{Among}
use Rattle.session_model.specs.Talk.{Exchange, Standing, Breaks, mail_lead}
use Rattle.session_model.specs.Talk.TalkState.{Mailing, Entering, Reading}
use Rattle.session_model.specs.Talk.Standing.{Hearing, Waiting, EndedByQuit, EndedDown, EndedClosed}
use Rattle.session_model.specs.MailTalk.{MailGoes, IsMailTalk, mail_stands}
use Rattle.session_model.specs.Readings.{view, views}
use Rattle.session_model.specs.Sessions.{Session, IsSession, AreSessions, session_at, exchanges_of}
use Rattle.session_model.specs.Turns.{Waits}
use Rattle.session_model.proofs.Acts.{kind_of}
use Rattle.session_model.proofs.MailTalk.{sessions_take_mail}
use Rattle.session_model.proofs.Readings.{one_reading}
use Rattle.worked_settles.proofs.Settled.{AllEnded}
use Rattle.session_model.specs.Run.{is_on}

abbrev pub quit : Unit
quit = Line (codes "QUIT")

-- one of the exchanges is of this unit
abbrev pub HasUnit : Unit → List Exchange → Type 0
HasUnit unit [] = ⊥
HasUnit unit (one ∷ more) = (one.unit ≡ unit) ⊎ HasUnit unit more

-- a unit that was replied to is that of an exchange
pub seen_unit : (unit : Unit) (reply : List (List ℕ)) (xs : List Exchange) → Among (unit, reply) (views xs) → HasUnit unit xs
seen_unit unit reply [] among = among
seen_unit unit reply (one ∷ xs) among = by (seen_unit unit reply xs) one.reply among
  where
    by : (Among (unit, reply) (views xs) → HasUnit unit xs) → (r : List (List ℕ)) → Among (unit, reply) (view one.unit r ++ views xs) → (one.unit ≡ unit) ⊎ HasUnit unit xs
    by later [] there = inr (later there)
    by later (line ∷ lines) there = ⊎_elim (λ is. inl (ap (λ (p : Unit × List (List ℕ)). p.0) is)) (λ more. inr (later more)) there

in_front : (unit : Unit) (xs ys : List Exchange) → HasUnit unit xs → HasUnit unit (xs ++ ys)
in_front unit [] ys has = absurd has
in_front unit (one ∷ xs) ys has = ⊎_elim (λ is. inl is) (λ later. inr (in_front unit xs ys later)) has

-- a session that takes mail and heard QUIT has ended
quits : (plan : Plan) (node : ℕ) (first : Standing) (octets : List ℕ) (xs : List Exchange) (last : Standing) (rest : List ℕ) → MailGoes plan node first octets xs last rest → HasUnit quit xs → last ≡ EndedByQuit
quits plan node first octets [] last rest goes has = absurd has
quits plan node (Hearing (Mailing talk)) octets (one ∷ xs) last rest (left, is_unit, whole, led, goes) has =
    ⊎_elim (λ is. behind xs (subst (λ (u : Unit). MailGoes plan node (mail_stands plan talk one (mail_lead plan node talk u)) left xs last rest) is goes))
    (λ later. quits plan node (mail_stands plan talk one (mail_lead plan node talk one.unit)) left xs last rest goes later) has
  where
    behind : (ys : List Exchange) → MailGoes plan node EndedByQuit left ys last rest → last ≡ EndedByQuit
    behind [] goes = goes.0
    behind (y ∷ ys) goes = absurd goes
quits plan node (Hearing (Entering named)) octets (one ∷ xs) last rest goes has = absurd goes
quits plan node (Hearing (Reading user slots)) octets (one ∷ xs) last rest goes has = absurd goes
quits plan node (Waiting state call) octets (one ∷ xs) last rest goes has = absurd goes
quits plan node EndedByQuit octets (one ∷ xs) last rest goes has = absurd goes
quits plan node EndedDown octets (one ∷ xs) last rest goes has = absurd goes
quits plan node EndedClosed octets (one ∷ xs) last rest goes has = absurd goes

-- and nothing else ends it then
stays_ended : (standing : Standing) → Breaks EndedByQuit standing → standing ≡ EndedByQuit
stays_ended (Hearing state) breaks = cc
stays_ended (Waiting state call) breaks = cc
stays_ended EndedByQuit breaks = refl
stays_ended EndedDown breaks = absurd breaks
stays_ended EndedClosed breaks = absurd breaks

-- one session that has ended
one_ended : (s : Session) → s.standing ≡ EndedByQuit → AllEnded (s ∷ [])
one_ended s ended = (ap (λ (standing : Standing). (if is_on standing then 1 else 0) + 0) ended, none_waits)
  where
    none_waits : (j : ℕ) → Waits (session_at (s ∷ []) j) → ⊥
    none_waits zero waits = waits
    none_waits (suc zero) (state, call, waits) = let never : EndedByQuit ≡ Waiting state call = sym ended ∙ waits in cc
    none_waits (suc (suc n)) waits = subst Waits (by_number (s ∷ []) (suc n)) waits

module _ (plan : Plan) (lines : List (List ℕ)) (entries : List Entry) (worked : Session) (worked_is : IsSession plan lines entries 1 worked) (smtp : worked.protocol ≡ Smtp)
    (kinds : opened lines ≡ kind_of worked ∷ []) (reply : List (List ℕ)) (said_quit : Among (quit, reply) (views worked.whole)) where
  pub all_ended : (sessions : List Session) → AreSessions plan lines entries sessions → AllEnded sessions
  all_ended [] are = let never : kind_of worked ∷ [] ≡ [] = sym kinds ∙ are.kinds in cc
  all_ended (s ∷ t ∷ more) are = let never : kind_of worked ∷ [] ≡ kind_of s ∷ kind_of t ∷ map kind_of more = sym kinds ∙ are.kinds in cc
  all_ended (s ∷ []) are = one_ended s (stays_ended s.standing (subst (λ (b : Standing). Breaks b s.standing) over talk.ends))
    where
      kind : kind_of worked ≡ kind_of s
      kind = let same : kind_of worked ∷ [] ≡ kind_of s ∷ [] = sym kinds ∙ are.kinds in cc

      protocols : worked.protocol ≡ s.protocol
      protocols = ap (λ (p : Protocol × ℕ). p.0) kind

      talk : IsMailTalk plan s.node s.octets (exchanges_of s) s.standing s.rest
      talk = sessions_take_mail plan lines entries (s ∷ []) are 1 s refl (sym protocols ∙ smtp)

      same_views : views worked.whole ≡ views s.whole
      same_views = one_reading plan lines entries 1 worked s protocols (ap (λ (p : Protocol × ℕ). p.1) kind) worked_is (are.each 1 s refl)

      over : talk.before ≡ EndedByQuit
      over = quits plan s.node (Hearing (Mailing silent)) s.octets (exchanges_of s) talk.before s.rest talk.goes
          (in_front quit s.whole s.others (seen_unit quit reply s.whole (subst (Among (quit, reply)) same_views said_quit)))
