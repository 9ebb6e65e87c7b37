-- A session that meets every premise of a deletion.
use Rattle.std.proofs.Common.{◌≡◌, Bool, List, [], ◌∷◌, ◌++◌, drop, map, flat_map, if◌then◌else◌, AllPairs, Some, refl, sym, ap, subst, arith, codes}
use Rattle.std.proofs.lemmas.Option.{none-some}
use Rattle.mail_model.specs.Identity.{Id}
use Rattle.mail_model.specs.Lines.{sent_line}
use Rattle.mail_model.specs.Maildrop.{wrong_text, entered_text}
use Rattle.mail_model.specs.Maildrop.Given.{BySecret}
use Rattle.mail_model.specs.Maildrop.LineOutcome.{Answered, AsksLogin}
use Rattle.mail_model.specs.PopReplies.{Item, one_line}
use Rattle.mail_model.specs.Session.Unit.{Line}
use Rattle.mail_model.specs.Site.{nth_id}
use Rattle.mail_model.specs.Tape.Protocol.{Pop}
use Rattle.session_model.specs.Calls.Call.{Login, Strike}
use Rattle.session_model.specs.Calls.Answer.{Listed}
use Rattle.session_model.specs.Talk.{TalkState, Lead, Exchange, IsLed, TalkGoes, opening_state, lead_of, line_lead, stands}
use Rattle.session_model.specs.Talk.TalkState.{Entering}
use Rattle.session_model.specs.Talk.Lead.{Asks}
use Rattle.session_model.specs.Talk.Standing.{Hearing, EndedByQuit}
use Rattle.session_model.specs.Reading.{Each, ListsOnce}
use Rattle.worked_sessions.specs.OneMessage.{small_plan}
use Rattle.worked_sessions.specs.OneDeletion.{OneDeletionAsked, small_items, before_quit, last_quit, deleting_octets}
use Rattle.worked_sessions.proofs.Lines.{whole_line, has_alice}
use Rattle.session_model.proofs.Striking.{strikes_at_quit}

-- PASS asks for the login, since the plan has the user
abbrev pass : Exchange
pass = record { unit = Line (codes "PASS tanstaaf"); call = Some (Login (codes "alice") (BySecret (codes "tanstaaf"))); answer = Some (Listed small_items); reply = one_line entered_text }

abbrev named : TalkState
named = Entering (Some (codes "alice"))

pass_leads : lead_of small_plan 1 named (Line (codes "PASS tanstaaf")) ≡ Asks (Login (codes "alice") (BySecret (codes "tanstaaf")))
pass_leads = ap (λ (b : Bool). line_lead [] (if b then AsksLogin (codes "alice") (BySecret (codes "tanstaaf")) else Answered (one_line wrong_text))) has_alice

goes : TalkGoes small_plan 1 (Hearing (opening_state Pop)) deleting_octets (before_quit ++ last_quit ∷ []) EndedByQuit []
goes = (
  flat_map sent_line (codes "PASS tanstaaf" ∷ codes "DELE 1" ∷ codes "QUIT" ∷ []),
  record { is_unit = whole_line (codes "USER alice") refl; whole = refl; led = (refl, refl, refl) },
  (
    flat_map sent_line (codes "DELE 1" ∷ codes "QUIT" ∷ []),
    record { is_unit = whole_line (codes "PASS tanstaaf") refl; whole = refl; led = subst (λ (lead : Lead). IsLed lead pass) (sym pass_leads) (refl, refl) },
    subst (λ (lead : Lead). TalkGoes small_plan 1 (stands small_plan named pass lead) (flat_map sent_line (codes "DELE 1" ∷ codes "QUIT" ∷ [])) (drop 2 (before_quit ++ last_quit ∷ [])) EndedByQuit []) (sym pass_leads) (
      sent_line (codes "QUIT"),
      record { is_unit = whole_line (codes "DELE 1") refl; whole = refl; led = (refl, refl, refl) },
      ([], record { is_unit = whole_line (codes "QUIT") refl; whole = refl; led = (refl, refl) }, (refl, refl)),
    ),
  ),
)

-- the one listing has one id
lists_once : Each ListsOnce (before_quit ++ last_quit ∷ [])
lists_once = (
  λ user given items asks told. absurd (none-some (Login user given) asks),
  (
    λ user given items asks told. let same : small_items ≡ items = cc in
        subst (λ (l : List Item). AllPairs (λ (a b : Id). a ≡ b → ⊥) (map (λ (item : Item). item.id) l)) same (λ i j d before within. absurd (omega (arith, before, within))),
    (
      λ user given items asks told. absurd (none-some (Login user given) asks),
      (λ user given items asks told. absurd (let never : Some (Strike (codes "alice") (nth_id 1 ∷ [])) ≡ Some (Login user given) = asks in cc), tt),
    ),
  ),
)

pub one_deletion_asked : OneDeletionAsked
one_deletion_asked = record {
  talk = record { before = EndedByQuit; goes = goes; ends = refl };
  marked = (strikes_at_quit small_plan 1 deleting_octets (before_quit ++ last_quit ∷ []) EndedByQuit [] goes lists_once before_quit [] last_quit (codes "alice") (nth_id 1 ∷ []) refl refl).1;
}
