-- A line that has no fault is not what was left out.
use Rattle.std.proofs.Common.{◌≡◌, ◌⊎◌, ⊎_elim, ◌<◌, ℕ, List, [], ◌∷◌, length, flat_map, Option, Some, refl, sym, ap, ◌∙◌, subst, arith, codes}
use Rattle.std.specs.Io.KnownBytes.{IsAtEnd}
use Rattle.std.proofs.lemmas.Option.{none-some, same_Some}
use Rattle.std.proofs.lemmas.List.Elements.{All-head, All-tail}
use Rattle.mail_model.specs.Lines.{HasNoLf, ended}
use Rattle.mail_model.specs.Tape.{Order, tape_order}
use Rattle.mail_model.specs.Tape.Order.{Open}
use Rattle.mail_model.specs.Tape.Protocol.{Smtp}
use Rattle.mail_model.specs.Transcript.{Entry}
use Rattle.session_model.specs.Sessions.{Session}
use Rattle.session_model.specs.Acts.{Act}
use Rattle.session_model.specs.Run.{AreHandled, refusal}
use Rattle.session_model.proofs.Cuts.{one_end}
use Rattle.worked_sessions.specs.OneMessage.{small_plan}
use Rattle.drive_tape.specs.declared.drove.TapeFault.{TapeFault}
use Rattle.drive_tape.specs.declared.drove.TapeFault.TheVariants.{BadLine, TapeTooLong}
use Rattle.drive_tape.specs.Faults.{tape_fault_seen}
use Rattle.drive_tape.specs.Drive.{IsOrder, IsNoOrder, StopsAt}
use Rattle.porcupine_server.specs.Promises.{HasFaultBehind, LastIsDeniable}
use Rattle.porcupine_server.specs.WrongRuns.{FirstLineIsHandled}

abbrev first : List ℕ
first = codes "open smtp 1"

-- a line has its LF
has_lf : (line : List ℕ) → HasNoLf (ended line) → ⊥
has_lf [] none = All-head (λ (x : ℕ). x ≡ 10 → ⊥) 10 [] none refl
has_lf (x ∷ line) none = has_lf line (All-tail (λ (y : ℕ). y ≡ 10 → ⊥) x (ended line) none)

no_fault : (fault : TapeFault) (left : Option (List ℕ)) (room : ℕ) → StopsAt fault small_plan [] [] left (ended first) room → ⊥
no_fault fault left room why = ⊎_elim
    (λ (end : (fault ≡ BadLine) × HasNoLf (ended first) × IsAtEnd left). has_lf first end.1)
    (λ (a : ((fault ≡ BadLine) × HasNoLf (ended first) × (65535 < length (ended first))) ⊎ ((fault ≡ BadLine) × IsNoOrder (ended first)) ⊎ ((fault ≡ TapeTooLong) × HasNoLf (ended first) × (room ≡ 0))
    ⊎ ((order : Order) × IsOrder (ended first) order × (refusal small_plan [] [] order ≡ Some (tape_fault_seen fault)))). ⊎_elim
    (λ (long : (fault ≡ BadLine) × HasNoLf (ended first) × (65535 < length (ended first))). has_lf first long.1)
    (λ (b : ((fault ≡ BadLine) × IsNoOrder (ended first)) ⊎ ((fault ≡ TapeTooLong) × HasNoLf (ended first) × (room ≡ 0))
    ⊎ ((order : Order) × IsOrder (ended first) order × (refusal small_plan [] [] order ≡ Some (tape_fault_seen fault)))). ⊎_elim
    (λ (none : (fault ≡ BadLine) × IsNoOrder (ended first)). none-some (Open Smtp 1) (sym none.1.spelled ∙ ap tape_order (sym (same_line none.1.line none.1.whole))))
    (λ (c : ((fault ≡ TapeTooLong) × HasNoLf (ended first) × (room ≡ 0)) ⊎ ((order : Order) × IsOrder (ended first) order × (refusal small_plan [] [] order ≡ Some (tape_fault_seen fault)))). ⊎_elim
    (λ (full : (fault ≡ TapeTooLong) × HasNoLf (ended first) × (room ≡ 0)). has_lf first full.1)
    (λ (refused : (order : Order) × IsOrder (ended first) order × (refusal small_plan [] [] order ≡ Some (tape_fault_seen fault))). accepted refused.0 refused.1 refused.2)
    c) b) a) why
  where
    same_line : (line : List ℕ) → ended first ≡ ended line → first ≡ line
    same_line line whole = (one_end first line 10 10 whole).0

    accepted : (order : Order) → IsOrder (ended first) order → refusal small_plan [] [] order ≡ Some (tape_fault_seen fault) → ⊥
    accepted order is refused =
        let same : Open Smtp 1 ≡ order = same_Some (Open Smtp 1) order (ap tape_order (same_line is.line is.whole) ∙ is.spelled) in
        none-some (tape_fault_seen fault) (ap (refusal small_plan [] []) same ∙ refused)

pub first_line_is_handled : FirstLineIsHandled
first_line_is_handled entries left = ⊎_elim
    (λ (behind : HasFaultBehind small_plan [] entries (ended first) left). by behind behind.acts behind.outputs behind.handled behind.why)
    (λ (none : (ended first ≡ []) × LastIsDeniable []). omega (arith, ap length none.0))
  where
    by : (behind : HasFaultBehind small_plan [] entries (ended first) left) (acts : List (List Act)) (outputs : List (List (List Entry))) → AreHandled small_plan [] [] [] acts outputs behind.sessions
        → StopsAt behind.fault small_plan (flat_map (λ a. a) acts) behind.sessions left (ended first) behind.room → ⊥
    by behind [] [] handled why =
        no_fault behind.fault left behind.room (subst (λ (s : List Session). StopsAt behind.fault small_plan [] s left (ended first) behind.room) handled why)
    by behind [] (output ∷ outputs) handled why = handled
    by behind (act ∷ acts) [] handled why = handled
    by behind (act ∷ acts) (output ∷ outputs) handled why = handled
