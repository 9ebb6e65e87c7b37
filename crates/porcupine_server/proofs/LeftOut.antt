-- What was taken and is none of the run lines, where the work stopped at a fault of the tape behind the last of them.
use Rattle.std.proofs.Common.{◌≡◌, ◌⊎◌, inl, inr, ⊎_elim, ◌<◌, ◌+◌, ◌^◌, ℕ, List, [], ◌∷◌, ◌++◌, length, flat_map, Option, Some, sym, ap, ◌∙◌, subst, arith}
use Rattle.std.proofs.lemmas.List.{append-nil}
use Rattle.std.specs.Io.KnownBytes.{IsAtEnd}
use Rattle.mail_model.specs.Lines.{HasNoLf, ended}
use Rattle.mail_model.specs.Plan.{Plan}
use Rattle.mail_model.specs.Tape.{Order}
use Rattle.mail_model.specs.Transcript.{Entry, all_of}
use Rattle.session_model.specs.Sessions.{Session}
use Rattle.session_model.specs.Acts.{Act}
use Rattle.session_model.specs.Kept.{IsEnding}
use Rattle.session_model.specs.Run.{Made, Stop, AreHandled, IsDriven, IsLeftOff, refusal}
use Rattle.drive_tape.specs.declared.drove.TapeFault.{TapeFault}
use Rattle.drive_tape.specs.declared.drove.TapeFault.TheVariants.{BadLine, TapeTooLong}
use Rattle.drive_tape.specs.Faults.{tape_fault_seen}
use Rattle.drive_tape.specs.Drive.{IsOrder, IsNoOrder, IsLineAtMost, StopsAt}
use Rattle.porcupine_server.specs.Promises.{HasFaultBehind}

-- where the work stopped in no line, nothing more was written, and no session changed
none_in_work : (plan : Plan) (been : List Act) (stop : Stop) (old : List Session) (left : List (List ℕ)) (by_line : List (List Act)) (tail : List Entry) (extra : List Made) (new : List Session)
    → left ≡ [] → IsLeftOff plan been stop old left by_line tail extra new → (tail ≡ []) × (new ≡ old)
none_in_work plan been stop old [] [] tail extra new none off = (off.0, off.2)
none_in_work plan been stop old [] (acts ∷ by_line) tail extra new none off = absurd off
none_in_work plan been stop old (line ∷ left) by_line tail extra new none off = absurd (omega (arith, ap length none))

-- what has the fault is one line, or a part of one
pub fault_in_line : (fault : TapeFault) (plan : Plan) (been : List Act) (sessions : List Session) (left : Option (List ℕ)) (octets : List ℕ) (room : ℕ)
    → StopsAt fault plan been sessions left octets room → IsLineAtMost octets
fault_in_line fault plan been sessions left octets room why = ⊎_elim
    (λ (end : (fault ≡ BadLine) × HasNoLf octets × IsAtEnd left). inl end.1)
    (λ (a : ((fault ≡ BadLine) × HasNoLf octets × (65535 < length octets)) ⊎ ((fault ≡ BadLine) × IsNoOrder octets) ⊎ ((fault ≡ TapeTooLong) × HasNoLf octets × (room ≡ 0))
    ⊎ ((order : Order) × IsOrder octets order × (refusal plan been sessions order ≡ Some (tape_fault_seen fault)))). ⊎_elim
    (λ (long : (fault ≡ BadLine) × HasNoLf octets × (65535 < length octets)). inl long.1)
    (λ (b : ((fault ≡ BadLine) × IsNoOrder octets) ⊎ ((fault ≡ TapeTooLong) × HasNoLf octets × (room ≡ 0))
    ⊎ ((order : Order) × IsOrder octets order × (refusal plan been sessions order ≡ Some (tape_fault_seen fault)))). ⊎_elim
    (λ (none : (fault ≡ BadLine) × IsNoOrder octets). inr (none.1.line, none.1.whole, none.1.one))
    (λ (c : ((fault ≡ TapeTooLong) × HasNoLf octets × (room ≡ 0)) ⊎ ((order : Order) × IsOrder octets order × (refusal plan been sessions order ≡ Some (tape_fault_seen fault)))). ⊎_elim
    (λ (full : (fault ≡ TapeTooLong) × HasNoLf octets × (room ≡ 0)). inl full.1)
    (λ (refused : (order : Order) × IsOrder octets order × (refusal plan been sessions order ≡ Some (tape_fault_seen fault))). inr (refused.1.line, refused.1.whole, refused.1.one))
    c) b) a) why

-- the lines that were handled are all of the run lines, and what they wrote is all but a last line
pub has_fault_behind : (plan : Plan) (stop : Stop) (handled midst : List (List ℕ)) (acts behind : List (List Act)) (made : List Made) (entries front : List Entry) (sessions : List Session)
    (left : Option (List ℕ)) (read others : List ℕ) (room : ℕ) (fault : TapeFault) → IsDriven plan stop handled midst acts behind made entries sessions
    → read ≡ flat_map ended (handled ++ midst) ++ others → length read + room ≡ 2 ^ 40 → IsEnding front → midst ≡ []
    → StopsAt fault plan (flat_map (λ a. a) acts) sessions left others room → HasFaultBehind plan (handled ++ midst) (entries ++ front) others left
has_fault_behind plan stop handled midst acts behind made entries front sessions left read others room fault driven tape limit ends none why =
    let off = none_in_work plan (flat_map (λ a. a) acts) stop driven.mid midst behind driven.tail driven.extra sessions none driven.off in
    record {
      acts = acts;
      outputs = driven.outputs;
      sessions = sessions;
      handled = subst (λ (s : List Session). AreHandled plan [] [] (handled ++ midst) acts driven.outputs s) (sym off.1)
          (subst (λ (l : List (List ℕ)). AreHandled plan [] [] l acts driven.outputs driven.mid) (sym (ap (λ (m : List (List ℕ)). handled ++ m) none ∙ append-nil handled)) driven.are);
      ending = front;
      ends = ends;
      wrote = ap (λ (es : List Entry). es ++ front) (driven.written ∙ ap (λ (t : List Entry). flat_map all_of driven.outputs ++ t) off.0 ∙ append-nil (flat_map all_of driven.outputs));
      room = room;
      limit = ap (λ (l : List ℕ). length l + room) (sym tape) ∙ limit;
      fault = fault;
      why = why;
    }
