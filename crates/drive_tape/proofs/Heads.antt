-- One plan line after another, and `go`.
use Rattle.std.proofs.Common.{◌≡◌, ◌+◌, ◌^◌, ℕ, List, [], ◌∷◌, ◌++◌, length, flat_map, Option, Some, None, Result, Ok, Err, refl, sym, ap, ◌∙◌, subst, arith, length-append, inl, inr}
use Rattle.std.proofs.lemmas.List.{append-nil}
use Rattle.std.proofs.lemmas.List.Elements.{All-nil, All-push}
use Rattle.std.proofs.lemmas.Grind.{flat_map-append}
use Rattle.std.specs.Prelude.{option_and_then, IfOk}
use Rattle.std.specs.Io.KnownBytes.{Consumes}
use Rattle.io_edge.proofs.Known.{consumes_more, consumes_none}
use Rattle.mail_model.specs.Lines.{HasNoLf, ended}
use Rattle.mail_model.specs.Plan.{Plan}
use Rattle.mail_model.specs.Tape as tape
use Rattle.mail_model.specs.Tape.{Draft, empty_draft, planned}
use Rattle.drive_tape.specs.declared.reader.LineStop.{LineStop}
use Rattle.drive_tape.specs.declared.reader.LineStop.TheVariants as line
use Rattle.drive_tape.specs.declared.plan_head.PlanTurn.TheVariants.{Line, End}
use Rattle.drive_tape.specs.declared.drove.Drove.{Drove}
use Rattle.drive_tape.specs.declared.drove.Stop.{Stop}
use Rattle.drive_tape.specs.Reads.{ReadsLine}
use Rattle.drive_tape.specs.Stops.{of_line}
use Rattle.drive_tape.specs.Drive.{stop_of, NamesLine}
use Rattle.drive_tape.proofs.PlanFits.{plan_fits}
use Rattle.drive_tape.specs.Plans.{DraftsOn, DraftsTo, IsTapePlan, PlanStops, PlanTurned, PlanProgress, HeadDid, HeadEnds, ReadsHead}

drafts_more : (first : Draft) (lines : List (List ℕ)) (mid : Draft) (line : List ℕ) (new : Draft) → DraftsTo first lines mid → DraftsOn mid line new → DraftsTo first (lines ++ line ∷ []) new
drafts_more first [] mid line new drafts on = (new, subst (λ (old : Draft). DraftsOn old line new) drafts on, refl)
drafts_more first (l ∷ lines) mid line new drafts on = (drafts.0, drafts.1, drafts_more drafts.0 lines mid line new drafts.2 on)

pub lines_last : (lines : List (List ℕ)) (line : List ℕ) → flat_map ended (lines ++ line ∷ []) ≡ flat_map ended lines ++ ended line
lines_last lines line = flat_map-append ended lines (line ∷ []) ∙ ap (λ (l : List ℕ). flat_map ended lines ++ l) (append-nil (ended line))

-- why no line was read
pub head_why : (why : LineStop) (left : Option (List ℕ)) (taken : List ℕ) (room : ℕ) (draft : Draft) → ReadsLine (Err why) left taken room → PlanStops (of_line why) left taken room draft
head_why line.ReadFault left taken room draft reads = reads
head_why line.EndedEarly left taken room draft reads = inr (inl (refl, reads.0, inl reads.1))
head_why line.LongLine left taken room draft reads = inr (inl (refl, reads.0, inr reads.1))
head_why line.TooLong left taken room draft reads = inr (inr (refl, reads.0, reads.1))
head_why line.NoMemory left taken room draft reads = tt

pub head_start : (left : Option (List ℕ)) → PlanProgress left left empty_draft 0 (2 ^ 40)
head_start left = record { lines = []; took = consumes_none left; each = All-nil _; drafts = refl; counted = refl; size = refl }

pub head_goes_on : (left0 left1 left2 : Option (List ℕ)) (draft : Draft) (count room1 room2 : ℕ) (new : Draft)
    → PlanProgress left0 left1 draft count room1 → PlanTurned left1 left2 (Ok Line) room1 draft room2 new → PlanProgress left0 left2 new (count + 1) room2
head_goes_on left0 left1 left2 draft count room1 room2 new p t =
    let step = t.did in
    let all : flat_map ended (p.lines ++ step.0 ∷ []) ≡ flat_map ended p.lines ++ t.taken = lines_last p.lines step.0 ∙ ap (λ (l : List ℕ). flat_map ended p.lines ++ l) (sym step.1) in
    record {
      lines = p.lines ++ step.0 ∷ [];
      took = subst (Consumes left0 left2) (sym all) (consumes_more _ _ _ _ _ p.took t.took);
      each = All-push HasNoLf p.lines step.0 p.each step.2;
      drafts = drafts_more empty_draft p.lines draft step.0 new p.drafts step.3;
      counted = omega (arith, p.counted, length-append p.lines (step.0 ∷ []));
      size = omega (arith, p.size, t.size, ap length all, length-append (flat_map ended p.lines) t.taken);
    }

ends_with : (left0 left1 left2 : Option (List ℕ)) (draft : Draft) (count room1 room2 : ℕ) (taken : List ℕ) (result : Result (Plan × ℕ) Drove)
    → PlanProgress left0 left1 draft count room1 → Consumes left1 left2 taken → room2 + length taken ≡ room1 → HeadDid result left2 taken room2 draft count → ReadsHead left0 left2 result
ends_with left0 left1 left2 draft count room1 room2 taken result p took size did = record {
  lines = p.lines;
  draft = draft;
  others = taken;
  room = room2;
  took = consumes_more _ _ _ _ _ p.took took;
  each = p.each;
  drafts = p.drafts;
  limit = omega (arith, p.size, size, length-append (flat_map ended p.lines) taken);
  did = subst (λ (n : ℕ). HeadDid result left2 taken room2 draft n) (sym p.counted) did;
}

pub head_stops : (left0 left1 left2 : Option (List ℕ)) (draft : Draft) (count room1 room2 : ℕ) (new : Draft) (stop : Stop) (answer : Drove)
    → PlanProgress left0 left1 draft count room1 → PlanTurned left1 left2 (Err stop) room1 draft room2 new → stop_of answer ≡ stop → NamesLine answer (count + 1)
    → ReadsHead left0 left2 (Err answer)
head_stops left0 left1 left2 draft count room1 room2 new stop answer p t is names =
    ends_with left0 left1 left2 draft count room1 room2 t.taken (Err answer) p t.took t.size (subst (λ (s : Stop). PlanStops s left2 t.taken room2 draft) (sym is) t.did, names)

go_did : (result : Result (Plan × ℕ) Drove) (left : Option (List ℕ)) (octets line : List ℕ) (room : ℕ) (draft : Draft) (count : ℕ)
    → octets ≡ ended line → HasNoLf line → tape.tape_plan_line line ≡ Some tape.PlanLine.Go → HeadEnds result draft (count + 1) → HeadDid result left octets room draft count
go_did (Ok head) left octets line room draft count whole one go ends = (line, whole, one, go, ends.0, ends.1)
go_did (Err answer) left octets line room draft count whole one go ends =
    let none : option_and_then (tape.drafted draft) (tape.tape_plan_line line) ≡ None = rw go refl in
    rw ends.0 (inl (refl, record { line = line; whole = whole; one = one; adds_nothing = none; no_plan = λ _. ends.1 }), refl)

pub head_ends : (left0 left1 left2 : Option (List ℕ)) (draft : Draft) (count room1 room2 : ℕ) (new : Draft) (result : Result (Plan × ℕ) Drove)
    → PlanProgress left0 left1 draft count room1 → PlanTurned left1 left2 (Ok End) room1 draft room2 new → HeadEnds result new (count + 1) → ReadsHead left0 left2 result
head_ends left0 left1 left2 draft count room1 room2 new result p t ends =
    let step = t.did in
    ends_with left0 left1 left2 draft count room1 room2 t.taken result p t.took t.size
    (go_did result left2 t.taken step.0 room2 draft count step.1 step.2 step.3 (subst (λ (d : Draft). HeadEnds result d (count + 1)) step.4 ends))

-- whatever plan it gives is within the limits
pub head_fits : (left0 left1 left2 : Option (List ℕ)) (draft new : Draft) (count room1 room2 : ℕ) (result : Result (Plan × ℕ) Drove)
    → PlanProgress left0 left1 draft count room1 → PlanTurned left1 left2 (Ok End) room1 draft room2 new → HeadEnds result new (count + 1) → IfOk result (λ head. IsTapePlan head.0)
head_fits left0 left1 left2 draft new count room1 room2 (Ok head) p t ends = plan_fits p.lines draft head.0 p.drafts (subst (λ (d : Draft). planned d ≡ Some head.0) t.did.4 ends.0)
head_fits left0 left1 left2 draft new count room1 room2 (Err answer) p t ends = tt
