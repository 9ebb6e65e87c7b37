-- The plan lines of a good tape are read, and no line before `go` is refused.
use Rattle.std.proofs.Common.{◌≡◌, ◌≤◌, ◌<◌, ◌+◌, ◌^◌, ℕ, List, [], ◌∷◌, ◌++◌, length, flat_map, All, Option, Some, None, Ok, refl, sym, ap, ◌∙◌, subst, arith, append_assoc, length-append, inl, inr, ⊎_elim}
use Rattle.std.specs.Prelude.{◌⊎◌, option_and_then}
use Rattle.std.specs.Io.KnownBytes.{Consumes, IsAtEnd}
use Rattle.std.proofs.lemmas.List.Elements.{All-push}
use Rattle.std.proofs.lemmas.Option.{none-some, same_Some}
use Rattle.mail_model.specs.Lines.{HasNoLf, BeginsWith, ended}
use Rattle.mail_model.specs.Plan.{Plan}
use Rattle.mail_model.specs.Tape.{Draft, PlanLine, empty_draft, drafted, planned, tape_plan_line}
use Rattle.mail_model.specs.Tape.PlanLine.{Go}
use Rattle.drive_tape.specs.declared.drove.TapeFault.{TapeFault}
use Rattle.drive_tape.specs.declared.drove.TapeFault.TheVariants.{BadPlan, BadLine, TapeTooLong}
use Rattle.drive_tape.specs.Plans.{DraftsOn, DraftsTo, IsBadPlan, PlanStopsAt, ReadsHead}
use Rattle.porcupine_server.specs.Complete.{IsGoodTape}
use Rattle.porcupine_server.proofs.NextLine.{flat_map_last, Ahead, same_line, begins_more, within_line, no_line, next_line, last_or_before}
use Rattle.porcupine_server.proofs.FewDrafts.{plan_line_short, drafts_few}

-- what is left of octets that are told
pub consumed : (tape : List ℕ) (left1 : Option (List ℕ)) (read : List ℕ) → Consumes (Some tape) left1 read → (left : List ℕ) × (left1 ≡ Some left) × (tape ≡ read ++ left)
consumed tape None read took = absurd took
consumed tape (Some left) read took = (left, refl, took)

-- at the end nothing is left
pub at_end : (left1 : Option (List ℕ)) (left : List ℕ) → left1 ≡ Some left → IsAtEnd left1 → left ≡ []
at_end left1 left told end = subst IsAtEnd told end

-- the same lines make one draft
one_draft : (old first second : Draft) (lines : List (List ℕ)) → DraftsTo old lines first → DraftsTo old lines second → first ≡ second
one_draft old first second [] p q = p ∙ sym q
one_draft old first second (line ∷ lines) p q =
    one_draft p.0 first second lines p.2 (subst (λ (d : Draft). DraftsTo d lines second) (same_Some q.0 p.0 (sym q.1 ∙ p.1)) q.2)

-- lines that a draft takes: those before one of them, and that one
drafts_next : (old new : Draft) (lines : List (List ℕ)) (next : List ℕ) (others : List (List ℕ)) → DraftsTo old (lines ++ next ∷ others) new
    → (mid : Draft) × (after : Draft) × DraftsTo old lines mid × DraftsOn mid next after
drafts_next old new [] next others drafts = (old, drafts.0, refl, drafts.1)
drafts_next old new (line ∷ lines) next others drafts =
    let more = drafts_next drafts.0 new lines next others drafts.2 in
    (more.0, more.1, (drafts.0, drafts.1, more.2), more.3)

-- no draft takes `go`
go_ends : (old new : Draft) (line : List ℕ) → tape_plan_line line ≡ Some Go → DraftsOn old line new → ⊥
go_ends old new line goes on = none-some new (ap (option_and_then (drafted old)) (sym goes) ∙ on)

-- a line that a draft takes is not too long
on_short : (old new : Draft) (line : List ℕ) → DraftsOn old line new → length line ≤ 65535
on_short old new line on = by_line (tape_plan_line line) refl on
  where
    by_line : (x : Option PlanLine) → tape_plan_line line ≡ x → option_and_then (drafted old) x ≡ Some new → length line ≤ 65535
    by_line None is none = absurd (none-some new none)
    by_line (Some x) is some = plan_line_short line x is

module _ (tape : List ℕ) (good : IsGoodTape tape) where
  -- what follows `go`
  abbrev pub run_part : List ℕ
  run_part = flat_map ended good.lines ++ (ended good.last ++ good.behind)

  -- The next line after plan lines: it is `go`, or the draft takes it too.
  record PlanNext (lines : List (List ℕ)) (draft : Draft) (more : List ℕ) : Type 0 where
    next : List ℕ
    rest : List ℕ
    begins : BeginsWith more next rest
    short : length next ≤ 65535
    kind : ((next ≡ good.go) × (draft ≡ good.draft) × (rest ≡ run_part)) ⊎ ((after : Draft) × DraftsOn draft next after)

  tape_lines : (lines : List (List ℕ)) (more : List ℕ) → tape ≡ flat_map ended lines ++ more → flat_map ended (good.head ++ good.go ∷ []) ++ run_part ≡ flat_map ended lines ++ more
  tape_lines lines more is =
      ap (λ (l : List ℕ). l ++ run_part) (flat_map_last ended good.head good.go) ∙ append_assoc (flat_map ended good.head) (ended good.go) run_part ∙ sym good.whole ∙ is

  plan_next : (lines : List (List ℕ)) (draft : Draft) (more : List ℕ) → All HasNoLf lines → DraftsTo empty_draft lines draft → tape ≡ flat_map ended lines ++ more → PlanNext lines draft more
  plan_next lines draft more each drafts is = ⊎_elim
      (λ (ahead : Ahead (good.head ++ good.go ∷ []) lines run_part more). ⊎_elim
      (λ (here : (good.head ≡ lines) × (good.go ≡ ahead.next) × (ahead.others ≡ [])). record {
        next = ahead.next;
        rest = flat_map ended ahead.others ++ run_part;
        begins = ahead.begins;
        short = subst (λ (l : List ℕ). length l ≤ 65535) here.1 (plan_line_short good.go Go good.goes);
        kind = inl (
          sym here.1,
          one_draft empty_draft draft good.draft lines drafts (subst (λ (ls : List (List ℕ)). DraftsTo empty_draft ls good.draft) here.0 good.drafts),
          ap (λ (ls : List (List ℕ)). flat_map ended ls ++ run_part) here.2,
        );
      })
      (λ (before : (others : List (List ℕ)) × (good.head ≡ lines ++ ahead.next ∷ others)).
      let on = drafts_next empty_draft good.draft lines ahead.next before.0 (subst (λ (ls : List (List ℕ)). DraftsTo empty_draft ls good.draft) before.1 good.drafts) in
      let same = one_draft empty_draft on.0 draft lines on.2 drafts in
      record {
        next = ahead.next;
        rest = flat_map ended ahead.others ++ run_part;
        begins = ahead.begins;
        short = on_short on.0 on.1 ahead.next on.3;
        kind = inr (on.1, subst (λ (d : Draft). DraftsOn d ahead.next on.1) same on.3);
      })
      (last_or_before good.head good.go lines ahead.next ahead.others ahead.split))
      (λ (beyond : (extra : List (List ℕ)) × (lines ≡ (good.head ++ good.go ∷ []) ++ extra)).
      let on = drafts_next empty_draft draft good.head good.go beyond.0
      (subst (λ (ls : List (List ℕ)). DraftsTo empty_draft ls draft) (beyond.1 ∙ append_assoc good.head (good.go ∷ []) beyond.0) drafts) in
      absurd (go_ends on.0 on.1 good.go good.goes on.3))
      (next_line (good.head ++ good.go ∷ []) lines run_part more (All-push HasNoLf good.head good.go good.head_each good.go_one) each (tape_lines lines more is))

  -- the plan lines of the tape have no fault
  pub no_plan_fault : (left0 left1 : Option (List ℕ)) (fault : TapeFault) (lines : List (List ℕ)) (draft : Draft) (others : List ℕ) (room : ℕ)
      → left0 ≡ Some tape → Consumes left0 left1 (flat_map ended lines ++ others) → All HasNoLf lines → DraftsTo empty_draft lines draft
      → length (flat_map ended lines ++ others) + room ≡ 2 ^ 40 → PlanStopsAt fault left1 others room draft → ⊥
  no_plan_fault left0 left1 fault lines draft others room told took each drafts limit why = ⊎_elim
      (λ (bad : (fault ≡ BadPlan) × IsBadPlan others draft). no_bad_plan bad.1)
      (λ (line : ((fault ≡ BadLine) × HasNoLf others × (IsAtEnd left1 ⊎ (65535 < length others))) ⊎ ((fault ≡ TapeTooLong) × HasNoLf others × (room ≡ 0))). ⊎_elim
      (λ (none : (fault ≡ BadLine) × HasNoLf others × (IsAtEnd left1 ⊎ (65535 < length others))). ⊎_elim
      (λ (end : IsAtEnd left1). no_end none.1 (at_end left1 left.0 left.1 end))
      (λ (long : 65535 < length others). omega (arith, long, n.short, within_line others left.0 n.next n.rest none.1 n.begins.whole))
      none.2)
      (λ (far : (fault ≡ TapeTooLong) × HasNoLf others × (room ≡ 0)). no_limit far.1 far.2)
      line)
      why
    where
      left : (left : List ℕ) × (left1 ≡ Some left) × (tape ≡ (flat_map ended lines ++ others) ++ left)
      left = consumed tape left1 (flat_map ended lines ++ others) (subst (λ (l : Option (List ℕ)). Consumes l left1 (flat_map ended lines ++ others)) told took)

      n : PlanNext lines draft (others ++ left.0)
      n = plan_next lines draft (others ++ left.0) each drafts (left.2 ∙ append_assoc (flat_map ended lines) others left.0)

      no_bad_plan : IsBadPlan others draft → ⊥
      no_bad_plan bad =
          let is = (same_line (others ++ left.0) bad.line ([] ++ left.0) n.next n.rest (begins_more others bad.line [] left.0 (record { whole = bad.whole; one = bad.one })) n.begins).0 in
          ⊎_elim
          (λ (goes : (n.next ≡ good.go) × (draft ≡ good.draft) × (n.rest ≡ run_part)).
          none-some good.plan (sym (bad.no_plan (ap tape_plan_line (is ∙ goes.0) ∙ good.goes)) ∙ ap planned goes.1 ∙ good.plan_is))
          (λ (on : (after : Draft) × DraftsOn draft n.next after). none-some on.0 (sym bad.adds_nothing ∙ ap (λ (l : List ℕ). option_and_then (drafted draft) (tape_plan_line l)) is ∙ on.1))
          n.kind

      no_end : HasNoLf others → left.0 ≡ [] → ⊥
      no_end none end = no_line others n.next n.rest none (ap (λ (l : List ℕ). others ++ l) (sym end) ∙ n.begins.whole)

      no_limit : HasNoLf others → room ≡ 0 → ⊥
      no_limit none full =
          omega (arith, full, limit, n.short, within_line others left.0 n.next n.rest none n.begins.whole, length-append (flat_map ended lines) others, drafts_few lines draft drafts)

  -- where the plan was read, it is the tape's, and the run part follows
  pub reads_good_plan : (left0 left1 : Option (List ℕ)) (plan : Plan) (count : ℕ) → left0 ≡ Some tape → ReadsHead left0 left1 (Ok (plan, count)) → (left1 ≡ Some run_part) × (plan ≡ good.plan)
  reads_good_plan left0 left1 plan count told reads = ⊎_elim
      (λ (goes : (n.next ≡ good.go) × (reads.draft ≡ good.draft) × (n.rest ≡ run_part)).
      (left.1 ∙ ap Some (same.1 ∙ goes.2), same_Some plan good.plan (sym go.4 ∙ ap planned goes.1 ∙ good.plan_is)))
      (λ (on : (after : Draft) × DraftsOn reads.draft n.next after). absurd (go_ends reads.draft on.0 n.next (ap tape_plan_line (sym same.0) ∙ go.3) on.1))
      n.kind
    where
      go : (line : List ℕ) × (reads.others ≡ ended line) × HasNoLf line × (tape_plan_line line ≡ Some Go) × (planned reads.draft ≡ Some plan) × (count ≡ length reads.lines + 1)
      go = reads.did

      left : (left : List ℕ) × (left1 ≡ Some left) × (tape ≡ (flat_map ended reads.lines ++ reads.others) ++ left)
      left = consumed tape left1 (flat_map ended reads.lines ++ reads.others) (subst (λ (l : Option (List ℕ)). Consumes l left1 (flat_map ended reads.lines ++ reads.others)) told reads.took)

      n : PlanNext reads.lines reads.draft (reads.others ++ left.0)
      n = plan_next reads.lines reads.draft (reads.others ++ left.0) reads.each reads.drafts (left.2 ∙ append_assoc (flat_map ended reads.lines) reads.others left.0)

      same : (go.0 ≡ n.next) × ([] ++ left.0 ≡ n.rest)
      same = same_line (reads.others ++ left.0) go.0 ([] ++ left.0) n.next n.rest (begins_more reads.others go.0 [] left.0 (record { whole = go.1; one = go.2 })) n.begins
