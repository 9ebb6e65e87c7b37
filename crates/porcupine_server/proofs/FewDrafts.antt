-- Plan lines that a draft takes are few and short.
use Rattle.std.proofs.Common.{◌≡◌, ◌≤◌, ◌+◌, ◌*◌, ◌||◌, ℕ, Bool, true, false, nat_le, List, [], ◌∷◌, length, flat_map, Option, Some, None, refl, sym, ap, ◌∙◌, subst, arith, length-append, if◌then◌else◌}
use Rattle.std.specs.Prelude.{is_some}
use Rattle.std.specs.FinMap as map
use Rattle.std.specs.Cmp.Lexicographic.{nat_list_cmp_total}
use Rattle.std.proofs.lemmas.Bool.{ltb-false, leb-false, or_parts}
use Rattle.std.proofs.lemmas.Option.{none-some, same_Some, option_and_then_some}
use Rattle.mail_model.specs.Lines.{ended}
use Rattle.mail_model.specs.Plan.{Users}
use Rattle.mail_model.specs.Tape.{Draft, PlanLine, empty_draft, drafted, tape_plan_line, plan_line_of, is_long}
use Rattle.mail_model.specs.Tape.PlanLine.{Nodes, Copies, Buckets, User, Postmaster, Go}
use Rattle.mail_model.specs.Lines.{without_cr}
use Rattle.drive_tape.specs.Plans.{DraftsOn, DraftsTo}

-- a plan line has at most 65,535 octets
pub plan_line_short : (line : List ℕ) (x : PlanLine) → tape_plan_line line ≡ Some x → length line ≤ 65535
plan_line_short line x is = by_test (is_long line) refl is
  where
    by_test : (long : Bool) → is_long line ≡ long → (if long then None else plan_line_of (without_cr line)) ≡ Some x → length line ≤ 65535
    by_test true test none = absurd (none-some x none)
    by_test false test some = ltb-false 65535 (length line) test

-- how often a slot is taken
taken : {X : Type 0} → Option X → ℕ
taken None = 0
taken (Some x) = 1

-- how many plan lines a draft has taken
taken_by : Draft → ℕ
taken_by d = taken d.nodes + taken d.copies + taken d.buckets + taken d.postmaster + map.len d.users

-- a line of which there is one at most fills its empty slot
fills : {X : Type 0} (slot : Option X) (x : X) (old new : Draft) → (if is_some slot then None else Some old) ≡ Some new → (taken slot ≡ 0) × (taken (Some x) ≡ 1) × (old ≡ new)
unfolding taken
fills None x old new is = (refl, refl, same_Some old new is)
fills (Some y) x old new is = absurd (none-some new is)

-- a slot is taken once at most
at_most_one : {X : Type 0} (slot : Option X) → taken slot ≤ 1
unfolding taken
at_most_one None = omega arith
at_most_one (Some x) = omega arith

-- one more plan line, while there are at most 4,096 users
abbrev TakesOne : Draft → Draft → Type 0
TakesOne old new = (taken_by new ≡ taken_by old + 1) × (map.len new.users ≤ 4096)

-- a name that is new is one user more
user_taken : (users : Users) (name secret : List ℕ) → is_some (map.get users name) ≡ false → map.len (map.insert users name secret) ≡ map.len users + 1
user_taken users name secret new =
    let more : map.len (map.insert users name secret) ≡ (if is_some (map.get users name) then map.len users else map.len users + 1) = map.len-insert nat_list_cmp_total users name secret in
    more ∙ ap (λ (b : Bool). if b then map.len users else map.len users + 1) new

-- a line that names a user
user_one : (old new : Draft) (name secret : List ℕ) → map.len old.users ≤ 4096 → (full : Bool) → (is_some (map.get old.users name) || nat_le 4096 (map.len old.users)) ≡ full
    → (if full then None else Some (record old { users = map.insert old.users name secret })) ≡ Some new → TakesOne old new
unfolding taken_by
user_one old new name secret few true test none = absurd (none-some new none)
user_one old new name secret few false test some =
    let parts = or_parts (is_some (map.get old.users name)) (nat_le 4096 (map.len old.users)) test in
    let one = user_taken old.users name secret parts.0 in
    subst (TakesOne old) (same_Some (record old { users = map.insert old.users name secret }) new some) (omega (arith, one), omega (arith, one, leb-false 4096 (map.len old.users) parts.1))

-- whatever the line is
drafted_one : (old new : Draft) (x : PlanLine) → map.len old.users ≤ 4096 → drafted old x ≡ Some new → TakesOne old new
unfolding taken_by
drafted_one old new (Nodes n) few is =
    let one = fills old.nodes n (record old { nodes = Some n }) new is in
    subst (TakesOne old) one.2 (omega (arith, one.0, one.1), few)
drafted_one old new (Copies r f) few is =
    let one = fills old.copies (r, f) (record old { copies = Some (r, f) }) new is in
    subst (TakesOne old) one.2 (omega (arith, one.0, one.1), few)
drafted_one old new (Buckets n) few is =
    let one = fills old.buckets n (record old { buckets = Some n }) new is in
    subst (TakesOne old) one.2 (omega (arith, one.0, one.1), few)
drafted_one old new (User name secret) few is = user_one old new name secret few (is_some (map.get old.users name) || nat_le 4096 (map.len old.users)) refl is
drafted_one old new (Postmaster name) few is =
    let one = fills old.postmaster name (record old { postmaster = Some name }) new is in
    subst (TakesOne old) one.2 (omega (arith, one.0, one.1), few)
drafted_one old new Go few is = absurd (none-some new is)

-- one line, as a plan line
drafts_one : (old new : Draft) (line : List ℕ) → map.len old.users ≤ 4096 → DraftsOn old line new → TakesOne old new × (length line ≤ 65535)
drafts_one old new line few on = option_and_then_some (drafted old) (tape_plan_line line) new on
    (λ (x : PlanLine). λ (is : tape_plan_line line ≡ Some x). λ (some : drafted old x ≡ Some new). (drafted_one old new x few some, plan_line_short line x is))

-- the octets of all lines
drafts_length : (old new : Draft) (lines : List (List ℕ)) → map.len old.users ≤ 4096 → DraftsTo old lines new
    → (length (flat_map ended lines) + 65536 * taken_by old ≤ 65536 * taken_by new) × (map.len new.users ≤ 4096)
drafts_length old new [] few is = subst (λ (d : Draft). (0 + 65536 * taken_by old ≤ 65536 * taken_by d) × (map.len d.users ≤ 4096)) (sym is) (omega arith, few)
drafts_length old new (line ∷ lines) few drafts =
    let one = drafts_one old drafts.0 line few drafts.1 in
    let more = drafts_length drafts.0 new lines one.0.1 drafts.2 in
    (omega (arith, one.0.0, one.1, more.0, length-append (ended line) (flat_map ended lines), length-append line (10 ∷ [])), more.1)

-- four slots, and 4,096 users
taken_few : (d : Draft) → map.len d.users ≤ 4096 → taken_by d ≤ 4100
unfolding taken_by
taken_few d few = omega (arith, few, at_most_one d.nodes, at_most_one d.copies, at_most_one d.buckets, at_most_one d.postmaster)

-- the plan lines of a draft are not many octets
pub drafts_few : (lines : List (List ℕ)) (draft : Draft) → DraftsTo empty_draft lines draft → length (flat_map ended lines) ≤ 65536 * 4100
drafts_few lines draft drafts =
    let none : map.len empty_draft.users ≡ 0 = map.len-empty _ _ in
    let all = drafts_length empty_draft draft lines (omega (arith, none)) drafts in
    omega (arith, all.0, taken_few draft all.1)
