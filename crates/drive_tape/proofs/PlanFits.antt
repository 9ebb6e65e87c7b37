-- A plan that plan lines give is within their limits.
use Rattle.std.proofs.Common.{◌≡◌, ◌≤◌, ◌<◌, ◌+◌, ℕ, Bool, true, false, ◌&&◌, ◌||◌, cond, nat_eq, nat_le, List, [], ◌∷◌, length, Option, Some, None, refl, sym, subst, arith, nat_cmp}
use Rattle.std.specs.Prelude.{option_and_then, is_some, codes}
use Rattle.std.specs.FinMap as map
use Rattle.std.specs.Cmp.Lexicographic.{nat_list_cmp_total, slice_cmp}
use Rattle.std.proofs.lemmas.Bool.Decides.{nat_tests}
use Rattle.mail_model.specs.Plan.{Plan, Users}
use Rattle.mail_model.specs.Names.{is_name, is_secret, lower}
use Rattle.mail_model.specs.Numbers.{number_of}
use Rattle.mail_model.specs.Lines.{without_cr}
use Rattle.mail_model.specs.Tape.{Draft, empty_draft, drafted, planned, PlanLine, tape_plan_line, plan_line_of, nodes_line, copies_line, buckets_line, user_line, postmaster_line, go_line, strip, or_else, between, is_long, has_space, first_word, behind_word}
use Rattle.mail_model.specs.Tape.PlanLine.{Nodes, Copies, Buckets, User, Postmaster, Go}
use Rattle.drive_tape.specs.Plans.{DraftsOn, DraftsTo, IsTapePlan}

-- the numbers of a line are within its limits
abbrev IsFairLine : PlanLine → Type 0
IsFairLine (Nodes n) = (1 ≤ n) × (n ≤ 16)
IsFairLine (Copies r f) = (1 ≤ f) × (f ≤ r)
IsFairLine (Buckets n) = (1 ≤ n) × (n ≤ 1024)
IsFairLine (User name secret) = Unit {0}
IsFairLine (Postmaster name) = Unit {0}
IsFairLine Go = Unit {0}

abbrev IsFair : Option PlanLine → Type 0
IsFair None = Unit {0}
IsFair (Some line) = IsFairLine line

within : (low n high : ℕ) → between low n high ≡ true → (low ≤ n) × (n ≤ high)
within low n high is = by (nat_le low n) (nat_le n high) refl refl is
  where
    by : (a b : Bool) → nat_le low n ≡ a → nat_le n high ≡ b → (a && b) ≡ true → (low ≤ n) × (n ≤ high)
    by true true one two so = (grind (arith, nat_tests, one), grind (arith, nat_tests, two))
    by true false one two so = absurd cc
    by false b one two so = absurd cc

fair_or : (one other : Option PlanLine) → IsFair one → IsFair other → IsFair (or_else one other)
fair_or None other first second = second
fair_or (Some line) other first second = first

fair_then : (read : List ℕ → Option PlanLine) → ((rest : List ℕ) → IsFair (read rest)) → (rest : Option (List ℕ)) → IsFair (option_and_then read rest)
fair_then read fair None = tt
fair_then read fair (Some rest) = fair rest

fair_if : (b : Bool) (line : PlanLine) → (b ≡ true → IsFairLine line) → IsFair (cond b (Some line) None)
fair_if true line fair = fair refl
fair_if false line fair = tt

fair_nodes : (rest : List ℕ) → IsFair (nodes_line rest)
fair_nodes rest = by (number_of rest)
  where
    by : (n : Option ℕ) → IsFair (option_and_then (λ n. cond (between 1 n 16) (Some (Nodes n)) None) n)
    by None = tt
    by (Some n) = fair_if (between 1 n 16) (Nodes n) (λ is. within 1 n 16 is)

fair_buckets : (rest : List ℕ) → IsFair (buckets_line rest)
fair_buckets rest = by (number_of rest)
  where
    by : (n : Option ℕ) → IsFair (option_and_then (λ n. cond (between 1 n 1024) (Some (Buckets n)) None) n)
    by None = tt
    by (Some n) = fair_if (between 1 n 1024) (Buckets n) (λ is. within 1 n 1024 is)

fair_copies : (rest : List ℕ) → IsFair (copies_line rest)
fair_copies rest = by (has_space rest) (number_of (first_word rest)) (number_of (behind_word rest))
  where
    inner : (r : ℕ) (f : Option ℕ) → IsFair (option_and_then (λ f. cond (between 1 f r) (Some (Copies r f)) None) f)
    inner r None = tt
    inner r (Some f) = fair_if (between 1 f r) (Copies r f) (λ is. within 1 f r is)

    by : (b : Bool) (r f : Option ℕ) → IsFair (cond b (option_and_then (λ r. option_and_then (λ f. cond (between 1 f r) (Some (Copies r f)) None) f) r) None)
    by false r f = tt
    by true None f = tt
    by true (Some r) f = inner r f

fair_user : (rest : List ℕ) → IsFair (user_line rest)
fair_user rest = fair_if (has_space rest && is_name (first_word rest) && is_secret (behind_word rest)) (User (lower (first_word rest)) (behind_word rest)) (λ is. tt)

fair_postmaster : (rest : List ℕ) → IsFair (postmaster_line rest)
fair_postmaster rest = fair_if (is_name rest) (Postmaster (lower rest)) (λ is. tt)

fair_go : (rest : List ℕ) → IsFair (go_line rest)
fair_go rest = fair_if (nat_eq (length rest) 0) Go (λ is. tt)

fair_spelt : (line : List ℕ) → IsFair (plan_line_of line)
fair_spelt line =
    fair_or _ _ (fair_then nodes_line fair_nodes (strip (codes "nodes ") line))
    (fair_or _ _ (fair_then copies_line fair_copies (strip (codes "copies ") line))
    (fair_or _ _ (fair_then buckets_line fair_buckets (strip (codes "buckets ") line))
    (fair_or _ _ (fair_then user_line fair_user (strip (codes "user ") line))
    (fair_or _ _ (fair_then postmaster_line fair_postmaster (strip (codes "postmaster ") line)) (fair_then go_line fair_go (strip (codes "go") line))))))

fair_line : (raw : List ℕ) → IsFair (tape_plan_line raw)
fair_line raw = by (is_long raw)
  where
    by : (b : Bool) → IsFair (cond b None (plan_line_of (without_cr raw)))
    by true = tt
    by false = fair_spelt (without_cr raw)

-- what a draft has so far is
record IsFairDraft (d : Draft) : Type 0 where
  nodes : (n : ℕ) → d.nodes ≡ Some n → (1 ≤ n) × (n ≤ 16)
  copies : (c : ℕ × ℕ) → d.copies ≡ Some c → (1 ≤ c.1) × (c.1 ≤ c.0)
  buckets : (n : ℕ) → d.buckets ≡ Some n → (1 ≤ n) × (n ≤ 1024)
  users : map.len d.users ≤ 4096

some_same : {X : Type 0} (x y : X) → Some x ≡ Some y → x ≡ y
some_same x y is = cc

chosen : (b : Bool) (old new : Draft) → cond b None (Some old) ≡ Some new → (b ≡ false) × (old ≡ new)
chosen true old new is = absurd (let no : ◌≡◌ {A = Option Draft} None (Some new) = is in cc)
chosen false old new is = (refl, some_same old new is)

one_more : (users : Users) (name secret : List ℕ) → (is_some (map.get users name) || nat_le 4096 (map.len users)) ≡ false → map.len (map.insert users name secret) ≤ 4096
one_more users name secret is = by (is_some (map.get users name)) (nat_le 4096 (map.len users)) refl is
  where
    less : nat_le 4096 (map.len users) ≡ false → map.len users < 4096
    less not_so = grind (arith, nat_tests, not_so)

    grown : (b : Bool) → map.len users < 4096 → cond b (map.len users) (map.len users + 1) ≤ 4096
    grown true few = omega (arith, few)
    grown false few = omega (arith, few)

    by : (a b : Bool) → nat_le 4096 (map.len users) ≡ b → (a || b) ≡ false → map.len (map.insert users name secret) ≤ 4096
    by true b same so = absurd cc
    by false true same so = absurd cc
    by false false same so = subst (λ (n : ℕ). n ≤ 4096) (sym (map.len-insert nat_list_cmp_total users name secret)) (grown (map.contains_key users name) (less same))

fair_more : (d new : Draft) (line : PlanLine) → IsFairDraft d → IsFairLine line → drafted d line ≡ Some new → IsFairDraft new
fair_more d new (Nodes n) fair line is =
    let so = chosen (is_some d.nodes) (record d { nodes = Some n }) new is in
    subst IsFairDraft so.1 (record { nodes = λ m same. subst (λ (k : ℕ). (1 ≤ k) × (k ≤ 16)) (some_same n m same) line; copies = fair.copies; buckets = fair.buckets; users = fair.users })
fair_more d new (Copies r f) fair line is =
    let so = chosen (is_some d.copies) (record d { copies = Some (r, f) }) new is in
    subst IsFairDraft so.1 (record { nodes = fair.nodes; copies = λ c same. subst (λ (k : ℕ × ℕ). (1 ≤ k.1) × (k.1 ≤ k.0)) (some_same (r, f) c same) line; buckets = fair.buckets; users = fair.users })
fair_more d new (Buckets n) fair line is =
    let so = chosen (is_some d.buckets) (record d { buckets = Some n }) new is in
    subst IsFairDraft so.1 (record { nodes = fair.nodes; copies = fair.copies; buckets = λ m same. subst (λ (k : ℕ). (1 ≤ k) × (k ≤ 1024)) (some_same n m same) line; users = fair.users })
fair_more d new (User name secret) fair line is =
    let so = chosen (is_some (map.get d.users name) || nat_le 4096 (map.len d.users)) (record d { users = map.insert d.users name secret }) new is in
    subst IsFairDraft so.1 (record { nodes = fair.nodes; copies = fair.copies; buckets = fair.buckets; users = one_more d.users name secret so.0 })
fair_more d new (Postmaster name) fair line is =
    let so = chosen (is_some d.postmaster) (record d { postmaster = Some name }) new is in
    subst IsFairDraft so.1 (record { nodes = fair.nodes; copies = fair.copies; buckets = fair.buckets; users = fair.users })
fair_more d new Go fair line is = absurd (let no : ◌≡◌ {A = Option Draft} None (Some new) = is in cc)

fair_on : (old new : Draft) (line : List ℕ) → IsFairDraft old → DraftsOn old line new → IsFairDraft new
fair_on old new line fair on = by (tape_plan_line line) (fair_line line) on
  where
    by : (l : Option PlanLine) → IsFair l → option_and_then (drafted old) l ≡ Some new → IsFairDraft new
    by None l is = absurd (let no : ◌≡◌ {A = Option Draft} None (Some new) = is in cc)
    by (Some one) l is = fair_more old new one fair l is

fair_all : (old new : Draft) (lines : List (List ℕ)) → IsFairDraft old → DraftsTo old lines new → IsFairDraft new
fair_all old new [] fair is = subst IsFairDraft (sym is) fair
fair_all old new (line ∷ lines) fair is = fair_all is.0 new lines (fair_on old is.0 line fair is.1) is.2

fair_empty : IsFairDraft empty_draft
fair_empty = record {
  nodes = λ n is. absurd (let no : ◌≡◌ {A = Option ℕ} None (Some n) = is in cc);
  copies = λ c is. absurd (let no : ◌≡◌ {A = Option (ℕ × ℕ)} None (Some c) = is in cc);
  buckets = λ n is. absurd (let no : ◌≡◌ {A = Option ℕ} None (Some n) = is in cc);
  users = subst (λ (n : ℕ). n ≤ 4096) (sym (map.len-empty (slice_cmp nat_cmp) (List ℕ))) (omega arith);
}

-- the plan at `go`
fair_plan : (d : Draft) (plan : Plan) → IsFairDraft d → planned d ≡ Some plan → IsTapePlan plan
fair_plan d plan fair is = by d.nodes d.copies d.buckets d.postmaster refl refl refl is
  where
    plan_so : ℕ → ℕ × ℕ → ℕ → List ℕ → Plan
    plan_so n c b p = record { nodes = n; copies = c.0; confirm = c.1; buckets = b; users = d.users; postmaster = p }

    both : (x y : Bool) (one : Plan) → cond (x && y) (Some one) None ≡ Some plan → (x ≡ true) × (y ≡ true) × (one ≡ plan)
    both true true one so = (refl, refl, some_same one plan so)
    both true false one so = absurd (let no : ◌≡◌ {A = Option Plan} None (Some plan) = so in cc)
    both false y one so = absurd (let no : ◌≡◌ {A = Option Plan} None (Some plan) = so in cc)

    by : (nodes : Option ℕ) (copies : Option (ℕ × ℕ)) (buckets : Option ℕ) (postmaster : Option (List ℕ)) → d.nodes ≡ nodes → d.copies ≡ copies → d.buckets ≡ buckets
        → option_and_then (λ n. option_and_then (λ c. option_and_then (λ b. option_and_then (λ p. cond (nat_le c.0 n && is_some (map.get d.users p)) (Some (record { nodes = n; copies = c.0; confirm = c.1; buckets = b; users = d.users; postmaster = p })) None) postmaster) buckets) copies) nodes ≡ Some plan
        → IsTapePlan plan
    by None copies buckets postmaster n c b so = absurd (let no : ◌≡◌ {A = Option Plan} None (Some plan) = so in cc)
    by (Some nodes) None buckets postmaster n c b so = absurd (let no : ◌≡◌ {A = Option Plan} None (Some plan) = so in cc)
    by (Some nodes) (Some copies) None postmaster n c b so = absurd (let no : ◌≡◌ {A = Option Plan} None (Some plan) = so in cc)
    by (Some nodes) (Some copies) (Some buckets) None n c b so = absurd (let no : ◌≡◌ {A = Option Plan} None (Some plan) = so in cc)
    by (Some nodes) (Some copies) (Some buckets) (Some postmaster) n c b so =
        let found = both (nat_le copies.0 nodes) (is_some (map.get d.users postmaster)) (record { nodes = nodes; copies = copies.0; confirm = copies.1; buckets = buckets; users = d.users; postmaster = postmaster }) so in
        let in_nodes = fair.nodes nodes n in
        let in_copies = fair.copies copies c in
        let fits : copies.0 ≤ nodes = grind (arith, nat_tests, found.0) in
        subst IsTapePlan found.2 (record { some = in_nodes.0; few = in_nodes.1; confirmed = in_copies.0; copied = in_copies.1; spread = fits; buckets = fair.buckets buckets b; users = fair.users; postmaster = found.1 })

pub plan_fits : (lines : List (List ℕ)) (d : Draft) (plan : Plan) → DraftsTo empty_draft lines d → planned d ≡ Some plan → IsTapePlan plan
plan_fits lines d plan drafts is = fair_plan d plan (fair_all empty_draft d lines fair_empty drafts) is
