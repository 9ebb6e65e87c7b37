-- What stays along a chain of steps: the plan, the disks, what they tell, and that no count of faults falls.
use Rattle.std.proofs.Common.{◌≡◌, ⊎_elim, ℕ, zero, suc, ◌+◌, ◌≤◌, ◌<◌, List, [], ◌∷◌, length, Option, Some, None, refl, sym, ap, ◌∙◌, subst, arith}
use Rattle.std.specs.Prelude.{Result, is_some, slice_get, min}
use Rattle.std.specs.List.{list_all}
use Rattle.std.proofs.lemmas.Option.{slice_get_within, slice_get_cases}
use Rattle.std.proofs.Math.Nat.{min-eq_left, min-eq_right, min-le_right}
use Rattle.std.proofs.lemmas.Bool.{cases_lt}
use Rattle.node_store.specs.Disks.{View}
use Rattle.cluster_world.specs.Worlds.{plan_of, disks_of, disk_of_node, steps_of, disks_tell}
use Rattle.cluster_world.specs.Steps.{IsStep}
use Rattle.cluster_world.specs.Made.{StepMade, MakesSteps}
use Rattle.cluster_world.specs.Outcomes.{Outcome, Awaited, Came, Makes}
use Rattle.cluster_world.specs.Chains.{MakesMore, StepsAreCounted, PlanStays, LaterAfter, steps_in, all_steps_in}
use Rattle.cluster_world.specs.Outcomes.Outcome.{Began, Refused, Fell, Broke, Answers, StillPending, Unanswered, GaveUp, Abandoned, KeptUp, Left, Moved, Settling, Mapped}
use Rattle.cluster_world.proofs.Ordered.{order_makes}
use Rattle.cluster_world.specs.declared.world.World.{World}
use Rattle.cluster_world.specs.declared.step.Step.{Step}
use Rattle.cluster_world.specs.declared.step.Said.{Said}
use Rattle.cluster_world.specs.declared.fault.StepFault.{StepFault}
use Rattle.cluster_world.proofs.Along.{along, along_came}

-- one step more
pub makes_more : {D : Type 0} (on : View D) → MakesMore on
makes_more on [] outcome awaited between left old mid new (same_awaited, same) came = (left, new, rw (← same_awaited, ← same) came, (refl, refl))
makes_more on (first ∷ outcomes) outcome awaited between left old mid new (next, world, first_came, rest) came =
    (next, world, first_came, makes_more on outcomes outcome next between left world mid new rest came)

-- where one of two lists of a length has an element, the other has one
pub has_too : {X Y : Type 0} (xs : List X) (ys : List Y) (k : ℕ) (x : X) → length ys ≡ length xs → slice_get xs k ≡ Some x → (y : Y) × (slice_get ys k ≡ Some y)
has_too xs ys k x same here = ⊎_elim
    (λ found. (found.0, found.2))
    (λ past. absurd (omega (arith, past.0, same, slice_get_within xs k x here)))
    (slice_get_cases ys k).1

-- they tell alike, if each does
pub tells_alike : {D : Type 0} (seen : D → Option (List ℕ)) (xs ys : List D) → length ys ≡ length xs
    → ((k : ℕ) (x y : D) → slice_get xs k ≡ Some x → slice_get ys k ≡ Some y → is_some (seen y) ≡ is_some (seen x))
    → list_all (λ disk. is_some (seen disk)) ys ≡ list_all (λ disk. is_some (seen disk)) xs
tells_alike seen [] [] same each = refl
tells_alike seen [] (y ∷ ys) same each = absurd (omega (arith, same))
tells_alike seen (x ∷ xs) [] same each = absurd (omega (arith, same))
tells_alike seen (x ∷ xs) (y ∷ ys) same each =
    rw (each 0 x y refl refl, tells_alike seen xs ys (omega (arith, same)) (λ k a b. each (suc k) a b)) refl

-- what stays over one step
pub record Stays {D : Type 0} (on : View D) (old new : World D) : Type 0 where
  pub plan : plan_of new ≡ plan_of old
  pub handed : length (disks_of new) ≡ length (disks_of old)
  pub told : disks_tell on.seen new ≡ disks_tell on.seen old
  pub later : (n : ℕ) (disk disk' : D) → disk_of_node old n ≡ Some disk → disk_of_node new n ≡ Some disk' → on.faults disk ≤ on.faults disk'

some_same : {X : Type 0} (a : Option X) (x y : X) → a ≡ Some x → a ≡ Some y → x ≡ y
some_same a x y p q = let e : Some x ≡ Some y = sym p ∙ q in cc

module _ {D : Type 0} (on : View D) where
  stays_same : (world : World D) → Stays on world world
  stays_same world = record {
    plan = refl;
    handed = refl;
    told = refl;
    later = λ n disk disk' was is. omega (arith, ap on.faults (some_same (disk_of_node world n) disk disk' was is));
  }

  later_both : (a b c : World D) → Stays on a b → Stays on b c → (n : ℕ) (disk disk' : D) → disk_of_node a n ≡ Some disk → disk_of_node c n ≡ Some disk' → on.faults disk ≤ on.faults disk'
  later_both a b c p q zero disk disk' was is = absurd (let never : ◌≡◌ {A = Option D} None (Some disk) = was in cc)
  later_both a b c p q (suc k) disk disk' was is =
      let mid = has_too (disks_of a) (disks_of b) k disk p.handed was in
      omega (arith, p.later (suc k) disk mid.0 was mid.1, q.later (suc k) mid.0 disk' mid.1 is)

  stays_both : (a b c : World D) → Stays on a b → Stays on b c → Stays on a c
  stays_both a b c p q = record { plan = q.plan ∙ p.plan; handed = q.handed ∙ p.handed; told = q.told ∙ p.told; later = later_both a b c p q }

  pub step_stays : (result : Result Said StepFault) (step : Step) (old new : World D) → IsStep on result step old new → Stays on old new
  step_stays result step old new is = record {
    plan = is.did.plan;
    handed = is.did.handed;
    told = tells_alike on.seen (disks_of old) (disks_of new) is.did.handed (λ k x y. is.did.told.each (suc k) x y);
    later = is.did.quiet.later;
  }

  pub stays : (outcomes : List Outcome) (awaited left : List Awaited) (old new : World D) → Makes on outcomes awaited old left new → Stays on old new
  stays = along on (Stays on) stays_same stays_both step_stays

  pub stays_came : (outcome : Outcome) (awaited left : List Awaited) (old new : World D) → Came on outcome awaited old left new → Stays on old new
  stays_came = along_came on (Stays on) stays_same stays_both step_stays

pub plan_stays : {D : Type 0} (on : View D) → PlanStays on
plan_stays on outcomes awaited left old new makes = let s = stays on outcomes awaited left old new makes in (s.plan, s.handed, s.told)

pub later_after : {D : Type 0} (on : View D) → LaterAfter on
later_after on outcomes awaited left old new n disk disk' makes = (stays on outcomes awaited left old new makes).later n disk disk'

-- so many steps more were counted, up to the end of the count
abbrev Counts : {D : Type 0} → ℕ → World D → World D → Type 0
Counts more old new = steps_of new ≡ min (steps_of old + more) 18446744073709551615

capped : (a b c m : ℕ) → min (min (a + b) m + c) m ≡ min (a + (b + c)) m
capped a b c m = ⊎_elim
    (λ (below : a + b < m). rw (min-eq_left (let e : a + b ≤ m = omega (arith, below) in e)) (ap (λ n. min n m) (let e : a + b + c ≡ a + (b + c) = omega (arith) in e)))
    (λ (over : m ≤ a + b). rw (min-eq_right over, min-eq_right (let e : m ≤ m + c = omega (arith) in e)) (sym (min-eq_right (let e : m ≤ a + (b + c) = omega (arith, over) in e))))
    (cases_lt (a + b) m)

module _ {D : Type 0} (on : View D) where
  counts_both : (first more : ℕ) (a b c : World D) → Counts first a b → Counts more b c → Counts (first + more) a c
  counts_both first more a b c p q = q ∙ ap (λ n. min (n + more) 18446744073709551615) p ∙ capped (steps_of a) first more 18446744073709551615

  -- the count is never past its end
  counts_none : (old new : World D) → steps_of old ≤ 18446744073709551615 → new ≡ old → Counts 0 old new
  counts_none old new within same =
      ap steps_of same ∙ sym (min-eq_left within) ∙ ap (λ n. min n 18446744073709551615) (let e : steps_of old ≡ steps_of old + 0 = omega (arith) in e)

  counts_within : (more : ℕ) (old new : World D) → Counts more old new → steps_of new ≤ 18446744073709551615
  counts_within more old new p = subst (λ n. n ≤ 18446744073709551615) (sym p) (min-le_right (steps_of old + more) 18446744073709551615)

  counts_steps : (steps : List StepMade) (old new : World D) → steps_of old ≤ 18446744073709551615 → MakesSteps on steps old new → Counts (length steps) old new
  counts_steps [] old new within is = counts_none old new within is
  counts_steps (made ∷ more) old new within (mid, is, makes) =
      subst (λ n. Counts n old new) (let e : 1 + length more ≡ suc (length more) = omega (arith) in e)
      (counts_both 1 (length more) old mid new is.count (counts_steps more mid new (counts_within 1 old mid is.count) makes))

  counts_came : (outcome : Outcome) (awaited left : List Awaited) (old new : World D) → steps_of old ≤ 18446744073709551615 → Came on outcome awaited old left new → Counts (steps_in outcome) old new
  counts_came (Began k node asked ticket) awaited left old new within came = came.3.count
  counts_came (Refused k node asked) awaited left old new within came = came.4.count
  counts_came (Fell k node asked) awaited left old new within came = came.2.count
  counts_came (Broke k node asked) awaited left old new within came = came.3.count
  counts_came (Answers k asked ticket given) awaited left old new within came = came.3.count
  counts_came (StillPending k ticket) awaited left old new within came = came.4.count
  counts_came (Unanswered k asked ticket) awaited left old new within came = came.3.count
  counts_came (GaveUp k asked ticket) awaited left old new within came = came.1.count
  counts_came (Abandoned k asked ticket) awaited left old new within came = came.1.count
  counts_came (KeptUp k ticket why) awaited left old new within came = came.2.count
  counts_came (Left k node user) awaited left old new within came = came.3.count
  counts_came (Moved order steps sum up) awaited left old new within came = counts_steps steps old new within (order_makes on order steps old new came.0)
  counts_came (Settling result steps) awaited left old new within (makes, are, left_is) =
      counts_steps steps old new within (subst (λ (l : List StepMade). MakesSteps on l old new) are makes.made)
  counts_came (Mapped user told) awaited left old new within came = counts_none old new within came.2

  counts : (outcomes : List Outcome) (awaited left : List Awaited) (old new : World D) → steps_of old ≤ 18446744073709551615 → Makes on outcomes awaited old left new → Counts (all_steps_in outcomes) old new
  counts [] awaited left old new within makes = counts_none old new within makes.1
  counts (outcome ∷ more) awaited left old new within (between, mid, came, makes) =
      let first = counts_came outcome awaited between old mid within came in
      counts_both (steps_in outcome) (all_steps_in more) old mid new first (counts more between left mid new (counts_within (steps_in outcome) old mid first) makes)

pub steps_are_counted : {D : Type 0} (on : View D) → StepsAreCounted on
steps_are_counted on plan outcomes left start last begins makes =
    counts on outcomes [] left start last (let e : steps_of start ≤ 18446744073709551615 = omega (arith, begins.steps) in e) makes
    ∙ ap (λ n. min n 18446744073709551615) (let e : steps_of start + all_steps_in outcomes ≡ all_steps_in outcomes = omega (arith, begins.steps) in e)
