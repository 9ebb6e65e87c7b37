-- The steps of a regroup, joined to one list.
use Rattle.std.proofs.Common.{◌≡◌, ◌≢◌, ◌⊎◌, inl, inr, ℕ, zero, suc, ◌+◌, ◌-◌, ◌≤◌, Bool, true, false, ◌||◌, List, [], ◌∷◌, ◌++◌, Option, Some, None, Result, Ok, Err, refl, sym, ap, ◌∙◌, subst, arith, append_assoc}
use Rattle.std.specs.Prelude.{MatchBool, IfOk, map, not, ◌&&◌, is_some}
use Rattle.std.specs.List.{list_any}
use Rattle.std.proofs.lemmas.Bool.{and_parts}
use Rattle.mail_model.specs.Identity.{EpochId}
use Rattle.node_store.specs.Disks.{View}
use Rattle.cluster_world.specs.Steps.{IsStep, SaysSo}
use Rattle.cluster_world.specs.Turns.{node_refusal}
use Rattle.cluster_world.specs.Flights.{AreInOrder}
use Rattle.cluster_world.specs.Worlds.{state_of, plan_of, life_of, CanMakeSteps}
use Rattle.cluster_world.specs.Made.{StepMade, MakesSteps, IsPost, IsOfRegroup, AreOfRegroup, has_failed}
use Rattle.cluster_world.specs.Regroups.{AllWentOn, IsOfRound, AreOfRounds, AllPost, BeginsByGroup, FormsBy, EndsBy, posts_behind, threw_old, sent_in, ArePosted, AreAllPosted, IsRound, IsSecondRound, IsConclusion, IsInOrder, group_is_worn, halted, Halts, StepsOn, PostsOn, AsksOn, ConcludesOn, FormsOn, AsksAgain, RegroupsSo, LacksRoom, BeginsWithRoom, has_room_for_rounds, is_old, failed_in, ended, HasRegrouped, FormsInOrder}
use Rattle.cluster_world.specs.declared.world.World.{World}
use Rattle.cluster_world.specs.declared.step.Step.{Step}
use Rattle.cluster_world.specs.declared.step.Step.TheVariants as step
use Rattle.cluster_world.specs.declared.step.Said.{Said}
use Rattle.cluster_world.specs.declared.step.Said.TheVariants as said
use Rattle.cluster_world.specs.declared.fault.StepFault.{StepFault}
use Rattle.cluster_world.specs.declared.fault.StepFault.TheVariants as fault
use Rattle.cluster_world.specs.declared.regrouping.Regroup.{Regroup}
use Rattle.cluster_world.specs.declared.regrouping.Regroup.TheVariants.{Formed, Fault}
use Rattle.cluster_world.specs.declared.regrouping.Halt.{Halt}
use Rattle.cluster_world.specs.declared.regrouping.Halt.TheVariants as halt
use Rattle.cluster_world.proofs.Formed.{forms_the_up}

-- lists of steps, one behind the other
pub went_on_more : (xs ys : List StepMade) → AllWentOn xs → AllWentOn ys → AllWentOn (xs ++ ys)
went_on_more [] ys a b = b
went_on_more (x ∷ xs) ys (one, more) b = (one, went_on_more xs ys more b)

of_more : (n : ℕ) (xs ys : List StepMade) → AreOfRegroup n xs → AreOfRegroup n ys → AreOfRegroup n (xs ++ ys)
of_more n [] ys a b = b
of_more n (x ∷ xs) ys (one, more) b = (one, of_more n xs ys more b)

rounds_more : (n : ℕ) (xs ys : List StepMade) → AreOfRounds n xs → AreOfRounds n ys → AreOfRounds n (xs ++ ys)
rounds_more n [] ys a b = b
rounds_more n (x ∷ xs) ys (one, more) b = (one, rounds_more n xs ys more b)

pub post_more : (xs ys : List StepMade) → AllPost xs → AllPost ys → AllPost (xs ++ ys)
post_more [] ys a b = b
post_more (x ∷ xs) ys (one, more) b = (one, post_more xs ys more b)

map_more : {X Y : Type 0} (f : X → Y) (xs ys : List X) → map f (xs ++ ys) ≡ map f xs ++ map f ys
map_more f [] ys = refl
map_more f (x ∷ xs) ys = ap (λ l. f x ∷ l) (map_more f xs ys)

any_last : {X : Type 0} (f : X → Bool) (xs : List X) (x : X) → list_any f (xs ++ x ∷ []) ≡ list_any f xs || f x
any_last f [] x = or_none (f x)
  where
    or_none : (b : Bool) → (b || false) ≡ (false || b)
    or_none true = refl
    or_none false = refl
any_last f (y ∷ xs) x = ap (λ b. f y || b) (any_last f xs x) ∙ or_more (f y) (list_any f xs) (f x)
  where
    or_more : (a b c : Bool) → (a || (b || c)) ≡ ((a || b) || c)
    or_more true b c = refl
    or_more false b c = refl

posts_last : (number count : ℕ) → posts_behind number (suc count) ≡ posts_behind number count ++ step.Post (number + count + 1) false ∷ []
posts_last number zero = ap (λ (k : ℕ). step.Post k false ∷ []) (none_more number)
  where
    none_more : (number : ℕ) → number + 1 ≡ number + 0 + 1
    none_more number = omega arith
posts_last number (suc count) =
    ap (λ l. step.Post (number + 1) false ∷ l)
    (posts_last (number + 1) count ∙ ap (λ (k : ℕ). posts_behind (number + 1) count ++ step.Post k false ∷ []) (shift number count))
  where
    shift : (number count : ℕ) → number + 1 + count + 1 ≡ number + suc count + 1
    shift number count = omega arith

suc_is : (count : ℕ) → suc count ≡ count + 1
suc_is count = omega arith

-- posts are of a regroup, and of its rounds
posts_of : (n : ℕ) (steps : List StepMade) → AllPost steps → AreOfRegroup n steps
posts_of n [] all = tt
posts_of n (one ∷ more) (post, all) = (inr (inr post), posts_of n more all)

posts_of_round : (n : ℕ) (steps : List StepMade) → AllPost steps → AreOfRounds n steps
posts_of_round n [] all = tt
posts_of_round n (one ∷ more) (post, all) = (inr post, posts_of_round n more all)

rounds_of : (n : ℕ) (steps : List StepMade) → AreOfRounds n steps → AreOfRegroup n steps
rounds_of n [] all = tt
rounds_of n (one ∷ more) (inl is, all) = (inl is, rounds_of n more all)
rounds_of n (one ∷ more) (inr is, all) = (inr (inr is), rounds_of n more all)

-- steps that are these posts post
are_posts : (number count : ℕ) (steps : List StepMade) → map (λ one. one.step) steps ≡ posts_behind number count → AllPost steps
are_posts number count [] is = tt
are_posts number zero (one ∷ more) is = absurd (let never : one.step ∷ map (λ one. one.step) more ≡ [] = is in cc)
are_posts number (suc count) (one ∷ more) is =
    ((number + 1, ap (first_of one.step) is), are_posts (number + 1) count more (ap rest_of is))
  where
    first_of : Step → List Step → Step
    first_of s [] = s
    first_of s (x ∷ xs) = x

    rest_of : List Step → List Step
    rest_of [] = []
    rest_of (x ∷ xs) = xs

module _ {D : Type 0} (on : View D) where
  pub makes_more : (xs ys : List StepMade) (a b c : World D) → MakesSteps on xs a b → MakesSteps on ys b c → MakesSteps on (xs ++ ys) a c
  makes_more [] ys a b c same more = subst (λ (w : World D). MakesSteps on ys w c) same more
  makes_more (x ∷ xs) ys a b c (mid, is, rest) more = (mid, is, makes_more xs ys mid b c rest more)

  pub makes_one : (s : Step) (r : Result Said StepFault) (a b : World D) → IsStep on r s a b → MakesSteps on (record { step = s; result = r } ∷ []) a b
  makes_one s r a b is = (b, is, refl)

  -- none are posted at first
  pub none_posted : (number : ℕ) (world : World D) → ArePosted on number 0 false world world []
  none_posted number world = record { made = refl; all = refl; well = tt; threw = refl }

  pub one_more_posted : (number count : ℕ) (old : Bool) (from mid to : World D) (steps : List StepMade) (said : Said) → ArePosted on number count old from mid steps → StepsOn on (step.Post (number + count + 1) false) (Ok said) mid to
      → (again : Bool) → again ≡ (old || threw_old (record { step = step.Post (number + count + 1) false; result = Ok said }))
      → ArePosted on number (count + 1) again from to (steps ++ record { step = step.Post (number + count + 1) false; result = Ok said } ∷ [])
  one_more_posted number count old from mid to steps said posted (is, well) again threw =
      let one : StepMade = record { step = step.Post (number + count + 1) false; result = Ok said } in
      record {
        made = makes_more steps (one ∷ []) from mid to posted.made (makes_one one.step one.result mid to is);
        all = map_more (λ (s : StepMade). s.step) steps (one ∷ []) ∙ ap (λ l. l ++ step.Post (number + count + 1) false ∷ []) posted.all ∙ sym (posts_last number count) ∙ ap (λ (k : ℕ). posts_behind number k) (suc_is count);
        well = went_on_more steps (one ∷ []) posted.well (well, tt);
        threw = threw ∙ ap (λ b. b || threw_old one) posted.threw ∙ sym (any_last threw_old steps one);
      }

  -- the next halts
  pub post_halts : (number count : ℕ) (old : Bool) (from mid to : World D) (steps : List StepMade) (halt : Halt) (letter : ℕ) → ArePosted on number count old from mid steps → StepsOn on (step.Post letter false) (Err halt) mid to
      → Halts on AllPost halt from to
  post_halts number count old from mid to steps halt letter posted is =
      let one : StepMade = record { step = step.Post letter false; result = halted on halt } in
      record {
        steps = steps ++ one ∷ [];
        made = makes_more steps (one ∷ []) from mid to posted.made (makes_one one.step one.result mid to is);
        are = post_more steps (one ∷ []) (are_posts number count steps posted.all) ((letter, refl), tt);
        ends = record { front = steps; one = one; split = refl; well = posted.well; failed = refl };
      }

  -- steps before those that halt
  pub halts_after : {Are All : List StepMade → Type 0} (front : List StepMade) (halt : Halt) (a b c : World D) → MakesSteps on front a b → AllWentOn front → ((more : List StepMade) → Are more → All (front ++ more)) → Halts on Are halt b c → Halts on All halt a c
  halts_after front halt a b c made well joins halts = record {
    steps = front ++ halts.steps;
    made = makes_more front halts.steps a b c made halts.made;
    are = joins halts.steps halts.are;
    ends = record {
      front = front ++ halts.ends.front;
      one = halts.ends.one;
      split = ap (λ l. front ++ l) halts.ends.split ∙ sym (append_assoc front halts.ends.front (halts.ends.one ∷ []));
      well = went_on_more front halts.ends.front well halts.ends.well;
      failed = halts.ends.failed;
    };
  }

  -- a step that halts
  pub one_halts : {Are : List StepMade → Type 0} (s : Step) (halt : Halt) (a b : World D) → Are (record { step = s; result = halted on halt } ∷ []) → StepsOn on s (Err halt) a b → Halts on Are halt a b
  one_halts s halt a b are is = record {
    steps = record { step = s; result = halted on halt } ∷ [];
    made = makes_one s (halted on halt) a b is;
    are = are;
    ends = record { front = []; one = record { step = s; result = halted on halt }; split = refl; well = tt; failed = refl };
  }

  -- what is known of a round
  module _ (n : ℕ) (again : Bool) (old new : World D) (steps : List StepMade) (round : IsRound on n again old new steps) where
    opening : StepMade
    opening = record { step = step.Group n; result = Ok round.group }

    pub round_made : MakesSteps on steps old new
    unfolding opening
    round_made = subst (λ (l : List StepMade). MakesSteps on l old new) (sym round.split)
        (round.asked, round.opened, makes_more round.asks round.answers round.asked round.heard new round.posted.made round.answered.made)

    pub round_well : AllWentOn steps
    unfolding opening
    round_well = subst AllWentOn (sym round.split) (round.opens_well, went_on_more round.asks round.answers round.posted.well round.answered.well)

    pub round_of : AreOfRounds n steps
    unfolding opening
    round_of = subst (AreOfRounds n) (sym round.split)
        (inl refl, rounds_more n round.asks round.answers (posts_of_round n round.asks (are_posts _ _ round.asks round.posted.all)) (posts_of_round n round.answers (are_posts _ _ round.answers round.answered.all)))

    pub round_begins : (more : List StepMade) → BeginsByGroup n (steps ++ more)
    round_begins more = subst (λ (l : List StepMade). BeginsByGroup n (l ++ more)) (sym round.split) refl

  module _ (n : ℕ) (epoch : EpochId) (members : ℕ) (old new : World D) (steps : List StepMade) (ends : IsConclusion on n epoch members old new steps) where
    pub conclusion_made : MakesSteps on steps old new
    conclusion_made = subst (λ (l : List StepMade). MakesSteps on l old new) (sym ends.split) (ends.concluded, ends.concludes, ends.posted.made)

    pub conclusion_well : AllWentOn steps
    conclusion_well = subst AllWentOn (sym ends.split) (refl, ends.posted.well)

    pub conclusion_of : AreOfRegroup n steps
    conclusion_of = subst (AreOfRegroup n) (sym ends.split) (inr (inl refl), posts_of n ends.installs (are_posts _ _ ends.installs ends.posted.all))

  -- and of the second, if there is one
  module _ (n : ℕ) where
    pub second_made : (again : Bool) (old new : World D) (steps : List StepMade) → IsSecondRound on n again old new steps → MakesSteps on steps old new
    second_made true old new steps (more, round) = round_made n more old new steps round
    second_made false old new steps (none, same) = subst (λ (l : List StepMade). MakesSteps on l old new) (sym none) same

    pub second_well : (again : Bool) (old new : World D) (steps : List StepMade) → IsSecondRound on n again old new steps → AllWentOn steps
    second_well true old new steps (more, round) = round_well n more old new steps round
    second_well false old new steps (none, same) = subst AllWentOn (sym none) tt

    pub second_of : (again : Bool) (old new : World D) (steps : List StepMade) → IsSecondRound on n again old new steps → AreOfRounds n steps
    second_of true old new steps (more, round) = round_of n more old new steps round
    second_of false old new steps (none, same) = subst (AreOfRounds n) (sym none) tt

  -- what is known where an epoch was formed
  module _ (n : ℕ) (epoch : EpochId) (members : ℕ) (old new : World D) (steps : List StepMade) (is : IsInOrder on n epoch members old new steps) where
    rounds_well : AllWentOn (is.one ++ is.two)
    rounds_well = went_on_more is.one is.two (round_well n is.again old is.asked is.one is.first) (second_well n is.again is.asked is.asked_again is.two is.second)

    rounds_are : AreOfRounds n (is.one ++ is.two)
    rounds_are = rounds_more n is.one is.two (round_of n is.again old is.asked is.one is.first) (second_of n is.again is.asked is.asked_again is.two is.second)

    pub formed_made : MakesSteps on steps old new
    formed_made = subst (λ (l : List StepMade). MakesSteps on l old new) (sym is.split)
        (makes_more (is.one ++ is.two) is.last old is.asked_again new
        (makes_more is.one is.two old is.asked is.asked_again (round_made n is.again old is.asked is.one is.first) (second_made n is.again is.asked is.asked_again is.two is.second))
        (conclusion_made n epoch members is.asked_again new is.last is.ends))

    pub formed_of : AreOfRegroup n steps
    formed_of = subst (AreOfRegroup n) (sym is.split) (of_more n (is.one ++ is.two) is.last (rounds_of n (is.one ++ is.two) rounds_are) (conclusion_of n epoch members is.asked_again new is.last is.ends))

    pub formed_begins : BeginsByGroup n steps
    formed_begins = subst (BeginsByGroup n) (sym is.split)
        (subst (BeginsByGroup n) (sym (append_assoc is.one is.two is.last)) (round_begins n is.again old is.asked is.one is.first (is.two ++ is.last)))

    pub formed_by : FormsBy n epoch members steps
    formed_by = record {
      rounds = is.one ++ is.two;
      installs = is.ends.installs;
      split = is.split ∙ ap (λ (l : List StepMade). (is.one ++ is.two) ++ l) is.ends.split;
      asks = rounds_are;
      posts = are_posts _ _ is.ends.installs is.ends.posted.all;
      well = subst AllWentOn (sym is.split) (went_on_more (is.one ++ is.two) is.last rounds_well (conclusion_well n epoch members is.asked_again new is.last is.ends));
    }

  -- the parts of a round, as they are made
  abbrev pub StartsIt : ℕ → List StepMade → Type 0
  StartsIt n steps = AreOfRegroup n steps × BeginsByGroup n steps

  pub group_halts : (n : ℕ) (halt : Halt) (a b : World D) → StepsOn on (step.Group n) (Err halt) a b → Halts on (λ steps. AreOfRegroup n steps × BeginsByGroup n steps) halt a b
  group_halts n halt a b is = one_halts {Are = StartsIt n} (step.Group n) halt a b ((inl refl, tt), refl) is

  pub asks_halt : (n : ℕ) (group : Said) (halt : Halt) (a b c : World D) → StepsOn on (step.Group n) (Ok group) a b → Halts on AllPost halt b c → Halts on (λ steps. AreOfRegroup n steps × BeginsByGroup n steps) halt a c
  asks_halt n group halt a b c (is, well) halts =
      let one : StepMade = record { step = step.Group n; result = Ok group } in
      halts_after {Are = AllPost} {All = StartsIt n} (one ∷ []) halt a b c (makes_one (step.Group n) (Ok group) a b is) (well, tt) (λ more posts. ((inl refl, posts_of n more posts), refl)) halts

  pub answers_halt : (n : ℕ) (group : Said) (halt : Halt) (a b c d : World D) (number count : ℕ) (old : Bool) → StepsOn on (step.Group n) (Ok group) a b → (steps : List StepMade) × ArePosted on number count old b c steps → Halts on AllPost halt c d
      → Halts on (λ steps. AreOfRegroup n steps × BeginsByGroup n steps) halt a d
  answers_halt n group halt a b c d number count old (is, well) (asks, posted) halts =
      let one : StepMade = record { step = step.Group n; result = Ok group } in
      halts_after {Are = AllPost} {All = StartsIt n} (one ∷ asks) halt a c d (b, is, posted.made) (well, posted.well)
      (λ more posts. ((inl refl, of_more n asks more (posts_of n asks (are_posts number count asks posted.all)) (posts_of n more posts)), refl)) halts

  -- letters behind the number that was the last, up to the one that is
  all_posted : (before after : ℕ) (a b from to : World D) (old : Bool) → before ≡ sent_in a → after ≡ sent_in b → (steps : List StepMade) × ArePosted on before (after - before) old from to steps
      → (steps : List StepMade) × AreAllPosted on a b old from to steps
  all_posted before after a b from to old first last (steps, posted) =
      (steps, subst (λ (m : ℕ). ArePosted on (sent_in a) (m - sent_in a) old from to steps) last (subst (λ (k : ℕ). ArePosted on k (after - k) old from to steps) first posted))

  pub round_is : (n : ℕ) (group : Said) (a b c d : World D) (before asked answered : ℕ) (again late : Bool) → before ≡ sent_in a → asked ≡ sent_in b → answered ≡ sent_in c → StepsOn on (step.Group n) (Ok group) a b
      → (steps : List StepMade) × ArePosted on before (asked - before) again b c steps → (steps : List StepMade) × ArePosted on asked (answered - asked) late c d steps → (steps : List StepMade) × IsRound on n again a d steps
  round_is n group a b c d before asked answered again late e f g (is, well) asks answers =
      let one = all_posted before asked a b b c again e f asks in
      let two = all_posted asked answered b c c d late f g answers in (
        record { step = step.Group n; result = Ok group } ∷ one.0 ++ two.0,
        record {
          group = group;
          asked = b;
          heard = c;
          asks = one.0;
          answers = two.0;
          late = late;
          split = refl;
          opened = is;
          opens_well = well;
          posted = one.1;
          answered = two.1;
        },
      )

  pub conclude_halts : (n : ℕ) (halt : Halt) (a b : World D) → StepsOn on (step.Conclude n) (Err halt) a b → Halts on (AreOfRegroup n) halt a b
  conclude_halts n halt a b is = one_halts {Are = AreOfRegroup n} (step.Conclude n) halt a b (inr (inl refl), tt) is

  pub installs_halt : (n : ℕ) (said : Said) (halt : Halt) (a b c : World D) → StepsOn on (step.Conclude n) (Ok said) a b → Halts on AllPost halt b c → Halts on (AreOfRegroup n) halt a c
  installs_halt n said halt a b c (is, well) halts =
      let one : StepMade = record { step = step.Conclude n; result = Ok said } in
      halts_after {Are = AllPost} {All = AreOfRegroup n} (one ∷ []) halt a b c (makes_one (step.Conclude n) (Ok said) a b is) (well, tt) (λ more posts. (inr (inl refl), posts_of n more posts)) halts

  pub conclusion_is : (n : ℕ) (epoch : EpochId) (members : ℕ) (a b c : World D) (before sent : ℕ) (late : Bool) → before ≡ sent_in a → sent ≡ sent_in b → StepsOn on (step.Conclude n) (Ok (said.Concluded epoch members)) a b
      → (steps : List StepMade) × ArePosted on before (sent - before) late b c steps → (steps : List StepMade) × IsConclusion on n epoch members a c steps
  conclusion_is n epoch members a b c before sent late e f (is, well) installs =
      let one = all_posted before sent a b b c late e f installs in (
        record { step = step.Conclude n; result = Ok (said.Concluded epoch members) } ∷ one.0,
        record {
          concluded = b;
          installs = one.0;
          late = late;
          split = refl;
          concludes = is;
          posted = one.1;
        },
      )

  -- what comes behind a round
  pub again_halts : (n : ℕ) (again : Bool) (halt : Halt) (a b c : World D) → (steps : List StepMade) × IsRound on n again a b steps → Halts on (λ steps. AreOfRegroup n steps × BeginsByGroup n steps) halt b c
      → Halts on (λ steps. AreOfRegroup n steps × BeginsByGroup n steps) halt a c
  again_halts n again halt a b c (steps, round) halts =
      halts_after {Are = StartsIt n} {All = StartsIt n} steps halt a b c (round_made n again a b steps round) (round_well n again a b steps round)
      (λ more are. (of_more n steps more (rounds_of n steps (round_of n again a b steps round)) are.0, round_begins n again a b steps round more)) halts

  pub forms_on : (n : ℕ) (again : Bool) (result : Result (EpochId × ℕ) Halt) (a b c d : World D) → (steps : List StepMade) × IsRound on n again a b steps → (steps : List StepMade) × IsSecondRound on n again b c steps → ConcludesOn on n result c d
      → FormsOn on n result a d
  forms_on n again (Ok (epoch, members)) a b c d (one, first) (two, second) (last, ends) =
      ((one ++ two) ++ last, record { again = again; asked = b; asked_again = c; one = one; two = two; last = last; split = refl; first = first; second = second; ends = ends })
  forms_on n again (Err halt) a b c d (one, first) (two, second) halts =
      halts_after {Are = AreOfRegroup n} {All = StartsIt n} (one ++ two) halt a c d
      (makes_more one two a b c (round_made n again a b one first) (second_made n again b c two second))
      (went_on_more one two (round_well n again a b one first) (second_well n again b c two second))
      (λ more are. (
        of_more n (one ++ two) more (rounds_of n (one ++ two) (rounds_more n one two (round_of n again a b one first) (second_of n again b c two second))) are,
        subst (BeginsByGroup n) (sym (append_assoc one two more)) (round_begins n again a b one first (two ++ more)),
      )) halts

  -- the whole
  pub WasRoomy : ℕ → World D → Type 0
  WasRoomy n old =
      node_refusal (plan_of old) (life_of old) (step.Group n) ≡ None → group_is_worn n (state_of old) ≡ false → has_room_for_rounds (plan_of old).nodes (state_of old).flying.flights ≡ true

  was_roomy : (n : ℕ) (old : World D) (steps : List StepMade) → WasRoomy n old → BeginsWithRoom n steps old
  unfolding WasRoomy
  was_roomy n old [] roomy = tt
  was_roomy n old (one ∷ more) roomy = roomy

  -- whether it is refused for want of room
  abbrev pub is_lacking : ℕ → World D → Bool
  is_lacking n old =
      (not (is_some (node_refusal (plan_of old) (life_of old) (step.Group n))) && not (group_is_worn n (state_of old))) && not (has_room_for_rounds (plan_of old).nodes (state_of old).flying.flights)

  pub roomy : (n : ℕ) (old : World D) (lacks : Bool) → lacks ≡ is_lacking n old → lacks ≡ false → WasRoomy n old
  unfolding WasRoomy
  roomy n old lacks is lacking none fresh = with_room (has_room_for_rounds (plan_of old).nodes (state_of old).flying.flights)
      (ap (λ (w : Bool). not w && not (has_room_for_rounds (plan_of old).nodes (state_of old).flying.flights)) (sym fresh)
      ∙ ap (λ (o : Option StepFault). (not (is_some o) && not (group_is_worn n (state_of old))) && not (has_room_for_rounds (plan_of old).nodes (state_of old).flying.flights)) (sym none)
      ∙ sym is ∙ lacking)
    where
      with_room : (b : Bool) → not b ≡ false → b ≡ true
      with_room true e = refl
      with_room false e = absurd (let never : true ≡ false = e in cc)

  pub has_formed : (n : ℕ) (epoch : EpochId) (members : ℕ) (old new : World D) → WasRoomy n old → AreInOrder (state_of old).flying → CanMakeSteps on.seen old → CanMakeSteps on.seen new
      → (steps : List StepMade) × IsInOrder on n epoch members old new steps → HasRegrouped on n (Ok (Formed epoch members)) old new
  unfolding WasRoomy
  has_formed n epoch members old new fits order ready ready' (steps, is) = (
    steps,
    record {
      made = formed_made n epoch members old new steps is;
      of = formed_of n epoch members old new steps is;
      begins = formed_begins n epoch members old new steps is;
      room = was_roomy n old steps fits;
      shape = formed_by n epoch members old new steps is;
      order = is;
      forms = forms_the_up on n epoch members old new steps is order ready ready' fits;
    },
  )

  pub has_halted : (n : ℕ) (halt : Halt) (old new : World D) → WasRoomy n old → Halts on (λ steps. AreOfRegroup n steps × BeginsByGroup n steps) halt old new → HasRegrouped on n (ended halt) old new
  has_halted n (halt.Fault failed) old new fits halts = (
    halts.steps,
    record {
      made = halts.made;
      of = halts.are.0;
      begins = halts.are.1;
      room = was_roomy n old halts.steps fits;
      shape = halts.ends;
      order = tt;
      forms = λ whole. tt;
    },
  )
  has_halted n (halt.Refused why) old new fits halts = (
    halts.steps,
    record {
      made = halts.made;
      of = halts.are.0;
      begins = halts.are.1;
      room = was_roomy n old halts.steps fits;
      shape = inl halts.ends;
      order = tt;
      forms = λ whole. tt;
    },
  )

  pub has_no_room : (n : ℕ) (world : World D) → LacksRoom n fault.NoRoom [] world → HasRegrouped on n (Err fault.NoRoom) world world
  has_no_room n world lacks = (
    [],
    record {
      made = refl;
      of = tt;
      begins = tt;
      room = tt;
      shape = inr lacks;
      order = tt;
      forms = λ whole. tt;
    },
  )

  no_refusal : (o : Option StepFault) → not (is_some o) ≡ true → o ≡ None
  no_refusal None e = refl
  no_refusal (Some why) e = absurd (let never : false ≡ true = e in cc)

  not_so : (b : Bool) → not b ≡ true → b ≡ false
  not_so false e = refl
  not_so true e = absurd (let never : false ≡ true = e in cc)

  pub lacks_room : (n : ℕ) (old : World D) (lacks : Bool) → lacks ≡ is_lacking n old → lacks ≡ true → HasRegrouped on n (Err fault.NoRoom) old old
  lacks_room n old lacks is lacking =
      let fits = not (is_some (node_refusal (plan_of old) (life_of old) (step.Group n))) in
      let fresh = not (group_is_worn n (state_of old)) in
      let both = and_parts (fits && fresh) (not (has_room_for_rounds (plan_of old).nodes (state_of old).flying.flights)) (sym is ∙ lacking) in
      let begins = and_parts fits fresh both.0 in
      has_no_room n old (record {
        none = refl;
        is = refl;
        fit = no_refusal (node_refusal (plan_of old) (life_of old) (step.Group n)) begins.0;
        fresh = not_so (group_is_worn n (state_of old)) begins.1;
        lacking = not_so (has_room_for_rounds (plan_of old).nodes (state_of old).flying.flights) both.1;
      })

  -- one letter more
  pub one_more_behind : (after posted : ℕ) (old : Bool) (from mid to : World D) (said : Said) → after ≤ posted → (steps : List StepMade) × ArePosted on after (posted - after) old from mid steps → StepsOn on (step.Post (posted + 1) false) (Ok said) mid to
      → (again : Bool) → again ≡ (old || is_old said) → (steps : List StepMade) × ArePosted on after (posted + 1 - after) again from to steps
  one_more_behind after posted old from mid to said low (steps, are) is again threw =
      let e : after + (posted - after) + 1 ≡ posted + 1 = omega (arith, low) in
      let more : (posted - after) + 1 ≡ posted + 1 - after = omega (arith, low) in
      let one : StepMade = record { step = step.Post (after + (posted - after) + 1) false; result = Ok said } in (
        steps ++ one ∷ [],
        subst (λ (k : ℕ). ArePosted on after k again from to (steps ++ one ∷ [])) more
            (one_more_posted after (posted - after) old from mid to steps said are (subst (λ (k : ℕ). StepsOn on (step.Post k false) (Ok said) mid to) (sym e) is) again threw),
      )

-- only a fault names a node
pub faulted_is : (what : Said) (n : ℕ) → failed_in what ≡ Some n → what ≡ said.Faulted n
faulted_is (said.Faulted failed) n e = ap said.Faulted (let same : Some failed ≡ Some n = e in cc)
faulted_is (said.Begun ticket stirs) n e = absurd (let never : None ≡ Some n = e in cc)
faulted_is said.Noted n e = absurd (let never : None ≡ Some n = e in cc)
faulted_is (said.Asked ask) n e = absurd (let never : None ≡ Some n = e in cc)
faulted_is said.Heard n e = absurd (let never : None ≡ Some n = e in cc)
faulted_is (said.Thrown why) n e = absurd (let never : None ≡ Some n = e in cc)
faulted_is (said.Sent letters) n e = absurd (let never : None ≡ Some n = e in cc)
faulted_is (said.Widened did) n e = absurd (let never : None ≡ Some n = e in cc)
faulted_is (said.Grouped epoch) n e = absurd (let never : None ≡ Some n = e in cc)
faulted_is (said.Concluded epoch members) n e = absurd (let never : None ≡ Some n = e in cc)
faulted_is (said.NodeUp boot) n e = absurd (let never : None ≡ Some n = e in cc)
faulted_is said.Done n e = absurd (let never : None ≡ Some n = e in cc)
