-- Letters that were posted, one after another.
use Rattle.std.proofs.Common.{◌≡◌, inl, inr, ℕ, ◌+◌, ◌≤◌, ◌<◌, Bool, true, false, List, [], ◌∷◌, ◌++◌, Option, Some, None, Result, Ok, Err, refl, sym, subst, append_assoc, arith}
use Rattle.std.specs.Prelude.{MatchBool}
use Rattle.std.proofs.lemmas.List.{append-nil}
use Rattle.node_store.specs.Disks.{View}
use Rattle.cluster_model.specs.Room.{Flight}
use Rattle.object_model.specs.Lists.{Among}
use Rattle.cluster_world.specs.Flights.{first_number, AreAbove, NumbersRise, AreInOrder}
use Rattle.cluster_world.specs.Worlds.{state_of}
use Rattle.cluster_world.specs.Steps.{IsStep, SaysSo}
use Rattle.cluster_world.specs.Made.{StepMade, IsPost, PostsAll, has_failed}
use Rattle.cluster_world.specs.Flows.{IsDelivered, AllDelivered, IsLowest, PostsLowest, HasFlowed}
use Rattle.cluster_world.specs.declared.world.World.{World}
use Rattle.cluster_world.specs.declared.step.Step.TheVariants.{Post}
use Rattle.cluster_world.specs.declared.step.Said.{Said}
use Rattle.cluster_world.specs.declared.step.Said.TheVariants.{Begun, Noted, Asked, Heard, Thrown, Sent, Widened, Grouped, Concluded, NodeUp, Done, Faulted}
use Rattle.cluster_world.specs.declared.fault.StepFault.{StepFault}
use Rattle.cluster_world.proofs.Still.{some_same}

-- a letter that was delivered
delivers : (result : Result Said StepFault) → IsDelivered result → has_failed result ≡ false
delivers (Ok Heard) is = refl
delivers (Ok (Thrown why)) is = refl
delivers (Ok (Begun ticket stirs)) is = absurd is
delivers (Ok Noted) is = absurd is
delivers (Ok (Asked ask)) is = absurd is
delivers (Ok (Sent letters)) is = absurd is
delivers (Ok (Widened did)) is = absurd is
delivers (Ok (Grouped epoch)) is = absurd is
delivers (Ok (Concluded epoch members)) is = absurd is
delivers (Ok (NodeUp boot)) is = absurd is
delivers (Ok Done) is = absurd is
delivers (Ok (Faulted n)) is = absurd is
delivers (Err why) is = absurd is

above_all : (n : ℕ) (flights : List Flight) → AreAbove n flights → (other : Flight) → Among other flights → n ≤ other.number
above_all n [] above other m = absurd m
above_all n (flight ∷ flights) (more, above) other (inl same) = subst (λ (f : Flight). n ≤ f.number) same (omega (arith, more))
above_all n (flight ∷ flights) (more, above) other (inr m) = above_all n flights above other m

-- the first of letters whose numbers rise has the lowest
lowest_of : (letter : ℕ) (flights : List Flight) → first_number flights ≡ Some letter → NumbersRise flights → IsLowest letter flights
lowest_of letter [] e rise = absurd (let never : None ≡ Some letter = e in cc)
lowest_of letter (flight ∷ flights) e (above, rise) =
    let is : flight.number ≡ letter = some_same flight.number letter e in
    record {
      flight = flight;
      flies = inl refl;
      is = is;
      least = λ other m. subst (λ k. k ≤ other.number) is (by other m);
    }
  where
    by : (other : Flight) → Among other (flight ∷ flights) → flight.number ≤ other.number
    by other (inl same) = subst (λ (f : Flight). flight.number ≤ f.number) same (omega arith)
    by other (inr m) = above_all flight.number flights above other m

module _ {D : Type 0} (on : View D) where
  -- so far each receiver goes on; with those that follow, all letters are posted
  pub record WerePosted (old new : World D) : Type 0 where
    pub steps : List StepMade
    pub all : AllDelivered steps
    pub lowest : PostsLowest on steps old new
    pub goes_on : (rest : List StepMade) (last : World D) → PostsAll on rest new last → PostsAll on (steps ++ rest) old last

  pub none_posted : (world : World D) → WerePosted world world
  none_posted world = record { steps = []; all = tt; lowest = refl; goes_on = λ rest last more. more }

  all_more : (steps : List StepMade) (one : StepMade) → AllDelivered steps → IsPost one → IsDelivered one.result → AllDelivered (steps ++ one ∷ [])
  all_more [] one h post is = (post, is, tt)
  all_more (first ∷ steps) one (p, d, h) post is = (p, d, all_more steps one h post is)

  made_of : ℕ → Result Said StepFault → StepMade
  made_of letter result = record { step = Post letter false; result = result }

  -- the first of the letters in flight was posted
  abbrev pub PostsFirst : ℕ → Result Said StepFault → World D → World D → Type 0
  PostsFirst letter result mid new = (first_number (state_of mid).flying.flights ≡ Some letter) × AreInOrder (state_of mid).flying × IsStep on result (Post letter false) mid new

  lowest_more : (steps : List StepMade) (letter : ℕ) (result : Result Said StepFault) (old mid new : World D) → PostsLowest on steps old mid → PostsFirst letter result mid new → PostsLowest on (steps ++ made_of letter result ∷ []) old new
  unfolding made_of
  lowest_more [] letter result old mid new same (first, order, is) =
      subst (λ (w : World D). PostsLowest on (record { step = Post letter false; result = result } ∷ []) w new) same (letter, new, lowest_of letter (state_of mid).flying.flights first order.rising, refl, is, refl)
  lowest_more (one ∷ steps) letter result old mid new (number, next, low, step_is, did, rest) first = (number, next, low, step_is, did, lowest_more steps letter result next mid new rest first)

  goes_well : (letter : ℕ) (result : Result Said StepFault) (mid new last : World D) (rest : List StepMade) → PostsFirst letter result mid new → has_failed result ≡ false → PostsAll on rest new last
      → PostsAll on (made_of letter result ∷ rest) mid last
  unfolding made_of
  goes_well letter result mid new last rest first well more =
      (letter, new, first.0, refl, first.2, subst (λ (b : Bool). MatchBool b ((rest ≡ []) × (last ≡ new)) (PostsAll on rest new last)) (sym well) more)

  goes_no_further : (letter : ℕ) (result : Result Said StepFault) (mid new : World D) → PostsFirst letter result mid new → has_failed result ≡ true → PostsAll on (made_of letter result ∷ []) mid new
  unfolding made_of
  goes_no_further letter result mid new first failed =
      (letter, new, first.0, refl, first.2, subst (λ (b : Bool). MatchBool b ((◌≡◌ {A = List StepMade} [] []) × (new ≡ new)) (PostsAll on [] new new)) (sym failed) (refl, refl))

  pub one_more_posted : (letter : ℕ) (result : Result Said StepFault) (old mid new : World D) → WerePosted old mid → PostsFirst letter result mid new → IsDelivered result → WerePosted old new
  unfolding made_of
  one_more_posted letter result old mid new posted first is = record {
    steps = posted.steps ++ made_of letter result ∷ [];
    all = all_more posted.steps (made_of letter result) posted.all (letter, refl) is;
    lowest = lowest_more posted.steps letter result old mid new posted.lowest first;
    goes_on = λ rest last more. subst (λ (l : List StepMade). PostsAll on l old last) (sym (append_assoc posted.steps (made_of letter result ∷ []) rest))
        (posted.goes_on (made_of letter result ∷ rest) last (goes_well letter result mid new last rest first (delivers result is) more));
  }

  pub all_posted : (old new : World D) → WerePosted old new → (state_of new).flying.flights ≡ [] → HasFlowed on (Ok None) old new
  all_posted old new posted none = record {
    steps = posted.steps;
    made = subst (λ (l : List StepMade). PostsAll on l old new) (append-nil posted.steps) (posted.goes_on [] new (none, refl));
    lowest = posted.lowest;
    flows = posted.all;
  }

  pub posted_until : (letter node : ℕ) (old mid new : World D) → WerePosted old mid → PostsFirst letter (Ok (Faulted node)) mid new → HasFlowed on (Ok (Some node)) old new
  unfolding made_of
  posted_until letter node old mid new posted first = record {
    steps = posted.steps ++ made_of letter (Ok (Faulted node)) ∷ [];
    made = posted.goes_on (made_of letter (Ok (Faulted node)) ∷ []) new (goes_no_further letter (Ok (Faulted node)) mid new first refl);
    lowest = lowest_more posted.steps letter (Ok (Faulted node)) old mid new posted.lowest first;
    flows = (posted.steps, made_of letter (Ok (Faulted node)), refl, posted.all, (letter, refl), refl);
  }

  pub posted_then : (letter : ℕ) (why : StepFault) (old mid new : World D) → WerePosted old mid → PostsFirst letter (Err why) mid new → HasFlowed on (Err why) old new
  unfolding made_of
  posted_then letter why old mid new posted first = record {
    steps = posted.steps ++ made_of letter (Err why) ∷ [];
    made = posted.goes_on (made_of letter (Err why) ∷ []) new (goes_no_further letter (Err why) mid new first refl);
    lowest = lowest_more posted.steps letter (Err why) old mid new posted.lowest first;
    flows = (posted.steps, made_of letter (Err why), refl, posted.all, (letter, refl), refl);
  }

pub none_first : (flights : List Flight) → first_number flights ≡ None → flights ≡ []
none_first [] e = refl
none_first (flight ∷ flights) e = absurd (let never : Some flight.number ≡ None = e in cc)

-- what a post says that is no fault
pub delivered : (letter : ℕ) (said : Said) → SaysSo (Post letter false) said → ((n : ℕ) → said ≡ Faulted n → ⊥) → IsDelivered (Ok said)
delivered letter Heard says none = tt
delivered letter (Thrown why) says none = tt
delivered letter (Faulted n) says none = none n refl
delivered letter (Begun ticket stirs) says none = says
delivered letter Noted says none = says
delivered letter (Asked ask) says none = says
delivered letter (Sent letters) says none = says
delivered letter (Widened did) says none = says
delivered letter (Grouped epoch) says none = says
delivered letter (Concluded epoch members) says none = says
delivered letter (NodeUp boot) says none = says
delivered letter Done says none = says
