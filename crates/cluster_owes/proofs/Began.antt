-- A call that began, or in which its node went down: what is known then.
use Rattle.std.proofs.Common.{◌≡◌, ◌⊎◌, inl, inr, ⊎_elim, ℕ, Bool, true, false, List, [], ◌∷◌, ◌++◌, map, Some, None, refl, sym, ap, ◌∙◌, subst, if◌then◌else◌}
use Rattle.mail_model.specs.Identity.{Id}
use Rattle.mail_model.specs.Mail.{IsStored}
use Rattle.mail_model.specs.Plan.{Plan}
use Rattle.mail_model.specs.Record.{Record}
use Rattle.mail_model.specs.Book.{Acked, BookEntry, acked_in, struck_in, dropped_in}
use Rattle.object_model.specs.Lists.{Among}
use Rattle.session_model.specs.Calls.{Call, given_of}
use Rattle.session_model.specs.Calls.Call.{Deliver, Login, Fetch, Strike}
use Rattle.session_model.specs.Logs.{Asked, Answered}
use Rattle.session_model.specs.Books.{struck_by}
use Rattle.cluster_model.specs.Cluster.{Node, slot_at}
use Rattle.cluster_model.specs.Parts.{IsHeldSomewhere}
use Rattle.cluster_model.specs.World.{World, letters_of}
use Rattle.cluster_model.specs.WorldLaws.{MayBring}
use Rattle.cluster_model.specs.Steps.{Struck, NodeCall, Said, StepOutcome}
use Rattle.cluster_model.specs.Steps.NodeCall.{Deliver as DeliverCall, Login as LoginCall, Fetch as FetchCall, Strike as StrikeCall, Leave}
use Rattle.cluster_model.specs.Steps.Step.{Begin}
use Rattle.cluster_model.specs.Steps.StepOutcome.{Says}
use Rattle.cluster_model.specs.Makes.{IsUp, struck_entries, with_struck, NodeGoesDown, BeginsCall, BeginsRead, RunsShort, MakesStep}
use Rattle.cluster_model.specs.Makes.BeginsCall.{FailsAtOnce, Goes, FailsInIt}
use Rattle.cluster_model.specs.Makes.BeginsRead.{HasNoManager, Draws, FailsReading, Leaves}
use Rattle.cluster_model.specs.Makes.RunsShort.{Beginning, Hearing, Widening, Forming, Starting}
use Rattle.cluster_model.proofs.Running.{steps_bring}
use Rattle.cluster_owes.specs.Seen.{is_whole, call_made}
use Rattle.cluster_owes.specs.Outcomes.{BegunCall, IsFall}
use Rattle.cluster_owes.proofs.WorldSteps.{TicketsStep, OtherGoes, cut_goes}
use Rattle.cluster_owes.proofs.Books.{acked_both, struck_both, dropped_both}
use Rattle.cluster_owes.proofs.Known.{Filed, AreApart, Known}
use Rattle.cluster_owes.proofs.QuietSteps.{StepKept, step_kept}
use Rattle.cluster_owes.proofs.Beginning.{not_drawn_yet, known_begun}

-- the entries that a call adds as it begins
abbrev pub struck_more : NodeCall → List BookEntry
struck_more (StrikeCall user items) = struck_entries user items
struck_more call = []

nothing : (xs : List BookEntry) → xs ≡ xs ++ []
nothing [] = refl
nothing (x ∷ xs) = ap (λ (l : List BookEntry). x ∷ l) (nothing xs)

back : (xs : List BookEntry) → xs ++ [] ≡ xs
back xs = sym (nothing xs)

pub with_book : (w : World) (call : NodeCall) → (with_struck w call).book ≡ w.book ++ struck_more call
with_book w (DeliverCall mail) = nothing w.book
with_book w (LoginCall user proof) = nothing w.book
with_book w (FetchCall user id from most holders) = nothing w.book
with_book w (StrikeCall user items) = refl
with_book w (Leave user login manager) = nothing w.book

pub with_slots : (w : World) (call : NodeCall) → (with_struck w call).slots ≡ w.slots
with_slots w (DeliverCall mail) = refl
with_slots w (LoginCall user proof) = refl
with_slots w (FetchCall user id from most holders) = refl
with_slots w (StrikeCall user items) = refl
with_slots w (Leave user login manager) = refl

pub with_seconds : (w : World) (call : NodeCall) → (with_struck w call).seconds ≡ w.seconds
with_seconds w (DeliverCall mail) = refl
with_seconds w (LoginCall user proof) = refl
with_seconds w (FetchCall user id from most holders) = refl
with_seconds w (StrikeCall user items) = refl
with_seconds w (Leave user login manager) = refl

abbrev Pairs : Type 0
Pairs = List (List ℕ × Id)

struck_items : (user : List ℕ) (items : List Struck) → struck_in (struck_entries user items) ≡ map (λ id. (user, id)) (map (λ (item : Struck). item.id) items)
struck_items user [] = refl
struck_items user (item ∷ items) = ap (λ (l : Pairs). (user, item.id) ∷ l) (struck_items user items)

acked_items : (user : List ℕ) (items : List Struck) → acked_in (struck_entries user items) ≡ []
acked_items user [] = refl
acked_items user (item ∷ items) = acked_items user items

dropped_items : (user : List ℕ) (items : List Struck) → dropped_in (struck_entries user items) ≡ []
dropped_items user [] = refl
dropped_items user (item ∷ items) = dropped_items user items

pub struck_is : (call : NodeCall) (asked : Call) → call_made call ≡ Some asked → struck_in (struck_more call) ≡ struck_by asked
struck_is (DeliverCall mail) asked e = ap struck_by (let same : Deliver mail ≡ asked = cc e in same)
struck_is (LoginCall user proof) asked e = ap struck_by (let same : Login user (given_of proof) ≡ asked = cc e in same)
struck_is (FetchCall user id from most holders) asked e = by (is_whole from most) e
  where
    by : (b : Bool) → (if b then Some (Fetch user id) else None) ≡ Some asked → [] ≡ struck_by asked
    by true g = ap struck_by (let same : Fetch user id ≡ asked = cc g in same)
    by false g = absurd (cc g)
struck_is (StrikeCall user items) asked e = struck_items user items ∙ ap struck_by (let same : Strike user (map (λ item. item.id) items) ≡ asked = cc e in same)
struck_is (Leave user login manager) asked e = absurd (cc e)

pub struck_acked : (call : NodeCall) → acked_in (struck_more call) ≡ []
struck_acked (DeliverCall mail) = refl
struck_acked (LoginCall user proof) = refl
struck_acked (FetchCall user id from most holders) = refl
struck_acked (StrikeCall user items) = acked_items user items
struck_acked (Leave user login manager) = refl

pub struck_dropped : (call : NodeCall) → dropped_in (struck_more call) ≡ []
struck_dropped (DeliverCall mail) = refl
struck_dropped (LoginCall user proof) = refl
struck_dropped (FetchCall user id from most holders) = refl
struck_dropped (StrikeCall user items) = dropped_items user items
struck_dropped (Leave user login manager) = refl

assoc : (xs ys zs : List BookEntry) → (xs ++ ys) ++ zs ≡ xs ++ (ys ++ zs)
assoc [] ys zs = refl
assoc (x ∷ xs) ys zs = ap (λ (l : List BookEntry). x ∷ l) (assoc xs ys zs)

module _ (plan : Plan) (tells : Bool) (lines : List (List ℕ)) (asked : List Asked) (answered : List Answered) (begun : List BegunCall) (old new : World)
    (known : Known plan tells lines asked answered begun old) (k own : ℕ) (call : NodeCall) (made : Call) (is_call : call_made call ≡ Some made) (outcome : StepOutcome)
    (did : MakesStep plan tells old (Begin own call) outcome new) where
  abbrev pub one : Asked
  one = record { session = k; call = made }

  pub kept : StepKept plan old new
  kept = step_kept plan tells old new (Begin own call) outcome did known.in_plan known.sound

  -- octets of a message that was filed before were held before
  may_not : (f : Filed) → Among f known.files → (some : NodeCall) (octets : List ℕ) → MayBring old (Begin own some) f.id octets → ⊥
  may_not f m (DeliverCall mail) octets b = not_drawn_yet old own mail f.id octets b (known.filed f m).drawn
  may_not f m (LoginCall user proof) octets b = b
  may_not f m (FetchCall user id from most holders) octets b = b
  may_not f m (StrikeCall user items) octets b = b
  may_not f m (Leave user login manager) octets b = b

  pub held : (f : Filed) → Among f known.files → (octets : List ℕ) → IsHeldSomewhere new.slots (letters_of new.flying) f.id octets → IsStored f.mail f.id f.seconds octets
  held f m octets h = ⊎_elim
      (λ was. (known.filed f m).held octets was)
      (λ b. absurd (may_not f m call octets b))
      (steps_bring plan tells old new (Begin own call) outcome did known.in_plan known.sound f.id octets h)

  pub same_files : (files : List Filed) → files ++ [] ≡ files
  same_files [] = refl
  same_files (f ∷ files) = ap (λ (l : List Filed). f ∷ l) (same_files files)

  -- its node went down in it
  fell_in : (some : NodeCall) → call_made some ≡ Some made → OtherGoes (with_struck old some) new → Known plan tells lines (asked ++ one ∷ []) answered (begun ++ []) new
  fell_in some of_call other = known_begun plan tells lines asked answered begun old new known kept one (struck_more some ++ other.entries) (λ n. ⊥)
      (other.goes.seconds ∙ with_seconds old some)
      (other.goes.book ∙ ap (λ b. b ++ other.entries) (with_book old some) ∙ assoc old.book (struck_more some) other.entries)
      (struck_both (struck_more some) other.entries ∙ ap (λ (l : Pairs). struck_in (struck_more some) ++ l) other.lives.struck ∙ no_more (struck_in (struck_more some)) ∙ struck_is some made of_call)
      (dropped_both (struck_more some) other.entries ∙ ap (λ (l : Pairs). dropped_in (struck_more some) ++ l) other.lives.dropped ∙ no_more (dropped_in (struck_more some)) ∙ struck_dropped some)
      (acked_both (struck_more some) other.entries ∙ ap (λ l. acked_in (struck_more some) ++ l) other.lives.acked ∙ no_copies (acked_in (struck_more some)) ∙ struck_acked some)
      (subst (λ s. TicketsStep s new.slots (λ n t. ⊥)) (with_slots old some) other.goes.tickets) (λ n w none. none)
      held [] (subst AreApart (sym (same_files known.files)) known.apart) (λ f m. absurd m) [] (λ last m. absurd m) (λ last t m s. absurd m) (λ n none. absurd none)
    where
      no_more : (l : Pairs) → l ++ [] ≡ l
      no_more [] = refl
      no_more (x ∷ l) = ap (λ (y : Pairs). x ∷ y) (no_more l)

      no_copies : (l : List Acked) → l ++ [] ≡ l
      no_copies [] = refl
      no_copies (x ∷ l) = ap (λ (y : List Acked). x ∷ y) (no_copies l)

  down_in : (some : NodeCall) (node : Node) (disk whole : List Record) (n : ℕ) → IsUp old n node disk → NodeGoesDown (with_struck old some) n disk whole new → OtherGoes (with_struck old some) new
  down_in some node disk whole n up g = cut_goes (with_struck old some) new n node disk g.front g.pending (ap (λ s. slot_at s n) (with_slots old some) ∙ up) g.is

  pub says_fell : (said : Said) → IsFall (Says said) → BeginsCall plan tells old own call said new ⊎ BeginsRead plan old own call said new
      → Known plan tells lines (asked ++ one ∷ []) answered (begun ++ []) new
  says_fell said fall (inl (FailsAtOnce node disk kind up of_kind fails is new_world)) = absurd (subst (λ s. IsFall (Says s)) is fall)
  says_fell said fall (inl (Goes node disk octets up fails filed is new_world)) = absurd (subst (λ s. IsFall (Says s)) is fall)
  says_fell said fall (inl (FailsInIt node disk octets up filed is g)) = fell_in call is_call (down_in call node disk _ own up g)
  says_fell said fall (inr (HasNoManager node disk user proof up logs_in goes is new_world)) = absurd (subst (λ s. IsFall (Says s)) is fall)
  says_fell said fall (inr (Draws node disk up draws goes is on)) = absurd (subst (λ s. IsFall (Says s)) is fall)
  says_fell said fall (inr (FailsReading node disk user id from most holders up fetches reads is new_world)) =
      fell_in (FetchCall user id from most holders) (ap call_made (sym fetches) ∙ is_call) (cut_goes old new own node disk [] [] up new_world)
  says_fell said fall (inr (Leaves node disk user login manager up leaves is on)) = absurd (subst (λ s. IsFall (Says s)) is fall)

  pub short_fell : (n : ℕ) → RunsShort plan old (Begin own call) n new → Known plan tells lines (asked ++ one ∷ []) answered (begun ++ []) new
  short_fell n (Beginning some node disk octets is up filed g) = fell_in some (ap call_made (same_call is) ∙ is_call) (down_in some node disk _ n up g)
    where
      same_call : Begin own call ≡ Begin n some → some ≡ call
      same_call e = cc
  short_fell n (Hearing number keep flies node disk is at up g) = absurd (cc is)
  short_fell n (Widening user id to node disk is up g) = absurd (cc is)
  short_fell n (Forming node disk promise up forms g) = absurd forms
  short_fell n (Starting disk pending next records is here stops new_world) = absurd (cc is)
