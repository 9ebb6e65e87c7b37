-- What is promised of the tape that ends in a map: the map names what the disks have, and members agree.
use Rattle.std.proofs.Common.{◌≡◌, ◌↔◌, ◌<◌, AllPairs, inl, inr, ℕ, Bool, true, false, List, [], ◌∷◌, ◌++◌, flat_map, if◌then◌else◌, Some, None, refl, sym, subst, arith, codes, ap₂}
use Rattle.std.proofs.lemmas.List.Elements.{All-nil, All-cons}
use Rattle.std.proofs.lemmas.List.Kept.{AllPairs-cons}
use Rattle.std.proofs.lemmas.Option.{none-some}
use Rattle.mail_model.specs.Identity.{Key, State}
use Rattle.mail_model.specs.Identity.Key.{Message}
use Rattle.mail_model.specs.Identity.Value.{Here}
use Rattle.mail_model.specs.Record.{Record}
use Rattle.mail_model.specs.Record.Record.{Boot}
use Rattle.mail_model.specs.Site.{nth_id, nth_stamp}
use Rattle.object_model.specs.Keys.{is_same_key}
use Rattle.object_model.specs.Lists.{Among}
use Rattle.object_model.specs.Said.{said}
use Rattle.object_model.specs.Sets.{has}
use Rattle.session_model.specs.Events.{event_entries, node_words}
use Rattle.session_model.specs.Events.ClusterEvent.{HasMapped}
use Rattle.standing_model.specs.Standing.{OnDisk, HasFragment, NamesFragments, SaysAlike, MembersAgree}
use Rattle.fresh_sessions.specs.Acts.{ShowsMembers}
use Rattle.fresh_sessions.specs.Acts.ShowsMembers.{AtOpening}
use Rattle.worked_settles.specs.FreshTape.{worked_plan, three_members, filed}
use Rattle.worked_settles.specs.MapsTape.{MapsTapeIsMet, stored_lines, stored_acts, storer, maps_disks, right_map}
use Rattle.worked_settles.proofs.Formed.{none_formed}
use Rattle.worked_settles.proofs.Digits.{digit_one, digit_two}
use Rattle.worked_settles.proofs.MapsRun.{is_maps_run}
use Rattle.worked_settles.proofs.MapsPromise.{keeps_where, owes_where}
use Rattle.worked_settles.proofs.Standing.{alice}
use Rattle.mail_model.specs.Transcript.{Entry}
use Rattle.mail_model.specs.Transcript.Entry.{Event}

-- the records of a node that has the message, and what they say
abbrev pub with_copy : List Record
with_copy = Boot 1 ∷ filed 1 3

abbrev pub copy_state : State
copy_state = record { value = Here; stamp = nth_stamp 1; targets = 3 }

pub copy_fragment : HasFragment alice with_copy
copy_fragment = record { id = nth_id 1; here = refl }

-- a node that filed nothing has no fragment
pub no_fragment : HasFragment alice (Boot 1 ∷ []) → ⊥
no_fragment has_one = let never : false ≡ true = has_one.here in cc

-- what is so on this disk is so of its records
pub there : (is_so : List Record → Type 0) (records : List Record) → (others : List Record) × (Some records ≡ Some others) × is_so others → is_so records
there is_so records (others, same, so) = let e : records ≡ others = cc same in subst is_so (sym e) so

-- the nodes that have a fragment
names_exactly : (n : ℕ) → Among n (1 ∷ 2 ∷ []) ↔ (Among n three_members × OnDisk maps_disks n (HasFragment alice))
names_exactly n = (named n, has_it n)
  where
    named : (n : ℕ) → Among n (1 ∷ 2 ∷ []) → Among n three_members × OnDisk maps_disks n (HasFragment alice)
    named n (inl is) = (inl is, subst (λ (k : ℕ). OnDisk maps_disks k (HasFragment alice)) is (with_copy, refl, copy_fragment))
    named n (inr (inl is)) = (inr (inl is), subst (λ (k : ℕ). OnDisk maps_disks k (HasFragment alice)) is (with_copy, refl, copy_fragment))
    named n (inr (inr none)) = absurd none

    has_it : (n : ℕ) → Among n three_members × OnDisk maps_disks n (HasFragment alice) → Among n (1 ∷ 2 ∷ [])
    has_it n (inl is, on) = inl is
    has_it n (inr (inl is), on) = inr (inl is)
    has_it n (inr (inr (inl is)), on) = absurd (no_fragment (there (HasFragment alice) (Boot 1 ∷ []) (subst (λ (k : ℕ). OnDisk maps_disks k (HasFragment alice)) (sym is) on)))
    has_it n (inr (inr (inr none)), on) = absurd none

pub rising_two : AllPairs (λ (a b : ℕ). a < b) (1 ∷ 2 ∷ [])
rising_two = AllPairs-cons (λ (a b : ℕ). a < b) 1 (2 ∷ []) (All-cons (λ (b : ℕ). 1 < b) 2 [] (omega arith) (All-nil _)) (AllPairs-cons (λ (a b : ℕ). a < b) 2 [] (All-nil _) (λ i j d low high. absurd (omega (arith, high))))

names : NamesFragments maps_disks three_members alice right_map
names = record {
  manager = 1;
  nodes = 1 ∷ 2 ∷ [];
  tells = refl;
  member = inl refl;
  rising = rising_two;
  exact = names_exactly;
}

-- what such a node says of any key is the one state
pub one_state : (key : Key) (state : State) → said key with_copy ≡ Some state → copy_state ≡ state
one_state key state = by (is_same_key (Message alice (nth_id 1)) key)
  where
    by : (b : Bool) → (if b then Some copy_state else None) ≡ Some state → copy_state ≡ state
    by true is = cc
    by false is = absurd (none-some state is)

agree : MembersAgree maps_disks three_members
agree a b member member_too key state on target = by a member on b member_too target
  where
    -- who says it is one of both that have the message
    says : (a : ℕ) → Among a three_members → OnDisk maps_disks a (λ records. said key records ≡ Some state) → said key with_copy ≡ Some state
    says a (inl is) on = there (λ records. said key records ≡ Some state) with_copy (subst (λ (k : ℕ). OnDisk maps_disks k (λ records. said key records ≡ Some state)) (sym is) on)
    says a (inr (inl is)) on = there (λ records. said key records ≡ Some state) with_copy (subst (λ (k : ℕ). OnDisk maps_disks k (λ records. said key records ≡ Some state)) (sym is) on)
    says a (inr (inr (inl is))) on =
        absurd (none-some state (there (λ records. said key records ≡ Some state) (Boot 1 ∷ []) (subst (λ (k : ℕ). OnDisk maps_disks k (λ records. said key records ≡ Some state)) (sym is) on)))
    says a (inr (inr (inr none))) on = absurd none

    alike : said key with_copy ≡ Some state → SaysAlike key state with_copy
    alike is = record { other = state; says = is; value = refl; stamp = refl; targets = λ n. refl }

    -- node 3 is no target
    no_third : said key with_copy ≡ Some state → has state.targets 3 ≡ true → ⊥
    no_third is third = let never : has copy_state.targets 3 ≡ true = subst (λ (s : State). has s.targets 3 ≡ true) (sym (one_state key state is)) third in cc

    by : (a : ℕ) → Among a three_members → OnDisk maps_disks a (λ records. said key records ≡ Some state) → (b : ℕ) → Among b three_members → has state.targets b ≡ true
        → OnDisk maps_disks b (SaysAlike key state)
    by a member on b (inl is) target = subst (λ (k : ℕ). OnDisk maps_disks k (SaysAlike key state)) is (with_copy, refl, alike (says a member on))
    by a member on b (inr (inl is)) target = subst (λ (k : ℕ). OnDisk maps_disks k (SaysAlike key state)) is (with_copy, refl, alike (says a member on))
    by a member on b (inr (inr (inl is))) target = absurd (no_third (says a member on) (subst (λ (k : ℕ). has state.targets k ≡ true) (sym is) target))
    by a member on b (inr (inr (inr none))) target = absurd none

-- all nodes are members
shown : ShowsMembers worked_plan (flat_map (λ a. a) stored_acts) three_members
shown = AtOpening refl (none_formed (flat_map (λ a. a) stored_acts) refl)

-- the line of the transcript
pub words : node_words (1 ∷ 2 ∷ []) ≡ codes " 1 2"
words = ap₂ (λ (d e : List ℕ). (codes " " ++ d) ++ ((codes " " ++ e) ++ [])) digit_one digit_two

abbrev line_with : List ℕ → List ℕ → List Entry
line_with d named = Event (codes "maps " ++ codes "alice" ++ codes " at " ++ d ++ codes ":" ++ named) ∷ []

pub shows_right : event_entries (HasMapped alice right_map) ≡ Event (codes "maps alice at 1: 1 2") ∷ []
shows_right = ap₂ line_with digit_one words

pub maps_tape_is_met : MapsTapeIsMet
maps_tape_is_met = record {
  runs = is_maps_run;
  names = names;
  agree = agree;
  shows = shows_right;
  owes = owes_where stored_lines stored_acts three_members right_map shown maps_disks names agree refl;
  kept = keeps_where stored_lines stored_acts three_members right_map shown maps_disks names agree (storer ∷ []);
}
