-- What is promised of the tape that ends in a map behind a regroup: the map names what both members have, and these agree.
use Rattle.std.proofs.Common.{◌≡◌, ◌⊎◌, inl, inr, ℕ, Bool, true, false, List, [], ◌∷◌, ◌++◌, if◌then◌else◌, Option, Some, None, refl, sym, subst, codes}
use Rattle.std.proofs.lemmas.Option.{none-some}
use Rattle.mail_model.specs.Identity.{Key, State}
use Rattle.mail_model.specs.Identity.Key.{Message}
use Rattle.mail_model.specs.Identity.Value.{Here}
use Rattle.mail_model.specs.Record.{Record}
use Rattle.mail_model.specs.Site.{nth_id, nth_stamp}
use Rattle.mail_model.specs.Transcript.Entry.{Event}
use Rattle.object_model.specs.Keys.{is_same_key}
use Rattle.object_model.specs.Lists.{Among}
use Rattle.object_model.specs.Said.{said}
use Rattle.object_model.specs.Sets.{has}
use Rattle.object_model.specs.States.{join_with}
use Rattle.object_model.proofs.StateLaws.{key_is}
use Rattle.session_model.specs.Events.{event_entries, formed_text}
use Rattle.session_model.specs.Events.ClusterEvent.{WentDown, HasFormed}
use Rattle.standing_model.specs.Standing.{OnDisk, HasFragment, NamesFragments, SaysAlike, MembersAgree}
use Rattle.worked_settles.specs.FreshTape.{teller, fresh_disks}
use Rattle.worked_settles.specs.MapsTape.{right_map}
use Rattle.worked_settles.specs.RegroupedTape.{RegroupedTapeIsMet, second_epoch, two_members, left_lines, left_acts}
use Rattle.worked_settles.proofs.Digits.{digit_one, digit_two, digit_three}
use Rattle.worked_settles.proofs.MapsEnd.{rising_two, there, words}
use Rattle.worked_settles.proofs.MapsPromise.{keeps_where, owes_where}
use Rattle.worked_settles.proofs.RegroupedRun.{is_regrouped_run, left_members}
use Rattle.worked_settles.proofs.Standing.{alice, first_records, second_records, third_records}

-- the keys of both messages, and what is said of them
abbrev first_key : Key
first_key = Message alice (nth_id 1)

abbrev second_key : Key
second_key = Message alice (nth_id 2)

abbrev first_state : State
first_state = record { value = Here; stamp = nth_stamp 1; targets = 3 }

abbrev second_state : State
second_state = record { value = Here; stamp = nth_stamp 2; targets = 6 }

-- each member has a fragment, and so has node 3
has_fragment : (n : ℕ) → Among n two_members → OnDisk fresh_disks n (HasFragment alice)
has_fragment n (inl is) = subst (λ (k : ℕ). OnDisk fresh_disks k (HasFragment alice)) is (first_records, refl, record { id = nth_id 1; here = refl })
has_fragment n (inr (inl is)) = subst (λ (k : ℕ). OnDisk fresh_disks k (HasFragment alice)) is (second_records, refl, record { id = nth_id 1; here = refl })
has_fragment n (inr (inr none)) = absurd none

absent : OnDisk fresh_disks 3 (HasFragment alice)
absent = (third_records, refl, record { id = nth_id 2; here = refl })

names : NamesFragments fresh_disks two_members alice right_map
names = record {
  manager = 1;
  nodes = 1 ∷ 2 ∷ [];
  tells = refl;
  member = inl refl;
  rising = rising_two;
  exact = λ n. (λ among. (among, has_fragment n among), λ both. both.0);
}

-- what node 1 says is of the first message
first_says : (key : Key) (state : State) → said key first_records ≡ Some state → first_key ≡ key
first_says key state = by (is_same_key first_key key) refl
  where
    by : (b : Bool) → is_same_key first_key key ≡ b → (if b then Some first_state else None) ≡ Some state → first_key ≡ key
    by true same is = key_is first_key key same
    by false same is = absurd (none-some state is)

-- and what node 2 says is of one of both
second_says : (key : Key) (state : State) → said key second_records ≡ Some state → (first_key ≡ key) ⊎ (second_key ≡ key)
second_says key state = by (is_same_key first_key key) (is_same_key second_key key) refl refl
  where
    second_held : Bool → Option State
    second_held c = if c then Some second_state else None

    by : (b c : Bool) → is_same_key first_key key ≡ b → is_same_key second_key key ≡ c → (if b then Some (join_with (second_held c) first_state) else second_held c) ≡ Some state
        → (first_key ≡ key) ⊎ (second_key ≡ key)
    by true c same other is = inl (key_is first_key key same)
    by false true same other is = inr (key_is second_key key other)
    by false false same other is = absurd (none-some state is)

-- both members say the same of the first
first_alike : (b : ℕ) → Among b two_members → OnDisk fresh_disks b (SaysAlike first_key first_state)
first_alike b (inl is) =
    subst (λ (k : ℕ). OnDisk fresh_disks k (SaysAlike first_key first_state)) is
    (first_records, refl, record { other = first_state; says = refl; value = refl; stamp = refl; targets = λ n. refl })
first_alike b (inr (inl is)) =
    subst (λ (k : ℕ). OnDisk fresh_disks k (SaysAlike first_key first_state)) is
    (second_records, refl, record { other = first_state; says = refl; value = refl; stamp = refl; targets = λ n. refl })
first_alike b (inr (inr none)) = absurd none

-- and of the second those that are its targets
second_alike : (b : ℕ) → Among b two_members → has second_state.targets b ≡ true → OnDisk fresh_disks b (SaysAlike second_key second_state)
second_alike b (inl is) target = let never : has second_state.targets 1 ≡ true = subst (λ (k : ℕ). has second_state.targets k ≡ true) (sym is) target in cc
second_alike b (inr (inl is)) target =
    subst (λ (k : ℕ). OnDisk fresh_disks k (SaysAlike second_key second_state)) is
    (second_records, refl, record { other = second_state; says = refl; value = refl; stamp = refl; targets = λ n. refl })
second_alike b (inr (inr none)) target = absurd none

-- what is so of a key and a state is so of those that are the same
at_same : (b : ℕ) (key other : Key) (state said_state : State) → key ≡ other → state ≡ said_state → OnDisk fresh_disks b (SaysAlike key state) → OnDisk fresh_disks b (SaysAlike other said_state)
at_same b key other state said_state same_key same_state alike =
    subst (λ (k : Key). OnDisk fresh_disks b (SaysAlike k said_state)) same_key (subst (λ (s : State). OnDisk fresh_disks b (SaysAlike key s)) same_state alike)

agree : MembersAgree fresh_disks two_members
agree a b member member_too key state on target = by a member on
  where
    SaysIt : List Record → Type 0
    SaysIt records = said key records ≡ Some state

    by_first : first_key ≡ key → said first_key first_records ≡ Some state → OnDisk fresh_disks b (SaysAlike key state)
    by_first same is = let e : Some first_state ≡ Some state = is in at_same b first_key key first_state state same (cc e) (first_alike b member_too)

    by_second : (first_key ≡ key) ⊎ (second_key ≡ key) → said key second_records ≡ Some state → OnDisk fresh_disks b (SaysAlike key state)
    by_second (inl same) is = by_first same (subst (λ (k : Key). said k second_records ≡ Some state) (sym same) is)
    by_second (inr same) is =
        let e : Some second_state ≡ Some state = subst (λ (k : Key). said k second_records ≡ Some state) (sym same) is in
        let states : second_state ≡ state = cc e in
        at_same b second_key key second_state state same states (second_alike b member_too (subst (λ (s : State). has s.targets b ≡ true) (sym states) target))

    by : (a : ℕ) → Among a two_members → OnDisk fresh_disks a SaysIt → OnDisk fresh_disks b (SaysAlike key state)
    by a (inl is) on =
        let says = there SaysIt first_records (subst (λ (k : ℕ). OnDisk fresh_disks k SaysIt) (sym is) on) in
        let same = first_says key state says in
        by_first same (subst (λ (k : Key). said k first_records ≡ Some state) (sym same) says)
    by a (inr (inl is)) on =
        let says = there SaysIt second_records (subst (λ (k : ℕ). OnDisk fresh_disks k SaysIt) (sym is) on) in
        by_second (second_says key state says) says
    by a (inr (inr none)) on = absurd none

-- the lines of the transcript
pub formed_spelt : formed_text second_epoch two_members ≡ codes "epoch 2.1 members 1 2"
formed_spelt = λ i. codes "epoch " ++ (digit_two i ++ codes "." ++ digit_one i) ++ codes " members" ++ words i

shows_both : event_entries (WentDown 3) ++ event_entries (HasFormed second_epoch two_members) ≡ Event (codes "node 3 down") ∷ Event (codes "epoch 2.1 members 1 2") ∷ []
shows_both = λ i. Event (codes "node " ++ digit_three i ++ codes " down") ∷ Event (formed_spelt i) ∷ []

pub regrouped_tape_is_met : RegroupedTapeIsMet
regrouped_tape_is_met = record {
  runs = is_regrouped_run;
  absent = absent;
  names = names;
  agree = agree;
  shows = shows_both;
  owes = owes_where left_lines left_acts two_members right_map left_members fresh_disks names agree refl;
  kept = keeps_where left_lines left_acts two_members right_map left_members fresh_disks names agree (teller ∷ []);
}
