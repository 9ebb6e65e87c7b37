-- What maps see of a disk to which records of messages are appended.
use Rattle.std.proofs.Common.{◌≡◌, ℕ, Bool, true, false, cond, ◌&&◌, ◌||◌, List, [], ◌∷◌, ◌++◌, None, refl, sym, ap, ◌∙◌, subst, true≢false, nat_eq}
use Rattle.std.specs.Cmp.Lexicographic.{pointwise, bytes_decides}
use Rattle.mail_model.specs.Identity.{Id, EpochId, Key, State}
use Rattle.mail_model.specs.Identity.Key.{Profile, Message}
use Rattle.mail_model.specs.Record.{Record}
use Rattle.mail_model.specs.Record.Record.{Boot, Promise, Octets, Stated, Retired}
use Rattle.object_model.specs.Said.{said}
use Rattle.object_model.proofs.SaidLaws.{held_both, said_other, said_retired, said_octets}
use Rattle.cluster_model.specs.Claims.{boot_of}
use Rattle.cluster_model.proofs.StoreSteps.{boot_both}
use Rattle.maps_model.specs.Rules.{set_at}
use Rattle.whole_model.specs.Whole.{promise_after, promise_of, is_held_here, shows_here, some_here, holds_of, maps_disk_of}

pub promise_both : (promise : EpochId) (records more : List Record) → promise_after promise (records ++ more) ≡ promise_after (promise_after promise records) more
promise_both promise [] more = refl
promise_both promise (Promise epoch ∷ records) more = promise_both epoch records more
promise_both promise (Boot boot ∷ records) more = promise_both promise records more
promise_both promise (Octets id octets ∷ records) more = promise_both promise records more
promise_both promise (Stated key state ∷ records) more = promise_both promise records more
promise_both promise (Retired key state ∷ records) more = promise_both promise records more

-- what is said of each copy of a user is all that counts
shows_same : (user : List ℕ) (all others : List Record) (key : Key) → ((id : Id) → said (Message user id) others ≡ said (Message user id) all) → shows_here user others key ≡ shows_here user all key
shows_same user all others (Profile name) same = refl
shows_same user all others (Message name id) same = by (pointwise nat_eq name user) refl
  where
    by : (b : Bool) → pointwise nat_eq name user ≡ b → (b && is_held_here (said (Message name id) others)) ≡ (b && is_held_here (said (Message name id) all))
    by true e = ap is_held_here (subst (λ n. said (Message n id) others ≡ said (Message n id) all) (sym ((bytes_decides name user).0 e)) (same id))
    by false e = refl

some_same : (user : List ℕ) (all others records : List Record) → ((id : Id) → said (Message user id) others ≡ said (Message user id) all) → some_here user others records ≡ some_here user all records
some_same user all others [] same = refl
some_same user all others (Stated key state ∷ records) same = ap (λ b. b || some_here user others records) (shows_same user all others key same) ∙ ap (λ b. shows_here user all key || b) (some_same user all others records same)
some_same user all others (Boot boot ∷ records) same = some_same user all others records same
some_same user all others (Promise epoch ∷ records) same = some_same user all others records same
some_same user all others (Octets id octets ∷ records) same = some_same user all others records same
some_same user all others (Retired key state ∷ records) same = some_same user all others records same

or_assoc : (a b c : Bool) → (a || (b || c)) ≡ ((a || b) || c)
or_assoc true b c = refl
or_assoc false b c = refl

or_none : (a : Bool) → (a || false) ≡ a
or_none true = refl
or_none false = refl

some_both : (user : List ℕ) (all xs ys : List Record) → some_here user all (xs ++ ys) ≡ (some_here user all xs || some_here user all ys)
some_both user all [] ys = refl
some_both user all (Stated key state ∷ xs) ys = ap (λ b. shows_here user all key || b) (some_both user all xs ys) ∙ or_assoc (shows_here user all key) (some_here user all xs) (some_here user all ys)
some_both user all (Boot boot ∷ xs) ys = some_both user all xs ys
some_both user all (Promise epoch ∷ xs) ys = some_both user all xs ys
some_both user all (Octets id octets ∷ xs) ys = some_both user all xs ys
some_both user all (Retired key state ∷ xs) ys = some_both user all xs ys

-- one record more, which is of no copy of this user
held_same : (user : List ℕ) (seen : List Record) (one : Record) → ((id : Id) → said (Message user id) (seen ++ one ∷ []) ≡ said (Message user id) seen)
    → some_here user (seen ++ one ∷ []) (one ∷ []) ≡ false → holds_of (seen ++ one ∷ []) user ≡ holds_of seen user
held_same user seen one same none = some_both user (seen ++ one ∷ []) seen (one ∷ []) ∙ ap (λ b. some_here user (seen ++ one ∷ []) seen || b) none
    ∙ or_none (some_here user (seen ++ one ∷ []) seen) ∙ some_same user seen (seen ++ one ∷ []) seen same

-- what the disk looks like to maps
alike : (a b : List Record) → boot_of a ≡ boot_of b → promise_of a ≡ promise_of b → ((user : List ℕ) → holds_of a user ≡ holds_of b user) → maps_disk_of a ≡ maps_disk_of b
alike a b boots promises holds = λ i. record { boot = boots i; promise = promises i; holds = λ user. holds user i }

pub after_octets : (seen : List Record) (id : Id) (octets : List ℕ) → maps_disk_of (seen ++ Octets id octets ∷ []) ≡ maps_disk_of seen
after_octets seen id octets = alike (seen ++ Octets id octets ∷ []) seen (boot_both 0 seen (Octets id octets ∷ [])) (promise_both _ seen (Octets id octets ∷ []))
    (λ user. held_same user seen (Octets id octets) (λ i. said_octets (Message user i) seen id octets) refl)

pub after_retired : (seen : List Record) (key : Key) (state : State) → maps_disk_of (seen ++ Retired key state ∷ []) ≡ maps_disk_of seen
after_retired seen key state = alike (seen ++ Retired key state ∷ []) seen (boot_both 0 seen (Retired key state ∷ [])) (promise_both _ seen (Retired key state ∷ []))
    (λ user. held_same user seen (Retired key state) (λ i. said_retired (Message user i) key seen state) refl)

pub after_profile : (seen : List Record) (name : List ℕ) (state : State) → maps_disk_of (seen ++ Stated (Profile name) state ∷ []) ≡ maps_disk_of seen
after_profile seen name state = alike (seen ++ Stated (Profile name) state ∷ []) seen (boot_both 0 seen (Stated (Profile name) state ∷ [])) (promise_both _ seen (Stated (Profile name) state ∷ []))
    (λ user. held_same user seen (Stated (Profile name) state) (λ i. said_other (Message user i) (Profile name) seen state (λ e. cc)) refl)

pub after_promise : (seen : List Record) (epoch : EpochId) → maps_disk_of (seen ++ Promise epoch ∷ []) ≡ record (maps_disk_of seen) { promise = epoch }
after_promise seen epoch =
    let boots : boot_of (seen ++ Promise epoch ∷ []) ≡ boot_of seen = boot_both 0 seen (Promise epoch ∷ []) in
    let promises : promise_of (seen ++ Promise epoch ∷ []) ≡ epoch = promise_both _ seen (Promise epoch ∷ []) in
    let holds : (user : List ℕ) → holds_of (seen ++ Promise epoch ∷ []) user ≡ holds_of seen user =
    λ user. held_same user seen (Promise epoch) (λ i. held_both (Message user i) None seen (Promise epoch ∷ [])) refl in
    λ i. record { boot = boots i; promise = promises i; holds = λ user. holds user i }

pub after_boot : (seen : List Record) (boot : ℕ) → maps_disk_of (seen ++ Boot boot ∷ []) ≡ record (maps_disk_of seen) { boot = boot }
after_boot seen boot =
    let boots : boot_of (seen ++ Boot boot ∷ []) ≡ boot = boot_both 0 seen (Boot boot ∷ []) in
    let promises : promise_of (seen ++ Boot boot ∷ []) ≡ promise_of seen = promise_both _ seen (Boot boot ∷ []) in
    let holds : (user : List ℕ) → holds_of (seen ++ Boot boot ∷ []) user ≡ holds_of seen user =
    λ user. held_same user seen (Boot boot) (λ i. held_both (Message user i) None seen (Boot boot ∷ [])) refl in
    λ i. record { boot = boots i; promise = promises i; holds = λ user. holds user i }

-- a state of a copy: what the disk says of its user may turn, and of nobody else
pub after_copy : (seen : List Record) (user : List ℕ) (id : Id) (state : State)
    → maps_disk_of (seen ++ Stated (Message user id) state ∷ []) ≡ record (maps_disk_of seen) { holds = set_at (holds_of seen) user (holds_of (seen ++ Stated (Message user id) state ∷ []) user) }
after_copy seen user id state =
    let boots : boot_of now ≡ boot_of seen = boot_both 0 seen (Stated (Message user id) state ∷ []) in
    let promises : promise_of now ≡ promise_of seen = promise_both _ seen (Stated (Message user id) state ∷ []) in
    λ i. record { boot = boots i; promise = promises i; holds = λ u. held u i }
  where
    now : List Record
    now = seen ++ Stated (Message user id) state ∷ []

    same_user : (u : List ℕ) (i : Id) → Message user id ≡ Message u i → user ≡ u
    same_user u i e = cc

    held : (u : List ℕ) → holds_of (seen ++ Stated (Message user id) state ∷ []) u ≡ set_at (holds_of seen) user (holds_of (seen ++ Stated (Message user id) state ∷ []) user) u
    held u = by (pointwise nat_eq u user) refl
      where
        by : (b : Bool) → pointwise nat_eq u user ≡ b → holds_of (seen ++ Stated (Message user id) state ∷ []) u ≡ cond b (holds_of (seen ++ Stated (Message user id) state ∷ []) user) (holds_of seen u)
        by true e = ap (holds_of (seen ++ Stated (Message user id) state ∷ [])) ((bytes_decides u user).0 e)
        by false e = held_same u seen (Stated (Message user id) state)
            (λ i. said_other (Message u i) (Message user id) seen state (λ k. true≢false (sym ((bytes_decides u user).1 (sym (same_user u i k))) ∙ e)))
            (none (pointwise nat_eq user u) refl)
          where
            none : (b : Bool) → pointwise nat_eq user u ≡ b → ((b && is_held_here (said (Message user id) (seen ++ Stated (Message user id) state ∷ []))) || false) ≡ false
            none true p = absurd (true≢false (sym ((bytes_decides u user).1 (sym ((bytes_decides user u).0 p))) ∙ e))
            none false p = refl

-- where it does not turn, nothing does
pub set_same : (seen : List Record) (user : List ℕ) (full : Bool) → holds_of seen user ≡ full → record (maps_disk_of seen) { holds = set_at (holds_of seen) user full } ≡ maps_disk_of seen
set_same seen user full is = λ i. record { boot = boot_of seen; promise = promise_of seen; holds = λ u. held u i }
  where
    held : (u : List ℕ) → set_at (holds_of seen) user full u ≡ holds_of seen u
    held u = by (pointwise nat_eq u user) refl
      where
        by : (b : Bool) → pointwise nat_eq u user ≡ b → cond b full (holds_of seen u) ≡ holds_of seen u
        by true e = sym is ∙ ap (holds_of seen) (sym ((bytes_decides u user).0 e))
        by false e = refl
