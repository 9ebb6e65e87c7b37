-- What a call does to a log and a disk, in the words of the invariant, and that one such step after another is one.
use Rattle.std.proofs.Common.{◌≡◌, ◌≢◌, ◌⊎◌, inl, inr, ⊎_elim, ℕ, true, false, List, [], ◌∷◌, ◌++◌, Some, refl, sym, ap, ◌∙◌, append_assoc}
use Rattle.std.specs.FinMap as fin
use Rattle.mail_model.specs.Identity.{Id, Key, State}
use Rattle.mail_model.specs.Identity.Key.{Message}
use Rattle.mail_model.specs.Identity.Value.{Gone}
use Rattle.mail_model.specs.Record.{Record}
use Rattle.mail_model.specs.Record.Record.{Boot, Octets, Stated, Promise, Retired}
use Rattle.object_model.specs.Sets.{has}
use Rattle.object_model.specs.Lists.{Among}
use Rattle.mail_model.specs.Grammar.{IsOfKind}
use Rattle.object_model.specs.Said.{said}
use Rattle.object_model.specs.UpdateLog.{Logged}
use Rattle.cluster_model.specs.Store.{Store, Update}
use Rattle.object_model.proofs.Lists.{among_either}
use Rattle.cluster_model.specs.Claims.{DiskSpeaks, boot_of, boot_after}

-- a log is of states that its disk says
pub record InLog (store : Store) : Type 0 where
  pub logged : (key : Key) (entry : Logged) → fin.get store.log key ≡ Some entry → said key store.disk ≡ Some entry.state
  pub owed : (key : Key) (entry : Logged) → fin.get store.log key ≡ Some entry → (m : ℕ) → has entry.remaining m ≡ true → has entry.state.targets m ≡ true

-- m has no need to be told of the state
pub record Settled (own : ℕ) (store : Store) (key : Key) (state : State) (m : ℕ) : Type 0 where
  pub says : said key store.disk ≡ Some state
  pub target : has state.targets m ≡ true
  pub other : m ≢ own
  pub told : (entry : Logged) → fin.get store.log key ≡ Some entry → has entry.remaining m ≡ false

-- the node is a target of each state
pub record DiskFits (own : ℕ) (disk : List Record) : Type 0 where
  pub target : (key : Key) (state : State) → Among (Stated key state) disk → has state.targets own ≡ true
  pub kind : (key : Key) (state : State) → Among (Stated key state) disk → IsOfKind key state.value

abbrev pub UpdatesFit : ℕ → List Update → Type 0
UpdatesFit own updates = (update : Update) → Among update updates → (has update.state.targets own ≡ true) × IsOfKind update.key update.state.value

pub record UpdatesSpeak (updates : List Update) (user : List ℕ) (id : Id) : Type 0 where
  pub update : Update
  pub inside : Among update updates
  pub key : update.key ≡ Message user id
  pub gone : update.state.value ≡ Gone

-- a log and a disk before and after: what comes in are updates, octets and acknowledgements
pub record StoreStep (own : ℕ) (updates : List Update) (Brought : Id → List ℕ → Type 0) (Acks : Key → State → ℕ → Type 0) (old new : Store) : Type 0 where
  pub grows : (added : List Record) × (new.disk ≡ old.disk ++ added)
  pub bootless : (boot : ℕ) → Among (Boot boot) grows.0 → ⊥
  pub boots : boot_of new.disk ≡ boot_of old.disk
  pub order : InLog old → InLog new
  pub octets : (id : Id) (octets : List ℕ) → Among (Octets id octets) new.disk → Among (Octets id octets) old.disk ⊎ Brought id octets
  pub settled : (key : Key) (state : State) (m : ℕ) → Settled own new key state m → Settled own old key state m ⊎ Acks key state m
  pub retired : (key : Key) (state : State) → Among (Retired key state) new.disk
      → Among (Retired key state) old.disk ⊎ ((m : ℕ) → has state.targets m ≡ true → m ≢ own → Settled own old key state m ⊎ Acks key state m)
  pub fits : UpdatesFit own updates → DiskFits own old.disk → DiskFits own new.disk
  pub gone : (user : List ℕ) (id : Id) → DiskSpeaks new.disk user id → DiskSpeaks old.disk user id ⊎ UpdatesSpeak updates user id

module _ (own : ℕ) (updates : List Update) (Brought : Id → List ℕ → Type 0) (Acks : Key → State → ℕ → Type 0) where
  pub stays : (store : Store) → StoreStep own updates Brought Acks store store
  stays store = record {
    grows = ([], sym (append_nothing store.disk));
    bootless = λ boot m. m;
    boots = refl;
    order = λ o. o;
    octets = λ id octets m. inl m;
    settled = λ key state m s. inl s;
    retired = λ key state m. inl m;
    fits = λ u d. d;
    gone = λ user id s. inl s;
  }
    where
      append_nothing : (xs : List Record) → xs ++ [] ≡ xs
      append_nothing [] = refl
      append_nothing (x ∷ xs) = ap (λ (l : List Record). x ∷ l) (append_nothing xs)

  pub followed : (a b c : Store) → StoreStep own updates Brought Acks a b → StoreStep own updates Brought Acks b c → StoreStep own updates Brought Acks a c
  followed a b c p q = record {
    grows = (p.grows.0 ++ q.grows.0, q.grows.1 ∙ ap (λ (d : List Record). d ++ q.grows.0) p.grows.1 ∙ append_assoc a.disk p.grows.0 q.grows.0);
    bootless = λ boot m. ⊎_elim (p.bootless boot) (q.bootless boot) (among_either (Boot boot) p.grows.0 q.grows.0 m);
    boots = q.boots ∙ p.boots;
    order = λ o. q.order (p.order o);
    octets = λ id octets m. ⊎_elim (λ old. p.octets id octets old) (λ new. inr new) (q.octets id octets m);
    settled = λ key state m s. ⊎_elim (λ old. p.settled key state m old) (λ acks. inr acks) (q.settled key state m s);
    retired = λ key state i. ⊎_elim
        (λ old. p.retired key state old)
        (λ new. inr (λ m target other. ⊎_elim (λ s. p.settled key state m s) (λ acks. inr acks) (new m target other)))
        (q.retired key state i);
    fits = λ u d. q.fits u (p.fits u d);
    gone = λ user id s. ⊎_elim (λ old. p.gone user id old) (λ new. inr new) (q.gone user id s);
  }

-- records after others leave the boot, where they are of no boot
pub boot_both : (boot : ℕ) (records more : List Record) → boot_after boot (records ++ more) ≡ boot_after (boot_after boot records) more
boot_both boot [] more = refl
boot_both boot (Boot other ∷ records) more = boot_both other records more
boot_both boot (Octets id octets ∷ records) more = boot_both boot records more
boot_both boot (Stated key state ∷ records) more = boot_both boot records more
boot_both boot (Promise epoch ∷ records) more = boot_both boot records more
boot_both boot (Retired key state ∷ records) more = boot_both boot records more
