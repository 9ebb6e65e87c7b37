-- Records that are added one by one: each copy that is here has its octets before it.
use Rattle.std.proofs.Common.{◌≡◌, ◌⊎◌, inl, inr, ⊎_elim, ℕ, Bool, true, false, List, [], ◌∷◌, ◌++◌, append-nil, Option, Some, None, refl, sym, ap, ◌∙◌, subst, true≢false, if◌then◌else◌, nat_eq}
use Rattle.std.specs.FinMap as fin
use Rattle.mail_model.specs.Identity.{Id, Stamp, Key, Value, State}
use Rattle.mail_model.specs.Identity.Key.{Message}
use Rattle.mail_model.specs.Identity.Value.{Here, Gone, Secret}
use Rattle.mail_model.specs.Record.{Record}
use Rattle.mail_model.specs.Record.Record.{Boot, Promise, Octets, Stated, Retired}
use Rattle.mail_model.specs.Listing.{is_same_id, octets_in}
use Rattle.object_model.specs.Sets.{without_node, all_nodes}
use Rattle.object_model.specs.Keys.{is_same_key}
use Rattle.object_model.specs.Lists.{Among}
use Rattle.object_model.specs.States.{is_below, join_with, is_news, join_after, join_all}
use Rattle.object_model.specs.Said.{said, states_in}
use Rattle.object_model.specs.Letters.{DeletionMark}
use Rattle.object_model.specs.UpdateLog.{noted}
use Rattle.object_model.proofs.Lists.{among_front, among_behind, among_last}
use Rattle.object_model.proofs.StateLaws.{key_self, id_self}
use Rattle.object_model.proofs.Merges.{join_is_merge, says_join}
use Rattle.object_model.proofs.SaidLaws.{said_backed}
use Rattle.cluster_model.specs.Claims.{StoresMessage, ShowsGone}
use Rattle.cluster_model.specs.Claims.Fact.{IsGone}
use Rattle.cluster_model.specs.Store.{Store, Update, recorded, take_one, take_all, here_updates, gone_updates, is_wanted, with_octets}
use Rattle.cluster_model.proofs.Drawing.{says_more}
use Rattle.cluster_model.proofs.Filing.{among_map, stored_or_gone}
use Rattle.here_model.specs.Here.{EachHereHasOctets}

two_last : (xs : List Record) (a b : Record) → (xs ++ a ∷ []) ++ b ∷ [] ≡ xs ++ a ∷ b ∷ []
two_last [] a b = refl
two_last (x ∷ xs) a b = ap (λ (l : List Record). x ∷ l) (two_last xs a b)

-- a prefix of a list with one more is one of the list, or the whole
first_is : (a b : Record) (xs ys : List Record) → a ∷ xs ≡ b ∷ ys → a ≡ b
first_is a b xs ys e = cc

rest_is : (a b : Record) (xs ys : List Record) → a ∷ xs ≡ b ∷ ys → xs ≡ ys
rest_is a b xs ys e = cc

none_is : (prefix rest : List Record) → prefix ++ rest ≡ [] → prefix ≡ []
none_is [] rest e = refl
none_is (x ∷ prefix) rest e = absurd (cc e)

prefix_last : (prefix rest xs : List Record) (x : Record) → prefix ++ rest ≡ xs ++ x ∷ [] → ((more : List Record) × (prefix ++ more ≡ xs)) ⊎ (prefix ≡ xs ++ x ∷ [])
prefix_last [] rest xs x e = inl (xs, refl)
prefix_last (p ∷ prefix) rest [] x e = inr (ap (λ (q : Record). q ∷ prefix) (first_is p x (prefix ++ rest) [] e) ∙ ap (λ (l : List Record). x ∷ l) (none_is prefix rest (rest_is p x (prefix ++ rest) [] e)))
prefix_last (p ∷ prefix) rest (y ∷ xs) x e = ⊎_elim
    (λ part. inl (part.0, ap (λ (q : Record). q ∷ (prefix ++ part.0)) same ∙ ap (λ (l : List Record). y ∷ l) part.1))
    (λ whole. inr (ap (λ (q : Record). q ∷ prefix) same ∙ ap (λ (l : List Record). y ∷ l) whole))
    (prefix_last prefix rest xs x (rest_is p y (prefix ++ rest) (xs ++ x ∷ []) e))
  where
    same : p ≡ y
    same = first_is p y (prefix ++ rest) (xs ++ x ∷ []) e

pub stores_more : (id : Id) (disk more : List Record) → StoresMessage id disk → StoresMessage id (disk ++ more)
stores_more id disk more s = record { octets = s.octets; inside = among_front (Octets id s.octets) disk more s.inside }

-- a prefix of the records
pub prefix_has : (kept lost records : List Record) → records ≡ kept ++ lost → EachHereHasOctets records → EachHereHasOctets kept
prefix_has kept lost records e all prefix rest is = all prefix (rest ++ lost) (sym (split prefix rest) ∙ ap (λ (l : List Record). l ++ lost) is ∙ sym e)
  where
    split : (xs ys : List Record) → (xs ++ ys) ++ lost ≡ xs ++ (ys ++ lost)
    split [] ys = refl
    split (x ∷ xs) ys = ap (λ (l : List Record). x ∷ l) (split xs ys)

-- one record more, which has its octets if it says that a copy is here
pub one_more : (disk : List Record) (one : Record) → EachHereHasOctets disk
    → ((user : List ℕ) (id : Id) (state : State) → one ≡ Stated (Message user id) state → state.value ≡ Here → StoresMessage id disk)
    → EachHereHasOctets (disk ++ one ∷ [])
one_more disk one all new prefix rest e user id state m here = ⊎_elim
    (λ part. all prefix part.0 part.1 user id state m here)
    (λ whole. subst (StoresMessage id) (sym whole) (stores_more id disk (one ∷ []) (⊎_elim
    (λ old. all disk [] (append-nil disk) user id state old here)
    (λ is. new user id state is here)
    (among_last (Stated (Message user id) state) disk one (subst (Among (Stated (Message user id) state)) whole m)))))
    (prefix_last prefix rest disk one e)

-- records that say nothing of states
pub plain_more : (disk added : List Record) → ((key : Key) (state : State) → Among (Stated key state) added → ⊥) → EachHereHasOctets disk → EachHereHasOctets (disk ++ added)
plain_more disk [] none all = subst EachHereHasOctets (sym (append-nil disk)) all
plain_more disk (one ∷ added) none all = subst EachHereHasOctets (join disk)
    (plain_more (disk ++ one ∷ []) added (λ key state m. none key state (inr m)) (one_more disk one all (λ user id state is here. absurd (none (Message user id) state (inl is)))))
  where
    join : (xs : List Record) → (xs ++ one ∷ []) ++ added ≡ xs ++ one ∷ added
    join [] = refl
    join (x ∷ xs) = ap (λ (l : List Record). x ∷ l) (join xs)

-- an update finds octets where it says that a copy is here, or a copy that is gone
abbrev pub Fits : List Record → Update → Type 0
Fits disk update = (user : List ℕ) (id : Id) → update.key ≡ Message user id → update.state.value ≡ Here → ShowsGone user id disk ⊎ StoresMessage id disk

pub fits_more : (disk more : List Record) (update : Update) → Fits disk update → Fits (disk ++ more) update
fits_more disk more update fits user id is here = ⊎_elim (λ gone. inl (says_more disk more (IsGone user id) gone)) (λ s. inr (stores_more id disk more s)) (fits user id is here)

-- what is said of a key is not below any state of it
among_states : (key : Key) (one : State) (records : List Record) → Among (Stated key one) records → Among one (states_in key records)
among_states key one [] m = absurd m
among_states key one (Boot boot ∷ records) m = ⊎_elim (λ e. absurd (cc e)) (λ more. among_states key one records more) m
among_states key one (Promise epoch ∷ records) m = ⊎_elim (λ e. absurd (cc e)) (λ more. among_states key one records more) m
among_states key one (Octets id octets ∷ records) m = ⊎_elim (λ e. absurd (cc e)) (λ more. among_states key one records more) m
among_states key one (Retired other state ∷ records) m = ⊎_elim (λ e. absurd (cc e)) (λ more. among_states key one records more) m
among_states key one (Stated other state ∷ records) m = ⊎_elim
    (λ e. among_front one (if is_same_key other key then state ∷ [] else []) (states_in key records) (found (is_same_key other key) (ap (λ (k : Key). is_same_key k key) (key_of other key state one e) ∙ key_self key) (state_of other key state one e)))
    (λ more. among_behind one (if is_same_key other key then state ∷ [] else []) (states_in key records) (among_states key one records more)) m
  where
    key_of : (a b : Key) (x y : State) → Stated a x ≡ Stated b y → a ≡ b
    key_of a b x y e = cc

    state_of : (a b : Key) (x y : State) → Stated a x ≡ Stated b y → x ≡ y
    state_of a b x y e = cc

    found : (b : Bool) → b ≡ true → state ≡ one → Among one (if b then state ∷ [] else [])
    found true e is = inl is
    found false e is = absurd (true≢false (sym e))

-- a key of which a record speaks is not unsaid
unsaid : (key : Key) (one : State) (records : List Record) → Among (Stated key one) records → said key records ≡ None → ⊥
unsaid key one records m e = by (states_in key records) (among_states key one records m) (sym (says_join key records) ∙ e)
  where
    never : (held : State) (states : List State) → join_after (Some held) states ≡ None → ⊥
    never held [] e = cc e
    never held (state ∷ states) e = never (join_with (Some held) state) states e

    by : (states : List State) → Among one states → join_all states ≡ None → ⊥
    by [] m e = m
    by (state ∷ states) m e = never state states e

not_below : (key : Key) (one held : State) (records : List Record) → Among (Stated key one) records → said key records ≡ Some held → is_below held one ≡ false
not_below key one held records m e = (join_is_merge (states_in key records) held (sym (says_join key records) ∙ e)).greatest one (among_states key one records m)

abbrev state_of : Value → Stamp → ℕ → State
state_of value stamp targets = record { value = value; stamp = stamp; targets = targets }

-- what is not below a copy that is gone is not below one that is here
gone_above : (held one state : State) → one.value ≡ Gone → state.value ≡ Here → is_below held one ≡ false → is_below held state ≡ true → ⊥
gone_above held one state gone here p q = values held.value held.stamp one.stamp state.stamp held.targets one.targets state.targets
    (subst (λ v. is_below held (state_of v one.stamp one.targets) ≡ false) gone p) (subst (λ v. is_below held (state_of v state.stamp state.targets) ≡ true) here q)
  where
    values : (v : Value) (a b c : Stamp) (x y z : ℕ) → is_below (state_of v a x) (state_of Gone b y) ≡ false → is_below (state_of v a x) (state_of Here c z) ≡ true → ⊥
    values Here a b c x y z p q = true≢false p
    values Gone a b c x y z p q = true≢false (sym q)
    values (Secret octets) a b c x y z p q = true≢false (sym q)

-- a join that says that a copy is here has its octets
join_backed : (disk : List Record) (update : Update) → EachHereHasOctets disk → Fits disk update → (user : List ℕ) (id : Id) → update.key ≡ Message user id
    → (join_with (said update.key disk) update.state).value ≡ Here → StoresMessage id disk
join_backed disk update all fits user id is = by (said update.key disk) refl
  where
    at : (s : State) → Among (Stated (Message user id) s) disk → Among (Stated update.key s) disk
    at s m = subst (λ k. Among (Stated k s) disk) (sym is) m

    two : (held : State) → said update.key disk ≡ Some held → (b : Bool) → is_below held update.state ≡ b → (if b then update.state else held).value ≡ Here → StoresMessage id disk
    two held e true below h = ⊎_elim
        (λ gone. absurd (gone_above held gone.state update.state gone.gone h (not_below update.key gone.state held disk (at gone.state gone.inside) e) below))
        (λ s. s) (fits user id is h)
    two held e false below h =
        let b = said_backed update.key disk held e in
        all disk [] (append-nil disk) user id b.top (subst (λ k. Among (Stated k b.top) disk) is b.inside) (b.same_value ∙ h)

    by : (o : Option State) → said update.key disk ≡ o → (join_with o update.state).value ≡ Here → StoresMessage id disk
    by None e h = ⊎_elim (λ gone. absurd (unsaid update.key gone.state disk (at gone.state gone.inside) e)) (λ s. s) (fits user id is h)
    by (Some held) e h = two held e (is_below held update.state) refl h

recorded_has : (own : ℕ) (key : Key) (state : State) (store : Store) → EachHereHasOctets store.disk
    → ((user : List ℕ) (id : Id) → key ≡ Message user id → state.value ≡ Here → StoresMessage id store.disk) → EachHereHasOctets (recorded own key state store).disk
recorded_has own key state store all backed = by (nat_eq (without_node state.targets own) 0)
  where
    key_of : (a b : Key) (x y : State) → Stated a x ≡ Stated b y → a ≡ b
    key_of a b x y e = cc

    state_is : (a b : Key) (x y : State) → Stated a x ≡ Stated b y → x ≡ y
    state_is a b x y e = cc

    stated : EachHereHasOctets (store.disk ++ Stated key state ∷ [])
    stated = one_more store.disk (Stated key state) all
        (λ user id s is here. backed user id (key_of key (Message user id) state s is) (ap (λ (x : State). x.value) (state_is key (Message user id) state s is) ∙ here))

    by : (b : Bool) → EachHereHasOctets (if◌then◌else◌ {A = Store} b
        (record { log = fin.remove store.log key; disk = store.disk ++ Stated key state ∷ Retired key state ∷ [] })
        (record { log = noted own key state store.log; disk = store.disk ++ Stated key state ∷ [] })).disk
    by true = subst EachHereHasOctets (two_last store.disk (Stated key state) (Retired key state))
        (plain_more (store.disk ++ Stated key state ∷ []) (Retired key state ∷ []) (λ k s m. ⊎_elim (λ e. cc e) (λ none. none) m) stated)
    by false = stated

one_has : (own : ℕ) (update : Update) (store : Store) → EachHereHasOctets store.disk → Fits store.disk update → EachHereHasOctets (take_one own update store).disk
one_has own update store all fits = by (is_news (said update.key store.disk) update.state)
  where
    by : (b : Bool) → EachHereHasOctets (if◌then◌else◌ {A = Store} b (recorded own update.key (join_with (said update.key store.disk) update.state) store) store).disk
    by true = recorded_has own update.key (join_with (said update.key store.disk) update.state) store all (join_backed store.disk update all fits)
    by false = all

one_grows : (own : ℕ) (update : Update) (store : Store) → (more : List Record) × ((take_one own update store).disk ≡ store.disk ++ more)
one_grows own update store = by (is_news (said update.key store.disk) update.state)
  where
    grows : (state : State) (b : Bool) → (more : List Record) × ((if◌then◌else◌ {A = Store} b
        (record { log = fin.remove store.log update.key; disk = store.disk ++ Stated update.key state ∷ Retired update.key state ∷ [] })
        (record { log = noted own update.key state store.log; disk = store.disk ++ Stated update.key state ∷ [] })).disk ≡ store.disk ++ more)
    grows state true = (Stated update.key state ∷ Retired update.key state ∷ [], refl)
    grows state false = (Stated update.key state ∷ [], refl)

    by : (b : Bool) → (more : List Record) × ((if◌then◌else◌ {A = Store} b (recorded own update.key (join_with (said update.key store.disk) update.state) store) store).disk ≡ store.disk ++ more)
    by true = grows (join_with (said update.key store.disk) update.state) (nat_eq (without_node (join_with (said update.key store.disk) update.state).targets own) 0)
    by false = ([], sym (append-nil store.disk))

-- updates that fit, one after another
pub all_have : (own : ℕ) (updates : List Update) (store : Store) → EachHereHasOctets store.disk → ((update : Update) → Among update updates → Fits store.disk update)
    → EachHereHasOctets (take_all own updates store).disk
all_have own [] store all fits = all
all_have own (update ∷ updates) store all fits =
    let g = one_grows own update store in
    all_have own updates (take_one own update store) (one_has own update store all (fits update (inl refl)))
    (λ u m. subst (λ d. Fits d u) (sym g.1) (fits_more store.disk g.0 u (fits u (inr m))))

pub octets_have : (id : Id) (users : List (List ℕ)) (octets : List ℕ) (disk : List Record) → EachHereHasOctets disk → EachHereHasOctets (with_octets id users octets disk)
octets_have id users octets disk all = plain_more disk (if is_wanted id users disk then Octets id octets ∷ [] else []) (λ key state m. by (is_wanted id users disk) key state m) all
  where
    by : (b : Bool) (key : Key) (state : State) → Among (Stated key state) (if b then Octets id octets ∷ [] else []) → ⊥
    by true key state m = ⊎_elim (λ e. cc e) (λ none. none) m
    by false key state m = m

user_of : (a b : List ℕ) (i j : Id) → Message a i ≡ Message b j → a ≡ b
user_of a b i j e = cc

id_of : (a b : List ℕ) (i j : Id) → Message a i ≡ Message b j → i ≡ j
id_of a b i j e = cc

-- copies that are here find octets, once these were stored where they are wanted
pub here_fit : (id : Id) (stamp : Stamp) (targets : ℕ) (users : List (List ℕ)) (octets : List ℕ) (disk : List Record) (update : Update) → Among update (here_updates id stamp targets users)
    → Fits (with_octets id users octets disk) update
here_fit id stamp targets users octets disk update m user other is here =
    let r = among_map (λ (u : List ℕ). record { key = Message u id; state = record { value = Here; stamp = stamp; targets = targets } }) update users m in
    let key : Message r.0 id ≡ Message user other = ap (λ (u : Update). u.key) r.2 ∙ is in
    subst (λ u. ShowsGone u other (with_octets id users octets disk) ⊎ StoresMessage other (with_octets id users octets disk)) (user_of r.0 user id other key)
    (subst (λ i. ShowsGone r.0 i (with_octets id users octets disk) ⊎ StoresMessage i (with_octets id users octets disk)) (id_of r.0 user id other key) (stored_or_gone id users octets disk r.0 r.1))

pub gone_fit : (nodes : ℕ) (user : List ℕ) (marks : List DeletionMark) (disk : List Record) (update : Update) → Among update (gone_updates user (all_nodes nodes) marks) → Fits disk update
gone_fit nodes user marks disk update m name id is here =
    let r = among_map (λ (mark : DeletionMark). record { key = Message user mark.id; state = record { value = Gone; stamp = mark.stamp; targets = all_nodes nodes } }) update marks m in
    absurd (clash (ap (λ (u : Update). u.state.value) r.2 ∙ here))
  where
    clash : Gone ≡ Here → ⊥
    clash e = cc e

-- what is said to be here has octets
pub said_stores : (disk : List Record) (user : List ℕ) (id : Id) (state : State) → EachHereHasOctets disk → said (Message user id) disk ≡ Some state → state.value ≡ Here → StoresMessage id disk
said_stores disk user id state all e here = let b = said_backed (Message user id) disk state e in all disk [] (append-nil disk) user id b.top b.inside (b.same_value ∙ here)

-- and octets that stand are read
pub octets_read : (id : Id) (octets : List ℕ) (disk : List Record) → Among (Octets id octets) disk → (held : List ℕ) × (octets_in id disk ≡ Some held)
octets_read id octets [] m = absurd m
octets_read id octets (Boot boot ∷ disk) m = ⊎_elim (λ e. absurd (cc e)) (λ more. octets_read id octets disk more) m
octets_read id octets (Promise epoch ∷ disk) m = ⊎_elim (λ e. absurd (cc e)) (λ more. octets_read id octets disk more) m
octets_read id octets (Stated key state ∷ disk) m = ⊎_elim (λ e. absurd (cc e)) (λ more. octets_read id octets disk more) m
octets_read id octets (Retired key state ∷ disk) m = ⊎_elim (λ e. absurd (cc e)) (λ more. octets_read id octets disk more) m
octets_read id octets (Octets other held ∷ disk) m = by (λ k. octets_read id octets disk k) (is_same_id other id) refl
  where
    same_id : (a b : Id) (x y : List ℕ) → Octets a x ≡ Octets b y → a ≡ b
    same_id a b x y e = cc

    by : (Among (Octets id octets) disk → (found : List ℕ) × (octets_in id disk ≡ Some found)) → (b : Bool) → is_same_id other id ≡ b
        → (found : List ℕ) × ((if b then Some held else octets_in id disk) ≡ Some found)
    by rest true e = (held, refl)
    by rest false e = ⊎_elim
        (λ is. absurd (true≢false (sym (ap (λ i. is_same_id i id) (same_id other id held octets is) ∙ id_self id) ∙ e)))
        (λ more. rest more) m
