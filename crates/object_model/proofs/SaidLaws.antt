-- What a disk says of a key, as records are added.
use Rattle.std.proofs.Common.{◌≡◌, ◌≢◌, ◌⊎◌, inl, inr, ⊎_elim, ℕ, ◌<◌, Bool, true, false, cond, List, [], ◌∷◌, ◌++◌, Option, Some, None, refl, sym, ap, ◌∙◌, subst, bit_or, arith}
use Rattle.std.specs.Prelude.{max}
use Rattle.std.specs.Int.{bit_at}
use Rattle.std.proofs.lemmas.Nat.Bits.{bit_at_or, bit_at-lt, same_from_bits}
use Rattle.std.proofs.lemmas.Bool.Decides.{nat_tests}
use Rattle.mail_model.specs.Identity.{Id, Key, State}
use Rattle.mail_model.specs.Record.{Record}
use Rattle.mail_model.specs.Record.Record.{Boot, Octets, Stated, Promise, Retired}
use Rattle.object_model.specs.Sets.{has}
use Rattle.object_model.specs.Lists.{Among}
use Rattle.object_model.specs.Keys.{is_same_key}
use Rattle.object_model.specs.States.{is_below, joined, join_with}
use Rattle.object_model.specs.Said.{held_after, said, CoversAtLeast}
use Rattle.object_model.proofs.SetLaws.{or_has, has_left, has_right}
use Rattle.object_model.proofs.StateLaws.{key_is, key_self, key_apart, not_below_self}

pub or_again : (a b : ℕ) → bit_or a (bit_or a b) ≡ bit_or a b
or_again a b = same_from_bits _ _ (λ n. rw (bit_at_or, bit_at_or) (two (bit_at a n) (bit_at b n) (bit_at-lt a n) (bit_at-lt b n)))
  where
    two : (x y : ℕ) → x < 2 → y < 2 → max x (max x y) ≡ max x y
    two x y lx ly = grind (arith, nat_tests)

-- to join a join again changes nothing
pub joined_again : (h s : State) → joined h (joined h s) ≡ joined h s
joined_again h s = by (is_below h s) refl
  where
    j : Bool → State
    j t = record { value = (cond t s h).value; stamp = (cond t s h).stamp; targets = bit_or h.targets s.targets }

    chosen : Bool → Bool → State
    chosen b t = record { value = (cond b (j t) h).value; stamp = (cond b (j t) h).stamp; targets = bit_or h.targets (bit_or h.targets s.targets) }

    by : (t : Bool) → is_below h s ≡ t → joined h (j t) ≡ j t
    by true e = ap (λ b. chosen b true) e ∙ ap (λ m. record { value = s.value; stamp = s.stamp; targets = m }) (or_again h.targets s.targets)
    by false e = ap (λ b. chosen b false) (not_below_self h) ∙ ap (λ m. record { value = h.value; stamp = h.stamp; targets = m }) (or_again h.targets s.targets)

pub join_again : (held : Option State) (s : State) → join_with held (join_with held s) ≡ join_with held s
join_again None s = refl
join_again (Some h) s = joined_again h s

-- records after others
pub held_both : (key : Key) (held : Option State) (records more : List Record) → held_after key held (records ++ more) ≡ held_after key (held_after key held records) more
held_both key held [] more = refl
held_both key held (Stated other state ∷ records) more = held_both key (cond (is_same_key other key) (Some (join_with held state)) held) records more
held_both key held (Boot boot ∷ records) more = held_both key held records more
held_both key held (Octets id octets ∷ records) more = held_both key held records more
held_both key held (Promise epoch ∷ records) more = held_both key held records more
held_both key held (Retired other state ∷ records) more = held_both key held records more

-- records that state nothing
pub data StatesNothing : Record → Type 0 where
  OfBoot : (boot : ℕ) → StatesNothing (Boot boot)
  OfOctets : (id : Id) (octets : List ℕ) → StatesNothing (Octets id octets)
  OfRetired : (key : Key) (state : State) → StatesNothing (Retired key state)

-- one state more, of this key and of another
pub said_same : (key : Key) (disk : List Record) (state : State) → said key (disk ++ Stated key state ∷ []) ≡ Some (join_with (said key disk) state)
said_same key disk state = held_both key None disk (Stated key state ∷ []) ∙ ap (λ b. cond b (Some (join_with (said key disk) state)) (said key disk)) (key_self key)

pub said_other : (key other : Key) (disk : List Record) (state : State) → other ≢ key → said key (disk ++ Stated other state ∷ []) ≡ said key disk
said_other key other disk state apart = held_both key None disk (Stated other state ∷ []) ∙ ap (λ b. cond b (Some (join_with (said key disk) state)) (said key disk)) (key_apart other key apart)

-- a record after all that states nothing
pub said_retired : (key other : Key) (disk : List Record) (state : State) → said key (disk ++ Retired other state ∷ []) ≡ said key disk
said_retired key other disk state = held_both key None disk (Retired other state ∷ [])

pub said_octets : (key : Key) (disk : List Record) (id : Id) (octets : List ℕ) → said key (disk ++ Octets id octets ∷ []) ≡ said key disk
said_octets key disk id octets = held_both key None disk (Octets id octets ∷ [])

-- where a state comes from: a record has its value and its stamp, and records have its targets
pub record IsBackedBy (Source : State → Type 0) (state : State) : Type 0 where
  pub top : State
  pub inside : Source top
  pub same_value : top.value ≡ state.value
  pub same_stamp : top.stamp ≡ state.stamp
  pub targets : (m : ℕ) → has state.targets m ≡ true → (one : State) × Source one × (has one.targets m ≡ true)

abbrev From : Key → Option State → List Record → State → Type 0
From key held records state = Among (Stated key state) records ⊎ (held ≡ Some state)

backed_more : (P Q : State → Type 0) (state : State) → ((s : State) → P s → IsBackedBy Q s) → IsBackedBy P state → IsBackedBy Q state
backed_more P Q state from b = let top = from b.top b.inside in record {
  top = top.top;
  inside = top.inside;
  same_value = top.same_value ∙ b.same_value;
  same_stamp = top.same_stamp ∙ b.same_stamp;
  targets = λ m h. let t = b.targets m h in (from t.0 t.1).targets m t.2;
}

itself : (P : State → Type 0) (state : State) → P state → IsBackedBy P state
itself P state p = record { top = state; inside = p; same_value = refl; same_stamp = refl; targets = λ m h. (state, p, h) }

-- a join is of both
join_backed : (P : State → Type 0) (held : Option State) (state : State) → ((h : State) → held ≡ Some h → P h) → P state → IsBackedBy P (join_with held state)
join_backed P None state ph ps = itself P state ps
join_backed P (Some h) state ph ps = by (is_below h state)
  where
    both : (m : ℕ) → has (bit_or h.targets state.targets) m ≡ true → (one : State) × P one × (has one.targets m ≡ true)
    both m t = ⊎_elim (λ a. (h, ph h refl, a)) (λ b. (state, ps, b)) (or_has h.targets state.targets m t)

    by : (t : Bool) → IsBackedBy P (record { value = (cond t state h).value; stamp = (cond t state h).stamp; targets = bit_or h.targets state.targets })
    by true = record { top = state; inside = ps; same_value = refl; same_stamp = refl; targets = both }
    by false = record { top = h; inside = ph h refl; same_value = refl; same_stamp = refl; targets = both }

some_same : (a b : State) → Some a ≡ Some b → a ≡ b
some_same a b e = cc

held_backed : (key : Key) (held : Option State) (records : List Record) (state : State) → held_after key held records ≡ Some state → IsBackedBy (From key held records) state
held_backed key held [] state e = itself (From key held []) state (inr e)
held_backed key held (Stated other st ∷ records) state e = by (λ h f. held_backed key h records state f) (is_same_key other key) refl e
  where
    by : ((h : Option State) → held_after key h records ≡ Some state → IsBackedBy (From key h records) state) → (t : Bool) → is_same_key other key ≡ t → held_after key (cond t (Some (join_with held st)) held) records ≡ Some state → IsBackedBy (From key held (Stated other st ∷ records)) state
    by rest true same f = backed_more (From key (Some (join_with held st)) records) (From key held (Stated other st ∷ records)) state
        (λ s. ⊎_elim
        (λ behind. itself (From key held (Stated other st ∷ records)) s (inl (inr behind)))
        (λ is. subst (IsBackedBy (From key held (Stated other st ∷ records))) (some_same (join_with held st) s is)
        (join_backed (From key held (Stated other st ∷ records)) held st (λ h eh. inr eh) (inl (inl (ap (λ k. Stated k st) (key_is other key same)))))))
        (rest (Some (join_with held st)) f)
    by rest false same f = backed_more (From key held records) (From key held (Stated other st ∷ records)) state
        (λ s. ⊎_elim
        (λ behind. itself (From key held (Stated other st ∷ records)) s (inl (inr behind)))
        (λ is. itself (From key held (Stated other st ∷ records)) s (inr is)))
        (rest held f)
held_backed key held (Boot boot ∷ records) state e = backed_more (From key held records) (From key held (Boot boot ∷ records)) state
    (λ s from. itself (From key held (Boot boot ∷ records)) s (⊎_elim (λ b. inl (inr b)) (λ i. inr i) from)) (held_backed key held records state e)
held_backed key held (Octets id octets ∷ records) state e = backed_more (From key held records) (From key held (Octets id octets ∷ records)) state
    (λ s from. itself (From key held (Octets id octets ∷ records)) s (⊎_elim (λ b. inl (inr b)) (λ i. inr i) from)) (held_backed key held records state e)
held_backed key held (Promise epoch ∷ records) state e = backed_more (From key held records) (From key held (Promise epoch ∷ records)) state
    (λ s from. itself (From key held (Promise epoch ∷ records)) s (⊎_elim (λ b. inl (inr b)) (λ i. inr i) from)) (held_backed key held records state e)
held_backed key held (Retired other st ∷ records) state e = backed_more (From key held records) (From key held (Retired other st ∷ records)) state
    (λ s from. itself (From key held (Retired other st ∷ records)) s (⊎_elim (λ b. inl (inr b)) (λ i. inr i) from)) (held_backed key held records state e)

-- what a disk says comes from its records
pub said_backed : (key : Key) (disk : List Record) (state : State) → said key disk ≡ Some state → IsBackedBy (λ one. Among (Stated key one) disk) state
said_backed key disk state e = backed_more (From key None disk) (λ one. Among (Stated key one) disk) state
    (λ s from. itself (λ one. Among (Stated key one) disk) s (⊎_elim (λ a. a) (λ none. absurd (cc none)) from)) (held_backed key None disk state e)

-- so it covers what is not above it
pub said_covers : (key : Key) (disk : List Record) (held state : State) → said key disk ≡ Some held → is_below held state ≡ false
    → ((m : ℕ) → has state.targets m ≡ true → has held.targets m ≡ true) → CoversAtLeast key state disk
said_covers key disk held state e not_below targets = let b = said_backed key disk held e in record {
  top = b.top;
  inside = b.inside;
  not_below = like b.top held b.same_value b.same_stamp not_below;
  targets = λ m h. b.targets m (targets m h);
}
  where
    like : (one two : State) → one.value ≡ two.value → one.stamp ≡ two.stamp → is_below two state ≡ false → is_below one state ≡ false
    like one two v t h = (λ i. is_below (record { value = v i; stamp = t i; targets = one.targets }) state) ∙ h

-- what is held has the targets of all that is joined to it
joined_has : (held : Option State) (state : State) (m : ℕ) → has state.targets m ≡ true → has (join_with held state).targets m ≡ true
joined_has None state m h = h
joined_has (Some one) state m h = has_right one.targets state.targets m h

held_has : (key : Key) (records : List Record) (first state : State) (m : ℕ) → held_after key (Some first) records ≡ Some state → has first.targets m ≡ true → has state.targets m ≡ true
held_has key [] first state m e h = subst (λ (s : State). has s.targets m ≡ true) (some_same first state e) h
held_has key (Stated other st ∷ records) first state m e h = by (λ f. held_has key records (joined first st) state m f) (λ f. held_has key records first state m f) (is_same_key other key) e
  where
    by : ((held_after key (Some (joined first st)) records ≡ Some state) → has (joined first st).targets m ≡ true → has state.targets m ≡ true)
        → ((held_after key (Some first) records ≡ Some state) → has first.targets m ≡ true → has state.targets m ≡ true)
        → (t : Bool) → held_after key (cond t (Some (joined first st)) (Some first)) records ≡ Some state → has state.targets m ≡ true
    by joins stays true f = joins f (has_left first.targets st.targets m h)
    by joins stays false f = stays f h
held_has key (Boot boot ∷ records) first state m e h = held_has key records first state m e h
held_has key (Octets id octets ∷ records) first state m e h = held_has key records first state m e h
held_has key (Promise epoch ∷ records) first state m e h = held_has key records first state m e h
held_has key (Retired other st ∷ records) first state m e h = held_has key records first state m e h

stated_same : (key other : Key) (one st : State) → Stated other st ≡ Stated key one → (other ≡ key) × (st ≡ one)
stated_same key other one st e = (cc, cc)

pub said_has : (key : Key) (held : Option State) (records : List Record) (one state : State) (m : ℕ) → held_after key held records ≡ Some state → Among (Stated key one) records → has one.targets m ≡ true → has state.targets m ≡ true
said_has key held [] one state m e inside h = absurd inside
said_has key held (Stated other st ∷ records) one state m e inside h = ⊎_elim
    (λ is. let same = stated_same key other one st is in
    held_has key records (join_with held st) state m (sym (ap (λ b. held_after key (cond b (Some (join_with held st)) held) records) (subst (λ k. is_same_key k key ≡ true) (sym same.0) (key_self key))) ∙ e)
    (joined_has held st m (subst (λ (x : State). has x.targets m ≡ true) (sym same.1) h)))
    (λ behind. said_has key (cond (is_same_key other key) (Some (join_with held st)) held) records one state m e behind h)
    inside
said_has key held (Boot boot ∷ records) one state m e inside h = said_has key held records one state m e (⊎_elim (λ is. absurd (cc is)) (λ b. b) inside) h
said_has key held (Octets id octets ∷ records) one state m e inside h = said_has key held records one state m e (⊎_elim (λ is. absurd (cc is)) (λ b. b) inside) h
said_has key held (Promise epoch ∷ records) one state m e inside h = said_has key held records one state m e (⊎_elim (λ is. absurd (cc is)) (λ b. b) inside) h
said_has key held (Retired other st ∷ records) one state m e inside h = said_has key held records one state m e (⊎_elim (λ is. absurd (cc is)) (λ b. b) inside) h
