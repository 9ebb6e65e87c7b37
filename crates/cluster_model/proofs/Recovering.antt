-- What a start finds for the log.
use Rattle.std.proofs.Common.{◌≡◌, ◌≢◌, inl, ⊎_elim, ℕ, Bool, true, false, cond, List, [], ◌∷◌, ◌++◌, Option, Some, None, refl, sym, ap, ◌∙◌, subst, true≢false, nat_eq, eqb-true}
use Rattle.std.specs.FinMap as fin
use Rattle.mail_model.specs.Identity.{Key, State}
use Rattle.mail_model.specs.Record.{Record}
use Rattle.mail_model.specs.Record.Record.{Boot, Octets, Stated, Promise, Retired}
use Rattle.object_model.specs.Sets.{has, without_node}
use Rattle.object_model.specs.Keys.{key_cmp}
use Rattle.object_model.specs.States.{is_same_state, join_with}
use Rattle.object_model.specs.Said.{said}
use Rattle.object_model.specs.UpdateLog.{Logged, Log, new_entry, noted, is_of, retired}
use Rattle.object_model.proofs.Lists.{among_front, among_behind}
use Rattle.object_model.proofs.SetLaws.{left_in, still_in, only_one}
use Rattle.object_model.proofs.StateLaws.{state_is}
use Rattle.object_model.proofs.MapLaws.{key_total, key_exact, found, written, kept_other, left_found, left_other}
use Rattle.object_model.proofs.SaidLaws.{held_both, said_same, said_other, said_retired, said_octets}
use Rattle.cluster_model.specs.Starts.{IsRecovered, owed_state, log_after, recovered}
use Rattle.cluster_model.proofs.Takes.{same_key}

some_state : (a b : State) → Some a ≡ Some b → a ≡ b
some_state a b e = cc

some_entry : (o : Option Logged) (a b : Logged) → o ≡ Some a → o ≡ Some b → a ≡ b
some_entry o a b p q = cc

same_retired : (a b : Key) (s t : State) → a ≡ b → s ≡ t → Retired a s ≡ Retired b t
same_retired a b s t p q = λ i. Retired (p i) (q i)

module _ (own : ℕ) where
  -- a record that changes nothing that the disk says
  quiet : (log : Log) (seen : List Record) (one : Record) → ((q : Key) → said q (seen ++ one ∷ []) ≡ said q seen) → IsRecovered own log seen → IsRecovered own log (seen ++ one ∷ [])
  quiet log seen one same r = record {
    logged = λ q entry h. same q ∙ r.logged q entry h;
    owed = r.owed;
    whole = λ q s m says target other told. among_front (Retired q s) seen (one ∷ []) (r.whole q s m (sym (same q) ∙ says) target other told);
  }

  -- a state
  stated : (log : Log) (seen : List Record) (key : Key) (state : State) → IsRecovered own log seen
      → IsRecovered own (owed_state own key (join_with (said key seen) state) log) (seen ++ Stated key state ∷ [])
  stated log seen key state r = by (nat_eq (without_node j.targets own) 0) refl
    where
      j : State
      j = join_with (said key seen) state

      now : List Record
      now = seen ++ Stated key state ∷ []

      others : (q : Key) → q ≢ key → said q now ≡ said q seen
      others q apart = said_other q key seen state (λ e. apart (sym e))

      by : (b : Bool) → nat_eq (without_node j.targets own) 0 ≡ b → IsRecovered own (cond b (fin.remove log key) (noted own key j log)) now
      by true e = record {
        logged = λ q entry h. let l = left_found key_total key_exact log key q entry h in others q l.0 ∙ r.logged q entry l.1;
        owed = λ q entry h. r.owed q entry (left_found key_total key_exact log key q entry h).1;
        whole = λ q s m says target other told. ⊎_elim
            (λ same. absurd (only_one j.targets own (eqb-true (without_node j.targets own) 0 e) m
            (subst (λ (x : State). has x.targets m ≡ true) (some_state s j (sym says ∙ ap (λ k. said k now) same ∙ said_same key seen state)) target) other))
            (λ apart. among_front (Retired q s) seen (Stated key state ∷ [])
            (r.whole q s m (sym (others q apart) ∙ says) target other (λ entry h. told entry (left_other key_total key_exact log key q apart ∙ h))))
            (same_key q key);
      }
      by false e = record {
        logged = λ q entry h. ⊎_elim
            (λ (same, is). ap (λ k. said k now) same ∙ said_same key seen state ∙ ap (λ (l : Logged). Some l.state) (sym is))
            (λ (apart, old). others q apart ∙ r.logged q entry old)
            (found key_total key_exact log key (new_entry own j) q entry h);
        owed = λ q entry h m remains. ⊎_elim
            (λ (same, is). subst (λ (l : Logged). has l.state.targets m ≡ true) (sym is) (left_in j.targets own m (subst (λ (l : Logged). has l.remaining m ≡ true) is remains)).0)
            (λ (apart, old). r.owed q entry old m remains)
            (found key_total key_exact log key (new_entry own j) q entry h);
        whole = λ q s m says target other told. ⊎_elim
            (λ same.
            let is : s ≡ j = some_state s j (sym says ∙ ap (λ k. said k now) same ∙ said_same key seen state) in
            absurd (true≢false (sym (still_in j.targets own m (subst (λ (x : State). has x.targets m ≡ true) is target) other)
            ∙ told (new_entry own j) (ap (fin.get (noted own key j log)) same ∙ written key_total key_exact log key (new_entry own j)))))
            (λ apart. among_front (Retired q s) seen (Stated key state ∷ [])
            (r.whole q s m (sym (others q apart) ∙ says) target other (λ entry h. told entry (kept_other key_total key_exact log key (new_entry own j) q apart ∙ h))))
            (same_key q key);
      }

  -- a state that is retired
  taken : (log : Log) (seen : List Record) (key : Key) (state : State) → IsRecovered own log seen → IsRecovered own (retired key state log) (seen ++ Retired key state ∷ [])
  taken log seen key state r = at (fin.get log key) refl
    where
      now : List Record
      now = seen ++ Retired key state ∷ []

      same : (q : Key) → said q now ≡ said q seen
      same q = said_retired q key seen state

      out : (entry : Logged) → fin.get log key ≡ Some entry → entry.state ≡ state → IsRecovered own (fin.remove log key) now
      out entry here is = record {
        logged = λ q other h. same q ∙ r.logged q other (left_found key_total key_exact log key q other h).1;
        owed = λ q other h. r.owed q other (left_found key_total key_exact log key q other h).1;
        whole = λ q s m says target other told. ⊎_elim
            (λ alike.
            let says_key : said key seen ≡ Some s = sym (ap (λ k. said k seen) alike) ∙ sym (same q) ∙ says in
            let state_s : s ≡ state = some_state s entry.state (sym says_key ∙ r.logged key entry here) ∙ is in
            among_behind (Retired q s) seen (Retired key state ∷ []) (inl (same_retired key q state s (sym alike) (sym state_s))))
            (λ apart. among_front (Retired q s) seen (Retired key state ∷ [])
            (r.whole q s m (sym (same q) ∙ says) target other (λ one h. told one (left_other key_total key_exact log key q apart ∙ h))))
            (same_key q key);
      }

      at : (o : Option Logged) → fin.get log key ≡ o → IsRecovered own (cond (is_of state o) (fin.remove log key) log) now
      at None e = quiet log seen (Retired key state) same r
      at (Some entry) e = by (is_same_state entry.state state) refl
        where
          by : (b : Bool) → is_same_state entry.state state ≡ b → IsRecovered own (cond b (fin.remove log key) log) now
          by true t = out entry e (state_is entry.state state t)
          by false t = quiet log seen (Retired key state) same r

  joined_ends : (seen : List Record) (one : Record) (records : List Record) → (seen ++ one ∷ []) ++ records ≡ seen ++ one ∷ records
  joined_ends [] one records = refl
  joined_ends (x ∷ seen) one records = ap (λ (l : List Record). x ∷ l) (joined_ends seen one records)

  nothing_behind : (xs : List Record) → xs ++ [] ≡ xs
  nothing_behind [] = refl
  nothing_behind (x ∷ xs) = ap (λ (l : List Record). x ∷ l) (nothing_behind xs)

  follows : (records seen : List Record) (log : Log) → IsRecovered own log seen → IsRecovered own (log_after own seen log records) (seen ++ records)
  follows [] seen log r = subst (IsRecovered own log) (sym (nothing_behind seen)) r
  follows (Stated key state ∷ records) seen log r = subst (IsRecovered own (log_after own seen log (Stated key state ∷ records))) (joined_ends seen (Stated key state) records)
      (follows records (seen ++ Stated key state ∷ []) (owed_state own key (join_with (said key seen) state) log) (stated log seen key state r))
  follows (Retired key state ∷ records) seen log r = subst (IsRecovered own (log_after own seen log (Retired key state ∷ records))) (joined_ends seen (Retired key state) records)
      (follows records (seen ++ Retired key state ∷ []) (retired key state log) (taken log seen key state r))
  follows (Boot boot ∷ records) seen log r = subst (IsRecovered own (log_after own seen log (Boot boot ∷ records))) (joined_ends seen (Boot boot) records)
      (follows records (seen ++ Boot boot ∷ []) log (quiet log seen (Boot boot) (λ q. held_both q None seen (Boot boot ∷ [])) r))
  follows (Promise epoch ∷ records) seen log r = subst (IsRecovered own (log_after own seen log (Promise epoch ∷ records))) (joined_ends seen (Promise epoch) records)
      (follows records (seen ++ Promise epoch ∷ []) log (quiet log seen (Promise epoch) (λ q. held_both q None seen (Promise epoch ∷ [])) r))
  follows (Octets id octets ∷ records) seen log r = subst (IsRecovered own (log_after own seen log (Octets id octets ∷ records))) (joined_ends seen (Octets id octets) records)
      (follows records (seen ++ Octets id octets ∷ []) log (quiet log seen (Octets id octets) (λ q. said_octets q seen id octets) r))

  pub recovers : (records : List Record) → IsRecovered own (recovered own records) records
  recovers records = follows records [] fin.empty (record {
    logged = λ q entry h. absurd (nobody q entry h);
    owed = λ q entry h. absurd (nobody q entry h);
    whole = λ q s m says target other told. absurd (cc says);
  })
    where
      nobody : (q : Key) (entry : Logged) → fin.get (fin.empty {R = key_cmp}) q ≡ Some entry → ⊥
      nobody q entry h = clash (fin.get (fin.empty {R = key_cmp}) q) entry (fin.get-empty key_cmp q) h
        where
          clash : (o : Option Logged) (x : Logged) → o ≡ None → o ≡ Some x → ⊥
          clash o x p q = cc
