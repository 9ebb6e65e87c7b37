-- What holds of each entry of a log, however it is changed.
use Rattle.std.proofs.Common.{◌≡◌, ⊎_elim, ℕ, List, [], ◌∷◌, ◌++◌, Bool, true, false, cond, nat_eq, ◌&&◌, Option, Some, None, refl, sym, subst, ◌∙◌}
use Rattle.std.specs.Prelude.{All}
use Rattle.std.proofs.lemmas.List.Elements.{All-nil, All-cons, All-append, All-head, All-tail}
use Rattle.std.specs.FinMap as fin
use Rattle.mail_model.specs.Identity.{Key, State}
use Rattle.mail_model.specs.Record.{Record}
use Rattle.mail_model.specs.Record.Record.{Boot, Promise, Octets, Stated, Retired}
use Rattle.mail_model.specs.Grammar.{IsObject, IsRecord}
use Rattle.object_model.specs.Sets.{has, without_node}
use Rattle.object_model.specs.Keys.{key_cmp, is_same_key}
use Rattle.object_model.specs.States.{join_with, is_same_state}
use Rattle.object_model.specs.Said.{held_after, said}
use Rattle.object_model.specs.UpdateLog.{Logged, Log, new_entry, cleared, is_of, noted, cleared_at, retired}
use Rattle.object_model.proofs.StateLaws.{key_is}
use Rattle.object_model.proofs.MapLaws.{key_total, key_exact, found, left_found}
use Rattle.update_log.specs.declared.logged.Acked.{Acked}
use Rattle.update_log.specs.declared.logged.Acked.TheVariants.{Cleared, Emptied, Other}
use Rattle.replica_push.specs.Acks.{after_ack}
use Rattle.replica_push.specs.Pushes.{note_news}
use Rattle.replica_push.specs.Rules.{settled}
use Rattle.cluster_model.specs.Starts.{owed_state, log_after, recovered}
use Rattle.node_store.specs.Keeps.{HoldsLogged}
use Rattle.node_store.proofs.Objects.{join_object}

put_logged : (log : Log) (key : Key) (entry : Logged) → HoldsLogged log → IsObject key entry.state → HoldsLogged (fin.insert log key entry)
put_logged log key entry all one other stood is = ⊎_elim
    (λ here. subst (λ (k : Key). IsObject k stood.state) (sym here.0) (subst (λ (e : Logged). IsObject key e.state) (sym here.1) one))
    (λ apart. all other stood apart.1)
    (found key_total key_exact log key entry other stood is)

taken_out : (log : Log) (key : Key) → HoldsLogged log → HoldsLogged (fin.remove log key)
taken_out log key all other stood is = all other stood (left_found key_total key_exact log key other stood is).1

pub retired_logged : (key : Key) (state : State) (log : Log) → HoldsLogged log → HoldsLogged (retired key state log)
retired_logged key state log all = by (is_of state (fin.get log key))
  where
    by : (b : Bool) → HoldsLogged (cond b (fin.remove log key) log)
    by true = taken_out log key all
    by false = all

-- news that was noted, or retired at once
pub noted_logged : (own : ℕ) (key : Key) (news : Option State) (log : Log) → HoldsLogged log → ((next : State) → news ≡ Some next → IsObject key next)
    → HoldsLogged (settled own key news (note_news own key news log))
noted_logged own key None log all one = all
noted_logged own key (Some next) log all one = by (nat_eq (without_node next.targets own) 0)
  where
    there : HoldsLogged (noted own key next log)
    there = put_logged log key (new_entry own next) all (one next refl)

    by : (b : Bool) → HoldsLogged (cond b (retired key next (noted own key next log)) (noted own key next log))
    by true = retired_logged key next (noted own key next log) there
    by false = there

pub acked_logged : (key : Key) (state : State) (by : ℕ) (acked : Acked) (log : Log) → HoldsLogged log → HoldsLogged (after_ack key state by acked log)
acked_logged key state by Emptied log all = taken_out log key all
acked_logged key state by Other log all = all
acked_logged key state by Cleared log all = at (fin.get log key) refl
  where
    at : (stood : Option Logged) → fin.get log key ≡ stood → HoldsLogged (cleared_at key state by stood log)
    at None is = all
    at (Some entry) is = into (is_same_state entry.state state && has entry.remaining by)
      where
        into : (b : Bool) → HoldsLogged (cond b (fin.insert log key (cleared by entry)) log)
        into true = put_logged log key (cleared by entry) all (all key entry is)
        into false = all

-- a log without entries
pub none_logged : (log : Log) → log ≡ fin.empty → HoldsLogged log
none_logged log is = subst HoldsLogged (sym is) (λ key stood there. absurd (nothing (sym (fin.get-empty key_cmp key) ∙ there)))
  where
    nothing : {X : Type 0} {x : X} → None ≡ Some x → ⊥
    nothing e = cc e

-- what was held of a key, once records are joined to it
one_after : (seen : List Record) (one : Record) → All IsRecord seen → IsRecord one → All IsRecord (seen ++ one ∷ [])
one_after seen one before fits = All-append IsRecord seen (one ∷ []) before (All-cons IsRecord one [] fits (All-nil IsRecord))

held_fits : (key : Key) (records : List Record) (held : Option State) → All IsRecord records → ((h : State) → held ≡ Some h → IsObject key h)
    → (state : State) → held_after key held records ≡ Some state → IsObject key state
held_fits key [] held fit base state is = base state is
held_fits key (Boot boot ∷ records) held fit base state is = held_fits key records held (All-tail IsRecord (Boot boot) records fit) base state is
held_fits key (Promise epoch ∷ records) held fit base state is = held_fits key records held (All-tail IsRecord (Promise epoch) records fit) base state is
held_fits key (Octets id octets ∷ records) held fit base state is = held_fits key records held (All-tail IsRecord (Octets id octets) records fit) base state is
held_fits key (Retired other one ∷ records) held fit base state is = held_fits key records held (All-tail IsRecord (Retired other one) records fit) base state is
held_fits key (Stated other one ∷ records) held fit base state is =
    held_fits key records (cond (is_same_key other key) (Some (join_with held one)) held) (All-tail IsRecord (Stated other one) records fit) (by (is_same_key other key) refl) state is
  where
    by : (b : Bool) → is_same_key other key ≡ b → (h : State) → cond b (Some (join_with held one)) held ≡ Some h → IsObject key h
    by true e h at =
        let here : IsObject key one = subst (λ (k : Key). IsObject k one) (key_is other key e) (All-head IsRecord (Stated other one) records fit) in
        let same : join_with held one ≡ h = cc at in
        subst (IsObject key) same (join_object key held one base here)
    by false e h at = base h at

none_held : (key : Key) (h : State) → None ≡ Some h → IsObject key h
none_held key h e = absurd (nothing e)
  where
    nothing : {X : Type 0} {x : X} → None ≡ Some x → ⊥
    nothing e = cc e

-- what a disk says of a key
pub said_fits : (key : Key) (records : List Record) → All IsRecord records → (state : State) → said key records ≡ Some state → IsObject key state
said_fits key records fit state is = held_fits key records None fit (none_held key) state is

log_logged : (own : ℕ) (seen : List Record) (log : Log) (records : List Record) → All IsRecord seen → HoldsLogged log → All IsRecord records → HoldsLogged (log_after own seen log records)
log_logged own seen log [] before all fit = all
log_logged own seen log (Boot boot ∷ records) before all fit =
    log_logged own (seen ++ Boot boot ∷ []) log records (one_after seen (Boot boot) before (All-head IsRecord (Boot boot) records fit)) all (All-tail IsRecord (Boot boot) records fit)
log_logged own seen log (Promise epoch ∷ records) before all fit =
    log_logged own (seen ++ Promise epoch ∷ []) log records (one_after seen (Promise epoch) before (All-head IsRecord (Promise epoch) records fit)) all (All-tail IsRecord (Promise epoch) records fit)
log_logged own seen log (Octets id octets ∷ records) before all fit =
    log_logged own (seen ++ Octets id octets ∷ []) log records (one_after seen (Octets id octets) before (All-head IsRecord (Octets id octets) records fit)) all (All-tail IsRecord (Octets id octets) records fit)
log_logged own seen log (Retired key state ∷ records) before all fit =
    log_logged own (seen ++ Retired key state ∷ []) (retired key state log) records (one_after seen (Retired key state) before (All-head IsRecord (Retired key state) records fit))
    (retired_logged key state log all) (All-tail IsRecord (Retired key state) records fit)
log_logged own seen log (Stated key state ∷ records) before all fit =
    log_logged own (seen ++ Stated key state ∷ []) (owed_state own key next log) records (one_after seen (Stated key state) before one) (by (nat_eq (without_node next.targets own) 0))
    (All-tail IsRecord (Stated key state) records fit)
  where
    one : IsObject key state
    one = All-head IsRecord (Stated key state) records fit

    next : State
    next = join_with (said key seen) state

    by : (b : Bool) → HoldsLogged (cond b (fin.remove log key) (noted own key next log))
    by true = taken_out log key all
    by false = put_logged log key (new_entry own next) all (join_object key (said key seen) state (said_fits key seen before) one)

-- the log that a start finds
pub recovered_logged : (own : ℕ) (records : List Record) → All IsRecord records → HoldsLogged (recovered own records)
recovered_logged own records fit = log_logged own [] fin.empty records (All-nil IsRecord) (none_logged fin.empty refl) fit
