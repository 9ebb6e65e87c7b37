-- A node that pushes or widens acts as the invariant asks.
use Rattle.std.proofs.Common.{◌≡◌, inl, ⊎_elim, ℕ, Bool, true, false, not, ◌&&◌, List, [], ◌∷◌, Option, Some, None, refl, sym, ap, ◌∙◌, subst, true≢false, if◌then◌else◌, le_refl}
use Rattle.std.specs.FinMap as fin
use Rattle.std.proofs.lemmas.Bool.{and_parts}
use Rattle.mail_model.specs.Identity.{Id, Key, Value, State}
use Rattle.mail_model.specs.Identity.Key.{Profile, Message}
use Rattle.mail_model.specs.Identity.Value.{Here, Gone, Secret}
use Rattle.mail_model.specs.Record.{Record}
use Rattle.mail_model.specs.Record.Record.{Octets}
use Rattle.mail_model.specs.Listing.{is_here, octets_in}
use Rattle.object_model.specs.Sets.{has, one_node, with_node}
use Rattle.object_model.specs.Lists.{Among}
use Rattle.mail_model.specs.Grammar.{IsOfKind}
use Rattle.object_model.specs.Said.{said}
use Rattle.object_model.specs.Letters.{Letter}
use Rattle.object_model.specs.Letters.Body.{Push}
use Rattle.object_model.specs.UpdateLog.{Logged}
use Rattle.cluster_model.specs.Cluster.{Node, epoch_of}
use Rattle.cluster_model.specs.Store.{Store, Update, take_all}
use Rattle.cluster_model.specs.Claims.{BodyHolds}
use Rattle.cluster_model.specs.Moves.{NodeAct, IsCallDone, IsReady}
use Rattle.cluster_model.specs.Rules.{Reaction, store_of, idle, pushed_octets, push_of, push, widened, widen, with_updates}
use Rattle.object_model.proofs.Lists.{among_front}
use Rattle.object_model.proofs.SetLaws.{has_left}
use Rattle.object_model.proofs.SaidLaws.{said_backed, said_has}
use Rattle.cluster_model.proofs.StoreSteps.{DiskFits, stays}
use Rattle.cluster_model.proofs.Takes.{took_all}
use Rattle.cluster_model.proofs.Filing.{octets_stand}
use Rattle.cluster_model.specs.Deeds.{act_of, slot_up}
use Rattle.cluster_model.proofs.Reacts.{fits_of, BroughtBy, AckedBy, LetterReacts, is_act}
use Rattle.cluster_model.proofs.Quiet.{same_tickets, drawn_rises}
use Rattle.cluster_model.proofs.HearLogs.{among_flat, speaks_said}

-- what a Push of a state carries stands on the disk
pushed_stand : (key : Key) (state : State) (disk : List Record) (id : Id) (octets : List ℕ) → BodyHolds (Push key state (pushed_octets key state.value disk)) id octets → Among (Octets id octets) disk
pushed_stand key state disk id octets h = by key state.value h
  where
    found_by : (user : List ℕ) (other : Id) (found : Option (List ℕ)) → octets_in other disk ≡ found → BodyHolds (Push (Message user other) state found) id octets → Among (Octets id octets) disk
    found_by user other None e g = absurd g
    found_by user other (Some held) e (same, is) = subst (λ i. Among (Octets i octets) disk) same (subst (λ o. Among (Octets other o) disk) is (octets_stand other held disk e))

    by : (k : Key) (value : Value) → BodyHolds (Push k state (pushed_octets k value disk)) id octets → Among (Octets id octets) disk
    by (Profile user) value g = absurd g
    by (Message user other) Here g = found_by user other (octets_in other disk) refl g
    by (Message user other) Gone g = absurd g
    by (Message user other) (Secret o) g = absurd g

-- a node that is in order and whose records fit is a target of what it says
pub said_fits : (own : ℕ) (disk : List Record) (key : Key) (held : State) → DiskFits own disk → said key disk ≡ Some held → (has held.targets own ≡ true) × IsOfKind key held.value
said_fits own disk key held fits says =
    let b = said_backed key disk held says in
    (said_has key None disk b.top held own says b.inside (fits.target key b.top b.inside), subst (IsOfKind key) b.same_value (fits.kind key b.top b.inside))

module _ (own : ℕ) (node : Node) (disk : List Record) (ready : IsReady own (slot_up node disk) None) where
  abbrev deed : Reaction → NodeAct
  deed did = act_of own node disk did None None []

  pub push_acts : (to : ℕ) (keys : List Key) → IsCallDone (deed (push own to keys node disk))
  push_acts to keys = is_act own node disk did None None [] [] ready
      (record { step = stays own [] (BroughtBy (deed did)) (AckedBy (deed did)) (store_of node disk); fits = λ u m. absurd m; speaks = λ user id s. absurd s.inside })
      (record { boot = refl; drawn = le_refl node.drawn; fresh = λ content e. absurd (cc e); ended = λ content e. absurd (cc e) })
      (same_tickets own node disk did None None [] refl refl (λ letter e. absurd (cc e)))
      (λ letter m. let r = among_flat (λ key. push_of own to (epoch_of node) disk key (fin.get node.log key)) letter keys m in one_push letter r.0 (fin.get node.log r.0) refl r.1)
    where
      did : Reaction
      did = push own to keys node disk

      sent : (letter : Letter) (key : Key) (entry : Logged) → fin.get node.log key ≡ Some entry → has entry.remaining to ≡ true
          → (record { from = own; to = to; epoch = epoch_of node; ticket = None; body = Push key entry.state (pushed_octets key entry.state.value disk) }) ≡ letter → LetterReacts (deed did) letter
      sent letter key entry here owed is =
          let says = ready.order.logged node refl key entry here in
          subst (LetterReacts (deed did)) is (record {
            holds = λ id octets h. inl (among_front (Octets id octets) disk [] (pushed_stand key entry.state disk id octets h));
            file = λ id users f. absurd (cc f.is);
            filed = λ id f. absurd (cc f);
            claims = λ m fact c. absurd c;
            speaks = λ user id (k, gone). inl (speaks_said own node disk key entry.state says user id k gone);
            fit = (ready.order.owed node refl key entry here to owed, (said_fits own disk key entry.state (fits_of own node disk ready.fits) says).1);
          })

      one_push : (letter : Letter) (key : Key) (found : Option Logged) → fin.get node.log key ≡ found → Among letter (push_of own to (epoch_of node) disk key found) → LetterReacts (deed did) letter
      one_push letter key None e m = absurd m
      one_push letter key (Some entry) e m = by (has entry.remaining to) refl m
        where
          by : (b : Bool) → has entry.remaining to ≡ b
              → Among letter (if b then record { from = own; to = to; epoch = epoch_of node; ticket = None; body = Push key entry.state (pushed_octets key entry.state.value disk) } ∷ [] else []) → LetterReacts (deed did) letter
          by true t inside = ⊎_elim (λ is. sent letter key entry e t is) (λ none. absurd none) inside
          by false t inside = absurd inside

  idle_acts : IsCallDone (deed (idle node disk))
  idle_acts = is_act own node disk (idle node disk) None None [] [] ready
      (record { step = stays own [] (BroughtBy (deed (idle node disk))) (AckedBy (deed (idle node disk))) (store_of node disk); fits = λ u m. absurd m; speaks = λ user id s. absurd s.inside })
      (record { boot = refl; drawn = le_refl node.drawn; fresh = λ content e. absurd (cc e); ended = λ content e. absurd (cc e) })
      (same_tickets own node disk (idle node disk) None None [] refl refl (λ letter e. absurd (cc e)))
      (λ letter m. absurd m)

  module _ (to : ℕ) (key : Key) where
    widened_acts : (held : Option State) → said key disk ≡ held → IsCallDone (deed (widened own to key node disk held))
    widened_acts None e = idle_acts
    widened_acts (Some held) e = by (is_here held.value && not (has held.targets to)) refl
      where
        updates : List Update
        updates = record { key = key; state = record held { targets = with_node held.targets to } } ∷ []

        store : Store
        store = take_all own updates (store_of node disk)

        did : Reaction
        did = record { node = with_updates own node updates store; disk = store.disk; out = [] }

        fits : (has (with_node held.targets to) own ≡ true) × IsOfKind key held.value
        fits = let f = said_fits own disk key held (fits_of own node disk ready.fits) e in (has_left held.targets (one_node to) own f.0, f.1)

        not_gone : is_here held.value ≡ true → held.value ≡ Gone → ⊥
        not_gone h g = true≢false (sym h ∙ ap is_here g)

        by : (b : Bool) → (is_here held.value && not (has held.targets to)) ≡ b → IsCallDone (deed (if b then did else idle node disk))
        by true t = is_act own node disk did None None [] updates ready
            (record {
              step = took_all own updates (BroughtBy (deed did)) (AckedBy (deed did)) updates (λ u m. m) (store_of node disk);
              fits = λ u m. ⊎_elim (λ is. subst (λ (v : Update). (has v.state.targets own ≡ true) × IsOfKind v.key v.state.value) is fits) (λ none. absurd none) m;
              speaks = λ user id s. absurd (⊎_elim
                  (λ is. not_gone (and_parts (is_here held.value) (not (has held.targets to)) t).0 (ap (λ (v : Update). v.state.value) is ∙ s.gone))
                  (λ none. none) s.inside);
            })
            (record { boot = refl; drawn = drawn_rises own node.boot node.drawn updates; fresh = λ content f. absurd (cc f); ended = λ content f. absurd (cc f) })
            (same_tickets own node disk did None None [] refl refl (λ letter f. absurd (cc f)))
            (λ letter m. absurd m)
        by false t = idle_acts

    pub widen_acts : IsCallDone (deed (widen own to key node disk))
    widen_acts = widened_acts (said key disk) refl
