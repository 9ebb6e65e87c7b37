-- A node that hears File, Strike or Push acts as the invariant asks.
use Rattle.std.proofs.Common.{◌≡◌, ◌≢◌, inl, inr, ⊎_elim, ◌≤◌, ℕ, true, false, true≢false, List, [], ◌∷◌, map, Option, Some, None, refl, sym, ap, ◌∙◌, subst}
use Rattle.mail_model.specs.Identity.{Id, Stamp, Key, Value, State}
use Rattle.mail_model.specs.Identity.Key.{Profile, Message}
use Rattle.mail_model.specs.Identity.Value.{Here, Gone, Secret}
use Rattle.mail_model.specs.Record.{Record}
use Rattle.mail_model.specs.Record.Record.{Stated}
use Rattle.object_model.specs.Sets.{has, all_nodes}
use Rattle.object_model.specs.Lists.{Among}
use Rattle.mail_model.specs.Grammar.{IsOfKind}
use Rattle.object_model.specs.States.{is_below}
use Rattle.object_model.specs.Said.{CoversAtLeast}
use Rattle.object_model.specs.Letters.{DeletionMark, Body, Letter}
use Rattle.object_model.specs.Letters.Body.{File, Filed, Strike, StrikeTold, Push, PushAck}
use Rattle.cluster_model.specs.Cluster.{AskedOfNodes, Node}
use Rattle.cluster_model.specs.Cluster.AskedOfNodes.{Copies, Deletion}
use Rattle.cluster_model.specs.Store.{Store, Update, take_all, here_updates, gone_updates, with_octets}
use Rattle.cluster_model.specs.Claims.{SaysFact, LetterHolds, BodyHolds, BodySpeaks, ShowsGone, Asks, Tells}
use Rattle.cluster_model.specs.Claims.Fact.{HasCopies}
use Rattle.cluster_model.specs.Moves.{NodeAct, IsCallDone, IsReady, BodyFits}
use Rattle.cluster_model.specs.Rules.{Reaction, store_of, answer, hear_file, hear_strike, hear_push, with_pushed}
use Rattle.object_model.proofs.SetLaws.{all_has}
use Rattle.cluster_model.proofs.StoreSteps.{StoreStep, UpdatesFit, UpdatesSpeak, stays, followed}
use Rattle.cluster_model.proofs.Takes.{took_all, all_cover}
use Rattle.cluster_model.proofs.Filing.{among_map, map_among, octets_step, all_copied}
use Rattle.cluster_model.specs.Deeds.{act_of, slot_up}
use Rattle.cluster_model.proofs.Reacts.{fits_of, BroughtBy, AckedBy, LetterReacts, is_act}
use Rattle.cluster_model.proofs.Quiet.{same_tickets, answered, sent_one, drawn_rises}

-- what a letter holds, if its body is known
pub body_holds : (letter : Letter) (body : Body) → letter.body ≡ body → (id : Id) (octets : List ℕ) → BodyHolds body id octets → LetterHolds letter id octets
body_holds letter body is id octets h = subst (λ b. BodyHolds b id octets) (sym is) h

-- copies of a message fit where the node is a target
pub here_fit : (own : ℕ) (id : Id) (stamp : Stamp) (targets : ℕ) (users : List (List ℕ)) → has targets own ≡ true → UpdatesFit own (here_updates id stamp targets users)
here_fit own id stamp targets users target update m =
    let r = among_map (λ (user : List ℕ). record { key = Message user id; state = record { value = Here; stamp = stamp; targets = targets } }) update users m in
    subst (λ (u : Update). (has u.state.targets own ≡ true) × IsOfKind u.key u.state.value) r.2 (target, tt)

-- and speak of no deletion
pub here_speaks : (id : Id) (stamp : Stamp) (targets : ℕ) (users : List (List ℕ)) (user : List ℕ) (other : Id) → UpdatesSpeak (here_updates id stamp targets users) user other → ⊥
here_speaks id stamp targets users user other s =
    let r = among_map (λ (user : List ℕ). record { key = Message user id; state = record { value = Here; stamp = stamp; targets = targets } }) s.update users s.inside in
    clash (subst (λ (u : Update). u.state.value ≡ Gone) (sym r.2) s.gone)
  where
    clash : Here ≡ Gone → ⊥
    clash e = cc

-- deletions fit where the node is a target
pub gone_fit : (own : ℕ) (user : List ℕ) (targets : ℕ) (marks : List DeletionMark) → has targets own ≡ true → UpdatesFit own (gone_updates user targets marks)
gone_fit own user targets marks target update m =
    let r = among_map (λ (mark : DeletionMark). record { key = Message user mark.id; state = record { value = Gone; stamp = mark.stamp; targets = targets } }) update marks m in
    subst (λ (u : Update). (has u.state.targets own ≡ true) × IsOfKind u.key u.state.value) r.2 (target, tt)

-- and speak of what is marked
pub struck : (user : List ℕ) (targets : ℕ) (marks : List DeletionMark) (other : List ℕ) (id : Id) → UpdatesSpeak (gone_updates user targets marks) other id
    → (user ≡ other) × ((mark : DeletionMark) × Among mark marks × (mark.id ≡ id))
struck user targets marks other id s =
    let r = among_map (λ (mark : DeletionMark). record { key = Message user mark.id; state = record { value = Gone; stamp = mark.stamp; targets = targets } }) s.update marks s.inside in
    let k : Message user r.0.id ≡ Message other id = ap (λ (u : Update). u.key) r.2 ∙ s.key in
    (cc, (r.0, r.1, cc))

-- what covers a deletion is one
pub covers_gone : (user : List ℕ) (id : Id) (stamp : Stamp) (targets : ℕ) (disk : List Record) → ((key : Key) (state : State) → Among (Stated key state) disk → IsOfKind key state.value)
    → CoversAtLeast (Message user id) (record { value = Gone; stamp = stamp; targets = targets }) disk → ShowsGone user id disk
covers_gone user id stamp targets disk kind c = record { state = c.top; inside = c.inside; gone = by c.top (kind (Message user id) c.top c.inside) c.not_below }
  where
    of_value : (value : Value) (at : Stamp) (set : ℕ) → IsOfKind (Message user id) value
        → is_below (record { value = value; stamp = at; targets = set }) (record { value = Gone; stamp = stamp; targets = targets }) ≡ false → value ≡ Gone
    of_value Here at set fits below = absurd (true≢false below)
    of_value Gone at set fits below = refl
    of_value (Secret octets) at set fits below = absurd fits

    by : (top : State) → IsOfKind (Message user id) top.value → is_below top (record { value = Gone; stamp = stamp; targets = targets }) ≡ false → top.value ≡ Gone
    by top = of_value top.value top.stamp top.targets

module _ (own : ℕ) (node : Node) (disk : List Record) (letter : Letter) (to : letter.to ≡ own) (ready : IsReady own (slot_up node disk) (Some letter)) where
  same : (one : Letter) → Some letter ≡ Some one → letter ≡ one
  same one e = cc

  pub file_acts : (id : Id) (stamp : Stamp) (targets : ℕ) (users : List (List ℕ)) (octets : List ℕ) → letter.body ≡ File id stamp targets users octets
      → IsCallDone (act_of own node disk (hear_file own node disk letter id stamp targets users octets) (Some letter) None [])
  file_acts id stamp targets users octets is = is_act own node disk did (Some letter) None [] updates ready
      (record {
        step = followed own updates (BroughtBy act) (AckedBy act) (store_of node disk) first (take_all own updates first)
            (octets_step own updates (BroughtBy act) (AckedBy act) (store_of node disk) id users octets
            (inl (record { letter = letter; is = refl; holds = body_holds letter (File id stamp targets users octets) is id octets (refl, refl) })))
            (took_all own updates (BroughtBy act) (AckedBy act) updates (λ u m. m) first);
        fits = here_fit own id stamp targets users (subst (λ n. has targets n ≡ true) to (subst (λ b. BodyFits letter.to b) is (ready.heard_fits letter refl)));
        speaks = λ user other s. absurd (here_speaks id stamp targets users user other s);
      })
      (record { boot = refl; drawn = drawn_rises own node.boot node.drawn updates; fresh = λ content e. absurd (cc e); ended = λ content e. absurd (cc e) })
      (same_tickets own node disk did (Some letter) None [] refl refl (answered letter (Filed id)
      (λ asked asks. tells asked (subst (λ b. Asks b asked) is asks)) (λ asked told. nothing asked (subst (λ b. Tells b asked) is told))))
      (sent_one (LetterReacts act) (answer letter (Filed id)) (record {
        holds = λ other o h. absurd h;
        file = λ other us f. absurd (cc f.is);
        filed = λ other e. (
          to,
          (
            users,
            record { letter = letter; is = refl; holds = record { stamp = stamp; targets = targets; octets = octets; is = is ∙ file_as other (same_filed other e) } },
            subst (λ i. SaysFact did.disk (HasCopies users i)) (same_filed other e) (all_copied own id stamp targets users octets (store_of node disk)),
          ),
        );
        claims = λ m fact c. absurd c;
        speaks = λ user other s. absurd s;
        fit = tt;
      }))
    where
      updates : List Update
      updates = here_updates id stamp targets users

      first : Store
      first = store_of node (with_octets id users octets disk)

      did : Reaction
      did = hear_file own node disk letter id stamp targets users octets

      act : NodeAct
      act = act_of own node disk did (Some letter) None []

      tells : (asked : AskedOfNodes) → Asks (File id stamp targets users octets) asked → Tells (Filed id) asked
      tells (Copies filing) a = a
      tells (Deletion user other) a = a

      nothing : (asked : AskedOfNodes) → Tells (File id stamp targets users octets) asked → ⊥
      nothing (Copies filing) a = a
      nothing (Deletion user other) a = a

      same_filed : (other : Id) → Filed id ≡ Filed other → id ≡ other
      same_filed other e = cc

      file_as : (other : Id) → id ≡ other → File id stamp targets users octets ≡ File other stamp targets users octets
      file_as other e = ap (λ i. File i stamp targets users octets) e

  module _ (nodes : ℕ) (numbered : own ≢ 0) (within : own ≤ nodes) (few : nodes ≤ 64) where
    pub strike_acts : (user : List ℕ) (marks : List DeletionMark) → letter.body ≡ Strike user marks
        → IsCallDone (act_of own node disk (hear_strike own nodes node disk letter user marks) (Some letter) None [])
    strike_acts user marks is = is_act own node disk did (Some letter) None [] updates ready
        (record { step = step; fits = fits; speaks = λ other id s. inl (record { letter = letter; is = refl; holds = subst (λ b. BodySpeaks b other id) (sym is) (struck user (all_nodes nodes) marks other id s) }) })
        (record { boot = refl; drawn = drawn_rises own node.boot node.drawn updates; fresh = λ content e. absurd (cc e); ended = λ content e. absurd (cc e) })
        (same_tickets own node disk did (Some letter) None [] refl refl (answered letter (StrikeTold user ids)
        (λ asked asks. tells asked (subst (λ b. Asks b asked) is asks)) (λ asked told. nothing asked (subst (λ b. Tells b asked) is told))))
        (sent_one (LetterReacts act) (answer letter (StrikeTold user ids)) (record {
          holds = λ other o h. absurd h;
          file = λ other us f. absurd (cc f.is);
          filed = λ other e. absurd (cc e);
          claims = λ m fact (from, some). inr (inl (sym from ∙ to, subst (SaysFact did.disk) some.2 (shows some.0 some.1)));
          speaks = λ other id (same_user, inside). inr (inl (record { letter = letter; is = refl; holds = subst (λ b. BodySpeaks b other id) (sym is) (same_user, marked id inside) }));
          fit = tt;
        }))
      where
        updates : List Update
        updates = gone_updates user (all_nodes nodes) marks

        ids : List Id
        ids = map (λ mark. mark.id) marks

        did : Reaction
        did = hear_strike own nodes node disk letter user marks

        act : NodeAct
        act = act_of own node disk did (Some letter) None []

        step : StoreStep own updates (BroughtBy act) (AckedBy act) (store_of node disk) (take_all own updates (store_of node disk))
        step = took_all own updates (BroughtBy act) (AckedBy act) updates (λ u m. m) (store_of node disk)

        fits : UpdatesFit own updates
        fits = gone_fit own user (all_nodes nodes) marks (all_has nodes own numbered within few)

        marked : (id : Id) → Among id ids → (mark : DeletionMark) × Among mark marks × (mark.id ≡ id)
        marked id m = among_map (λ (mark : DeletionMark). mark.id) id marks m

        shows : (id : Id) → Among id ids → ShowsGone user id did.disk
        shows id m =
            let r = marked id m in
            let d = step.fits fits (fits_of own node disk ready.fits) in
            subst (λ i. ShowsGone user i did.disk) r.2
            (covers_gone user r.0.id r.0.stamp (all_nodes nodes) did.disk d.kind (all_cover own updates (λ i o. ⊥) (λ k s n. ⊥) updates (λ v k. k) (store_of node disk)
            (record { key = Message user r.0.id; state = record { value = Gone; stamp = r.0.stamp; targets = all_nodes nodes } })
            (map_among (λ (mark : DeletionMark). record { key = Message user mark.id; state = record { value = Gone; stamp = mark.stamp; targets = all_nodes nodes } }) r.0 marks r.1)))

        tells : (asked : AskedOfNodes) → Asks (Strike user marks) asked → Tells (StrikeTold user ids) asked
        tells (Copies filing) a = a
        tells (Deletion other id) (same_user, (mark, inside, same_id)) = (same_user, subst (λ i. Among i ids) same_id (map_among (λ (m : DeletionMark). m.id) mark marks inside))

        nothing : (asked : AskedOfNodes) → Tells (Strike user marks) asked → ⊥
        nothing (Copies filing) a = a
        nothing (Deletion other id) a = a

  pub push_acts : (key : Key) (state : State) (octets : Option (List ℕ)) → letter.body ≡ Push key state octets
      → IsCallDone (act_of own node disk (hear_push own node disk letter key state octets) (Some letter) None [])
  push_acts key state octets is = is_act own node disk did (Some letter) None [] updates ready
      (record {
        step = followed own updates (BroughtBy act) (AckedBy act) (store_of node disk) first (take_all own updates first) (pushed key octets is) (took_all own updates (BroughtBy act) (AckedBy act) updates (λ u m. m) first);
        fits = λ u m. ⊎_elim (λ e. subst (λ (v : Update). (has v.state.targets own ≡ true) × IsOfKind v.key v.state.value) e (subst (λ n. has state.targets n ≡ true) to fit.0, fit.1)) (λ none. absurd none) m;
        speaks = λ user id s. inl (record { letter = letter; is = refl; holds = subst (λ b. BodySpeaks b user id) (sym is) (spoken user id s) });
      })
      (record { boot = refl; drawn = drawn_rises own node.boot node.drawn updates; fresh = λ content e. absurd (cc e); ended = λ content e. absurd (cc e) })
      (same_tickets own node disk did (Some letter) None [] refl refl (answered letter (PushAck key state)
      (λ asked asks. absurd (no_asks asked (subst (λ b. Asks b asked) is asks))) (λ asked told. no_tells asked (subst (λ b. Tells b asked) is told))))
      (sent_one (LetterReacts act) (answer letter (PushAck key state)) (record {
        holds = λ other o h. absurd h;
        file = λ other us f. absurd (cc f.is);
        filed = λ other e. absurd (cc e);
        claims = λ m fact (from, same_fact). inr (inl (
          sym from ∙ to,
          subst (SaysFact did.disk) same_fact
              (all_cover own updates (λ i o. ⊥) (λ k s n. ⊥) updates (λ v k. k) first (record { key = key; state = state }) (inl refl)),
        ));
        speaks = λ user id s. inr (inl (record { letter = letter; is = refl; holds = subst (λ b. BodySpeaks b user id) (sym is) s }));
        fit = tt;
      }))
    where
      updates : List Update
      updates = record { key = key; state = state } ∷ []

      first : Store
      first = store_of node (with_pushed key octets disk)

      did : Reaction
      did = hear_push own node disk letter key state octets

      act : NodeAct
      act = act_of own node disk did (Some letter) None []

      fit : (has state.targets letter.to ≡ true) × IsOfKind key state.value
      fit = subst (λ b. BodyFits letter.to b) is (ready.heard_fits letter refl)

      pushed : (k : Key) (o : Option (List ℕ)) → letter.body ≡ Push k state o → StoreStep own updates (BroughtBy act) (AckedBy act) (store_of node disk) (store_of node (with_pushed k o disk))
      pushed (Profile user) o e = stays own updates (BroughtBy act) (AckedBy act) (store_of node disk)
      pushed (Message user id) None e = stays own updates (BroughtBy act) (AckedBy act) (store_of node disk)
      pushed (Message user id) (Some o) e = octets_step own updates (BroughtBy act) (AckedBy act) (store_of node disk) id (user ∷ []) o
          (inl (record { letter = letter; is = refl; holds = body_holds letter (Push (Message user id) state (Some o)) e id o (refl, refl) }))

      spoken : (user : List ℕ) (id : Id) → UpdatesSpeak updates user id → (key ≡ Message user id) × (state.value ≡ Gone)
      spoken user id s = ⊎_elim (λ e. (ap (λ (u : Update). u.key) e ∙ s.key, ap (λ (u : Update). u.state.value) e ∙ s.gone)) (λ none. absurd none) s.inside

      no_asks : (asked : AskedOfNodes) → Asks (Push key state octets) asked → ⊥
      no_asks (Copies filing) a = a
      no_asks (Deletion other id) a = a

      no_tells : (asked : AskedOfNodes) → Tells (Push key state octets) asked → ⊥
      no_tells (Copies filing) a = a
      no_tells (Deletion other id) a = a
