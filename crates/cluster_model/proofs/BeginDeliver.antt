-- A node that begins a Deliver acts as the invariant asks.
use Rattle.std.proofs.Common.{◌≡◌, ◌≢◌, ◌⊎◌, inl, inr, ⊎_elim, ◌≤◌, ◌<◌, ℕ, zero, suc, ◌+◌, Bool, true, false, not, List, [], ◌∷◌, length, Some, None, refl, sym, ap, ◌∙◌, subst, true≢false, nat_eq, if◌then◌else◌, arith, ne_eqb}
use Rattle.std.specs.Cmp.{nat_cmp_total}
use Rattle.std.proofs.lemmas.Map.Lookups.{exact_unsigned}
use Rattle.std.proofs.lemmas.Bool.{and_from, cases_eq, not_from_false}
use Rattle.sha2.specs.Sha256.{sha256}
use Rattle.mail_model.specs.Identity.{Id, Stamp}
use Rattle.mail_model.specs.Lines.{ends_in_crlf}
use Rattle.mail_model.specs.Record.{Record}
use Rattle.object_model.specs.Sets.{has, one_node, without_node}
use Rattle.object_model.specs.Lists.{Among}
use Rattle.object_model.specs.Letters.{Letter}
use Rattle.object_model.specs.Letters.Body.{File}
use Rattle.cluster_model.specs.Cluster.{Want, Ticket, NodeFiling, Node, epoch_of}
use Rattle.cluster_model.specs.Cluster.AskedOfNodes.{Copies}
use Rattle.cluster_model.specs.Cluster.Life.{Up}
use Rattle.cluster_model.specs.Store.{Store, Update, take_all, here_updates, with_octets}
use Rattle.cluster_model.specs.Claims.{SaysFact, Wants, Covered}
use Rattle.cluster_model.specs.Claims.Fact.{HasCopies}
use Rattle.cluster_model.specs.Moves.{Content, NodeAct, IsCallDone, IsReady, IsBacked}
use Rattle.cluster_model.specs.Rules.{Reaction, store_of, receivers, new_want, new_number, begin_deliver}
use Rattle.object_model.proofs.Lists.{among_front, among_behind}
use Rattle.object_model.proofs.SetLaws.{has_one, has_none, left_in}
use Rattle.object_model.proofs.MapLaws.{found}
use Rattle.cluster_model.proofs.StoreSteps.{stays, followed}
use Rattle.cluster_model.proofs.Takes.{took_all}
use Rattle.cluster_model.proofs.Filing.{map_among, octets_step, all_copied}
use Rattle.cluster_model.specs.Deeds.{act_of, slot_up}
use Rattle.cluster_model.proofs.Reacts.{BroughtBy, AckedBy, StoreReacts, LetterReacts, is_act}
use Rattle.cluster_model.proofs.Tickets.{Came, Begins, numbered, tickets_react, as_it_was}
use Rattle.cluster_model.proofs.HearCopies.{here_fit, here_speaks}
use Rattle.cluster_model.proofs.Logs.{receiver_is, sent_to}
use Rattle.cluster_model.proofs.Closing.{unheard}
use Rattle.cluster_model.specs.Cluster.CallKind.{Delivering}
use Rattle.object_model.specs.Mishaps.{no_mishaps}

-- each other node of the set is a receiver
pub receiver_among : (own mask nodes m : ℕ) → has mask m ≡ true → m ≢ own → m ≤ nodes → Among m (receivers own mask nodes)
receiver_among own mask zero zero h apart le = absurd (true≢false (sym h))
receiver_among own mask zero (suc m) h apart le = absurd (omega (arith, le))
receiver_among own mask (suc k) m h apart le = ⊎_elim
    (λ is. among_behind m (receivers own mask k) _ (subst (λ b. Among m (if b then suc k ∷ [] else []))
    (sym (and_from (has mask (suc k)) (not (nat_eq (suc k) own)) (subst (λ j. has mask j ≡ true) is h) (not_from_false (nat_eq (suc k) own) (ne_eqb (suc k) own (λ e. apart (is ∙ e))))))
    (inl (sym is))))
    (λ other. among_front m (receivers own mask k) _ (receiver_among own mask k m h apart (omega (arith, le, other))))
    (cases_eq m (suc k))

module _ (own nodes seconds : ℕ) (node : Node) (disk : List Record) (users : List (List ℕ)) (octets : List ℕ) (targets : ℕ) (within : (m : ℕ) → has targets m ≡ true → m ≤ nodes) (closed_text : ends_in_crlf octets ≡ true)
    (ready : IsReady own (slot_up node disk) None) where
  abbrev id : Id
  id = record { node = own; boot = node.boot; seq = node.drawn + 1 }

  abbrev stamp : Stamp
  stamp = record { count = node.count + 1; boot = node.boot; node = own }

  abbrev filing : NodeFiling
  filing = record { id = id; users = users; seconds = seconds; size = length octets; digest = sha256 octets }

  abbrev content : Content
  content = record { id = id; users = users; octets = octets }

  abbrev updates : List Update
  updates = here_updates id stamp targets users

  abbrev first : Store
  first = store_of node (with_octets id users octets disk)

  abbrev filed : Store
  filed = take_all own updates first

  abbrev did : Reaction
  did = begin_deliver own nodes seconds node disk users octets targets

  abbrev deed : NodeAct
  deed = act_of own node disk did None (Some content) []

  same_content : (c : Content) → Some content ≡ Some c → content ≡ c
  same_content c e = cc

  store : (b : Bool) → has targets own ≡ b → StoreReacts deed (store_of node disk) (if b then filed else store_of node disk) (if b then updates else [])
  store true e = record {
    step = followed own updates (BroughtBy deed) (AckedBy deed) (store_of node disk) first filed
        (octets_step own updates (BroughtBy deed) (AckedBy deed) (store_of node disk) id users octets (inr (record { content = content; is = refl; same_id = refl; same_octets = refl })))
        (took_all own updates (BroughtBy deed) (AckedBy deed) updates (λ u m. m) first);
    fits = here_fit own id stamp targets users e;
    speaks = λ user other s. absurd (here_speaks id stamp targets users user other s);
  }
  store false e = record {
    step = stays own [] (BroughtBy deed) (AckedBy deed) (store_of node disk);
    fits = λ u m. absurd m;
    speaks = λ user other s. absurd s.inside;
  }

  -- the own node has the copies, where it is a target
  own_confirms : (m : ℕ) → has (new_want own (Copies filing) targets).confirmed m ≡ true → IsBacked deed m (HasCopies users id)
  own_confirms m h = by (has targets own) refl h
    where
      by : (b : Bool) → has targets own ≡ b → has (if b then one_node own else 0) m ≡ true → IsBacked deed m (HasCopies users id)
      by true e g = inr (inl (has_one own m g, subst (λ b. SaysFact (if b then filed else store_of node disk).disk (HasCopies users id)) (sym e) (all_copied own id stamp targets users octets (store_of node disk))))
      by false e g = absurd (true≢false (sym g ∙ has_none m))

  covered : (seq m : ℕ) → seq ≡ node.calls + 1 → has (without_node targets own) m ≡ true → Covered did.out (numbered own node disk did None (Some content) [] refl seq) m (Copies filing)
  covered seq m same h =
      let l = left_in targets own m h in
      record {
        letter = record { from = own; to = m; epoch = epoch_of node; ticket = Some (new_number own node); body = File id stamp targets users octets };
        inside = map_among (λ (to : ℕ). record { from = own; to = to; epoch = epoch_of node; ticket = Some (new_number own node); body = File id stamp targets users octets }) m (receivers own targets nodes)
            (receiver_among own targets nodes m l.0 l.1 (within m l.0));
        covers = (ap (λ s. Some (record { node = own; boot = node.boot; seq = s })) (sym same), inl (refl, refl, refl));
      }

  came : (seq : ℕ) (want : Want) → Wants (Up did.node) seq want → Came deed seq want ⊎ Begins deed (numbered own node disk did None (Some content) [] refl seq) want
  came seq want w = ⊎_elim
      (λ (at, is). ⊎_elim
      (λ e. inr (subst (Begins deed (numbered own node disk did None (Some content) [] refl seq)) e (record {
        opens = λ f g. let h = same_filing f g in record {
          content = content;
          is = refl;
          same_id = ap (λ (x : NodeFiling). x.id) h;
          same_users = ap (λ (x : NodeFiling). x.users) h;
          octets = (sym (ap (λ (x : NodeFiling). x.size) h), sym (ap (λ (x : NodeFiling). x.digest) h));
        };
        strikes = λ user other g. absurd (cc g);
        confirmed = own_confirms;
        waits = λ m h. covered seq m at h;
      })))
      (λ none. absurd none)
      (subst (λ (t : Ticket). Among want t.wants) is w.inside))
      (λ (apart, old). inl (as_it_was deed seq want (record { ticket = w.ticket; here = old; inside = w.inside })))
      (found nat_cmp_total exact_unsigned node.tickets (node.calls + 1) (record { kind = Delivering; wants = new_want own (Copies filing) targets ∷ []; mishaps = no_mishaps }) seq w.ticket w.here)
    where
      same_filing : (f : NodeFiling) → Copies filing ≡ Copies f → filing ≡ f
      same_filing f g = cc

  letter_out : (letter : Letter) → Among letter did.out → LetterReacts deed letter
  letter_out letter m =
      let r = sent_to own (epoch_of node) (Some (new_number own node)) (receivers own targets nodes) (File id stamp targets users octets) letter m in
      subst (LetterReacts deed) r.2 (record {
        holds = λ other o (same, is). inr (inr (record { content = content; is = refl; same_id = same; same_octets = is }));
        file = λ other us f. (content, refl, cc, cc);
        filed = λ other e. absurd (cc e);
        claims = λ k fact c. absurd c;
        speaks = λ user other s. absurd s;
        fit = (receiver_is own targets nodes r.0 r.1).0;
      })

  pub deliver_acts : IsCallDone deed
  deliver_acts = is_act own node disk did None (Some content) [] (if has targets own then updates else []) ready (store (has targets own) refl)
      (record {
        boot = refl;
        drawn = omega arith;
        ended = λ c e. subst (λ (x : Content). ends_in_crlf x.octets ≡ true) (same_content c e) closed_text;
        fresh = λ c e. subst (λ (x : Content). (x.id.node ≡ own) × (x.id.boot ≡ node.boot) × (node.drawn < x.id.seq) × (x.id.seq ≤ node.drawn + 1)) (same_content c e) (refl, refl, omega arith, omega arith);
      })
      (tickets_react own node disk did None (Some content) [] refl came (unheard own node disk ready did.out (Up did.node)))
      letter_out
