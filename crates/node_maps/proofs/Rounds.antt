-- Letters of the three rounds, heard by the rules of the machine.
use Rattle.std.proofs.Common.{◌≡◌, inl, inr, ℕ, Bool, true, false, List, [], ◌∷◌, Option, Some, None, Ok, Err, refl, sym, ap, ◌∙◌, subst, cond}
use Rattle.mail_model.specs.Identity.{EpochId, no_epoch}
use Rattle.object_model.specs.Letters.{Claim, Membership, Letter}
use Rattle.object_model.specs.Letters.Body.{Group, Join, Install}
use Rattle.maps_model.specs.Cluster.{OpenGroup, epoch_of}
use Rattle.maps_model.specs.Rules as rules
use Rattle.maps_model.specs.Rules.{letter_to, claims_in, next_epoch}
use Rattle.maps_model.specs.Rules.HearsGroup.{Rises, Again, Old as GroupOld}
use Rattle.maps_model.specs.Rules.HearsJoin.{Above, Joins}
use Rattle.maps_model.specs.Rules.HearsInstall.{Enters as InstallEnters}
use Rattle.user_map.specs.Plain.{is_before}
use Rattle.membership.specs.Groups.{Group as Kept, node_of_group}
use Rattle.membership.specs.Rounds as rounds
use Rattle.membership.specs.Rounds.AddsJoin.{Above as IsAbove, Joins as IsAdded}
use Rattle.membership.specs.declared.fault.GroupFault.{GroupFault}
use Rattle.membership.specs.declared.fault.GroupFault.TheVariants.{OldEpoch}
use Rattle.map_rebuild.specs.Rows.{is_marked}
use Rattle.mail_map.specs.Rows.{rows_of}
use Rattle.node_maps.specs.declared.answer.Answer.{Answer}
use Rattle.node_maps.specs.declared.answer.Refusal.TheVariants.{Old}
use Rattle.node_maps.specs.declared.maps.NodeMaps.{NodeMaps}
use Rattle.node_maps.specs.Nodes.{node_of, own_of}
use Rattle.node_maps.specs.Hearing.{disk_after, group_answer, HearsBody}
use Rattle.node_maps.specs.Rounds.{OpensGroup}
use Rattle.node_maps.specs.Entering.{EntersAs}
use Rattle.node_maps.proofs.Nodes.{before_true, before_false}

-- a node with another group
abbrev pub with_group : NodeMaps → Kept → NodeMaps
with_group old g = record old { group = g }

-- an answer to a letter that was heard
abbrev pub heard_with : List Letter → Answer
heard_with letters = record { letters = letters; thrown = None }

module _ (old : NodeMaps) (letter : Letter) where
  -- the answer to a Group, by whether it is below the promise
  abbrev answer_by : EpochId → Bool → List Letter
  answer_by epoch below = cond below
      (letter_to (own_of old) (Join epoch old.group.promise old.group.boot no_epoch []) letter.from ∷ [])
      (letter_to (own_of old) (Join epoch epoch old.group.boot (epoch_of (node_of old)) (claims_in (own_of old) old.group.installed)) letter.from ∷ [])

  pub heard_group : (b : Bool) (g : Kept) (epoch : EpochId) (letters : List Letter) → rounds.HearsGroup (Ok b) epoch old.group g
      → letters ≡ group_answer old letter.from epoch → HearsBody old letter (Group epoch) (heard_with letters) (with_group old g)
  heard_group true g epoch letters h e =
      let due : cond (is_before old.group.promise epoch) (Some epoch) None ≡ Some epoch = ap (λ t. cond t (Some epoch) None) (before_true old.group.promise epoch h.0) in
      let out : letters ≡ answer_by epoch false = e ∙ ap (answer_by epoch) (before_false epoch old.group.promise (inl h.0)) in
      record {
        did = λ disk is. Rises h.0 (λ i. record { node = node_of (with_group old (h.1 i)); disk = disk_after (due i) disk; out = out i });
        thrown = inl h.0;
        own = ap (λ (k : Kept). k.own) h.1;
        held = refl;
      }
  heard_group false g epoch letters h e =
      let due : cond (is_before old.group.promise epoch) (Some epoch) None ≡ None = ap (λ t. cond t (Some epoch) None) (before_false old.group.promise epoch (inr h.0)) in
      let out : letters ≡ rules.join_letter (own_of old) (node_of old) epoch letter.from ∷ [] =
      e ∙ ap (answer_by epoch) (before_false epoch old.group.promise (inr (sym h.0))) ∙ ap (λ p. letter_to (own_of old) (Join epoch p old.group.boot (epoch_of (node_of old)) (claims_in (own_of old) old.group.installed)) letter.from ∷ []) h.0 in
      record {
        did = λ disk is. Again h.0 (λ i. record { node = node_of (with_group old (h.1 i)); disk = disk_after (due i) disk; out = out i });
        thrown = inr (sym h.0);
        own = ap (λ (k : Kept). k.own) h.1;
        held = refl;
      }

  pub old_group : (fault : GroupFault) (g : Kept) (epoch : EpochId) (letters : List Letter) → rounds.HearsGroup (Err fault) epoch old.group g
      → letters ≡ group_answer old letter.from epoch → HearsBody old letter (Group epoch) (record { letters = letters; thrown = Some Old }) (with_group old g)
  old_group OldEpoch g epoch letters h e =
      let due : cond (is_before old.group.promise epoch) (Some epoch) None ≡ None = ap (λ t. cond t (Some epoch) None) (before_false old.group.promise epoch (inl h.0)) in
      let out : letters ≡ answer_by epoch true = e ∙ ap (answer_by epoch) (before_true epoch old.group.promise h.0) in
      record {
        did = λ disk is. GroupOld h.0 (λ i. record { node = node_of (with_group old (h.1 i)); disk = disk_after (due i) disk; out = out i });
        thrown = h.0;
        own = ap (λ (k : Kept). k.own) h.1;
        held = refl;
      }
  old_group other g epoch letters h e = absurd h

  module _ (epoch promise : EpochId) (boot : ℕ) (was : EpochId) (claims : List Claim) (g : Kept) where
    pub heard_join : rounds.HearsJoin (Ok tt) epoch promise (record { member = record { node = letter.from; boot = boot; was = was }; claims = claims }) old.group g
        → HearsBody old letter (Join epoch promise boot was claims) (heard_with []) (with_group old g)
    heard_join h = by h.1
      where
        by : rounds.AddsJoin old.group epoch promise (record { member = record { node = letter.from; boot = boot; was = was }; claims = claims }) g
            → HearsBody old letter (Join epoch promise boot was claims) (heard_with []) (with_group old g)
        by (IsAbove above is) = record {
          did = λ disk held. Above h.0.group h.0.is h.0.same above (λ i. record { node = node_of (with_group old (is i)); disk = disk; out = [] });
          thrown = h.0;
          own = ap (λ (k : Kept). k.own) is;
          held = refl;
        }
        by (IsAdded group opened most is) =
            let same : h.0.group ≡ group = (let a = h.0.is in let b = opened in cc) in
            record {
              did = λ disk held. Joins group opened (sym (ap (λ (o : OpenGroup). o.epoch) same) ∙ h.0.same) most (λ i. record { node = node_of (with_group old (is i)); disk = disk; out = [] });
              thrown = h.0;
              own = ap (λ (k : Kept). k.own) is;
              held = refl;
            }

  module _ (membership : Membership) (g : Kept) where
    module _ (before : Option Membership) (new : NodeMaps) where
      pub heard_install : rounds.HearsInstall (Ok tt) membership old.group g → before ≡ old.group.installed → EntersAs before membership (with_group old g) new
          → HearsBody old letter (Install membership) (heard_with []) new
      heard_install h copied enters = by (subst (λ (k : Kept). EntersAs before membership (with_group old k) new) h.2 enters)
        where
          by : EntersAs before membership (with_group old (record old.group { installed = Some membership })) new → HearsBody old letter (Install membership) (heard_with []) new
          by e = record {
            did = λ disk is. InstallEnters h.0.0 h.0.1 h.1 (is_marked new.reports) (rows_of new.rows) (e.0.entering old.group refl (sym copied) h.1 disk is.holds)
                (λ i. record { node = node_of_group (e.1 i) (λ u. e.0.versions u i) (is_marked new.reports) (rows_of new.rows); disk = disk; out = [] });
            thrown = (h.0, h.1);
            own = ap (λ (k : Kept). k.own) e.1;
            held = e.2;
          }

-- a group that is opened
pub opens : (old : NodeMaps) (nodes : ℕ) (epoch : EpochId) (g : Kept) (letters : List Letter) → rounds.StartsGroup (Ok epoch) old.group g
    → letters ≡ (rules.start_group (own_of old) nodes (node_of old) (record { boot = 0; promise = no_epoch; holds = λ u. false })).out → OpensGroup nodes letters old (with_group old g)
opens old nodes epoch g letters h e = record {
  did = λ disk. λ i. record { node = node_of (with_group old ((sym h.1) i)); disk = record disk { promise = next_epoch (own_of old) (node_of old) }; out = (sym e) i };
  own = ap (λ (k : Kept). k.own) h.1;
  held = refl;
}
