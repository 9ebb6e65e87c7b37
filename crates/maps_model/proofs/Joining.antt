-- That a node's rules on Joins and on installing are acts of the machine.
use Rattle.std.proofs.Common.{◌<◌, ◌≡◌, ◌≢◌, ◌⊎◌, inl, inr, ⊎_elim, ℕ, max, Bool, true, false, List, [], ◌∷◌, map, Option, Some, None, refl, sym, ap, ◌∙◌, subst, arith, nat_eq, nat_lt, if◌then◌else◌}
use Rattle.std.proofs.lemmas.Bool.Decides.{nat_tests}
use Rattle.mail_model.specs.Identity.{EpochId}
use Rattle.object_model.specs.Letters.{Claim, Member, Letter}
use Rattle.object_model.specs.Lists.{Among}
use Rattle.maps_model.specs.Epochs.{IsBefore}
use Rattle.maps_model.specs.Cluster.{Joined, OpenGroup, Node, Disk, epoch_of, member_of, NamesNode}
use Rattle.object_model.specs.Letters.Body.{Join}
use Rattle.maps_model.specs.Moves.{NodeInOrder, IsAct}
use Rattle.maps_model.specs.Rules.{Reaction, idle, with_join, HearsJoin}
use Rattle.maps_model.specs.Rules.HearsJoin.{Late, Above, Joins}
use Rattle.maps_model.specs.NodeLaws.{act_of}
use Rattle.maps_model.proofs.Lists.{among_one, same_or_apart}
use Rattle.maps_model.proofs.Making.{same_maps, membership_from, had, acts, idles, rests}
use Rattle.maps_model.proofs.Grouping.{some_same}

neither : (a b : ℕ) → nat_lt a b ≡ false → nat_lt b a ≡ false → a ≡ b
neither a b e f = grind (arith, nat_tests, e, f)

passes : (member : Member) (own : ℕ) (rest : Option Member) → member.node ≢ own → (if nat_eq member.node own then Some member else rest) ≡ rest
passes member own rest apart = ⊎_elim (λ h. absurd (apart h.1)) (λ h. ap (λ t. if t then Some member else rest) h.0) (same_or_apart member.node own)

-- a join of another node leaves what was found of this one
pub found_still : (own : ℕ) (new : Joined) (olds : List Joined) → new.member.node ≢ own → member_of (map (λ join. join.member) (with_join new olds)) own ≡ member_of (map (λ join. join.member) olds) own
found_still own new [] apart = ⊎_elim (λ h. absurd (apart h.1)) (λ h. ap (λ t. if t then Some new.member else None) h.0) (same_or_apart new.member.node own)
found_still own new (old ∷ olds) apart =
    by (nat_lt new.member.node old.member.node) (nat_lt old.member.node new.member.node) (nat_lt old.member.boot new.member.boot) (λ rest. passes new.member own rest apart) (found_still own new olds apart) refl refl
  where
    by : (a b c : Bool) → ((rest : Option Member) → (if nat_eq new.member.node own then Some new.member else rest) ≡ rest)
        → member_of (map (λ join. join.member) (with_join new olds)) own ≡ member_of (map (λ join. join.member) olds) own
        → nat_lt new.member.node old.member.node ≡ a → nat_lt old.member.node new.member.node ≡ b
        → member_of (map (λ join. join.member) (if a then new ∷ old ∷ olds else if b then old ∷ with_join new olds else if c then new ∷ olds else old ∷ olds)) own
        ≡ member_of (map (λ join. join.member) (old ∷ olds)) own
    by true b c skip rest e f = skip (member_of (map (λ join. join.member) (old ∷ olds)) own)
    by false true c skip rest e f = ap (λ x. if nat_eq old.member.node own then Some old.member else x) rest
    by false false true skip rest e f =
        let other : old.member.node ≢ own = λ h. apart (neither new.member.node old.member.node e f ∙ h) in
        skip (member_of (map (λ join. join.member) olds) own) ∙ sym (passes old.member own (member_of (map (λ join. join.member) olds) own) other)
    by false false false skip rest e f = refl

-- who has joined: the one that joins, or one that had
pub join_among : (join new : Joined) (olds : List Joined) → Among join (with_join new olds) → (new ≡ join) ⊎ Among join olds
join_among join new [] m = inl (among_one join new m)
join_among join new (old ∷ olds) m =
    by (nat_lt new.member.node old.member.node) (nat_lt old.member.node new.member.node) (nat_lt old.member.boot new.member.boot) (λ rest. join_among join new olds rest) m
  where
    by : (a b c : Bool) → (Among join (with_join new olds) → (new ≡ join) ⊎ Among join olds)
        → Among join (if a then new ∷ old ∷ olds else if b then old ∷ with_join new olds else if c then new ∷ olds else old ∷ olds) → (new ≡ join) ⊎ Among join (old ∷ olds)
    by true b c rest m = ⊎_elim (λ e. inl e) (λ x. inr x) m
    by false true c rest m = ⊎_elim (λ e. inr (inl e)) (λ x. ⊎_elim (λ e. inl e) (λ y. inr (inr y)) (rest x)) m
    by false false true rest m = ⊎_elim (λ e. inl e) (λ x. inr (inr x)) m
    by false false false rest m = inr m

module _ (own : ℕ) (node : Node) (disk : Disk) (letter : Letter) (came : letter.from ≢ own) (o : NodeInOrder own node disk) where
  -- a Join is added
  joins_in : (epoch promise : EpochId) (boot : ℕ) (was : EpochId) (claims : List Claim) → letter.body ≡ Join epoch promise boot was claims
      → (group : OpenGroup) → node.group ≡ Some group → group.epoch ≡ epoch
      → IsAct (act_of own node disk (idle (record node {
        group = Some (record group { joins = with_join (record { member = record { node = letter.from; boot = boot; was = was }; claims = claims }) group.joins });
      }) disk) (Some letter))
  joins_in epoch promise boot was claims body group opened same =
      let new : Joined = record { member = record { node = letter.from; boot = boot; was = was }; claims = claims } in
      let grown : OpenGroup = record group { joins = with_join new group.joins } in
      let did : Reaction = idle (record node { group = Some grown }) disk in
      let names = o.joined group opened in
      acts own node disk did (Some letter)
      (record {
        booted = o.booted;
        promised = o.promised;
        heard = o.heard;
        installed = o.installed;
        group = λ one h. subst (λ (x : OpenGroup). (x.epoch ≡ node.promise) × (x.epoch.node ≡ own) × IsBefore (epoch_of node) x.epoch) (some_same grown one h) (o.group group opened);
        counted = λ one h. subst (λ (x : OpenGroup). 0 < x.epoch.count) (some_same grown one h) (o.counted group opened);
        joined = λ one h. subst (λ (x : OpenGroup). NamesNode (record { epoch = x.epoch; members = map (λ join. join.member) x.joins; map = [] }) own node.boot) (some_same grown one h)
            (record { member = names.member; is = found_still own new group.joins came ∙ names.is; same = names.same });
      })
      (omega arith) (inr refl) refl (inl refl)
      (membership_from own node disk did (Some letter) (had own node disk did (Some letter) refl)
      (λ one h. inl (record { old = node; is = refl; group = group; opened = opened; same = ap (λ (x : OpenGroup). x.epoch) (some_same grown one h) }))
      (λ one h join m. ⊎_elim
      (λ mine. inr (inr (record {
        letter = letter;
        is = refl;
        holds = record {
          promise = promise;
          claims = claims;
          from = ap (λ (y : Joined). y.member.node) mine;
          is = body ∙ (λ i. Join ((sym same ∙ ap (λ (x : OpenGroup). x.epoch) (some_same grown one h)) i) promise (mine i).member.boot (mine i).member.was claims);
        };
      })))
      (λ old. inl (record { old = node; is = refl; group = group; opened = opened; same = ap (λ (x : OpenGroup). x.epoch) (some_same grown one h); inside = old }))
      (join_among join new group.joins (subst (λ (x : OpenGroup). Among join x.joins) (sym (some_same grown one h)) m)))
      (λ one m g h. absurd m)
      (λ one m. absurd m)
      (λ one m. absurd m))
      (same_maps own node disk did (Some letter) refl (λ m boot user. refl) (λ user. refl) (λ user. refl) (λ user. refl)
      (λ one m user boot row h. absurd m)
      (λ one m user version h. absurd m))

  pub hears_join : (epoch promise : EpochId) (boot : ℕ) (was : EpochId) (claims : List Claim) → letter.body ≡ Join epoch promise boot was claims → (did : Reaction)
      → HearsJoin node disk letter.from epoch promise boot was claims did → IsAct (act_of own node disk did (Some letter))
  hears_join epoch promise boot was claims body did (Late none e) = subst (λ d. IsAct (act_of own node disk d (Some letter))) (sym e) (rests own node disk (Some letter) [] o (λ one m. absurd m))
  hears_join epoch promise boot was claims body did (Above group opened same above e) =
      subst (λ d. IsAct (act_of own node disk d (Some letter))) (sym e) (idles own node disk (Some letter) (max node.heard promise.count) [] o (omega arith) (λ one m. absurd m))
  hears_join epoch promise boot was claims body did (Joins group opened same most e) =
      subst (λ d. IsAct (act_of own node disk d (Some letter))) (sym e) (joins_in epoch promise boot was claims body group opened same)
