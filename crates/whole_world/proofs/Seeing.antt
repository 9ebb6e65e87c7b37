-- What messages and maps see of a world once a node has done something for membership and maps.
use Rattle.std.proofs.Common.{◌≡◌, ◌⊎◌, inl, inr, ⊎_elim, ℕ, zero, suc, ◌+◌, Bool, true, false, List, [], ◌∷◌, ◌++◌, map, reverse, flat_map, Option, None, refl, sym, ap, ◌∙◌, subst, nat_eq, if◌then◌else◌}
use Rattle.std.proofs.lemmas.List.{reverse-append}
use Rattle.mail_model.specs.Identity.{EpochId}
use Rattle.mail_model.specs.Record.{Record}
use Rattle.object_model.specs.Lists.{Among}
use Rattle.object_model.specs.Letters.{Membership, Body, Letter}
use Rattle.object_model.specs.Letters.Body.{Group, Join, Install, Report, ReportAck}
use Rattle.object_model.specs.Mishaps.MishapKind.{Crowded}
use Rattle.object_model.proofs.Lists.{among_either, among_last}
use Rattle.cluster_model.specs.Cluster as mail_cluster
use Rattle.cluster_model.specs.Rules as mail_rules
use Rattle.cluster_model.specs.Forms as mail_forms
use Rattle.cluster_model.specs.Room.{has_room}
use Rattle.cluster_model.specs.World as mail
use Rattle.cluster_model.specs.World.{letters_of}
use Rattle.cluster_model.specs.Makes as mail_makes
use Rattle.cluster_model.proofs.HearLogs.{among_flat}
use Rattle.cluster_model.proofs.Filing.{among_map}
use Rattle.cluster_model.proofs.Stepping.{letters_both}
use Rattle.maps_model.specs.Cluster as maps
use Rattle.maps_model.specs.Rules as maps_rules
use Rattle.maps_model.specs.Rules.HearsGroup.{Rises, Again, Old as OldGroup}
use Rattle.maps_model.specs.Rules.HearsJoin.{Late, Above, Joins}
use Rattle.maps_model.specs.Rules.HearsInstall.{Old as OldInstall, NotPromised, NotMember, Enters}
use Rattle.maps_model.specs.Rules.HearsReport.{Stale as StaleReport, Takes, Older}
use Rattle.maps_model.specs.Rules.HearsAck.{Stale as StaleAck, Clears, Other}
use Rattle.whole_model.specs.Whole.{Node, Slot, with_slot, mail_slot, maps_slot}
use Rattle.whole_model.specs.Rules.{IsMapsBody, promise_records}
use Rattle.whole_model.proofs.Seen.{set_seen}
use Rattle.whole_world.specs.World.{World, mail_world_of, slot_up, Reaction, put, after, cut_world}
use Rattle.whole_world.specs.Makes.{done_for_maps}

-- a letter of membership or maps, which has no ticket
abbrev pub IsPlainMaps : Letter → Type 0
IsPlainMaps letter = mail_forms.IsPlainMaps letter

pub mail_set : (slots : List Slot) (n : ℕ) (slot : Slot) → map mail_slot (with_slot slots n slot) ≡ mail_cluster.with_slot (map mail_slot slots) n (mail_slot slot)
mail_set slots zero slot = refl
mail_set slots (suc k) slot = set_seen mail_slot slots k slot

pub maps_set : (slots : List Slot) (n : ℕ) (slot : Slot) → map maps_slot (with_slot slots n slot) ≡ maps.with_slot (map maps_slot slots) n (maps_slot slot)
maps_set slots zero slot = refl
maps_set slots (suc k) slot = set_seen maps_slot slots k slot

-- letters without tickets are put in flight as messages see it
pub put_seen : (letters : List Letter) → ((letter : Letter) → Among letter letters → letter.ticket ≡ None) → (w : World) → mail_world_of (put letters w) ≡ mail.put has_room letters (mail_world_of w)
put_seen [] none w = refl
put_seen (letter ∷ letters) none w = by (λ v. put_seen letters (λ one m. none one (inr m)) v) (has_room w.flying letter)
  where
    unchanged : mail.missed Crowded (mail_world_of w).slots letter ≡ (mail_world_of w).slots
    unchanged = ap (mail.missed_under Crowded (mail_world_of w).slots letter) (none letter (inl refl))

    flown : World
    flown = record w { flying = w.flying ++ record { number = w.sent + 1; letter = letter } ∷ []; sent = w.sent + 1 }

    by : ((v : World) → mail_world_of (put letters v) ≡ mail.put has_room letters (mail_world_of v)) → (b : Bool)
        → mail_world_of (if b then put letters flown else put letters w)
        ≡ (if b then mail.put has_room letters (mail_world_of flown) else mail.put has_room letters (record (mail_world_of w) { slots = mail.missed Crowded (mail_world_of w).slots letter }))
    by rest true = rest flown
    by rest false = rest w ∙ ap (λ (s : List mail_cluster.Slot). mail.put has_room letters (record (mail_world_of w) { slots = s })) (sym unchanged)

-- and leave the slots alone
pub put_slots : (letters : List Letter) (w : World) → (put letters w).slots ≡ w.slots
put_slots [] w = refl
put_slots (letter ∷ letters) w = by (λ v. put_slots letters v) (has_room w.flying letter)
  where
    flown : World
    flown = record w { flying = w.flying ++ record { number = w.sent + 1; letter = letter } ∷ []; sent = w.sent + 1 }

    by : ((v : World) → (put letters v).slots ≡ v.slots) → (b : Bool) → (λ (v : World). v.slots) (if b then put letters flown else put letters w) ≡ w.slots
    by rest true = rest flown
    by rest false = rest w

pub put_among : (letters : List Letter) (w : World) (one : Letter) → Among one (letters_of (put letters w).flying) → Among one (letters_of w.flying) ⊎ Among one letters
put_among [] w one m = inl m
put_among (letter ∷ letters) w one m = by (λ v k. put_among letters v one k) (has_room w.flying letter) m
  where
    flown : World
    flown = record w { flying = w.flying ++ record { number = w.sent + 1; letter = letter } ∷ []; sent = w.sent + 1 }

    by : ((v : World) → Among one (letters_of (put letters v).flying) → Among one (letters_of v.flying) ⊎ Among one letters) → (b : Bool)
        → Among one (letters_of ((λ (v : World). v.flying) (if b then put letters flown else put letters w))) → Among one (letters_of w.flying) ⊎ Among one (letter ∷ letters)
    by rest true k = ⊎_elim
        (λ stood. ⊎_elim (λ old. inl old) (λ is. inr (inl is))
        (among_last one (letters_of w.flying) letter (subst (Among one) (letters_both w.flying (record { number = w.sent + 1; letter = letter } ∷ [])) stood)))
        (λ more. inr (inr more))
        (rest flown k)
    by rest false k = ⊎_elim (λ old. inl old) (λ more. inr (inr more)) (rest w k)

-- what messages see of such a reaction
abbrev pub mail_did : Node → List Record → Option Membership → Option EpochId → List Letter → mail_rules.Reaction
mail_did node disk installed promise out = record { node = record node.mail { installed = installed }; disk = disk ++ promise_records promise; out = out }

pub after_seen : (x : World) (own : ℕ) (node : Node) (disk : List Record) (did : maps_rules.Reaction) (promise : Option EpochId) (out : List Letter) → ((letter : Letter) → Among letter out → IsPlainMaps letter)
    → mail_world_of (after x own (done_for_maps node disk did promise out)) ≡ mail_makes.after (mail_world_of x) own (mail_did node disk did.node.installed promise out)
after_seen x own node disk did promise out plain = put_seen out (λ letter m. (plain letter m).ticket) (record x { slots = with_slot x.slots own (slot_up now.node now.disk) })
    ∙ ap (λ (s : List mail_cluster.Slot). mail.put has_room out (record (mail_world_of x) { slots = s })) (mail_set x.slots own (slot_up now.node now.disk))
  where
    now : Reaction
    now = done_for_maps node disk did promise out

pub cut_seen : (w : World) (n : ℕ) (disk front pending : List Record) → mail_world_of (cut_world w n disk front pending) ≡ mail_makes.cut_world (mail_world_of w) n disk front pending
cut_seen w n disk front pending = ap (λ (s : List mail_cluster.Slot). record (mail_world_of (cut_world w n disk front pending)) { slots = s }) (mail_set w.slots n _)

-- what the rules of membership and maps send
one_maps : (one letter : Letter) → IsPlainMaps one → Among letter (one ∷ []) → IsPlainMaps letter
one_maps one letter p m = ⊎_elim (λ e. subst IsPlainMaps e p) (λ none. absurd none) m

pub group_sends : (own nodes : ℕ) (node : maps.Node) (disk : maps.Disk) (letter : Letter) → Among letter (maps_rules.start_group own nodes node disk).out → IsPlainMaps letter
group_sends own nodes node disk letter m =
    let r = among_map (maps_rules.letter_to own (Group (maps_rules.next_epoch own node))) letter (maps_rules.others own nodes) m in
    subst IsPlainMaps r.2 (record { body = tt; ticket = refl })

pub among_reverse : {X : Type 0} (x : X) (xs : List X) → Among x (reverse xs) → Among x xs
among_reverse x [] m = m
among_reverse x (y ∷ ys) m = ⊎_elim
    (λ front. inr (among_reverse x ys front))
    (λ last. ⊎_elim (λ e. inl e) (λ none. absurd none) last)
    (among_either x (reverse ys) (y ∷ []) (subst (Among x) (reverse-append (y ∷ []) ys) m))

pub conclude_sends : (own buckets : ℕ) (node : maps.Node) (disk : maps.Disk) (did : maps_rules.Reaction) → maps_rules.Concludes own buckets node disk did → (letter : Letter) → Among letter did.out → IsPlainMaps letter
conclude_sends own buckets node disk did c letter m = all c.group.joins (subst (λ (r : maps_rules.Reaction). Among letter r.out) c.is m)
  where
    install : Membership
    install = maps_rules.membership_of c.group c.rows

    all : (joins : List maps.Joined)
        → Among letter (flat_map (λ join. if nat_eq join.member.node own then [] else maps_rules.letter_to own (Install (maps_rules.membership_of c.group c.rows)) join.member.node ∷ []) joins) → IsPlainMaps letter
    all joins k = let f = among_flat (λ join. if nat_eq join.member.node own then [] else maps_rules.letter_to own (Install (maps_rules.membership_of c.group c.rows)) join.member.node ∷ []) letter joins k in by f.0 (nat_eq f.0.member.node own) f.1
      where
        by : (join : maps.Joined) (b : Bool) → Among letter (if b then [] else maps_rules.letter_to own (Install (maps_rules.membership_of c.group c.rows)) join.member.node ∷ []) → IsPlainMaps letter
        by join true t = absurd t
        by join false t = one_maps (maps_rules.letter_to own (Install install) join.member.node) letter (record { body = tt; ticket = refl }) t

pub report_sends : (own to : ℕ) (users : List (List ℕ)) (node : maps.Node) (disk : maps.Disk) (did : maps_rules.Reaction) → maps_rules.Reports own to users node disk did → (letter : Letter) → Among letter did.out → IsPlainMaps letter
report_sends own to users node disk did r letter m =
    let k = among_map (λ user. record { from = own; to = to; epoch = r.membership.epoch; ticket = None; body = Report (maps_rules.own_row own node disk user) }) letter users
    (subst (λ (x : maps_rules.Reaction). Among letter x.out) r.is m) in
    subst IsPlainMaps k.2 (record { body = tt; ticket = refl })

module _ (own : ℕ) (node : maps.Node) (disk : maps.Disk) (letter : Letter) (did : maps_rules.Reaction) (one : Letter) where
  sent_by : (r : maps_rules.Reaction) → did ≡ r → Among one did.out → Among one r.out
  sent_by r e m = subst (λ (x : maps_rules.Reaction). Among one x.out) e m

  pub hear_sends : (body : Body) → IsMapsBody body → maps_rules.Hears own node disk letter body did → Among one did.out → IsPlainMaps one
  hear_sends (Group epoch) of (Rises b e) m = one_maps _ one (record { body = tt; ticket = refl }) (sent_by _ e m)
  hear_sends (Group epoch) of (Again b e) m = one_maps _ one (record { body = tt; ticket = refl }) (sent_by _ e m)
  hear_sends (Group epoch) of (OldGroup b e) m = one_maps _ one (record { body = tt; ticket = refl }) (sent_by _ e m)
  hear_sends (Join epoch promise boot was claims) of (Late n e) m = absurd (sent_by _ e m)
  hear_sends (Join epoch promise boot was claims) of (Above g a b c e) m = absurd (sent_by _ e m)
  hear_sends (Join epoch promise boot was claims) of (Joins g a b c e) m = absurd (sent_by _ e m)
  hear_sends (Install g) of (OldInstall w e) m = absurd (sent_by _ e m)
  hear_sends (Install g) of (NotPromised w e) m = absurd (sent_by _ e m)
  hear_sends (Install g) of (NotMember w e) m = absurd (sent_by _ e m)
  hear_sends (Install g) of (Enters a b c marked rows entering e) m = absurd (sent_by _ e m)
  hear_sends (Report row) of (StaleReport n e) m = absurd (sent_by _ e m)
  hear_sends (Report row) of (Takes g a b c e) m = one_maps _ one (record { body = tt; ticket = refl }) (sent_by _ e m)
  hear_sends (Report row) of (Older g a b s c d e) m = one_maps _ one (record { body = tt; ticket = refl }) (sent_by _ e m)
  hear_sends (ReportAck user version) of (StaleAck n e) m = absurd (sent_by _ e m)
  hear_sends (ReportAck user version) of (Clears g a b c e) m = absurd (sent_by _ e m)
  hear_sends (ReportAck user version) of (Other g a b c e) m = absurd (sent_by _ e m)
  hear_sends body of h m = absurd of
