-- Whatever acts led to the transcript of the tape that ends in a map behind a regroup: node 3 is none of the members that they show, and a map that names it is refused.
use Rattle.std.proofs.Common.{◌≡◌, ◌⊎◌, inl, inr, ⊎_elim, ◌+◌, ℕ, zero, suc, Bool, true, false, not, nat_eq, List, [], ◌∷◌, ◌++◌, flat_map, Some, refl, sym, ap, ◌∙◌, subst, arith, codes, append_assoc, append-nil}
use Rattle.std.specs.Fmt.{decimal}
use Rattle.std.specs.List.{list_all}
use Rattle.std.proofs.lemmas.Bool.{and_parts}
use Rattle.std.proofs.lemmas.Option.{none-some}
use Rattle.std.proofs.lemmas.List.Concat.{flat_map-append}
use Rattle.mail_model.specs.Identity.{EpochId}
use Rattle.mail_model.specs.PopReplies.{one_line}
use Rattle.mail_model.specs.Plan.{Plan}
use Rattle.mail_model.specs.Smtp.{closing_text}
use Rattle.mail_model.specs.Tape.ClusterOrder.{Regroup}
use Rattle.mail_model.specs.Transcript.{Entry, all_of}
use Rattle.mail_model.specs.Transcript.Entry.{Event}
use Rattle.object_model.specs.Lists.{Among}
use Rattle.object_model.proofs.Lists.{among_front, among_behind}
use Rattle.session_model.specs.Acts.{Act}
use Rattle.session_model.specs.Acts.Act.{Makes}
use Rattle.session_model.specs.Events.{ClusterEvent, NodeLife, IsEventOf, event_entries, node_words, epoch_text, formed_text, maps_text}
use Rattle.session_model.specs.Events.ClusterEvent.{WentDown, CameUp, WasLost, WasHeard, WasThrown, WasDropped, HasFlowed, HasSent, HasWidened, HasGrouped, HasFormed, HasSettled, WasAbsent, HasMapped, HasTicked, HasSummed, HasFaulted}
use Rattle.session_model.specs.Run.{IsHandled, AreHandled}
use Rattle.session_model.specs.Sessions.{Session, IsSession}
use Rattle.session_model.specs.Lives.{life_after}
use Rattle.standing_model.specs.Standing.{OnDisk, HasFragment, NamesFragments}
use Rattle.fresh_sessions.specs.Acts.ShowsMembers.{ByRegroup}
use Rattle.fresh_sessions.specs.Kept.{IsRun}
use Rattle.worked_settles.specs.FreshTape.{worked_plan, told_lines, told_entries, teller, fresh_disks}
use Rattle.worked_settles.specs.MapsTape.{ToldMap}
use Rattle.worked_settles.specs.RegroupedTape.{RefusesAbsentNode, second_epoch, two_members, left_lines, left_acts, left_entries, regrouped_lines, regrouped_entries}
use Rattle.worked_settles.proofs.Behind.{AreParted, IsMoved, part_handled, one_cut, moved_line}
use Rattle.worked_settles.proofs.Calm.{begins, is_calm}
use Rattle.worked_settles.proofs.Digits.{digit_three}
use Rattle.worked_settles.proofs.Ended.{all_ended}
use Rattle.worked_settles.proofs.Formed.{none_formed, is_quiet}
use Rattle.worked_settles.proofs.FreshBack.{teller_quits, told_pass}
use Rattle.worked_settles.proofs.MapsBack.{AreDigits, TellsMap, tells_map, text_in, calm_map, other_map, spelt, words_spelt}
use Rattle.worked_settles.proofs.Passes.{passes_both, both_pass}
use Rattle.worked_settles.proofs.RegroupedEnd.{formed_spelt}
use Rattle.worked_settles.proofs.RegroupedRun.{left_outputs, left_run}
use Rattle.worked_settles.proofs.Settled.{ShowsSome, is_other, settled_behind}
use Rattle.worked_settles.proofs.Shown.{shows}
use Rattle.worked_settles.proofs.Standing.{alice}

-- the entry does not tell of an epoch
abbrev tells_none : Entry → Bool
tells_none entry = not (begins (codes "epoch ") entry)

-- what is not the digit three
abbrev is_no_three : ℕ → Bool
is_no_three c = not (nat_eq c 51)

-- what all are, one of them is
among_pass : (p : ℕ → Bool) (x : ℕ) (xs : List ℕ) → list_all p xs ≡ true → Among x xs → p x ≡ true
among_pass p x [] is among = absurd among
among_pass p x (y ∷ ys) is (inl same) = subst (λ (z : ℕ). p z ≡ true) same (and_parts (p y) (list_all p ys) is).0
among_pass p x (y ∷ ys) is (inr later) = among_pass p x ys (and_parts (p y) (list_all p ys) is).1 later

-- where node 3 is one of them its digit is in the text
digit_of_three : Among 51 (decimal 3)
digit_of_three = subst (Among 51) (sym digit_three) (inl refl)

word_of_three : (nodes : List ℕ) → Among 3 nodes → Among 51 (node_words nodes)
word_of_three [] among = absurd among
word_of_three (n ∷ nodes) (inl same) =
    among_front 51 (codes " " ++ decimal n) (node_words nodes) (among_behind 51 (codes " ") (decimal n) (subst (λ (k : ℕ). Among 51 (decimal k)) (sym same) digit_of_three))
word_of_three (n ∷ nodes) (inr later) = among_behind 51 (codes " " ++ decimal n) (node_words nodes) (word_of_three nodes later)

-- an epoch that is told as the worked one has not node 3
abbrev HasNoThird : List ℕ → Type 0
HasNoThird members = Among 3 members → ⊥

no_third : (epoch : EpochId) (members : List ℕ) → formed_text epoch members ≡ formed_text second_epoch two_members → HasNoThird members
no_third epoch members same among =
    let inside : Among 51 (formed_text epoch members) = among_behind 51 (codes "epoch " ++ epoch_text epoch ++ codes " members") (node_words members) (word_of_three members among) in
    let never : false ≡ true = among_pass is_no_three 51 (codes "epoch 2.1 members 1 2") refl (subst (Among 51) (same ∙ formed_spelt) inside) in
    cc

-- An event that forms an epoch.
record Forms (event : ClusterEvent) : Type 0 where
  pub epoch : EpochId
  pub members : List ℕ
  pub is : event ≡ HasFormed epoch members

-- what comes of a regroup, where its entries are calm
regroup_event : (plan : Plan) (lives : ℕ → NodeLife) (node : ℕ) (event : ClusterEvent) → IsEventOf plan lives (Regroup node) event → list_all is_calm (event_entries event) ≡ true → Forms event
regroup_event plan lives node (WentDown n) may is = absurd may
regroup_event plan lives node (CameUp n boot) may is = absurd may
regroup_event plan lives node (WasLost n) may is = absurd may
regroup_event plan lives node (WasHeard letter) may is = absurd may
regroup_event plan lives node (WasThrown letter why) may is = absurd may
regroup_event plan lives node (WasDropped letter) may is = absurd may
regroup_event plan lives node HasFlowed may is = absurd may
regroup_event plan lives node (HasSent count) may is = absurd may
regroup_event plan lives node (HasWidened did) may is = absurd may
regroup_event plan lives node (HasGrouped epoch) may is = absurd may
regroup_event plan lives node (HasFormed epoch members) may is = record { epoch = epoch; members = members; is = refl }
regroup_event plan lives node HasSettled may is = absurd may
regroup_event plan lives node (WasAbsent member) may is = absurd may
regroup_event plan lives node (HasMapped user told) may is = absurd may
regroup_event plan lives node HasTicked may is = absurd may
regroup_event plan lives node (HasSummed sum) may is = absurd may
regroup_event plan lives node (HasFaulted n) may is = cc

-- no fault before the settle, and nothing has settled or was formed but the one epoch
left_pass : (p : Entry → Bool) → list_all p told_entries ≡ true → list_all p (event_entries (WentDown 3) ++ event_entries (HasFormed second_epoch two_members)) ≡ true → list_all p left_entries ≡ true
left_pass p is more = both_pass p told_entries (event_entries (WentDown 3) ++ event_entries (HasFormed second_epoch two_members)) is more

left_calm : list_all is_calm left_entries ≡ true
left_calm = left_pass is_calm (told_pass is_calm refl) refl

left_other : list_all is_other left_entries ≡ true
left_other = left_pass is_other (told_pass is_other refl) refl

-- the worked session that told the messages, before the settle
teller_left : IsSession worked_plan left_lines left_entries 1 teller
teller_left = (shows worked_plan left_lines left_acts left_outputs (teller ∷ []) left_run).are.each 1 teller refl

-- The last line forms an epoch: its members are those that the transcript tells.
module _ (been crash regroup : List Act) (old new : List Session) (said_before : List (List (List Entry))) (said_down said_formed : List (List Entry))
    (handled : IsHandled worked_plan been old (codes "regroup 1") regroup said_formed new) (wrote : left_entries ≡ flat_map all_of said_before ++ (all_of said_down ++ (all_of said_formed ++ []))) where
  moved : IsMoved worked_plan been old new (Regroup 1) regroup said_formed
  moved = moved_line worked_plan been old new (codes "regroup 1") (Regroup 1) regroup said_formed handled refl

  abbrev front : List Entry
  front = flat_map all_of said_before ++ all_of said_down

  -- all that was written, in the order of the acts
  all : left_entries ≡ front ++ (event_entries moved.event ++ all_of moved.others)
  all = wrote ∙ sym (append_assoc (flat_map all_of said_before) (all_of said_down) (all_of said_formed ++ [])) ∙ ap (λ (l : List Entry). front ++ l) (append-nil (all_of said_formed))
      ∙ ap (λ (l : List (List Entry)). front ++ all_of l) moved.wrote

  forms : Forms moved.event
  forms = regroup_event worked_plan (life_after been) 1 moved.event moved.may
      (passes_both is_calm (event_entries moved.event) (all_of moved.others) (passes_both is_calm front (event_entries moved.event ++ all_of moved.others) (ap (list_all is_calm) (sym all) ∙ left_calm)).1).0

  entries_same : Event (formed_text forms.epoch forms.members) ≡ Event (formed_text second_epoch two_members)
  entries_same = one_cut tells_none front (told_entries ++ event_entries (WentDown 3)) (all_of moved.others) [] (Event (formed_text forms.epoch forms.members)) (Event (formed_text second_epoch two_members))
      (sym (all ∙ ap (λ (e : ClusterEvent). front ++ (event_entries e ++ all_of moved.others)) forms.is)
      ∙ sym (append_assoc told_entries (event_entries (WentDown 3)) (event_entries (HasFormed second_epoch two_members)))) refl
      (both_pass tells_none told_entries (event_entries (WentDown 3)) (told_pass tells_none refl) refl) refl

  lacks_third : HasNoThird forms.members
  lacks_third = no_third forms.epoch forms.members (ap (λ (e : Entry). text_in (e ∷ [])) entries_same)

  regroup_is : regroup ≡ Makes (Regroup 1) (HasFormed forms.epoch forms.members) ∷ moved.more
  regroup_is = moved.are ∙ ap (λ (e : ClusterEvent). Makes (Regroup 1) e ∷ moved.more) forms.is

  shown_by : (first : List (List Act)) → ShowsSome worked_plan HasNoThird (first ++ crash ∷ regroup ∷ [])
  shown_by first = (
    forms.members,
    ByRegroup (flat_map (λ a. a) first ++ crash) (moved.more ++ []) 1 forms.epoch
        (flat_map-append (λ a. a) first (crash ∷ regroup ∷ []) ∙ sym (append_assoc (flat_map (λ a. a) first) crash (regroup ++ []))
        ∙ ap (λ (l : List Act). (flat_map (λ a. a) first ++ crash) ++ (l ++ [])) regroup_is)
        (none_formed (moved.more ++ []) (both_pass is_quiet moved.more [] moved.quiet refl)),
    lacks_third,
  )

shows_left : (acts : List (List Act)) (said : List (List (List Entry))) (last : List Session) → AreHandled worked_plan [] [] left_lines acts said last → left_entries ≡ flat_map all_of said
    → ShowsSome worked_plan HasNoThird acts
shows_left acts said last handled wrote = by_parts (part_handled worked_plan [] [] last told_lines (codes "crash 3" ∷ codes "regroup 1" ∷ []) acts said handled)
  where
    by_parts : AreParted worked_plan [] [] last told_lines (codes "crash 3" ∷ codes "regroup 1" ∷ []) acts said → ShowsSome worked_plan HasNoThird acts
    by_parts parts = by parts.later parts.others parts.acts_are parts.outputs_are parts.follow
      where
        by : (later : List (List Act)) (others : List (List (List Entry))) → acts ≡ parts.first ++ later → said ≡ parts.said ++ others
            → AreHandled worked_plan (flat_map (λ a. a) parts.first) parts.mid (codes "crash 3" ∷ codes "regroup 1" ∷ []) later others last → ShowsSome worked_plan HasNoThird acts
        by [] [] acts_are said_are follow = absurd follow
        by [] (o ∷ others) acts_are said_are follow = absurd follow
        by (a ∷ later) [] acts_are said_are follow = absurd follow
        by (a ∷ []) (o ∷ []) acts_are said_are (mid, is, more) = absurd more
        by (a ∷ []) (o ∷ p ∷ others) acts_are said_are (mid, is, more) = absurd more
        by (a ∷ b ∷ later) (o ∷ []) acts_are said_are (mid, is, more) = absurd more
        by (a ∷ b ∷ []) (o ∷ p ∷ q ∷ others) acts_are said_are (mid, is, (next, is_too, more)) = absurd more
        by (a ∷ b ∷ c ∷ later) (o ∷ p ∷ []) acts_are said_are (mid, is, (next, is_too, more)) = absurd more
        by (a ∷ b ∷ c ∷ later) (o ∷ p ∷ q ∷ others) acts_are said_are (mid, is, (next, is_too, more)) = absurd more
        by (a ∷ b ∷ []) (o ∷ p ∷ []) acts_are said_are (mid, is, (next, is_too, more)) =
            subst (ShowsSome worked_plan HasNoThird) (sym acts_are)
            (shown_by (flat_map (λ x. x) parts.first ++ a) a b mid next parts.said o p is_too
            (wrote ∙ ap (flat_map all_of) said_are ∙ flat_map-append all_of parts.said (o ∷ p ∷ [])) parts.first)

-- the map that names node 3
abbrev wrong_map : ToldMap
wrong_map = Some (1, 1 ∷ 2 ∷ 3 ∷ [])

tells : (acts : List (List Act)) → IsRun worked_plan regrouped_lines (regrouped_entries wrong_map) acts → TellsMap regrouped_lines HasNoThird acts wrong_map
tells acts run = tells_map left_lines HasNoThird wrong_map acts
    (settled_behind worked_plan HasNoThird left_lines (codes "maps alice" ∷ []) (codes "settle") left_entries (event_entries (HasMapped alice wrong_map)) acts refl run
    (both_pass is_calm left_entries (Event (codes "settled") ∷ event_entries (HasMapped alice wrong_map)) left_calm (calm_map wrong_map)) (left_other, other_map wrong_map) shows_left
    (all_ended worked_plan left_lines left_entries teller teller_left refl refl (one_line (closing_text 1)) teller_quits))

-- the last of a list, or this where it is empty
abbrev last_of : ℕ → List ℕ → ℕ
last_of x [] = x
last_of x (y ∷ ys) = last_of y ys

last_behind : (x : ℕ) (xs : List ℕ) (y : ℕ) (ys : List ℕ) → last_of x (xs ++ y ∷ ys) ≡ last_of y ys
last_behind x [] y ys = refl
last_behind x (z ∷ xs) y ys = last_behind z xs y ys

-- where the text ends in the digit three, node 3 is named
ends_in_three : (x : ℕ) (nodes : List ℕ) → last_of x (spelt nodes) ≡ 51 → (x ≡ 51) ⊎ Among 3 nodes
ends_in_three x [] is = inl is
ends_in_three x (n ∷ nodes) is = ⊎_elim (λ same. inr (inl (omega (arith, same)))) (λ later. inr (inr later)) (ends_in_three (48 + n) nodes is)

-- nodes with disks have one digit
on_disk_digit : (n : ℕ) → OnDisk fresh_disks n (HasFragment alice) → Among n (1 ∷ 2 ∷ 3 ∷ [])
on_disk_digit zero (records, at, so) = absurd (none-some records at)
on_disk_digit (suc zero) on = inl refl
on_disk_digit (suc (suc zero)) on = inr (inl refl)
on_disk_digit (suc (suc (suc zero))) on = inr (inr (inl refl))
on_disk_digit (suc (suc (suc (suc n)))) (records, at, so) = absurd (none-some records at)

up_to_three : AreDigits (1 ∷ 2 ∷ 3 ∷ [])
up_to_three n (inl is) = omega (arith, is)
up_to_three n (inr (inl is)) = omega (arith, is)
up_to_three n (inr (inr (inl is))) = omega (arith, is)
up_to_three n (inr (inr (inr none))) = absurd none

-- the text of a map whose nodes have one digit ends as that of its last node does
last_told : (manager : ℕ) (nodes : List ℕ) → AreDigits nodes → last_of 0 (maps_text alice (Some (manager, nodes))) ≡ last_of 58 (spelt nodes)
last_told manager nodes digits =
    ap (last_of 32) (append_assoc (decimal manager) (58 ∷ []) (node_words nodes)) ∙ last_behind 32 (decimal manager) 58 (node_words nodes) ∙ ap (last_of 58) (words_spelt nodes digits)

module _ (members : List ℕ) (other : ToldMap) (names : NamesFragments fresh_disks members alice other) (same : maps_text alice wrong_map ≡ maps_text alice other) where
  digits : AreDigits names.nodes
  digits n among = up_to_three n (on_disk_digit n ((names.exact n).0 among).1)

  names_third : Among 3 members
  names_third =
      let is : last_of 58 (spelt names.nodes) ≡ 51 =
      sym (last_told names.manager names.nodes digits) ∙ ap (λ (t : ToldMap). last_of 0 (maps_text alice t)) (sym names.tells) ∙ ap (last_of 0) (sym same)
      ∙ last_told 1 (1 ∷ 2 ∷ 3 ∷ []) up_to_three in
      ((names.exact 3).0 (⊎_elim (λ never. absurd (omega (arith, never))) (λ among. among) (ends_in_three 58 names.nodes is))).0

pub absent_node_is_refused : RefusesAbsentNode
absent_node_is_refused acts run agrees =
    let t = tells acts run in
    t.claimed (names_third t.members t.other (agrees t.members alice t.other t.ends).0 t.same)
