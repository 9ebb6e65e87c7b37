-- What of a push finds room, and what the machine refuses of it.
use Rattle.std.proofs.Common.{◌≡◌, ℕ, zero, suc, ◌+◌, ◌-◌, ◌≤◌, ◌&&◌, ◌||◌, nat_le, Bool, true, false, List, [], ◌∷◌, length, Option, Some, None, refl, sym, ap, ◌∙◌, arith, if◌then◌else◌}
use Rattle.std.specs.Prelude.{nat_lt, nat_eq, not}
use Rattle.std.specs.List.{list_all}
use Rattle.std.specs.FinMap as fin
use Rattle.std.proofs.lemmas.Bool.Decides.{nat_tests}
use Rattle.mail_model.specs.Identity.{Key}
use Rattle.mail_model.specs.Plan.{Plan}
use Rattle.mail_model.specs.Record.{Record}
use Rattle.object_model.specs.Letters.{Letter}
use Rattle.cluster_model.specs.Cluster as plain
use Rattle.cluster_model.specs.Cluster.{slot_at, epoch_of}
use Rattle.cluster_model.specs.Deeds.{slot_up}
use Rattle.cluster_model.specs.Room.{Flight, octets_flying, octets_of_all, fits, fitting, due_to, keys_pushed}
use Rattle.cluster_model.specs.Rules.{push_of}
use Rattle.cluster_model.specs.World as machine
use Rattle.cluster_model.specs.Steps as steps
use Rattle.cluster_model.specs.Steps.{is_node, letters_end, slot_fault, is_worn_at, is_crowded_at, is_crowded_slot, first_fault, step_fault}
use Rattle.node_core.specs.Pushing.{first_within, keys_within}
use Rattle.cluster_world.specs.Pushes.{letters_left, octets_left, letters_left_by, octets_left_by}

-- what finds room by both counts, one after another
module _ (letter_of : Key → List Letter) where
  within_so : (most room letters octets : ℕ) (keys : List Key) → most ≡ 65536 - letters → room ≡ 536870912 - octets → octets ≤ 536870912
      → first_within letter_of most room keys ≡ fitting letter_of letters octets keys
  within_so most room letters octets [] m r few = refl
  within_so zero room letters octets (key ∷ keys) m r few =
      let none : fits letters octets (octets_of_all (letter_of key)) ≡ false = full (nat_le (octets + octets_of_all (letter_of key)) 536870912) in
      sym (ap (λ b. if b then key ∷ fitting letter_of (letters + 1) (octets + octets_of_all (letter_of key)) keys else []) none)
    where
      past : nat_lt letters 65536 ≡ false
      past = grind (arith, nat_tests)

      full : (b : Bool) → (nat_lt letters 65536 && b) ≡ false
      full b = ap (λ x. x && b) past
  within_so (suc most) room letters octets (key ∷ keys) m r few = by (nat_le size room) refl (within_so most (room - size) (letters + 1) (octets + size) keys)
    where
      size : ℕ
      size = octets_of_all (letter_of key)

      some : nat_lt letters 65536 ≡ true
      some = grind (arith, nat_tests)

      by : (b : Bool) → nat_le size room ≡ b
          → (most ≡ 65536 - (letters + 1) → room - size ≡ 536870912 - (octets + size) → octets + size ≤ 536870912
          → first_within letter_of most (room - size) keys ≡ fitting letter_of (letters + 1) (octets + size) keys)
          → (if nat_le size room then key ∷ first_within letter_of most (room - size) keys else [])
          ≡ (if fits letters octets size then key ∷ fitting letter_of (letters + 1) (octets + size) keys else [])
      by true e more =
          let fit : nat_le (octets + size) 536870912 ≡ true = grind (arith, nat_tests) in
          let within : octets + size ≤ 536870912 = grind (arith, nat_tests) in
          ap (λ b. if b then key ∷ first_within letter_of most (room - size) keys else []) e
          ∙ ap (λ (xs : List Key). key ∷ xs) (more (omega (arith, m)) (omega (arith, r)) within)
          ∙ sym (ap (λ b. if b then key ∷ fitting letter_of (letters + 1) (octets + size) keys else []) fit)
          ∙ sym (ap (λ b. if b && nat_le (octets + size) 536870912 then key ∷ fitting letter_of (letters + 1) (octets + size) keys else []) some)
      by false e more =
          let none : nat_le (octets + size) 536870912 ≡ false = grind (arith, nat_tests) in
          ap (λ b. if b then key ∷ first_within letter_of most (room - size) keys else []) e
          ∙ sym (ap (λ b. if b then key ∷ fitting letter_of (letters + 1) (octets + size) keys else []) none)
          ∙ sym (ap (λ b. if b && nat_le (octets + size) 536870912 then key ∷ fitting letter_of (letters + 1) (octets + size) keys else []) some)

pub within_is_fitting : (letter_of : Key → List Letter) (letters octets : ℕ) (keys : List Key) → first_within letter_of (letters_left letters octets) (octets_left octets) keys ≡ fitting letter_of letters octets keys
within_is_fitting letter_of letters octets keys = by (nat_le octets 536870912) refl
  where
    none : (keys : List Key) → nat_le octets 536870912 ≡ false → first_within letter_of 0 (octets_left octets) keys ≡ fitting letter_of letters octets keys
    none [] e = refl
    none (key ∷ keys) e =
        let past : nat_le (octets + octets_of_all (letter_of key)) 536870912 ≡ false = grind (arith, nat_tests) in
        let full : fits letters octets (octets_of_all (letter_of key)) ≡ false = ap (λ b. nat_lt letters 65536 && b) past ∙ never (nat_lt letters 65536) in
        sym (ap (λ b. if b then key ∷ fitting letter_of (letters + 1) (octets + octets_of_all (letter_of key)) keys else []) full)
      where
        never : (b : Bool) → (b && false) ≡ false
        never true = refl
        never false = refl

    by : (b : Bool) → nat_le octets 536870912 ≡ b → first_within letter_of (letters_left letters octets) (octets_left octets) keys ≡ fitting letter_of letters octets keys
    by true e =
        ap (λ b. first_within letter_of (if b then 65536 - letters else 0) (octets_left octets) keys) e
        ∙ within_so letter_of (65536 - letters) (octets_left octets) letters octets keys refl refl (grind (arith, nat_tests))
    by false e = ap (λ b. first_within letter_of (if b then 65536 - letters else 0) (octets_left octets) keys) e ∙ none keys e

-- so the machine pushes the same keys
pub keys_same : (flights : List Flight) (own to : ℕ) (node : plain.Node) (records : List Record)
    → keys_within (letters_left_by flights) (octets_left_by flights) own to node records ≡ keys_pushed flights own to node records
keys_same flights own to node records =
    within_is_fitting (λ key. push_of own to (epoch_of node) records key (fin.get node.log key)) (length flights) (octets_flying flights) (due_to own to node)

-- What the machine refuses.
module _ (plan : Plan) (w : machine.World) (n to : ℕ) (node : plain.Node) (disk : List Record) (named : list_all (is_node plan) (n ∷ to ∷ []) ≡ true) (here : slot_at w.slots n ≡ Some (slot_up node disk)) where
  abbrev Worns : Bool → Option steps.StepFault
  Worns b = if b || is_worn_at plan w.seconds (steps.Step.PushTo n to) (slot_at w.slots n) then Some steps.StepFault.Worn else None

  abbrev Rooms : Bool → Option steps.StepFault
  Rooms b = if b then Some steps.StepFault.NoRoom else None

  fault_is : (b c : Bool) → nat_le letters_end w.sent ≡ b → is_crowded_slot w.flying n to (slot_up node disk) (plain.Life.Up node) ≡ c
      → step_fault plan (steps.Step.PushTo n to) w ≡ first_fault (None ∷ None ∷ None ∷ Worns b ∷ Rooms c ∷ [])
  fault_is b c e f = firsts _ _ _ _
      (ap (λ x. if x then None else Some steps.StepFault.NoSuchNode) named)
      (ap (slot_fault (steps.Step.PushTo n to)) here)
      (ap Worns e)
      (ap Rooms (ap (is_crowded_at w.flying n to) here ∙ f))
    where
      firsts : (x y z t : Option steps.StepFault) → x ≡ None → y ≡ None → z ≡ Worns b → t ≡ Rooms c
          → first_fault (x ∷ y ∷ None ∷ z ∷ t ∷ []) ≡ first_fault (None ∷ None ∷ None ∷ Worns b ∷ Rooms c ∷ [])
      firsts x y z t p q r s = rw (p, q, r, s) refl

  not_worn : (c : Bool) → first_fault (None ∷ None ∷ None ∷ Worns false ∷ Rooms c ∷ []) ≡ first_fault (None ∷ None ∷ None ∷ None ∷ Rooms c ∷ [])
  not_worn c = ap (λ o. first_fault (None ∷ None ∷ None ∷ (if is_worn_at plan w.seconds (steps.Step.PushTo n to) o then Some steps.StepFault.Worn else None) ∷ Rooms c ∷ [])) here

  pub push_goes : nat_le letters_end w.sent ≡ false → is_crowded_slot w.flying n to (slot_up node disk) (plain.Life.Up node) ≡ false → step_fault plan (steps.Step.PushTo n to) w ≡ None
  push_goes early some = fault_is false false early some ∙ not_worn false

  pub push_is_crowded : nat_le letters_end w.sent ≡ false → is_crowded_slot w.flying n to (slot_up node disk) (plain.Life.Up node) ≡ true → step_fault plan (steps.Step.PushTo n to) w ≡ Some steps.StepFault.NoRoom
  push_is_crowded early full = fault_is false true early full ∙ not_worn true

  pub push_is_worn : (c : Bool) → nat_le letters_end w.sent ≡ true → is_crowded_slot w.flying n to (slot_up node disk) (plain.Life.Up node) ≡ c → step_fault plan (steps.Step.PushTo n to) w ≡ Some steps.StepFault.Worn
  push_is_worn c late f = fault_is true c late f

-- a plan of one node has nobody to push to
pub alone : (own to : ℕ) (node : plain.Node) → to ≡ own → due_to own to node ≡ []
alone own to node same = by (Rattle.object_model.specs.Sets.has (plain.members_of node) to)
  where
    equal : nat_eq to own ≡ true
    equal = grind (arith, nat_tests)

    by : (b : Bool) → (if b && not (nat_eq to own) then Rattle.object_model.specs.UpdateLog.due node.log to 64 else []) ≡ []
    by true = ap (λ x. if true && not x then Rattle.object_model.specs.UpdateLog.due node.log to 64 else []) equal
    by false = refl

pub none_long : {X : Type 0} (xs : List X) → length xs ≡ 0 → xs ≡ []
none_long [] e = refl
none_long (x ∷ xs) e = absurd (omega (arith, e))
