-- A call begins at a node that is up: how the machine begins it.
use Rattle.std.proofs.Common.{◌≡◌, ℕ, zero, suc, nat_le, Bool, true, false, ◌||◌, List, [], ◌∷◌, ◌++◌, append-nil, length, Some, None, refl, sym, ap, ◌∙◌, subst, arith, if◌then◌else◌}
use Rattle.std.specs.Prelude.{slice_index_or}
use Rattle.std.specs.List.{list_all}
use Rattle.mail_model.specs.Lines.{ends_in_crlf}
use Rattle.mail_model.specs.Plan.{Plan}
use Rattle.mail_model.specs.Record.{Record}
use Rattle.object_model.specs.Letters.{Number}
use Rattle.cluster_model.specs.Cluster as plain
use Rattle.cluster_model.specs.Cluster.{Slot, slot_at}
use Rattle.cluster_model.specs.Cluster.Life.{Up}
use Rattle.cluster_model.specs.World.{World}
use Rattle.cluster_model.specs.Steps.{NodeCall, is_node, slot_fault, life_fault, letters_end, is_worn_for, is_worn_at, step_fault, nodes_of_call}
use Rattle.cluster_model.specs.Steps.NodeCall.{Deliver, Login, Fetch, Strike, Leave}
use Rattle.cluster_model.specs.Steps.Step.{Begin}
use Rattle.cluster_model.specs.Steps.StepFault.{Worn, NoSuchNode}
use Rattle.cluster_model.specs.Makes.{IsFiled, begun_by, with_struck, kind_of_call}
use Rattle.node_core.specs.Beginning.{at_second, call_seen}
use Rattle.call_tickets.specs.declared.call.Call.{Call}
use Rattle.call_tickets.specs.declared.call.Call.TheVariants as kind
use Rattle.cluster_world.specs.Begins.{strikes_of_call}
use Rattle.cluster_world.specs.Steps.{BeginsSo}
use Rattle.cluster_world.specs.declared.step.Said.TheVariants as said
use Rattle.cluster_world.proofs.Refusing.{none_at_all, fourth_fault}

-- the last two octets are CRLF
pub crlf_at : (xs : List ℕ) (k : ℕ) → suc (suc k) ≡ length xs → slice_index_or xs k 0 ≡ 13 → slice_index_or xs (suc k) 0 ≡ 10 → ends_in_crlf xs ≡ true
crlf_at [] k e a b = absurd (omega (arith, e))
crlf_at (x ∷ []) k e a b = absurd (omega (arith, e))
crlf_at (x ∷ y ∷ []) zero e a b = rw (a, b) refl
crlf_at (x ∷ y ∷ []) (suc k) e a b = absurd (omega (arith, e))
crlf_at (x ∷ y ∷ z ∷ zs) zero e a b = absurd (omega (arith, e))
crlf_at (x ∷ y ∷ z ∷ zs) (suc k) e a b = crlf_at (y ∷ z ∷ zs) k (omega (arith, e)) a b

-- a world whose book has what the call is to delete
abbrev pub struck_world : World → NodeCall → World
struck_world w call = record w { book = w.book ++ strikes_of_call call }

pub with_struck_is : (w : World) (call : NodeCall) → with_struck w call ≡ struck_world w call
with_struck_is w (Deliver mail) = ap (λ b. record w { book = b }) (sym (append-nil w.book))
with_struck_is w (Login user proof) = ap (λ b. record w { book = b }) (sym (append-nil w.book))
with_struck_is w (Fetch user id from most holders) = ap (λ b. record w { book = b }) (sym (append-nil w.book))
with_struck_is w (Strike user items) = refl
with_struck_is w (Leave user login manager) = ap (λ b. record w { book = b }) (sym (append-nil w.book))

-- what a call does depends on the seconds of the world alone
pub filed_in : (w : World) (own : ℕ) (node : plain.Node) (call : NodeCall) (octets : List ℕ) → IsFiled (at_second w.seconds) own node call octets → IsFiled w own node call octets
filed_in w own node (Deliver mail) octets filed = filed
filed_in w own node (Login user proof) octets filed = filed
filed_in w own node (Fetch user id from most holders) octets filed = filed
filed_in w own node (Strike user items) octets filed = filed
filed_in w own node (Leave user login manager) octets filed = filed

pub begun_in : (plan : Plan) (w : World) (own : ℕ) (node : plain.Node) (disk : List Record) (call : NodeCall) (octets : List ℕ)
    → begun_by plan w own node disk call octets ≡ begun_by plan (at_second w.seconds) own node disk call octets
begun_in plan w own node disk (Deliver mail) octets = refl
begun_in plan w own node disk (Login user proof) octets = refl
begun_in plan w own node disk (Fetch user id from most holders) octets = refl
begun_in plan w own node disk (Strike user items) octets = refl
begun_in plan w own node disk (Leave user login manager) octets = refl

-- a call that files has a kind
pub filed_kind : (w : World) (own : ℕ) (node : plain.Node) (call : NodeCall) (octets : List ℕ) → IsFiled w own node call octets → kind_of_call call ≡ None → ⊥
filed_kind w own node (Deliver mail) octets filed e = let never : Some plain.CallKind.Delivering ≡ None = e in cc
filed_kind w own node (Login user proof) octets filed e = filed
filed_kind w own node (Fetch user id from most holders) octets filed e = filed
filed_kind w own node (Strike user items) octets filed e = let never : Some plain.CallKind.Striking ≡ None = e in cc
filed_kind w own node (Leave user login manager) octets filed e = filed

-- what a call says that has a ticket of its node, or none
pub begun_so : (call : Call) (own : ℕ) (ticket : Number) → ticket.node ≡ own → (kind_of_call (call_seen call) ≡ None → ⊥) → BeginsSo call own (said.Begun ticket 0)
begun_so (kind.Deliver deliver) own ticket e some = (e, refl)
begun_so (kind.Login user proof) own ticket e some = (e, refl)
begun_so (kind.Fetch user id holders from most) own ticket e some = (e, refl)
begun_so (kind.Strike user items) own ticket e some = (e, refl)
begun_so (kind.Leave user login manager) own ticket e some = some refl

pub fault_so : (call : Call) (own : ℕ) → (kind_of_call (call_seen call) ≡ None → ⊥) → BeginsSo call own (said.Faulted own)
fault_so (kind.Deliver deliver) own some = refl
fault_so (kind.Login user proof) own some = refl
fault_so (kind.Fetch user id holders from most) own some = refl
fault_so (kind.Strike user items) own some = refl
fault_so (kind.Leave user login manager) own some = some refl

-- what the machine refuses of a call at a node that is up
module _ (plan : Plan) (w : World) (n : ℕ) (call : NodeCall) (slot : Slot) (node : plain.Node) (named : list_all (is_node plan) (n ∷ nodes_of_call call) ≡ true) (here : slot_at w.slots n ≡ Some slot)
    (up : slot.life ≡ Up node) where
  acts : slot_fault (Begin n call) (slot_at w.slots n) ≡ None
  acts = ap (slot_fault (Begin n call)) here ∙ ap (life_fault (Begin n call)) up

  worn_by : (late worn : Bool) → nat_le letters_end w.sent ≡ late → is_worn_for plan w.seconds node call ≡ worn
      → (if nat_le letters_end w.sent || is_worn_at plan w.seconds (Begin n call) (slot_at w.slots n) then Some Worn else None) ≡ (if late || worn then Some Worn else None)
  worn_by late worn e f =
      ap (λ b. if b || is_worn_at plan w.seconds (Begin n call) (slot_at w.slots n) then Some Worn else None) e
      ∙ ap (λ o. if late || is_worn_at plan w.seconds (Begin n call) o then Some Worn else None) here
      ∙ ap (λ l. if late || Rattle.cluster_model.specs.Steps.is_worn_slot plan w.seconds (Begin n call) slot l then Some Worn else None) up
      ∙ ap (λ b. if late || b then Some Worn else None) f

  pub begin_goes : nat_le letters_end w.sent ≡ false → is_worn_for plan w.seconds node call ≡ false → step_fault plan (Begin n call) w ≡ None
  begin_goes early fresh = none_at_all _ _ _ _ _ (ap (λ b. if b then None else Some NoSuchNode) named) acts refl (worn_by false false early fresh) refl

  pub begin_is_late : nat_le letters_end w.sent ≡ true → step_fault plan (Begin n call) w ≡ Some Worn
  begin_is_late late = fourth_fault _ _ _ _ _ Worn (ap (λ b. if b then None else Some NoSuchNode) named) acts refl (worn_by true (is_worn_for plan w.seconds node call) late refl)

  pub begin_is_worn : nat_le letters_end w.sent ≡ false → is_worn_for plan w.seconds node call ≡ true → step_fault plan (Begin n call) w ≡ Some Worn
  begin_is_worn early worn = fourth_fault _ _ _ _ _ Worn (ap (λ b. if b then None else Some NoSuchNode) named) acts refl (worn_by false true early worn)
