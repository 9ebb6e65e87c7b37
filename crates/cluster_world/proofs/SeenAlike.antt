-- A session sees a call of the world as it sees that of the machine, and an answer, too.
use Rattle.std.proofs.Common.{◌≡◌, List, [], ◌∷◌, Some, refl, sym, ap, map}
use Rattle.mail_base.specs.declared.item.Item.{Item}
use Rattle.call_tickets.specs.Seen.{call_seen, answer_seen}
use Rattle.call_tickets.specs.declared.call.Call.{Call}
use Rattle.call_tickets.specs.declared.call.Call.TheVariants.{Deliver, Login, Fetch, Strike, Leave}
use Rattle.call_tickets.specs.declared.answer.Answer.{Answer}
use Rattle.call_tickets.specs.declared.answer.Answer.TheVariants.{Stored, Listed, Wrong, InUse, NoProfile, Part, GoneAlready, Dropped, Failed}
use Rattle.session_model.specs.Calls as model
use Rattle.node_core.specs.Beginning.{call_seen as machine_call}
use Rattle.node_tickets.specs.Seen.{copy_seen, progress_seen}
use Rattle.cluster_owes.specs.Seen.{call_made, answer_told, item_listed}

map_map : {X Y Z : Type 0} (f : Y → Z) (g : X → Y) (h : X → Z) (xs : List X) → ((x : X) → f (g x) ≡ h x) → map f (map g xs) ≡ map h xs
map_map f g h [] each = refl
map_map f g h (x ∷ xs) each = rw (each x, map_map f g h xs each) refl

pub made_alike : (call : Call) → call_made (machine_call call) ≡ call_seen call
made_alike (Deliver deliver) = refl
made_alike (Login user proof) = refl
made_alike (Fetch user id holders from most) = refl
made_alike (Strike user items) = ap (λ ids. Some (model.Call.Strike user ids)) (map_map _ _ (λ (item : Item). item.id) items (λ item. refl))
made_alike (Leave user login manager) = refl

pub told_alike : (answer : Answer) → answer_seen answer ≡ answer_told (progress_seen answer)
told_alike (Stored id confirmers) = refl
told_alike (Listed login manager asked items) = ap model.Answer.Listed (sym (map_map item_listed copy_seen _ items (λ item. refl)))
told_alike (Wrong stamp) = refl
told_alike (InUse by) = refl
told_alike (NoProfile manager) = refl
told_alike (Part octets whole) = refl
told_alike GoneAlready = refl
told_alike (Dropped confirmers) = refl
told_alike (Failed mishaps) = refl
