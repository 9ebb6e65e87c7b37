-- How much a session has left falls with its moves.
use Rattle.std.proofs.Common.{◌≡◌, ◌<◌, ◌≤◌, ℕ, List, Option, Some, None, Result, Ok, Err, refl, subst, arith}
use Rattle.std.specs.Prelude.{slice_get, OnOk, IfOk, Bool, true}
use Rattle.mail_model.specs.Plan.{Plan}
use Rattle.node_store.specs.Disks.{View}
use Rattle.cluster_world.specs.declared.world.World.{World}
use Rattle.drive_tape.specs.declared.open_call.OpenCall.{OpenCall}
use Rattle.drive_tape.specs.declared.sessions.Sessions.{Sessions}
use Rattle.drive_tape.specs.declared.cluster.Cluster.{Cluster}
use Rattle.drive_tape.specs.declared.sessions.After.{After}
use Rattle.drive_tape.specs.Points.{Point, WentOn}
use Rattle.drive_tape.specs.Clusters.{IsSaying}
use Rattle.drive_tape.specs.Moving.{left_at, call_here, work_at}

pub on_ok : {A E : Type 0} {X : Type 0} (r : Result A E) → X → OnOk r X
on_ok (Ok a) x = x
on_ok (Err e) x = tt

pub if_ok : {E : Type 0} {X : Type 0} (r : Result Bool E) → X → IfOk r (λ on. on ≡ true → X)
if_ok (Ok on) x = λ is. x
if_ok (Err e) x = tt

at_most : (t : Option (Option OpenCall)) → call_here t ≤ 1
at_most None = omega arith
at_most (Some None) = omega arith
at_most (Some (Some t)) = omega arith

-- a move that is busy
pub begun_less : (place : ℕ) (old mid new : Sessions) → left_at place mid < left_at place old → left_at place new ≤ left_at place mid → work_at place new < work_at place old
begun_less place old mid new busy less = let few : call_here (slice_get new.calls.items place) ≤ 1 = at_most _ in omega (arith, busy, less, few)

same_calls : (place : ℕ) (old new : Sessions) → new.calls ≡ old.calls → call_here (slice_get new.calls.items place) ≡ call_here (slice_get old.calls.items place)
same_calls place old new same = rw same refl

pub said_less : (place : ℕ) (old new : Sessions) → new.calls ≡ old.calls → left_at place new < left_at place old → work_at place new < work_at place old
said_less place old new same busy = omega (arith, busy, same_calls place old new same)

pub stays_less : (place : ℕ) (old new : Sessions) → new.calls ≡ old.calls → left_at place new ≤ left_at place old → work_at place new ≤ work_at place old
stays_less place old new same less = omega (arith, less, same_calls place old new same)

pub no_more : {n m : ℕ} → n < m → n ≤ m
no_more less = omega (arith, less)

-- what is written is what was said
pub saying_out : {D : Type 0} (on : View D) (start : World D) (plan : Plan) (p q : Point) (place onward : ℕ) (after : After) (out other : List ℕ) (cluster : Cluster D) → other ≡ out
    → IsSaying on start plan p q place onward after out cluster → IsSaying on start plan p q place onward after other cluster
saying_out on start plan p q place onward after out other cluster same saying = rw same saying

pub went_held : {D : Type 0} (on : View D) (start : World D) (plan : Plan) (p : Point) (so : Point → Type 0) (held other : Option (List ℕ)) (cluster : Cluster D) → held ≡ other
    → WentOn on start plan p so held cluster → WentOn on start plan p so other cluster
went_held on start plan p so held other cluster same went = subst (λ (h : Option (List ℕ)). WentOn on start plan p so h cluster) same went
