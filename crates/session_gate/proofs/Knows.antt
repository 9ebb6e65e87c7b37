-- What a pass knows, step by step.
use Rattle.std.proofs.Common.{inl, inr, ◌≡◌, ◌≢◌, ◌≤◌, ℕ, List, [], ◌∷◌, ◌++◌, Option, Some, None, refl, ◌∙◌, arith}
use Rattle.std.specs.Prelude.{IfSome}
use Rattle.io_edge.specs.Causes.{Rose}
use Rattle.mail_model.specs.Book.{Acked}
use Rattle.session_model.specs.Calls as model
use Rattle.session_model.specs.Calls.Answer.{Stored, Listed, Wrong, InUse, NoProfile, Part, GoneAlready, Dropped, Failed}
use Rattle.session_model.specs.Talk.{Exchange}
use Rattle.call_tickets.specs.declared.tally.Tally.{Tally}
use Rattle.call_tickets.specs.Passes.{PassKnows, IsQuiet, NoneFell, AnswerCounted}
use Rattle.call_tickets.specs.Tells.{TellsMore}
use Rattle.call_tickets.proofs.Telling.{tells_same, tells_then}
use Rattle.session_gate.specs.Deals.{HasAcked, Dealt, Deals, ExchangeAcks, ExchangeCounted}

pub fell_none : (t : Tally) → NoneFell t t
fell_none t = record { stored = omega arith; listed = omega arith; wrong = omega arith; in_use = omega arith; no_profile = omega arith; part = omega arith; gone = omega arith; dropped = omega arith; failed = omega arith; down = omega arith; worn = omega arith; leaves = refl }

pub fell_on : (a b c : Tally) → NoneFell a b → NoneFell b c → NoneFell a c
fell_on a b c x y = record {
  stored = omega (arith, x.stored, y.stored);
  listed = omega (arith, x.listed, y.listed);
  wrong = omega (arith, x.wrong, y.wrong);
  in_use = omega (arith, x.in_use, y.in_use);
  no_profile = omega (arith, x.no_profile, y.no_profile);
  part = omega (arith, x.part, y.part);
  gone = omega (arith, x.gone, y.gone);
  dropped = omega (arith, x.dropped, y.dropped);
  failed = omega (arith, x.failed, y.failed);
  down = omega (arith, x.down, y.down);
  worn = omega (arith, x.worn, y.worn);
  leaves = y.leaves ∙ x.leaves;
}

pub rose_before : (x y z : ℕ) → x ≤ y → Rose y z → Rose x z
rose_before x y z le rose = omega (arith, le, rose)

pub count_before : (answer : model.Answer) (a b c : Tally) → NoneFell a b → AnswerCounted answer b c → AnswerCounted answer a c
count_before (Stored id) a b c f r = rose_before _ _ _ f.stored r
count_before (Listed items) a b c f r = rose_before _ _ _ f.listed r
count_before Wrong a b c f r = rose_before _ _ _ f.wrong r
count_before InUse a b c f r = rose_before _ _ _ f.in_use r
count_before NoProfile a b c f r = rose_before _ _ _ f.no_profile r
count_before (Part octets) a b c f r = rose_before _ _ _ f.part r
count_before GoneAlready a b c f r = rose_before _ _ _ f.gone r
count_before Dropped a b c f r = rose_before _ _ _ f.dropped r
count_before Failed a b c f (inl r) = inl (rose_before _ _ _ f.failed r)
count_before Failed a b c f (inr r) = inr (rose_before _ _ _ f.worn r)

counted_before : (answer : Option model.Answer) (a b c : Tally) → NoneFell a b → ExchangeCounted answer b c → ExchangeCounted answer a c
counted_before None a b c f r = tt
counted_before (Some answer) a b c f r = count_before answer a b c f r

pub quiet_none : (k : PassKnows) → IsQuiet k k
quiet_none k = record { acked = tells_same k.acked; struck = tells_same k.struck; fell = fell_none k.counts }

pub quiet_on : (a b c : PassKnows) → IsQuiet a b → IsQuiet b c → IsQuiet a c
quiet_on a b c x y = record {
  acked = tells_then a.acked b.acked c.acked [] x.acked y.acked;
  struck = tells_then a.struck b.struck c.struck [] x.struck y.struck;
  fell = fell_on _ _ _ x.fell y.fell;
}

-- what a call acknowledged, with quiet before it
pub acks_before : (old mid new : Option (List Acked)) (call : Option model.Call) (answer : Option model.Answer) → TellsMore old [] mid
    → IfSome new (λ told. HasAcked mid call answer told) → IfSome new (λ told. HasAcked old call answer told)
acks_before old mid None call answer quiet acks = tt
acks_before old mid (Some told) call answer quiet acks = record { copies = acks.copies; are = acks.are; acked = tells_then old mid (Some told) acks.copies quiet acks.acked }

-- one that acknowledged nothing
pub acks_none : (old new : Option (List Acked)) (call : Option model.Call) (answer : Option model.Answer) → ExchangeAcks call answer [] → TellsMore old [] new
    → IfSome new (λ told. HasAcked old call answer told)
acks_none old None call answer are quiet = tt
acks_none old (Some told) call answer are quiet = record { copies = []; are = are; acked = quiet }

pub dealt_before : (a b c : PassKnows) (call : Option model.Call) (answer : Option model.Answer) → IsQuiet a b → Dealt b call answer c → Dealt a call answer c
dealt_before a b c call answer q d = record {
  acked = acks_before a.acked b.acked c.acked call answer q.acked d.acked;
  strikes = d.strikes;
  asked = d.asked;
  struck = tells_then a.struck b.struck c.struck d.strikes q.struck d.struck;
  fell = fell_on _ _ _ q.fell d.fell;
  rose = counted_before answer _ _ _ q.fell d.rose;
}

-- a unit that asks nothing
pub dealt_none : (k : PassKnows) → Dealt k None None k
dealt_none k = record { acked = acks_none k.acked k.acked None None refl (tells_same k.acked); strikes = []; asked = refl; struck = tells_same k.struck; fell = fell_none k.counts; rose = tt }

some_none : {X : Type 0} (x : X) → None ≢ Some x
some_none x is = cc

-- a call that was not begun yet
pub dealt_asked : (k : PassKnows) (call : model.Call) → Dealt k (Some call) None k
dealt_asked k call = record { acked = acks_none k.acked k.acked (Some call) None refl (tells_same k.acked); strikes = []; asked = inr (refl, some_none Dropped); struck = tells_same k.struck; fell = fell_none k.counts; rose = tt }

pub deals_later : (a b c : PassKnows) (xs : List Exchange) → Deals a xs b → IsQuiet b c → Deals a xs c
deals_later a b c [] d q = quiet_on a b c d q
deals_later a b c (x ∷ xs) d q = (d.0, d.1, deals_later d.0 b c xs d.2 q)

pub deals_one : (a b c : PassKnows) (xs : List Exchange) (one : Exchange) → Deals a xs b → Dealt b one.call one.answer c → Deals a (xs ++ one ∷ []) c
deals_one a b c [] one d more = (c, dealt_before a b c one.call one.answer d more, quiet_none c)
deals_one a b c (x ∷ xs) one d more = (d.0, d.1, deals_one d.0 b c xs one d.2 more)

pub deals_fell : (a b : PassKnows) (xs : List Exchange) → Deals a xs b → NoneFell a.counts b.counts
deals_fell a b [] d = d.fell
deals_fell a b (x ∷ xs) d = fell_on _ _ _ d.1.fell (deals_fell d.0 b xs d.2)
