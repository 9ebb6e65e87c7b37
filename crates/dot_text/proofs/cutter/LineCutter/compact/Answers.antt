use Rattle.std.proofs.Common.{arith, ◌≡◌, ℕ, ◌-◌, List, take, drop, sym, ap, subst, ◌∙◌}
use Rattle.dot_text.specs.Cuts.{HasNoneBefore}
use Rattle.dot_text.proofs.Cutting.{moved}
use Rattle.dot_text.proofs.Letting.{cutter_of}
use Rattle.dot_text.proofs.cutter.LineCutter.compact.Goals as goal

pub invariant_of-self : goal.invariant_of-self
invariant_of-self c =
    let old = c.self.inside in
    let is : c.truncate.new.self.items ≡ drop old.start old.octets.items =
    c.truncate.ensures.items ∙ ap (λ (l : List ℕ). take (c.len.result - old.start) l) c.copy_within.ensures.items
    ∙ moved old.octets.items old.start old.octets.len (c.len.result - old.start) c.self.invariant.1 (omega (arith, old.octets.ok.0)) (omega (arith, c.len.ensures)) in
    let Before : List ℕ → Type 0 = λ l. HasNoneBefore l old.seen in
    (c.self.invariant.0, omega arith, subst Before (sym is) c.self.invariant.2)

pub returns-then-left-start : goal.returns-then-left-start
returns-then-left-start c =
    let old = c.self.inside in
    let is : c.truncate.new.self.items ≡ drop old.start old.octets.items =
    c.truncate.ensures.items ∙ ap (λ (l : List ℕ). take (c.len.result - old.start) l) c.copy_within.ensures.items
    ∙ moved old.octets.items old.start old.octets.len (c.len.result - old.start) c.self.invariant.1 (omega (arith, old.octets.ok.0)) (omega (arith, c.len.ensures)) in
    ap (cutter_of old.limit old.past) is ∙ c.self.view_is
