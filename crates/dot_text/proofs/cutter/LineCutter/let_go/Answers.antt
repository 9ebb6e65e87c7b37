use Rattle.std.proofs.Common.{◌≡◌, ℕ, true, false, List, [], ◌∷◌, length, drop, sym, ap, subst, ◌∙◌, rules, arith}
use Rattle.std.specs.Prelude.{◌⊎◌, ◌≤◌}
use Rattle.std.proofs.lemmas.List.{take_rest, length-drop}
use Rattle.dot_text.specs.Shown.{ends_in_cr}
use Rattle.dot_text.proofs.Letting.{lets_all_go, lets_go_but_cr, ends_within, set_first}
use Rattle.dot_text.proofs.cutter.LineCutter.let_go.Goals as goal

pub returns-then-keeps : goal.returns-then-keeps
returns-then-keeps c =
    let old = c.self.inside in
    let rest : List ℕ = drop old.start old.octets.items in
    let is = take_rest c.deref.result.now old.start ∙ ap (λ (l : List ℕ). drop old.start l) c.deref.ensures.value in
    let Over : List ℕ → Type 0 = λ l. (old.past ≡ true) ⊎ (old.limit ≤ length l) in
    let cr : ends_in_cr rest ≡ true = ap ends_in_cr (sym is) ∙ sym c.ends_in_cr-keeps.ensures ∙ c.if-keeps.true in
    let one : c.truncate.new.self.items ≡ 13 ∷ [] =
    c.truncate.ensures.items ∙ set_first old.octets.items (omega (arith, ends_within rest cr, length-drop old.start old.octets.items)) in
    lets_go_but_cr old.limit old.past rest c.truncate.new.self.items c.args.self.now c.self.invariant.0 c.self.view_is c.requires cr (subst Over is c.if-not-is_over.ensures) one

pub returns-else-keeps : goal.returns-else-keeps
returns-else-keeps c =
    let old = c.self.inside in
    let rest : List ℕ = drop old.start old.octets.items in
    let is = take_rest c.deref.result.now old.start ∙ ap (λ (l : List ℕ). drop old.start l) c.deref.ensures.value in
    let Over : List ℕ → Type 0 = λ l. (old.past ≡ true) ⊎ (old.limit ≤ length l) in
    let other : ends_in_cr rest ≡ false = ap ends_in_cr (sym is) ∙ sym c.ends_in_cr-keeps.ensures ∙ c.if-keeps.false in
    lets_all_go old.limit old.past rest c.clear.new.self.items c.args.self.now c.self.invariant.0 c.self.view_is c.requires other (subst Over is c.if-not-is_over.ensures) (search rules)
