use Rattle.std.proofs.Common.{ℕ, List, drop, ap, subst, ◌∙◌}
use Rattle.std.proofs.lemmas.List.{take_rest}
use Rattle.mail_model.specs.Lines.{HasNoCrlf}
use Rattle.dot_text.specs.Cuts.{IsFirstCrlf}
use Rattle.dot_text.specs.Shown.{Shown, Finds, LetsGo}
use Rattle.dot_text.proofs.Letting.{stays, found_at}
use Rattle.dot_text.proofs.cutter.LineCutter.find.Goals as goal

pub returns-in-None : goal.returns-in-None
returns-in-None c =
    let old = c.self.inside in
    let rest : List ℕ = drop old.start old.octets.items in
    let none : HasNoCrlf rest =
    subst HasNoCrlf (take_rest c.deref.result.now old.start ∙ ap (λ (l : List ℕ). drop old.start l) c.deref.ensures.value) c.in-None.ensures in
    let From : Shown → Type 0 = λ s. LetsGo s c.let_go.new.self in
    let lets : LetsGo c.args.self.now c.let_go.new.self = subst From c.self.view_is c.let_go.ensures in
    record {
      limit = lets.limit;
      short = lets.short;
      fewer = lets.fewer;
      stays = λ pending was. stays c.args.self.now c.let_go.new.self pending (subst HasNoCrlf (ap (λ (s : Shown). s.rest) c.self.view_is) none) was (lets.pends pending was);
    }

pub returns-in-Some : goal.returns-in-Some
returns-in-Some c =
    let old = c.self.inside in
    let At : List ℕ → Type 0 = λ l. IsFirstCrlf l c.in-Some.length in
    let is : IsFirstCrlf (drop old.start old.octets.items) c.in-Some.length =
    subst At (take_rest c.deref.result.now old.start ∙ ap (λ (l : List ℕ). drop old.start l) c.deref.ensures.value) c.in-Some.ensures in
    let Of : Shown → Type 0 = λ s. Finds s c.kind_of.result s in
    subst Of c.self.view_is (found_at old.limit old.past (drop old.start old.octets.items) c.in-Some.length is c.kind_of.result c.kind_of.ensures)
