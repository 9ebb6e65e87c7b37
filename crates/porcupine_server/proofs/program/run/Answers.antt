use Rattle.std.proofs.Common.{◌≡◌, true, false, refl, sym, ap, subst, ◌∙◌, []}
use Rattle.std.specs.Prelude.{Result, Ok, Err, None}
use Rattle.std.specs.declared.vec.IntoIter.{IntoIter}
use Rattle.std.specs.declared.io.Error.{Error}
use Rattle.porcupine_server.specs.Words.{IsNotText, serves_first, words_after_name}
use Rattle.porcupine_server.specs.Tasks.{asked, IsDrive}
use Rattle.porcupine_server.proofs.FirstWords.{no_serve_first}
use Rattle.porcupine_server.proofs.OwnStores.{no_store_fault}
use Rattle.porcupine_server.proofs.program.run.Goals as goal

-- words that are not text are no words
no_words : {X Z : Type 0} (arguments : Result (IntoIter X Z) Error) → IsNotText arguments → words_after_name arguments ≡ []
no_words (Ok words) not_text = absurd not_text
no_words (Err fault) not_text = refl

pub returns-then-asks_to_serve-clause-refused : goal.returns-then-asks_to_serve-clause-refused
returns-then-asks_to_serve-clause-refused g c not_text =
    let none = sym (c.deref-then-asks_to_serve.ensures.value ∙ c.in-Ok.ensures.words ∙ no_words _ not_text) in
    let refused = c.porcupine.ensures.words_refused (subst (λ words. asked words ≡ None) none refl) in
    (refused.0, refused.1.left)

-- words whose first is `serve` do not ask to drive
pub returns-then-asks_to_serve-clause-complete : goal.returns-then-asks_to_serve-clause-complete
returns-then-asks_to_serve-clause-complete g c drive tape left good read write =
    let never : true ≡ false = c.if-asks_to_serve.ensures ∙ ap serves_first (c.deref.ensures.value ∙ c.in-Ok.ensures.words) ∙ no_serve_first (words_after_name c.args.arguments) drive in
    absurd cc

pub returns-clause-refused : goal.returns-clause-refused
returns-clause-refused g c not_text =
    let none = sym (c.deref-2.ensures.value ∙ c.in-Ok.ensures.words ∙ no_words _ not_text) in
    let refused = c.porcupine-2.ensures.words_refused (subst (λ words. asked words ≡ None) none refl) in
    (refused.0, refused.1.left)

pub returns-clause-no_store_fault : goal.returns-clause-no_store_fault
returns-clause-no_store_fault g c other is =
    let failed = c.porcupine-2.ensures.store_fault is in
    no_store_fault c.new-yard-2.result.handed.items c.porcupine-2.new.yard.handed.items _ _ failed.1.0 c.new-yard-2.ensures.handed c.porcupine-2.new.yard.fresh failed.1.2

pub returns-clause-complete : goal.returns-clause-complete
returns-clause-complete g c drive tape left good read write =
    c.porcupine-2.ensures.complete (subst IsDrive (sym (c.deref-2.ensures.value ∙ c.in-Ok.ensures.words)) drive) tape left good read write
    (λ node failed. no_store_fault c.new-yard-2.result.handed.items c.porcupine-2.new.yard.handed.items _ _ node c.new-yard-2.ensures.handed c.porcupine-2.new.yard.fresh failed)
