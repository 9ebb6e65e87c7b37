use Rattle.std.proofs.Common.{◌≡◌, ◌≤◌, ◌∙◌, Option, Some, None, map, length, refl, ap, sym, string_bytes}
use Rattle.std.specs.Prelude.{option_map}
use Rattle.std.proofs.lemmas.List.{length-map}
use Rattle.command_words.specs.Forms.{Task, task_of}
use Rattle.command_words.specs.Seen.{task_seen}
use Rattle.command_words.proofs.Options.{task_of_few}
use Rattle.command_words.proofs.task.without_memory.Goals as goal

pub returns-in-None-clause-none : goal.returns-in-None-clause-none
returns-in-None-clause-none c =
    let texts = map string_bytes c.args.words.now in
    let few : length texts ≤ 3 = rw length-map c.requires.few in
    let seen : option_map task_seen c.form.result ≡ task_of texts =
    rw (c.word_at.ensures, c.word_at-2.ensures, c.word_at-3.ensures) at c.form.ensures ∙ task_of_few texts few c.requires.plain in
    (refl, sym seen ∙ ap (option_map task_seen) c.in-None.is)

pub returns-in-Some-clause-of_a_form : goal.returns-in-Some-clause-of_a_form
returns-in-Some-clause-of_a_form c none =
    let texts = map string_bytes c.args.words.now in
    let few : length texts ≤ 3 = rw length-map c.requires.few in
    let seen : option_map task_seen c.form.result ≡ task_of texts =
    rw (c.word_at.ensures, c.word_at-2.ensures, c.word_at-3.ensures) at c.form.ensures ∙ task_of_few texts few c.requires.plain in
    let both : ◌≡◌ {A = Option Task} (option_map task_seen (Some c.in-Some.field-0)) None = sym (ap (option_map task_seen) c.in-Some.is) ∙ seen ∙ none in
    cc
