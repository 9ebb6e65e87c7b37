use Rattle.std.proofs.Common.{◌≡◌, ◌≤◌, ◌∙◌, false, map, length, ap, sym, codes, string_bytes}
use Rattle.std.proofs.lemmas.List.{length-map}
use Rattle.std.specs.Prelude.{slice_get}
use Rattle.std.specs.Option.{option_copied}
use Rattle.clap.specs.Words.{found_of, first_of}
use Rattle.clap.proofs.WalkLemmas.{first_value-rows}
use Rattle.command_words.specs.Forms.{has_option}
use Rattle.command_words.proofs.Options.{form_of_few}
use Rattle.command_words.proofs.Placed.{placed_few}
use Rattle.command_words.proofs.task.read_words.Goals as goal

pub returns-clause-task : goal.returns-clause-task
returns-clause-task c =
    let texts = map string_bytes c.args.words.now in
    let few : length texts ≤ 3 = rw length-map c.if-words-gt3.false in
    let plain : has_option texts ≡ false = sym c.has_option.ensures ∙ c.if-has_option.false in
    let p = placed_few texts few plain in
    let found = found_of c.in-Ok.placed in
    let first : option_copied c.get_str-first.result ≡ slice_get texts 0 =
    c.get_str-first.ensures ∙ first_value-rows found (codes "first") ∙ ap (first_of (codes "first")) c.in-Ok.ensures ∙ p.first in
    let second : option_copied c.get_str-second.result ≡ slice_get texts 1 =
    c.get_str-second.ensures ∙ first_value-rows found (codes "second") ∙ ap (first_of (codes "second")) c.in-Ok.ensures ∙ p.second in
    let third : option_copied c.get_str-third.result ≡ slice_get texts 2 =
    c.get_str-third.ensures ∙ first_value-rows found (codes "third") ∙ ap (first_of (codes "third")) c.in-Ok.ensures ∙ p.third in
    rw plain (rw (first, second, third) at c.form.ensures ∙ form_of_few texts few)
