use Rattle.std.proofs.Common.{◌≡◌, ◌≤◌, ◌∙◌, true, map, length, ap, string_bytes}
use Rattle.std.proofs.lemmas.List.{length-map}
use Rattle.clap.specs.Words.{takes, app_of}
use Rattle.command_words.proofs.Placed.{takes_few}
use Rattle.command_words.proofs.given.placed.Goals as goal

pub unreachable-requires : goal.unreachable-requires
unreachable-requires c =
    let texts = map string_bytes c.args.words.now in
    let few : length texts ≤ 3 = rw length-map c.requires.few in
    let all : takes (app_of c.in_ok-command.command) texts ≡ true = ap (λ a. takes a texts) c.in_ok-command.ensures ∙ takes_few texts few c.requires.plain in
    absurd (c.in_default.not-OutOfMemory (c.kind.ensures ∙ c.in-Err.ensures.passes all))
