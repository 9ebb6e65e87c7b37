-- The places of the words, as the reader of command lines has them.
use Rattle.std.specs.Prelude.{true, codes}
use Rattle.clap.specs.Words.{App, new_app, new_rule, with_rule}

-- three places, and no option
abbrev pub no_options : App
no_options =
    let app = new_app (codes "porcupine") in
    record app { top = record app.top { no_binary_name = true; disable_help_flag = true } }

abbrev pub places : App
places = with_rule (with_rule (with_rule no_options (new_rule (codes "first"))) (new_rule (codes "second"))) (new_rule (codes "third"))
