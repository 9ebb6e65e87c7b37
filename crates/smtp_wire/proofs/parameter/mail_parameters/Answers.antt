use Rattle.std.proofs.Common.{◌∙◌, List, ℕ, drop, sym, ap}
use Rattle.mail_model.specs.Smtp.{rest_of, words_of, and_then, with_word, with_words}
use Rattle.smtp_wire.specs.Seen.{fault_seen, given_seen, given_result}
use Rattle.smtp_wire.proofs.Words.{words_step, words_stop, words_all}
use Rattle.smtp_wire.proofs.parameter.mail_parameters.Goals as goal

pub returns-in-Err : goal.returns-in-Err
returns-in-Err c =
    words_stop (given_seen c.loop-rest.given) c.loop-rest.rest.now (fault_seen c.in-Err.fault)
    (sym (ap given_result c.in-Err.is) ∙ c.with_word.ensures ∙ ap (with_word (given_seen c.loop-rest.given)) c.split_verb.ensures.verb)
    ∙ c.loop-rest.invariant ∙ words_all c.args.behind.now c.is_parted.result c.is_parted.ensures c.if-not-is_parted.false

pub loop-rest-preserved : goal.loop-rest-preserved
loop-rest-preserved c =
    let rest = c.loop-rest.rest.now in
    ap (λ (l : List ℕ). with_words (given_seen c.in-Ok.next) (words_of l)) (c.split_front.ensures.others ∙ ap (drop 1) c.split_verb.ensures.rest)
    ∙ ap (and_then (λ next. with_words next (words_of (drop 1 (rest_of rest)))))
    (sym (ap given_result c.in-Ok.is) ∙ c.with_word.ensures ∙ ap (with_word (given_seen c.loop-rest.given)) c.split_verb.ensures.verb)
    ∙ sym (words_step (given_seen c.loop-rest.given) rest) ∙ c.loop-rest.invariant
