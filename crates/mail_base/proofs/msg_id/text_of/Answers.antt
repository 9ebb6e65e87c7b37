use Rattle.std.proofs.Common.{◌≡◌, ◌++◌, ◌∷◌, [], ◌∙◌, string_bytes, append_assoc}
use Rattle.std.specs.Fmt.{decimal}
use Rattle.std.proofs.lemmas.Result.{IfOk-weaker}
use Rattle.mail_model.specs.Identity.{id_text}
use Rattle.mail_base.proofs.msg_id.text_of.Goals as goal

pub returns : goal.returns
returns c =
    let text : decimal c.args.node ++ (46 ∷ [] ++ (decimal c.args.boot ++ (46 ∷ [] ++ decimal c.args.seq))) ≡ id_text (record { node = c.args.node; boot = c.args.boot; seq = c.args.seq }) = simp append_assoc in
    IfOk-weaker c.format.result (λ s. string_bytes s ≡ decimal c.args.node ++ (46 ∷ [] ++ (decimal c.args.boot ++ (46 ∷ [] ++ decimal c.args.seq)))) (λ s. string_bytes s ≡ id_text (record { node = c.args.node; boot = c.args.boot; seq = c.args.seq })) (λ s wrote. wrote ∙ text) c.format.ensures.ok
