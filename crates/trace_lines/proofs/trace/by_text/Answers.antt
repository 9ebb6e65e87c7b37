use Rattle.std.proofs.Common.{◌≡◌, ◌++◌, ◌∷◌, [], ◌∙◌, string_bytes, codes}
use Rattle.std.specs.Fmt.{decimal}
use Rattle.std.proofs.lemmas.Result.{IfOk-weaker}
use Rattle.trace_lines.specs.Trace.{by_line}
use Rattle.trace_lines.proofs.Pieces.{nine}
use Rattle.trace_lines.proofs.trace.by_text.Goals as goal

pub returns : goal.returns
returns c =
    let node = decimal c.args.node in
    let protocol = c.args.protocol.now in
    let id = c.args.id.now in
    let pieces = codes " by node" ++ (node ++ (codes " with " ++ (protocol ++ (codes " id <" ++ (id ++ (codes "@node" ++ (node ++ (codes ">;" ++ 13 ∷ 10 ∷ [])))))))) in
    let text : pieces ≡ by_line c.args.node protocol id = nine (codes " by node") node (codes " with ") protocol (codes " id <") id (codes "@node") node (codes ">;") (13 ∷ 10 ∷ []) in
    IfOk-weaker c.format.result (λ s. string_bytes s ≡ pieces) (λ s. string_bytes s ≡ by_line c.args.node protocol id) (λ s wrote. wrote ∙ text) c.format.ensures.ok
