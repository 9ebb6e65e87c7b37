use Rattle.std.proofs.Common.{◌≡◌, ◌∙◌, ◌-◌, ℕ, suc, inr, length, ap, arith}
use Rattle.std.specs.Prelude.{slice_index_or}
use Rattle.cluster_world.proofs.Beginning.{crlf_at}
use Rattle.solo_desk.proofs.kinds.is_ended.Goals as goal

pub returns : goal.returns
returns c =
    let text = c.args.text.now in
    let k : ℕ = length text - 2 in
    let all : suc (suc k) ≡ length text = omega (arith, c.if-length-lt2.false) in
    let last : suc k ≡ length text - 1 = omega (arith, c.if-length-lt2.false) in
    λ _. inr (crlf_at text k all c.if-text-length-ne13.false (ap (λ i. slice_index_or text i 0) last ∙ c.if-text-length-ne10.false))
