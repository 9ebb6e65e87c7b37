use Rattle.std.proofs.Common.{rules}
use Rattle.cluster_config.specs.Answers.{Answers}
use Rattle.cluster_config.proofs.Valid.{taken_if_valid}
use Rattle.cluster_config.proofs.plan_file.read_plan.Goals as goal

pub returns-in_err-file-clause-taken : goal.returns-in_err-file-clause-taken
returns-in_err-file-clause-taken c =
    let answered : Answers c.args.octets.now c.from_residual.result = search rules in
    taken_if_valid c.args.octets.now c.from_residual.result answered
