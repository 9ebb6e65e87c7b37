-- How far a fetch has come, as the machine sees it.
use Rattle.mail_base.specs.Bodies.{part_seen}
use Rattle.login_model.specs.Readings as model
use Rattle.node_reads.specs.declared.fetch.FetchStage.{FetchStage}
use Rattle.node_reads.specs.declared.fetch.FetchStage.TheVariants as fetch

abbrev pub fetch_stage_seen : FetchStage → model.FetchStage
fetch_stage_seen (fetch.AsksHolder holder left) = model.FetchStage.AsksHolder holder left
fetch_stage_seen (fetch.IsAnswered by part) = model.FetchStage.IsAnswered by (part_seen part)
fetch_stage_seen fetch.NobodyLeft = model.FetchStage.NobodyLeft
