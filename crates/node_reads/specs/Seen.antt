-- A call that reads, as the machine sees it.
use Rattle.login_model.specs.Readings as model
use Rattle.node_reads.specs.declared.progress.Reading.{Reading}
use Rattle.node_reads.specs.declared.progress.Reading.TheVariants as reading

abbrev pub reading_seen : Reading → model.Reading
reading_seen (reading.LogsIn login) = model.Reading.LogsIn login
reading_seen (reading.Fetches fetch) = model.Reading.Fetches fetch
