-- The number of the rule that a fault names.
use Rattle.std.specs.Prelude.{ℕ, Option, Some, None}
use Rattle.cluster_config.specs.declared.config_fault.ConfigFault.{ConfigFault}
use Rattle.cluster_config.specs.declared.config_fault.ConfigFault.TheVariants as fault

abbrev pub rule_of : ConfigFault → Option ℕ
rule_of fault.Document = Some 1
rule_of fault.Key = Some 2
rule_of fault.Nodes = Some 3
rule_of fault.Copies = Some 4
rule_of fault.Buckets = Some 5
rule_of fault.Shards = Some 6
rule_of fault.Users = Some 7
rule_of fault.Postmaster = Some 8
rule_of fault.Outside = Some 9
rule_of fault.NoMemory = None
