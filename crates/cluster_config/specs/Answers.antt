-- What reading a plan file answers.
use Rattle.std.specs.Prelude.{◌≡◌, ◌≤◌, ℕ, List, length, Some, None, IsUtf8, Result, Ok, Err, IfErr, ⊤}
use Rattle.toml.specs.Data.{Data, Members, table}
use Rattle.toml.specs.Parse.{parse_document}
use Rattle.cluster_config.specs.Faults.{rule_of}
use Rattle.cluster_config.specs.Rules.{first_broken, IsPlanOf}
use Rattle.cluster_config.specs.declared.config_fault.ConfigFault.{ConfigFault}
use Rattle.cluster_config.specs.declared.config_fault.ConfigFault.TheVariants as fault
use Rattle.cluster_config.specs.declared.plan_file.ServePlan.{ServePlan}

-- the octets are a TOML document, of no more octets than a plan file may have, and this is its value
pub record IsDocument (octets : List ℕ) (file : Data) : Type 0 where
  pub members : Members
  pub few : length octets ≤ 1048576
  pub text : IsUtf8 octets
  pub reads : parse_document octets ≡ Some members
  pub value : file ≡ table members

-- the value of a document breaks the fault's rule, and no rule before it; nothing is said where memory ran out
abbrev pub BreaksLater : Data → ConfigFault → Type 0
BreaksLater file fault.NoMemory = ⊤
BreaksLater file fault.Document = ⊥
BreaksLater file which = first_broken file ≡ rule_of which

-- the octets break the fault's rule, and no rule before it: they are no document, or its value breaks the rule
abbrev pub BreaksFirst : List ℕ → ConfigFault → Type 0
BreaksFirst octets fault.NoMemory = ⊤
BreaksFirst octets fault.Document = (file : Data) → IsDocument octets file → ⊥
BreaksFirst octets which = (file : Data) × IsDocument octets file × BreaksLater file which

-- the plan of a document that keeps all rules, or the first rule that is broken
abbrev pub Answers : List ℕ → Result ServePlan ConfigFault → Type 0
Answers octets (Ok plan) = (file : Data) × IsDocument octets file × (first_broken file ≡ None) × IsPlanOf file plan
Answers octets (Err which) = BreaksFirst octets which

-- octets that keep all rules have their plan, unless memory ran out
abbrev pub IsTakenIfValid : List ℕ → Result ServePlan ConfigFault → Type 0
IsTakenIfValid octets result = (file : Data) → IsDocument octets file → first_broken file ≡ None → IfErr result (λ which. which ≡ fault.NoMemory)
