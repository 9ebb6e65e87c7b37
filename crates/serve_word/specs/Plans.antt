-- What was read of a plan file.
use Rattle.std.specs.Prelude.{◌≡◌, ℕ, zero, suc, ◌+◌, List, [], ◌∷◌, Option, None, IfSome, Result, Ok, Err, ⊤, string_bytes}
use Rattle.io_edge.specs.declared.yard.Protocol.TheVariants.{Smtp, Pop}
use Rattle.toml.specs.Data.{Data}
use Rattle.cluster_config.specs.Answers.{IsDocument}
use Rattle.cluster_config.specs.Rules.{first_broken, IsPlanOf}
use Rattle.cluster_config.specs.declared.plan_file.ServePlan.{ServePlan}
use Rattle.mail_service.specs.declared.yards.Port.{Port}
use Rattle.word_works.specs.Checks.{BreaksRule}
use Rattle.serve_word.specs.declared.plan_parts.PlanFault.{PlanFault}
use Rattle.serve_word.specs.declared.plan_parts.PlanFault.TheVariants.{Broken, Unread, NoMemory}
use Rattle.serve_word.specs.declared.plan_parts.PlanParts.{PlanParts}

-- the ports of so many nodes from this one on, whose own are these: of each that for SMTP, and then that for POP3
abbrev pub ports_from : ℕ → ℕ → ℕ → ℕ → List Port
ports_from zero node smtp pop = []
ports_from (suc count) node smtp pop =
    record { node = node; protocol = Smtp; port = smtp } ∷ record { node = node; protocol = Pop; port = pop } ∷ ports_from count (node + 1) (smtp + 1) (pop + 1)

abbrev pub ports_of : ServePlan → List Port
ports_of plan = ports_from plan.plan.nodes 1 plan.smtp_port plan.pop_port

-- octets that keep all rules of a plan file, and what they say
abbrev pub HasPlan : List ℕ → ServePlan → Type 0
HasPlan octets plan = (file : Data) × IsDocument octets file × (first_broken file ≡ None) × IsPlanOf file plan

-- a plan file was read, whose octets are told or not, and says this
abbrev pub IsPlanFile : Option (List ℕ) → ServePlan → Type 0
IsPlanFile told plan = (octets : List ℕ) × IfSome told (λ held. octets ≡ held) × HasPlan octets plan

-- the plan, the same once more, the folder and the ports
pub record ArePartsOf (plan : ServePlan) (parts : PlanParts) : Type 0 where
  pub plan_is : parts.plan ≡ plan.plan
  pub names_are : parts.names ≡ plan.plan
  pub folder_is : string_bytes parts.folder ≡ string_bytes plan.folder
  pub ports_are : parts.ports.items ≡ ports_of plan

-- the rule that octets break, and none before it
abbrev pub IsBrokenBy : List ℕ → PlanFault → Type 0
IsBrokenBy octets (Broken rule) = BreaksRule octets rule
IsBrokenBy octets Unread = ⊥
IsBrokenBy octets NoMemory = ⊤

-- what reading octets came to
abbrev pub ReadsOctets : List ℕ → Result PlanParts PlanFault → Type 0
ReadsOctets octets (Ok parts) = (plan : ServePlan) × HasPlan octets plan × ArePartsOf plan parts
ReadsOctets octets (Err fault) = IsBrokenBy octets fault

-- why no plan file was read
abbrev pub IsUnread : Option (List ℕ) → PlanFault → Type 0
IsUnread told (Broken rule) = (octets : List ℕ) × IfSome told (λ held. octets ≡ held) × BreaksRule octets rule
IsUnread told Unread = ⊤
IsUnread told NoMemory = ⊤

-- what reading a file came to
abbrev pub ReadsPlan : Option (List ℕ) → Result PlanParts PlanFault → Type 0
ReadsPlan told (Ok parts) = (plan : ServePlan) × IsPlanFile told plan × ArePartsOf plan parts
ReadsPlan told (Err fault) = IsUnread told fault
