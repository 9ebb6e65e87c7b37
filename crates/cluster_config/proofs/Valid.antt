-- A plan file that keeps all rules is refused for want of memory alone.
use Rattle.std.proofs.Common.{◌≡◌, ℕ, List, Option, Some, None, Result, Ok, Err, refl, sym, ap, ◌∙◌}
use Rattle.toml.specs.Data.{Data, Members, table}
use Rattle.cluster_config.specs.Rules.{first_broken}
use Rattle.cluster_config.specs.Answers.{IsDocument, Answers, IsTakenIfValid}
use Rattle.cluster_config.specs.declared.config_fault.ConfigFault.{ConfigFault}
use Rattle.cluster_config.specs.declared.config_fault.ConfigFault.TheVariants as fault
use Rattle.cluster_config.specs.declared.plan_file.ServePlan.{ServePlan}

-- octets are a document of one value
pub one_value : (octets : List ℕ) (file other : Data) → IsDocument octets file → IsDocument octets other → other ≡ file
one_value octets file other d e =
    let same : d.members ≡ e.members = let one : ◌≡◌ {A = Option Members} (Some d.members) (Some e.members) = sym d.reads ∙ e.reads in cc in
    e.value ∙ ap table (sym same) ∙ sym d.value

-- a document that breaks a rule does not keep them all
breaks_none : (octets : List ℕ) (number : ℕ) (file other : Data) → IsDocument octets file → first_broken file ≡ None → IsDocument octets other → first_broken other ≡ Some number → ⊥
breaks_none octets number file other d kept e broken =
    let none : ◌≡◌ {A = Option ℕ} None (Some number) = sym kept ∙ ap first_broken (sym (one_value octets file other d e)) ∙ broken in
    cc

pub taken_if_valid : (octets : List ℕ) (result : Result ServePlan ConfigFault) → Answers octets result → IsTakenIfValid octets result
taken_if_valid octets (Ok plan) a file d kept = tt
taken_if_valid octets (Err fault.NoMemory) a file d kept = refl
taken_if_valid octets (Err fault.Document) a file d kept = absurd (a file d)
taken_if_valid octets (Err fault.Key) (other, e, broken) file d kept = absurd (breaks_none octets 2 file other d kept e broken)
taken_if_valid octets (Err fault.Nodes) (other, e, broken) file d kept = absurd (breaks_none octets 3 file other d kept e broken)
taken_if_valid octets (Err fault.Copies) (other, e, broken) file d kept = absurd (breaks_none octets 4 file other d kept e broken)
taken_if_valid octets (Err fault.Buckets) (other, e, broken) file d kept = absurd (breaks_none octets 5 file other d kept e broken)
taken_if_valid octets (Err fault.Shards) (other, e, broken) file d kept = absurd (breaks_none octets 6 file other d kept e broken)
taken_if_valid octets (Err fault.Users) (other, e, broken) file d kept = absurd (breaks_none octets 7 file other d kept e broken)
taken_if_valid octets (Err fault.Postmaster) (other, e, broken) file d kept = absurd (breaks_none octets 8 file other d kept e broken)
taken_if_valid octets (Err fault.Outside) (other, e, broken) file d kept = absurd (breaks_none octets 9 file other d kept e broken)
