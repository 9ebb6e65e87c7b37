-- What a plan file says that keeps its rules.
use Rattle.std.proofs.Common.{◌≡◌, ◌≤◌, ◌+◌, ◌&&◌, ◌||◌, ℕ, suc, Bool, true, false, nat_le, List, [], ◌∷◌, Option, Some, None, inl, inr, refl, sym, ap, ◌∙◌, subst, arith}
use Rattle.std.specs.Prelude.{Result, Ok, Err, IfSome, codes, string_bytes}
use Rattle.std.proofs.lemmas.Bool.Decides.{nat_tests}
use Rattle.toml.specs.Data.{Data}
use Rattle.mail_model.specs.Plan.{Plan}
use Rattle.cluster_config.specs.Values.{number_at}
use Rattle.cluster_config.specs.Keys.{has_known_keys}
use Rattle.cluster_config.specs.Rules.{first_false, first_broken, is_within, go_down, lie_apart, has_nodes, has_copies, has_buckets, has_shards, has_users, has_postmaster, has_folder, have_ports, IsPlanOf}
use Rattle.cluster_config.specs.Faults.{rule_of}
use Rattle.cluster_config.specs.Answers.{BreaksFirst}
use Rattle.cluster_config.specs.declared.config_fault.ConfigFault.{ConfigFault}
use Rattle.cluster_config.specs.declared.config_fault.ConfigFault.TheVariants as config
use Rattle.cluster_config.specs.declared.plan_file.ServePlan.{ServePlan}
use Rattle.cluster_config.proofs.Valid.{one_value}
use Rattle.cluster_world.specs.Opens.{CanBeOpened}
use Rattle.word_works.specs.Checks.{BreaksRule}
use Rattle.serve_word.specs.declared.plan_parts.PlanFault.{PlanFault}
use Rattle.serve_word.specs.declared.plan_parts.PlanFault.TheVariants as unread
use Rattle.serve_word.specs.declared.plan_parts.PlanParts.{PlanParts}
use Rattle.serve_word.specs.Plans.{HasPlan, ReadsOctets, ReadsPlan, ports_of}

some_same : {X : Type 0} (x y : X) → Some x ≡ Some y → x ≡ y
some_same x y is = cc

no_some : {X : Type 0} (x : X) → ◌≡◌ {A = Option X} None (Some x) → ⊥
no_some x is = cc

-- the rule of a fault is the one that is broken
pub broken : (octets : List ℕ) (fault : ConfigFault) (rule : ℕ) → rule_of fault ≡ Some rule → BreaksFirst octets fault → BreaksRule octets rule
broken octets config.NoMemory rule is breaks = absurd (no_some rule is)
broken octets config.Document rule is breaks = inl (sym (some_same 1 rule is), breaks)
broken octets config.Key rule is (file, document, breaks) = inr (file, document, breaks ∙ is)
broken octets config.Nodes rule is (file, document, breaks) = inr (file, document, breaks ∙ is)
broken octets config.Copies rule is (file, document, breaks) = inr (file, document, breaks ∙ is)
broken octets config.Buckets rule is (file, document, breaks) = inr (file, document, breaks ∙ is)
broken octets config.Shards rule is (file, document, breaks) = inr (file, document, breaks ∙ is)
broken octets config.Users rule is (file, document, breaks) = inr (file, document, breaks ∙ is)
broken octets config.Postmaster rule is (file, document, breaks) = inr (file, document, breaks ∙ is)
broken octets config.Outside rule is (file, document, breaks) = inr (file, document, breaks ∙ is)

-- where no test is false, the first is true, and none of the others is false
kept : (number : ℕ) (test : Bool) (more : List Bool) → first_false number (test ∷ more) ≡ None → (test ≡ true) × (first_false (suc number) more ≡ None)
kept number true more none = (refl, none)
kept number false more none = absurd (no_some number (sym none))

-- What each rule says that serving needs.
record AreKept (file : Data) : Type 0 where
  nodes : has_nodes file ≡ true
  copies : has_copies file ≡ true
  buckets : has_buckets file ≡ true
  ports : have_ports file ≡ true

both : (a b : Bool) → (a && b) ≡ true → (a ≡ true) × (b ≡ true)
both true true is = (refl, refl)
both true false is = absurd cc
both false b is = absurd cc

are_kept : (file : Data) → first_broken file ≡ None → AreKept file
are_kept file none =
    let keys = kept 2 (has_known_keys file) (has_nodes file ∷ has_copies file ∷ has_buckets file ∷ has_shards file ∷ has_users file ∷ has_postmaster file ∷ (has_folder file && have_ports file) ∷ []) none in
    let nodes = kept 3 (has_nodes file) (has_copies file ∷ has_buckets file ∷ has_shards file ∷ has_users file ∷ has_postmaster file ∷ (has_folder file && have_ports file) ∷ []) keys.1 in
    let copies = kept 4 (has_copies file) (has_buckets file ∷ has_shards file ∷ has_users file ∷ has_postmaster file ∷ (has_folder file && have_ports file) ∷ []) nodes.1 in
    let buckets = kept 5 (has_buckets file) (has_shards file ∷ has_users file ∷ has_postmaster file ∷ (has_folder file && have_ports file) ∷ []) copies.1 in
    let shards = kept 6 (has_shards file) (has_users file ∷ has_postmaster file ∷ (has_folder file && have_ports file) ∷ []) buckets.1 in
    let users = kept 7 (has_users file) (has_postmaster file ∷ (has_folder file && have_ports file) ∷ []) shards.1 in
    let postmaster = kept 8 (has_postmaster file) ((has_folder file && have_ports file) ∷ []) users.1 in
    let outside = kept 9 (has_folder file && have_ports file) [] postmaster.1 in
    record { nodes = nodes.0; copies = copies.0; buckets = buckets.0; ports = (both (has_folder file) (have_ports file) outside.0).1 }

within : (low high n : ℕ) → is_within low high (Some n) ≡ true → (low ≤ n) × (n ≤ high)
within low high n is = let two = both (nat_le low n) (nat_le n high) is in (grind (arith, nat_tests, two.0), grind (arith, nat_tests, two.1))

falling : (nodes copies confirm : ℕ) → go_down (Some nodes) (Some copies) (Some confirm) ≡ true → (copies ≤ nodes) × (confirm ≤ copies) × (1 ≤ confirm)
falling nodes copies confirm is =
    let last = both (nat_le copies nodes && nat_le confirm copies) (nat_le 1 confirm) is in
    let first = both (nat_le copies nodes) (nat_le confirm copies) last.0 in
    (grind (arith, nat_tests, first.0), grind (arith, nat_tests, first.1), grind (arith, nat_tests, last.1))

-- a plan of such a file is one that a cluster can be opened for
pub can_be_opened : (file : Data) (plan : ServePlan) → first_broken file ≡ None → IsPlanOf file plan → CanBeOpened plan.plan
can_be_opened file plan none is =
    let keeps = are_kept file none in
    let nodes = within 1 16 plan.plan.nodes (subst (λ (n : Option ℕ). is_within 1 16 n ≡ true) is.nodes keeps.nodes) in
    let buckets = within 1 1024 plan.plan.buckets (subst (λ (n : Option ℕ). is_within 1 1024 n ≡ true) is.buckets keeps.buckets) in
    let copies = falling plan.plan.nodes plan.plan.copies plan.plan.confirm
    (ap (λ (n : Option ℕ). go_down n (Some plan.plan.copies) (Some plan.plan.confirm)) (sym is.nodes)
    ∙ ap (λ (n : Option ℕ). go_down (number_at (codes "nodes") file) n (Some plan.plan.confirm)) (sym is.copies)
    ∙ ap (λ (n : Option ℕ). go_down (number_at (codes "nodes") file) (number_at (codes "copies") file) n) (sym is.confirm) ∙ keeps.copies) in
    record { some = nodes.0; few = nodes.1; confirmed = copies.2; copied = copies.1; spread = copies.0; bucketed = buckets.0 }

-- its ports are ports
pub fit_ports : (file : Data) (plan : ServePlan) → first_broken file ≡ None → IsPlanOf file plan → (plan.smtp_port + plan.plan.nodes ≤ 65536) × (plan.pop_port + plan.plan.nodes ≤ 65536)
fit_ports file plan none is =
    let keeps = are_kept file none in
    let apart = (both (is_within 1 65535 (number_at (codes "smtp_port") file) && is_within 1 65535 (number_at (codes "pop_port") file))
    (lie_apart (number_at (codes "nodes") file) (number_at (codes "smtp_port") file) (number_at (codes "pop_port") file)) keeps.ports).1 in
    let seen : lie_apart (Some plan.plan.nodes) (Some plan.smtp_port) (Some plan.pop_port) ≡ true =
    ap (λ (n : Option ℕ). lie_apart n (Some plan.smtp_port) (Some plan.pop_port)) (sym is.nodes)
    ∙ ap (λ (n : Option ℕ). lie_apart (number_at (codes "nodes") file) n (Some plan.pop_port)) (sym is.smtp_port)
    ∙ ap (λ (n : Option ℕ). lie_apart (number_at (codes "nodes") file) (number_at (codes "smtp_port") file) n) (sym is.pop_port) ∙ apart in
    let smtp = nat_le (plan.smtp_port + plan.plan.nodes) 65536 in
    let pop = nat_le (plan.pop_port + plan.plan.nodes) 65536 in
    let meet = nat_le (plan.smtp_port + plan.plan.nodes) plan.pop_port || nat_le (plan.pop_port + plan.plan.nodes) plan.smtp_port in
    let two = both (smtp && pop) meet seen in
    let one = both smtp pop two.0 in
    (grind (arith, nat_tests, one.0), grind (arith, nat_tests, one.1))

-- Octets that are read twice say the same plan.
same_plan : (a b : Plan) → b.nodes ≡ a.nodes → b.copies ≡ a.copies → b.confirm ≡ a.confirm → b.buckets ≡ a.buckets → b.users ≡ a.users → b.postmaster ≡ a.postmaster → b ≡ a
same_plan a b nodes copies confirm buckets users postmaster =
    λ i. record { nodes = nodes i; copies = copies i; confirm = confirm i; buckets = buckets i; users = users i; postmaster = postmaster i }

one_plan : (file : Data) (a b : ServePlan) → IsPlanOf file a → IsPlanOf file b → b.plan ≡ a.plan
one_plan file a b first second = same_plan a.plan b.plan
    (some_same b.plan.nodes a.plan.nodes (sym second.nodes ∙ first.nodes))
    (some_same b.plan.copies a.plan.copies (sym second.copies ∙ first.copies))
    (some_same b.plan.confirm a.plan.confirm (sym second.confirm ∙ first.confirm))
    (some_same b.plan.buckets a.plan.buckets (sym second.buckets ∙ first.buckets))
    (some_same b.plan.users a.plan.users (sym second.users ∙ first.users))
    (some_same b.plan.postmaster a.plan.postmaster (sym second.postmaster ∙ first.postmaster))

pub read_twice : (octets : List ℕ) (a b : ServePlan) → HasPlan octets a → HasPlan octets b → b.plan ≡ a.plan
read_twice octets a b (file, document, none, is) (other, document', none', is') =
    one_plan file a b is (subst (λ (f : Data). IsPlanOf f b) (one_value octets file other document document') is')

pub opens : (octets : List ℕ) (plan : ServePlan) → HasPlan octets plan → CanBeOpened plan.plan
opens octets plan (file, document, none, is) = can_be_opened file plan none is

pub fits : (octets : List ℕ) (plan : ServePlan) → HasPlan octets plan → (plan.smtp_port + plan.plan.nodes ≤ 65536) × (plan.pop_port + plan.plan.nodes ≤ 65536)
fits octets plan (file, document, none, is) = fit_ports file plan none is

-- what octets say, and what a file of these octets says
pub octets_read : (octets : List ℕ) (read again : ServePlan) (parts : PlanParts) → HasPlan octets read → HasPlan octets again → parts.plan ≡ read.plan → parts.names ≡ again.plan
    → string_bytes parts.folder ≡ string_bytes read.folder → parts.ports.items ≡ ports_of read → ReadsOctets octets (Ok parts)
octets_read octets read again parts first second plan names folder ports =
    (read, first, record { plan_is = plan; names_are = names ∙ read_twice octets read again first second; folder_is = folder; ports_are = ports })

pub file_read : (told : Option (List ℕ)) (octets : List ℕ) (result : Result PlanParts PlanFault) → IfSome told (λ held. octets ≡ held) → ReadsOctets octets result → ReadsPlan told result
file_read told octets (Ok parts) same (plan, says, are) = (plan, (octets, same, says), are)
file_read told octets (Err (unread.Broken rule)) same breaks = (octets, same, breaks)
file_read told octets (Err unread.Unread) same breaks = tt
file_read told octets (Err unread.NoMemory) same breaks = tt
