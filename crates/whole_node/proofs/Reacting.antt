-- What rules of calls that read leave of the node with three fields, where the code changed its tickets and its locks alone.
use Rattle.std.proofs.Common.{◌≡◌, ℕ, ◌+◌, Bool, List, [], Option, Some, None, refl, sym, ap, ◌∙◌, subst}
use Rattle.object_model.specs.Letters.{Number, Membership, ToldItem, Body, Letter}
use Rattle.object_model.specs.Locks.{Held}
use Rattle.cluster_model.specs.Cluster as mail
use Rattle.maps_model.specs.Cluster as maps
use Rattle.login_model.specs.Cluster as login
use Rattle.login_model.specs.Rules as rules
use Rattle.login_model.specs.Rules.{ReadDid, Under, under, next_number, begin_read, hear_told}
use Rattle.joint_model.specs.Joint.{Node, read_node}
use Rattle.joint_world.specs.Rules.{Reaction, reacted}
use Rattle.node_maps.specs.Nodes.{node_of}
use Rattle.node_core.specs.Nodes.{node_seen}
use Rattle.node_reads.specs.Tables.{reads_in, node_with, left_by, Begins, Hears}
use Rattle.node_reads.specs.declared.reads.NodeReads.{NodeReads}
use Rattle.whole_node.specs.Nodes.{joint_seen, HasMaps, AreReadsOf}
use Rattle.whole_node.specs.Reading.{KeepsHalves}
use Rattle.whole_node.specs.Beginning.{with_number}
use Rattle.whole_node.specs.declared.node.WholeNode.{WholeNode}

same_epoch : (installed : Option Membership) → mail.epoch_in installed ≡ maps.epoch_in installed
same_epoch None = refl
same_epoch (Some membership) = refl

module _ (tells : Bool) (old : WholeNode) where
  abbrev pub seen_by : login.Node
  seen_by = read_node tells (joint_seen old)

  -- letters of calls that read carry the epoch by which messages go
  pub epoch_is : HasMaps old → seen_by.epoch ≡ mail.epoch_of (node_seen old.mail)
  epoch_is has = sym (same_epoch old.maps.group.installed) ∙ ap mail.epoch_in (sym has.epoch)

  -- the tickets are the machine's own
  pub with_own : AreReadsOf old.mail old.reads → node_with old.reads seen_by ≡ seen_by
  with_own of = ap (λ (b : ℕ). record seen_by { boot = b }) of.boot_is

  module _ (new : WholeNode) (halves : KeepsHalves old new) where
    -- a rule was done that drew no number
    pub left_so : (did : rules.Reaction) (letters : List Letter) (locks : Held) → did ≡ left_by new.reads seen_by letters → locks ≡ new.locks
        → reacted (joint_seen old) did locks ≡ record { node = joint_seen new; out = letters }
    left_so did letters locks is held = ap (λ (d : rules.Reaction). reacted (joint_seen old) d locks) is
        ∙ (λ i. record { node = record { whole = record { mail = node_seen (sym halves.mail i); maps = node_of (sym halves.maps i) }; reads = reads_in new.reads; locks = held i }; out = letters })

    -- and one that drew one
    pub left_numbered : (did : rules.Reaction) (letters : List Letter) (seq : ℕ) (locks : Held) → seq ≡ (node_seen old.mail).calls + 1 → did ≡ left_by new.reads (record seen_by { calls = seq }) letters
        → locks ≡ new.locks → reacted (joint_seen old) did locks ≡ record { node = with_number (joint_seen new); out = letters }
    left_numbered did letters seq locks number is held = ap (λ (d : rules.Reaction). reacted (joint_seen old) d locks) is
        ∙ (λ i. record {
          node = record { whole = record { mail = record (node_seen old.mail) { calls = number i }; maps = node_of old.maps }; reads = reads_in new.reads; locks = locks };
          out = letters;
        })
        ∙ (λ i. record {
          node = record {
            whole = record { mail = record (node_seen (sym halves.mail i)) { calls = (node_seen (sym halves.mail i)).calls + 1 }; maps = node_of (sym halves.maps i) };
            reads = reads_in new.reads;
            locks = held i;
          };
          out = letters;
        })

    -- a ticket began
    pub begins_so : (seq : ℕ) (rule : Under → ReadDid) (letters : List Letter) (locks : Held) → HasMaps old → AreReadsOf old.mail old.reads → seq ≡ (node_seen old.mail).calls + 1 → locks ≡ new.locks
        → Begins (mail.epoch_of (node_seen old.mail)) seq rule letters old.reads new.reads
        → reacted (joint_seen old) (begin_read old.mail.store.own seen_by (rule (under old.mail.store.own seen_by (next_number old.mail.store.own seen_by)))) locks
        ≡ record { node = with_number (joint_seen new); out = letters }
    begins_so seq rule letters locks has of number held began = left_numbered _ letters seq locks number
        (subst (λ (o : ℕ). begin_read o seen_by (rule (under o seen_by (next_number o seen_by))) ≡ left_by new.reads (record seen_by { calls = seq }) letters) of.own_is
        (subst (λ (n : login.Node). begin_read old.reads.own n (rule (under old.reads.own n (next_number old.reads.own n))) ≡ left_by new.reads (record seen_by { calls = seq }) letters) (with_own of)
        (began.did seen_by (epoch_is has) (sym number)))) held

    -- a letter was heard for one
    pub hears_so : (ticket : Number) (from : ℕ) (body : Body) (mine : List ToldItem) (letters : List Letter) (letter : Letter) (locks : Held) → HasMaps old → AreReadsOf old.mail old.reads
        → letter.ticket ≡ Some ticket → letter.from ≡ from → letter.body ≡ body → locks ≡ new.locks
        → Hears (mail.epoch_of (node_seen old.mail)) ticket from body mine letters old.reads new.reads
        → reacted (joint_seen old) (hear_told old.mail.store.own seen_by letter mine) locks ≡ record { node = joint_seen new; out = letters }
    hears_so ticket from body mine letters letter locks has of t f b held heard = left_so _ letters locks
        (subst (λ (o : ℕ). hear_told o seen_by letter mine ≡ left_by new.reads seen_by letters) of.own_is
        (subst (λ (n : login.Node). hear_told old.reads.own n letter mine ≡ left_by new.reads seen_by letters) (with_own of)
        (heard.did seen_by letter (epoch_is has) t f b))) held
