-- A whole node that heard a letter, as messages see it.
use Rattle.std.proofs.Common.{◌⊎◌, inl, inr, ⊎_elim, ℕ, List, Option, Some, None, Result, Ok, Err, ap, if◌then◌else◌}
use Rattle.object_model.specs.Letters.{Body, Letter}
use Rattle.object_model.specs.Letters.Body.{Group, Join, Install, Report, ReportAck}
use Rattle.cluster_model.specs.Forms.{IsMapsBody}
use Rattle.cluster_model.specs.Thrown as plain
use Rattle.cluster_model.specs.Thrown.{is_late}
use Rattle.whole_model.specs.Rules.{IsMailBody}
use Rattle.whole_world.specs.Makes.{promise_by}
use Rattle.node_store.specs.Disks.{View}
use Rattle.node_maps.specs.Nodes.{node_of}
use Rattle.node_core.specs.Hearing.{HearsLetter, LetterThrown}
use Rattle.node_core.specs.Nodes.{node_seen}
use Rattle.node_core.specs.declared.fault.NodeFault.{NodeFault}
use Rattle.node_core.specs.declared.outbox.Outbox.{Outbox}
use Rattle.node_core.specs.declared.outbox.Why.{Why}
use Rattle.node_core.specs.declared.outbox.Why.TheVariants as why
use Rattle.whole_node.specs.Hearing as whole
use Rattle.whole_node.specs.Hearing.{HearsOfMaps}
use Rattle.whole_node.specs.declared.node.WholeNode.{WholeNode}
use Rattle.cluster_world.specs.Hears.{IsLookedAt, LookedAtOrStale, HearsForMaps, HearsAny}

-- a letter is of messages, or of membership and maps
kind_of : (body : Body) → IsMailBody body ⊎ IsMapsBody body
kind_of (Group epoch) = inr tt
kind_of (Join epoch promise boot was claims) = inr tt
kind_of (Install membership) = inr tt
kind_of (Report row) = inr tt
kind_of (ReportAck user version) = inr tt
kind_of body = inl tt

module _ {D : Type 0} (on : View D) (own nodes : ℕ) (letter : Letter) (old : WholeNode) (before : D) (new : WholeNode) (after : D) where
  looked_so : (thrown : Option Why) (sent : List Letter) → whole.LookedAt on letter old before new after thrown sent → IsLookedAt on own nodes letter old.mail before new.mail after sent
  looked_so thrown sent h = record {
    within = h.within;
    formed = record { installed = (node_of new.maps).installed; promise = promise_by (node_of old.maps) letter.body; did = h.mail.did; plain = h.mail.sends };
  }

  pub stale_so : (sent : List Letter) → whole.ThrownStale on letter old before new after sent → LetterThrown on own nodes letter old.mail before new.mail after plain.Why.Stale sent
  stale_so sent h = record {
    thrown = ap (λ b. if b then Some plain.Why.Stale else (if is_late own (node_seen old.mail) letter then Some plain.Why.Late else None)) h.stale;
    none = h.none;
    as_before = h.as_before;
    untouched = h.untouched;
  }

  either_so : (thrown : Option Why) (sent : List Letter) → whole.LookedAtOrStale on letter old before new after thrown sent → LookedAtOrStale on own nodes letter old.mail before new.mail after thrown sent
  either_so None sent h = looked_so None sent h
  either_so (Some why.Stale) sent h = stale_so sent h
  either_so (Some why.Down) sent h = looked_so (Some why.Down) sent h
  either_so (Some why.Old) sent h = looked_so (Some why.Old) sent h
  either_so (Some why.NotPromised) sent h = looked_so (Some why.NotPromised) sent h
  either_so (Some why.NotMember) sent h = looked_so (Some why.NotMember) sent h
  either_so (Some why.Late) sent h = looked_so (Some why.Late) sent h

  maps_so : (result : Result Outbox NodeFault) → HearsOfMaps on letter old before new after result → HearsForMaps on own nodes letter old.mail before new.mail after result
  maps_so (Ok outbox) h = either_so outbox.thrown outbox.letters h
  maps_so (Err fault) h = record { installed = None; promise = promise_by (node_of old.maps) letter.body; failed = h.0 }

  -- whatever kind of letter it is
  pub any_so : (result : Result Outbox NodeFault) → (IsMailBody letter.body → HearsLetter on own nodes letter old.mail before new.mail after result)
      → (IsMapsBody letter.body → HearsOfMaps on letter old before new after result) → HearsAny on own nodes letter old.mail before new.mail after result
  any_so result mail maps = ⊎_elim (λ m. HearsAny.OfMessages m (mail m)) (λ m. HearsAny.OfMaps m (maps_so result (maps m))) (kind_of letter.body)
