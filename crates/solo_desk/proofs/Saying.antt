-- What a step may say, for each call of a desk.
use Rattle.std.specs.Prelude.{Result, Ok, Err}
use Rattle.object_model.specs.Letters.{Number}
use Rattle.node_store.specs.Disks.{View}
use Rattle.cluster_world.specs.Steps.{IsStep}
use Rattle.cluster_world.specs.declared.world.World.{World}
use Rattle.cluster_world.specs.declared.step.Step.TheVariants as step
use Rattle.cluster_world.specs.declared.step.Said.{Said}
use Rattle.cluster_world.specs.declared.step.Said.TheVariants as said
use Rattle.cluster_world.specs.declared.fault.StepFault.{StepFault}
use Rattle.solo_desk.specs.Asking.{IsSaidOfAsk}

module _ {D : Type 0} (on : View D) (old new : World D) where
  pub said_of_ask : (came : Result Said StepFault) (number : Number) → IsStep on came (step.Ask number) old new → IsSaidOfAsk came
  said_of_ask (Err why) number is = tt
  said_of_ask (Ok (said.Begun other stirs)) number is = absurd is.did.kind
  said_of_ask (Ok said.Noted) number is = absurd is.did.kind
  said_of_ask (Ok (said.Asked ask)) number is = tt
  said_of_ask (Ok said.Heard) number is = absurd is.did.kind
  said_of_ask (Ok (said.Thrown why)) number is = absurd is.did.kind
  said_of_ask (Ok (said.Sent letters)) number is = absurd is.did.kind
  said_of_ask (Ok (said.Widened did)) number is = absurd is.did.kind
  said_of_ask (Ok (said.Grouped epoch)) number is = absurd is.did.kind
  said_of_ask (Ok (said.Concluded epoch members)) number is = absurd is.did.kind
  said_of_ask (Ok (said.NodeUp boot)) number is = absurd is.did.kind
  said_of_ask (Ok said.Done) number is = absurd is.did.kind
  said_of_ask (Ok (said.Faulted failed)) number is = absurd is.did.kind
