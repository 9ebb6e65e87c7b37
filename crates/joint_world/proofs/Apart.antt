-- A step of the whole machine that is none of calls that read is none of theirs as messages see it, either.
use Rattle.std.proofs.Common.{◌≡◌, ℕ, Bool, true, is_some, sym, ap, ◌∙◌, subst, true≢false}
use Rattle.mail_model.specs.Plan.{Plan}
use Rattle.object_model.specs.Letters.{Number, is_read_body}
use Rattle.cluster_model.specs.World.{World, Flies}
use Rattle.cluster_model.specs.Steps.{NodeCall, Said, stands_at}
use Rattle.cluster_model.specs.Steps.NodeCall.{Deliver, Strike}
use Rattle.cluster_model.specs.Makes.{DrawsTicket, BeginsRead, IsForReads, PostsRead}
use Rattle.cluster_model.specs.Makes.BeginsRead.{HasNoManager, Draws, FailsReading, Leaves}
use Rattle.cluster_model.specs.Makes.PostsRead.{NobodyUp, OfOtherEpoch, TooLate, IsHeard, FailsForReads}
use Rattle.joint_world.specs.Staying.{IsMailCall, HasMailTicket}
use Rattle.joint_world.proofs.Bodies.{asks_read}

draws_none : (call : NodeCall) → IsMailCall call → DrawsTicket call → ⊥
draws_none (Deliver mail) of d = d
draws_none (Strike user items) of d = d
draws_none call of d = absurd of

pub begins_none : (plan : Plan) (old : World) (own : ℕ) (call : NodeCall) (said : Said) (new : World) → IsMailCall call → BeginsRead plan old own call said new → ⊥
begins_none plan old own call said new of (HasNoManager node disk user proof up is fits says e) = subst IsMailCall is of
begins_none plan old own call said new of (Draws node disk up draws fits says g) = draws_none call of draws
begins_none plan old own call said new of (FailsReading node disk user id from most holders up is has says e) = subst IsMailCall is of
begins_none plan old own call said new of (Leaves node disk user login manager up is says g) = subst IsMailCall is of

-- a number of which messages have a ticket is none for calls that read
pub reads_none : (w : World) (number : Number) → HasMailTicket w number → IsForReads w number → ⊥
reads_none w number of r = true≢false (sym of ∙ ap (stands_at number) r.up ∙ ap is_some r.none)

-- a letter that is posted as one of a call that reads is one
pub posts_read : (old : World) (number : ℕ) (keep : Bool) (said : Said) (new : World) → PostsRead old number keep said new → (flies : Flies old number) × (is_read_body flies.letter.body ≡ true)
posts_read old number keep said new (NobodyUp flies of nobody says g) = (flies, of)
posts_read old number keep said new (OfOtherEpoch flies node disk of up stale says g) = (flies, of)
posts_read old number keep said new (TooLate flies node disk of up fresh late says e) = (flies, of)
posts_read old number keep said new (IsHeard flies node disk of up fresh says g) = (flies, of)
posts_read old number keep said new (FailsForReads flies node disk of up fresh says g) = (flies, asks_read flies.letter.body of)
