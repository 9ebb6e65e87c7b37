-- The kinds of calls.
use Rattle.std.specs.Prelude.{◌≡◌, Option, Some, None}
use Rattle.mail_base.specs.declared.filing.CallKind.{CallKind}
use Rattle.mail_base.specs.declared.filing.CallKind.TheVariants as kind
use Rattle.call_tickets.specs.declared.call.Call.{Call}
use Rattle.call_tickets.specs.declared.call.Call.TheVariants as call

-- of each call that has an answer
abbrev pub IsOfKind : Call → Option CallKind → Type 0
IsOfKind (call.Deliver deliver) found = found ≡ Some kind.Deliver
IsOfKind (call.Login user proof) found = found ≡ Some kind.Login
IsOfKind (call.Fetch user id holders from most) found = found ≡ Some kind.Fetch
IsOfKind (call.Strike user items) found = found ≡ Some kind.Strike
IsOfKind (call.Leave user login manager) found = found ≡ None
