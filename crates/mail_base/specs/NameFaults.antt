-- Why octets are no name.
use Rattle.std.specs.Prelude.{ℕ, List, length, nat_eq, nat_lt, Option, Some, None, if◌then◌else◌}
use Rattle.mail_model.specs.Names.{is_name}
use Rattle.mail_base.specs.declared.name.NameFault.{NameFault}
use Rattle.mail_base.specs.declared.name.NameFault.TheVariants.{Empty, TooLong, BadOctet}

-- the first rule that the octets of a name break
abbrev pub name_fault : List ℕ → Option NameFault
name_fault octets = if nat_eq (length octets) 0 then Some Empty
    else (if nat_lt 64 (length octets) then Some TooLong
    else (if is_name octets then None else Some BadOctet))
